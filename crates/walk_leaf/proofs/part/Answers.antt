-- `walk_leaf::part`: the number, or its negative; both are small.
use mathlib.Core.List.{[], ◌∷◌}
use lib.IntN.{pos, ℤ}
use lib.ListN.{get_or}
use mir.Syntax.{w64}
use mir.Val.{of_z}
use Rattle.exact.proofs.Machine.{Env, ◌▸◌, asked, done, reads}
use Rattle.exact.proofs.Ring.{neg, var}
use Rattle.walk_tables.specs.Words.{most_part}
use Rattle.walk_leaf.proofs.Sums.{part_turned, part_plain}
use Rattle.walk_leaf.proofs.part.Goals as goal

abbrev number : goal.Then-turned → ℤ
number c = get_or c.args.sixes.now c.args.k (pos 0)

env : (c : goal.Then-turned) → Env (most_part ∷ []) (of_z w64 (number c) ∷ []) (number c ∷ [])
env c = c.requires.all.small c.args.k c.requires.narrow ▸ done

abbrev number-2 : goal.Else-turned → ℤ
number-2 c = get_or c.args.sixes.now c.args.k (pos 0)

env-2 : (c : goal.Else-turned) → Env (most_part ∷ []) (of_z w64 (number-2 c) ∷ []) (number-2 c ∷ [])
env-2 c = c.requires.all.small c.args.k c.requires.narrow ▸ done

pub overflow_sub-result : goal.overflow_sub-result
overflow_sub-result c = asked (env c) (neg (var 0)) tt

pub returns-then-turned : goal.returns-then-turned
returns-then-turned c =
    part_turned (c.requires.all.small c.args.k c.requires.narrow) c.if-turned.true (reads (env c) (neg (var 0)) tt)

pub returns : goal.returns
returns c =
    part_plain (c.requires.all.small c.args.k c.requires.narrow) c.if-turned.false (reads (env-2 c) (var 0) tt)
