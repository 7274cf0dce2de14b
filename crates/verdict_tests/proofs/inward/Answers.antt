-- `verdict_tests::inward`: six volumes is above zero, or it is not (`Volumes`).
use mathlib.Core.List.{[], ◌∷◌}
use mathlib.Core.Path.{◌∙◌}
use Prim.Native.Nat.{◌*◌}
use lib.IntN.{ℤ, pos}
use mir.Syntax.{w64}
use mir.Val.{of_z}
use Rattle.exact.proofs.Machine.{Env, ◌▸◌, done, lit, lt_left, lt_taken, value}
use Rattle.exact.proofs.Ring.{var}
use Rattle.exact.specs.Size.{Within}
use Rattle.paper.specs.Numbers.{most_candidates}
use Rattle.walk_tables.specs.Words.{most_part}
use Rattle.verdict_tests.proofs.Volumes.{six_above, six_not}
use Rattle.verdict_tests.proofs.inward.Goals as goal

-- six volumes, as the machine has it
env : {v : ℤ} → Within (most_candidates * most_part) v → Env (most_candidates * most_part ∷ []) (of_z w64 v ∷ []) (v ∷ [])
env w = w ▸ done

pub returns-then-weight-gt0 : goal.returns-then-weight-gt0
returns-then-weight-gt0 c =
    let w = c.weight.ensures in
    six_above w (lt_taken (lit (pos 0) tt) (value (env w.small) (var 0) tt) c.if-weight-gt0.true)

pub returns : goal.returns
returns c =
    let w = c.weight.ensures in
    λ t l s. c.refused.ensures ∙ six_not w (lt_left (lit (pos 0) tt) (value (env w.small) (var 0) tt) c.if-weight-gt0.false) t l s
