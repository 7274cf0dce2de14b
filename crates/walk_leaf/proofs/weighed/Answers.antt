-- `walk_leaf::weighed`: six volumes is above zero, below it, or zero; its size fits.
use mathlib.Core.List.{[], ◌∷◌}
use mathlib.Core.Path.{ap}
use Prim.Native.Nat.{◌*◌}
use lib.IntN.{ℤ, pos, nat_abs}
use lib.Signed.{◌<ℤ◌}
use mir.Syntax.{w64}
use mir.Val.{of_z}
use Rattle.exact.proofs.Machine.{Env, ◌▸◌, asked, done, lit, lt_left, lt_taken, reads, to_u64, value}
use Rattle.exact.proofs.Ring.{neg, var}
use Rattle.exact.proofs.Signs.{<ℤ-≤ℤ, ≤ℤ-antisym}
use Rattle.exact.specs.Size.{Within}
use Rattle.exact.proofs.Size.{within_neg}
use Rattle.paper.specs.Numbers.{most_candidates}
use Rattle.walk_tables.specs.Words.{most_part}
use Rattle.walk_leaf.proofs.Volumes.{turned_above, volume-above, volume-below, volume-none}
use Rattle.walk_leaf.proofs.weighed.Goals as goal
use Rattle.walk_leaf.proofs.weighed.Goals.{Then-v-gt0, Then-v-lt0}

-- six volumes, as the machine has it
env : {v : ℤ} → Within (most_candidates * most_part) v → Env (most_candidates * most_part ∷ []) (of_z w64 v ∷ []) (v ∷ [])
env w = w ▸ done

-- ---- what the tests say

above : (c : Then-v-gt0) → pos 0 <ℤ c.weight-v.result
above c = lt_taken (lit (pos 0) tt) (value (env c.weight-v.ensures.small) (var 0) tt) c.if-v-gt0.true

below : (c : Then-v-lt0) → c.weight-v.result <ℤ pos 0
below c = lt_taken (value (env c.weight-v.ensures.small) (var 0) tt) (lit (pos 0) tt) c.if-v-lt0.true

-- ---- the needs

pub weight-v-requires : goal.weight-v-requires
weight-v-requires c = c.requires

pub overflow_cast-result : goal.overflow_cast-result
overflow_cast-result c = let w = c.weight-v.ensures.small in to_u64 (value (env w) (var 0) tt) tt w (<ℤ-≤ℤ (above c))

pub returns-then-v-gt0 : goal.returns-then-v-gt0
returns-then-v-gt0 c = volume-above c.weight-v.ensures (above c) (ap nat_abs (reads (env c.weight-v.ensures.small) (var 0) tt))

pub overflow_sub-result : goal.overflow_sub-result
overflow_sub-result c = asked (env c.weight-v.ensures.small) (neg (var 0)) tt

pub overflow_cast-result-then-v-lt0 : goal.overflow_cast-result-then-v-lt0
overflow_cast-result-then-v-lt0 c =
    let w = c.weight-v.ensures.small in
    to_u64 (value (env w) (neg (var 0)) tt) tt (within_neg w) (turned_above (below (goal.at.overflow_cast-result-then-v-lt0 c).Then-v-lt0))

pub returns-then-v-lt0 : goal.returns-then-v-lt0
returns-then-v-lt0 c =
    volume-below c.weight-v.ensures c.minus.ensures (below (goal.at.returns-then-v-lt0 c).Then-v-lt0)
    (ap nat_abs (reads (env c.weight-v.ensures.small) (neg (var 0)) tt))

pub returns : goal.returns
returns c =
    let m = value (env c.weight-v.ensures.small) (var 0) tt in
    let zero = lit (pos 0) tt in
    volume-none c.weight-v.ensures (≤ℤ-antisym (lt_left zero m c.if-v-gt0.false) (lt_left m zero c.if-v-lt0.false))
