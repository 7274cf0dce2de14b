-- The loop over marked edges: the marks where none is decided, the turn to the next sweep, and the two ways to start.
use mathlib.Core.Bool.{Bool, true, false, ◌&&◌, ◌||◌, not, cond}
use mathlib.Core.List.{List, []}
use mathlib.Core.Path.{◌≡◌, refl, ap, ◌∙◌}
use Prim.Native.Nat.{ℕ, zero, suc, ◌≤◌}
use native.Mathlib.Omega.{arith}
use lib.Dec.{eqb}
use lib.ListN.{length, set, replicate, length-replicate}
use borrow.Author.Tests.{eqb-true, eqb-false}
use Rattle.sets.specs.Word.{dig, count, both, less, only, first}
use Rattle.sets.proofs.Digits.{never, dig-both, dig-either, dig-less}
use Rattle.paper.specs.Walk.{Status, open_count, Outcome, Stands, stable}
use Rattle.fast_sweeps.specs.Worklist.{without_lowest, passed, edges_with, touched, next_ahead, next_later, turn_ahead, turn_later}
use Rattle.fast_sweeps.specs.Worklist.{Remains, SweepKept}
use Rattle.fast_sweeps.proofs.Marks.{length_sides, touched_none}
use Rattle.fast_sweeps.proofs.Remain.{start-all, start_chosen, turn}

-- ---- none decided: nothing is marked
none-dig : (n j : ℕ) → dig (replicate n false) j ≡ false
none-dig zero j = refl
none-dig (suc n) zero = refl
none-dig (suc n) (suc j) = none-dig n j

touched_off : (masks : List (List Bool)) (d : List Bool) → count d ≡ 0 → (j : ℕ) → dig (touched masks d) j ≡ false
touched_off masks d z j = ap (λ (a : List Bool). dig a j) (touched_none masks d z) ∙ none-dig (length masks) j

or_first : (a b : Bool) → b ≡ false → a || b ≡ a
or_first true b e = refl
or_first false b e = e

and_off : (a b : Bool) → a ≡ false → (a && b) ≡ false
and_off true b e = never e
and_off false b e = refl

-- only the lowest goes, digit by digit
pub ahead_none : (masks : List (List Bool)) (d ahead : List Bool) → count d ≡ 0 → (j : ℕ)
    → dig (next_ahead masks d ahead) j ≡ dig (without_lowest ahead) j
unfolding next_ahead
ahead_none masks d ahead z j =
    dig-either (without_lowest ahead) (less (touched masks d) (passed ahead)) j
    ∙ or_first (dig (without_lowest ahead) j) (dig (less (touched masks d) (passed ahead)) j) (dig-less (touched masks d) (passed ahead) j
    ∙ and_off (dig (touched masks d) j) (not (dig (passed ahead) j)) (touched_off masks d z j))

pub later_none : (masks : List (List Bool)) (d ahead later : List Bool) → count d ≡ 0 → (j : ℕ)
    → dig (next_later masks d ahead later) j ≡ dig later j
unfolding next_later
later_none masks d ahead later z j =
    let t = both (touched masks d) (passed ahead) in
    let off : dig t j ≡ false
    = dig-both (touched masks d) (passed ahead) j ∙ and_off (dig (touched masks d) j) (dig (passed ahead) j) (touched_off masks d z j) in
    dig-either later (less t (only (first ahead))) j
    ∙ or_first (dig later j) (dig (less t (only (first ahead))) j)
    (dig-less t (only (first ahead)) j ∙ and_off (dig t j) (not (dig (only (first ahead)) j)) off)

module _ (masks : List (List Bool)) where
  -- "if ahead == 0 { ahead = later; later = 0; }"
  pub turn_loop : {o : Outcome} {st : List Status} (a l : List Bool) → Remains masks o st a l → length a ≤ length masks
      → length l ≤ length masks → SweepKept masks o st (turn_ahead a l) (turn_later a l)
  unfolding turn_ahead turn_later count
  turn_loop {o} {st} a l i p q = go (eqb (count a) 0) refl
    where
      go : (b : Bool) → eqb (count a) 0 ≡ b → SweepKept masks o st (cond b l a) (cond b [] l)
      go true e =
          record {
            remains = turn masks i [] (eqb-true (count a) 0 e) refl;
            turned = λ z. refl;
            short_ahead = q;
            short_later = omega arith;
          }
      go false e = record { remains = i; turned = λ z. absurd (eqb-false (count a) 0 e z); short_ahead = p; short_later = q }

  -- ---- the two ways to start

  start_loop : {o : Outcome} {st : List Status} {marked : List Bool} → Remains masks o st marked [] → length marked ≤ length masks
      → SweepKept masks o st marked []
  unfolding count
  start_loop i h = record { remains = i; turned = λ z. refl; short_ahead = h; short_later = omega arith }

  -- with all edges marked
  pub loop_all : (st : List Status) → SweepKept masks (stable (suc (open_count st)) masks st) st (replicate (length masks) true) []
  unfolding count
  loop_all st = start_loop (start-all masks st [] refl) (omega (arith, length-replicate (length masks) true))

  -- after candidate k got a status in a state that the sweeps left, with its edges marked
  pub loop_chosen : (st s : List Status) → stable (suc (open_count st)) masks st ≡ Stands s → (k : ℕ) (v : Status)
      → SweepKept masks (stable (suc (open_count (set s k v))) masks (set s k v)) (set s k v) (edges_with masks k) []
  unfolding count
  loop_chosen st s w k v = start_loop (start_chosen masks st s w k v [] refl) (omega (arith, length_sides masks k))
