-- The words of the marks where none was decided, and the sets of those taken and undecided after a candidate is given a status.
use mathlib.Core.Bool.{Bool, true, false, ◌&&◌, ◌||◌, and-true, or-false}
use mathlib.Core.List.{List, [], ◌∷◌}
use mathlib.Core.Path.{◌≡◌, refl, sym, ap, ap₂, ◌∙◌}
use Prim.Native.Nat.{ℕ, zero, suc, ◌<◌}
use native.Mathlib.Omega.{arith}
use lib.ListN.{length, set}
use Rattle.sets.specs.Word.{word, dig, count, either, less, only}
use Rattle.sets.proofs.Digits.{never, less_nil}
use Rattle.sets.proofs.Numbers.{same_word}
use Rattle.sets.proofs.Ones.{nil_either}
use Rattle.paper.specs.Conversion.{takens}
use Rattle.paper.specs.Walk.{Status, Taken, Rejected, Undecided, is_taken, is_open}
use Rattle.means_walk.specs.Lowest.{opens}
use Rattle.fast_sweeps.specs.Worklist.{without_lowest, next_ahead, next_later}
use Rattle.fast_sweeps.proofs.Work.{ahead_none, later_none}

-- none was decided: the next marks are the same words as those without the lowest
pub ahead_word : (masks : List (List Bool)) (d ahead : List Bool) → count d ≡ 0 → word (without_lowest ahead) ≡ word (next_ahead masks d ahead)
ahead_word masks d ahead z = same_word (without_lowest ahead) (next_ahead masks d ahead) (λ k. sym (ahead_none masks d ahead z k))

pub later_word : (masks : List (List Bool)) (d ahead later : List Bool) → count d ≡ 0 → word later ≡ word (next_later masks d ahead later)
later_word masks d ahead later z = same_word later (next_later masks d ahead later) (λ k. sym (later_none masks d ahead later z k))

-- ---- a candidate given a status
or-true : (b : Bool) → true ≡ b || true
or-true true = refl
or-true false = refl

pub takens_set_taken : (st : List Status) (k : ℕ) → k < length st → takens (set st k Taken) ≡ either (takens st) (only k)
unfolding either only
takens_set_taken [] k h = absurd (omega arith)
takens_set_taken (s ∷ st) zero h = ap₂ (λ (x : Bool) (y : List Bool). x ∷ y) (or-true (is_taken s)) (sym (nil_either (takens st)))
takens_set_taken (s ∷ st) (suc k) h =
    ap₂ (λ (x : Bool) (y : List Bool). x ∷ y) (sym (or-false (is_taken s))) (takens_set_taken st k (omega arith))

pub takens_set_rejected : (st : List Status) (k : ℕ) → dig (opens st) k ≡ true → takens (set st k Rejected) ≡ takens st
takens_set_rejected [] k e = refl
takens_set_rejected (Undecided ∷ st) zero e = refl
takens_set_rejected (Taken ∷ st) zero e = never (sym e)
takens_set_rejected (Rejected ∷ st) zero e = refl
takens_set_rejected (s ∷ st) (suc k) e = ap (λ (y : List Bool). is_taken s ∷ y) (takens_set_rejected st k e)

and_none : (b : Bool) → false ≡ (b && false)
and_none true = refl
and_none false = refl

pub opens_set : (v : Status) → is_open v ≡ false → (st : List Status) (k : ℕ) → opens (set st k v) ≡ less (opens st) (only k)
unfolding less only
opens_set v o [] k = refl
opens_set v o (s ∷ st) zero = ap₂ (λ (x : Bool) (y : List Bool). x ∷ y) (o ∙ and_none (is_open s)) (sym (less_nil (opens st)))
opens_set v o (s ∷ st) (suc k) = ap₂ (λ (x : Bool) (y : List Bool). x ∷ y) (sym (and-true (is_open s))) (opens_set v o st k)
