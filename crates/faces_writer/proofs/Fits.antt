-- A loop run the other way: it fits as well.
use mathlib.Core.Path.{◌≡◌, refl, sym, ap, ap₂, ◌∙◌}
use mathlib.Core.Bool.{Bool, true, false, ◌&&◌, not}
use mathlib.Core.List.{[], ◌∷◌}
use Prim.Native.Nat.{ℕ, zero, suc, ◌-◌, ◌<◌}
use native.Mathlib.Omega.{arith}
use lib.Dec.{ltb}
use lib.ListN.{length, get_or, length-reverse}
use Rattle.lists.specs.Lists.{all}
use Rattle.lists.proofs.Passing.{all_reverse}
use Rattle.lists.proofs.Backwards.{get_d_reverse}
use Rattle.paper.specs.Numbers.{least_corners, most_corners}
use Rattle.paper.specs.Format.{outside}
use Rattle.paper.specs.Loops.{Loop, flipped}
use Rattle.paper.specs.FaceList.{face_fits}
use Rattle.paper.specs.declared.Format.{Format}
use Rattle.faces_writer.specs.Send.{way}

-- its length, its corners as a set, and each corner

flipped_length : (l : Loop) → length (flipped l) ≡ length l
unfolding flipped
flipped_length [] = refl
flipped_length (x ∷ l) = ap suc (length-reverse l)

flipped-all : (p : ℕ → Bool) (l : Loop) → all p (flipped l) ≡ all p l
unfolding flipped all
flipped-all p [] = refl
flipped-all p (x ∷ l) = ap (λ (b : Bool). p x && b) (all_reverse p l)

pub way_length : (b : Bool) (l : Loop) → length (way b l) ≡ length l
way_length true l = flipped_length l
way_length false l = refl

pub way-fits : (f : Format) (v : ℕ) (b : Bool) (l : Loop) → face_fits f v (way b l) ≡ face_fits f v l
unfolding face_fits
way-fits f v true l =
    ap₂ (λ (n : ℕ) (b : Bool). not (outside least_corners most_corners n) && b) (flipped_length l) (flipped-all (λ c. ltb c v) l)
way-fits f v false l = refl

pub way-first : (b : Bool) (l : Loop) → get_or (way b l) 0 0 ≡ get_or l 0 0
unfolding flipped
way-first true [] = refl
way-first true (x ∷ l) = refl
way-first false l = refl

pub way_back : (l : Loop) (j : ℕ) → 0 < j → j < length l → get_or (way true l) j 0 ≡ get_or l (length l - j) 0
unfolding flipped
way_back [] j p h = absurd (omega arith)
way_back (x ∷ l) zero p h = absurd (omega arith)
way_back (x ∷ l) (suc j) p h =
    let e : length (x ∷ l) - suc j ≡ suc (length l - suc j) = omega arith in
    get_d_reverse 0 l j (omega arith) ∙ sym (ap (λ (n : ℕ). get_or (x ∷ l) n 0) e)
