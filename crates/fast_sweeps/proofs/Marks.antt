-- Sets of edges: without the lowest, up to the lowest, and the edges of candidates.
use mathlib.Core.Bool.{Bool, true, false, ◌||◌, or-false, or_assoc}
use mathlib.Core.List.{List, [], ◌∷◌}
use mathlib.Core.Path.{◌≡◌, refl, sym, ap, ap₂, ◌∙◌}
use Prim.Native.Nat.{ℕ, zero, suc, ◌≤◌, ◌<◌}
use native.Mathlib.Omega.{arith}
use lib.ListN.{length, get_or, replicate, length-replicate}
use Rattle.sets.specs.Word.{dig, count, first, both, either, less, only}
use Rattle.sets.proofs.Digits.{never, length_either, length_both, length_less}
use Rattle.fast_sweeps.specs.Worklist.{without_lowest, passed, edges_with, meets, touched, next_ahead, next_later}

-- ---- without the lowest
pub after_in : (a : List Bool) (j : ℕ) → dig (without_lowest a) j ≡ true → (first a < j) × (dig a j ≡ true)
unfolding without_lowest first
after_in [] j e = never (sym e)
after_in (true ∷ a) zero e = never (sym e)
after_in (true ∷ a) (suc j) e = (omega arith, e)
after_in (false ∷ a) zero e = never (sym e)
after_in (false ∷ a) (suc j) e = let w = after_in a j e in (omega (arith, w.0), w.1)

pub after_out : (a : List Bool) (j : ℕ) → dig (without_lowest a) j ≡ false → (j ≡ first a → ⊥) → dig a j ≡ false
unfolding without_lowest first
after_out [] j e n = refl
after_out (true ∷ a) zero e n = absurd (n refl)
after_out (true ∷ a) (suc j) e n = e
after_out (false ∷ a) zero e n = refl
after_out (false ∷ a) (suc j) e n = after_out a j e (λ p. n (ap suc p))

pub count-after : (a : List Bool) → (count a ≡ 0 → ⊥) → suc (count (without_lowest a)) ≡ count a
unfolding count without_lowest
count-after [] n = absurd (n refl)
count-after (true ∷ a) n = omega arith
count-after (false ∷ a) n = omega (arith, count-after a (λ e. n (omega arith)))

pub length_after : (a : List Bool) → length (without_lowest a) ≡ length a
unfolding without_lowest
length_after [] = refl
length_after (true ∷ a) = refl
length_after (false ∷ a) = ap suc (length_after a)

-- ---- up to the lowest
pub passed_in : (a : List Bool) (j : ℕ) → dig (passed a) j ≡ true → j ≤ first a
unfolding passed first
passed_in [] j e = never (sym e)
passed_in (true ∷ a) zero e = omega arith
passed_in (true ∷ a) (suc j) e = never (sym e)
passed_in (false ∷ a) zero e = omega arith
passed_in (false ∷ a) (suc j) e = omega (arith, passed_in a j e)

pub passed_out : (a : List Bool) (j : ℕ) → (count a ≡ 0 → ⊥) → dig (passed a) j ≡ false → first a < j
unfolding passed first count
passed_out [] j n e = absurd (n refl)
passed_out (true ∷ a) zero n e = never e
passed_out (true ∷ a) (suc j) n e = omega arith
passed_out (false ∷ a) zero n e = never e
passed_out (false ∷ a) (suc j) n e = omega (arith, passed_out a j (λ z. n (omega arith)) e)

-- ---- the edges of candidates
pub dig-sides : (masks : List (List Bool)) (k j : ℕ) → dig (edges_with masks k) j ≡ dig (get_or masks j []) k
unfolding edges_with
dig-sides [] k j = refl
dig-sides (mask ∷ masks) k zero = refl
dig-sides (mask ∷ masks) k (suc j) = dig-sides masks k j

pub length_sides : (masks : List (List Bool)) (k : ℕ) → length (edges_with masks k) ≡ length masks
unfolding edges_with
length_sides [] k = refl
length_sides (mask ∷ masks) k = ap suc (length_sides masks k)

pub dig-touched : (masks : List (List Bool)) (d : List Bool) (j : ℕ) → dig (touched masks d) j ≡ meets (get_or masks j []) d
unfolding touched meets
dig-touched [] d j = refl
dig-touched (mask ∷ masks) d zero = refl
dig-touched (mask ∷ masks) d (suc j) = dig-touched masks d j

pub length_touched : (masks : List (List Bool)) (d : List Bool) → length (touched masks d) ≡ length masks
unfolding touched
length_touched [] d = refl
length_touched (mask ∷ masks) d = ap suc (length_touched masks d)

-- no candidate has no edges
meets-none : (mask d : List Bool) → count d ≡ 0 → meets mask d ≡ false
unfolding meets count
meets-none [] d z = refl
meets-none (b ∷ mask) [] z = refl
meets-none (b ∷ mask) (true ∷ d) z = absurd (omega arith)
meets-none (true ∷ mask) (false ∷ d) z = meets-none mask d (omega arith)
meets-none (false ∷ mask) (false ∷ d) z = meets-none mask d (omega arith)

pub touched_none : (masks : List (List Bool)) (d : List Bool) → count d ≡ 0 → touched masks d ≡ replicate (length masks) false
unfolding touched
touched_none [] d z = refl
touched_none (mask ∷ masks) d z = ap₂ (λ (x : Bool) (y : List Bool). x ∷ y) (meets-none mask d z) (touched_none masks d z)

-- the lowest candidate's, and the others'
meets-first : (mask d : List Bool) → (count d ≡ 0 → ⊥) → meets mask d ≡ dig mask (first d) || meets mask (without_lowest d)
unfolding meets first without_lowest count
meets-first [] d n = refl
meets-first (b ∷ mask) [] n = absurd (n refl)
meets-first (true ∷ mask) (true ∷ d) n = refl
meets-first (false ∷ mask) (true ∷ d) n = refl
meets-first (true ∷ mask) (false ∷ d) n = meets-first mask d (λ z. n (omega arith))
meets-first (false ∷ mask) (false ∷ d) n = meets-first mask d (λ z. n (omega arith))

pub touched-first : (masks : List (List Bool)) (d : List Bool) → (count d ≡ 0 → ⊥)
    → touched masks d ≡ either (edges_with masks (first d)) (touched masks (without_lowest d))
unfolding touched edges_with either
touched-first [] d n = refl
touched-first (mask ∷ masks) d n = ap₂ (λ (x : Bool) (y : List Bool). x ∷ y) (meets-first mask d n) (touched-first masks d n)

-- ---- the loop that gathers them: `all` so far, `left` to go
either_assoc : (a b c : List Bool) → either (either a b) c ≡ either a (either b c)
unfolding either
either_assoc [] b c = refl
either_assoc (x ∷ a) [] c = refl
either_assoc (x ∷ a) (y ∷ b) [] = refl
either_assoc (x ∷ a) (y ∷ b) (z ∷ c) = ap₂ (λ (p : Bool) (q : List Bool). p ∷ q) (or_assoc x y z) (either_assoc a b c)

either-none : (n : ℕ) (a : List Bool) → length a ≡ n → either a (replicate n false) ≡ a
unfolding either
either-none zero [] h = refl
either-none zero (x ∷ a) h = absurd (omega arith)
either-none (suc n) [] h = absurd (omega arith)
either-none (suc n) (x ∷ a) h = ap₂ (λ (p : Bool) (q : List Bool). p ∷ q) (or-false x) (either-none n a (omega arith))

none-either : (n : ℕ) (a : List Bool) → length a ≡ n → either (replicate n false) a ≡ a
unfolding either
none-either zero a h = refl
none-either (suc n) [] h = absurd (omega arith)
none-either (suc n) (x ∷ a) h = ap (λ (q : List Bool). x ∷ q) (none-either n a (omega arith))

length_same : (n : ℕ) (a b : List Bool) → length a ≡ n → length b ≡ n → length (either a b) ≡ n
unfolding either
length_same n [] b h k = k
length_same n (x ∷ a) [] h k = h
length_same zero (x ∷ a) (y ∷ b) h k = absurd (omega arith)
length_same (suc n) (x ∷ a) (y ∷ b) h k = ap suc (length_same n a b (omega arith) (omega arith))

pub record Gathers (masks : List (List Bool)) (d all left : List Bool) : Type 0 where
  pub long : length all ≡ length masks
  pub whole : either all (touched masks left) ≡ touched masks d

pub gather_start : (masks : List (List Bool)) (d : List Bool) → Gathers masks d (replicate (length masks) false) d
gather_start masks d =
    record { long = length-replicate (length masks) false; whole = none-either (length masks) (touched masks d) (length_touched masks d) }

pub gather_more : (masks : List (List Bool)) (d all left : List Bool) → (count left ≡ 0 → ⊥) → Gathers masks d all left
    → Gathers masks d (either all (edges_with masks (first left))) (without_lowest left)
gather_more masks d all left n g = record {
  long = length_same (length masks) all (edges_with masks (first left)) g.long (length_sides masks (first left));
  whole =
      either_assoc all (edges_with masks (first left)) (touched masks (without_lowest left)) ∙ ap (either all) (sym (touched-first masks left n))
      ∙ g.whole;
}

pub gather_end : (masks : List (List Bool)) (d all left : List Bool) → count left ≡ 0 → Gathers masks d all left → all ≡ touched masks d
gather_end masks d all left z g =
    sym (either-none (length masks) all g.long) ∙ ap (either all) (sym (touched_none masks left z)) ∙ g.whole

-- ---- no longer than the masks
pub length_ahead : (masks : List (List Bool)) (d ahead : List Bool) → length ahead ≤ length masks
    → length (next_ahead masks d ahead) ≤ length masks
unfolding next_ahead
length_ahead masks d ahead h =
    length_either (length masks) (without_lowest ahead) (less (touched masks d) (passed ahead))
    (omega (arith, length_after ahead)) (omega (arith, length_less (touched masks d) (passed ahead), length_touched masks d))

pub length_later : (masks : List (List Bool)) (d ahead later : List Bool) → length later ≤ length masks
    → length (next_later masks d ahead later) ≤ length masks
unfolding next_later
length_later masks d ahead later h =
    length_either (length masks) later (less (both (touched masks d) (passed ahead)) (only (first ahead))) h
    (omega (
      arith,
      length_less (both (touched masks d) (passed ahead)) (only (first ahead)),
      length_both (touched masks d) (passed ahead),
      length_touched masks d,
    ))
