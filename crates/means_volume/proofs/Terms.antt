-- Six volumes by its terms: a face of n corners has n - 2 determinants of three positions.
use mathlib.Core.Path.{◌≡◌, ap, ◌∙◌, subst}
use mathlib.Core.Bool.{Bool, true, false, cond}
use mathlib.Core.List.{List, [], ◌∷◌}
use Prim.Native.Nat.{ℕ, zero, suc, ◌+◌, ◌-◌, ◌*◌, ◌≤◌}
use native.Mathlib.Omega.{arith}
use native.Mathlib.Nat.{zero-add}
use lib.IntN.{ℤ, pos, nat_abs}
use lib.ListN.{length, get_or, length-map}
use Rattle.exact.specs.Size.{Within}
use Rattle.exact.proofs.Size.{within_add, within_neg, within_le, within_up}
use Rattle.sets.specs.Word.{dig}
use Rattle.paper.specs.Numbers.{farthest}
use Rattle.paper.specs.Points.{origin, det}
use Rattle.paper.specs.Polygon.{Polygon}
use Rattle.paper.specs.Drawing.{Wire, at}
use Rattle.paper.specs.Loops.{Loop, polygon}
use Rattle.paper.specs.Solids.{fan, face_six, part}
use Rattle.paper.specs.declared.Point.{Point}
use Rattle.polygon.specs.Sizes.{PointWithin}
use Rattle.polygon.proofs.Sizes.{origin_small, det_small}
use Rattle.means_solid.specs.Solid.{face_sum, six_of_faces}
use Rattle.means_check.proofs.Corners.{over}
use Rattle.means_volume.specs.Bound.{most_term}

-- every point is in range; behind the list's end there is the origin
abbrev pub AllNear : List Point → Type 0
AllNear ps = (i : ℕ) → PointWithin farthest (get_or ps i origin)

det_most : {a b c : Point} → PointWithin farthest a → PointWithin farthest b → PointWithin farthest c → Within most_term (det a b c)
det_most h k l = within_up tt (det_small h k l)

fan_most : (a : Point) (r : List Point) → PointWithin farthest a → AllNear r → Within ((length r - 1) * most_term) (fan a r)
unfolding fan
fan_most a [] h k = record { within = omega arith }
fan_most a (b ∷ []) h k = record { within = omega arith }
fan_most a (b ∷ (c ∷ r)) h k =
    within_le (omega arith) (within_add (det_most h (k 0) (k 1)) (fan_most a (c ∷ r) h (λ i. k (suc i))))

face_most : (g : Polygon) → AllNear g → Within ((length g - 2) * most_term) (face_six g)
unfolding face_six
face_most [] h = record { within = omega arith }
face_most (a ∷ r) h = within_le (omega arith) (fan_most a r (h 0) (λ i. h (suc i)))

module _ (d : Wire) (near : (v : ℕ) → PointWithin farthest (at d v)) where
  corners-near : (l : Loop) → AllNear (polygon d l)
  unfolding polygon
  corners-near [] i = origin_small farthest
  corners-near (v ∷ l) zero = near v
  corners-near (v ∷ l) (suc i) = corners-near l i

  loop_most : (l : Loop) → Within ((length l - 2) * most_term) (face_six (polygon d l))
  unfolding polygon
  loop_most l =
      subst (λ (n : ℕ). Within ((n - 2) * most_term) (face_six (polygon d l))) (length-map l (at d))
      (face_most (polygon d l) (corners-near l))

-- how many determinants a face has
abbrev pub terms : Loop → ℕ
terms l = length l - 2

module _ (d : Wire) (near : (v : ℕ) → PointWithin farthest (at d v)) (cs : List Loop) (taken turned : List Bool) where
  part_within : (b t : Bool) (n : ℕ) (z : ℤ) → Within (n * most_term) z → Within (cond b n 0 * most_term) (part b t z)
  part_within false t n z h = record { within = omega arith }
  part_within true false n z h = h
  part_within true true n z h = within_neg h

  -- the part of candidate k, whose digit is t
  abbrev given : ℕ → Loop → ℤ
  given k l = part (dig taken k) (dig turned k) (face_six (polygon d l))

  part_most : (k : ℕ) (l : Loop) (t : Bool) → dig taken k ≡ t → Within (cond t (terms l) 0 * most_term) (given k l)
  part_most k l t e =
      subst (λ (b : Bool). Within (cond b (terms l) 0 * most_term) (given k l)) e
      (part_within (dig taken k) (dig turned k) (terms l) (face_six (polygon d l)) (loop_most d near l))

  here : {t : Bool} (k : ℕ) → dig taken (k + 0) ≡ t → dig taken k ≡ t
  here k e = let z : k ≡ k + 0 = omega arith in ap (dig taken) z ∙ e

  next : {t : Bool} (k i : ℕ) → dig taken (k + suc i) ≡ t → dig taken (suc k + i) ≡ t
  next k i e = let z : suc k + i ≡ k + suc i = omega arith in ap (dig taken) z ∙ e

  -- the candidates from k on, and their part of the mask
  six_most : (ts : List Bool) (k : ℕ) (ls : List Loop) → ((i : ℕ) → dig taken (k + i) ≡ dig ts i)
      → Within (over ts terms ls * most_term) (six_of_faces d cs taken turned k ls)
  unfolding over face_sum
  six_most [] k [] h = record { within = omega arith }
  six_most (t ∷ ts) k [] h = record { within = omega arith }
  six_most [] k (l ∷ ls) h =
      within_le (omega arith) (within_add (part_most k l false (here k (h 0))) (six_most [] (suc k) ls (λ i. next k i (h (suc i)))))
  six_most (t ∷ ts) k (l ∷ ls) h =
      within_le (omega arith) (within_add (part_most k l t (here k (h 0))) (six_most ts (suc k) ls (λ i. next k i (h (suc i)))))

  pub by_terms : (six : ℕ) → six_of_faces d cs taken turned 0 cs ≡ pos six → six ≤ over taken terms cs * most_term
  by_terms six e =
      subst (λ (z : ℤ). nat_abs z ≤ over taken terms cs * most_term) e (six_most taken 0 cs (λ i. ap (dig taken) (zero-add i))).within
