-- A face seen from two apexes: what its fan holds from the one and not from the other is told by its sides.
use mathlib.Core.Path.{◌≡◌, refl, ◌∙◌, ap₂}
use mathlib.Core.List.{[], ◌∷◌}
use Prim.Native.Nat.{ℕ, zero, suc, ◌<◌}
use native.Mathlib.Omega.{arith}
use lib.IntN.{ℤ, pos, ◌+ℤ◌, ◌-ℤ◌}
use lib.ListN.{length, get_or}
use Rattle.lists.specs.Lists.{sides, sides_from}
use Rattle.exact.proofs.Ring.{var, con, ◌⊕◌, ◌⊖◌, ring}
use Rattle.paper.specs.Points.{origin, dot, cross, det}
use Rattle.paper.specs.Polygon.{Polygon}
use Rattle.paper.specs.declared.Point.{Point}
use Rattle.exact.specs.Sum.{sum_of}
use Rattle.means_region.specs.Tetra.{holds}
use Rattle.means_region.specs.Winding.{fan_holds, face_holds}
use Rattle.means_region.proofs.Move.{turns, Real, moved}

-- no two of the points are in one plane with the apex p and the origin
abbrev pub Spread : Point → Polygon → Type 0
Spread p g = (i j : ℕ) → i < j → j < length g → Real (det p (get_or g i origin) (get_or g j origin))

-- all of the points are at one height
abbrev pub Height : Point → ℤ → Polygon → Type 0
Height n h g = (i : ℕ) → i < length g → dot n (get_or g i origin) ≡ h

-- without the second point
pub spread-less : (p a b : Point) (r : Polygon) → Spread p (a ∷ (b ∷ r)) → Spread p (a ∷ r)
spread-less p a b r s zero zero h l = absurd (omega arith)
spread-less p a b r s zero (suc j) h l = s 0 (suc (suc j)) (omega arith) (omega arith)
spread-less p a b r s (suc i) zero h l = absurd (omega arith)
spread-less p a b r s (suc i) (suc j) h l = s (suc (suc i)) (suc (suc j)) (omega arith) (omega arith)

height-less : (n : Point) (h : ℤ) (a b : Point) (r : Polygon) → Height n h (a ∷ (b ∷ r)) → Height n h (a ∷ r)
height-less n h a b r s zero l = s 0 (omega arith)
height-less n h a b r s (suc i) l = s (suc (suc i)) (omega arith)

module _ (p q n : Point) (h : ℤ) (real : Real h) (apart : cross p q ≡ origin → ⊥) where
  abbrev sway : Point → Point → ℤ
  sway = turns p q

  fan-sides : (a b : Point) (r : Polygon) → Spread p (a ∷ (b ∷ r)) → Spread q (a ∷ (b ∷ r)) → Height n h (a ∷ (b ∷ r))
      → (fan_holds p a (b ∷ r) -ℤ fan_holds q a (b ∷ r)) +ℤ (fan_holds p a (b ∷ r) -ℤ fan_holds q a (b ∷ r))
      ≡ sway a b +ℤ sum_of (sides_from sway a b r)
  unfolding fan_holds sides_from sum_of
  fan-sides a b [] sp sq ht =
      ring (holds p q a b ∷ holds p q b a ∷ [])
      ((con (pos 0) ⊖ con (pos 0)) ⊕ (con (pos 0) ⊖ con (pos 0))) ((var 0 ⊖ var 1) ⊕ ((var 1 ⊖ var 0) ⊕ con (pos 0))) tt
  fan-sides a b (c ∷ r) sp sq ht =
      let rest = fan-sides a c r (spread-less p a b (c ∷ r) sp) (spread-less q a b (c ∷ r) sq) (height-less n h a b (c ∷ r) ht) in
      let here = moved p q a b c (sp 1 2 (omega arith) (omega arith)) (sp 0 2 (omega arith) (omega arith))
      (sp 0 1 (omega arith) (omega arith)) (sq 1 2 (omega arith) (omega arith)) (sq 0 2 (omega arith) (omega arith))
      (sq 0 1 (omega arith) (omega arith)) n h real (ht 0 (omega arith)) (ht 1 (omega arith)) (ht 2 (omega arith)) apart in
      ring (holds p a b c ∷ holds q a b c ∷ fan_holds p a (c ∷ r) ∷ fan_holds q a (c ∷ r) ∷ [])
      (((var 0 ⊕ var 2) ⊖ (var 1 ⊕ var 3)) ⊕ ((var 0 ⊕ var 2) ⊖ (var 1 ⊕ var 3)))
      (((var 0 ⊖ var 1) ⊕ (var 0 ⊖ var 1)) ⊕ ((var 2 ⊖ var 3) ⊕ (var 2 ⊖ var 3))) tt
      ∙ ap₂ ◌+ℤ◌ here rest
      ∙ ring (sway a b ∷ sway b c ∷ holds p q a c ∷ holds p q c a ∷ sum_of (sides_from sway a c r) ∷ [])
      ((var 0 ⊕ (var 1 ⊕ (var 3 ⊖ var 2))) ⊕ ((var 2 ⊖ var 3) ⊕ var 4)) (var 0 ⊕ (var 1 ⊕ var 4)) tt

  pub face-sides : (g : Polygon) → Spread p g → Spread q g → Height n h g
      → (face_holds p g -ℤ face_holds q g) +ℤ (face_holds p g -ℤ face_holds q g) ≡ sum_of (sides sway g)
  unfolding face_holds fan_holds sides sides_from sum_of
  face-sides [] sp sq ht = refl
  face-sides (a ∷ []) sp sq ht =
      ring (holds p q a a ∷ []) ((con (pos 0) ⊖ con (pos 0)) ⊕ (con (pos 0) ⊖ con (pos 0))) ((var 0 ⊖ var 0) ⊕ con (pos 0)) tt
  face-sides (a ∷ (b ∷ r)) sp sq ht = fan-sides a b r sp sq ht
