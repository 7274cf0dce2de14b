-- Counts over the faces of a solid, from two apexes: where they agree at each face, and how far they differ.
use mathlib.Core.Path.{◌≡◌, sym, ◌∙◌, ap, ap₂}
use mathlib.Core.Bool.{Bool}
use mathlib.Core.List.{List, [], ◌∷◌, map}
use Prim.Native.Nat.{ℕ, ◌<◌}
use native.Mathlib.Omega.{arith}
use lib.IntN.{ℤ, pos, negsuc, ◌+ℤ◌, ◌-ℤ◌, ◌*ℤ◌}
use lib.ListN.{length, length-map, get_or}
use Rattle.lists.specs.Lists.{sides}
use Rattle.lists.proofs.Places.{map_at}
use Rattle.lists.proofs.Sides.{sides_map}
use Rattle.exact.proofs.Ring.{var, con, ◌⊕◌, ◌⊖◌, ◌⊗◌, ring}
use Rattle.paper.specs.Points.{origin, det}
use Rattle.paper.specs.Polygon.{Polygon}
use Rattle.paper.specs.Drawing.{Wire, at}
use Rattle.paper.specs.Loops.{Loop, loop_at, polygon}
use Rattle.paper.specs.declared.Point.{Point}
use Rattle.means_solid.specs.Solid.{Face, face_sum}
use Rattle.exact.specs.Sum.{sum_of}
use Rattle.means_check.proofs.FaceSums.{faces_same, faces-plus, faces-times}
use Rattle.means_region.specs.Winding.{away, face_holds, rounds, NoTwoInPlane}
use Rattle.means_region.proofs.Move.{turns}
use Rattle.means_region.proofs.Fan.{Spread}

module _ (d : Wire) (cs : List Loop) (taken turned : List Bool) (n : ℤ) (p : Point) where
  abbrev pub face : ℕ → Polygon
  face j = polygon d (loop_at cs j)

  -- its corners, as positions from p
  abbrev pub seen : ℕ → Polygon
  seen j = map (away n p) (face j)

  pub seen_at : (j i : ℕ) → i < length (seen j) → get_or (seen j) i origin ≡ away n p (get_or (face j) i origin)
  seen_at j i h = map_at (away n p) (face j) i origin origin (omega (arith, length-map (face j) (away n p)))

  pub spread : (a : Point) → NoTwoInPlane d cs taken turned n p a → (j : ℕ) → Face d cs taken turned j → Spread a (seen j)
  spread a s j f i l h m e =
      s j i l f h (omega (arith, length-map (face j) (away n p)))
      (ap₂ (det a) (sym (seen_at j i (omega arith))) (sym (seen_at j l m)) ∙ e)

  -- ---- over all faces, from two apexes

  module _ (a b : Point) where
    -- what face l holds from the one, and from the other
    abbrev one : Loop → ℤ
    one l = face_holds a (map (away n p) (polygon d l))

    abbrev other : Loop → ℤ
    other l = face_holds b (map (away n p) (polygon d l))

    pub rounds-same : ((j : ℕ) → Face d cs taken turned j → face_holds a (seen j) ≡ face_holds b (seen j))
        → rounds d cs taken turned n p a ≡ rounds d cs taken turned n p b
    rounds-same = faces_same cs taken turned one other

    -- a side, as seen from both
    abbrev pub sway : ℕ → ℕ → ℤ
    sway y z = turns a b (away n p (at d y)) (away n p (at d z))

    by_corners : (l : Loop) → sides (turns a b) (map (away n p) (polygon d l)) ≡ sides sway l
    unfolding polygon
    by_corners l = sides_map (turns a b) (away n p) (map (at d) l) ∙ sides_map (λ y z. turns a b (away n p y) (away n p z)) (at d) l

    -- where the faces differ by their sides: twice one and minus twice the other
    pub rounds_twice : ((j : ℕ) → Face d cs taken turned j
        → (face_holds a (seen j) -ℤ face_holds b (seen j)) +ℤ (face_holds a (seen j) -ℤ face_holds b (seen j))
        ≡ sum_of (sides (turns a b) (seen j)))
        → pos 2 *ℤ rounds d cs taken turned n p a +ℤ negsuc 1 *ℤ rounds d cs taken turned n p b
        ≡ face_sum taken turned (λ l. sum_of (sides sway l)) 0 cs
    rounds_twice h =
        ap₂ ◌+ℤ◌ (sym (faces-times cs taken turned (pos 2) one 0 cs)) (sym (faces-times cs taken turned (negsuc 1) other 0 cs))
        ∙ sym (faces-plus cs taken turned (λ l. pos 2 *ℤ one l) (λ l. negsuc 1 *ℤ other l) 0 cs)
        ∙ faces_same cs taken turned (λ l. pos 2 *ℤ one l +ℤ negsuc 1 *ℤ other l) (λ l. sum_of (sides sway l)) (λ j t.
        ring (face_holds a (seen j) ∷ face_holds b (seen j) ∷ []) (con (pos 2) ⊗ var 0 ⊕ con (negsuc 1) ⊗ var 1)
        ((var 0 ⊖ var 1) ⊕ (var 0 ⊖ var 1)) tt
        ∙ h j t ∙ ap sum_of (by_corners (loop_at cs j)))
