-- The axis along which a plane is seen, the pass over the sides that are seen, and its answer.
use mathlib.Core.Path.{◌≡◌, refl, sym, ◌∙◌, subst}
use mathlib.Core.Bool.{Bool, true, false, not, ◌||◌, ◌&&◌, cond, or-false}
use mathlib.Core.List.{[], ◌∷◌, map}
use mathlib.Core.Logic.{⊎_elim}
use Prim.Native.Nat.{ℕ}
use native.Mathlib.Omega.{arith}
use lib.IntN.{ℤ, pos}
use lib.Signed.{lt_z}
use denote.Enum.Declared.{tag_of}
use types.Run.{OneOf}
use Rattle.lists.specs.Lists.{sides, any_true, odd_true}
use Rattle.lists.proofs.Sides.{sides_map}
use Rattle.paper.specs.Points.{is_zero, above, below}
use Rattle.paper.specs.Polygon.{Polygon, normal, axis, seen, meets_ray, touches, crosses, placed, where_flat, lies, over, is_outside}
use Rattle.paper.specs.declared.Point.{Point}
use Rattle.paper.specs.declared.Flat.{Flat}
use Rattle.paper.specs.declared.Axis.{Axis}
use Rattle.paper.specs.declared.Axis.TheVariants.{AlongX, AlongY, AlongZ}
use Rattle.paper.specs.declared.Where.{Where}
use Rattle.paper.specs.declared.Where.TheVariants.{Outside, Border, Inside}
use Rattle.paper.specs.contracts.Where.{the_type}
use Rattle.polygon.specs.Sizes.{PointWithin, FlatWithin}

pub ray_is : (a b : Bool) (t : ℤ) → (a && not b) && lt_z (pos 0) t || (not a && b) && lt_z t (pos 0) ≡ meets_ray a b t
unfolding meets_ray above below
ray_is true true t = refl
ray_is true false t = or-false (lt_z (pos 0) t)
ray_is false true t = refl
ray_is false false t = refl

module _ (m : Point) where
  pub axis_z : is_zero m.x ≡ true → is_zero m.y ≡ true → AlongZ ≡ axis m
  unfolding axis
  axis_z p q = λ i. cond (sym p i) (cond (sym q i) AlongZ AlongY) AlongX

  pub axis_y : is_zero m.x ≡ true → is_zero m.y ≡ false → AlongY ≡ axis m
  unfolding axis
  axis_y p q = λ i. cond (sym p i) (cond (sym q i) AlongZ AlongY) AlongX

  pub axis_x : is_zero m.x ≡ false → AlongX ≡ axis m
  unfolding axis
  axis_x p = λ i. cond (sym p i) (cond (is_zero m.y) AlongZ AlongY) AlongX

-- ---- how the side from a to b, seen along v, lies to q / d

abbrev pub On : Axis → Flat → ℤ → Point → Point → Bool
On v q d a b = touches q d (seen v a) (seen v b)

abbrev pub Over : Axis → Flat → ℤ → Point → Point → Bool
Over v q d a b = crosses q d (seen v a) (seen v b)

-- the pass answers: at the end, or at a side that the point is on
module _ (p : Point) (d : ℤ) (g : Polygon) {v : Axis} {q : Flat} (e : v ≡ axis (normal g)) (f : q ≡ seen v p) where
  pub lies_is : {on odd : Bool} → any_true (sides (On v q d) g) ≡ on → odd_true (sides (Over v q d) g) ≡ odd
      → placed on odd ≡ lies (over p d) g
  unfolding lies where_flat
  lies_is j k =
      (λ i. placed (sym j i) (sym k i))
      ∙ (λ i. placed (any_true (sym (sides_map (touches q d) (seen v) g) i)) (odd_true (sym (sides_map (crosses q d) (seen v) g) i)))
      ∙ (λ i. placed (any_true (sides (touches (f i) d) (map (seen v) g))) (odd_true (sides (crosses (f i) d) (map (seen v) g))))
      ∙ (λ i.
      let h = map (seen (e i)) g in
      placed (any_true (sides (touches (seen (e i) p) d) h)) (odd_true (sides (crosses (seen (e i) p) d) h)))

-- what an `if let` of `Outside` leaves
pub not_outside : (w : Where) → OneOf (1 ∷ 2 ∷ []) (tag_of the_type w) → is_outside w ≡ false
unfolding is_outside
not_outside Outside h = absurd (⊎_elim (λ (e : 0 ≡ 1). omega arith) (λ (e : 0 ≡ 2). omega arith) h)
not_outside Border h = refl
not_outside Inside h = refl

-- ---- how large

pub seen_small : {n : ℕ} (v : Axis) {p : Point} → PointWithin n p → FlatWithin n (seen v p)
unfolding seen
seen_small AlongX h = record { u_in = h.y_in; v_in = h.z_in }
seen_small AlongY h = record { u_in = h.x_in; v_in = h.z_in }
seen_small AlongZ h = record { u_in = h.x_in; v_in = h.y_in }

pub flat_eq : {n : ℕ} {p q : Flat} → p ≡ q → FlatWithin n q → FlatWithin n p
flat_eq {n} e h = subst (λ (p : Flat). FlatWithin n p) (sym e) h
