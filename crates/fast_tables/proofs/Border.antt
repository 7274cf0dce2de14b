-- A corner and the midpoint of a side lie on the border.
use mathlib.Core.Path.{◌≡◌, refl, ap, ◌∙◌}
use mathlib.Core.Bool.{Bool, true, ◌&&◌}
use mathlib.Core.Logic.{◌⊎◌, inl, inr}
use mathlib.Core.List.{[], ◌∷◌, map}
use Prim.Native.Nat.{ℕ, ◌+◌, ◌<◌}
use native.Mathlib.Omega.{arith}
use lib.ListN.{length, get_or}
use lib.IntN.{ℤ, pos, ◌+ℤ◌, ◌*ℤ◌}
use lib.Signed.{le_z, ◌≤ℤ◌, ◌<ℤ◌, ≤ℤ_refl}
use Rattle.lists.specs.Lists.{sides, any_true, odd_true}
use Rattle.lists.specs.Around.{around}
use Rattle.lists.proofs.Truth.{and_both, or_left, or_right}
use Rattle.lists.proofs.Sides.{around_low, sides_map, side_is}
use Rattle.exact.proofs.Laws.{one_*ℤ}
use Rattle.exact.proofs.Ring.{var, con, ◌⊕◌, ◌⊖◌, ◌⊗◌, ring}
use Rattle.exact.proofs.Signs.{le_is, lt-or-ge, <ℤ-≤ℤ}
use Rattle.exact.proofs.Linear.{le_by, le_to}
use Rattle.paper.specs.Points.{origin, plus}
use Rattle.paper.specs.Polygon.{Polygon, normal, over, exactly, midpoint, axis, flat, seen, turn, spans, between, touches, crosses}
use Rattle.paper.specs.Polygon.{placed, where_flat, lies}
use Rattle.paper.specs.declared.Point.{Point}
use Rattle.paper.specs.declared.Flat.{Flat}
use Rattle.paper.specs.declared.Axis.{Axis}
use Rattle.paper.specs.declared.Axis.TheVariants.{AlongX, AlongY, AlongZ}
use Rattle.paper.specs.declared.Where.TheVariants.{Border}
use Rattle.paper_laws.proofs.Points.{zero_is}

-- ---- in the flat
spans_is : (a b p : ℤ) → ((a ≤ℤ p) × (p ≤ℤ b)) ⊎ ((b ≤ℤ p) × (p ≤ℤ a)) → spans a b p ≡ true
unfolding spans
spans_is a b p (inl h) = or_left (le_z a p && le_z p b) (le_z b p && le_z p a) (and_both (le_is h.0) (le_is h.1))
spans_is a b p (inr h) = or_right (le_z a p && le_z p b) (le_z b p && le_z p a) (and_both (le_is h.0) (le_is h.1))

spans-end : (a b : ℤ) → spans (pos 1 *ℤ a) (pos 1 *ℤ b) a ≡ true
spans-end a b = (λ i. spans (one_*ℤ a i) (one_*ℤ b i) a) ∙ spans_is a b a (go (lt-or-ge a b))
  where
    go : (a <ℤ b) ⊎ (b ≤ℤ a) → ((a ≤ℤ a) × (a ≤ℤ b)) ⊎ ((b ≤ℤ a) × (a ≤ℤ a))
    go (inl h) = inl (≤ℤ_refl a, <ℤ-≤ℤ h)
    go (inr h) = inr (h, ≤ℤ_refl a)

spans_middle : (a b : ℤ) → spans (pos 2 *ℤ a) (pos 2 *ℤ b) (a +ℤ b) ≡ true
spans_middle a b = spans_is (pos 2 *ℤ a) (pos 2 *ℤ b) (a +ℤ b) (go (lt-or-ge a b))
  where
    low : (a b : ℤ) → a ≤ℤ b → (pos 2 *ℤ a) ≤ℤ (a +ℤ b)
    low a b h = let ρ = a ∷ b ∷ [] in le_by ρ (con (pos 2) ⊗ var 0) (var 0 ⊕ var 1) (omega (arith, le_to ρ (var 0) (var 1) h))

    high : (a b : ℤ) → a ≤ℤ b → (a +ℤ b) ≤ℤ (pos 2 *ℤ b)
    high a b h = let ρ = a ∷ b ∷ [] in le_by ρ (var 0 ⊕ var 1) (con (pos 2) ⊗ var 1) (omega (arith, le_to ρ (var 0) (var 1) h))

    low' : (a b : ℤ) → b ≤ℤ a → (pos 2 *ℤ b) ≤ℤ (a +ℤ b)
    low' a b h = let ρ = a ∷ b ∷ [] in le_by ρ (con (pos 2) ⊗ var 1) (var 0 ⊕ var 1) (omega (arith, le_to ρ (var 1) (var 0) h))

    high' : (a b : ℤ) → b ≤ℤ a → (a +ℤ b) ≤ℤ (pos 2 *ℤ a)
    high' a b h = let ρ = a ∷ b ∷ [] in le_by ρ (var 0 ⊕ var 1) (con (pos 2) ⊗ var 0) (omega (arith, le_to ρ (var 1) (var 0) h))

    go : (a <ℤ b) ⊎ (b ≤ℤ a) → (((pos 2 *ℤ a) ≤ℤ (a +ℤ b)) × ((a +ℤ b) ≤ℤ (pos 2 *ℤ b)))
        ⊎ (((pos 2 *ℤ b) ≤ℤ (a +ℤ b)) × ((a +ℤ b) ≤ℤ (pos 2 *ℤ a)))
    go (inl h) = inl (low a b (<ℤ-≤ℤ h), high a b (<ℤ-≤ℤ h))
    go (inr h) = inr (low' a b h, high' a b h)

touch_end : (a b : Flat) → touches a (pos 1) a b ≡ true
unfolding touches turn between
touch_end a b =
    and_both
    (zero_is
    (ring (a.u ∷ a.v ∷ b.u ∷ b.v ∷ [])
    ((var 2 ⊖ var 0) ⊗ (var 1 ⊖ con (pos 1) ⊗ var 1) ⊖ (var 3 ⊖ var 1) ⊗ (var 0 ⊖ con (pos 1) ⊗ var 0)) (con (pos 0)) tt))
    (and_both (spans-end a.u b.u) (spans-end a.v b.v))

touch_middle : (a b : Flat) → touches (flat (a.u +ℤ b.u) (a.v +ℤ b.v)) (pos 2) a b ≡ true
unfolding touches turn between
touch_middle a b =
    and_both
    (zero_is
    (ring (a.u ∷ a.v ∷ b.u ∷ b.v ∷ [])
    ((var 2 ⊖ var 0) ⊗ ((var 1 ⊕ var 3) ⊖ con (pos 2) ⊗ var 1) ⊖ (var 3 ⊖ var 1) ⊗ ((var 0 ⊕ var 2) ⊖ con (pos 2) ⊗ var 0)) (con (pos 0))
    tt))
    (and_both (spans_middle a.u b.u) (spans_middle a.v b.v))

-- ---- in space
seen-plus : (a : Axis) (p q : Point) → seen a (plus p q) ≡ flat ((seen a p).u +ℤ (seen a q).u) ((seen a p).v +ℤ (seen a q).v)
unfolding seen plus
seen-plus AlongX p q = refl
seen-plus AlongY p q = refl
seen-plus AlongZ p q = refl

module _ (g : Polygon) (k : ℕ) (h : k < length g) where
  on_side : (m : Point) (d : ℤ) → touches (seen (axis (normal g)) m) d (seen (axis (normal g)) (around g k origin))
      (seen (axis (normal g)) (around g (k + 1) origin)) ≡ true → lies (over m d) g ≡ Border
  unfolding lies where_flat placed
  on_side m d e =
      let a = axis (normal g) in
      let t : any_true (sides (touches (seen a m) d) (map (seen a) g)) ≡ true
      = ap any_true (sides_map (touches (seen a m) d) (seen a) g)
      ∙ side_is origin (λ y z. touches (seen a m) d (seen a y) (seen a z)) g k h e in
      ap (λ (b : Bool). placed b (odd_true (sides (crosses (seen a m) d) (map (seen a) g)))) t

  -- "A corner of g is on its border"
  pub corner_border : (p : Point) → get_or g k origin ≡ p → lies (exactly p) g ≡ Border
  corner_border p e =
      let a = axis (normal g) in
      let q : around g k origin ≡ p = around_low g k origin h ∙ e in
      on_side p (pos 1)
      (ap (λ (r : Point). touches (seen a p) (pos 1) (seen a r) (seen a (around g (k + 1) origin))) q
      ∙ touch_end (seen a p) (seen a (around g (k + 1) origin)))

  -- and so is the midpoint of its side
  pub side_border : lies (midpoint (around g k origin) (around g (k + 1) origin)) g ≡ Border
  unfolding midpoint
  side_border =
      let a = axis (normal g) in
      let p = around g k origin in
      let q = around g (k + 1) origin in
      on_side (plus p q) (pos 2) (ap (λ (m : Flat). touches m (pos 2) (seen a p) (seen a q)) (seen-plus a p q)
      ∙ touch_middle (seen a p) (seen a q))
