-- A point to one side of every side is inside; and inside a convex ring is to one side of every side.
-- First: a chord has the point on one hand or on the other, so one of the two parts keeps the property, down to a triangle. Second: from
-- a point that is not strictly on the hand of a side on which all corners are, the ray along that side meets nothing.
use mathlib.Core.Path.{◌≡◌, refl, sym, ◌∙◌, ap, subst}
use mathlib.Core.Logic.{◌⊎◌, inl, inr, ⊎_elim}
use mathlib.Core.List.{List, [], ◌∷◌, ◌++◌, map}
use native.Mathlib.Omega.{arith}
use lib.IntN.{ℤ, pos, neg_ℤ, ◌+ℤ◌}
use Rattle.exact.proofs.Ring.{var, ◌⊕◌, neg, ring}
use Rattle.exact.proofs.Order.{add_nonneg, mul_nonneg}
use Rattle.paper.specs.Polygon.{where_flat}
use Rattle.paper.specs.declared.Flat.{Flat}
use Rattle.paper.specs.declared.Where.TheVariants.{Inside}
use Rattle.means_area.specs.Rings.{Of, Link}
use Rattle.means_area.specs.Flats.{Up, Nn, twice_area, height, lst}
use Rattle.means_area.proofs.Flats.Signs.{up_is, nn_is, up_nn, zero_off, which, twice}
use Rattle.means_area.proofs.Flats.Turns.{flip}
use Rattle.means_area.proofs.Space.Maps.{map_of, map_link}
use Rattle.means_inside.specs.Regions.{Cut, one, chord, ear, start, InTriangle, left, right, At}
use Rattle.means_inside.specs.Touch.{Touch}
use Rattle.means_inside.specs.Means.{big}
use Rattle.means_inside.specs.Convex.{NextAlong, Next, Hand, lefts, rights, handed, OnHand}
use Rattle.means_inside.specs.Theorems.{NotBeyondInside, ConvexMeans}
use Rattle.means_inside.proofs.Triangle.{shift, shift_is, shift_up, not_left}
use Rattle.means_inside.proofs.Larger.{big-turn, small_eq}
use Rattle.means_inside.proofs.Sides.{step_split, step_left, step_right, step_end, step_last, link_next, next-apart}
use Rattle.means_inside.proofs.Inside.{io, inside_off, every_ray_says, means}

-- ---- down to a triangle
module _ (m : ℤ) (h : Hand) (f : Flat → Flat) (p : Flat) where
  abbrev P : Flat → Flat → Type 0
  P a b = Nn (handed h (twice_area (f a) (f b) p))

  abbrev All : List Flat → Type 0
  All g = (a b : Flat) → Next g a b → P a b

  to : (x y a b : Flat) → P x y → (a ≡ x) × (b ≡ y) → P a b
  to x y a b k e = subst (λ (z : Flat). P z b) (sym e.0) (subst (λ (z : Flat). P x z) (sym e.1) k)

  -- on one hand of a chord, or of the chord back
  hands : (h : Hand) (x y : ℤ) → y ≡ neg_ℤ x → Nn (handed h x) ⊎ Nn (handed h y)
  hands lefts x y e = go (which x)
    where
      go : Up x ⊎ Nn (neg_ℤ x) → Nn x ⊎ Nn y
      go (inl k) = inl (up_nn k)
      go (inr k) = inr (nn_is (sym e) k)
  hands rights x y e = go (which x)
    where
      go : Up x ⊎ Nn (neg_ℤ x) → Nn (neg_ℤ x) ⊎ Nn (neg_ℤ y)
      go (inl k) = inr (nn_is (twice x ∙ ap neg_ℤ (sym e)) (up_nn k))
      go (inr k) = inl k

  either : (u w : Flat) → P u w ⊎ P w u
  either u w = hands h (twice_area (f u) (f w) p) (twice_area (f w) (f u) p) (flip (f w) (f u) p)

  in3 : (h : Hand) (x y z : ℤ) (a b c : Flat) → twice_area a b p ≡ x → twice_area b c p ≡ y → twice_area c a p ≡ z → Nn (handed h x) → Nn (handed h y)
      → Nn (handed h z) → InTriangle a b c p
  in3 lefts x y z a b c ex ey ez i j k = left (nn_is (sym ex) i) (nn_is (sym ey) j) (nn_is (sym ez) k)
  in3 rights x y z a b c ex ey ez i j k =
      right (nn_is (ap neg_ℤ (sym ex)) i) (nn_is (ap neg_ℤ (sym ey)) j) (nn_is (ap neg_ℤ (sym ez)) k)

  within3 : (a b c : Flat) → P a b → P b c → P c a → InTriangle (f a) (f b) (f c) p
  within3 a b c =
      in3 h (twice_area (f a) (f b) p) (twice_area (f b) (f c) p) (twice_area (f c) (f a) p) (f a) (f b) (f c) refl refl refl

  -- the parts
  part1 : (u : Flat) (l : List Flat) (w : Flat) (r : List Flat) → All (u ∷ (l ++ w ∷ r)) → P w u → All (u ∷ (l ++ w ∷ []))
  part1 u l w r k q a b s = go (step_split u l w [] u a b s)
    where
      go : NextAlong u l w a b ⊎ ((a ≡ w) × (b ≡ u)) → P a b
      go (inl t) = k a b (step_left u l w r u a b t)
      go (inr t) = to w u a b q t

  part2 : (u : Flat) (l : List Flat) (w : Flat) (r : List Flat) → All (u ∷ (l ++ w ∷ r)) → P u w → All (u ∷ w ∷ r)
  part2 u l w r k q a b (inl t) = to u w a b q t
  part2 u l w r k q a b (inr t) = k a b (step_right u l w r u a b t)

  rest : (u c : Flat) (l : List Flat) → All (u ∷ c ∷ l) → P (lst c l) c → All (c ∷ l)
  rest u c l k q a b s = go (step_end c l c u a b s)
    where
      go : NextAlong c l u a b ⊎ ((a ≡ lst c l) × (b ≡ c)) → P a b
      go (inl t) = k a b (inr t)
      go (inr t) = to (lst c l) c a b q t

  from : (x : Flat) (l : List Flat) (y : Flat) (r : List Flat) → All (x ∷ (l ++ y ∷ r)) → All (y ∷ (r ++ x ∷ l))
  from x l y r k a b s = go (step_split y r x l y a b s)
    where
      go : NextAlong y r x a b ⊎ NextAlong x l y a b → P a b
      go (inl t) = k a b (step_right x l y r x a b t)
      go (inr t) = k a b (step_left x l y r x a b t)

  -- of any triangulation
  pub in_one : (g : List Flat) (t : Cut m g) → All g → At f t p
  in_one _ (one a b c s) k = within3 a b c (k a b (inl (refl, refl))) (k b c (inr (inl (refl, refl)))) (k c a (inr (inr (refl, refl))))
  in_one _ (chord u l w r s x y) k =
      ⊎_elim (λ q. inr (in_one (u ∷ w ∷ r) y (part2 u l w r k q))) (λ q. inl (in_one (u ∷ (l ++ w ∷ [])) x (part1 u l w r k q)))
      (either u w)
  in_one _ (ear u c l s t x) k =
      ⊎_elim (λ q. inl (within3 u c (lst c l) (k u c (inl (refl, refl))) q (k (lst c l) u (inr (step_last c l u)))))
      (λ q. inr (in_one (c ∷ l) x (rest u c l k q))) (either c (lst c l))
  in_one _ (start x l y r t) k = in_one (y ∷ (r ++ x ∷ l)) t (from x l y r k)

pub not_beyond_inside : NotBeyondInside
not_beyond_inside m g n s h d k p w t =
    let r = means m g n s in
    r.is_inside_lem d k p (in_one m h (big d) p g r.cut w) t

-- ---- a line that has all corners on one hand
module _ (d : ℤ) (k : Up d) (g : List Flat) (p : Flat) (e : where_flat p d g ≡ Inside) where
  to-left : (a b : Flat) → (a ≡ b → ⊥) → ((z : Flat) → Of z (map (big d) g) → Nn (twice_area a b z)) → Up (twice_area a b p)
  to-left a b n w = go (which (twice_area a b p))
    where
      place : (z : Flat) → twice_area a b z +ℤ neg_ℤ (twice_area a b p) ≡ neg_ℤ (twice_area p (shift p b a) z)
      place z =
          (λ i. flip a b z i +ℤ neg_ℤ (flip a b p i))
          ∙ ring (twice_area b a z ∷ twice_area b a p ∷ []) (neg (var 0) ⊕ neg (neg (var 1))) (neg (var 0 ⊕ neg (var 1))) tt
          ∙ ap neg_ℤ (sym (shift_is p b a z))

      go : Up (twice_area a b p) ⊎ Nn (neg_ℤ (twice_area a b p)) → Up (twice_area a b p)
      go (inl u) = u
      go (inr u) =
          absurd
          (io
          (sym e
          ∙ (every_ray_says d k g p (shift p b a) (shift_up p b a n) (inside_off d k g p e)).1
          (not_left p (shift p b a) (map (big d) g) (λ z o. nn_is (place z) (add_nonneg (w z o) u)))))

  on_hand : (h : Hand) (a b : Flat) → (a ≡ b → ⊥) → ((z : Flat) → Of z (map (big d) g) → Nn (handed h (twice_area a b z)))
      → Up (handed h (twice_area a b p))
  on_hand lefts a b n w = to-left a b n w
  on_hand rights a b n w = up_is (flip b a p) (to-left b a (λ q. n (sym q)) (λ z o. nn_is (sym (flip b a z)) (w z o)))

-- ---- both
module _ (m : ℤ) (g : List Flat) (h : Hand) (d : ℤ) (k : Up d) where
  larger : (h : Hand) (a b c : Flat) → Nn (handed h (twice_area a b c)) → Nn (handed h (twice_area (big d a) (big d b) (big d c)))
  larger lefts a b c w = nn_is (sym (big-turn m d k a b c)) (mul_nonneg (up_nn k) (mul_nonneg (up_nn k) w))
  larger rights a b c w =
      nn_is (flip (big d b) (big d a) (big d c))
      (nn_is (sym (big-turn m d k b a c)) (mul_nonneg (up_nn k) (mul_nonneg (up_nn k) (nn_is (sym (flip b a c)) w))))

  strict : (h : Hand) (t : ℤ) → Up (handed h t) → (t ≡ pos 0 → ⊥) × Nn (handed h t)
  strict lefts t w = ((λ z. zero_off z w), up_nn w)
  strict rights t w = ((λ z. zero_off (ap neg_ℤ z) w), up_nn w)

  no_touch : (p : Flat) → OnHand h d g p → Touch p (map (big d) g) → ⊥
  no_touch p w t = go (link_next g r.0 r.1 r.2)
    where
      r : (b : Flat) × (c : Flat) × Link g b c × (t.a ≡ big d b) × (t.b ≡ big d c)
      r = map_link (big d) g t.a t.b t.side

      zero : twice_area (big d r.0) (big d r.1) p ≡ pos 0
      zero = (λ i. twice_area (sym r.3 i) (sym r.4 i) p) ∙ t.line

      go : Next g r.0 r.1 ⊎ Next g r.1 r.0 → ⊥
      go (inl s) = (strict h (twice_area (big d r.0) (big d r.1) p) (w r.0 r.1 s)).0 zero
      go (inr s) =
          (strict h (twice_area (big d r.1) (big d r.0) p) (w r.1 r.0 s)).0 (flip (big d r.1) (big d r.0) p ∙ ap neg_ℤ zero)

pub convex_means : ConvexMeans
convex_means m g n s h c d k p = (
  (λ e a b t. on_hand d k g p e h (big d a) (big d b)
      (λ q. next-apart m g (omega (arith, n)) s.apart a b t (small_eq m d k a b (ap (height m) q)))
      (λ z o. let r = map_of (big d) z g o in
      subst (λ (y : Flat). Nn (handed h (twice_area (big d a) (big d b) y))) (sym r.2)
      (larger m g h d k h a b r.0 (c a b r.0 t r.1)))),
  (λ w. not_beyond_inside m g n s h d k p
      (λ a b t. (strict m g h d k h (twice_area (big d a) (big d b) p) (w a b t)).1) (no_touch m g h d k p w)),
)
