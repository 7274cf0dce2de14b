-- A point p / d against a ring is p against the ring d times as large.
use mathlib.Core.Path.{◌≡◌, refl, sym, ◌∙◌, ap, subst}
use mathlib.Core.Bool.{Bool, true, false, ◌&&◌, ◌||◌, xor, true≢false}
use mathlib.Core.Logic.{◌⊎◌, inl, inr}
use mathlib.Core.List.{List, [], ◌∷◌, map}
use native.Mathlib.Omega.{arith}
use lib.IntN.{ℤ, pos, neg_ℤ, ◌+ℤ◌, ◌-ℤ◌, ◌*ℤ◌}
use lib.Signed.{le_z, ◌≤ℤ◌, ◌<ℤ◌, clash_ℤ}
use Rattle.lists.specs.Lists.{sides, sides_from, any_true, odd_true}
use Rattle.lists.proofs.Truth.{never_true, or-none, and_left, and_right, and_both, or_right}
use Rattle.exact.proofs.Ring.{var, con, ◌⊕◌, ◌⊖◌, ◌⊗◌, neg, ring}
use Rattle.exact.proofs.Linear.{le_by, le_to}
use Rattle.exact.proofs.Order.{mul-pos, mul_nonneg, add_nonneg, sub_nonneg, sub_pos, square_nonneg, ring_with}
use Rattle.exact.proofs.Signs.{le_yes, le_is, lt-or-ge, mul-zero, pos-ne, <ℤ-≤ℤ}
use Rattle.paper.specs.Points.{is_zero, above, below}
use Rattle.paper.specs.Polygon.{spans, between, touches, under, meets_ray, crosses}
use Rattle.paper.specs.declared.Flat.{Flat}
use Rattle.paper_laws.proofs.Points.{zero_yes, zero_is}
use Rattle.means_area.specs.Rings.{Chain, TheTwo}
use Rattle.means_area.specs.Flats.{Up, Nn, twice_area}
use Rattle.means_area.proofs.Flats.Signs.{up_is, nn_is, up_nn, off, ways, which, up_add, nn_out}
use Rattle.means_area.proofs.Flats.Turns.{env, u_e, v_e, tE}
use Rattle.means_inside.specs.Beams.{odd_along, right, beam, facing, Off, OffEverySide, odd, east}
use Rattle.means_inside.specs.Touch.{Touch}
use Rattle.means_inside.specs.Means.{big}
use Rattle.means_inside.proofs.Parity.{odd-round}
use Rattle.means_inside.proofs.Beams.{above_is, above_no, below_is, below_no}
use Rattle.means_inside.proofs.Segment.{beam_back}
use Rattle.means_inside.proofs.Ears.{off_back}

-- ---- the tests
module _ (p : Flat) (d : ℤ) (k : Up d) where
  turn_is : (a b : Flat) → twice_area (big d a) (big d b) p ≡ d *ℤ Rattle.paper.specs.Polygon.turn a b p d
  unfolding twice_area Rattle.paper.specs.Polygon.turn
  turn_is a b =
      ring (env d (a ∷ b ∷ p ∷ []))
      ((var 0 ⊗ u_e 1 ⊖ var 0 ⊗ u_e 0) ⊗ (v_e 2 ⊖ var 0 ⊗ v_e 0) ⊖ (var 0 ⊗ v_e 1 ⊖ var 0 ⊗ v_e 0) ⊗ (u_e 2 ⊖ var 0 ⊗ u_e 0))
      (var 0 ⊗ ((u_e 1 ⊖ u_e 0) ⊗ (v_e 2 ⊖ var 0 ⊗ v_e 0) ⊖ (v_e 1 ⊖ v_e 0) ⊗ (u_e 2 ⊖ var 0 ⊗ u_e 0))) tt

  times_np : (t : ℤ) → Up (neg_ℤ t) → Up (neg_ℤ (d *ℤ t))
  times_np t h = up_is (ring (d ∷ t ∷ []) (var 0 ⊗ neg (var 1)) (neg (var 0 ⊗ var 1)) tt) (mul-pos k h)

  pub ray_scale : (x y : Bool) (t : ℤ) → meets_ray x y (d *ℤ t) ≡ meets_ray x y t
  unfolding meets_ray
  ray_scale true true t = refl
  ray_scale false false t = refl
  ray_scale true false t = go (ways t)
    where
      go : Up t ⊎ ((t ≡ pos 0) ⊎ Up (neg_ℤ t)) → above (d *ℤ t) ≡ above t
      go (inl h) = above_is (d *ℤ t) (mul-pos k h) ∙ sym (above_is t h)
      go (inr (inl e)) = ap above (ap (λ (z : ℤ). d *ℤ z) e ∙ ring (d ∷ []) (var 0 ⊗ con (pos 0)) (con (pos 0)) tt ∙ sym e)
      go (inr (inr h)) = above_no (d *ℤ t) (up_nn (times_np t h)) ∙ sym (above_no t (up_nn h))
  ray_scale false true t = go (ways t)
    where
      go : Up t ⊎ ((t ≡ pos 0) ⊎ Up (neg_ℤ t)) → below (d *ℤ t) ≡ below t
      go (inl h) = below_no (d *ℤ t) (up_nn (mul-pos k h)) ∙ sym (below_no t (up_nn h))
      go (inr (inl e)) = ap below (ap (λ (z : ℤ). d *ℤ z) e ∙ ring (d ∷ []) (var 0 ⊗ con (pos 0)) (con (pos 0)) tt ∙ sym e)
      go (inr (inr h)) = below_is (d *ℤ t) (times_np t h) ∙ sym (below_is t h)

  -- at most as high
  under_is : (a : Flat) → right p (east p) (big d a) ≡ under p d a
  unfolding right under twice_area
  under_is a = go (lt-or-ge p.v (d *ℤ a.v))
    where
      e : twice_area p (east p) (big d a) ≡ d *ℤ a.v -ℤ p.v
      e =
          ring (d ∷ p.u ∷ p.v ∷ a.u ∷ a.v ∷ [])
          ((var 1 ⊕ con (pos 1) ⊖ var 1) ⊗ (var 0 ⊗ var 4 ⊖ var 2) ⊖ (var 2 ⊖ var 2) ⊗ (var 0 ⊗ var 3 ⊖ var 1)) (var 0 ⊗ var 4 ⊖ var 2) tt

      go : (p.v <ℤ (d *ℤ a.v)) ⊎ ((d *ℤ a.v) ≤ℤ p.v) → le_z (twice_area p (east p) (big d a)) (pos 0) ≡ le_z (d *ℤ a.v) p.v
      go (inl h) =
          never_true (le_z (twice_area p (east p) (big d a)) (pos 0)) (λ q. clash_ℤ (up_is (sym e) (sub_pos h)) (le_yes q))
          ∙ sym (never_true (le_z (d *ℤ a.v) p.v) (λ q. clash_ℤ h (le_yes q)))
      go (inr h) =
          ap (λ (z : ℤ). le_z z (pos 0)) e
          ∙ le_is (let ρ = (d *ℤ a.v) ∷ p.v ∷ [] in le_by ρ (var 0 ⊖ var 1) (con (pos 0)) (omega (arith, le_to ρ (var 0) (var 1) h)))
          ∙ sym (le_is h)

  crosses_is : (a b : Flat) → beam p (east p) (big d a) (big d b) ≡ crosses p d a b
  unfolding beam crosses
  crosses_is a b =
      (λ i. meets_ray (under_is a i) (under_is b i) (turn_is a b i))
      ∙ ray_scale (under p d a) (under p d b) (Rattle.paper.specs.Polygon.turn a b p d)

  pub crosses_back : (a b : Flat) → crosses p d a b ≡ crosses p d b a
  crosses_back a b = sym (crosses_is a b) ∙ beam_back p (east p) (big d a) (big d b) ∙ crosses_is b a

  walk_map : (x : Flat) (l : List Flat) (e : Flat) → odd_along (beam p (east p)) (big d x) (map (big d) l) (big d e) ≡ odd_along (crosses p d) x l e
  walk_map x [] e = crosses_is x e
  walk_map x (y ∷ l) e = λ i. xor (crosses_is x y i) (walk_map y l e i)

  pub odd_is : (g : List Flat) → odd_true (sides (crosses p d) g) ≡ odd p (map (big d) g)
  odd_is [] = odd-round (crosses p d) []
  odd_is (x ∷ l) = odd-round (crosses p d) (x ∷ l) ∙ sym (walk_map x l x)

  -- ---- on a side
  -- p is in the span of a and b
  span_yes : (a b q : ℤ) → spans a b q ≡ true → Nn (neg_ℤ ((a -ℤ q) *ℤ (b -ℤ q)))
  unfolding spans
  span_yes a b q e = go (le_z a q && le_z q b) refl
    where
      one : a ≤ℤ q → q ≤ℤ b → Nn (neg_ℤ ((a -ℤ q) *ℤ (b -ℤ q)))
      one h l =
          nn_is (ring (a ∷ b ∷ q ∷ []) ((var 2 ⊖ var 0) ⊗ (var 1 ⊖ var 2)) (neg ((var 0 ⊖ var 2) ⊗ (var 1 ⊖ var 2))) tt)
          (mul_nonneg (sub_nonneg h) (sub_nonneg l))

      two : b ≤ℤ q → q ≤ℤ a → Nn (neg_ℤ ((a -ℤ q) *ℤ (b -ℤ q)))
      two h l =
          nn_is (ring (a ∷ b ∷ q ∷ []) ((var 2 ⊖ var 1) ⊗ (var 0 ⊖ var 2)) (neg ((var 0 ⊖ var 2) ⊗ (var 1 ⊖ var 2))) tt)
          (mul_nonneg (sub_nonneg h) (sub_nonneg l))

      go : (x : Bool) → (le_z a q && le_z q b) ≡ x → Nn (neg_ℤ ((a -ℤ q) *ℤ (b -ℤ q)))
      go true f = one (le_yes (and_left (le_z a q) (le_z q b) f)) (le_yes (and_right (le_z a q) (le_z q b) f))
      go false f =
          let f' : (le_z b q && le_z q a) ≡ true = (λ i. sym f i || (le_z b q && le_z q a)) ∙ e in
          two (le_yes (and_left (le_z b q) (le_z q a) f')) (le_yes (and_right (le_z b q) (le_z q a) f'))

  span_is : (a b q : ℤ) → Nn (neg_ℤ ((a -ℤ q) *ℤ (b -ℤ q))) → spans a b q ≡ true
  unfolding spans
  span_is a b q h = go (lt-or-ge q a) (lt-or-ge q b) (lt-or-ge a q) (lt-or-ge b q)
    where
      first : a ≤ℤ q → q ≤ℤ b → (le_z a q && le_z q b) || (le_z b q && le_z q a) ≡ true
      first s t = λ i. and_both (le_is s) (le_is t) i || (le_z b q && le_z q a)

      second : b ≤ℤ q → q ≤ℤ a → (le_z a q && le_z q b) || (le_z b q && le_z q a) ≡ true
      second s t = or_right (le_z a q && le_z q b) (le_z b q && le_z q a) (and_both (le_is s) (le_is t))

      go : (q <ℤ a) ⊎ (a ≤ℤ q) → (q <ℤ b) ⊎ (b ≤ℤ q) → (a <ℤ q) ⊎ (q ≤ℤ a) → (b <ℤ q) ⊎ (q ≤ℤ b)
          → (le_z a q && le_z q b) || (le_z b q && le_z q a) ≡ true
      go (inl s) (inl t) x y = absurd (off (mul-pos (sub_pos s) (sub_pos t)) h)
      go (inl s) (inr t) x y = second t (<ℤ-≤ℤ s)
      go (inr s) (inl t) x y = first s (<ℤ-≤ℤ t)
      go (inr s) (inr t) (inl x) (inl y) =
          absurd
          (off
          (up_is (ring (a ∷ b ∷ q ∷ []) ((var 2 ⊖ var 0) ⊗ (var 2 ⊖ var 1)) ((var 0 ⊖ var 2) ⊗ (var 1 ⊖ var 2)) tt)
          (mul-pos (sub_pos x) (sub_pos y))) h)
      go (inr s) (inr t) (inr x) y = second t x
      go (inr s) (inr t) (inl x) (inr y) = first s y

  -- of two numbers whose product is not below 0 and whose sum is not above 0 none is above 0
  both_low : (x y : ℤ) → Nn (x *ℤ y) → Nn (neg_ℤ (x +ℤ y)) → Nn (neg_ℤ x)
  both_low x y h s = go (which x)
    where
      go : Up x ⊎ Nn (neg_ℤ x) → Nn (neg_ℤ x)
      go (inr n) = n
      go (inl u) = absurd (off (up_add u (nn_out x u h)) s)

  neg_sum : (x y : ℤ) → neg_ℤ x +ℤ neg_ℤ y ≡ neg_ℤ (x +ℤ y)
  neg_sum x y = ring (x ∷ y ∷ []) (neg (var 0) ⊕ neg (var 1)) (neg (var 0 ⊕ var 1)) tt

  side_yes : (a b : Flat) → touches p d a b ≡ true → (twice_area (big d a) (big d b) p ≡ pos 0) × Nn (neg_ℤ (facing p (big d a) (big d b)))
  unfolding touches between facing
  side_yes a b e =
      let z = is_zero (Rattle.paper.specs.Polygon.turn a b p d) in
      let su = spans (d *ℤ a.u) (d *ℤ b.u) p.u in
      let sv = spans (d *ℤ a.v) (d *ℤ b.v) p.v in
      let f = and_right z (su && sv) e in (
        turn_is a b ∙ ap (λ (t : ℤ). d *ℤ t) (zero_yes (Rattle.paper.specs.Polygon.turn a b p d) (and_left z (su && sv) e))
            ∙ ring (d ∷ []) (var 0 ⊗ con (pos 0)) (con (pos 0)) tt,
        nn_is (neg_sum ((d *ℤ a.u -ℤ p.u) *ℤ (d *ℤ b.u -ℤ p.u)) ((d *ℤ a.v -ℤ p.v) *ℤ (d *ℤ b.v -ℤ p.v)))
            (add_nonneg (span_yes (d *ℤ a.u) (d *ℤ b.u) p.u (and_left su sv f))
            (span_yes (d *ℤ a.v) (d *ℤ b.v) p.v (and_right su sv f))),
      )

  -- the products of the coordinates of two directions in a line
  in_line_lem : (a b : Flat) → twice_area a b p ≡ pos 0
      → ((a.u -ℤ p.u) *ℤ (b.u -ℤ p.u)) *ℤ ((a.v -ℤ p.v) *ℤ (b.v -ℤ p.v))
      ≡ ((a.u -ℤ p.u) *ℤ (b.v -ℤ p.v)) *ℤ ((a.u -ℤ p.u) *ℤ (b.v -ℤ p.v))
  unfolding twice_area
  in_line_lem a b e =
      ring_with (env (pos 0) (a ∷ b ∷ p ∷ [])) (((u_e 0 ⊖ u_e 2) ⊗ (u_e 1 ⊖ u_e 2)) ⊗ ((v_e 0 ⊖ v_e 2) ⊗ (v_e 1 ⊖ v_e 2)))
      (((u_e 0 ⊖ u_e 2) ⊗ (v_e 1 ⊖ v_e 2)) ⊗ ((u_e 0 ⊖ u_e 2) ⊗ (v_e 1 ⊖ v_e 2)))
      (neg ((u_e 0 ⊖ u_e 2) ⊗ (v_e 1 ⊖ v_e 2))) (tE 0 1 2) (con (pos 0)) tt e

  side_is : (a b : Flat) → twice_area (big d a) (big d b) p ≡ pos 0 → Nn (neg_ℤ (facing p (big d a) (big d b))) → touches p d a b ≡ true
  unfolding touches between facing
  side_is a b e f =
      let X = (d *ℤ a.u -ℤ p.u) *ℤ (d *ℤ b.u -ℤ p.u) in
      let Y = (d *ℤ a.v -ℤ p.v) *ℤ (d *ℤ b.v -ℤ p.v) in
      let W = (d *ℤ a.u -ℤ p.u) *ℤ (d *ℤ b.v -ℤ p.v) in
      let q : Nn (X *ℤ Y) = nn_is (sym (in_line_lem (big d a) (big d b) e)) (square_nonneg W) in
      and_both (zero_is (mul-zero d (Rattle.paper.specs.Polygon.turn a b p d) (pos-ne k) (sym (turn_is a b) ∙ e)))
      (and_both (span_is (d *ℤ a.u) (d *ℤ b.u) p.u (both_low X Y q f))
      (span_is (d *ℤ a.v) (d *ℤ b.v) p.v
      (both_low Y X (nn_is (ring (X ∷ Y ∷ []) (var 0 ⊗ var 1) (var 1 ⊗ var 0) tt) q)
      (nn_is (ring (X ∷ Y ∷ []) (neg (var 0 ⊕ var 1)) (neg (var 1 ⊕ var 0)) tt) f))))

  -- ---- the ring
  abbrev G : List Flat → List Flat
  G g = map (big d) g

  some_side : (a x : Flat) (l : List Flat) → any_true (sides_from (touches p d) a x l) ≡ true
      → (q : Flat) × (r : Flat) × Chain (big d x) (map (big d) l) (big d a) (big d q) (big d r) × (touches p d q r ≡ true)
  unfolding any_true sides_from
  some_side a x [] e = (x, a, inl (refl, refl), or_one (touches p d x a) false e)
    where
      or_one : (s t : Bool) → (s || false) ≡ true → s ≡ true
      or_one true t f = refl
      or_one false t f = f
  some_side a x (y ∷ l) e = go (touches p d x y) refl (λ q. some_side a y l q)
    where
      go : (s : Bool) → touches p d x y ≡ s
          → (any_true (sides_from (touches p d) a y l) ≡ true
          → (q : Flat) × (r : Flat) × Chain (big d y) (map (big d) l) (big d a) (big d q) (big d r) × (touches p d q r ≡ true))
          → (q : Flat) × (r : Flat)
          × (TheTwo (big d x) (big d y) (big d q) (big d r) ⊎ Chain (big d y) (map (big d) l) (big d a) (big d q) (big d r))
          × (touches p d q r ≡ true)
      go true f rec = (x, y, inl (inl (refl, refl)), f)
      go false f rec = let t = rec ((λ i. sym f i || any_true (sides_from (touches p d) a y l)) ∙ e) in (t.0, t.1, inr t.2, t.3)

  -- no side passes
  off_no : (a b : Flat) → touches p d a b ≡ false → Off p (big d a) (big d b)
  off_no a b e z = go (which (facing p (big d a) (big d b)))
    where
      go : Up (facing p (big d a) (big d b)) ⊎ Nn (neg_ℤ (facing p (big d a) (big d b))) → Up (facing p (big d a) (big d b))
      go (inl h) = h
      go (inr h) = absurd (true≢false (sym (side_is a b z h) ∙ e))

  pair_off : (x y q r : Flat) → Off p x y → TheTwo x y q r → Off p q r
  pair_off x y q r o (inl e) = subst (λ (z : Flat). Off p z r) (sym e.0) (subst (λ (z : Flat). Off p x z) (sym e.1) o)
  pair_off x y q r o (inr e) =
      subst (λ (z : Flat). Off p z r) (sym e.0) (subst (λ (z : Flat). Off p y z) (sym e.1) (off_back p x y o))

  no_side : (a x : Flat) (l : List Flat) → any_true (sides_from (touches p d) a x l) ≡ false → (q r : Flat)
      → Chain (big d x) (map (big d) l) (big d a) q r → Off p q r
  unfolding any_true sides_from
  no_side a x [] e q r c = pair_off (big d x) (big d a) q r (off_no x a (or-none (touches p d x a) false e).0) c
  no_side a x (y ∷ l) e q r (inl c) =
      pair_off (big d x) (big d y) q r (off_no x y (or-none (touches p d x y) (any_true (sides_from (touches p d) a y l)) e).0) c
  no_side a x (y ∷ l) e q r (inr c) = no_side a y l (or-none (touches p d x y) (any_true (sides_from (touches p d) a y l)) e).1 q r c

  pub any-clear : (g : List Flat) → any_true (sides (touches p d) g) ≡ false → OffEverySide p (G g)
  unfolding sides
  any-clear [] e q r c = absurd c
  any-clear (x ∷ l) e q r c = no_side x x l e q r c

  pub any_touch : (g : List Flat) → any_true (sides (touches p d) g) ≡ true → Touch p (G g)
  unfolding sides any_true
  any_touch [] e = absurd (true≢false (sym e))
  any_touch (x ∷ l) e =
      let t = some_side x x l e in
      let s = side_yes t.0 t.1 t.3 in
      record { a = big d t.0; b = big d t.1; side = t.2; line = s.0; mid = s.1 }

  -- a point on a side is not off all
  pub touch_not : (g : List Flat) → OffEverySide p (G g) → Touch p (G g) → ⊥
  touch_not g c t = off (c t.a t.b t.side t.line) t.mid
