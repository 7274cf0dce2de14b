-- Two segments in one line: where they have a common point.
use mathlib.Core.Path.{◌≡◌, refl, sym, ◌∙◌, ap}
use mathlib.Core.Bool.{true, not, ◌&&◌, true≢false}
use mathlib.Core.Logic.{◌⊎◌, inl, inr}
use mathlib.Core.List.{[], ◌∷◌}
use native.Mathlib.Omega.{arith}
use lib.IntN.{ℤ, pos, neg_ℤ, ◌+ℤ◌, ◌-ℤ◌, ◌*ℤ◌}
use lib.Signed.{le_z, ◌≤ℤ◌, ◌<ℤ◌, ≤ℤ_refl, clash_ℤ}
use Rattle.exact.proofs.Ring.{var, con, ◌⊕◌, ◌⊖◌, neg}
use Rattle.exact.proofs.Signs.{lt-or-ge, <ℤ-≤ℤ, le_yes, le_is, pos-ne, lt_subst, le_subst}
use Rattle.exact.proofs.Order.{mul-pos, mul-le, mul-lt, add_le, sub_nonneg, lt_chain, one_pos}
use Rattle.exact.proofs.Linear.{le_by, le_to, lt_to, lt_by}
use Rattle.lists.proofs.Truth.{and_left, and_right, and_both, not_both}
use Rattle.paper.specs.Points.{origin, plus, minus, times, dot, cross}
use Rattle.paper.specs.Drawing.{overlap}
use Rattle.paper.specs.declared.Point.{Point}
use Rattle.paper_laws.proofs.Points.{point_diff, from-dot, scale_zero, cancel, in_line_lem, self_pos}
use Rattle.means_drawing.specs.Segments.{Inner, Whole}
use Rattle.paper_laws.proofs.Vectors.{num, vec, k, x, ◌+s◌, ◌-s◌, ◌*s◌, negs, ◌·◌, o, v, ◌+v◌, ◌-v◌, ◌*v◌, ◌×v◌, vring}
use Rattle.means_drawing.proofs.Segments.Crossing.{Meet}

-- ---- in one line: u is the place of c along the segment from a (0) to b (m), and u + g that of d

pub record Places (m u g : ℤ) : Type 0 where
  pub here : Inner
  pub there : Whole
  pub is : (there.scale *ℤ here.place) *ℤ m ≡ (here.scale *ℤ there.scale) *ℤ u +ℤ (here.scale *ℤ there.place) *ℤ g

module _ (m u g : ℤ) (mp : pos 0 <ℤ m) where
  -- c itself, d itself, or the middle between a and b
  at_c : pos 0 <ℤ u → u <ℤ m → Places m u g
  at_c h l = record {
    here = record { scale = m; place = u; after = h; before = l };
    there = record { scale = pos 1; place = pos 0; some = one_pos; least = ≤ℤ_refl (pos 0); most = <ℤ-≤ℤ one_pos };
    is = vring (num m ∷ num u ∷ num g ∷ []) ((k (pos 1) *s x 1) *s x 0) ((x 0 *s k (pos 1)) *s x 1 +s (x 0 *s k (pos 0)) *s x 2) tt;
  }

  at_d : pos 0 <ℤ (u +ℤ g) → (u +ℤ g) <ℤ m → Places m u g
  at_d h l = record {
    here = record { scale = m; place = u +ℤ g; after = h; before = l };
    there = record { scale = pos 1; place = pos 1; some = one_pos; least = <ℤ-≤ℤ one_pos; most = ≤ℤ_refl (pos 1) };
    is =
        vring (num m ∷ num u ∷ num g ∷ []) ((k (pos 1) *s (x 1 +s x 2)) *s x 0) ((x 0 *s k (pos 1)) *s x 1 +s (x 0 *s k (pos 1)) *s x 2)
        tt;
  }

  two : pos 1 <ℤ pos 2
  two = record { lt = tt }

  middle_up : u ≤ℤ pos 0 → m ≤ℤ (u +ℤ g) → Places m u g
  middle_up h l =
      let ρ = m ∷ u ∷ g ∷ [] in
      let h' = le_to ρ (var 1) (con (pos 0)) h in
      let l' = le_to ρ (var 0) (var 1 ⊕ var 2) l in
      let m' = lt_to ρ (con (pos 0)) (var 0) mp in
      record {
        here = record { scale = pos 2; place = pos 1; after = one_pos; before = two };
        there = record {
          scale = g +ℤ g;
          place = m -ℤ (u +ℤ u);
          some = lt_by ρ (con (pos 0)) (var 2 ⊕ var 2) (omega (arith, h', l', m'));
          least = le_by ρ (con (pos 0)) (var 0 ⊖ (var 1 ⊕ var 1)) (omega (arith, h', l', m'));
          most = le_by ρ (var 0 ⊖ (var 1 ⊕ var 1)) (var 2 ⊕ var 2) (omega (arith, h', l', m'));
        };
        is = vring (num m ∷ num u ∷ num g ∷ []) (((x 2 +s x 2) *s k (pos 1)) *s x 0)
            ((k (pos 2) *s (x 2 +s x 2)) *s x 1 +s (k (pos 2) *s (x 0 -s (x 1 +s x 1))) *s x 2) tt;
      }

  middle_down : m ≤ℤ u → (u +ℤ g) ≤ℤ pos 0 → Places m u g
  middle_down h l =
      let ρ = m ∷ u ∷ g ∷ [] in
      let h' = le_to ρ (var 0) (var 1) h in
      let l' = le_to ρ (var 1 ⊕ var 2) (con (pos 0)) l in
      let m' = lt_to ρ (con (pos 0)) (var 0) mp in
      record {
        here = record { scale = pos 2; place = pos 1; after = one_pos; before = two };
        there = record {
          scale = neg_ℤ (g +ℤ g);
          place = (u +ℤ u) -ℤ m;
          some = lt_by ρ (con (pos 0)) (neg (var 2 ⊕ var 2)) (omega (arith, h', l', m'));
          least = le_by ρ (con (pos 0)) ((var 1 ⊕ var 1) ⊖ var 0) (omega (arith, h', l', m'));
          most = le_by ρ ((var 1 ⊕ var 1) ⊖ var 0) (neg (var 2 ⊕ var 2)) (omega (arith, h', l', m'));
        };
        is = vring (num m ∷ num u ∷ num g ∷ []) ((negs (x 2 +s x 2) *s k (pos 1)) *s x 0)
            ((k (pos 2) *s negs (x 2 +s x 2)) *s x 1 +s (k (pos 2) *s ((x 1 +s x 1) -s x 0)) *s x 2) tt;
      }

  pub find : (((u ≤ℤ pos 0) × ((u +ℤ g) ≤ℤ pos 0)) → ⊥) → (((m ≤ℤ u) × (m ≤ℤ (u +ℤ g))) → ⊥) → Places m u g
  find low high = go (lt-or-ge (pos 0) u) (lt-or-ge u m) (lt-or-ge (pos 0) (u +ℤ g)) (lt-or-ge (u +ℤ g) m)
    where
      go : (pos 0 <ℤ u) ⊎ (u ≤ℤ pos 0) → (u <ℤ m) ⊎ (m ≤ℤ u)
          → (pos 0 <ℤ (u +ℤ g)) ⊎ ((u +ℤ g) ≤ℤ pos 0) → ((u +ℤ g) <ℤ m) ⊎ (m ≤ℤ (u +ℤ g)) → Places m u g
      go (inl h) (inl l) y z = at_c h l
      go (inl h) (inr l) (inl y) (inl z) = at_d y z
      go (inl h) (inr l) (inr y) (inl z) = middle_down l y
      go (inl h) (inr l) y (inr z) = absurd (high (l, z))
      go (inr h) l (inl y) (inl z) = at_d y z
      go (inr h) l (inl y) (inr z) = middle_up h z
      go (inr h) l (inr y) z = absurd (low (h, y))

  -- and such places leave c and d neither both at or before a, nor both at or after b
  module _ (t : Places m u g) where
    abbrev D : ℤ
    D = t.here.scale

    abbrev P : ℤ
    P = t.here.place

    abbrev E : ℤ
    E = t.there.scale

    abbrev S : ℤ
    S = t.there.place

    pub Dp : pos 0 <ℤ D
    Dp = lt_chain t.here.after t.here.before

    -- the place is a mean of u and u + g
    mean : (E *ℤ P) *ℤ m ≡ D *ℤ ((E -ℤ S) *ℤ u +ℤ S *ℤ (u +ℤ g))
    mean =
        t.is
        ∙ vring (num D ∷ num E ∷ num S ∷ num u ∷ num g ∷ []) ((x 0 *s x 1) *s x 3 +s (x 0 *s x 2) *s x 4)
        (x 0 *s ((x 1 -s x 2) *s x 3 +s x 2 *s (x 3 +s x 4))) tt

    mean_le : (b : ℤ) → u ≤ℤ b → (u +ℤ g) ≤ℤ b → ((E *ℤ P) *ℤ m) ≤ℤ (D *ℤ (E *ℤ b))
    mean_le b h l =
        le_subst (sym mean) refl (mul-le D (<ℤ-≤ℤ Dp)
        (le_subst refl (vring (num E ∷ num S ∷ num b ∷ []) ((x 0 -s x 1) *s x 2 +s x 1 *s x 2) (x 0 *s x 2) tt)
        (add_le (mul-le (E -ℤ S) (sub_nonneg t.there.most) h) (mul-le S t.there.least l))))

    mean_ge : (b : ℤ) → b ≤ℤ u → b ≤ℤ (u +ℤ g) → (D *ℤ (E *ℤ b)) ≤ℤ ((E *ℤ P) *ℤ m)
    mean_ge b h l =
        le_subst refl (sym mean) (mul-le D (<ℤ-≤ℤ Dp)
        (le_subst (vring (num E ∷ num S ∷ num b ∷ []) ((x 0 -s x 1) *s x 2 +s x 1 *s x 2) (x 0 *s x 2) tt) refl
        (add_le (mul-le (E -ℤ S) (sub_nonneg t.there.most) h) (mul-le S t.there.least l))))

    pub not_low : u ≤ℤ pos 0 → (u +ℤ g) ≤ℤ pos 0 → ⊥
    not_low h l =
        clash_ℤ (mul-pos (mul-pos t.there.some t.here.after) mp)
        (le_subst refl (vring (num D ∷ num E ∷ []) (x 0 *s (x 1 *s k (pos 0))) (k (pos 0)) tt) (mean_le (pos 0) h l))

    pub not_high : m ≤ℤ u → m ≤ℤ (u +ℤ g) → ⊥
    not_high h l =
        clash_ℤ (lt_subst (vring (num E ∷ num P ∷ num m ∷ []) ((x 0 *s x 2) *s x 1) ((x 0 *s x 1) *s x 2) tt)
        (vring (num E ∷ num D ∷ num m ∷ []) ((x 0 *s x 2) *s x 1) (x 1 *s (x 0 *s x 2)) tt)
        (mul-lt (E *ℤ m) (mul-pos t.there.some mp) t.here.before)) (mean_ge m h l)

-- the test is just that
pub overlap_yes : (u w m : ℤ) → overlap u w m ≡ true → (((u ≤ℤ pos 0) × (w ≤ℤ pos 0)) → ⊥) × (((m ≤ℤ u) × (m ≤ℤ w)) → ⊥)
unfolding overlap
overlap_yes u w m e = (
  (λ h. true≢false (sym (and_left (not (le_z u (pos 0) && le_z w (pos 0))) (not (le_z m u && le_z m w)) e)
      ∙ ap not (and_both (le_is h.0) (le_is h.1)))),
  (λ h. true≢false (sym (and_right (not (le_z u (pos 0) && le_z w (pos 0))) (not (le_z m u && le_z m w)) e)
      ∙ ap not (and_both (le_is h.0) (le_is h.1)))),
)

pub overlap_is : (u w m : ℤ) → (u ≤ℤ pos 0 → w ≤ℤ pos 0 → ⊥) → (m ≤ℤ u → m ≤ℤ w → ⊥) → overlap u w m ≡ true
unfolding overlap
overlap_is u w m f g =
    and_both (not_both (le_z u (pos 0)) (le_z w (pos 0)) (λ a b. f (le_yes a) (le_yes b)))
    (not_both (le_z m u) (le_z m w) (λ a b. g (le_yes a) (le_yes b)))

module _ (p q r : Point) (pn : p ≡ origin → ⊥) (par : cross p q ≡ origin) where
  -- by the numbers that p, r and q are times
  line_by : (l m n : ℤ) → l *ℤ dot p p ≡ m *ℤ dot p r +ℤ n *ℤ dot p q → cross p r ≡ origin → times l p ≡ plus (times m r) (times n q)
  line_by l m n h e =
      cancel (dot p p) (times l p) (plus (times m r) (times n q)) (pos-ne (self_pos p pn))
      (vring (num (dot p p) ∷ num l ∷ vec p ∷ []) (x 0 *v (x 1 *v v 2)) ((x 1 *s x 0) *v v 2) tt
      ∙ ap (λ (z : ℤ). times z p) h
      ∙ vring (num m ∷ num n ∷ num (dot p r) ∷ num (dot p q) ∷ vec p ∷ []) ((x 0 *s x 2 +s x 1 *s x 3) *v v 4)
      (x 0 *v (x 2 *v v 4) +v x 1 *v (x 3 *v v 4)) tt
      ∙ (λ i. plus (times m (sym (in_line_lem p r e) i)) (times n (sym (in_line_lem p q par) i)))
      ∙ vring (num m ∷ num n ∷ num (dot p p) ∷ vec q ∷ vec r ∷ []) (x 0 *v (x 2 *v v 4) +v x 1 *v (x 2 *v v 3))
      (x 2 *v (x 0 *v v 4 +v x 1 *v v 3)) tt)

  pub line_meet : cross p r ≡ origin → (t : Places (dot p p) (dot p r) (dot p q))
      → Meet p q r t.here.scale t.here.place t.there.scale t.there.place
  line_meet e t =
      line_by (t.there.scale *ℤ t.here.place) (t.here.scale *ℤ t.there.scale) (t.here.scale *ℤ t.there.place) t.is e

  module _ (h : Inner) (t : Whole) (e : Meet p q r h.scale h.place t.scale t.place) where
    pub meet_line : cross p r ≡ origin
    meet_line =
        scale_zero (h.scale *ℤ t.scale) (cross p r) (pos-ne (mul-pos (lt_chain h.after h.before) t.some))
        (vring (num h.scale ∷ num h.place ∷ num t.scale ∷ num t.place ∷ vec p ∷ vec q ∷ vec r ∷ [])
        ((x 0 *s x 2) *v (v 4 ×v v 6))
        ((v 4 ×v ((((x 0 *s x 2) *v v 6) +v ((x 0 *s x 3) *v v 5)) -v (x 2 *s x 1) *v v 4)) -v ((x 0 *s x 3) *v (v 4 ×v v 5))) tt
        ∙ (λ i. minus (cross p (point_diff (sym e) i)) (times (h.scale *ℤ t.place) (par i)))
        ∙ vring (num h.scale ∷ num t.place ∷ vec p ∷ []) ((v 2 ×v o) -v ((x 0 *s x 1) *v o)) o tt)

    pub meet_places : (t.scale *ℤ h.place) *ℤ dot p p ≡ (h.scale *ℤ t.scale) *ℤ dot p r +ℤ (h.scale *ℤ t.place) *ℤ dot p q
    meet_places =
        from-dot p (vring (num h.scale ∷ num h.place ∷ num t.scale ∷ num t.place ∷ vec p ∷ vec q ∷ vec r ∷ [])
        ((x 2 *s x 1) *s (v 4 · v 4) -s ((x 0 *s x 2) *s (v 4 · v 6) +s (x 0 *s x 3) *s (v 4 · v 5)))
        (v 4 · ((x 2 *s x 1) *v v 4 -v ((x 0 *s x 2) *v v 6 +v (x 0 *s x 3) *v v 5))) tt) e
