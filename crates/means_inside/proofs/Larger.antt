-- A ring that is made d times as large: a simple one stays simple.
use mathlib.Core.Path.{◌≡◌, sym, ◌∙◌, ap, subst}
use mathlib.Core.List.{List, [], ◌∷◌, map}
use lib.IntN.{ℤ, ◌*ℤ◌}
use lib.Signed.{◌<ℤ◌}
use Rattle.exact.proofs.Ring.{var, ◌⊕◌, ◌⊖◌, ◌⊗◌, ring}
use Rattle.exact.proofs.Order.{lt_cancel}
use Rattle.exact.proofs.Signs.{mul-zero, mul_cancelℤ, pos-ne}
use Rattle.paper.specs.declared.Flat.{Flat}
use Rattle.means_area.specs.Rings.{Of, Link}
use Rattle.means_area.specs.Flats.{Up, twice_area, Cross, height, WithinSegment, Distinct, Simple}
use Rattle.means_area.proofs.Flats.Signs.{up_is, up_out}
use Rattle.means_area.proofs.Flats.Turns.{env, u_e, v_e, tE}
use Rattle.means_area.proofs.Space.Maps.{map_of, map_link}
use Rattle.means_area.proofs.Flats.Chains.{link_back, link_of}
use Rattle.means_inside.specs.Beams.{right}
use Rattle.means_inside.specs.Means.{big}

-- ---- a simple ring stays simple
module _ (m d : ℤ) (k : Up d) where
  pub big-turn : (a b c : Flat) → twice_area (big d a) (big d b) (big d c) ≡ d *ℤ (d *ℤ twice_area a b c)
  unfolding twice_area
  big-turn a b c =
      ring (env d (a ∷ b ∷ c ∷ []))
      ((var 0 ⊗ u_e 1 ⊖ var 0 ⊗ u_e 0) ⊗ (var 0 ⊗ v_e 2 ⊖ var 0 ⊗ v_e 0) ⊖ (var 0 ⊗ v_e 1 ⊖ var 0 ⊗ v_e 0) ⊗ (var 0 ⊗ u_e 2 ⊖ var 0 ⊗ u_e 0))
      (var 0 ⊗ (var 0 ⊗ tE 0 1 2)) tt

  pub big-height : (a : Flat) → height m (big d a) ≡ d *ℤ height m a
  unfolding height
  big-height a = ring (m ∷ a.u ∷ a.v ∷ d ∷ []) (var 0 ⊗ (var 3 ⊗ var 1) ⊕ var 3 ⊗ var 2) (var 3 ⊗ (var 0 ⊗ var 1 ⊕ var 2)) tt

  pub small_up : (a b c : Flat) → Up (twice_area (big d a) (big d b) (big d c)) → Up (twice_area a b c)
  small_up a b c h = up_out d k (up_out d k (up_is (big-turn a b c) h))

  pub small_lt : (a b : Flat) → height m (big d a) <ℤ height m (big d b) → height m a <ℤ height m b
  small_lt a b h =
      lt_cancel d k
      (subst (λ (z : ℤ). z <ℤ (d *ℤ height m b)) (big-height a) (subst (λ (z : ℤ). height m (big d a) <ℤ z) (big-height b) h))

  pub small_eq : (a b : Flat) → height m (big d a) ≡ height m (big d b) → height m a ≡ height m b
  small_eq a b e = mul_cancelℤ d (height m a) (height m b) (pos-ne k) (sym (big-height a) ∙ e ∙ big-height b)

  big_distinct : (g : List Flat) → Distinct m g → Distinct m (map (big d) g)
  big_distinct [] s = s
  big_distinct (x ∷ l) s = (
    (λ z o e. let r = map_of (big d) z l o in s.0 r.0 r.1 (small_eq r.0 x (sym (ap (height m) r.2) ∙ e))),
    big_distinct l
        s.1,
  )

  pub big_simple : (g : List Flat) → Simple m g → Simple m (map (big d) g)
  big_simple g s = record {
    apart = big_distinct g s.apart;
    net = record {
      back = (λ {p} {q} l. link_back (map (big d) g) p q l);
      end = (λ {p} {q} l. link_of (map (big d) g) p q l);
      clear = (λ {p} {q} {r} {s = t} l n c. cl p q r t (map_link (big d) g p q l) (map_link (big d) g r t n) c);
      free = (λ {p} {q} {r} l o c. fr p q r (map_link (big d) g p q l) (map_of (big d) r g o) c);
    };
  }
    where
      cl : (p q r t : Flat) → (b : Flat) × (c : Flat) × Link g b c × (p ≡ big d b) × (q ≡ big d c)
          → (b : Flat) × (c : Flat) × Link g b c × (r ≡ big d b) × (t ≡ big d c) → Cross p q r t → ⊥
      cl p q r t x y c = s.net.clear x.2 y.2 (record {
        left = small_up x.0 x.1 y.0 (up_is (λ i. twice_area (x.3 i) (x.4 i) (y.3 i)) c.left);
        right = small_up x.1 x.0 y.1 (up_is (λ i. twice_area (x.4 i) (x.3 i) (y.4 i)) c.right);
        ahead = small_up y.0 y.1 x.1 (up_is (λ i. twice_area (y.3 i) (y.4 i) (x.4 i)) c.ahead);
        behind = small_up y.1 y.0 x.0 (up_is (λ i. twice_area (y.4 i) (y.3 i) (x.3 i)) c.behind);
      })

      fr : (p q r : Flat) → (b : Flat) × (c : Flat) × Link g b c × (p ≡ big d b) × (q ≡ big d c) → (b : Flat) × Of b g × (r ≡ big d b)
          → WithinSegment m p q r → ⊥
      fr p q r x y c = s.net.free x.2 y.1 (record {
        line =
            mul-zero d (twice_area x.0 x.1 y.0) (pos-ne k)
            (mul-zero d (d *ℤ twice_area x.0 x.1 y.0) (pos-ne k)
            (sym (big-turn x.0 x.1 y.0) ∙ sym (λ i. twice_area (x.3 i) (x.4 i) (y.2 i)) ∙ c.line));
        after =
            small_lt x.0 y.0
            (subst (λ (z : Flat). height m z <ℤ height m (big d y.0)) x.3
            (subst (λ (z : Flat). height m p <ℤ height m z) y.2 c.after));
        before =
            small_lt y.0 x.1
            (subst (λ (z : Flat). height m z <ℤ height m (big d x.1)) y.2
            (subst (λ (z : Flat). height m r <ℤ height m z) x.4 c.before));
      })
