-- A simple ring in a plane of space that is seen along the third axis without loss: the view is simple, and its area is the third
-- coordinate of the normal.
use mathlib.Core.Path.{◌≡◌, refl, sym, ◌∙◌, ap, subst}
use mathlib.Core.Logic.{inl, inr}
use mathlib.Core.List.{List, [], ◌∷◌, map}
use Prim.Native.Nat.{ℕ, ◌≤◌}
use native.Mathlib.Omega.{arith}
use lib.ListN.{length}
use lib.IntN.{ℤ, pos, negsuc, ◌+ℤ◌, ◌-ℤ◌, ◌*ℤ◌}
use Rattle.lists.specs.Lists.{sides, sides_from}
use Rattle.exact.proofs.Laws.{eq_of_sub, sub_of_eq}
use Rattle.exact.proofs.Ring.{Expr, var, con, ◌⊕◌, ◌⊖◌, ◌⊗◌, ring}
use Rattle.exact.proofs.Linear.{le_by, le_to}
use Rattle.exact.proofs.Signs.{mul-zero}
use Rattle.exact.proofs.Order.{add_nonneg, sub_pos, ring_with}
use Rattle.paper.specs.Points.{pt, origin, plus, minus, times, dot, cross, sum}
use Rattle.paper.specs.Polygon.{normal}
use Rattle.paper.specs.declared.Point.{Point}
use Rattle.paper.specs.declared.Flat.{Flat}
use Rattle.paper_laws.proofs.Points.{point_eq}
use Rattle.paper_laws.proofs.Vectors.{num, vec, x, ◌+s◌, ◌-s◌, ◌*s◌, ◌·◌, v, ◌+v◌, ◌-v◌, ◌*v◌, vring}
use Rattle.means_drawing.specs.Segments.{Between, Common}
use Rattle.means_area.specs.Rings.{Of, Link}
use Rattle.means_area.specs.Flats.{twice_area, Cross, height, WithinSegment, Distinct, Simple, area_part, area_along, area}
use Rattle.means_area.specs.Space.{DifferentPoints, SimpleRing, Level}
use Rattle.means_area.proofs.Flats.Signs.{up_is, nn_is, up_nn, up_add, zero_off, diff_up}
use Rattle.means_area.proofs.Flats.Turns.{flat-first, flat-second}
use Rattle.means_area.proofs.Flats.{area_not_zero}
use Rattle.means_area.proofs.Space.Maps.{map_of, map_link, length-map, end_of}
use Rattle.means_area.proofs.Space.Heights.{bound, bound_nn, bounded, steep}
use Rattle.means_area.proofs.Flats.Chains.{link_back, link_of}

abbrev pub down : Point → Flat
down p = record { u = p.x; v = p.y }

pub area_is : (g : List Point) → (normal g).z ≡ area (map down g)
unfolding normal sum sides cross area_part plus
area_is [] = refl
area_is (a ∷ l) = go a l
  where
    go : (p : Point) (l : List Point) → (sum (sides_from cross a p l)).z ≡ area_along (down p) (map down l) (down a)
    go p [] = ring (p.x ∷ p.y ∷ a.x ∷ a.y ∷ []) ((var 0 ⊗ var 3 ⊖ var 1 ⊗ var 2) ⊕ con (pos 0)) (var 0 ⊗ var 3 ⊖ var 1 ⊗ var 2) tt
    go p (q ∷ l) = ap (λ (t : ℤ). (p.x *ℤ q.y -ℤ p.y *ℤ q.x) +ℤ t) (go q l)

-- the turn of three points, by the numbers of their coordinates; differences of heights
abbrev tu : ℕ → ℕ → ℕ → ℕ → ℕ → ℕ → Expr
tu ax ay bx by' cx cy = (var bx ⊖ var ax) ⊗ (var cy ⊖ var ay) ⊖ (var by' ⊖ var ay) ⊗ (var cx ⊖ var ax)

abbrev Se : Expr
Se = (var 6 ⊗ var 2 ⊕ var 3) ⊖ (var 6 ⊗ var 0 ⊕ var 1)

abbrev Te : Expr
Te = (var 6 ⊗ var 4 ⊕ var 5) ⊖ (var 6 ⊗ var 0 ⊕ var 1)

-- the factor of the heights
pub steepness : List Point → ℤ
steepness g = pos 1 +ℤ bound g +ℤ bound g

module _ (g : List Point) (n s : Point) (nz : n.z ≡ pos 0 → ⊥) (level : Level n s g) (clear : SimpleRing g) where
  -- a direction of the plane that is not seen is the origin
  unseen : (w : Point) → w.x ≡ pos 0 → w.y ≡ pos 0 → dot n w ≡ pos 0 → w ≡ origin
  unfolding dot
  unseen w ex ey e =
      let ez : w.z ≡ pos 0 = mul-zero n.z w.z nz
      (ring (n.x ∷ n.y ∷ n.z ∷ w.x ∷ w.y ∷ w.z ∷ []) (var 2 ⊗ var 5)
      ((var 0 ⊗ var 3 ⊕ var 1 ⊗ var 4 ⊕ var 2 ⊗ var 5) ⊖ var 0 ⊗ var 3 ⊖ var 1 ⊗ var 4) tt
      ∙ (λ i. e i -ℤ n.x *ℤ ex i -ℤ n.y *ℤ ey i) ∙ ring (n.x ∷ n.y ∷ []) (con (pos 0) ⊖ var 0 ⊗ con (pos 0) ⊖ var 1 ⊗ con (pos 0))
      (con (pos 0)) tt) in
      λ i. pt (ex i) (ey i) (ez i)

  -- one view is one point
  seen_same : (p q : Point) → Of p g → Of q g → p.x ≡ q.x → p.y ≡ q.y → p ≡ q
  unfolding minus
  seen_same p q op oq ex ey =
      point_eq p q (unseen (minus p q) (sub_of_eq p.x q.x ex) (sub_of_eq p.y q.y ey)
      (vring (vec n ∷ vec p ∷ vec q ∷ vec s ∷ []) (v 0 · (v 1 -v v 2)) (v 0 · (v 1 -v v 3) -s v 0 · (v 2 -v v 3)) tt
      ∙ (λ i. level.every p op i -ℤ level.every q oq i)))

  -- ---- a crossing is a common point
  cross_common : (p q r t : Point) → Of p g → Of q g → Of r g → Of t g → Cross (down p) (down q) (down r) (down t) → Common p q r t
  unfolding twice_area plus minus times
  cross_common p q r t op oq ol ot c =
      record {
        here = record { scale = K; place = D; after = c.behind; before = diff_up D K (up_is K_is c.ahead) };
        there =
            record {
              scale = K;
              place = E;
              some = up_add c.left (up_nn c.right);
              least = up_nn c.left;
              most = le_by (E ∷ F ∷ []) (var 0) (var 0 ⊕ var 1) (omega (arith, le_to (F ∷ []) (con (pos 0)) (var 0) (up_nn c.right)));
            };
        is = ap (times K) (point_eq (plus (times K p) (times D (minus q p))) (plus (times K r) (times E (minus t r)))
            (unseen (minus (plus (times K p) (times D (minus q p))) (plus (times K r) (times E (minus t r)))) x_is y_is
            (vring (num K ∷ num D ∷ num E ∷ vec n ∷ vec p ∷ vec q ∷ vec r ∷ vec t ∷ vec s ∷ [])
            (v 3 · ((x 0 *v v 4 +v x 1 *v (v 5 -v v 4)) -v (x 0 *v v 6 +v x 2 *v (v 7 -v v 6))))
            (x 0 *s (v 3 · (v 4 -v v 8)) +s x 1 *s (v 3 · (v 5 -v v 8) -s v 3 · (v 4 -v v 8)) -s x 0 *s (v 3 · (v 6 -v v 8)) -s x 2 *s
            (v 3 · (v 7 -v v 8) -s v 3 · (v 6 -v v 8))) tt
            ∙ (λ i. K *ℤ level.every p op i +ℤ D *ℤ (level.every q oq i -ℤ level.every p op i) -ℤ K *ℤ level.every r ol
            i -ℤ E *ℤ (level.every t ot i -ℤ level.every r ol i))
            ∙ ring (K ∷ D ∷ E ∷ [])
            (var 0 ⊗ con (pos 0) ⊕ var 1 ⊗ (con (pos 0) ⊖ con (pos 0)) ⊖ var 0 ⊗ con (pos 0) ⊖ var 2 ⊗ (con (pos 0) ⊖ con (pos 0)))
            (con (pos 0)) tt)));
      }
    where
      E : ℤ
      E = twice_area (down p) (down q) (down r)

      F : ℤ
      F = twice_area (down q) (down p) (down t)

      D : ℤ
      D = twice_area (down t) (down r) (down p)

      K : ℤ
      K = E +ℤ F

      ρ : List ℤ
      ρ = p.x ∷ p.y ∷ q.x ∷ q.y ∷ r.x ∷ r.y ∷ t.x ∷ t.y ∷ []

      K_is : twice_area (down r) (down t) (down q) ≡ K -ℤ D
      K_is = ring ρ (tu 4 5 6 7 2 3) (tu 0 1 2 3 4 5 ⊕ tu 2 3 0 1 6 7 ⊖ tu 6 7 4 5 0 1) tt

      x_is : (K *ℤ p.x +ℤ D *ℤ (q.x -ℤ p.x)) -ℤ (K *ℤ r.x +ℤ E *ℤ (t.x -ℤ r.x)) ≡ pos 0
      x_is =
          ring ρ
          (((tu 0 1 2 3 4 5 ⊕ tu 2 3 0 1 6 7) ⊗ var 0 ⊕ tu 6 7 4 5 0 1 ⊗ (var 2 ⊖ var 0)) ⊖
          ((tu 0 1 2 3 4 5 ⊕ tu 2 3 0 1 6 7) ⊗ var 4 ⊕ tu 0 1 2 3 4 5 ⊗ (var 6 ⊖ var 4))) (con (pos 0)) tt

      y_is : (K *ℤ p.y +ℤ D *ℤ (q.y -ℤ p.y)) -ℤ (K *ℤ r.y +ℤ E *ℤ (t.y -ℤ r.y)) ≡ pos 0
      y_is =
          ring ρ
          (((tu 0 1 2 3 4 5 ⊕ tu 2 3 0 1 6 7) ⊗ var 1 ⊕ tu 6 7 4 5 0 1 ⊗ (var 3 ⊖ var 1)) ⊖
          ((tu 0 1 2 3 4 5 ⊕ tu 2 3 0 1 6 7) ⊗ var 5 ⊕ tu 0 1 2 3 4 5 ⊗ (var 7 ⊖ var 5))) (con (pos 0)) tt

  -- ---- a corner inside a side
  on_between : (m : ℤ) (p q r : Point) → Of p g → Of q g → Of r g → WithinSegment m (down p) (down q) (down r) → Between p q r
  unfolding twice_area height plus minus times
  on_between m p q r op oq ol c =
      record {
        here =
            record {
              scale = S;
              place = T;
              after = sub_pos c.after;
              before = diff_up T S
                  (up_is
                  (ring (height m (down p) ∷ height m (down q) ∷ height m (down r) ∷ []) (var 1 ⊖ var 2)
                  ((var 1 ⊖ var 0) ⊖ (var 2 ⊖ var 0)) tt)
                  (sub_pos c.before));
            };
        is = point_eq (times S r) (plus (times S p) (times T (minus q p)))
            (unseen (minus (times S r) (plus (times S p) (times T (minus q p)))) x_is y_is
            (vring (num S ∷ num T ∷ vec n ∷ vec p ∷ vec q ∷ vec r ∷ vec s ∷ [])
            (v 2 · (x 0 *v v 5 -v (x 0 *v v 3 +v x 1 *v (v 4 -v v 3))))
            (x 0 *s (v 2 · (v 5 -v v 6)) -s x 0 *s (v 2 · (v 3 -v v 6)) -s x 1 *s (v 2 · (v 4 -v v 6) -s v 2 · (v 3 -v v 6))) tt
            ∙ (λ i. S *ℤ level.every r ol i -ℤ S *ℤ level.every p op i -ℤ T *ℤ (level.every q oq i -ℤ level.every p op i))
            ∙ ring (S ∷ T ∷ []) (var 0 ⊗ con (pos 0) ⊖ var 0 ⊗ con (pos 0) ⊖ var 1 ⊗ (con (pos 0) ⊖ con (pos 0))) (con (pos 0)) tt));
      }
    where
      S : ℤ
      S = height m (down q) -ℤ height m (down p)

      T : ℤ
      T = height m (down r) -ℤ height m (down p)

      ρ : List ℤ
      ρ = p.x ∷ p.y ∷ q.x ∷ q.y ∷ r.x ∷ r.y ∷ m ∷ []

      x_is : S *ℤ r.x -ℤ (S *ℤ p.x +ℤ T *ℤ (q.x -ℤ p.x)) ≡ pos 0
      x_is =
          ring_with ρ (Se ⊗ var 4 ⊖ (Se ⊗ var 0 ⊕ Te ⊗ (var 2 ⊖ var 0))) (con (pos 0)) (con (negsuc 0)) (tu 0 1 2 3 4 5) (con (pos 0)) tt
          c.line

      y_is : S *ℤ r.y -ℤ (S *ℤ p.y +ℤ T *ℤ (q.y -ℤ p.y)) ≡ pos 0
      y_is =
          ring_with ρ (Se ⊗ var 5 ⊖ (Se ⊗ var 1 ⊕ Te ⊗ (var 3 ⊖ var 1))) (con (pos 0)) (var 6) (tu 0 1 2 3 4 5) (con (pos 0)) tt c.line

  -- ---- heights
  height-same : (p q : Point) → Of p g → Of q g → height (steepness g) (down p) ≡ height (steepness g) (down q) → p ≡ q
  unfolding height steepness
  height-same p q op oq e =
      let bp = bounded p g op in
      let bq = bounded q g oq in
      let ρ = bound g ∷ p.x ∷ p.y ∷ q.x ∷ q.y ∷ [] in
      let d : (steepness g) *ℤ (p.x -ℤ q.x) +ℤ (p.y -ℤ q.y) ≡ pos 0 =
      ring ((steepness g) ∷ p.x ∷ p.y ∷ q.x ∷ q.y ∷ []) (var 0 ⊗ (var 1 ⊖ var 3) ⊕ (var 2 ⊖ var 4))
      ((var 0 ⊗ var 1 ⊕ var 2) ⊖ (var 0 ⊗ var 3 ⊕ var 4)) tt
      ∙ sub_of_eq ((steepness g) *ℤ p.x +ℤ p.y) ((steepness g) *ℤ q.x +ℤ q.y) e in
      let ex : p.x -ℤ q.x ≡ pos 0 = steep (bound g) (p.x -ℤ q.x) (p.y -ℤ q.y) (bound_nn g)
      (nn_is (ring ρ ((var 0 ⊖ var 2) ⊕ (var 0 ⊕ var 4)) (var 0 ⊕ var 0 ⊖ (var 2 ⊖ var 4)) tt) (add_nonneg bp.0 bq.1))
      (nn_is (ring ρ ((var 0 ⊕ var 2) ⊕ (var 0 ⊖ var 4)) (var 0 ⊕ var 0 ⊕ (var 2 ⊖ var 4)) tt) (add_nonneg bp.1 bq.0)) d in
      let ey : p.y -ℤ q.y ≡ pos 0 =
      ring ((steepness g) ∷ (p.x -ℤ q.x) ∷ (p.y -ℤ q.y) ∷ []) (var 2) ((var 0 ⊗ var 1 ⊕ var 2) ⊖ var 0 ⊗ var 1) tt
      ∙ (λ i. d i -ℤ (steepness g) *ℤ ex i)
      ∙ ring ((steepness g) ∷ []) (con (pos 0) ⊖ var 0 ⊗ con (pos 0)) (con (pos 0)) tt in
      seen_same p q op oq (eq_of_sub p.x q.x ex) (eq_of_sub p.y q.y ey)

  distinct_view : (l : List Point) → ((p : Point) → Of p l → Of p g) → DifferentPoints l → Distinct (steepness g) (map down l)
  distinct_view [] f d = tt
  distinct_view (p ∷ l) f d = (go, distinct_view l (λ r o. f r (inr o)) d.1)
    where
      go : (z : Flat) → Of z (map down l) → height (steepness g) z ≡ height (steepness g) (down p) → ⊥
      go z o e =
          let r = map_of down z l o in
          d.0 r.0 r.1 (height-same r.0 p (f r.0 (inr r.1)) (f p (inl refl)) (ap (height (steepness g)) (sym r.2) ∙ e))

  -- ---- the view is simple
  no_cross : (P Q R S : Flat) → Link (map down g) P Q → Link (map down g) R S → Cross P Q R S → ⊥
  no_cross P Q R S l k c =
      let a = map_link down g P Q l in
      let b = map_link down g R S k in
      let p = a.0 in
      let q = a.1 in
      let r = b.0 in
      let t = b.1 in
      let oa = end_of g p q a.2 in
      let ob = end_of g r t b.2 in
      let c' : Cross (down p) (down q) (down r) (down t) = subst (λ (z : Flat). Cross z (down q) (down r) (down t)) a.3
      (subst (λ (z : Flat). Cross P z (down r) (down t)) a.4
      (subst (λ (z : Flat). Cross P Q z (down t)) b.3 (subst (λ (z : Flat). Cross P Q R z) b.4 c))) in
      clear.edges p q r t a.2 b.2
      (λ e. zero_off (ap (twice_area (down p) (down q)) (ap down (sym e)) ∙ flat-first (down p) (down q)) c'.left)
      (λ e. zero_off (ap (twice_area (down q) (down p)) (ap down (sym e)) ∙ flat-second (down q) (down p)) c'.right)
      (λ e. zero_off (ap (twice_area (down p) (down q)) (ap down (sym e)) ∙ flat-second (down p) (down q)) c'.left)
      (λ e. zero_off (ap (twice_area (down q) (down p)) (ap down (sym e)) ∙ flat-first (down q) (down p)) c'.right)
      (cross_common p q r t oa.0 oa.1 ob.0 ob.1 c')

  no_on : (P Q R : Flat) → Link (map down g) P Q → Of R (map down g) → WithinSegment (steepness g) P Q R → ⊥
  no_on P Q R l o c =
      let a = map_link down g P Q l in
      let b = map_of down R g o in
      let oa = end_of g a.0 a.1 a.2 in
      clear.corners a.0 a.1 b.0 a.2 b.1 (on_between (steepness g) a.0 a.1 b.0 oa.0 oa.1 b.1
      (subst (λ (z : Flat). WithinSegment (steepness g) z (down a.1) (down b.0)) a.3
      (subst (λ (z : Flat). WithinSegment (steepness g) P z (down b.0)) a.4 (subst (λ (z : Flat). WithinSegment (steepness g) P Q z) b.2 c))))

  pub down_simple : Simple (steepness g) (map down g)
  down_simple = record {
    apart = distinct_view g (λ p o. o) clear.apart;
    net = record {
      back = (λ {p} {q} l. link_back (map down g) p q l);
      end = (λ {p} {q} l. link_of (map down g) p q l);
      clear = (λ {p} {q} {r} {s = t} l c d. no_cross p q r t l c d);
      free = (λ {p} {q} {r} l o c. no_on p q r l o c);
    };
  }

  -- the third coordinate of the normal is not 0
  pub third_not_zero : 3 ≤ length g → (normal g).z ≡ pos 0 → ⊥
  third_not_zero k e =
      let q = length-map down g in
      area_not_zero (steepness g) (map down g) (omega (arith, q)) down_simple (sym (area_is g) ∙ e)
