-- Points in one line: between which others a point is, from its place along the line.
use mathlib.Core.Bool.{true, false, true≢false}
use mathlib.Core.List.{List, [], ◌∷◌}
use mathlib.Core.Path.{◌≡◌, refl, sym, ap, ◌∙◌}
use lib.IntN.{ℤ, pos, negsuc, ◌-ℤ◌, ◌*ℤ◌, *ℤ-zero}
use lib.Signed.{◌<ℤ◌}
use Rattle.lists.proofs.Truth.{and_both}
use Rattle.exact.proofs.Ring.{var, con, ◌⊗◌, ◌⊖◌, neg, ring}
use Rattle.exact.proofs.Order.{sub_pos, neg_lt, mul-lt, lt_cancel}
use Rattle.exact.proofs.Signs.{mul-zero, lt_is, lt_subst}
use Rattle.paper.specs.Points.{pt, origin, minus, dot, cross, is_origin, below}
use Rattle.paper.specs.Drawing.{on_open}
use Rattle.paper.specs.declared.Point.{Point}
use Rattle.paper_laws.proofs.Points.{origin_is, dot_comm, cross_turned, cross-line, origin_no, self_pos}
use Rattle.means_clash.proofs.Combine.{combine, Given, E3, vars, minus_e, dot_e, cross_e}
use Rattle.means_clash.proofs.Planes.{self_zero}

pub self_above : (e : Point) → is_origin e ≡ false → pos 0 <ℤ dot e e
self_above e n = self_pos e (origin_no n)

abbrev A : E3
A = vars 0 1 2

abbrev B : E3
B = vars 3 4 5

abbrev C : E3
C = vars 6 7 8

-- each coordinate of c is 0, times that of k
abbrev zeros : E3 → E3 → List Given
zeros k c =
    record { times = k.ex; one = c.ex; other = con (pos 0) } ∷ record { times = k.ey; one = c.ey; other = con (pos 0) }
    ∷ record { times = k.ez; one = c.ez; other = con (pos 0) } ∷ []

-- along e, where u is in line with it
lagrange : (e u v : Point) → cross e u ≡ origin → dot e e *ℤ dot u v ≡ dot e u *ℤ dot e v
unfolding dot cross
lagrange e u v h =
    combine (e.x ∷ e.y ∷ e.z ∷ u.x ∷ u.y ∷ u.z ∷ v.x ∷ v.y ∷ v.z ∷ [])
    (dot_e A A ⊗ dot_e B C) (dot_e A B ⊗ dot_e A C) (zeros (cross_e A C) (cross_e A B)) tt
    (ap (λ (r : Point). r.x) h, (ap (λ (r : Point). r.y) h, (ap (λ (r : Point). r.z) h, tt)))

-- in line with e, and at no distance along it
pub no_place : (e v : Point) → is_origin e ≡ false → cross e v ≡ origin → dot e v ≡ pos 0 → is_origin v ≡ true
no_place e v n h z =
    self_zero v
    (mul-zero (dot e e) (dot v v) (λ s. true≢false (sym (self_zero e s) ∙ n)) (lagrange e v v h ∙ ap (λ (k : ℤ). dot e v *ℤ k) z
    ∙ *ℤ-zero (dot e v)))

-- ---- p is between a and b
pub record Between (a b p : Point) : Type 0 where
  pub line : cross (minus b a) (minus p a) ≡ origin
  pub back : dot (minus p a) (minus p b) <ℤ pos 0

pub between_open : {a b p : Point} → Between a b p → on_open a b p ≡ true
unfolding on_open below
between_open {a} {b} {p} t = and_both (origin_is t.line) (lt_is t.back)

turned : (a b p : Point) → cross (minus b a) (minus p a) ≡ origin → cross (minus a b) (minus p b) ≡ origin
unfolding cross minus
turned a b p h =
    let r = a.x ∷ a.y ∷ a.z ∷ b.x ∷ b.y ∷ b.z ∷ p.x ∷ p.y ∷ p.z ∷ [] in
    let one = cross_e (minus_e B A) (minus_e C A) in
    let two = cross_e (minus_e A B) (minus_e C B) in
    let X = combine r two.ex (con (pos 0)) (record { times = con (negsuc 0); one = one.ex; other = con (pos 0) } ∷ []) tt
    (ap (λ (q : Point). q.x) h, tt) in
    let Y = combine r two.ey (con (pos 0)) (record { times = con (negsuc 0); one = one.ey; other = con (pos 0) } ∷ []) tt
    (ap (λ (q : Point). q.y) h, tt) in
    let Z = combine r two.ez (con (pos 0)) (record { times = con (negsuc 0); one = one.ez; other = con (pos 0) } ∷ []) tt
    (ap (λ (q : Point). q.z) h, tt) in
    λ i. pt (X i) (Y i) (Z i)

pub between_turned : {a b p : Point} → Between a b p → Between b a p
between_turned {a} {b} {p} t =
    record { line = turned a b p t.line; back = lt_subst (dot_comm (minus p a) (minus p b)) refl t.back }

sub_below : {a b : ℤ} → a <ℤ b → (a -ℤ b) <ℤ pos 0
sub_below {a} {b} h = lt_subst (ring (a ∷ b ∷ []) (neg (var 1 ⊖ var 0)) (var 0 ⊖ var 1) tt) refl (neg_lt (sub_pos h))

-- ---- the line through x and y, and a point l of it beyond x, on the side of y
module _ (x y l : Point) (n : is_origin (minus y x) ≡ false) (h : cross (minus y x) (minus l x) ≡ origin)
    (ahead : pos 0 <ℤ dot (minus y x) (minus l x)) where
  abbrev e : Point
  e = minus y x

  abbrev u : Point
  u = minus l x

  -- another one, behind x: x is between the two
  moved : (w : Point) → cross (minus l x) (minus w x) ≡ cross (minus w l) (minus x l)
  unfolding cross minus
  moved w =
      let r = x.x ∷ x.y ∷ x.z ∷ l.x ∷ l.y ∷ l.z ∷ w.x ∷ w.y ∷ w.z ∷ [] in
      let one = cross_e (minus_e B A) (minus_e C A) in
      let two = cross_e (minus_e C B) (minus_e A B) in
      let X = ring r one.ex two.ex tt in
      let Y = ring r one.ey two.ey tt in
      let Z = ring r one.ez two.ez tt in
      λ i. pt (X i) (Y i) (Z i)

  moved_dot : (w : Point) → dot (minus l x) (minus w x) ≡ dot (minus x l) (minus x w)
  unfolding dot minus
  moved_dot w =
      ring (x.x ∷ x.y ∷ x.z ∷ l.x ∷ l.y ∷ l.z ∷ w.x ∷ w.y ∷ w.z ∷ []) (dot_e (minus_e B A) (minus_e C A))
      (dot_e (minus_e A B) (minus_e A C)) tt

  pub start_between : (w : Point) → cross (minus y x) (minus w x) ≡ origin → dot (minus y x) (minus w x) <ℤ pos 0 → Between l w x
  start_between w k b = record {
    line = sym (moved w) ∙ cross-line (minus y x) (minus l x) (minus w x) (origin_no n) h k;
    back = lt_subst (moved_dot w) refl
        (lt_cancel (dot e e) (self_above e n)
        (lt_subst (sym (lagrange e u (minus w x) h)) (*ℤ-zero (dot e u) ∙ sym (*ℤ-zero (dot e e))) (mul-lt (dot e u) ahead b)));
  }

  -- before y: l is between x and y
  short_dot : dot e e *ℤ dot (minus l x) (minus l y) ≡ dot e u *ℤ (dot e u -ℤ dot e e)
  unfolding dot cross minus
  short_dot =
      combine (x.x ∷ x.y ∷ x.z ∷ y.x ∷ y.y ∷ y.z ∷ l.x ∷ l.y ∷ l.z ∷ [])
      (dot_e (minus_e B A) (minus_e B A) ⊗ dot_e (minus_e C A) (minus_e C B))
      (dot_e (minus_e B A) (minus_e C A) ⊗ (dot_e (minus_e B A) (minus_e C A) ⊖ dot_e (minus_e B A) (minus_e B A)))
      (zeros (cross_e (minus_e B A) (minus_e C A)) (cross_e (minus_e B A) (minus_e C A))) tt
      (ap (λ (r : Point). r.x) h, (ap (λ (r : Point). r.y) h, (ap (λ (r : Point). r.z) h, tt)))

  pub short_between : dot e u <ℤ dot e e → Between x y l
  short_between b =
      record {
        line = h;
        back = lt_cancel (dot e e) (self_above e n)
            (lt_subst (sym short_dot) (*ℤ-zero (dot e u) ∙ sym (*ℤ-zero (dot e e))) (mul-lt (dot e u) ahead (sub_below b)));
      }

  -- beyond it: y is between x and l
  long_dot : dot e e -ℤ dot e u ≡ dot (minus y x) (minus y l)
  unfolding dot minus
  long_dot =
      ring (x.x ∷ x.y ∷ x.z ∷ y.x ∷ y.y ∷ y.z ∷ l.x ∷ l.y ∷ l.z ∷ [])
      (dot_e (minus_e B A) (minus_e B A) ⊖ dot_e (minus_e B A) (minus_e C A)) (dot_e (minus_e B A) (minus_e B C)) tt

  pub long_between : dot e e <ℤ dot e u → Between x l y
  long_between b = record { line = cross_turned e u h; back = lt_subst long_dot refl (sub_below b) }

  -- neither: l is at y
  end-dot : dot e u ≡ dot e e → dot e e *ℤ dot (minus l y) (minus l y) ≡ pos 0
  unfolding dot cross minus
  end-dot z =
      combine (x.x ∷ x.y ∷ x.z ∷ y.x ∷ y.y ∷ y.z ∷ l.x ∷ l.y ∷ l.z ∷ [])
      (dot_e (minus_e B A) (minus_e B A) ⊗ dot_e (minus_e C B) (minus_e C B)) (con (pos 0))
      (record {
        times = dot_e (minus_e B A) (minus_e C A) ⊖ dot_e (minus_e B A) (minus_e B A);
        one = dot_e (minus_e B A) (minus_e C A);
        other = dot_e (minus_e B A) (minus_e B A);
      }
      ∷ zeros (cross_e (minus_e B A) (minus_e C A)) (cross_e (minus_e B A) (minus_e C A))) tt
      (z, (ap (λ (r : Point). r.x) h, (ap (λ (r : Point). r.y) h, (ap (λ (r : Point). r.z) h, tt))))

  pub at-end : dot e u ≡ dot e e → is_origin (minus l y) ≡ true
  at-end z =
      self_zero (minus l y) (mul-zero (dot e e) (dot (minus l y) (minus l y)) (λ s. true≢false (sym (self_zero e s) ∙ n)) (end-dot z))
