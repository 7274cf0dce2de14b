-- "both lie in one plane" goes either way round, for faces in their planes with an area.
use mathlib.Core.Bool.{Bool, true, false, true≢false}
use mathlib.Core.List.{List, [], ◌∷◌}
use mathlib.Core.Path.{◌≡◌, refl, sym, ◌∙◌}
use Prim.Native.Nat.{ℕ, zero, suc, ◌<◌}
use native.Mathlib.Omega.{arith}
use lib.IntN.{ℤ, pos, ◌*ℤ◌}
use lib.ListN.{length, get_or}
use Rattle.paper_laws.proofs.Points.{zero_yes, dot-less, zero_is, empty_side, dot_even}
use Rattle.lists.specs.Lists.{sides, sides_from}
use Rattle.lists.proofs.Truth.{and_both}
use Rattle.lists.proofs.Passing.{all_yes, all_is}
use Rattle.exact.proofs.Ring.{Expr, var, con, ◌⊗◌, neg, ring}
use Rattle.exact.proofs.Order.{square_nonneg, sum-zero}
use Rattle.exact.proofs.Signs.{mul-zero, square_zero}
use Rattle.paper.specs.Points.{origin, plus, minus, dot, cross, sum, is_zero, is_origin}
use Rattle.paper.specs.Polygon.{Polygon, normal, corner, plane_side, one_plane}
use Rattle.paper.specs.declared.Point.{Point}
use Rattle.paper_laws.specs.Planes.{InOwnPlane}
use Rattle.means_clash.proofs.Combine.{combine, E3, vars, zero_e, plus_e, minus_e, dot_e, cross_e}

-- ---- the area's direction, against another across the plane
abbrev N : E3
N = vars 0 1 2

abbrev X : E3
X = vars 3 4 5

abbrev Y : E3
Y = vars 6 7 8

abbrev A : E3
A = vars 9 10 11

abbrev W : E3
W = vars 12 13 14

abbrev S : E3
S = vars 15 16 17

abbrev C : Expr
C = var 18

one_side : (n x y a w s : Point) (c : ℤ) → dot n x ≡ c → dot n y ≡ c → dot n w ≡ pos 0
    → dot n n *ℤ dot s w ≡ c *ℤ dot (minus y a) (cross n w)
    → dot n n *ℤ dot (plus (cross x y) s) w ≡ c *ℤ dot (minus x a) (cross n w)
unfolding dot plus minus cross
one_side n x y a w s c hx hy hw hs =
    combine
    (n.x ∷ n.y ∷ n.z ∷ x.x ∷ x.y ∷ x.z ∷ y.x ∷ y.y ∷ y.z ∷ a.x ∷ a.y ∷ a.z ∷ w.x ∷ w.y ∷ w.z ∷ s.x ∷ s.y ∷ s.z ∷ c ∷ [])
    (dot_e N N ⊗ dot_e (plus_e (cross_e X Y) S) W) (C ⊗ dot_e (minus_e X A) (cross_e N W))
    (record { times = dot_e N (cross_e X Y); one = dot_e N W; other = con (pos 0) }
    ∷ record { times = dot_e X (cross_e N W); one = dot_e N Y; other = C }
    ∷ record { times = neg (dot_e Y (cross_e N W)); one = dot_e N X; other = C }
    ∷ record { times = con (pos 1); one = dot_e N N ⊗ dot_e S W; other = C ⊗ dot_e (minus_e Y A) (cross_e N W) } ∷ [])
    tt (hw, (hy, (hx, (hs, tt))))

none_side : (n a w : Point) (c : ℤ) → dot n n *ℤ dot origin w ≡ c *ℤ dot (minus a a) (cross n w)
unfolding dot minus cross
none_side n a w c =
    ring (n.x ∷ n.y ∷ n.z ∷ a.x ∷ a.y ∷ a.z ∷ w.x ∷ w.y ∷ w.z ∷ c ∷ [])
    (dot_e N N ⊗ dot_e zero_e (vars 6 7 8)) (var 9 ⊗ dot_e (minus_e X X) (cross_e N (vars 6 7 8))) tt

back_side : (n a w : Point) (c : ℤ) → c *ℤ dot (minus a a) (cross n w) ≡ pos 0
unfolding dot minus cross
back_side n a w c =
    ring (n.x ∷ n.y ∷ n.z ∷ a.x ∷ a.y ∷ a.z ∷ w.x ∷ w.y ∷ w.z ∷ c ∷ [])
    (var 9 ⊗ dot_e (minus_e X X) (cross_e N (vars 6 7 8))) (con (pos 0)) tt

-- all points are at c across n
abbrev At : Point → ℤ → List Point → Type 0
At n c [] = Unit {0}
At n c (p ∷ ps) = (dot n p ≡ c) × At n c ps

sides-area : (n w : Point) (c : ℤ) → dot n w ≡ pos 0 → (a x : Point) (ys : List Point) → dot n a ≡ c → dot n x ≡ c → At n c ys
    → dot n n *ℤ dot (sum (sides_from cross a x ys)) w ≡ c *ℤ dot (minus x a) (cross n w)
unfolding sum sides_from
sides-area n w c hw a x [] ha hx h = one_side n x a a w origin c hx ha hw (none_side n a w c)
sides-area n w c hw a x (y ∷ ys) ha hx h =
    one_side n x y a w (sum (sides_from cross a y ys)) c hx h.0 hw (sides-area n w c hw a y ys ha h.0 h.1)

area-across : (n w : Point) (c : ℤ) → dot n w ≡ pos 0 → (g : Polygon) → At n c g → dot n n *ℤ dot (normal g) w ≡ pos 0
unfolding normal sides sum
area-across n w c hw [] h = none_side n origin w c ∙ back_side n origin w c
area-across n w c hw (a ∷ r) h = sides-area n w c hw a a r h.0 h.0 h.1 ∙ back_side n a w c

-- ---- a direction that isn't the origin
pub self_zero : (n : Point) → dot n n ≡ pos 0 → is_origin n ≡ true
unfolding dot is_origin
self_zero n e =
    let q = sum-zero (n.x *ℤ n.x) (n.y *ℤ n.y) (n.z *ℤ n.z) (square_nonneg n.x) (square_nonneg n.y) (square_nonneg n.z)
    e in
    and_both (and_both (zero_is (square_zero n.x q.0)) (zero_is (square_zero n.y q.1)))
    (zero_is (square_zero n.z q.2))

-- ---- offsets
plane_at : (f : Polygon) (ps : List Point) → one_plane f ps ≡ true → At (normal f) (dot (normal f) (corner f)) ps
unfolding one_plane
plane_at f ps e = go ps (all_yes (λ p. is_zero (plane_side f p)) origin ps e)
  where
    go : (ps : List Point) → ((i : ℕ) → i < length ps → is_zero (plane_side f (get_or ps i origin)) ≡ true)
        → At (normal f) (dot (normal f) (corner f)) ps
    go [] h = tt
    go (p ∷ ps) h = (off p (h 0 (omega arith)), go ps (λ i l. h (suc i) (omega arith)))
      where
        off : (p : Point) → is_zero (plane_side f p) ≡ true → dot (normal f) p ≡ dot (normal f) (corner f)
        off p z = dot-less (normal f) p (corner f) (zero_yes (plane_side f p) z)

-- ---- if g lies in f's plane, f lies in g's
at_place : (n : Point) (c : ℤ) (ps : List Point) → At n c ps → (i : ℕ) → i < length ps → dot n (get_or ps i origin) ≡ c
at_place n c [] h i l = absurd (omega arith)
at_place n c (p ∷ ps) h zero l = h.0
at_place n c (p ∷ ps) h (suc i) l = at_place n c ps h.1 i (omega arith)

-- the points ps all are at one offset across n, which isn't the origin; so are those of g, and the area's direction of g is at right
-- angles to what is across from them
area-right : (n : Point) → is_origin n ≡ false → (c : ℤ) (a : Point) (r : List Point) → At n c (a ∷ r) → (p : Point) → dot n p ≡ c
    → dot (normal (a ∷ r)) (minus p a) ≡ pos 0
area-right n real c a r h p hp =
    mul-zero (dot n n) (dot (normal (a ∷ r)) (minus p a)) (λ z. true≢false (sym (self_zero n z) ∙ real))
    (area-across n (minus p a) c (dot_even n p a (hp ∙ sym h.0)) (a ∷ r) h)

zero_side : (f : Polygon) → InOwnPlane f → is_origin (normal f) ≡ false → (g : Polygon) → one_plane f g ≡ true → (i : ℕ) → i < length f
    → plane_side g (get_or f i origin) ≡ pos 0
unfolding plane_side corner
zero_side f flat real [] e i h = empty_side (get_or f i origin)
zero_side f flat real (a ∷ r) e i h =
    area-right (normal f) real (dot (normal f) (corner f)) a r (plane_at f (a ∷ r) e) (get_or f i origin)
    (at_place (normal f) (dot (normal f) (corner f)) f (plane_at f f flat) i h)

plane_back : (f g : Polygon) → InOwnPlane f → is_origin (normal f) ≡ false → one_plane f g ≡ true → one_plane g f ≡ true
unfolding one_plane
plane_back f g flat real e =
    all_is (λ p. is_zero (plane_side g p)) origin f (λ i h. zero_is (zero_side f flat real g e i h))

pub plane_either : (f g : Polygon) → InOwnPlane f → is_origin (normal f) ≡ false → InOwnPlane g → is_origin (normal g) ≡ false
    → one_plane f g ≡ one_plane g f
plane_either f g hf rf hg rg = go (one_plane f g) refl (one_plane g f) refl
  where
    go : (x : Bool) → one_plane f g ≡ x → (y : Bool) → one_plane g f ≡ y → x ≡ y
    go true p true q = refl
    go true p false q = sym (plane_back f g hf rf p) ∙ q
    go false p true q = sym p ∙ plane_back g f hg rg q
    go false p false q = refl
