-- A plane of space seen along two axes: all turns change by one factor, and what is between two points stays so.
-- For a, b, c in a plane across n, (b - a) x (c - a) is in line with n, and each view shows one coordinate of it.
use mathlib.Core.Path.{◌≡◌, refl, sym, ◌∙◌, ap}
use mathlib.Core.Logic.{◌⊎◌, inl, inr}
use mathlib.Core.List.{List, [], ◌∷◌}
use lib.IntN.{ℤ, pos, neg_ℤ, ◌+ℤ◌, ◌-ℤ◌, ◌*ℤ◌}
use Rattle.exact.proofs.Ring.{var, con, ◌⊕◌, ◌⊖◌, ◌⊗◌, neg, ring}
use Rattle.exact.proofs.Order.{ring_with, mul_nonneg, square_nonneg}
use Rattle.exact.proofs.Signs.{mul-zero}
use Rattle.paper.specs.Points.{pt, origin, minus, times, dot, cross}
use Rattle.paper.specs.Polygon.{seen}
use Rattle.paper.specs.declared.Point.{Point}
use Rattle.paper.specs.declared.Axis.{Axis}
use Rattle.paper.specs.declared.Axis.TheVariants.{AlongX, AlongY, AlongZ}
use Rattle.paper_laws.proofs.Vectors.{vec, k, ◌-s◌, ◌·◌, o, v, ◌-v◌, ◌*v◌, ◌×v◌, vring}
use Rattle.paper_laws.proofs.Points.{in_line_lem}
use Rattle.means_area.specs.Flats.{Up, Nn, twice_area}
use Rattle.means_area.specs.Space.{through}
use Rattle.means_area.proofs.Flats.Signs.{up_is, nn_is, up_nn, up_add, off, ways, nn_out, twice}
use Rattle.means_area.proofs.Flats.Turns.{spin}
use Rattle.means_area.proofs.Space.Views.{view_one}
use Rattle.means_inside.specs.Beams.{facing}
use Rattle.means_inside.proofs.Triangle.{facing-end, self_nn, self_zero}

-- what a view along i shows of a direction across the plane: along the second axis a ring is seen the other way round
abbrev pub shown : Axis → Point → ℤ
shown AlongX p = p.x
shown AlongY p = neg_ℤ p.y
shown AlongZ p = p.z

pub shown_real : (i : Axis) (n : Point) → (through i n ≡ pos 0 → ⊥) → shown i n ≡ pos 0 → ⊥
shown_real AlongX n h e = h e
shown_real AlongY n h e = h (twice n.y ∙ ap neg_ℤ e)
shown_real AlongZ n h e = h e

-- a turn in the view
pub turn_shown : (i : Axis) (a b c : Point) → twice_area (seen i a) (seen i b) (seen i c) ≡ shown i (cross (minus b a) (minus c a))
unfolding twice_area seen cross minus
turn_shown AlongX a b c = refl
turn_shown AlongY a b c =
    ring ((b.x -ℤ a.x) ∷ (b.z -ℤ a.z) ∷ (c.x -ℤ a.x) ∷ (c.z -ℤ a.z) ∷ []) (var 0 ⊗ var 3 ⊖ var 1 ⊗ var 2)
    (neg (var 1 ⊗ var 2 ⊖ var 0 ⊗ var 3)) tt
turn_shown AlongZ a b c = refl

-- of directions in line
shown_line : (i j : Axis) (u n : Point) → cross u n ≡ origin → shown i u *ℤ shown j n ≡ shown j u *ℤ shown i n
unfolding cross
shown_line i j u n e = go i j
  where
    ex : u.y *ℤ n.z -ℤ u.z *ℤ n.y ≡ pos 0
    ex = ap (λ (p : Point). p.x) e

    ey : u.z *ℤ n.x -ℤ u.x *ℤ n.z ≡ pos 0
    ey = ap (λ (p : Point). p.y) e

    ez : u.x *ℤ n.y -ℤ u.y *ℤ n.x ≡ pos 0
    ez = ap (λ (p : Point). p.z) e

    xy : u.x *ℤ neg_ℤ n.y ≡ neg_ℤ u.y *ℤ n.x
    xy =
        ring_with (u.x ∷ u.y ∷ u.z ∷ n.x ∷ n.y ∷ n.z ∷ []) (var 0 ⊗ neg (var 4)) (neg (var 1) ⊗ var 3) (con (neg_ℤ (pos 1)))
        (var 0 ⊗ var 4 ⊖ var 1 ⊗ var 3) (con (pos 0)) tt ez

    xz : u.x *ℤ n.z ≡ u.z *ℤ n.x
    xz =
        ring_with (u.x ∷ u.y ∷ u.z ∷ n.x ∷ n.y ∷ n.z ∷ []) (var 0 ⊗ var 5) (var 2 ⊗ var 3) (con (neg_ℤ (pos 1)))
        (var 2 ⊗ var 3 ⊖ var 0 ⊗ var 5) (con (pos 0)) tt ey

    yz : neg_ℤ u.y *ℤ n.z ≡ u.z *ℤ neg_ℤ n.y
    yz =
        ring_with (u.x ∷ u.y ∷ u.z ∷ n.x ∷ n.y ∷ n.z ∷ []) (neg (var 1) ⊗ var 5) (var 2 ⊗ neg (var 4)) (con (neg_ℤ (pos 1)))
        (var 1 ⊗ var 5 ⊖ var 2 ⊗ var 4) (con (pos 0)) tt ex

    go : (i j : Axis) → shown i u *ℤ shown j n ≡ shown j u *ℤ shown i n
    go AlongX AlongX = refl
    go AlongX AlongY = xy
    go AlongX AlongZ = xz
    go AlongY AlongX = sym xy
    go AlongY AlongY = refl
    go AlongY AlongZ = yz
    go AlongZ AlongX = sym xz
    go AlongZ AlongY = sym yz
    go AlongZ AlongZ = refl

-- the cross product of two directions in the plane is in line with n
across : (n a b : Point) → dot n a ≡ pos 0 → dot n b ≡ pos 0 → cross (cross a b) n ≡ origin
across n a b ea eb =
    vring (vec n ∷ vec a ∷ vec b ∷ []) ((v 1 ×v v 2) ×v v 0) ((v 0 · v 1) *v v 2 -v (v 0 · v 2) *v v 1) tt
    ∙ (λ t. minus (times (ea t) b) (times (eb t) a)) ∙ vring (vec a ∷ vec b ∷ []) (k (pos 0) *v v 1 -v k (pos 0) *v v 0) o tt

module _ (n c : Point) where
  -- in the plane through c across n
  abbrev pub On : Point → Type 0
  On p = dot n (minus p c) ≡ pos 0

  level : (a b : Point) → On a → On b → dot n (minus b a) ≡ pos 0
  level a b ea eb =
      vring (vec n ∷ vec a ∷ vec b ∷ vec c ∷ []) (v 0 · (v 2 -v v 1)) (v 0 · (v 2 -v v 3) -s v 0 · (v 1 -v v 3)) tt
      ∙ (λ t. eb t -ℤ ea t)

  -- one factor for all turns
  pub turns : (i j : Axis) (p q r : Point) → On p → On q → On r
      → twice_area (seen i p) (seen i q) (seen i r) *ℤ shown j n ≡ twice_area (seen j p) (seen j q) (seen j r) *ℤ shown i n
  turns i j p q r ep eq er =
      let u = cross (minus q p) (minus r p) in
      ap (λ (z : ℤ). z *ℤ shown j n) (turn_shown i p q r)
      ∙ shown_line i j u n (across n (minus q p) (minus r p) (level p q ep eq) (level p r ep er))
      ∙ ap (λ (z : ℤ). z *ℤ shown i n) (sym (turn_shown j p q r))

-- ---- between two points
-- what a view keeps of a product of directions
facing_shown : (i : Axis) (p a b : Point)
    → facing (seen i p) (seen i a) (seen i b) ≡ dot (minus a p) (minus b p) -ℤ through i (minus a p) *ℤ through i (minus b p)
unfolding facing seen dot minus
facing_shown i p a b = go i
  where
    ρ : List ℤ
    ρ = (a.x -ℤ p.x) ∷ (a.y -ℤ p.y) ∷ (a.z -ℤ p.z) ∷ (b.x -ℤ p.x) ∷ (b.y -ℤ p.y) ∷ (b.z -ℤ p.z) ∷ []

    go : (i : Axis)
        → facing (seen i p) (seen i a) (seen i b) ≡ dot (minus a p) (minus b p) -ℤ through i (minus a p) *ℤ through i (minus b p)
    go AlongX =
        ring ρ (var 1 ⊗ var 4 ⊕ var 2 ⊗ var 5) (var 0 ⊗ var 3 ⊕ var 1 ⊗ var 4 ⊕ var 2 ⊗ var 5 ⊖ var 0 ⊗ var 3) tt
    go AlongY =
        ring ρ (var 0 ⊗ var 3 ⊕ var 2 ⊗ var 5) (var 0 ⊗ var 3 ⊕ var 1 ⊗ var 4 ⊕ var 2 ⊗ var 5 ⊖ var 1 ⊗ var 4) tt
    go AlongZ =
        ring ρ (var 0 ⊗ var 3 ⊕ var 1 ⊗ var 4) (var 0 ⊗ var 3 ⊕ var 1 ⊗ var 4 ⊕ var 2 ⊗ var 5 ⊖ var 2 ⊗ var 5) tt

-- directions in line: the product in the view is to that in space as the squares are
in_ratio : (i : Axis) (p a b : Point) → cross (minus a p) (minus b p) ≡ origin
    → dot (minus a p) (minus a p) *ℤ facing (seen i p) (seen i a) (seen i b)
    ≡ dot (minus a p) (minus b p) *ℤ facing (seen i p) (seen i a) (seen i a)
in_ratio i p a b e =
    let w = minus a p in
    let w' = minus b p in
    ap (λ (z : ℤ). dot w w *ℤ z) (facing_shown i p a b)
    ∙ ring_with (dot w w ∷ dot w w' ∷ through i w ∷ through i w' ∷ []) (var 0 ⊗ (var 1 ⊖ var 2 ⊗ var 3)) (var 1 ⊗ (var 0 ⊖ var 2 ⊗ var 2))
    (neg (var 2)) (var 0 ⊗ var 3) (var 1 ⊗ var 2) tt (part i (dot w w) (dot w w') w w' (in_line_lem w w' e))
    ∙ ap (λ (z : ℤ). dot w w' *ℤ z) (sym (facing_shown i p a a))
  where
    part : (i : Axis) (r s : ℤ) (w w' : Point) → times r w' ≡ times s w → r *ℤ through i w' ≡ s *ℤ through i w
    part AlongX r s w w' q = unfold times in ap (λ (p : Point). p.x) q
    part AlongY r s w w' q = unfold times in ap (λ (p : Point). p.y) q
    part AlongZ r s w w' q = unfold times in ap (λ (p : Point). p.z) q

module _ (n c : Point) (i j : Axis) (hi : through i n ≡ pos 0 → ⊥) where
  -- what is in line with n and of which nothing is shown is nothing
  none : (u : Point) → cross u n ≡ origin → shown i u ≡ pos 0 → u ≡ origin
  none u e z = λ t. pt (zero AlongX t) ((twice u.y ∙ ap neg_ℤ (zero AlongY)) t) (zero AlongZ t)
    where
      zero : (l : Axis) → shown l u ≡ pos 0
      zero l =
          mul-zero (shown i n) (shown l u) (shown_real i n hi)
          (ring (shown i n ∷ shown l u ∷ []) (var 0 ⊗ var 1) (var 1 ⊗ var 0) tt ∙ shown_line l i u n e
          ∙ ap (λ (y : ℤ). y *ℤ shown l n) z ∙ ring (shown l n ∷ []) (con (pos 0) ⊗ var 0) (con (pos 0)) tt)

  line_up : (a b p : Point) → On n c a → On n c b → On n c p → twice_area (seen i a) (seen i b) (seen i p) ≡ pos 0
      → cross (minus a p) (minus b p) ≡ origin
  line_up a b p ea eb ep z =
      none (cross (minus a p) (minus b p)) (across n (minus a p) (minus b p) (level n c p a ep ea) (level n c p b ep eb))
      (sym (turn_shown i p a b) ∙ spin (seen i p) (seen i a) (seen i b) ∙ z)

  -- p is not outside a and b in the other view either
  pub between_too : (a b p : Point) → On n c a → On n c b → On n c p → twice_area (seen i a) (seen i b) (seen i p) ≡ pos 0
      → Nn (neg_ℤ (facing (seen i p) (seen i a) (seen i b))) → Nn (neg_ℤ (facing (seen j p) (seen j a) (seen j b)))
  between_too a b p ea eb ep z h = go (ways (facing (seen i p) (seen i a) (seen i a)))
    where
      -- a factor of one side goes over to the other
      over : (r s t w : ℤ) → Up r → r *ℤ s ≡ t *ℤ w → Nn (neg_ℤ t) → Nn w → Nn (neg_ℤ s)
      over r s t w u e y l =
          nn_out r u
          (nn_is (ring (t ∷ w ∷ []) (neg (var 0) ⊗ var 1) (neg (var 0 ⊗ var 1)) tt ∙ ap neg_ℤ (sym e)
          ∙ ring (r ∷ s ∷ []) (neg (var 0 ⊗ var 1)) (var 0 ⊗ neg (var 1)) tt) (mul_nonneg y l))

      line : cross (minus a p) (minus b p) ≡ origin
      line = line_up a b p ea eb ep z

      whole : facing (seen i p) (seen i a) (seen i a) +ℤ through i (minus a p) *ℤ through i (minus a p) ≡ dot (minus a p) (minus a p)
      whole =
          ap (λ (y : ℤ). y +ℤ through i (minus a p) *ℤ through i (minus a p)) (facing_shown i p a a)
          ∙ ring (dot (minus a p) (minus a p) ∷ through i (minus a p) ∷ []) (var 0 ⊖ var 1 ⊗ var 1 ⊕ var 1 ⊗ var 1) (var 0) tt

      go : Up (facing (seen i p) (seen i a) (seen i a))
          ⊎ ((facing (seen i p) (seen i a) (seen i a) ≡ pos 0) ⊎ Up (neg_ℤ (facing (seen i p) (seen i a) (seen i a))))
          → Nn (neg_ℤ (facing (seen j p) (seen j a) (seen j b)))
      go (inl u) =
          let F = facing (seen i p) (seen i a) (seen i a) in
          let kd = up_is whole (up_add u (square_nonneg (through i (minus a p)))) in
          over (dot (minus a p) (minus a p)) (facing (seen j p) (seen j a) (seen j b)) (dot (minus a p) (minus b p))
          (facing (seen j p) (seen j a) (seen j a)) kd (in_ratio j p a b line)
          (over F (dot (minus a p) (minus b p)) (facing (seen i p) (seen i a) (seen i b)) (dot (minus a p) (minus a p)) u
          (ring (F ∷ dot (minus a p) (minus b p) ∷ []) (var 0 ⊗ var 1) (var 1 ⊗ var 0) tt ∙ sym (in_ratio i p a b line)
          ∙ ring (dot (minus a p) (minus a p) ∷ facing (seen i p) (seen i a) (seen i b) ∷ []) (var 0 ⊗ var 1) (var 1 ⊗ var 0) tt) h
          (up_nn kd))
          (self_nn (seen j p) (seen j a))
      go (inr (inl e)) =
          let q = view_one i n a p hi (level n c p a ep ea) (self_zero (seen i p) (seen i a) e) in
          nn_is (ap neg_ℤ (sym (ap (λ (y : Point). facing (seen j p) (seen j y) (seen j b)) q ∙ facing-end (seen j p) (seen j b))))
          (record { le = tt })
      go (inr (inr u)) = absurd (off u (nn_is (twice (facing (seen i p) (seen i a) (seen i a))) (self_nn (seen i p) (seen i a))))
