-- Of the loops of a drawing that passes 11 and 13: a direction strictly inside a corner angle, as rule C decides it, leads into the loop,
-- and no other does; one strictly outside it leads out.
use mathlib.Core.Path.{◌≡◌, refl, sym, ◌∙◌, ap, subst}
use mathlib.Core.Option.{none}
use mathlib.Core.Logic.{◌⊎◌, inl, inr, ⊎_elim}
use mathlib.Core.List.{List, [], ◌∷◌, map}
use Prim.Native.Nat.{ℕ, zero, suc, ◌+◌, ◌-◌, ◌≤◌, ◌<◌}
use native.Mathlib.Decide.{dec_lt}
use native.Mathlib.Omega.{arith}
use lib.IntN.{pos, neg_ℤ, ◌-ℤ◌}
use lib.ListN.{length, get_or}
use Rattle.lists.specs.Lists.{sides, sides_from}
use Rattle.lists.specs.Around.{around, wrap}
use Rattle.lists.proofs.Passing.{all_yes}
use Rattle.lists.proofs.Sides.{wrap_high, around_low, sides-at}
use Rattle.paper.specs.Points.{origin, minus, times, plus, dot, det, is_zero}
use Rattle.paper.specs.Polygon.{Polygon, normal, corner, plane_side, one_plane, axis, seen, where_flat}
use Rattle.paper.specs.Drawing.{Wire, same_place, edge_meets}
use Rattle.paper.specs.Loops.{loops}
use Rattle.paper.specs.declared.Point.{Point}
use Rattle.paper.specs.declared.Flat.{Flat}
use Rattle.paper.specs.declared.Axis.{Axis}
use Rattle.paper.specs.declared.Axis.TheVariants.{AlongX, AlongY, AlongZ}
use Rattle.paper.specs.declared.Where.{Where}
use Rattle.paper.specs.declared.Where.TheVariants.{Outside, Inside}
use Rattle.paper_laws.proofs.Points.{zero_yes, self_pos}
use Rattle.paper_laws.proofs.Vectors.{vec, v, ◌-s◌, ◌·◌, ◌-v◌, vring}
use Rattle.means_drawing.specs.Segments.{along}
use Rattle.means_area.specs.Flats.{Up, Nn, twice_area, area}
use Rattle.means_area.specs.Loops.{loop_of}
use Rattle.means_area.proofs.Flats.Signs.{up_is, off, which}
use Rattle.means_area.proofs.Flats.Chains.{link_back}
use Rattle.means_area.proofs.Loops.{normal_real, plane_holds, axis_holds, ring_seen, loop_long}
use Rattle.means_area.proofs.Space.Maps.{length-map}
use Rattle.means_inside.specs.Convex.{NextAlong, Next, Hand, handed}
use Rattle.means_inside.proofs.Views.{shown, shown_real}
use Rattle.means_inside.proofs.Inside.{io}
use Rattle.means_inside.proofs.Loops.{lies_is}
use Rattle.means_clash.specs.Clash.{corner_at, Corner, Left, InAngle, PointsIn}
use Rattle.means_corner.specs.Corners.{ForSmall, Starts, OutAngle, CornerAngles}
use Rattle.means_corner.proofs.Small.{then, both_small}
use Rattle.means_corner.proofs.Steps.{step}
use Rattle.means_corner.proofs.Beside.{Strict, acute, wide}
use Rattle.means_corner.proofs.Corner.{at-corner}
use Rattle.means_corner.proofs.Outside.{OuterBy}
use Rattle.means_corner.proofs.Around.{out_corner, outer_hand}
use Rattle.means_corner.proofs.Only.{in_front, next_link, straight_in}
use Rattle.means_corner.proofs.Either.{strict_or}
use Rattle.means_corner.proofs.Views.{area_shown, left_view, left_back, not_left_view, hand_for}

-- ---- corners by their places in the ring

module _ (S : Point → Flat) where
  abbrev two : Point → Point → Flat × Flat
  two y z = (S y, S z)

  step-at : (x : Point) (l : List Point) (e : Point) (k : ℕ) (d : Flat × Flat) → k < suc (length l)
      → NextAlong (S x) (map S l) (S e) (get_or (sides_from two e x l) k d).0 (get_or (sides_from two e x l) k d).1
  unfolding sides_from
  step-at x [] e zero d h = (refl, refl)
  step-at x [] e (suc k) d h = absurd (omega arith)
  step-at x (y ∷ l) e zero d h = inl (refl, refl)
  step-at x (y ∷ l) e (suc k) d h = inr (step-at y l e k d (omega arith))

  next-at : (g : Polygon) (k : ℕ) → k < length g → Next (map S g) (S (corner_at g k)) (S (corner_at g (k + 1)))
  unfolding sides
  next-at [] k h = absurd (omega arith)
  next-at (x ∷ l) k h =
      subst (λ (q : Flat × Flat). NextAlong (S x) (map S l) (S x) q.0 q.1) (sides-at two (x ∷ l) k (S x, S x) origin h)
      (step-at x l x k (S x, S x) h)

-- a place up to the length, as one below it
pub low : (g : Polygon) → 2 ≤ length g → (k : ℕ) → k ≤ length g
    → (j : ℕ) × (j < length g) × (corner_at g k ≡ corner_at g j) × (corner_at g (k + 1) ≡ corner_at g (j + 1))
unfolding around
low g long k h = go (dec_lt k (length g))
  where
    zero_high : (n k j : ℕ) → n ≤ k → k ≡ n + j → wrap n k ≡ j
    zero_high n k j l e = wrap_high n k l ∙ less n k j e
      where
        less : (n k j : ℕ) → k ≡ n + j → k - n ≡ j
        less n k j e = omega arith

    go : Dec (k < length g) → (j : ℕ) × (j < length g) × (corner_at g k ≡ corner_at g j) × (corner_at g (k + 1) ≡ corner_at g (j + 1))
    go (yes l) = (k, l, refl, refl)
    go (no l) = (
      0,
      omega arith,
      ap (λ (i : ℕ). get_or g i origin) (zero_high (length g) k 0 (omega arith) (omega arith)) ∙ sym (around_low g 0 origin (omega arith)),
      ap (λ (i : ℕ). get_or g i origin) (zero_high (length g) (k + 1) 1 (omega arith) (omega arith))
          ∙ sym (around_low g 1 origin (omega arith)),
    )

-- a corner follows some corner
follows : (g : Polygon) (j : ℕ) → j < length g → (k : ℕ) × (k < length g) × (corner_at g (k + 1) ≡ get_or g j origin)
unfolding around
follows g zero h = (
  length g - 1,
  omega arith,
  ap (λ (i : ℕ). get_or g i origin) (wrap_high (length g) (length g - 1 + 1) (omega arith) ∙ none_left
      (length g) h),
)
  where
    none_left : (n : ℕ) → 0 < n → n - 1 + 1 - n ≡ 0
    none_left n l = omega arith
follows g (suc j) h = (j, omega arith, ap (corner_at g) (one_more j) ∙ around_low g (suc j) origin h)
  where
    one_more : (j : ℕ) → j + 1 ≡ suc j
    one_more j = omega arith

-- ---- a point of the way, in the view

seen_step : (i : Axis) (u w : Point) (s n : ℕ) → seen i (along (pos n) (pos s) u w) ≡ step (seen i u) (seen i w) s n
unfolding seen plus times minus
seen_step AlongX u w s n = refl
seen_step AlongY u w s n = refl
seen_step AlongZ u w s n = refl

module _ (d : Wire) (r11 : same_place d ≡ none) (r13 : edge_meets d ≡ none) (i : ℕ) (h : i < length (loops d)) where
  abbrev g : Polygon
  g = loop_of d i

  abbrev S : Point → Flat
  S = seen (axis (normal g))

  pub in_plane : (k : ℕ) → k < length g → dot (normal g) (minus (corner_at g k) (corner g)) ≡ pos 0
  unfolding one_plane plane_side
  in_plane k l =
      ap (λ (q : Point). dot (normal g) (minus q (corner g))) (around_low g k origin l)
      ∙ zero_yes (plane_side g (get_or g k origin)) (all_yes (λ q. is_zero (plane_side g q)) origin g (plane_holds d r11 r13 i h) k l)

  pub flat-between : (p q : Point) → dot (normal g) (minus p (corner g)) ≡ pos 0 → dot (normal g) (minus q (corner g)) ≡ pos 0
      → dot (normal g) (minus q p) ≡ pos 0
  flat-between p q ep eq =
      vring (vec (normal g) ∷ vec p ∷ vec q ∷ vec (corner g) ∷ []) (v 0 · (v 2 -v v 1)) (v 0 · (v 2 -v v 3) -s v 0 · (v 1 -v v 3)) tt
      ∙ (λ t. eq t -ℤ ep t)

  module _ (hand : Hand) (seen_up : Up (handed hand (shown (axis (normal g)) (normal g)))) (a u b w : Point)
      (ea : dot (normal g) (minus a u) ≡ pos 0) (eb : dot (normal g) (minus b u) ≡ pos 0) (ew : dot (normal g) (minus w u) ≡ pos 0) where
    square : Up (dot (normal g) (normal g))
    square = self_pos (normal g) (normal_real d r11 r13 i h)

    abbrev left_is : (x y : Point) → dot (normal g) (minus x u) ≡ pos 0 → dot (normal g) (minus y u) ≡ pos 0
        → Left (normal g) (minus x u) (minus y u) → Up (handed hand (twice_area (S u) (S x) (S y)))
    left_is x y ex ey k = left_view (axis (normal g)) (normal g) square hand seen_up u x y ex ey k

    not_left : (Left (normal g) (minus b u) (minus a u) → ⊥) → Nn (neg_ℤ (handed hand (twice_area (S u) (S b) (S a))))
    not_left f =
        not_left_view (axis (normal g)) (normal g) square hand seen_up u b a eb ea (below (which (det (normal g) (minus b u) (minus a u))))
      where
        below : Up (det (normal g) (minus b u) (minus a u)) ⊎ Nn (neg_ℤ (det (normal g) (minus b u) (minus a u)))
            → Nn (neg_ℤ (det (normal g) (minus b u) (minus a u)))
        below (inl q) = absurd (f q)
        below (inr q) = q

    strict : InAngle (normal g) a u b (minus w u) → Strict hand (S u) (S b) (S a) (S w)
    strict (inl k) = acute (left_is b a eb ea k.0) (left_is b w eb ew k.1.0) (left_is w a ew ea k.1.1)
    strict (inr k) = wide (not_left k.0) (⊎_elim (λ q. inl (left_is b w eb ew q)) (λ q. inr (left_is w a ew ea q)) k.1)

    outer : OutAngle (normal g) a u b (minus w u) → OuterBy hand (S u) (S b) (S a) (S w)
    outer (inl k) =
        outer_hand hand (S u) (S b) (S a) (S w)
        (inl (left_is b a eb ea k.0, ⊎_elim (λ q. inl (left_is w b ew eb q)) (λ q. inr (left_is a w ea ew q)) k.1))
    outer (inr k) =
        outer_hand hand (S u) (S b) (S a) (S w) (inr (not_left k.0, (left_is w b ew eb k.1.0, left_is a w ea ew k.1.1)))

    left_of : (x y : Point) → dot (normal g) (minus x u) ≡ pos 0 → dot (normal g) (minus y u) ≡ pos 0
        → Up (handed hand (twice_area (S u) (S x) (S y))) → Left (normal g) (minus x u) (minus y u)
    left_of x y ex ey k = left_back (axis (normal g)) (normal g) square hand seen_up u x y ex ey k

    from_strict : Strict hand (S u) (S b) (S a) (S w) → InAngle (normal g) a u b (minus w u)
    from_strict (acute j k l) = inl (left_of b a eb ea j, (left_of b w eb ew k, left_of w a ew ea l))
    from_strict (wide j k) =
        inr ((λ l. off (left_is b a eb ea l) j), ⊎_elim (λ q. inl (left_of b w eb ew q)) (λ q. inr (left_of w a ew ea q)) k)

  -- at the corner after place k
  module _ (k : ℕ) (hk : k < length g) (u w : Point) (e : corner_at g (k + 1) ≡ u) (ew : dot (normal g) (minus w u) ≡ pos 0) where
    long : 3 ≤ length g
    long = loop_long d r11 r13 i h

    after : (j : ℕ) × (j < length g) × (corner_at g (k + 1) ≡ corner_at g j) × (corner_at g (k + 1 + 1) ≡ corner_at g (j + 1))
    after = low g (omega (arith, long)) (k + 1) (omega arith)

    next : (j : ℕ) × (j < length g) × (corner_at g (after.0 + 1) ≡ corner_at g j) × (corner_at g (after.0 + 1 + 1) ≡ corner_at g (j + 1))
    next = let q = after.1 in low g (omega (arith, long)) (after.0 + 1) (omega arith)

    twice : corner_at g (k + 2) ≡ corner_at g (after.0 + 1)
    twice = ap (corner_at g) (two_more k) ∙ after.3
      where
        two_more : (k : ℕ) → k + 2 ≡ k + 1 + 1
        two_more k = omega arith

    u_plane : dot (normal g) (minus u (corner g)) ≡ pos 0
    u_plane = ap (λ (q : Point). dot (normal g) (minus q (corner g))) (sym e ∙ after.2) ∙ in_plane after.0 after.1

    b_plane : dot (normal g) (minus (corner_at g (k + 2)) (corner g)) ≡ pos 0
    b_plane = ap (λ (q : Point). dot (normal g) (minus q (corner g))) (twice ∙ next.2) ∙ in_plane next.0 next.1

    came : Next (map S g) (S (corner_at g k)) (S u)
    came = subst (λ (q : Point). Next (map S g) (S (corner_at g k)) (S q)) e (next-at S g k hk)

    goes : Next (map S g) (S u) (S (corner_at g (k + 2)))
    goes =
        subst (λ (q : Point). Next (map S g) (S q) (S (corner_at g (k + 2)))) (sym after.2 ∙ e)
        (subst (λ (q : Point). Next (map S g) (S (corner_at g after.0)) (S q)) (sym twice) (next-at S g after.0 after.1))

    a_flat : dot (normal g) (minus (corner_at g k) u) ≡ pos 0
    a_flat = flat-between u (corner_at g k) u_plane (in_plane k hk)

    b_flat : dot (normal g) (minus (corner_at g (k + 2)) u) ≡ pos 0
    b_flat = flat-between u (corner_at g (k + 2)) u_plane b_plane

    -- the hand on which the loop is seen
    hand : (h : Hand) × Up (handed h (shown (axis (normal g)) (normal g)))
    hand = hand_for (shown (axis (normal g)) (normal g)) (shown_real (axis (normal g)) (normal g) (axis_holds d r11 r13 i h))

    turns_so : Up (handed hand.0 (area (map S g)))
    turns_so = up_is (ap (handed hand.0) (sym (area_shown (axis (normal g)) g))) hand.1

    seen_as : (o : Where) → ForSmall (λ s n. where_flat (step (S u) (S w) s n) (pos n) (map S g) ≡ o)
        → Starts g u w o
    seen_as o =
        then (λ s n q. lies_is d r11 r13 i h (along (pos n) (pos s) u w) (pos n)
        ∙ ap (λ (z : Flat). where_flat z (pos n) (map S g)) (seen_step (axis (normal g)) u w s n) ∙ q)

    into : InAngle (normal g) (corner_at g k) u (corner_at g (k + 2)) (minus w u)
        → Starts g u w Inside
    into angle =
        let r = ring_seen d r11 r13 i h in
        seen_as Inside
        (at-corner r.0 (map S g) r.1 hand.0 (S (corner_at g k)) (S u) (S (corner_at g (k + 2))) (S w) came goes
        (strict hand.0 hand.1 (corner_at g k) u (corner_at g (k + 2)) w a_flat b_flat ew angle) (omega (arith, long, length-map S g))
        turns_so)

    out : OutAngle (normal g) (corner_at g k) u (corner_at g (k + 2)) (minus w u)
        → Starts g u w Outside
    out angle =
        let r = ring_seen d r11 r13 i h in
        seen_as Outside
        (out_corner r.0 hand.0 (S (corner_at g k)) (S u) (S (corner_at g (k + 2))) (S w)
        (outer hand.0 hand.1 (corner_at g k) u (corner_at g (k + 2)) w a_flat b_flat ew angle) (map S g) r.1
        (omega (arith, long, length-map S g)) turns_so came goes)

    only : Starts g u w Inside
        → InAngle (normal g) (corner_at g k) u (corner_at g (k + 2)) (minus w u)
    only f =
        let r = ring_seen d r11 r13 i h in
        let a = corner_at g k in
        let b = corner_at g (k + 2) in
        let n : 3 ≤ length (map S g) = omega (arith, long, length-map S g) in
        let q : ForSmall (λ s n. where_flat (step (S u) (S w) s n) (pos n) (map S g) ≡ Inside) = then
        (λ s n q. ap (λ (z : Flat). where_flat z (pos n) (map S g)) (sym (seen_step (axis (normal g)) u w s n))
        ∙ sym (lies_is d r11 r13 i h (along (pos n) (pos s) u w) (pos n)) ∙ q) f in
        from_strict hand.0 hand.1 a u b w a_flat b_flat ew
        (strict_or hand.0 (S u) (S b) (S a) (S w) (in_front (S u) (S w) (map S g) q (S b) (next_link (map S g) (S u) (S b) goes))
        (in_front (S u) (S w) (map S g) q (S a) (link_back (map S g) (S a) (S u) (next_link (map S g) (S a) (S u) came)))
        (straight_in r.0 (map S g) r.1 n (S a) (S u) (S b) came goes)
        (λ o. never q (out_corner r.0 hand.0 (S a) (S u) (S b) (S w) o (map S g) r.1 n turns_so came goes)))
      where
        never : ForSmall (λ s n. where_flat (step (S u) (S w) s n) (pos n) (map S g) ≡ Inside)
            → ForSmall (λ s n. where_flat (step (S u) (S w) s n) (pos n) (map S g) ≡ Outside) → ⊥
        never p q =
            let f = both_small p q in
            let c = f.1 1 (suc f.0) (omega arith) (omega arith) (omega arith) in
            io (sym c.0 ∙ c.1)

pub corner_angles : CornerAngles
corner_angles d r11 r13 i h = record {
  leads_in = λ u w c ew. (λ p. into d r11 r13 i h p.before p.here u w p.corner ew p.angle, back u w c ew);
  leads_out = λ u w ew p. out d r11 r13 i h p.before p.here u w p.corner ew p.angle;
}
  where
    back : (u w : Point) → Corner (loop_of d i) u → dot (normal (loop_of d i)) (minus w u) ≡ pos 0 → Starts (loop_of d i) u w Inside
        → PointsIn (loop_of d i) u w
    back u w (j, l, e) ew f =
        let k = follows (loop_of d i) j l in
        record { before = k.0; here = k.1; corner = k.2 ∙ e; angle = only d r11 r13 i h k.0 k.1 u w (k.2 ∙ e) ew f }
