-- Faces in their planes clash either way round.
use mathlib.Core.Bool.{Bool, true, false, not, ◌&&◌, ◌||◌, true≢false}
use mathlib.Core.List.{List, [], ◌∷◌}
use mathlib.Core.Logic.{◌⊎◌, inl, inr}
use mathlib.Core.Path.{◌≡◌, refl, sym, ap, ap₂, ◌∙◌}
use Prim.Native.Nat.{ℕ, ◌<◌}
use lib.IntN.{ℤ, pos}
use lib.ListN.{length, get_or}
use Rattle.paper_laws.proofs.Points.{same_yes, same_is, origin_yes, dot-origin}
use Rattle.lists.specs.Lists.{any, sides, sides_from, any_true}
use Rattle.lists.proofs.Truth.{and_left, and_right, and_both, same_truth}
use Rattle.lists.proofs.Passing.{any_yes, any_is}
use Rattle.paper.specs.Points.{origin, minus, cross, det, above, is_origin, same_point}
use Rattle.paper.specs.Polygon.{Polygon, normal, one_plane}
use Rattle.paper.specs.Clash.{pierces, enters, angle_holds, in_angle, Side, to, turns_at, points_in, is_corner, bends, folds, clash}
use Rattle.paper.specs.declared.Point.{Point}
use Rattle.paper_laws.specs.Planes.{InOwnPlane}
use Rattle.means_clash.proofs.Planes.{plane_either}

-- ---- two points at one place are one

pub corner_yes : (g : Polygon) (p : Point) → is_corner g p ≡ true → (i : ℕ) × (i < length g) × (get_or g i origin ≡ p)
unfolding is_corner
corner_yes g p e =
    let r = any_yes (same_point p) origin g e in
    (r.0, r.1, sym (same_yes p (get_or g r.0 origin) r.2))

pub yes_corner : (g : Polygon) (i : ℕ) (p : Point) → i < length g → get_or g i origin ≡ p → is_corner g p ≡ true
unfolding is_corner
yes_corner g i p h e = any_is (same_point p) origin g i h (same_is p (get_or g i origin) (sym e))

-- ---- rule C, but for the planes
record Bend (f g : Polygon) : Type 0 where
  u : Point
  v : Point
  u_in_f : (i : ℕ) × (i < length f) × (get_or f i origin ≡ u)
  u_in_g : (i : ℕ) × (i < length g) × (get_or g i origin ≡ u)
  v_in_f : (i : ℕ) × (i < length f) × (get_or f i origin ≡ v)
  v_in_g : (i : ℕ) × (i < length g) × (get_or g i origin ≡ v)
  other : not (same_point u v) ≡ true
  in_f : points_in f u v ≡ true
  in_g : points_in g u v ≡ true

abbrev meets : Polygon → Polygon → Bool
meets f g = any (λ u. is_corner g u && any (bends f g u) f) f

meets_bend : (f g : Polygon) → meets f g ≡ true → Bend f g
unfolding bends
meets_bend f g e =
    let r = any_yes (λ u. is_corner g u && any (bends f g u) f) origin f e in
    let u : Point = get_or f r.0 origin in
    let c : is_corner g u ≡ true = and_left (is_corner g u) (any (bends f g u) f) r.2 in
    let s = any_yes (bends f g u) origin f (and_right (is_corner g u) (any (bends f g u) f) r.2) in
    let v : Point = get_or f s.0 origin in
    let t₁ = and_left (is_corner g v && not (same_point u v) && points_in f u v) (points_in g u v) s.2 in
    let t₂ = and_left (is_corner g v && not (same_point u v)) (points_in f u v) t₁ in
    record {
      u = u;
      v = v;
      u_in_f = (r.0, r.1, refl);
      u_in_g = corner_yes g u c;
      v_in_f = (s.0, s.1, refl);
      v_in_g = corner_yes g v (and_left (is_corner g v) (not (same_point u v)) t₂);
      other = and_right (is_corner g v) (not (same_point u v)) t₂;
      in_f = and_right (is_corner g v && not (same_point u v)) (points_in f u v) t₁;
      in_g = and_right (is_corner g v && not (same_point u v) && points_in f u v) (points_in g u v) s.2;
    }

bend_bends : (f g : Polygon) (b : Bend f g) → bends f g b.u b.v ≡ true
unfolding bends
bend_bends f g b =
    and_both (and_both (and_both (yes_corner g b.v_in_g.0 b.v b.v_in_g.1 b.v_in_g.2) b.other) b.in_f) b.in_g

bend_meets : (f g : Polygon) → Bend f g → meets f g ≡ true
bend_meets f g b =
    let inner : any (bends f g b.u) f ≡ true
    = any_is (bends f g b.u) origin f b.v_in_f.0 b.v_in_f.1 (ap (bends f g b.u) b.v_in_f.2 ∙ bend_bends f g b) in
    any_is (λ u. is_corner g u && any (bends f g u) f) origin f b.u_in_f.0 b.u_in_f.1
    (ap (λ (p : Point). is_corner g p && any (bends f g p) f) b.u_in_f.2
    ∙ and_both (yes_corner g b.u_in_g.0 b.u b.u_in_g.1 b.u_in_g.2) inner)

bend_turned : {f g : Polygon} → Bend f g → Bend g f
bend_turned b = record {
  u = b.u;
  v = b.v;
  u_in_f = b.u_in_g;
  u_in_g = b.u_in_f;
  v_in_f = b.v_in_g;
  v_in_g = b.v_in_f;
  other = b.other;
  in_f = b.in_g;
  in_g = b.in_f;
}

-- ---- no direction points into an angle of a face without an area
none-det : (p q : Point) → det origin p q ≡ pos 0
unfolding det
none-det p q = dot-origin (cross p q)

none_above : (z : ℤ) → z ≡ pos 0 → above z ≡ false
unfolding above
none_above z e = rw e

none_angle : (a u b w : Point) → in_angle origin a u b w ≡ false
unfolding in_angle angle_holds
none_angle a u b w =
    rw (
      none_above (det origin (minus b u) (minus a u)) (none-det (minus b u) (minus a u)),
      none_above (det origin (minus b u) w) (none-det (minus b u) w),
      none_above (det origin w (minus a u)) (none-det w (minus a u)),
    )

and_no : (x : Bool) {y : Bool} → y ≡ false → (x && y) ≡ false
and_no true e = e
and_no false e = refl

none_turns : (u w : Point) (s t : Side) → turns_at origin u w s t ≡ false
unfolding turns_at
none_turns u w (to a p) (to q b) = and_no (same_point p u) (none_angle a p b w)

none-sides : (f : Side → Side → Bool) → ((s t : Side) → f s t ≡ false) → (l : List Side) → any_true (sides f l) ≡ false
unfolding any_true sides sides_from
none-sides f h [] = refl
none-sides f h (a ∷ r) = go a r
  where
    go : (x : Side) (ys : List Side) → any_true (sides_from f a x ys) ≡ false
    go x [] = ap (λ (b : Bool). b || false) (h x a)
    go x (y ∷ ys) = ap₂ ◌||◌ (h x y) (go y ys)

none_points : (g : Polygon) → is_origin (normal g) ≡ true → (u v : Point) → points_in g u v ≡ false
unfolding points_in
none_points g e u v =
    ap (λ (n : Point). any_true (sides (turns_at n u (minus v u)) (sides to g))) (origin_yes (normal g) e)
    ∙ none-sides (turns_at origin u (minus v u)) (none_turns u (minus v u)) (sides to g)

no_bend : (f g : Polygon) → (is_origin (normal f) ≡ true) ⊎ (is_origin (normal g) ≡ true) → meets f g ≡ false
no_bend f g h = go (meets f g) refl
  where
    clear : Bend f g → (is_origin (normal f) ≡ true) ⊎ (is_origin (normal g) ≡ true) → ⊥
    clear b (inl e) = true≢false (sym b.in_f ∙ none_points f e b.u b.v)
    clear b (inr e) = true≢false (sym b.in_g ∙ none_points g e b.u b.v)

    go : (x : Bool) → meets f g ≡ x → x ≡ false
    go true e = absurd (clear (meets_bend f g e) h)
    go false e = refl

pub folds-either : (f g : Polygon) → InOwnPlane f → InOwnPlane g → folds f g ≡ folds g f
unfolding folds
folds-either f g hf hg = go (is_origin (normal f)) refl (is_origin (normal g)) refl
  where
    go : (x : Bool) → is_origin (normal f) ≡ x → (y : Bool) → is_origin (normal g) ≡ y
        → (not (one_plane f g) && meets f g) ≡ (not (one_plane g f) && meets g f)
    go true p y q = and_no (not (one_plane f g)) (no_bend f g (inl p)) ∙ sym (and_no (not (one_plane g f)) (no_bend g f (inr p)))
    go false p true q = and_no (not (one_plane f g)) (no_bend f g (inr q)) ∙ sym (and_no (not (one_plane g f)) (no_bend g f (inl q)))
    go false p false q =
        ap₂ (λ (x y : Bool). not x && y) (plane_either f g hf p hg q)
        (same_truth (meets f g) (meets g f) (λ e. bend_meets g f (bend_turned (meets_bend f g e)))
        (λ e. bend_meets f g (bend_turned (meets_bend g f e))))

swap : (a b c d e : Bool) → (a || b || (c || d) || e) ≡ (b || a || (d || c) || e)
swap true true c d e = refl
swap true false c d e = refl
swap false true c d e = refl
swap false false true true e = refl
swap false false true false e = refl
swap false false false true e = refl
swap false false false false e = refl

pub clash-either : (f g : Polygon) → InOwnPlane f → InOwnPlane g → clash f g ≡ clash g f
unfolding clash
clash-either f g hf hg =
    swap (pierces f g) (pierces g f) (enters f g) (enters g f) (folds f g)
    ∙ ap (λ (x : Bool). pierces g f || pierces f g || (enters g f || enters f g) || x) (folds-either f g hf hg)
