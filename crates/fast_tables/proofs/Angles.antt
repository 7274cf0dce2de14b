-- No direction along a side points strictly inside the angle at its end.
use mathlib.Core.Path.{◌≡◌, refl, sym, ap, ◌∙◌}
use mathlib.Core.Bool.{Bool, true, false, ◌&&◌, true≢false}
use mathlib.Core.Logic.{◌⊎◌, inl, inr}
use mathlib.Core.List.{List, [], ◌∷◌, map}
use Prim.Native.Nat.{ℕ, ◌+◌, ◌≤◌, ◌<◌}
use native.Mathlib.Omega.{arith}
use lib.ListN.{length, get_or}
use lib.IntN.{pos}
use Rattle.lists.specs.Lists.{sides, any_true}
use Rattle.lists.specs.Around.{wrap, around}
use Rattle.lists.proofs.Truth.{never_true, and_left, and_right}
use Rattle.lists.proofs.Sides.{sides_length, sides_map, sides-around, side_yes, wrap-below}
use Rattle.paper.specs.Points.{origin, minus, det, above, same_point}
use Rattle.paper.specs.Polygon.{normal}
use Rattle.paper.specs.Drawing.{Wire, edge, at}
use Rattle.paper.specs.Loops.{Loop, polygon}
use Rattle.paper.specs.Clash.{angle_holds, in_angle, Side, to, turns_at, points_in}
use Rattle.paper.specs.Solids.{runs, has}
use Rattle.paper.specs.declared.Point.{Point}
use Rattle.paper_laws.proofs.Vectors.{vec, k, dets, v, vring}
use Rattle.paper_laws.proofs.Points.{same_yes}
use Rattle.fast_tables.specs.Paths.{PointsApart, Path}
use Rattle.fast_tables.proofs.Rounds.{wrap-after, wrap_before, runs_yes, has_cases}

flat-above : (n p : Point) → above (det n p p) ≡ false
unfolding above
flat-above n p = ap above (vring (vec n ∷ vec p ∷ []) (dets (v 0) (v 1) (v 1)) (k (pos 0)) tt)

-- along the side to the corner after, and to the one before
pub angle_after : (n a u b : Point) → in_angle n a u b (minus b u) ≡ false
unfolding in_angle angle_holds
angle_after n a u b =
    ap (λ (x : Bool). angle_holds (above (det n (minus b u) (minus a u))) x (above (det n (minus b u) (minus a u))))
    (flat-above n (minus b u)) ∙ none (above (det n (minus b u) (minus a u)))
  where
    none : (x : Bool) → angle_holds x false x ≡ false
    none true = refl
    none false = refl

pub angle_before : (n a u b : Point) → in_angle n a u b (minus a u) ≡ false
unfolding in_angle angle_holds
angle_before n a u b =
    ap (λ (x : Bool). angle_holds (above (det n (minus b u) (minus a u))) (above (det n (minus b u) (minus a u))) x)
    (flat-above n (minus a u)) ∙ none (above (det n (minus b u) (minus a u)))
  where
    none : (x : Bool) → angle_holds x x false ≡ false
    none true = refl
    none false = refl

module _ (d : Wire) (apart : PointsApart d) (l : Loop) (path : Path d l) where
  two : 2 ≤ length l
  two = let h = path.long in omega (arith, h)

  -- a corner of the loop where a direction points inside the angle
  turning : (n u w : Point) → any_true (sides (turns_at n u w) (sides to (map (at d) l))) ≡ true
      → (k : ℕ) × (k < length l)
      × (turns_at n u w (to (at d (around l k 0)) (at d (around l (k + 1) 0)))
      (to (at d (around l (k + 1) 0)) (at d (around l (k + 1 + 1) 0))) ≡ true)
  turning n u w e =
      let r = side_yes (to origin origin) (turns_at n u w) (sides bound l)
      (sym (ap (λ (s : List Side). any_true (sides (turns_at n u w) s)) (sides_map to (at d) l)) ∙ e) in
      let h : r.0 < length l = omega (arith, r.1, sides_length bound l) in
      (r.0, h, bounds r.0 h r.2)
    where
      bound : ℕ → ℕ → Side
      bound a b = to (at d a) (at d b)

      bounds : (j : ℕ) → j < length l
          → turns_at n u w (around (sides bound l) j (to origin origin)) (around (sides bound l) (j + 1) (to origin origin)) ≡ true
          → turns_at n u w (bound (around l j 0) (around l (j + 1) 0)) (bound (around l (j + 1) 0) (around l (j + 1 + 1) 0)) ≡ true
      bounds j h t =
          let f : around (sides bound l) j (to origin origin) ≡ bound (around l j 0) (around l (j + 1) 0) = sides-around bound l j
          (to origin origin) 0 two (omega (arith, h)) in
          let g : around (sides bound l) (j + 1) (to origin origin) ≡ bound (around l (j + 1) 0) (around l (j + 1 + 1) 0) = sides-around
          bound l (j + 1) (to origin origin) 0 two (omega (arith, h)) in
          (λ i. turns_at n u w (sym f i) (sym g i)) ∙ t

  around-below : (k : ℕ) → k < length l + length l → around l k 0 < length d.vertices
  unfolding around
  around-below m h = path.below (wrap (length l) m) (wrap-below (length l) m h)

  pub around_differ : (j k : ℕ) → j < length l + length l → k < length l + length l → around l j 0 ≡ around l k 0
      → wrap (length l) j ≡ wrap (length l) k
  unfolding around
  around_differ j m hj hm e =
      path.differ (wrap (length l) j) (wrap (length l) m) (wrap-below (length l) j hj) (wrap-below (length l) m hm) e

  around-same : (j k : ℕ) → wrap (length l) j ≡ wrap (length l) k → around l j 0 ≡ around l k 0
  unfolding around
  around-same j m e = ap (λ (i : ℕ). get_or l i 0) e

  -- where the direction from corner x to y points inside the angle at x, x and y are no side
  pub points_no_side : (x y : ℕ) → x < length d.vertices → points_in (polygon d l) (at d x) (at d y) ≡ true → has (edge x y) l ≡ false
  unfolding points_in polygon turns_at
  points_no_side x y hx e = never_true (has (edge x y) l) (λ t. clear (has_cases x y l t))
    where
      n : Point
      n = normal (polygon d l)

      answers : (k : ℕ) × (k < length l)
          × ((same_point (at d (around l (k + 1) 0)) (at d x) && in_angle n (at d (around l k 0)) (at d (around l (k + 1) 0))
          (at d (around l (k + 1 + 1) 0)) (minus (at d y) (at d x))) ≡ true)
      answers = turning n (at d x) (minus (at d y) (at d x)) e

      j : ℕ
      j = answers.0

      hj : j < length l
      hj = answers.1

      a : ℕ
      a = around l j 0

      p : ℕ
      p = around l (j + 1) 0

      b : ℕ
      b = around l (j + 1 + 1) 0

      here : p ≡ x
      here = apart p x (around-below (j + 1) (let h = hj in omega (arith, h))) hx
          (same_yes (at d p) (at d x)
          (and_left (same_point (at d p) (at d x)) (in_angle n (at d a) (at d p) (at d b) (minus (at d y) (at d x))) answers.2))

      inside : in_angle n (at d a) (at d p) (at d b) (minus (at d y) (at d p)) ≡ true
      inside = ap (λ (z : ℕ). in_angle n (at d a) (at d p) (at d b) (minus (at d y) (at d z))) here
          ∙ and_right (same_point (at d p) (at d x)) (in_angle n (at d a) (at d p) (at d b) (minus (at d y) (at d x))) answers.2

      clear : (runs x y l ≡ true) ⊎ (runs y x l ≡ true) → ⊥
      clear (inl t) =
          let r = runs_yes x y l t in
          let h = hj in
          let s = r.1 in
          let w : wrap (length l) r.0 ≡ wrap (length l) (j + 1) = around_differ r.0 (j + 1) (omega (arith, s)) (omega (arith, h))
          (r.2 ∙ sym here) in
          let q : y ≡ b = sym r.3
          ∙ around-same (r.0 + 1) (j + 1 + 1) (wrap-after (length l) r.0 (j + 1) two s (omega (arith, h)) w) in
          true≢false (sym inside ∙ ap (λ (z : ℕ). in_angle n (at d a) (at d p) (at d b) (minus (at d z) (at d p))) q
          ∙ angle_after n (at d a) (at d p) (at d b))
      clear (inr t) =
          let r = runs_yes y x l t in
          let h = hj in
          let s = r.1 in
          let w : wrap (length l) (r.0 + 1) ≡ wrap (length l) (j + 1) = around_differ (r.0 + 1) (j + 1) (omega (arith, s))
          (omega (arith, h)) (r.3 ∙ sym here) in
          let q : y ≡ a = sym r.2 ∙ ap (λ (i : ℕ). around l i 0) (wrap_before (length l) r.0 j s hj w) in
          true≢false (sym inside ∙ ap (λ (z : ℕ). in_angle n (at d a) (at d p) (at d b) (minus (at d z) (at d p))) q
          ∙ angle_before n (at d a) (at d p) (at d b))
