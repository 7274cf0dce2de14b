-- Rule C asks for two corners of both faces that are a side of neither.
use mathlib.Core.Path.{◌≡◌, refl, sym, ap, ◌∙◌}
use mathlib.Core.Bool.{Bool, true, false, not, ◌&&◌, true≢false}
use mathlib.Core.Logic.{◌⊎◌, inl, inr}
use Prim.Native.Nat.{ℕ, zero, suc, ◌+◌, ◌≤◌, ◌<◌}
use native.Mathlib.Nat.{eq-or-lt_of_le}
use native.Mathlib.Omega.{arith}
use borrow.Author.Tests.{not-true}
use lib.ListN.{length, get_or}
use Rattle.paper_laws.proofs.Points.{same_yes, same_is}
use Rattle.lists.specs.Lists.{any, member}
use Rattle.lists.specs.Around.{wrap, around}
use Rattle.lists.proofs.Truth.{and_left, and_right}
use Rattle.lists.proofs.Passing.{any_yes}
use Rattle.lists.proofs.Sides.{around_low}
use Rattle.paper.specs.Points.{origin, same_point}
use Rattle.paper.specs.Polygon.{one_plane}
use Rattle.paper.specs.Drawing.{Wire, edge, at}
use Rattle.paper.specs.Loops.{Loop, polygon}
use Rattle.paper.specs.Clash.{points_in, is_corner, bends, folds}
use Rattle.paper.specs.Solids.{has}
use Rattle.paper.specs.declared.Point.{Point}
use Rattle.fast_tables.specs.Paths.{PointsApart, Path}
use Rattle.fast_tables.proofs.Rounds.{member_yes, member_is, runs_is, has_up, has_down}
use Rattle.paper_laws.proofs.Wires.{polygon_length, corner-at}
use Rattle.fast_tables.proofs.Angles.{points_no_side}

-- two corners of both loops that are a side of neither
pub record Bent (d : Wire) (f g : Loop) : Type 0 where
  pub x : ℕ
  pub y : ℕ
  pub other : x ≡ y → ⊥
  pub x_below : x < length d.vertices
  pub y_below : y < length d.vertices
  pub x_in_f : member x f ≡ true
  pub x_in_g : member x g ≡ true
  pub y_in_f : member y f ≡ true
  pub y_in_g : member y g ≡ true
  pub no_side_f : has (edge x y) f ≡ false
  pub no_side_g : has (edge x y) g ≡ false

module _ (d : Wire) (apart : PointsApart d) (f g : Loop) (pf : Path d f) (pg : Path d g) where
  corner_shared : (x : ℕ) → x < length d.vertices → is_corner (polygon d g) (at d x) ≡ true → member x g ≡ true
  unfolding is_corner
  corner_shared x h e =
      let r = any_yes (same_point (at d x)) origin (polygon d g) e in
      let k : r.0 < length g = omega (arith, r.1, polygon_length d g) in
      let s : at d x ≡ at d (get_or g r.0 0) = same_yes (at d x) (get_or (polygon d g) r.0 origin) r.2 ∙ corner-at d g r.0 k in
      member_is x g r.0 k (sym (apart x (get_or g r.0 0) h (pg.below r.0 k) s))

  pub folds_bent : folds (polygon d f) (polygon d g) ≡ true → Bent d f g
  unfolding folds bends
  folds_bent e =
      let F = polygon d f in
      let G = polygon d g in
      let turns : Point → Bool = λ u. is_corner G u && any (bends F G u) F in
      let r = any_yes turns origin F (and_right (not (one_plane F G)) (any turns F) e) in
      let i : r.0 < length f = omega (arith, r.1, polygon_length d f) in
      let x = get_or f r.0 0 in
      let u = at d x in
      let t : turns u ≡ true = ap turns (sym (corner-at d f r.0 i)) ∙ r.2 in
      let s = any_yes (bends F G u) origin F (and_right (is_corner G u) (any (bends F G u) F) t) in
      let j : s.0 < length f = omega (arith, s.1, polygon_length d f) in
      let y = get_or f s.0 0 in
      let v = at d y in
      let b : (is_corner G v && not (same_point u v) && points_in F u v && points_in G u v) ≡ true = ap (bends F G u)
      (sym (corner-at d f s.0 j)) ∙ s.2 in
      let c = and_left (is_corner G v && not (same_point u v) && points_in F u v) (points_in G u v) b in
      let a = and_left (is_corner G v && not (same_point u v)) (points_in F u v) c in
      record {
        x = x;
        y = y;
        other =
            λ q. true≢false (sym (same_is u v (ap (at d) q)) ∙ not-true (same_point u v) (and_right (is_corner G v) (not (same_point u v)) a));
        x_below = pf.below r.0 i;
        y_below = pf.below s.0 j;
        x_in_f = member_is x f r.0 i refl;
        x_in_g = corner_shared x (pf.below r.0 i) (and_left (is_corner G u) (any (bends F G u) F) t);
        y_in_f = member_is y f s.0 j refl;
        y_in_g = corner_shared y (pf.below s.0 j) (and_left (is_corner G v) (not (same_point u v)) a);
        no_side_f =
            points_no_side d apart f pf x y (pf.below r.0 i) (and_right (is_corner G v && not (same_point u v)) (points_in F u v) c);
        no_side_g =
            points_no_side d apart g pg x y (pf.below r.0 i)
            (and_right (is_corner G v && not (same_point u v) && points_in F u v) (points_in G u v) b);
      }

-- ---- two corners of a triangle are a side
next_of_three : (i j : ℕ) → i < 3 → j < 3 → (i ≡ j → ⊥) → (wrap 3 (i + 1) ≡ j) ⊎ (wrap 3 (j + 1) ≡ i)
unfolding wrap
next_of_three zero zero a b n = absurd (n refl)
next_of_three zero (suc zero) a b n = inl refl
next_of_three zero (suc (suc zero)) a b n = inr refl
next_of_three zero (suc (suc (suc j))) a b n = absurd (omega arith)
next_of_three (suc zero) zero a b n = inr refl
next_of_three (suc zero) (suc zero) a b n = absurd (n refl)
next_of_three (suc zero) (suc (suc zero)) a b n = inl refl
next_of_three (suc zero) (suc (suc (suc j))) a b n = absurd (omega arith)
next_of_three (suc (suc zero)) zero a b n = inl refl
next_of_three (suc (suc zero)) (suc zero) a b n = inr refl
next_of_three (suc (suc zero)) (suc (suc zero)) a b n = absurd (n refl)
next_of_three (suc (suc zero)) (suc (suc (suc j))) a b n = absurd (omega arith)
next_of_three (suc (suc (suc i))) j a b n = absurd (omega arith)

pub triangle_side : (l : Loop) → length l ≡ 3 → (x y : ℕ) → (x ≡ y → ⊥) → member x l ≡ true → member y l ≡ true → has (edge x y) l ≡ true
unfolding around
triangle_side l e x y n mx my =
    go (next_of_three i j (omega (arith, hi, e)) (omega (arith, hj, e)) (λ q. n (sym r.2 ∙ ap (λ (k : ℕ). get_or l k 0) q ∙ s.2)))
  where
    r : (k : ℕ) × (k < length l) × (get_or l k 0 ≡ x)
    r = member_yes x l mx

    s : (k : ℕ) × (k < length l) × (get_or l k 0 ≡ y)
    s = member_yes y l my

    i : ℕ
    i = r.0

    j : ℕ
    j = s.0

    hi : i < length l
    hi = r.1

    hj : j < length l
    hj = s.1

    go : (wrap 3 (i + 1) ≡ j) ⊎ (wrap 3 (j + 1) ≡ i) → has (edge x y) l ≡ true
    go (inl q) =
        has_up x y l
        (runs_is x y l i hi (around_low l i 0 hi ∙ r.2) (ap (λ (m : ℕ). get_or l (wrap m (i + 1)) 0) e ∙ ap (λ (k : ℕ). get_or l k 0) q
        ∙ s.2))
    go (inr q) =
        has_down x y l
        (runs_is y x l j hj (around_low l j 0 hj ∙ s.2) (ap (λ (m : ℕ). get_or l (wrap m (j + 1)) 0) e ∙ ap (λ (k : ℕ). get_or l k 0) q
        ∙ r.2))

-- so a face that is a triangle folds with none
pub bent_long : (d : Wire) (f g : Loop) → Path d f → Path d g → Bent d f g → (3 < length f) × (3 < length g)
bent_long d f g pf pg b = (
  more (length f) pf.long (λ e. true≢false (sym (triangle_side f e b.x b.y b.other b.x_in_f b.y_in_f) ∙ b.no_side_f)),
  more (length g) pg.long (λ e. true≢false (sym (triangle_side g e b.x b.y b.other b.x_in_g b.y_in_g) ∙ b.no_side_g)),
)
  where
    more : (n : ℕ) → 3 ≤ n → (n ≡ 3 → ⊥) → 3 < n
    more n h q = go (eq-or-lt_of_le h)
      where
        go : (3 ≡ n) ⊎ (3 < n) → 3 < n
        go (inl e) = absurd (q (sym e))
        go (inr l) = l
