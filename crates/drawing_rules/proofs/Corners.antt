-- A list of points in which one is put, and the lists of boxes as they are filled.
use mathlib.Core.Path.{◌≡◌, ◌∙◌}
use mathlib.Core.List.{List}
use Prim.Native.Nat.{ℕ, ◌+◌, ◌*◌, ◌<◌}
use native.Mathlib.Decide.{ℕ_discrete}
use native.Mathlib.Omega.{arith}
use lib.IntN.{ℤ, pos}
use lib.ListN.{length, get_or, set, length-set}
use lib.Seq.{get_or-set_same, get_or-set_other}
use Rattle.paper.specs.Points.{pt}
use Rattle.paper.specs.declared.Point.{Point}
use Rattle.polygon.specs.Rings.{point_of}
use Rattle.drawing_segments.specs.declared.Span.{Span}
use Rattle.drawing_rules.specs.Boxes.{box_in, point_put}

module _ (l : List ℤ) (k : ℕ) (p : Point) where
  pub put_length : length (point_put l k p) ≡ length l
  unfolding point_put
  put_length = simp length-set

  abbrev l1 : List ℤ
  l1 = set l (3 * k) p.x

  abbrev l2 : List ℤ
  l2 = set l1 (3 * k + 1) p.y

  put_here : 3 * k + 2 < length l → point_of (point_put l k p) k ≡ p
  unfolding point_of point_put
  put_here h =
      let h1 : 3 * k + 1 < length l1 = omega (arith, length-set l (3 * k) p.x) in
      let h2 : 3 * k + 2 < length l2 = omega (arith, length-set l1 (3 * k + 1) p.y, length-set l (3 * k) p.x) in
      let x = get_or-set_other l2 (3 * k + 2) (3 * k) p.z (pos 0) (λ e. omega (arith, e))
      ∙ get_or-set_other l1 (3 * k + 1) (3 * k) p.y (pos 0) (λ e. omega (arith, e))
      ∙ get_or-set_same l (3 * k) p.x (pos 0) (omega arith) in
      let y = get_or-set_other l2 (3 * k + 2) (3 * k + 1) p.z (pos 0) (λ e. omega (arith, e))
      ∙ get_or-set_same l1 (3 * k + 1) p.y (pos 0) h1 in
      let z = get_or-set_same l2 (3 * k + 2) p.z (pos 0) h2 in
      λ i. pt (x i) (y i) (z i)

  -- another coordinate is as it was
  kept : (j : ℕ) → (j ≡ 3 * k → ⊥) → (j ≡ 3 * k + 1 → ⊥) → (j ≡ 3 * k + 2 → ⊥) → get_or (point_put l k p) j (pos 0) ≡ get_or l j (pos 0)
  unfolding point_put
  kept j a b c =
      get_or-set_other l2 (3 * k + 2) j p.z (pos 0) c ∙ get_or-set_other l1 (3 * k + 1) j p.y (pos 0) b
      ∙ get_or-set_other l (3 * k) j p.x (pos 0) a

  put_other : (j : ℕ) → (j ≡ k → ⊥) → point_of (point_put l k p) j ≡ point_of l j
  unfolding point_of
  put_other j h =
      let x = kept (3 * j) (λ e. omega (arith, e, h)) (λ e. omega (arith, e)) (λ e. omega (arith, e)) in
      let y = kept (3 * j + 1) (λ e. omega (arith, e)) (λ e. omega (arith, e, h)) (λ e. omega (arith, e)) in
      let z = kept (3 * j + 2) (λ e. omega (arith, e)) (λ e. omega (arith, e)) (λ e. omega (arith, e, h)) in
      λ i. pt (x i) (y i) (z i)

-- the first e boxes are those of f; one more is put
module _ (low high : List ℤ) (e : ℕ) (f : ℕ → Span) where
  pub one_more : 3 * e + 2 < length low → 3 * e + 2 < length high → ((k : ℕ) → k < e → box_in low high k ≡ f k) → (s : Span) → s ≡ f e
      → (k : ℕ) → k < e + 1 → box_in (point_put low e s.low) (point_put high e s.high) k ≡ f k
  one_more hl hh before s here k h = go (ℕ_discrete k e)
    where
      go : Dec (k ≡ e) → box_in (point_put low e s.low) (point_put high e s.high) k ≡ f k
      go (yes q) =
          let puts : box_in (point_put low e s.low) (point_put high e s.high) e ≡ s =
          λ i. record { low = put_here low e s.low hl i; high = put_here high e s.high hh i } in
          rw q (puts ∙ here)
      go (no q) =
          (λ i. record { low = put_other low e s.low k q i; high = put_other high e s.high k q i }) ∙ before k (omega (arith, q))
