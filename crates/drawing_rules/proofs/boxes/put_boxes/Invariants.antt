-- `drawing_rules::boxes::put_boxes`: the loop keeps that the first e boxes are those of the edges.
use mathlib.Core.List.{List}
use mathlib.Core.Path.{◌≡◌}
use Prim.Native.Nat.{◌*◌, ◌+◌, ◌/◌, ◌<◌, ◌≤◌, ℕ}
use lib.IntN.{ℤ}
use lib.ListN.{length}
use Rattle.drawing_segments.specs.Ways.{span_of}
use Rattle.drawing_segments.specs.declared.Span.{Span}
use Rattle.drawing_rules.specs.Boxes.{box_in}
use Rattle.drawing_rules.specs.Meets.{end_in}
use Rattle.drawing_rules.proofs.boxes.put_boxes.Given as goal

-- the box of edge e
abbrev pub boxOf : List ℤ → List ℕ → ℕ → Span
boxOf xyz ends e = span_of (end_in xyz ends (2 * e)) (end_in xyz ends (2 * e + 1))

-- what the loop keeps
pub record Filled (xyz : List ℤ) (ends : List ℕ) (low₀ high₀ : List ℤ) (n : ℕ) (low high : List ℤ) (e : ℕ) : Type 0 where
  pub not_past : e ≤ n
  pub whole : n ≡ length ends / 2
  pub low-kept : length low ≡ length low₀
  pub high-kept : length high ≡ length high₀
  pub boxes : (k : ℕ) → k < e → box_in low high k ≡ boxOf xyz ends k

abbrev pub invariant-loop-e : goal.invariant-loop-e
invariant-loop-e l = Filled l.xyz l.ends l.initial.low l.initial.high l.n l.low l.high l.e
