-- How large the numbers of a narrow layout get.
use mathlib.Core.List.{List}
use Prim.Native.Nat.{ℕ, ◌≤◌, ◌*◌}
use native.Mathlib.Nat.{mul-le-mul}
use native.Mathlib.Omega.{arith}
use Rattle.paper.specs.Format.{edition_one, edition_of, edition_for, total}
use Rattle.paper.specs.declared.Format.{Format}
use Rattle.sheet_shape.specs.Narrow.{narrow_bits, few_edges, Narrow, NarrowCounts, FitsDrawing}
use Rattle.paper_laws.proofs.Editions.{holds_of, holds_for}

one-fits : FitsDrawing edition_one
one-fits = record { narrow = omega arith; v_held = omega arith; e_held = omega arith }

pub fits_of : (s : List ℕ) → FitsDrawing (edition_of s)
fits_of = holds_of FitsDrawing one-fits

pub narrow_for : (v e : ℕ) → Narrow (edition_for v e)
narrow_for v e = (holds_for FitsDrawing one-fits v e).narrow

module _ {f : Format} {v e : ℕ} (h : NarrowCounts f v e) where
  -- the bits of all vertex numbers
  pub numbers_small : 2 * f.vertex_number_bits * e ≤ 2 * narrow_bits * few_edges
  numbers_small =
      let twice : 2 * f.vertex_number_bits ≤ 2 * narrow_bits = omega (arith, h.narrow.vertex_number_narrow) in
      mul-le-mul twice h.e_few

  -- the bits of a sheet
  pub total_small : total f v e ≤ 4200
  total_small = omega (arith, numbers_small, h.narrow)
