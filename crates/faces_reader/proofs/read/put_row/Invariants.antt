-- `faces_reader::read::put_row`: the loop keeps that the first j cells of the row are pasted at byte `at`.
use mathlib.Core.Path.{◌≡◌}
use mathlib.Core.List.{List}
use Prim.Native.Nat.{ℕ, ◌≤◌}
use lib.ListN.{length}
use lib.Seq.{paste}
use Rattle.pack.specs.Bits.{fields_at}
use Rattle.paper.specs.Numbers.{row_bytes}
use Rattle.paper.specs.Loops.{row}
use Rattle.faces_reader.proofs.read.put_row.Given as goal

-- j cells of the row q are written: rows have become last
pub record Filling (q rows : List ℕ) (at : ℕ) (last : List ℕ) (j : ℕ) : Type 0 where
  pub reached : j ≤ row_bytes
  pub pasted : last ≡ paste rows at q j
  pub kept : length last ≡ length rows

abbrev pub invariant-loop-j : goal.invariant-loop-j
invariant-loop-j l = Filling (row (fields_at l.s l.i l.w l.c)) l.initial.rows l.at l.rows l.j
