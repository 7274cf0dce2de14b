-- `faces_reader::read::put_row`: the loop keeps that the first j cells of the row are pasted at byte `at`.
use mathlib.Core.Path.{◌≡◌, refl, sym, ap, subst, ◌∙◌}
use mathlib.Core.List.{List}
use Prim.Native.Nat.{ℕ, ◌+◌}
use native.Mathlib.Numerals.{add-one}
use lib.ListN.{length, set, length-set}
use lib.Seq.{paste, paste-zero, paste-suc}
use Rattle.pack.specs.Bits.{fields_at}
use Rattle.pack.proofs.Laws.{length_fields}
use Rattle.paper_laws.proofs.Rows.{row_length}
use Rattle.paper.specs.Numbers.{row_bytes}
use Rattle.paper.specs.Loops.{row}
use native.Mathlib.Omega.{arith}
use Rattle.faces_reader.proofs.read.put_row.Goals as goal

abbrev cells : goal.After-slice_known-1 → List ℕ
cells c = let a = c.args in row (fields_at a.s.now a.i a.w a.c)

abbrev cells-2 : goal.After-cell → List ℕ
cells-2 c = let a = c.args in row (fields_at a.s.now a.i a.w a.c)

length_is : (c : goal.After-cell) → length (cells-2 c) ≡ row_bytes
length_is c =
    let a = c.args in
    let l = fields_at a.s.now a.i a.w a.c in
    row_length l (omega (arith, length_fields a.s.now a.i a.w a.c, c.requires.fields.few))

abbrev cells-3 : goal.After-loop-j → List ℕ
cells-3 c = let a = c.args in row (fields_at a.s.now a.i a.w a.c)

-- ---- the needs

pub loop-j-init : goal.loop-j-init
loop-j-init c =
    record { reached = omega arith; pasted = paste-zero c.args.rows.now c.args.at (cells c); kept = refl }

pub cell-requires : goal.cell-requires
cell-requires c = record { fields = c.requires.fields; known = omega arith }

pub loop-j-preserved : goal.loop-j-preserved
loop-j-preserved c =
    let l = c.loop-j in
    let a = c.args in
    let q = cells-2 c in
    let n : length q ≡ row_bytes = length_is c in
    record {
      reached = omega arith;
      pasted = ap (λ (x : List ℕ). set x (a.at + l.j) c.cell.result) l.invariant.pasted
          ∙ ap (λ (x : ℕ). set (paste a.rows.now a.at q l.j) (a.at + l.j) x) c.cell.ensures
          ∙ paste-suc a.rows.now a.at q l.j 0 (omega arith) (omega (arith, c.requires.roomy))
          ∙ ap (λ (k : ℕ). paste a.rows.now a.at q k) (sym (add-one l.j));
      kept = simp length-set l.invariant.kept;
    }

pub shape_of-rows : goal.shape_of-rows
shape_of-rows c = c.loop-j.invariant.kept

pub returns : goal.returns
returns c =
    let l = c.loop-j in
    let e : l.j ≡ row_bytes = omega arith in
    subst (λ (n : ℕ). l.rows ≡ paste c.args.rows.now c.args.at (cells-3 c) n) e l.invariant.pasted
