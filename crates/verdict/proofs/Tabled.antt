-- From the tables of a drawing that passed 3 to 16 to what the list's check asks for.
use mathlib.Core.List.{List}
use mathlib.Core.Path.{◌≡◌, sym, ◌∙◌}
use Prim.Native.Nat.{ℕ, ◌/◌}
use native.Mathlib.Omega.{arith}
use lib.IntN.{ℤ}
use lib.ListN.{length}
use Rattle.paper.specs.Numbers.{face_room}
use Rattle.paper.specs.Drawing.{wire}
use Rattle.paper.specs.Loops.{candidates}
use Rattle.paper_laws.specs.InRange.{PassedLists}
use Rattle.drawing_lists.proofs.Range.{lent_range}
use Rattle.loop_table.proofs.Loops as Loops
use Rattle.loop_table.proofs.Loops.{candidates_of_lem}
use Rattle.loop_table.proofs.Rows.{rows_held, rows-kept}
use Rattle.walk_tables.specs.Words.{WalkTables}
use Rattle.walk_input.specs.Tables.{Ready}
use Rattle.walk_input.specs.declared.rows.Counts.{Counts}
use Rattle.walk_input.proofs.Given.{few_edges_lem}
use Rattle.verdict_faces.specs.Named.{HoldsTable}
use Rattle.verdict.specs.Checked.{ListAt}
use Rattle.paper_laws.proofs.Wires.{length_edges}

-- three coordinates for each vertex
pub vertices_are : (xyz : List ℤ) (ends : List ℕ) → PassedLists xyz ends → length xyz / 3 ≡ length (wire xyz ends).vertices
vertices_are xyz ends ok =
    let r = lent_range xyz ends ok in
    omega (arith, r.points.whole, Loops.vertices_are r)

pub edges_are : (xyz : List ℤ) (ends : List ℕ) → length ends / 2 ≡ length (wire xyz ends).edges
unfolding wire
edges_are xyz ends = sym (length_edges ends)

module _ {xyz : List ℤ} {ends rows₀ rows : List ℕ} {tables : WalkTables} {c : Counts} (r : Ready xyz ends rows₀ rows tables c) where
  -- the rows are those of the candidates
  pub rows_hold : HoldsTable rows c.candidates (candidates (wire xyz ends))
  rows_hold =
      let d = wire xyz ends in
      record {
        rows = rows_held (candidates d) (candidates_of_lem d).short rows rows₀ r.rows_are;
        count = sym r.candidates_are;
        short = (candidates_of_lem d).short;
      }

  pub list_at : PassedLists xyz ends → length rows₀ ≡ face_room → ListAt rows c.candidates (length ends / 2) tables.sixes
  list_at ok whole =
      let d = wire xyz ends in
      record {
        loops = candidates d;
        held = rows_hold;
        few = r.few;
        rows_long =
            rows-kept (candidates d) (candidates_of_lem d).short rows rows₀ (omega (arith, r.few, r.candidates_are, whole)) r.rows_are ∙ whole;
        edges = few_edges_lem xyz ends ok;
        small = r.small;
      }
