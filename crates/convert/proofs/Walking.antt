-- From the tables of a drawing to the walk of them.
use mathlib.Core.List.{List}
use mathlib.Core.Path.{◌≡◌, subst, ◌∙◌}
use Prim.Native.Nat.{ℕ, ◌/◌}
use native.Mathlib.Omega.{arith}
use lib.IntN.{ℤ}
use lib.ListN.{length}
use Rattle.paper.specs.Numbers.{most_solids, face_room}
use Rattle.paper.specs.Refusals.{first_of, Fine}
use Rattle.paper.specs.Sheet.{lent_checks}
use Rattle.paper.specs.Drawing.{Wire, wire}
use Rattle.paper.specs.Loops.{candidates}
use Rattle.paper.specs.Walk.{search}
use Rattle.paper.specs.Conversion.{accepted}
use Rattle.loop_table.proofs.Loops.{candidates_of_lem}
use Rattle.loop_table.proofs.Rows.{rows-kept}
use Rattle.walk_tables.specs.Words.{WalkTables}
use Rattle.walk.specs.Tally.{Stored}
use Rattle.walk.specs.Walk.{Searching, Searched}
use Rattle.walk.specs.declared.tally.Tally.{Tally}
use Rattle.walk_input.specs.Tables.{Ready}
use Rattle.walk_input.specs.declared.rows.Counts.{Counts}
use Rattle.walk_input.proofs.Given.{few_edges_lem}
use Rattle.convert.specs.Walked.{tables_in, Done}

module _ {xyz : List ℤ} {ends rows₀ rows : List ℕ} {tables : WalkTables} {c : Counts} (r : Ready xyz ends rows₀ rows tables c) where
  pub searching : Fine ≡ first_of (lent_checks xyz ends) → {out : List ℕ} → length out ≡ 24
      → Searching (length ends / 2) tables.sixes c.candidates out
  searching ok long = record { judging = record { few = few_edges_lem xyz ends ok; small = r.small }; few = r.few; whole = long }

  pub done : {limit : ℕ} {out₀ out : List ℕ} {t : Tally} → Searched tables (length ends / 2) c.candidates limit out₀ t out
      → Done (wire xyz ends) limit rows₀ rows out₀ out c t
  done {limit} {out₀} {out} {t} s = record {
    fine = r.fine;
    loops_are = r.loops_are;
    candidates_are = r.candidates_are;
    few = r.few;
    rows_are = r.rows_are;
    roomy = s.roomy;
    stored =
        let d = wire xyz ends in
        subst (λ (n : ℕ). Stored (tables_in d) out₀ t out (search most_solids (accepted (tables_in d)) limit n (tables_in d).masks))
        r.candidates_are (s.same (tables_in d) r.lent);
  }

-- the rows keep their room
pub rows_whole : {d : Wire} {limit : ℕ} {rows₀ rows out₀ out : List ℕ} {c : Counts} {t : Tally} → Done d limit rows₀ rows out₀ out c t
    → length rows₀ ≡ face_room → length rows ≡ face_room
rows_whole {d} {rows₀ = rows₀} {rows = rows} w e =
    rows-kept (candidates d) (candidates_of_lem d).short rows rows₀ (omega (arith, w.few, w.candidates_are, e)) w.rows_are ∙ e
