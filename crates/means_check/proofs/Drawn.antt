-- Demand 3 of a drawing that is lent as two lists, and of one on a sheet.
use mathlib.Core.Path.{◌≡◌}
use mathlib.Core.Bool.{Bool}
use mathlib.Core.List.{List}
use Prim.Native.Nat.{ℕ, ◌≤◌}
use native.Mathlib.Omega.{arith}
use lib.IntN.{ℤ}
use lib.ListN.{length}
use Rattle.paper.specs.Numbers.{most_vertices, most_edges, documented}
use Rattle.paper.specs.Format.{edition_of, coordinates_in, ends_in}
use Rattle.paper.specs.Refusals.{first_of, ListAccepted, Fine}
use Rattle.paper.specs.Sheet.{sheet_checks, lent_checks}
use Rattle.paper.specs.Drawing.{Wire, wire, drawing_checks}
use Rattle.paper.specs.Loops.{loops, candidates, loop_checks}
use Rattle.paper.specs.FaceList.{encode_faces}
use Rattle.paper.specs.Verdict.{list_edition, verdict_lists, verdict_sheet}
use Rattle.paper_laws.proofs.Editions.{limited_of}
use Rattle.paper_laws.proofs.Wires.{length_points, length_edges}
use Rattle.sheet_laws.proofs.Lent.{lent}
use Rattle.means_sheets.proofs.Sheets.Read.{accepted-lent}
use Rattle.means_solid.specs.Solid.{IsSolid}
use Rattle.means_check.specs.Accepts.{Accepts}
use Rattle.means_check.specs.Sent.{face_list}
use Rattle.means_check.proofs.Demand.{accepts_exactly, each_sent}

-- ---- the counts of a drawing whose form passes

abbrev pub InCounts : Wire → Type 0
InCounts d = (length d.vertices ≤ most_vertices) × (length d.edges ≤ most_edges)

pub lent_small : (xyz : List ℤ) (ends : List ℕ) → Fine ≡ first_of (lent_checks xyz ends) → InCounts (wire xyz ends)
unfolding wire
lent_small xyz ends e =
    let l = lent xyz ends e in
    (omega (arith, length_points xyz, l.v_most), omega (arith, length_edges ends, l.e_most))

pub sheet_small : (s : List ℕ) → let f = edition_of s in Fine ≡ first_of (sheet_checks f s) → InCounts (wire (coordinates_in f s) (ends_in f s))
sheet_small s e =
    let f = edition_of s in
    lent_small (coordinates_in f s) (ends_in f s) (accepted-lent f (limited_of s) s e)

-- ---- demand 3

-- a solid's faces in candidate order, as a list of the drawing's edition
abbrev sent : Wire → List Bool → List Bool → List ℕ
sent d taken turned = encode_faces (list_edition d) (face_list d (candidates d) taken turned)

module _ (xyz : List ℤ) (ends : List ℕ) where
  abbrev lists : Wire
  lists = wire xyz ends

  pub lists-exactly : (list : List ℕ) → ((verdict_lists xyz ends list ≡ ListAccepted) → Accepts (lent_checks xyz ends) lists list)
      × (Accepts (lent_checks xyz ends) lists list → verdict_lists xyz ends list ≡ ListAccepted)
  unfolding verdict_lists
  lists-exactly list = accepts_exactly (lent_checks xyz ends) lists list

  pub lists_each : Fine ≡ first_of (lent_checks xyz ends) → Fine ≡ first_of (drawing_checks lists)
      → Fine ≡ first_of (loop_checks documented (loops lists) (candidates lists))
      → (taken turned : List Bool) (six : ℕ) → IsSolid lists (candidates lists) taken turned six
      → verdict_lists xyz ends (sent lists taken turned) ≡ ListAccepted
  unfolding verdict_lists
  lists_each f r l =
      let m = lent_small xyz ends f in
      each_sent (lent_checks xyz ends) lists f r l m.0 m.1

module _ (s : List ℕ) where
  abbrev drawn : Wire
  drawn = wire (coordinates_in (edition_of s) s) (ends_in (edition_of s) s)

  pub sheet-exactly : (list : List ℕ) → ((verdict_sheet s list ≡ ListAccepted) → Accepts (sheet_checks (edition_of s) s) drawn list)
      × (Accepts (sheet_checks (edition_of s) s) drawn list → verdict_sheet s list ≡ ListAccepted)
  unfolding verdict_sheet
  sheet-exactly list = accepts_exactly (sheet_checks (edition_of s) s) drawn list

  pub sheet_each : Fine ≡ first_of (sheet_checks (edition_of s) s) → Fine ≡ first_of (drawing_checks drawn)
      → Fine ≡ first_of (loop_checks documented (loops drawn) (candidates drawn))
      → (taken turned : List Bool) (six : ℕ) → IsSolid drawn (candidates drawn) taken turned six
      → verdict_sheet s (sent drawn taken turned) ≡ ListAccepted
  unfolding verdict_sheet
  sheet_each f r l =
      let m = sheet_small s f in
      each_sent (sheet_checks (edition_of s) s) drawn f r l m.0 m.1
