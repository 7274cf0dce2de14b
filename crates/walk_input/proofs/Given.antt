-- From a drawing that passed 3 to 10, lent or read off a sheet, to what the tables ask for.
use mathlib.Core.List.{List}
use mathlib.Core.Path.{◌≡◌, refl, sym, subst, transport, ◌∙◌}
use Prim.Native.Nat.{ℕ, ◌≤◌, ◌/◌}
use native.Mathlib.Omega.{arith}
use lib.IntN.{ℤ, pos}
use lib.ListN.{length, replicate}
use Rattle.exact.specs.Size.{Within}
use Rattle.exact.proofs.Size.{within_lit}
use Rattle.paper.specs.Numbers.{most_edges, face_room}
use Rattle.paper.specs.Refusals.{first_of, Fine}
use Rattle.paper.specs.Format.{coordinates_in, ends_in, edition_of}
use Rattle.paper.specs.Sheet.{sheet_checks, lent_checks, sheet_of, read_sheet}
use Rattle.paper.specs.Sheet.{Sheet}
use Rattle.paper_laws.specs.InRange.{PassedLists}
use Rattle.sheet_laws.proofs.Accepted.{coordinates_are, ends_are}
use Rattle.sheet_reader.proofs.Range.{read_range}
use Rattle.means_sheets.proofs.Sheets.Read.{accepted-lent}
use Rattle.drawing_lists.proofs.Range.{lent_range}
use Rattle.walk_tables.specs.Words.{most_part, SmallSixes, walk_tables}
use Rattle.walk_input.specs.Given.{coordinates_of, links_of, GivenDrawing}
use Rattle.walk_input.specs.Tables.{TablesAt}
use Rattle.walk_input.proofs.Listing.{all_same}
use Rattle.paper_laws.proofs.Editions.{limited_of}

-- ---- rooms with nothing in them

-- numbers that are all 0 are small
no_sixes : SmallSixes (replicate 64 (pos 0))
no_sixes = record { small = λ k h. subst (Within most_part) (sym (all_same (pos 0) 64 k)) (within_lit tt) }

pub clear-rooms : {xyz : List ℤ} {ends rows : List ℕ} → PassedLists xyz ends → length rows ≡ face_room
    → TablesAt xyz ends rows (walk_tables (replicate 64 0) (replicate 64 0) (replicate 64 0) (replicate 64 0) (replicate 64 (pos 0)))
clear-rooms ok long = record {
  passed = ok;
  row_room = long;
  rooms = record {
    on_clear = record { room_is = refl; none = all_same 0 64 };
    up_clear = record { room_is = refl; none = all_same 0 64 };
    clash_room = refl;
    no_clash = all_same 0 64;
    six_room = refl;
  };
  side_room = refl;
  no_side = all_same 0 64;
  small = no_sixes;
}

-- ---- at most 64 edges, which 5 sees to
pub few_edges_lem : (xyz : List ℤ) (ends : List ℕ) → PassedLists xyz ends → length ends / 2 ≤ most_edges
few_edges_lem xyz ends ok = let r = lent_range xyz ends ok in omega (arith, r.links.whole, r.links.most)

-- ---- the lists that an accepted sheet holds are those in front of the arrays of the drawing that is read

module _ (s : List ℕ) {r : Sheet} (e : r ≡ read_sheet s) (ok : Fine ≡ first_of (sheet_checks (edition_of s) s)) where
  pub sheet_given : GivenDrawing r.drawing
  unfolding sheet_of
  sheet_given =
      let c = coordinates_are (edition_of s) s ok in
      let n = ends_are (edition_of s) s ok in
      let fine = accepted-lent (edition_of s) (limited_of s) s ok ∙ (λ i. first_of (lent_checks (c i) (n i))) in
      subst (λ (x : Sheet). GivenDrawing x.drawing) (sym e) (record { held = read_range s ok; passed = fine })

  -- what holds of its lists holds of those on the sheet
  pub sheet-lists : (P : List ℤ → List ℕ → Type 0) → P (coordinates_of r.drawing) (links_of r.drawing)
      → P (coordinates_in (edition_of s) s) (ends_in (edition_of s) s)
  sheet-lists P h =
      let same = subst (λ (x : Sheet). P (coordinates_of x.drawing) (links_of x.drawing)) e h in
      let c = sym (coordinates_are (edition_of s) s ok) in
      let n = sym (ends_are (edition_of s) s ok) in
      transport (λ i. P (c i) (n i)) same
