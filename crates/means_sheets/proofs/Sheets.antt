-- Demand 2: sheets read back and are written back the same. In the edition that they say.
pub mod Written
pub mod Read
pub mod Room
use mathlib.Core.Path.{◌≡◌, sym, ap, ap₂, ◌∙◌}
use mathlib.Core.List.{List}
use Prim.Native.Nat.{ℕ, ◌/◌}
use native.Mathlib.Omega.{arith}
use lib.IntN.{ℤ}
use lib.ListN.{length}
use Rattle.paper.specs.Refusals.{first_of, Fine}
use Rattle.paper.specs.Format.{edition_one, edition_of, edition_for, lent_edition, vertices_in, edges_in, coordinates_in, ends_in, encode}
use Rattle.paper.specs.Sheet.{lent_checks, sheet_checks, sheet_of, read_sheet}
use Rattle.paper.specs.declared.Drawing.{Drawing}
use Rattle.paper.specs.declared.Format.{Format}
use Rattle.paper_laws.proofs.Editions.{holds_of, holds_for, limited_of, fits_for, said_by, says}
use Rattle.sheet_laws.proofs.Accepted.{accepted_shape, length_coordinates, length-ends, returns}
use Rattle.sheet_laws.proofs.Lent.{lent}
use Rattle.means_sheets.specs.Sound.{Sound}
use Rattle.means_sheets.specs.Sheets.{whole, SheetReadsBack, Accepted, SheetWritesBack, OneSheet}
use Rattle.means_sheets.proofs.Sheets.Written.{read_written}
use Rattle.means_sheets.proofs.Sheets.Read.{accepted-lent, written_again, same_lists}
use Rattle.means_sheets.proofs.Sheets.Room.{written_lent, written_room, writes}

sound_one : Sound edition_one
sound_one = omega arith

pub sound_of : (s : List ℕ) → Sound (edition_of s)
sound_of = holds_of Sound sound_one

pub sound_for : (v e : ℕ) → Sound (edition_for v e)
sound_for = holds_for Sound sound_one

-- ---- a drawing that a sheet can hold

pub sheet-reads_back : (xyz : List ℤ) (ends : List ℕ) → SheetReadsBack xyz ends
sheet-reads_back xyz ends = record {
  sheet = back;
  room = λ room n e. ap read_sheet (written_room f xyz ends room n e) ∙ back (written_lent f xyz ends room n e);
}
  where
    f : Format
    f = lent_edition xyz ends

    back : Fine ≡ first_of (lent_checks xyz ends) → read_sheet (encode f xyz ends) ≡ whole xyz ends
    back h =
        let g = lent xyz ends h in
        ap (λ (k : Format). sheet_of k (encode f xyz ends)) (says xyz ends)
        ∙ read_written f (sound_for (length xyz / 3) (length ends / 2)) xyz ends g
        (fits_for (length xyz / 3) (length ends / 2) g.v_most g.e_most)

-- ---- an accepted sheet

module _ (s : List ℕ) (a : Accepted s) where
  abbrev f : Format
  f = edition_of s

  checked : Fine ≡ first_of (sheet_checks f s)
  unfolding sheet_of
  checked = a.1

  abbrev own : Format
  own = lent_edition (coordinates_in f s) (ends_in f s)

  -- the lists are as many as the counts say
  same : own ≡ f
  same = ap₂ edition_for (omega (arith, length_coordinates f s)) (omega (arith, length-ends f s)) ∙ said_by s

  pub sheet_writes_back : SheetWritesBack s
  sheet_writes_back =
      let again : encode f (coordinates_in f s) (ends_in f s) ≡ s = written_again f s (accepted_shape f s checked) a.0 in
      let takes : Fine ≡ first_of (lent_checks (coordinates_in f s) (ends_in f s)) = accepted-lent f (limited_of s) s checked in
      record {
        sheet = again;
        passes = takes;
        returned = returns f s checked;
        edition = same;
        room = λ room l. writes own (coordinates_in f s) (ends_in f s) s room takes
            (ap (λ (g : Format). encode g (coordinates_in f s) (ends_in f s)) same ∙ again) l;
      }

-- ---- no two sheets hold one drawing

pub one-sheet : OneSheet
one-sheet s t hs ht e =
    let w = sheet_writes_back s hs in
    let x = sheet_writes_back t ht in
    let drawings = sym w.returned ∙ e ∙ x.returned in
    let same : edition_of s ≡ edition_of t = sym (said_by s)
    ∙ ap₂ edition_for (ap (λ (d : Drawing). d.vertices) drawings) (ap (λ (d : Drawing). d.edges) drawings) ∙ said_by t in
    let l = same_lists (edition_of s) (edition_of t) s t (checked s hs) (checked t ht) e in
    sym w.sheet ∙ (λ i. encode (same i) (l.0 i) (l.1 i)) ∙ x.sheet
