-- Demand 2 holds of sheets.
use mathlib.Core.Path.{◌≡◌, refl, sym, ap₂, ◌∙◌}
use mathlib.Core.List.{List}
use Prim.Native.Nat.{ℕ, ◌/◌}
use native.Mathlib.Omega.{arith}
use lib.ListN.{length}
use Rattle.pack.specs.Bits.{Under}
use Rattle.paper.specs.Format.{vertices_in, edges_in, coordinates_in, ends_in, encode, edition_of, lent_edition}
use Rattle.paper.specs.Sheet.{held, read_sheet}
use Rattle.paper.specs.declared.Format.{Format}
use Rattle.paper.specs.Refusals.{Fine}
use Rattle.paper.specs.declared.Drawing.{Drawing}
use Rattle.sheet_laws.proofs.Accepted.{length_coordinates, length-ends}
use Rattle.means_sheets.proofs.Sheets.{sheet-reads_back, sheet_writes_back}
use Rattle.means_sheets.proofs.Sheets.Room.{writes}
use Rattle.demands.specs.Sheets.{Reads, Sheets2}

-- what an accepted sheet reads as
module _ (s : List ℕ) (bytes : Under 256 s) (h : (read_sheet s).answer ≡ Fine) where
  abbrev f : Format
  f = edition_of s

  whole : Reads s (coordinates_in f s) (ends_in f s)
  whole =
      let v : length (coordinates_in f s) / 3 ≡ vertices_in f s = omega (arith, length_coordinates f s) in
      let e : length (ends_in f s) / 2 ≡ edges_in f s = omega (arith, length-ends f s) in
      ap₂ (λ a (d : Drawing). record { answer = a; drawing = d }) h
      ((sheet_writes_back s (bytes, sym h)).returned ∙ ap₂ (λ (v e : ℕ). held v e (coordinates_in f s) (ends_in f s)) (sym v) (sym e))

pub sheets2 : Sheets2
sheets2 = record {
  back =
      λ xyz ends h.
      let f = lent_edition xyz ends in
      (encode f xyz ends, λ room l. writes f xyz ends (encode f xyz ends) room h refl l, (sheet-reads_back xyz ends).sheet h);
  again = λ s u h. (coordinates_in (edition_of s) s, ends_in (edition_of s) s, whole s u h, (sheet_writes_back s (u, sym h)).room);
}
