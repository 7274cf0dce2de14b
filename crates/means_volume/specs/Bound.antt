-- "By its terms it is at most 7.2 x 10^11 in size": how large six volumes of a reported solid can be, and that its reading is exact.
use Rattle.std.specs.Prelude.{◌≡◌, Bool, List, ℕ, ◌*◌, ◌-◌, ◌≤◌, ℤ}
use Rattle.std.proofs.Math.Option.{none}
use Rattle.paper.specs.Numbers.{most_edges, least_faces, farthest}
use Rattle.paper.specs.Refusals.{Check, first_of, Fine}
use Rattle.paper.specs.Format.{coordinates_in, ends_in, edition_of}
use Rattle.paper.specs.Sheet.{lent_checks, sheet_checks}
use Rattle.paper.specs.Drawing.{Wire, wire, same_place}
use Rattle.paper.specs.Loops.{candidates}
use Rattle.paper.specs.Conversion.{Converted, convert_lists, convert_sheet}
use Rattle.paper.specs.Reading.{reading_of}
use Rattle.paper.specs.declared.Conversion.TheVariants as Conversion
use Rattle.means_solid.specs.Solid.{IsSolid}
use Rattle.reading.specs.Exact.{Exactly}

-- a determinant of three positions: six products of three coordinates
abbrev pub most_term : ℕ
most_term = 6 * (farthest * (farthest * farthest))

-- a face of n corners has n - 2 of them, all faces together have two corners for each edge, and there are at least four
abbrev pub most_terms : ℕ
most_terms = 2 * (most_edges - least_faces)

-- "7.2 x 10^11"
abbrev pub most_six : ℕ
most_six = most_terms * most_term

-- every solid of a drawing that passes 3 to 11
abbrev pub SolidsSmall : List Check → Wire → Type 0
SolidsSmall form d = Fine ≡ first_of form → same_place d ≡ none → (taken turned : List Bool) (six : ℕ)
    → IsSolid d (candidates d) taken turned six → six ≤ most_six

-- "both held exactly, rounded once": the reading of a report of one solid
abbrev pub ReadExactly : Converted → Type 0
ReadExactly c = (l k w six : ℕ) → c.answer ≡ Conversion.One l k w six → Exactly six (reading_of c.answer)

-- of a drawing lent as two lists, and of one on a sheet
pub record SmallEnough : Type 0 where
  pub lists : (xyz : List ℤ) (ends : List ℕ) → SolidsSmall (lent_checks xyz ends) (wire xyz ends)
  pub sheets : (s : List ℕ) → SolidsSmall (sheet_checks (edition_of s) s) (wire (coordinates_in (edition_of s) s) (ends_in (edition_of s) s))
  pub lists_read : (xyz : List ℤ) (ends : List ℕ) (limit : ℕ) (faces solids : List ℕ)
      → ReadExactly (convert_lists xyz ends limit faces solids)
  pub sheets_read : (s : List ℕ) (limit : ℕ) (faces solids : List ℕ) → ReadExactly (convert_sheet s limit faces solids)
