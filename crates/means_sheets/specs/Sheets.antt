-- Sheets read back and are written back the same, in the edition that they say.
use Rattle.std.specs.Prelude.{◌≡◌, List, ◌++◌, ℕ, ◌/◌, ◌^◌, ◌≤◌, ℤ, length, take, drop, Ok}
use Rattle.pack.specs.Bits.{Under}
use Rattle.paper.specs.Refusals.{first_of, Fine}
use Rattle.paper.specs.Format.{edition_of, lent_edition, coordinates_in, ends_in, vertices_in, edges_in, encode}
use Rattle.paper.specs.Sheet.{lent_checks, held, read_sheet, written_of, room_of}
use Rattle.paper.specs.declared.Format.{Format}
use Rattle.paper.specs.Sheet.{Sheet}

-- reading returned the drawing that is in these two lists
abbrev pub whole : List ℤ → List ℕ → Sheet
whole xyz ends = record { answer = Fine; drawing = held (length xyz / 3) (length ends / 2) xyz ends }

-- ---- "A drawing that a sheet can hold, written out, reads back the same": one that passes 5, 8, 9 and 10

module _ (xyz : List ℤ) (ends : List ℕ) where
  abbrev g : Format
  g = lent_edition xyz ends

  pub record SheetReadsBack : Type 0 where
    pub sheet : Fine ≡ first_of (lent_checks xyz ends) → read_sheet (encode g xyz ends) ≡ whole xyz ends
    -- the bytes that the writer reports are in its room, and read back
    pub room : (room : List ℕ) (n : ℕ) → written_of g xyz ends room ≡ Ok n
        → read_sheet (take n (room_of g xyz ends room)) ≡ whole xyz ends

-- ---- "a sheet that is accepted is written back with the same bytes"

module _ (s : List ℕ) where
  abbrev pub Accepted : Type 0
  Accepted = Under (2 ^ 8) s × (Fine ≡ (read_sheet s).answer)

  abbrev f : Format
  f = edition_of s

  -- the edition of the drawing on it
  abbrev its_edition : Format
  its_edition = lent_edition (coordinates_in f s) (ends_in f s)

  pub record SheetWritesBack : Type 0 where
    pub edition : its_edition ≡ f
    pub sheet : encode f (coordinates_in f s) (ends_in f s) ≡ s
    -- the writer takes these lists, which are the drawing that reading the sheet returns
    pub passes : Fine ≡ first_of (lent_checks (coordinates_in f s) (ends_in f s))
    pub returned : (read_sheet s).drawing ≡ held (vertices_in f s) (edges_in f s) (coordinates_in f s) (ends_in f s)
    -- in room enough it writes the sheet's bytes, and later room is kept
    pub room : (room : List ℕ) → length s ≤ length room
        → (written_of its_edition (coordinates_in f s) (ends_in f s) room ≡ Ok (length s))
        × (room_of its_edition (coordinates_in f s) (ends_in f s) room ≡ s ++ drop (length s) room)

-- ---- so no two sheets hold one drawing

abbrev pub OneSheet : Type 0
OneSheet = (s t : List ℕ) → Accepted s → Accepted t → (read_sheet s).drawing ≡ (read_sheet t).drawing → s ≡ t
