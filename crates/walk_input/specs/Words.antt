-- The words and numbers that the walk is lent, of the candidates of a drawing that passed 3 to 14. Contracts speak of every drawing whose
-- candidates the rows are.
use Rattle.std.specs.Prelude.{List, ◌≡◌, ℕ, ◌≤◌, ℤ, pos, length, get_or}
use Rattle.paper.specs.Numbers.{most_candidates, face_room}
use Rattle.paper.specs.Drawing.{Wire, wire}
use Rattle.paper.specs.Loops.{candidates}
use Rattle.paper.specs.Solids.{tables_of}
use Rattle.fast_tables.specs.Hits.{corner_mask, side_mask}
use Rattle.loop_table.specs.Tables.{HoldsRows, HoldsWords}
use Rattle.loop_known.specs.Known.{DrawnBy}
use Rattle.walk_tables.specs.Words.{Masks, Sixes, WalkTables}
use Rattle.walk_edges.specs.Marks.{Unmarked}

-- the candidates are listed, in rows and words
pub record CandidatesListed (xyz : List ℤ) (rows : List ℕ) (n : ℕ) (near number corners sides : List ℕ) : Type 0 where
  pub ends : List ℕ
  pub drawn : DrawnBy xyz ends near number
  pub count : n ≡ length (candidates (wire xyz ends))
  pub most : n ≤ most_candidates
  pub held : HoldsRows rows (candidates (wire xyz ends))
  pub corners_are : HoldsWords (corner_mask (wire xyz ends)) corners (candidates (wire xyz ends))
  pub sides_are : HoldsWords (side_mask (wire xyz ends)) sides (candidates (wire xyz ends))

-- the drawing
abbrev pub drawing_listed : {xyz : List ℤ} {rows : List ℕ} {n : ℕ} {near number corners sides : List ℕ}
    → CandidatesListed xyz rows n near number corners sides → Wire
drawing_listed {xyz} l = wire xyz l.ends

-- ---- rooms of their sizes, with nothing in them

pub record EmptyRooms (tables : WalkTables) : Type 0 where
  pub on_clear : Unmarked tables.on
  pub up_clear : Unmarked tables.up
  pub clash_room : length tables.clashes ≡ most_candidates
  pub no_clash : (k : ℕ) → get_or tables.clashes k 0 ≡ 0
  pub six_room : length tables.sixes ≡ most_candidates

-- with the candidates, and the words of their sides where the walk is lent them
pub record WordsAt (xyz : List ℤ) (rows : List ℕ) (n : ℕ) (near number corners : List ℕ) (tables : WalkTables) : Type 0 where
  pub all : CandidatesListed xyz rows n near number corners tables.sides
  pub row_room : length rows ≡ face_room
  pub rooms : EmptyRooms tables

-- the words are those of the document's tables; later numbers are as they were
pub record WordsMade {xyz : List ℤ} {rows : List ℕ} {n : ℕ} {near number corners sides : List ℕ}
    (l : CandidatesListed xyz rows n near number corners sides) (sixes₀ : List ℤ) (tables : WalkTables) : Type 0 where
  pub on_are : Masks tables.on (tables_of (drawing_listed l) (candidates (drawing_listed l))).masks
  pub up_are : Masks tables.up (tables_of (drawing_listed l) (candidates (drawing_listed l))).ups
  pub clashes_are : Masks tables.clashes (tables_of (drawing_listed l) (candidates (drawing_listed l))).clashes
  pub sixes_are : Sixes tables.sixes (tables_of (drawing_listed l) (candidates (drawing_listed l))).sixes
  pub later : (i : ℕ) → n ≤ i → get_or tables.sixes i (pos 0) ≡ get_or sixes₀ i (pos 0)
