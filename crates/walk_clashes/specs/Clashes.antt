-- The clash table by words: what is known of the candidates of a drawing that passed 3 to 14. Contracts speak of every drawing of which
-- that is known.
use Rattle.std.specs.Prelude.{Bool, ◌≡◌, List, ℕ, ◌<◌, ℤ, length, get_or}
use Rattle.sets.specs.Word.{either, less}
use Rattle.sets.specs.Sets.{wides, Wide}
use Rattle.paper.specs.Numbers.{most_candidates}
use Rattle.paper.specs.Drawing.{Wire}
use Rattle.paper.specs.Loops.{Loop, loop_at, candidates}
use Rattle.paper.specs.Solids.{tables_of}
use Rattle.fast_tables.specs.Hits.{side_mask}
use Rattle.fast_tables.specs.Words.{hit_mask}
use Rattle.loop_table.specs.Passed.{Passed}
use Rattle.walk_tables.specs.Words.{Masks}
use Rattle.walk_clashes.specs.Faces.{drawing_of}
use Rattle.walk_clashes.specs.Lent.{AllLent}
use Rattle.walk_clashes.specs.Folds.{fold_mask}

pub record ClashLent (xyz : List ℤ) (rows near number on corner-words corners sides : List ℕ) (normals : List ℤ) (n : ℕ) : Type 0 where
  pub all : AllLent xyz rows near number on corner-words corners normals n
  pub sides_are : (k : ℕ) → k < n → wides.Is (wides.at sides k) (side_mask (drawing_of all.faces) (loop_at all.faces.loops k))
  pub passed : Passed xyz all.faces.ends
  pub are : all.faces.loops ≡ candidates (drawing_of all.faces)

module _ {xyz : List ℤ} {rows near number on corner-words corners sides : List ℕ} {normals : List ℤ} {n : ℕ} where
  -- the drawing and its candidates
  abbrev pub wire_lent : ClashLent xyz rows near number on corner-words corners sides normals n → Wire
  wire_lent w = drawing_of w.all.faces

  abbrev pub all_lent : ClashLent xyz rows near number on corner-words corners sides normals n → List Loop
  all_lent w = w.all.faces.loops

  -- those that go through g, and those after g that fold with it and are not known
  abbrev pub SetOf : ClashLent xyz rows near number on corner-words corners sides normals n → ℕ → Wide → Wide → Type 0
  SetOf w g known r =
      let hit = hit_mask (wire_lent w) (all_lent w) g in
      (s : List Bool) → wides.Is known s → wides.Is r (either hit (less (fold_mask (wire_lent w) (all_lent w) g) (either s hit)))

  -- the words are the masks of those that clash
  abbrev pub ClashMasks : ClashLent xyz rows near number on corner-words corners sides normals n → List ℕ → Type 0
  ClashMasks w words = Masks words (tables_of (wire_lent w) (all_lent w)).clashes

-- one of the candidates
pub record CandidateLent (xyz : List ℤ) (rows near number on corner-words corners sides : List ℕ) (normals : List ℤ)
    (n g : ℕ) : Type 0 where
  pub lent : ClashLent xyz rows near number on corner-words corners sides normals n
  pub there : g < n

-- words for all of them, with nothing in them
pub record ClashRoom (xyz : List ℤ) (rows near number on corner-words corners sides : List ℕ) (normals : List ℤ) (n : ℕ)
    (words : List ℕ) : Type 0 where
  pub lent : ClashLent xyz rows near number on corner-words corners sides normals n
  pub whole : length words ≡ most_candidates
  pub none : (k : ℕ) → get_or words k 0 ≡ 0
