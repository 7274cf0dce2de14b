-- Rule C by words: what is known of n candidates, and those after a candidate that fold with it. Contracts speak of every drawing of which
-- that is known.
use Rattle.std.specs.Prelude.{Bool, not, ◌&&◌, ◌≡◌, List, map, ℕ, ◌+◌, ◌<◌, ltb, ℤ, length}
use Rattle.lists.specs.Lists.{upto}
use Rattle.sets.specs.Word.{dig, less}
use Rattle.sets.specs.Sets.{Is, mask_at, wides, Wide}
use Rattle.paper.specs.Numbers.{least_corners}
use Rattle.paper.specs.Drawing.{Wire}
use Rattle.paper.specs.Loops.{Loop, loop_at}
use Rattle.polygon.specs.Rings.{corner_count}
use Rattle.fast_tables.specs.Hits.{corner_mask, side_mask, folds_with}
use Rattle.walk_clashes.specs.Sorted.{Upto}
use Rattle.walk_clashes.specs.Faces.{DrawnFaces, drawing_of, NormalsOf}

-- candidate j comes after i and folds with it
unfoldable pub folds_after : Wire → List Loop → ℕ → ℕ → Bool
folds_after d cs i j = ltb i j && folds_with d (loop_at cs i) (loop_at cs j)

unfoldable pub fold_mask : Wire → List Loop → ℕ → List Bool
fold_mask d cs i = map (folds_after d cs i) (upto (length cs))

-- the words of the candidates' corners and sides, and their normals
pub record FoldLent (xyz : List ℤ) (rows corners sides : List ℕ) (normals : List ℤ) (n : ℕ) : Type 0 where
  pub faces : DrawnFaces xyz rows n
  pub own_are : (k : ℕ) → k < n → Is (mask_at corners k) (corner_mask (drawing_of faces) (loop_at faces.loops k))
  pub sides_are : (k : ℕ) → k < n → wides.Is (wides.at sides k) (side_mask (drawing_of faces) (loop_at faces.loops k))
  pub normals_are : NormalsOf xyz rows n normals

-- ---- two of them, of which the first has more than three corners

pub record PairLent (xyz : List ℤ) (rows corners sides : List ℕ) (normals : List ℤ) (g j : ℕ) : Type 0 where
  pub n : ℕ
  pub lent : FoldLent xyz rows corners sides normals n
  pub after : g < j
  pub there : j < n
  pub long : least_corners < corner_count rows g

module _ {xyz : List ℤ} {rows corners sides : List ℕ} {normals : List ℤ} {g j : ℕ} where
  abbrev pub PairFolds : PairLent xyz rows corners sides normals g j → Bool → Type 0
  PairFolds w r = r ≡ folds_after (drawing_of w.lent.faces) w.lent.faces.loops g j

  -- j joins those before it in a set, where it folds and is not known
  abbrev pub PairJoins : PairLent xyz rows corners sides normals g j → Wide → Wide → Wide → Type 0
  PairJoins w known x r =
      let test = folds_after (drawing_of w.lent.faces) w.lent.faces.loops g in
      (s : List Bool) → wides.Is known s → Upto (λ u. test u && not (dig s u)) j x → Upto (λ u. test u && not (dig s u)) (j + 1) r

-- ---- all after candidate g

pub record FoldStart (xyz : List ℤ) (rows corners sides : List ℕ) (normals : List ℤ) (n g : ℕ) : Type 0 where
  pub lent : FoldLent xyz rows corners sides normals n
  pub there : g < n

-- those that fold with it and are not known
abbrev pub FoldsAfter : {xyz : List ℤ} {rows corners sides : List ℕ} {normals : List ℤ} {n : ℕ}
    → FoldLent xyz rows corners sides normals n → ℕ → Wide → Wide → Type 0
FoldsAfter w g known r =
    (s : List Bool) → wides.Is known s → wides.Is r (less (fold_mask (drawing_of w.faces) w.faces.loops g) s)
