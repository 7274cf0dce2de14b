-- A list of faces and the candidates of a drawing, each in rows: 21 and 22, or which candidates the faces are.
use Rattle.std.specs.Prelude.{List, [], ◌∷◌, ◌≡◌, ℕ, ◌≤◌, ◌<◌, length, take, Ok, Err, Result}
use Rattle.sets.specs.Sets.{wides}
use Rattle.paper.specs.Numbers.{most_faces, most_corners, most_candidates, face_room}
use Rattle.paper.specs.Refusals as No
use Rattle.paper.specs.Refusals.{Check, check, first_of, Fine}
use Rattle.paper.specs.Loops.{Loop, loop_at}
use Rattle.paper.specs.Verdict.{listed, not_candidate, face_twice}
use Rattle.paper.specs.declared.Refusal.{Refusal}
use Rattle.loop_table.specs.Tables.{HoldsRows}
use Rattle.verdict_faces.specs.Form.{FaceIn}
use Rattle.verdict_faces.specs.declared.selection.Selection.{Selection}

-- count rows of 3 to 12 corners each, rows for n candidates, and room for the numbers
pub record Naming (faces : List ℕ) (count : ℕ) (rows : List ℕ) (n : ℕ) (numbers : List ℕ) : Type 0 where
  pub few : count ≤ most_faces
  pub few_candidates : n ≤ most_candidates
  pub cornered : (i : ℕ) → i < count → FaceIn faces i
  pub rows_long : length rows ≡ face_room
  pub numbers_long : length numbers ≡ most_faces

-- the first n rows of a table are those of the loops ls
pub record HoldsTable (table : List ℕ) (n : ℕ) (ls : List Loop) : Type 0 where
  pub rows : HoldsRows table ls
  pub count : length ls ≡ n
  pub short : (k : ℕ) → k < length ls → length (loop_at ls k) ≤ most_corners

-- 21 and 22, of the faces fs and the candidates cs
abbrev pub named_checks : List Loop → List (List ℕ) → List Check
named_checks cs fs =
    let ks = (listed cs fs).numbers in
    check No.NotCandidate (not_candidate (length cs) ks) ∷ check No.FaceTwice (face_twice ks) ∷ []

-- neither applies: the numbers in list order, the candidates that are taken, and those of them that are turned
pub record Selected (cs : List Loop) (fs : List (List ℕ)) (count : ℕ) (numbers : List ℕ) (s : Selection) : Type 0 where
  pub fine : Fine ≡ first_of (named_checks cs fs)
  pub numbers_are : take count numbers ≡ (listed cs fs).numbers
  pub taken_is : wides.Is s.taken (listed cs fs).taken
  pub turned_is : wides.Is s.turned (listed cs fs).turned

abbrev pub NamedAs : List Loop → List (List ℕ) → ℕ → List ℕ → Result Selection Refusal → Type 0
NamedAs cs fs count numbers (Err r) = Err r ≡ first_of (named_checks cs fs)
NamedAs cs fs count numbers (Ok s) = Selected cs fs count numbers s

-- of all faces and all candidates that the rows hold
pub record NamedIs (faces : List ℕ) (count : ℕ) (rows : List ℕ) (n : ℕ) (numbers₀ numbers : List ℕ)
    (r : Result Selection Refusal) : Type 0 where
  pub long : length numbers ≡ length numbers₀
  pub same : (fs cs : List Loop) → HoldsTable faces count fs → HoldsTable rows n cs → NamedAs cs fs count numbers r
