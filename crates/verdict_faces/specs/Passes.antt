-- What each pass over a list of faces answers: the place that 21 or 22 finds, or the candidates that it marked.
use Rattle.std.specs.Prelude.{Bool, not, List, map, ◌≡◌, ℕ, ◌≤◌, ◌<◌, length, get_or, take, Ok, Err, Result}
use Rattle.std.proofs.Math.Option.{none, some}
use Rattle.lists.specs.Lists.{filter}
use Rattle.sets.specs.Sets.{wides, Wide}
use Rattle.paper.specs.Numbers.{most_faces, most_candidates}
use Rattle.paper.specs.Loops.{Loop}
use Rattle.paper.specs.Verdict.{onward, number_in, mask_of, not_candidate, face_twice}
use Rattle.verdict_faces.specs.Form.{rows_in}

-- ---- the first: the number of each face

-- of these faces and candidates: the numbers in list order, and the mask of the turned ones
abbrev pub numbers_of : List Loop → List Loop → List ℕ
numbers_of cs fs = map (number_in cs) fs

abbrev pub turned_faces : ℕ → List Loop → List Loop → List Bool
turned_faces n cs fs = mask_of n (map (number_in cs) (filter (λ f. not (onward f)) fs))

pub record AllNumbered (fs cs : List Loop) (count n : ℕ) (numbers : List ℕ) (s : Wide) : Type 0 where
  pub known : not_candidate n (numbers_of cs fs) ≡ none
  pub numbers_are : take count numbers ≡ numbers_of cs fs
  pub turned_is : wides.Is s (turned_faces n cs fs)

abbrev pub NumberedAs : List Loop → List Loop → ℕ → ℕ → List ℕ → Result Wide ℕ → Type 0
NumberedAs fs cs count n numbers (Err i) = not_candidate n (numbers_of cs fs) ≡ some i
NumberedAs fs cs count n numbers (Ok s) = AllNumbered fs cs count n numbers s

pub record Numbering (faces : List ℕ) (count : ℕ) (rows : List ℕ) (n : ℕ) (numbers₀ numbers : List ℕ) (r : Result Wide ℕ) : Type 0 where
  pub long : length numbers ≡ length numbers₀
  pub said : NumberedAs (rows_in faces count) (rows_in rows n) count n numbers r

-- ---- the second: each number once

-- the first count numbers are of a set
pub record Takes (numbers : List ℕ) (count : ℕ) : Type 0 where
  pub few : count ≤ most_faces
  pub long : length numbers ≡ most_faces
  pub below : (i : ℕ) → i < count → get_or numbers i 0 < most_candidates

pub record TakenOnce (numbers : List ℕ) (count : ℕ) (s : Wide) : Type 0 where
  pub once : face_twice (take count numbers) ≡ none
  pub taken_is : (n : ℕ) → n ≤ most_candidates → ((i : ℕ) → i < count → get_or numbers i 0 < n)
      → wides.Is s (mask_of n (take count numbers))

abbrev pub TakenAs : List ℕ → ℕ → Result Wide ℕ → Type 0
TakenAs numbers count (Err i) = face_twice (take count numbers) ≡ some i
TakenAs numbers count (Ok s) = TakenOnce numbers count s
