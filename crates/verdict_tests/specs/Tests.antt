-- Refusals 23 to 27 on words, of every list of faces that the words stand for.
use Rattle.std.specs.Prelude.{true, List, [], ◌∷◌, ◌≡◌, ℕ, ◌≤◌, ◌<◌, ℤ, length, get_or, take}
use Rattle.std.proofs.Math.Option.{Option, none}
use Rattle.sets.specs.Word.{dig}
use Rattle.sets.specs.Sets.{wides, Wide}
use Rattle.paper.specs.Numbers.{most_edges, most_faces, most_candidates}
use Rattle.paper.specs.declared.Number.{Number}
use Rattle.paper.specs.Refusals as No
use Rattle.paper.specs.Refusals.{Check, check, first_of, Answer}
use Rattle.paper.specs.Solids.{Tables}
use Rattle.paper.specs.Verdict as Paper
use Rattle.paper.specs.Verdict.{Listed}
use Rattle.walk_tables.specs.Words.{Masks, Sides, Sixes, SmallSixes, WalkTables, Lent}
use Rattle.walk_leaf.specs.Faces.{Edges}

-- ---- what is asked for: so many faces, each with a number below 64; and of all of it
pub record SomeFaces (numbers : List ℕ) (count : ℕ) : Type 0 where
  pub some : 0 < count
  pub few : count ≤ most_faces
  pub held : count ≤ length numbers
  pub narrow : (i : ℕ) → i < count → get_or numbers i 0 < most_candidates

pub record Testing (m : ℕ) (sixes : List ℤ) (numbers : List ℕ) (count : ℕ) : Type 0 where
  pub edges : m ≤ most_edges
  pub small : SmallSixes sixes
  pub faces : SomeFaces numbers count

-- ---- the checks, by the place that each finds

abbrev pub edge_count_of : Tables → Listed → Option ℕ
edge_count_of t l = Paper.edge_count t l.taken

abbrev pub direction_of : Tables → Listed → Option ℕ
direction_of t l = Paper.direction t l.taken l.turned

abbrev pub pieces_of : Tables → Listed → Option ℕ
pieces_of t l = Paper.pieces t l.numbers l.taken

abbrev pub inward_of : Tables → Listed → Option ℕ
inward_of t l = Paper.inward t l.taken l.turned

abbrev pub clash_of : Tables → Listed → Option ℕ
clash_of t l = Paper.clashes t l.numbers l.taken

-- the last five of `faceChecks`
abbrev pub test_checks : Tables → Listed → List Check
test_checks t l =
    check No.EdgeCount (edge_count_of t l) ∷ check No.Direction (direction_of t l) ∷ check No.Pieces (pieces_of t l) ∷ check No.Inward
    (inward_of t l)
    ∷ check No.Clash (clash_of t l)
    ∷ []

-- ---- an answer on all tables and lists that P says are meant

abbrev pub ToldAt : (Tables → Listed → Type 0) → Number → (Tables → Listed → Option ℕ) → Answer → Type 0
ToldAt P number place r = (t : Tables) (l : Listed) → P t l → r ≡ first_of (check number (place t l) ∷ [])

-- ---- what the words stand for that each check asks. 23 and 24, edge by edge

pub record Counting (on : List ℕ) (m : ℕ) (taken : Wide) (t : Tables) (l : Listed) : Type 0 where
  pub on_are : Masks on t.masks
  pub as_many : length t.masks ≡ m
  pub taken_is : wides.Is taken l.taken

pub record Running (on up : List ℕ) (m : ℕ) (taken turned : Wide) (t : Tables) (l : Listed) : Type 0 where
  pub edges_are : Edges on up t.masks t.ups
  pub as_many : length t.masks ≡ m
  pub taken_is : wides.Is taken l.taken
  pub turned_is : wides.Is turned l.turned

-- the faces of the list, each of them taken
pub record FacesNumbered (numbers : List ℕ) (count : ℕ) (taken : Wide) (l : Listed) : Type 0 where
  pub numbers_are : l.numbers ≡ take count numbers
  pub each : (i : ℕ) → i < length l.numbers → dig l.taken (get_or l.numbers i 0) ≡ true
  pub taken_is : wides.Is taken l.taken

-- 25, where 23 is passed
pub record Joining (on up sides numbers : List ℕ) (count : ℕ) (taken : Wide) (t : Tables) (l : Listed) : Type 0 where
  pub edges_are : Edges on up t.masks t.ups
  pub sides_are : Sides sides t.masks
  pub faces_are : FacesNumbered numbers count taken l
  pub two : edge_count_of t l ≡ none

-- 26
pub record Weighing (sixes : List ℤ) (taken turned : Wide) (t : Tables) (l : Listed) : Type 0 where
  pub sixes_are : Sixes sixes t.sixes
  pub in_sixes : length l.taken ≤ length t.sixes
  pub taken_is : wides.Is taken l.taken
  pub turned_is : wides.Is turned l.turned

-- 27
pub record Clashing (clashes numbers : List ℕ) (count : ℕ) (taken : Wide) (t : Tables) (l : Listed) : Type 0 where
  pub clashes_are : Masks clashes t.clashes
  pub in_clashes : length l.taken ≤ length t.clashes
  pub faces_are : FacesNumbered numbers count taken l

-- ---- all of it: a list in a drawing of n candidates, each face of which is taken; and the code's form of it

pub record ListedIn (n : ℕ) (l : Listed) : Type 0 where
  pub as_many : length l.taken ≡ n
  pub each : (i : ℕ) → i < length l.numbers → dig l.taken (get_or l.numbers i 0) ≡ true

pub record ListIs (numbers : List ℕ) (count : ℕ) (taken turned : Wide) (l : Listed) : Type 0 where
  pub numbers_are : l.numbers ≡ take count numbers
  pub taken_is : wides.Is taken l.taken
  pub turned_is : wides.Is turned l.turned

abbrev pub Tested : WalkTables → ℕ → List ℕ → ℕ → Wide → Wide → Answer → Type 0
Tested tables m numbers count taken turned r =
    (n : ℕ) (t : Tables) (l : Listed) → Lent tables m n t → ListedIn n l → ListIs numbers count taken turned l
    → r ≡ first_of (test_checks t l)
