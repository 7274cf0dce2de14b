-- Document 01, "What comes back": the numbers of the table by its names, and the rule that the first check that applies is the
-- answer.
use Rattle.std.specs.Prelude.{ℕ, Bool, cond, List, [], ◌∷◌, Result, Ok, Err, Float}
use Rattle.std.proofs.Math.Option.{Option, none, some}
use Rattle.paper.specs.declared.Number.{Number}
use Rattle.paper.specs.declared.Refusal.{Refusal}

-- a number as it is said
abbrev pub value_of : Number → ℕ
value_of n = n.value

-- the table
abbrev pub NoRoom : Number
NoRoom = record { value = 1 }

abbrev pub BadLimit : Number
BadLimit = record { value = 2 }

abbrev pub SheetShort : Number
SheetShort = record { value = 3 }

abbrev pub SheetEdition : Number
SheetEdition = record { value = 4 }

abbrev pub BadCount : Number
BadCount = record { value = 5 }

abbrev pub SheetLength : Number
SheetLength = record { value = 6 }

abbrev pub SheetPad : Number
SheetPad = record { value = 7 }

abbrev pub BadCoordinate : Number
BadCoordinate = record { value = 8 }

abbrev pub BadEdge : Number
BadEdge = record { value = 9 }

abbrev pub EdgeOrder : Number
EdgeOrder = record { value = 10 }

abbrev pub SamePlace : Number
SamePlace = record { value = 11 }

abbrev pub LooseVertex : Number
LooseVertex = record { value = 12 }

abbrev pub EdgeMeets : Number
EdgeMeets = record { value = 13 }

abbrev pub Apart : Number
Apart = record { value = 14 }

abbrev pub ManyLoops : Number
ManyLoops = record { value = 15 }

abbrev pub ManyCandidates : Number
ManyCandidates = record { value = 16 }

abbrev pub NoSolid : Number
NoSolid = record { value = 17 }

abbrev pub Many : Number
Many = record { value = 18 }

abbrev pub TooLong : Number
TooLong = record { value = 19 }

abbrev pub ShellShape : Number
ShellShape = record { value = 20 }

abbrev pub NotCandidate : Number
NotCandidate = record { value = 21 }

abbrev pub FaceTwice : Number
FaceTwice = record { value = 22 }

abbrev pub EdgeCount : Number
EdgeCount = record { value = 23 }

abbrev pub Direction : Number
Direction = record { value = 24 }

abbrev pub Pieces : Number
Pieces = record { value = 25 }

abbrev pub Inward : Number
Inward = record { value = 26 }

abbrev pub Clash : Number
Clash = record { value = 27 }

-- "or 30 where two to eight solids exist"
abbrev pub Ambiguous : Number
Ambiguous = record { value = 30 }

-- nothing is refused, or a refusal: of what is read, and of the face-list check
abbrev pub Answer : Type 0
Answer = Result (Unit {0}) Refusal

abbrev pub Fine : Answer
Fine = Ok tt

abbrev pub Verdict : Type 0
Verdict = Result (Unit {0}) Refusal

abbrev pub ListAccepted : Verdict
ListAccepted = Ok tt

-- the length of what was written, or a refusal
abbrev pub Written : Type 0
Written = Result ℕ Refusal

-- a volume in cubic metres, or the number that says why nothing was assessed
abbrev pub Reading : Type 0
Reading = Result Float Number

-- "Checks run in number order": a check is a number of the table and "the lowest" place that offends, if one does
pub data Check : Type 0 where
  check : (number : Number) → (place : Option ℕ) → Check

abbrev pub refuse : Number → ℕ → Answer
refuse n p = Err (record { number = n; place = p })

-- "the first that applies is the answer"
unfoldable pub first_of : List Check → Answer
first_of [] = Fine
first_of (check n none ∷ cs) = first_of cs
first_of (check n (some p) ∷ cs) = refuse n p

-- a check of one place
abbrev pub offends : Bool → ℕ → Option ℕ
offends b p = cond b (some p) none
