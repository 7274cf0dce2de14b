-- "find the lowest edge with an undecided candidate and, on it, the lowest such candidate".
use Rattle.std.specs.Prelude.{Bool, true, List, [], map, ◌≡◌, ℕ, ◌<◌, length, get_or}
use Rattle.sets.specs.Word.{dig}
use Rattle.paper.specs.Walk.{Status, is_open, choose}
use Rattle.means_walk.specs.Tree.{Tree, broken, leaf, branch}

-- the undecided candidates
abbrev pub opens : List Status → List Bool
opens = map is_open

-- candidate k is undecided, and it is on edge e
abbrev pub Undecided : List Status → ℕ → Type 0
Undecided st k = dig (opens st) k ≡ true

abbrev pub CandidateOn : List (List Bool) → ℕ → ℕ → Type 0
CandidateOn masks e k = dig (get_or masks e []) k ≡ true

pub record LowestChoice (masks : List (List Bool)) (st : List Status) (k : ℕ) : Type 0 where
  pub edge : ℕ
  pub here : edge < length masks
  pub on : CandidateOn masks edge k
  pub undecided : Undecided st k
  pub lower_edge : (e j : ℕ) → e < edge → CandidateOn masks e j → Undecided st j → ⊥
  pub lower : (j : ℕ) → j < k → CandidateOn masks edge j → Undecided st j → ⊥

-- so at each branch of a tree
unfoldable pub Chooses : {masks : List (List Bool)} {st : List Status} → Tree masks st → Type 0
Chooses (broken s) = Unit {0}
Chooses (leaf st s z) = Unit {0}
Chooses {masks} (branch st s n a b) = LowestChoice masks st (choose masks st) × Chooses a × Chooses b
