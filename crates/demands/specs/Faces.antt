-- What the faces of a solid are taken from, in demands 2 and 3: "Candidates are the loops that cover no other loop, numbered from 0 in
-- loop order."
use Rattle.std.specs.Prelude.{◌≡◌, ◌↔◌, ℕ, ◌<◌, length}
use Rattle.paper.specs.Loops.{Loop, loop_at}
use Rattle.means_loops.specs.Loop.{IsCandidate, Ascending}
use Rattle.demands.specs.Input.{Input, drawing, candidates_of, Passes}
use Rattle.demands.specs.Cover.{CandidateOf}

-- q is a candidate by its number
abbrev pub Numbered : Input → Loop → Type 0
Numbered x q = (k : ℕ) × (k < length (candidates_of x)) × (loop_at (candidates_of x) k ≡ q)

pub record Candidates (x : Input) : Type 0 where
  -- of a drawing that passes its rules, in words; of any drawing, by the tests
  pub in_words : Passes x → (q : Loop) → CandidateOf (drawing x) q ↔ Numbered x q
  pub candidates : (q : Loop) → IsCandidate (drawing x) q ↔ Numbered x q
  pub in_order : Ascending (candidates_of x)
