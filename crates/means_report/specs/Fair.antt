-- Candidates as the rules leave them, and masks that say the same.
use Rattle.std.specs.Prelude.{List, Bool, ◌≡◌, ℕ, ◌<◌, length}
use Rattle.sets.specs.Word.{dig}
use Rattle.paper.specs.Drawing.{Wire}
use Rattle.paper.specs.Loops.{Loop, loop_at, polygon}
use Rattle.paper_laws.specs.Planes.{InOwnPlane}
use Rattle.means_solid.specs.Proper.{AllProper}

-- what holds of the candidates of every drawing that passes rule 11: they are proper, and each lies in its plane
pub record Fair (d : Wire) (cs : List Loop) : Type 0 where
  pub proper : AllProper cs
  pub flat : (k : ℕ) → k < length cs → InOwnPlane (polygon d (loop_at cs k))

-- the same digits, past the end of the shorter list too
abbrev pub Same : List Bool → List Bool → Type 0
Same a b = (k : ℕ) → dig a k ≡ dig b k
