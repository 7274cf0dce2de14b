-- A drawing that has passed 3 to 14, as its two lists.
use Rattle.std.specs.Prelude.{◌≡◌, List, ◌/◌, ℤ, length, ℕ}
use Rattle.std.proofs.Math.Option.{none}
use Rattle.lists.specs.Lists.{lowest}
use Rattle.paper.specs.Sheet.{low_at}
use Rattle.paper.specs.Drawing.{wire, same_place, loose_vertex, edge_meets, apart}
use Rattle.paper_laws.specs.InRange.{InRange}

pub record Passed (xyz : List ℤ) (ends : List ℕ) : Type 0 where
  pub range : InRange xyz ends
  pub rising : lowest (low_at ends) (length ends / 2) ≡ none
  pub places : same_place (wire xyz ends) ≡ none
  pub tied : loose_vertex (wire xyz ends) ≡ none
  pub clear : edge_meets (wire xyz ends) ≡ none
  pub whole : apart (wire xyz ends) ≡ none
