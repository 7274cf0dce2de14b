-- Tables for a walk, and lists that have passed 5 and 8 to 10.
use Rattle.std.specs.Prelude.{List, ℕ, ◌≤◌, ℤ}
use Rattle.paper.specs.Numbers.{most_candidates}
use Rattle.walk_leaf.specs.Tests.{Judging}
use Rattle.walk_input.specs.declared.rows.Counts.{Counts}

pub record WalkingTables (m : ℕ) (sixes : List ℤ) (c : Counts) : Type 0 where
  pub judging : Judging m sixes
  pub few : c.candidates ≤ most_candidates
