-- `drawing_links::neighbours`: the loop keeps that the words say which vertices the first e edges join.
use mathlib.Core.List.{List}
use mathlib.Core.Path.{◌≡◌}
use Prim.Native.Nat.{◌≤◌, ℕ}
use lib.ListN.{get_or, length, take}
use Rattle.lists.specs.Lists.{any}
use Rattle.paper.specs.Numbers.{most_vertices}
use Rattle.paper.specs.Drawing.{edges_of, joins}
use Rattle.sets.specs.Word.{digit}
use Rattle.drawing_links.proofs.neighbours.Given as goal

-- what the loop keeps: the words say of each two vertices whether one of the first e edges joins them
pub record Marked (ends : List ℕ) (n : ℕ) (near : List ℕ) (e : ℕ) : Type 0 where
  pub not_past : e ≤ n
  pub whole : n ≡ length (edges_of ends)
  pub room : length near ≡ most_vertices
  pub marks : (u w : ℕ) → digit (get_or near u 0) w ≡ any (joins u w) (take e (edges_of ends))

abbrev pub invariant-loop-e : goal.invariant-loop-e
invariant-loop-e l = Marked l.ends l.n l.near l.e
