-- `loop_words::number_edges`: the loop keeps that the entries of the first e edges are their numbers.
use mathlib.Core.List.{List}
use mathlib.Core.Path.{◌≡◌}
use Prim.Native.Nat.{◌≤◌, ℕ}
use lib.ListN.{length}
use Rattle.loop_words.specs.Numbered.{RisingEnds}
use Rattle.loop_words.proofs.Pairs.{Numbering, all_pairs}
use Rattle.loop_words.proofs.number_edges.Given as goal

-- what the loop keeps
pub record Kept {ends : List ℕ} (r : RisingEnds ends) (n : ℕ) (number : List ℕ) (e : ℕ) : Type 0 where
  pub not_past : e ≤ n
  pub whole : n ≡ r.links.edges
  pub room : length number ≡ all_pairs
  pub numbers : Numbering r number e

abbrev pub invariant-loop-e : goal.invariant-loop-e
invariant-loop-e l = (r : RisingEnds l.ends) → Kept r l.n l.number l.e
