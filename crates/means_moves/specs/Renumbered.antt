-- "With vertices renumbered and edges sorted again": two drawings that differ in the vertices' numbers.
use Rattle.std.specs.Prelude.{◌≡◌, ◌↔◌, ℕ, ◌<◌, length}
use Rattle.paper.specs.Drawing.{Wire, at}
use Rattle.means_loops.specs.Path.{EdgeOf}
use Rattle.means_moves.specs.Alike.{EndsBelow}

-- vertex v of d has the number `new v` in e, no two the same one, and the edges are the same pairs
pub record Renumbered (new : ℕ → ℕ) (d e : Wire) : Type 0 where
  pub as_many : length e.vertices ≡ length d.vertices
  pub below : (v : ℕ) → v < length d.vertices → new v < length d.vertices
  pub apart : (u v : ℕ) → u < length d.vertices → v < length d.vertices → new u ≡ new v → u ≡ v
  pub place : (v : ℕ) → v < length d.vertices → at e (new v) ≡ at d v
  pub edges : (a b : ℕ) → a < length d.vertices → b < length d.vertices → EdgeOf d a b ↔ EdgeOf e (new a) (new b)

-- where 9 has seen to it that edges have ends
pub record NewNumbers (new : ℕ → ℕ) (d e : Wire) : Type 0 where
  pub numbers : Renumbered new d e
  pub ends : EndsBelow d
  pub ends_too : EndsBelow e

-- the same both ways: vertex u of e has the number `old u` in d
pub record BothWays (new old : ℕ → ℕ) (d e : Wire) : Type 0 where
  pub as_many : length e.vertices ≡ length d.vertices
  pub new_below : (v : ℕ) → v < length d.vertices → new v < length d.vertices
  pub old_below : (v : ℕ) → v < length d.vertices → old v < length d.vertices
  pub old_new : (v : ℕ) → v < length d.vertices → old (new v) ≡ v
  pub new_old : (v : ℕ) → v < length d.vertices → new (old v) ≡ v
  pub place : (v : ℕ) → v < length d.vertices → at e (new v) ≡ at d v
  pub edges : (a b : ℕ) → a < length d.vertices → b < length d.vertices → EdgeOf d a b ↔ EdgeOf e (new a) (new b)
  pub ends : EndsBelow d
  pub ends_too : EndsBelow e
