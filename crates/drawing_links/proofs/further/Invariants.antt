-- `drawing_links::further`: the loop keeps that `more` has the set and what the first u vertices of it lead to.
use mathlib.Core.Bool.{Bool, ◌&&◌, ◌||◌}
use mathlib.Core.Path.{◌≡◌}
use Prim.Native.Nat.{◌≤◌, ℕ}
use lib.ListN.{set, take}
use Rattle.lists.specs.Lists.{any, upto}
use Rattle.paper.specs.Drawing.{Wire, joined}
use Rattle.sets.specs.Word.{digit}
use Rattle.drawing_links.specs.Neighbours.{Links}
use Rattle.drawing_links.proofs.further.Given as goal

-- a vertex of the set that is joined to w
abbrev pub Leads : ℕ → Wire → ℕ → ℕ → Bool
Leads set d w u = digit set u && joined d u w

abbrev pub invariant-loop-u : goal.invariant-loop-u
invariant-loop-u l = (l.u ≤ l.v) × ((d : Wire) → Links l.near l.v d → (w : ℕ) → digit l.more w ≡ (digit l.set w || any (Leads l.set d w) (take l.u (upto l.v))))
