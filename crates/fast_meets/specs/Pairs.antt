-- The offenders of rule 13, gathered over the pairs of edges, the lower one first.
use Rattle.std.specs.Prelude.{Bool, true, false, List, [], length}
use Prim.Native.Nat.{ℕ, zero, suc, ◌-◌}
use Rattle.sets.specs.Word.{either, only}
use Rattle.paper.specs.Drawing.{Wire, edge_at, edges_meet}

-- edge e without its ends shares a point with edge f
unfoldable pub meet_at : Wire → ℕ → ℕ → Bool
unfolding edge_at edges_meet
meet_at d e f = edges_meet d (edge_at d e) (edge_at d f)

-- w, with k where a test says so
unfoldable pub mark : Bool → ℕ → List Bool → List Bool
mark true k w = either w (only k)
mark false k w = w

module _ (meet : ℕ → ℕ → Bool) where
  -- w, with what the pair of e and f makes offend: either, both or none
  unfoldable pub pair_marked : ℕ → ℕ → List Bool → List Bool
  unfolding mark
  pair_marked e f w = mark (meet f e) f (mark (meet e f) e w)

  -- the pairs of e with the m edges from f on
  unfoldable pub with_rest : ℕ → ℕ → ℕ → List Bool → List Bool
  unfolding pair_marked
  with_rest e f zero w = w
  with_rest e f (suc m) w = with_rest e (suc f) m (pair_marked e f w)

  -- the pairs among the m edges from e on
  unfoldable pub pairs_from : ℕ → ℕ → List Bool → List Bool
  unfolding with_rest
  pairs_from e zero w = w
  pairs_from e (suc m) w = pairs_from (suc e) m (with_rest e (suc e) m w)

-- of edge e with the later ones, and of all pairs
unfoldable pub later_marked : Wire → ℕ → List Bool → List Bool
unfolding meet_at with_rest
later_marked d e w = with_rest (meet_at d) e (suc e) (length d.edges - suc e) w

unfoldable pub offenders : Wire → List Bool
unfolding meet_at pairs_from
offenders d = pairs_from (meet_at d) 0 (length d.edges) []
