-- Every candidate is on an edge of the drawing, so the walk chooses as document 01 says.
use mathlib.Core.Bool.{Bool, true, false}
use mathlib.Core.List.{List}
use mathlib.Core.Logic.{◌⊎◌, inl, inr}
use mathlib.Core.Path.{◌≡◌, ap, ◌∙◌}
use Prim.Native.Nat.{ℕ, ◌<◌}
use native.Mathlib.Omega.{arith}
use lib.ListN.{length, get_or, length-replicate}
use Rattle.paper.specs.Drawing.{Wire, Edge, edge, edge_at}
use Rattle.paper.specs.Loops.{Loop, loop_at, final, candidates}
use Rattle.paper.specs.Solids.{tables_of, has}
use Rattle.paper.specs.Walk.{Undecided}
use Rattle.means_walk.specs.Lowest.{CandidateOn, Chooses}
use Rattle.means_walk.proofs.Chosen.{tree_chooses}
use Rattle.means_solid.specs.Solid.{Goes}
use Rattle.means_solid.proofs.Goes.{goes_last, cases_has, has_nil, dig_map}
use Rattle.means_loops.specs.Loop.{IsLoop}
use Rattle.means_loops.proofs.Listing.{candidates_are, joined-edge}
use Rattle.means_masks.proofs.Tables.{masks_length, mask_at}
use Rattle.means_report.specs.Listed.{WalkTree}

-- the edge from its last corner to its first is the candidate's
last_edge : (d : Wire) (q : Loop) → IsLoop d q → (e : ℕ) × (e < length d.edges) × (has (edge_at d e) q ≡ true)
last_edge d q l = let r = joined-edge d (final q) (get_or q 0 0) l.closed in (r.0, r.1, go (edge_at d r.0) r.2)
  where
    goes : Goes q (final q) (get_or q 0 0)
    goes = goes_last q (omega (arith, l.three))

    go : (e : Edge) → (e ≡ edge (final q) (get_or q 0 0)) ⊎ (e ≡ edge (get_or q 0 0) (final q)) → has e q ≡ true
    go e (inl p) = ap (λ (x : Edge). has x q) p ∙ cases_has (final q) (get_or q 0 0) q (inl goes)
    go e (inr p) = ap (λ (x : Edge). has x q) p ∙ cases_has (get_or q 0 0) (final q) q (inr goes)

pub on_an_edge : (d : Wire) (k : ℕ) → k < length (candidates d) → (e : ℕ) × (e < length (tables_of d (candidates d)).masks)
    × CandidateOn (tables_of d (candidates d)).masks e k
on_an_edge d k h =
    let r = last_edge d (loop_at (candidates d) k) (candidates_are d k h).loop in (
      r.0,
      omega (arith, r.1, masks_length d (candidates d)),
      ap (λ (mask : List Bool). get_or mask k false) (mask_at d (candidates d) r.0 r.1)
          ∙ dig_map (has (edge_at d r.0)) (has_nil (edge_at d r.0)) (candidates d) k ∙ r.2,
    )

-- at every branch of a drawing's walk
pub walk_chooses : (d : Wire) (t : WalkTree d (candidates d)) → Chooses t
walk_chooses d t = tree_chooses (length (candidates d)) (length-replicate (length (candidates d)) Undecided) (on_an_edge d) t
