-- The tests (ii) to (v) of a selection that has (i), with each face gone round once: from one taken face over its edges, then from each
-- face that is reached so. Sets of edges and of faces are lists of digits, the lowest first.
use Rattle.std.specs.Prelude.{Bool, true, false, cond, List, [], ◌≡◌, ℕ, zero, suc, ◌+◌, eqb, get_or, ℤ, pos, ◌+ℤ◌}
use Rattle.std.specs.Bool.{xor}
use Rattle.sets.specs.Word.{dig, count, first, both, either, less, only}
use Rattle.paper.specs.Solids.{Tables, unlike, oriented, part, weighed, Judgement, Fails, Solid}
use Rattle.fast_sweeps.specs.Worklist.{without_lowest, edges_with}

-- the faces that are reached, those of them whose edges are still to be gone over, and those that are turned against their normal form
pub record Going : Type 0 where
  pub reached : List Bool
  pub waiting : List Bool
  pub turned : List Bool

-- ---- one edge of face f

-- "on[e] & taken & !face"
abbrev pub others : List Bool → List Bool → ℕ → List Bool
others mask taken f = less (both mask taken) (only f)

-- face f and the others run the edge in unlike ways: "(face & runs == 0) ^ (other & runs == 0)", with runs "up[e] ^ turned"
abbrev pub unlike_ways : List Bool → ℕ → List Bool → Bool
unlike_ways runs f other = xor (eqb (count (both (only f) runs)) 0) (eqb (count (both other runs)) 0)

-- none of the others is reached yet: they are, they wait, and they are turned where they run the edge as face f does
unfoldable pub at_edge : List Bool → List Bool → List Bool → ℕ → Going → Going
at_edge mask up taken f g =
    cond (eqb (count (both g.reached (others mask taken f))) 0)
    (record {
      reached = either g.reached (others mask taken f);
      waiting = either g.waiting (others mask taken f);
      turned = cond (unlike_ways (unlike up g.turned) f (others mask taken f)) g.turned (either g.turned (others mask taken f));
    })
    g

-- ---- the n lowest edges of `left`, in order
unfoldable pub around_face : ℕ → List (List Bool) → List (List Bool) → List Bool → ℕ → List Bool → Going → Going
around_face zero masks ups taken f left g = g
around_face (suc n) masks ups taken f left g =
    around_face n masks ups taken f (without_lowest left) (at_edge (get_or masks (first left) []) (get_or ups (first left) []) taken f g)

-- ---- the lowest waiting face, over all of its edges
unfoldable pub at_face : List (List Bool) → List (List Bool) → List Bool → Going → Going
at_face masks ups taken g =
    around_face (count (edges_with masks (first g.waiting))) masks ups taken (first g.waiting) (edges_with masks (first g.waiting))
    (record { reached = g.reached; waiting = without_lowest g.waiting; turned = g.turned })

-- until none waits, at most n times
unfoldable pub go_on : ℕ → List (List Bool) → List (List Bool) → List Bool → Going → Going
go_on zero masks ups taken g = g
go_on (suc n) masks ups taken g =
    let next = go_on n masks ups taken (at_face masks ups taken g) in
    cond (eqb (count g.waiting) 0) g next

-- so many times are enough
unfoldable pub to_go : List Bool → Going → ℕ
to_go taken g = count (less taken g.reached) + count g.waiting

-- from face k
abbrev pub alone : ℕ → Going
alone k = record { reached = only k; waiting = only k; turned = [] }

unfoldable pub from_face : List (List Bool) → List (List Bool) → List Bool → ℕ → Going
from_face masks ups taken k = go_on (count taken) masks ups taken (alone k)

-- from the lowest taken face
abbrev pub from_lowest_face : List (List Bool) → List (List Bool) → List Bool → Going
from_lowest_face masks ups taken = from_face masks ups taken (first taken)

-- ---- (v) and (iv) over the n lowest of the taken faces `left`
unfoldable pub clear_on : ℕ → List (List Bool) → List Bool → List Bool → Bool
clear_on zero cs left taken = true
clear_on (suc n) cs left taken = cond (eqb (count (both (get_or cs (first left) []) taken)) 0) (clear_on n cs (without_lowest left) taken) false

unfoldable pub six_on : ℕ → List ℤ → List Bool → List Bool → ℤ
six_on zero zs left turned = pos 0
six_on (suc n) zs left turned = part true (dig turned (first left)) (get_or zs (first left) (pos 0)) +ℤ six_on n zs (without_lowest left) turned

-- ---- all of it
unfoldable pub judged_by_faces : Tables → List Bool → Judgement
judged_by_faces t taken =
    let g = from_lowest_face t.masks t.ups taken in
    cond (eqb (count taken) 0) Fails
    (cond (eqb (count (less taken g.reached)) 0)
    (cond (oriented t.masks t.ups taken g.turned)
    (cond (clear_on (count taken) t.clashes taken taken) (weighed taken g.turned (six_on (count taken) t.sixes taken g.turned))
    Fails)
    Fails)
    Fails)

-- the same judgement, and where it is a solid the same digits of the turned faces: their lists may differ in zeros at the end
pub data SameJudgement : Judgement → Judgement → Type 0 where
  fails : SameJudgement Fails Fails
  solid : {s t : List Bool} (v : ℕ) → ((k : ℕ) → dig s k ≡ dig t k) → SameJudgement (Solid s v) (Solid t v)
