-- Lists that pass 5 and 8 to 10, and then 11 to 14, are a drawing that has passed.
use mathlib.Core.List.{List, [], ◌∷◌}
use mathlib.Core.Option.{none}
use mathlib.Core.Path.{◌≡◌}
use Prim.Native.Nat.{ℕ, ◌/◌}
use lib.IntN.{ℤ}
use lib.ListN.{length}
use Rattle.lists.specs.Lists.{lowest}
use Rattle.paper.specs.Refusals as No
use Rattle.paper.specs.Refusals.{check, first_of, Fine}
use Rattle.paper.specs.Sheet.{far_at, wrong_at, low_at, edge_checks, content_checks, lent_checks}
use Rattle.paper.specs.Drawing.{wire, same_place, loose_vertex, edge_meets, apart, drawing_checks}
use Rattle.paper_laws.proofs.Checks.{found_none}
use Rattle.sheet_laws.proofs.Lent.{lent}
use Rattle.drawing_lists.proofs.Range.{lent_range}
use Rattle.loop_table.specs.Passed.{Passed}
use Rattle.loop_words.specs.Numbered.{RisingEnds}

module _ (xyz : List ℤ) (ends : List ℕ) where
  -- 10, the last of the checks of lent lists
  rising_is : Fine ≡ first_of (lent_checks xyz ends) → lowest (low_at ends) (length ends / 2) ≡ none
  unfolding content_checks edge_checks
  rising_is h =
      let v = length xyz / 3 in
      let e = length ends / 2 in
      let last = check No.EdgeOrder (lowest (low_at ends) e) ∷ [] in
      let nine = check No.BadEdge (lowest (wrong_at v ends) e) ∷ last in
      let content : Fine ≡ first_of (check No.BadCoordinate (lowest (far_at xyz) (length xyz)) ∷ nine) = (lent xyz ends h).fine in
      (found_none No.EdgeOrder [] (found_none No.BadEdge last (found_none No.BadCoordinate nine content).1).1).0

  pub has-passed : Fine ≡ first_of (lent_checks xyz ends) → Fine ≡ first_of (drawing_checks (wire xyz ends)) → Passed xyz ends
  unfolding drawing_checks
  has-passed ok ruled =
      let d = wire xyz ends in
      let fourteen = check No.Apart (apart d) ∷ [] in
      let thirteen = check No.EdgeMeets (edge_meets d) ∷ fourteen in
      let twelve = check No.LooseVertex (loose_vertex d) ∷ thirteen in
      let a : (same_place d ≡ none) × (Fine ≡ first_of twelve) = found_none No.SamePlace twelve ruled in
      let b : (loose_vertex d ≡ none) × (Fine ≡ first_of thirteen) = found_none No.LooseVertex thirteen a.1 in
      let c : (edge_meets d ≡ none) × (Fine ≡ first_of fourteen) = found_none No.EdgeMeets fourteen b.1 in
      record {
        range = lent_range xyz ends ok;
        rising = rising_is ok;
        places = a.0;
        tied = b.0;
        clear = c.0;
        whole = (found_none No.Apart [] c.1).0;
      }

-- ---- what has passed is what numbers of edges ask for
pub rising_ends : {xyz : List ℤ} {ends : List ℕ} → Passed xyz ends → RisingEnds ends
rising_ends p = record { vertices = p.range.vertices; few = p.range.most; links = p.range.links; order = p.rising }
