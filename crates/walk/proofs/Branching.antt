-- One branch of an assumption: the lowest of the undecided on the edge found gets its status.
use mathlib.Core.List.{List}
use mathlib.Core.Path.{◌≡◌, sym, ap, ◌∙◌, subst}
use Prim.Native.Nat.{ℕ}
use lib.ListN.{set}
use Rattle.sets.specs.Kinds.{Has, Lowest, SetAt}
use Rattle.sets.specs.Sets.{wides, Wide}
use Rattle.paper.specs.Walk.{Status}
use Rattle.fast_sweeps.specs.Worklist.{edges_with, open_from, lowest_on}
use Rattle.walk_state.specs.State.{StateIs, Decided}
use Rattle.walk_state.specs.Choice.{Opened}
use Rattle.walk_state.specs.declared.State.{State}
use Rattle.walk_state.specs.declared.Opening.{Opening}
use Rattle.walk.specs.Branch.{Assumes}

module _ {on : List ℕ} {m : ℕ} (s : State) {from : ℕ} {o : Opening} (found : Opened on m s.undecided from o) {k : ℕ}
    (low : Lowest wides o.free k) where
  pub lowest_open : Has wides s.undecided k
  lowest_open = found.there k low.there

  pub assumes : {sides : List ℕ} {changed : Wide} {s' : State} {v : Status} → SetAt wides sides k changed → Decided s k v s'
      → Assumes on m sides s from v (record { state = s'; changed = changed; edge = o.edge })
  assumes {sides} {changed} {s'} {v} edge d = record {
    within = found.within;
    fewer = d.fewer;
    same = λ masks st i w l h.
        let c = found.same masks st i l h.leaves in
        let q : k ≡ lowest_on masks st (open_from masks st from)
        = low.same c.digits c.free_is ∙ c.lowest_is ∙ ap (lowest_on masks st) c.edge_is in
        let marks : wides.Is changed (edges_with masks k)
        = subst (λ (x : Wide). wides.Is x (edges_with masks k)) (sym edge.is) (w.at k low.narrow) in
        record {
          holds = subst (λ (j : ℕ). StateIs s' (set st j v)) q (d.same st h);
          marked_is = subst (λ (j : ℕ). wides.Is changed (edges_with masks j)) q marks;
          edge_is = c.edge_is;
        };
  }
