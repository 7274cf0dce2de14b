-- One candidate decided: with it taken or rejected, the sets are those of the new state, and one fewer is undecided.
use mathlib.Core.Bool.{Bool}
use mathlib.Core.List.{List}
use mathlib.Core.Path.{◌≡◌, refl, sym, subst}
use Prim.Native.Nat.{ℕ, ◌<◌}
use native.Mathlib.Omega.{arith}
use lib.ListN.{set}
use Rattle.sets.specs.Word.{either, only}
use Rattle.sets.specs.Kinds.{Kind, Has, Dropped}
use Rattle.sets.specs.Sets.{wides, Wide}
use Rattle.sets.proofs.Ones.{dig_lt}
use Rattle.sets.proofs.Laws.{Laws}
use Rattle.sets.proofs.Sets.{wides_laws}
use Rattle.paper.specs.Conversion.{takens}
use Rattle.paper.specs.Walk.{Taken, Rejected}
use Rattle.means_walk.specs.Lowest.{opens}
use Rattle.means_walk.proofs.Status.{open_lt}
use Rattle.fast_sweeps.proofs.Words.{takens_set_taken, takens_set_rejected, opens_set}
use Rattle.walk_state.specs.State.{Decided}
use Rattle.walk_state.specs.declared.State.{State}
use Rattle.walk_state.proofs.Lowest.{drop-one}

-- what is in a set is below its room
pub narrow : {K : Kind} (laws : Laws K) {x : K.Of} (k : ℕ) → laws.Fits x → Has K x k → k < K.room
narrow laws {x} k h there =
    let a = laws.digits_of x in
    let i = laws.is_digits x h in
    omega (arith, dig_lt a k (there a i), laws.short i)

module _ (s : State) (k : ℕ) (h : wides_laws.Fits s.undecided) (there : Has wides s.undecided k) {u : Wide}
    (d : Dropped wides s.undecided k u) where
  pub taken_is : {t : Wide} → ((a : List Bool) → wides.Is s.taken a → wides.Is t (either a (only k)))
      → Decided s k Taken (record { taken = t; undecided = u })
  taken_is {t} f = record {
    fewer = drop-one wides_laws k h there d;
    same = λ st i.
        let e : takens (set st k Taken) ≡ either (takens st) (only k)
        = takens_set_taken st k (open_lt st k (there (opens st) i.leaves)) in
        record {
          takes = subst (wides.Is t) (sym e) (f (takens st) i.takes);
          leaves = subst (wides.Is u) (sym (opens_set Taken refl st k)) (d.same (opens st) i.leaves);
        };
  }

  pub rejected_is : Decided s k Rejected (record { taken = s.taken; undecided = u })
  rejected_is = record {
    fewer = drop-one wides_laws k h there d;
    same = λ st i.
        record {
          takes = subst (wides.Is s.taken) (sym (takens_set_rejected st k (there (opens st) i.leaves))) i.takes;
          leaves = subst (wides.Is u) (sym (opens_set Rejected refl st k)) (d.same (opens st) i.leaves);
        };
  }
