-- The start of the walk: all undecided, all edges to be passed, nothing found.
use mathlib.Core.Bool.{true}
use mathlib.Core.List.{List, [], ◌∷◌, map}
use mathlib.Core.Path.{◌≡◌, refl, sym, ap, subst}
use Prim.Native.Nat.{ℕ, zero, suc, ◌≤◌}
use native.Mathlib.Omega.{arith}
use lib.ListN.{length, replicate, length-replicate}
use Rattle.lists.proofs.After.{after_none}
use Rattle.sets.specs.Sets.{wides, Wide}
use Rattle.sets.proofs.Laws.{none-all}
use Rattle.sets.proofs.Sets.{wides_laws}
use Rattle.paper.specs.Numbers.{solid_words, most_candidates}
use Rattle.paper.specs.Walk.{Undecided, is_taken, is_open, nothing, search}
use Rattle.paper.specs.Conversion.{words, solids_after}
use Rattle.means_walk.proofs.Ends.{open_blank}
use Rattle.fast_sweeps.proofs.Walk.{call_first}
use Rattle.walk_tables.specs.Words.{WalkTables}
use Rattle.walk_state.specs.State.{StateIs}
use Rattle.walk.specs.Walk.{Walked, Searched}
use Rattle.walk.specs.declared.tally.Tally.{Tally}

each-is : {A B : Type 0} (f : A → B) (x : A) (n : ℕ) → map f (replicate n x) ≡ replicate n (f x)
each-is f x zero = refl
each-is f x (suc n) = ap (λ (l : List _). f x ∷ l) (each-is f x n)

-- nothing taken and n undecided
holds-all : {n : ℕ} {taken undecided : Wide} → n ≤ most_candidates → wides.Is taken [] → wides.Is undecided (replicate n true)
    → StateIs (record { taken = taken; undecided = undecided }) (replicate n Undecided)
holds-all {n} {taken} {undecided} few none all = record {
  takes = subst (wides.Is taken) (sym (each-is is_taken Undecided n)) (none-all wides_laws n few none);
  leaves = subst (wides.Is undecided) (sym (each-is is_open Undecided n)) all;
}

pub searched : {tables : WalkTables} {m n limit : ℕ} {none all edges : Wide} {out₀ : List ℕ}
    {r : Tally} {out : List ℕ} → n ≤ most_candidates → wides.Is none [] → wides.Is all (replicate n true)
    → wides.Is edges (replicate m true)
    → Walked tables m (record { state = record { taken = none; undecided = all }; changed = edges; edge = 0 }) limit
    (record { work = 0; found = 0; ended = 0 }) out₀ r out
    → Searched tables m n limit out₀ r out
unfolding search solids_after
searched {n = n} {edges = edges} {out₀ = out₀} few i j k w = record {
  roomy = w.roomy;
  same = λ t lent.
      let masks = t.masks in
      w.same n t (replicate n Undecided) (replicate (length masks) true) 0 (suc n) lent (length-replicate n Undecided)
      (record {
        holds = holds-all few i j;
        marked_is = subst (λ (k : ℕ). wides.Is edges (replicate k true)) (sym lent.masks_are) k;
        edge_is = refl;
      })
      (call_first masks (replicate n Undecided)) (omega (arith, open_blank n)) nothing out₀
      (record {
        counts = record { work_is = refl; found_is = refl; ended_is = refl };
        words_are = after_none (words t) solid_words out₀;
      });
}
