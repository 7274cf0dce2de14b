-- The edges of all candidates of a set, gathered from the lowest on.
use mathlib.Core.Bool.{Bool, false}
use mathlib.Core.List.{List, []}
use mathlib.Core.Path.{◌≡◌, sym, subst}
use Prim.Native.Nat.{ℕ}
use lib.ListN.{length, replicate}
use Rattle.sets.specs.Word.{first, either}
use Rattle.sets.specs.Kinds.{Joint, First, SetAt}
use Rattle.sets.specs.Sets.{wides, Wide}
use Rattle.sets.proofs.Laws.{none-all}
use Rattle.sets.proofs.Sets.{wides_laws}
use Rattle.fast_sweeps.specs.Worklist.{without_lowest, edges_with}
use Rattle.fast_sweeps.proofs.Marks.{Gathers, gather_start, gather_more, gather_end}
use Rattle.walk_tables.specs.Words.{Sides}
use Rattle.walk_state.specs.Sweeps.{Gathered}
use Rattle.walk_state.proofs.Lowest.{drops, some_in, none_in}

-- ---- the loop: `all` has the edges of the candidates gone through, `left` are those to come

pub record Between (masks : List (List Bool)) (d : List Bool) (all left : Wide) : Type 0 where
  pub found : List Bool
  pub rest : List Bool
  pub all_is : wides.Is all found
  pub left_is : wides.Is left rest
  pub gathers : Gathers masks d found rest

abbrev pub Gathering : List ℕ → Wide → Wide → Wide → Type 0
Gathering sides set all left = (masks : List (List Bool)) (d : List Bool) → Sides sides masks → wides.Is set d → Between masks d all left

module _ (sides : List ℕ) (set : Wide) where
  pub gathering_start : {none : Wide} → wides.Is none [] → Gathering sides set none set
  gathering_start n masks d s i = record {
    found = replicate (length masks) false;
    rest = d;
    all_is = none-all wides_laws (length masks) s.few n;
    left_is = i;
    gathers = gather_start masks d;
  }

  module _ {all left : Wide} (g : Gathering sides set all left) where
    pub gathering_more : {k : ℕ} {left' : Wide} → First wides left left' k → {e : Wide} → SetAt wides sides k e → {all' : Wide}
        → Joint wides all e all' either → Gathering sides set all' left'
    gathering_more {k} p {e} edge j masks d s i =
        let b = g masks d s i in
        let f = first b.rest in
        let h : wides.Is (wides.at sides k) (edges_with masks f)
        = subst (λ (n : ℕ). wides.Is (wides.at sides k) (edges_with masks n)) (p.lowest.same b.rest b.left_is) (s.at k p.lowest.narrow) in
        let w : wides.Is e (edges_with masks f) = subst (λ (x : Wide). wides.Is x (edges_with masks f)) (sym edge.is) h in
        record {
          found = either b.found (edges_with masks f);
          rest = without_lowest b.rest;
          all_is = j b.found (edges_with masks f) b.all_is w;
          left_is = drops p.lowest p.dropped b.rest b.left_is;
          gathers = gather_more masks d b.found b.rest (some_in wides_laws b.left_is p.some) b.gathers;
        }

    pub gathering_end : wides.size left ≡ 0 → Gathered sides set all
    gathering_end z masks d s i =
        let b = g masks d s i in
        subst (wides.Is all) (gather_end masks d b.found b.rest (none_in wides_laws b.left_is z) b.gathers) b.all_is
