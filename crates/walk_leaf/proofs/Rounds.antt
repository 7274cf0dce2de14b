-- All edges of a face, and face by face until none waits: what is left to do gives the whole answer. Each face is gone round once, since
-- no more wait than are reached anew.
use mathlib.Core.Bool.{Bool, true}
use mathlib.Core.List.{List, []}
use mathlib.Core.Path.{◌≡◌, refl, sym, ap, ◌∙◌, subst}
use Prim.Native.Nat.{ℕ, ◌+◌, ◌-◌, ◌≤◌, ◌<◌}
use native.Mathlib.Omega.{arith}
use lib.ListN.{length, get_or}
use Rattle.sets.specs.Word.{dig, count, first, only}
use Rattle.sets.specs.Kinds.{First, SetAt}
use Rattle.sets.specs.Sets.{wides, Wide}
use Rattle.sets.proofs.Digits.{first-lt}
use Rattle.sets.proofs.Sets.{wides_laws}
use Rattle.paper.specs.Numbers.{most_candidates}
use Rattle.sets.proofs.Laws.{size_room}
use Rattle.fast_sweeps.specs.Worklist.{without_lowest, edges_with}
use Rattle.fast_sweeps.proofs.Marks.{length_after, length_sides}
use Rattle.fast_leaf.specs.Faces.{at_edge, around_face, at_face, go_on, to_go, alone, from_face}
use Rattle.fast_leaf.specs.Faces as Lists
use Rattle.fast_leaf.proofs.Around.{around-none, around_more, on_none, rest_more, rest_start}
use Rattle.walk_tables.specs.Words.{Masks, Sides}
use Rattle.walk_state.proofs.Lowest.{drops, some_in, none_in}
use Rattle.walk_leaf.specs.Faces.{GoingIs, Edges, Grows, AtEdge, AroundFace, FromFace}
use Rattle.walk_leaf.specs.declared.faces.Going.{Going}

-- ---- a mask by its place

pub mask_at : {words : List ℕ} {masks : List (List Bool)} → Masks words masks → {e : ℕ} {x : Wide} → SetAt wides words e x → {k : ℕ} → e ≡ k
    → k < length masks → wides.Is x (get_or masks k [])
mask_at {words} {masks} i {e} {x} edge {k} p h =
    subst (λ (y : Wide). wides.Is y (get_or masks k [])) (sym (edge.is ∙ ap (λ (j : ℕ). wides.at words j) p)) (i.at k h)

pub lowest_in : {x : Wide} {a : List Bool} {n : ℕ} → wides.Is x a → 0 < wides.size x → length a ≤ n → first a < n
lowest_in {x} {a} i p h = omega (arith, first-lt a (some_in wides_laws i p))

-- ---- all edges of a face

grows_on : {g h r : Going} → Grows g h → Grows h r → Grows g r
grows_on a b = record { few = b.few; anew = omega (arith, a.anew, b.anew) }

pub record Turning (masks ups : List (List Bool)) (t : List Bool) (f : ℕ) (l : List Bool) (s : Lists.Going) (g : Going) (left : Wide)
    : Type 0 where
  pub rest : List Bool
  pub now : Lists.Going
  pub short : length rest ≤ length masks
  pub left_is : wides.Is left rest
  pub going_is : GoingIs g now
  pub whole : around_face (count l) masks ups t f l s ≡ around_face (count rest) masks ups t f rest now

pub record Around (on up : List ℕ) (taken : Wide) (f : ℕ) (g₀ : Going) (edges : Wide) (g : Going) (left : Wide) : Type 0 where
  pub grows : Grows g₀ g
  pub same : (masks ups : List (List Bool)) (t l : List Bool) (s : Lists.Going) → Edges on up masks ups → length l ≤ length masks
      → wides.Is taken t → wides.Is edges l → GoingIs g₀ s → Turning masks ups t f l s g left

module _ (on up : List ℕ) (taken : Wide) (f : ℕ) (g₀ : Going) (edges : Wide) where
  pub around-start : wides.size g₀.reached ≤ most_candidates → Around on up taken f g₀ edges g₀ edges
  around-start h = record {
    grows = record { few = h; anew = omega arith };
    same = λ masks ups t l s e p i j v.
        record { rest = l; now = s; short = p; left_is = j; going_is = v; whole = refl };
  }

  module _ {g : Going} {left : Wide} (a : Around on up taken f g₀ edges g left) where
    pub around-next : {e : ℕ} {left' : Wide} → First wides left left' e → {mask other : Wide} → SetAt wides on e mask
        → SetAt wides up e other → {r : Going} → AtEdge mask other taken f g r → Around on up taken f g₀ edges r left'
    around-next {e} p eo eu st = record {
      grows = grows_on a.grows st.grows;
      same = λ masks ups t l s q h i j v.
          let w = a.same masks ups t l s q h i j v in
          let k : ℕ = first w.rest in
          let m : k < length masks = lowest_in w.left_is p.some w.short in
          let n : k < length ups = omega (arith, q.as_many) in
          let c : e ≡ k = p.lowest.same w.rest w.left_is in
          record {
            rest = without_lowest w.rest;
            now = at_edge (get_or masks k []) (get_or ups k []) t f w.now;
            short = omega (arith, length_after w.rest, w.short);
            left_is = drops p.lowest p.dropped w.rest w.left_is;
            going_is =
                st.same (get_or masks k []) (get_or ups k []) t w.now (mask_at q.on_are eo c m) (mask_at q.up_are eu c n) i
                w.going_is;
            whole = w.whole ∙ around_more masks ups t f w.rest w.now (some_in wides_laws w.left_is p.some);
          };
    }

    pub around-end : wides.size left ≡ 0 → AroundFace on up edges taken f g₀ g
    around-end z = record {
      grows = a.grows;
      same = λ masks ups t l s q h i j v.
          let w = a.same masks ups t l s q h i j v in
          let e = w.whole ∙ around-none masks ups t f w.rest w.now (none_in wides_laws w.left_is z) in
          subst (GoingIs g) (sym e) w.going_is;
    }

-- ---- face by face

pub record Round (masks ups : List (List Bool)) (t : List Bool) (start : ℕ) (g : Going) : Type 0 where
  pub now : Lists.Going
  pub going_is : GoingIs g now
  pub whole : go_on (to_go t now) masks ups t now ≡ from_face masks ups t start

pub record Rounds (on up sides : List ℕ) (taken : Wide) (start : ℕ) (g : Going) : Type 0 where
  pub few : wides.size g.reached ≤ most_candidates
  pub same : (masks ups : List (List Bool)) (t : List Bool) → Edges on up masks ups → Sides sides masks → wides.Is taken t
      → dig t start ≡ true → Round masks ups t start g

-- those not yet reached, and those that wait
abbrev pub togo : Going → ℕ
togo g = (most_candidates - wides.size g.reached) + wides.size g.waiting

module _ (on up sides : List ℕ) (taken : Wide) (start : ℕ) where
  pub rounds-start : {one none : Wide} → wides.Is one (only start) → wides.Is none []
      → Rounds on up sides taken start (record { reached = one; waiting = one; turned = none })
  rounds-start i n = record {
    few = size_room wides_laws i;
    same = λ masks ups t q s j h.
        record {
          now = alone start;
          going_is = record { reached_is = i; waiting_is = i; turned_is = n };
          whole = rest_start masks ups t start h;
        };
  }

  module _ {g : Going} (a : Rounds on up sides taken start g) where
    module _ {f : ℕ} {waiting : Wide} (p : First wides g.waiting waiting f) {edges : Wide} (e : SetAt wides sides f edges) {r : Going}
        (b : AroundFace on up edges taken f (record { reached = g.reached; waiting = waiting; turned = g.turned }) r) where
      pub rounds-less : togo r < togo g
      rounds-less = omega (arith, a.few, b.grows.few, b.grows.anew, p.rest.one_fewer)

      next : {masks ups : List (List Bool)} {t : List Bool} → Edges on up masks ups → Sides sides masks → wides.Is taken t
          → Round masks ups t start g
          → Round masks ups t start r
      unfolding at_face
      next {masks} {ups} {t} q s i w =
          let v = w.going_is in
          let k : ℕ = first w.now.waiting in
          let c : f ≡ k = p.lowest.same w.now.waiting v.waiting_is in
          let l : List Bool = edges_with masks f in
          let h : wides.Is edges l = subst (λ (y : Wide). wides.Is y l) (sym e.is) (s.at f p.lowest.narrow) in
          let o : Lists.Going = record { reached = w.now.reached; waiting = without_lowest w.now.waiting; turned = w.now.turned } in
          let u : GoingIs r (around_face (count l) masks ups t f l o)
          = b.same masks ups t l o q (omega (arith, length_sides masks f)) i h
          (record {
            reached_is = v.reached_is;
            waiting_is = drops p.lowest p.dropped w.now.waiting v.waiting_is;
            turned_is = v.turned_is;
          }) in
          record {
            now = at_face masks ups t w.now;
            going_is =
                subst (λ (j : ℕ). GoingIs r (around_face (count (edges_with masks j)) masks ups t j (edges_with masks j) o)) c u;
            whole = sym (rest_more masks ups t w.now (some_in wides_laws v.waiting_is p.some)) ∙ w.whole;
          }

      pub rounds-next : Rounds on up sides taken start r
      rounds-next = record { few = b.grows.few; same = λ masks ups t q s i h. next q s i (a.same masks ups t q s i h) }

    -- none waits: the code has what it had
    pub rounds-end : wides.size g.waiting ≡ 0 → {waiting : Wide} → waiting ≡ g.waiting
        → FromFace on up sides taken start (record g { waiting = waiting })
    rounds-end z e masks ups t q s i h =
        let w = a.same masks ups t q s i h in
        let n = sym w.whole ∙ on_none masks ups t (to_go t w.now) w.now (none_in wides_laws w.going_is.waiting_is z) in
        rw (e, n) w.going_is
