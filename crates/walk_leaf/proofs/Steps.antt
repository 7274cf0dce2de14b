-- One edge of a face: who is reached, waits and is turned after it.
use mathlib.Core.Bool.{Bool, true, false, cond, xor}
use mathlib.Core.List.{List, [], ◌∷◌}
use mathlib.Core.Path.{◌≡◌, sym, ap, ap₂, ◌∙◌, subst}
use Prim.Native.Nat.{ℕ, ◌+◌, ◌<◌}
use native.Mathlib.Omega.{arith}
use lib.Dec.{eqb}
use borrow.Author.Tests.{eq-eqb}
use Rattle.sets.specs.Word.{count, both, either, less, only}
use Rattle.sets.specs.Kinds.{Joint, Dropped}
use Rattle.sets.specs.Sets.{wides, Wide}
use Rattle.sets.proofs.Laws.{size_room, fits-room}
use Rattle.sets.proofs.Sets.{wides_laws}
use Rattle.paper.specs.Solids.{unlike}
use Rattle.fast_leaf.specs.Faces.{others, unlike_ways, at_edge}
use Rattle.fast_leaf.proofs.Edge.{edge_not}
use Rattle.walk_state.proofs.Lowest.{some_in, none_in}
use Rattle.walk_leaf.specs.Faces.{GoingIs, Grows, TurnedAt, AtEdge}
use Rattle.walk_leaf.specs.declared.faces.Going.{Going}

-- ---- what is in one and not in the other, as the code takes it

pub runs-unlike : {x y r : Wide} → Joint wides x y r (λ a b. either (less a b) (less b a)) → Joint wides x y r unlike
unfolding unlike
runs-unlike j = j

-- ---- how many

count_or : (a b : List Bool) → count (either a b) + count (both a b) ≡ count a + count b
unfolding count either both
count_or [] b = omega arith
count_or (x ∷ a) [] = omega arith
count_or (true ∷ a) (true ∷ b) = omega (arith, count_or a b)
count_or (true ∷ a) (false ∷ b) = omega (arith, count_or a b)
count_or (false ∷ a) (true ∷ b) = omega (arith, count_or a b)
count_or (false ∷ a) (false ∷ b) = omega (arith, count_or a b)

-- ---- those turned

module _ (up turned : Wide) (f : ℕ) (other : Wide) {runs face low high : Wide} (ju : Joint wides up turned runs unlike)
    (jf : wides.Is face (only f))
    (ja : Joint wides face runs low both) (jb : Joint wides other runs high both) {down other-down : Bool}
    (ed : down ≡ eqb (wides.size low) 0)
    (eo : other-down ≡ eqb (wides.size high) 0) where
  ways : (u s o : List Bool) → wides.Is up u → wides.Is turned s → wides.Is other o → unlike_ways (unlike u s) f o ≡ xor down other-down
  ways u s o i j k =
      let r = ju u s i j in
      sym (ap₂ (λ (x y : Bool). xor x y) (ed ∙ ap (λ (n : ℕ). eqb n 0) (wides_laws.size_is (ja (only f) (unlike u s) jf r)))
      (eo ∙ ap (λ (n : ℕ). eqb n 0) (wides_laws.size_is (jb o (unlike u s) k r))))

  pub turned_stays : xor down other-down ≡ true → TurnedAt up turned f other turned
  turned_stays e u s o i j k = subst (λ (b : Bool). wides.Is turned (cond b s (either s o))) (sym (ways u s o i j k ∙ e)) j

  pub turned_more : xor down other-down ≡ false → {r : Wide} → Joint wides turned other r either → TurnedAt up turned f other r
  turned_more e {r} w u s o i j k = subst (λ (b : Bool). wides.Is r (cond b s (either s o))) (sym (ways u s o i j k ∙ e)) (w s o j k)

-- ---- the edge

module _ (mask up taken : Wide) (f : ℕ) (g : Going) {mine other met : Wide} (jm : Joint wides mask taken mine both)
    (d : Dropped wides mine f other)
    (jr : Joint wides g.reached other met both) where
  other_is : (m t : List Bool) → wides.Is mask m → wides.Is taken t → wides.Is other (others m t f)
  other_is m t i j = d.same (both m t) (jm m t i j)

  pub edge_stays : wides_laws.Fits g.reached → 0 < wides.size met → AtEdge mask up taken f g g
  edge_stays h p = record {
    grows = record { few = fits-room wides_laws g.reached h; anew = omega arith };
    same = λ m u t s i j k v.
        let n = some_in wides_laws (jr s.reached (others m t f) v.reached_is (other_is m t i k)) p in
        subst (GoingIs g) (sym (edge_not m u t f s n)) v;
  }

  module _ (z : wides.size met ≡ 0) {r w x : Wide} (ar : Joint wides g.reached other r either)
      (aw : Joint wides g.waiting other w either)
      (ax : TurnedAt up g.turned f other x) where
    grown : wides_laws.Fits mask → wides_laws.Fits taken → wides_laws.Fits g.reached → wides_laws.Fits g.waiting
        → Grows g (record { reached = r; waiting = w; turned = x })
    grown hm ht hr hw =
        let o = others (wides_laws.digits_of mask) (wides_laws.digits_of taken) f in
        let io = other_is (wides_laws.digits_of mask) (wides_laws.digits_of taken) (wides_laws.is_digits mask hm)
        (wides_laws.is_digits taken ht) in
        let a = wides_laws.digits_of g.reached in
        let ia = wides_laws.is_digits g.reached hr in
        let b = wides_laws.digits_of g.waiting in
        let ib = wides_laws.is_digits g.waiting hw in
        let n : count (both a o) ≡ 0 = none_in wides_laws (jr a o ia io) z in
        record {
          few = size_room wides_laws (ar a o ia io);
          anew = omega (
            arith,
            wides_laws.size_is ia,
            wides_laws.size_is ib,
            wides_laws.size_is (ar a o ia io),
            wides_laws.size_is
                (aw b o ib io),
            count_or a o,
            count_or b o,
          );
        }

    pub edge_goes : wides_laws.Fits mask → wides_laws.Fits taken → wides_laws.Fits g.reached → wides_laws.Fits g.waiting
        → AtEdge mask up taken f g (record { reached = r; waiting = w; turned = x })
    unfolding at_edge
    edge_goes hm ht hr hw = record {
      grows = grown hm ht hr hw;
      same = λ m u t s i j k v.
          let io = other_is m t i k in
          let n : count (both s.reached (others m t f)) ≡ 0 = none_in wides_laws (jr s.reached (others m t f) v.reached_is io) z in
          rw (eq-eqb (count (both s.reached (others m t f))) 0 n)
          (record {
            reached_is = ar s.reached (others m t f) v.reached_is io;
            waiting_is = aw s.waiting (others m t f) v.waiting_is io;
            turned_is = ax u s.turned (others m t f) j v.turned_is io;
          });
    }
