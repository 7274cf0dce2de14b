-- 25 and 27 of one face of the list: the code's test of its number is the definition's.
use mathlib.Core.Bool.{Bool, true, not}
use mathlib.Core.List.{List, []}
use mathlib.Core.Path.{◌≡◌, sym, ap, ◌∙◌, subst}
use Prim.Native.Nat.{ℕ, ◌≤◌, ◌<◌}
use native.Mathlib.Omega.{arith}
use lib.Dec.{eqb}
use lib.ListN.{length, get_or, take}
use lib.Seq.{get_or-take, length-take-le}
use Rattle.lists.specs.Lists.{lowest}
use Rattle.sets.specs.Word.{dig, count, both}
use Rattle.sets.specs.Kinds.{Joint, SetAt}
use Rattle.sets.specs.Sets.{wides, Wide}
use Rattle.sets.proofs.Sets.{wides_laws}
use Rattle.sets.proofs.Ones.{dig_lt}
use Rattle.paper.specs.Solids.{Tables, faces_from}
use Rattle.paper.specs.Verdict as Paper
use Rattle.paper.specs.Verdict.{Listed}
use Rattle.means_leaf.proofs.Each.{counted_two}
use Rattle.fast_leaf.specs.Faces.{from_face}
use Rattle.fast_leaf.proofs.Around.{same_reached}
use Rattle.walk_leaf.specs.Faces.{FromFace}
use Rattle.walk_leaf.specs.declared.faces.Going.{Going}
use Rattle.walk_leaf.proofs.Rounds.{mask_at}
use Rattle.verdict_tests.specs.Tests.{pieces_of, clash_of, Joining, Clashing}
use Rattle.verdict_tests.proofs.Searching.{Offends, Finds}

-- ---- the tests, as the definitions ask them

abbrev pub unjoined : Tables → Listed → ℕ → Bool
unjoined t l i = not (dig (faces_from (get_or l.numbers 0 0) t l.taken).reached (get_or l.numbers i 0))

abbrev pub clashing : Tables → Listed → ℕ → Bool
clashing t l i = not (eqb (count (both (get_or t.clashes (get_or l.numbers i 0) []) l.taken)) 0)

-- ---- the list's numbers are the code's

module _ (numbers : List ℕ) (n : ℕ) (fits : n ≤ length numbers) {ks : List ℕ} (e : ks ≡ take n numbers) where
  faces-count : length ks ≡ n
  faces-count = ap length e ∙ length-take-le n numbers fits

  number_at : (i : ℕ) → i < n → get_or ks i 0 ≡ get_or numbers i 0
  number_at i h = ap (λ (x : List ℕ). get_or x i 0) e ∙ get_or-take n numbers i 0 h

-- ---- 25: the set has the digits of what the definition's passes reach

pub record Reaching (numbers : List ℕ) (n : ℕ) (reached : Wide) (t : Tables) (l : Listed) : Type 0 where
  pub numbers_are : l.numbers ≡ take n numbers
  pub digits : List Bool
  pub reached_is : wides.Is reached digits
  pub same : (k : ℕ) → dig digits k ≡ dig (faces_from (get_or l.numbers 0 0) t l.taken).reached k

module _ (numbers : List ℕ) (n : ℕ) (fits : n ≤ length numbers) where
  -- the faces gone round from face 0 are those
  pub reaches : {on up sides : List ℕ} {taken : Wide} {g : Going} → 0 < n → FromFace on up sides taken (get_or numbers 0 0) g
      → (t : Tables) (l : Listed) → Joining on up sides numbers n taken t l → Reaching numbers n g.reached t l
  unfolding faces_from
  reaches {on} {up} {sides} {taken} {g} z f t l w =
      let v = w.faces_are in
      let start : ℕ = get_or l.numbers 0 0 in
      let here : dig l.taken start ≡ true = v.each 0 (omega (arith, faces-count numbers n fits v.numbers_are)) in
      let go = subst (λ (k : ℕ). FromFace on up sides taken k g) (sym (number_at numbers n fits v.numbers_are 0 z)) f in
      record {
        numbers_are = v.numbers_are;
        digits = (from_face t.masks t.ups l.taken start).reached;
        reached_is = (go t.masks t.ups l.taken w.edges_are w.sides_are v.taken_is here).reached_is;
        same =
            same_reached t.masks t.ups l.taken start (sym w.edges_are.as_many) (counted_two l.taken t w.two) here;
      }

  module _ (reached : Wide) where
    pub finds_25 : Finds (Reaching numbers n reached) unjoined n pieces_of
    unfolding Paper.pieces
    finds_25 t l w = ap (lowest (unjoined t l)) (faces-count numbers n fits w.numbers_are)

    pub joined_at : (i : ℕ) → i < n → {k : ℕ} → k ≡ get_or numbers i 0 → {b : Bool} → ((a : List Bool) → wides.Is reached a → b ≡ dig a k)
        → {r : Bool} → not b ≡ r → Offends (Reaching numbers n reached) unjoined i r
    joined_at i h e s q t l w =
        let d = (faces_from (get_or l.numbers 0 0) t l.taken).reached in
        ap not (ap (dig d) (number_at numbers n fits w.numbers_are i h ∙ sym e) ∙ sym (s w.digits w.reached_is ∙ w.same _)) ∙ q

-- ---- 27

module _ (clashes numbers : List ℕ) (n : ℕ) (taken : Wide) (fits : n ≤ length numbers) where
  pub finds_27 : Finds (Clashing clashes numbers n taken) clashing n clash_of
  unfolding Paper.clashes
  finds_27 t l w = ap (lowest (clashing t l)) (faces-count numbers n fits w.faces_are.numbers_are)

  module _ (i : ℕ) (h : i < n) {k : ℕ} (e : k ≡ get_or numbers i 0) {mask mine : Wide} (o : SetAt wides clashes k mask)
      (j : Joint wides mask taken mine both) {b : Bool} (s : b ≡ eqb (wides.size mine) 0) where
    pub clash-at : {r : Bool} → not b ≡ r → Offends (Clashing clashes numbers n taken) clashing i r
    clash-at q t l w =
        let v = w.faces_are in
        let m : ℕ = get_or l.numbers i 0 in
        let here : dig l.taken m ≡ true = v.each i (omega (arith, faces-count numbers n fits v.numbers_are)) in
        let c : k ≡ m = e ∙ sym (number_at numbers n fits v.numbers_are i h) in
        let p : m < length t.clashes = omega (arith, dig_lt l.taken m here, w.in_clashes) in
        ap not (sym (s ∙ ap (λ (x : ℕ). eqb x 0)
        (wides_laws.size_is (j (get_or t.clashes m []) l.taken (mask_at w.clashes_are o c p) v.taken_is)))) ∙ q
