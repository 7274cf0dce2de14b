-- (iii): one alone, an edge run once each way, and all edges in order.
use mathlib.Core.Bool.{Bool, true, false, ◌&&◌, cond}
use mathlib.Core.List.{List, []}
use mathlib.Core.Path.{◌≡◌, refl, sym, ap, ap₂, ◌∙◌}
use Prim.Native.Nat.{ℕ, zero, suc, ◌+◌, ◌≤◌, ◌<◌}
use native.Mathlib.Omega.{arith}
use lib.Dec.{eqb}
use lib.ListN.{length, get_or, drop, drop_of_length-le}
use borrow.Author.Tests.{eq-eqb, ne_eqb}
use Rattle.lists.proofs.Places.{drop_more}
use Rattle.sets.specs.Word.{count, both, less}
use Rattle.sets.specs.Kinds.{Joint, Minus, Lowest, Dropped, SetAt}
use Rattle.sets.specs.Sets.{wides, Wide}
use Rattle.sets.proofs.Sets.{wides_laws}
use Rattle.paper.specs.Solids.{unlike, once_each_way, oriented}
use Rattle.walk_state.proofs.Lowest.{drop-one}
use Rattle.walk_leaf.specs.Faces.{Edges}
use Rattle.walk_leaf.specs.Tests.{WayIs, OrientedIs}
use Rattle.walk_leaf.proofs.Rounds.{mask_at}

-- ---- one alone

pub one_none : (x : Wide) → wides.size x ≡ 0 → false ≡ eqb (wides.size x) 1
one_none x z = sym (ne_eqb (wides.size x) 1 (λ e. omega (arith, z, e)))

same-one : (m n : ℕ) → suc m ≡ n → eqb m 0 ≡ eqb n 1
same-one zero n e = sym (eq-eqb n 1 (omega arith))
same-one (suc m) n e = ne_eqb (suc m) 0 (λ z. omega (arith, z)) ∙ sym (ne_eqb n 1 (λ z. omega (arith, z)))

pub one_some : {x y : Wide} {k : ℕ} → wides_laws.Fits x → Lowest wides x k → Dropped wides x k y → {b : Bool} → b ≡ eqb (wides.size y) 0
    → b ≡ eqb (wides.size x) 1
one_some {x} {y} {k} h low d e = e ∙ same-one (wides.size y) (wides.size x) (drop-one wides_laws k h low.there d)

-- ---- an edge

module _ (mask up taken turned : Wide) {mine runs ours : Wide} (jm : Joint wides mask taken mine both)
    (ju : Joint wides up turned runs unlike)
    (jo : Joint wides mine runs ours both) {b : Bool} (e : b ≡ eqb (wides.size ours) 1) where
  ups : (m u t s : List Bool) → wides.Is mask m → wides.Is up u → wides.Is taken t → wides.Is turned s
      → eqb (count (both (both m t) (unlike u s))) 1 ≡ b
  ups m u t s i j k l = sym (e ∙ ap (λ (n : ℕ). eqb n 1) (wides_laws.size_is (jo (both m t) (unlike u s) (jm m t i k) (ju u s j l))))

  pub way_not : b ≡ false → WayIs mask up taken turned false
  unfolding once_each_way
  way_not f m u t s i j k l =
      sym (ap (λ (x : Bool). x && eqb (count (less (both m t) (unlike u s))) 1) (ups m u t s i j k l ∙ f))

  pub way_once : b ≡ true → {theirs : Wide} → Minus wides mine runs theirs → {r : Bool} → r ≡ eqb (wides.size theirs) 1
      → WayIs mask up taken turned r
  unfolding once_each_way
  way_once f d {r} q m u t s i j k l =
      sym (ap₂ (λ (x y : Bool). x && y) (ups m u t s i j k l ∙ f)
      (sym (q ∙ ap (λ (n : ℕ). eqb n 1) (wides_laws.size_is (d.same (both m t) (unlike u s) (jm m t i k) (ju u s j l))))))

-- ---- all edges: what is left is the whole answer

abbrev pub Asking : List ℕ → List ℕ → ℕ → Wide → Wide → ℕ → Type 0
Asking on up m taken turned e =
    (masks ups : List (List Bool)) (t s : List Bool) → Edges on up masks ups → length masks ≡ m → wides.Is taken t → wides.Is turned s
    → oriented masks ups t s ≡ oriented (drop e masks) (drop e ups) t s

module _ (on up : List ℕ) (m : ℕ) (taken turned : Wide) (e : ℕ) (a : Asking on up m taken turned e) where
  module _ (h : e < m) {mask other : Wide} (eo : SetAt wides on e mask) (eu : SetAt wides up e other) {b : Bool}
      (c : WayIs mask other taken turned b) where
    here : (masks ups : List (List Bool)) (t s : List Bool) → Edges on up masks ups → length masks ≡ m → wides.Is taken t
        → wides.Is turned s
        → oriented masks ups t s ≡ cond b (oriented (drop (e + 1) masks) (drop (e + 1) ups) t s) false
    unfolding oriented
    here masks ups t s q l i j =
        let low : e < length masks = omega arith in
        let low_up : e < length ups = omega (arith, q.as_many) in
        let o : once_each_way (get_or masks e []) (get_or ups e []) t s ≡ b
        = sym (c (get_or masks e []) (get_or ups e []) t s (mask_at q.on_are eo refl low) (mask_at q.up_are eu refl low_up) i j) in
        a masks ups t s q l i j
        ∙ ap₂ (λ (x y : List (List Bool)). oriented x y t s) (drop_more masks e [] low) (drop_more ups e [] low_up)
        ∙ ap (λ (x : Bool). cond x (oriented (drop (e + 1) masks) (drop (e + 1) ups) t s) false) o

    pub asking_next : b ≡ true → Asking on up m taken turned (e + 1)
    asking_next f masks ups t s q l i j =
        here masks ups t s q l i j ∙ ap (λ (x : Bool). cond x (oriented (drop (e + 1) masks) (drop (e + 1) ups) t s) false) f

    pub asking_not : b ≡ false → OrientedIs on up m taken turned false
    asking_not f masks ups t s q l i j =
        sym (here masks ups t s q l i j ∙ ap (λ (x : Bool). cond x (oriented (drop (e + 1) masks) (drop (e + 1) ups) t s) false) f)

  pub asking_end : e ≡ m → OrientedIs on up m taken turned true
  unfolding oriented
  asking_end h masks ups t s q l i j =
      let past : length masks ≤ e = omega arith in
      sym (a masks ups t s q l i j ∙ ap (λ (x : List (List Bool)). oriented x (drop e ups) t s) (drop_of_length-le masks past))
