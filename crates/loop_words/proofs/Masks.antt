-- The masks of a loop's corners and sides have the numbers that the code gathers from its row.
use mathlib.Core.Path.{◌≡◌, refl, sym, ap, ◌∙◌}
use mathlib.Core.Bool.{true, false}
use mathlib.Core.Logic.{◌⊎◌, inl, inr}
use mathlib.Core.List.{List, map}
use Prim.Native.Nat.{ℕ, zero, suc, ◌+◌, ◌-◌, ◌<◌}
use native.Mathlib.Decide.{ℕ_discrete}
use native.Mathlib.Omega.{arith}
use borrow.Author.Tests.{eq-eqb, eqb-true}
use lib.Dec.{eqb}
use lib.ListN.{length, get_or, length-map}
use Rattle.lists.specs.Lists.{any, upto, member}
use Rattle.lists.specs.Around.{wrap, around}
use Rattle.lists.proofs.Places.{map_at, made_at, upto_length, upto-at}
use Rattle.lists.proofs.Passing.{any_yes, some_yes, some_is}
use Rattle.lists.proofs.Sides.{wrap_high, around_low}
use Rattle.sets.specs.Word.{dig}
use Rattle.lists.proofs.Truth.{same_truth}
use Rattle.paper.specs.Drawing.{Wire, Edge, edge, joins, joined}
use Rattle.paper.specs.Loops.{Loop}
use Rattle.paper.specs.Solids.{runs, has}
use Rattle.fast_tables.specs.Paths.{Path}
use Rattle.fast_tables.specs.Hits.{corner_mask, side_mask}
use Rattle.fast_tables.proofs.Rounds.{member_yes, member_is, runs_yes, runs_is, has_cases, has_up, has_down, joins_cases}
use Rattle.fast_tables.proofs.Counts.{map_yes}
use Rattle.loop_words.specs.Numbered.{pair_at, EdgesNumbered}

-- the place before j in a ring of n
abbrev pub prior : ℕ → ℕ → ℕ
prior n zero = n - 1
prior n (suc j) = j

-- the number of the side to corner j
abbrev pub side_number : List ℕ → Loop → ℕ → ℕ
side_number number l j = get_or number (pair_at (get_or l (prior (length l) j) 0) (get_or l j 0)) 0

-- as many digits as there are vertices, and as there are edges
pub corners_long : (d : Wire) (l : Loop) → length (corner_mask d l) ≡ length d.vertices
unfolding corner_mask
corners_long d l = length-map (upto (length d.vertices)) (λ v. member v l) ∙ upto_length (length d.vertices)

pub sides_long : (d : Wire) (l : Loop) → length (side_mask d l) ≡ length d.edges
unfolding side_mask
sides_long d l = length-map d.edges (λ e. has e l)

module _ (d : Wire) (l : Loop) (path : Path d l) where
  abbrev n : ℕ
  n = length l

  abbrev count : ℕ
  count = length d.vertices

  pub corners_are : (v : ℕ) → dig (corner_mask d l) v ≡ any (λ j. eqb v (get_or l j 0)) (upto n)
  unfolding corner_mask
  corners_are v = same_truth _ _ forth back
    where
      forth : dig (map (λ v. member v l) (upto count)) v ≡ true → any (λ j. eqb v (get_or l j 0)) (upto n) ≡ true
      forth t =
          let r = map_yes (λ v. member v l) 0 (upto count) v t in
          let h : v < count = omega (arith, r.0, upto_length count) in
          let m = member_yes v l (ap (λ (x : ℕ). member x l) (sym (upto-at count v h)) ∙ r.1) in
          some_is (λ j. eqb v (get_or l j 0)) n m.0 m.1 (eq-eqb v (get_or l m.0 0) (sym m.2))

      back : any (λ j. eqb v (get_or l j 0)) (upto n) ≡ true → dig (map (λ v. member v l) (upto count)) v ≡ true
      back t =
          let r = some_yes (λ j. eqb v (get_or l j 0)) n t in
          let e : v ≡ get_or l r.0 0 = eqb-true v (get_or l r.0 0) r.2 in
          made_at (λ v. member v l) count v false (omega (arith, e, path.below r.0 r.1)) ∙ member_is v l r.0 r.1 (sym e)

  -- ---- the side to corner j goes from the place before
  pub prior_low : (j : ℕ) → j < n → prior n j < n
  prior_low zero h = omega arith
  prior_low (suc j) h = omega arith

  pub after_prior : (j : ℕ) → j < n → around l (prior n j + 1) 0 ≡ get_or l j 0
  unfolding around
  after_prior zero h =
      let s : wrap n (n - 1 + 1) ≡ 0 = omega (arith, wrap_high n (n - 1 + 1) (omega arith)) in
      ap (λ (i : ℕ). get_or l i 0) s
  after_prior (suc j) h =
      let s : j + 1 ≡ suc j = omega arith in
      ap (λ (i : ℕ). around l i 0) s ∙ around_low l (suc j) 0 h

  -- and each side goes to some corner
  pub after_is : (k : ℕ) → k < n → (j : ℕ) × (j < n) × (prior n j ≡ k)
  after_is k h = go (ℕ_discrete (suc k) n)
    where
      go : Dec (suc k ≡ n) → (j : ℕ) × (j < n) × (prior n j ≡ k)
      go (yes e) = (0, omega arith, omega arith)
      go (no e) = (suc k, omega arith, refl)

  module _ (number : List ℕ) (numbered : EdgesNumbered number d.edges) where
    -- the number of an edge that joins a and b
    number_is : (e a b : ℕ) → e < length d.edges → joins a b (get_or d.edges e (edge 0 0)) ≡ true → get_or number (pair_at a b) 0 ≡ e
    number_is e a b h t = go (joins_cases a b (get_or d.edges e (edge 0 0)) t)
      where
        go : (get_or d.edges e (edge 0 0) ≡ edge a b) ⊎ (get_or d.edges e (edge 0 0) ≡ edge b a) → get_or number (pair_at a b) 0 ≡ e
        go (inl q) = numbered.up e a b h q
        go (inr q) = numbered.down e b a h q

    -- the edge of the side to corner j
    pub side_edge : (j : ℕ) → j < n
        → (f : ℕ) × (f < length d.edges) × (joins (get_or l (prior n j) 0) (get_or l j 0) (get_or d.edges f (edge 0 0)) ≡ true)
    unfolding joined
    side_edge j h =
        let k = prior n j in
        let p = prior_low j h in
        let x = around_low l k 0 p in
        let y = after_prior j h in
        any_yes (joins (get_or l k 0) (get_or l j 0)) (edge 0 0) d.edges
        ((λ i. any (joins (sym x i) (sym y i)) d.edges) ∙ path.along k p)

    pub side_number_is : (j : ℕ) (h : j < n) → side_number number l j ≡ (side_edge j h).0
    side_number_is j h = let m = side_edge j h in number_is m.0 (get_or l (prior n j) 0) (get_or l j 0) m.1 m.2

    pub side_low : (j : ℕ) → j < n → side_number number l j < length d.edges
    side_low j h = omega (arith, side_number_is j h, (side_edge j h).1)

    pub sides_are : (e : ℕ) → dig (side_mask d l) e ≡ any (λ j. eqb e (side_number number l j)) (upto n)
    unfolding side_mask
    sides_are e = same_truth _ _ forth back
      where
        -- a side from a to b, where edge e joins them
        found : (a b : ℕ) → e < length d.edges → get_or number (pair_at a b) 0 ≡ e → runs a b l ≡ true
            → any (λ j. eqb e (side_number number l j)) (upto n) ≡ true
        found a b h q t =
            let r = runs_yes a b l t in
            let s = after_is r.0 r.1 in
            let x : get_or l (prior n s.0) 0 ≡ a = ap (λ (i : ℕ). get_or l i 0) s.2 ∙ sym (around_low l r.0 0 r.1) ∙ r.2 in
            let y : get_or l s.0 0 ≡ b = sym (after_prior s.0 s.1) ∙ ap (λ (i : ℕ). around l (i + 1) 0) s.2 ∙ r.3 in
            some_is (λ j. eqb e (side_number number l j)) n s.0 s.1
            (eq-eqb e (side_number number l s.0) (sym ((λ i. get_or number (pair_at (x i) (y i)) 0) ∙ q)))

        each : (g : Edge) → e < length d.edges → get_or d.edges e (edge 0 0) ≡ g → has g l ≡ true
            → any (λ j. eqb e (side_number number l j)) (upto n) ≡ true
        each (edge a b) h q t = go (has_cases a b l t)
          where
            go : (runs a b l ≡ true) ⊎ (runs b a l ≡ true) → any (λ j. eqb e (side_number number l j)) (upto n) ≡ true
            go (inl s) = found a b h (numbered.up e a b h q) s
            go (inr s) = found b a h (numbered.down e a b h q) s

        forth : dig (map (λ g. has g l) d.edges) e ≡ true → any (λ j. eqb e (side_number number l j)) (upto n) ≡ true
        forth t =
            let r = map_yes (λ g. has g l) (edge 0 0) d.edges e t in
            each (get_or d.edges e (edge 0 0)) r.0 refl r.1

        back : any (λ j. eqb e (side_number number l j)) (upto n) ≡ true → dig (map (λ g. has g l) d.edges) e ≡ true
        back t =
            let r = some_yes (λ j. eqb e (side_number number l j)) n t in
            let j = r.0 in
            let k = prior n j in
            let p = prior_low j r.1 in
            let a = get_or l k 0 in
            let b = get_or l j 0 in
            let m = side_edge j r.1 in
            let f = m.0 in
            let s : e ≡ f = eqb-true e (side_number number l j) r.2 ∙ side_number_is j r.1 in
            ap (dig (map (λ g. has g l) d.edges)) s ∙ map_at (λ g. has g l) d.edges f (edge 0 0) false m.1
            ∙ side (get_or d.edges f (edge 0 0)) a b (runs_is a b l k p (around_low l k 0 p) (after_prior j r.1))
            (joins_cases a b (get_or d.edges f (edge 0 0)) m.2)
          where
            side : (g : Edge) (a b : ℕ) → runs a b l ≡ true → (g ≡ edge a b) ⊎ (g ≡ edge b a) → has g l ≡ true
            side g a b t (inl q) = ap (λ (x : Edge). has x l) q ∙ has_up a b l t
            side g a b t (inr q) = ap (λ (x : Edge). has x l) q ∙ has_down b a l t
