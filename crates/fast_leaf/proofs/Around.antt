-- All edges of a face, and face by face until none waits: what is reached then is all to which one can go.
use mathlib.Core.Bool.{Bool, true, false}
use mathlib.Core.List.{List, [], ◌∷◌}
use mathlib.Core.Logic.{inl, inr}
use mathlib.Core.Path.{◌≡◌, refl, sym, ap, ◌∙◌, subst}
use Prim.Native.Nat.{ℕ, zero, suc, ◌≤◌, ◌<◌}
use native.Mathlib.Omega.{arith}
use native.Mathlib.Decide.{ℕ_discrete}
use lib.ListN.{length, get_or}
use borrow.Author.Tests.{eq-eqb, ne_eqb}
use Rattle.lists.proofs.Truth.{and_left, and_both, same_truth}
use Rattle.sets.specs.Word.{dig, Sub, count, both, first}
use Rattle.sets.proofs.Digits.{never, dig-both, dig-only, dig_self, count-only, first_in, count-alone}
use Rattle.sets.proofs.Ones.{dig-none}
use Rattle.means_leaf.specs.Meaning.{In, MaskInTwo, MaskWay, stay, across}
use Rattle.means_leaf.proofs.Spread.{place_in, all_from}
use Rattle.means_leaf.proofs.Reaches.{reached_ways, ways_reached}
use Rattle.means_leaf.proofs.Directions.{once_suits}
use Rattle.means_leaf.proofs.Each.{oriented_each}
use Rattle.fast_sweeps.specs.Worklist.{without_lowest, edges_with}
use Rattle.fast_sweeps.proofs.Marks.{after_in, after_out, count-after, dig-sides}
use Rattle.fast_leaf.specs.Faces.{Going, at_edge, around_face, at_face, go_on, to_go, alone, from_face}
use Rattle.fast_leaf.proofs.Edge.{Fair, edge_keeps, edge_old, edge-covers, edge_fair, edge_togo}

-- ---- edges by their places

at_in : (masks : List (List Bool)) (mask : List Bool) → In mask masks → (e : ℕ) × (mask ≡ get_or masks e [])
at_in [] mask i = absurd i
at_in (x ∷ masks) mask (inl p) = (0, p)
at_in (x ∷ masks) mask (inr i) = let q = at_in masks mask i in (suc q.0, q.1)

at_lt : (masks : List (List Bool)) (e f : ℕ) → dig (get_or masks e []) f ≡ true → e < length masks
at_lt [] e f h = never (sym h)
at_lt (mask ∷ masks) zero f h = omega arith
at_lt (mask ∷ masks) (suc e) f h = omega (arith, at_lt masks e f h)

-- ---- step by step, as a loop does it
module _ (masks ups : List (List Bool)) (taken : List Bool) where
  pub around-none : (f : ℕ) (left : List Bool) (g : Going) → count left ≡ 0 → around_face (count left) masks ups taken f left g ≡ g
  unfolding around_face
  around-none f left g z = rw z

  pub around_more : (f : ℕ) (left : List Bool) (g : Going) → (count left ≡ 0 → ⊥)
      → around_face (count left) masks ups taken f left g ≡ around_face (count (without_lowest left)) masks ups taken f (without_lowest left)
      (at_edge (get_or masks (first left) []) (get_or ups (first left) []) taken f g)
  unfolding around_face
  around_more f left g n = rw (← count-after left n)

  pub on_none : (n : ℕ) (g : Going) → count g.waiting ≡ 0 → go_on n masks ups taken g ≡ g
  unfolding go_on
  on_none zero g z = refl
  on_none (suc n) g z = rw (eq-eqb (count g.waiting) 0 z)

  pub on_more : (n : ℕ) (g : Going) → (count g.waiting ≡ 0 → ⊥)
      → go_on (suc n) masks ups taken g ≡ go_on n masks ups taken (at_face masks ups taken g)
  unfolding go_on
  on_more n g z = rw (ne_eqb (count g.waiting) 0 z)

  -- ---- what is still to go: whatever the masks are, each face is gone round once
  pub around_togo : (n f : ℕ) (left : List Bool) (g : Going) → to_go taken (around_face n masks ups taken f left g) ≤ to_go taken g
  unfolding around_face
  around_togo zero f left g = omega arith
  around_togo (suc n) f left g =
      omega (
        arith,
        around_togo n f (without_lowest left) (at_edge (get_or masks (first left) []) (get_or ups (first left) []) taken f g),
        edge_togo (get_or masks (first left) []) (get_or ups (first left) []) taken f g,
      )

  pub face_togo : (g : Going) → (count g.waiting ≡ 0 → ⊥) → to_go taken (at_face masks ups taken g) < to_go taken g
  unfolding at_face to_go
  face_togo g n =
      omega (
        arith,
        count-after g.waiting n,
        around_togo (count (edges_with masks (first g.waiting))) (first g.waiting) (edges_with masks (first g.waiting))
            (record { reached = g.reached; waiting = without_lowest g.waiting; turned = g.turned }),
      )

  -- ---- so many times are enough, and more change nothing
  on_same : (m n : ℕ) (g : Going) → to_go taken g ≤ m → to_go taken g ≤ n → go_on m masks ups taken g ≡ go_on n masks ups taken g
  on_same zero n g l k = go (ℕ_discrete (count g.waiting) 0)
    where
      go : Dec (count g.waiting ≡ 0) → go_on zero masks ups taken g ≡ go_on n masks ups taken g
      go (yes z) = on_none zero g z ∙ sym (on_none n g z)
      go (no z) = absurd (omega (arith, face_togo g z))
  on_same (suc m) zero g l k = go (ℕ_discrete (count g.waiting) 0)
    where
      go : Dec (count g.waiting ≡ 0) → go_on (suc m) masks ups taken g ≡ go_on zero masks ups taken g
      go (yes z) = on_none (suc m) g z ∙ sym (on_none zero g z)
      go (no z) = absurd (omega (arith, face_togo g z))
  on_same (suc m) (suc n) g l k = go (ℕ_discrete (count g.waiting) 0) (on_same m n (at_face masks ups taken g))
    where
      go : Dec (count g.waiting ≡ 0)
          → (to_go taken (at_face masks ups taken g) ≤ m → to_go taken (at_face masks ups taken g) ≤ n
          → go_on m masks ups taken (at_face masks ups taken g) ≡ go_on n masks ups taken (at_face masks ups taken g))
          → go_on (suc m) masks ups taken g ≡ go_on (suc n) masks ups taken g
      go (yes z) ih = on_none (suc m) g z ∙ sym (on_none (suc n) g z)
      go (no z) ih = on_more m g z ∙ ih (omega (arith, face_togo g z)) (omega (arith, face_togo g z)) ∙ sym (on_more n g z)

  -- what a loop over the waiting faces keeps: what is left to do gives the whole answer
  pub rest_more : (g : Going) → (count g.waiting ≡ 0 → ⊥)
      → go_on (to_go taken g) masks ups taken g ≡ go_on (to_go taken (at_face masks ups taken g)) masks ups taken (at_face masks ups taken g)
  rest_more g z =
      on_same (to_go taken g) (suc (to_go taken g)) g (omega arith) (omega arith) ∙ on_more (to_go taken g) g z
      ∙ on_same (to_go taken g) (to_go taken (at_face masks ups taken g)) (at_face masks ups taken g) (omega (arith, face_togo g z))
      (omega arith)

  module _ (start : ℕ) (here : dig taken start ≡ true) where
    pub start_togo : to_go taken (alone start) ≡ count taken
    unfolding to_go
    start_togo = omega (arith, count-only taken start here, count-alone start)

    pub rest_start : go_on (to_go taken (alone start)) masks ups taken (alone start) ≡ from_face masks ups taken start
    unfolding from_face
    rest_start = ap (λ (m : ℕ). go_on m masks ups taken (alone start)) start_togo

-- ---- the edges of the faces that do not wait are done; of face f those that are not left
abbrev Done : List (List Bool) → List Bool → ℕ → List Bool → Going → Type 0
Done masks taken f left g =
    (k e : ℕ) → dig g.reached k ≡ true → dig g.waiting k ≡ false → dig (get_or masks e []) k ≡ true → (k ≡ f → dig left e ≡ false)
    → Sub (both (get_or masks e []) taken) g.reached

abbrev pub Closed : List (List Bool) → List Bool → Going → Type 0
Closed masks taken g =
    (k e : ℕ) → dig g.reached k ≡ true → dig g.waiting k ≡ false → dig (get_or masks e []) k ≡ true
    → Sub (both (get_or masks e []) taken) g.reached

module _ (masks ups : List (List Bool)) (taken : List Bool) (start : ℕ) (same : length masks ≡ length ups) (two : MaskInTwo masks taken) where
  abbrev Good : Going → Type 0
  Good g = Fair masks ups taken start g × Closed masks taken g

  module _ (e f : ℕ) (g : Going) (has : dig (get_or masks e []) f ≡ true) (rf : dig g.reached f ≡ true) (h : Fair masks ups taken start g)
    where
      on_edge : dig (both (get_or masks e []) taken) f ≡ true
      on_edge = dig-both (get_or masks e []) taken f ∙ and_both has (h.in_taken f rf)

      two_edge : count (both (get_or masks e []) taken) ≡ 2
      two_edge = two (get_or masks e []) (place_in masks e (at_lt masks e f has))

      fair_at : Fair masks ups taken start (at_edge (get_or masks e []) (get_or ups e []) taken f g)
      fair_at =
          edge_fair (get_or masks e []) (get_or ups e []) taken f g on_edge two_edge masks ups (place_in masks e (at_lt masks e f has))
          (λ ts o. once_suits (get_or masks e []) (get_or ups e []) taken ts (oriented_each taken ts masks ups same o e (at_lt masks e f has))) rf
          h

      covers_at : Sub (both (get_or masks e []) taken) (at_edge (get_or masks e []) (get_or ups e []) taken f g).reached
      covers_at = edge-covers (get_or masks e []) (get_or ups e []) taken f g on_edge two_edge rf

  done_at : (f : ℕ) (left : List Bool) (g : Going) → dig (get_or masks (first left) []) f ≡ true → dig g.reached f ≡ true
      → Fair masks ups taken start g → Done masks taken f left g
      → Done masks taken f (without_lowest left) (at_edge (get_or masks (first left) []) (get_or ups (first left) []) taken f g)
  done_at f left g has rf h d k e rk wk ek c = go (ℕ_discrete e (first left)) (ℕ_discrete k f)
    where
      next : Going
      next = at_edge (get_or masks (first left) []) (get_or ups (first left) []) taken f g

      old : (dig g.reached k ≡ true) × (dig g.waiting k ≡ false)
      old = edge_old (get_or masks (first left) []) (get_or ups (first left) []) taken f g k rk wk

      kept : (k ≡ f → dig left e ≡ false) → Sub (both (get_or masks e []) taken) next.reached
      kept p j q = edge_keeps (get_or masks (first left) []) (get_or ups (first left) []) taken f g j (d k e old.0 old.1 ek p j q)

      go : Dec (e ≡ first left) → Dec (k ≡ f) → Sub (both (get_or masks e []) taken) next.reached
      go (no n) y = kept (λ p. after_out left e (c p) n)
      go (yes p) (no n) = kept (λ q. absurd (n q))
      go (yes p) (yes q) =
          subst (λ (x : ℕ). Sub (both (get_or masks x []) taken) next.reached) (sym p) (covers_at (first left) f g has rf h)

  around_good : (n f : ℕ) (left : List Bool) (g : Going) → count left ≡ n → ((e : ℕ) → dig left e ≡ true → dig (get_or masks e []) f ≡ true)
      → dig g.reached f ≡ true
      → Fair masks ups taken start g → Done masks taken f left g → Good (around_face n masks ups taken f left g)
  unfolding around_face
  around_good zero f left g z s rf h d = (h, λ k e rk wk ek. d k e rk wk ek (λ p. dig-none left z e))
  around_good (suc n) f left g z s rf h d =
      let some : count left ≡ 0 → ⊥ = λ y. absurd (omega arith) in
      let has : dig (get_or masks (first left) []) f ≡ true = s (first left) (first_in left some) in
      let m : count (without_lowest left) ≡ n = omega (arith, count-after left some) in
      around_good n f (without_lowest left) (at_edge (get_or masks (first left) []) (get_or ups (first left) []) taken f g) m
      (λ e p. let q = after_in left e p in s e q.1)
      (edge_keeps (get_or masks (first left) []) (get_or ups (first left) []) taken f g f rf)
      (fair_at (first left) f g has rf h)
      (done_at f left g has rf h d)

  face_good : (g : Going) → (count g.waiting ≡ 0 → ⊥) → Good g → Good (at_face masks ups taken g)
  unfolding at_face
  face_good g n w =
      around_good (count (edges_with masks f)) f (edges_with masks f) g1 refl (λ e p. sym (dig-sides masks f e) ∙ p)
      (w.0.in_reached f (first_in g.waiting n))
      (record {
        in_taken = w.0.in_taken;
        in_reached = λ k p. let q = after_in g.waiting k p in w.0.in_reached k q.1;
        turned_in_lem = w.0.turned_in_lem;
        low = w.0.low;
        low_turned = w.0.low_turned;
        way = w.0.way;
        right = w.0.right;
      })
      (λ k e rk wk ek c. w.1 k e rk
      (after_out g.waiting k wk
      (λ p. never (sym (dig-sides masks f e ∙ subst (λ (x : ℕ). dig (get_or masks e []) x ≡ true) p ek) ∙ c p))) ek)
    where
      f : ℕ
      f = first g.waiting

      g1 : Going
      g1 = record { reached = g.reached; waiting = without_lowest g.waiting; turned = g.turned }

  abbrev Ended : Going → Type 0
  Ended g = Good g × (count g.waiting ≡ 0)

  on_good : (n : ℕ) (g : Going) → to_go taken g ≤ n → Good g → Ended (go_on n masks ups taken g)
  on_good zero g l w = go (ℕ_discrete (count g.waiting) 0)
    where
      go : Dec (count g.waiting ≡ 0) → Ended (go_on zero masks ups taken g)
      go (yes z) = subst Ended (sym (on_none masks ups taken zero g z)) (w, z)
      go (no z) = absurd (omega (arith, face_togo masks ups taken g z))
  on_good (suc n) g l w = go (ℕ_discrete (count g.waiting) 0) (on_good n (at_face masks ups taken g))
    where
      go : Dec (count g.waiting ≡ 0)
          → (to_go taken (at_face masks ups taken g) ≤ n → Good (at_face masks ups taken g)
          → Ended (go_on n masks ups taken (at_face masks ups taken g)))
          → Ended (go_on (suc n) masks ups taken g)
      go (yes z) ih = subst Ended (sym (on_none masks ups taken (suc n) g z)) (w, z)
      go (no z) ih =
          subst Ended (sym (on_more masks ups taken n g z)) (ih (omega (arith, face_togo masks ups taken g z)) (face_good g z w))

  module _ (here : dig taken start ≡ true) where
    start_good : Good (alone start)
    start_good = (
      record {
        in_taken = λ k p. subst (λ (x : ℕ). dig taken x ≡ true) (sym (dig-only start k p)) here;
        in_reached = λ k p. p;
        turned_in_lem = λ k p. never (sym p);
        low = dig_self start;
        low_turned = refl;
        way = λ k p. subst (λ (x : ℕ). MaskWay masks taken start x) (sym (dig-only start k p)) stay;
        right = λ ts o e k p. sym (ap (dig ts) (dig-only start k p) ∙ e);
      },
      λ k e p q. never (sym p ∙ q),
    )

    start-ends : Ended (from_face masks ups taken start)
    unfolding from_face
    start-ends = on_good (count taken) (alone start) (omega (arith, start_togo masks ups taken start here)) start_good

    pub face_fair : Fair masks ups taken start (from_face masks ups taken start)
    face_fair = start-ends.0.0

    -- all to which one can go are reached
    way-ends : (g : Going) → Ended g → (f k : ℕ) → dig g.reached f ≡ true → MaskWay masks taken f k → dig g.reached k ≡ true
    way-ends g w f k rf stay = rf
    way-ends g w f k rf (across mask j v i p q) =
        let a = at_in masks mask i in
        let oj : dig (both (get_or masks a.0 []) taken) j ≡ true = subst (λ (x : List Bool). dig (both x taken) j ≡ true) a.1 p in
        let ok : dig (both (get_or masks a.0 []) taken) k ≡ true = subst (λ (x : List Bool). dig (both x taken) k ≡ true) a.1 q in
        w.0.1 j a.0 (way-ends g w f j rf v) (dig-none g.waiting w.1 j)
        (and_left (dig (get_or masks a.0 []) j) (dig taken j) (sym (dig-both (get_or masks a.0 []) taken j) ∙ oj)) k ok

    pub face_reaches : (k : ℕ) → MaskWay masks taken start k → dig (from_face masks ups taken start).reached k ≡ true
    face_reaches k v = way-ends (from_face masks ups taken start) start-ends start k face_fair.low v

    -- the passes over all edges reach the same
    pub same_reached : (k : ℕ) → dig (from_face masks ups taken start).reached k ≡ dig (all_from masks ups taken start).reached k
    same_reached k =
        same_truth (dig (from_face masks ups taken start).reached k) (dig (all_from masks ups taken start).reached k)
        (λ p. ways_reached masks ups taken same two start here k (face_fair.way k p))
        (λ p. face_reaches k (reached_ways masks ups taken start k p))
