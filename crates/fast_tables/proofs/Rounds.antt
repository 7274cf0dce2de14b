-- Sides, corners and edges of loops by their places.
use mathlib.Core.Path.{◌≡◌, refl, sym, ap, ap₂, ◌∙◌, subst}
use mathlib.Core.Bool.{Bool, true, ◌&&◌, or_comm}
use mathlib.Core.Logic.{◌⊎◌, inl, inr}
use Prim.Native.Nat.{ℕ, ◌+◌, ◌-◌, ◌≤◌, ◌<◌}
use native.Mathlib.Omega.{arith}
use borrow.Author.Tests.{eq-eqb, eqb-true}
use lib.Dec.{eqb}
use lib.ListN.{length, get_or}
use Rattle.lists.specs.Lists.{any, sides, any_true, member}
use Rattle.lists.specs.Around.{wrap, around}
use Rattle.lists.proofs.Truth.{and_left, and_right, and_both, or_left, or_right, or_cases, same_truth}
use Rattle.lists.proofs.Passing.{any_yes, any_is}
use Rattle.lists.proofs.Sides.{side_yes, side_is, wrap_cases, wrap-below}
use Rattle.paper.specs.Drawing.{Wire, Edge, edge, joins, joined}
use Rattle.paper.specs.Loops.{Loop}
use Rattle.paper.specs.Solids.{runs, has}
use Rattle.fast_tables.specs.Paths.{Path}

-- ---- places that wrap
-- the one before and the one after a place are one
pub wrap-after : (n j k : ℕ) → 2 ≤ n → j < n → k ≤ n → wrap n j ≡ wrap n k → wrap n (j + 1) ≡ wrap n (k + 1)
wrap-after n j k two hj hk e = go (wrap_cases n j) (wrap_cases n k) (wrap_cases n (j + 1)) (wrap_cases n (k + 1))
  where
    go : ((j < n) × (wrap n j ≡ j)) ⊎ ((n ≤ j) × (wrap n j ≡ j - n)) → ((k < n) × (wrap n k ≡ k)) ⊎ ((n ≤ k) × (wrap n k ≡ k - n))
        → ((j + 1 < n) × (wrap n (j + 1) ≡ j + 1)) ⊎ ((n ≤ j + 1) × (wrap n (j + 1) ≡ j + 1 - n))
        → ((k + 1 < n) × (wrap n (k + 1) ≡ k + 1)) ⊎ ((n ≤ k + 1) × (wrap n (k + 1) ≡ k + 1 - n)) → wrap n (j + 1) ≡ wrap n (k + 1)
    go (inr a) b c d = absurd (omega (arith, a.0))
    go (inl a) (inl b) (inl c) (inl d) = omega (arith, e, a.1, b.1, c.1, d.1)
    go (inl a) (inl b) (inl c) (inr d) = omega (arith, e, a.1, b.1, c.0, c.1, d.0, d.1)
    go (inl a) (inl b) (inr c) (inl d) = omega (arith, e, a.1, b.1, c.0, c.1, d.0, d.1)
    go (inl a) (inl b) (inr c) (inr d) = omega (arith, e, a.1, b.1, c.0, c.1, d.0, d.1)
    go (inl a) (inr b) (inl c) (inl d) = omega (arith, e, a.1, b.0, b.1, c.0, c.1, d.0, d.1)
    go (inl a) (inr b) (inl c) (inr d) = omega (arith, e, a.1, b.0, b.1, c.0, c.1, d.0, d.1)
    go (inl a) (inr b) (inr c) (inl d) = omega (arith, e, a.1, b.0, b.1, c.0, c.1, d.0, d.1)
    go (inl a) (inr b) (inr c) (inr d) = omega (arith, e, a.1, b.0, b.1, c.0, c.1, d.0, d.1)

pub wrap_before : (n j k : ℕ) → j < n → k < n → wrap n (j + 1) ≡ wrap n (k + 1) → j ≡ k
wrap_before n j k hj hk e = go (wrap_cases n (j + 1)) (wrap_cases n (k + 1))
  where
    go : ((j + 1 < n) × (wrap n (j + 1) ≡ j + 1)) ⊎ ((n ≤ j + 1) × (wrap n (j + 1) ≡ j + 1 - n))
        → ((k + 1 < n) × (wrap n (k + 1) ≡ k + 1)) ⊎ ((n ≤ k + 1) × (wrap n (k + 1) ≡ k + 1 - n)) → j ≡ k
    go (inl c) (inl d) = omega (arith, e, c.1, d.1)
    go (inl c) (inr d) = omega (arith, e, c.0, c.1, d.0, d.1)
    go (inr c) (inl d) = omega (arith, e, c.0, c.1, d.0, d.1)
    go (inr c) (inr d) = omega (arith, e, c.0, c.1, d.0, d.1)

-- ---- corners and edges of a loop
pub member_yes : (x : ℕ) (l : Loop) → member x l ≡ true → (k : ℕ) × (k < length l) × (get_or l k 0 ≡ x)
unfolding member
member_yes x l e =
    let r = any_yes (eqb x) 0 l e in
    (r.0, r.1, sym (eqb-true x (get_or l r.0 0) r.2))

pub member_is : (x : ℕ) (l : Loop) (k : ℕ) → k < length l → get_or l k 0 ≡ x → member x l ≡ true
unfolding member
member_is x l k h e = any_is (eqb x) 0 l k h (eq-eqb x (get_or l k 0) (sym e))

pub around-member : (l : Loop) (k : ℕ) → k < length l + length l → member (around l k 0) l ≡ true
unfolding around
around-member l k h = member_is (around l k 0) l (wrap (length l) k) (wrap-below (length l) k h) refl

pub runs_yes : (a b : ℕ) (l : Loop) → runs a b l ≡ true → (k : ℕ) × (k < length l) × (around l k 0 ≡ a) × (around l (k + 1) 0 ≡ b)
unfolding runs
runs_yes a b l e =
    let r = side_yes 0 (λ x y. eqb a x && eqb b y) l e in
    let x = around l r.0 0 in
    let y = around l (r.0 + 1) 0 in
    (r.0, r.1, sym (eqb-true a x (and_left (eqb a x) (eqb b y) r.2)), sym (eqb-true b y (and_right (eqb a x) (eqb b y) r.2)))

pub runs_is : (a b : ℕ) (l : Loop) (k : ℕ) → k < length l → around l k 0 ≡ a → around l (k + 1) 0 ≡ b → runs a b l ≡ true
unfolding runs
runs_is a b l k h p q =
    side_is 0 (λ x y. eqb a x && eqb b y) l k h (and_both (eq-eqb a (around l k 0) (sym p)) (eq-eqb b (around l (k + 1) 0) (sym q)))

pub has_cases : (a b : ℕ) (l : Loop) → has (edge a b) l ≡ true → (runs a b l ≡ true) ⊎ (runs b a l ≡ true)
unfolding has
has_cases a b l e = or_cases (runs a b l) (runs b a l) e

pub has_up : (a b : ℕ) (l : Loop) → runs a b l ≡ true → has (edge a b) l ≡ true
unfolding has
has_up a b l e = or_left (runs a b l) (runs b a l) e

pub has_down : (a b : ℕ) (l : Loop) → runs b a l ≡ true → has (edge a b) l ≡ true
unfolding has
has_down a b l e = or_right (runs a b l) (runs b a l) e

-- the ends of an edge that a loop has are corners of it
runs-ends : (a b : ℕ) (l : Loop) → runs a b l ≡ true → (member a l ≡ true) × (member b l ≡ true)
runs-ends a b l e =
    let r = runs_yes a b l e in
    let h = r.1 in (
      sym (ap (λ (x : ℕ). member x l) r.2) ∙ around-member l r.0 (omega (arith, h)),
      sym (ap (λ (x : ℕ). member x l) r.3) ∙ around-member l (r.0 + 1) (omega (arith, h)),
    )

pub has-ends : (a b : ℕ) (l : Loop) → has (edge a b) l ≡ true → (member a l ≡ true) × (member b l ≡ true)
has-ends a b l e = go (has_cases a b l e)
  where
    go : (runs a b l ≡ true) ⊎ (runs b a l ≡ true) → (member a l ≡ true) × (member b l ≡ true)
    go (inl p) = runs-ends a b l p
    go (inr p) = let r = runs-ends b a l p in (r.1, r.0)

-- a corner is a vertex of the drawing
pub below_n : (d : Wire) (l : Loop) → Path d l → (v : ℕ) → member v l ≡ true → v < length d.vertices
below_n d l path v e = let r = member_yes v l e in subst (λ (x : ℕ). x < length d.vertices) r.2 (path.below r.0 r.1)

-- ---- a test of a loop's sides that is one in both directions, asked of the drawing's edges
abbrev pub of_edge : (ℕ → ℕ → Bool) → Edge → Bool
of_edge q (edge a b) = q a b

-- an edge that joins a and b is the edge from a to b or from b to a
pub joins_cases : (a b : ℕ) (e : Edge) → joins a b e ≡ true → (e ≡ edge a b) ⊎ (e ≡ edge b a)
unfolding joins
joins_cases a b (edge x y) j = go (or_cases (eqb a x && eqb b y) (eqb a y && eqb b x) j)
  where
    go : ((eqb a x && eqb b y) ≡ true) ⊎ ((eqb a y && eqb b x) ≡ true) → (edge x y ≡ edge a b) ⊎ (edge x y ≡ edge b a)
    go (inl u) =
        inl (λ i. edge (sym (eqb-true a x (and_left (eqb a x) (eqb b y) u)) i) (sym (eqb-true b y (and_right (eqb a x) (eqb b y) u)) i))
    go (inr u) =
        inr (λ i. edge (sym (eqb-true b x (and_right (eqb a y) (eqb b x) u)) i) (sym (eqb-true a y (and_left (eqb a y) (eqb b x) u)) i))

-- so a test that is one in both directions says of it what it says of a and b
pub joins-same : {A : Type 0} (q : Edge → A) → ((x y : ℕ) → q (edge x y) ≡ q (edge y x)) → (a b : ℕ) (e : Edge) → joins a b e ≡ true
    → q e ≡ q (edge a b)
joins-same {A} q turn a b e j = go (joins_cases a b e j)
  where
    go : (e ≡ edge a b) ⊎ (e ≡ edge b a) → q e ≡ q (edge a b)
    go (inl u) = ap q u
    go (inr u) = ap q u ∙ turn b a

pub has-turn : (a b : ℕ) (l : Loop) → has (edge a b) l ≡ has (edge b a) l
unfolding has
has-turn a b l = or_comm (runs a b l) (runs b a l)

module _ (d : Wire) (l : Loop) (path : Path d l) (q : ℕ → ℕ → Bool) (turn : (a b : ℕ) → q a b ≡ q b a) where
  pub sides_edges : any_true (sides q l) ≡ any (λ e. has e l && of_edge q e) d.edges
  unfolding joined
  sides_edges = same_truth _ _ forth back
    where
      forth : any_true (sides q l) ≡ true → any (λ e. has e l && of_edge q e) d.edges ≡ true
      forth e =
          let r = side_yes 0 q l e in
          let x = around l r.0 0 in
          let y = around l (r.0 + 1) 0 in
          let s = any_yes (joins x y) (edge 0 0) d.edges (path.along r.0 r.1) in
          any_is (λ e. has e l && of_edge q e) (edge 0 0) d.edges s.0 s.1
          (joins-same (λ e. has e l && of_edge q e) (λ a b. ap₂ ◌&&◌ (has-turn a b l) (turn a b)) x y (get_or d.edges s.0 (edge 0 0))
          s.2
          ∙ and_both (has_up x y l (runs_is x y l r.0 r.1 refl refl)) r.2)

      run : (a b : ℕ) → runs a b l ≡ true → q a b ≡ true → any_true (sides q l) ≡ true
      run a b t p = let r = runs_yes a b l t in side_is 0 q l r.0 r.1 ((λ i. q (r.2 i) (r.3 i)) ∙ p)

      each : (e : Edge) → (has e l && of_edge q e) ≡ true → any_true (sides q l) ≡ true
      each (edge a b) t = go (has_cases a b l (and_left (has (edge a b) l) (q a b) t)) (and_right (has (edge a b) l) (q a b) t)
        where
          go : (runs a b l ≡ true) ⊎ (runs b a l ≡ true) → q a b ≡ true → any_true (sides q l) ≡ true
          go (inl p) u = run a b p u
          go (inr p) u = run b a p (turn b a ∙ u)

      back : any (λ e. has e l && of_edge q e) d.edges ≡ true → any_true (sides q l) ≡ true
      back t = let r = any_yes (λ e. has e l && of_edge q e) (edge 0 0) d.edges t in each (get_or d.edges r.0 (edge 0 0)) r.2
