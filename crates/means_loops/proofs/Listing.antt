-- The loops of a drawing and its candidates, as the definitions list them.
use mathlib.Core.Path.{◌≡◌, refl, sym, ap, subst, ◌∙◌}
use mathlib.Core.Bool.{Bool, true, false, not, ◌&&◌, true≢false}
use mathlib.Core.Logic.{◌⊎◌, inl, inr, ⊎_elim}
use mathlib.Core.List.Memᴰ
use mathlib.Core.List.{List, [], ◌∷◌, map, Memᴰ}
use Prim.Native.Nat.{ℕ, zero, suc, ◌+◌, ◌≤◌, ◌<◌}
use native.Mathlib.Omega.{arith}
use lib.Dec.{eqb}
use lib.ListN.{length, get_or, length-map}
use borrow.Author.Tests.{eqb-true, eq-eqb, ne_eqb, not-true}
use Rattle.lists.specs.Lists.{any, keep, filter, from, upto}
use Rattle.lists.proofs.Truth.{and_left, and_right, and_both, or_cases, never_true}
use Rattle.lists.proofs.Passing.{any_yes, some_yes, some_is}
use Rattle.lists.proofs.Places.{map_at, upto_length, upto-at}
use Rattle.paper.specs.Drawing.{Wire, Edge, edge, edge_at, joins, joined}
use Rattle.paper.specs.Polygon.{covers}
use Rattle.paper.specs.Loops.{Loop, loop_at, loops, level, polygon, covers_other, uncovering, candidates}
use Rattle.means_solid.specs.Proper.{AllProper}
use Rattle.means_loops.specs.Shape.{Normal}
use Rattle.means_loops.specs.Loop.{IsLoop, IsCandidate, Before, Ascending}
use Rattle.means_loops.proofs.Searching.{found_are, found_all}
use Rattle.means_loops.proofs.Ordered.{before_self, loop_in_lem, ascending_at, found_ascend}
use Rattle.means_loops.proofs.Kept.{filter_yes, filter_is}

-- ---- loops

pub loop_place : (q : Loop) (l : List Loop) → Memᴰ q l → (i : ℕ) × (i < length l) × (loop_at l i ≡ q)
loop_place q [] m = absurd (Memᴰ.not-nil m)
loop_place q (x ∷ l) m =
    ⊎_elim (λ e. (0, omega arith, sym e)) (λ k. let r = loop_place q l k in (suc r.0, (let h = r.1 in omega arith), r.2))
    (Memᴰ.cases_cons m)

pub ascending_once : (l : List Loop) → Ascending l → (i j : ℕ) → i < length l → j < length l → loop_at l i ≡ loop_at l j → i ≡ j
ascending_once l a i j hi hj e =
    let x : i < j → ⊥ = λ h. before_self (loop_at l j) (subst (λ (q : Loop). Before q (loop_at l j)) e (ascending_at l a i j h hj)) in
    let y : j < i → ⊥ = λ h. before_self (loop_at l j) (subst (λ (q : Loop). Before (loop_at l j) q) e (ascending_at l a j i h hi)) in
    omega (arith, x, y)

module _ (d : Wire) where
  -- every listed loop is one, every loop is listed, and none twice
  pub loops_are : (i : ℕ) → i < length (loops d) → IsLoop d (loop_at (loops d) i)
  unfolding loops
  loops_are i h = found_are (length d.vertices) (joined d) (level d) (loop_at (loops d) i) (loop_in_lem (loops d) i h)

  pub loops-all : (q : Loop) → IsLoop d q → (i : ℕ) × (i < length (loops d)) × (loop_at (loops d) i ≡ q)
  unfolding loops
  loops-all q h = loop_place q (loops d) (found_all (length d.vertices) (joined d) (level d) q h)

  pub loops_ascend : Ascending (loops d)
  unfolding loops
  loops_ascend = found_ascend (length d.vertices) (joined d) (level d)

  pub loops_once : (i j : ℕ) → i < length (loops d) → j < length (loops d) → loop_at (loops d) i ≡ loop_at (loops d) j → i ≡ j
  loops_once = ascending_once (loops d) loops_ascend

-- ---- candidates

module _ (d : Wire) (ls : List Loop) where
  bare_at : (i : ℕ) → covers_other d ls i ≡ false → (j : ℕ) → j < length ls → (i ≡ j → ⊥)
      → covers (polygon d (loop_at ls i)) (polygon d (loop_at ls j)) ≡ false
  unfolding covers_other
  bare_at i e j h n = never_true (covers (polygon d (loop_at ls i)) (polygon d (loop_at ls j))) (λ t.
      true≢false
      (sym
      (some_is (λ j. not (eqb i j) && covers (polygon d (loop_at ls i)) (polygon d (loop_at ls j))) (length ls) j h
      (and_both (ap not (ne_eqb i j n)) t)) ∙ e))

  at_bare : (i : ℕ) → ((j : ℕ) → j < length ls → (i ≡ j → ⊥) → covers (polygon d (loop_at ls i)) (polygon d (loop_at ls j)) ≡ false)
      → covers_other d ls i ≡ false
  unfolding covers_other
  at_bare i f =
      never_true (any (λ j. not (eqb i j) && covers (polygon d (loop_at ls i)) (polygon d (loop_at ls j))) (upto (length ls))) (λ t.
      let r = some_yes (λ j. not (eqb i j) && covers (polygon d (loop_at ls i)) (polygon d (loop_at ls j))) (length ls) t in
      let a = and_left (not (eqb i r.0)) (covers (polygon d (loop_at ls i)) (polygon d (loop_at ls r.0))) r.2 in
      let b = and_right (not (eqb i r.0)) (covers (polygon d (loop_at ls i)) (polygon d (loop_at ls r.0))) r.2 in
      true≢false (sym b ∙ f r.0 r.1 (λ e. true≢false (sym a ∙ ap not (eq-eqb i r.0 e)))))

  abbrev kept : List ℕ
  kept = filter (λ i. not (covers_other d ls i)) (upto (length ls))

  uncovering_is : uncovering d ls ≡ map (loop_at ls) kept
  unfolding uncovering
  uncovering_is = refl

  pub bare_are : (k : ℕ) → k < length (uncovering d ls) → (i : ℕ) × (i < length ls) × (loop_at (uncovering d ls) k ≡ loop_at ls i)
      × (covers_other d ls i ≡ false)
  bare_are k h =
      let l : k < length kept = omega (arith, ap length uncovering_is, length-map kept (loop_at ls)) in
      let r = filter_yes 0 (λ i. not (covers_other d ls i)) (upto (length ls)) k l in
      let b : r.0 < length ls = omega (arith, r.1, upto_length (length ls)) in
      let e : get_or (upto (length ls)) r.0 0 ≡ r.0 = upto-at (length ls) r.0 b in (
        r.0,
        b,
        ap (λ (q : List Loop). loop_at q k) uncovering_is ∙ map_at (loop_at ls) kept k 0 [] l ∙ ap (loop_at ls) (sym r.2 ∙ e),
        not-true (covers_other d ls r.0) (subst (λ (x : ℕ). not (covers_other d ls x) ≡ true) e r.3),
      )

  are_bare : (i : ℕ) → i < length ls → covers_other d ls i ≡ false → (k : ℕ) × (k < length (uncovering d ls))
      × (loop_at (uncovering d ls) k ≡ loop_at ls i)
  are_bare i h e =
      let u = upto-at (length ls) i h in
      let r = filter_is 0 (λ i. not (covers_other d ls i)) (upto (length ls)) i (omega (arith, upto_length (length ls)))
      (ap (λ (x : ℕ). not (covers_other d ls x)) u ∙ ap not e) in (
        r.0,
        omega (arith, r.1, ap length uncovering_is, length-map kept (loop_at ls)),
        ap (λ (q : List Loop). loop_at q r.0) uncovering_is ∙ map_at (loop_at ls) kept r.0 0 [] r.1 ∙ ap (loop_at ls) (r.2 ∙ u),
      )

  -- they ascend as the loops do
  kept_in : (p : ℕ → Bool) (i m : ℕ) (b : Loop) → Memᴰ b (map (loop_at ls) (filter p (from i m)))
      → (j : ℕ) × (i ≤ j) × (j < i + m) × (b ≡ loop_at ls j)
  unfolding filter keep from
  kept_in p i zero b q = absurd (Memᴰ.not-nil q)
  kept_in p i (suc m) b q = go (p i) q (kept_in p (suc i) m b)
    where
      go : (t : Bool) → Memᴰ b (map (loop_at ls) (keep t i (filter p (from (suc i) m))))
          → (Memᴰ b (map (loop_at ls) (filter p (from (suc i) m))) → (j : ℕ) × (suc i ≤ j) × (j < suc i + m) × (b ≡ loop_at ls j))
          → (j : ℕ) × (i ≤ j) × (j < i + suc m) × (b ≡ loop_at ls j)
      go true q r =
          ⊎_elim (λ e. (i, omega arith, omega arith, e)) (λ z. let w = r z in (w.0, omega (arith, w.1), omega (arith, w.2), w.3))
          (Memᴰ.cases_cons q)
      go false q r = let w = r q in (w.0, omega (arith, w.1), omega (arith, w.2), w.3)

  kept_ascend : Ascending ls → (p : ℕ → Bool) (i m : ℕ) → i + m ≤ length ls → Ascending (map (loop_at ls) (filter p (from i m)))
  unfolding filter keep from Ascending
  kept_ascend a p i zero h = tt
  kept_ascend a p i (suc m) h = go (p i) (kept_ascend a p (suc i) m (omega arith))
    where
      go : (t : Bool) → Ascending (map (loop_at ls) (filter p (from (suc i) m)))
          → Ascending (map (loop_at ls) (keep t i (filter p (from (suc i) m))))
      go true r = (
        (λ b q. let w = kept_in p (suc i) m b q in
            subst (λ (x : Loop). Before (loop_at ls i) x) (sym w.3) (ascending_at ls a i w.0 w.1 (omega (arith, w.2)))),
        r,
      )
      go false r = r

  bare_ascend : Ascending ls → Ascending (uncovering d ls)
  unfolding uncovering upto
  bare_ascend a = kept_ascend a (λ i. not (covers_other d ls i)) 0 (length ls) (omega arith)

module _ (d : Wire) where
  -- the candidates are the loops that cover no other, each once and in order
  pub candidates_ascend : Ascending (candidates d)
  unfolding candidates
  candidates_ascend = bare_ascend d (loops d) (loops_ascend d)

  pub candidates_once : (j k : ℕ) → j < length (candidates d) → k < length (candidates d)
      → loop_at (candidates d) j ≡ loop_at (candidates d) k → j ≡ k
  candidates_once = ascending_once (candidates d) candidates_ascend

  pub candidates_are : (k : ℕ) → k < length (candidates d) → IsCandidate d (loop_at (candidates d) k)
  unfolding candidates
  candidates_are k h =
      let r = bare_are d (loops d) k h in
      subst (IsCandidate d) (sym r.2) (record {
        loop = loops_are d r.0 r.1;
        bare = λ q l n.
            let s = loops-all d q l in
            subst (λ (x : Loop). covers (polygon d (loop_at (loops d) r.0)) (polygon d x) ≡ false) s.2
            (bare_at d (loops d) r.0 r.3 s.0 s.1 (λ e. n (sym s.2 ∙ ap (loop_at (loops d)) (sym e))));
      })

  pub candidates-all : (q : Loop) → IsCandidate d q → (k : ℕ) × (k < length (candidates d)) × (loop_at (candidates d) k ≡ q)
  unfolding candidates
  candidates-all q c =
      let s = loops-all d q c.loop in
      let e = at_bare d (loops d) s.0 (λ j h n.
      subst (λ (x : Loop). covers (polygon d x) (polygon d (loop_at (loops d) j)) ≡ false) (sym s.2)
      (c.bare (loop_at (loops d) j) (loops_are d j h) (λ z. n (loops_once d s.0 j s.1 h (s.2 ∙ sym z))))) in
      let r = are_bare d (loops d) s.0 s.1 e in
      (r.0, r.1, r.2 ∙ s.2)

  pub candidates_proper : AllProper (candidates d)
  candidates_proper k h = let a = (candidates_are k h).loop in record { three = a.three; different = a.different }

  pub loop_normal : (q : Loop) → IsLoop d q → Normal q
  loop_normal q l = record { three = l.three; different = l.different; lowest = l.lowest; direction = l.direction }

-- ---- joined vertices are the ends of an edge

pub joined-edge : (d : Wire) (u v : ℕ) → joined d u v ≡ true
    → (e : ℕ) × (e < length d.edges) × ((edge_at d e ≡ edge u v) ⊎ (edge_at d e ≡ edge v u))
unfolding joined edge_at joins
joined-edge d u v t = let r = any_yes (joins u v) (edge 0 0) d.edges t in (r.0, r.1, go (edge_at d r.0) r.2)
  where
    go : (e : Edge) → joins u v e ≡ true → (e ≡ edge u v) ⊎ (e ≡ edge v u)
    go (edge a b) q = by (or_cases (eqb u a && eqb v b) (eqb u b && eqb v a) q)
      where
        by : ((eqb u a && eqb v b) ≡ true) ⊎ ((eqb u b && eqb v a) ≡ true) → (edge a b ≡ edge u v) ⊎ (edge a b ≡ edge v u)
        by (inl w) =
            let x : u ≡ a = eqb-true u a (and_left (eqb u a) (eqb v b) w) in
            let y : v ≡ b = eqb-true v b (and_right (eqb u a) (eqb v b) w) in
            inl (cc)
        by (inr w) =
            let x : u ≡ b = eqb-true u b (and_left (eqb u b) (eqb v a) w) in
            let y : v ≡ a = eqb-true v a (and_right (eqb u b) (eqb v a) w) in
            inr (cc)
