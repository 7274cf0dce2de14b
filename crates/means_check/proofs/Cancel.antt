-- What changes its sign with a side's direction adds up to (0,0,0) round all faces of a solid, each in its direction: each side meets one
-- of another face.
use mathlib.Core.Path.{◌≡◌, refl, sym, ap, ap₂, subst, ◌∙◌}
use mathlib.Core.Bool.{Bool, true, false, ◌&&◌, cond}
use mathlib.Core.Logic.{◌⊎◌, inl, inr}
use mathlib.Core.List.{List, [], ◌∷◌}
use Prim.Native.Nat.{ℕ, zero, suc, ◌<◌}
use native.Mathlib.Numerals.{add-one}
use native.Mathlib.Omega.{arith}
use lib.Dec.{eqb, ltb}
use lib.ListN.{length, get_or}
use borrow.Author.Tests.{eqb-true, eq-eqb, ltb-true, lt-ltb, le-ltb}
use Rattle.lists.specs.Lists.{sides}
use Rattle.lists.specs.Around.{around}
use Rattle.lists.proofs.Truth.{and_left, and_right, and_both}
use Rattle.lists.proofs.Sides.{wrap_low, sides_length, sides-at}
use Rattle.sets.specs.Word.{dig}
use Rattle.sets.proofs.Digits.{never}
use Rattle.paper.specs.Points.{origin, minus, sum}
use Rattle.paper.specs.Drawing.{Wire, edge, edge_at}
use Rattle.paper.specs.Loops.{Loop, loop_at}
use Rattle.paper.specs.declared.Point.{Point}
use Rattle.paper_laws.proofs.Vectors.{o, ◌-v◌, vring}
use Rattle.means_solid.specs.Solid.{Goes, Runs, RunOnce, EachWay}
use Rattle.means_loops.specs.Path.{EdgeOf, ClosedPath}
use Rattle.means_solid.proofs.Goes.{around-at}
use Rattle.means_check.proofs.Sums.{sum_to, sum_same, sum-zero, sum-minus, sum_more, sum_list, sum2, sum2_zero, sum2_single}
use Rattle.means_check.proofs.Sums.{cancels}
use Rattle.means_check.proofs.FaceSums.{in_way}

-- ---- the sides of all faces, each in its face's direction

module _ (d : Wire) (cs : List Loop) (taken turned : List Bool) (paths : (k : ℕ) → k < length cs → ClosedPath d (loop_at cs k))
    (f : ℕ → ℕ → Point) (anti : (a b : ℕ) → f a b ≡ minus origin (f b a)) where
  abbrev start : ℕ → ℕ → ℕ
  start k i = cond (dig turned k) (around (loop_at cs k) (suc i) 0) (around (loop_at cs k) i 0)

  abbrev end : ℕ → ℕ → ℕ
  end k i = cond (dig turned k) (around (loop_at cs k) i 0) (around (loop_at cs k) (suc i) 0)

  abbrev there : ℕ → ℕ → Bool
  there k i = dig taken k && ltb i (length (loop_at cs k))

  abbrev part : ℕ → ℕ → Point
  part k i = f (start k i) (end k i)

  -- side i of face k and side q of face p are one edge, run opposite ways
  abbrev meets : ℕ → ℕ → ℕ → ℕ → Bool
  meets k i p q = (there k i && there p q) && (eqb (start p q) (end k i) && eqb (end p q) (start k i))

  record Meets (k i p q : ℕ) : Type 0 where
    here : there k i ≡ true
    other : there p q ≡ true
    from : start p q ≡ end k i
    to : end p q ≡ start k i

  meets_yes : (k i p q : ℕ) → meets k i p q ≡ true → Meets k i p q
  meets_yes k i p q e =
      let a = and_left (there k i && there p q) (eqb (start p q) (end k i) && eqb (end p q) (start k i)) e in
      let b = and_right (there k i && there p q) (eqb (start p q) (end k i) && eqb (end p q) (start k i)) e in
      record {
        here = and_left (there k i) (there p q) a;
        other = and_right (there k i) (there p q) a;
        from = eqb-true (start p q) (end k i) (and_left (eqb (start p q) (end k i)) (eqb (end p q) (start k i)) b);
        to = eqb-true (end p q) (start k i) (and_right (eqb (start p q) (end k i)) (eqb (end p q) (start k i)) b);
      }

  meets_is : (k i p q : ℕ) → Meets k i p q → meets k i p q ≡ true
  meets_is k i p q m =
      and_both (and_both m.here m.other) (and_both (eq-eqb (start p q) (end k i) m.from) (eq-eqb (end p q) (start k i) m.to))

  abbrev given : ℕ → ℕ → Point
  given k i = cond (there k i) (part k i) origin

  abbrev pair : ℕ → ℕ → ℕ → ℕ → Point
  pair k i p q = cond (meets k i p q) (part k i) origin

  pair_anti : (k i p q : ℕ) → pair k i p q ≡ minus origin (pair p q k i)
  pair_anti k i p q = go (meets k i p q) (meets p q k i) refl refl
    where
      back : (k i p q : ℕ) → Meets k i p q → Meets p q k i
      back k i p q m = record { here = m.other; other = m.here; from = sym m.to; to = sym m.from }

      go : (a b : Bool) → meets k i p q ≡ a → meets p q k i ≡ b → cond a (part k i) origin ≡ minus origin (cond b (part p q) origin)
      go true true e g =
          let m = meets_yes k i p q e in
          anti (start k i) (end k i) ∙ ap₂ (λ (a b : ℕ). minus origin (f a b)) (sym m.from) (sym m.to)
      go false false e g = vring [] o (o -v o) tt
      go true false e g = never (sym (meets_is p q k i (back k i p q (meets_yes k i p q e))) ∙ g)
      go false true e g = never (sym (meets_is k i p q (back p q k i (meets_yes p q k i g))) ∙ e)

  -- the sum over the sides of face k, in its direction
  abbrev pub facing : ℕ → Point
  facing k = in_way (dig taken k) (dig turned k) (sum (sides f (loop_at cs k)))

  -- (iii) alone: each edge is run once each way
  module _ (ways : (e : ℕ) → e < length d.edges → EachWay d cs taken turned (edge_at d e)) where
    inside : (k i : ℕ) → i < length (loop_at cs k) → k < length cs
    inside k i h = go cs k h
      where
        go : (cs : List Loop) (k : ℕ) → i < length (loop_at cs k) → k < length cs
        go [] k h = absurd (omega arith)
        go (c ∷ cs) zero h = omega arith
        go (c ∷ cs) (suc k) h = omega (arith, go cs k h)

    -- a side is run by its face
    side_runs : (k i : ℕ) → there k i ≡ true → (dig taken k ≡ true) × (i < length (loop_at cs k))
        × Runs d cs taken turned k (start k i) (end k i)
    side_runs k i e =
        let h = ltb-true i (length (loop_at cs k)) (and_right (dig taken k) (ltb i (length (loop_at cs k))) e) in
        (and_left (dig taken k) (ltb i (length (loop_at cs k))) e, h, go (dig turned k) h)
      where
        go : (t : Bool) → i < length (loop_at cs k) → cond t
            (Goes (loop_at cs k) (cond t (around (loop_at cs k) i 0) (around (loop_at cs k) (suc i) 0))
            (cond t (around (loop_at cs k) (suc i) 0) (around (loop_at cs k) i 0)))
            (Goes (loop_at cs k) (cond t (around (loop_at cs k) (suc i) 0) (around (loop_at cs k) i 0))
            (cond t (around (loop_at cs k) i 0) (around (loop_at cs k) (suc i) 0)))
        go true h = record { at = i; here = h; from = refl; to = refl }
        go false h = record { at = i; here = h; from = refl; to = refl }

    -- an edge that a face runs from a to b is run once from b to a
    back_once : (k a b : ℕ) → dig taken k ≡ true → Runs d cs taken turned k a b → RunOnce d cs taken turned b a
    back_once k a b h r = go (edge_of (dig turned k) r)
      where
        edge_of : (t : Bool) → cond t (Goes (loop_at cs k) b a) (Goes (loop_at cs k) a b) → EdgeOf d a b ⊎ EdgeOf d b a
        edge_of true g = inr ((paths k (inside k g.at g.here)).along b a g)
        edge_of false g = inl ((paths k (inside k g.at g.here)).along a b g)

        at_edge : (e : ℕ) → e < length d.edges → (edge_at d e ≡ edge a b) ⊎ (edge_at d e ≡ edge b a) → RunOnce d cs taken turned b a
        at_edge e h (inl p) = (subst (EachWay d cs taken turned) p (ways e h)).1
        at_edge e h (inr p) = (subst (EachWay d cs taken turned) p (ways e h)).0

        go : EdgeOf d a b ⊎ EdgeOf d b a → RunOnce d cs taken turned b a
        go (inl (e, h, w)) = at_edge e h w
        go (inr (e, h, inl w)) = at_edge e h (inr w)
        go (inr (e, h, inr w)) = at_edge e h (inl w)

    -- the one side of a face that runs from a to b
    run_side : (t a b : ℕ) → Runs d cs taken turned t a b → (i : ℕ) × (i < length (loop_at cs t)) × (start t i ≡ a) × (end t i ≡ b)
    run_side t a b r = go (dig turned t) r
      where
        go : (x : Bool) → cond x (Goes (loop_at cs t) b a) (Goes (loop_at cs t) a b)
            → (i : ℕ) × (i < length (loop_at cs t)) × (cond x (around (loop_at cs t) (suc i) 0) (around (loop_at cs t) i 0) ≡ a)
            × (cond x (around (loop_at cs t) i 0) (around (loop_at cs t) (suc i) 0) ≡ b)
        go true g = (g.at, g.here, sym g.to, sym g.from)
        go false g = (g.at, g.here, sym g.from, sym g.to)

    one_side : (t i j : ℕ) → t < length cs → i < length (loop_at cs t) → j < length (loop_at cs t) → start t i ≡ start t j
        → end t i ≡ end t j
        → i ≡ j
    one_side t i j ht hi hj p q = go (dig turned t) p q
      where
        at_low : (i : ℕ) → i < length (loop_at cs t) → around (loop_at cs t) i 0 ≡ get_or (loop_at cs t) i 0
        at_low i h = around-at (loop_at cs t) i ∙ ap (λ (m : ℕ). get_or (loop_at cs t) m 0) (wrap_low (length (loop_at cs t)) i h)

        same : around (loop_at cs t) i 0 ≡ around (loop_at cs t) j 0 → i ≡ j
        same e = (paths t ht).different i j hi hj (sym (at_low i hi) ∙ e ∙ at_low j hj)

        go : (x : Bool) → cond x (around (loop_at cs t) (suc i) 0) (around (loop_at cs t) i 0) ≡ cond x (around (loop_at cs t) (suc j) 0)
            (around (loop_at cs t) j 0)
            → cond x (around (loop_at cs t) i 0) (around (loop_at cs t) (suc i) 0) ≡ cond x (around (loop_at cs t) j 0)
            (around (loop_at cs t) (suc j) 0) → i ≡ j
        go true p q = same q
        go false p q = same p

    pair_one : (k i : ℕ) → k < length cs → i < 12 → sum2 (length cs) 12 (pair k i) ≡ given k i
    pair_one k i hk hi = go (there k i) refl
      where
        go : (b : Bool) → there k i ≡ b → sum2 (length cs) 12 (pair k i) ≡ cond b (part k i) origin
        go false e = sum2_zero (length cs) 12 (pair k i) (λ p q hp hq. none p q)
          where
            none : (p q : ℕ) → pair k i p q ≡ origin
            none p q = by (meets k i p q) refl
              where
                by : (b : Bool) → meets k i p q ≡ b → cond b (part k i) origin ≡ origin
                by true g = never (sym (meets_yes k i p q g).here ∙ e)
                by false g = refl
        go true e =
            let r = side_runs k i e in
            let one = back_once k (start k i) (end k i) r.0 r.2 in
            let w = run_side one.by (end k i) (start k i) one.runs in
            let ht = inside one.by w.0 w.1 in
            let hs = w.1 in
            let long = (paths one.by ht).twelve in
            let th : there one.by w.0 ≡ true = and_both one.face (lt-ltb w.0 (length (loop_at cs one.by)) w.1) in
            let m : meets k i one.by w.0 ≡ true = meets_is k i one.by w.0
            (record { here = e; other = th; from = w.2; to = w.3 }) in
            sum2_single (length cs) 12 (pair k i) one.by w.0 ht (omega arith)
            (λ p q hp hq n. others one.by w.0 w.1 w.2 w.3 one.only p q n)
            ∙ ap (λ (b : Bool). cond b (part k i) origin) m
          where
            others : (t s : ℕ) → s < length (loop_at cs t) → start t s ≡ end k i → end t s ≡ start k i
                → ((p : ℕ) → dig taken p ≡ true → Runs d cs taken turned p (end k i) (start k i) → p ≡ t)
                → (p q : ℕ) → (p ≡ t → q ≡ s → ⊥) → pair k i p q ≡ origin
            others t s hs ps qs only p q n = by (meets k i p q) refl
              where
                by : (b : Bool) → meets k i p q ≡ b → cond b (part k i) origin ≡ origin
                by false g = refl
                by true g =
                    let m = meets_yes k i p q g in
                    let r = side_runs p q m.other in
                    let run : Runs d cs taken turned p (end k i) (start k i) = subst (λ (a : ℕ). Runs d cs taken turned p a (start k i))
                    m.from (subst (λ (b : ℕ). Runs d cs taken turned p (start p q) b) m.to r.2) in
                    let z : p ≡ t = only p r.0 run in
                    let hs' : s < length (loop_at cs p) = subst (λ (x : ℕ). s < length (loop_at cs x)) (sym z) hs in
                    absurd
                    (n z
                    (one_side p q s (inside p q r.1) r.1 hs' (m.from ∙ sym ps ∙ ap (λ (x : ℕ). start x s) (sym z))
                    (m.to ∙ sym qs ∙ ap (λ (x : ℕ). end x s) (sym z))))

    -- the sides cancel
    sides_cancel : sum2 (length cs) 12 given ≡ origin
    sides_cancel = cancels (length cs) 12 given pair pair_anti pair_one

    -- ---- a face's sides

    abbrev along : Loop → ℕ → Point
    along l i = f (around l i 0) (around l (suc i) 0)

    side_sum : (l : Loop) → sum (sides f l) ≡ sum_to (length l) (along l)
    side_sum l =
        sum_list (sides f l) ∙ ap (λ (n : ℕ). sum_to n (λ i. get_or (sides f l) i origin)) (sides_length f l)
        ∙ sum_same (length l) (λ i. get_or (sides f l) i origin) (along l)
        (λ i h. sides-at f l i origin 0 h ∙ ap (λ (j : ℕ). f (around l i 0) (around l j 0)) (add-one i))

    face-sum : (k : ℕ) → k < length cs → sum_to 12 (λ i. given k i) ≡ facing k
    face-sum k h = go (dig taken k) refl
      where
        off : (b : Bool) (i : ℕ) → dig taken k ≡ b → there k i ≡ (b && ltb i (length (loop_at cs k)))
        off b i e = ap (λ (x : Bool). x && ltb i (length (loop_at cs k))) e

        way : (t : Bool) (i : ℕ) → f (cond t (around (loop_at cs k) (suc i) 0) (around (loop_at cs k) i 0))
            (cond t (around (loop_at cs k) i 0) (around (loop_at cs k) (suc i) 0))
            ≡ cond t (minus origin (along (loop_at cs k) i)) (along (loop_at cs k) i)
        way true i = anti (around (loop_at cs k) (suc i) 0) (around (loop_at cs k) i 0)
        way false i = refl

        turn : (t : Bool) → sum_to (length (loop_at cs k)) (λ i. cond t (minus origin (along (loop_at cs k) i)) (along (loop_at cs k) i))
            ≡ cond t (minus origin (sum (sides f (loop_at cs k)))) (sum (sides f (loop_at cs k)))
        turn true =
            sum-minus (length (loop_at cs k)) (along (loop_at cs k)) ∙ ap (minus origin) (sym (side_sum (loop_at cs k)))
        turn false = sym (side_sum (loop_at cs k))

        go : (b : Bool) → dig taken k ≡ b → sum_to 12 (λ i. given k i)
            ≡ cond b (cond (dig turned k) (minus origin (sum (sides f (loop_at cs k)))) (sum (sides f (loop_at cs k)))) origin
        go false e = sum-zero 12 (λ i. given k i) (λ i l. ap (λ (x : Bool). cond x (part k i) origin) (off false i e))
        go true e =
            sum_more (length (loop_at cs k)) 12 (λ i. given k i) (paths k h).twelve
            (λ i l. ap (λ (x : Bool). cond x (part k i) origin) (off true i e ∙ le-ltb i (length (loop_at cs k)) l))
            ∙ sum_same (length (loop_at cs k)) (λ i. given k i)
            (λ i. cond (dig turned k) (minus origin (along (loop_at cs k) i)) (along (loop_at cs k) i))
            (λ i l. ap (λ (x : Bool). cond x (part k i) origin) (off true i e ∙ lt-ltb i (length (loop_at cs k)) l) ∙ way (dig turned k) i)
            ∙ turn (dig turned k)

    pub faces_close : sum_to (length cs) facing ≡ origin
    faces_close = sym (sum_same (length cs) (λ k. sum_to 12 (λ i. given k i)) facing face-sum) ∙ sides_cancel
