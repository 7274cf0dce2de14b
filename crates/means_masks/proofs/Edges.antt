-- The masks of one edge, of those that have it and of those that run it up, say (i) and (iii) of that edge.
use mathlib.Core.Bool.{Bool, true, false, not, ◌&&◌, ◌||◌, cond, xor}
use mathlib.Core.List.{List, [], map}
use mathlib.Core.Path.{◌≡◌, sym, ap, ap₂, ◌∙◌}
use Prim.Native.Nat.{ℕ, ◌<◌}
use native.Mathlib.Omega.{arith}
use native.Mathlib.Decide.{dec_lt}
use lib.Dec.{eqb}
use lib.ListN.{length, get_or-eq_default}
use borrow.Author.Tests.{eqb-true, eq-eqb}
use Rattle.lists.proofs.Truth.{and_left, and_right, and_both}
use Rattle.sets.specs.Word.{dig, count, both, less}
use Rattle.sets.proofs.Digits.{never, dig-both, dig-less}
use Rattle.paper.specs.Drawing.{Wire, Edge, edge}
use Rattle.paper.specs.Loops.{Loop, loop_at}
use Rattle.paper.specs.Solids.{runs, runs_up, has, unlike, once_each_way}
use Rattle.means_leaf.specs.Meaning.{FaceOn}
use Rattle.means_leaf.proofs.Unlike.{dig-unlike}
use Rattle.means_leaf.proofs.Counts.{one-count, count-one_is, pair_count, count_pair}
use Rattle.means_solid.specs.Proper.{AllProper}
use Rattle.means_solid.specs.Solid.{Goes, Face, Runs, HasSide, InTwo, RunOnce, EachWay}
use Rattle.means_solid.proofs.Goes.{runs_goes, goes_runs, has_cases, cases_has, one_way, runs_nil, has_nil, up_nil, dig_map}
use Rattle.means_solid.proofs.Goes.{ahead_one, back_one}

module _ (d : Wire) (cs : List Loop) (taken turned : List Bool) where
  -- ---- who has an edge

  pub on_dig : (e : Edge) (k : ℕ) → dig (both (map (has e) cs) taken) k ≡ (has e (loop_at cs k) && dig taken k)
  on_dig e k = dig-both (map (has e) cs) taken k ∙ ap (λ (x : Bool). x && dig taken k) (dig_map (has e) (has_nil e) cs k)

  pub on_has : (e : Edge) (k : ℕ) → FaceOn (map (has e) cs) taken k → Face d cs taken turned k × HasSide d cs taken turned k e
  on_has (edge a b) k p =
      let q : (has (edge a b) (loop_at cs k) && dig taken k) ≡ true = sym (on_dig (edge a b) k) ∙ p in (
        and_right (has (edge a b) (loop_at cs k)) (dig taken k) q,
        has_cases a b (loop_at cs k) (and_left (has (edge a b) (loop_at cs k)) (dig taken k) q),
      )

  pub has_on : (e : Edge) (k : ℕ) → Face d cs taken turned k → HasSide d cs taken turned k e → FaceOn (map (has e) cs) taken k
  has_on (edge a b) k f h = on_dig (edge a b) k ∙ and_both (cases_has a b (loop_at cs k) h) f

  -- ---- (i)

  pub two_in : (e : Edge) → count (both (map (has e) cs) taken) ≡ 2 → InTwo d cs taken turned e
  two_in e h =
      let p = count_pair (both (map (has e) cs) taken) h in
      let a = on_has e p.one p.has_one in
      let b = on_has e p.two p.has_two in
      record {
        one = p.one;
        two = p.two;
        differ = p.differ;
        faces = (a.0, b.0);
        have = (a.1, b.1);
        only = λ k f g. p.only_these k (has_on e k f g);
      }

  pub in_two_lem : (e : Edge) → InTwo d cs taken turned e → count (both (map (has e) cs) taken) ≡ 2
  in_two_lem e t =
      pair_count (both (map (has e) cs) taken) (record {
        one = t.one;
        two = t.two;
        differ = t.differ;
        has_one = has_on e t.one t.faces.0 t.have.0;
        has_two = has_on e t.two t.faces.1 t.have.1;
        only_these = λ k h. let q = on_has e k h in t.only k q.0 q.1;
      })

  -- ---- (iii): those of a mask run from a to b, once each

  abbrev runs_in : ℕ → ℕ → ℕ → Bool
  runs_in a b k = cond (dig turned k) (runs b a (loop_at cs k)) (runs a b (loop_at cs k))

  run-face : (a b k : ℕ) → (dig taken k && runs_in a b k) ≡ true → Face d cs taken turned k × Runs d cs taken turned k a b
  run-face a b k p = (and_left (dig taken k) (runs_in a b k) p, go (dig turned k) (and_right (dig taken k) (runs_in a b k) p))
    where
      go : (t : Bool) → cond t (runs b a (loop_at cs k)) (runs a b (loop_at cs k)) ≡ true
          → cond t (Goes (loop_at cs k) b a) (Goes (loop_at cs k) a b)
      go true q = runs_goes b a (loop_at cs k) q
      go false q = runs_goes a b (loop_at cs k) q

  face-run : (a b k : ℕ) → Face d cs taken turned k → Runs d cs taken turned k a b → (dig taken k && runs_in a b k) ≡ true
  face-run a b k f r = and_both f (go (dig turned k) r)
    where
      go : (t : Bool) → cond t (Goes (loop_at cs k) b a) (Goes (loop_at cs k) a b)
          → cond t (runs b a (loop_at cs k)) (runs a b (loop_at cs k)) ≡ true
      go true q = goes_runs b a (loop_at cs k) q
      go false q = goes_runs a b (loop_at cs k) q

  abbrev RowOf : ℕ → ℕ → List Bool → Type 0
  RowOf a b mask = (k : ℕ) → dig mask k ≡ (dig taken k && runs_in a b k)

  count_once : (a b : ℕ) (mask : List Bool) → RowOf a b mask → count mask ≡ 1 → RunOnce d cs taken turned a b
  count_once a b mask h e =
      let o = count-one_is mask e in
      let r = run-face a b o.0 (sym (h o.0) ∙ o.1) in
      record { by = o.0; face = r.0; runs = r.1; only = λ k f g. o.2 k (h k ∙ face-run a b k f g) }

  once_count : (a b : ℕ) (mask : List Bool) → RowOf a b mask → RunOnce d cs taken turned a b → count mask ≡ 1
  once_count a b mask h r =
      one-count mask r.by (h r.by ∙ face-run a b r.by r.face r.runs)
      (λ k p. let q = run-face a b k (sym (h k) ∙ p) in r.only k q.0 q.1)

  -- ---- a proper loop runs the edge one way only, so its masks tell which

  module _ (ok : AllProper cs) (a b : ℕ) where
    never_both : (k : ℕ) → runs a b (loop_at cs k) ≡ true → runs b a (loop_at cs k) ≡ true → ⊥
    never_both k p q = go (dec_lt k (length cs))
      where
        go : Dec (k < length cs) → ⊥
        go (yes h) = one_way a b (loop_at cs k) (ok k h) (runs_goes a b (loop_at cs k) p) (runs_goes b a (loop_at cs k) q)
        go (no h) = never (sym p ∙ ap (runs a b) (get_or-eq_default cs [] (omega arith)) ∙ runs_nil a b)

    abbrev mine : List Bool
    mine = both (map (has (edge a b)) cs) taken

    abbrev ahead : List Bool
    ahead = unlike (map (runs_up (edge a b)) cs) turned

    mine_dig : (k : ℕ) → dig mine k ≡ ((runs a b (loop_at cs k) || runs b a (loop_at cs k)) && dig taken k)
    unfolding has
    mine_dig k = on_dig (edge a b) k

    way-dig : (k : ℕ) → dig ahead k ≡ xor (runs a b (loop_at cs k)) (dig turned k)
    unfolding runs_up
    way-dig k = dig-unlike (map (runs_up (edge a b)) cs) turned k
        ∙ ap (λ (x : Bool). xor x (dig turned k)) (dig_map (runs_up (edge a b)) (up_nil (edge a b)) cs k)

    ahead_dig : RowOf a b (both mine ahead)
    ahead_dig k = dig-both mine ahead k ∙ ap₂ ◌&&◌ (mine_dig k) (way-dig k)
        ∙ ahead_one (runs a b (loop_at cs k)) (runs b a (loop_at cs k)) (dig turned k) (dig taken k) (never_both k)

    back_dig : RowOf b a (less mine ahead)
    back_dig k = dig-less mine ahead k ∙ ap₂ (λ (x y : Bool). x && not y) (mine_dig k) (way-dig k)
        ∙ back_one (runs a b (loop_at cs k)) (runs b a (loop_at cs k)) (dig turned k) (dig taken k) (never_both k)

    each_edge : once_each_way (map (has (edge a b)) cs) (map (runs_up (edge a b)) cs) taken turned ≡ true
        → EachWay d cs taken turned (edge a b)
    unfolding once_each_way
    each_edge p =
        let one = and_left (eqb (count (both mine ahead)) 1) (eqb (count (less mine ahead)) 1) p in
        let other = and_right (eqb (count (both mine ahead)) 1) (eqb (count (less mine ahead)) 1) p in (
          count_once a b (both mine ahead) ahead_dig (eqb-true (count (both mine ahead)) 1 one),
          count_once b a (less mine ahead) back_dig (eqb-true (count (less mine ahead)) 1 other),
        )

    edge_each : EachWay d cs taken turned (edge a b)
        → once_each_way (map (has (edge a b)) cs) (map (runs_up (edge a b)) cs) taken turned ≡ true
    unfolding once_each_way
    edge_each w = and_both (eq-eqb (count (both mine ahead)) 1 (once_count a b (both mine ahead) ahead_dig w.0))
        (eq-eqb (count (less mine ahead)) 1 (once_count b a (less mine ahead) back_dig w.1))

  pub once_ways : AllProper cs → (e : Edge) → once_each_way (map (has e) cs) (map (runs_up e) cs) taken turned ≡ true
      → EachWay d cs taken turned e
  once_ways ok (edge a b) p = each_edge ok a b p

  pub ways_once : AllProper cs → (e : Edge) → EachWay d cs taken turned e
      → once_each_way (map (has e) cs) (map (runs_up e) cs) taken turned ≡ true
  ways_once ok (edge a b) w = edge_each ok a b w
