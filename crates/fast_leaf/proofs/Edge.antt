-- One edge of a face: what is reached, waits and is turned after it.
use mathlib.Core.Bool.{Bool, true, false, not, ◌&&◌, ◌||◌, cond, xor, or-false}
use mathlib.Core.List.{List, [], ◌∷◌}
use mathlib.Core.Logic.{◌⊎◌, inl, inr}
use mathlib.Core.Path.{◌≡◌, refl, sym, ap, ap₂, ◌∙◌, subst}
use Prim.Native.Nat.{ℕ, ◌+◌, ◌≤◌}
use native.Mathlib.Omega.{arith}
use native.Mathlib.Decide.{ℕ_discrete}
use lib.Dec.{eqb}
use borrow.Author.Tests.{eq-eqb, ne_eqb}
use Rattle.lists.proofs.Truth.{and_left, and_right, and_both, or_left, or_right, or_cases, never_true}
use Rattle.sets.specs.Word.{bit, dig, Sub, count, both, either, less, only, first}
use Rattle.sets.proofs.Digits.{never, dig-both, dig-either, dig-less, dig_self, count-le, count_none, count-one, count-only, count_with, left_in, left_out}
use Rattle.sets.proofs.Digits.{first_in, count_split, count-alone}
use Rattle.paper.specs.Solids.{unlike, oriented}
use Rattle.means_leaf.specs.Meaning.{In, MaskWay, across}
use Rattle.means_leaf.proofs.Unlike.{dig-unlike}
use Rattle.means_leaf.proofs.Directions.{Suits}
use Rattle.fast_leaf.specs.Faces.{Going, others, unlike_ways, at_edge, to_go}

-- ---- what is kept of the faces found so far, from face `start` on
pub record Fair (masks ups : List (List Bool)) (taken : List Bool) (start : ℕ) (g : Going) : Type 0 where
  pub in_taken : Sub g.reached taken
  pub in_reached : Sub g.waiting g.reached
  pub turned_in_lem : Sub g.turned g.reached
  pub low : dig g.reached start ≡ true
  pub low_turned : dig g.turned start ≡ false
  pub way : (k : ℕ) → dig g.reached k ≡ true → MaskWay masks taken start k
  pub right : (ts : List Bool) → oriented masks ups taken ts ≡ true → dig ts start ≡ false → (k : ℕ) → dig g.reached k ≡ true
      → dig g.turned k ≡ dig ts k

-- the direction that an edge asks of the other face
turn_is : (r uk tk : Bool) → r ≡ not (xor uk tk) → not (xor (eqb (bit r) 0) (eqb (bit (xor uk false)) 0)) ≡ tk
unfolding xor
turn_is true true true e = refl
turn_is true true false e = never e
turn_is true false true e = never e
turn_is true false false e = refl
turn_is false true true e = never (sym e)
turn_is false true false e = refl
turn_is false false true e = refl
turn_is false false false e = never (sym e)

module _ (b : Bool) (t o : List Bool) (k : ℕ) where
  turned_split : dig (cond b t (either t o)) k ≡ true → (dig t k ≡ true) ⊎ (dig o k ≡ true)
  turned_split h = go b h
    where
      go : (b : Bool) → dig (cond b t (either t o)) k ≡ true → (dig t k ≡ true) ⊎ (dig o k ≡ true)
      go true h = inl h
      go false h = or_cases (dig t k) (dig o k) (sym (dig-either t o k) ∙ h)

  turned_keep : dig o k ≡ false → dig (cond b t (either t o)) k ≡ dig t k
  turned_keep z = go b
    where
      go : (b : Bool) → dig (cond b t (either t o)) k ≡ dig t k
      go true = refl
      go false = dig-either t o k ∙ ap (λ (x : Bool). dig t k || x) z ∙ or-false (dig t k)

  turned_new : dig o k ≡ true → dig t k ≡ false → dig (cond b t (either t o)) k ≡ not b
  turned_new h z = go b
    where
      go : (b : Bool) → dig (cond b t (either t o)) k ≡ not b
      go true = z
      go false = dig-either t o k ∙ or_right (dig t k) (dig o k) h

module _ (mask up taken : List Bool) (f : ℕ) (g : Going) where
  pub edge_not : (count (both g.reached (others mask taken f)) ≡ 0 → ⊥) → at_edge mask up taken f g ≡ g
  unfolding at_edge
  edge_not n = rw (ne_eqb (count (both g.reached (others mask taken f))) 0 n)

  module _ (z : count (both g.reached (others mask taken f)) ≡ 0) where
    edge_reached : (k : ℕ) → dig (at_edge mask up taken f g).reached k ≡ dig g.reached k || dig (others mask taken f) k
    unfolding at_edge
    edge_reached k = rw (eq-eqb (count (both g.reached (others mask taken f))) 0 z) (dig-either g.reached (others mask taken f) k)

    edge_waiting : (k : ℕ) → dig (at_edge mask up taken f g).waiting k ≡ dig g.waiting k || dig (others mask taken f) k
    unfolding at_edge
    edge_waiting k = rw (eq-eqb (count (both g.reached (others mask taken f))) 0 z) (dig-either g.waiting (others mask taken f) k)

    edge_turned : (at_edge mask up taken f g).turned ≡ cond (unlike_ways (unlike up g.turned) f (others mask taken f)) g.turned
        (either g.turned (others mask taken f))
    unfolding at_edge
    edge_turned = rw (eq-eqb (count (both g.reached (others mask taken f))) 0 z)

    edge_new : (k : ℕ) → dig (others mask taken f) k ≡ true → dig g.reached k ≡ false
    edge_new k h =
        never_true (dig g.reached k)
        (λ p. count_none (both g.reached (others mask taken f)) z k (dig-both g.reached (others mask taken f) k ∙ and_both p h))

  -- nothing is lost, and what is new waits
  pub edge_keeps : Sub g.reached (at_edge mask up taken f g).reached
  edge_keeps k h = go (ℕ_discrete (count (both g.reached (others mask taken f))) 0)
    where
      go : Dec (count (both g.reached (others mask taken f)) ≡ 0) → dig (at_edge mask up taken f g).reached k ≡ true
      go (yes z) = edge_reached z k ∙ or_left (dig g.reached k) (dig (others mask taken f) k) h
      go (no n) = ap (λ (x : Going). dig x.reached k) (edge_not n) ∙ h

  pub edge_old : (k : ℕ) → dig (at_edge mask up taken f g).reached k ≡ true → dig (at_edge mask up taken f g).waiting k ≡ false
      → (dig g.reached k ≡ true) × (dig g.waiting k ≡ false)
  edge_old k h w = go (ℕ_discrete (count (both g.reached (others mask taken f))) 0)
    where
      two : (x y o : Bool) → (x || o) ≡ true → (y || o) ≡ false → (x ≡ true) × (y ≡ false)
      two x y true p q = never (sym (or_right y true refl) ∙ q)
      two true true false p q = never q
      two true false false p q = (refl, refl)
      two false y false p q = never (sym p)

      go : Dec (count (both g.reached (others mask taken f)) ≡ 0) → (dig g.reached k ≡ true) × (dig g.waiting k ≡ false)
      go (yes z) =
          two (dig g.reached k) (dig g.waiting k) (dig (others mask taken f) k) (sym (edge_reached z k) ∙ h)
          (sym (edge_waiting z k) ∙ w)
      go (no n) =
          (sym (ap (λ (x : Going). dig x.reached k) (edge_not n)) ∙ h, sym (ap (λ (x : Going). dig x.waiting k) (edge_not n)) ∙ w)

  -- of an edge with two faces, one of which is f
  module _ (on : dig (both mask taken) f ≡ true) (two : count (both mask taken) ≡ 2) where
    edge-one : count (others mask taken f) ≡ 1
    edge-one = omega (arith, count-only (both mask taken) f on)

    -- afterwards the faces of the edge are reached
    pub edge-covers : dig g.reached f ≡ true → Sub (both mask taken) (at_edge mask up taken f g).reached
    edge-covers rf k h = here (ℕ_discrete k f)
      where
        other : dig (others mask taken f) k ≡ true → Dec (count (both g.reached (others mask taken f)) ≡ 0)
            → dig (at_edge mask up taken f g).reached k ≡ true
        other o (yes z) = edge_reached z k ∙ or_right (dig g.reached k) (dig (others mask taken f) k) o
        other o (no n) =
            let p : (dig g.reached (first (both g.reached (others mask taken f))) && dig (others mask taken f)
            (first (both g.reached (others mask taken f)))) ≡ true
            = sym (dig-both g.reached (others mask taken f) (first (both g.reached (others mask taken f))))
            ∙ first_in (both g.reached (others mask taken f)) n in
            let q : first (both g.reached (others mask taken f)) ≡ k
            = count-one (others mask taken f) edge-one (first (both g.reached (others mask taken f))) k
            (and_right (dig g.reached (first (both g.reached (others mask taken f))))
            (dig (others mask taken f) (first (both g.reached (others mask taken f)))) p) o in
            edge_keeps k
            (subst (λ (x : ℕ). dig g.reached x ≡ true) q
            (and_left (dig g.reached (first (both g.reached (others mask taken f))))
            (dig (others mask taken f) (first (both g.reached (others mask taken f)))) p))

        here : Dec (k ≡ f) → dig (at_edge mask up taken f g).reached k ≡ true
        here (yes e) = edge_keeps k (subst (λ (x : ℕ). dig g.reached x ≡ true) (sym e) rf)
        here (no n) = other (left_in (both mask taken) f k h n) (ℕ_discrete (count (both g.reached (others mask taken f))) 0)

    module _ (masks ups : List (List Bool)) {start : ℕ} (i : In mask masks) (s : (ts : List Bool) → oriented masks ups taken ts ≡ true
        → Suits mask up taken ts)
        (rf : dig g.reached f ≡ true) (h : Fair masks ups taken start g) where
      module _ (z : count (both g.reached (others mask taken f)) ≡ 0) where
        ways_are : (k : ℕ) → dig (others mask taken f) k ≡ true
            → unlike_ways (unlike up g.turned) f (others mask taken f) ≡ xor (eqb (bit (xor (dig up f) (dig g.turned f))) 0)
            (eqb (bit (xor (dig up k) (dig g.turned k))) 0)
        ways_are k o =
            ap₂ (λ (m n : ℕ). xor (eqb m 0) (eqb n 0))
            (count_with (only f) (unlike up g.turned) f (count-alone f) (dig_self f) ∙ ap bit (dig-unlike up g.turned f))
            (count_with (others mask taken f) (unlike up g.turned) k edge-one o ∙ ap bit (dig-unlike up g.turned k))

        not_turned : (k : ℕ) → dig (others mask taken f) k ≡ true → dig g.turned k ≡ false
        not_turned k o = never_true (dig g.turned k) (λ p. never (sym (h.turned_in_lem k p) ∙ edge_new z k o))

        new_right : (ts : List Bool) → oriented masks ups taken ts ≡ true → dig ts start ≡ false → (k : ℕ)
            → dig (others mask taken f) k ≡ true
            → not (unlike_ways (unlike up g.turned) f (others mask taken f)) ≡ dig ts k
        new_right ts c e k o =
            let q = left_out (both mask taken) f k o in
            let suit : xor (dig up f) (dig g.turned f) ≡ not (xor (dig up k) (dig ts k))
            = ap (xor (dig up f)) (h.right ts c e f rf) ∙ s ts c f k on q.0 (λ p. q.1 (sym p)) in
            ap not
            (ways_are k o ∙ ap (λ (x : Bool). xor (eqb (bit (xor (dig up f) (dig g.turned f))) 0) (eqb (bit (xor (dig up k) x)) 0))
            (not_turned k o))
            ∙ turn_is (xor (dig up f) (dig g.turned f)) (dig up k) (dig ts k) suit

        fair_new : Fair masks ups taken start (at_edge mask up taken f g)
        fair_new = record {
          in_taken = λ k p. taken_by_lem k (splits k p);
          in_reached =
              λ k p. edge_reached z k ∙ waits (dig g.waiting k) (dig g.reached k) (dig (others mask taken f) k) (h.in_reached k)
              (sym (edge_waiting z k) ∙ p);
          turned_in_lem =
              λ k p. edge_reached z k
              ∙ turns k (turned_split b g.turned (others mask taken f) k (sym (ap (λ (x : List Bool). dig x k) (edge_turned z)) ∙ p));
          low = edge_keeps start h.low;
          low_turned =
              ap (λ (x : List Bool). dig x start) (edge_turned z)
              ∙ turned_keep b g.turned (others mask taken f) start (not_new start h.low) ∙ h.low_turned;
          way = λ k p. way_by k (splits k p);
          right = λ ts c e k p. ap (λ (x : List Bool). dig x k) (edge_turned z) ∙ right_by ts c e k (splits k p);
        }
          where
            b : Bool
            b = unlike_ways (unlike up g.turned) f (others mask taken f)

            splits : (k : ℕ) → dig (at_edge mask up taken f g).reached k ≡ true
                → (dig g.reached k ≡ true) ⊎ (dig (others mask taken f) k ≡ true)
            splits k p = or_cases (dig g.reached k) (dig (others mask taken f) k) (sym (edge_reached z k) ∙ p)

            not_new : (k : ℕ) → dig g.reached k ≡ true → dig (others mask taken f) k ≡ false
            not_new k p = never_true (dig (others mask taken f) k) (λ o. never (sym p ∙ edge_new z k o))

            taken_by_lem : (k : ℕ) → (dig g.reached k ≡ true) ⊎ (dig (others mask taken f) k ≡ true) → dig taken k ≡ true
            taken_by_lem k (inl p) = h.in_taken k p
            taken_by_lem k (inr o) =
                let q = left_out (both mask taken) f k o in
                and_right (dig mask k) (dig taken k) (sym (dig-both mask taken k) ∙ q.0)

            waits : (w r o : Bool) → (w ≡ true → r ≡ true) → (w || o) ≡ true → (r || o) ≡ true
            waits true r o a p = or_left r o (a refl)
            waits false r o a p = or_right r o p

            turns : (k : ℕ) → (dig g.turned k ≡ true) ⊎ (dig (others mask taken f) k ≡ true)
                → (dig g.reached k || dig (others mask taken f) k) ≡ true
            turns k (inl p) = or_left (dig g.reached k) (dig (others mask taken f) k) (h.turned_in_lem k p)
            turns k (inr o) = or_right (dig g.reached k) (dig (others mask taken f) k) o

            way_by : (k : ℕ) → (dig g.reached k ≡ true) ⊎ (dig (others mask taken f) k ≡ true) → MaskWay masks taken start k
            way_by k (inl p) = h.way k p
            way_by k (inr o) = let q = left_out (both mask taken) f k o in across mask f (h.way f rf) i on q.0

            right_by : (ts : List Bool) → oriented masks ups taken ts ≡ true → dig ts start ≡ false → (k : ℕ)
                → (dig g.reached k ≡ true) ⊎ (dig (others mask taken f) k ≡ true)
                → dig (cond b g.turned (either g.turned (others mask taken f))) k ≡ dig ts k
            right_by ts c e k (inl p) = turned_keep b g.turned (others mask taken f) k (not_new k p) ∙ h.right ts c e k p
            right_by ts c e k (inr o) = turned_new b g.turned (others mask taken f) k o (not_turned k o) ∙ new_right ts c e k o

      pub edge_fair : Fair masks ups taken start (at_edge mask up taken f g)
      edge_fair = go (ℕ_discrete (count (both g.reached (others mask taken f))) 0)
        where
          go : Dec (count (both g.reached (others mask taken f)) ≡ 0) → Fair masks ups taken start (at_edge mask up taken f g)
          go (yes z) = fair_new z
          go (no n) = subst (λ (x : Going). Fair masks ups taken start x) (sym (edge_not n)) h

-- ---- what is still to go does not grow, whatever the masks are

count-either : (a b : List Bool) → count (either a b) ≤ count a + count b
unfolding count either
count-either [] b = omega arith
count-either (x ∷ a) [] = omega arith
count-either (true ∷ a) (true ∷ b) = omega (arith, count-either a b)
count-either (true ∷ a) (false ∷ b) = omega (arith, count-either a b)
count-either (false ∷ a) (true ∷ b) = omega (arith, count-either a b)
count-either (false ∷ a) (false ∷ b) = omega (arith, count-either a b)

pub edge_togo : (mask up taken : List Bool) (f : ℕ) (g : Going) → to_go taken (at_edge mask up taken f g) ≤ to_go taken g
unfolding to_go
edge_togo mask up taken f g = go (ℕ_discrete (count (both g.reached (others mask taken f))) 0)
  where
    go : Dec (count (both g.reached (others mask taken f)) ≡ 0)
        → count (less taken (at_edge mask up taken f g).reached) + count (at_edge mask up taken f g).waiting ≤ count
        (less taken g.reached) + count g.waiting
    go (no n) = rw (edge_not mask up taken f g n) (omega arith)
    go (yes z) =
        let a : count (less taken (at_edge mask up taken f g).reached) ≤ count (less (less taken g.reached) (others mask taken f))
        = count-le (less taken (at_edge mask up taken f g).reached) (less (less taken g.reached) (others mask taken f)) (λ k h.
        dig-less (less taken g.reached) (others mask taken f) k
        ∙ ap (λ (x : Bool). x && not (dig (others mask taken f) k)) (dig-less taken g.reached k)
        ∙ apart (dig taken k) (dig g.reached k) (dig (others mask taken f) k)
        (sym (dig-less taken (at_edge mask up taken f g).reached k
        ∙ ap (λ (x : Bool). dig taken k && not x) (edge_reached mask up taken f g z k)) ∙ h)) in
        let b : count (others mask taken f) ≤ count (both (less taken g.reached) (others mask taken f))
        = count-le (others mask taken f) (both (less taken g.reached) (others mask taken f)) (λ k h.
        let q = left_out (both mask taken) f k h in
        let t : dig taken k ≡ true = and_right (dig mask k) (dig taken k) (sym (dig-both mask taken k) ∙ q.0) in
        dig-both (less taken g.reached) (others mask taken f) k
        ∙ and_both (dig-less taken g.reached k ∙ and_both t (ap not (edge_new mask up taken f g z k h))) h) in
        let c : count (at_edge mask up taken f g).waiting ≤ count (either g.waiting (others mask taken f))
        = count-le (at_edge mask up taken f g).waiting (either g.waiting (others mask taken f))
        (λ k h. dig-either g.waiting (others mask taken f) k ∙ sym (edge_waiting mask up taken f g z k) ∙ h) in
        omega
        (arith, a, b, c, count_split (less taken g.reached) (others mask taken f), count-either g.waiting (others mask taken f))
      where
        apart : (t r o : Bool) → (t && not (r || o)) ≡ true → ((t && not r) && not o) ≡ true
        apart true true o e = e
        apart true false o e = e
        apart false r o e = e
