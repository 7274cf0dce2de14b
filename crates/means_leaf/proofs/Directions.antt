-- The turned are reached, and each face that is reached has the direction that the edges ask.
use mathlib.Core.Bool.{Bool, true, false, not, ◌&&◌, ◌||◌, cond, xor, and-false}
use mathlib.Core.List.{List, [], ◌∷◌}
use mathlib.Core.Path.{◌≡◌, refl, sym, ap, ap₂, ◌∙◌, subst}
use Prim.Native.Nat.{ℕ, zero, suc}
use native.Mathlib.Omega.{arith}
use native.Mathlib.Decide.{ℕ_discrete}
use lib.Dec.{eqb}
use borrow.Author.Tests.{not-true, eq-eqb, ne_eqb, eqb-true}
use Rattle.lists.proofs.Truth.{and_left, and_right, and_both}
use Rattle.sets.specs.Word.{bit, dig, Sub, count, both, less, first}
use Rattle.paper.specs.Solids.{Reach, unlike, fresh, reached_on, runs_down, across_edge, pass, spread, once_each_way, oriented}
use Rattle.means_leaf.specs.Meaning.{from_lowest_taken, faces}
use Rattle.sets.proofs.Digits.{never, dig-both, dig-either, dig-less, dig-only, count-one, count_with, first_in}
use Rattle.means_leaf.proofs.Unlike.{dig-unlike}

-- ---- what an edge asks of two faces
abbrev pub Suits : List Bool → List Bool → List Bool → List Bool → Type 0
Suits mask up taken ts =
    (f g : ℕ) → dig (both mask taken) f ≡ true → dig (both mask taken) g ≡ true → (f ≡ g → ⊥)
    → xor (dig up f) (dig ts f) ≡ not (xor (dig up g) (dig ts g))

pub once_suits : (mask up taken ts : List Bool) → once_each_way mask up taken ts ≡ true → Suits mask up taken ts
unfolding once_each_way
once_suits mask up taken ts e f g hf hg n =
    go (dig (unlike up ts) f) (dig (unlike up ts) g) refl refl ∙ sym (ap not (sym (dig-unlike up ts g)))
  where
    mine : List Bool
    mine = both mask taken

    ahead : count (both mine (unlike up ts)) ≡ 1
    ahead =
        eqb-true (count (both mine (unlike up ts))) 1
        (and_left (eqb (count (both mine (unlike up ts))) 1) (eqb (count (less mine (unlike up ts))) 1) e)

    back : count (less mine (unlike up ts)) ≡ 1
    back =
        eqb-true (count (less mine (unlike up ts))) 1
        (and_right (eqb (count (both mine (unlike up ts))) 1) (eqb (count (less mine (unlike up ts))) 1) e)

    go : (x y : Bool) → dig (unlike up ts) f ≡ x → dig (unlike up ts) g ≡ y → xor (dig up f) (dig ts f) ≡ not (dig (unlike up ts) g)
    go true true p q =
        absurd
        (n
        (count-one (both mine (unlike up ts)) ahead f g (dig-both mine (unlike up ts) f ∙ and_both hf p)
        (dig-both mine (unlike up ts) g ∙ and_both hg q)))
    go true false p q = sym (dig-unlike up ts f) ∙ p ∙ sym (ap not q)
    go false true p q = sym (dig-unlike up ts f) ∙ p ∙ sym (ap not q)
    go false false p q =
        absurd
        (n
        (count-one (less mine (unlike up ts)) back f g (dig-less mine (unlike up ts) f ∙ and_both hf (ap not p))
        (dig-less mine (unlike up ts) g ∙ and_both hg (ap not q))))

-- ---- the turned are reached, and each reached has its direction
pub record Right (ts : List Bool) (r : Reach) : Type 0 where
  pub within : Sub r.turned r.reached
  pub right : (k : ℕ) → dig r.reached k ≡ true → dig r.turned k ≡ dig ts k

-- an edge of which the one face f is reached, and g is fresh: g's direction
turn_of : (uf ug tf tg : Bool) → xor uf tf ≡ not (xor ug tg) → cond (eqb (bit uf) (bit tf)) (not ug) ug ≡ tg
unfolding xor
turn_of true true true true e = never (sym e)
turn_of true true true false e = refl
turn_of true true false true e = refl
turn_of true true false false e = never e
turn_of true false true true e = refl
turn_of true false true false e = never (sym e)
turn_of true false false true e = never e
turn_of true false false false e = refl
turn_of false true true true e = refl
turn_of false true true false e = never e
turn_of false true false true e = never (sym e)
turn_of false true false false e = refl
turn_of false false true true e = never e
turn_of false false true false e = refl
turn_of false false false true e = refl
turn_of false false false false e = never (sym e)

-- ---- over an edge, digit by digit
pub known-dig : (mask taken : List Bool) (r : Reach) (k : ℕ) → dig (reached_on mask taken r) k ≡ dig (both mask taken) k && dig r.reached k
unfolding reached_on
known-dig mask taken r k = dig-both (both mask taken) r.reached k

pub fresh-dig : (mask taken : List Bool) (r : Reach) (k : ℕ)
    → dig (fresh mask taken r) k ≡ dig (both mask taken) k && not (dig r.reached k)
unfolding fresh
fresh-dig mask taken r k = dig-less (both mask taken) r.reached k

picked_dig : (d : Bool) (fr up : List Bool) (k : ℕ) → dig (cond d (less fr up) (both fr up)) k ≡ dig fr k && cond d (not (dig up k))
    (dig up k)
picked_dig true fr up k = dig-less fr up k
picked_dig false fr up k = dig-both fr up k

-- what is turned was reached, or is new
pub reached_within : (x y z p : Bool) → (x ≡ true → z ≡ true) → (x || (y && p)) ≡ true → (z || y) ≡ true
reached_within x y true p a e = refl
reached_within x true false p a e = refl
reached_within true false false p a e = never (sym (a refl))
reached_within false false false p a e = e

module _ (mask up taken : List Bool) (r : Reach) where
  pub over_not : (count (reached_on mask taken r) ≡ 1 → ⊥) → across_edge mask up taken r ≡ r
  unfolding across_edge
  over_not n = rw (ne_eqb (count (reached_on mask taken r)) 1 n)

  module _ (one : count (reached_on mask taken r) ≡ 1) where
    pub reached_dig : (k : ℕ) → dig (across_edge mask up taken r).reached k ≡ dig r.reached k || dig (fresh mask taken r) k
    unfolding across_edge
    reached_dig k = rw (eq-eqb (count (reached_on mask taken r)) 1 one) (dig-either r.reached (fresh mask taken r) k)

    pub turned_dig : (k : ℕ)
        → dig (across_edge mask up taken r).turned k ≡ dig r.turned
        k || (dig (fresh mask taken r) k && cond (runs_down mask up taken r) (not (dig up k)) (dig up k))
    unfolding across_edge
    turned_dig k =
        rw (eq-eqb (count (reached_on mask taken r)) 1 one)
        (dig-either r.turned (cond (runs_down mask up taken r) (less (fresh mask taken r) up) (both (fresh mask taken r) up)) k
        ∙ ap (λ (x : Bool). dig r.turned k || x) (picked_dig (runs_down mask up taken r) (fresh mask taken r) up k))

    here_known : dig (reached_on mask taken r) (first (reached_on mask taken r)) ≡ true
    here_known = first_in (reached_on mask taken r) (λ e. omega arith)

    down_is : runs_down mask up taken r ≡ eqb (bit (dig up (first (reached_on mask taken r))))
        (bit (dig r.turned (first (reached_on mask taken r))))
    unfolding runs_down
    down_is =
        ap₂ eqb (count_with (reached_on mask taken r) up (first (reached_on mask taken r)) one here_known)
        (count_with (reached_on mask taken r) r.turned (first (reached_on mask taken r)) one here_known)

    module _ (ts : List Bool) (s : Suits mask up taken ts) (h : Right ts r) where
      f_mine : dig (both mask taken) (first (reached_on mask taken r)) ≡ true
      f_mine =
          and_left (dig (both mask taken) (first (reached_on mask taken r))) (dig r.reached (first (reached_on mask taken r)))
          (sym (known-dig mask taken r (first (reached_on mask taken r))) ∙ here_known)

      f_reached : dig r.reached (first (reached_on mask taken r)) ≡ true
      f_reached =
          and_right (dig (both mask taken) (first (reached_on mask taken r))) (dig r.reached (first (reached_on mask taken r)))
          (sym (known-dig mask taken r (first (reached_on mask taken r))) ∙ here_known)

      -- a fresh face gets its direction
      fresh-right : (k : ℕ) → dig (fresh mask taken r) k ≡ true → cond (runs_down mask up taken r) (not (dig up k)) (dig up k) ≡ dig ts k
      fresh-right k e =
          let mine : dig (both mask taken) k ≡ true = and_left (dig (both mask taken) k) (not (dig r.reached k))
          (sym (fresh-dig mask taken r k) ∙ e) in
          let out : dig r.reached k ≡ false = not-true (dig r.reached k)
          (and_right (dig (both mask taken) k) (not (dig r.reached k)) (sym (fresh-dig mask taken r k) ∙ e)) in
          let apart : first (reached_on mask taken r) ≡ k
          → ⊥ = λ q. never (sym (subst (λ (x : ℕ). dig r.reached x ≡ true) q f_reached) ∙ out) in
          ap (λ (x : Bool). cond x (not (dig up k)) (dig up k))
          (down_is
          ∙ ap (λ (x : Bool). eqb (bit (dig up (first (reached_on mask taken r)))) (bit x)) (h.right (first (reached_on mask taken r)) f_reached))
          ∙ turn_of (dig up (first (reached_on mask taken r))) (dig up k) (dig ts (first (reached_on mask taken r))) (dig ts k)
          (s (first (reached_on mask taken r)) k f_mine mine apart)

      turned_right : (x y z t : Bool) → (x ≡ true → z ≡ true) → (z ≡ true → x ≡ t) → {p : Bool} → (y ≡ true → p ≡ t) → (z || y) ≡ true
          → (z ≡ true → y ≡ false) → (x || (y && p)) ≡ t
      turned_right true y true t a b c d e = b refl
      turned_right true y false t a b c d e = never (sym (a refl))
      turned_right false true true t a b c d e = never (e refl)
      turned_right false true false t a b c d e = c refl
      turned_right false false true t a b c d e = b refl
      turned_right false false false t a b c d e = never (sym d)

      fresh_out : (k : ℕ) → dig r.reached k ≡ true → dig (fresh mask taken r) k ≡ false
      fresh_out k e = fresh-dig mask taken r k ∙ ap (λ (x : Bool). dig (both mask taken) k && not x) e ∙ and-false (dig (both mask taken) k)

      over-one : Right ts (across_edge mask up taken r)
      over-one = record {
        within =
            λ k e. reached_dig k ∙ reached_within (dig r.turned k) (dig (fresh mask taken r) k) (dig r.reached k)
            (cond (runs_down mask up taken r) (not (dig up k)) (dig up k)) (h.within k) (sym (turned_dig k) ∙ e);
        right =
            λ k e. turned_dig k ∙ turned_right (dig r.turned k) (dig (fresh mask taken r) k) (dig r.reached k) (dig ts k)
            (h.within k) (h.right k) (fresh-right k) (sym (reached_dig k) ∙ e) (fresh_out k);
      }

  over-right : (ts : List Bool) → Suits mask up taken ts → Right ts r → Right ts (across_edge mask up taken r)
  over-right ts s h = go (ℕ_discrete (count (reached_on mask taken r)) 1)
    where
      go : Dec (count (reached_on mask taken r) ≡ 1) → Right ts (across_edge mask up taken r)
      go (yes e) = over-one e ts s h
      go (no n) = subst (λ (x : Reach). Right ts x) (sym (over_not n)) h

-- ---- over all edges, and again and again
pub oriented_here : (mask up : List Bool) (masks ups : List (List Bool)) (taken ts : List Bool)
    → oriented (mask ∷ masks) (up ∷ ups) taken ts ≡ true → (once_each_way mask up taken ts ≡ true) × (oriented masks ups taken ts ≡ true)
unfolding oriented
oriented_here mask up masks ups taken ts e = go (once_each_way mask up taken ts) e
  where
    go : (b : Bool) → cond b (oriented masks ups taken ts) false ≡ true → (b ≡ true) × (oriented masks ups taken ts ≡ true)
    go true e = (refl, e)
    go false e = never (sym e)

pub pass-right : (masks ups : List (List Bool)) (taken ts : List Bool) → oriented masks ups taken ts ≡ true → (r : Reach) → Right ts r
    → Right ts (pass masks ups taken r)
unfolding pass
pass-right [] ups taken ts o r h = h
pass-right (mask ∷ masks) [] taken ts o r h = h
pass-right (mask ∷ masks) (up ∷ ups) taken ts o r h =
    let q = oriented_here mask up masks ups taken ts o in
    pass-right masks ups taken ts q.1 (across_edge mask up taken r)
    (over-right mask up taken r ts (once_suits mask up taken ts q.0) h)

pub spread-right : (n : ℕ) (masks ups : List (List Bool)) (taken ts : List Bool) → oriented masks ups taken ts ≡ true → (r : Reach)
    → Right ts r → Right ts (spread n masks ups taken r)
unfolding spread
spread-right zero masks ups taken ts o r h = h
spread-right (suc n) masks ups taken ts o r h =
    let next = pass-right masks ups taken ts o r h in
    go (eqb (count (pass masks ups taken r).reached) (count r.reached)) next
    (spread-right n masks ups taken ts o (pass masks ups taken r) next)
  where
    go : (b : Bool) → Right ts (pass masks ups taken r) → Right ts (spread n masks ups taken (pass masks ups taken r))
        → Right ts (cond b (pass masks ups taken r) (spread n masks ups taken (pass masks ups taken r)))
    go true p q = p
    go false p q = q

start_right : (taken ts : List Bool) → dig ts (first taken) ≡ false → Right ts (from_lowest_taken taken)
start_right taken ts e = record {
  within = λ k p. never (sym p);
  right = λ k p. sym (ap (dig ts) (dig-only (first taken) k p) ∙ e);
}

pub faces-right : (masks ups : List (List Bool)) (taken ts : List Bool) → oriented masks ups taken ts ≡ true
    → dig ts (first taken) ≡ false
    → Right ts (faces masks ups taken)
unfolding faces
faces-right masks ups taken ts o e = spread-right (count taken) masks ups taken ts o (from_lowest_taken taken) (start_right taken ts e)
