-- The directions that the spread gives are forced: directions by which each edge is run once each way, with the first face not turned,
-- are
-- the spread's, wherever it reaches.
use mathlib.Core.Bool.{Bool, true, false, not, ◌&&◌, cond, xor, and_comm, and-false}
use mathlib.Core.List.{List, [], ◌∷◌}
use mathlib.Core.Logic.{◌⊎◌, inl, inr}
use mathlib.Core.Path.{◌≡◌, refl, sym, ap, ap₂, ◌∙◌}
use Prim.Native.Nat.{ℕ}
use lib.Dec.{eqb}
use borrow.Author.Tests.{eqb-true}
use Rattle.lists.proofs.Truth.{and_right, and_both, and_same}
use Rattle.sets.specs.Word.{dig, Sub, count, both, less, first}
use Rattle.paper.specs.Solids.{Reach, unlike, connected, once_each_way, oriented}
use Rattle.means_leaf.specs.Meaning.{faces, SameTurned, TurnedRound}
use Rattle.sets.proofs.Digits.{dig-both, dig-less, count_same, count_none}
use Rattle.means_leaf.proofs.Unlike.{dig-unlike}
use Rattle.means_leaf.proofs.Directions.{faces-right}

-- ---- directions of the taken are all that counts, and all of them turned are as good
mine_taken : (mask taken : List Bool) (k : ℕ) → dig (both mask taken) k ≡ true → dig taken k ≡ true
mine_taken mask taken k e = and_right (dig mask k) (dig taken k) (sym (dig-both mask taken k) ∙ e)

xor_not : (x y : Bool) → xor x (not y) ≡ not (xor x y)
unfolding xor
xor_not true true = refl
xor_not true false = refl
xor_not false true = refl
xor_not false false = refl

not-not : (x : Bool) → not (not x) ≡ x
not-not true = refl
not-not false = refl

module _ (mask up taken s t : List Bool) where
  once_alike : SameTurned taken s t → once_each_way mask up taken s ≡ once_each_way mask up taken t
  unfolding once_each_way
  once_alike h =
      ap₂ (λ (m n : ℕ). eqb m 1 && eqb n 1)
      (count_same (both (both mask taken) (unlike up s)) (both (both mask taken) (unlike up t))
      (λ k. dig-both (both mask taken) (unlike up s) k
      ∙ and_same (dig (both mask taken) k) (same k)
      ∙ sym (dig-both (both mask taken) (unlike up t) k)))
      (count_same (less (both mask taken) (unlike up s)) (less (both mask taken) (unlike up t))
      (λ k. dig-less (both mask taken) (unlike up s) k
      ∙ and_same (dig (both mask taken) k) (λ e. ap not (same k e))
      ∙ sym (dig-less (both mask taken) (unlike up t) k)))
    where
      same : (k : ℕ) → dig (both mask taken) k ≡ true → dig (unlike up s) k ≡ dig (unlike up t) k
      same k e = dig-unlike up s k ∙ ap (xor (dig up k)) (h k (mine_taken mask taken k e)) ∙ sym (dig-unlike up t k)

  pub once_opposite : TurnedRound taken s t → once_each_way mask up taken s ≡ once_each_way mask up taken t
  unfolding once_each_way
  once_opposite h =
      ap₂ (λ (m n : ℕ). eqb m 1 && eqb n 1)
      (count_same (both (both mask taken) (unlike up s)) (less (both mask taken) (unlike up t))
      (λ k. dig-both (both mask taken) (unlike up s) k
      ∙ and_same (dig (both mask taken) k) (flip k) ∙ sym (dig-less (both mask taken) (unlike up t) k)))
      (count_same (less (both mask taken) (unlike up s)) (both (both mask taken) (unlike up t))
      (λ k. dig-less (both mask taken) (unlike up s) k
      ∙ and_same (dig (both mask taken) k) (λ e. ap not (flip k e) ∙ not-not (dig (unlike up t) k))
      ∙ sym (dig-both (both mask taken) (unlike up t) k)))
      ∙ and_comm (eqb (count (less (both mask taken) (unlike up t))) 1) (eqb (count (both (both mask taken) (unlike up t))) 1)
    where
      flip : (k : ℕ) → dig (both mask taken) k ≡ true → dig (unlike up s) k ≡ not (dig (unlike up t) k)
      flip k e =
          dig-unlike up s k ∙ ap (xor (dig up k)) (h k (mine_taken mask taken k e)) ∙ xor_not (dig up k) (dig t k)
          ∙ sym (ap not (dig-unlike up t k))

module _ (taken s t : List Bool) where
  oriented_by : ((mask up : List Bool) → once_each_way mask up taken s ≡ once_each_way mask up taken t) → (masks ups : List (List Bool))
      → oriented masks ups taken s ≡ oriented masks ups taken t
  unfolding oriented
  oriented_by h [] ups = refl
  oriented_by h (mask ∷ masks) [] = refl
  oriented_by h (mask ∷ masks) (up ∷ ups) = ap₂ (λ (b c : Bool). cond b c false) (h mask up) (oriented_by h masks ups)

  pub oriented_alike : SameTurned taken s t → (masks ups : List (List Bool)) → oriented masks ups taken s ≡ oriented masks ups taken t
  oriented_alike h = oriented_by (λ mask up. once_alike mask up taken s t h)

  pub oriented-opposite : TurnedRound taken s t → (masks ups : List (List Bool)) → oriented masks ups taken s ≡ oriented masks ups taken t
  oriented-opposite h = oriented_by (λ mask up. once_opposite mask up taken s t h)

-- all are reached
pub all_reached : (taken : List Bool) (r : Reach) → connected taken r ≡ true → Sub taken r.reached
unfolding connected
all_reached taken r e k h = go (dig r.reached k) refl
  where
    go : (b : Bool) → dig r.reached k ≡ b → b ≡ true
    go true p = refl
    go false p =
        absurd
        (count_none (less taken r.reached) (eqb-true (count (less taken r.reached)) 0 e) k
        (dig-less taken r.reached k ∙ and_both h (ap not p)))

-- (iii): where the faces are connected and can be given directions so that each edge is run once each way, the spread's are such, and
-- there
-- are no others than these and all of them turned
pub directions : (masks ups : List (List Bool)) (taken : List Bool) → connected taken (faces masks ups taken) ≡ true → (ts : List Bool)
    → oriented masks ups taken ts ≡ true
    → (oriented masks ups taken (faces masks ups taken).turned ≡ true)
    × (SameTurned taken ts (faces masks ups taken).turned ⊎ TurnedRound taken ts (faces masks ups taken).turned)
directions masks ups taken c ts o = go (dig ts (first taken)) refl
  where
    agree : (s : List Bool) → oriented masks ups taken s ≡ true → dig s (first taken) ≡ false
        → SameTurned taken s (faces masks ups taken).turned
    agree s p e k h = sym ((faces-right masks ups taken s p e).right k (all_reached taken (faces masks ups taken) c k h))

    other : TurnedRound taken (less taken ts) ts
    other k h = dig-less taken ts k ∙ ap (λ (x : Bool). x && not (dig ts k)) h

    go : (b : Bool) → dig ts (first taken) ≡ b
        → (oriented masks ups taken (faces masks ups taken).turned ≡ true)
        × (SameTurned taken ts (faces masks ups taken).turned ⊎ TurnedRound taken ts (faces masks ups taken).turned)
    go false e = (sym (oriented_alike taken ts (faces masks ups taken).turned (agree ts o e) masks ups) ∙ o, inl (agree ts o e))
    go true e =
        let p : oriented masks ups taken (less taken ts) ≡ true = oriented-opposite taken (less taken ts) ts other masks ups ∙ o in
        let z : dig (less taken ts) (first taken) ≡ false = dig-less taken ts (first taken)
        ∙ ap (λ (x : Bool). dig taken (first taken) && not x) e ∙ and-false (dig taken (first taken)) in
        let a : SameTurned taken (less taken ts) (faces masks ups taken).turned = agree (less taken ts) p z in (
          sym (oriented_alike taken (less taken ts) (faces masks ups taken).turned a masks ups) ∙ p,
          inr (λ k h. sym (not-not (dig ts k)) ∙ ap not (sym (other k h) ∙ a k h)),
        )
