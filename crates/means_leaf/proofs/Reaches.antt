-- The spread reaches just those faces to which one can go from its start across shared edges.
use mathlib.Core.Bool.{Bool, true, false, not}
use mathlib.Core.List.{List, [], ◌∷◌}
use mathlib.Core.Logic.{◌⊎◌, inl, inr}
use mathlib.Core.Path.{◌≡◌, sym, ap, ◌∙◌, subst}
use Prim.Native.Nat.{ℕ}
use native.Mathlib.Decide.{ℕ_discrete}
use lib.ListN.{length}
use borrow.Author.Tests.{not-true, eq-eqb}
use Rattle.lists.proofs.Truth.{and_left, and_right, or_cases}
use Rattle.sets.specs.Word.{dig, Sub, count, both, less, only, first}
use Rattle.paper.specs.Solids.{Reach, fresh, reached_on, across_edge, pass, connected}
use Rattle.means_leaf.specs.Meaning.{faces, MaskInTwo, MaskWay, stay, across, Connected}
use Rattle.sets.proofs.Digits.{never, dig-both, dig-less, dig-only, count-empty, first_in}
use Rattle.means_leaf.proofs.Forced.{all_reached}
use Rattle.means_leaf.proofs.Spread.{all_from, spread_ways, whole-first, whole-edge}
use Rattle.means_leaf.proofs.Directions.{fresh-dig, over_not, reached_dig}

-- ---- ways
pub way_on : {masks : List (List Bool)} {taken : List Bool} {f g h : ℕ} → MaskWay masks taken f g → MaskWay masks taken g h → MaskWay masks taken f h
way_on w stay = w
way_on w (across mask k v i p q) = across mask k (way_on w v) i p q

pub way_back : {masks : List (List Bool)} {taken : List Bool} {f g : ℕ} → MaskWay masks taken f g → MaskWay masks taken g f
way_back stay = stay
way_back (across mask k v i p q) = way_on (across mask _ stay i q p) (way_back v)

-- ---- what is reached lies on a way from the start

pub reached_ways : (masks ups : List (List Bool)) (taken : List Bool) (f k : ℕ) → dig (all_from masks ups taken f).reached k ≡ true
    → MaskWay masks taken f k
reached_ways masks ups taken f =
    spread_ways masks taken (MaskWay masks taken f) (λ mask i g h p q w. across mask g w i p q) (count taken) ups
    (record { reached = only f; turned = [] }) (λ k p. subst (MaskWay masks taken f) (sym (dig-only f k p)) stay)

-- ---- only taken faces are reached

over_taken : (mask up taken : List Bool) (r : Reach) → Sub r.reached taken → Sub (across_edge mask up taken r).reached taken
over_taken mask up taken r s k h = go (ℕ_discrete (count (reached_on mask taken r)) 1)
  where
    more : (dig r.reached k ≡ true) ⊎ (dig (fresh mask taken r) k ≡ true) → dig taken k ≡ true
    more (inl p) = s k p
    more (inr p) =
        and_right (dig mask k) (dig taken k)
        (sym (dig-both mask taken k) ∙ and_left (dig (both mask taken) k) (not (dig r.reached k)) (sym (fresh-dig mask taken r k) ∙ p))

    go : Dec (count (reached_on mask taken r) ≡ 1) → dig taken k ≡ true
    go (yes e) = more (or_cases (dig r.reached k) (dig (fresh mask taken r) k) (sym (reached_dig mask up taken r e k) ∙ h))
    go (no n) = s k (sym (ap (λ (x : Reach). dig x.reached k) (over_not mask up taken r n)) ∙ h)

pub pass_taken : (masks ups : List (List Bool)) (taken : List Bool) (r : Reach) → Sub r.reached taken
    → Sub (pass masks ups taken r).reached taken
unfolding pass
pass_taken [] ups taken r s = s
pass_taken (mask ∷ masks) [] taken r s = s
pass_taken (mask ∷ masks) (up ∷ ups) taken r s = pass_taken masks ups taken (across_edge mask up taken r) (over_taken mask up taken r s)

-- ---- and whatever lies on a way from the start is reached

module _ (masks ups : List (List Bool)) (taken : List Bool) (l : length masks ≡ length ups) (two : MaskInTwo masks taken) where
  pub ways_reached : (f : ℕ) → dig taken f ≡ true → (k : ℕ) → MaskWay masks taken f k → dig (all_from masks ups taken f).reached k ≡ true
  ways_reached f here k stay = whole-first masks ups taken l two f here
  ways_reached f here k (across mask g w i p q) =
      whole-edge masks ups taken l two f here mask i g k p q (ways_reached f here g w)

  module _ (some : count taken ≡ 0 → ⊥) where
    -- (ii): all are reached just where one can go from any face to any other
    pub connected_ways : connected taken (faces masks ups taken) ≡ true → Connected masks taken
    unfolding faces
    connected_ways c f g hf hg =
        way_on (way_back (reached_ways masks ups taken (first taken) f (all_reached taken (faces masks ups taken) c f hf)))
        (reached_ways masks ups taken (first taken) g (all_reached taken (faces masks ups taken) c g hg))

    pub ways_connected : Connected masks taken → connected taken (faces masks ups taken) ≡ true
    unfolding connected faces
    ways_connected w =
        eq-eqb (count (less taken (faces masks ups taken).reached)) 0
        (count-empty (less taken (faces masks ups taken).reached) (λ k p.
        let t : dig taken k ≡ true = and_left (dig taken k) (not (dig (faces masks ups taken).reached k))
        (sym (dig-less taken (faces masks ups taken).reached k) ∙ p) in
        let out : dig (faces masks ups taken).reached k ≡ false = not-true (dig (faces masks ups taken).reached k)
        (and_right (dig taken k) (not (dig (faces masks ups taken).reached k)) (sym (dig-less taken (faces masks ups taken).reached k)
        ∙ p)) in
        never (sym (ways_reached (first taken) (first_in taken some) k (w (first taken) k (first_in taken some) t)) ∙ out)))
