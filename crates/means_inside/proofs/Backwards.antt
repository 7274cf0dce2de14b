-- A ring run backwards: the same sides, each the other way, and so the same answer.
-- The way from x along l to e, run backwards, is the way from e along the reversed l to x; and a side counts the same from either end.
use mathlib.Core.Path.{◌≡◌, refl, sym, ◌∙◌, ap, subst}
use mathlib.Core.Bool.{Bool, xor}
use mathlib.Core.Logic.{◌⊎◌, inl, inr}
use mathlib.Core.List.{List, [], ◌∷◌, ◌++◌, map, reverse, reverse-cons}
use lib.IntN.{ℤ}
use Rattle.paper.specs.Polygon.{crosses}
use Rattle.paper.specs.declared.Flat.{Flat}
use Rattle.means_area.specs.Rings.{TheTwo, Chain, Link}
use Rattle.means_area.proofs.Space.Maps.{map_link}
use Rattle.means_area.proofs.Flats.Chains.{chain_split, chain_left, chain_right}
use Rattle.means_area.proofs.Flats.Lowest.{pair_swap}
use Rattle.means_inside.specs.Beams.{odd_along, round, odd}
use Rattle.means_inside.specs.Touch.{Touch}
use Rattle.means_inside.specs.Means.{big}
use Rattle.means_inside.specs.Theorems.{AnyWay}
use Rattle.means_inside.proofs.Parity.{xor_comm, walk_split, round_turned, odd-round}
use Rattle.means_inside.proofs.Scale.{crosses_back, odd_is}
use Rattle.means_inside.proofs.Form.{turn_link}
use Rattle.means_inside.proofs.Sides.{link_onto}
use Rattle.means_inside.proofs.Inside.{agree}

module _ (f : Flat → Flat → Bool) (sy : (a b : Flat) → f a b ≡ f b a) where
  walk_back : (x : Flat) (l : List Flat) (e : Flat) → odd_along f x (reverse l) e ≡ odd_along f e l x
  walk_back x [] e = sy x e
  walk_back x (y ∷ l) e =
      ap (λ (t : List Flat). odd_along f x t e) (reverse-cons y l) ∙ walk_split f x (reverse l) y [] e
      ∙ (λ i. xor (walk_back x l y i) (sy y e i)) ∙ xor_comm (odd_along f y l x) (f e y)

  -- with the first corner last, and first again
  last_first : (x : Flat) (l : List Flat) → round f (l ++ x ∷ []) ≡ round f (x ∷ l)
  last_first x [] = refl
  last_first x (y ∷ r) = round_turned f y r x []

  round_back : (g : List Flat) → round f (reverse g) ≡ round f g
  round_back [] = refl
  round_back (x ∷ l) = ap (round f) (reverse-cons x l) ∙ last_first x (reverse l) ∙ walk_back x l x

-- ---- the links
chain_reverse : (x : Flat) (l : List Flat) (e p q : Flat) → Chain x (reverse l) e p q → Chain e l x p q
chain_reverse x [] e p q c = pair_swap x e p q c
chain_reverse x (y ∷ l) e p q c =
    go (λ d. chain_reverse x l y p q d)
    (chain_split x (reverse l) y [] e p q (subst (λ (t : List Flat). Chain x t e p q) (reverse-cons y l) c))
  where
    go : (Chain x (reverse l) y p q → Chain y l x p q) → Chain x (reverse l) y p q ⊎ TheTwo y e p q → TheTwo e y p q ⊎ Chain y l x p q
    go f (inl d) = inr (f d)
    go f (inr d) = inl (pair_swap y e p q d)

reverse_chain : (x : Flat) (l : List Flat) (e p q : Flat) → Chain e l x p q → Chain x (reverse l) e p q
reverse_chain x [] e p q c = pair_swap e x p q c
reverse_chain x (y ∷ l) e p q c =
    subst (λ (t : List Flat). Chain x t e p q) (sym (reverse-cons y l)) (go (λ d. reverse_chain x l y p q d) c)
  where
    go : (Chain y l x p q → Chain x (reverse l) y p q) → TheTwo e y p q ⊎ Chain y l x p q → Chain x (reverse l ++ y ∷ []) e p q
    go f (inl d) = chain_right x (reverse l) y [] e p q (pair_swap e y p q d)
    go f (inr d) = chain_left x (reverse l) y [] e p q (f d)

module _ (m : ℤ) (p q : Flat) where
  link_first : (x : Flat) (l : List Flat) → Link (l ++ x ∷ []) p q → Link (x ∷ l) p q
  link_first x [] c = c
  link_first x (y ∷ r) c = turn_link m y r x [] p q c

  link_last : (x : Flat) (l : List Flat) → Link (x ∷ l) p q → Link (l ++ x ∷ []) p q
  link_last x [] c = c
  link_last x (y ∷ r) c = turn_link m x [] y r p q c

  link_reverse : (g : List Flat) → Link (reverse g) p q → Link g p q
  link_reverse [] c = c
  link_reverse (x ∷ l) c =
      chain_reverse x l x p q (link_first x (reverse l) (subst (λ (t : List Flat). Link t p q) (reverse-cons x l) c))

  reverse_link : (g : List Flat) → Link g p q → Link (reverse g) p q
  reverse_link [] c = c
  reverse_link (x ∷ l) c =
      subst (λ (t : List Flat). Link t p q) (sym (reverse-cons x l)) (link_last x (reverse l) (reverse_chain x l x p q c))

-- run backwards: of any ring
pub any_way : AnyWay
any_way d k g p =
    agree d k p p (reverse g) g (touch (reverse g) g (λ a b. link_reverse d a b g)) (touch g (reverse g) (λ a b. reverse_link d a b g))
    (λ c c'. odds)
  where
    touch : (r s : List Flat) → ((a b : Flat) → Link r a b → Link s a b) → Touch p (map (big d) r) → Touch p (map (big d) s)
    touch r s f t =
        let w = map_link (big d) r t.a t.b t.side in
        record {
          a = t.a;
          b = t.b;
          side = subst (λ (z : Flat). Link (map (big d) s) z t.b) (sym w.3)
              (subst (λ (z : Flat). Link (map (big d) s) (big d w.0) z) (sym w.4)
              (link_onto (big d) s w.0 w.1 (f w.0 w.1 w.2)));
          line = t.line;
          mid = t.mid;
        }

    count : (r : List Flat) → odd p (map (big d) r) ≡ round (crosses p d) r
    count r = sym (odd_is p d k r) ∙ odd-round (crosses p d) r

    odds : odd p (map (big d) (reverse g)) ≡ odd p (map (big d) g)
    odds = count (reverse g) ∙ round_back (crosses p d) (crosses_back p d k) g ∙ sym (count g)
