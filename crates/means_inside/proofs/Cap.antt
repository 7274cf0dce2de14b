-- At the lowest corner v: the points of the triangle of v and its neighbours that no corner is beyond are inside.
use mathlib.Core.Path.{◌≡◌, refl, sym, ◌∙◌, ap, subst}
use mathlib.Core.Bool.{true, false, xor}
use mathlib.Core.Logic.{inl, inr}
use mathlib.Core.List.{List, ◌∷◌}
use lib.IntN.{ℤ, neg_ℤ}
use lib.Signed.{◌≤ℤ◌, ◌<ℤ◌, <ℤ_irrefl}
use Rattle.paper.specs.declared.Flat.{Flat}
use Rattle.means_area.specs.Rings.{Of, Link}
use Rattle.means_area.specs.Flats.{Up, Nn, twice_area, height, Net, Simple, Least, lst}
use Rattle.means_area.proofs.Flats.Signs.{up_is, up_nn, nn_is}
use Rattle.means_area.proofs.Flats.Turns.{In, spin, flip}
use Rattle.means_area.proofs.Flats.Net.{diagonal, higher}
use Rattle.means_area.proofs.Flats.Choice.{Hit, in_sense}
use Rattle.means_area.proofs.Flats.First.{first_link, last_link}
use Rattle.means_area.proofs.Flats.Chains.{lst_of}
use Rattle.means_inside.specs.Beams.{round, right, beam, OffEverySide, odd, Seen}
use Rattle.means_inside.proofs.Beams.{low-is, low_no}
use Rattle.means_inside.proofs.Fan.{fan}
use Rattle.means_inside.proofs.Triangle.{self_up, by_ray}

module _ (m : ℤ) where
  -- what is seen from v, of any links
  module _ (L : Flat → Flat → Type 0) (Corner : Flat → Type 0) (net : Net m L Corner) (v a b : Flat) (va : L v a) (vb : L v b)
      (ha : height m v <ℤ height m a) (hb : height m v <ℤ height m b)
      (p : Flat) (i : In v a b p) (top : (r : Flat) → Corner r → In v a b r → twice_area a b r ≤ℤ twice_area a b p) where
    pub seen-from : (g : List Flat) → ((x y : Flat) → Link g x y → L x y) → ((x : Flat) → Of x g → Corner x) → Seen m v p g
    seen-from g f o =
        let D = in_sense v a b p i in
        let k = diagonal m L Corner net v a b D va vb ha hb p i top in
        record {
          up = higher m L Corner net v a b D va vb ha hb p i top;
          uncut = (λ x y l c. k.uncut (f x y l) c);
          bare = (λ x c q. k.bare (o x c) q);
        }

  -- the ray through a lower point
  pub by_low : (p v : Flat) (g : List Flat) → OffEverySide p g → height m v <ℤ height m p → odd p g ≡ round (beam p v) g
  by_low p v g c k = by_ray p v g c (self_up p v (λ e. <ℤ_irrefl (subst (λ (z : Flat). height m z <ℤ height m p) e k)))

  -- to the left of the way from p to v, and to the right
  pub on_left : (p v x : Flat) → Up (twice_area v x p) → right p v x ≡ false
  unfolding right
  on_left p v x k = low_no (twice_area p v x) (up_is (sym (spin p v x)) k)

  pub on_right : (p v x : Flat) → Nn (twice_area x v p) → right p v x ≡ true
  unfolding right
  on_right p v x k = low-is (twice_area p v x) (nn_is (flip x v p ∙ ap neg_ℤ (sym (spin p v x))) k)

  module _ (v x : Flat) (l : List Flat) (low : Least m v (x ∷ l)) (p : Flat) (c : OffEverySide p (v ∷ x ∷ l)) where
    -- between the neighbours
    pub fan_in : Seen m v p (v ∷ x ∷ l) → Up (twice_area v x p) → Up (twice_area (lst x l) v p) → odd p (v ∷ x ∷ l) ≡ true
    unfolding xor
    fan_in s hx hy =
        by_low p v (v ∷ x ∷ l) c s.up ∙ fan m p v x l low s ∙ (λ i. xor (on_left p v x hx i) (on_right p v (lst x l) (up_nn hy) i))

    pub fan_in' : Seen m v p (v ∷ x ∷ l) → Up (twice_area x v p) → Up (twice_area v (lst x l) p) → odd p (v ∷ x ∷ l) ≡ true
    unfolding xor
    fan_in' s hx hy =
        by_low p v (v ∷ x ∷ l) c s.up ∙ fan m p v x l low s ∙ (λ i. xor (on_right p v x (up_nn hx) i) (on_left p v (lst x l) hy i))

    module _ (s : Simple m (v ∷ x ∷ l)) where
      -- in the triangle, and no corner is farther
      pub cap : In v x (lst x l) p → ((r : Flat) → Of r (v ∷ x ∷ l) → In v x (lst x l) r → twice_area x (lst x l) r ≤ℤ twice_area x (lst x l) p)
          → odd p (v ∷ x ∷ l) ≡ true
      cap i top =
          fan_in
          (seen-from (Link (v ∷ x ∷ l)) (λ r. Of r (v ∷ x ∷ l)) s.net v x (lst x l) (first_link m v x l) (last_link m v x l)
          (low x (inl refl)) (low (lst x l) (lst_of x l)) p i top (v ∷ x ∷ l) (λ a b t. t) (λ a o. o)) i.by_b i.by_a

      pub cap' : In v (lst x l) x p → ((r : Flat) → Of r (v ∷ x ∷ l) → In v (lst x l) x r → twice_area (lst x l) x r ≤ℤ twice_area (lst x l) x p)
          → odd p (v ∷ x ∷ l) ≡ true
      cap' i top =
          fan_in'
          (seen-from (Link (v ∷ x ∷ l)) (λ r. Of r (v ∷ x ∷ l)) s.net v (lst x l) x (last_link m v x l) (first_link m v x l)
          (low (lst x l) (lst_of x l)) (low x (inl refl)) p i top (v ∷ x ∷ l) (λ a b t. t) (λ a o. o)) i.by_a i.by_b

      -- in an empty triangle
      pub ear_in : ((z : Flat) → Of z (v ∷ x ∷ l) → Hit v x (lst x l) z → ⊥) → Hit v x (lst x l) p → odd p (v ∷ x ∷ l) ≡ true
      ear_in e (inl i) = cap i (λ r o j. absurd (e r o (inl j)))
      ear_in e (inr i) = cap' i (λ r o j. absurd (e r o (inr j)))
