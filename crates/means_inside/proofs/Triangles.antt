-- Of any triangulation: the ring's parity is the sum of its triangles', and a point that is odd is in one of them.
use mathlib.Core.Path.{◌≡◌, refl, ◌∙◌, ap}
use mathlib.Core.Bool.{Bool, xor}
use mathlib.Core.List.{List, [], ◌∷◌, ◌++◌}
use lib.IntN.{ℤ}
use Rattle.paper.specs.declared.Flat.{Flat}
use Rattle.means_area.specs.Flats.{lst}
use Rattle.means_inside.specs.Beams.{round}
use Rattle.means_inside.specs.Regions.{Cut, one, chord, ear, start, cut_hits}
use Rattle.means_inside.proofs.Parity.{round_turned, round-cut, round-ear}

module _ (m : ℤ) (f : Flat → Flat → Bool) (sy : (a b : Flat) → f a b ≡ f b a) where
  pub hits_are : (g : List Flat) (t : Cut m g) → round f g ≡ cut_hits f t
  hits_are _ (one a b c s) = refl
  hits_are _ (chord u l w r s x y) =
      round-cut f u l w r (sy w u) ∙ (λ i. xor (hits_are (u ∷ (l ++ w ∷ [])) x i) (hits_are (u ∷ w ∷ r) y i))
  hits_are _ (ear u c l s t x) = round-ear f u c l (sy (lst c l) c) ∙ ap (xor (round f (u ∷ c ∷ lst c l ∷ []))) (hits_are (c ∷ l) x)
  hits_are _ (start x l y r t) = round_turned f x l y r ∙ hits_are (y ∷ (r ++ x ∷ l)) t
