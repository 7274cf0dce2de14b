-- Steps that lay a drawing along the axes, one after the other: a move, and whether it mirrors.
use mathlib.Core.Path.{◌≡◌, refl, sym, ap, ◌∙◌}
use mathlib.Core.Bool.{Bool, true, false, not, cond}
use mathlib.Core.List.{List, [], ◌∷◌, map-id}
use lib.IntN.{pos, negsuc, ◌*ℤ◌}
use Rattle.exact.proofs.Laws.{one_*ℤ}
use Rattle.exact.proofs.Signs.{pos-ne}
use Rattle.paper.specs.Points.{dot}
use Rattle.paper.specs.Polygon.{over, lies}
use Rattle.paper.specs.declared.Point.{Point}
use Rattle.means_moves.specs.Moves.{Step, mirroring, exchanging, laid_step, laid, oddly, Move, Linear}
use Rattle.means_moves.proofs.Factors.{one_up}
use Rattle.means_moves.proofs.Mirror.{mirrors}
use Rattle.means_moves.proofs.Exchange.{exchanges}
use Rattle.means_moves.proofs.Linear.{linear, both}

-- no step at all
unfoldable pub still : Linear
still = record {
  to = λ p. p;
  across = λ p. p;
  dots_by = pos 1;
  crosses_by = pos 1;
  sides_by = pos 1;
  dots_up = one_up;
  crosses_up = one_up;
  sides_real = pos-ne one_up;
  sums = λ p q. refl;
  multiples = λ k p. refl;
  dots = λ p q. sym (one_*ℤ (dot p q));
  crosses = λ p q. refl;
  across_sums = λ p q. refl;
  cross_dots = λ p q. sym (one_*ℤ (dot p q));
  sides = λ n p. sym (one_*ℤ (dot n p));
  places = λ d h p g has on. ap (lies (over p d)) (map-id g);
}

unfoldable pub stepping : Step → Move
unfolding linear
stepping mirroring = linear mirrors
stepping (exchanging e) = linear (exchanges e)

unfoldable pub laying : List Step → Move
unfolding stepping
laying [] = linear still
laying (s ∷ ss) = both (stepping s) (laying ss)

step_to : (s : Step) (p : Point) → (stepping s).to p ≡ laid_step s p
unfolding stepping linear mirrors exchanges
step_to mirroring p = refl
step_to (exchanging e) p = refl

step_turns : (s : Step) → (stepping s).sides_by ≡ negsuc 0
unfolding stepping linear mirrors exchanges
step_turns mirroring = refl
step_turns (exchanging e) = refl

pub laid-to : (ss : List Step) (p : Point) → (laying ss).to p ≡ laid ss p
unfolding laying linear still both
laid-to [] p = refl
laid-to (s ∷ ss) p = ap (laying ss).to (step_to s p) ∙ laid-to ss (laid_step s p)

pub laid_turns : (ss : List Step) → (laying ss).sides_by ≡ cond (oddly ss) (negsuc 0) (pos 1)
unfolding laying linear still both
laid_turns [] = refl
laid_turns (s ∷ ss) = (λ i. laid_turns ss i *ℤ step_turns s i) ∙ other (oddly ss)
  where
    other : (b : Bool) → cond b (negsuc 0) (pos 1) *ℤ negsuc 0 ≡ cond (not b) (negsuc 0) (pos 1)
    other true = refl
    other false = refl
