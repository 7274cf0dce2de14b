-- Two conversions side by side: each sentence is the demand's own, with equal limits and rooms put in.
use mathlib.Core.Path.{◌≡◌, sym, ap, ◌∙◌, subst}
use mathlib.Core.List.{List}
use Prim.Native.Nat.{ℕ}
use Rattle.paper.specs.Conversion.{Converted}
use Rattle.means_moves.specs.Moves.{oddly}
use Rattle.means_moves.specs.Turned.{Mirrored, Scaled}
use Rattle.demands.specs.Input.{Input, converted}
use Rattle.demands.specs.Moved.{Laid}
use Rattle.demands.specs.Twice.{SameTerms, Twice}
use Rattle.demands.proofs.Moved.{shifts, mirrors, turns, scaled, higher}
use Rattle.demands.proofs.Renumbered.{renumbering}

module _ (x y : Input) (a b : ℕ) (f u g v : List ℕ) where
  -- the second conversion with the first one's limit and rooms
  same : SameTerms x y a b f u g v → converted y b g v ≡ converted y a f u
  same h = λ i. converted y (h.limits i) (h.faces i) (h.solids i)

  pub twice : Twice x y a b f u g v (converted x a f u) (converted y b g v)
  twice = record {
    shifted = λ h w made. same h ∙ shifts.both w x y made a f u;
    mirrored = λ h made. subst (Mirrored u (converted x a f u)) (sym (same h)) (mirrors.both x y made a f u);
    refused = λ h new given n e.
        let k = (renumbering new x y given).number a f u n e in
        (k.0, ap (λ (r : Converted). r.answer) (same h) ∙ k.1, k.2);
    renumbered = λ new given p ax ay wx wy. (renumbering new x y given).reports p a b f g u v ax ay wx wy;
    higher = λ e p q h m n. (λ i. converted (e i) b (p i) (q i)) ∙ higher x a b h m f u n;
    laid_too = λ h ss made. subst (Laid (oddly ss) u (converted x a f u)) (sym (same h)) (turns.both ss x y made a f u);
    enlarged = λ h k up made. subst (Scaled k u (converted x a f u)) (sym (same h)) (scaled.both k up x y made a f u);
  }
