-- What follows of a moved report: the same where the move neither mirrors nor enlarges; mirrored; scaled.
use mathlib.Core.Path.{◌≡◌, refl, sym, ap, ◌∙◌}
use mathlib.Core.Bool.{true, false}
use mathlib.Core.List.{List, map, map-id}
use Prim.Native.Nat.{ℕ, ◌*◌}
use native.Mathlib.Nat.{one-mul}
use Rattle.paper.specs.Conversion.{Converted}
use Rattle.paper.specs.declared.Conversion.{Conversion}
use Rattle.means_report.specs.Listed.{Entry}
use Rattle.means_report.specs.Report.{solids_for}
use Rattle.means_moves.specs.Turned.{grown, FollowsMoved, flip, Mirrored, Scaled}

grown_once : (c : Conversion) → grown 1 c ≡ c
grown_once (Conversion.One l c w six) = ap (Conversion.One l c w) (one-mul six)
grown_once (Conversion.Several l c w n) = refl
grown_once (Conversion.NoSolid l c w) = refl
grown_once (Conversion.Many l c w) = refl
grown_once (Conversion.TooLong l c w) = refl
grown_once (Conversion.Refused r) = refl

pub follows_same : {solids : List ℕ} {r q : Converted} → FollowsMoved false 1 solids r q → q ≡ r
follows_same {solids} {r} {q} f =
    let left : q.solids ≡ r.solids = f.moved
    ∙ ap (solids_for solids)
    ((λ i. map (λ (e : Entry). record { taken = e.taken; turned = e.turned; six = one-mul e.six i }) f.es) ∙ map-id f.es)
    ∙ sym f.words in
    λ i. record { answer = (f.answers ∙ grown_once r.answer) i; faces = f.rows i; solids = left i }

pub follows_mirrored : {solids : List ℕ} {r q : Converted} → FollowsMoved true 1 solids r q → Mirrored solids r q
follows_mirrored {solids} {r} f = record {
  answers = f.answers ∙ grown_once r.answer;
  rows = f.rows;
  es = f.es;
  count = f.count;
  words = f.words;
  flipped = f.moved ∙ ap (solids_for solids) (λ i. map (λ (e : Entry). record
      { taken = e.taken; turned = (flip e).turned; six = one-mul e.six i }) f.es);
}

pub follows_scaled : {solids : List ℕ} {r q : Converted} (k : ℕ) → FollowsMoved false (k * k * k) solids r q → Scaled k solids r q
follows_scaled k f = record { answers = f.answers; rows = f.rows; es = f.es; count = f.count; words = f.words; enlarged = f.moved }
