-- 26: six volumes above zero, or not; the sum over the taken faces is that over all candidates.
use mathlib.Core.Bool.{not}
use mathlib.Core.List.{List, []}
use mathlib.Core.Path.{◌≡◌, refl, sym, ap, ◌∙◌}
use lib.IntN.{ℤ, pos}
use lib.Signed.{lt_z, ◌<ℤ◌, ◌≤ℤ◌, clash_ℤ}
use Rattle.lists.proofs.Truth.{never_true}
use Rattle.exact.proofs.Signs.{lt_is, lt_yes}
use Rattle.sets.specs.Sets.{Wide}
use Rattle.sets.specs.Word.{count}
use Rattle.paper.specs.Points.{above}
use Rattle.paper.specs.Refusals.{Inward}
use Rattle.paper.specs.Refusals.{refuse, Fine}
use Rattle.paper.specs.Solids.{Tables, six_from}
use Rattle.paper.specs.Verdict as Paper
use Rattle.paper.specs.Verdict.{Listed}
use Rattle.paper_laws.proofs.Checks.{clear, holds, fails}
use Rattle.fast_leaf.proofs.Sums.{six_on_lem}
use Rattle.walk_leaf.specs.Tests.{Weighs}
use Rattle.verdict_tests.specs.Tests.{ToldAt, inward_of, Weighing}

module _ {sixes : List ℤ} {taken turned : Wide} {v : ℤ} (x : Weighs sixes taken turned v) where
  six_is : (t : Tables) (l : Listed) → Weighing sixes taken turned t l → v ≡ six_from 0 t.sixes l.taken l.turned
  six_is t l w =
      x.same t.sixes l.taken l.turned w.sixes_are w.in_sixes w.taken_is w.turned_is
      ∙ six_on_lem l.turned (count l.taken) t.sixes l.taken refl

  pub six_above : pos 0 <ℤ v → ToldAt (Weighing sixes taken turned) Inward inward_of Fine
  unfolding Paper.inward above
  six_above p t l w = clear ∙ fails Inward 0 [] (ap (λ (z : ℤ). not (lt_z (pos 0) z)) (sym (six_is t l w)) ∙ ap not (lt_is p))

  pub six_not : v ≤ℤ pos 0 → ToldAt (Weighing sixes taken turned) Inward inward_of (refuse Inward 0)
  unfolding Paper.inward above
  six_not p t l w =
      holds Inward 0 []
      (ap (λ (z : ℤ). not (lt_z (pos 0) z)) (sym (six_is t l w)) ∙ ap not (never_true (lt_z (pos 0) v) (λ e. clash_ℤ (lt_yes e) p)))
