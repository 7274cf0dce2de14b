-- Each way out of `concluded` is the document's, by how the walk ended.
use mathlib.Core.List.{List}
use mathlib.Core.Path.{◌≡◌, sym, ◌∙◌}
use Prim.Native.Nat.{ℕ}
use borrow.Author.Tests.{eq-eqb, ne_eqb}
use Rattle.paper.specs.Refusals.{value_of}
use Rattle.paper.specs.Refusals as No
use Rattle.paper.specs.Conversion.{concluded}
use Rattle.paper.specs.declared.Conversion.{Conversion}
use Rattle.walk.specs.declared.tally.Tally.{Tally}
use Rattle.report.specs.Concluded.{ReportedAs, Concluded}

module _ {loops n : ℕ} {rows : List ℕ} {t : Tally} {out faces₀ solids₀ : List ℕ} where
  pub says_many : t.ended ≡ value_of No.Many → Concluded loops n rows t out faces₀ faces₀ solids₀ solids₀ (Conversion.Many loops n t.work)
  unfolding concluded
  says_many e = record {
    same = λ cs tables log lent k held s.
        rw (eq-eqb log.ended (value_of No.Many) (sym s.counts.ended_is ∙ e))
        (λ i. record { answer = Conversion.Many loops (k i) (sym s.counts.work_is i); faces = faces₀; solids = solids₀ });
  }

  module _ (m : t.ended ≡ value_of No.Many → ⊥) where
    pub says_too_long : t.ended ≡ value_of No.TooLong
        → Concluded loops n rows t out faces₀ faces₀ solids₀ solids₀ (Conversion.TooLong loops n t.work)
    unfolding concluded
    says_too_long e = record {
      same = λ cs tables log lent k held s.
          let ended = s.counts.ended_is in
          rw (ne_eqb log.ended (value_of No.Many) (λ x. m (ended ∙ x)), eq-eqb log.ended (value_of No.TooLong) (sym ended ∙ e))
          (λ i. record { answer = Conversion.TooLong loops (k i) (sym s.counts.work_is i); faces = faces₀; solids = solids₀ });
    }

    -- it was not cut: by what it found
    pub says_reported : {faces solids : List ℕ} {r : Conversion} → (t.ended ≡ value_of No.TooLong → ⊥)
        → ReportedAs loops n rows t out faces₀ faces solids₀ solids r → Concluded loops n rows t out faces₀ faces solids₀ solids r
    unfolding concluded
    says_reported l x = record {
      same = λ cs tables log lent k held s.
          let ended = s.counts.ended_is in
          rw (ne_eqb log.ended (value_of No.Many) (λ x. m (ended ∙ x)), ne_eqb log.ended (value_of No.TooLong) (λ x. l (ended ∙ x)))
          (x.same cs tables log lent k held s);
    }
