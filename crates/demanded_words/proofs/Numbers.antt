-- Which number is said of a conversion's answer, and of its reading.
use mathlib.Core.Logic.{◌↔◌}
use mathlib.Core.List.{List, [], ◌∷◌}
use mathlib.Core.Path.{◌≡◌, refl, sym, ap, ◌∙◌, subst}
use Prim.Native.Nat.{ℕ, ◌≤◌, ◌<◌}
use native.Mathlib.Omega.{arith}
use Rattle.paper.specs.Reading.{Said, conversion_says, reading_of, reading_says}
use Rattle.paper.specs.declared.Conversion.{Conversion}
use Rattle.paper.specs.declared.Conversion.TheVariants as Conversion
use Rattle.paper.specs.declared.Refusal.{Refusal}
use Rattle.means_report.specs.Report.{solid_count}
use Rattle.demands.specs.Input.{Input, converted}
use Rattle.demands.specs.Demand1.{WithinLimit}
use Rattle.demands.proofs.Demand1.{demand1}
use Rattle.paper.specs.Refusals.{value_of}
use Rattle.demands.proofs.Answers.{numbered, told}

-- what holds exactly where n is k, said of what equals n
pub of_number : {r n k : ℕ} {A : Type 0} → r ≡ n → (n ≡ k) ↔ A → (r ≡ k) ↔ A
of_number e p = (λ q. p.0 (sym e ∙ q), λ a. e ∙ p.1 a)

-- by a refusal's number an answer is no report and no end of the walk; a report of several has some
pub record Known (a : Conversion) : Type 0 where
  pub above : (f : Refusal) → a ≡ Conversion.Refused f → 0 < value_of f.number
  pub below : (f : Refusal) → a ≡ Conversion.Refused f → value_of f.number ≤ 16
  pub some : (l c work n : ℕ) → a ≡ Conversion.Several l c work n → 0 < n

pub known : (x : Input) (limit : ℕ) (faces solids : List ℕ) → Known (converted x limit faces solids).answer
known x limit faces solids = record {
  above = numbered.converts x limit faces solids;
  below = numbered.below x limit faces solids;
  some = λ l c work n e. omega (arith, (subst (WithinLimit limit) e (demand1.converts x limit faces solids).0).1);
}

pub zero : (a : Conversion) → Known a → ((conversion_says a).number ≡ 0) ↔ (0 < solid_count a)
zero (Conversion.One l c work six) k = (λ e. omega arith, λ h. refl)
zero (Conversion.Several l c work n) k = (λ e. k.some l c work n refl, λ h. refl)
zero (Conversion.NoSolid l c work) k = (λ e. absurd (omega (arith, e)), λ h. absurd (omega (arith, h)))
zero (Conversion.Many l c work) k = (λ e. absurd (omega (arith, e)), λ h. absurd (omega (arith, h)))
zero (Conversion.TooLong l c work) k = (λ e. absurd (omega (arith, e)), λ h. absurd (omega (arith, h)))
zero (Conversion.Refused f) k = (λ e. absurd (omega (arith, e, k.above f refl)), λ h. absurd (omega (arith, h)))

-- ---- 17, 18 and 19

-- a kind of answer, as NoSolid, with some counts
abbrev pub Some : (ℕ → ℕ → ℕ → Conversion) → Conversion → Type 0
Some kind a = (l c work : ℕ) × (a ≡ kind l c work)

-- what is said of such an end: its number, the work for a place, and the counts
abbrev ended : ℕ → ℕ → ℕ → ℕ → Said
ended n l c work = record { number = n; place = work; values = l ∷ c ∷ [] }

-- a number above 16 is that of an end
end_says : (a : Conversion) → Known a → 16 < (conversion_says a).number
    → (l c work : ℕ) × (conversion_says a ≡ ended (conversion_says a).number l c work)
end_says (Conversion.One l c work six) k h = absurd (omega (arith, h))
end_says (Conversion.Several l c work n) k h = absurd (omega (arith, h))
end_says (Conversion.NoSolid l c work) k h = (l, c, work, refl)
end_says (Conversion.Many l c work) k h = (l, c, work, refl)
end_says (Conversion.TooLong l c work) k h = (l, c, work, refl)
end_says (Conversion.Refused f) k h = absurd (omega (arith, h, k.below f refl))

-- so it tells which: two answers of which the same is said are the same
pub exactly : (kind : ℕ → ℕ → ℕ → Conversion) (n : ℕ) → 16 < n → ((l c work : ℕ) → conversion_says (kind l c work) ≡ ended n l c work)
    → (a : Conversion) → Known a → ((conversion_says a).number ≡ n) ↔ Some kind a
exactly kind n high says a k = (there, λ p. ap (λ (s : Said). s.number) (ap conversion_says p.3 ∙ says p.0 p.1 p.2))
  where
    there : (conversion_says a).number ≡ n → Some kind a
    there e =
        let s = end_says a k (omega (arith, high, e)) in
        let same = s.3 ∙ ap (λ (m : ℕ). ended m s.0 s.1 s.2) e ∙ sym (says s.0 s.1 s.2) in
        (s.0, s.1, s.2, told.conversions a (kind s.0 s.1 s.2) same)

-- ---- 30, of the reading

pub several : (a : Conversion) → Known a → (reading_says (reading_of a)).number ≡ 30 → (l c work n : ℕ) × (a ≡ Conversion.Several l c work n)
unfolding reading_of
several (Conversion.One l c work six) k e = absurd (omega (arith, e))
several (Conversion.Several l c work n) k e = (l, c, work, n, refl)
several (Conversion.NoSolid l c work) k e = absurd (omega (arith, e))
several (Conversion.Many l c work) k e = absurd (omega (arith, e))
several (Conversion.TooLong l c work) k e = absurd (omega (arith, e))
several (Conversion.Refused f) k e = absurd (omega (arith, e, k.below f refl))
