-- What the first of some checks says of the lines of a table.
use mathlib.Core.Path.{◌≡◌, refl, sym, subst}
use mathlib.Core.Bool.{Bool, true, false}
use mathlib.Core.Option.{Option, none, some}
use mathlib.Core.Logic.{inl, inr}
use mathlib.Core.List.{List, [], ◌∷◌, ◌++◌}
use Prim.Native.Nat.{ℕ, zero, suc, ◌<◌}
use native.Mathlib.Omega.{arith}
use Rattle.std.specs.Prelude.{Ok, Err}
use Rattle.paper.specs.declared.Number.{Number}
use Rattle.paper.specs.Refusals.{value_of, Check, check, first_of, offends, Answer, Fine}
use Rattle.paper_laws.proofs.Behind.{or_else}
use Rattle.means_drawing.specs.Drawings.{Finds}
use Rattle.paper_laws.proofs.Checks.{both_first}
use Rattle.demands.specs.Table.{line, end, one, Two}
use Rattle.paper_laws.proofs.Tests.{Is, is_off}

-- the checks are the lines: their answer, with that of all behind them, says what the lines say
pub record Says (lines : (Answer → Type 0) → Answer → Type 0) (cs : List Check) : Type 1 where
  pub at : (below : Answer → Type 0) (a : Answer) → (Fine ≡ first_of cs → below a) → lines below (or_else (first_of cs) a)

pass : (n k : ℕ) (P : ℕ → Type 0) (below : Answer → Type 0) → Finds P k none → (a : Answer) → below a → line n k P below a
pass n k P below f (Ok _) b = (f, b)
pass n k P below f (Err r) b = inr (f, b)

-- no checks; one more
pub done : Says (λ below. below) []
unfolding first_of
done = record { at = λ below a g. g refl }

pub also : (n : Number) (k : ℕ) (P : ℕ → Type 0) (o : Option ℕ) (lines : (Answer → Type 0) → Answer → Type 0) (cs : List Check)
    → Finds P k o → (o ≡ none → Says lines cs) → Says (λ below. line (value_of n) k P (lines below)) (check n o ∷ cs)
unfolding first_of
also n k P none lines cs f g =
    record { at = λ below a h. pass (value_of n) k P (lines below) f (or_else (first_of cs) a) ((g refl).at below a h) }
also n k P (some p) lines cs f g = record { at = λ below a h. inl (refl, f) }

-- a check of the place 0 alone; two checks of the places 0 and 1
finds_one : (b : Bool) (A : Type 0) → Is b A → Finds (λ p. A) 1 (offends b 0)
finds_one true A i = (omega arith, i.0 refl, λ k h q. omega arith)
finds_one false A i = λ k h q. is_off i refl q

pub also_one : (n : Number) (A : Type 0) (b : Bool) → Is b A → (lines : (Answer → Type 0) → Answer → Type 0) (cs : List Check)
    → (offends b 0 ≡ none → Says lines cs) → Says (λ below. one (value_of n) A (lines below)) (check n (offends b 0) ∷ cs)
also_one n A b i lines cs g = also n 1 (λ p. A) (offends b 0) lines cs (finds_one b A i) g

pub also_two : (n : Number) (A B : Type 0) (a b : Bool) → Is a A → Is b B → (lines : (Answer → Type 0) → Answer → Type 0) (cs : List Check)
    → Says lines cs → Says (λ below. line (value_of n) 2 (Two A B) (lines below)) (check n (offends a 0) ∷ check n (offends b 1) ∷ cs)
unfolding first_of
also_two n A B true b i j lines cs g = record { at = λ below c h. inl (refl, (omega arith, i.0 refl, λ k l q. omega arith)) }
also_two n A B false true i j lines cs g = record { at = λ below c h. inl (refl, (omega arith, j.0 refl, first)) }
  where
    first : (k : ℕ) → k < 1 → Two A B k → ⊥
    first zero l q = is_off i refl q
    first (suc k) l q = omega arith
also_two n A B false false i j lines cs g =
    record { at = λ below c h. pass (value_of n) 2 (Two A B) (lines below) both (or_else (first_of cs) c) (g.at below c h) }
  where
    both : (k : ℕ) → k < 2 → Two A B k → ⊥
    both zero l q = is_off i refl q
    both (suc k) l q = is_off j refl q

-- checks behind others, which see that these pass
or_on : (cs ds : List Check) (a : Answer) → or_else (first_of (cs ++ ds)) a ≡ or_else (first_of cs) (or_else (first_of ds) a)
unfolding first_of
or_on [] ds a = refl
or_on (check n none ∷ cs) ds a = or_on cs ds a
or_on (check n (some p) ∷ cs) ds a = refl

pub behind : (lines more : (Answer → Type 0) → Answer → Type 0) (cs ds : List Check) → Says lines cs → (Fine ≡ first_of cs → Says more ds)
    → Says (λ below. lines (more below)) (cs ++ ds)
behind lines more cs ds s u = record {
  at = λ below a h.
      subst (lines (more below)) (sym (or_on cs ds a))
      (s.at (more below) (or_else (first_of ds) a) (λ e. (u e).at below a (λ f. h (both_first cs ds e f))));
}

-- all lines
or_fine : (a : Answer) → or_else a Fine ≡ a
or_fine (Ok _) = refl
or_fine (Err r) = refl

pub ends : (lines : (Answer → Type 0) → Answer → Type 0) (cs : List Check) → Says lines cs → lines end (first_of cs)
ends lines cs s = subst (lines end) (or_fine (first_of cs)) (s.at end Fine (λ e. tt))
