-- The first check that applies: one step of the list, and two lists one behind the other.
use mathlib.Core.Path.{◌≡◌, refl, sym, ◌∙◌}
use mathlib.Core.Bool.{Bool, true, false}
use mathlib.Core.Option.{Option, none, some}
use mathlib.Core.List.{List, [], ◌∷◌, ◌++◌}
use Prim.Native.Nat.{ℕ}
use native.Mathlib.Omega.{arith}
use Rattle.paper.specs.Refusals.{Check, check, refuse, first_of, offends, Fine}
use Rattle.std.specs.Prelude.{Err}
use Rattle.paper.specs.declared.Number.{Number}
use Rattle.paper.specs.declared.Refusal.{Refusal}

-- no check is left
pub clear : Fine ≡ first_of []
unfolding first_of
clear = refl

-- a check that finds a place is the answer; one that finds none leaves it to the rest
module _ (n : Number) {o : Option ℕ} (cs : List Check) where
  pub stops : {p : ℕ} → some p ≡ o → refuse n p ≡ first_of (check n o ∷ cs)
  unfolding first_of
  stops e = rw (← e) refl

  pub passes : none ≡ o → first_of cs ≡ first_of (check n o ∷ cs)
  unfolding first_of
  passes e = rw (← e) refl

  pub found_none : Fine ≡ first_of (check n o ∷ cs) → (o ≡ none) × (Fine ≡ first_of cs)
  unfolding first_of
  found_none e = go o e
    where
      go : (o : Option ℕ) → Fine ≡ first_of (check n o ∷ cs) → (o ≡ none) × (Fine ≡ first_of cs)
      go none e = (refl, e)
      go (some p) e = let z : ◌≡◌ {A = ℕ} 0 1 = cc in absurd (omega arith)

  pub none_found : o ≡ none → Fine ≡ first_of cs → Fine ≡ first_of (check n o ∷ cs)
  none_found e f = f ∙ passes (sym e)

-- the same of a check of one place
module _ (n : Number) (p : ℕ) {b : Bool} (cs : List Check) where
  pub holds : b ≡ true → refuse n p ≡ first_of (check n (offends b p) ∷ cs)
  unfolding first_of
  holds e = rw e refl

  pub fails : b ≡ false → first_of cs ≡ first_of (check n (offends b p) ∷ cs)
  unfolding first_of
  fails e = rw e refl

  -- and back
  pub passed : Fine ≡ first_of (check n (offends b p) ∷ cs) → (b ≡ false) × (Fine ≡ first_of cs)
  unfolding first_of
  passed e = go b e
    where
      go : (b : Bool) → Fine ≡ first_of (check n (offends b p) ∷ cs) → (b ≡ false) × (Fine ≡ first_of cs)
      go true e = let z : ◌≡◌ {A = ℕ} 0 1 = cc in absurd (omega arith)
      go false e = (refl, e)

-- two lists: the first one's answer, unless it is passed
pub first_stops : (cs ds : List Check) {r : Refusal} → Err r ≡ first_of cs → Err r ≡ first_of (cs ++ ds)
unfolding first_of
first_stops [] ds {r} e = let z : ◌≡◌ {A = ℕ} 0 1 = cc in absurd (omega arith)
first_stops (check n none ∷ cs) ds e = first_stops cs ds e
first_stops (check n (some p) ∷ cs) ds e = e

pub first_passes : (cs ds : List Check) → Fine ≡ first_of cs → first_of ds ≡ first_of (cs ++ ds)
unfolding first_of
first_passes [] ds e = refl
first_passes (check n none ∷ cs) ds e = first_passes cs ds e
first_passes (check n (some p) ∷ cs) ds e = let z : ◌≡◌ {A = ℕ} 0 1 = cc in absurd (omega arith)

-- both are passed where the whole is, and the whole where both are
pub first-both : (cs ds : List Check) → Fine ≡ first_of (cs ++ ds) → (Fine ≡ first_of cs) × (Fine ≡ first_of ds)
unfolding first_of
first-both [] ds e = (refl, e)
first-both (check n none ∷ cs) ds e = first-both cs ds e
first-both (check n (some p) ∷ cs) ds e = let z : ◌≡◌ {A = ℕ} 0 1 = cc in absurd (omega arith)

pub both_first : (cs ds : List Check) → Fine ≡ first_of cs → Fine ≡ first_of ds → Fine ≡ first_of (cs ++ ds)
both_first cs ds e f = f ∙ first_passes cs ds e
