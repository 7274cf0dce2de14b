-- The first digit that is set, as the lowest number that is marked.
use mathlib.Core.Path.{◌≡◌}
use mathlib.Core.Bool.{Bool, true}
use mathlib.Core.List.{List}
use mathlib.Core.Option.{none, some}
use Prim.Native.Nat.{ℕ, ◌<◌}
use native.Mathlib.Omega.{arith}
use Rattle.sets.proofs.Ones.{first_least}
use Rattle.lists.specs.Lists.{lowest}
use Rattle.sets.specs.Word.{dig, count, first}
use Rattle.sets.proofs.Digits.{count_none, first_in}
use Rattle.means_drawing.specs.Drawings.{Finds}
use Rattle.means_drawing.proofs.Searches.{finds}
use Rattle.fast_meets.proofs.Searches.{finds_one}

-- of digits that are set only below n
module _ (w : List Bool) (n : ℕ) where
  abbrev Set : ℕ → Type 0
  Set k = dig w k ≡ true

  found : Finds Set n (lowest (dig w) n)
  found = finds (dig w) Set n (λ k h. ((λ e. e), (λ e. e)))

  pub lowest-none : count w ≡ 0 → lowest (dig w) n ≡ none
  lowest-none e = finds_one Set n (lowest (dig w) n) none found (λ k h q. count_none w e k q)

  pub lowest-first : ((k : ℕ) → dig w k ≡ true → k < n) → (count w ≡ 0 → ⊥) → lowest (dig w) n ≡ some (first w)
  lowest-first below some-set =
      let here = first_in w some-set in
      finds_one Set n (lowest (dig w) n) (some (first w)) found (below (first w) here, here, λ k h e. omega (arith, first_least w k e))
