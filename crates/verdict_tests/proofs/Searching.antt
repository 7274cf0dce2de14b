-- A search for the lowest place that offends, of all tables and lists that the words stand for: what is left is the whole answer.
use mathlib.Core.Bool.{Bool, true, false}
use mathlib.Core.List.{[]}
use mathlib.Core.Option.{Option}
use mathlib.Core.Path.{◌≡◌, sym, ◌∙◌}
use Prim.Native.Nat.{ℕ, ◌+◌, ◌≤◌, ◌<◌}
use Rattle.lists.specs.Lists.{lowest}
use Rattle.lists.proofs.Search.{LowestLeft, lowest_start, lowest_hit, lowest_miss, lowest-end}
use Rattle.paper.specs.declared.Number.{Number}
use Rattle.paper.specs.Refusals.{refuse, Fine}
use Rattle.paper.specs.Solids.{Tables}
use Rattle.paper.specs.Verdict.{Listed}
use Rattle.paper_laws.proofs.Checks.{clear, stops, passes}
use Rattle.verdict_tests.specs.Tests.{ToldAt}

-- the answer of place i; and what is left of n places from i on
abbrev pub Offends : (Tables → Listed → Type 0) → (Tables → Listed → ℕ → Bool) → ℕ → Bool → Type 0
Offends P p i b = (t : Tables) (l : Listed) → P t l → p t l i ≡ b

abbrev pub Asking : (Tables → Listed → Type 0) → (Tables → Listed → ℕ → Bool) → ℕ → ℕ → Type 0
Asking P p n i = (t : Tables) (l : Listed) → P t l → LowestLeft (p t l) n i

-- the check finds the lowest of n places
abbrev pub Finds : (Tables → Listed → Type 0) → (Tables → Listed → ℕ → Bool) → ℕ → (Tables → Listed → Option ℕ) → Type 0
Finds P p n place = (t : Tables) (l : Listed) → P t l → place t l ≡ lowest (p t l) n

module _ (P : Tables → Listed → Type 0) (p : Tables → Listed → ℕ → Bool) (n : ℕ) where
  pub asking_start : Asking P p n 0
  asking_start t l w = lowest_start (p t l) n

  pub asking_next : (i : ℕ) → i < n → Asking P p n i → Offends P p i false → Asking P p n (i + 1)
  asking_next i h a o t l w = lowest_miss (p t l) n i h (a t l w) (o t l w)

  module _ (number : Number) (place : Tables → Listed → Option ℕ) (f : Finds P p n place) where
    pub asking_hit : (i : ℕ) → i < n → Asking P p n i → Offends P p i true → ToldAt P number place (refuse number i)
    asking_hit i h a o t l w = stops number [] (sym (f t l w ∙ lowest_hit (p t l) n i h (a t l w) (o t l w)))

    pub asking_end : (i : ℕ) → n ≤ i → Asking P p n i → ToldAt P number place Fine
    asking_end i h a t l w = clear ∙ passes number [] (sym (f t l w ∙ lowest-end (p t l) n i h (a t l w)))
