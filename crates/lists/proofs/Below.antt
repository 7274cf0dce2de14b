-- Whether all numbers of a list are below v, as a loop looks at them in turn: number k is x.
use mathlib.Core.Path.{◌≡◌, sym, ap, ◌∙◌}
use mathlib.Core.Bool.{false, not}
use mathlib.Core.List.{List}
use Prim.Native.Nat.{ℕ, ◌+◌, ◌≤◌, ◌<◌}
use borrow.Author.Tests.{lt-ltb, le-ltb}
use lib.Dec.{ltb}
use lib.ListN.{length, get_or}
use Rattle.lists.specs.Lists.{all}
use Rattle.lists.proofs.Search.{Left, all-search, search_hit, search_miss}

module _ (v : ℕ) (xs : List ℕ) (k : ℕ) (h : k < length xs) (l : Left (all (λ y. ltb y v)) xs k) {x : ℕ} (e : get_or xs k 0 ≡ x) where
  pub high_hit : v ≤ x → false ≡ all (λ y. ltb y v) xs
  high_hit m = sym (search_hit (all-search (λ y. ltb y v)) xs k 0 h l (ap (λ (y : ℕ). not (ltb y v)) e ∙ ap not (le-ltb x v m)))

  pub high_miss : x < v → Left (all (λ y. ltb y v)) xs (k + 1)
  high_miss m = search_miss (all-search (λ y. ltb y v)) xs k 0 h l (ap (λ (y : ℕ). not (ltb y v)) e ∙ ap not (lt-ltb x v m))
