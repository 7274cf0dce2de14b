-- The entries of a list as bytes, one by one: what is left of them.
use mathlib.Core.List.{List, [], ◌++◌, flat_map}
use mathlib.Core.Path.{◌≡◌, ap}
use Prim.Native.Nat.{ℕ, ◌+◌, ◌≤◌, ◌<◌}
use lib.ListN.{length, get_or, drop, drop_of_length-le}
use Rattle.lists.proofs.Places.{drop_more}

module _ {A : Type 0} (f : A → List ℕ) (l : List A) where
  abbrev pub each_from : ℕ → List ℕ
  each_from i = flat_map f (drop i l)

  pub each_next : (i : ℕ) (z : A) → i < length l → each_from i ≡ f (get_or l i z) ++ each_from (i + 1)
  unfolding flat_map
  each_next i z h = ap (flat_map f) (drop_more l i z h)

  pub each_end : (i : ℕ) → length l ≤ i → each_from i ≡ []
  unfolding flat_map
  each_end i h = ap (flat_map f) (drop_of_length-le l {i = i} h)
