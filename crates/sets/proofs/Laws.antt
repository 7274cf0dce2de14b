-- What callers need of a kind of sets, and what follows from it: laws of any width.
use mathlib.Core.Bool.{Bool, false}
use mathlib.Core.List.{List, []}
use mathlib.Core.Path.{◌≡◌, sym, subst}
use Prim.Native.Nat.{ℕ, ◌≤◌}
use native.Mathlib.Nat.{le_of_eq, le_trans}
use native.Mathlib.Omega.{arith}
use lib.ListN.{length, replicate, length-replicate}
use Rattle.sets.specs.Word.{word, count, less, only}
use Rattle.sets.specs.Kinds.{Kind, Lowest, Dropped, Rest, SetAt}
use Rattle.sets.proofs.Digits.{count_length}
use Rattle.sets.proofs.Word.{none-word}

-- every set that fits has digits, no more than there is room for, and any other digits of the same number
pub record Laws (K : Kind) : Type 1 where
  pub Fits : K.Of → Type 0
  pub digits_of : K.Of → List Bool
  pub is_digits : (x : K.Of) → Fits x → K.Is x (digits_of x)
  pub short : {x : K.Of} {a : List Bool} → K.Is x a → length a ≤ K.room
  pub size_is : {x : K.Of} {a : List Bool} → K.Is x a → K.size x ≡ count a
  pub other_digits : {x : K.Of} {a : List Bool} (b : List Bool) → K.Is x a → length b ≤ K.room → word a ≡ word b → K.Is x b

module _ {K : Kind} (laws : Laws K) where
  -- no digit of n is set
  pub none-all : {x : K.Of} (n : ℕ) → n ≤ K.room → K.Is x [] → K.Is x (replicate n false)
  unfolding word
  none-all n h i = laws.other_digits (replicate n false) i (le_trans (le_of_eq (length-replicate n false)) h) (sym (none-word n))

  -- no more are in it than there is room for
  pub size_room : {x : K.Of} {a : List Bool} → K.Is x a → K.size x ≤ K.room
  size_room {x} {a} i = omega (arith, laws.size_is i, count_length a, laws.short i)

  pub fits-room : (x : K.Of) → laws.Fits x → K.size x ≤ K.room
  fits-room x h = size_room (laws.is_digits x h)

-- a set without its lowest is the set without that number
pub rest_drops : {K : Kind} {x r : K.Of} {k : ℕ} → Lowest K x k → Rest K x r → Dropped K x k r
rest_drops {K} {x} {r} {k} low d = record {
  fewer = λ q. omega (arith, d.one_fewer);
  same = λ a i. subst (λ (j : ℕ). K.Is r (less a (only j))) (sym (low.same a i)) (d.same a i);
}

-- what was read at place k of the words has the digits that are there
pub at-is : {K : Kind} {words : List ℕ} {k : ℕ} {x : K.Of} → SetAt K words k x → (a : List Bool) → K.Is (K.at words k) a → K.Is x a
at-is {K} e a i = subst (λ (y : K.Of). K.Is y a) (sym e.is) i
