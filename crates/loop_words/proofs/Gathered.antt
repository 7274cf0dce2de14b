-- A set that gathers numbers one by one: v is in it where v is one of them.
use mathlib.Core.Path.{◌≡◌, refl, sym, ap, ◌∙◌}
use mathlib.Core.Bool.{Bool, ◌||◌}
use mathlib.Core.List.{List, []}
use Prim.Native.Nat.{ℕ, ◌+◌, ◌≤◌, ◌<◌}
use native.Mathlib.Omega.{arith}
use lib.Dec.{eqb}
use lib.ListN.{length, take}
use lib.Seq.{take-length}
use Rattle.lists.specs.Lists.{any, upto}
use Rattle.lists.proofs.Places.{upto_length, any-below_more}
use Rattle.sets.specs.Word.{dig, either, only}
use Rattle.sets.specs.Kinds.{Kind}
use Rattle.sets.proofs.Digits.{dig-either}
use Rattle.sets.proofs.Laws.{Laws}
use Rattle.sets.proofs.Numbers.{same_word}
use Rattle.sets.proofs.Ones.{only_is}

module _ (K : Kind) (f : ℕ → ℕ) (n : ℕ) where
  -- v is one of the first i of the n numbers f 0, f 1, ..
  abbrev among : ℕ → ℕ → Bool
  among i v = any (λ j. eqb v (f j)) (take i (upto n))

  -- s has gathered the first i
  pub record Gathered (s : K.Of) (i : ℕ) : Type 0 where
    pub digits : List Bool
    pub is : K.Is s digits
    pub has : (v : ℕ) → dig digits v ≡ among i v

  pub gathered_none : {s : K.Of} → K.Is s [] → Gathered s 0
  unfolding any
  gathered_none i = record { digits = []; is = i; has = λ v. refl }

  -- one more, x
  pub gathered_more : {s r : K.Of} (i x : ℕ) → i < n → x ≡ f i → ((a : List Bool) → K.Is s a → K.Is r (either a (only x)))
      → Gathered s i → Gathered r (i + 1)
  gathered_more i x h e w g = record {
    digits = either g.digits (only x);
    is = w g.digits g.is;
    has = λ v.
        dig-either g.digits (only x) v
        ∙ (λ t. g.has v t || (only_is x v ∙ ap (eqb v) e) t)
        ∙ sym (any-below_more (λ j. eqb v (f j)) n i h);
  }

  -- all: the set of a mask that has just these
  pub gathered-all : Laws K → {s : K.Of} (i : ℕ) → i ≡ n → (mask : List Bool) → length mask ≤ K.room
      → ((v : ℕ) → dig mask v ≡ any (λ j. eqb v (f j)) (upto n)) → Gathered s i → K.Is s mask
  gathered-all laws i e mask short m g =
      let s : i ≡ length (upto n) = omega (arith, upto_length n) in
      let all = ap (λ (k : ℕ). take k (upto n)) s ∙ take-length (upto n) in
      laws.other_digits mask g.is short
      (same_word g.digits mask (λ v. g.has v ∙ ap (any (λ j. eqb v (f j))) all ∙ sym (m v)))
