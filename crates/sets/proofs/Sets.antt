-- Sets of one word: each operation on the word is one on the digits that the set stands for.
use mathlib.Core.Bool.{Bool, true, false, ◌&&◌, ◌||◌}
use mathlib.Core.List.{List, [], ◌∷◌, ◌++◌}
use mathlib.Core.Path.{◌≡◌, refl, sym, ap, ap₂, ◌∙◌, subst}
use Prim.Native.Nat.{ℕ, zero, suc, ◌-◌, ◌/◌, ◌%◌, ◌^◌, ◌≤◌, ◌<◌}
use native.Mathlib.Nat.{le_of_eq, le_trans, lt_of_le_of_lt}
use native.Mathlib.Omega.{arith}
use borrow.Author.Tests.{ne_eqb}
use lib.ListN.{length, get_or, set, length-append, replicate, length-replicate}
use lib.Bits.{bit_and, bit_or, bit_xor, and_mask}
use lib.Dec.{eqb}
use lib.Count.{ones, ones_in, ones-le, count_trailing_zeros}
use Rattle.sets.specs.Word.{word, digits, digit, dig, count, first, both, either, less, only}
use Rattle.sets.specs.Kinds.{Joint, Minus, Counted, Lowest, Dropped, Rest, SetAt}
use Rattle.sets.specs.Sets.{room, packed_set, Is, set_digits, size, mask_at, one_word, wides, MarkedAt}
use Rattle.sets.specs.declared.Set.{Set}
use Rattle.sets.proofs.Digits.{length_both, length_either, length_less, length_only, count_less, count-only, first-lt, first_in}
use Rattle.sets.proofs.Numbers.{digit-word, digit_power, digit-stored}
use Rattle.sets.proofs.Word.{and_word, or_word, less-word, ones-word, only-word, rest_word, trailing_word, length_digits, word-digits}
use Rattle.sets.proofs.Word.{unlike-word, full_word, word_more}
use Rattle.sets.proofs.Laws.{Laws}

-- ---- the word and the digits

module _ {x : Set} {a : List Bool} (i : Is x a) where
  pub word_is : x.word ≡ word a
  unfolding packed_set
  word_is = ap (λ (s : Set). s.word) i.words

  pub size_is : size x ≡ count a
  size_is = ap ones word_is ∙ ones-word a

packs : {w : ℕ} (a : List Bool) → w ≡ word a → ◌≡◌ {A = Set} (record { word = w }) (packed_set a)
unfolding packed_set
packs a p = ap (λ (m : ℕ). record { word = m }) p

-- it is a word
abbrev pub Fits : Set → Type 0
Fits x = x.word < 2 ^ room

-- every word is that of its digits
pub is_digits : (x : Set) → Fits x → Is x (set_digits x)
unfolding set_digits
is_digits x h =
    record { short = le_of_eq (length_digits room x.word); words = packs (digits room x.word) (sym (word-digits room x.word h)) }

-- other digits of the same word
pub other_digits : {x : Set} {a : List Bool} (b : List Bool) → Is x a → length b ≤ room → word a ≡ word b → Is x b
unfolding packed_set
other_digits b i h e = record { short = h; words = i.words ∙ packs b e }

abbrev pub one-word_laws : Laws one_word
one-word_laws = record {
  Fits = Fits;
  digits_of = set_digits;
  is_digits = is_digits;
  short = λ i. i.short;
  size_is = size_is;
  other_digits = other_digits;
}

abbrev pub wides_laws : Laws wides
wides_laws = one-word_laws

-- ---- two sets

module _ {x y : Set} where
  pub and_is : Joint one_word x y (record { word = bit_and x.word y.word }) both
  and_is a b i j = record {
    short = le_trans (length_both a b) i.short;
    words = packs (both a b) (ap₂ bit_and (word_is i) (word_is j) ∙ and_word a b);
  }

  pub or_is : Joint one_word x y (record { word = bit_or x.word y.word }) either
  or_is a b i j = record {
    short = length_either room a b i.short j.short;
    words = packs (either a b) (ap₂ bit_or (word_is i) (word_is j) ∙ or_word a b);
  }

  pub unlike_is : Joint one_word x y (record { word = bit_xor x.word y.word }) (λ a b. either (less a b) (less b a))
  unlike_is a b i j = record {
    short = length_either room (less a b) (less b a) (omega (arith, length_less a b, i.short)) (omega (arith, length_less b a, j.short));
    words = packs (either (less a b) (less b a)) (ap₂ bit_xor (word_is i) (word_is j) ∙ unlike-word a b);
  }

  less_is : Joint one_word x y (record { word = bit_and x.word ((2 ^ room - 1) - y.word) }) less
  less_is a b i j = record {
    short = le_trans (le_of_eq (length_less a b)) i.short;
    words =
        packs (less a b) (ap₂ (λ (m n : ℕ). bit_and m ((2 ^ room - 1) - n)) (word_is i) (word_is j)
        ∙ less-word room a b i.short j.short);
  }

  pub minus_is : Fits x → Fits y → Minus one_word x y (record { word = bit_and x.word ((2 ^ room - 1) - y.word) })
  minus_is hx hy =
      let d : Is x (set_digits x) = is_digits x hx in
      let e : Is y (set_digits y) = is_digits y hy in
      record {
        fewer = omega (arith, count_less (set_digits x) (set_digits y), size_is d, size_is (less_is (set_digits x) (set_digits y) d e));
        same = less_is;
      }

-- ---- counts

pub counted : (x : Set) → Fits x → Counted one_word x (ones x.word)
counted x h = record { size_is = refl; under = ones-le room x.word h }

word_count : (bs : List Bool) → word bs ≡ 0 → count bs ≡ 0
unfolding ones ones_in
word_count bs e = sym (ones-word bs) ∙ ap ones e

count_word : (bs : List Bool) → count bs ≡ 0 → word bs ≡ 0
unfolding count word
count_word [] e = refl
count_word (b ∷ bs) e = let h : word bs ≡ 0 = count_word bs (omega (arith, e)) in omega (arith, h, e)

zero_tests : (m n : ℕ) → (m ≡ 0 → n ≡ 0) → (n ≡ 0 → m ≡ 0) → eqb m 0 ≡ eqb n 0
zero_tests zero n f g = ap (λ (k : ℕ). eqb k 0) (sym (f refl))
zero_tests (suc m) zero f g = ap (λ (k : ℕ). eqb k 0) (g refl)
zero_tests (suc m) (suc n) f g = ne_eqb (suc m) 0 (λ e. omega (arith, e)) ∙ sym (ne_eqb (suc n) 0 (λ e. omega (arith, e)))

pub empty_is : {x : Set} → Fits x → eqb x.word 0 ≡ eqb (size x) 0
empty_is {x} h =
    let d : Is x (set_digits x) = is_digits x h in
    zero_tests x.word (size x) (λ e. size_is d ∙ word_count (set_digits x) (sym (word_is d) ∙ e))
    (λ e. word_is d ∙ count_word (set_digits x) (sym (size_is d) ∙ e))

-- ---- the lowest of a set that is not empty, and the set without it

module _ {x : Set} (h : Fits x) (p : 0 < size x) where
  some_digit : (a : List Bool) → Is x a → count a ≡ 0 → ⊥
  some_digit a i e = absurd (omega (arith, size_is i))

  pub word_some : 0 < x.word
  unfolding ones ones_in
  word_some = positive x.word (λ e. let z : size x ≡ 0 = ap ones e in omega arith)
    where
      positive : (n : ℕ) → (n ≡ 0 → ⊥) → 0 < n
      positive n f = omega (arith, f)

  digits_some : (a : List Bool) → Is x a → 0 < word a
  digits_some a i = subst (λ (w : ℕ). 0 < w) (word_is i) word_some

  pub lowest_is : Lowest one_word x (count_trailing_zeros room x.word)
  lowest_is =
      let f : (a : List Bool) → Is x a → count_trailing_zeros room x.word ≡ first a = λ a i. ap (count_trailing_zeros room) (word_is i)
      ∙ trailing_word room a i.short (digits_some a i) in
      let d : Is x (set_digits x) = is_digits x h in
      record {
        narrow = lt_of_le_of_lt (le_of_eq (f (set_digits x) d)) (le_trans (first-lt (set_digits x) (some_digit (set_digits x) d)) d.short);
        there = λ a i. subst (λ (k : ℕ). dig a k ≡ true) (sym (f a i)) (first_in a (some_digit a i));
        same = f;
      }

  pub rest-is : Rest one_word x (record { word = bit_and x.word (x.word - 1) })
  rest-is =
      let f : (a : List Bool) → Is x a → Is (record { word = bit_and x.word (x.word - 1) }) (less a (only (first a))) = λ a i. record {
        short = le_trans (le_of_eq (length_less a (only (first a)))) i.short;
        words = packs (less a (only (first a))) (ap (λ (w : ℕ). bit_and w (w - 1)) (word_is i) ∙ rest_word a (digits_some a i));
      } in
      let a = set_digits x in
      let d : Is x (set_digits x) = is_digits x h in
      record {
        one_fewer = omega (arith, count-only a (first a) (first_in a (some_digit a d)), size_is d, size_is (f a d));
        same = f;
      }

-- ---- none, one alone, and the n lowest

pub none_is : Is (record { word = 0 }) []
unfolding word
none_is = record { short = omega arith; words = packs [] refl }

pub just_is : (k : ℕ) → k < room → (b : ℕ) → b ≡ 2 ^ k → Is (record { word = b }) (only k)
just_is k h b e = record { short = omega (arith, length_only k); words = packs (only k) (e ∙ sym (only-word k)) }

pub full_is : (n : ℕ) → n ≤ room → (w : ℕ) → w ≡ 2 ^ n - 1 → Is (record { word = w }) (replicate n true)
full_is n h w e =
    record { short = le_trans (le_of_eq (length-replicate n true)) h; words = packs (replicate n true) (e ∙ sym (full_word n)) }

-- ---- one digit; the word b is that of k alone

module _ {x : Set} (k : ℕ) (h : k < room) (b : ℕ) (e : b ≡ 2 ^ k) where
  pub with_is : (a : List Bool) → Is x a → Is (record { word = bit_or x.word b }) (either a (only k))
  with_is a i = or_is a (only k) i (just_is k h b e)

  pub without_is : Fits x → Dropped one_word x k (record { word = bit_and x.word ((2 ^ room - 1) - b) })
  without_is hx =
      let d : Is x (set_digits x) = is_digits x hx in
      let f : (a : List Bool) → Is x a → Is (record { word = bit_and x.word ((2 ^ room - 1) - b) }) (less a (only k)) = λ a i. less_is a
      (only k) i (just_is k h b e) in
      record {
        fewer = λ q. omega (arith, count-only (set_digits x) k (q (set_digits x) d), size_is d, size_is (f (set_digits x) d));
        same = f;
      }

pub has_is : {x : Set} (k : ℕ) (a : List Bool) → Is x a → eqb (bit_and (x.word / 2 ^ k) 1) 1 ≡ dig a k
unfolding digit
has_is {x} k a i = ap (λ (v : ℕ). eqb v 1) (and_mask (x.word / 2 ^ k) 1 ∙ ap (λ (v : ℕ). v / 2 ^ k % 2) (word_is i)) ∙ digit-word a k

-- one digit more at the top
pub is_more : {x : Set} (a : List Bool) → length a < room → Is x a → Is x (a ++ (false ∷ []))
is_more a h i = other_digits (a ++ (false ∷ [])) i (omega (arith, length-append a (false ∷ []))) (sym (word_more a))

-- ---- words that hold sets

pub set_at : (masks : List ℕ) (e : ℕ) → get_or masks e 0 < 2 ^ room → SetAt one_word masks e (mask_at masks e)
set_at masks e l = record { is = refl; some = (set_digits (mask_at masks e), is_digits (mask_at masks e) l) }

-- b is the word of i alone
pub marked-at : (words : List ℕ) (k i b : ℕ) → k < length words → b ≡ 2 ^ i → MarkedAt words k i (set words k (bit_or (get_or words k 0) b))
marked-at words k i b h e u w =
    ap (λ (m : ℕ). digit (get_or (set words k (bit_or (get_or words k 0) m)) u 0) w) e ∙ digit-stored words k (2 ^ i) u w h
    ∙ ap (λ (t : Bool). digit (get_or words u 0) w || eqb u k && t) (digit_power i w)
