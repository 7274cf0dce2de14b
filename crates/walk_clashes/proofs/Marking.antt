-- The words of some numbers of a set are marked already, and the others are left.
use mathlib.Core.Bool.{Bool, true, false, not, ◌&&◌, ◌||◌, or-false, and-true, and-false}
use mathlib.Core.Path.{◌≡◌, refl, sym, ap, ap₂, ◌∙◌}
use mathlib.Core.List.{List}
use Prim.Native.Nat.{ℕ, ◌<◌}
use native.Mathlib.Decide.{ℕ_discrete}
use native.Mathlib.Omega.{arith}
use borrow.Author.Tests.{eq-eqb, ne_eqb}
use lib.Bits.{bit_or}
use lib.Dec.{eqb}
use lib.ListN.{length, get_or}
use Rattle.lists.proofs.Truth.{and_left}
use Rattle.sets.specs.Word.{dig, digit, either, less, only, Sub}
use Rattle.sets.specs.Kinds.{Joint, First, SetAt}
use Rattle.sets.specs.Sets.{Is, size, MarkedAt, one_word}
use Rattle.sets.specs.declared.Set.{Set}
use Rattle.sets.proofs.Word.{or_word}
use Rattle.sets.proofs.Digits.{dig-less}
use Rattle.sets.proofs.Ones.{dig-none, only_is}
use Rattle.sets.proofs.Numbers.{digit-word}
use Rattle.sets.proofs.Sets.{word_is, size_is}
use Rattle.walk_edges.specs.Marks.{Marked}
use Rattle.walk_edges.proofs.Firsts.{spread}
use Rattle.walk_clashes.specs.Marking.{MarkRoom, MarkedBy}

-- the digits of a set's word
pub digit_set : {x : Set} (mask : List Bool) → Is x mask → (u : ℕ) → digit x.word u ≡ dig mask u
digit_set mask i u = ap (λ (m : ℕ). digit m u) (word_is i) ∙ digit-word mask u

-- the word of a set that was read and joined with another
pub joined_word : (words : List ℕ) (k : ℕ) {own x r : Set} (mask : List Bool) → SetAt one_word words k own → Is x mask
    → Joint one_word own x r either → r.word ≡ bit_or (get_or words k 0) x.word
joined_word words k mask e i j =
    let a = e.some.0 in
    let ia = e.some.1 in
    word_is (j a mask ia i) ∙ sym (or_word a mask)
    ∙ ap₂ bit_or (sym (word_is ia) ∙ ap (λ (s : Set). s.word) e.is) (sym (word_is i))

module _ (k : ℕ) (words₀ : List ℕ) where
  -- of those of the mask that are not left the words are marked
  pub record Half (mask : List Bool) (rest : Set) (words : List ℕ) : Type 0 where
    pub rest_now : List Bool
    pub rest_is : Is rest rest_now
    pub known : Sub rest_now mask
    pub each : (e u : ℕ) → digit (get_or words e 0) u ≡ (digit (get_or words₀ e 0) u || ((dig mask e && not (dig rest_now e)) && eqb u k))

  half_start : {mask : List Bool} {rest : Set} → Is rest mask → Half mask rest words₀
  half_start {mask} i =
      record {
        rest_now = mask;
        rest_is = i;
        known = λ j t. t;
        each = λ e u. sym (ap (λ (b : Bool). digit (get_or words₀ e 0) u || (b && eqb u k)) (never (dig mask e))
            ∙ or-false (digit (get_or words₀ e 0) u));
      }
    where
      never : (b : Bool) → (b && not b) ≡ false
      never true = refl
      never false = refl

  module _ {mask : List Bool} {rest : Set} {words : List ℕ} (h : Half mask rest words) where
    half_end : size rest ≡ 0 → Marked mask k words₀ words
    half_end z e u =
        h.each e u
        ∙ ap (λ (b : Bool). digit (get_or words₀ e 0) u || (b && eqb u k))
        (ap (λ (b : Bool). dig mask e && not b) (dig-none h.rest_now (sym (size_is h.rest_is) ∙ z) e) ∙ and-true (dig mask e))

    module _ {x : ℕ} {rest' : Set} (p : First one_word rest rest' x) where
      there : dig h.rest_now x ≡ true
      there = p.lowest.there h.rest_now h.rest_is

      half_known : dig mask x ≡ true
      half_known = h.known x there

      half_next : {after : List ℕ} → MarkedAt words x k after → Half mask rest' after
      half_next marks =
          record {
            rest_now = less h.rest_now (only x);
            rest_is = p.dropped.same h.rest_now h.rest_is;
            known = λ j t. h.known j (and_left (dig h.rest_now j) _ (sym (dig-less h.rest_now (only x) j) ∙ t));
            each = λ e u.
                marks e u
                ∙ (λ i. h.each e u i || (eqb e x && eqb u k))
                ∙ spread (digit (get_or words₀ e 0) u) (dig mask e && not (dig h.rest_now e)) (eqb e x) (eqb u k)
                ∙ ap (λ (b : Bool). digit (get_or words₀ e 0) u || (b && eqb u k)) (go e (ℕ_discrete e x));
          }
        where
          here : (b : Bool) → (b || true) ≡ true
          here true = refl
          here false = refl

          digit-less : (e : ℕ) → dig (less h.rest_now (only x)) e ≡ (dig h.rest_now e && not (eqb e x))
          digit-less e = dig-less h.rest_now (only x) e ∙ ap (λ (b : Bool). dig h.rest_now e && not b) (only_is x e)

          go : (e : ℕ) → Dec (e ≡ x)
              → ((dig mask e && not (dig h.rest_now e)) || eqb e x) ≡ (dig mask e && not (dig (less h.rest_now (only x)) e))
          go e (yes q) =
              ap (λ (b : Bool). (dig mask e && not (dig h.rest_now e)) || b) (eq-eqb e x q)
              ∙ here (dig mask e && not (dig h.rest_now e))
              ∙ sym
              ((λ i. (ap (dig mask) q ∙ half_known) i && not (digit-less e i))
              ∙ ap not (ap (λ (b : Bool). dig h.rest_now e && not b) (eq-eqb e x q) ∙ and-false (dig h.rest_now e)))
          go e (no q) =
              ap (λ (b : Bool). (dig mask e && not (dig h.rest_now e)) || b) (ne_eqb e x q)
              ∙ or-false (dig mask e && not (dig h.rest_now e))
              ∙ ap (λ (b : Bool). dig mask e && not b)
              (sym (digit-less e ∙ ap (λ (b : Bool). dig h.rest_now e && not b) (ne_eqb e x q) ∙ and-true (dig h.rest_now e)))

-- the loop keeps this of all that the set stands for
module _ (set : Set) (k : ℕ) (words₀ : List ℕ) where
  pub record Marking (rest : Set) (words : List ℕ) : Type 0 where
    pub long : length words ≡ length words₀
    pub halves : (mask : List Bool) → Is set mask → Half k words₀ mask rest words

  pub marking_start : Marking set words₀
  marking_start = record { long = refl; halves = λ mask i. half_start k words₀ i }

  module _ {rest : Set} {words : List ℕ} (m : Marking rest words) where
    pub marking_end : size rest ≡ 0 → MarkedBy set k words₀ words
    marking_end z = record { marked = λ mask i. half_end k words₀ (m.halves mask i) z; long = m.long }

    module _ {x : ℕ} {rest' : Set} (p : First one_word rest rest' x) where
      -- the lowest of them has a word
      pub marking_low : MarkRoom words₀ set k → x < length words
      marking_low r = omega (arith, r.low x (half_known k words₀ (m.halves r.mask r.mask_is) p), m.long)

      pub marking_next : {after : List ℕ} → length after ≡ length words → MarkedAt words x k after → Marking rest' after
      marking_next l marks = record { long = l ∙ m.long; halves = λ mask i. half_next k words₀ (m.halves mask i) p marks }
