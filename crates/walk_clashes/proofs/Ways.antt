-- Candidates are marked both ways, one after the other.
use mathlib.Core.Path.{◌≡◌, refl, sym, ap, ◌∙◌}
use mathlib.Core.Bool.{Bool, true, false, not, ◌&&◌, ◌||◌, and-true, and-false, or_comm}
use mathlib.Core.List.{List}
use Prim.Native.Nat.{ℕ, ◌+◌}
use native.Mathlib.Omega.{arith}
use native.Mathlib.Decide.{ℕ_discrete}
use borrow.Author.Tests.{le-ltb, eq-eqb, ne_eqb}
use lib.Dec.{eqb, ltb}
use lib.ListN.{get_or}
use Rattle.sets.specs.Word.{digit}
use Rattle.sets.proofs.Numbers.{digit_zero}
use Rattle.walk_edges.proofs.Firsts.{before_next, at_next, spread}

module _ (hit : ℕ → ℕ → Bool) where
  -- word i has j where one of the two is among the first k and hits the other
  abbrev pub Ways : ℕ → List ℕ → Type 0
  Ways k words = (i j : ℕ) → digit (get_or words i 0) j ≡ ((ltb i k && hit i j) || (ltb j k && hit j i))

  pub ways_none : (words : List ℕ) → ((i : ℕ) → get_or words i 0 ≡ 0) → Ways 0 words
  ways_none words z i j =
      ap (λ (w : ℕ). digit w j) (z i) ∙ digit_zero j
      ∙ sym (λ l. (le-ltb i 0 (omega arith) l && hit i j) || (le-ltb j 0 (omega arith) l && hit j i))

  -- k is marked both ways too
  pub ways_more : (words after : List ℕ) (k : ℕ)
      → ((i j : ℕ) → digit (get_or after i 0) j ≡ ((digit (get_or words i 0) j || (eqb i k && hit k j)) || (hit k i && eqb j k)))
      → Ways k words → Ways (k + 1) after
  ways_more words after k m s i j =
      m i j ∙ (λ l. (s i j l || here l) || at_next (λ v. hit v i) j k l)
      ∙ ap (λ (b : Bool). b || (eqb j k && hit j i)) (swap (ltb i k && hit i j) (ltb j k && hit j i) (eqb i k && hit i j))
      ∙ spread ((ltb i k && hit i j) || (eqb i k && hit i j)) (ltb j k) (eqb j k) (hit j i)
      ∙ (λ l. spread false (ltb i k) (eqb i k) (hit i j) l || ((ltb j k || eqb j k) && hit j i))
      ∙ sym (λ l. (before_next i k l && hit i j) || (before_next j k l && hit j i))
    where
      swap : (a b c : Bool) → ((a || b) || c) ≡ ((a || c) || b)
      swap true b c = refl
      swap false true true = refl
      swap false true false = refl
      swap false false true = refl
      swap false false false = refl

      turned : (a b : Bool) → (a && b) ≡ (b && a)
      turned true true = refl
      turned true false = refl
      turned false true = refl
      turned false false = refl

      here : (eqb i k && hit k j) ≡ (eqb i k && hit i j)
      here = turned (eqb i k) (hit k j) ∙ at_next (λ v. hit v j) i k

-- k is marked with those that it hits, and of those that it folds with only with those that are not marked yet
module _ (hit fold : ℕ → ℕ → Bool) where
  abbrev both : ℕ → ℕ → Bool
  both i j = hit i j || fold i j

  pub ways_fresh : (words after : List ℕ) (k : ℕ) (fresh : ℕ → Bool)
      → ((j : ℕ) → fresh j ≡ (hit k j || (fold k j && not (digit (get_or words k 0) j || hit k j))))
      → ((i j : ℕ) → digit (get_or after i 0) j ≡ ((digit (get_or words i 0) j || (eqb i k && fresh j)) || (fresh i && eqb j k)))
      → Ways both k words → Ways both (k + 1) after
  ways_fresh words after k fresh f m s =
      ways_more both words after k (λ i j. m i j ∙ first i j (ℕ_discrete i k) ∙ second i j (ℕ_discrete j k)) s
    where
      marked : ℕ → ℕ → Bool
      marked i j = digit (get_or words i 0) j

      turned : (i j : ℕ) → marked k i ≡ marked i k
      turned i j = s k i ∙ or_comm (ltb k k && both k i) (ltb i k && both i k) ∙ sym (s i k)

      again : (a h b : Bool) → (a || (h || (b && not (a || h)))) ≡ (a || (h || b))
      again true h b = refl
      again false true b = refl
      again false false true = refl
      again false false false = refl

      beside : (a p h b : Bool) → ((a || p) || (h || (b && not (a || h)))) ≡ ((a || p) || (h || b))
      beside true p h b = refl
      beside false true h b = refl
      beside false false true b = refl
      beside false false false true = refl
      beside false false false false = refl

      first : (i j : ℕ) → Dec (i ≡ k)
          → ((marked i j || (eqb i k && fresh j)) || (fresh i && eqb j k)) ≡ ((marked i j || (eqb i k && both k j)) || (fresh i && eqb j k))
      first i j (yes q) =
          ap (λ (b : Bool). b || (fresh i && eqb j k))
          ((λ t. ap (λ (l : ℕ). marked l j) q t || (eq-eqb i k q t && f j t)) ∙ again (marked k j) (hit k j) (fold k j)
          ∙ sym (λ t. ap (λ (l : ℕ). marked l j) q t || (eq-eqb i k q t && both k j)))
      first i j (no q) =
          ap (λ (b : Bool). b || (fresh i && eqb j k))
          ((λ t. marked i j || (ne_eqb i k q t && fresh j)) ∙ sym (λ t. marked i j || (ne_eqb i k q t && both k j)))

      second : (i j : ℕ) → Dec (j ≡ k)
          → ((marked i j || (eqb i k && both k j)) || (fresh i && eqb j k)) ≡ ((marked i j || (eqb i k && both k j)) || (both k i && eqb j k))
      second i j (yes q) =
          (λ t. (here t || (eqb i k && both k j)) || (f i t && eq-eqb j k q t))
          ∙ ap (λ (b : Bool). (marked k i || (eqb i k && both k j)) || b) (and-true (hit k i || (fold k i && not (marked k i || hit k i))))
          ∙ beside (marked k i) (eqb i k && both k j) (hit k i) (fold k i)
          ∙ sym
          ((λ t. (here t || (eqb i k && both k j)) || (both k i && eq-eqb j k q t))
          ∙ ap (λ (b : Bool). (marked k i || (eqb i k && both k j)) || b) (and-true (both k i)))
        where
          here : marked i j ≡ marked k i
          here = ap (marked i) q ∙ sym (turned i j)
      second i j (no q) =
          ap (λ (b : Bool). (marked i j || (eqb i k && both k j)) || b)
          ((λ t. fresh i && ne_eqb j k q t) ∙ and-false (fresh i) ∙ sym ((λ t. both k i && ne_eqb j k q t) ∙ and-false (both k i)))
