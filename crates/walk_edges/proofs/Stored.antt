-- One number that is put into several sets of a list of words, one after the other.
use mathlib.Core.Path.{◌≡◌, sym, ap, ◌∙◌}
use mathlib.Core.Bool.{Bool, true, false, ◌&&◌, ◌||◌, or-false}
use mathlib.Core.List.{List}
use Prim.Native.Nat.{ℕ, ◌+◌, ◌<◌}
use native.Mathlib.Omega.{arith}
use lib.Dec.{eqb}
use lib.ListN.{length, get_or, take}
use lib.Seq.{take-length}
use Rattle.lists.specs.Lists.{any, upto}
use Rattle.lists.proofs.Places.{upto_length, any-below_more}
use Rattle.sets.specs.Word.{dig, digit}
use Rattle.sets.specs.Sets.{MarkedAt}
use Rattle.walk_edges.specs.Marks.{Marked}
use Rattle.walk_edges.proofs.Firsts.{spread}

-- the store passes over those that fail the test
module _ (test : ℕ → Bool) (f : ℕ → ℕ) (n k : ℕ) (words₀ : List ℕ) where
  -- e is one of those of the first i numbers f 0, f 1, .. that pass
  abbrev among : ℕ → ℕ → Bool
  among i e = any (λ j. test j && eqb e (f j)) (take i (upto n))

  abbrev pub Stored : List ℕ → ℕ → Type 0
  Stored words i = (e u : ℕ) → digit (get_or words e 0) u ≡ (digit (get_or words₀ e 0) u || (among i e && eqb u k))

  pub stored-none : Stored words₀ 0
  unfolding any
  stored-none e u = sym (or-false (digit (get_or words₀ e 0) u))

  -- one more, which passes or fails
  pub stored_more : (words after : List ℕ) (i x : ℕ) → i < n → x ≡ f i → test i ≡ true → MarkedAt words x k after → Stored words i
      → Stored after (i + 1)
  stored_more words after i x h q t m s e u =
      let d = digit (get_or words₀ e 0) u in
      m e u
      ∙ (λ r. s e u r || (eqb e (q r) && eqb u k))
      ∙ ap (λ (b : Bool). (d || (among i e && eqb u k)) || ((b && eqb e (f i)) && eqb u k)) (sym t)
      ∙ spread d (among i e) (test i && eqb e (f i)) (eqb u k)
      ∙ ap (λ (b : Bool). d || (b && eqb u k)) (sym (any-below_more (λ j. test j && eqb e (f j)) n i h))

  pub stored_same : (words : List ℕ) (i : ℕ) → i < n → test i ≡ false → Stored words i → Stored words (i + 1)
  stored_same words i h t s e u =
      let d = digit (get_or words₀ e 0) u in
      s e u
      ∙ ap (λ (b : Bool). d || (b && eqb u k))
      (sym (any-below_more (λ j. test j && eqb e (f j)) n i h ∙ ap (λ (b : Bool). among i e || (b && eqb e (f i))) t
      ∙ or-false (among i e)))

  -- all: just those of a mask
  pub stored-all : (words : List ℕ) (i : ℕ) → i ≡ n → (mask : List Bool)
      → ((e : ℕ) → dig mask e ≡ any (λ j. test j && eqb e (f j)) (upto n)) → Stored words i → Marked mask k words₀ words
  stored-all words i q mask m s e u =
      let p : i ≡ length (upto n) = omega (arith, upto_length n) in
      let all = ap (λ (k : ℕ). take k (upto n)) p ∙ take-length (upto n) in
      s e u
      ∙ ap (λ (b : Bool). digit (get_or words₀ e 0) u || (b && eqb u k)) (ap (any (λ j. test j && eqb e (f j))) all ∙ sym (m e))
