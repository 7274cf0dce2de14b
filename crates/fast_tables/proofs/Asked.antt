-- A search that keeps what it was told of edges finds what one finds that asks each time.
use mathlib.Core.Path.{◌≡◌, refl, sym, ap, ◌∙◌}
use mathlib.Core.Bool.{Bool, true, false, not, ◌&&◌, ◌||◌, cond, true≢false}
use mathlib.Core.Logic.{◌⊎◌, inl, inr}
use mathlib.Core.List.{List, [], ◌∷◌}
use Prim.Native.Nat.{ℕ, ◌<◌}
use borrow.Author.Tests.{eq-eqb, ne_eqb, eqb-true}
use lib.Dec.{eqb}
use Rattle.lists.specs.Lists.{any, keep, filter, upto}
use Rattle.lists.proofs.Truth.{never_true, and_left, and_right, and_both, or_left, or_right, or_cases}
use Rattle.lists.proofs.Passing.{some_yes, some_is}
use Rattle.sets.specs.Word.{dig, count, first, both, either, less, only}
use Rattle.sets.proofs.Digits.{dig-both, dig-either, dig-less, dig-only, dig_self, count_none, count-empty, first_in}
use Rattle.fast_tables.specs.Asked.{KnownEdges, holding, missing, asked_in_turn, unheld, free, searched}

-- one of those that p keeps passes
pub any-filter : {A : Type 0} (p q : A → Bool) (xs : List A) → any q (filter p xs) ≡ any (λ x. p x && q x) xs
unfolding any filter keep
any-filter p q [] = refl
any-filter {A} p q (x ∷ xs) = go (p x) (any-filter p q xs)
  where
    go : (b : Bool) → any q (filter p xs) ≡ any (λ x. p x && q x) xs
        → any q (keep b x (filter p xs)) ≡ ((b && q x) || any (λ x. p x && q x) xs)
    go true e = ap (λ (r : Bool). q x || r) e
    go false e = e

-- what is known is so
pub record Right (out : ℕ → Bool) (f : KnownEdges) : Type 0 where
  pub held_so : (e : ℕ) → dig f.held e ≡ true → out e ≡ false
  pub outside_so : (e : ℕ) → dig f.outside e ≡ true → out e ≡ true

module _ (out : ℕ → Bool) where
  more_digit : (mask : List Bool) (e : ℕ) (b : Bool) → out e ≡ b → ((k : ℕ) → dig mask k ≡ true → out k ≡ b) → (k : ℕ)
      → dig (either mask (only e)) k ≡ true → out k ≡ b
  more_digit mask e b q f k t = go (or_cases (dig mask k) (dig (only e) k) (sym (dig-either mask (only e) k) ∙ t))
    where
      go : (dig mask k ≡ true) ⊎ (dig (only e) k ≡ true) → out k ≡ b
      go (inl p) = f k p
      go (inr p) = ap out (dig-only e k p) ∙ q

  asked-right : (es : List ℕ) (f : KnownEdges) → Right out f → Right out (asked_in_turn out es f)
  unfolding asked_in_turn
  asked-right [] f r = r
  asked-right (e ∷ es) f r = go (out e) refl (asked-right es (holding f e))
    where
      go : (b : Bool) → out e ≡ b → (Right out (holding f e) → Right out (asked_in_turn out es (holding f e)))
          → Right out (cond b (missing f e) (asked_in_turn out es (holding f e)))
      go true q ih = record { held_so = r.held_so; outside_so = more_digit f.outside e true q r.outside_so }
      go false q ih = ih (record { held_so = more_digit f.held e false q r.held_so; outside_so = r.outside_so })

  asked_finds : (es : List ℕ) (f : KnownEdges) → any out es ≡ true
      → (e : ℕ) × (any (eqb e) es ≡ true) × (dig (asked_in_turn out es f).outside e ≡ true)
  unfolding asked_in_turn any
  asked_finds [] f t = absurd (true≢false (sym t))
  asked_finds (e ∷ es) f t = go (out e) refl t (asked_finds es (holding f e))
    where
      go : (b : Bool) → out e ≡ b → (b || any out es) ≡ true
          → (any out es ≡ true → (k : ℕ) × (any (eqb k) es ≡ true) × (dig (asked_in_turn out es (holding f e)).outside k ≡ true))
          → (k : ℕ) × ((eqb k e || any (eqb k) es) ≡ true) × (dig (cond b (missing f e) (asked_in_turn out es (holding f e))).outside k ≡ true)
      go true q t ih = (
        e,
        or_left (eqb e e) (any (eqb e) es) (eq-eqb e e refl),
        dig-either f.outside (only e) e
            ∙ or_right (dig f.outside e) (dig (only e) e) (dig_self e),
      )
      go false q t ih = let r = ih t in (r.0, or_right (eqb r.0 e) (any (eqb r.0) es) r.1, r.2)

module _ (m : ℕ) (out : ℕ → Bool) where
  -- some edge of a mask is outside
  abbrev pub leaves : List Bool → Bool
  leaves mask = any (λ e. dig mask e && out e) (upto m)

  module _ (mask : List Bool) (short : (e : ℕ) → dig mask e ≡ true → e < m) where
    -- one that is known to be
    not_free : (f : KnownEdges) → Right out f → (k : ℕ) → dig (both mask f.outside) k ≡ true → leaves mask ≡ true
    not_free f r k t =
        let s = sym (dig-both mask f.outside k) ∙ t in
        let p = and_left (dig mask k) (dig f.outside k) s in
        some_is (λ e. dig mask e && out e) m k (short k p) (and_both p (r.outside_so k (and_right (dig mask k) (dig f.outside k) s)))

    free_no : (f : KnownEdges) → Right out f → free mask f ≡ false → leaves mask ≡ true
    free_no f r t =
        not_free f r (first (both mask f.outside))
        (first_in (both mask f.outside) (λ z. true≢false (sym (eq-eqb (count (both mask f.outside)) 0 z) ∙ t)))

    free_yes : (f : KnownEdges) → Right out f → leaves mask ≡ false → free mask f ≡ true
    free_yes f r t =
        eq-eqb (count (both mask f.outside)) 0 (count-empty (both mask f.outside) (λ k q. true≢false (sym (not_free f r k q) ∙ t)))

    -- once those are asked that are not known to be held, no other is left
    after-asked : (f : KnownEdges) → Right out f → free mask (asked_in_turn out (unheld m mask f) f) ≡ not (leaves mask)
    unfolding unheld
    after-asked f r = go (leaves mask) refl
      where
        g : KnownEdges
        g = asked_in_turn out (unheld m mask f) f

        open_edge_lem : leaves mask ≡ true → any out (unheld m mask f) ≡ true
        open_edge_lem t =
            let s = some_yes (λ e. dig mask e && out e) m t in
            let e = s.0 in
            let a = and_left (dig mask e) (out e) s.2 in
            let b = and_right (dig mask e) (out e) s.2 in
            let c : dig f.held e ≡ false = never_true (dig f.held e) (λ q. true≢false (sym b ∙ r.held_so e q)) in
            any-filter (dig (less mask f.held)) out (upto m)
            ∙ some_is (λ e. dig (less mask f.held) e && out e) m e s.1
            (and_both (dig-less mask f.held e ∙ and_both a (ap not c)) b)

        go : (b : Bool) → leaves mask ≡ b → free mask g ≡ not b
        go false t = free_yes g (asked-right out (unheld m mask f) f r) t
        go true t =
            let w = asked_finds out (unheld m mask f) f (open_edge_lem t) in
            let e = w.0 in
            let s = some_yes (λ k. dig (less mask f.held) k && eqb e k) m
            (sym (any-filter (dig (less mask f.held)) (eqb e) (upto m)) ∙ w.1) in
            let k = s.0 in
            let p : dig (less mask f.held) k ≡ true = and_left (dig (less mask f.held) k) (eqb e k) s.2 in
            let q : e ≡ k = eqb-true e k (and_right (dig (less mask f.held) k) (eqb e k) s.2) in
            let u : dig mask e ≡ true = ap (dig mask) q
            ∙ and_left (dig mask k) (not (dig f.held k)) (sym (dig-less mask f.held k) ∙ p) in
            ne_eqb (count (both mask g.outside)) 0
            (λ z. count_none (both mask g.outside) z e (dig-both mask g.outside e ∙ and_both u w.2))

  module _ (fits : ℕ → Bool) (masks : ℕ → List Bool) (short : (j e : ℕ) → dig (masks j) e ≡ true → e < m) where
    pub searched_is : (js : List ℕ) (f : KnownEdges) → Right out f
        → searched m out fits masks js f ≡ any (λ j. fits j && not (leaves (masks j))) js
    unfolding searched any
    searched_is [] f r = refl
    searched_is (j ∷ js) f r =
        go (fits j) (free (masks j) f) refl (leaves (masks j)) refl (after-asked (masks j) (short j) f r)
        (searched_is js (asked_in_turn out (unheld m (masks j) f) f) (asked-right out (unheld m (masks j) f) f r)) (searched_is js f r)
      where
        g : KnownEdges
        g = asked_in_turn out (unheld m (masks j) f) f

        rest : Bool
        rest = any (λ j. fits j && not (leaves (masks j))) js

        answers : (c n : Bool) → c ≡ n → searched m out fits masks js g ≡ rest
            → cond c true (searched m out fits masks js g) ≡ (n || rest)
        answers true true q later = refl
        answers true false q later = absurd (true≢false q)
        answers false true q later = absurd (true≢false (sym q))
        answers false false q later = later

        go : (a b : Bool) → free (masks j) f ≡ b → (l : Bool) → leaves (masks j) ≡ l → free (masks j) g ≡ not (leaves (masks j))
            → searched m out fits masks js g ≡ rest → searched m out fits masks js f ≡ rest
            → cond (a && b) (cond (free (masks j) g) true (searched m out fits masks js g))
            (searched m out fits masks js f) ≡ ((a && not (leaves (masks j))) || rest)
        go false b p l q n later skipped = skipped
        go true true p l q n later skipped = answers (free (masks j) g) (not (leaves (masks j))) n later
        go true false p true q n later skipped = skipped ∙ ap (λ (t : Bool). not t || rest) (sym q)
        go true false p false q n later skipped = absurd (true≢false (sym (free_no (masks j) (short j) f r p) ∙ q))
