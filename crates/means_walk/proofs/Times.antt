-- How often a selection is in a list, by places; selections and masks of yes and no.
use mathlib.Core.Bool.{Bool, true, false, ◌&&◌, true≢false}
use mathlib.Core.List.{List, [], ◌∷◌, map}
use mathlib.Core.Path.{◌≡◌, refl, sym, ap, ap₂, ◌∙◌}
use Prim.Native.Nat.{ℕ, zero, suc, ◌+◌, ◌≤◌, ◌<◌}
use native.Mathlib.Omega.{arith}
use lib.ListN.{length, get_or, replicate}
use Rattle.lists.proofs.Truth.{and_left, and_right}
use Rattle.sets.specs.Word.{bit}
use Rattle.paper.specs.Conversion.{takens}
use Rattle.paper.specs.Walk.{Status, Taken, Rejected, Undecided, is_taken}
use Rattle.means_walk.specs.Complete.{allows, agrees, equal, same, times_in}
use Rattle.means_walk.proofs.Complete.{same_path}

equal_self : (s : Status) → equal s s ≡ true
equal_self Taken = refl
equal_self Rejected = refl
equal_self Undecided = refl

same_self : (x : List Status) → same x x ≡ true
unfolding same
same_self [] = refl
same_self (s ∷ x) = ap₂ ◌&&◌ (equal_self s) (same_self x)

pub times-at : (x : List Status) (l : List (List Status)) → 0 < times_in x l → (i : ℕ) × (i < length l) × (get_or l i [] ≡ x)
unfolding times_in
times-at x [] h = absurd (omega arith)
times-at x (y ∷ l) h = go (same y x) refl h (times-at x l)
  where
    go : (b : Bool) → same y x ≡ b → 0 < bit b + times_in x l → (0 < times_in x l → (i : ℕ) × (i < length l) × (get_or l i [] ≡ x))
        → (i : ℕ) × (i < length (y ∷ l)) × (get_or (y ∷ l) i [] ≡ x)
    go true e h f = (0, omega arith, same_path y x e)
    go false e h f = let r = f (omega arith) in (suc r.0, (let q = r.1 in omega arith), r.2)

pub at-times : (l : List (List Status)) (x : List Status) (i : ℕ) → i < length l → get_or l i [] ≡ x → 0 < times_in x l
unfolding times_in
at-times [] x i h e = absurd (omega arith)
at-times (y ∷ l) x zero h e = let q : bit (same y x) ≡ 1 = ap bit (ap (λ (z : List Status). same z x) e ∙ same_self x) in omega arith
at-times (y ∷ l) x (suc i) h e = omega (arith, at-times l x i (omega arith) e)

pub times-one : (l : List (List Status)) (x : List Status) → times_in x l ≤ 1 → (i j : ℕ) → i < length l → j < length l → get_or l i [] ≡ x
    → get_or l j [] ≡ x → i ≡ j
unfolding times_in
times-one [] x t i j hi hj p q = absurd (omega arith)
times-one (y ∷ l) x t zero zero hi hj p q = refl
times-one (y ∷ l) x t zero (suc j) hi hj p q =
    let e : bit (same y x) ≡ 1 = ap bit (ap (λ (z : List Status). same z x) p ∙ same_self x) in
    absurd (omega (arith, at-times l x j (omega arith) q))
times-one (y ∷ l) x t (suc i) zero hi hj p q =
    let e : bit (same y x) ≡ 1 = ap bit (ap (λ (z : List Status). same z x) q ∙ same_self x) in
    absurd (omega (arith, at-times l x i (omega arith) p))
times-one (y ∷ l) x t (suc i) (suc j) hi hj p q = ap suc (times-one l x (omega arith) i j (omega arith) (omega arith) p q)

-- ---- a mask of yes and no as a selection with nothing undecided
abbrev pub decided : Bool → Status
decided true = Taken
decided false = Rejected

abbrev pub state_of : List Bool → List Status
state_of = map decided

taken_decided : (b : Bool) → is_taken (decided b) ≡ b
taken_decided true = refl
taken_decided false = refl

pub takens_state : (bs : List Bool) → takens (state_of bs) ≡ bs
takens_state [] = refl
takens_state (b ∷ bs) = ap₂ (λ (x : Bool) (y : List Bool). x ∷ y) (taken_decided b) (takens_state bs)

decided_allowed : (b : Bool) → allows Undecided (decided b) ≡ true
decided_allowed true = refl
decided_allowed false = refl

pub state_agrees : (bs : List Bool) → agrees (replicate (length bs) Undecided) (state_of bs) ≡ true
unfolding agrees
state_agrees [] = refl
state_agrees (b ∷ bs) = ap₂ ◌&&◌ (decided_allowed b) (state_agrees bs)

allowed_decided : (s : Status) → allows Undecided s ≡ true → s ≡ decided (is_taken s)
allowed_decided Taken e = refl
allowed_decided Rejected e = refl
allowed_decided Undecided e = absurd (true≢false (sym e))

pub agrees_state : (n : ℕ) (x : List Status) → agrees (replicate n Undecided) x ≡ true
    → (x ≡ state_of (takens x)) × (length (takens x) ≡ n)
unfolding agrees
agrees_state zero [] e = (refl, refl)
agrees_state zero (s ∷ x) e = absurd (true≢false (sym e))
agrees_state (suc n) [] e = absurd (true≢false (sym e))
agrees_state (suc n) (s ∷ x) e =
    let r = agrees_state n x (and_right (allows Undecided s) (agrees (replicate n Undecided) x) e) in (
      ap₂ (λ (a : Status) (b : List Status). a ∷ b)
          (allowed_decided s (and_left (allows Undecided s) (agrees (replicate n Undecided) x) e)) r.0,
      ap suc r.1,
    )
