-- Laws of truth values.
use mathlib.Core.Path.{◌≡◌, refl, sym}
use mathlib.Core.Bool.{Bool, true, false, not, cond, ◌||◌, ◌&&◌, xor, true≢false}
use mathlib.Core.Logic.{◌⊎◌, inl, inr}
use lib.Dec.{T}

-- of neither
pub or-none : (a b : Bool) → a || b ≡ false → (a ≡ false) × (b ≡ false)
or-none true b e = absurd (true≢false e)
or-none false b e = (refl, e)

pub xor_assoc : (a b c : Bool) → xor (xor a b) c ≡ xor a (xor b c)
unfolding xor
xor_assoc true true true = refl
xor_assoc true true false = refl
xor_assoc true false true = refl
xor_assoc true false false = refl
xor_assoc false true true = refl
xor_assoc false true false = refl
xor_assoc false false true = refl
xor_assoc false false false = refl

pub xor-false : (a : Bool) → xor a false ≡ a
unfolding xor
xor-false true = refl
xor-false false = refl

pub false_xor : (a : Bool) → xor false a ≡ a
unfolding xor
false_xor true = refl
false_xor false = refl

-- ---- what a test that passes says, and a test that passes because of it

pub is_true : {a : Bool} → T a → a ≡ true
is_true {a} t = go a t
  where
    go : (b : Bool) → T b → b ≡ true
    go true u = refl
    go false u = absurd u

pub three : (a b c : Bool) → T (a && (b && c)) → T a × T b × T c
three true true c t = (tt, tt, t)
three true false c t = absurd t
three false b c t = absurd t

pub never_true : (a : Bool) → (a ≡ true → ⊥) → a ≡ false
never_true true f = absurd (f refl)
never_true false f = refl

pub and_left : (a b : Bool) → (a && b) ≡ true → a ≡ true
and_left true b e = refl
and_left false b e = e

pub and_right : (a b : Bool) → (a && b) ≡ true → b ≡ true
and_right true b e = e
and_right false b e = absurd (true≢false (sym e))

pub and_split : (a b : Bool) → (a && b) ≡ true → (a ≡ true) × (b ≡ true)
and_split a b e = (and_left a b e, and_right a b e)

pub and_both : {a b : Bool} → a ≡ true → b ≡ true → (a && b) ≡ true
and_both p q = λ i. p i && q i

pub or_left : (a b : Bool) → a ≡ true → (a || b) ≡ true
or_left true b e = refl
or_left false b e = absurd (true≢false (sym e))

pub or_right : (a b : Bool) → b ≡ true → (a || b) ≡ true
or_right true b e = refl
or_right false b e = e

pub or_cases : (a b : Bool) → (a || b) ≡ true → (a ≡ true) ⊎ (b ≡ true)
or_cases true b e = inl refl
or_cases false b e = inr e

pub not-true : (a : Bool) → not a ≡ true → a ≡ false
not-true true e = sym e
not-true false e = refl

-- a test that is asked only where another passes
pub and_same : (t : Bool) {x y : Bool} → (t ≡ true → x ≡ y) → (t && x) ≡ (t && y)
and_same true f = f refl
and_same false f = refl

pub cond_passes : (a b : Bool) → cond a b false ≡ true → (a ≡ true) × (b ≡ true)
cond_passes true b e = (refl, e)
cond_passes false b e = absurd (true≢false (sym e))

pub implied : (a b : Bool) → (not a || b) ≡ true → a ≡ true → b ≡ true
implied true b e h = e
implied false b e h = absurd (true≢false (sym h))

pub not_both : (a b : Bool) → (a ≡ true → b ≡ true → ⊥) → not (a && b) ≡ true
not_both true true f = absurd (f refl refl)
not_both true false f = refl
not_both false b f = refl

-- ---- two that are true together

pub same_truth : (a b : Bool) → (a ≡ true → b ≡ true) → (b ≡ true → a ≡ true) → a ≡ b
same_truth true b f g = sym (f refl)
same_truth false true f g = g refl
same_truth false false f g = refl

-- ---- one of two and not both

pub xor_not : (a b : Bool) → xor (not a) (not b) ≡ xor a b
unfolding xor
xor_not true true = refl
xor_not true false = refl
xor_not false true = refl
xor_not false false = refl

pub xor_same : (a b : Bool) → xor a b ≡ false → a ≡ b
unfolding xor
xor_same true true e = refl
xor_same true false e = e
xor_same false true e = sym e
xor_same false false e = refl

pub xor_is : (a b : Bool) → ((a && not b) || (b && not a)) ≡ xor a b
unfolding xor
xor_is true true = refl
xor_is true false = refl
xor_is false true = refl
xor_is false false = refl
