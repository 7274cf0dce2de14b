-- The laws of packed fields, each over the width.
use mathlib.Core.Path.{◌≡◌, refl, sym, ap, ap₂, ◌∙◌}
use mathlib.Core.List.{List, [], ◌∷◌, ◌++◌, append_assoc}
use Prim.Native.Nat.{ℕ, zero, suc, ◌+◌, ◌*◌, ◌/◌, ◌%◌, ◌^◌, ◌≤◌, ◌<◌}
use native.Mathlib.Nat.{mod-one, mod-eq_of_lt, mod-lt, zero-add, suc-add, add_assoc, add-mul, zero-mul, suc-mul, pow-succ', add_comm}
use native.Mathlib.Nat.{mul_assoc, mul_comm, lt_of_lt_of_le, min-le_left, le_trans, le_of_eq, mul-suc, mul-zero, mul-le-mul_left}
use native.Mathlib.Numerals.{one-add, add-one}
use native.Mathlib.Omega.{arith}
use lib.Pow.{mod-pow-add, field as pow-field, mod-mod-pow, high, low, pow-add, pow_mono, shr-shr}
use lib.Arith.{digits_lt}
use lib.ListN.{length, get_or, take, drop, length-append, length-take, length-drop}
use lib.Seq.{take_at, drop_at, take-add, length-take-le, get_or-drop, drop-drop}
use Rattle.pack.specs.Bits.{bits, val, run, cut, field_at, fields_at, Under}

pub length_bits : (w v : ℕ) → length (bits w v) ≡ w
unfolding bits
length_bits zero v = refl
length_bits (suc w) v = ap suc (length_bits w v)

-- the low w bits are those of the number's remainder
pub val-bits : (w v : ℕ) → val (bits w v) ≡ v % 2 ^ w
unfolding bits val
val-bits zero v = sym (mod-one v)
val-bits (suc w) v =
    ap₂ (λ (l x : ℕ). v / 2 ^ w % 2 * 2 ^ l + x) (length_bits w v) (val-bits w v)
    ∙ sym (mod-pow-add v 1 w) ∙ ap (λ (k : ℕ). v % 2 ^ k) (one-add w)

digit_mod : (v k j : ℕ) → v % 2 ^ (k + 1 + j) / 2 ^ j % 2 ≡ v / 2 ^ j % 2
digit_mod v k j = ap (λ (x : ℕ). x % 2) (pow-field v (k + 1) j) ∙ mod-mod-pow (v / 2 ^ j) k 1

bits_mod : (w k v : ℕ) → bits w (v % 2 ^ (k + w)) ≡ bits w v
unfolding bits
bits_mod zero k v = refl
bits_mod (suc w) k v =
    let e : k + suc w ≡ k + 1 + w = omega arith in
    let f : k + suc w ≡ suc k + w = omega arith in
    ap₂ (λ (x : ℕ) (l : List ℕ). x ∷ l) (rw e (digit_mod v k w)) (rw f (bits_mod w (suc k) v))

pub bits-same : (w x y : ℕ) → x % 2 ^ w ≡ y % 2 ^ w → bits w x ≡ bits w y
bits-same w x y e =
    let h : (v : ℕ) → bits w (v % 2 ^ w) ≡ bits w v = λ v. rw zero-add at (bits_mod w 0 v) in
    sym (h x) ∙ ap (bits w) e ∙ h y

-- the bits of a number in two parts
pub bits_append : (a b v : ℕ) → bits (a + b) v ≡ bits a (v / 2 ^ b) ++ bits b v
unfolding bits
bits_append zero b v = rw zero-add refl
bits_append (suc a) b v =
    let e : v / 2 ^ (a + b) ≡ v / 2 ^ b / 2 ^ a = ap (λ (n : ℕ). v / 2 ^ n) (add_comm a b) ∙ sym (shr-shr v b a) in
    rw (suc-add, e) (ap (λ (t : List ℕ). (v / 2 ^ b / 2 ^ a % 2) ∷ t) (bits_append a b v))

pub val_append : (xs ys : List ℕ) → val (xs ++ ys) ≡ val xs * 2 ^ length ys + val ys
unfolding val
val_append [] ys = rw (zero-mul, zero-add) refl
val_append (x ∷ xs) ys =
    let e : 2 ^ length (xs ++ ys) ≡ 2 ^ length xs * 2 ^ length ys = ap (λ (n : ℕ). 2 ^ n) (length-append xs ys)
    ∙ pow-add 2 (length xs) (length ys) in
    rw (e, val_append xs ys, add-mul, mul_assoc, add_assoc) refl

pub val-lt : (bs : List ℕ) → Under 2 bs → val bs < 2 ^ length bs
unfolding val
val-lt [] u = omega arith
val-lt (b ∷ bs) u = rw pow-succ' (digits_lt (u zero) (val-lt bs (λ i. u (suc i))))

-- a list of bits is the bits of its number
pub bits-val : (bs : List ℕ) → Under 2 bs → bits (length bs) (val bs) ≡ bs
unfolding bits val
bits-val [] u = refl
bits-val (b ∷ bs) u =
    let l = val-lt bs (λ i. u (suc i)) in
    ap₂ (λ (x : ℕ) (t : List ℕ). x ∷ t)
    (ap (λ (x : ℕ). x % 2) (high b (length bs) l) ∙ mod-eq_of_lt (u zero))
    (bits-same (length bs) (b * 2 ^ length bs + val bs) (val bs) (low b (length bs) l ∙ sym (mod-eq_of_lt l))
    ∙ bits-val bs (λ i. u (suc i)))

pub length_run : (w : ℕ) (vs : List ℕ) → length (run w vs) ≡ length vs * w
unfolding run
length_run w [] = sym (zero-mul w)
length_run w (v ∷ vs) =
    length-append (bits w v) (run w vs) ∙ rw (length_bits, length_run w vs, suc-mul) (add_comm w (length vs * w))

pub length_cut : (w n : ℕ) (bs : List ℕ) → length (cut w n bs) ≡ n
unfolding cut
length_cut w zero bs = refl
length_cut w (suc n) bs = ap suc (length_cut w n (drop w bs))

pub run-append : (w : ℕ) (us vs : List ℕ) → run w (us ++ vs) ≡ run w us ++ run w vs
unfolding run
run-append w [] vs = refl
run-append w (u ∷ us) vs = rw (run-append w us vs) (sym (append_assoc (bits w u) (run w us) (run w vs)))

-- what was packed comes back
pub cut-run : (w : ℕ) (vs rest : List ℕ) → Under (2 ^ w) vs → cut w (length vs) (run w vs ++ rest) ≡ vs
unfolding cut run
cut-run w [] rest u = refl
cut-run w (v ∷ vs) rest u =
    ap₂ (λ (x : ℕ) (t : List ℕ). x ∷ t)
    (rw (append_assoc, take_at (bits w v) (run w vs ++ rest) w (length_bits w v)) (val-bits w v ∙ mod-eq_of_lt (u zero)))
    (rw (append_assoc, drop_at (bits w v) (run w vs ++ rest) w (length_bits w v)) (cut-run w vs rest (λ i. u (suc i))))

pub under_take : (m n : ℕ) (vs : List ℕ) → 0 < m → Under m vs → Under m (take n vs)
under_take m zero vs p u i = p
under_take m (suc n) [] p u i = p
under_take m (suc n) (v ∷ vs) p u zero = u zero
under_take m (suc n) (v ∷ vs) p u (suc i) = under_take m n vs p (λ j. u (suc j)) i

pub under_drop : (m n : ℕ) (vs : List ℕ) → Under m vs → Under m (drop n vs)
under_drop m n vs u i = rw get_or-drop (u (n + i))

-- cutting and packing again gives the bits back
pub run-cut : (w n : ℕ) (bs : List ℕ) → Under 2 bs → n * w ≤ length bs → run w (cut w n bs) ≡ take (n * w) bs
unfolding cut run
run-cut w zero bs u h = rw zero-mul refl
run-cut w (suc n) bs u h =
    let e : suc n * w ≡ w + n * w = suc-mul n w ∙ add_comm (n * w) w in
    let l : w ≤ length bs = omega (arith, e) in
    let t : length (take w bs) ≡ w = length-take-le w bs l in
    let b : bits w (val (take w bs)) ≡ take w bs =
    rw t at (bits-val (take w bs) (under_take 2 w bs (omega arith) u)) in
    let d : n * w ≤ length (drop w bs) = rw length-drop (omega (arith, e)) in
    rw (e, take-add, b, run-cut w n (drop w bs) (under_drop 2 w bs u) d)

pub under-bits : (w v : ℕ) → Under 2 (bits w v)
unfolding bits
under-bits zero v i = omega arith
under-bits (suc w) v zero = omega (arith, mod-lt (v / 2 ^ w) {m = 2} (omega arith))
under-bits (suc w) v (suc i) = under-bits w v i

pub under-append : (m : ℕ) (us vs : List ℕ) → Under m us → Under m vs → Under m (us ++ vs)
under-append m [] vs hu hv i = hv i
under-append m (u ∷ us) vs hu hv zero = hu zero
under-append m (u ∷ us) vs hu hv (suc i) = under-append m us vs (λ j. hu (suc j)) hv i

pub under-run : (w : ℕ) (vs : List ℕ) → Under 2 (run w vs)
unfolding run
under-run w [] i = omega arith
under-run w (v ∷ vs) i = under-append 2 (bits w v) (run w vs) (under-bits w v) (under-run w vs) i

pub field_lt : (s : List ℕ) (i w : ℕ) → field_at s i w < 2 ^ w
unfolding field_at
field_lt s i w =
    let u : Under 2 (drop i (run 8 s)) = under_drop 2 i (run 8 s) (under-run 8 s) in
    lt_of_lt_of_le (val-lt (take w (drop i (run 8 s))) (under_take 2 w (drop i (run 8 s)) (omega arith) u))
    (pow_mono (rw length-take (min-le_left w (length (drop i (run 8 s))))))

-- the same at a width k that holds w
pub field_below : (k : ℕ) (s : List ℕ) (i w : ℕ) → w ≤ k → field_at s i w < 2 ^ k
field_below k s i w h = lt_of_lt_of_le (field_lt s i w) (pow_mono h)

cut_snoc : (w n : ℕ) (bs : List ℕ) → cut w (suc n) bs ≡ cut w n bs ++ (val (take w (drop (n * w) bs)) ∷ [])
unfolding cut
cut_snoc w zero bs = rw zero-mul refl
cut_snoc w (suc n) bs =
    let e : suc n * w ≡ w + n * w = suc-mul n w ∙ add_comm (n * w) w in
    ap (λ (t : List ℕ). val (take w bs) ∷ t)
    (cut_snoc w n (drop w bs) ∙ rw (drop-drop, ← e) refl)

pub fields_none : (s : List ℕ) (i w : ℕ) → fields_at s i w 0 ≡ []
unfolding fields_at cut
fields_none s i w = refl

-- one field more
pub fields-more : (s : List ℕ) (i w n : ℕ) → fields_at s i w (n + 1) ≡ fields_at s i w n ++ (field_at s (i + w * n) w ∷ [])
unfolding fields_at field_at
fields-more s i w n =
    rw add-one (cut_snoc w n (drop i (run 8 s)) ∙ rw (drop-drop, mul_comm n w) refl)

pub length_fields : (s : List ℕ) (i w n : ℕ) → length (fields_at s i w n) ≡ n
unfolding fields_at
length_fields s i w n = length_cut w n (drop i (run 8 s))

-- the first field, and those behind it
fields_cons : (s : List ℕ) (i w n : ℕ) → fields_at s i w (suc n) ≡ field_at s i w ∷ fields_at s (i + w) w n
unfolding fields_at field_at cut
fields_cons s i w n = ap (λ (t : List ℕ). field_at s i w ∷ cut w n t) (drop-drop w i (run 8 s))

-- field k of n
pub get_d_fields : (s : List ℕ) (i w n k : ℕ) → k < n → get_or (fields_at s i w n) k 0 ≡ field_at s (i + w * k) w
get_d_fields s i w zero k h = absurd (omega arith)
get_d_fields s i w (suc n) zero h = let e : i + w * 0 ≡ i = omega (arith, mul-zero w) in rw (fields_cons s i w n, e) refl
get_d_fields s i w (suc n) (suc k) h =
    let e : i + w + w * k ≡ i + w * suc k = omega (arith, mul-suc w k) in
    rw (fields_cons s i w n) (get_d_fields s (i + w) w n k (omega arith) ∙ ap (λ (j : ℕ). field_at s j w) e)

-- field k of n fields of w bits each ends within them
pub slot : (w k n : ℕ) → k < n → w * k + w ≤ w * n
slot w k n h = le_trans (le_of_eq (sym (mul-suc w k))) (mul-le-mul_left w h)
