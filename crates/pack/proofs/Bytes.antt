-- A field lies within three bytes: what it is of their number, and what the bytes of a patched number do to it.
use mathlib.Core.Path.{◌≡◌, refl, sym, ap, ◌∙◌}
use mathlib.Core.List.{List, [], ◌∷◌, ◌++◌, append_assoc, append-nil}
use Prim.Native.Nat.{ℕ, zero, suc, ◌+◌, ◌-◌, ◌*◌, ◌/◌, ◌%◌, ◌^◌, ◌≤◌, ◌<◌}
use native.Mathlib.Nat.{mod-lt, mod-mod, add_comm, mod-eq_of_lt}
use native.Mathlib.Numerals.{add-one}
use native.Mathlib.Omega.{arith}
use lib.Pow.{high, low, pow_pos, pow-add, shr-shr, shr_lt}
use lib.Arith.{digits_lt}
use lib.ListN.{length, get_or, take, drop, set, length-append}
use lib.Seq.{take-length, set-get_or, length-take-le, take-append-add}
use Rattle.pack.specs.Bits.{bits, val, run, field_at, overwrite}
use Rattle.pack.specs.Bytes.{three, window_at, patched}
use Rattle.pack.proofs.Laws.{length_bits, bits-same, bits_append, val-bits, val_append, bits-val, length_run, run-append}
use Rattle.pack.proofs.Laws.{under-run}
use Rattle.pack.proofs.Overwrite.{run_take, overwrite-at}
use Rattle.pack.proofs.Trip.{field_at_lem}

-- ---- a number with one field of its bits replaced

module _ (x k w v : ℕ) where
  patched_high : patched x k w v / 2 ^ k ≡ x / 2 ^ k / 2 ^ w * 2 ^ w + v % 2 ^ w
  unfolding patched
  patched_high = high (x / 2 ^ k / 2 ^ w * 2 ^ w + v % 2 ^ w) k (mod-lt x (pow_pos k))

  patched_low : bits k (patched x k w v) ≡ bits k x
  unfolding patched
  patched_low = bits-same k (patched x k w v) x (low (x / 2 ^ k / 2 ^ w * 2 ^ w + v % 2 ^ w) k (mod-lt x (pow_pos k)))

  patched_here : bits w (patched x k w v / 2 ^ k) ≡ bits w v
  patched_here =
      ap (bits w) patched_high ∙ bits-same w (x / 2 ^ k / 2 ^ w * 2 ^ w + v % 2 ^ w) v (low (x / 2 ^ k / 2 ^ w) w (mod-lt v (pow_pos w)))

  patched-above : patched x k w v / 2 ^ (w + k) ≡ x / 2 ^ (w + k)
  patched-above =
      let f : (n : ℕ) → n / 2 ^ (w + k) ≡ n / 2 ^ k / 2 ^ w = λ n. ap (λ (m : ℕ). n / 2 ^ m) (add_comm w k) ∙ sym (shr-shr n k w) in
      f (patched x k w v) ∙ ap (λ (n : ℕ). n / 2 ^ w) patched_high ∙ high (x / 2 ^ k / 2 ^ w) w (mod-lt v (pow_pos w)) ∙ sym (f x)

  -- a number of n bits stays one
  patched_lt : (n : ℕ) → k + w ≤ n → x < 2 ^ n → patched x k w v < 2 ^ n
  unfolding patched
  patched_lt n l h =
      let r : ℕ = n - (k + w) in
      let e : n ≡ r + w + k = omega arith in
      let u : x / 2 ^ k / 2 ^ w < 2 ^ r = shr_lt r w (shr_lt (r + w) k (rw e at h)) in
      rw (e, pow-add 2 (r + w) k, pow-add 2 r w) (digits_lt (digits_lt u (mod-lt v (pow_pos w))) (mod-lt x (pow_pos k)))

  -- the same as code computes it, with the powers in locals
  module _ {p m : ℕ} (e : p ≡ 2 ^ k) (f : m ≡ 2 ^ w) where
    pub patch_is : (x / 2 ^ k / m * m + v % m) * p + x % p ≡ patched x k w v
    unfolding patched
    patch_is = λ j. (x / 2 ^ k / f j * f j + v % f j) * e j + x % e j

    pub patch_lt : (n : ℕ) → k + w ≤ n → x < 2 ^ n → (x / 2 ^ k / m * m + v % m) * p + x % p < 2 ^ n
    patch_lt n l h = rw patch_is (patched_lt n l h)

-- ---- three bytes of a list replaced, as far as the list goes

set_three : (s : List ℕ) (q a b c : ℕ)
    → set (set (set s q a) (suc q) b) (suc (suc q)) c ≡ take (length s) (take q s ++ (a ∷ b ∷ c ∷ drop (suc (suc (suc q))) s))
set_three [] q a b c = refl
set_three (x ∷ []) zero a b c = refl
set_three (x ∷ y ∷ []) zero a b c = refl
set_three (x ∷ y ∷ z ∷ s) zero a b c = ap (λ (t : List ℕ). a ∷ b ∷ c ∷ t) (sym (take-length s))
set_three (x ∷ s) (suc q) a b c = ap (λ (t : List ℕ). x ∷ t) (set_three s q a b c)

-- the three bytes of a number
bytes_of : (x : ℕ) → run 8 (x / 65536 ∷ x / 256 % 256 ∷ x % 256 ∷ []) ≡ bits 24 x
unfolding run
bytes_of x =
    let e : bits 8 (x / 256 % 256) ≡ bits 8 (x / 256) = bits-same 8 (x / 256 % 256) (x / 256) (mod-mod (x / 256) 256) in
    let f : bits 8 (x % 256) ≡ bits 8 x = bits-same 8 (x % 256) x (mod-mod x 256) in
    rw (e, f, append-nil) (sym (bits_append 8 16 x ∙ ap (λ (t : List ℕ). bits 8 (x / 65536) ++ t) (bits_append 8 8 x)))

-- ---- the number in three bytes

pub window_is : (s : List ℕ) (q : ℕ) {a b c : ℕ} → (a ≡ get_or s q 0) × (a < 256) → (b ≡ get_or s (q + 1) 0) × (b < 256)
    → (c ≡ get_or s (q + 2) 0) × (c < 256)
    → a * 65536 + b * 256 + c ≡ window_at s q
unfolding window_at run
window_is s q {a} {b} {c} (d, ha) (e, hb) (f, hc) =
    let l : length (bits 8 b ++ bits 8 c) ≡ 16 = length-append (bits 8 b) (bits 8 c) ∙ omega (arith, length_bits 8 b, length_bits 8 c) in
    let g : (n : ℕ) → n < 256 → val (bits 8 n) ≡ n = λ n h. val-bits 8 n ∙ mod-eq_of_lt h in
    sym (rw (← d, ← e, ← f, append-nil, val_append, val_append, l, length_bits, g a ha, g b hb, g c hc) (omega arith))

module _ (s : List ℕ) (q : ℕ) where
  three-bits : run 8 (three s q) ≡ bits 24 (window_at s q)
  unfolding window_at
  three-bits =
      sym (bits-val (run 8 (three s q)) (under-run 8 (three s q)))
      ∙ ap (λ (n : ℕ). bits n (val (run 8 (three s q)))) (length_run 8 (three s q))

  -- the three bytes in place of themselves
  three_self : take (length s) (take q s ++ (three s q ++ drop (suc (suc (suc q))) s)) ≡ s
  three_self =
      let f : q + 2 ≡ suc (suc q) = omega arith in
      rw (add-one, f) (sym (set_three s q (get_or s q 0) (get_or s (suc q) 0) (get_or s (suc (suc q)) 0))
      ∙ rw (set-get_or s q 0, set-get_or s (suc q) 0, set-get_or s (suc (suc q)) 0) refl)

-- ---- the bits of a list around a field of it: w bits from bit i on, and k more to the end of the three bytes

module _ (s : List ℕ) (i w k : ℕ) (h : i + w ≤ length s * 8) (e : i % 8 + (w + k) ≡ 24) where
  ahead : ℕ → List ℕ
  ahead x = run 8 (take (i / 8) s) ++ bits (i % 8) (x / 2 ^ (w + k))

  behind : ℕ → List ℕ
  behind x = take (length s * 8 - (i + w)) (bits k x ++ run 8 (drop (suc (suc (suc (i / 8)))) s))

  length_ahead : (x : ℕ) → length (ahead x) ≡ i
  unfolding ahead
  length_ahead x =
      length-append (run 8 (take (i / 8) s)) (bits (i % 8) (x / 2 ^ (w + k)))
      ∙ omega (arith, length_run 8 (take (i / 8) s), length-take-le (i / 8) s (omega arith), length_bits (i % 8) (x / 2 ^ (w + k)))

  -- three bytes with the bits of x in place of those that hold the field
  around : (vs : List ℕ) (x : ℕ) → run 8 vs ≡ bits 24 x
      → run 8 (take (length s) (take (i / 8) s ++ (vs ++ drop (suc (suc (suc (i / 8)))) s))) ≡ ahead x ++ (bits w (x / 2 ^ k) ++ behind x)
  unfolding ahead behind
  around vs x f =
      let p : List ℕ = take (i / 8) s in
      let r : List ℕ = drop (suc (suc (suc (i / 8)))) s in
      let b : bits 24 x ≡ bits (i % 8) (x / 2 ^ (w + k)) ++ (bits w (x / 2 ^ k) ++ bits k x) =
      ap (λ (n : ℕ). bits n x) (sym e) ∙ bits_append (i % 8) (w + k) x
      ∙ ap (λ (t : List ℕ). bits (i % 8) (x / 2 ^ (w + k)) ++ t) (bits_append w k x) in
      let n : length s * 8 ≡ length (ahead x) + (length (bits w (x / 2 ^ k)) + (length s * 8 - (i + w))) = omega
      (arith, length_ahead x, length_bits w (x / 2 ^ k)) in
      run_take 8 (length s) (p ++ (vs ++ r))
      ∙ ap (take (length s * 8)) (rw (run-append, run-append, f, b) (simp append_assoc))
      ∙ ap (λ (m : ℕ). take m (ahead x ++ (bits w (x / 2 ^ k) ++ (bits k x ++ run 8 r)))) n
      ∙ take-append-add (ahead x) (bits w (x / 2 ^ k) ++ (bits k x ++ run 8 r)) (length (bits w (x / 2 ^ k)) + (length s * 8 - (i + w)))
      ∙ ap (λ (t : List ℕ). ahead x ++ t) (take-append-add (bits w (x / 2 ^ k)) (bits k x ++ run 8 r) (length s * 8 - (i + w)))

  whole : run 8 s ≡ ahead (window_at s (i / 8)) ++ (bits w (window_at s (i / 8) / 2 ^ k) ++ behind (window_at s (i / 8)))
  whole = ap (run 8) (sym (three_self s (i / 8))) ∙ around (three s (i / 8)) (window_at s (i / 8)) (three-bits s (i / 8))

  -- what `field` returns, from what it was handed
  pub field_window : {t m : ℕ} → t ≡ window_at s (i / 8) → m ≡ 2 ^ w → t / 2 ^ k % m ≡ field_at s i w
  field_window f g =
      let t = window_at s (i / 8) in
      (λ j. f j / 2 ^ k % g j) ∙ sym (field_at_lem s (ahead t) (behind t) i (length_ahead t) w (t / 2 ^ k) whole)

  patched_window : (v : ℕ) → let x = patched (window_at s (i / 8)) k w v in
      ahead x ++ (bits w (x / 2 ^ k) ++ behind x) ≡ overwrite (run 8 s) i (bits w v)
  unfolding ahead behind
  patched_window v =
      let t = window_at s (i / 8) in
      let l : length (bits w (t / 2 ^ k)) ≡ length (bits w v) = length_bits w (t / 2 ^ k) ∙ sym (length_bits w v) in
      rw (patched-above t k w v, patched_here t k w v, patched_low t k w v)
      (sym (overwrite-at (ahead t) (bits w (t / 2 ^ k)) (bits w v) (behind t) i (length_ahead t) l)
      ∙ ap (λ (d : List ℕ). overwrite d i (bits w v)) (sym whole))

  -- what three stores leave
  pub put_window : (v : ℕ) {t x : ℕ} {a b c : List ℕ} → t ≡ window_at s (i / 8) → x ≡ patched t k w v
      → a ≡ set s (i / 8) (x / 65536) → b ≡ set a (i / 8 + 1) (x / 256 % 256) → c ≡ set b (i / 8 + 2) (x % 256)
      → run 8 c ≡ overwrite (run 8 s) i (bits w v)
  put_window v {x = x} p q f g h =
      let m : i / 8 + 2 ≡ suc (suc (i / 8)) = omega arith in
      let e : x ≡ patched (window_at s (i / 8)) k w v = q ∙ ap (λ (n : ℕ). patched n k w v) p in
      rw (h, g, f, add-one, m)
      (ap (run 8) (set_three s (i / 8) (x / 65536) (x / 256 % 256) (x % 256))
      ∙ around (x / 65536 ∷ x / 256 % 256 ∷ x % 256 ∷ []) x (bytes_of x) ∙ rw e (patched_window v))
