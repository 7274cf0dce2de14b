-- A field that was packed is read again, and a field that was read packs to the bits that it was read from; over the width.
use mathlib.Core.Path.{◌≡◌, ◌∙◌}
use mathlib.Core.List.{List, [], ◌++◌, append-nil}
use Prim.Native.Nat.{ℕ, ◌+◌, ◌*◌, ◌%◌, ◌^◌, ◌≤◌, ◌<◌}
use native.Mathlib.Nat.{mod-eq_of_lt}
use native.Mathlib.Omega.{arith}
use lib.ListN.{length, take, drop, length-drop}
use lib.Seq.{take_at, drop_at, length-take-le}
use Rattle.pack.specs.Bits.{bits, run, cut, field_at, fields_at, Under}
use Rattle.pack.proofs.Laws.{length_bits, length_run, val-bits, bits-val, cut-run, run-cut, under_take, under_drop, under-run}

module _ (s x y : List ℕ) (i : ℕ) (l : length x ≡ i) where
  -- the field behind x
  pub field_at_lem : (w v : ℕ) → run 8 s ≡ x ++ (bits w v ++ y) → field_at s i w ≡ v % 2 ^ w
  unfolding field_at
  field_at_lem w v e = rw (e, drop_at x (bits w v ++ y) i l, take_at (bits w v) y w (length_bits w v)) (val-bits w v)

  pub field_in : (w v : ℕ) → run 8 s ≡ x ++ (bits w v ++ y) → v < 2 ^ w → field_at s i w ≡ v
  field_in w v e h = field_at_lem w v e ∙ mod-eq_of_lt h

  -- the fields behind x
  pub fields_in : (w : ℕ) (vs : List ℕ) (n : ℕ) → n ≡ length vs → run 8 s ≡ x ++ (run w vs ++ y) → Under (2 ^ w) vs
      → fields_at s i w n ≡ vs
  unfolding fields_at
  fields_in w vs n m e h =
      rw (e, drop_at x (run w vs ++ y) i l, m) (cut-run w vs y h)

module _ (s : List ℕ) (i w : ℕ) where
  pub bits_field : i + w ≤ length s * 8 → bits w (field_at s i w) ≡ take w (drop i (run 8 s))
  unfolding field_at
  bits_field h =
      let d : List ℕ = drop i (run 8 s) in
      let k : w ≤ length d = rw (length-drop, length_run) (omega arith) in
      let u : Under 2 (take w d) = under_take 2 w d (omega arith) (under_drop 2 i (run 8 s) (under-run 8 s)) in
      rw (length-take-le w d k) at (bits-val (take w d) u)

  pub run_fields : (n : ℕ) → i + n * w ≤ length s * 8 → run w (fields_at s i w n) ≡ take (n * w) (drop i (run 8 s))
  unfolding fields_at
  run_fields n h =
      let k : n * w ≤ length (drop i (run 8 s)) = rw (length-drop, length_run) (omega arith) in
      run-cut w n (drop i (run 8 s)) (under_drop 2 i (run 8 s) (under-run 8 s)) k

-- numbers come back from their bits
pub cut_numbers : (w : ℕ) (s : List ℕ) (n : ℕ) → length s ≡ n → Under (2 ^ w) s → cut w n (run w s) ≡ s
cut_numbers w s n l u = rw (← l, ← append-nil (run w s)) (cut-run w s [] u)
