-- Bits and their zero fill as bytes: what the bytes hold; and bytes with a zero fill are those of their bits.
use mathlib.Core.Path.{◌≡◌, refl, sym, ap, ap₂, ◌∙◌}
use mathlib.Core.List.{List, [], ◌++◌, append-nil}
use Prim.Native.Nat.{ℕ, ◌≤◌, ◌+◌, ◌*◌, ◌-◌, ◌^◌}
use native.Mathlib.Nat.{le_of_eq}
use native.Mathlib.Omega.{arith}
use lib.Pow.{pow_pos}
use lib.ListN.{length, take, drop, length-append}
use lib.Seq.{take-add, take_all}
use Rattle.pack.specs.Bits.{bits, run, cut, field_at, Under}
use Rattle.pack.proofs.Laws.{length_bits, length_run, length_cut, run-cut, under-bits, under-append}
use Rattle.pack.proofs.Trip.{field_in, bits_field, cut_numbers}
use Rattle.paper.specs.Format.{bytes_for, filled, fill_after}

pub bytes_hold : (n : ℕ) → n ≤ bytes_for n * 8
bytes_hold n = omega arith

module _ (n : ℕ) (bs : List ℕ) where
  abbrev pub zeros : List ℕ
  zeros = bits (bytes_for n * 8 - n) 0

  pub length-filled : length (filled n bs) ≡ bytes_for n
  unfolding filled
  length-filled = length_cut 8 (bytes_for n) (bs ++ zeros)

  module _ (u : Under 2 bs) (l : length bs ≡ n) where
    whole : length (bs ++ zeros) ≡ bytes_for n * 8
    whole = length-append bs zeros ∙ ap₂ (λ (x y : ℕ). x + y) l (length_bits (bytes_for n * 8 - n) 0) ∙ up n
      where
        up : (n : ℕ) → n + (bytes_for n * 8 - n) ≡ bytes_for n * 8
        up n = omega arith

    pub run-filled : run 8 (filled n bs) ≡ bs ++ zeros
    unfolding filled
    run-filled =
        run-cut 8 (bytes_for n) (bs ++ zeros) (under-append 2 bs zeros u (under-bits (bytes_for n * 8 - n) 0)) (le_of_eq (sym whole))
        ∙ take_all (bytes_for n * 8) (bs ++ zeros) (le_of_eq whole)

    pub fill_filled : fill_after n (filled n bs) ≡ 0
    unfolding fill_after
    fill_filled =
        ap (λ (m : ℕ). field_at (filled n bs) n (m * 8 - n)) length-filled
        ∙ field_in (filled n bs) bs [] n l (bytes_for n * 8 - n) 0 (run-filled ∙ ap (λ (t : List ℕ). bs ++ t) (sym (append-nil zeros)))
        (pow_pos (bytes_for n * 8 - n))

  pub filled-again : (s : List ℕ) → Under (2 ^ 8) s → length s ≡ bytes_for n → fill_after n s ≡ 0 → bs ≡ take n (run 8 s) → filled n bs ≡ s
  unfolding filled fill_after
  filled-again s u l z e =
      let k : ℕ = length s * 8 - n in
      let h : n + k ≡ length s * 8 = rw l (omega arith) in
      let t : zeros ≡ take k (drop n (run 8 s)) =
      ap (λ (m : ℕ). bits (m * 8 - n) 0) (sym l) ∙ ap (bits k) (sym z) ∙ bits_field s n k (le_of_eq h) in
      let w : bs ++ zeros ≡ run 8 s =
      ap₂ (λ (x y : List ℕ). x ++ y) e t ∙ sym (take-add n k (run 8 s)) ∙ take_all (n + k) (run 8 s) (omega (arith, h, length_run 8 s)) in
      ap₂ (λ (m : ℕ) (x : List ℕ). cut 8 m x) (sym l) w ∙ cut_numbers 8 s (length s) refl u
