-- Stretches of bits that are written one behind the other: the head of a sheet, a sheet, and the bytes that hold them.
use mathlib.Core.Path.{◌≡◌, sym, ap, ap₂, ◌∙◌}
use mathlib.Core.List.{List, ◌++◌, map}
use Prim.Native.Nat.{ℕ, ◌≤◌, ◌+◌, ◌*◌, ◌-◌, ◌/◌, ◌^◌, zero-le}
use native.Mathlib.Nat.{mul_assoc, mul_comm}
use native.Mathlib.Omega.{arith}
use lib.IntN.{ℤ}
use lib.ListN.{length, drop, length-append, length-map}
use Rattle.pack.specs.Bits.{bits, run, overwrite, Under}
use Rattle.pack.proofs.Laws.{length_bits, length_run, under-bits, under-run, under-append}
use Rattle.pack.proofs.Overwrite.{overwrite-next, overwrite_numbers}
use Rattle.paper.specs.Format.{head, total, bytes_for, filled, head_bits, on_sheet, encode}
use Rattle.paper.specs.declared.Format.{Format}
use Rattle.sheet_laws.proofs.Lent.{Lent}

-- bytes whose bits are n bits, their fill and then the room's are those bytes and then the room's
pub filled_is : (n : ℕ) (bs room last : List ℕ) → Under 2 bs → length bs ≡ n → bytes_for n ≤ length room → length last ≡ length room
    → Under (2 ^ 8) room → Under (2 ^ 8) last → run 8 last ≡ overwrite (run 8 room) 0 (bs ++ bits (bytes_for n * 8 - n) 0)
    → last ≡ filled n bs ++ drop (bytes_for n) room
unfolding filled
filled_is n bs room last u l h k hr hl q =
    overwrite_numbers 8 (bytes_for n) (bs ++ bits (bytes_for n * 8 - n) 0) room last
    (under-append 2 bs (bits (bytes_for n * 8 - n) 0) u (under-bits (bytes_for n * 8 - n) 0))
    (length-append bs (bits (bytes_for n * 8 - n) 0) ∙ ap₂ (λ (x y : ℕ). x + y) l (length_bits (bytes_for n * 8 - n) 0) ∙ whole n) k h hr hl
    q
  where
    whole : (n : ℕ) → n + ((n + 7) / 8 * 8 - n) ≡ (n + 7) / 8 * 8
    whole n = omega arith

module _ (f : Format) (v e : ℕ) where
  pub length_head : length (head_bits f v e) ≡ head f
  length_head =
      length-append (bits 4 f.edition ++ bits f.vertex_count_bits v) (bits f.edge_count_bits e)
      ∙ ap₂ (λ (x y : ℕ). x + y)
      (length-append (bits 4 f.edition) (bits f.vertex_count_bits v)
      ∙ ap₂ (λ (x y : ℕ). x + y) (length_bits 4 f.edition) (length_bits f.vertex_count_bits v))
      (length_bits f.edge_count_bits e)

  under-head : Under 2 (head_bits f v e)
  under-head =
      under-append 2 (bits 4 f.edition ++ bits f.vertex_count_bits v) (bits f.edge_count_bits e)
      (under-append 2 (bits 4 f.edition) (bits f.vertex_count_bits v) (under-bits 4 f.edition)
      (under-bits f.vertex_count_bits v)) (under-bits f.edge_count_bits e)

  -- its three fields
  pub head_put : (d : List ℕ) {r1 r2 r3 : List ℕ} → r1 ≡ overwrite d 0 (bits 4 f.edition)
      → r2 ≡ overwrite r1 4 (bits f.vertex_count_bits v)
      → r3 ≡ overwrite r2 (4 + f.vertex_count_bits) (bits f.edge_count_bits e)
      → r3 ≡ overwrite d 0 (head_bits f v e)
  head_put d {r1} {r2} {r3} p1 p2 p3 =
      let x = bits 4 f.edition in
      let y = bits f.vertex_count_bits v in
      let lx : 4 ≡ 0 + length x = omega (arith, length_bits 4 f.edition) in
      let lxy : 4 + f.vertex_count_bits ≡ 0 + length (x ++ y) = omega
      (arith, length-append x y, length_bits 4 f.edition, length_bits f.vertex_count_bits v) in
      overwrite-next d 0 (x ++ y) (4 + f.vertex_count_bits) (bits f.edge_count_bits e) r2 r3 zero-le lxy
      (overwrite-next d 0 x 4 y r1 r2 zero-le lx p1 p2) p3

module _ (f : Format) (xyz : List ℤ) (ends : List ℕ) (v e : ℕ) (hv : length xyz ≡ 3 * v) (he : length ends ≡ 2 * e) where
  -- the head and the coordinates; these and the vertex numbers
  abbrev placed : List ℕ
  placed = head_bits f v e ++ run 11 (map on_sheet xyz)

  pub length-placed : length placed ≡ head f + 33 * v
  length-placed =
      length-append (head_bits f v e) (run 11 (map on_sheet xyz))
      ∙ omega (arith, length_head f v e, length_run 11 (map on_sheet xyz), length-map xyz on_sheet)

  pub length_content : length (placed ++ run f.vertex_number_bits ends) ≡ total f v e
  length_content =
      let m : length ends * f.vertex_number_bits ≡ 2 * f.vertex_number_bits * e =
      ap (λ (x : ℕ). x * f.vertex_number_bits) he ∙ mul_assoc 2 e f.vertex_number_bits
      ∙ ap (λ (x : ℕ). 2 * x) (mul_comm e f.vertex_number_bits) ∙ sym (mul_assoc 2 f.vertex_number_bits e) in
      length-append placed (run f.vertex_number_bits ends)
      ∙ ap₂ (λ (x y : ℕ). x + y) length-placed (length_run f.vertex_number_bits ends ∙ m)

  pub under_content : Under 2 (placed ++ run f.vertex_number_bits ends)
  under_content =
      under-append 2 placed (run f.vertex_number_bits ends)
      (under-append 2 (head_bits f v e) (run 11 (map on_sheet xyz)) (under-head f v e) (under-run 11 (map on_sheet xyz)))
      (under-run f.vertex_number_bits ends)

  -- the four stretches of a sheet
  pub content_put : (d : List ℕ) {r1 r2 r3 r4 : List ℕ} {b : ℕ} → b ≡ total f v e → r1 ≡ overwrite d 0 (head_bits f v e)
      → r2 ≡ overwrite r1 (head f) (run 11 (map on_sheet xyz))
      → r3 ≡ overwrite r2 (head f + 33 * v) (run f.vertex_number_bits ends) → r4 ≡ overwrite r3 b (bits (bytes_for b * 8 - b) 0)
      → r4 ≡ overwrite d 0 (placed ++ run f.vertex_number_bits ends ++ bits (bytes_for (total f v e) * 8 - total f v e) 0)
  content_put d {r1} {r2} {r3} {r4} {b} hb p1 p2 p3 p4 =
      let t1 : r2 ≡ overwrite d 0 placed = overwrite-next d 0 (head_bits f v e) (head f) (run 11 (map on_sheet xyz)) r1 r2 zero-le
      (omega (arith, length_head f v e)) p1 p2 in
      let t2 : r3 ≡ overwrite d 0 (placed ++ run f.vertex_number_bits ends) = overwrite-next d 0 placed (head f + 33 * v)
      (run f.vertex_number_bits ends) r2 r3 zero-le (omega (arith, length-placed)) t1 p3 in
      overwrite-next d 0 (placed ++ run f.vertex_number_bits ends) (total f v e) (bits (bytes_for (total f v e) * 8 - total f v e) 0)
      r3 r4 zero-le (omega (arith, length_content)) t2
      (p4 ∙ ap (λ (n : ℕ). overwrite r3 n (bits (bytes_for n * 8 - n) 0)) hb)

-- the sheet and then the room's bytes
pub encoded : (f : Format) (xyz : List ℤ) (ends : List ℕ) → Lent xyz ends → {v e : ℕ} → v ≡ length xyz / 3 → e ≡ length ends / 2
    → (room last : List ℕ)
    → bytes_for (total f v e) ≤ length room → length last ≡ length room → Under (2 ^ 8) room → Under (2 ^ 8) last
    → run 8 last ≡ overwrite (run 8 room) 0
    (head_bits f v e ++ run 11 (map on_sheet xyz) ++ run f.vertex_number_bits ends ++ bits (bytes_for (total f v e) * 8 - total f v e)
    0)
    → last ≡ encode f xyz ends ++ drop (bytes_for (total f v e)) room
unfolding encode
encoded f xyz ends g {v} {e} hv he room last h l ur ul q =
    let xw : length xyz ≡ 3 * v = omega (arith, g.v_whole) in
    let ew : length ends ≡ 2 * e = omega (arith, g.e_whole) in
    filled_is (total f v e) (head_bits f v e ++ run 11 (map on_sheet xyz) ++ run f.vertex_number_bits ends) room last
    (under_content f xyz ends v e xw ew) (length_content f xyz ends v e xw ew) h l ur ul q
    ∙ ap₂ (λ (x y : ℕ). filled (total f x y) (head_bits f x y ++ run 11 (map on_sheet xyz) ++ run f.vertex_number_bits ends) ++ drop
    (bytes_for (total f v e)) room) hv he
