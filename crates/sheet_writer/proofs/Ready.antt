-- What the writer needs to know of a drawing that is lent as two lists and passes 5, 8, 9 and 10.
use mathlib.Core.Path.{◌≡◌, sym, ap, ◌∙◌}
use mathlib.Core.List.{List}
use Prim.Native.Nat.{ℕ, ◌≤◌, ◌+◌, ◌*◌, ◌/◌}
use native.Mathlib.Nat.{mul_assoc, mul_left_comm}
use native.Mathlib.Omega.{arith}
use lib.IntN.{ℤ}
use lib.ListN.{length}
use Rattle.paper.specs.Format.{total}
use Rattle.paper.specs.declared.Format.{Format}
use Rattle.sheet_laws.specs.Near.{Near}
use Rattle.sheet_laws.proofs.Lent.{Lent, contents, lent}
use Rattle.sheet_shape.specs.Narrow.{NarrowCounts}
use Rattle.sheet_shape.proofs.Sizes.{total_small}
use Rattle.sheet_writer.specs.Asked.{Writable}

-- of its own v and e, and of room of r bytes
pub record Ready (f : Format) (xyz : List ℤ) (ends : List ℕ) (v e r : ℕ) : Type 0 where
  pub v_three : length xyz ≡ 3 * v
  pub e_two : length ends ≡ 2 * e
  pub counts : NarrowCounts f v e
  pub stretch : f.vertex_number_bits * length ends ≡ 2 * f.vertex_number_bits * e
  pub small : total f v e ≤ 4200
  pub fits : total f v e ≤ r * 8
  pub good : Lent xyz ends
  pub in_range : Near xyz

pub ready : {f : Format} {xyz : List ℤ} {ends room : List ℕ} {v e : ℕ} → Writable f xyz ends room v e
    → Ready f xyz ends v e (length room)
ready {f} {xyz} {ends} {room} {v} {e} w =
    let g = lent xyz ends w.passes in
    let n = w.narrow in
    let few : NarrowCounts f v e =
    record { narrow = n; v_few = omega (arith, g.v_most, n, w.v_is); e_few = omega (arith, g.e_most, n, w.e_is) } in
    let bits = f.vertex_number_bits in
    let two : length ends ≡ 2 * e = omega (arith, g.e_whole, w.e_is) in
    record {
      v_three = omega (arith, g.v_whole, w.v_is);
      e_two = two;
      counts = few;
      stretch = ap (λ (x : ℕ). bits * x) two ∙ mul_left_comm bits 2 e ∙ sym (mul_assoc 2 bits e);
      small = total_small few;
      fits = above (total f v e) (length room) w.long;
      good = g;
      in_range = (contents (length xyz / 3) xyz ends g.fine).near;
    }
  where
    above : (t r : ℕ) → (t + 7) / 8 ≤ r → t ≤ r * 8
    above t r q = omega arith
