-- `sheet_writer::write::write`: refusals of the lists leave the room alone, then room that is short does; the rest is `put_sheet`.
use mathlib.Core.Path.{◌≡◌, ◌∙◌, ap, refl}
use mathlib.Core.List.{List}
use Prim.Native.Nat.{ℕ, ◌/◌}
use native.Mathlib.Omega.{arith}
use lib.IntN.{ℤ}
use lib.ListN.{length}
use Rattle.std.specs.Prelude.{Ok}
use Rattle.std.proofs.lemmas.Result.{err_from_is_err_and}
use Rattle.paper.specs.Refusals.{first_of, Fine}
use Rattle.paper.specs.Format.{bytes_for}
use Rattle.paper.specs.Sheet.{lent_checks}
use Rattle.paper.specs.declared.Format.{Format}
use Rattle.sheet_shape.specs.Narrow.{Narrow, NarrowCounts}
use Rattle.sheet_shape.proofs.Sizes.{total_small}
use Rattle.sheet_laws.proofs.Lent.{lent}
use Rattle.sheet_laws.proofs.Written.{result_refused, result_short, result_fine}
use Rattle.sheet_writer.proofs.write.write.Goals as goal

-- lists that pass have few vertices and edges
counts : (f : Format) (xyz : List ℤ) (ends : List ℕ) → Narrow f → Fine ≡ first_of (lent_checks xyz ends)
    → NarrowCounts f (length xyz / 3) (length ends / 2)
counts f xyz ends n e =
    let g = lent xyz ends e in
    record { narrow = n; v_few = omega (arith, g, n); e_few = omega (arith, g, n) }

pub returns-in_err-lent : goal.returns-in_err-lent
returns-in_err-lent c =
    let a = c.args in
    let p = err_from_is_err_and c.from_residual.result c.from_residual.ensures.1 in
    let r = result_refused a.f a.xyz.now a.ends.now a.room.now c.in_err-lent.ensures in
    record { answer = rw (p.1, p.2) r.0; kept = r.1 }

pub total_bits-requires : goal.total_bits-requires
total_bits-requires c = counts c.args.f c.args.xyz.now c.args.ends.now c.requires c.in_ok-lent.ensures

pub overflow_add-size : goal.overflow_add-size
overflow_add-size c =
    let few = counts c.args.f c.args.xyz.now c.args.ends.now c.requires c.in_ok-lent.ensures in
    omega (arith, c.total_bits.ensures, total_small few)

pub returns-then-room-size : goal.returns-then-room-size
returns-then-room-size c =
    let a = c.args in
    let p = result_short a.f a.xyz.now a.ends.now a.room.now c.in_ok-lent.ensures (rw c.total_bits.ensures at c.if-room-size.true) in
    record { answer = c.refused.ensures ∙ p.0; kept = p.1 }

pub put_sheet-requires : goal.put_sheet-requires
put_sheet-requires c =
    record {
      narrow = c.requires;
      passes = c.in_ok-lent.ensures;
      v_is = refl;
      e_is = refl;
      long = rw c.total_bits.ensures at c.if-room-size.false;
    }

pub returns : goal.returns
returns c =
    let a = c.args in
    let r = result_fine a.f a.xyz.now a.ends.now a.room.now c.in_ok-lent.ensures (rw c.total_bits.ensures at c.if-room-size.false) in
    record {
      answer = ap (λ (n : ℕ). Ok (bytes_for n)) c.total_bits.ensures ∙ r.0;
      kept = c.put_sheet.ensures ∙ r.1;
    }
