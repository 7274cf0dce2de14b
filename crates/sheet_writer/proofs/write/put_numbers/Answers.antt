-- `sheet_writer::write::put_numbers`: the loop keeps that the first k numbers stand in their fields.
use mathlib.Core.Path.{◌∙◌, sym, ap, refl}
use mathlib.Core.List.{List}
use Prim.Native.Nat.{ℕ, ◌≤◌, ◌*◌, ◌+◌}
use lib.ListN.{length, get_or}
use lib.Seq.{take_all}
use Rattle.pack.specs.Bits.{bits, run, overwrite}
use Rattle.pack.proofs.Laws.{slot, length_run}
use Rattle.pack.proofs.Overwrite.{overwrite-none, put_next, run_none}
use native.Mathlib.Omega.{arith}
use Rattle.sheet_writer.proofs.write.put_numbers.Goals as goal

-- field k lies among those of the list
slot-within : (c : goal.After-put-arg-1)
    → let a = c.args in a.w * c.loop-k.k + a.w ≤ a.w * length a.list.now
slot-within c =
    let a = c.args in
    slot a.w c.loop-k.k (length a.list.now) (omega arith)

slot-within-2 : (c : goal.After-shared_slice_known-in-loop-k-1)
    → let a = c.args in a.w * c.loop-k.k + a.w ≤ a.w * length a.list.now
slot-within-2 c =
    let a = c.args in
    slot a.w c.loop-k.k (length a.list.now) (omega arith)

-- ---- the needs

pub loop-k-init : goal.loop-k-init
loop-k-init c =
    let a = c.args in
    let r = run 8 a.room.now in
    (omega arith, overwrite-none r a.i ∙ ap (overwrite r a.i) (sym (run_none a.w)), refl)

pub overflow_mul-w : goal.overflow_mul-w
overflow_mul-w c = omega (arith, slot-within c)

pub overflow_add-i : goal.overflow_add-i
overflow_add-i c = omega (arith, slot-within c)

pub overflow_cast-list : goal.overflow_cast-list
overflow_cast-list c = omega (arith, c.type_inv.list c.loop-k.k)

pub put-requires : goal.put-requires
put-requires c = omega (arith, slot-within-2 c)

pub loop-k-preserved : goal.loop-k-preserved
loop-k-preserved c =
    let a = c.args in
    let r = run 8 a.room.now in
    let x = get_or a.list.now c.loop-k.k 0 in
    let h : a.i ≤ length r = rw length_run (omega arith) in
    let more = put_next r a.i a.w a.list.now c.loop-k.k 0 h (omega arith) in (
      omega arith,
      c.put.ensures ∙ ap (λ (d : List ℕ). overwrite d (a.i + a.w * c.loop-k.k) (bits a.w x)) c.loop-k.invariant.1 ∙ more,
      c.put.auto.s ∙ c.loop-k.invariant.2,
    )

pub shape_of-room : goal.shape_of-room
shape_of-room c = c.loop-k.invariant.2

pub returns : goal.returns
returns c =
    let a = c.args in
    let l = c.loop-k in
    let all = take_all l.k a.list.now (omega arith) in
    l.invariant.1 ∙ ap (λ (t : List ℕ). overwrite (run 8 a.room.now) a.i (run a.w t)) all
