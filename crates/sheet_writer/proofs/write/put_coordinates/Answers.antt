-- `sheet_writer::write::put_coordinates`: the loop keeps that the first k coordinates stand in their fields.
use mathlib.Core.Path.{◌≡◌, ◌∙◌, sym, ap, ap₂, refl}
use mathlib.Core.List.{List, map}
use Prim.Native.Nat.{ℕ, ◌≤◌, ◌<◌, ◌*◌, ◌+◌}
use lib.ListN.{length, length-map, get_or, get_or-map}
use lib.Seq.{take_all}
use lib.IntN.{ℤ, pos}
use mir.Syntax.{w64}
use mir.Val.{to_z, of_z}
use mir.ValLaws.{to_z-of_z}
use Rattle.pack.specs.Bits.{bits, run, overwrite}
use Rattle.pack.proofs.Laws.{length_run}
use Rattle.pack.proofs.Overwrite.{overwrite-none, put_next, run_none}
use Rattle.paper.specs.Format.{coordinate_bits, on_sheet}
use native.Mathlib.Omega.{arith}
use Rattle.sheet_writer.proofs.write.put_coordinates.Goals as goal

-- ---- the coordinate that is read

abbrev read : goal.After-to_field-arg-1 → ℤ
read c = get_or c.args.xyz.now c.loop-k.k (pos 0)

-- as it is passed on
same : (c : goal.After-to_field-arg-1) → to_z w64 (of_z w64 (read c)) ≡ read c
same c = to_z-of_z w64 (read c) (record { sfits = c.to_field-arg-1.given })

abbrev read-2 : goal.After-slice_known-in-loop-k-1 → ℤ
read-2 c = get_or c.args.xyz.now c.loop-k.k (pos 0)

same-2 : (c : goal.After-slice_known-in-loop-k-1) → to_z w64 (of_z w64 (read-2 c)) ≡ read-2 c
same-2 c = to_z-of_z w64 (read-2 c) (record { sfits = c.to_field-arg-1.given })

-- ---- the needs

pub loop-k-init : goal.loop-k-init
loop-k-init c =
    let a = c.args in
    let r = run 8 a.room.now in
    (omega arith, overwrite-none r a.i ∙ ap (overwrite r a.i) (sym (run_none coordinate_bits)), refl)

pub to_field-requires : goal.to_field-requires
to_field-requires c = rw (same c) (c.requires.near c.loop-k.k)

pub loop-k-preserved : goal.loop-k-preserved
loop-k-preserved c =
    let a = c.args in
    let r = run 8 a.room.now in
    let vs = map on_sheet a.xyz.now in
    let h : a.i ≤ length r = rw length_run (omega arith) in
    let n : c.loop-k.k < length vs = rw length-map (omega arith) in
    let e : c.to_field.result ≡ get_or vs c.loop-k.k (on_sheet (pos 0)) =
    c.to_field.ensures ∙ ap on_sheet (same-2 c) ∙ sym (get_or-map on_sheet a.xyz.now c.loop-k.k (pos 0)) in
    let here : List ℕ → ℕ → List ℕ = λ d v. overwrite d (a.i + coordinate_bits * c.loop-k.k) (bits coordinate_bits v) in (
      omega arith,
      c.put.ensures
          ∙ ap₂ here c.loop-k.invariant.1 e
          ∙ put_next r a.i coordinate_bits vs c.loop-k.k (on_sheet (pos 0)) h n,
      c.put.auto.s ∙ c.loop-k.invariant.2,
    )

pub shape_of-room : goal.shape_of-room
shape_of-room c = c.loop-k.invariant.2

pub returns : goal.returns
returns c =
    let a = c.args in
    let l = c.loop-k in
    let vs = map on_sheet a.xyz.now in
    let h : length vs ≤ l.k = rw length-map (omega arith) in
    l.invariant.1 ∙ ap (λ (t : List ℕ). overwrite (run 8 a.room.now) a.i (run coordinate_bits t)) (take_all l.k vs h)
