-- `faces_writer::write::put_corners`: the loop keeps that the first j corners stand in their fields.
use mathlib.Core.Path.{◌≡◌, ◌∙◌, sym, ap, ap₂, refl}
use mathlib.Core.List.{List}
use Prim.Native.Nat.{ℕ, ◌≤◌, ◌*◌, ◌+◌}
use lib.ListN.{length}
use lib.Seq.{take_all}
use Rattle.pack.specs.Bits.{bits, run, overwrite}
use Rattle.pack.proofs.Laws.{slot, length_run}
use Rattle.pack.proofs.Overwrite.{overwrite-none, put_next, run_none}
use Rattle.faces_writer.specs.Send.{corners_at, way}
use Rattle.faces_reader.proofs.Brief.{corners_small}
use Rattle.faces_writer.proofs.Fits.{way_length}
use Rattle.faces_writer.proofs.RowAt.{length_corners}
use native.Mathlib.Omega.{arith}
use Rattle.faces_writer.proofs.write.put_corners.Goals as goal

abbrev j : goal.After-put-arg-1 → ℕ
j c = c.loop-j.j

-- corner j's field lies within all fields, which are few bits
field-inside : (c : goal.After-put-arg-1) → c.args.w * j c + c.args.w ≤ c.args.w * c.args.c
field-inside c = slot c.args.w (j c) c.args.c (omega arith)

fields-small : (c : goal.After-put-arg-1) → c.args.w * c.args.c ≤ 96
fields-small c = corners_small c.requires.narrow c.requires.few

abbrev j-2 : goal.After-corner → ℕ
j-2 c = c.loop-j.j

field-inside-2 : (c : goal.After-corner) → c.args.w * j-2 c + c.args.w ≤ c.args.w * c.args.c
field-inside-2 c = slot c.args.w (j-2 c) c.args.c (omega arith)

fields-small-2 : (c : goal.After-corner) → c.args.w * c.args.c ≤ 96
fields-small-2 c = corners_small c.requires.narrow c.requires.few

-- ---- what is known there

-- the corners in the order in which they are written
abbrev corners : goal.After-slice_known-in-loop-j-1 → List ℕ
corners c = let a = c.args in way a.back (corners_at a.rows.now a.i a.c)

length_is : (c : goal.After-slice_known-in-loop-j-1) → length (corners c) ≡ c.args.c
length_is c =
    let a = c.args in
    way_length a.back (corners_at a.rows.now a.i a.c) ∙ length_corners a.rows.now a.i a.c c.requires.inside

abbrev j-3 : goal.After-slice_known-in-loop-j-1 → ℕ
j-3 c = c.loop-j.j

abbrev corners-2 : goal.After-loop-j → List ℕ
corners-2 c = let a = c.args in way a.back (corners_at a.rows.now a.i a.c)

length_is-2 : (c : goal.After-loop-j) → length (corners-2 c) ≡ c.args.c
length_is-2 c =
    let a = c.args in
    way_length a.back (corners_at a.rows.now a.i a.c) ∙ length_corners a.rows.now a.i a.c c.requires.inside

-- ---- the needs

pub loop-j-init : goal.loop-j-init
loop-j-init c =
    let a = c.args in
    let d = run 8 a.room.now in
    record { reached = omega arith; put = overwrite-none d a.b ∙ ap (overwrite d a.b) (sym (run_none a.w)); kept = refl }

pub overflow_mul-w : goal.overflow_mul-w
overflow_mul-w c = omega (arith, field-inside c, fields-small c)

pub overflow_add-b : goal.overflow_add-b
overflow_add-b c = omega (arith, field-inside c, fields-small c)

pub corner-requires : goal.corner-requires
corner-requires c = record { inside = c.requires.inside; known = omega arith }

pub put-requires : goal.put-requires
put-requires c = omega (arith, field-inside-2 c, fields-small-2 c)

pub loop-j-preserved : goal.loop-j-preserved
loop-j-preserved c =
    let a = c.args in
    let i = c.loop-j.invariant in
    let d = run 8 a.room.now in
    let h : a.b ≤ length d = rw length_run (omega (arith, c.requires.roomy)) in
    record {
      reached = omega arith;
      put = c.put.ensures
          ∙ ap₂ (λ (t : List ℕ) (v : ℕ). overwrite t (a.b + a.w * j-3 c) (bits a.w v)) i.put c.corner.ensures
          ∙ put_next d a.b a.w (corners c) (j-3 c) 0 h (omega (arith, length_is c));
      kept = c.put.auto.s ∙ i.kept;
    }

pub shape_of-room : goal.shape_of-room
shape_of-room c = c.loop-j.invariant.kept

pub returns : goal.returns
returns c =
    let a = c.args in
    let whole = take_all c.loop-j.j (corners-2 c) (omega (arith, length_is-2 c)) in
    c.loop-j.invariant.put ∙ ap (λ (t : List ℕ). overwrite (run 8 a.room.now) a.b (run a.w t)) whole
