-- `sheet_reader::read::drawn`: what 3 to 7 leave bounds every field that is read, and the values read are the definition's.
use mathlib.Core.Path.{◌∙◌}
use native.Mathlib.Omega.{arith}
use Rattle.sheet_laws.proofs.Shaped.{Shaped, shaped}
use Rattle.sheet_shape.proofs.Bounds.{Bounds, bounds}
use Rattle.sheet_reader.proofs.Drawn.{drawn_is}
use Rattle.sheet_reader.proofs.read.drawn.Goals as goal

-- ---- what is known there

shape_is : (c : goal.After-struct_known-2-1) → Shaped c.args.f c.args.s.now
shape_is c = shaped c.args.f c.args.s.now c.requires.passes

shape_is-2 : (c : goal.After-struct_known-3-1) → Shaped c.args.f c.args.s.now
shape_is-2 c = shaped c.args.f c.args.s.now c.requires.passes

-- of the counts that were read
known : (c : goal.After-field-e)
    → let a = c.args in Bounds a.f a.s.now c.field-v.result c.field-e.result
known c =
    bounds c.args.f c.args.s.now c.requires.fits c.requires.passes c.field-v.ensures c.field-e.ensures

known-2 : (c : goal.After-coordinates-xyz)
    → let a = c.args in Bounds a.f a.s.now c.field-v.result c.field-e.result
known-2 c =
    bounds c.args.f c.args.s.now c.requires.fits c.requires.passes c.field-v.ensures c.field-e.ensures

known-3 : (c : goal.After-numbers-ends)
    → let a = c.args in Bounds a.f a.s.now c.field-v.result c.field-e.result
known-3 c =
    bounds c.args.f c.args.s.now c.requires.fits c.requires.passes c.field-v.ensures c.field-e.ensures

-- ---- the needs

pub field-v-requires : goal.field-v-requires
field-v-requires c = omega (arith, shape_is c, c.requires.fits)

pub field-e-requires : goal.field-e-requires
field-e-requires c =
    omega (arith, shape_is-2 c, c.requires.fits)

pub overflow_mul-v : goal.overflow_mul-v
overflow_mul-v c = omega (arith, known c)

pub coordinates-xyz-requires : goal.coordinates-xyz-requires
coordinates-xyz-requires c = omega (arith, known c, c.requires.fits)

pub overflow_mul-v-2 : goal.overflow_mul-v-2
overflow_mul-v-2 c = omega (arith, known-2 c)

pub overflow_add-first-3 : goal.overflow_add-first-3
overflow_add-first-3 c = omega (arith, known-2 c, c.requires.fits)

pub overflow_mul-e : goal.overflow_mul-e
overflow_mul-e c = omega (arith, known-2 c)

pub numbers-ends-requires : goal.numbers-ends-requires
numbers-ends-requires c = omega (arith, known-2 c, c.requires.fits)

pub kept-requires : goal.kept-requires
kept-requires c = omega (arith, known-3 c)

pub returns : goal.returns
returns c =
    c.kept.ensures
    ∙ drawn_is c.args.f c.args.s.now c.requires.passes c.field-v.ensures c.field-e.ensures
    c.coordinates-xyz.ensures c.numbers-ends.ensures
