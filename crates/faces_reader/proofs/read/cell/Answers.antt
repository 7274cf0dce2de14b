-- `faces_reader::read::cell`: cell 0 of a row is the corner count, the next are the corners, the rest is fill.
use mathlib.Core.Path.{◌≡◌, ◌∙◌, sym, ap}
use mathlib.Core.List.{List}
use Prim.Native.Nat.{ℕ, suc, ◌≤◌, ◌<◌, ◌-◌, ◌+◌, ◌*◌}
use native.Mathlib.Nat.{mod-eq_of_lt}
use lib.ListN.{length, get_or}
use Rattle.pack.specs.Bits.{fields_at}
use Rattle.pack.proofs.Laws.{slot, field_below, length_fields, get_d_fields}
use Rattle.paper_laws.proofs.Rows.{row_first, row-corner, row_fill}
use Rattle.paper.specs.Loops.{row}
use Rattle.faces_reader.proofs.Brief.{corners_small}
use native.Mathlib.Omega.{arith}
use Rattle.faces_reader.proofs.read.cell.Goals as goal

-- a cell behind the count, by its place among the corners
back : (q : List ℕ) (j : ℕ) → (j ≡ 0 → ⊥) → get_or (row q) j 0 ≡ get_or (row q) (suc (j - 1)) 0
back q j h = let e : j ≡ suc (j - 1) = omega arith in ap (λ (n : ℕ). get_or (row q) n 0) e

-- ---- the corners

abbrev corners : goal.Then-j-eq0 → List ℕ
corners c = let a = c.args in fields_at a.s.now a.i a.w a.c

length_is : (c : goal.Then-j-eq0) → length (corners c) ≡ c.args.c
length_is c = let a = c.args in length_fields a.s.now a.i a.w a.c

field-inside : (c : goal.Then-j-c) → let a = c.args in (a.w * (a.j - 1) + a.w ≤ a.w * a.c) × (a.w * a.c ≤ 96)
field-inside c =
    let g = c.requires.fields in
    (slot c.args.w (c.args.j - 1) c.args.c (omega arith), corners_small g.narrow g.few)

abbrev corners-2 : goal.After-field → List ℕ
corners-2 c = let a = c.args in fields_at a.s.now a.i a.w a.c

length_is-2 : (c : goal.After-field) → length (corners-2 c) ≡ c.args.c
length_is-2 c = let a = c.args in length_fields a.s.now a.i a.w a.c

abbrev corners-3 : goal.Else-j-c → List ℕ
corners-3 c = let a = c.args in fields_at a.s.now a.i a.w a.c

length_is-3 : (c : goal.Else-j-c) → length (corners-3 c) ≡ c.args.c
length_is-3 c = let a = c.args in length_fields a.s.now a.i a.w a.c

-- ---- the needs

pub returns-then-j-eq0 : goal.returns-then-j-eq0
returns-then-j-eq0 c =
    sym (ap (λ (n : ℕ). get_or (row (corners c)) n 0) c.if-j-eq0.true ∙ row_first (corners c) ∙ length_is c)

pub overflow_mul-w : goal.overflow_mul-w
overflow_mul-w c = omega (arith, field-inside c)

pub overflow_add-i : goal.overflow_add-i
overflow_add-i c = omega (arith, field-inside c)

pub field-requires : goal.field-requires
field-requires c = omega (arith, field-inside c)

pub returns-then-j-c : goal.returns-then-j-c
returns-then-j-c c =
    let a = c.args in
    let k = a.j - 1 in
    let byte : c.field.result < 256 =
    rw c.field.ensures (field_below 8 a.s.now (a.i + a.w * (a.j - 1)) a.w c.requires.fields.narrow) in
    let known : a.j - 1 < length (corners-2 c) = omega (arith, length_is-2 c) in
    mod-eq_of_lt byte
    ∙ c.field.ensures
    ∙ sym (get_d_fields a.s.now a.i a.w a.c k (omega arith))
    ∙ sym (back (corners-2 c) a.j c.if-j-eq0.false ∙ row-corner (corners-2 c) k known)

pub returns : goal.returns
returns c =
    let j = c.args.j in
    let behind : length (corners-3 c) ≤ c.args.j - 1 = omega (arith, length_is-3 c) in
    sym (back (corners-3 c) j c.if-j-eq0.false ∙ row_fill (corners-3 c) (j - 1) behind (omega arith))
