-- `faces_reader::read::are_below`: the loop keeps that the numbers left decide for all, since those before are low.
use mathlib.Core.Path.{◌≡◌, refl, sym}
use mathlib.Core.List.{List}
use Prim.Native.Nat.{ℕ, ◌≤◌, ◌<◌, ◌+◌, ◌*◌}
use lib.Dec.{ltb}
use lib.ListN.{length, get_or}
use Rattle.pack.specs.Bits.{field_at, fields_at}
use Rattle.pack.proofs.Laws.{slot, length_fields, get_d_fields}
use Rattle.lists.proofs.Search.{all-search, search-end}
use Rattle.lists.proofs.Below.{high_hit, high_miss}
use Rattle.faces_reader.proofs.Brief.{corners_small}
use native.Mathlib.Omega.{arith}
use Rattle.faces_reader.proofs.read.are_below.Goals as goal

abbrev k : goal.In-loop-k → ℕ
k c = c.loop-k.k

-- its field lies within all fields, which are few bits
field-inside : (c : goal.In-loop-k) → let a = c.args in (a.w * k c + a.w ≤ a.w * a.c) × (a.w * a.c ≤ 96)
field-inside c =
    (slot c.args.w (k c) c.args.c (omega arith), corners_small c.requires.narrow c.requires.few)

abbrev numbers : goal.Then-v-field → List ℕ
numbers c = let a = c.args in fields_at a.s.now a.i a.w a.c

abbrev k-2 : goal.Then-v-field → ℕ
k-2 c = c.loop-k.k

length_is : (c : goal.Then-v-field) → length (numbers c) ≡ c.args.c
length_is c = let a = c.args in length_fields a.s.now a.i a.w a.c

inside : (c : goal.Then-v-field) → k-2 c < length (numbers c)
inside c = omega (arith, length_is c)

here : (c : goal.Then-v-field) → let a = c.args in get_or (numbers c) (k-2 c) 0 ≡ field_at a.s.now (a.i + a.w * k-2 c) a.w
here c = let a = c.args in get_d_fields a.s.now a.i a.w a.c (k-2 c) (omega arith)

abbrev numbers-2 : goal.Else-v-field → List ℕ
numbers-2 c = let a = c.args in fields_at a.s.now a.i a.w a.c

abbrev k-3 : goal.Else-v-field → ℕ
k-3 c = c.loop-k.k

length_is-2 : (c : goal.Else-v-field) → length (numbers-2 c) ≡ c.args.c
length_is-2 c = let a = c.args in length_fields a.s.now a.i a.w a.c

inside-2 : (c : goal.Else-v-field) → k-3 c < length (numbers-2 c)
inside-2 c = omega (arith, length_is-2 c)

here-2 : (c : goal.Else-v-field) → let a = c.args in get_or (numbers-2 c) (k-3 c) 0 ≡ field_at a.s.now (a.i + a.w * k-3 c) a.w
here-2 c = let a = c.args in get_d_fields a.s.now a.i a.w a.c (k-3 c) (omega arith)

abbrev numbers-3 : goal.After-loop-k → List ℕ
numbers-3 c = let a = c.args in fields_at a.s.now a.i a.w a.c

length_is-3 : (c : goal.After-loop-k) → length (numbers-3 c) ≡ c.args.c
length_is-3 c = let a = c.args in length_fields a.s.now a.i a.w a.c

-- ---- the needs

pub loop-k-init : goal.loop-k-init
loop-k-init c = (omega arith, refl)

pub overflow_mul-w : goal.overflow_mul-w
overflow_mul-w c = omega (arith, field-inside c)

pub overflow_add-i : goal.overflow_add-i
overflow_add-i c = omega (arith, field-inside c)

pub field-requires : goal.field-requires
field-requires c = omega (arith, field-inside c)

pub returns-then-v-field : goal.returns-then-v-field
returns-then-v-field c =
    let high = rw c.field.ensures at c.if-v-field.true in
    high_hit c.args.v (numbers c) (k-2 c) (inside c) c.loop-k.invariant.1 (here c) high

pub loop-k-preserved : goal.loop-k-preserved
loop-k-preserved c =
    let low = rw c.field.ensures at c.if-v-field.false in
    (omega arith, high_miss c.args.v (numbers-2 c) (k-3 c) (inside-2 c) c.loop-k.invariant.1 (here-2 c) low)

pub returns : goal.returns
returns c =
    let behind : length (numbers-3 c) ≤ c.loop-k.k = omega (arith, length_is-3 c) in
    sym (search-end (all-search (λ (x : ℕ). ltb x c.args.v)) (numbers-3 c) c.loop-k.k behind c.loop-k.invariant.1)
