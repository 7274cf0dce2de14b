-- `sheet_reader::read::numbers`: the loop keeps that the first k numbers stand in the list, and zeros behind them.
use mathlib.Core.Path.{◌≡◌, ◌∙◌, sym, ap}
use mathlib.Core.List.{List, [], ◌∷◌, ◌++◌}
use Prim.Native.Nat.{ℕ, ◌≤◌, ◌<◌, ◌%◌, ◌*◌, ◌+◌}
use native.Mathlib.Nat.{mod-eq_of_lt}
use native.Mathlib.Omega.{arith}
use lib.ListN.{set}
use Rattle.pack.specs.Bits.{field_at, fields_at}
use Rattle.pack.proofs.Laws.{fields_none, fields-more, length_fields, field_below, slot}
use Rattle.pack.proofs.Fill.{padded-none, padded_more}
use Rattle.paper.specs.Numbers.{most_edges}
use Rattle.sheet_reader.specs.Kept.{held_ends}
use Rattle.sheet_reader.proofs.read.numbers.Goals as goal

more : (s : List ℕ) (i w k : ℕ) → k < 2 * most_edges → (x : ℕ) → x ≡ field_at s (i + w * k) w
    → set (held_ends (fields_at s i w k)) k x ≡ held_ends (fields_at s i w (k + 1))
more s i w k h x e =
    padded_more (fields_at s i w k) _ k x 0 (length_fields s i w k) h
    ∙ ap (λ (v : ℕ). held_ends (fields_at s i w k ++ (v ∷ []))) e
    ∙ ap held_ends (sym (fields-more s i w k))

-- ---- one number more

-- field k lies among the n
slot-within : (c : goal.In-loop-k)
    → let a = c.args in a.w * c.loop-k.k + a.w ≤ a.w * a.n
slot-within c =
    let a = c.args in
    slot a.w c.loop-k.k a.n (omega arith)

-- ---- the needs

pub loop-k-init : goal.loop-k-init
loop-k-init c =
    let a = c.args in
    (omega arith, padded-none _ 0 ∙ ap held_ends (sym (fields_none a.s.now a.i a.w)))

pub overflow_mul-w : goal.overflow_mul-w
overflow_mul-w c = omega (arith, slot-within c)

pub overflow_add-i : goal.overflow_add-i
overflow_add-i c = omega (arith, slot-within c)

pub field-f-requires : goal.field-f-requires
field-f-requires c = omega (arith, slot-within c)

pub loop-k-preserved : goal.loop-k-preserved
loop-k-preserved c =
    let a = c.args in
    let x = c.field-f.result in
    let small : x < 256 = rw c.field-f.ensures (field_below 8 a.s.now (a.i + a.w * c.loop-k.k) a.w (omega arith)) in
    let one = more a.s.now a.i a.w c.loop-k.k (omega arith) (x % 256) (mod-eq_of_lt small ∙ c.field-f.ensures) in
    (omega arith, ap (λ (t : List ℕ). set t c.loop-k.k (x % 256)) c.loop-k.invariant.1 ∙ one)

pub returns : goal.returns
returns c =
    let a = c.args in
    let e : c.loop-k.k ≡ a.n = omega arith in
    c.loop-k.invariant.1 ∙ ap (λ (k : ℕ). held_ends (fields_at a.s.now a.i a.w k)) e
