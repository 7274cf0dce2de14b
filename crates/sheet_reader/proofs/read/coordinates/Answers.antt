-- `sheet_reader::read::coordinates`: the loop keeps that the first k coordinates stand in the list, and zeros behind them.
use mathlib.Core.Path.{◌≡◌, ◌∙◌, sym, ap}
use mathlib.Core.List.{List, [], ◌∷◌, ◌++◌, map, map-append}
use Prim.Native.Nat.{ℕ, ◌<◌, ◌*◌, ◌+◌}
use native.Mathlib.Omega.{arith}
use lib.ListN.{length, length-map, set}
use lib.IntN.{ℤ, pos}
use mir.Syntax.{w64}
use mir.Val.{to_z, of_z}
use mir.ValLaws.{to_z-of_z}
use Rattle.pack.specs.Bits.{field_at, fields_at}
use Rattle.pack.proofs.Laws.{fields_none, fields-more, length_fields, field_lt}
use Rattle.pack.proofs.Fill.{padded-none, padded_more}
use Rattle.paper.specs.Numbers.{most_vertices}
use Rattle.paper.specs.Format.{coordinate_bits, coordinate}
use Rattle.sheet_reader.specs.Kept.{held_xyz}
use Rattle.sheet_reader.proofs.read.coordinates.Invariants.{up_to}
use Rattle.sheet_reader.proofs.read.coordinates.Goals as goal

-- ---- one coordinate more

none : (s : List ℕ) (i : ℕ) → held_xyz [] ≡ held_xyz (up_to s i 0)
none s i = ap (λ (l : List ℕ). held_xyz (map coordinate l)) (sym (fields_none s i coordinate_bits))

more : (s : List ℕ) (i k : ℕ) → k < 3 * most_vertices → (z : ℤ)
    → z ≡ coordinate (field_at s (i + coordinate_bits * k) coordinate_bits)
    → set (held_xyz (up_to s i k)) k z ≡ held_xyz (up_to s i (k + 1))
more s i k h z e =
    let xs = fields_at s i coordinate_bits k in
    let n : length (up_to s i k) ≡ k = length-map xs coordinate ∙ length_fields s i coordinate_bits k in
    padded_more (up_to s i k) _ k z (pos 0) n h
    ∙ ap (λ (v : ℤ). held_xyz (up_to s i k ++ (v ∷ []))) e
    ∙ ap held_xyz (sym (map-append coordinate xs (field_at s (i + coordinate_bits * k) coordinate_bits ∷ [])))
    ∙ ap (λ (l : List ℕ). held_xyz (map coordinate l)) (sym (fields-more s i coordinate_bits k))

-- ---- the needs

pub loop-k-init : goal.loop-k-init
loop-k-init c = (omega arith, padded-none _ (pos 0) ∙ none c.args.s.now c.args.i)

pub to_coordinate-z-requires : goal.to_coordinate-z-requires
to_coordinate-z-requires c =
    let a = c.args in
    rw c.field.ensures (field_lt a.s.now (a.i + coordinate_bits * c.loop-k.k) coordinate_bits)

pub loop-k-preserved : goal.loop-k-preserved
loop-k-preserved c =
    let a = c.args in
    let r = c.to_coordinate-z.result in
    let z = to_z w64 (of_z w64 r) in
    let e = to_z-of_z w64 r (record { sfits = c.to_coordinate-z.type_inv }) ∙ c.to_coordinate-z.ensures in
    let one = more a.s.now a.i c.loop-k.k (omega arith) z (e ∙ ap coordinate c.field.ensures) in
    (omega arith, ap (λ (t : List ℤ). set t c.loop-k.k z) c.loop-k.invariant.1 ∙ one)

pub returns : goal.returns
returns c =
    let a = c.args in
    let e : c.loop-k.k ≡ a.n = omega arith in
    c.loop-k.invariant.1 ∙ ap (λ (k : ℕ). held_xyz (up_to a.s.now a.i k)) e
