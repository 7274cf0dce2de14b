-- `desk_text::counted`: a sheet of three bytes has both fields. Each need goes back to the layout and to the start.
use mathlib.Core.Path.{◌≡◌, ap, ◌∙◌}
use Prim.Native.Nat.{◌+◌}
use native.Mathlib.Omega.{arith}
use Rattle.pack.specs.Bits.{field_at}
use Rattle.paper.specs.Format.{edition_one, edition_of, edition_bits}
use Rattle.paper.specs.declared.Format.{Format}
use Rattle.desk_text.proofs.counted.Goals as goal

-- the widths are those of edition 1
vertex-bits : (c : goal.After-edition_of-f) → c.edition_of-f.result.vertex_count_bits ≡ edition_one.vertex_count_bits
unfolding edition_of
vertex-bits c = ap (λ (f : Format). f.vertex_count_bits) c.edition_of-f.ensures

vertex-bits-2 : (c : goal.After-field) → c.edition_of-f.result.vertex_count_bits ≡ edition_one.vertex_count_bits
unfolding edition_of
vertex-bits-2 c = ap (λ (f : Format). f.vertex_count_bits) c.edition_of-f.ensures

edge-bits : (c : goal.After-field) → c.edition_of-f.result.edge_count_bits ≡ edition_one.edge_count_bits
unfolding edition_of
edge-bits c = ap (λ (f : Format). f.edge_count_bits) c.edition_of-f.ensures

vertex-bits-3 : (c : goal.After-field-2) → c.edition_of-f.result.vertex_count_bits ≡ edition_one.vertex_count_bits
unfolding edition_of
vertex-bits-3 c = ap (λ (f : Format). f.vertex_count_bits) c.edition_of-f.ensures

edge-bits-2 : (c : goal.After-field-2) → c.edition_of-f.result.edge_count_bits ≡ edition_one.edge_count_bits
unfolding edition_of
edge-bits-2 c = ap (λ (f : Format). f.edge_count_bits) c.edition_of-f.ensures

pub returns-then-sheet-lt3 : goal.returns-then-sheet-lt3
returns-then-sheet-lt3 c = λ h. absurd (omega arith)

pub field-requires : goal.field-requires
field-requires c = record { narrow = omega (arith, vertex-bits c); inside = omega (arith, vertex-bits c) }

pub overflow_add-v : goal.overflow_add-v
overflow_add-v c = omega (arith, vertex-bits-2 c)

pub field-requires-2 : goal.field-requires-2
field-requires-2 c = record { narrow = omega (arith, edge-bits c); inside = omega (arith, vertex-bits-2 c, edge-bits c) }

pub returns : goal.returns
unfolding edition_of
returns c =
    let s = c.args.sheet.now in
    λ h. (
      c.field.ensures ∙ ap (field_at s edition_bits) (vertex-bits-3 c),
      c.field-2.ensures ∙ (λ i. field_at s (edition_bits + vertex-bits-3 c i) (edge-bits-2 c i)),
    )
