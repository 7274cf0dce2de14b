-- `drawing_rules::meets::pair`: edges whose boxes are apart have nothing in common, and others are asked by their ends.
use mathlib.Core.Path.{◌∙◌, sym}
use native.Mathlib.Omega.{arith}
use Rattle.drawing_segments.specs.Ways.{both_meet, spans_apart}
use Rattle.drawing_rules.proofs.Meeting.{apart_none, both_are, pair_asked}
use Rattle.drawing_rules.proofs.meets.pair.Goals as goal

-- ---- the needs

pub returns-then-are_apart : goal.returns-then-are_apart
returns-then-are_apart c =
    let p = c.requires in
    let boxes = p.edges.boxed.each in
    let first = c.box_at.ensures ∙ boxes c.args.e p.pair.e_in in
    let second = c.box_at-2.ensures ∙ boxes c.args.f p.pair.f_in in
    let apart = (λ i. spans_apart (sym first i) (sym second i)) ∙ sym c.are_apart.ensures ∙ c.if-are_apart.true in
    apart_none p.edges.lists c.args.e c.args.f p.pair p.edges.places apart

pub overflow_mul-f : goal.overflow_mul-f
overflow_mul-f c = let p = c.requires in omega (arith, p.pair.f_in)

pub overflow_mul-f-2 : goal.overflow_mul-f-2
overflow_mul-f-2 c = let p = c.requires in omega (arith, p.pair.f_in)

pub overflow_add-f : goal.overflow_add-f
overflow_add-f c = let p = c.requires in omega (arith, p.pair.f_in)

pub end_at-d-requires : goal.end_at-d-requires
end_at-d-requires c = let p = c.requires in record { lists = p.edges.lists; k_in = p.pair.f_in }

pub are_joined-requires : goal.are_joined-requires
are_joined-requires c = c.requires.pair

pub both_meet-requires : goal.both_meet-requires
both_meet-requires c =
    let p = c.requires in
    let pa = c.end_at-a.ensures in
    let pb = c.end_at-b.ensures in
    let pc = c.end_at-c.ensures in
    let pd = c.end_at-d.ensures in
    pair_asked p.edges.lists c.args.e c.args.f p.pair p.edges.places pa pb pc pd c.are_joined.ensures

pub returns : goal.returns
returns c =
    let p = c.requires in
    let pa = c.end_at-a.ensures in
    let pb = c.end_at-b.ensures in
    let pc = c.end_at-c.ensures in
    let pd = c.end_at-d.ensures in
    c.both_meet.ensures ∙ (λ i. both_meet (pa i) (pb i) (pc i) (pd i)) ∙ both_are p.edges.lists c.args.e c.args.f p.pair
