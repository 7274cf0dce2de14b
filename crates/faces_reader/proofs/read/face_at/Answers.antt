-- `faces_reader::read::face_at`: each return is one test of the face that decides, those before it passed. The bits are tested before
-- they are read.
use mathlib.Core.Path.{◌≡◌, ◌∙◌, sym, ap, subst}
use mathlib.Core.Option.{some}
use Prim.Native.Nat.{ℕ, ◌*◌, ◌≤◌, ◌<◌}
use lib.ListN.{length}
use Rattle.pack.specs.Bits.{field_at}
use Rattle.paper.specs.Numbers.{least_corners, most_corners}
use Rattle.paper.specs.Format.{corner_bits, outside}
use Rattle.paper_laws.proofs.Limits.{outside_false}
use Rattle.faces_reader.specs.Face.{face_end}
use Rattle.faces_reader.proofs.Brief.{corners_small}
use Rattle.faces_reader.proofs.FaceAt.{no_bits, no_count, no_vertex, a_face}
use native.Mathlib.Omega.{arith}
use Rattle.faces_reader.proofs.read.face_at.Goals as goal

-- ---- what is known there: the corner count c, its test, and where the face ends

abbrev count : goal.Then-is_outside → ℕ
count c = field_at c.args.s.now c.args.at corner_bits

miscounted : (c : goal.Then-is_outside) → outside least_corners most_corners (count c) ≡ c.is_outside.result
miscounted c = sym (rw c.field-c.ensures at c.is_outside.ensures)

few : (c : goal.After-struct_known-1) → c.field-c.result ≤ most_corners
few c =
    let r = c.field-c.result in
    (outside_false least_corners most_corners r (sym c.is_outside.ensures ∙ c.if-is_outside.false)).1

few_bits : (c : goal.After-struct_known-1) → c.args.f.vertex_number_bits * c.field-c.result ≤ 96
few_bits c = corners_small c.requires.brief.slender.vertex_number_narrow (few c)

abbrev count-2 : goal.Then-s-at-2 → ℕ
count-2 c = field_at c.args.s.now c.args.at corner_bits

few-2 : (c : goal.Else-s-at-2) → c.field-c.result ≤ most_corners
few-2 c =
    let r = c.field-c.result in
    (outside_false least_corners most_corners r (sym c.is_outside.ensures ∙ c.if-is_outside.false)).1

abbrev count-3 : goal.Then-are_below → ℕ
count-3 c = field_at c.args.s.now c.args.at corner_bits

miscounted-2 : (c : goal.Then-are_below) → outside least_corners most_corners (count-3 c) ≡ c.is_outside.result
miscounted-2 c = sym (rw c.field-c.ensures at c.is_outside.ensures)

inside : (c : goal.Then-are_below) → let a = c.args in
    face_end a.f a.at (count-3 c) ≤ length a.s.now * 8
inside c =
    let a = c.args in
    subst (λ (m : ℕ). face_end a.f a.at m ≤ length a.s.now * 8) c.field-c.ensures (omega (arith, c.if-s-at-2.false))

abbrev count-4 : goal.Else-are_below → ℕ
count-4 c = field_at c.args.s.now c.args.at corner_bits

miscounted-3 : (c : goal.Else-are_below) → outside least_corners most_corners (count-4 c) ≡ c.is_outside.result
miscounted-3 c = sym (rw c.field-c.ensures at c.is_outside.ensures)

inside-2 : (c : goal.Else-are_below) → let a = c.args in
    face_end a.f a.at (count-4 c) ≤ length a.s.now * 8
inside-2 c =
    let a = c.args in
    subst (λ (m : ℕ). face_end a.f a.at m ≤ length a.s.now * 8) c.field-c.ensures (omega (arith, c.if-s-at-2.false))

-- ---- the needs

pub returns-then-s-at : goal.returns-then-s-at
returns-then-s-at c = let a = c.args in no_bits a.f a.v a.s.now a.at (omega (arith, c.if-s-at.true))

pub field-c-requires : goal.field-c-requires
field-c-requires c = omega (arith, c.if-s-at.false, c.requires.near)

pub returns-then-is_outside : goal.returns-then-is_outside
returns-then-is_outside c =
    let a = c.args in
    no_count a.f a.v a.s.now a.at (miscounted c ∙ c.if-is_outside.true)

pub overflow_mul-f : goal.overflow_mul-f
overflow_mul-f c = omega (arith, few_bits c)

pub overflow_add-at-4 : goal.overflow_add-at-4
overflow_add-at-4 c = omega (arith, few_bits c, c.requires.near)

pub overflow_add-at-5 : goal.overflow_add-at-5
overflow_add-at-5 c = omega (arith, few_bits c, c.requires.near)

pub returns-then-s-at-2 : goal.returns-then-s-at-2
returns-then-s-at-2 c =
    let a = c.args in
    let behind : length a.s.now * 8 < face_end a.f a.at (count-2 c) =
    subst (λ (m : ℕ). length a.s.now * 8 < face_end a.f a.at m) c.field-c.ensures (omega (arith, c.if-s-at-2.true)) in
    no_bits a.f a.v a.s.now a.at behind

pub are_below-requires : goal.are_below-requires
are_below-requires c =
    record {
      narrow = c.requires.brief.slender.vertex_number_narrow;
      few = few-2 c;
      inside = omega (arith, c.if-s-at-2.false);
      near = omega (arith, c.requires.near);
    }

pub returns-then-are_below : goal.returns-then-are_below
returns-then-are_below c =
    let a = c.args in
    let right = miscounted-2 c ∙ c.if-is_outside.false in
    let low = rw c.field-c.ensures at (sym c.are_below.ensures ∙ c.if-are_below.true) in
    ap some c.field-c.ensures ∙ a_face a.f a.v a.s.now a.at (inside c) right low

pub returns : goal.returns
returns c =
    let a = c.args in
    let right = miscounted-3 c ∙ c.if-is_outside.false in
    let high = rw c.field-c.ensures at (sym c.are_below.ensures ∙ c.if-are_below.false) in
    no_vertex a.f a.v a.s.now a.at (inside-2 c) right high
