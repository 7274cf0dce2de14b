-- `sheet_shape::closing`: the bits that the code counts are the layout's, so its two tests are those of 6 and 7.
use mathlib.Core.Path.{◌≡◌, ◌∙◌, ap, sym}
use mathlib.Core.Bool.{false, not}
use mathlib.Core.List.{List}
use Prim.Native.Nat.{ℕ, ◌≤◌}
use borrow.Author.Tests.{eq-eqb, ne_eqb}
use lib.Dec.{eqb}
use lib.ListN.{length}
use Rattle.paper_laws.proofs.Checks.{holds, fails, clear}
use Rattle.paper.specs.Format.{total, bytes_for, fill_after}
use Rattle.paper.specs.Sheet.{close_checks}
use Rattle.sheet_shape.proofs.Sizes.{total_small}
use native.Mathlib.Omega.{arith}
use Rattle.sheet_shape.proofs.closing.Goals as goal

-- ---- what is known there

few : (c : goal.After-total_bits-bits) → c.total_bits-bits.result ≤ 4200
few c = omega (arith, c.total_bits-bits.ensures, total_small c.requires)

few-2 : (c : goal.Else-s-bits) → c.total_bits-bits.result ≤ 4200
few-2 c = omega (arith, c.total_bits-bits.ensures, total_small c.requires)

abbrev sheet : goal.After-refused-then-field-ne0 → List ℕ
sheet c = c.args.s.now

-- the layout's bits
abbrev bits : goal.After-refused-then-field-ne0 → ℕ
bits c = let a = c.args in total a.f a.v a.e

-- past the first test 6 doesn't apply
six-passes : (c : goal.After-refused-then-field-ne0) → not (eqb (length (sheet c)) (bytes_for (bits c))) ≡ false
six-passes c = ap not (eq-eqb _ _ (c.if-s-bits.false ∙ ap bytes_for c.total_bits-bits.ensures))

-- the field that the code reads is the fill
fill : (c : goal.After-refused-then-field-ne0) → c.field.result ≡ fill_after (bits c) (sheet c)
unfolding fill_after
fill c = c.field.ensures ∙ ap (λ (n : ℕ). fill_after n (sheet c)) c.total_bits-bits.ensures

abbrev sheet-2 : goal.Else-field-ne0 → List ℕ
sheet-2 c = c.args.s.now

abbrev bits-2 : goal.Else-field-ne0 → ℕ
bits-2 c = let a = c.args in total a.f a.v a.e

six-passes-2 : (c : goal.Else-field-ne0) → not (eqb (length (sheet-2 c)) (bytes_for (bits-2 c))) ≡ false
six-passes-2 c = ap not (eq-eqb _ _ (c.if-s-bits.false ∙ ap bytes_for c.total_bits-bits.ensures))

fill-2 : (c : goal.Else-field-ne0) → c.field.result ≡ fill_after (bits-2 c) (sheet-2 c)
unfolding fill_after
fill-2 c = c.field.ensures ∙ ap (λ (n : ℕ). fill_after n (sheet-2 c)) c.total_bits-bits.ensures

-- ---- the needs

pub overflow_add-bits : goal.overflow_add-bits
overflow_add-bits c = omega (arith, few c)

pub returns-then-s-bits : goal.returns-then-s-bits
unfolding close_checks
returns-then-s-bits c =
    let other = ap not (ne_eqb _ _ (λ q. c.if-s-bits.true (q ∙ ap bytes_for (sym c.total_bits-bits.ensures)))) in
    c.refused.ensures ∙ holds _ _ _ other

pub overflow_mul-s : goal.overflow_mul-s
overflow_mul-s c = omega (arith, few-2 c)

pub field-requires : goal.field-requires
field-requires c = omega (arith, few-2 c)

pub returns-then-field-ne0 : goal.returns-then-field-ne0
unfolding close_checks
returns-then-field-ne0 c =
    let behind = fill_after (bits c) (sheet c) in
    let filled = ap not (ne_eqb behind 0 (λ q. omega (arith, q, fill c, c.if-field-ne0.true))) in
    c.refused-then-field-ne0.ensures ∙ holds _ _ _ filled ∙ fails _ _ _ (six-passes c)

pub returns : goal.returns
unfolding close_checks
returns c =
    let behind = fill_after (bits-2 c) (sheet-2 c) in
    let blank = ap not (eq-eqb behind 0 (omega (arith, fill-2 c, c.if-field-ne0.false))) in
    clear ∙ fails _ _ _ blank ∙ fails _ _ _ (six-passes-2 c)
