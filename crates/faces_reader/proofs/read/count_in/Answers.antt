-- `faces_reader::read::count_in`: each return is one test of a list's beginning that decides, those before it passed.
use mathlib.Core.Path.{◌≡◌, ◌∙◌, sym, refl}
use mathlib.Core.Bool.{true}
use borrow.Author.Tests.{le-leb, lt-leb, eq-eqb, ne_eqb}
use lib.Dec.{leb, eqb}
use lib.ListN.{length}
use Rattle.pack.specs.Bits.{field_at}
use Rattle.paper.specs.Numbers.{least_faces}
use Rattle.paper.specs.Format.{edition_bits, outside}
use Rattle.paper.specs.FaceList.{count_in}
use Rattle.faces_reader.specs.Face.{count_of}
use Rattle.faces_reader.proofs.read.count_in.Goals as goal

two_bytes : (c : goal.Then-field-f) → leb 2 (length c.args.s.now) ≡ true
two_bytes c = le-leb 2 _ c.if-s-lt2.false

edition_right : (c : goal.Then-is_outside) → let a = c.args in
    eqb (field_at a.s.now 0 edition_bits) a.f.edition ≡ true
edition_right c = eq-eqb _ _ (sym c.field.ensures ∙ c.if-field-f.false)

miscounted : (c : goal.Then-is_outside) → let a = c.args in
    outside least_faces a.f.most_faces (count_in a.f a.s.now) ≡ c.is_outside.result
miscounted c = sym (rw c.field-n.ensures at c.is_outside.ensures)

two_bytes-2 : (c : goal.Then-is_outside) → leb 2 (length c.args.s.now) ≡ true
two_bytes-2 c = le-leb 2 _ c.if-s-lt2.false

edition_right-2 : (c : goal.Else-is_outside) → let a = c.args in
    eqb (field_at a.s.now 0 edition_bits) a.f.edition ≡ true
edition_right-2 c = eq-eqb _ _ (sym c.field.ensures ∙ c.if-field-f.false)

miscounted-2 : (c : goal.Else-is_outside) → let a = c.args in
    outside least_faces a.f.most_faces (count_in a.f a.s.now) ≡ c.is_outside.result
miscounted-2 c = sym (rw c.field-n.ensures at c.is_outside.ensures)

two_bytes-3 : (c : goal.Else-is_outside) → leb 2 (length c.args.s.now) ≡ true
two_bytes-3 c = le-leb 2 _ c.if-s-lt2.false

-- ---- the needs

pub returns-then-s-lt2 : goal.returns-then-s-lt2
unfolding count_of
returns-then-s-lt2 c = rw (lt-leb 2 _ c.if-s-lt2.true) refl

pub returns-then-field-f : goal.returns-then-field-f
unfolding count_of
returns-then-field-f c =
    let wrong = ne_eqb _ _ (λ q. c.if-field-f.true (c.field.ensures ∙ q)) in
    rw (two_bytes c, wrong) refl

pub returns-then-is_outside : goal.returns-then-is_outside
unfolding count_of
returns-then-is_outside c =
    rw (two_bytes-2 c, edition_right c, miscounted c ∙ c.if-is_outside.true) refl

pub returns : goal.returns
unfolding count_of
returns c =
    rw (two_bytes-3 c, edition_right-2 c, miscounted-2 c ∙ c.if-is_outside.false, c.field-n.ensures) refl
