-- Every refusal has a number of the table, which is above 0; so what is said of an answer tells which it is.
use mathlib.Core.Path.{◌≡◌, refl, subst}
use mathlib.Core.Logic.{inl, inr}
use mathlib.Core.List.{List}
use Prim.Native.Nat.{ℕ, ◌/◌, ◌≤◌, ◌<◌}
use native.Mathlib.Omega.{arith}
use lib.IntN.{ℤ}
use lib.ListN.{length}
use Rattle.paper_laws.proofs.Answers.{answer-told, verdict-told, written-told, conversion-told, reading-told}
use Rattle.paper.specs.Format.{total, bytes_for, vertices_in, coordinates_in, ends_in, edition_of, lent_edition, edition_for}
use Rattle.paper.specs.Drawing.{Wire}
use Rattle.paper.specs.Loops.{Loop}
use Rattle.paper.specs.FaceList.{bits_of}
use Rattle.paper.specs.Reading.{reading_says, reading_of}
use Rattle.paper.specs.declared.Refusal.{Refusal}
use Rattle.std.specs.Prelude.{Err}
use Rattle.paper.specs.Refusals.{value_of, Answer, Verdict, Written}
use Rattle.paper.specs.declared.Conversion.{Conversion}
use Rattle.demands.specs.Input.{Input, lent, sheet, drawing, candidates_of, converted}
use Rattle.demands.specs.Table.{line, end, one, rooms_and_limit, lists, forms, drawings, of_conversion, of_written, of_verdict}
use Rattle.demands.specs.Shells.{Shape, GoodList, sent_faces, shells, NoList}
use Rattle.demands.specs.Answers.{NumbersNotZero, Told, VolumeOfOne}
use Rattle.demands.proofs.Demand1.{demand1}

-- ---- the numbers of a table's lines are 1 to `most`

module _ (most : ℕ) where
  pub record Numbers (table : Answer → Type 0) : Type 0 where
    pub number : (r : Refusal) → table (Err r) → (0 < value_of r.number) × (value_of r.number ≤ most)

  pub none_left : Numbers end
  none_left = record { number = λ r h. absurd h }

  pub more : (n k : ℕ) (P : ℕ → Type 0) (below : Answer → Type 0) → (0 < n) × (n ≤ most) → Numbers below → Numbers (line n k P below)
  more n k P below h f = record { number = go }
    where
      go : (r : Refusal) → line n k P below (Err r) → (0 < value_of r.number) × (value_of r.number ≤ most)
      go r (inl q) = omega (arith, q.0, h)
      go r (inr q) = f.number r q.1

  module _ (below : Answer → Type 0) (f : Numbers below) where
    of-lists : 16 ≤ most → (v : ℕ) (xyz : List ℤ) (ns : List ℕ) → Numbers (lists v xyz ns below)
    of-lists h v xyz ns = more 8 _ _ _ (omega (arith, h)) (more 9 _ _ _ (omega (arith, h)) (more 10 _ _ below (omega (arith, h)) f))

    pub of-forms : 16 ≤ most → (x : Input) → Numbers (forms x below)
    of-forms h (lent xyz ns) = more 5 _ _ _ (omega (arith, h)) (of-lists h (length xyz / 3) xyz ns)
    of-forms h (sheet s) =
        more 3 _ _ _ (omega (arith, h))
        (more 4 _ _ _ (omega (arith, h))
        (more 5 _ _ _ (omega (arith, h))
        (more 6 _ _ _ (omega (arith, h))
        (more 7 _ _ _ (omega (arith, h))
        (of-lists h (vertices_in (edition_of s) s) (coordinates_in (edition_of s) s) (ends_in (edition_of s) s))))))

    of-drawings : 16 ≤ most → (d : Wire) → Numbers (drawings d below)
    of-drawings h d =
        more 11 _ _ _ (omega (arith, h))
        (more 12 _ _ _ (omega (arith, h))
        (more 13 _ _ _ (omega (arith, h))
        (more 14 _ _ _ (omega (arith, h)) (more 15 _ _ _ (omega (arith, h)) (more 16 _ _ below (omega (arith, h)) f)))))

    of-shells : 27 ≤ most → (d : Wire) (cs fs : List Loop) → Numbers (shells d cs fs below)
    of-shells h d cs fs =
        more 21 _ _ _ (omega (arith, h))
        (more 22 _ _ _ (omega (arith, h))
        (more 23 _ _ _ (omega (arith, h))
        (more 24 _ _ _ (omega (arith, h))
        (more 25 _ _ _ (omega (arith, h)) (more 26 _ _ _ (omega (arith, h)) (more 27 _ _ below (omega (arith, h)) f))))))

-- ---- so are those of the refusals

conversion-refused : (x : Input) (limit : ℕ) (room solids : List ℕ) (r : Refusal)
    → (converted x limit room solids).answer ≡ Conversion.Refused r → (0 < value_of r.number) × (value_of r.number ≤ 16)
conversion-refused x limit room solids r e =
    let ruled = of-forms 16 (drawings (drawing x) end) (of-drawings 16 end (none_left 16) (omega arith) (drawing x)) (omega arith) x in
    (more 16 1 _ _ _ (omega arith) (more 16 2 _ _ _ (omega arith) ruled)).number r
    (subst (λ (a : Conversion). rooms_and_limit limit room solids (forms x (drawings (drawing x) end)) (of_conversion a)) e
    (demand1.converts x limit room solids).1)

pub numbered : NumbersNotZero
numbered = record {
  reads = λ s r e. ((of-forms 16 end (none_left 16) (omega arith) (sheet s)).number r (subst (forms (sheet s) end) e (demand1.reads s))).0;
  writes = λ xyz ns room r e.
      let below = one 1 (length room < bytes_for (total (lent_edition xyz ns) (length xyz / 3) (length ns / 2))) end in
      ((of-forms 16 below (more 16 1 _ _ end (omega arith) (none_left 16)) (omega arith) (lent xyz ns)).number r
      (subst (λ (w : Written). forms (lent xyz ns) below (of_written w)) e (demand1.writes xyz ns room))).0;
  reads_faces = λ v list r e.
      ((more 27 20 _ _ end (omega arith) (none_left 27)).number r (subst (one 20 (Shape (edition_of list) v list → ⊥) end) e (demand1.reads_faces v list))).0;
  sends = λ v n fs room r e.
      let below = one 1 (length room < bytes_for (bits_of (edition_for v n) fs)) end in
      ((more 27 20 _ _ below (omega arith) (more 27 1 _ _ end (omega arith) (none_left 27))).number r
      (subst (λ (w : Written). one 20 (NoList fs) below (of_written w)) e (demand1.sends v n fs room))).0;
  converts = λ x limit room solids r e. (conversion-refused x limit room solids r e).0;
  checks = λ x list r e.
      let d = drawing x in
      let below = one 20 (GoodList d list → ⊥) (shells d (candidates_of x) (sent_faces d list) end) in
      let listed = more 27 20 _ _ _ (omega arith)
      (of-shells 27 end (none_left 27) (omega arith) d (candidates_of x) (sent_faces d list)) in
      ((of-forms 27 (drawings d below) (of-drawings 27 below listed (omega arith) d) (omega arith) x).number r
      (subst (λ (v : Verdict). forms x (drawings d below) (of_verdict v)) e (demand1.checks x list))).0;
  below = λ x limit room solids r e. (conversion-refused x limit room solids r e).1;
}

-- ---- what is said tells the answer

pub told : Told
told = record {
  sheets = λ s t. answer-told _ _ (numbered.reads s) (numbered.reads t);
  faces = λ v w s t. answer-told _ _ (numbered.reads_faces v s) (numbered.reads_faces w t);
  verdicts = λ x y s t. verdict-told _ _ (numbered.checks x s) (numbered.checks y t);
  written = written-told;
  conversions = conversion-told;
  readings = reading-told;
}

-- ---- a volume is that of one solid

pub volume-of-one : VolumeOfOne
unfolding reading_of
volume-of-one x limit room solids e = go (converted x limit room solids).answer refl e
  where
    go : (a : Conversion) → (converted x limit room solids).answer ≡ a → (reading_says (reading_of a)).number ≡ 0
        → (l c work six : ℕ) × ((converted x limit room solids).answer ≡ Conversion.One l c work six)
    go (Conversion.One l c w six) q e = (l, c, w, six, q)
    go (Conversion.Several l c w n) q e = absurd (omega (arith, e))
    go (Conversion.NoSolid l c w) q e = absurd (omega (arith, e))
    go (Conversion.Many l c w) q e = absurd (omega (arith, e))
    go (Conversion.TooLong l c w) q e = absurd (omega (arith, e))
    go (Conversion.Refused r) q e = absurd (omega (arith, e, (conversion-refused x limit room solids r q).0))
