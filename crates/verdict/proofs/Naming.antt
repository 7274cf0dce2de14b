-- A list whose faces stand in rows: what naming them and testing them says is what 21 to 27 say.
use mathlib.Core.Bool.{Bool, true}
use mathlib.Core.List.{List}
use mathlib.Core.Path.{◌≡◌, refl, sym, ap, subst, ◌∙◌}
use Prim.Native.Nat.{ℕ, ◌≤◌, ◌<◌}
use native.Mathlib.Omega.{arith}
use lib.ListN.{length, get_or}
use lib.Seq.{get_or-take}
use Rattle.sets.specs.Word.{dig}
use Rattle.paper.specs.Numbers.{most_candidates}
use Rattle.paper.specs.Format.{edition_for}
use Rattle.paper.specs.Refusals.{first_of, Answer, Verdict}
use Rattle.paper.specs.Loops.{Loop}
use Rattle.paper.specs.FaceList.{faces_as, faces_in, faces_of}
use Rattle.paper.specs.Solids.{Tables}
use Rattle.paper.specs.Verdict.{listed, face_checks, verdict_for}
use Rattle.std.specs.Prelude.{Ok, Err}
use Rattle.paper.specs.declared.FaceRows.{FaceRows}
use Rattle.paper.specs.declared.Refusal.{Refusal}
use Rattle.paper_laws.proofs.Checks.{first_stops, first_passes}
use Rattle.means_loops.proofs.Kept.{member_is}
use Rattle.means_check.proofs.Numbers.{row_is}
use Rattle.walk_tables.specs.Words.{WalkTables, Lent}
use Rattle.verdict_faces.specs.Named.{named_checks, NamedIs, Selected}
use Rattle.verdict_faces.specs.declared.selection.Selection.{Selection}
use Rattle.verdict_faces.proofs.Listed.{taken_mask, taken_long, listed_long, named_below}
use Rattle.verdict_tests.proofs.Testing.{last_five}
use Rattle.verdict_tests.specs.Tests.{test_checks, ListedIn, Tested}
use Rattle.verdict.specs.Checked.{ListChecked}
use Rattle.verdict.proofs.Read.{shape_passes, faces_held}
use Rattle.verdict.proofs.Deciding.{same_verdict}

module _ (cs : List Loop) (fs : List (List ℕ)) where
  pub naming_stops : (t : Tables) {r : Refusal} → Err r ≡ first_of (named_checks cs fs)
      → Err r ≡ first_of (face_checks t (length cs) (listed cs fs))
  naming_stops t e = first_stops (named_checks cs fs) (test_checks t (listed cs fs)) e
      ∙ ap first_of (sym (last_five t (length cs) (listed cs fs)))

  module _ {count : ℕ} {numbers : List ℕ} {s : Selection} (h : Selected cs fs count numbers s) (all : length fs ≡ count) where
    abbrev ks : List ℕ
    ks = (listed cs fs).numbers

    -- each face's number is that of a candidate
    pub numbers_narrow : length cs ≤ most_candidates → (i : ℕ) → i < count → get_or numbers i 0 < most_candidates
    numbers_narrow few i m =
        let same : get_or numbers i 0 ≡ get_or ks i 0 =
        sym (get_or-take count numbers i 0 m) ∙ ap (λ (l : List ℕ). get_or l i 0) h.numbers_are in
        omega (arith, same, named_below cs fs h.fine i (omega (arith, all)))

    -- and is taken
    listed_in : {n : ℕ} → length cs ≡ n → ListedIn n (listed cs fs)
    listed_in count_is = record {
      as_many = taken_long cs fs ∙ count_is;
      each = λ i m.
          let below = named_below cs fs h.fine i (omega (arith, listed_long cs fs)) in
          subst (λ (a : List Bool). dig a (get_or ks i 0) ≡ true) (sym (taken_mask cs fs))
          (row_is (length cs) ks (get_or ks i 0) below (member_is (get_or ks i 0) ks i m refl));
    }

    pub tests-decide : {tables : WalkTables} {m n : ℕ} {a : Answer} (t : Tables)
        → length cs ≡ n → Lent tables m n t → Tested tables m numbers count s.taken s.turned a
        → a ≡ first_of (face_checks t (length cs) (listed cs fs))
    tests-decide {n = n} t count_is lent tested =
        tested n t (listed cs fs) lent (listed_in count_is)
        (record { numbers_are = sym h.numbers_are; taken_is = h.taken_is; turned_is = h.turned_is })
        ∙ first_passes (named_checks cs fs) (test_checks t (listed cs fs)) h.fine
        ∙ ap first_of (sym (last_five t (length cs) (listed cs fs)))

-- what the tests say of faces that were read and named is what the list's check says
pub list_tested : (list : List ℕ) (v m : ℕ) {rows numbers₀ numbers : List ℕ} {n : ℕ} {tables : WalkTables} {g : FaceRows} {s : Selection}
    {a : Verdict} → faces_as (Ok g) ≡ faces_of (edition_for v m) v list → NamedIs g.rows g.count rows n numbers₀ numbers (Ok s)
    → Tested tables m numbers g.count s.taken s.turned a → ListChecked list v rows n tables m a
list_tested list v m {a = a} read named tested = λ cs t held lent.
    let f = edition_for v m in
    let fs = faces_in f list in
    let faces = faces_held f v list read refl in
    same_verdict a
    ∙ ap verdict_for
    (tests-decide cs fs (named.same fs cs faces held) faces.count t held.count lent tested
    ∙ shape_passes f v list read refl (face_checks t (length cs) (listed cs fs)))
