-- From what is told in words to the customer's demand: what equals document 01's definition has what is proved of it.
use mathlib.Core.Logic.Iff
use mathlib.Core.Logic.{◌↔◌}
use mathlib.Core.List.{List, ◌++◌}
use mathlib.Core.Path.{◌≡◌, refl, sym, ap, ◌∙◌, subst}
use Prim.Native.Nat.{ℕ, ◌≤◌, ◌<◌}
use native.Mathlib.Omega.{arith}
use lib.Ieee.{Float}
use lib.IntN.{ℤ}
use lib.ListN.{length}
use lib.Seq.{take-nil}
use Rattle.paper.specs.Format.{lent_edition, edition_for}
use Rattle.paper.specs.Loops.{Loop}
use Rattle.paper.specs.FaceList.{sent_of, sent_room}
use Rattle.paper.specs.Sheet.{written_of, room_of}
use Rattle.paper.specs.Conversion.{Converted}
use Rattle.paper.specs.Reading.{Shown, Said, conversion_says, verdict_says, written_says, written_said, sent_said, reading_of, reading_says}
use Rattle.paper.specs.declared.Conversion.{Conversion}
use Rattle.paper.specs.declared.Conversion.TheVariants as Conversion
use Rattle.std.specs.Prelude.{Ok, Err}
use Rattle.paper.specs.Refusals.{value_of, ListAccepted, Reading, Verdict, Written}
use Rattle.paper.specs.declared.Refusal.{Refusal}
use Rattle.sheet_laws.proofs.Said.{sheet_written_said}
use Rattle.faces_laws.proofs.Said.{sent-said}
use Rattle.means_report.specs.Listed.{WalkTree}
use Rattle.export_words.specs.Words.{Tells, ConvertsAs, WritesAs}
use Rattle.export_words.specs.Volume.{Shows, AssessesAs}
use Rattle.means_report.specs.Report.{solid_count}
use Rattle.demands.specs.Input.{Input, drawing, candidates_of, converted, checked}
use Rattle.demands.specs.Walk.{solids_of, work_to_nine}
use Rattle.demands.specs.Demand2.{Demand2}
use Rattle.demands.proofs.Demand1.{demand1}
use Rattle.demands.proofs.Demand2.{demand2}
use Rattle.demands.proofs.Answers.{numbered, volume-of-one}
use Rattle.demanded.specs.Demanded.{Converts, WritesSheet, Sends}
use Rattle.demanded.proofs.Demanding as Demanding
use Rattle.demanded_words.specs.Words.{EndsInWords, ConvertsInWords, ShownAs, AssessesInWords, ChecksInWords, WritesInWords}
use Rattle.demanded_words.proofs.Numbers.{of_number, known, zero, Some, exactly, several}

-- ---- conversion

module _ (x : Input) (limit : ℕ) (faces₀ solids₀ : List ℕ) where
  abbrev made : Converted
  made = converted x limit faces₀ solids₀

  -- by demand 2, whatever the counts are that come with an end
  module _ (t : WalkTree (drawing x) (candidates_of x)) (d : Demand2 x t limit faces₀ solids₀ made) where
    ninth : Some Conversion.Many made.answer ↔ ((8 < length (solids_of x t)) × (work_to_nine x t ≤ limit))
    ninth = (
      λ p. let m = (d.many p.0 p.1 p.2).0 p.3 in (m.0, m.1),
      λ h. (_, _, _, (d.many _ _ _).1 (h.0, h.1, (refl, refl), refl)),
    )

    passed : Some Conversion.TooLong made.answer ↔ (limit < work_to_nine x t)
    passed = (λ p. ((d.long p.0 p.1 p.2).0 p.3).0, λ h. (_, _, _, (d.long _ _ _).1 (h, (refl, refl), refl)))

    ends : {r : ℕ} → r ≡ (conversion_says made.answer).number → EndsInWords x t limit r
    ends e =
        let k = known x limit faces₀ solids₀ in
        let none = exactly Conversion.NoSolid 17 (omega arith) (λ l c work. refl) made.answer k in
        let many = exactly Conversion.Many 18 (omega arith) (λ l c work. refl) made.answer k in
        let long = exactly Conversion.TooLong 19 (omega arith) (λ l c work. refl) made.answer k in
        record {
          none = λ h. of_number e (Iff.trans none (d.none h));
          many = of_number e (Iff.trans many ninth);
          long = of_number e (Iff.trans long passed);
        }

  pub converts : {r : ℕ} {faces solids words₀ words : List ℕ} → ConvertsAs made r faces solids words₀ words
      → ConvertsInWords x limit faces₀ solids₀ r faces solids words₀ words
  converts {r} {faces} {solids} h =
      let z = of_number h.tells.number_is (zero made.answer (known x limit faces₀ solids₀)) in
      let c : Converts x limit faces₀ solids₀ made.answer faces solids =
      Demanding.converts x limit faces₀ solids₀ (λ i. record { answer = made.answer; faces = h.faces_are i; solids = h.solids_are i }) in
      record {
        answers = record { answer = made.answer; demanded = c; tells = h.tells; zero = z };
        kept = λ n. c.kept (unreported (solid_count made.answer) (λ p. n (z.1 p)));
        ends = λ ok t allowed. ends t ((demand2 x).holds ok t limit faces₀ solids₀ allowed) h.tells.number_is;
      }
    where
      unreported : (n : ℕ) → (0 < n → ⊥) → n ≡ 0
      unreported n not-zero = omega (arith, not-zero)

  -- ---- the reading

  shown : {n : ℕ} {volume₀ volume : List Float} → Shows (reading_says (reading_of made.answer)) n volume₀ volume
      → ShownAs made.answer n volume₀ volume
  unfolding reading_of
  shown {n} {volume₀} {volume} h = record {
    one_solid = (
      λ e. volume-of-one x limit faces₀ solids₀ (sym h.number_is ∙ e),
      λ p. (as_one p.0 p.1 p.2 p.3 p.4).number_is,
    );
    shown = λ l c work six e. (as_one l c work six e).volume_is;
    several = (
      λ e. several made.answer (known x limit faces₀ solids₀) (sym h.number_is ∙ e),
      λ p. h.number_is ∙ ap (λ (s : Shown). s.number) (ap reading_says (ap reading_of p.4) ∙ demand1.several p.0 p.1 p.2 p.3),
    );
    no_volume = λ g. h.number_is ∙ ap (λ (s : Shown). s.number) (demand1.no_volume made.answer g);
    kept = unshown (reading_of made.answer) h;
  }
    where
      as_one : (l c work six : ℕ) → made.answer ≡ Conversion.One l c work six
          → Shows (reading_says (reading_of (Conversion.One l c work six))) n volume₀ volume
      as_one l c work six e = subst (λ (a : Conversion). Shows (reading_says (reading_of a)) n volume₀ volume) e h

      unshown : (q : Reading) → Shows (reading_says q) n volume₀ volume → (n ≡ 0 → ⊥) → volume ≡ volume₀
      unshown (Ok v) s not-zero = absurd (not-zero s.number_is)
      unshown (Err m) s not-zero = s.volume_is ∙ ap (λ (l : List Float). l ++ volume₀) (take-nil (length volume₀))

pub assesses : (x : Input) (limit : ℕ) {n : ℕ} {volume₀ volume : List Float} → AssessesAs (converted x limit) n volume₀ volume
    → AssessesInWords x limit n volume₀ volume
assesses x limit h faces₀ solids₀ f s = record {
  conversion = converted x limit faces₀ solids₀;
  converts = Demanding.converts x limit faces₀ solids₀ refl;
  shows = shown x limit faces₀ solids₀ (h faces₀ solids₀ f s);
}

-- ---- the check

pub checks : (x : Input) (list : List ℕ) {r : ℕ} {words₀ words : List ℕ} → Tells (verdict_says (checked x list)) r words₀ words
    → ChecksInWords x list r words₀ words
checks x list {r} h =
    let c = Demanding.checks x list refl in
    let z = of_number h.number_is (accepted (checked x list) refl) in
    record {
      answers = record { answer = checked x list; demanded = c; tells = h; zero = z };
      exactly = λ ok. Iff.trans z (c.exactly ok);
    }
  where
    accepted : (v : Verdict) → checked x list ≡ v → ((verdict_says v).number ≡ 0) ↔ (v ≡ ListAccepted)
    accepted (Ok _) e = (λ z. refl, λ z. refl)
    accepted (Err f) e =
        (λ z. absurd (omega (arith, z, numbered.checks x list f e)), λ z. ap (λ (v : Verdict). (verdict_says v).number) z)

-- ---- sheets and face lists that are written

module _ (w : Written) (positive : (f : Refusal) → w ≡ Err f → 0 < value_of f.number) where
  zero_written : (v : Written) → w ≡ v → ((written_says v).number ≡ 0) ↔ ((n : ℕ) × (v ≡ Ok n))
  zero_written (Ok n) e = (λ z. (n, refl), λ z. refl)
  zero_written (Err f) e =
      (λ z. absurd (omega (arith, z, positive f e)), λ p. ap (λ (v : Written). (written_says v).number) p.1)

  -- as the room is kept by a refusal, it is by any number but 0
  pub written : {Demanded : Written → Type 0} {s : Said} {room₀ room : List ℕ} {r : ℕ} {words₀ words : List ℕ} → Demanded w
      → ((f : Refusal) → w ≡ Err f → room ≡ room₀) → written_says w ≡ s → Tells s r words₀ words
      → WritesInWords Demanded room₀ r room words₀ words
  written {Demanded} {s} {room₀} {room} {r} {words₀} {words} d kept says tells =
      let t : Tells (written_says w) r words₀ words = subst (λ (q : Said). Tells q r words₀ words) (sym says) tells in
      record {
        answers = record { answer = w; demanded = d; tells = t; zero = of_number t.number_is (zero_written w refl) };
        kept = go w refl t.number_is;
      }
    where
      go : (v : Written) → w ≡ v → r ≡ (written_says v).number → (r ≡ 0 → ⊥) → room ≡ room₀
      go (Ok n) e q not-zero = absurd (not-zero q)
      go (Err f) e q not-zero = kept f e

pub writes : (xyz : List ℤ) (ends room₀ : List ℕ) {r : ℕ} {room words₀ words : List ℕ}
    → WritesAs (written_said (lent_edition xyz ends) xyz ends room₀) (room_of (lent_edition xyz ends) xyz ends room₀) r room words₀ words
    → WritesInWords (λ w. WritesSheet xyz ends room₀ w room) room₀ r room words₀ words
writes xyz ends room₀ h =
    let d = Demanding.writes xyz ends room₀ refl h.room_is in
    let said = sheet_written_said (lent_edition xyz ends) xyz ends room₀ in
    written (written_of (lent_edition xyz ends) xyz ends room₀) (numbered.writes xyz ends room₀) d d.kept said h.tells

pub sends : (v e : ℕ) (fs : List Loop) (room₀ : List ℕ) {r : ℕ} {room words₀ words : List ℕ}
    → WritesAs (sent_said (edition_for v e) fs room₀) (sent_room (edition_for v e) fs room₀) r room words₀ words
    → WritesInWords (λ w. Sends (edition_for v e) fs room₀ w room) room₀ r room words₀ words
sends v e fs room₀ h =
    let f = edition_for v e in
    let d = Demanding.sends v e fs room₀ refl h.room_is in
    written (sent_of f fs room₀) (numbered.sends v e fs room₀) d d.kept (sent-said f fs room₀) h.tells
