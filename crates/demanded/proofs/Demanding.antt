-- What equals document 01's definition has what is proved of the definition.
use mathlib.Core.Bool.{Bool, true, false, cond}
use mathlib.Core.List.{List, ◌++◌}
use mathlib.Core.Path.{◌≡◌, refl, sym, ap, ◌∙◌, subst}
use Prim.Native.Nat.{ℕ}
use native.Mathlib.Omega.{arith}
use lib.IntN.{ℤ}
use lib.ListN.{length, drop}
use Rattle.pack.specs.Bits.{Under}
use Rattle.paper.specs.Format.{encode, lent_edition, edition_of, edition_for}
use Rattle.paper.specs.Loops.{Loop}
use Rattle.paper.specs.FaceList.{Faces, faces_as, count_in, faces_in, well_shaped, no_faces, encode_faces, faces_of, sent_of, sent_room}
use Rattle.paper.specs.Sheet.{Sheet, sheet_as, written_of, room_of, read_sheet}
use Rattle.paper.specs.Conversion.{Converted}
use Rattle.paper.specs.Reading.{reading_of, reading_says}
use Rattle.std.specs.Prelude.{Result, Ok, Err}
use Rattle.paper.specs.Refusals.{Fine, Reading, Verdict, Written}
use Rattle.paper.specs.declared.Format.{Format}
use Rattle.paper.specs.declared.Conversion.{Conversion}
use Rattle.paper.specs.declared.Drawing.{Drawing}
use Rattle.paper.specs.declared.FaceRows.{FaceRows}
use Rattle.paper.specs.declared.Refusal.{Refusal}
use Rattle.convert.specs.Converts.{at_exit}
use Rattle.assess.specs.Assessed.{Assessed}
use Rattle.faces_laws.proofs.FaceList.{length_in}
use Rattle.means_sheets.specs.FaceLists.{returned}
use Rattle.means_sheets.proofs.Sheets.{sheet-reads_back}
use Rattle.means_sheets.proofs.Sheets.Room as SheetRoom
use Rattle.means_sheets.proofs.FaceLists.Room as ListRoom
use Rattle.demands.specs.Input.{Input, sheet, converted, checked}
use Rattle.demands.specs.Sheets as Sheets
use Rattle.demands.specs.Shells.{Shape}
use Rattle.demands.specs.Table.{one, end, forms, of_written}
use Rattle.demands.proofs.Demand1.{demand1}
use Rattle.demands.proofs.Demand2.{demand2}
use Rattle.demands.proofs.Demand3.{demand3}
use Rattle.demands.proofs.Sheets.{sheets2}
use Rattle.demanded.specs.Demanded.{Converts, ReadAs, Assesses, Checks, ReadsSheet, by_writer, by_sender, Stands, WritesSheet, ReadsFaces, Sends}

pub converts : (x : Input) (limit : ℕ) (faces₀ solids₀ : List ℕ) {r : Conversion} {faces solids : List ℕ}
    → at_exit r faces solids ≡ converted x limit faces₀ solids₀ → Converts x limit faces₀ solids₀ r faces solids
converts x limit faces₀ solids₀ e =
    subst (λ (c : Converted). Converts x limit faces₀ solids₀ c.answer c.faces c.solids) (sym e)
    (record {
      within = (demand1.converts x limit faces₀ solids₀).0;
      first = (demand1.converts x limit faces₀ solids₀).1;
      kept = demand1.rooms_kept x limit faces₀ solids₀;
      every = λ ok t allowed. (demand2 x).holds ok t limit faces₀ solids₀ allowed;
      passed = (demand2 x).reports limit faces₀ solids₀;
      reports = λ h. (demand3 x ((demand2 x).reports limit faces₀ solids₀ h).0).reports limit faces₀ solids₀ h;
    })

pub read_as : (a : Conversion) {r : Reading} → r ≡ reading_of a → ReadAs a r
read_as a is = record {
  one_solid = λ v. (
    λ e. demand1.volume_of a v (sym is ∙ e),
    λ o. is ∙ ap reading_of o.4 ∙ demand1.one_solid o.0 o.1 o.2 o.3 ∙ ap Ok (sym o.5),
  );
  several = λ l c work n e. ap reading_says (is ∙ ap reading_of e) ∙ demand1.several l c work n;
  no_volume = λ h. ap reading_says is ∙ demand1.no_volume a h;
}

pub assesses : (x : Input) (limit : ℕ) {r : Reading} → Assessed (converted x limit) r → Assesses x limit r
assesses x limit h faces solids f s = record {
  conversion = converted x limit faces solids;
  converts = converts x limit faces solids refl;
  reads = read_as (converted x limit faces solids).answer (h.reads faces solids f s).is;
}

pub checks : (x : Input) (list : List ℕ) {r : Verdict} → r ≡ checked x list → Checks x list r
checks x list e =
    subst (Checks x list) (sym e) (record { first = demand1.checks x list; exactly = λ ok. (demand3 x ok).exactly list })

pub reads : (s : List ℕ) → Under 256 s → {r : Result Drawing Refusal} → sheet_as r ≡ read_sheet s → ReadsSheet s r
reads s bytes e = record {
  first = subst (λ (x : Sheet). forms (sheet s) end x.answer) (sym e) (demand1.reads s);
  none = λ f q. sym e ∙ ap sheet_as q;
  again = λ d q.
      let p : sheet_as (Ok d) ≡ read_sheet s = sym (ap sheet_as q) ∙ e in
      let b = sheets2.again s bytes (λ i. (sym p i).answer) in
      (b.0, b.1, ap (λ (x : Sheet). x.drawing) (p ∙ b.2), b.3);
}

-- the length that is reported is that of the bytes
pub stands : {w : Written} {s room₀ room : List ℕ} {n : ℕ} → w ≡ Ok n → w ≡ Ok (length s)
    → room ≡ s ++ drop (length s) room₀ → Stands s room₀ n room
stands {s = s} {room₀ = room₀} {n = n} p q left =
    let size : n ≡ length s = cc in
    record { size = size; there = left ∙ ap (λ (m : ℕ). s ++ drop m room₀) (sym size) }

module _ (xyz : List ℤ) (ends room₀ : List ℕ) where
  abbrev written : Written → Type 0
  written w = by_writer xyz ends room₀ (of_written w)

  -- the last line of the table, 1, doesn't offend
  written_back : (n : ℕ) → written_of (lent_edition xyz ends) xyz ends room₀ ≡ Ok n
      → (s : List ℕ) × Stands s room₀ n (room_of (lent_edition xyz ends) xyz ends room₀) × Sheets.Reads s xyz ends
  written_back n e =
      let s = encode (lent_edition xyz ends) xyz ends in
      let roomy = (subst written e (demand1.writes xyz ends room₀)).1.1.1.1.0 0 (omega arith) in
      let f = lent_edition xyz ends in
      let h = SheetRoom.written_lent f xyz ends room₀ n e in
      let w = SheetRoom.writes f xyz ends s room₀ h refl (omega (arith, roomy, SheetRoom.length_sheet f xyz ends)) in
      (s, stands e w.0 w.1, (sheet-reads_back xyz ends).sheet h)

  pub writes : {r : Written} {room : List ℕ} → r ≡ written_of (lent_edition xyz ends) xyz ends room₀ → room ≡ room_of (lent_edition xyz ends) xyz ends room₀
      → WritesSheet xyz ends room₀ r room
  writes {r} {room} e p = record {
    first = subst written (sym e) (demand1.writes xyz ends room₀);
    kept = λ f q. p ∙ demand1.room_kept xyz ends room₀ f (sym e ∙ q);
    back = λ n q. let b = written_back n (sym e ∙ q) in
        (b.0, subst (Stands b.0 room₀ n) (sym p) b.1, b.2);
  }

pub reads_faces : (v : ℕ) (list : List ℕ) {r : Result FaceRows Refusal} → faces_as r ≡ faces_of (edition_of list) v list
    → ReadsFaces v list r
unfolding faces_of
reads_faces v list e = record {
  first = subst (λ (x : Faces). one 20 (Shape (edition_of list) v list → ⊥) end x.answer) (sym e) (demand1.reads_faces v list);
  none = λ f q.
      let p : faces_as (Err f) ≡ faces_of (edition_of list) v list = sym (ap faces_as q) ∙ e in
      let z = blank (well_shaped (edition_of list) v list) f (λ i. (sym p i).answer) in
      ((λ i. ((p ∙ z) i).answer), z);
  faces = λ g q.
      let p : faces_as (Ok g) ≡ faces_of (edition_of list) v list = sym (ap faces_as q) ∙ e in
      p ∙ whole (well_shaped (edition_of list) v list) (λ i. (sym p i).answer);
}
  where
    read : Faces
    read = record { answer = Fine; count = count_in (edition_of list) list; rows = (returned (faces_in (edition_of list) list)).rows }

    blank : (b : Bool) (f : Refusal) → (cond b read no_faces).answer ≡ Err f → cond b read no_faces ≡ no_faces
    blank true f q = let z : ◌≡◌ {A = ℕ} 0 1 = cc in absurd (omega arith)
    blank false f q = refl

    whole : (b : Bool) → (cond b read no_faces).answer ≡ Fine → cond b read no_faces ≡ returned (faces_in (edition_of list) list)
    whole true q =
        ap (λ (n : ℕ). record { answer = Fine; count = n; rows = (returned (faces_in (edition_of list) list)).rows })
        (sym (length_in (edition_of list) list))
    whole false q = let z : ◌≡◌ {A = ℕ} 0 1 = cc in absurd (omega arith)

module _ (v e : ℕ) (fs : List Loop) (room₀ : List ℕ) where
  abbrev f : Format
  f = edition_for v e

  abbrev sent : Written → Type 0
  sent w = by_sender f fs room₀ (of_written w)

  sent_stands : (n : ℕ) → sent_of f fs room₀ ≡ Ok n
      → Stands (encode_faces f fs) room₀ n (sent_room f fs room₀)
  sent_stands n is =
      let s = encode_faces f fs in
      let roomy = (subst sent is (demand1.sends v e fs room₀)).1.0 0 (omega arith) in
      let w = ListRoom.sends f fs room₀ (ListRoom.sent_sendable f fs room₀ n is) s refl
      (omega (arith, roomy, ListRoom.length_encoded f fs room₀)) in
      stands is w.0 w.1

  pub sends : {r : Written} {room : List ℕ} → r ≡ sent_of f fs room₀ → room ≡ sent_room f fs room₀ → Sends f fs room₀ r room
  sends is p = record {
    first = subst sent (sym is) (demand1.sends v e fs room₀);
    kept = λ r q. p ∙ demand1.send_room_kept v e fs room₀ r (sym is ∙ q);
    sent = λ n q. subst (Stands (encode_faces f fs) room₀ n) (sym p) (sent_stands n (sym is ∙ q));
  }
