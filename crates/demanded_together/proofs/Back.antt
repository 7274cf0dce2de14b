-- Demand 2, of sheets: what was written reads back, and what was read is written back.
use mathlib.Core.Bool.{Bool, true, false}
use mathlib.Core.List.{List, [], ◌∷◌, ◌++◌}
use mathlib.Core.Path.{◌≡◌, refl, sym, ap, ◌∙◌, subst}
use Prim.Native.Nat.{ℕ, ◌/◌, ◌≤◌, ◌<◌}
use native.Mathlib.Decide.{dec_lt}
use native.Mathlib.Omega.{arith}
use borrow.Author.Tests.{lt-ltb, le-ltb}
use lib.Dec.{ltb}
use lib.IntN.{ℤ}
use lib.ListN.{length, take, drop, length-append}
use Rattle.pack.specs.Bits.{Under}
use Rattle.paper.specs.Refusals as No
use Rattle.paper.specs.Refusals.{Check, check, offends, first_of, Answer, Fine, Written}
use Rattle.paper.specs.Format.{total, bytes_for, coordinates_in, ends_in, edition_of, lent_edition, encode}
use Rattle.paper.specs.Sheet.{sheet_checks, sheet_of, written_of, room_of, read_sheet}
use Rattle.paper.specs.declared.Format.{Format}
use Rattle.std.specs.Prelude.{Ok, Err}
use Rattle.paper.specs.declared.Drawing.{Drawing}
use Rattle.paper.specs.declared.Refusal.{Refusal}
use Rattle.paper.specs.Sheet.{Sheet}
use Rattle.paper_laws.proofs.Checks.{first_stops, first_passes}
use Rattle.sheet_laws.proofs.Accepted.{coordinates_are, ends_are}
use Rattle.sheet_laws.proofs.Written.{result_short}
use Rattle.walk_input.specs.Given.{coordinates_of, links_of}
use Rattle.means_sheets.specs.Sheets.{SheetWritesBack}
use Rattle.means_sheets.proofs.Sheets.{sheet-reads_back, sheet_writes_back}
use Rattle.means_sheets.proofs.Sheets.Room.{length_sheet}
use Rattle.demands.specs.Input.{sheet}
use Rattle.demands.specs.Table.{one, end, forms, of_written}
use Rattle.paper_laws.proofs.Tests.{is_lt}
use Rattle.demands.proofs.Table.{done, also_one, behind, ends}
use Rattle.demands.proofs.Lines.{form_says}
use Rattle.demanded.specs.Demanded.{by_writer, Stands}
use Rattle.demanded.proofs.Demanding as Demanding
use Rattle.demanded_together.specs.Together.{ReadsBack, WrittenFrom, WritesBack}

-- what stands in a room is no longer than it
pub stands_fit : {s room₀ room : List ℕ} {n : ℕ} → Stands s room₀ n room → n ≤ length room
stands_fit {s} {room₀} {room} {n} h =
    omega (arith, h.size, ap length h.there, length-append s (drop n room₀))

-- ---- written, and then read

module _ (xyz : List ℤ) (ns room₀ : List ℕ) {room : List ℕ} (left : room ≡ room_of (lent_edition xyz ns) xyz ns room₀) where
  pub written_fits : {n : ℕ} → Ok n ≡ written_of (lent_edition xyz ns) xyz ns room₀ → n ≤ length room
  written_fits {n} e = let b = (Demanding.writes xyz ns room₀ e left).back n refl in stands_fit b.1

  pub read_back : {n : ℕ} {r : Sheet} → Ok n ≡ written_of (lent_edition xyz ns) xyz ns room₀ → r ≡ read_sheet (take n room)
      → ReadsBack xyz ns room₀ r room
  read_back {n} {r} e is =
      let whole = is ∙ ap (λ (l : List ℕ). read_sheet (take n l)) left ∙ (sheet-reads_back xyz ns).room room₀ n (sym e) in
      let fine : r.answer ≡ Fine = ap (λ (q : Sheet). q.answer) whole in
      record {
        first = subst (by_writer xyz ns room₀) (sym fine) (Demanding.writes xyz ns room₀ e left).first;
        kept = λ f q. let z : ◌≡◌ {A = ℕ} 0 1 = clash (sym fine ∙ q) in absurd (omega (arith, z));
        same = λ q. ap (λ (q : Sheet). q.drawing) whole;
      }
    where
      clash : {f : Refusal} → Fine ≡ Err f → ◌≡◌ {A = ℕ} 0 1
      clash q = cc

  pub not_written : {f : Refusal} {d : Drawing} → Err f ≡ written_of (lent_edition xyz ns) xyz ns room₀
      → ReadsBack xyz ns room₀ (record { answer = Err f; drawing = d }) room
  not_written {f} e =
      let w = Demanding.writes xyz ns room₀ e left in
      record {
        first = w.first;
        kept = λ g q. w.kept f refl;
        same = λ q. let z : ◌≡◌ {A = ℕ} 0 1 = cc in absurd (omega (arith, z));
      }

-- ---- read, and then written

module _ (s room₀ : List ℕ) where
  abbrev room-check : List Check
  room-check = check No.NoRoom (offends (ltb (length room₀) (length s)) 0) ∷ []

  abbrev checks : List Check
  checks = sheet_checks (edition_of s) s ++ room-check

  abbrev by_reader : Answer → Type 0
  by_reader = forms (sheet s) (one 1 (length room₀ < length s) end)

  first : by_reader (first_of checks)
  first =
      ends (λ below. forms (sheet s) (one 1 (length room₀ < length s) below)) checks
      (behind (forms (sheet s)) (one 1 (length room₀ < length s)) (sheet_checks (edition_of s) s) room-check (form_says (sheet s)) (λ e.
      also_one No.NoRoom (length room₀ < length s) (ltb (length room₀) (length s)) (is_lt (length room₀) (length s)) (λ below. below) []
      (λ e. done)))

  pub not_read : {f : Refusal} → Err f ≡ first_of (sheet_checks (edition_of s) s) → WritesBack s room₀ (Err f) room₀
  not_read {f} e = record {
    first = subst by_reader (sym (first_stops (sheet_checks (edition_of s) s) room-check e)) first;
    kept = λ g q. refl;
    same = λ n q. let z : ◌≡◌ {A = ℕ} 0 1 = cc in absurd (omega (arith, z));
  }

  module _ (bytes : Under 256 s) (ok : Fine ≡ first_of (sheet_checks (edition_of s) s)) where
    abbrev points : List ℤ
    points = coordinates_in (edition_of s) s

    abbrev links : List ℕ
    links = ends_in (edition_of s) s

    abbrev own : Format
    own = lent_edition points links

    back : SheetWritesBack s
    unfolding sheet_of
    back = sheet_writes_back s (bytes, ok)

    size : bytes_for (total (lent_edition points links) (length points / 3) (length links / 2)) ≡ length s
    size =
        sym (length_sheet own points links) ∙ ap length (ap (λ (f : Format). encode f points links) back.edition ∙ back.sheet)

    -- what the line for 1 says
    last : (b : Bool) → ltb (length room₀) (length s) ≡ b → first_of (check No.NoRoom (offends b 0) ∷ []) ≡ first_of checks
    last b e =
        ap (λ (b : Bool). first_of (check No.NoRoom (offends b 0) ∷ [])) (sym e) ∙ first_passes (sheet_checks (edition_of s) s) room-check ok

    module _ {r : Written} {room : List ℕ} (written : r ≡ written_of (lent_edition points links) points links room₀)
        (left : room ≡ room_of (lent_edition points links) points links room₀) where
      short : length room₀ < length s → WritesBack s room₀ r room
      unfolding first_of
      short h =
          let w = result_short own points links room₀ back.passes (omega (arith, h, size)) in
          let is : r ≡ Err (record { number = No.NoRoom; place = 0 }) = written ∙ sym w.0 in
          record {
            first = subst by_reader (sym (ap of_written is ∙ last true (lt-ltb (length room₀) (length s) h))) first;
            kept = λ f q. left ∙ sym w.1;
            same = λ n q. let z : ◌≡◌ {A = ℕ} 0 1 = cc in absurd (omega (arith, z));
          }

      long : length s ≤ length room₀ → WritesBack s room₀ r room
      unfolding first_of
      long h =
          let w = back.room room₀ h in
          let is : r ≡ Ok (length s) = written ∙ w.0 in
          record {
            first = subst by_reader (sym (ap of_written is ∙ last false (le-ltb (length room₀) (length s) h))) first;
            kept = λ f q. let z : ◌≡◌ {A = ℕ} 0 1 = cc in absurd (omega (arith, z));
            same = λ n q. Demanding.stands q is (left ∙ w.1);
          }

      pub again : WritesBack s room₀ r room
      again = go (dec_lt (length room₀) (length s))
        where
          go : Dec (length room₀ < length s) → WritesBack s room₀ r room
          go (yes h) = short h
          go (no h) = long (omega (arith, h))

  -- the drawing that was read has the sheet's lists
  pub written_back : Under 256 s → Fine ≡ first_of (sheet_checks (edition_of s) s) → {q : Sheet} {r : Written} {room : List ℕ}
      → q ≡ read_sheet s → WrittenFrom q.drawing room₀ r room → WritesBack s room₀ r room
  written_back bytes ok {q} e w =
      let points_are = ap (λ (q : Sheet). coordinates_of q.drawing) e ∙ sym (coordinates_are (edition_of s) s ok) in
      let links_are = ap (λ (q : Sheet). links_of q.drawing) e ∙ sym (ends_are (edition_of s) s ok) in
      again bytes ok (w.0 ∙ (λ i. written_of (lent_edition (points_are i) (links_are i)) (points_are i) (links_are i) room₀))
      (w.1 ∙ (λ i. room_of (lent_edition (points_are i) (links_are i)) (points_are i) (links_are i) room₀))
