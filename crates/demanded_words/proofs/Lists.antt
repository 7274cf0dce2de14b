-- A sheet read into two lent lists: 3 to 10, then 1, are the lines of the table.
use mathlib.Core.Logic.{◌↔◌}
use mathlib.Core.List.{List, [], ◌++◌}
use mathlib.Core.Path.{◌≡◌, refl, sym, ap, ◌∙◌, subst}
use Prim.Native.Nat.{ℕ, ◌<◌}
use native.Mathlib.Omega.{arith}
use lib.Dec.{ltb}
use lib.IntN.{ℤ}
use lib.ListN.{length}
use Rattle.pack.specs.Bits.{Under}
use Rattle.paper.specs.Format.{vertices_in, edges_in, coordinates_in, ends_in, edition_of}
use Rattle.paper.specs.Refusals as No
use Rattle.paper.specs.Refusals.{value_of, Check, first_of, Answer, Fine}
use Rattle.paper.specs.Sheet.{sheet_checks, sheet_of}
use Rattle.paper.specs.Reading.{Said}
use Rattle.std.specs.Prelude.{Ok, Err}
use Rattle.paper.specs.declared.Refusal.{Refusal}
use Rattle.export_words.specs.Words.{Tells}
use Rattle.export_words.specs.Lists.{Read, room_checks, read_for, read_into, ReadsAs}
use Rattle.means_sheets.proofs.Sheets.{sheet_writes_back}
use Rattle.demands.specs.Input.{sheet}
use Rattle.demands.specs.Sheets as Sheets
use Rattle.demands.specs.Table.{line, end, forms, Two}
use Rattle.paper_laws.proofs.Checks.{first-both}
use Rattle.paper_laws.proofs.Tests.{is_lt}
use Rattle.demands.proofs.Table.{done, also_two, behind, ends}
use Rattle.demands.proofs.Lines.{form_says}
use Rattle.demands.proofs.Answers.{none_left, more, of-forms}
use Rattle.demanded_words.specs.Words.{ReadsInto, counts_said, ReadsInWords}
use Rattle.demanded_words.proofs.Numbers.{of_number}

module _ (s : List ℕ) (bytes : Under 256 s) (xyz₀ : List ℤ) (ends₀ : List ℕ) where
  abbrev points : List ℤ
  points = coordinates_in (edition_of s) s

  abbrev links : List ℕ
  links = ends_in (edition_of s) s

  abbrev checks : List Check
  checks = sheet_checks (edition_of s) s ++ room_checks points links xyz₀ ends₀

  abbrev lines : (Answer → Type 0) → Answer → Type 0
  lines below = forms (sheet s) (line 1 2 (Two (length xyz₀ < length points) (length ends₀ < length links)) below)

  first : lines end (first_of checks)
  unfolding room_checks
  first =
      ends lines checks
      (behind (forms (sheet s)) (line 1 2 (Two (length xyz₀ < length points) (length ends₀ < length links))) (sheet_checks (edition_of s) s)
      (room_checks points links xyz₀ ends₀) (form_says (sheet s)) (λ e.
      also_two No.NoRoom (length xyz₀ < length points) (length ends₀ < length links) (ltb (length xyz₀) (length points))
      (ltb (length ends₀) (length links)) (is_lt (length xyz₀) (length points)) (is_lt (length ends₀) (length links)) (λ below. below) []
      done))

  positive : (f : Refusal) → Err f ≡ first_of checks → 0 < value_of f.number
  positive f e =
      ((of-forms 16 _ (more 16 1 _ _ end (omega arith) (none_left 16)) (omega arith) (sheet s)).number f (subst (lines end) (sym e) first)).0

  zero : (a : Answer) → a ≡ first_of checks → ((counts_said s a).number ≡ 0) ↔ (a ≡ Fine)
  zero (Ok _) e = (λ z. refl, λ z. refl)
  zero (Err f) e =
      (λ z. absurd (omega (arith, z, positive f e)), λ z. ap (λ (a : Answer). (counts_said s a).number) z)

  again : Fine ≡ first_of checks → Sheets.Writes points links s
  unfolding sheet_of
  again e = (sheet_writes_back s (bytes, (first-both (sheet_checks (edition_of s) s) (room_checks points links xyz₀ ends₀) e).0)).room

  -- what is read, by the answer
  abbrev read : Answer → Read
  read a = read_for a (vertices_in (edition_of s) s) (edges_in (edition_of s) s) points links xyz₀ ends₀

  said : (a : Answer) → (read a).said ≡ counts_said s a
  said (Ok _) = refl
  said (Err f) = refl

  module _ {r : ℕ} {xyz : List ℤ} {ends words₀ words : List ℕ} where
    into : (a : Answer) → a ≡ first_of checks → ReadsAs (read a) r xyz ends words₀ words → ReadsInto s xyz₀ ends₀ a xyz ends
    into a e h = record {
      first = subst (lines end) (sym e) first;
      kept = λ f q. (h.xyz_are ∙ ap (λ (b : Answer). (read b).xyz) q, h.ends_are ∙ ap (λ (b : Answer). (read b).ends) q);
      lists = λ q. (h.xyz_are ∙ ap (λ (b : Answer). (read b).xyz) q, h.ends_are ∙ ap (λ (b : Answer). (read b).ends) q);
      again = λ q. again (sym q ∙ e);
    }

    kept : (a : Answer) → ReadsAs (read a) r xyz ends words₀ words → (r ≡ 0 → ⊥) → (xyz ≡ xyz₀) × (ends ≡ ends₀)
    kept (Ok _) h not-zero = absurd (not-zero h.tells.number_is)
    kept (Err f) h not-zero = (h.xyz_are, h.ends_are)

    pub reads : ReadsAs (read_into s xyz₀ ends₀) r xyz ends words₀ words → ReadsInWords s xyz₀ ends₀ r xyz ends words₀ words
    unfolding read_into
    reads h =
        let a = first_of checks in
        let t : Tells (counts_said s a) r words₀ words = subst (λ (q : Said). Tells q r words₀ words) (said a) h.tells in
        record {
          answers = record {
            answer = a;
            demanded = into a refl h;
            tells = t;
            zero = of_number t.number_is (zero a refl);
          };
          kept = kept a h;
        }
