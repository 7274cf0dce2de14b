-- A drawing handed over in two lent lists: what is said by the lengths of the lists, and of a sheet that was read.
use mathlib.Core.Bool.{Bool, true, false}
use mathlib.Core.List.{List, [], ◌∷◌, ◌++◌}
use mathlib.Core.Path.{◌≡◌, refl, sym, ap, ◌∙◌, subst}
use Prim.Native.Nat.{ℕ, ◌*◌, ◌≤◌, ◌<◌}
use native.Mathlib.Omega.{arith}
use borrow.Author.Tests.{lt-ltb, le-ltb}
use lib.Dec.{ltb}
use lib.IntN.{ℤ}
use lib.ListN.{length, take, drop}
use Rattle.paper.specs.Refusals as No
use Rattle.paper.specs.Refusals.{Check, check, offends, first_of, Answer, Fine}
use Rattle.paper.specs.Format.{vertices_in, edges_in, coordinates_in, ends_in, edition_of}
use Rattle.paper.specs.Sheet.{sheet_checks, read_sheet}
use Rattle.paper.specs.Reading.{fine, refused}
use Rattle.std.specs.Prelude.{Err}
use Rattle.paper.specs.declared.Drawing.{Drawing}
use Rattle.paper.specs.declared.Refusal.{Refusal}
use Rattle.paper.specs.Sheet.{Sheet}
use Rattle.paper_laws.specs.InRange.{Held}
use Rattle.paper_laws.proofs.Checks.{first_stops, first_passes}
use Rattle.rooms.specs.Rooms.{copied}
use Rattle.sheet_laws.proofs.Accepted.{returns, coordinates_are, ends_are}
use Rattle.export_words.specs.Words.{SaidIs, ToldBy}
use Rattle.export_words.specs.Lists.{Read, room_checks, read_for, read_into, ReadsAs, Handed}
use Rattle.export_words.specs.declared.words.Said.{Said}

-- refusal 1, with its place
abbrev pub no_room : ℕ → Refusal
no_room p = record { number = No.NoRoom; place = p }

module _ (d : Drawing) (held : Held d) (xyz₀ : List ℤ) (ends₀ : List ℕ) where
  abbrev points : List ℤ
  points = take (3 * d.vertices) d.xyz

  abbrev links : List ℕ
  links = take (2 * d.edges) d.ends

  points_long : length points ≡ 3 * d.vertices
  points_long = held.points.whole

  links_long : length links ≡ 2 * d.edges
  links_long = held.ends_whole

  -- what the two tests say
  by_tests : (a b : Bool) → ltb (length xyz₀) (length points) ≡ a → ltb (length ends₀) (length links) ≡ b
      → first_of (room_checks points links xyz₀ ends₀)
      ≡ first_of (check No.NoRoom (offends a 0) ∷ check No.NoRoom (offends b 1) ∷ [])
  unfolding room_checks
  by_tests a b s t = λ i. first_of (check No.NoRoom (offends (s i) 0) ∷ check No.NoRoom (offends (t i) 1) ∷ [])

  module _ {x : Said} {r : ℕ} {words₀ words : List ℕ} (told : ToldBy x r words₀ words) where
    by_answer : {a : Answer} {xyz : List ℤ} {ends : List ℕ} → first_of (room_checks points links xyz₀ ends₀) ≡ a
        → ReadsAs (read_for a d.vertices d.edges points links xyz₀ ends₀) r xyz ends words₀ words
        → Handed d xyz₀ ends₀ r xyz ends words₀ words
    by_answer {a} {xyz} {ends} e h =
        subst (λ (y : Answer). ReadsAs (read_for y d.vertices d.edges points links xyz₀ ends₀) r xyz ends words₀ words) (sym e) h

    pub points_short : length xyz₀ < 3 * d.vertices → SaidIs x (refused (no_room 0)) → Handed d xyz₀ ends₀ r xyz₀ ends₀ words₀ words
    unfolding first_of
    points_short l h =
        by_answer (by_tests true (ltb (length ends₀) (length links)) (lt-ltb (length xyz₀) (length points) (omega (arith, l, points_long))) refl)
        (record { xyz_are = refl; ends_are = refl; tells = told (refused (no_room 0)) h })

    pub links_short : 3 * d.vertices ≤ length xyz₀ → length ends₀ < 2 * d.edges → SaidIs x (refused (no_room 1))
        → Handed d xyz₀ ends₀ r xyz₀ ends₀ words₀ words
    unfolding first_of
    links_short l m h =
        by_answer (by_tests false true (le-ltb (length xyz₀) (length points) (omega (arith, l, points_long)))
        (lt-ltb (length ends₀) (length links) (omega (arith, m, links_long))))
        (record { xyz_are = refl; ends_are = refl; tells = told (refused (no_room 1)) h })

    pub both-handed : {xyz : List ℤ} {ends : List ℕ} → 3 * d.vertices ≤ length xyz₀ → 2 * d.edges ≤ length ends₀
        → xyz ≡ copied (3 * d.vertices) d.xyz xyz₀ → ends ≡ copied (2 * d.edges) d.ends ends₀
        → SaidIs x (fine (d.vertices ∷ d.edges ∷ [])) → Handed d xyz₀ ends₀ r xyz ends words₀ words
    unfolding first_of
    both-handed l m p q h =
        by_answer (by_tests false false (le-ltb (length xyz₀) (length points) (omega (arith, l, points_long)))
        (le-ltb (length ends₀) (length links) (omega (arith, m, links_long))))
        (record {
          xyz_are = p ∙ ap (λ (n : ℕ). points ++ drop n xyz₀) (sym points_long);
          ends_are = q ∙ ap (λ (n : ℕ). links ++ drop n ends₀) (sym links_long);
          tells = told (fine (d.vertices ∷ d.edges ∷ [])) h;
        })

-- ---- a sheet that was read

module _ (s : List ℕ) (xyz₀ : List ℤ) (ends₀ : List ℕ) {r : ℕ} {words₀ words : List ℕ} where
  -- it was refused
  pub sheet-refused : {x : Said} {f : Refusal} → ToldBy x r words₀ words → SaidIs x (refused f)
      → Err f ≡ first_of (sheet_checks (edition_of s) s) → ReadsAs (read_into s xyz₀ ends₀) r xyz₀ ends₀ words₀ words
  unfolding read_into
  sheet-refused {x} {f} told h e =
      let points = coordinates_in (edition_of s) s in
      let links = ends_in (edition_of s) s in
      subst (λ (a : Answer). ReadsAs (read_for a (vertices_in (edition_of s) s) (edges_in (edition_of s) s) points links xyz₀ ends₀) r xyz₀ ends₀ words₀ words)
      (first_stops (sheet_checks (edition_of s) s) (room_checks points links xyz₀ ends₀) e)
      (record { xyz_are = refl; ends_are = refl; tells = told (refused f) h })

  -- its lists stand in front of the arrays of the drawing that was read
  pub sheet-handed : {y : Sheet} {xyz : List ℤ} {ends : List ℕ} → y ≡ read_sheet s → Fine ≡ first_of (sheet_checks (edition_of s) s)
      → Handed y.drawing xyz₀ ends₀ r xyz ends words₀ words → ReadsAs (read_into s xyz₀ ends₀) r xyz ends words₀ words
  unfolding read_into
  sheet-handed {y} {xyz} {ends} e ok h =
      let points = coordinates_in (edition_of s) s in
      let links = ends_in (edition_of s) s in
      let d = (read_sheet s).drawing in
      let same : Handed d xyz₀ ends₀ r xyz ends words₀ words =
      subst (λ (y : Sheet). Handed y.drawing xyz₀ ends₀ r xyz ends words₀ words) e h in
      let counts = returns (edition_of s) s ok in
      let v : d.vertices ≡ vertices_in (edition_of s) s = ap (λ (x : Drawing). x.vertices) counts in
      let n : d.edges ≡ edges_in (edition_of s) s = ap (λ (x : Drawing). x.edges) counts in
      let p = sym (coordinates_are (edition_of s) s ok) in
      let l = sym (ends_are (edition_of s) s ok) in
      let checks = room_checks points links xyz₀ ends₀ in
      subst (λ (x : Read). ReadsAs x r xyz ends words₀ words)
      ((λ i. read_for (first_of (room_checks (p i) (l i) xyz₀ ends₀)) (v i) (n i) (p i) (l i) xyz₀ ends₀)
      ∙ ap (λ (a : Answer). read_for a (vertices_in (edition_of s) s) (edges_in (edition_of s) s) points links xyz₀ ends₀)
      (first_passes (sheet_checks (edition_of s) s) checks ok))
      same
