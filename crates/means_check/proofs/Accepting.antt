-- Demand 3: the check accepts a list exactly when it names one solid with its directions.
use mathlib.Core.Path.{◌≡◌, refl, sym, ap, subst, ◌∙◌}
use mathlib.Core.Bool.{Bool, not}
use mathlib.Core.Option.{Option, none}
use mathlib.Core.List.{List, ◌∷◌, ◌++◌}
use Prim.Native.Nat.{ℕ, ◌<◌}
use native.Mathlib.Omega.{arith}
use borrow.Author.Tests.{not-false}
use lib.ListN.{length, get_or}
use Rattle.paper.specs.Numbers.{documented}
use Rattle.paper.specs.Refusals as No
use Rattle.paper.specs.Refusals.{Check, check, first_of, offends, ListAccepted, Answer, Fine}
use Rattle.paper.specs.Drawing.{Wire, drawing_checks}
use Rattle.paper.specs.Loops.{Loop, loops, candidates, loop_checks}
use Rattle.paper.specs.Solids.{tables_of}
use Rattle.paper.specs.FaceList.{faces_in, well_shaped}
use Rattle.paper.specs.Verdict.{listed, not_candidate, face_twice, edge_count, direction, pieces, inward, clashes, face_checks, verdict_for}
use Rattle.paper.specs.Verdict.{verdict, list_edition}
use Rattle.std.specs.Prelude.{Ok, Err}
use Rattle.paper_laws.proofs.Checks.{clear, found_none, none_found, fails, passed, first-both, both_first}
use Rattle.means_solid.specs.Solid.{IsSolid}
use Rattle.means_check.specs.Candidates.{ProperCandidates}
use Rattle.means_solid.specs.Named.{Names}
use Rattle.means_check.specs.Accepts.{NamesSolid, Accepts}
use Rattle.means_check.proofs.Numbered.{numbers_of, taken_of, turned_of, numbers_length, number_of_lem, taken_yes, taken_is, turned_yes}
use Rattle.means_check.proofs.Numbered.{Numbered, numbered, numbered_21, numbered_22, numbered_names, names_numbered}
use Rattle.means_check.proofs.Numbered.{names_taken, names_turned}
use Rattle.means_check.proofs.Tests.{Lists, edges_two, two_edges, pieces_ways, ways_pieces, edges_ways, ways_edges, inward_six}
use Rattle.means_check.proofs.Tests.{six_inward, clashes-apart, apart-clashes, all_proper}
use Rattle.means_solid.proofs.Alike.{solid-to, row_same}
use Rattle.means_check.proofs.Numbers.{row_length}

-- ---- 21 to 27

module _ (d : Wire) (cs : List Loop) (fs : List (List ℕ)) where
  -- the list passes each
  pub record AllPass : Type 0 where
    pub p21 : not_candidate (length cs) (numbers_of cs fs) ≡ none
    pub p22 : face_twice (numbers_of cs fs) ≡ none
    pub p23 : edge_count (tables_of d cs) (taken_of cs fs) ≡ none
    pub p24 : direction (tables_of d cs) (taken_of cs fs) (turned_of cs fs) ≡ none
    pub p25 : pieces (tables_of d cs) (numbers_of cs fs) (taken_of cs fs) ≡ none
    pub p26 : inward (tables_of d cs) (taken_of cs fs) (turned_of cs fs) ≡ none
    pub p27 : clashes (tables_of d cs) (numbers_of cs fs) (taken_of cs fs) ≡ none

  pub checks_pass : Fine ≡ first_of (face_checks (tables_of d cs) (length cs) (listed cs fs)) → AllPass
  unfolding face_checks listed
  checks_pass e =
      let a = found_none _ _ e in
      let b = found_none _ _ a.1 in
      let c = found_none _ _ b.1 in
      let f = found_none _ _ c.1 in
      let g = found_none _ _ f.1 in
      let h = found_none _ _ g.1 in
      let i = found_none _ _ h.1 in
      record { p21 = a.0; p22 = b.0; p23 = c.0; p24 = f.0; p25 = g.0; p26 = h.0; p27 = i.0 }

  pub pass_checks : AllPass → Fine ≡ first_of (face_checks (tables_of d cs) (length cs) (listed cs fs))
  unfolding face_checks listed
  pass_checks p =
      none_found _ _ p.p21
      (none_found _ _ p.p22
      (none_found _ _ p.p23
      (none_found _ _ p.p24
      (none_found _ _ p.p25
      (none_found _ _ p.p26
      (none_found _ _ p.p27 clear))))))

  -- the numbers are the selection's
  lists : Numbered cs fs → Lists d cs (taken_of cs fs) (turned_of cs fs) (numbers_of cs fs)
  lists n = record {
    each = λ i h.
        let l : i < length fs = omega (arith, numbers_length cs fs) in
        taken_is cs fs i (get_or (numbers_of cs fs) i 0) l (sym (number_of_lem cs fs i l)) (omega (arith, number_of_lem cs fs i l, n.known i l));
    there = λ k e.
        let r = (taken_yes cs fs k e).1 in
        (r.0, omega (arith, r.1, numbers_length cs fs), number_of_lem cs fs r.0 r.1 ∙ r.2);
  }

  module _ (c : ProperCandidates d cs) where
    -- what passes is a solid
    pass-solid : AllPass → NamesSolid d cs fs
    pass-solid p =
        let n = numbered cs fs p.p21 p.p22 in
        let two = edges_two d cs (taken_of cs fs) (turned_of cs fs) p.p23 in
        let six = inward_six d cs (taken_of cs fs) (turned_of cs fs) p.p26 in
        let some = row_length (length cs) (numbers_of cs fs) in
        record {
          taken = taken_of cs fs;
          turned = turned_of cs fs;
          six = six.0;
          solid = record {
            some = some;
            within = λ k e. let r = turned_yes cs fs k e in let q = r.1 in taken_is cs fs q.0 k q.1 q.2 r.0;
            i = two;
            ii = pieces_ways d cs (taken_of cs fs) (turned_of cs fs) two (numbers_of cs fs) (lists n) p.p25;
            iii = edges_ways d cs (taken_of cs fs) (turned_of cs fs) (all_proper c) p.p24;
            iv = (six.1, six.2);
            v = clashes-apart d cs (taken_of cs fs) (turned_of cs fs) c.even some (numbers_of cs fs) (lists n) p.p27;
          };
          names = numbered_names d cs c fs n;
        }

    -- and what names a solid passes
    rows_pass : Numbered cs fs → {six : ℕ} → IsSolid d cs (taken_of cs fs) (turned_of cs fs) six → AllPass
    rows_pass n {six} s = record {
      p21 = numbered_21 cs fs n;
      p22 = numbered_22 cs fs n;
      p23 = two_edges d cs (taken_of cs fs) (turned_of cs fs) s.i;
      p24 = ways_edges d cs (taken_of cs fs) (turned_of cs fs) (all_proper c) s.iii;
      p25 = ways_pieces d cs (taken_of cs fs) (turned_of cs fs) s.i (numbers_of cs fs) (lists n) s.ii;
      p26 = six_inward d cs (taken_of cs fs) (turned_of cs fs) six s.iv.0 s.iv.1;
      p27 = apart-clashes d cs (taken_of cs fs) (turned_of cs fs) c.even s.some (numbers_of cs fs) (lists n) s.v;
    }

    -- the masks that are read off a list are those of any solid that it names
    pub rows_solid : (taken turned : List Bool) {six : ℕ} → IsSolid d cs taken turned six → Names d cs taken turned fs
        → IsSolid d cs (taken_of cs fs) (turned_of cs fs) six
    rows_solid taken turned {six} s n =
        let e : taken ≡ taken_of cs fs = row_same taken (taken_of cs fs) (s.some ∙ sym (row_length (length cs) (numbers_of cs fs)))
        (λ k. sym (names_taken d cs c fs taken turned s.some s.within n k)) in
        solid-to d cs (taken_of cs fs) turned (turned_of cs fs) (λ k. sym (names_turned d cs c fs taken turned s.some s.within n k))
        (subst (λ (t : List Bool). IsSolid d cs t turned six) e s)

    solid-pass : NamesSolid d cs fs → AllPass
    solid-pass w =
        rows_pass (names_numbered d cs c fs w.taken w.turned w.solid.some w.solid.within w.names)
        (rows_solid w.taken w.turned w.solid w.names)

    -- a list passes 21 to 27 exactly when it names one solid with its directions
    pub accepted_names : Fine ≡ first_of (face_checks (tables_of d cs) (length cs) (listed cs fs)) → NamesSolid d cs fs
    accepted_names e = pass-solid (checks_pass e)

    pub names_accepted : NamesSolid d cs fs → Fine ≡ first_of (face_checks (tables_of d cs) (length cs) (listed cs fs))
    names_accepted w = pass_checks (solid-pass w)

-- ---- the whole check

fine-verdict : (a : Answer) → verdict_for a ≡ ListAccepted → Fine ≡ a
fine-verdict (Ok _) e = refl
fine-verdict (Err r) e = let z : ◌≡◌ {A = ℕ} 0 1 = cc in absurd (omega arith)

module _ (form : List Check) (d : Wire) (list : List ℕ) where
  abbrev face_last : List Check
  face_last = face_checks (tables_of d (candidates d)) (length (candidates d)) (listed (candidates d) (faces_in (list_edition d) list))

  abbrev shape_of : Option ℕ
  shape_of = offends (not (well_shaped (list_edition d) (length d.vertices) list)) 0

  verdict_is : verdict_for (first_of (form ++ drawing_checks d ++ loop_checks documented (loops d) (candidates d) ++ (check No.ShellShape shape_of ∷ face_last)))
      ≡ verdict form d list
  unfolding verdict candidates
  verdict_is = refl

  verdict-fine : verdict form d list ≡ ListAccepted
      → Fine ≡ first_of (form ++ drawing_checks d ++ loop_checks documented (loops d) (candidates d) ++ (check No.ShellShape shape_of ∷ face_last))
  verdict-fine e =
      fine-verdict (first_of (form ++ drawing_checks d ++ loop_checks documented (loops d) (candidates d) ++ (check No.ShellShape shape_of ∷ face_last)))
      (verdict_is ∙ e)

  -- the drawing of an accepted list passes its rules
  pub fine_passes : verdict form d list ≡ ListAccepted → Fine ≡ first_of (drawing_checks d)
  fine_passes e =
      let p = first-both (form ++ drawing_checks d ++ loop_checks documented (loops d) (candidates d)) (check No.ShellShape shape_of ∷ face_last) (verdict-fine e) in
      let q = first-both (form ++ drawing_checks d) (loop_checks documented (loops d) (candidates d)) p.0 in
      (first-both form (drawing_checks d) q.0).1

module _ (form : List Check) (d : Wire) (c : ProperCandidates d (candidates d)) (list : List ℕ) where
  -- a list is accepted exactly when the drawing passes its rules, the list its own, and its faces name one solid of the drawing
  pub verdict_accepts : verdict form d list ≡ ListAccepted → Accepts form d list
  verdict_accepts e =
      let p = first-both (form ++ drawing_checks d ++ loop_checks documented (loops d) (candidates d))
      (check No.ShellShape (shape_of form d list) ∷ face_last form d list) (verdict-fine form d list e) in
      let q = first-both (form ++ drawing_checks d) (loop_checks documented (loops d) (candidates d)) p.0 in
      let r = first-both form (drawing_checks d) q.0 in
      let s = passed No.ShellShape 0 (face_last form d list) p.1 in
      record {
        form_passes = r.0;
        drawing_passes = r.1;
        few = q.1;
        shape = not-false (well_shaped (list_edition d) (length d.vertices) list) s.0;
        named = accepted_names d (candidates d) (faces_in (list_edition d) list) c s.1;
      }

  pub accepts_verdict : Accepts form d list → verdict form d list ≡ ListAccepted
  accepts_verdict a =
      sym (ap verdict_for
      (both_first (form ++ drawing_checks d ++ loop_checks documented (loops d) (candidates d)) (check No.ShellShape (shape_of form d list) ∷ face_last form d list)
      (both_first (form ++ drawing_checks d) (loop_checks documented (loops d) (candidates d))
      (both_first form (drawing_checks d) a.form_passes a.drawing_passes) a.few)
      (names_accepted d (candidates d) (faces_in (list_edition d) list) c a.named ∙ fails No.ShellShape 0 (face_last form d list) (ap not a.shape)))
      ∙ verdict_is form d list)
