-- Demand 1 holds.
use mathlib.Core.Path.{◌≡◌, refl, sym, ap, subst, ◌∙◌}
use mathlib.Core.Bool.{not}
use mathlib.Core.Option.{none}
use mathlib.Core.Logic.{inl, inr}
use mathlib.Core.List.{List, [], ◌∷◌, ◌++◌, append_assoc, flat_map}
use Prim.Native.Nat.{ℕ, ◌<◌}
use native.Mathlib.Omega.{arith}
use lib.Ieee.{Float}
use lib.ListN.{length}
use Rattle.paper.specs.Format.{edition_for}
use Rattle.paper.specs.Numbers.{documented}
use Rattle.paper.specs.Refusals as No
use Rattle.paper.specs.Refusals.{Check, check, first_of, offends, Answer, Fine, Verdict}
use Rattle.paper.specs.FaceList.{well_shaped}
use Rattle.paper.specs.Drawing.{drawing_checks}
use Rattle.paper.specs.Loops.{loops, candidates, loop_checks}
use Rattle.paper.specs.Solids.{tables_of}
use Rattle.paper.specs.Conversion.{Converted, entry_checks, conversion}
use Rattle.paper.specs.Verdict.{listed, list_edition}
use Rattle.paper.specs.Verdict.{face_checks, verdict_for, verdict}
use Rattle.paper.specs.Reading.{conversion_says, reading_says, volume, reading_of}
use Rattle.std.specs.Prelude.{Ok, Err}
use Rattle.paper.specs.declared.Conversion.{Conversion}
use Rattle.means_walk.specs.Tree.{assumptions}
use Rattle.means_report.specs.Listed.{Entry, WalkTree, walked}
use Rattle.means_report.specs.Report.{answered, faces_for, solids_for, solid_count}
use Rattle.means_report.proofs.Counted.{counted}
use Rattle.means_report.proofs.Report.{Tells, Sound}
use Rattle.means_report.proofs.Demand.{says_none, says_one, says_several, says_many, says_long}
use Rattle.means_report.proofs.Converted.{Cases, the_walk, conversion_says_lem}
use Rattle.paper_laws.proofs.Editions.{one_for}
use Rattle.paper_laws.proofs.Checks.{first-both}
use Rattle.means_check.proofs.Demand.{drawing-fits}
use Rattle.demands.specs.Input.{Input, drawing, candidates_of, form, rules, Passes}
use Rattle.demands.specs.Table.{end, one, rooms_and_limit, forms, drawings, of_conversion, of_verdict}
use Rattle.demands.specs.Shells.{GoodList, sent_faces, shells}
use Rattle.demands.specs.Demand1.{WithinLimit, Demand1}
use Rattle.demands.proofs.Input.{converted_is, checked_is, drawing-fine}
use Rattle.paper_laws.proofs.Tests.{is_not}
use Rattle.demands.proofs.Table.{Says, also_one, behind, ends}
use Rattle.demands.proofs.Shape.{is_shape}
use Rattle.demands.proofs.Lines.{entry_says, rules_say}
use Rattle.demands.proofs.Shells.{shells_say}
use Rattle.demands.proofs.Written.{read_says, read-blank, faces_say, write_says, write_keeps, send_says, send_keeps}

-- ---- the check

check_says : (x : Input) (list : List ℕ)
    → forms x
    (drawings (drawing x)
    (one 20 (GoodList (drawing x) list → ⊥) (shells (drawing x) (candidates_of x) (sent_faces (drawing x) list) end)))
    (of_verdict (verdict (form x) (drawing x) list))
unfolding verdict candidates
check_says x list =
    let d = drawing x in
    let fs = sent_faces d list in
    let ks = check No.ShellShape (offends (not (well_shaped (list_edition d) (length d.vertices) list)) 0)
    ∷ face_checks (tables_of d (candidates d)) (length (candidates d)) (listed (candidates d) fs) in
    let s = ends (λ below. forms x (drawings d (one 20 (GoodList d list → ⊥) (shells d (candidates d) fs below))))
    (rules x ++ ks)
    (behind (λ below. forms x (drawings d below)) (λ below. one 20 (GoodList d list → ⊥) (shells d (candidates d) fs below))
    (rules x) ks (rules_say x) (λ p.
    also_one No.ShellShape (GoodList d list → ⊥) (not (well_shaped (list_edition d) (length d.vertices) list))
    (is_not (well_shaped (list_edition d) (length d.vertices) list) (is_shape (one_for (length d.vertices) (length d.edges)) (length d.vertices) list)) (shells d (candidates d) fs)
    (face_checks (tables_of d (candidates d)) (length (candidates d)) (listed (candidates d) fs))
    (λ e. shells_say d (candidates d) fs (drawing-fits d (drawing-fine x p))))) in
    subst (forms x (drawings d (one 20 (GoodList d list → ⊥) (shells d (candidates d) fs end))))
    (sym (of_verdict_lem (first_of (rules x ++ ks)))) s
  where
    of_verdict_lem : (a : Answer) → of_verdict (verdict_for a) ≡ a
    of_verdict_lem (Ok _) = refl
    of_verdict_lem (Err r) = refl

-- ---- conversion

-- a report, and 17 to 19, are no refusals
fine-answered : (l c w : ℕ) (es : List Entry) → of_conversion (answered l c w es) ≡ Fine
fine-answered l c w [] = refl
fine-answered l c w (a ∷ []) = refl
fine-answered l c w (a ∷ (b ∷ es)) = refl

module _ (x : Input) (limit : ℕ) (room solids : List ℕ) (r : Converted) (s : Sound (drawing x) (the_walk (drawing x)) limit room solids r)
  where
    abbrev t : WalkTree (drawing x) (candidates (drawing x))
    t = the_walk (drawing x)

    sound_within : (a : Conversion) → r.answer ≡ a → WithinLimit limit a
    sound_within (Conversion.One l c w six) e = let o = says_one (drawing x) t limit room solids r s e in (o.within, o.is.iv.1)
    sound_within (Conversion.Several l c w n) e =
        let o = says_several (drawing x) t limit room solids r s e in
        (o.within, o.two, o.eight)
    sound_within (Conversion.NoSolid l c w) e = (says_none (drawing x) t limit room solids r s e).within
    sound_within (Conversion.Many l c w) e = (says_many (drawing x) t limit room solids r s e).within
    sound_within (Conversion.TooLong l c w) e = (says_long (drawing x) t limit room solids r s e).works
    sound_within (Conversion.Refused q) e = tt

    sound_fine : of_conversion r.answer ≡ Fine
    sound_fine = go s.tells
      where
        go : Tells (drawing x) t limit room solids r → of_conversion r.answer ≡ Fine
        go (inl y) =
            ap of_conversion y.answer
            ∙ fine-answered (length (loops (drawing x))) (length (candidates (drawing x))) (assumptions t)
            (walked (drawing x) (candidates (drawing x)) t)
        go (inr (inl y)) = ap of_conversion y.answer
        go (inr (inr y)) = ap of_conversion y.answer

    sound_kept : solid_count r.answer ≡ 0 → (r.faces ≡ room) × (r.solids ≡ solids)
    unfolding solids_for flat_map
    sound_kept e = go s.tells
      where
        empty : (es : List Entry) → length es ≡ 0 → es ≡ []
        empty [] h = refl
        empty (y ∷ es) h = absurd (omega arith)

        go : Tells (drawing x) t limit room solids r → (r.faces ≡ room) × (r.solids ≡ solids)
        go (inl y) =
            let n = counted (length (loops (drawing x))) (length (candidates (drawing x))) (assumptions t)
            (walked (drawing x) (candidates (drawing x)) t) in
            let z : walked (drawing x) (candidates (drawing x)) t ≡ [] = empty (walked (drawing x) (candidates (drawing x)) t)
            (sym n ∙ sym (ap solid_count y.answer) ∙ e) in
            (y.faces_left ∙ ap (faces_for (candidates (drawing x)) room) z, y.solids_left ∙ ap (solids_for solids) z)
        go (inr (inl y)) = (y.faces_left, y.solids_left)
        go (inr (inr y)) = (y.faces_left, y.solids_left)

module _ (x : Input) (limit : ℕ) (room solids : List ℕ) where
  abbrev made : Converted
  made = conversion documented (form x) (drawing x) limit room solids

  abbrev asked : List Check
  asked = entry_checks limit room solids ++ form x ++ drawing_checks (drawing x) ++ loop_checks documented (loops (drawing x)) (candidates (drawing x))

  abbrev Answers : Type 0
  Answers = Cases (drawing x) (the_walk (drawing x)) (form x) limit room solids

  within : WithinLimit limit made.answer
  within = go (conversion_says_lem (drawing x) (the_walk (drawing x)) (form x) limit room solids)
    where
      go : Answers → WithinLimit limit made.answer
      go (inl p) = subst (WithinLimit limit) (sym (ap (λ (c : Converted). c.answer) p.2)) tt
      go (inr p) = sound_within x limit room solids made p.1 made.answer refl

  parts : asked ≡ entry_checks limit room solids ++ rules x
  parts = simp append_assoc

  says : rooms_and_limit limit room solids (forms x (drawings (drawing x) end)) (of_conversion made.answer)
  says =
      subst (rooms_and_limit limit room solids (forms x (drawings (drawing x) end)))
      (sym (go (conversion_says_lem (drawing x) (the_walk (drawing x)) (form x) limit room solids)))
      (ends (λ below. rooms_and_limit limit room solids (forms x (drawings (drawing x) below))) asked
      (subst (Says (λ below. rooms_and_limit limit room solids (forms x (drawings (drawing x) below)))) (sym parts)
      (behind (rooms_and_limit limit room solids) (λ below. forms x (drawings (drawing x) below)) (entry_checks limit room solids) (rules x)
      (entry_says limit room solids) (λ e. rules_say x))))
    where
      go : Answers → of_conversion made.answer ≡ first_of asked
      go (inl p) = ap (λ (c : Converted). of_conversion c.answer) p.2 ∙ p.1
      go (inr p) = sound_fine x limit room solids made p.1 ∙ p.0

  keeps : solid_count made.answer ≡ 0 → (made.faces ≡ room) × (made.solids ≡ solids)
  keeps e = go (conversion_says_lem (drawing x) (the_walk (drawing x)) (form x) limit room solids)
    where
      go : Answers → (made.faces ≡ room) × (made.solids ≡ solids)
      go (inl p) = (ap (λ (c : Converted). c.faces) p.2, ap (λ (c : Converted). c.solids) p.2)
      go (inr p) = sound_kept x limit room solids made p.1 e

  -- a report is of a drawing that passes its rules
  pub passes : 0 < solid_count made.answer → Passes x
  passes h = go (conversion_says_lem (drawing x) (the_walk (drawing x)) (form x) limit room solids)
    where
      go : Answers → Passes x
      go (inl p) = absurd (omega (arith, h, ap (λ (c : Converted). solid_count c.answer) p.2))
      go (inr p) = (first-both (entry_checks limit room solids) (rules x) (p.0 ∙ ap first_of parts)).1

-- ---- the reading

volume-one : (a : Conversion) (v : Float) → reading_of a ≡ Ok v → (l c work six : ℕ) × (a ≡ Conversion.One l c work six)
    × (v ≡ volume six)
unfolding reading_of volume
volume-one (Conversion.One l c w six) v e = (l, c, w, six, refl, cc)
volume-one (Conversion.Several l c w n) v e = let z : ◌≡◌ {A = ℕ} 0 1 = cc in absurd (omega arith)
volume-one (Conversion.NoSolid l c w) v e = let z : ◌≡◌ {A = ℕ} 0 1 = cc in absurd (omega arith)
volume-one (Conversion.Many l c w) v e = let z : ◌≡◌ {A = ℕ} 0 1 = cc in absurd (omega arith)
volume-one (Conversion.TooLong l c w) v e = let z : ◌≡◌ {A = ℕ} 0 1 = cc in absurd (omega arith)
volume-one (Conversion.Refused r) v e = let z : ◌≡◌ {A = ℕ} 0 1 = cc in absurd (omega arith)

one-volume : (l c work six : ℕ) → reading_of (Conversion.One l c work six) ≡ Ok (volume six)
unfolding reading_of volume
one-volume l c w six = refl

several_none : (l c work n : ℕ) → reading_says (reading_of (Conversion.Several l c work n)) ≡ record { number = 30; shown = none }
unfolding reading_of
several_none l c w n = refl

number-none : (a : Conversion) → 0 < (conversion_says a).number
    → reading_says (reading_of a) ≡ record { number = (conversion_says a).number; shown = none }
unfolding reading_of
number-none (Conversion.One l c w six) h = absurd (omega arith)
number-none (Conversion.Several l c w n) h = absurd (omega arith)
number-none (Conversion.NoSolid l c w) h = refl
number-none (Conversion.Many l c w) h = refl
number-none (Conversion.TooLong l c w) h = refl
number-none (Conversion.Refused r) h = refl

pub demand1 : Demand1
demand1 = record {
  converts =
      λ x limit room solids. subst
      (λ (c : Converted). WithinLimit limit c.answer
      × rooms_and_limit limit room solids (forms x (drawings (drawing x) end)) (of_conversion c.answer))
      (sym (converted_is x limit room solids)) (within x limit room solids, says x limit room solids);
  checks =
      λ x list. subst
      (λ (v : Verdict). forms x
      (drawings (drawing x)
      (one 20 (GoodList (drawing x) list → ⊥) (shells (drawing x) (candidates_of x) (sent_faces (drawing x) list) end)))
      (of_verdict v))
      (sym (checked_is x list)) (check_says x list);
  reads = read_says;
  reads_faces = faces_say;
  writes = write_says;
  sends = λ v e. send_says (one_for v e);
  rooms_kept = λ x limit room solids e.
      subst (λ (c : Converted). solid_count c.answer ≡ 0 → (c.faces ≡ room) × (c.solids ≡ solids))
      (sym (converted_is x limit room solids)) (keeps x limit room solids) e;
  blank_kept = read-blank;
  room_kept = write_keeps;
  send_room_kept = λ v e. send_keeps (edition_for v e);
  volume_of = volume-one;
  one_solid = one-volume;
  several = several_none;
  no_volume = number-none;
}
