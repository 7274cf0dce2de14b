-- Known drawings with their vertices renumbered: what the demands say of them, in numbers.
use mathlib.Core.Path.{◌≡◌, refl, sym, ap, ◌∙◌, subst}
use mathlib.Core.Bool.{Bool, true, false, not, ◌&&◌, ◌||◌, cond, and_comm}
use mathlib.Core.Logic.{◌⊎◌, inl, inr}
use mathlib.Core.List.{List, [], ◌∷◌, ◌++◌, map}
use Prim.Native.Nat.{ℕ, ◌*◌, ◌≤◌, ◌<◌}
use native.Mathlib.Omega.{arith}
use borrow.Author.Tests.{eqb-true}
use lib.Dec.{eqb}
use lib.IntN.{pos}
use lib.ListN.{length, get_or, drop}
use Rattle.lists.specs.Lists.{any, all, filter, upto, member}
use Rattle.lists.proofs.Passing.{each_yes, any_yes, all_yes, all_append}
use Rattle.lists.proofs.Truth.{and_left, and_right, or_cases}
use Rattle.sets.specs.Word.{dig, digit}
use Rattle.sets.proofs.Digits.{never}
use Rattle.paper.specs.Numbers.{most_work, set_words, word_bits, face_room, solid_room}
use Rattle.paper.specs.Record.{taken_in, turned_in, six_in}
use Rattle.paper.specs.Loops.{Loop, loop_at, flipped}
use Rattle.paper.specs.Questions.{Drawn, neg, reply, face_before, solid_before}
use Rattle.paper.specs.Known.Drawings.{octahedron, nested}
use Rattle.paper.specs.declared.Conversion.{Conversion}
use Rattle.paper_laws.proofs.Record.{taken_in_lem, turned_in_lem, six_in_lem}
use Rattle.faces_laws.proofs.Reported.{kept_same}
use Rattle.means_loops.proofs.Rings.{Parts, parts}
use Rattle.means_solid.specs.Named.{SameRing}
use Rattle.means_report.specs.Listed.{Entry, entry_at, words_of}
use Rattle.means_report.specs.Report.{solids_for}
use Rattle.means_check.specs.Bodies.{SameBody}
use Rattle.means_check.specs.Sent.{face_list}
use Rattle.means_moves.specs.Reports.{NotCut}
use Rattle.demands.specs.Input.{Input, drawing, candidates_of, Passes}
use Rattle.demands.specs.Renumbered.{entry_faces, ListsAll, OneToOne, Given, SolidsKept}
use Rattle.demands.proofs.Rooms.{words-at}
use Rattle.demands.proofs.Renumbered.{renumbering}
use Rattle.demands_known.proofs.Drawings.{of, result, Said, said, one, three, octahedron-said, octahedron-one, octahedron_passes}
use Rattle.demands_known.proofs.Drawings.{nested_words, nested-said, nested-three, nested_passes, allowed}
use Rattle.demands_known.proofs.Numbers.{same, numbers}

-- ---- two reports

-- 18 and 19
abbrev cut : Conversion → Bool
cut (Conversion.One l c w six) = false
cut (Conversion.Several l c w n) = false
cut (Conversion.NoSolid l c w) = false
cut (Conversion.Many l c w) = true
cut (Conversion.TooLong l c w) = true
cut (Conversion.Refused r) = false

whole : (c : Conversion) → cut c ≡ false → NotCut c
whole c e = (λ l n w p. never (sym (ap cut p) ∙ e), λ l n w p. never (sym (ap cut p) ∙ e))

abbrev pub ReportOf : Input → Type 0
ReportOf x = ListsAll x (solid_before solid_room) (result x)

module _ (new : ℕ → ℕ) (x y : Input) where
  abbrev pub BothReports : Type 0
  BothReports = (p : ReportOf x) × (q : ReportOf y) × OneToOne new x y p.es q.es

  both_reports : SolidsKept new x y → Passes x → cut (result x).answer ≡ false → cut (result y).answer ≡ false → BothReports
  both_reports k h a b =
      k.reports h most_work most_work (face_before face_room) (face_before face_room) (solid_before solid_room) (solid_before solid_room) allowed
      allowed (whole (result x).answer a) (whole (result y).answer b)

-- solid i by its record
record Words (ws : List ℕ) (i : ℕ) (e : Entry) : Type 0 where
  taken_is : (k : ℕ) → k < word_bits * set_words → dig e.taken k ≡ dig (taken_in (drop (3 * i) ws)) k
  turned_is : (k : ℕ) → k < word_bits * set_words → dig e.turned k ≡ dig (turned_in (drop (3 * i) ws)) k
  six_is : e.six ≡ six_in (drop (3 * i) ws)

words_of_lem : (x : Input) (p : ReportOf x) (ws : List ℕ) → (result x).solids ≡ ws → (i : ℕ) → i < length p.es
    → Words ws i (entry_at p.es i)
unfolding solids_for
words_of_lem x p ws e i h =
    let w = words-at p.es (drop (3 * length p.es) (solid_before solid_room)) i h in
    let y = entry_at p.es i in
    let z : words_of y ++ w.0 ≡ drop (3 * i) ws = sym w.1 ∙ ap (drop (3 * i)) (sym p.words ∙ e) in
    record {
      taken_is = λ k l. sym (taken_in_lem y.taken y.turned y.six w.0 k l) ∙ ap (λ (l : List ℕ). dig (taken_in l) k) z;
      turned_is = λ k l. sym (turned_in_lem y.taken y.turned y.six w.0 k l) ∙ ap (λ (l : List ℕ). dig (turned_in l) k) z;
      six_is = sym (six_in_lem y.taken y.turned y.six w.0) ∙ ap six_in z;
    }

-- ---- samples/octahedron_renumbered.sheet: "with vertices 1 and 2 exchanged, so that 0 to 3 go round"

abbrev pub around : Drawn
around = record {
  xyz =
      pos 10 ∷ pos 0 ∷ pos 0 ∷ pos 0 ∷ pos 10 ∷ pos 0 ∷ neg 10 ∷ pos 0 ∷ pos 0 ∷ pos 0 ∷ neg 10 ∷ pos 0 ∷ pos 0 ∷ pos 0 ∷
      pos 10 ∷ pos 0 ∷ pos 0 ∷ neg 10 ∷ [];
  ends =
      0 ∷ 1 ∷ 0 ∷ 3 ∷ 0 ∷ 4 ∷ 0 ∷ 5 ∷ 1 ∷ 2 ∷ 1 ∷ 4 ∷ 1 ∷ 5 ∷ 2 ∷ 3 ∷ 2 ∷ 4 ∷ 2 ∷ 5 ∷ 3 ∷ 4 ∷ 3 ∷ 5 ∷ [];
}

abbrev pub one_for_two : ℕ → ℕ
one_for_two v = get_or (0 ∷ 2 ∷ 1 ∷ 3 ∷ 4 ∷ 5 ∷ []) v 0

around_given : Given one_for_two (of octahedron) (of around)
unfolding reply same
around_given = record {
  numbers = numbers one_for_two (drawing (of octahedron)) (drawing (of around)) refl refl;
  good = refl;
  good_too = refl;
}

pub octahedron_kept : SolidsKept one_for_two (of octahedron) (of around)
octahedron_kept = renumbering one_for_two (of octahedron) (of around) around_given

-- other words than 990 and 588
pub around-said : said (result (of around)) ≡ (Conversion.One 11 11 4 8000, one 1758 1164 8000)
unfolding reply
around-said = refl

pub octahedron_reports : BothReports one_for_two (of octahedron) (of around)
octahedron_reports =
    both_reports one_for_two (of octahedron) (of around) octahedron_kept octahedron_passes
    (ap (λ (s : Said). cut s.0) octahedron-said) (ap (λ (s : Said). cut s.0) around-said)

-- and one solid with the six volumes that the octahedron's has
pub around-one : (q : ReportOf (of around)) × (length q.es ≡ 1) × ((entry_at q.es 0).six ≡ 8000)
around-one =
    let r = octahedron_reports in
    let m = r.2 in
    let one-here : length r.0.es ≡ 1 = r.0.count ∙ octahedron-one in
    let h : 0 < length r.0.es = omega arith in
    let first : m.to 0 ≡ 0 = omega (arith, m.low 0 h, m.as_many) in
    let w = words_of_lem (of octahedron) r.0 (one 990 588 8000) (ap (λ (s : Said). s.1) octahedron-said) 0 h in
    (r.1, m.as_many ∙ one-here, ap (λ (i : ℕ). (entry_at r.1.es i).six) (sym first) ∙ (m.same 0 h).six ∙ w.six_is)

-- ---- faces by their records, and bodies that differ

abbrev rings : List Loop → List ℕ → ℕ → List Loop
rings cs ws i =
    let solid = drop (3 * i) ws in
    map (λ k. cond (dig (turned_in solid) k) (flipped (loop_at cs k)) (loop_at cs k)) (filter (dig (taken_in solid)) (upto (length cs)))

faces_by : (x : Input) → length (candidates_of x) ≤ word_bits * set_words → (ws : List ℕ) (i : ℕ) (e : Entry) → Words ws i e
    → entry_faces x e ≡ rings (candidates_of x) ws i
unfolding face_list upto
faces_by x few ws i e w =
    kept_same (dig e.taken) (dig (taken_in (drop (3 * i) ws))) (way e.turned) (way (turned_in (drop (3 * i) ws)))
    (length (candidates_of x)) 0 (λ k a b. w.taken_is k (omega arith))
    (λ k a b y. ap (λ (t : Bool). cond t (flipped (loop_at (candidates_of x) k)) (loop_at (candidates_of x) k)) (w.turned_is k (omega arith)))
  where
    way : List Bool → ℕ → Loop
    way turned k = cond (dig turned k) (flipped (loop_at (candidates_of x) k)) (loop_at (candidates_of x) k)

-- not all vertices of f are vertices of g
abbrev unlike : Loop → Loop → Bool
unlike f g = all (λ v. member v g) g && not (all (λ v. member v g) f)

unlike_rings : (f g : Loop) → unlike f g ≡ true → SameRing f g → ⊥
unlike_rings f g u s =
    never (sym (and_right (all t g) (not (all t f)) u) ∙ ap not (alike (parts s) ∙ and_left (all t g) (not (all t f)) u))
  where
    t : ℕ → Bool
    t v = member v g

    alike : Parts f g → all t f ≡ all t g
    alike p =
        ap (all t) p.before ∙ all_append t p.front p.back ∙ and_comm (all t p.front) (all t p.back)
        ∙ sym (all_append t p.back p.front) ∙ ap (all t) (sym p.after)

-- some face of gs is like none of fs
abbrev other : List Loop → List Loop → Bool
other fs gs = any (λ g. all (λ f. unlike f g) fs) gs

other_body : (fs gs : List Loop) → other fs gs ≡ true → SameBody fs gs → ⊥
other_body fs gs o b =
    let i = any_yes (λ g. all (λ f. unlike f g) fs) [] gs o in
    let j = b.0 i.0 i.1 in
    unlike_rings (loop_at fs j.0) (loop_at gs i.0) (all_yes (λ f. unlike f (loop_at gs i.0)) [] fs i.2 j.0 j.1) j.2

-- ---- samples/nested_cubes_renumbered.sheet: document 01's nested cubes with vertices 0 and 4 exchanged

abbrev pub cornered : Drawn
cornered = record {
  xyz =
      neg 20 ∷ neg 20 ∷ pos 20 ∷ pos 20 ∷ neg 20 ∷ neg 20 ∷ neg 20 ∷ pos 20 ∷ neg 20 ∷ pos 20 ∷ pos 20 ∷ neg 20 ∷ neg 20 ∷
      neg 20 ∷ neg 20 ∷ pos 20 ∷ neg 20 ∷ pos 20 ∷ neg 20 ∷ pos 20 ∷ pos 20 ∷ pos 20 ∷ pos 20 ∷ pos 20 ∷ neg 10 ∷ neg 10 ∷
      neg 10 ∷ pos 10 ∷ neg 10 ∷ neg 10 ∷ neg 10 ∷ pos 10 ∷ neg 10 ∷ pos 10 ∷ pos 10 ∷ neg 10 ∷ neg 10 ∷ neg 10 ∷ pos 10 ∷
      pos 10 ∷ neg 10 ∷ pos 10 ∷ neg 10 ∷ pos 10 ∷ pos 10 ∷ pos 10 ∷ pos 10 ∷ pos 10 ∷ [];
  ends =
      0 ∷ 4 ∷ 0 ∷ 5 ∷ 0 ∷ 6 ∷ 0 ∷ 12 ∷ 1 ∷ 3 ∷ 1 ∷ 4 ∷ 1 ∷ 5 ∷ 1 ∷ 9 ∷ 2 ∷ 3 ∷ 2 ∷ 4 ∷ 2 ∷ 6 ∷ 2 ∷ 10 ∷ 3 ∷ 7 ∷ 3 ∷ 11 ∷ 4 ∷
      8 ∷ 5 ∷ 7 ∷ 5 ∷ 13 ∷ 6 ∷ 7 ∷ 6 ∷ 14 ∷ 7 ∷ 15 ∷ 8 ∷ 9 ∷ 8 ∷ 10 ∷ 8 ∷ 12 ∷ 9 ∷ 11 ∷ 9 ∷ 13 ∷ 10 ∷ 11 ∷ 10 ∷ 14 ∷ 11 ∷
      15 ∷ 12 ∷ 13 ∷ 12 ∷ 14 ∷ 13 ∷ 15 ∷ 14 ∷ 15 ∷ [];
}

abbrev pub nought_for_four : ℕ → ℕ
nought_for_four v = get_or (4 ∷ 1 ∷ 2 ∷ 3 ∷ 0 ∷ 5 ∷ 6 ∷ 7 ∷ 8 ∷ 9 ∷ 10 ∷ 11 ∷ 12 ∷ 13 ∷ 14 ∷ 15 ∷ []) v 0

cornered_given : Given nought_for_four (of nested) (of cornered)
unfolding reply same
cornered_given = record {
  numbers = numbers nought_for_four (drawing (of nested)) (drawing (of cornered)) refl refl;
  good = refl;
  good_too = refl;
}

pub nested_kept : SolidsKept nought_for_four (of nested) (of cornered)
nested_kept = renumbering nought_for_four (of nested) (of cornered) cornered_given

abbrev cornered_words : List ℕ
cornered_words = three 8076211 2763042 13495661 8997956 11982558 10523218

nested_few : length (candidates_of (of nested)) ≤ word_bits * set_words
unfolding reply
nested_few = omega arith

cornered_few : length (candidates_of (of cornered)) ≤ word_bits * set_words
unfolding reply
cornered_few = omega arith

pub cornered_said : said (result (of cornered)) ≡ (Conversion.Several 24 24 4 3, cornered_words)
unfolding reply
cornered_said = refl

pub nested_reports : BothReports nought_for_four (of nested) (of cornered)
nested_reports =
    both_reports nought_for_four (of nested) (of cornered) nested_kept nested_passes
    (ap (λ (s : Said). cut s.0) nested-said) (ap (λ (s : Said). cut s.0) cornered_said)

-- solids 0, 1, 2 of the one are 1, 2, 0 of the other: no other two are the same body under the new numbers
abbrev pub there : ℕ → ℕ
there i = get_or (1 ∷ 2 ∷ 0 ∷ []) i 0

abbrev differ : List Loop → List Loop → ℕ → ℕ → Bool
differ cs ds i j = other (map (map nought_for_four) (rings cs nested_words i)) (rings ds cornered_words j)

abbrev only_there : List Loop → List Loop → Bool
only_there cs ds = all (λ i. all (λ j. eqb j (there i) || differ cs ds i j) (upto 3)) (upto 3)

nested_differ : only_there (candidates_of (of nested)) (candidates_of (of cornered)) ≡ true
unfolding reply digit
nested_differ = refl

-- so in whatever way the two reports are matched
pub nested_order : (p : ReportOf (of nested)) (q : ReportOf (of cornered))
    (m : OneToOne nought_for_four (of nested) (of cornered) p.es q.es) → (i : ℕ) → i < 3 → m.to i ≡ there i
nested_order p q m i h =
    let n : length p.es ≡ 3 = p.count ∙ nested-three in
    let hi : i < length p.es = omega arith in
    let hj : m.to i < 3 = omega (arith, m.low i hi, m.as_many) in
    let cs = candidates_of (of nested) in
    let ds = candidates_of (of cornered) in
    go (or_cases (eqb (m.to i) (there i)) (differ cs ds i (m.to i))
    (each_yes (λ j. eqb j (there i) || differ cs ds i j) 3
    (each_yes (λ k. all (λ j. eqb j (there k) || differ cs ds k j) (upto 3)) 3 nested_differ i h) (m.to i) hj))
    (faces_by (of nested) nested_few nested_words i (entry_at p.es i)
    (words_of_lem (of nested) p nested_words (ap (λ (s : Said). s.1) nested-said) i hi))
    (faces_by (of cornered) cornered_few cornered_words (m.to i) (entry_at q.es (m.to i))
    (words_of_lem (of cornered) q cornered_words (ap (λ (s : Said). s.1) cornered_said) (m.to i) (m.low i hi)))
    (m.same i hi).body
  where
    go : (eqb (m.to i) (there i) ≡ true) ⊎ (differ (candidates_of (of nested)) (candidates_of (of cornered)) i (m.to i) ≡ true)
        → entry_faces (of nested) (entry_at p.es i) ≡ rings (candidates_of (of nested)) nested_words i
        → entry_faces (of cornered) (entry_at q.es (m.to i)) ≡ rings (candidates_of (of cornered)) cornered_words (m.to i)
        → SameBody (map (map nought_for_four) (entry_faces (of nested) (entry_at p.es i))) (entry_faces (of cornered) (entry_at q.es (m.to i)))
        → m.to i ≡ there i
    go (inl e) f g b = eqb-true (m.to i) (there i) e
    go (inr d) f g b =
        absurd (other_body _ _ d (subst (SameBody (map (map nought_for_four) (rings (candidates_of (of nested)) nested_words i))) g
        (subst (λ (fs : List Loop). SameBody (map (map nought_for_four) fs) (entry_faces (of cornered) (entry_at q.es (m.to i)))) f b)))

pub nested_there : (nested_reports.2.to 0 ≡ 1) × (nested_reports.2.to 1 ≡ 2) × (nested_reports.2.to 2 ≡ 0)
nested_there =
    let r = nested_reports in
    let at = nested_order r.0 r.1 r.2 in
    (at 0 (omega arith), at 1 (omega arith), at 2 (omega arith))
