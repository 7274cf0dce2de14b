-- Demand 3 holds: the report's solids are what the check accepts.
use mathlib.Core.Path.{◌≡◌, refl, sym, ap, ap₂, subst, ◌∙◌}
use mathlib.Core.Bool.{Bool}
use mathlib.Core.Logic.{inl, inr}
use mathlib.Core.List.{List, [], ◌∷◌}
use Prim.Native.Nat.{ℕ, ◌*◌, ◌<◌}
use native.Mathlib.Omega.{arith}
use lib.ListN.{length, drop}
use Rattle.paper.specs.FaceList.{encode_faces, solid_faces, well_shaped}
use Rattle.paper.specs.Loops.{Loop, loop_at, loops, candidates}
use Rattle.paper.specs.Conversion.{Converted, faces_after}
use Rattle.paper.specs.Verdict.{verdict, list_edition}
use Rattle.paper.specs.declared.Refusal.{Refusal}
use Rattle.std.specs.Prelude.{Ok, Err}
use Rattle.paper.specs.Refusals.{ListAccepted, Verdict}
use Rattle.means_solid.specs.Solid.{IsSolid}
use Rattle.means_solid.specs.Named.{Names}
use Rattle.means_walk.specs.Tree.{assumptions}
use Rattle.means_report.specs.Listed.{Entry, entry_at, EverySolidOnce, walked}
use Rattle.means_report.specs.Report.{faces_for, solids_for, Reported, solid_count}
use Rattle.means_report.proofs.Listed.{walked-lists}
use Rattle.means_report.proofs.Counted.{counted}
use Rattle.means_report.proofs.Report.{Tells, Sound}
use Rattle.means_report.proofs.Converted.{the_walk, conversion_unrefused}
use Rattle.means_sheets.specs.FaceLists.{Sendable}
use Rattle.means_check.specs.Candidates.{ProperCandidates}
use Rattle.means_check.specs.Accepts.{NamesSolid}
use Rattle.means_check.specs.Sent.{face_list}
use Rattle.means_check.specs.Bodies.{AmongEither, SameBody}
use Rattle.means_solid.proofs.Alike.{names_to, row_same}
use Rattle.means_loops.proofs.Rings.{same_refl}
use Rattle.means_check.proofs.Bodies.{face_list_names, same_named, names_again, named_singly}
use Rattle.means_check.proofs.Demand.{drawing_places, drawing-fits, accepts_exactly, each_accepted, one_named, not_turned, not_missing}
use Rattle.means_check.proofs.Demand.{not_doubled}
use Rattle.means_check.proofs.Parts.{some_face}
use Rattle.means_sheets.proofs.FaceLists.{sent-read_back}
use Rattle.demands.specs.Shells.{sent_faces, GoodList}
use Rattle.demands.specs.Input.{Input, drawing, form, Passes, converted, checked}
use Rattle.demands.specs.Demand3.{NamesIt, Report, Demand3, Holds3}
use Rattle.demands.specs.Spoiled.{Spoiled, face_turned, all_turned, face-missing, face_doubled}
use Rattle.demands.proofs.Input.{converted_is, checked_is, form-fine, drawing-fine, loops-fine, small}
use Rattle.demands.proofs.Shape.{is_shape}
use Rattle.demands.proofs.Solid.{every-words, names_words, words_names}
use Rattle.demands.proofs.Sendable.{names_sent, sent_taken}
use Rattle.demands.proofs.Rooms.{faces-reported, words-at}
use Rattle.paper_laws.proofs.Tests.{Is}
use Rattle.paper_laws.proofs.Editions.{one_for}

module _ (x : Input) (p : Passes x) where
  fits : ProperCandidates (drawing x) (candidates (drawing x))
  fits = drawing-fits (drawing x) (drawing-fine x p)

  -- faces that name a solid can be sent
  sendable : (taken turned : List Bool) (six : ℕ) → IsSolid (drawing x) (candidates (drawing x)) taken turned six → (fs : List Loop)
      → Names (drawing x) (candidates (drawing x)) taken turned fs → Sendable (list_edition (drawing x)) (length (drawing x).vertices) fs
  sendable taken turned six s fs n =
      let few = small x (form-fine x p) in
      names_sent (drawing x) fits (drawing_places (drawing x) (drawing-fine x p)) few.0 few.1 taken turned s fs n

  -- they are accepted, packed
  packed : (taken turned : List Bool) (six : ℕ) → IsSolid (drawing x) (candidates (drawing x)) taken turned six → (fs : List Loop)
      → Names (drawing x) (candidates (drawing x)) taken turned fs → checked x (encode_faces (list_edition (drawing x)) fs) ≡ ListAccepted
  packed taken turned six s fs n =
      let d = drawing x in
      let few = small x (form-fine x p) in
      let b = sent-read_back (length d.vertices) (length d.edges) few.0 few.1 fs (sendable taken turned six s fs n) in
      checked_is x (encode_faces (list_edition (drawing x)) fs)
      ∙ each_accepted (form x) (drawing x) (form-fine x p) (drawing-fine x p) (loops-fine x p) taken turned six s
      (encode_faces (list_edition (drawing x)) fs) b.shape
      (subst (λ (gs : List Loop). Names (drawing x) (candidates (drawing x)) taken turned gs) (sym b.faces) n)

  named : (list : List ℕ) → checked x list ≡ ListAccepted → NamesSolid (drawing x) (candidates (drawing x)) (sent_faces (drawing x) list)
  named list a = ((accepts_exactly (form x) (drawing x) list).0 (sym (checked_is x list) ∙ a)).named

  -- what is accepted is one of all solids
  module _ (es : List Entry) (all : EverySolidOnce (drawing x) (candidates (drawing x)) es) where
    among : (list : List ℕ) → checked x list ≡ ListAccepted → (i : ℕ) × (i < length es) × NamesIt x (entry_at es i) (sent_faces (drawing x) list)
    among list a =
        let w = named list a in
        let r = all.there w.solid in (
          r.0,
          r.1,
          names_to (drawing x) (candidates (drawing x)) (entry_at es r.0).taken w.turned (entry_at es r.0).turned
              (λ k. sym (r.3 k))
              (subst (λ (t : List Bool). Names (drawing x) (candidates (drawing x)) t w.turned (sent_faces (drawing x) list)) (sym r.2)
              w.names),
        )

    alone : length es ≡ 1 → (a b : List ℕ) → checked x a ≡ ListAccepted → checked x b ≡ ListAccepted
        → SameBody (sent_faces (drawing x) a) (sent_faces (drawing x) b)
    alone e a b p q =
        let r = among a p in
        let s = among b q in
        let z : s.0 ≡ r.0 = omega (arith, r.1, s.1) in
        same_named (drawing x) (candidates (drawing x)) fits (entry_at es r.0).taken (entry_at es r.0).turned (sent_faces (drawing x) a)
        (sent_faces (drawing x) b) r.2
        (subst (λ (i : ℕ). NamesIt x (entry_at es i) (sent_faces (drawing x) b)) z s.2)

    -- no two of them have lists that are the same body
    differ : (i j : ℕ) → i < length es → j < length es → (fs gs : List Loop) → NamesIt x (entry_at es i) fs → NamesIt x (entry_at es j) gs
        → SameBody fs gs → i ≡ j
    differ i j hi hj fs gs n m b =
        let si = all.each i hi in
        let sj = all.each j hj in
        let k = names_again (drawing x) (candidates (drawing x)) fits (entry_at es i).taken (entry_at es i).turned fs gs n b
        (named_singly (drawing x) (candidates (drawing x)) fits (entry_at es j).taken (entry_at es j).turned gs m) in
        let one = one_named (form x) (drawing x) (drawing-fine x p) gs
        (record { taken = (entry_at es i).taken; turned = (entry_at es i).turned; six = (entry_at es i).six; solid = si; names = k })
        (record { taken = (entry_at es j).taken; turned = (entry_at es j).turned; six = (entry_at es j).six; solid = sj; names = m }) in
        all.once i j hi hj (row_same (entry_at es i).taken (entry_at es j).taken (si.some ∙ sym sj.some) one.0)

  -- ---- what comes of an accepted list by turning, leaving out or doubling faces
  module _ (a b : List ℕ) (ok : checked x a ≡ ListAccepted) (too : checked x b ≡ ListAccepted) where
    abbrev fs : List Loop
    fs = sent_faces (drawing x) a

    abbrev gs : List Loop
    gs = sent_faces (drawing x) b

    ok_is : verdict (form x) (drawing x) a ≡ ListAccepted
    ok_is = sym (checked_is x a) ∙ ok

    too_is : verdict (form x) (drawing x) b ≡ ListAccepted
    too_is = sym (checked_is x b) ∙ too

    -- an accepted list has a face
    a_face : 0 < length gs
    a_face =
        let w = named b too in
        let f = some_face (drawing x) (candidates (drawing x)) w.taken w.turned w.solid in
        let r = w.names.there f.0 f.1 in
        omega (arith, r.1)

    itself : AmongEither gs gs
    itself i h = (i, h, inl (same_refl (loop_at gs i)))

    spoiled : Spoiled fs gs → ⊥
    spoiled (face_turned m i j hi hj s) = not_turned (form x) (drawing x) a ok_is b too_is m i j hi hj s
    spoiled (all_turned f) =
        not_turned (form x) (drawing x) a ok_is b too_is (λ i h. let r = f i h in (r.0, r.1, inr r.2)) 0 (f 0 a_face).0 a_face
        (f 0 a_face).1 (f 0 a_face).2
    spoiled (face-missing m j hj n) = not_missing (form x) (drawing x) a ok_is b too_is m j hj n
    spoiled (face_doubled i j hi hj n (inl s)) = not_doubled (form x) (drawing x) b too_is i j hi hj n s
    spoiled (face_doubled i j hi hj n (inr s)) = not_turned (form x) (drawing x) b too_is b too_is itself j i hj hi s

  refused : (a b : List ℕ) → checked x a ≡ ListAccepted → Spoiled (sent_faces (drawing x) a) (sent_faces (drawing x) b)
      → (r : Refusal) × (checked x b ≡ Err r)
  refused a b ok s = go (checked x b) refl
    where
      go : (v : Verdict) → checked x b ≡ v → (r : Refusal) × (checked x b ≡ Err r)
      go (Ok _) e = absurd (spoiled a b ok e s)
      go (Err r) e = (r, e)

  report : (limit : ℕ) (room solids : List ℕ) (r : Converted) → Sound (drawing x) (the_walk (drawing x)) limit room solids r
      → 0 < solid_count r.answer → Report x solids r
  unfolding solids_for
  report limit room solids r sound h = go sound.tells
    where
      es : List Entry
      es = walked (drawing x) (candidates (drawing x)) (the_walk (drawing x))

      all : EverySolidOnce (drawing x) (candidates (drawing x)) es
      all = walked-lists (drawing x) (candidates (drawing x)) sound.fair (the_walk (drawing x))

      -- the faces that the report's rows and words give
      written : (es : List Entry) → 0 < length es → faces_for (candidates (drawing x)) room es ≡ faces_after (candidates (drawing x)) room
      written [] l = absurd (omega arith)
      written (e ∷ es) l = refl

      own : Reported (drawing x) (the_walk (drawing x)) limit room solids r → (i : ℕ) → i < length es
          → solid_faces r.faces (drop (3 * i) r.solids) ≡ face_list (drawing x)
          (candidates (drawing x)) (entry_at es i).taken (entry_at es i).turned
      own t i l =
          let w = words-at es (drop (3 * length es) solids) i l in
          let e = entry_at es i in
          let f : r.faces ≡ faces_after (candidates (drawing x)) room = t.faces_left ∙ written es (omega arith) in
          ap₂ solid_faces f (ap (drop (3 * i)) t.solids_left ∙ w.1)
          ∙ faces-reported (drawing x) (loops-fine x p) room w.0 e.taken e.turned (all.each i l).some e.six

      go : Tells (drawing x) (the_walk (drawing x)) limit room solids r → Report x solids r
      go (inl t) = record {
        es = es;
        n =
            sym
            (ap solid_count t.answer
            ∙ counted (length (loops (drawing x))) (length (candidates (drawing x))) (assumptions (the_walk (drawing x))) es);
        all = every-words (drawing x) es all;
        words = t.solids_left;
        each = λ i l fs n. packed (entry_at es i).taken (entry_at es i).turned (entry_at es i).six (all.each i l) fs n;
        some =
            λ i l. subst (NamesIt x (entry_at es i)) (sym (own t i l))
            (face_list_names (drawing x) (candidates (drawing x)) fits (entry_at es i).taken (entry_at es i).turned (all.each i l));
        sent =
            λ i l fs n. sent_taken (one_for (length (drawing x).vertices) (length (drawing x).edges)) (small x (form-fine x p)).0 fs
            (sendable (entry_at es i).taken (entry_at es i).turned (entry_at es i).six (all.each i l) fs n);
        other = among es all;
        differ = differ es all;
        same = alone es all;
      }
      go (inr (inl t)) = absurd (omega (arith, ap solid_count t.answer))
      go (inr (inr t)) = absurd (omega (arith, ap solid_count t.answer))

  -- 20 is asked just where the list is no good one
  shaped : (list : List ℕ) → Is (well_shaped (list_edition (drawing x)) (length (drawing x).vertices) list) (GoodList (drawing x) list)
  shaped = is_shape (one_for (length (drawing x).vertices) (length (drawing x).edges)) (length (drawing x).vertices)

  holds : Demand3 x
  holds = record {
    exactly = λ list. (
      λ a. let w = (accepts_exactly (form x) (drawing x) list).0 (sym (checked_is x list) ∙ a) in
          ((shaped list).0 w.shape, names_words (drawing x) w.named),
      λ w. checked_is x list
          ∙ (accepts_exactly (form x) (drawing x) list).1
          (record {
            form_passes = form-fine x p;
            drawing_passes = drawing-fine x p;
            few = loops-fine x p;
            shape = (shaped list).1 w.0;
            named = words_names (drawing x) w.1;
          }),
    );
    one_solid = λ fs a b. one_named (form x) (drawing x) (drawing-fine x p) fs (words_names (drawing x) a) (words_names (drawing x) b);
    refused = refused;
    reports = λ limit room solids h. report limit room solids (converted x limit room solids) (sound limit room solids h) h;
  }
    where
      sound : (limit : ℕ) (room solids : List ℕ) → 0 < solid_count (converted x limit room solids).answer
          → Sound (drawing x) (the_walk (drawing x)) limit room solids (converted x limit room solids)
      sound limit room solids h =
          subst (Sound (drawing x) (the_walk (drawing x)) limit room solids) (sym (converted_is x limit room solids))
          (conversion_unrefused (drawing x) (the_walk (drawing x)) (form x) limit room solids
          (λ r e. omega (arith, h, ap (λ (c : Converted). solid_count c.answer) (converted_is x limit room solids), ap solid_count e)))

pub demand3 : Holds3
demand3 x p = holds x p
