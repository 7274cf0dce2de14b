-- The loop that writes a solid's faces: what is written and what is left, one candidate more, and how it ends.
use mathlib.Core.Path.{◌≡◌, refl, sym, ap, ap₂, ◌∙◌}
use mathlib.Core.Bool.{Bool, true, false}
use mathlib.Core.List.{List, [], ◌∷◌, ◌++◌, flat_map, append-nil}
use Prim.Native.Nat.{ℕ, ◌+◌, ◌≤◌, ◌<◌}
use native.Mathlib.Omega.{arith}
use lib.ListN.{length}
use Rattle.pack.specs.Bits.{bits, run, overwrite, Put}
use Rattle.pack.proofs.Laws.{length_bits, length_run}
use Rattle.pack.proofs.Overwrite.{overwrite-none, overwrite-next}
use Rattle.lists.specs.Lists.{all, keep}
use Rattle.lists.proofs.Truth.{and_left, and_right, and_both}
use Rattle.sets.specs.Word.{dig}
use Rattle.paper.specs.Numbers.{most_candidates}
use Rattle.paper.specs.Format.{corner_bits}
use Rattle.paper.specs.Record.{turned_in}
use Rattle.paper.specs.Loops.{Loop}
use Rattle.paper.specs.FaceList.{face_bits, span, solid_faces}
use Rattle.paper.specs.declared.Format.{Format}
use Rattle.faces_laws.proofs.Packed.{length_bits_of}
use Rattle.faces_writer.specs.Send.{way, marked, row_alone, face_of, face_alone, fits, faces_bits, list_head}
use Rattle.faces_writer.specs.Asked.{SendsFrom, SendsOne}
use Rattle.faces_writer.proofs.Fits.{way_length, way-fits}
use Rattle.faces_writer.proofs.Weight.{face_span, faces_left, faces-start, faces-next, faces-end, solid_small}

-- ---- one candidate: taken, and left out

module _ (rows ws : List ℕ) (k : ℕ) where
  pub alone_taken : marked ws k ≡ true → face_alone rows ws k ≡ row_alone rows k (dig (turned_in ws) k)
  unfolding face_alone keep
  alone_taken e = rw e refl

  pub alone-left : marked ws k ≡ false → face_alone rows ws k ≡ []
  unfolding face_alone keep
  alone-left e = rw e refl

module _ (f : Format) where
  -- no faces have no bits
  pub none-span : (b : ℕ) {fs : List Loop} → fs ≡ [] → b ≡ b + span f fs
  unfolding span
  none-span b e = rw e (omega arith)

  pub none_put : (d : List ℕ) (b : ℕ) {fs : List Loop} → fs ≡ [] → d ≡ overwrite d b (faces_bits f fs)
  unfolding flat_map
  none_put d b e = rw e (overwrite-none d b)

  -- one face: it fits as its loop does, and has as many bits
  pub one-fits : (b : Bool) (l : Loop) → all (fits f) (way b l ∷ []) ≡ true → fits f l ≡ true
  unfolding all
  one-fits b l e = sym (way-fits f f.most_vertices b l) ∙ and_left (fits f (way b l)) true e

  pub one_span : (b : Bool) (l : Loop) → span f (way b l ∷ []) ≡ face_span f (length l)
  unfolding span
  one_span b l = rw (way_length b l) (omega arith)

  -- the count and the corners of one face, l
  pub face_put : (l m : Loop) (c : ℕ) (d : List ℕ) (b : ℕ) {r s : List ℕ} → l ≡ m → length l ≡ c → b ≤ length d
      → r ≡ overwrite d b (bits corner_bits c) → s ≡ overwrite r (b + corner_bits) (run f.vertex_number_bits m)
      → s ≡ overwrite d b (faces_bits f (l ∷ []))
  unfolding face_bits flat_map
  face_put l m c d b {r} {s} w n h p q =
      let number = f.vertex_number_bits in
      let e : b + corner_bits ≡ b + length (bits corner_bits c) = omega (arith, length_bits corner_bits c) in
      overwrite-next d b (bits corner_bits c) (b + corner_bits) (run number m) r s h e p q
      ∙ ap₂ (λ (x : ℕ) (t : Loop). overwrite d b (bits corner_bits x ++ run number t)) (sym n) (sym w)
      ∙ ap (overwrite d b) (sym (append-nil (bits corner_bits (length l) ++ run number l)))

  -- ---- one candidate and the faces behind it

  keep-bits : (b : Bool) (l : Loop) (fs : List Loop) → faces_bits f (keep b l fs) ≡ faces_bits f (keep b l []) ++ faces_bits f fs
  unfolding keep flat_map
  keep-bits true l fs = ap (λ (t : List ℕ). t ++ faces_bits f fs) (sym (append-nil (face_bits f l)))
  keep-bits false l fs = refl

  keep-span : (b : Bool) (l : Loop) (fs : List Loop) → span f (keep b l fs) ≡ span f (keep b l []) + span f fs
  unfolding keep span
  keep-span true l fs = omega arith
  keep-span false l fs = omega arith

  keep_fit : (b : Bool) (l : Loop) (fs : List Loop) → all (fits f) (keep b l fs) ≡ true
      → (all (fits f) (keep b l []) ≡ true) × (all (fits f) fs ≡ true)
  unfolding keep all
  keep_fit true l fs e = (and_both (and_left (fits f l) (all (fits f) fs) e) refl, and_right (fits f l) (all (fits f) fs) e)
  keep_fit false l fs e = (refl, e)

  module _ (rows ws : List ℕ) where
    -- all faces, and those from candidate k on
    abbrev faces : List Loop
    faces = solid_faces rows ws

    abbrev left : ℕ → List Loop
    left k = faces_left f rows ws k

    abbrev alone : ℕ → List Loop
    alone k = face_alone rows ws k

    -- candidate k is next, at bit b of a room that holds last by now: with the faces left it will hold all
    pub record Sending (room : List ℕ) (k b : ℕ) (last : List ℕ) : Type 0 where
      pub reached : k ≤ most_candidates
      pub kept : length last ≡ length room
      pub fit : all (fits f) (left k) ≡ true
      pub place : b + span f (left k) ≡ list_head f + span f faces
      pub whole : overwrite (run 8 last) b (faces_bits f (left k)) ≡ overwrite (run 8 room) (list_head f) (faces_bits f faces)

    module _ (room : List ℕ) (g : SendsFrom f faces room (list_head f)) where
      pub send_start : Sending room 0 (list_head f) room
      send_start =
          let e : left 0 ≡ faces = sym (faces-start f rows ws) in
          record {
            reached = omega arith;
            kept = refl;
            fit = ap (all (fits f)) e ∙ g.fit;
            place = ap (λ (fs : List Loop). list_head f + span f fs) e;
            whole = ap (λ (fs : List Loop). overwrite (run 8 room) (list_head f) (faces_bits f fs)) e;
          }

      module _ (k b : ℕ) (last : List ℕ) (h : k < most_candidates) (s : Sending room k b last) where
        more : left k ≡ keep (marked ws k) (face_of rows ws k) (left (k + 1))
        more = faces-next f rows ws k h

        fitting : (all (fits f) (alone k) ≡ true) × (all (fits f) (left (k + 1)) ≡ true)
        unfolding face_alone
        fitting = keep_fit (marked ws k) (face_of rows ws k) (left (k + 1)) (sym (ap (all (fits f)) more) ∙ s.fit)

        spans : span f (left k) ≡ span f (alone k) + span f (left (k + 1))
        unfolding face_alone
        spans = ap (span f) more ∙ keep-span (marked ws k) (face_of rows ws k) (left (k + 1))

        -- what writes candidate k may be called
        pub send_one : SendsOne f k (alone k) last b
        send_one =
            let small = solid_small f rows ws g.brief g.fit in
            record {
              known = h;
              faces = record {
                brief = g.brief;
                fit = fitting.0;
                roomy = omega (arith, s.place, spans, g.roomy, s.kept);
                near = omega (arith, s.place, small, g.brief.slender.face_count_narrow);
              };
            }

        pub send_next : {c : ℕ} (next : List ℕ) → length next ≡ length last → c ≡ b + span f (alone k)
            → Put last next b (faces_bits f (alone k)) → Sending room (k + 1) c next
        unfolding face_alone
        send_next {c} next l e q =
            let x = faces_bits f (keep (marked ws k) (face_of rows ws k) []) in
            let y = faces_bits f (left (k + 1)) in
            let m : b ≤ length (run 8 last) = rw length_run (omega (arith, send_one.faces.roomy)) in
            let n : c ≡ b + length x =
            e ∙ ap (λ (j : ℕ). b + j) (sym (length_bits_of f (keep (marked ws k) (face_of rows ws k) []))) in
            let w : faces_bits f (left k) ≡ x ++ y =
            ap (faces_bits f) more ∙ keep-bits (marked ws k) (face_of rows ws k) (left (k + 1)) in
            record {
              reached = omega arith;
              kept = l ∙ s.kept;
              fit = fitting.1;
              place = omega (arith, s.place, spans, e);
              whole = overwrite-next (run 8 last) b x c y (run 8 next) (overwrite (run 8 next) c y) m n q refl
                  ∙ ap (overwrite (run 8 last) b) (sym w)
                  ∙ s.whole;
            }

    pub send_end : (room : List ℕ) (k b : ℕ) (last : List ℕ) → most_candidates ≤ k → Sending room k b last
        → Put room last (list_head f) (faces_bits f faces)
    unfolding flat_map
    send_end room k b last h s =
        overwrite-none (run 8 last) b
        ∙ ap (λ (fs : List Loop). overwrite (run 8 last) b (faces_bits f fs)) (sym (faces-end f rows ws k h))
        ∙ s.whole
