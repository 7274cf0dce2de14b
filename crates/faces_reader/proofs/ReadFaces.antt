-- The loop that reads a face list: what it has read so far, one face more, and how it ends.
use mathlib.Core.Path.{◌≡◌, refl, sym, ap, ap₂, subst, ◌∙◌}
use mathlib.Core.Bool.{Bool, true, false, ◌&&◌, not}
use mathlib.Core.Option.{none, some}
use mathlib.Core.List.{List, [], ◌∷◌, ◌++◌, flat_map}
use Prim.Native.Nat.{ℕ, ◌+◌, ◌*◌, ◌/◌, ◌≤◌, ◌<◌}
use native.Mathlib.Numerals.{add-one}
use native.Mathlib.Omega.{arith}
use borrow.Author.Tests.{ne_eqb, leb-true, leb-false, not-true}
use lib.Dec.{leb, eqb}
use lib.ListN.{length, get_or, take, replicate, length-append, length-replicate}
use lib.Seq.{paste, take-suc}
use Rattle.pack.specs.Bits.{field_at}
use Rattle.pack.specs.Fill.{padded}
use Rattle.pack.proofs.Laws.{length_fields}
use Rattle.pack.proofs.Fill.{padded-none, padded_paste}
use Rattle.lists.specs.Lists.{all}
use Rattle.lists.proofs.Truth.{and_left, and_right}
use Rattle.lists.proofs.Passing.{all_snoc, all-fails}
use Rattle.paper_laws.proofs.Rows.{row_length}
use Rattle.paper_laws.proofs.Limits.{outside_false}
use Rattle.paper.specs.Numbers.{least_faces, most_faces, most_corners, row_bytes}
use Rattle.paper.specs.Format.{edition_bits, corner_bits, outside, bytes_for, fill_after}
use Rattle.paper.specs.Loops.{Loop, row}
use Rattle.paper.specs.FaceList.{no_faces, count_in, faces_in, span, bits_of, face_fits, well_shaped, faces_of}
use Rattle.paper.specs.declared.Format.{Format}
use Rattle.paper.specs.Refusals.{Fine}
use Rattle.faces_reader.specs.Face.{Brief, begins, count_of, face_end, corners_in, face_at, closes_at}
use Rattle.faces_reader.specs.Filed.{all_rows}
use Rattle.faces_reader.proofs.Brief.{corners_small}
use Rattle.faces_reader.proofs.Tests.{picked, dropped, third, fourth, first_two, last_two}
use Rattle.lists.proofs.After.{each_snoc}
use Rattle.faces_laws.proofs.Shape.{face_yes}
use Rattle.faces_laws.proofs.FaceList.{start, length_in, face_is, start_more, start_most, start-all}

-- bits past the end of the bytes
long : (n k : ℕ) → n * 8 < k → n ≡ (k + 7) / 8 → ⊥
long n k h e = omega arith

-- ---- the count that was found

pub record Counted (f : Format) (s : List ℕ) (n : ℕ) : Type 0 where
  pub begun : begins f s ≡ true
  pub count_is : n ≡ count_in f s
  pub most : n ≤ f.most_faces

pub counted : (f : Format) (s : List ℕ) {n : ℕ} → some n ≡ count_of f s → Counted f s n
unfolding count_of
counted f s e =
    let q = picked (begins f s) (count_in f s) e in
    let sized = leb 2 (length s) && eqb (field_at s 0 edition_bits) f.edition in
    let wrong = outside least_faces f.most_faces (count_in f s) in
    let o = outside_false least_faces f.most_faces (count_in f s) (not-true wrong (and_right sized (not wrong) q.0)) in
    record { begun = q.0; count_is = q.1; most = rw q.1 o.1 }

module _ (f : Format) (v : ℕ) (s : List ℕ) where
  abbrev faces : List Loop
  faces = faces_in f s

  -- ---- the five tests of a list

  abbrev edition_right : Bool
  edition_right = eqb (field_at s 0 edition_bits) f.edition

  abbrev count-right : Bool
  count-right = not (outside least_faces f.most_faces (count_in f s))

  abbrev fit_all : Bool
  fit_all = all (face_fits f v) faces

  abbrev size-right : Bool
  size-right = eqb (length s) (bytes_for (bits_of f faces))

  abbrev fill_right : Bool
  fill_right = eqb (fill_after (bits_of f faces) s) 0

  refuses : well_shaped f v s ≡ false → no_faces ≡ faces_of f v s
  unfolding faces_of
  refuses e = rw e refl

  no_fit : fit_all ≡ false → well_shaped f v s ≡ false
  unfolding well_shaped
  no_fit e = third edition_right count-right size-right fill_right e

  no_size : length s * 8 < bits_of f faces → well_shaped f v s ≡ false
  unfolding well_shaped
  no_size h = fourth edition_right count-right fit_all fill_right (ne_eqb _ _ (long (length s) (bits_of f faces) h))

  -- no list of this edition
  too_short : Brief f → leb 2 (length s) ≡ false → size-right ≡ false
  unfolding bits_of
  too_short g q =
      let h : length s * 8 < edition_bits + f.face_count_bits + span f faces =
      omega (arith, leb-false 2 (length s) q, g.face_count_wide) in
      ne_eqb _ _ (long (length s) (edition_bits + f.face_count_bits + span f faces) h)

  pub no_list : Brief f → none ≡ count_of f s → no_faces ≡ faces_of f v s
  unfolding count_of well_shaped
  no_list g e =
      let missing = dropped (begins f s) (count_in f s) e in
      refuses (first_two (leb 2 (length s)) edition_right count-right fit_all fill_right (too_short g) missing)

  -- ---- what is read after k faces: the next one starts at bit p

  pub record Read (k p : ℕ) (rows : List ℕ) : Type 0 where
    pub few : k ≤ count_in f s
    pub place : p ≡ start f s k
    pub fit : all (face_fits f v) (take k faces) ≡ true
    pub rows_are : rows ≡ padded (flat_map row (take k faces)) all_rows 0
    pub rows_long : length (flat_map row (take k faces)) ≡ row_bytes * k
    pub kept : length rows ≡ all_rows
    pub small : p ≤ 12 + 100 * k

  pub read-start : Brief f → Read 0 (edition_bits + f.face_count_bits) (replicate all_rows 0)
  unfolding bits_of span all flat_map
  read-start g = record {
    few = omega arith;
    place = omega arith;
    fit = refl;
    rows_are = padded-none all_rows 0;
    rows_long = refl;
    kept = length-replicate {A = ℕ} all_rows 0;
    small = omega (arith, g.slender.face_count_narrow);
  }

  -- what the face at bit p is known to be
  pub record Face (p c : ℕ) : Type 0 where
    pub count_is : c ≡ field_at s p corner_bits
    pub inside : face_end f p c ≤ length s * 8
    pub fits_in : face_fits f v (corners_in f s p c) ≡ true
    pub corners_most : c ≤ most_corners

  pub face-known : (p : ℕ) {c : ℕ} → some c ≡ face_at f v s p → Face p c
  unfolding face_at
  face-known p {c} e =
      let c₀ = field_at s p corner_bits in
      let l = corners_in f s p c₀ in
      let a = leb (face_end f p c₀) (length s * 8) in
      let q = picked (a && face_fits f v l) c₀ e in
      let d : c ≡ field_at s p corner_bits = q.1 in
      let b : face_end f p (field_at s p corner_bits) ≤ length s * 8 = leb-true _ _ (and_left a (face_fits f v l) q.0) in
      let t : face_fits f v l ≡ true = and_right a (face_fits f v l) q.0 in
      let m : length l ≤ most_corners = (face_yes f v l t).1 in
      record {
        count_is = d;
        inside = rw d b;
        fits_in = rw d t;
        corners_most = omega (arith, d, length_fields s (p + corner_bits) f.vertex_number_bits c₀);
      }

  -- ---- one face more

  module _ (k p : ℕ) (rows : List ℕ) (h : k < count_in f s) (r : Read k p rows) where
    abbrev here : Loop
    here = get_or faces k []

    -- the face at bit p is face k of the list
    here_is : corners_in f s p (field_at s p corner_bits) ≡ here
    here_is = ap (λ (i : ℕ). corners_in f s i (field_at s i corner_bits)) r.place ∙ sym (face_is f s k h)

    here_long : length here ≡ field_at s p corner_bits
    here_long = sym (ap length here_is) ∙ length_fields s (p + corner_bits) f.vertex_number_bits (field_at s p corner_bits)

    pub read_next : Brief f → k < most_faces → {c : ℕ} → Face p c → {next : List ℕ} → length next ≡ length rows
        → next ≡ paste rows (row_bytes * k) (row (corners_in f s p c)) row_bytes → Read (k + 1) (face_end f p c) next
    read_next g few {c} x {next} size e =
        let before = take k faces in
        let q : corners_in f s p c ≡ here = ap (corners_in f s p) x.count_is ∙ here_is in
        let n : length here ≡ c = here_long ∙ sym x.count_is in
        let t : take (k + 1) faces ≡ before ++ (here ∷ []) = rw add-one (take-suc faces k [] (rw (length_in f s) h)) in
        let w : length (row here) ≡ row_bytes = row_length here (omega (arith, n, x.corners_most)) in
        let m : flat_map row (take (k + 1) faces) ≡ flat_map row before ++ row here = ap (flat_map row) t ∙ each_snoc row before here in
        let fits : face_fits f v here ≡ true = subst (λ (l : Loop). face_fits f v l ≡ true) q x.fits_in in
        record {
          few = omega arith;
          place = omega (arith, start_more f s k h, r.place, ap (λ (j : ℕ). f.vertex_number_bits * j) n);
          fit = rw t (all_snoc (face_fits f v) before here r.fit fits);
          rows_are = e
              ∙ ap₂ (λ (y z : List ℕ). paste y (row_bytes * k) (row z) row_bytes) r.rows_are q
              ∙ padded_paste (flat_map row before) (row here) all_rows (row_bytes * k) row_bytes 0 r.rows_long w (omega arith)
              ∙ ap (λ (y : List ℕ). padded y all_rows 0) (sym m);
          rows_long = ap length m ∙ length-append (flat_map row before) (row here) ∙ omega (arith, r.rows_long, w);
          kept = size ∙ r.kept;
          small = omega (arith, r.small, corners_small g.slender.vertex_number_narrow x.corners_most);
        }

    -- a face that is none: it does not fit, or lies past the end of the bytes
    pub no_face : none ≡ face_at f v s p → no_faces ≡ faces_of f v s
    unfolding face_at
    no_face e =
        let inside = leb (face_end f p (field_at s p corner_bits)) (length s * 8) in
        let fits = face_fits f v (corners_in f s p (field_at s p corner_bits)) in
        refuses (go inside refl (dropped (inside && fits) (field_at s p corner_bits) e))
      where
        behind : face_end f p (field_at s p corner_bits) ≤ bits_of f faces
        behind = omega (arith, start_most f s k h, r.place, ap (λ (j : ℕ). f.vertex_number_bits * j) here_long)

        go : (b : Bool) → leb (face_end f p (field_at s p corner_bits)) (length s * 8) ≡ b
            → (b && face_fits f v (corners_in f s p (field_at s p corner_bits))) ≡ false → well_shaped f v s ≡ false
        go true t z =
            let misfit : face_fits f v here ≡ false = subst (λ (l : Loop). face_fits f v l ≡ false) here_is z in
            no_fit (all-fails (face_fits f v) faces [] k (rw (length_in f s) h) misfit)
        go false t z = no_size (omega (arith, behind, leb-false (face_end f p (field_at s p corner_bits)) (length s * 8) t))

  -- ---- all faces are read: the end of the list decides

  module _ (n k p : ℕ) (rows : List ℕ) (o : Counted f s n) (r : Read k p rows) (h : n ≤ k) where
    all_read : take k faces ≡ faces
    all_read = start-all f s k (omega (arith, o.count_is))

    ends : well_shaped f v s ≡ closes_at s p
    unfolding well_shaped closes_at
    ends =
        let e : p ≡ bits_of f faces = r.place ∙ ap (bits_of f) all_read in
        let fit : fit_all ≡ true = sym (ap (all (face_fits f v)) all_read) ∙ r.fit in
        rw e (last_two (leb 2 (length s)) edition_right count-right size-right fill_right o.begun fit)

    pub read-ends : closes_at s p ≡ true → record { answer = Fine; count = n; rows = rows } ≡ faces_of f v s
    unfolding faces_of
    read-ends e =
        let rows_are = r.rows_are ∙ ap (λ (fs : List Loop). padded (flat_map row fs) all_rows 0) all_read in
        rw (ends ∙ e)
        (ap₂ (λ (m : ℕ) (t : List ℕ). record { answer = Fine; count = m; rows = t }) o.count_is rows_are)

    pub no_end : closes_at s p ≡ false → no_faces ≡ faces_of f v s
    no_end e = refuses (ends ∙ e)
