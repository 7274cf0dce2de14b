-- A candidate's row in a report as a face, test by test.
use mathlib.Core.Path.{◌≡◌, refl, sym, ap, ◌∙◌}
use mathlib.Core.Bool.{Bool, true, false, ◌&&◌, not, cond}
use mathlib.Core.Option.{none, some}
use mathlib.Core.List.{List, []}
use Prim.Native.Nat.{ℕ, ◌+◌, ◌-◌, ◌*◌, ◌≤◌, ◌<◌}
use native.Mathlib.Omega.{arith}
use borrow.Author.Tests.{le-leb, lt-leb, leb-true}
use lib.Dec.{leb, ltb}
use lib.ListN.{length, get_or, drop, length-drop}
use lib.Seq.{length-take-le, get_or-take, get_or-drop}
use Rattle.lists.specs.Lists.{all}
use Rattle.paper.specs.Numbers.{least_corners, most_corners, row_bytes}
use Rattle.paper.specs.Format.{outside}
use Rattle.paper.specs.Loops.{Loop}
use Rattle.paper.specs.FaceList.{face_fits, row_at}
use Rattle.paper.specs.declared.Format.{Format}
use Rattle.faces_writer.specs.Send.{corners_at, way, fits, corners_of}
use Rattle.paper_laws.proofs.Limits.{outside_false}
use Rattle.faces_laws.proofs.Shape.{face_yes}
use Rattle.faces_writer.proofs.Fits.{way-first, way_back}

-- ---- the c numbers from place i on, in order and against it

module _ (rows : List ℕ) (i c : ℕ) (h : i + c ≤ length rows) where
  abbrev cs : List ℕ
  cs = corners_at rows i c

  pub length_corners : length cs ≡ c
  length_corners = length-take-le c (drop i rows) (omega (arith, length-drop i rows))

  pub corner-at : (j : ℕ) → j < c → get_or cs j 0 ≡ get_or rows (i + j) 0
  corner-at j k = get_or-take c (drop i rows) j 0 k ∙ get_or-drop i rows j 0

  pub corner-same : (j : ℕ) → j < c → get_or rows (i + j) 0 ≡ get_or (way false cs) j 0
  corner-same j k = sym (corner-at j k)

  pub corner-first : (j : ℕ) → j ≤ 0 → j < c → get_or rows i 0 ≡ get_or (way true cs) j 0
  corner-first j z k =
      let e : j ≡ 0 = omega arith in
      let d : i + 0 ≡ i = omega arith in
      rw e (sym (way-first true cs ∙ corner-at 0 (omega arith) ∙ ap (λ (n : ℕ). get_or rows n 0) d))

  pub corner_back : (j : ℕ) → 0 < j → j < c → get_or rows (i + (c - j)) 0 ≡ get_or (way true cs) j 0
  corner_back j p k =
      let n : j < length cs = omega (arith, length_corners) in
      sym (way_back cs j p n ∙ ap (λ (m : ℕ). get_or cs (m - j) 0) length_corners ∙ corner-at (c - j) (omega arith))

-- ---- the row of candidate k: its corner count, and the corners behind it

abbrev pub count_at : List ℕ → ℕ → ℕ
count_at rows k = get_or rows (row_bytes * k) 0

abbrev pub loop_at : List ℕ → ℕ → List ℕ
loop_at rows k = corners_at rows (row_bytes * k + 1) (count_at rows k)

module _ (f : Format) (rows : List ℕ) (k : ℕ) where
  -- the corners are vertices
  abbrev low : Bool
  low = all (λ c. ltb c f.most_vertices) (loop_at rows k)

  -- the count is none of a face
  abbrev miscounted : Bool
  miscounted = outside least_corners most_corners (count_at rows k)

  whole_is : row_bytes * k + row_bytes ≤ length rows → count_at rows k ≤ most_corners → row_at rows k ≡ loop_at rows k
  unfolding row_at
  whole_is h m = rw (le-leb (row_bytes * k + row_bytes) (length rows) h, le-leb (count_at rows k) most_corners m) refl

  no_corners : none ≡ corners_of f []
  unfolding corners_of face_fits
  no_corners = refl

  -- too short, or too many corners: none at all
  pub row_short : length rows < row_bytes * k + row_bytes → none ≡ corners_of f (row_at rows k)
  unfolding row_at
  row_short h = rw (lt-leb (row_bytes * k + row_bytes) (length rows) h) no_corners

  module _ (h : row_bytes * k + row_bytes ≤ length rows) where
    fit : count_at rows k ≤ most_corners → cond (not miscounted && low) (some (count_at rows k)) none ≡ corners_of f (row_at rows k)
    unfolding corners_of face_fits
    fit m = rw (whole_is h m, length_corners rows (row_bytes * k + 1) (count_at rows k) (omega arith)) refl

    pub row_count : miscounted ≡ true → none ≡ corners_of f (row_at rows k)
    unfolding row_at
    row_count o = go (leb (count_at rows k) most_corners) refl
      where
        go : (b : Bool) → leb (count_at rows k) most_corners ≡ b → none ≡ corners_of f (row_at rows k)
        go true e = rw o at (fit (leb-true (count_at rows k) most_corners e))
        go false e = rw (le-leb (row_bytes * k + row_bytes) (length rows) h, e) no_corners

    module _ (o : miscounted ≡ false) where
      most : count_at rows k ≤ most_corners
      most = (outside_false least_corners most_corners (count_at rows k) o).1

      pub row_high : low ≡ false → none ≡ corners_of f (row_at rows k)
      row_high e = rw (o, e) at (fit most)

      pub row-face : low ≡ true → some (count_at rows k) ≡ corners_of f (row_at rows k)
      row-face e = rw (o, e) at (fit most)

  -- what is known of a row that fits
  pub record Whole : Type 0 where
    pub inside : row_bytes * k + row_bytes ≤ length rows
    pub most : count_at rows k ≤ most_corners
    pub loop_is : row_at rows k ≡ loop_at rows k
    pub length_is : length (row_at rows k) ≡ count_at rows k

  pub row-whole : fits f (row_at rows k) ≡ true → Whole
  unfolding row_at
  row-whole e = go (leb (row_bytes * k + row_bytes) (length rows)) (leb (count_at rows k) most_corners) refl refl
    where
      empty : fits f [] ≡ true → ⊥
      empty q = let m : least_corners ≤ 0 = (face_yes f f.most_vertices [] q).0 in omega arith

      go : (a b : Bool) → leb (row_bytes * k + row_bytes) (length rows) ≡ a → leb (count_at rows k) most_corners ≡ b → Whole
      go true true s t =
          let h : row_bytes * k + row_bytes ≤ length rows = leb-true _ _ s in
          let m : count_at rows k ≤ most_corners = leb-true _ _ t in
          let w : row_at rows k ≡ loop_at rows k = whole_is h m in
          record {
            inside = h;
            most = m;
            loop_is = w;
            length_is = ap length w ∙ length_corners rows (row_bytes * k + 1) (count_at rows k) (omega arith);
          }
      go true false s t = absurd (empty (rw (s, t) at e))
      go false b s t = absurd (empty (rw s at e))

-- at most 12 corners are found
pub corners_most : (f : Format) (l : Loop) {c : ℕ} → some c ≡ corners_of f l → c ≤ most_corners
unfolding corners_of
corners_most f l {c} e = go (fits f l) refl e
  where
    go : (b : Bool) → fits f l ≡ b → some c ≡ cond b (some (length l)) none → c ≤ most_corners
    go true t q = let d : c ≡ length l = cc in omega (arith, (face_yes f f.most_vertices l t).1)
    go false t q = let z : ◌≡◌ {A = ℕ} 0 1 = cc in absurd (omega arith)
