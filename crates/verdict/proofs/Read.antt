-- A face list that is read: 20 refuses it, or its faces stand in rows.
use mathlib.Core.Bool.{Bool, true, false, not, cond}
use mathlib.Core.List.{List, [], ◌∷◌}
use mathlib.Core.Path.{◌≡◌, refl, sym, ap, transport, ◌∙◌}
use Prim.Native.Nat.{ℕ, ◌≤◌, ◌<◌}
use native.Mathlib.Omega.{arith}
use lib.ListN.{length}
use Rattle.lists.proofs.Passing.{all_yes}
use Rattle.paper.specs.Numbers.{most_faces, least_corners, most_corners}
use Rattle.paper.specs.Refusals as No
use Rattle.paper.specs.Refusals.{Check, check, offends, first_of, Fine}
use Rattle.paper.specs.Loops.{Loop, loop_at}
use Rattle.paper.specs.FaceList.{no_faces, count_in, faces_in, face_fits, well_shaped, faces_of}
use Rattle.paper.specs.declared.Format.{Format}
use Rattle.std.specs.Prelude.{Err}
use Rattle.paper.specs.FaceList.{Faces}
use Rattle.paper.specs.declared.Refusal.{Refusal}
use Rattle.paper_laws.proofs.Checks.{holds, fails}
use Rattle.paper_laws.proofs.Rows.{Short}
use Rattle.faces_laws.proofs.Shape.{Shaped, shape_yes, face_yes}
use Rattle.faces_laws.proofs.FaceList.{length_in}
use Rattle.faces_reader.specs.Filed.{all_rows}
use Rattle.faces_reader.proofs.Filed.{held, fine_is}
use Rattle.verdict_faces.specs.Form.{FaceIn}
use Rattle.verdict_faces.specs.Named.{HoldsTable}
use Rattle.verdict_faces.proofs.Held.{face-held, padded-held}
use Rattle.paper_laws.specs.Editions.{Limited}

module _ (f : Format) (v : ℕ) (list : List ℕ) {x : Faces} (e : x ≡ faces_of f v list) where
  -- 20 refuses it
  pub shape_stops : {r : Refusal} (rest : List Check) → Err r ≡ x.answer
      → Err r ≡ first_of (check No.ShellShape (offends (not (well_shaped f v list)) 0) ∷ rest)
  unfolding faces_of
  shape_stops {r} rest a = go (well_shaped f v list) refl (a ∙ ap (λ (y : Faces). y.answer) e)
    where
      go : (b : Bool) → well_shaped f v list ≡ b → Err r ≡ (cond b (held f v list) no_faces).answer
          → Err r ≡ first_of (check No.ShellShape (offends (not (well_shaped f v list)) 0) ∷ rest)
      go true t q = let z : ◌≡◌ {A = ℕ} 1 0 = cc in absurd (omega arith)
      go false t q = q ∙ holds No.ShellShape 0 rest (ap not t)

  -- or it is passed
  module _ (ok : Fine ≡ x.answer) where
    abbrev fs : List Loop
    fs = faces_in f list

    whole : (well_shaped f v list ≡ true) × (faces_of f v list ≡ held f v list)
    whole = fine_is f v list (ok ∙ ap (λ (y : Faces). y.answer) e)

    shaped : Shaped f v list
    shaped = shape_yes f v list whole.0

    pub shape_passes : (rest : List Check)
        → first_of rest ≡ first_of (check No.ShellShape (offends (not (well_shaped f v list)) 0) ∷ rest)
    shape_passes rest = fails No.ShellShape 0 rest (ap not whole.0)

    is_held : x ≡ held f v list
    is_held = e ∙ whole.1

    -- so many faces
    count_is : x.count ≡ count_in f list
    count_is = ap (λ (y : Faces). y.count) is_held

    pub some_faces : 0 < x.count
    some_faces = omega (arith, count_is, shaped.least)

    pub few_faces : Limited f → x.count ≤ most_faces
    few_faces held_by = omega (arith, count_is, shaped.most, held_by.faces_held)

    -- of 3 to 12 corners each
    fit : (k : ℕ) → k < length fs → (least_corners ≤ length (loop_at fs k)) × (length (loop_at fs k) ≤ most_corners)
    fit k h =
        let y = face_yes f v (loop_at fs k) (all_yes (face_fits f v) [] fs shaped.faces k h) in
        (y.0, y.1)

    short : Short fs
    short k h = (fit k h).1

    -- in rows
    pub faces_held : HoldsTable x.rows x.count fs
    faces_held =
        let all = length_in f list ∙ sym count_is in
        let rows = sym (ap (λ (y : Faces). y.rows) is_held) in
        transport (λ i. HoldsTable (rows i) (all i) fs) (padded-held fs short all_rows)

    pub cornered : (i : ℕ) → i < x.count → FaceIn x.rows i
    cornered i h = face-held faces_held i h (fit i (omega (arith, faces_held.count))).0
