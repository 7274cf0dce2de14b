-- The rows of a face list that passes 20 hold its faces.
use mathlib.Core.Path.{◌≡◌, refl}
use mathlib.Core.Bool.{Bool, true, false, cond}
use mathlib.Core.List.{List, flat_map}
use Prim.Native.Nat.{ℕ}
use native.Mathlib.Omega.{arith}
use Rattle.pack.specs.Fill.{padded}
use Rattle.paper.specs.Loops.{row}
use Rattle.paper.specs.FaceList.{no_faces, count_in, faces_in, well_shaped, faces_of}
use Rattle.paper.specs.declared.Format.{Format}
use Rattle.paper.specs.FaceList.{Faces}
use Rattle.paper.specs.Refusals.{Fine}
use Rattle.faces_reader.specs.Filed.{all_rows}

module _ (f : Format) (v : ℕ) (s : List ℕ) where
  abbrev pub held : Faces
  held = record { answer = Fine; count = count_in f s; rows = padded (flat_map row (faces_in f s)) all_rows 0 }

  pub fine_is : Fine ≡ (faces_of f v s).answer → (well_shaped f v s ≡ true) × (faces_of f v s ≡ held)
  unfolding faces_of
  fine_is e = go (well_shaped f v s) refl e
    where
      go : (b : Bool) → well_shaped f v s ≡ b → Fine ≡ (cond b held no_faces).answer
          → (well_shaped f v s ≡ true) × (cond b held no_faces ≡ held)
      go true t q = (t, refl)
      go false t q = let z : ◌≡◌ {A = ℕ} 0 1 = cc in absurd (omega arith)
