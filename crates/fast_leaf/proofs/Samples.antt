-- A tetrahedron judged face by face, computed: so the statement of `Judged` is not empty.
use mathlib.Core.Bool.{Bool, true, false, xor}
use mathlib.Core.List.{List, [], ◌∷◌}
use mathlib.Core.Logic.{inl, inr}
use mathlib.Core.Path.{◌≡◌, refl, ap}
use lib.IntN.{pos}
use Rattle.sets.specs.Word.{count, first, both, either, less, only}
use Rattle.paper.specs.Solids.{Tables, unlike, once_each_way, oriented, Solid, judged}
use Rattle.means_leaf.specs.Meaning.{MaskInTwo}
use Rattle.fast_sweeps.specs.Worklist.{without_lowest, edges_with}
use Rattle.fast_leaf.specs.Faces.{at_edge, around_face, at_face, go_on, from_face, clear_on, six_on, judged_by_faces, SameJudgement}
use Rattle.fast_leaf.proofs.Judged.{judged_by_faces_lem}

-- "Tetrahedron (0,0,0) (6,0,0) (0,6,0) (0,0,6)": its faces 0 1 2, 0 1 3, 0 2 3 and 1 2 3
abbrev pub tetrahedron : Tables
tetrahedron = record {
  masks =
      (true ∷ true ∷ false ∷ false ∷ []) ∷ (true ∷ false ∷ true ∷ false ∷ []) ∷ (false ∷ true ∷ true ∷ false ∷ [])
      ∷ (true ∷ false ∷ false ∷ true ∷ [])
      ∷ (false ∷ true ∷ false ∷ true ∷ []) ∷ (false ∷ false ∷ true ∷ true ∷ []) ∷ [];
  ups =
      (true ∷ true ∷ false ∷ false ∷ []) ∷ (false ∷ false ∷ true ∷ false ∷ []) ∷ (false ∷ false ∷ false ∷ false ∷ [])
      ∷ (true ∷ false ∷ false ∷ true ∷ [])
      ∷ (false ∷ true ∷ false ∷ false ∷ []) ∷ (false ∷ false ∷ true ∷ true ∷ []) ∷ [];
  clashes =
      (false ∷ false ∷ false ∷ false ∷ []) ∷ (false ∷ false ∷ false ∷ false ∷ []) ∷ (false ∷ false ∷ false ∷ false ∷ [])
      ∷ (false ∷ false ∷ false ∷ false ∷ []) ∷ [];
  sixes = pos 0 ∷ pos 0 ∷ pos 0 ∷ pos 216 ∷ [];
}

abbrev pub four : List Bool
four = true ∷ true ∷ true ∷ true ∷ []

pub tetrahedron_two : MaskInTwo tetrahedron.masks four
unfolding count both
tetrahedron_two mask (inl e) = ap (λ (x : List Bool). count (both x four)) e
tetrahedron_two mask (inr (inl e)) = ap (λ (x : List Bool). count (both x four)) e
tetrahedron_two mask (inr (inr (inl e))) = ap (λ (x : List Bool). count (both x four)) e
tetrahedron_two mask (inr (inr (inr (inl e)))) = ap (λ (x : List Bool). count (both x four)) e
tetrahedron_two mask (inr (inr (inr (inr (inl e))))) = ap (λ (x : List Bool). count (both x four)) e
tetrahedron_two mask (inr (inr (inr (inr (inr (inl e)))))) = ap (λ (x : List Bool). count (both x four)) e
tetrahedron_two mask (inr (inr (inr (inr (inr (inr i)))))) = absurd i

-- "six volumes 216"
pub tetrahedron-faces : judged_by_faces tetrahedron four ≡ Solid (true ∷ false ∷ true ∷ false ∷ []) 216
unfolding count first both either less only unlike once_each_way oriented without_lowest edges_with at_edge around_face at_face go_on from_face clear_on six_on judged_by_faces xor
tetrahedron-faces = refl

pub tetrahedron-agrees : SameJudgement (judged_by_faces tetrahedron four) (judged tetrahedron four)
tetrahedron-agrees = judged_by_faces_lem tetrahedron four refl tetrahedron_two
