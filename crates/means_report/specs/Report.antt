-- The customer's demand 2: "the report lists every solid once, in walk order, with each face's direction and six times its volume, and
-- says 'no solid' exactly when there is none. The work reported is the number of assumptions in that walk."
use Rattle.std.specs.Prelude.{◌≡◌, ℕ, ◌*◌, ◌≤◌, ◌<◌, length, drop}
use mathlib.Core.List.{List, [], ◌∷◌, ◌++◌, flat_map}
use Rattle.paper.specs.Numbers.{most_solids, solid_words}
use Rattle.paper.specs.Drawing.{Wire}
use Rattle.paper.specs.Loops.{Loop, loops, candidates}
use Rattle.paper.specs.Solids.{tables_of}
use Rattle.paper.specs.Conversion.{Converted, accepted, faces_after}
use Rattle.paper.specs.declared.Conversion.{Conversion}
use Rattle.means_walk.specs.Tree.{assumptions, steps, made, up_to}
use Rattle.means_report.specs.Listed.{Entry, words_of, WalkTree, walked}

-- the answer for a list of solids
abbrev pub answered : ℕ → ℕ → ℕ → List Entry → Conversion
answered l c work [] = Conversion.NoSolid l c work
answered l c work (e ∷ []) = Conversion.One l c work e.six
answered l c work (e ∷ (e' ∷ es)) = Conversion.Several l c work (length (e ∷ (e' ∷ es)))

-- how many solids a report lists; 0 where there is no report
abbrev pub solid_count : Conversion → ℕ
solid_count (Conversion.One l c work six) = 1
solid_count (Conversion.Several l c work n) = n
solid_count (Conversion.NoSolid l c work) = 0
solid_count (Conversion.Many l c work) = 0
solid_count (Conversion.TooLong l c work) = 0
solid_count (Conversion.Refused r) = 0

-- the room for faces: a report writes the candidates, and "no solid" is no report
abbrev pub faces_for : List Loop → List ℕ → List Entry → List ℕ
faces_for cs faces [] = faces
faces_for cs faces (e ∷ es) = faces_after cs faces

-- the room for solids: a record for each, in order, and the rest as it was
unfoldable pub solids_for : List ℕ → List Entry → List ℕ
solids_for solids es = flat_map words_of es ++ drop (solid_words * length es) solids

-- the assumptions that the walk makes before it comes to a ninth solid: all of them, where there is none
abbrev pub work_to_ninth : (d : Wire) → WalkTree d (candidates d) → ℕ
work_to_ninth d t = made (up_to (accepted (tables_of d (candidates d))) most_solids (steps t))

-- what is said of a drawing, and left in the rooms. The tree is that of the drawing's walk; `walked` is the list of its solids.
module _ (d : Wire) (t : WalkTree d (candidates d)) (limit : ℕ) (faces solids : List ℕ) (r : Converted) where
  -- at most eight solids, and no more assumptions than the limit: all of them are reported
  pub record Reported : Type 0 where
    pub few : length (walked d (candidates d) t) ≤ most_solids
    pub short : assumptions t ≤ limit
    pub answer : r.answer ≡ answered (length (loops d)) (length (candidates d)) (assumptions t) (walked d (candidates d) t)
    pub faces_left : r.faces ≡ faces_for (candidates d) faces (walked d (candidates d) t)
    pub solids_left : r.solids ≡ solids_for solids (walked d (candidates d) t)

  -- nine or more: 18
  pub record TooMany : Type 0 where
    pub nine : most_solids < length (walked d (candidates d) t)
    pub short : work_to_ninth d t ≤ limit
    pub answer : r.answer ≡ Conversion.Many (length (loops d)) (length (candidates d)) (work_to_ninth d t)
    pub faces_left : r.faces ≡ faces
    pub solids_left : r.solids ≡ solids

  -- more assumptions than the limit: 19
  pub record TooFar : Type 0 where
    pub far : limit < work_to_ninth d t
    pub answer : r.answer ≡ Conversion.TooLong (length (loops d)) (length (candidates d)) limit
    pub faces_left : r.faces ≡ faces
    pub solids_left : r.solids ≡ solids
