-- A list of faces names a solid with its directions, in any order of faces and from any starting corners.
use Rattle.std.specs.Prelude.{◌≡◌, Bool, cond, List, ◌++◌, ℕ, ◌<◌, length, take, drop}
use Rattle.sets.specs.Word.{dig}
use Rattle.paper.specs.Loops.{Loop, loop_at, flipped}
use Rattle.means_solid.specs.Solid.{Face}
use Rattle.paper.specs.Drawing.{Wire}

-- f and g are one ring of corners, from two starts
pub record SameRing (f g : List ℕ) : Type 0 where
  pub at : ℕ
  pub turns : g ≡ drop at f ++ take at f

module _ (d : Wire) (cs : List Loop) (taken turned : List Bool) where
  -- candidate k as a face in its direction
  abbrev pub directed : ℕ → List ℕ
  directed k = cond (dig turned k) (flipped (loop_at cs k)) (loop_at cs k)

  -- each face of the list is a face of the solid, and each of the solid's stands in the list just once
  pub record Names (fs : List (List ℕ)) : Type 0 where
    pub each : (i : ℕ) → i < length fs → (k : ℕ) × Face d cs taken turned k × SameRing (directed k) (loop_at fs i)
    pub there : (k : ℕ) → Face d cs taken turned k → (i : ℕ) × (i < length fs) × SameRing (directed k) (loop_at fs i)
    pub once : (i j k : ℕ) → i < length fs → j < length fs → SameRing (directed k) (loop_at fs i) → SameRing (directed k) (loop_at fs j)
        → i ≡ j
