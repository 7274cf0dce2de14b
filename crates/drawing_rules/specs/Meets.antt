-- The tests of rules 11 and 13 on the lent lists and on the drawing.
use Rattle.std.specs.Prelude.{◌≡◌, Bool, ◌||◌, List, [], ◌∷◌, ℕ, suc, ◌+◌, ◌*◌, ◌-◌, eqb, ℤ, length, get_or}
use Rattle.lists.specs.Lists.{any, from, lowest}
use Rattle.sets.specs.Word.{dig}
use Rattle.paper.specs.Refusals as No
use Rattle.paper.specs.Refusals.{check, first_of, Answer}
use Rattle.paper.specs.Points.{same_point}
use Rattle.paper.specs.Drawing.{Wire, points_of, same_place}
use Rattle.paper.specs.declared.Point.{Point}
use Rattle.polygon.specs.Rings.{point_of}
use Rattle.drawing_segments.specs.declared.Both.{Both}
use Rattle.fast_meets.specs.Pairs.{meet_at, offenders}

-- the point of end k of the list
abbrev pub end_in : List ℤ → List ℕ → ℕ → Point
end_in xyz ends k = point_of xyz (get_or ends k 0)

-- edges e and f have a common end
abbrev pub joined_in : List ℕ → ℕ → ℕ → Bool
joined_in ends e f =
    let a = get_or ends (2 * e) 0 in
    let b = get_or ends (2 * e + 1) 0 in
    let c = get_or ends (2 * f) 0 in
    let d = get_or ends (2 * f + 1) 0 in
    eqb a c || eqb a d || eqb b c || eqb b d

-- rule 11: w is where u is; one of those after u is
abbrev pub share_in : List ℤ → ℕ → ℕ → Bool
share_in xyz u w = same_point (point_of xyz u) (point_of xyz w)

abbrev pub shared_in : List ℤ → ℕ → ℕ → Bool
shared_in xyz v u = any (share_in xyz u) (from (suc u) (v - suc u))

-- the answer of 11, of every drawing with these points
abbrev pub Told11 : List ℤ → Answer → Type 0
Told11 xyz r = (d : Wire) → d.vertices ≡ points_of xyz → r ≡ first_of (check No.SamePlace (same_place d) ∷ [])

-- rule 13: whether e meets f, and f e
abbrev pub both_at : Wire → ℕ → ℕ → Both
both_at d e f = record { first = meet_at d e f; second = meet_at d f e }

-- the lowest of the edges that the pairs make offend
abbrev pub Lowest13 : Wire → Answer → Type 0
Lowest13 d r = r ≡ first_of (check No.EdgeMeets (lowest (dig (offenders d)) (length d.edges)) ∷ [])
