-- The tetrahedron of document 01, by evaluation: its faces go once round a point inside, whatever the apex, and not round one outside.
use mathlib.Core.Path.{◌≡◌, refl, sym, ◌∙◌}
use mathlib.Core.Bool.{Bool, true, false, not, true≢false}
use mathlib.Core.Option.{none}
use mathlib.Core.List.{List, [], ◌∷◌}
use Prim.Native.Nat.{ℕ, ◌<◌}
use native.Mathlib.Omega.{arith}
use borrow.Author.Tests.{eqb-true}
use lib.Dec.{eqb}
use lib.IntN.{ℤ, pos, negsuc}
use lib.ListN.{length, get_or}
use Rattle.lists.specs.Lists.{all, upto}
use Rattle.lists.proofs.Passing.{each_yes}
use Rattle.lists.proofs.Truth.{not-true}
use Rattle.sets.proofs.Ones.{dig_lt}
use Rattle.paper.specs.Points.{pt, origin, minus, times, dot, det, is_zero, above}
use Rattle.paper.specs.Polygon.{Polygon, normal, corner}
use Rattle.paper.specs.Drawing.{Wire, wire, same_place}
use Rattle.paper.specs.Loops.{loop_at, polygon, candidates}
use Rattle.paper.specs.Solids.{tables_of, once_each_way}
use Rattle.paper.specs.Questions.{reply}
use Rattle.paper.specs.Known.Drawings.{tetrahedron}
use Rattle.paper.specs.declared.Point.{Point}
use Rattle.paper_laws.proofs.Points.{zero_is}
use Rattle.means_inside.proofs.Beams.{above_yes}
use Rattle.means_solid.specs.Solid.{face_sum}
use Rattle.means_loops.proofs.Listing.{candidates_proper}
use Rattle.means_masks.proofs.Tables.{ways_at}
use Rattle.means_region.specs.Tetra.{alternate, holds}
use Rattle.means_region.specs.Winding.{away, fan_holds, face_holds, winding, Sees, Ahead, OnceEachWay, Winds}
use Rattle.means_region.proofs.Winds.{faces_wind}

abbrev d : Wire
d = wire tetrahedron.xyz tetrahedron.ends

abbrev taken : List Bool
taken = true ∷ true ∷ true ∷ true ∷ []

-- run outward
abbrev turned : List Bool
turned = true ∷ false ∷ true ∷ false ∷ []

abbrev face : ℕ → Polygon
face k = polygon d (loop_at (candidates d) k)

places : same_place d ≡ none
unfolding reply
places = refl

as_many : 4 ≡ length (candidates d)
unfolding reply
as_many = refl

three : (k : ℕ) → k < 4 → length (face k) ≡ 3
three k h = eqb-true (length (face k)) 3 (each_yes (λ k. eqb (length (face k)) 3) 4 all_three k h)
  where
    all_three : all (λ k. eqb (length (face k)) 3) (upto 4) ≡ true
    all_three = unfold reply in refl

-- ---- each edge is run once each way

abbrev once : ℕ → Bool
once e = once_each_way (get_or (tables_of d (candidates d)).masks e []) (get_or (tables_of d (candidates d)).ups e []) taken turned

all_once : all once (upto 6) ≡ true
unfolding reply
all_once = refl

each_way : OnceEachWay d (candidates d) taken turned
unfolding wire
each_way = record {
  set = as_many;
  iii = λ e h. ways_at d (candidates d) taken turned (candidates_proper d) e h (each_yes once 6 all_once e h);
}

pub tetrahedron_winds : Winds d (candidates d) taken turned
tetrahedron_winds = faces_wind d places taken turned each_way

-- ---- an apex that sees all faces from p

module _ (p o : Point) where
  abbrev off : ℕ → Bool
  off k = not (is_zero (dot (normal (face k)) (minus p (times (pos 1) (corner (face k))))))

  abbrev apart : ℕ → ℕ → ℕ → Bool
  apart k j i =
      not (is_zero (det (away (pos 1) p o) (away (pos 1) p (get_or (face k) i origin)) (away (pos 1) p (get_or (face k) j origin))))

  not-zero : (z : ℤ) → not (is_zero z) ≡ true → z ≡ pos 0 → ⊥
  not-zero z e q = true≢false (sym (zero_is q) ∙ not-true (is_zero z) e)

  sees : all off (upto 4) ≡ true → all (λ k. all (λ j. all (apart k j) (upto j)) (upto 3)) (upto 4) ≡ true
      → Sees d (candidates d) taken turned (pos 1) p o
  sees e f = record {
    planes = λ k t. not-zero (dot (normal (face k)) (minus p (times (pos 1) (corner (face k))))) (each_yes off 4 e k (dig_lt taken k t));
    apart =
        λ k i j t h l.
        let low = dig_lt taken k t in
        let l' : j < 3 = omega (arith, three k low) in
        not-zero (det (away (pos 1) p o) (away (pos 1) p (get_or (face k) i origin)) (away (pos 1) p (get_or (face k) j origin)))
        (each_yes (apart k j) j (each_yes (λ j. all (apart k j) (upto j)) 3
        (each_yes (λ k. all (λ j. all (apart k j) (upto j)) (upto 3)) 4 f k low) j l') i h);
  }

-- ---- inside, and outside

abbrev middle : Point
middle = pt (pos 1) (pos 1) (pos 1)

abbrev apex : Point
apex = pt (pos 20) (pos 31) (pos 57)

apex_sees : Sees d (candidates d) taken turned (pos 1) middle apex
unfolding reply
apex_sees = sees middle apex refl refl

from_apex : winding d (candidates d) taken turned (pos 1) middle apex ≡ pos 1
unfolding reply face_sum face_holds fan_holds holds alternate
from_apex = refl

pub once_round_the_middle : (o : Point) → Sees d (candidates d) taken turned (pos 1) middle o
    → winding d (candidates d) taken turned (pos 1) middle o ≡ pos 1
once_round_the_middle o s = tetrahedron_winds.any_apex (pos 1) middle o apex s apex_sees ∙ from_apex

-- towards (0,0,0) all corners are ahead
abbrev beyond : Point
beyond = pt (pos 9) (pos 9) (pos 9)

abbrev back : Point
back = pt (negsuc 0) (negsuc 0) (negsuc 0)

abbrev is_ahead : ℕ → ℕ → Bool
is_ahead k i = above (dot back (away (pos 1) beyond (get_or (face k) i origin)))

all_ahead : all (λ k. all (is_ahead k) (upto 3)) (upto 4) ≡ true
unfolding reply
all_ahead = refl

ahead : Ahead d (candidates d) taken turned (pos 1) beyond back
ahead k i t h =
    let low = dig_lt taken k t in
    let h' : i < 3 = omega (arith, three k low) in
    above_yes (dot back (away (pos 1) beyond (get_or (face k) i origin)))
    (each_yes (is_ahead k) 3 (each_yes (λ k. all (is_ahead k) (upto 3)) 4 all_ahead k low) i h')

pub not_round_what_is_outside : (o : Point) → Sees d (candidates d) taken turned (pos 1) beyond o
    → winding d (candidates d) taken turned (pos 1) beyond o ≡ pos 0
not_round_what_is_outside o s = tetrahedron_winds.far_away (pos 1) beyond o s back ahead
