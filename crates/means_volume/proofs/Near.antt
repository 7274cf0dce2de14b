-- The points of a drawing whose form passes are in range.
use mathlib.Core.Path.{◌≡◌}
use mathlib.Core.List.{List, [], ◌∷◌}
use Prim.Native.Nat.{ℕ, zero, suc}
use lib.IntN.{ℤ}
use lib.ListN.{get_or}
use Rattle.paper.specs.Numbers.{farthest}
use Rattle.paper.specs.Points.{origin}
use Rattle.paper.specs.Refusals.{first_of, Fine}
use Rattle.paper.specs.Format.{vertices_in, coordinates_in, ends_in, edition_of}
use Rattle.paper.specs.Sheet.{lent_checks, sheet_checks}
use Rattle.paper.specs.Drawing.{wire, points_of, at}
use Rattle.paper_laws.proofs.Coordinate.{in_reach}
use Rattle.sheet_laws.specs.Near.{Near}
use Rattle.sheet_laws.proofs.Lent.{contents, lent}
use Rattle.sheet_laws.proofs.Accepted.{accepted_contents}
use Rattle.polygon.specs.Sizes.{PointWithin}
use Rattle.polygon.proofs.Sizes.{origin_small}

points_near : (xyz : List ℤ) → Near xyz → (v : ℕ) → PointWithin farthest (get_or (points_of xyz) v origin)
unfolding points_of
points_near [] n v = origin_small farthest
points_near (x ∷ []) n v = origin_small farthest
points_near (x ∷ (y ∷ [])) n v = origin_small farthest
points_near (x ∷ (y ∷ (z ∷ l))) n zero = record {
  x_in = record { within = in_reach x (n 0) };
  y_in = record { within = in_reach y (n 1) };
  z_in = record { within = in_reach z (n 2) };
}
points_near (x ∷ (y ∷ (z ∷ l))) n (suc v) = points_near l (λ k. n (suc (suc (suc k)))) v

pub lent-near : (xyz : List ℤ) (ends : List ℕ) → Fine ≡ first_of (lent_checks xyz ends)
    → (v : ℕ) → PointWithin farthest (at (wire xyz ends) v)
unfolding wire at
lent-near xyz ends e v = points_near xyz (contents _ xyz ends (lent xyz ends e).fine).near v

pub sheet-near : (s : List ℕ) → Fine ≡ first_of (sheet_checks (edition_of s) s)
    → (v : ℕ) → PointWithin farthest (at (wire (coordinates_in (edition_of s) s) (ends_in (edition_of s) s)) v)
unfolding wire at
sheet-near s e v =
    points_near (coordinates_in (edition_of s) s)
    (contents (vertices_in (edition_of s) s) (coordinates_in (edition_of s) s) (ends_in (edition_of s) s) (accepted_contents (edition_of s) s e)).near v
