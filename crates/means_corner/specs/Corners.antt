-- A direction strictly inside a corner angle leads into the loop and no other does, and one strictly outside it leads out.
use Rattle.std.specs.Prelude.{◌≡◌, ◌↔◌, ◌⊎◌, ℕ, ◌+◌, ◌*◌, ◌≤◌, ◌<◌, pos, length}
use Rattle.std.proofs.Math.Option.{none}
use Rattle.paper.specs.Points.{minus, dot}
use Rattle.paper.specs.Polygon.{Polygon, over, normal, lies}
use Rattle.paper.specs.Drawing.{Wire, same_place, edge_meets}
use Rattle.paper.specs.Loops.{loops}
use Rattle.paper.specs.declared.Point.{Point}
use Rattle.paper.specs.declared.Where.{Where}
use Rattle.paper.specs.declared.Where.TheVariants.{Outside, Inside}
use Rattle.means_drawing.specs.Segments.{along}
use Rattle.means_area.specs.Loops.{loop_of}
use Rattle.means_clash.specs.Clash.{Corner, Left, AtCorner, PointsIn}

-- what holds of s / n wherever that is above 0 and small enough
abbrev pub ForSmall : (ℕ → ℕ → Type 0) → Type 0
ForSmall P = (b : ℕ) × ((s n : ℕ) → 0 < s → 0 < n → (b * s) ≤ n → P s n)

-- the first part of the way from u to v is where o says
abbrev pub Starts : Polygon → Point → Point → Where → Type 0
Starts g u v o = ForSmall (λ s n. lies (over (along (pos n) (pos s) u v) (pos n)) g ≡ o)

-- strictly outside the angle, as `InAngle` is strictly inside: below 180 degrees w is right of b or left of a; otherwise both
abbrev pub OutAngle : (n a u b w : Point) → Type 0
OutAngle n a u b w =
    (Left n (minus b u) (minus a u) × (Left n w (minus b u) ⊎ Left n (minus a u) w))
    ⊎ ((Left n (minus b u) (minus a u) → ⊥) × (Left n w (minus b u) × Left n (minus a u) w))

abbrev pub PointsOut : Polygon → Point → Point → Type 0
PointsOut = AtCorner OutAngle

-- what the corner angles of g say of the ways from a corner u to points v of its plane: strictly inside the angle, as rule C decides it,
-- exactly when the first part of the way is strictly inside g; and strictly outside it only when the first part is outside
pub record AngleMeans (g : Polygon) : Type 0 where
  pub leads_in : (u v : Point) → Corner g u → dot (normal g) (minus v u) ≡ pos 0 → PointsIn g u v ↔ Starts g u v Inside
  pub leads_out : (u v : Point) → dot (normal g) (minus v u) ≡ pos 0 → PointsOut g u v → Starts g u v Outside

-- of every loop of a drawing that passes 11 and 13
abbrev pub CornerAngles : Type 0
CornerAngles = (d : Wire) → same_place d ≡ none → edge_meets d ≡ none → (i : ℕ) → i < length (loops d) → AngleMeans (loop_of d i)
