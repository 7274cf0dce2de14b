-- "Faces F and G clash if, either way round" A, B or C holds, in words: no test and no search.
-- `planeSide g p` is above, below or at zero as p is on one side of g's plane, on the other, or in it; `lies` says where a point of that
-- plane is, and `means_inside` what its answers mean.
use Rattle.std.specs.Prelude.{◌≡◌, ◌⊎◌, ℕ, ◌+◌, ◌<◌, ℤ, pos, nat_abs, ◌<ℤ◌, length, get_or}
use Rattle.lists.specs.Around.{around}
use Rattle.paper.specs.Points.{origin, plus, minus, times, det}
use Rattle.paper.specs.Polygon.{Polygon, Ratio, over, exactly, normal, plane_side, lies}
use Rattle.paper.specs.declared.Point.{Point}
use Rattle.paper.specs.declared.Where.TheVariants.{Inside}

-- corner i of a face, after the last the first again; p is a corner of g
abbrev pub corner_at : Polygon → ℕ → Point
corner_at g i = around g i origin

abbrev pub Corner : Polygon → Point → Type 0
Corner g p = (i : ℕ) × (i < length g) × (get_or g i origin ≡ p)

-- A: "an edge of F has its ends strictly on opposite sides of G's plane and pierces it strictly inside G". Ends that are a and b from the
-- plane make the edge from p to q pierce it at |a| / (|a| + |b|) of the way
abbrev pub Opposite : ℤ → ℤ → Type 0
Opposite a b = ((a <ℤ pos 0) × (pos 0 <ℤ b)) ⊎ ((pos 0 <ℤ a) × (b <ℤ pos 0))

abbrev pub piercing : Point → Point → ℤ → ℤ → Ratio
piercing p q a b = over (plus (times (pos (nat_abs b)) p) (times (pos (nat_abs a)) q)) (pos (nat_abs a + nat_abs b))

abbrev pub EdgePierces : Polygon → Point → Point → Type 0
EdgePierces g p q =
    Opposite (plane_side g p) (plane_side g q) × (lies (piercing p q (plane_side g p) (plane_side g q)) g ≡ Inside)

abbrev pub RuleA : Polygon → Polygon → Type 0
RuleA f g = (i : ℕ) × (i < length f) × EdgePierces g (corner_at f i) (corner_at f (i + 1))

-- B: "a corner of F is strictly inside G"
abbrev pub RuleB : Polygon → Polygon → Type 0
RuleB f g =
    (i : ℕ) × (i < length f) × (plane_side g (get_or f i origin) ≡ pos 0) × (lies (exactly (get_or f i origin)) g ≡ Inside)

-- C: "the direction from u to v points strictly inside the corner angle at u". Seen from the tip of the normal n, the angle at u runs
-- counterclockwise from the corner b after it to the corner a before it: below 180 degrees w is left of the one and right of the other,
-- and "Angles may exceed 180 degrees": then it is one of the two
abbrev pub Left : Point → Point → Point → Type 0
Left n p w = pos 0 <ℤ det n p w

abbrev pub InAngle : (n a u b w : Point) → Type 0
InAngle n a u b w =
    (Left n (minus b u) (minus a u) × (Left n (minus b u) w × Left n w (minus a u)))
    ⊎ ((Left n (minus b u) (minus a u) → ⊥) × (Left n (minus b u) w ⊎ Left n w (minus a u)))

-- u is a corner of g, and to its angle the direction from u to v is so
pub record AtCorner (So : (n a u b w : Point) → Type 0) (g : Polygon) (u v : Point) : Type 0 where
  pub before : ℕ
  pub here : before < length g
  pub corner : corner_at g (before + 1) ≡ u
  pub angle : So (normal g) (corner_at g before) u (corner_at g (before + 2)) (minus v u)

abbrev pub PointsIn : Polygon → Point → Point → Type 0
PointsIn = AtCorner InAngle

-- "their planes differ, u and v are two corners of both"
pub record RuleC (f g : Polygon) : Type 0 where
  pub planes : ((i : ℕ) → i < length g → plane_side f (get_or g i origin) ≡ pos 0) → ⊥
  pub u : Point
  pub v : Point
  pub differ : u ≡ v → ⊥
  pub u_of : Corner f u × Corner g u
  pub v_of : Corner f v × Corner g v
  pub angles : PointsIn f u v × PointsIn g u v

-- "either way round"; C is the same either way
pub data ClashOf (f g : Polygon) : Type 0 where
  by_a : RuleA f g → ClashOf f g
  by_a_back : RuleA g f → ClashOf f g
  by_b : RuleB f g → ClashOf f g
  by_b_back : RuleB g f → ClashOf f g
  by_c : RuleC f g → ClashOf f g
