-- "The body doesn't depend on where it was drawn": a drawing shifted within the range, mirrored in x, laid along the axes in another way,
-- and enlarged.
use Rattle.std.specs.Prelude.{◌≡◌, Bool, true, false, ◌↔◌, List, ℕ, ◌<◌, ℤ, pos}
use Rattle.paper.specs.Points.{times}
use Rattle.paper.specs.Format.{coordinates_in, ends_in, edition_of}
use Rattle.paper.specs.Refusals.{first_of}
use Rattle.paper.specs.Conversion.{Converted}
use Rattle.paper.specs.declared.Point.{Point}
use Rattle.means_moves.specs.Moves.{shift, mirror, Step, laid, oddly}
use Rattle.means_moves.specs.Lists.{each_vertex, WithinRange}
use Rattle.means_moves.specs.Turned.{Mirrored, Scaled}
use Rattle.means_moves.specs.TurnedRound.{AllTurned}
use Rattle.demands.specs.Input.{Input, lent, sheet, drawing, form, converted, checked}
use Rattle.demands.specs.Shells.{GoodList, sent_faces}

-- a drawing's two lists, lent or read off a sheet
abbrev pub coordinates : Input → List ℤ
coordinates (lent xyz ends) = xyz
coordinates (sheet s) = coordinates_in (edition_of s) s

abbrev pub links : Input → List ℕ
links (lent xyz ends) = ends
links (sheet s) = ends_in (edition_of s) s

-- x and y are drawings with the same edges, and each vertex of y is where `by` moves that of x; 3 to 10 say the same of both, as where both
-- pass
pub record Made (by : Point → Point) (x y : Input) : Type 0 where
  pub points : coordinates y ≡ each_vertex by (coordinates x)
  pub edges : links y ≡ links x
  pub forms : first_of (form y) ≡ first_of (form x)

-- two face lists of which every face of the one is that of the other turned round; of both 20 says the same
pub record Round (x : Input) (list other : List ℕ) : Type 0 where
  pub shape : GoodList (drawing x) list ↔ GoodList (drawing x) other
  pub faces : AllTurned (sent_faces (drawing x) list) (sent_faces (drawing x) other)

pub record Shifts : Type 0 where
  -- "a drawing shifted by whole centimetres within the range gives the same answer, work, bit sets and volumes": the answer and both rooms.
  -- Lent lists may have any other fault than 8.
  pub lists : (w : Point) (xyz : List ℤ) (ends : List ℕ) → WithinRange xyz → WithinRange (each_vertex (shift w) xyz) → (limit : ℕ) (faces solids : List ℕ)
      → converted (lent (each_vertex (shift w) xyz) ends) limit faces solids ≡ converted (lent xyz ends) limit faces solids
  pub both : (w : Point) (x y : Input) → Made (shift w) x y → (limit : ℕ) (faces solids : List ℕ)
      → converted y limit faces solids ≡ converted x limit faces solids
  pub check : (w : Point) (x y : Input) → Made (shift w) x y → (list : List ℕ) → checked y list ≡ checked x list

pub record Mirrors : Type 0 where
  -- "Mirrored in x, it gives the same answer, work, taken sets and volumes, with every taken face's direction bit flipped." Lent lists may
  -- have any fault.
  pub lists : (xyz : List ℤ) (ends : List ℕ) (limit : ℕ) (faces solids : List ℕ)
      → Mirrored solids (converted (lent xyz ends) limit faces solids) (converted (lent (each_vertex mirror xyz) ends) limit faces solids)
  pub both : (x y : Input) → Made mirror x y → (limit : ℕ) (faces solids : List ℕ)
      → Mirrored solids (converted x limit faces solids) (converted y limit faces solids)
  -- a list with every face turned round gets of the mirrored drawing the verdict that the list gets of the drawing
  pub check : (x y : Input) → Made mirror x y → (list other : List ℕ) → Round x list other → checked y other ≡ checked x list

-- after an even number of steps all is the same; after an odd number, mirrored
abbrev pub Laid : Bool → List ℕ → Converted → Converted → Type 0
Laid false solids r q = q ≡ r
Laid true solids r q = Mirrored solids r q

-- with x mirrored, and x and y or y and z exchanged, in any number of steps: so are all quarter turns made
pub record Turns : Type 0 where
  pub lists : (ss : List Step) (xyz : List ℤ) (ends : List ℕ) → WithinRange xyz → WithinRange (each_vertex (laid ss) xyz)
      → (limit : ℕ) (faces solids : List ℕ)
      → Laid (oddly ss) solids (converted (lent xyz ends) limit faces solids)
      (converted (lent (each_vertex (laid ss) xyz) ends) limit faces solids)
  pub both : (ss : List Step) (x y : Input) → Made (laid ss) x y → (limit : ℕ) (faces solids : List ℕ)
      → Laid (oddly ss) solids (converted x limit faces solids) (converted y limit faces solids)
  pub check : (ss : List Step) → oddly ss ≡ false → (x y : Input) → Made (laid ss) x y → (list : List ℕ) → checked y list ≡ checked x list
  pub check_round : (ss : List Step) → oddly ss ≡ true → (x y : Input) → Made (laid ss) x y → (list other : List ℕ) → Round x list other
      → checked y other ≡ checked x list

-- with all coordinates k times as large: six volumes k x k x k times as large, and all else the same
pub record Scales : Type 0 where
  pub lists : (k : ℕ) → 0 < k → (xyz : List ℤ) (ends : List ℕ) → WithinRange xyz → WithinRange (each_vertex (times (pos k)) xyz)
      → (limit : ℕ) (faces solids : List ℕ)
      → Scaled k solids (converted (lent xyz ends) limit faces solids)
      (converted (lent (each_vertex (times (pos k)) xyz) ends) limit faces solids)
  pub both : (k : ℕ) → 0 < k → (x y : Input) → Made (times (pos k)) x y → (limit : ℕ) (faces solids : List ℕ)
      → Scaled k solids (converted x limit faces solids) (converted y limit faces solids)
  pub check : (k : ℕ) → 0 < k → (x y : Input) → Made (times (pos k)) x y → (list : List ℕ) → checked y list ≡ checked x list
