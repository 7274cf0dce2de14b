-- A candidate with its normal, and what is known of its drawing: the numbers of edges and the words of the candidates on them. Contracts
-- speak of every drawing of which that is known.
use Rattle.std.specs.Prelude.{Bool, true, cond, ◌≡◌, List, [], map, ℕ, ◌+◌, ◌*◌, ◌<◌, ℤ, length}
use Rattle.lists.specs.Lists.{member}
use Rattle.sets.specs.Word.{both, either, less}
use Rattle.sets.specs.Sets.{Is, mask_at, wides, Wide}
use Rattle.sets.specs.declared.Set.{Set}
use Rattle.paper.specs.Polygon.{normal, exactly, lies, is_inside}
use Rattle.paper.specs.Drawing.{Wire, edge, at, joined}
use Rattle.paper.specs.Loops.{Loop, loop_at, polygon}
use Rattle.paper.specs.Solids.{has, tables_of}
use Rattle.paper.specs.declared.Point.{Point}
use Rattle.polygon.specs.Rings.{ring, FaceRow}
use Rattle.fast_tables.specs.Hits.{edge_pierces, corner_mask}
use Rattle.fast_tables.specs.Asked.{loop_plane}
use Rattle.fast_tables.specs.Words.{near_mask, above_mask, below_mask, down_from, through_mask, inside_mask, hit_mask}
use Rattle.loop_words.specs.Numbered.{EdgesNumbered}
use Rattle.walk_tables.specs.Words.{Masks}
use Rattle.walk_clashes.specs.declared.hits.Sides.{Sides}
use Rattle.walk_clashes.specs.Faces.{DrawnFaces, drawing_of, NormalsOf}

-- a row with its normal, and two vertices
pub record Crossing (xyz : List ℤ) (rows : List ℕ) (g : ℕ) (m : Point) (a b : ℕ) : Type 0 where
  pub face : FaceRow xyz rows g m
  pub a_in : 3 * a + 2 < length xyz
  pub b_in : 3 * b + 2 < length xyz

-- candidate g, with its normal
pub record KnownFace (xyz : List ℤ) (rows : List ℕ) (g : ℕ) (m : Point) : Type 0 where
  pub n : ℕ
  pub faces : DrawnFaces xyz rows n
  pub there : g < n
  pub across : m ≡ normal (ring xyz rows g)

module _ {xyz : List ℤ} {rows : List ℕ} {g : ℕ} {m : Point} where
  -- the drawing, its candidates, and candidate g
  abbrev pub wire_of : KnownFace xyz rows g m → Wire
  wire_of k = drawing_of k.faces

  abbrev pub vertex_of : KnownFace xyz rows g m → ℕ → Point
  vertex_of k v = at (wire_of k) v

  abbrev pub all_of : KnownFace xyz rows g m → List Loop
  all_of k = k.faces.loops

  abbrev pub known_loop : KnownFace xyz rows g m → Loop
  known_loop k = loop_at (all_of k) g

-- the numbers of the drawing's edges, and the words of the candidates on them
pub record LentFace (xyz : List ℤ) (rows number on : List ℕ) (g : ℕ) (m : Point) : Type 0 where
  pub known : KnownFace xyz rows g m
  pub numbered : EdgesNumbered number (wire_of known).edges
  pub on_are : Masks on (tables_of (wire_of known) (all_of known)).masks

-- ---- one edge, from a to b

pub record EdgeLent (xyz : List ℤ) (rows number on : List ℕ) (g : ℕ) (m : Point) (a b : ℕ) : Type 0 where
  pub lent : LentFace xyz rows number on g m
  pub a_low : a < length (wire_of lent.known).vertices
  pub b_low : b < length (wire_of lent.known).vertices
  pub tied : joined (wire_of lent.known) a b ≡ true

-- the candidates on it join a set where it pierces g
abbrev pub EdgeJoins : {xyz : List ℤ} {rows number on : List ℕ} {g : ℕ} {m : Point} {a b : ℕ}
    → EdgeLent xyz rows number on g m a b → Wide → Wide
    → Type 0
EdgeJoins {a = a} {b = b} w x r =
    let d = wire_of w.lent.known in
    (s : List Bool) → wides.Is x s
    → wides.Is r
    (either s (cond (edge_pierces d (known_loop w.lent.known) (edge a b)) (map (has (edge a b)) (all_of w.lent.known)) []))

-- ---- the edges from a to the vertices below g's plane

pub record DownLent (xyz : List ℤ) (rows number on : List ℕ) (g : ℕ) (m : Point) (a : ℕ) (under : Set) : Type 0 where
  pub lent : LentFace xyz rows number on g m
  pub a_low : a < length (wire_of lent.known).vertices
  pub under_is : Is under (both (near_mask (wire_of lent.known) a) (below_mask (wire_of lent.known) (known_loop lent.known)))

-- and a set for the candidates on them, which stands for some mask
pub record DownStart (xyz : List ℤ) (rows number on : List ℕ) (g : ℕ) (m : Point) (a : ℕ) (under : Set) (set : Wide) : Type 0 where
  pub down : DownLent xyz rows number on g m a under
  pub mask : List Bool
  pub mask_is : wides.Is set mask

abbrev pub DownJoins : {xyz : List ℤ} {rows number on : List ℕ} {g : ℕ} {m : Point} {a : ℕ} {under : Set}
    → DownLent xyz rows number on g m a under → Wide → Wide → Type 0
DownJoins {a = a} w x r =
    let k = w.lent.known in
    (s : List Bool) → wides.Is x s → wides.Is r (down_from (wire_of k) (all_of k) (known_loop k) a s)

-- ---- rule A, of all edges: the vertices joined to each, those above g's plane and those below it

pub record PierceLent (xyz : List ℤ) (rows near number on : List ℕ) (g : ℕ) (m : Point) (s : Sides) : Type 0 where
  pub lent : LentFace xyz rows number on g m
  pub near_are : (a : ℕ) → a < length (wire_of lent.known).vertices → Is (mask_at near a) (near_mask (wire_of lent.known) a)
  pub above_is : Is s.above (above_mask (wire_of lent.known) (known_loop lent.known))
  pub below_is : Is s.below (below_mask (wire_of lent.known) (known_loop lent.known))

abbrev pub Through : {xyz : List ℤ} {rows near number on : List ℕ} {g : ℕ} {m : Point} {s : Sides}
    → PierceLent xyz rows near number on g m s → Wide → Type 0
Through w r = wides.Is r (through_mask (wire_of w.lent.known) (all_of w.lent.known) (known_loop w.lent.known))

-- ---- rule B: the words of the candidates with each vertex, and the vertices to ask

pub record CornersLent (xyz : List ℤ) (rows corner-words : List ℕ) (g : ℕ) (m : Point) : Type 0 where
  pub known : KnownFace xyz rows g m
  pub at_are : (v : ℕ) → v < length (wire_of known).vertices → wides.Is (wides.at corner-words v) (map (member v) (all_of known))

pub record VertexLent (xyz : List ℤ) (rows corner-words : List ℕ) (g : ℕ) (m : Point) (v : ℕ) : Type 0 where
  pub lent : CornersLent xyz rows corner-words g m
  pub v_low : v < length (wire_of lent.known).vertices

-- the candidates with vertex v join a set where it is strictly inside g
abbrev pub VertexJoins : {xyz : List ℤ} {rows corner-words : List ℕ} {g : ℕ} {m : Point} {v : ℕ}
    → VertexLent xyz rows corner-words g m v → Wide → Wide → Type 0
VertexJoins {v = v} w x r =
    let k = w.lent.known in
    (s : List Bool) → wides.Is x s
    → wides.Is r
    (either s (cond (is_inside (lies (exactly (vertex_of k v)) (polygon (wire_of k) (known_loop k)))) (map (member v) (all_of k)) []))

pub record EnterLent (xyz : List ℤ) (rows corner-words : List ℕ) (g : ℕ) (m : Point) (asked : Set) : Type 0 where
  pub lent : CornersLent xyz rows corner-words g m
  pub asked_is : let k = lent.known in Is asked (less (loop_plane (wire_of k) (known_loop k)) (corner_mask (wire_of k) (known_loop k)))

abbrev pub Inside : {xyz : List ℤ} {rows corner-words : List ℕ} {g : ℕ} {m : Point} {asked : Set}
    → EnterLent xyz rows corner-words g m asked → Wide → Type 0
Inside w r = let k = w.lent.known in wides.Is r (inside_mask (wire_of k) (all_of k) (known_loop k))

-- ---- both, of n candidates and of one of them

pub record AllLent (xyz : List ℤ) (rows near number on corner-words corners : List ℕ) (normals : List ℤ) (n : ℕ) : Type 0 where
  pub faces : DrawnFaces xyz rows n
  pub numbered : EdgesNumbered number (drawing_of faces).edges
  pub on_are : Masks on (tables_of (drawing_of faces) faces.loops).masks
  pub near_are : (a : ℕ) → a < length (drawing_of faces).vertices → Is (mask_at near a) (near_mask (drawing_of faces) a)
  pub at_are : (v : ℕ) → v < length (drawing_of faces).vertices → wides.Is (wides.at corner-words v) (map (member v) faces.loops)
  pub own_are : (k : ℕ) → k < n → Is (mask_at corners k) (corner_mask (drawing_of faces) (loop_at faces.loops k))
  pub normals_are : NormalsOf xyz rows n normals

pub record HitLent (xyz : List ℤ) (rows near number on corner-words corners : List ℕ) (normals : List ℤ) (g : ℕ) : Type 0 where
  pub n : ℕ
  pub all : AllLent xyz rows near number on corner-words corners normals n
  pub there : g < n

-- those that go through candidate g
abbrev pub Hits : {xyz : List ℤ} {rows near number on corner-words corners : List ℕ} {normals : List ℤ} {g : ℕ}
    → HitLent xyz rows near number on corner-words corners normals g → Wide → Type 0
Hits {g = g} w r = wides.Is r (hit_mask (drawing_of w.all.faces) w.all.faces.loops g)
