-- What the makers of words ask for, each from what is known of the candidates.
use mathlib.Core.List.{List}
use mathlib.Core.Path.{◌≡◌, refl, sym, subst}
use Prim.Native.Nat.{ℕ, zero, suc, ◌≤◌, ◌<◌, ◌/◌}
use native.Mathlib.Omega.{arith}
use lib.IntN.{ℤ}
use lib.ListN.{length, get_or, replicate}
use Rattle.sets.specs.Sets.{Is, mask_at}
use Rattle.paper.specs.Numbers.{most_vertices, most_edges}
use Rattle.paper.specs.Drawing.{Wire, wire}
use Rattle.paper.specs.Loops.{loop_at, candidates}
use Rattle.paper_laws.specs.InRange.{InRange}
use Rattle.fast_search.specs.Search.{near}
use Rattle.fast_tables.specs.Hits.{corner_mask, side_mask}
use Rattle.fast_tables.specs.Words.{near_mask}
use Rattle.loop_table.proofs.Loops.{candidates_of_lem, vertices_are, edges_are, corners_short, sides_short}
use Rattle.loop_table.proofs.Words.{mask_is}
use Rattle.loop_search.proofs.Whole.{near_is}
use Rattle.loop_words.specs.Numbered.{EdgesNumbered}
use Rattle.walk_edges.specs.Marks as Edges
use Rattle.walk_edges.proofs.Upward.{upward_of}
use Rattle.walk_clashes.specs.Faces.{DrawnFaces, PartsOf}
use Rattle.walk_clashes.specs.Marking.{CornersOf, VertexWords}
use Rattle.walk_clashes.specs.Clashes.{ClashLent}
use Rattle.walk_input.specs.Words.{CandidatesListed, drawing_listed}

-- ---- a room with nothing in it, wherever it is read
pub all_same : {A : Type 0} (a : A) (n i : ℕ) → get_or (replicate n a) i a ≡ a
all_same a zero i = refl
all_same a (suc n) zero = refl
all_same a (suc n) (suc i) = all_same a n i

module _ {xyz : List ℤ} {rows : List ℕ} {n : ℕ} {near-words number corners sides : List ℕ}
    (w : CandidatesListed xyz rows n near-words number corners sides) where
  abbrev pub d : Wire
  d = drawing_listed w

  pub range : InRange xyz w.ends
  range = w.drawn.passed.range

  pub few_vertices_lem : length d.vertices ≤ most_vertices
  few_vertices_lem = omega (arith, vertices_are range, range.most)

  pub few_edges_lem : length d.edges ≤ most_edges
  few_edges_lem = omega (arith, edges_are range, range.links.most)

  pub numbers : EdgesNumbered number d.edges
  unfolding wire
  numbers = w.drawn.numbered

  pub corners_of_lem : (k : ℕ) → k < n → Is (mask_at corners k) (corner_mask d (loop_at (candidates d) k))
  corners_of_lem k h = mask_is (corner_mask d) corners (candidates d) w.corners_are k (omega (arith, w.count)) (corners_short range _)

  pub sides_of : (k : ℕ) → k < n → Is (mask_at sides k) (side_mask d (loop_at (candidates d) k))
  sides_of k h = mask_is (side_mask d) sides (candidates d) w.sides_are k (omega (arith, w.count)) (sides_short range _)

  pub near_of : (a : ℕ) → a < length d.vertices → Is (mask_at near-words a) (near_mask d a)
  unfolding near_mask near wire
  near_of a h =
      let v : length d.vertices ≡ length xyz / 3 = omega (arith, vertices_are range, range.points.whole) in
      subst (λ (l : List ℕ). Is (mask_at l a) (near_mask d a)) (sym w.drawn.near_are)
      (near_is d (length xyz / 3) v (omega (arith, few_vertices_lem)) a (omega (arith, few_vertices_lem)))

  -- ---- what each maker asks for

  abbrev pub as_edges : Edges.DrawnCandidates rows n number
  as_edges = record {
    drawing = d;
    small = record { vertices = few_vertices_lem; edges = few_edges_lem; numbered = numbers };
    upward = upward_of range;
    loops = candidates d;
    of = candidates_of_lem d;
    held = w.held;
    count = w.count;
    most = w.most;
  }

  abbrev pub as_corners : CornersOf corners n
  as_corners = record {
    drawing = d;
    small = few_vertices_lem;
    loops = candidates d;
    count = w.count;
    most = w.most;
    each = corners_of_lem;
  }

  abbrev pub as_faces : DrawnFaces xyz rows n
  as_faces = record {
    ends = w.ends;
    range = range;
    loops = candidates d;
    of = candidates_of_lem d;
    held = w.held;
    count = w.count;
    most = w.most;
  }

  -- with what the makers before it made
  abbrev pub as_clashes : {on up at : List ℕ} {normals sixes₀ sixes : List ℤ} → ((x : Edges.DrawnCandidates rows n number) → Edges.EdgeWords x on up)
      → ((x : CornersOf corners n) → VertexWords x at) → ((x : DrawnFaces xyz rows n) → PartsOf x normals sixes₀ sixes)
      → ClashLent xyz rows near-words number on at corners sides normals n
  as_clashes e v p = record {
    all = record {
      faces = as_faces;
      numbered = numbers;
      on_are = (e as_edges).on_are;
      near_are = near_of;
      at_are = v as_corners;
      own_are = corners_of_lem;
      normals_are = (p as_faces).normals_are;
    };
    sides_are = sides_of;
    passed = w.drawn.passed;
    are = refl;
  }
