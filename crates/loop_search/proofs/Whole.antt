-- The whole search: what the loop over the starts keeps, and that the rooms hold the drawing's loops in the end.
use mathlib.Core.List.{List, [], ◌∷◌, ◌++◌, map, flat_map}
use mathlib.Core.Path.{◌≡◌, refl, sym, ap, ◌∙◌, subst}
use Prim.Native.Nat.{ℕ, zero, suc, ◌+◌, ◌*◌, ◌-◌, ◌≤◌, ◌<◌, min}
use native.Mathlib.Omega.{arith}
use lib.IntN.{ℤ}
use lib.ListN.{length, take, drop, length-map}
use Rattle.lists.specs.After.{after}
use Rattle.lists.specs.Lists.{any, upto}
use Rattle.lists.proofs.Places.{made_at, upto_length}
use Rattle.sets.specs.Word.{word}
use Rattle.sets.specs.Sets.{packed_set}
use Rattle.paper.specs.Numbers.{most_loops, row_bytes, most_vertices}
use Rattle.paper.specs.Drawing.{Wire, joins, joined}
use Rattle.paper.specs.Loops.{loops}
use Rattle.paper_laws.specs.InRange.{Points}
use Rattle.drawing_links.specs.Neighbours.{neighbour_word, neighbour_words}
use Rattle.fast_search.specs.Search.{InItsPlane, near, in_its_plane}
use Rattle.fast_search.specs.Bare.{bare_seconds, bare_starts, bare_search}
use Rattle.fast_search.proofs.Bare.{bare_is}
use Rattle.fast_search.proofs.Turns.{bare_starts-next, bare_starts-end}
use Rattle.loop_search.specs.Rooms.{Rooms, rooms, Sized, loop_row, plane_word, HoldsLoops, Adds, Found}
use Rattle.loop_search.specs.Paths.{NearWords}
use Rattle.loop_search.specs.Lines.{DrawnWith}
use Rattle.loop_search.specs.Starts.{no_path, Started, SearchAt, ClearDrawing}
use Rattle.loop_search.proofs.Filling.{adds_none, adds_then}
use Rattle.loop_search.proofs.Drawn.{vertices_length}

-- ---- what the loop keeps: the rest of the starts makes what was met the whole
pub record Searching (xyz : List ℤ) (words : List ℕ) (v : ℕ) (r₀ : Rooms) (path : List ℕ) (r : Rooms) (s : ℕ) : Type 0 where
  pub sized : Sized r
  pub empty : path ≡ no_path
  pub reached : s ≤ v
  pub met : (d : Wire) → DrawnWith d xyz words
      → (ls : List InItsPlane) × Adds r₀ r ls × (ls ++ bare_starts d s (length d.vertices - s) ≡ bare_search d)

pub searching_start : (xyz : List ℤ) (words : List ℕ) (v : ℕ) (r₀ : Rooms) → Sized r₀ → Searching xyz words v r₀ no_path r₀ 0
unfolding bare_search
searching_start xyz words v r₀ z = record {
  sized = z;
  empty = refl;
  reached = omega arith;
  met = λ d n. let e : length d.vertices - 0 ≡ length d.vertices = omega arith in ([], adds_none, ap (bare_starts d 0) e);
}

module _ {xyz : List ℤ} {words : List ℕ} {v : ℕ} (points : Points xyz v) {r₀ r : Rooms} {path : List ℕ} {s : ℕ}
    (k : Searching xyz words v r₀ path r s) where
  pub searching_next : {r' : Rooms} {path' : List ℕ} → s < v → Started xyz words s r r' path path' → Searching xyz words v r₀ path' r' (s + 1)
  searching_next {r'} h t = record {
    sized = t.sized;
    empty = t.path_is ∙ k.empty;
    reached = omega arith;
    met = λ d n.
        let m = k.met d n in
        let e : suc s ≡ s + 1 = omega arith in
        let b : s < length d.vertices = omega (arith, vertices_length points d n.vertices_are) in (
          m.0 ++ bare_seconds d s,
          adds_then m.0 (bare_seconds d s) m.1 (t.adds d n),
          ap (λ (i : ℕ). (m.0 ++ bare_seconds d s) ++ bare_starts d i (length d.vertices - i)) (sym e)
              ∙ bare_starts-next d s m.0 (bare_search d) b m.2,
        );
  }

-- ---- the words of neighbours
pub near_is : (d : Wire) (v : ℕ) → length d.vertices ≡ v → v ≤ most_vertices → NearWords d (neighbour_words d.edges v)
unfolding neighbour_words neighbour_word near joined packed_set
near_is d v n few u h =
    record {
      short = omega (arith, length-map (upto (length d.vertices)) (λ w. any (joins u w) d.edges), upto_length (length d.vertices));
      words =
          ap (λ (m : ℕ). record { word = m })
          (made_at (λ i. word (map (λ w. any (joins i w) d.edges) (upto v))) most_vertices u 0 h
          ∙ ap (λ (m : ℕ). word (map (λ w. any (joins u w) d.edges) (upto m))) (sym n));
    }

-- ---- what is written of loops that are made of others
module _ {A B : Type 0} (g : A → B) where
  take-map : (k : ℕ) (xs : List A) → take k (map g xs) ≡ map g (take k xs)
  take-map zero xs = refl
  take-map (suc k) [] = refl
  take-map (suc k) (x ∷ xs) = ap (λ (l : List B). g x ∷ l) (take-map k xs)

  each_map : (f : B → List ℕ) (xs : List A) → flat_map f (map g xs) ≡ flat_map (λ x. f (g x)) xs
  unfolding flat_map
  each_map f [] = refl
  each_map f (x ∷ xs) = ap (λ (l : List ℕ). f (g x) ++ l) (each_map f xs)

  after_map : (f : B → List ℕ) (k n : ℕ) (xs : List A) (room : List ℕ)
      → after f k (take n (map g xs)) room ≡ after (λ x. f (g x)) k (take n xs) room
  after_map f k n xs room =
      ap (λ (l : List B). after f k l room) (take-map n xs)
      ∙ (λ i. each_map f (take n xs) i ++ drop (k * length-map (take n xs) g i) room)

-- ---- all starts are gone through

holds-none : (table planes : List ℕ) → HoldsLoops (rooms table planes 0) (rooms table planes 0) []
unfolding flat_map
holds-none table planes = record {
  short = λ i h m. absurd (omega arith);
  table_is = refl;
  planes_is = refl;
  count_is = refl;
}

pub searching_end : {xyz : List ℤ} {v : ℕ} {table planes : List ℕ} (g : SearchAt xyz v table planes) (words : List ℕ) {r : Rooms}
    {path : List ℕ} {s : ℕ} → Searching xyz words v (rooms table planes 0) path r s → v ≤ s
    → (d : Wire) → ClearDrawing d xyz v words → Found d table planes r.table r.planes r.count
searching_end {xyz} {v} {table} {planes} g words {r} {path} {s} k h d c =
    let n : length d.vertices ≡ v = vertices_length g.points d c.vertices_are in
    let drawn : DrawnWith d xyz words = record {
      vertices_are = c.vertices_are;
      near_are = subst (NearWords d) (sym c.words_are) (near_is d v n g.few);
    } in
    let m = k.met d drawn in
    let all : m.0 ≡ map (in_its_plane d) (loops d)
    = bare_starts-end d s m.0 (bare_search d) (omega arith) m.2 ∙ bare_is d c.places c.meets in
    let held : HoldsLoops (rooms table planes 0) r (map (in_its_plane d) (loops d))
    = subst (HoldsLoops (rooms table planes 0) r) all (m.1 (rooms table planes 0) g.sized [] (holds-none table planes)) in
    record {
      table_is = held.table_is ∙ after_map (in_its_plane d) loop_row row_bytes most_loops (loops d) table;
      planes_is = held.planes_is ∙ after_map (in_its_plane d) plane_word 1 most_loops (loops d) planes;
      count_is = held.count_is ∙ ap (min (suc most_loops)) (length-map (loops d) (in_its_plane d));
    }
