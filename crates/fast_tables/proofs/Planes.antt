-- The plane that the loop search goes by is the plane of the loop's normal.
use mathlib.Core.Path.{◌≡◌, refl, sym, ap, ap₂, ◌∙◌}
use mathlib.Core.Bool.{Bool, true}
use mathlib.Core.Logic.{◌⊎◌, inl, inr}
use mathlib.Core.Option.{none}
use mathlib.Core.List.{List, [], ◌∷◌, ◌++◌, map}
use Prim.Native.Nat.{ℕ, zero, suc, ◌<◌}
use native.Mathlib.Nat.{eq-or-lt_of_le}
use native.Mathlib.Omega.{arith}
use lib.Dec.{eqb}
use lib.ListN.{length, get_or, take, length-map, length-append, get_or-append}
use lib.Seq.{take-length, take-append-le, get_or-append_seam}
use Rattle.lists.specs.Lists.{upto}
use Rattle.lists.proofs.Agreeing.{map_same}
use Rattle.lists.proofs.Passing.{all_yes}
use Rattle.lists.proofs.Truth.{same_truth}
use Rattle.sets.specs.Word.{count, less}
use Rattle.paper.specs.Points.{origin, minus, dot, is_zero}
use Rattle.paper.specs.Polygon.{Polygon, normal, corner, plane_side, one_plane}
use Rattle.paper.specs.Drawing.{Wire, at, same_place, edge_meets}
use Rattle.paper.specs.Loops.{Loop, level, loops, polygon, loop_at}
use Rattle.paper_laws.proofs.Points.{zero_yes, zero_is, across_too, dot-less}
use Rattle.means_loops.specs.Loop.{IsLoop}
use Rattle.means_loops.specs.Plane.{InPlane}
use Rattle.means_loops.proofs.Listing.{loops_are}
use Rattle.means_loops.proofs.Planes.{level_plane, plane_level, places_differ, loop_plane_lem}
use Rattle.means_loops.proofs.OwnPlane.{normal-across, corner-at, less-dot, own_plane}
use Rattle.means_area.proofs.Loops.{normal_real}
use Rattle.fast_tables.specs.Hits.{corner_mask}
use Rattle.fast_tables.specs.Asked.{loop_plane, level_with}

module _ (d : Wire) (r11 : same_place d ≡ none) (w : ℕ) where
  abbrev more : Loop → Loop
  more l = l ++ w ∷ []

  -- ---- a vertex is level with a loop just where the loop and the vertex are in one plane

  module _ (a b : ℕ) (r : List ℕ) (c : IsLoop d (a ∷ b ∷ r)) where
    two : at d a ≡ at d b → ⊥
    two =
        places_differ d r11 a b (c.inside 0 (omega arith)) (c.inside 1 (omega arith))
        (λ e. absurd (omega (arith, c.different 0 1 (omega arith) (omega arith) e)))

    last_is : level d (a ∷ b ∷ take (length r) (more r)) (get_or (more r) (length r) 0) ≡ level d (a ∷ b ∷ r) w
    last_is =
        ap₂ (λ (t : List ℕ) (v : ℕ). level d (a ∷ b ∷ t) v) (take-append-le (length r) r (w ∷ []) (omega arith) ∙ take-length r)
        (get_or-append_seam r w [] 0)

    level_in : level d (a ∷ b ∷ r) w ≡ true → InPlane (polygon d (a ∷ b ∷ more r))
    level_in e = level_plane d a b (more r) two (λ j h. go j (eq-or-lt_of_le (omega (arith, h, length-append r (w ∷ [])))))
      where
        go : (j : ℕ) → (j ≡ length r) ⊎ (j < length r) → level d (a ∷ b ∷ take j (more r)) (get_or (more r) j 0) ≡ true
        go j (inl q) = ap (λ (i : ℕ). level d (a ∷ b ∷ take i (more r)) (get_or (more r) i 0)) q ∙ last_is ∙ e
        go j (inr q) =
            ap₂ (λ (t : List ℕ) (v : ℕ). level d (a ∷ b ∷ t) v) (take-append-le j r (w ∷ []) (omega arith))
            (get_or-append r (w ∷ []) 0 j q)
            ∙ c.plane (suc (suc j)) (omega arith) (omega arith)

    in_level : InPlane (polygon d (a ∷ b ∷ more r)) → level d (a ∷ b ∷ r) w ≡ true
    in_level y = sym last_is ∙ plane_level d a b (more r) two y (length r) (omega (arith, length-append r (w ∷ [])))

  -- ---- and just where it is in the plane of the normal

  low-is : (l : Loop) (i : ℕ) → i < length l → get_or (polygon d (more l)) i origin ≡ get_or (polygon d l) i origin
  unfolding polygon
  low-is [] i h = absurd (omega arith)
  low-is (a ∷ l) zero h = refl
  low-is (a ∷ l) (suc i) h = low-is l i (omega arith)

  new_is : (l : Loop) → get_or (polygon d (more l)) (length l) origin ≡ at d w
  unfolding polygon
  new_is [] = refl
  new_is (a ∷ l) = new_is l

  long : (l : Loop) → length (polygon d l) ≡ length l
  unfolding polygon
  long l = length-map l (at d)

  module _ (l : Loop) (c : IsLoop d l) where
    abbrev g : Polygon
    g = polygon d l

    in_side : InPlane (polygon d (more l)) → is_zero (plane_side g (at d w)) ≡ true
    unfolding plane_side
    in_side y =
        let n = long (more l) in
        let m = length-append l (w ∷ []) in
        let low : (i : ℕ) → i < length g → dot y.across (get_or g i origin) ≡ y.height
        = λ i h. ap (dot y.across) (sym (low-is l i (omega (arith, h, long l)))) ∙ y.every i (omega (arith, h, n, m, long l)) in
        zero_is
        (across_too y.across (normal g) (minus (at d w) (corner g)) y.real (normal-across y.across y.height g low)
        (less-dot y.across (at d w) (corner g) y.height (ap (dot y.across) (sym (new_is l)) ∙ y.every (length l) (omega (arith, n, m)))
        (ap (dot y.across) (corner-at g) ∙ low 0 (omega (arith, c.three, long l)))))

    side_in : (normal g ≡ origin → ⊥) → is_zero (plane_side g (at d w)) ≡ true → InPlane (polygon d (more l))
    unfolding one_plane plane_side
    side_in rg e = record {
      across = normal g;
      height = dot (normal g) (corner g);
      real = rg;
      every = λ i h. go i (eq-or-lt_of_le (omega (arith, h, long (more l), length-append l (w ∷ []))));
    }
      where
        own : one_plane g g ≡ true
        own = own_plane g (loop_plane_lem d r11 l c) (omega (arith, c.three, long l))

        go : (i : ℕ) → (i ≡ length l) ⊎ (i < length l) → dot (normal g) (get_or (polygon d (more l)) i origin) ≡ dot (normal g) (corner g)
        go i (inl q) =
            ap (λ (j : ℕ). dot (normal g) (get_or (polygon d (more l)) j origin)) q ∙ ap (dot (normal g)) (new_is l)
            ∙ dot-less (normal g) (at d w) (corner g) (zero_yes (plane_side g (at d w)) e)
        go i (inr q) =
            ap (dot (normal g)) (low-is l i q)
            ∙ dot-less (normal g) (get_or g i origin) (corner g) (zero_yes (plane_side g (get_or g i origin))
            (all_yes (λ p. is_zero (plane_side g p)) origin g own i (omega (arith, q, long l))))

  closed_plane : (l : Loop) → IsLoop d l → (normal (polygon d l) ≡ origin → ⊥) → is_zero (plane_side (polygon d l) (at d w)) ≡ level d l w
  closed_plane [] c rg = absurd (let h = c.three in omega arith)
  closed_plane (a ∷ []) c rg = absurd (let h = c.three in omega arith)
  closed_plane (a ∷ (b ∷ r)) c rg =
      same_truth _ _ (λ e. in_level a b r c (side_in (a ∷ b ∷ r) c rg e)) (λ e. in_side (a ∷ b ∷ r) c (level_in a b r c e))

-- the word of the search's plane is that of the normal's, for a loop with a normal
pub search_plane : (d : Wire) → same_place d ≡ none → (i : ℕ) → i < length (loops d)
    → (normal (polygon d (loop_at (loops d) i)) ≡ origin → ⊥)
    → loop_plane d (loop_at (loops d) i) ≡ map (level d (loop_at (loops d) i)) (upto (length d.vertices))
unfolding loop_plane
search_plane d r11 i h rg =
    let l = loop_at (loops d) i in
    map_same (λ w. is_zero (plane_side (polygon d l) (at d w))) (level d l) (length d.vertices)
    (λ w k. closed_plane d r11 w l (loops_are d i h) rg)

-- and so for every loop of a drawing that passes 11 and 13
pub drawing_plane : (d : Wire) → same_place d ≡ none → edge_meets d ≡ none → (i : ℕ) → i < length (loops d)
    → loop_plane d (loop_at (loops d) i) ≡ map (level d (loop_at (loops d) i)) (upto (length d.vertices))
drawing_plane d r11 r13 i h = search_plane d r11 i h (normal_real d r11 r13 i h)

-- so corners are compared with the search's word
pub level-search : (d : Wire) → same_place d ≡ none → edge_meets d ≡ none → (i : ℕ) → i < length (loops d) → (k : Loop)
    → level_with d (loop_at (loops d) i) k ≡ eqb
    (count (less (corner_mask d k) (map (level d (loop_at (loops d) i)) (upto (length d.vertices))))) 0
unfolding level_with
level-search d r11 r13 i h k = ap (λ (mask : List Bool). eqb (count (less (corner_mask d k) mask)) 0) (drawing_plane d r11 r13 i h)
