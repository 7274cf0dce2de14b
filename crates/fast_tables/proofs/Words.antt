-- The masks that are gathered have the digits of the definitions.
use mathlib.Core.Path.{◌≡◌, sym, ap, ap₂, ◌∙◌}
use mathlib.Core.Bool.{Bool, true, false, not, ◌&&◌, ◌||◌, and_comm, and-false, and_assoc, or-false, or_assoc}
use mathlib.Core.List.{List, [], ◌∷◌, map}
use Prim.Native.Nat.{ℕ, ◌<◌}
use lib.Dec.{ltb}
use lib.ListN.{length}
use Rattle.lists.specs.Lists.{any, upto, member}
use Rattle.lists.proofs.Places.{map_at, made_at, any-below-same}
use Rattle.sets.specs.Word.{dig, both, less}
use Rattle.sets.proofs.Digits.{dig-both, dig-either, dig-less}
use Rattle.paper.specs.Points.{is_zero, above, below}
use Rattle.paper.specs.Polygon.{plane_side, exactly, lies, is_inside}
use Rattle.paper.specs.Drawing.{Wire, edge, at, joined}
use Rattle.paper.specs.Loops.{Loop, polygon, loop_at}
use Rattle.paper.specs.Solids.{has}
use Rattle.fast_tables.specs.Paths.{Path}
use Rattle.fast_tables.specs.Hits.{edge_pierces, vertex_inside, pierced_by, entered_by, pierced_down, corner_mask, folds_with, hits}
use Rattle.fast_tables.specs.Asked.{loop_plane}
use Rattle.fast_tables.specs.Words.{ones, near_mask, above_mask, below_mask, down_from, going_down, through_mask, inside_mask, hit_mask}
use Rattle.fast_tables.proofs.Directed.{pierced_down_lem}
use Rattle.fast_tables.proofs.Ones.{dig-gathered, any-ones}

module _ (d : Wire) (cs : List Loop) (l : Loop) (j : ℕ) (h : j < length cs) where
  abbrev n : ℕ
  n = length d.vertices

  abbrev k : Loop
  k = loop_at cs j

  abbrev up : ℕ → Bool
  up a = above (plane_side (polygon d l) (at d a))

  abbrev down : ℕ → Bool
  down b = below (plane_side (polygon d l) (at d b))

  -- an edge goes down from a to a vertex below
  abbrev falls : ℕ → Bool
  falls a = any (λ b. down b && (joined d a b && (edge_pierces d l (edge a b) && has (edge a b) k))) (upto n)

  down_is : (a : ℕ) (w : List Bool) → dig (down_from d cs l a w) j ≡ (dig w j || falls a)
  unfolding down_from near_mask below_mask
  down_is a w =
      dig-gathered (λ b. edge_pierces d l (edge a b)) (λ b. map (has (edge a b)) cs) (ones n (both (near_mask d a) (below_mask d l))) w j
      ∙ ap (λ (t : Bool). dig w j || t)
      (any-ones (λ b. edge_pierces d l (edge a b) && dig (map (has (edge a b)) cs) j) n (both (near_mask d a) (below_mask d l))
      ∙ any-below-same
      (λ b. dig (both (near_mask d a) (below_mask d l)) b && (edge_pierces d l (edge a b) && dig (map (has (edge a b)) cs) j)) n
      (λ b. down b && (joined d a b && (edge_pierces d l (edge a b) && has (edge a b) k))) each)
    where
      swap : (p q r : Bool) → ((p && q) && r) ≡ (q && (p && r))
      swap p q r = ap (λ (t : Bool). t && r) (and_comm p q) ∙ and_assoc q p r

      each : (b : ℕ) → b < n
          → (dig (both (near_mask d a) (below_mask d l)) b && (edge_pierces d l (edge a b) && dig (map (has (edge a b)) cs) j))
          ≡ (down b && (joined d a b && (edge_pierces d l (edge a b) && has (edge a b) k)))
      each b hb =
          let s : dig (both (near_mask d a) (below_mask d l)) b ≡ (joined d a b && down b)
          = dig-both (near_mask d a) (below_mask d l) b ∙ ap₂ ◌&&◌ (made_at (joined d a) n b false hb) (made_at down n b false hb) in
          let t : dig (map (has (edge a b)) cs) j ≡ has (edge a b) k = map_at (has (edge a b)) cs j [] false h in
          (λ i. s i && (edge_pierces d l (edge a b) && t i))
          ∙ swap (joined d a b) (down b) (edge_pierces d l (edge a b) && has (edge a b) k)

  going_is : (xs : List ℕ) (w : List Bool) → dig (going_down d cs l xs w) j ≡ (dig w j || any falls xs)
  unfolding going_down any
  going_is [] w = sym (or-false (dig w j))
  going_is (a ∷ xs) w =
      going_is xs (down_from d cs l a w) ∙ ap (λ (t : Bool). t || any falls xs) (down_is a w) ∙ or_assoc (dig w j) (falls a) (any falls xs)

  through_is : dig (through_mask d cs l) j ≡ pierced_down d l k
  unfolding through_mask above_mask pierced_down
  through_is =
      going_is (ones n (above_mask d l)) [] ∙ any-ones falls n (above_mask d l)
      ∙ any-below-same (λ a. dig (above_mask d l) a && falls a) n (λ a. up a && falls a)
      (λ a ha. ap (λ (t : Bool). t && falls a) (made_at up n a false ha))

  inside_is : dig (inside_mask d cs l) j ≡ entered_by d l k
  unfolding inside_mask entered_by vertex_inside loop_plane corner_mask
  inside_is =
      dig-gathered inner (λ v. map (member v) cs) (ones n (less (loop_plane d l) (corner_mask d l))) [] j
      ∙ any-ones (λ v. inner v && dig (map (member v) cs) j) n (less (loop_plane d l) (corner_mask d l))
      ∙ any-below-same (λ v. dig (less (loop_plane d l) (corner_mask d l)) v && (inner v && dig (map (member v) cs) j)) n
      (λ v. member v k && (not (member v l) && (flat v && inner v))) each
    where
      inner : ℕ → Bool
      inner v = is_inside (lies (exactly (at d v)) (polygon d l))

      flat : ℕ → Bool
      flat v = is_zero (plane_side (polygon d l) (at d v))

      swap : (f o i m : Bool) → ((f && o) && (i && m)) ≡ (m && (o && (f && i)))
      swap true true i m = and_comm i m
      swap true false i m = sym (and-false m)
      swap false o i m = sym (ap (λ (t : Bool). m && t) (and-false o) ∙ and-false m)

      each : (v : ℕ) → v < n
          → (dig (less (loop_plane d l) (corner_mask d l)) v && (inner v && dig (map (member v) cs) j))
          ≡ (member v k && (not (member v l) && (flat v && inner v)))
      each v hv =
          let s : dig (less (loop_plane d l) (corner_mask d l)) v ≡ (flat v && not (member v l))
          = dig-less (loop_plane d l) (corner_mask d l) v
          ∙ ap₂ (λ (x y : Bool). x && not y) (made_at flat n v false hv) (made_at (λ v. member v l) n v false hv) in
          let t : dig (map (member v) cs) j ≡ member v k = map_at (member v) cs j [] false h in
          (λ i. s i && (inner v && t i)) ∙ swap (flat v) (not (member v l)) (inner v) (member v k)

-- the digits of the masks that are gathered
pub hit_row : (d : Wire) (cs : List Loop) (i j : ℕ) → j < length cs → Path d (loop_at cs j)
    → dig (hit_mask d cs i) j ≡ (pierced_by d (loop_at cs i) (loop_at cs j) || entered_by d (loop_at cs i) (loop_at cs j))
unfolding hit_mask
hit_row d cs i j h path =
    dig-either (through_mask d cs (loop_at cs i)) (inside_mask d cs (loop_at cs i)) j
    ∙ ap₂ ◌||◌ (through_is d cs (loop_at cs i) j h ∙ sym (pierced_down_lem d (loop_at cs i) (loop_at cs j) path))
    (inside_is d cs (loop_at cs i) j h)

-- so two candidates clash where one is in the other's mask, or they fold
pub hits_rows : (d : Wire) (cs : List Loop) (i j : ℕ) → i < length cs → j < length cs → Path d (loop_at cs i) → Path d (loop_at cs j)
    → hits d cs i j
    ≡ (dig (hit_mask d cs i) j || dig (hit_mask d cs j)
    i || (ltb i j && folds_with d (loop_at cs i) (loop_at cs j) || ltb j i && folds_with d (loop_at cs j) (loop_at cs i)))
unfolding hits
hits_rows d cs i j hi hj pi pj =
    ap₂
    (λ (x y : Bool). x || y || (ltb i j && folds_with d (loop_at cs i) (loop_at cs j) || ltb j i && folds_with d (loop_at cs j) (loop_at cs i)))
    (sym (hit_row d cs i j hj pj)) (sym (hit_row d cs j i hi pi))
