-- The masks of rules A and B as folds over the vertices above a plane and over those to ask in it.
use mathlib.Core.Bool.{Bool, true, false, cond}
use mathlib.Core.Path.{◌≡◌, refl, sym, subst, ◌∙◌}
use mathlib.Core.List.{List, [], ◌∷◌, map}
use Prim.Native.Nat.{ℕ, ◌≤◌, ◌<◌}
use lib.IntN.{ℤ}
use native.Mathlib.Omega.{arith}
use lib.ListN.{length, length-map}
use Rattle.lists.specs.Lists.{upto, member}
use Rattle.lists.proofs.Truth.{and_left}
use Rattle.lists.proofs.Places.{upto_length}
use Rattle.sets.specs.Word.{dig, both, either, less}
use Rattle.sets.specs.Kinds.{Joint, First, SetAt}
use Rattle.sets.specs.Sets.{Is, one_word}
use Rattle.sets.specs.declared.Set.{Set}
use Rattle.sets.proofs.Laws.{at-is}
use Rattle.sets.proofs.Digits.{dig-less, length_either}
use Rattle.paper.specs.Numbers.{most_vertices}
use Rattle.paper.specs.Points.{is_zero, above}
use Rattle.paper.specs.Polygon.{plane_side, exactly, lies, is_inside}
use Rattle.paper.specs.Drawing.{Wire, edge, at}
use Rattle.paper.specs.Loops.{Loop, polygon}
use Rattle.paper.specs.Solids.{has}
use Rattle.paper.specs.declared.Point.{Point}
use Rattle.fast_tables.specs.Hits.{edge_pierces, corner_mask}
use Rattle.fast_tables.specs.Asked.{loop_plane}
use Rattle.fast_tables.specs.Words.{ones, gathered, near_mask, above_mask, below_mask, down_from, going_down, through_mask, inside_mask}
use Rattle.fast_tables.proofs.Counts.{map_yes}
use Rattle.walk_clashes.specs.declared.hits.Sides.{Sides}
use Rattle.walk_clashes.specs.Lent.{DownLent, DownStart, DownJoins, PierceLent, VertexLent, VertexJoins, EnterLent, wire_of, all_of, known_loop}
use Rattle.walk_clashes.proofs.Folding.{folded, Left, left-start, left-known, left-next}
use Rattle.walk_clashes.proofs.Crossed.{gathered_fold, vertex_low}

-- what is gathered is no longer than the masks that it is gathered of
gathered_long : (n : ℕ) (test : ℕ → Bool) (mask : ℕ → List Bool) → ((x : ℕ) → length (mask x) ≤ n) → (xs : List ℕ) (s : List Bool) → length s ≤ n
    → length (gathered test mask xs s) ≤ n
unfolding gathered
gathered_long n test mask h [] s l = l
gathered_long n test mask h (x ∷ xs) s l =
    gathered_long n test mask h xs (either s (cond (test x) (mask x) [])) (length_either n s (cond (test x) (mask x) []) l (go (test x)))
  where
    go : (b : Bool) → length (cond b (mask x) []) ≤ n
    go true = h x
    go false = omega arith

module _ (d : Wire) (cs : List Loop) (l : Loop) where
  -- a digit of a mask of the vertices is a vertex
  vertex : (test : ℕ → Bool) (v : ℕ) → dig (map test (upto (length d.vertices))) v ≡ true → v < length d.vertices
  vertex test v t =
      let n = length d.vertices in
      omega (arith, (map_yes test 0 (upto n) v t).0, upto_length n)

  -- ---- A
  pub above_low : (a : ℕ) → dig (above_mask d l) a ≡ true → a < length d.vertices
  unfolding above_mask
  above_low a t = vertex (λ v. above (plane_side (polygon d l) (at d v))) a t

  going_fold : (xs : List ℕ) (s : List Bool) → folded (down_from d cs l) xs s ≡ going_down d cs l xs s
  unfolding folded going_down
  going_fold [] s = refl
  going_fold (a ∷ xs) s = going_fold xs (down_from d cs l a s)

  pub through_fold : folded (down_from d cs l) (ones (length d.vertices) (above_mask d l)) [] ≡ through_mask d cs l
  unfolding through_mask
  through_fold = going_fold (ones (length d.vertices) (above_mask d l)) []

  -- ---- B
  abbrev pub asked_mask : List Bool
  asked_mask = less (loop_plane d l) (corner_mask d l)

  abbrev pub enter_step : ℕ → List Bool → List Bool
  enter_step v s = either s (cond (is_inside (lies (exactly (at d v)) (polygon d l))) (map (member v) cs) [])

  pub asked_low : (v : ℕ) → dig asked_mask v ≡ true → v < length d.vertices
  unfolding loop_plane
  asked_low v t =
      vertex (λ u. is_zero (plane_side (polygon d l) (at d u))) v
      (and_left (dig (loop_plane d l) v) _ (sym (dig-less (loop_plane d l) (corner_mask d l) v) ∙ t))

  pub inside_fold : folded enter_step (ones (length d.vertices) asked_mask) [] ≡ inside_mask d cs l
  unfolding inside_mask
  inside_fold =
      gathered_fold (λ v. is_inside (lies (exactly (at d v)) (polygon d l))) (λ v. map (member v) cs) (ones (length d.vertices) asked_mask) []

  -- ---- both masks have a digit for each candidate at most
  down_long : (a : ℕ) (s : List Bool) → length s ≤ length cs → length (down_from d cs l a s) ≤ length cs
  unfolding down_from
  down_long a s h =
      gathered_long (length cs) (λ b. edge_pierces d l (edge a b)) (λ b. map (has (edge a b)) cs)
      (λ b. omega (arith, length-map cs (has (edge a b)))) (ones (length d.vertices) (both (near_mask d a) (below_mask d l))) s h

  going_long : (xs : List ℕ) (s : List Bool) → length s ≤ length cs → length (going_down d cs l xs s) ≤ length cs
  unfolding going_down
  going_long [] s h = h
  going_long (a ∷ xs) s h = going_long xs (down_from d cs l a s) (down_long a s h)

  pub through_long : length (through_mask d cs l) ≤ length cs
  unfolding through_mask
  through_long = going_long (ones (length d.vertices) (above_mask d l)) [] (omega arith)

  pub inside_long : length (inside_mask d cs l) ≤ length cs
  unfolding inside_mask
  inside_long =
      gathered_long (length cs) (λ v. is_inside (lies (exactly (at d v)) (polygon d l))) (λ v. map (member v) cs)
      (λ v. omega (arith, length-map cs (member v))) (ones (length d.vertices) asked_mask) [] (omega arith)

-- ---- the loop over the vertices above
module _ {xyz : List ℤ} {rows near number on : List ℕ} {g : ℕ} {m : Point} {s : Sides} (w : PierceLent xyz rows near number on g m s) where
  abbrev pub Going : Set → Set → Type 0
  Going =
      let k = w.lent.known in
      let d = wire_of k in
      Left (length d.vertices) (down_from d (all_of k) (known_loop k)) (above_mask d (known_loop k)) (above_low d (all_of k) (known_loop k))
      (through_mask d (all_of k) (known_loop k))

  pub going_start : {none : Set} → Is none [] → Going s.above none
  going_start {none} i =
      let k = w.lent.known in
      let d = wire_of k in
      let l = known_loop k in
      subst (λ (t : List Bool). Left (length d.vertices) (down_from d (all_of k) l) (above_mask d l) (above_low d (all_of k) l) t s.above none)
      (through_fold d (all_of k) l)
      (left-start (length d.vertices) (down_from d (all_of k) l) (above_mask d l) (above_low d (all_of k) l) [] w.above_is i)

  module _ {rest set : Set} (l : Going rest set) {a : ℕ} {rest' : Set} (p : First one_word rest rest' a) where
    low : a < length (wire_of w.lent.known).vertices
    low = let k = w.lent.known in above_low (wire_of k) (all_of k) (known_loop k) a (left-known l p)

    pub going_low : a < most_vertices
    going_low = vertex_low w.lent.known a low

    module _ {tied : Set} (e : SetAt one_word near a tied) {under : Set} (j : Joint one_word tied s.below under both) where
      down : DownLent xyz rows number on g m a under
      down = record { lent = w.lent; a_low = low; under_is = j _ _ (at-is e _ (w.near_are a low)) w.below_is }

      pub going_edges : DownStart xyz rows number on g m a under set
      going_edges = record { down = down; mask = l.set_now; mask_is = l.set_is }

      pub going_next : {r : Set} → ((v : DownLent xyz rows number on g m a under) → DownJoins v set r) → Going rest' r
      unfolding down
      going_next more = left-next l p (more down)

-- ---- the loop over the vertices to ask
module _ {xyz : List ℤ} {rows corner-words : List ℕ} {g : ℕ} {m : Point} {asked : Set} (w : EnterLent xyz rows corner-words g m asked) where
  abbrev pub Entering : Set → Set → Type 0
  Entering =
      let k = w.lent.known in
      let d = wire_of k in
      Left (length d.vertices) (enter_step d (all_of k) (known_loop k)) (asked_mask d (all_of k) (known_loop k))
      (asked_low d (all_of k) (known_loop k)) (inside_mask d (all_of k) (known_loop k))

  pub entering_start : {none : Set} → Is none [] → Entering asked none
  entering_start {none} i =
      let k = w.lent.known in
      let d = wire_of k in
      let cs = all_of k in
      let l = known_loop k in
      subst (λ (t : List Bool). Left (length d.vertices) (enter_step d cs l) (asked_mask d cs l) (asked_low d cs l) t asked none)
      (inside_fold d cs l) (left-start (length d.vertices) (enter_step d cs l) (asked_mask d cs l) (asked_low d cs l) [] w.asked_is i)

  module _ {rest set : Set} (l : Entering rest set) {v : ℕ} {rest' : Set} (p : First one_word rest rest' v) where
    pub entering_vertex : VertexLent xyz rows corner-words g m v
    entering_vertex =
        let k = w.lent.known in
        record { lent = w.lent; v_low = asked_low (wire_of k) (all_of k) (known_loop k) v (left-known l p) }

    pub entering_next : {r : Set} → ((e : VertexLent xyz rows corner-words g m v) → VertexJoins e set r) → Entering rest' r
    unfolding entering_vertex
    entering_next more = left-next l p (more entering_vertex)
