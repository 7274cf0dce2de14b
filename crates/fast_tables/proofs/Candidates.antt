-- Candidates by a search that asks each edge at most once for each loop.
use mathlib.Core.Path.{◌≡◌, refl, sym, ap, ap₂, ◌∙◌}
use mathlib.Core.Bool.{Bool, true, false, not, ◌&&◌, ◌||◌, true≢false, and_assoc}
use mathlib.Core.List.{List, [], map}
use Prim.Native.Nat.{ℕ, ◌<◌}
use native.Mathlib.Omega.{arith}
use borrow.Author.Tests.{eq-eqb, eqb-true}
use lib.Dec.{eqb}
use lib.ListN.{length, get_or}
use Rattle.lists.specs.Lists.{any, all, filter, upto, member}
use Rattle.lists.proofs.Truth.{and_left, same_truth}
use Rattle.lists.proofs.Places.{map_at, made_at, any-below-same, upto_length, upto-at}
use Rattle.lists.proofs.Agreeing.{filter_same}
use Rattle.lists.proofs.Passing.{any_yes, any_is, all_yes, all_is, some_yes, some_is}
use Rattle.sets.specs.Word.{dig, count, less}
use Rattle.sets.proofs.Digits.{dig-less, count_none, count-empty}
use Rattle.paper.specs.Points.{is_zero}
use Rattle.paper.specs.Polygon.{plane_side, covers}
use Rattle.paper.specs.Drawing.{Wire, Edge, edge, at, edge_at}
use Rattle.paper.specs.Loops.{Loop, polygon, loop_at, covers_other, uncovering}
use Rattle.paper.specs.Solids.{has}
use Rattle.fast_tables.specs.Paths.{Path}
use Rattle.fast_tables.specs.Hits.{corner_mask, side_mask}
use Rattle.fast_tables.specs.Covers.{middle_outside, in_plane_of}
use Rattle.fast_tables.specs.Asked.{KnownEdges, loop_plane, level_with, covers_by_answers}
use Rattle.fast_tables.proofs.Counts.{map_yes}
use Rattle.fast_tables.proofs.Covers.{own_middle, covers_edges}
use Rattle.fast_tables.proofs.Asked.{Right, leaves, searched_is}

module _ (d : Wire) where
  -- ---- the plane as a mask
  pub level_with_lem : (l k : Loop) → in_plane_of d l k ≡ level_with d l k
  unfolding in_plane_of level_with corner_mask loop_plane
  level_with_lem l k = same_truth _ _ forth back
    where
      n : ℕ
      n = length d.vertices

      flat : ℕ → Bool
      flat v = is_zero (plane_side (polygon d l) (at d v))

      mask : List Bool
      mask = less (map (λ v. member v k) (upto n)) (map flat (upto n))

      at_row : (v : ℕ) → v < n → dig mask v ≡ (member v k && not (flat v))
      at_row v h = dig-less (map (λ v. member v k) (upto n)) (map flat (upto n)) v
          ∙ (λ i. made_at (λ v. member v k) n v false h i && not (made_at flat n v false h i))

      clear : (b c : Bool) → (not b || c) ≡ true → (b && not c) ≡ true → ⊥
      clear true true p q = true≢false (sym q)
      clear true false p q = true≢false (sym p)
      clear false c p q = true≢false (sym q)

      given : (b c : Bool) → ((b && not c) ≡ true → ⊥) → (not b || c) ≡ true
      given true true f = refl
      given true false f = absurd (f refl)
      given false c f = refl

      forth : all (λ v. not (member v k) || flat v) (upto n) ≡ true → eqb (count mask) 0 ≡ true
      forth e = eq-eqb (count mask) 0 (count-empty mask none)
        where
          none : (v : ℕ) → dig mask v ≡ true → ⊥
          none v t =
              let s = and_left (dig (map (λ v. member v k) (upto n)) v) (not (dig (map flat (upto n)) v))
              (sym (dig-less (map (λ v. member v k) (upto n)) (map flat (upto n)) v) ∙ t) in
              let r = map_yes (λ v. member v k) 0 (upto n) v s in
              let q = r.0 in
              let h : v < n = omega (arith, q, upto_length n) in
              clear (member v k) (flat v) (ap (λ (w : ℕ). not (member w k) || flat w) (sym (upto-at n v h))
              ∙ all_yes (λ v. not (member v k) || flat v) 0 (upto n) e v q) (sym (at_row v h) ∙ t)

      back : eqb (count mask) 0 ≡ true → all (λ v. not (member v k) || flat v) (upto n) ≡ true
      back e = all_is (λ v. not (member v k) || flat v) 0 (upto n) (λ i h. each i (omega (arith, h, upto_length n)))
        where
          each : (i : ℕ) → i < n → (not (member (get_or (upto n) i 0) k) || flat (get_or (upto n) i 0)) ≡ true
          each i h =
              ap (λ (w : ℕ). not (member w k) || flat w) (upto-at n i h)
              ∙ given (member i k) (flat i) (λ t. count_none mask (eqb-true (count mask) 0 e) i (at_row i h ∙ t))

  -- ---- the edges of a loop as a mask
  edges_row : (l k : Loop) → any (λ e. has e k && middle_outside d l e) d.edges ≡ leaves (length d.edges)
      (λ e. middle_outside d l (edge_at d e)) (side_mask d k)
  unfolding side_mask edge_at
  edges_row l k = same_truth _ _ forth back
    where
      m : ℕ
      m = length d.edges

      here : ℕ → Edge
      here e = get_or d.edges e (edge 0 0)

      forth : any (λ e. has e k && middle_outside d l e) d.edges ≡ true
          → any (λ e. dig (map (λ e. has e k) d.edges) e && middle_outside d l (here e)) (upto m) ≡ true
      forth t =
          let r = any_yes (λ e. has e k && middle_outside d l e) (edge 0 0) d.edges t in
          let e = r.0 in
          some_is (λ e. dig (map (λ e. has e k) d.edges) e && middle_outside d l (here e)) m e r.1
          (ap (λ (b : Bool). b && middle_outside d l (here e)) (map_at (λ e. has e k) d.edges e (edge 0 0) false r.1) ∙ r.2)

      back : any (λ e. dig (map (λ e. has e k) d.edges) e && middle_outside d l (here e)) (upto m) ≡ true
          → any (λ e. has e k && middle_outside d l e) d.edges ≡ true
      back t =
          let r = some_yes (λ e. dig (map (λ e. has e k) d.edges) e && middle_outside d l (here e)) m t in
          let e = r.0 in
          any_is (λ e. has e k && middle_outside d l e) (edge 0 0) d.edges e r.1
          (ap (λ (b : Bool). b && middle_outside d l (here e)) (sym (map_at (λ e. has e k) d.edges e (edge 0 0) false r.1)) ∙ r.2)

  module _ (ls : List Loop) (path : (j : ℕ) → j < length ls → Path d (loop_at ls j)) where
    pub covers-found : (i : ℕ) → covers_other d ls i ≡ covers_by_answers d ls i
    unfolding covers_other covers_by_answers side_mask edge_at
    covers-found i =
        any-below-same (λ j. not (eqb i j) && covers (polygon d l) (polygon d (loop_at ls j))) (length ls)
        (λ j. fits j && not (leaves m out (masks j))) each
        ∙ sym (searched_is m out fits masks (λ j e t. (map_yes (λ e. has e (loop_at ls j)) (edge 0 0) d.edges e t).0) (upto (length ls))
        start right)
      where
        l : Loop
        l = loop_at ls i

        m : ℕ
        m = length d.edges

        out : ℕ → Bool
        out e = middle_outside d l (edge_at d e)

        fits : ℕ → Bool
        fits j = not (eqb i j) && level_with d l (loop_at ls j)

        masks : ℕ → List Bool
        masks j = side_mask d (loop_at ls j)

        start : KnownEdges
        start = record { held = side_mask d l; outside = [] }

        right : Right out start
        right = record {
          held_so = (λ e t. let r = map_yes (λ e. has e l) (edge 0 0) d.edges e t in own_middle d l (edge_at d e) r.1);
          outside_so = (λ e t. absurd (true≢false (sym t)));
        }

        each : (j : ℕ) → j < length ls
            → (not (eqb i j) && covers (polygon d l) (polygon d (loop_at ls j))) ≡ (fits j && not (leaves m out (masks j)))
        each j h =
            let k = loop_at ls j in
            let p : covers (polygon d l) (polygon d k) ≡ (level_with d l k && not (leaves m out (masks j)))
            = covers_edges d l k (path j h) ∙ ap₂ (λ (a b : Bool). a && not b) (level_with_lem l k) (edges_row l k) in
            ap (λ (b : Bool). not (eqb i j) && b) p ∙ sym (and_assoc (not (eqb i j)) (level_with d l k) (not (leaves m out (masks j))))

    -- the loops that are kept
    pub uncovering-found : uncovering d ls ≡ map (loop_at ls) (filter (λ i. not (covers_by_answers d ls i)) (upto (length ls)))
    unfolding uncovering
    uncovering-found =
        ap (map (loop_at ls))
        (filter_same (λ i. not (covers_other d ls i)) (λ i. not (covers_by_answers d ls i)) (length ls) (λ i h. ap not (covers-found i)))
