-- The masks of those that clash, by edges and vertices.
use mathlib.Core.Path.{◌≡◌, refl, sym, ap, ◌∙◌}
use mathlib.Core.Bool.{Bool, true, false, not, ◌&&◌, ◌||◌, cond, true≢false}
use mathlib.Core.List.{List, [], map}
use Prim.Native.Nat.{ℕ, ◌<◌}
use native.Mathlib.Omega.{arith}
use borrow.Author.Tests.{not-true, ltb-true, ltb-false}
use lib.Dec.{ltb}
use lib.ListN.{length, get_or}
use lib.IntN.{pos}
use Rattle.lists.specs.Lists.{any, upto, member}
use Rattle.lists.proofs.Truth.{never_true, and_left, and_right}
use Rattle.lists.proofs.Agreeing.{map_same}
use Rattle.lists.proofs.Passing.{any_yes, all_yes, some_yes}
use Rattle.paper.specs.Points.{origin, is_zero, above, below}
use Rattle.paper.specs.Polygon.{plane_side, one_plane, exactly, lies, is_inside}
use Rattle.paper.specs.Drawing.{Wire, Edge, edge, at}
use Rattle.paper.specs.Loops.{Loop, polygon, loop_at}
use Rattle.paper.specs.Clash.{opposite, clash}
use Rattle.paper.specs.Solids.{has, clashing, tables_of}
use Rattle.paper_laws.proofs.Points.{zero_yes}
use Rattle.fast_tables.specs.Paths.{PointsApart, Path, LevelLoop}
use Rattle.fast_tables.specs.Hits.{edge_pierces, vertex_inside, pierced_by, entered_by, folds_with, hits}
use Rattle.fast_tables.proofs.Rounds.{member_yes, has-ends}
use Rattle.fast_tables.proofs.Pierce.{pierced-opposite, pierces_edges}
use Rattle.paper_laws.proofs.Wires.{polygon_length, corner-at, polygon-at}
use Rattle.fast_tables.proofs.Enter.{enters_vertices}
use Rattle.fast_tables.proofs.MayFold.{folds_with_lem}

-- ---- a polygon-at d cs in its plane does not go through itself
module _ (d : Wire) (l : Loop) where
  own_side : LevelLoop d l → (v : ℕ) → member v l ≡ true → plane_side (polygon d l) (at d v) ≡ pos 0
  unfolding one_plane
  own_side level v e =
      let r = member_yes v l e in
      let t = all_yes (λ p. is_zero (plane_side (polygon d l) p)) origin (polygon d l) level r.0
      (omega (arith, r.1, polygon_length d l)) in
      ap (λ p. plane_side (polygon d l) p) (sym (corner-at d l r.0 r.1 ∙ ap (at d) r.2))
      ∙ zero_yes (plane_side (polygon d l) (get_or (polygon d l) r.0 origin)) t

  own-edge : LevelLoop d l → (e : Edge) → (has e l && edge_pierces d l e) ≡ true → ⊥
  unfolding edge_pierces opposite above below
  own-edge level (edge a b) t =
      let g = polygon d l in
      let h = has-ends a b l (and_left (has (edge a b) l) (edge_pierces d l (edge a b)) t) in
      let o : opposite (plane_side g (at d a)) (plane_side g (at d b)) ≡ false = λ i. opposite (own_side level a h.0 i)
      (own_side level b h.1 i) in
      true≢false (sym (and_right (has (edge a b) l) (edge_pierces d l (edge a b)) t)
      ∙ pierced-opposite g (at d a) (at d b) (plane_side g (at d a)) (plane_side g (at d b)) o)

  pub pierced_self : LevelLoop d l → pierced_by d l l ≡ false
  unfolding pierced_by
  pierced_self level = never_true (any (λ e. has e l && edge_pierces d l e) d.edges) (λ t.
      let r = any_yes (λ e. has e l && edge_pierces d l e) (edge 0 0) d.edges t in
      own-edge level (get_or d.edges r.0 (edge 0 0)) r.2)

  pub entered_self : entered_by d l l ≡ false
  unfolding entered_by vertex_inside
  entered_self = never_true (any (λ v. member v l && vertex_inside d l v) (upto (length d.vertices))) (λ t.
      let r = some_yes (λ v. member v l && vertex_inside d l v) (length d.vertices) t in
      let v = r.0 in
      let rest = is_zero (plane_side (polygon d l) (at d v)) && is_inside (lies (exactly (at d v)) (polygon d l)) in
      true≢false (sym (and_left (member v l) (not (member v l) && rest) r.2)
      ∙ not-true (member v l) (and_left (not (member v l)) rest (and_right (member v l) (not (member v l) && rest) r.2))))

-- ---- the rules in their two orders
shuffle_up : (p e q f w : Bool) → ((p || e) || (q || f) || (true && w || false)) ≡ (q || p || (f || e) || w)
shuffle_up true e true f w = refl
shuffle_up true e false f w = refl
shuffle_up false true true f w = refl
shuffle_up false true false true w = refl
shuffle_up false true false false w = refl
shuffle_up false false true f w = refl
shuffle_up false false false true w = refl
shuffle_up false false false false true = refl
shuffle_up false false false false false = refl

shuffle_down : (p e q f w : Bool) → ((p || e) || (q || f) || (false || true && w)) ≡ (p || q || (e || f) || w)
shuffle_down true e true f w = refl
shuffle_down true e false f w = refl
shuffle_down false true true f w = refl
shuffle_down false true false true w = refl
shuffle_down false true false false w = refl
shuffle_down false false true f w = refl
shuffle_down false false false true w = refl
shuffle_down false false false false true = refl
shuffle_down false false false false false = refl

module _ (d : Wire) (apart : PointsApart d) (cs : List Loop) (path : (i : ℕ) → i < length cs → Path d (loop_at cs i))
    (level : (i : ℕ) → i < length cs → LevelLoop d (loop_at cs i)) where
  -- a clash is asked of edges, vertices, and the faces that may fold
  pub clash_by : (i j : ℕ) → i < length cs → j < length cs
      → clash (polygon d (loop_at cs i)) (polygon d (loop_at cs j))
      ≡ (pierced_by d (loop_at cs j) (loop_at cs i) || pierced_by d (loop_at cs i)
      (loop_at cs j) || (entered_by d (loop_at cs j) (loop_at cs i) || entered_by d (loop_at cs i) (loop_at cs j)) || folds_with d (loop_at cs i)
      (loop_at cs j))
  unfolding clash
  clash_by i j hi hj =
      let f = loop_at cs i in
      let g = loop_at cs j in
      let a = pierces_edges d f (path i hi) g in
      let b = pierces_edges d g (path j hj) f in
      let c = enters_vertices d f (path i hi) g in
      let e = enters_vertices d g (path j hj) f in
      let w = folds_with_lem d apart f g (path i hi) (path j hj) in
      λ t. a t || b t || (c t || e t) || w t

  pub hits_is : (i j : ℕ) → i < length cs → j < length cs → hits d cs i j ≡ clashing (map (polygon d) cs) i j
  unfolding hits clashing
  hits_is i j hi hj = go (ltb i j) refl (ltb j i) refl
    where
      f : Loop
      f = loop_at cs i

      g : Loop
      g = loop_at cs j

      no : i ≡ j → ((pierced_by d f g || entered_by d f g) || (pierced_by d g f || entered_by d g f) || (false || false)) ≡ false
      no e =
          let q : loop_at cs j ≡ loop_at cs i = ap (loop_at cs) (sym e) in
          let a : pierced_by d f g ≡ false = ap (pierced_by d f) q ∙ pierced_self d f (level i hi) in
          let b : entered_by d f g ≡ false = ap (entered_by d f) q ∙ entered_self d f in
          let c : pierced_by d g f ≡ false = ap (λ (l : Loop). pierced_by d l f) q ∙ pierced_self d f (level i hi) in
          let k : entered_by d g f ≡ false = ap (λ (l : Loop). entered_by d l f) q ∙ entered_self d f in
          λ t. (a t || b t) || (c t || k t) || (false || false)

      go : (s : Bool) → ltb i j ≡ s → (t : Bool) → ltb j i ≡ t
          → ((pierced_by d f g || entered_by d f g) || (pierced_by d g f || entered_by d g f) || (s && folds_with d f g || t && folds_with d g
          f))
          ≡ cond s (clash (get_or (map (polygon d) cs) i []) (get_or (map (polygon d) cs) j []))
          (t && clash (get_or (map (polygon d) cs) j []) (get_or (map (polygon d) cs) i []))
      go true p true q = let a = ltb-true i j p in let b = ltb-true j i q in absurd (omega (arith, a, b))
      go true p false q =
          shuffle_up (pierced_by d f g) (entered_by d f g) (pierced_by d g f) (entered_by d g f) (folds_with d f g) ∙ sym (clash_by i j hi hj)
          ∙ (λ k. clash (sym (polygon-at d cs i hi) k) (sym (polygon-at d cs j hj) k))
      go false p true q =
          shuffle_down (pierced_by d f g) (entered_by d f g) (pierced_by d g f) (entered_by d g f) (folds_with d g f)
          ∙ sym (clash_by j i hj hi)
          ∙ (λ k. clash (sym (polygon-at d cs j hj) k) (sym (polygon-at d cs i hi) k))
      go false p false q = let a = ltb-false i j p in let b = ltb-false j i q in no (omega (arith, a, b))

  pub table-clashes : (tables_of d cs).clashes ≡ map (λ i. map (hits d cs i) (upto (length cs))) (upto (length cs))
  unfolding tables_of
  table-clashes =
      let n = length cs in
      map_same (λ i. map (clashing (map (polygon d) cs) i) (upto n)) (λ i. map (hits d cs i) (upto n)) n
      (λ i hi. map_same (clashing (map (polygon d) cs) i) (hits d cs i) n (λ j hj. sym (hits_is i j hi hj)))
