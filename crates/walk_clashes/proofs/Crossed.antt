-- Edges of a drawing that pierce a candidate, as the code asks of them.
use mathlib.Core.Bool.{Bool, true, false, cond}
use mathlib.Core.Logic.{◌⊎◌, inl, inr}
use mathlib.Core.Path.{◌≡◌, refl, sym, ap, subst, ◌∙◌}
use mathlib.Core.List.{List, [], ◌∷◌, map}
use Prim.Native.Nat.{ℕ, ◌+◌, ◌*◌, ◌<◌}
use native.Mathlib.Omega.{arith}
use lib.IntN.{ℤ}
use lib.ListN.{length, get_or, length-map}
use Rattle.paper.specs.Numbers.{most_vertices, most_edges}
use Rattle.lists.specs.Lists.{upto}
use Rattle.lists.proofs.Truth.{and_left}
use Rattle.lists.proofs.Places.{map_at, made_at, upto_length}
use Rattle.lists.proofs.Passing.{any_yes}
use Rattle.sets.specs.Word.{dig, both, either}
use Rattle.sets.proofs.Digits.{dig-both}
use Rattle.sets.specs.Kinds.{First}
use Rattle.sets.specs.Sets.{Is, mask_at, one_word}
use Rattle.sets.specs.declared.Set.{Set}
use Rattle.paper.specs.Drawing.{Edge, edge, wire, at, joins, joined}
use Rattle.paper.specs.Loops.{polygon}
use Rattle.paper.specs.Solids.{has, tables_of}
use Rattle.paper.specs.declared.Point.{Point}
use Rattle.clash_pierce.specs.Pierce.{pierce_at}
use Rattle.polygon.specs.Rings.{ring, point_of, FaceRow}
use Rattle.polygon.proofs.Drawn.{point_of_lem}
use Rattle.fast_tables.specs.Hits.{edge_pierces}
use Rattle.fast_tables.specs.Words.{ones, gathered, near_mask, below_mask, down_from}
use Rattle.fast_tables.proofs.Counts.{map_yes}
use Rattle.fast_tables.proofs.Rounds.{joins_cases, has-turn}
use Rattle.loop_table.proofs.Loops.{vertices_are}
use Rattle.loop_words.specs.Numbered.{pair_at}
use Rattle.walk_clashes.specs.Lent.{KnownFace, LentFace, EdgeLent, EdgeJoins, DownLent, wire_of, all_of, known_loop}
use Rattle.walk_clashes.proofs.Rows.{face-at, polygon-at}
use Rattle.walk_clashes.proofs.Folding.{folded, Left, left-start, left-known, left-next}

-- what is gathered is folded
pub gathered_fold : (test : ℕ → Bool) (mask : ℕ → List Bool) (xs : List ℕ) (s : List Bool)
    → folded (λ x t. either t (cond (test x) (mask x) [])) xs s ≡ gathered test mask xs s
unfolding folded gathered
gathered_fold test mask [] s = refl
gathered_fold test mask (x ∷ xs) s = gathered_fold test mask xs (either s (cond (test x) (mask x) []))

module _ {xyz : List ℤ} {rows : List ℕ} {g : ℕ} {m : Point} (k : KnownFace xyz rows g m) where
  pub face_of_lem : FaceRow xyz rows g m
  face_of_lem = face-at k.faces g k.there k.across

  pub polygon_of : ring xyz rows g ≡ polygon (wire_of k) (known_loop k)
  polygon_of = polygon-at k.faces g k.there

  -- a vertex
  pub vertex_in_lem : (v : ℕ) → v < length (wire_of k).vertices → 3 * v + 2 < length xyz
  vertex_in_lem v h = omega (arith, h, vertices_are k.faces.range, k.faces.range.points.whole)

  pub vertex_low : (v : ℕ) → v < length (wire_of k).vertices → v < most_vertices
  vertex_low v h = omega (arith, h, vertices_are k.faces.range, k.faces.range.most)

  pub at-is : (v : ℕ) → v < length (wire_of k).vertices → point_of xyz v ≡ at (wire_of k) v
  unfolding at wire
  at-is v h = sym (point_of_lem xyz v (vertex_in_lem v h))

module _ {xyz : List ℤ} {rows number on : List ℕ} {g : ℕ} {m : Point} (w : LentFace xyz rows number on g m) where
  -- two vertices
  module _ (a b : ℕ) (ha : a < length (wire_of w.known).vertices) (hb : b < length (wire_of w.known).vertices) where
    pub pierce_is : pierce_at (ring xyz rows g) (point_of xyz a) (point_of xyz b) ≡ edge_pierces (wire_of w.known) (known_loop w.known) (edge a b)
    unfolding edge_pierces
    pierce_is =
        λ i. pierce_at (polygon_of w.known i) (at-is w.known a ha i) (at-is w.known b hb i)

    module _ (tied : joined (wire_of w.known) a b ≡ true) where
      edge_is : (e : ℕ) × (e < length (wire_of w.known).edges) × (joins a b (get_or (wire_of w.known).edges e (edge 0 0)) ≡ true)
      unfolding joined
      edge_is = any_yes (joins a b) (edge 0 0) (wire_of w.known).edges tied

      -- its number, and the candidates on it
      module _ (x : ℕ) (q : x ≡ get_or number (pair_at a b) 0) where
        number_is : x ≡ edge_is.0
        number_is = q ∙ go (joins_cases a b (get_or (wire_of w.known).edges edge_is.0 (edge 0 0)) edge_is.2)
          where
            go : (get_or (wire_of w.known).edges edge_is.0 (edge 0 0) ≡ edge a b) ⊎ (get_or (wire_of w.known).edges edge_is.0 (edge 0 0) ≡ edge b a)
                → get_or number (pair_at a b) 0 ≡ edge_is.0
            go (inl p) = w.numbered.up edge_is.0 a b edge_is.1 p
            go (inr p) = w.numbered.down edge_is.0 b a edge_is.1 p

        pub number_low : x < most_edges
        unfolding tables_of
        number_low = omega (arith, number_is, edge_is.1, w.on_are.few, length-map (wire_of w.known).edges (λ g. map (has g) (all_of w.known)))

        pub faces_on : Is (mask_at on x) (map (has (edge a b)) (all_of w.known))
        unfolding tables_of
        faces_on =
            let e = edge_is.0 in
            let es = (wire_of w.known).edges in
            let i = w.on_are.at e (omega (arith, edge_is.1, length-map es (λ g. map (has g) (all_of w.known)))) in
            let mask = map_at (λ g. map (has g) (all_of w.known)) es e (edge 0 0) [] edge_is.1
            ∙ go (get_or es e (edge 0 0)) (joins_cases a b (get_or es e (edge 0 0)) edge_is.2) in
            subst (λ (y : ℕ). Is (mask_at on y) (map (has (edge a b)) (all_of w.known))) (sym number_is) (subst (Is (mask_at on e)) mask i)
          where
            go : (f : Edge) → (f ≡ edge a b) ⊎ (f ≡ edge b a) → map (has f) (all_of w.known) ≡ map (has (edge a b)) (all_of w.known)
            go f (inl p) = ap (λ (y : Edge). map (has y) (all_of w.known)) p
            go f (inr p) = ap (λ (y : Edge). map (has y) (all_of w.known)) p ∙ (λ i. map (λ l. has-turn b a l i) (all_of w.known))

-- ---- the vertices below that are joined to a
module _ {xyz : List ℤ} {rows number on : List ℕ} {g : ℕ} {m : Point} (w : LentFace xyz rows number on g m) (a : ℕ) where
  -- the step of an edge to b, and all of them
  abbrev pub step : ℕ → List Bool → List Bool
  step b s = either s (cond (edge_pierces (wire_of w.known) (known_loop w.known) (edge a b)) (map (has (edge a b)) (all_of w.known)) [])

  abbrev pub under : List Bool
  under = both (near_mask (wire_of w.known) a) (below_mask (wire_of w.known) (known_loop w.known))

  near-yes : (b : ℕ) → dig under b ≡ true → dig (near_mask (wire_of w.known) a) b ≡ true
  near-yes b t = and_left (dig (near_mask (wire_of w.known) a) b) _ (sym (dig-both (near_mask (wire_of w.known) a) (below_mask (wire_of w.known) (known_loop w.known)) b) ∙ t)

  pub under_low : (b : ℕ) → dig under b ≡ true → b < length (wire_of w.known).vertices
  unfolding near_mask
  under_low b t =
      let n = length (wire_of w.known).vertices in
      omega (arith, (map_yes (joined (wire_of w.known) a) 0 (upto n) b (near-yes b t)).0, upto_length n)

  pub under_tied : (b : ℕ) → dig under b ≡ true → joined (wire_of w.known) a b ≡ true
  unfolding near_mask
  under_tied b t =
      let n = length (wire_of w.known).vertices in
      sym (made_at (joined (wire_of w.known) a) n b false (under_low b t)) ∙ near-yes b t

  pub down_fold : (s : List Bool)
      → folded step (ones (length (wire_of w.known).vertices) under) s ≡ down_from (wire_of w.known) (all_of w.known) (known_loop w.known) a s
  unfolding down_from
  down_fold s =
      gathered_fold (λ b. edge_pierces (wire_of w.known) (known_loop w.known) (edge a b)) (λ b. map (has (edge a b)) (all_of w.known))
      (ones (length (wire_of w.known).vertices) under) s

-- ---- the loop over them: s is the mask of the set that it began with
module _ {xyz : List ℤ} {rows number on : List ℕ} {g : ℕ} {m : Point} {a : ℕ} {below : Set} (w : DownLent xyz rows number on g m a below)
    (s : List Bool) where
  abbrev pub Down : Set → Set → Type 0
  Down =
      let k = w.lent.known in
      Left (length (wire_of k).vertices) (step w.lent a) (under w.lent a) (under_low w.lent a) (down_from (wire_of k) (all_of k) (known_loop k) a s)

  pub down_start : {set : Set} → Is set s → Down below set
  down_start {set} i =
      let n = length (wire_of w.lent.known).vertices in
      subst (λ (t : List Bool). Left n (step w.lent a) (under w.lent a) (under_low w.lent a) t below set) (down_fold w.lent a s)
      (left-start n (step w.lent a) (under w.lent a) (under_low w.lent a) s w.under_is i)

  module _ {rest set : Set} (l : Down rest set) {b : ℕ} {rest' : Set} (p : First one_word rest rest' b) where
    pub down_edge : EdgeLent xyz rows number on g m a b
    down_edge =
        let t = left-known l p in
        record { lent = w.lent; a_low = w.a_low; b_low = under_low w.lent a b t; tied = under_tied w.lent a b t }

    pub down_next : {r : Set} → ((e : EdgeLent xyz rows number on g m a b) → EdgeJoins e set r) → Down rest' r
    unfolding down_edge
    down_next more = left-next l p (more down_edge)
