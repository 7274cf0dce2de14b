-- Where no two vertices are at one place and no vertex is on an edge, no loop is in one line.
use mathlib.Core.Bool.{Bool, true, false, not, ◌&&◌, ◌||◌, cond, true≢false}
use mathlib.Core.List.{List, [], ◌∷◌, ◌++◌, map, map-append}
use mathlib.Core.Logic.{◌⊎◌, inl, inr}
use mathlib.Core.Option.{none}
use mathlib.Core.Path.{◌≡◌, refl, sym, ap, ◌∙◌, subst}
use Prim.Native.Nat.{ℕ, zero, suc, ◌+◌, ◌-◌, ◌≤◌, ◌<◌}
use native.Mathlib.Omega.{arith}
use lib.Dec.{eqb, ltb}
use lib.IntN.{pos}
use lib.Signed.{◌<ℤ◌, ◌≤ℤ◌}
use lib.ListN.{length}
use borrow.Author.Tests.{eqb-true, ne_eqb, ltb-true}
use Rattle.paper_laws.proofs.Points.{origin_yes}
use Rattle.lists.specs.Lists.{any, upto, member}
use Rattle.lists.proofs.Truth.{and_left, and_right, and_both, never_true, or-none, or_cases}
use Rattle.lists.proofs.Passing.{any_yes, some_is}
use Rattle.lists.proofs.Lowest.{lowest-none}
use Rattle.exact.proofs.Order.{three_ways}
use Rattle.exact.proofs.Signs.{lt-or-ge, ≤ℤ-antisym}
use Rattle.sets.specs.Word.{dig, both, less, only}
use Rattle.paper.specs.Points.{origin, minus, dot, cross, is_origin, same_point}
use Rattle.paper.specs.Drawing.{Wire, Edge, edge, at, edge_at, joins, joined, same_place, on_open, vertex_on, edges_meet, edge_meets}
use Rattle.paper.specs.Loops.{final, closes, branch, scan, ext, follows, across, level, loops}
use Rattle.paper.specs.declared.Point.{Point}
use Rattle.paper_laws.proofs.Wires.{joined_turned}
use Rattle.fast_search.specs.Search.{near, higher, across_line, line_step, in_its_plane}
use Rattle.fast_search.specs.Bare.{bare_line, bare_seconds, bare_starts, bare_search}
use Rattle.fast_search.proofs.Scan.{goes, each_scan}
use Rattle.fast_search.proofs.Phases.{none_self, two_line, across-turn, level-line}
use Rattle.fast_search.proofs.Line.{Between, between_open, between_turned, self_above, no_place, start_between, short_between}
use Rattle.fast_search.proofs.Line.{long_between, at-end}
use Rattle.fast_search.proofs.Search.{deeper_is, step_is, higher-free, start-level, start-closing, start-row}
use Rattle.fast_search.proofs.Search.{follow_uses, final_in}
use Rattle.fast_search.proofs.Sets.{final_more, can, ends, size, follow, deep, begun, Free, Closing}
use Rattle.fast_search.proofs.Sets.{free_more, follow_can, closes-ends}

module _ (d : Wire) (places : same_place d ≡ none) (meets : edge_meets d ≡ none) where
  apart : (u v : ℕ) → u < size d → v < size d → (u ≡ v → ⊥) → is_origin (minus (at d u) (at d v)) ≡ false
  unfolding same_place same_point
  apart u v hu hv n =
      never_true (is_origin (minus (at d u) (at d v)))
      (λ t. true≢false
      (sym (some_is (λ w. not (eqb u w) && same_point (at d u) (at d w)) (size d) v hv (and_both (ap not (ne_eqb u v n)) t)) ∙ here))
    where
      here : any (λ w. not (eqb u w) && same_point (at d u) (at d w)) (upto (size d)) ≡ false
      here = lowest-none (λ u. any (λ v. not (eqb u v) && same_point (at d u) (at d v)) (upto (size d))) (size d) places u hu

  -- no vertex is on an edge
  clear : (i : ℕ) → i < length d.edges → (v : ℕ) → v < size d → vertex_on d (edge_at d i) v ≡ false
  unfolding edge_meets
  clear i h v hv =
      never_true (vertex_on d (edge_at d i) v)
      (λ t. true≢false (sym (some_is (vertex_on d (edge_at d i)) (size d) v hv t)
      ∙ (or-none (any (vertex_on d (edge_at d i)) (upto (size d)))
      (any (λ f. not (eqb i f) && edges_meet d (edge_at d i) (edge_at d f)) (upto (length d.edges))) here).0))
    where
      here : (any (vertex_on d (edge_at d i)) (upto (size d)) || any (λ f. not (eqb i f) && edges_meet d (edge_at d i) (edge_at d f))
          (upto (length d.edges))) ≡ false
      here =
          lowest-none
          (λ e. any (vertex_on d (edge_at d e)) (upto (size d)) || any (λ f. not (eqb e f) && edges_meet d (edge_at d e) (edge_at d f))
          (upto (length d.edges))) (length d.edges) meets i h

  on_edge : (u v p : ℕ) → Between (at d u) (at d v) (at d p) → (e : Edge) → joins u v e ≡ true → vertex_on d e p ≡ true
  unfolding joins vertex_on
  on_edge u v p t (edge a b) j = go (or_cases (eqb u a && eqb v b) (eqb u b && eqb v a) j)
    where
      go : ((eqb u a && eqb v b) ≡ true) ⊎ ((eqb u b && eqb v a) ≡ true) → on_open (at d a) (at d b) (at d p) ≡ true
      go (inl q) =
          let f : u ≡ a = eqb-true u a (and_left (eqb u a) (eqb v b) q) in
          let g : v ≡ b = eqb-true v b (and_right (eqb u a) (eqb v b) q) in
          (λ i. on_open (at d (sym f i)) (at d (sym g i)) (at d p)) ∙ between_open t
      go (inr q) =
          let f : u ≡ b = eqb-true u b (and_left (eqb u b) (eqb v a) q) in
          let g : v ≡ a = eqb-true v a (and_right (eqb u b) (eqb v a) q) in
          (λ i. on_open (at d (sym g i)) (at d (sym f i)) (at d p)) ∙ between_open (between_turned t)

  no_between : (u v p : ℕ) → p < size d → joined d u v ≡ true → Between (at d u) (at d v) (at d p) → ⊥
  unfolding joined edge_at
  no_between u v p h j t =
      let r = any_yes (joins u v) (edge 0 0) d.edges j in
      true≢false (sym (on_edge u v p t (edge_at d r.0) r.2) ∙ clear r.0 r.1 p h)

  -- ---- a path in one line that begins with x and y goes on ahead of x
  record Ahead (x y l : ℕ) : Type 0 where
    line : cross (minus (at d y) (at d x)) (minus (at d l) (at d x)) ≡ origin
    front : pos 0 <ℤ dot (minus (at d y) (at d x)) (minus (at d l) (at d x))

  module _ (x y : ℕ) (hx : x < size d) (hy : y < size d) (up : x < y) (side : joined d x y ≡ true) where
    apart-start : is_origin (minus (at d y) (at d x)) ≡ false
    apart-start = apart y x hy hx (λ e. absurd (omega arith))

    ahead_more : (l w : ℕ) → w < size d → (w ≡ x → ⊥) → joined d l w ≡ true
        → cross (minus (at d y) (at d x)) (minus (at d w) (at d x)) ≡ origin → Ahead x y l → Ahead x y w
    ahead_more l w hw n j k a = record { line = k; front = go (three_ways (dot (minus (at d y) (at d x)) (minus (at d w) (at d x)))) }
      where
        go : (dot (minus (at d y) (at d x)) (minus (at d w) (at d x)) <ℤ pos 0)
            ⊎ ((dot (minus (at d y) (at d x)) (minus (at d w) (at d x)) ≡ pos 0)
            ⊎ (pos 0 <ℤ dot (minus (at d y) (at d x)) (minus (at d w) (at d x))))
            → pos 0 <ℤ dot (minus (at d y) (at d x)) (minus (at d w) (at d x))
        go (inl b) =
            absurd (no_between l w x hx j (start_between (at d x) (at d y) (at d l) apart-start a.line a.front (at d w) k b))
        go (inr (inl z)) =
            absurd (true≢false (sym (no_place (minus (at d y) (at d x)) (minus (at d w) (at d x)) apart-start k z) ∙ apart w x hw hx n))
        go (inr (inr p)) = p

    ahead_open : (l : ℕ) → l < size d → (l ≡ y → ⊥) → joined d l x ≡ true → Ahead x y l → ⊥
    ahead_open l hl n j a = go (lt-or-ge (dot e u) (dot e e)) (lt-or-ge (dot e e) (dot e u))
      where
        e : Point
        e = minus (at d y) (at d x)

        u : Point
        u = minus (at d l) (at d x)

        go : (dot e u <ℤ dot e e) ⊎ (dot e e ≤ℤ dot e u) → (dot e e <ℤ dot e u) ⊎ (dot e u ≤ℤ dot e e) → ⊥
        go (inl b) c = no_between x y l hl side (short_between (at d x) (at d y) (at d l) apart-start a.line a.front b)
        go (inr b) (inl c) =
            no_between x l y hy (joined_turned d x l ∙ j) (long_between (at d x) (at d y) (at d l) apart-start a.line a.front c)
        go (inr b) (inr c) =
            true≢false (sym (at-end (at d x) (at d y) (at d l) apart-start a.line a.front (≤ℤ-antisym c b)) ∙ apart l y hl hy n)

    -- so that none closes
    open_path : (r : List ℕ) → final (x ∷ (y ∷ r)) < size d → Ahead x y (final (x ∷ (y ∷ r)))
        → closes (size d) (joined d) (level d) (x ∷ (y ∷ r)) ≡ false
    open_path r l a =
        closes-ends d x y r ∙ never_true (ends d (x ∷ (y ∷ r)) (final (x ∷ (y ∷ r)))) (λ t.
        let b : y < final (x ∷ (y ∷ r)) = ltb-true y (final (x ∷ (y ∷ r)))
        (and_left (ltb y (final (x ∷ (y ∷ r)))) (joined d (final (x ∷ (y ∷ r))) x) t) in
        ahead_open (final (x ∷ (y ∷ r))) l (λ e. absurd (omega arith))
        (and_right (ltb y (final (x ∷ (y ∷ r)))) (joined d (final (x ∷ (y ∷ r))) x) t) a)

    begun_deep : (k : ℕ) (p : List ℕ) → closes (size d) (joined d) (level d) p ≡ false → begun d k p ≡ deep d k p
    unfolding branch
    begun_deep k p c = ap (λ (b : Bool). cond b (p ∷ deep d k p) (deep d k p)) c

    turn-line : (r : List ℕ) (w : ℕ) → is_origin (across_line d (x ∷ (y ∷ r)) w) ≡ true
        → cross (minus (at d y) (at d x)) (minus (at d w) (at d x)) ≡ origin
    unfolding across_line
    turn-line r w q = origin_yes (cross (minus (at d y) (at d x)) (minus (at d w) (at d x))) q

    ahead_next : (r : List ℕ) (w : ℕ) → w < size d → follow d (x ∷ (y ∷ r)) w ≡ true → is_origin (across_line d (x ∷ (y ∷ r)) w) ≡ true
        → Ahead x y (final (x ∷ (y ∷ r))) → Ahead x y (final (x ∷ (y ∷ (r ++ w ∷ []))))
    ahead_next r w h t q a =
        let s : (joined d (final (x ∷ (y ∷ r))) w && can d (x ∷ (y ∷ r)) w) ≡ true = sym (follow_can d x (y ∷ r) w) ∙ t in
        let b : x < w = ltb-true x w
        (and_left (ltb x w) (not (member w (x ∷ (y ∷ r))))
        (and_left (ltb x w && not (member w (x ∷ (y ∷ r)))) (level d (x ∷ (y ∷ r)) w) (follow_uses d x (y ∷ r) w t))) in
        subst (λ (j : ℕ). Ahead x y j) (sym (final_more (x ∷ (y ∷ r)) w))
        (ahead_more (final (x ∷ (y ∷ r))) w h (λ e. absurd (omega arith))
        (and_left (joined d (final (x ∷ (y ∷ r))) w) (can d (x ∷ (y ∷ r)) w) s) (turn-line r w q) a)

    bare_line_is : (k : ℕ) (r : List ℕ) (free closing : List Bool) → is_origin (across d (x ∷ (y ∷ r))) ≡ true → Free d (x ∷ (y ∷ r)) free
        → Closing d (x ∷ (y ∷ r)) closing → final (x ∷ (y ∷ r)) < size d → Ahead x y (final (x ∷ (y ∷ r)))
        → bare_line d k (x ∷ (y ∷ r)) free closing ≡ map (in_its_plane d) (begun d k (x ∷ (y ∷ r)))
    unfolding bare_line ext Closing
    bare_line_is zero r free closing o f c l a = ap (map (in_its_plane d)) (sym (begun_deep 0 (x ∷ (y ∷ r)) (open_path r l a)))
    bare_line_is (suc k) r free closing o f c l a =
        deeper_is d k x y r free closing (λ w rest. line_step d (λ q g. bare_line d k q g closing) k (x ∷ (y ∷ r)) free closing w) f c
        (λ w rest h t. step_is d k x y r free closing (λ q g. bare_line d k q g closing) w o f c h t
        (λ q. let o' : is_origin (across d (x ∷ (y ∷ (r ++ w ∷ [])))) ≡ true = ap is_origin (across-turn d x y r w o) ∙ q in
        bare_line_is k (r ++ w ∷ []) (less free (only w)) closing o'
        (free_more d x (y ∷ r) w free (λ j. level-line d (x ∷ (y ∷ (r ++ w ∷ []))) o' j ∙ sym (level-line d (x ∷ (y ∷ r)) o j)) f) c
        (final_in d x y r w h) (ahead_next r w h t q a)))
        ∙ ap (map (in_its_plane d)) (sym (begun_deep (suc k) (x ∷ (y ∷ r)) (open_path r l a)))

  -- ---- from the start
  bare_seconds_is : (x : ℕ) → x < size d → bare_seconds d x ≡ map (in_its_plane d) (deep d 11 (x ∷ []))
  unfolding bare_seconds ext
  bare_seconds_is x hx =
      each_scan (size d) (joined d) (level d) (in_its_plane d) (λ w rest. bare_line d 10 (x ∷ (w ∷ [])) (less (higher d x) (only w)) rest)
      (deep d 10) (x ∷ []) same 0 (size d - 0) (omega arith)
      (both (near d x) (higher d x)) (start-row d x)
    where
      same : (w : ℕ) (rest : List Bool) → w < size d → follow d (x ∷ []) w ≡ true
          → ((j : ℕ) → dig rest j ≡ (ltb w j && goes (size d) (joined d) (level d) (x ∷ []) j))
          → bare_line d 10 (x ∷ (w ∷ [])) (less (higher d x) (only w)) rest ≡ map (in_its_plane d) (begun d 10 (x ∷ (w ∷ [])))
      same w rest h t r =
          let s : (joined d x w && can d (x ∷ []) w) ≡ true = sym (follow_can d x [] w) ∙ t in
          let b : x < w = ltb-true x w
          (and_left (ltb x w) (not (member w (x ∷ [])))
          (and_left (ltb x w && not (member w (x ∷ []))) (level d (x ∷ []) w) (follow_uses d x [] w t))) in
          let j : joined d x w ≡ true = and_left (joined d x w) (can d (x ∷ []) w) s in
          bare_line_is x w hx h b j 10 [] (less (higher d x) (only w)) rest (two_line d x w)
          (free_more d x [] w (higher d x) (start-level d x w) (higher-free d x)) (start-closing d x w rest t r) h
          (record { line = none_self (minus (at d w) (at d x)); front = self_above (minus (at d w) (at d x)) (apart-start x w hx h b j) })

  bare_starts_is : (i k : ℕ) → i + k ≤ size d
      → bare_starts d i k ≡ map (in_its_plane d) (scan (size d) (joined d) (level d) (deep d 11) [] i k)
  unfolding bare_starts scan follows branch closes
  bare_starts_is i zero h = refl
  bare_starts_is i (suc k) h =
      (λ t. bare_seconds_is i (omega arith) t ++ bare_starts_is (suc i) k (omega arith) t)
      ∙ sym (map-append (in_its_plane d) (deep d 11 (i ∷ [])) (scan (size d) (joined d) (level d) (deep d 11) [] (suc i) k))

  pub bare_is : bare_search d ≡ map (in_its_plane d) (loops d)
  unfolding bare_search loops ext
  bare_is =
      let z : size d ≡ size d - 0 = omega arith in
      bare_starts_is 0 (size d) (omega arith) ∙ ap (λ (k : ℕ). map (in_its_plane d) (scan (size d) (joined d) (level d) (deep d 11) [] 0 k))
      z
