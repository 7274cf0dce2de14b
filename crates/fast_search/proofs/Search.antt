-- The search on sets of vertices finds the loops of document 01, in their order, each with the vertices in its plane.
use mathlib.Core.Bool.{Bool, true, false, not, ◌&&◌, ◌||◌, cond, true≢false, and-true}
use mathlib.Core.List.{List, [], ◌∷◌, ◌++◌, map, map-append, map-map, append-nil}
use mathlib.Core.Path.{◌≡◌, refl, sym, ap, ◌∙◌, subst}
use Prim.Native.Nat.{ℕ, zero, suc, ◌+◌, ◌-◌, ◌<◌}
use native.Mathlib.Omega.{arith}
use native.Mathlib.Decide.{dec_lt}
use lib.Dec.{eqb, ltb}
use lib.ListN.{replicate}
use borrow.Author.Tests.{ltb-true, lt-ltb, le-ltb, ne_eqb, not-true}
use Rattle.lists.specs.Lists.{any, member}
use Rattle.lists.proofs.Truth.{and_left, and_right, and_both, never_true, or-none}
use Rattle.sets.specs.Word.{dig, both, less, only, empty}
use Rattle.sets.proofs.Digits.{dig-both, dig-less}
use Rattle.sets.proofs.Ones.{full_is}
use Rattle.paper.specs.Points.{is_origin}
use Rattle.paper.specs.Drawing.{Wire, at, joined}
use Rattle.paper.specs.Loops.{Loop, final, follows, closes, branch, scan, ext, across, level, loops}
use Rattle.paper_laws.proofs.Wires.{joined_turned}
use Rattle.fast_search.specs.Rows.{when, each_of, some_of}
use Rattle.fast_search.specs.Search.{InItsPlane, own, near, every, higher, on_plane, plane_mask, across_line, in_plane, line_step, on_line, seconds}
use Rattle.fast_search.specs.Search.{starts, fast_search, plane_of, in_its_plane}
use Rattle.fast_search.proofs.Rows.{empty-none, some_not}
use Rattle.fast_search.proofs.Scan.{goes, each_scan, ext_dead}
use Rattle.fast_search.proofs.Phases.{one_line, two_line, across-found, across-turn, level-line, level-found, level-turn}
use Rattle.fast_search.proofs.Phases.{level_back, turn_inside, plane_of-found, plane_of-turn, plane_of-line}
use Rattle.fast_search.proofs.Sets.{member_more, final_more, can, ends, size, follow, deep, begun, follow_can}
use Rattle.fast_search.proofs.Sets.{closes-ends, Free, Closing, row_is, free_more, free-turn}

module _ (d : Wire) where
  -- ---- nothing that is free can close: no loop begins so
  Dead : List ℕ → Type 0
  Dead [] = ⊥
  Dead (x ∷ []) = ⊥
  Dead (x ∷ (y ∷ r)) = (w : ℕ) → w < size d → can d (x ∷ (y ∷ r)) w ≡ true → ends d (x ∷ (y ∷ r)) w ≡ false

  pub follow_uses : (x : ℕ) (r : List ℕ) (w : ℕ) → follow d (x ∷ r) w ≡ true → can d (x ∷ r) w ≡ true
  follow_uses x r w f = and_right (joined d (final (x ∷ r)) w) (can d (x ∷ r) w) (sym (follow_can d x r w) ∙ f)

  pub closes_more : (x y : ℕ) (r : List ℕ) (v : ℕ) → closes (size d) (joined d) (level d) (x ∷ (y ∷ (r ++ v ∷ []))) ≡ ends d (x ∷ (y ∷ r))
      v
  closes_more x y r v = closes-ends d x y (r ++ v ∷ []) ∙ ap (ends d (x ∷ (y ∷ r))) (final_more (x ∷ (y ∷ r)) v)

  -- what may be used after one vertex more may be used before
  can_back : (x y : ℕ) (r : List ℕ) (v w : ℕ) → can d (x ∷ (y ∷ (r ++ v ∷ []))) w ≡ true → can d (x ∷ (y ∷ r)) w ≡ true
  can_back x y r v w c =
      let q = x ∷ (y ∷ (r ++ v ∷ [])) in
      let ab : (ltb x w && not (member w q)) ≡ true = and_left (ltb x w && not (member w q)) (level d q w) c in
      let m : (member w (x ∷ (y ∷ r)) || eqb w v) ≡ false = sym (member_more w (x ∷ (y ∷ r)) v)
      ∙ not-true (member w q) (and_right (ltb x w) (not (member w q)) ab) in
      and_both (and_both (and_left (ltb x w) (not (member w q)) ab) (ap not (or-none (member w (x ∷ (y ∷ r))) (eqb w v) m).0))
      (level_back d x y r v w (and_right (ltb x w && not (member w q)) (level d q w) c))

  no_loop : (p : List ℕ) (v : ℕ) → v < size d → Dead p → follow d p v ≡ true → closes (size d) (joined d) (level d) (p ++ v ∷ []) ≡ false
  unfolding Dead
  no_loop [] v h e f = absurd e
  no_loop (x ∷ []) v h e f = absurd e
  no_loop (x ∷ (y ∷ r)) v h e f = closes_more x y r v ∙ e v h (follow_uses x (y ∷ r) v f)

  dead_more : (p : List ℕ) (v : ℕ) → v < size d → Dead p → follow d p v ≡ true → Dead (p ++ v ∷ [])
  unfolding Dead
  dead_more [] v h e f = absurd e
  dead_more (x ∷ []) v h e f = absurd e
  dead_more (x ∷ (y ∷ r)) v h e f = λ w k c. e w k (can_back x y r v w c)

  pub ext-none : (k x y : ℕ) (r : List ℕ) → ((w : ℕ) → w < size d → can d (x ∷ (y ∷ r)) w ≡ true → ends d (x ∷ (y ∷ r)) w ≡ false)
      → deep d k (x ∷ (y ∷ r)) ≡ []
  unfolding Dead
  ext-none k x y r h = ext_dead (size d) (joined d) (level d) Dead no_loop dead_more k (x ∷ (y ∷ r)) h

  -- ---- the path itself, and what is deeper
  pub own_is : (k : ℕ) (closing : List Bool) (p : List ℕ) (plane : List Bool) (rest : List InItsPlane)
      → dig closing (final p) ≡ closes (size d) (joined d) (level d) p → plane ≡ plane_of d p
      → rest ≡ map (in_its_plane d) (deep d k p) → own closing p plane ++ rest ≡ map (in_its_plane d) (begun d k p)
  unfolding own when branch
  own_is k closing p plane rest c e r =
      (λ i. when (c i) (record { loop = p; plane = e i } ∷ []) ++ r i) ∙ go (closes (size d) (joined d) (level d) p)
    where
      go : (b : Bool) → when b (in_its_plane d p ∷ []) ++ map (in_its_plane d) (deep d k p) ≡ map (in_its_plane d)
          (cond b (p ∷ deep d k p) (deep d k p))
      go true = refl
      go false = refl

  pub last_is : (x y : ℕ) (r : List ℕ) (closing : List Bool) → Closing d (x ∷ (y ∷ r)) closing → final (x ∷ (y ∷ r)) < size d
      → dig closing (final (x ∷ (y ∷ r))) ≡ closes (size d) (joined d) (level d) (x ∷ (y ∷ r))
  unfolding Closing
  last_is x y r closing c l = c (final (x ∷ (y ∷ r))) l ∙ sym (closes-ends d x y r)

  pub deeper_is : (k x y : ℕ) (r : List ℕ) (free closing : List Bool) (f : ℕ → List Bool → List InItsPlane) → Free d (x ∷ (y ∷ r)) free
      → Closing d (x ∷ (y ∷ r)) closing
      → ((w : ℕ) (rest : List Bool) → w < size d → follow d (x ∷ (y ∷ r)) w ≡ true
      → f w rest ≡ map (in_its_plane d) (begun d k (x ∷ (y ∷ (r ++ w ∷ [])))))
      → when (not (empty (both closing free))) (each_of f 0 (both (near d (final (x ∷ (y ∷ r)))) free)) ≡ map (in_its_plane d)
      (deep d (suc k) (x ∷ (y ∷ r)))
  unfolding when Free Closing ext
  deeper_is k x y r free closing f fr cl same = go (empty (both closing free)) refl
    where
      stuck : empty (both closing free) ≡ true → (w : ℕ) → w < size d → can d (x ∷ (y ∷ r)) w ≡ true → ends d (x ∷ (y ∷ r)) w ≡ false
      stuck e w h c =
          sym (cl w h)
          ∙ never_true (dig closing w)
          (λ t. absurd (true≢false (sym (dig-both closing free w ∙ and_both t (fr w h ∙ c)) ∙ empty-none (both closing free) e w)))

      start : (j : ℕ) → dig (both (near d (final (x ∷ (y ∷ r)))) free) j ≡ goes (size d) (joined d) (level d) (x ∷ (y ∷ r)) (0 + j)
      start j =
          let z : j ≡ 0 + j = omega arith in
          row_is d x (y ∷ r) free fr j ∙ ap (goes (size d) (joined d) (level d) (x ∷ (y ∷ r))) z

      go : (b : Bool) → empty (both closing free) ≡ b
          → when (not b) (each_of f 0 (both (near d (final (x ∷ (y ∷ r)))) free)) ≡ map (in_its_plane d) (deep d (suc k) (x ∷ (y ∷ r)))
      go true e = ap (map (in_its_plane d)) (sym (ext-none (suc k) x y r (stuck e)))
      go false e =
          each_scan (size d) (joined d) (level d) (in_its_plane d) f (deep d k) (x ∷ (y ∷ r)) (λ w rest h t q. same w rest h t) 0
          (size d - 0)
          (omega arith) (both (near d (final (x ∷ (y ∷ r)))) free) start

  -- ---- in the plane
  pub final_in : (x y : ℕ) (r : List ℕ) (v : ℕ) → v < size d → final (x ∷ (y ∷ (r ++ v ∷ []))) < size d
  final_in x y r v h = subst (λ (j : ℕ). j < size d) (sym (final_more (x ∷ (y ∷ r)) v)) h

  pub plane_is : (k x y : ℕ) (r : List ℕ) (free closing plane : List Bool) → is_origin (across d (x ∷ (y ∷ r))) ≡ false
      → plane ≡ plane_of d (x ∷ (y ∷ r)) → Free d (x ∷ (y ∷ r)) free
      → Closing d (x ∷ (y ∷ r)) closing → final (x ∷ (y ∷ r)) < size d
      → in_plane d k (x ∷ (y ∷ r)) free closing plane ≡ map (in_its_plane d) (begun d k (x ∷ (y ∷ r)))
  unfolding in_plane ext Closing
  plane_is zero x y r free closing plane o e f c l =
      sym (append-nil (own closing (x ∷ (y ∷ r)) plane)) ∙ own_is 0 closing (x ∷ (y ∷ r)) plane [] (last_is x y r closing c l) e refl
  plane_is (suc k) x y r free closing plane o e f c l =
      own_is (suc k) closing (x ∷ (y ∷ r)) plane
      (when (not (empty (both closing free)))
      (each_of (λ w rest. in_plane d k (x ∷ (y ∷ (r ++ w ∷ []))) (less free (only w)) closing plane) 0
      (both (near d (final (x ∷ (y ∷ r)))) free)))
      (last_is x y r closing c l) e
      (deeper_is k x y r free closing (λ w rest. in_plane d k (x ∷ (y ∷ (r ++ w ∷ []))) (less free (only w)) closing plane) f c
      (λ w rest h t. plane_is k x y (r ++ w ∷ []) (less free (only w)) closing plane (ap is_origin (across-found d x y r w o) ∙ o)
      (e ∙ sym (plane_of-found d x y r w o))
      (free_more d x (y ∷ r) w free (level-found d x y r w o) f) c (final_in x y r w h)))

  -- ---- on the line
  pub begun_none : (k : ℕ) (p : List ℕ) → closes (size d) (joined d) (level d) p ≡ false → deep d k p ≡ [] → begun d k p ≡ []
  unfolding branch
  begun_none k p c e = ap (λ (b : Bool). cond b (p ∷ deep d k p) (deep d k p)) c ∙ e

  pub step_is : (k x y : ℕ) (r : List ℕ) (free closing : List Bool) (line : List ℕ → List Bool → List InItsPlane) (v : ℕ)
      → is_origin (across d (x ∷ (y ∷ r))) ≡ true
      → Free d (x ∷ (y ∷ r)) free → Closing d (x ∷ (y ∷ r)) closing → v < size d → follow d (x ∷ (y ∷ r)) v ≡ true
      → (is_origin (across_line d (x ∷ (y ∷ r)) v) ≡ true
      → line (x ∷ (y ∷ (r ++ v ∷ []))) (less free (only v)) ≡ map (in_its_plane d) (begun d k (x ∷ (y ∷ (r ++ v ∷ [])))))
      → line_step d line k (x ∷ (y ∷ r)) free closing v ≡ map (in_its_plane d) (begun d k (x ∷ (y ∷ (r ++ v ∷ []))))
  unfolding line_step when Free Closing
  step_is k x y r free closing line v o f c hv t ih = go (is_origin (across_line d (x ∷ (y ∷ r)) v)) refl
    where
      -- where no vertex that is free and in the plane can close
      stuck : some_of (on_plane d (at d x) (across_line d (x ∷ (y ∷ r)) v)) 0 (both closing free) ≡ false → (w : ℕ) → w < size d
          → can d (x ∷ (y ∷ r)) w ≡ true
          → on_plane d (at d x) (across_line d (x ∷ (y ∷ r)) v) w ≡ true → ends d (x ∷ (y ∷ r)) w ≡ false
      stuck e w h u i =
          sym (c w h)
          ∙ never_true (dig closing w)
          (λ z. absurd (true≢false (sym i ∙ some_not (on_plane d (at d x) (across_line d (x ∷ (y ∷ r)) v)) (both closing free) e w
          (dig-both closing free w ∙ and_both z (f w h ∙ u)))))

      fix : is_origin (across_line d (x ∷ (y ∷ r)) v) ≡ false → (b : Bool)
          → some_of (on_plane d (at d x) (across_line d (x ∷ (y ∷ r)) v)) 0 (both closing free) ≡ b
          → when b
          (in_plane d k (x ∷ (y ∷ (r ++ v ∷ []))) (both (less free (only v)) (plane_mask d (at d x) (across_line d (x ∷ (y ∷ r)) v))) closing
          (plane_mask d (at d x) (across_line d (x ∷ (y ∷ r)) v)))
          ≡ map (in_its_plane d) (begun d k (x ∷ (y ∷ (r ++ v ∷ []))))
      fix q true e =
          plane_is k x y (r ++ v ∷ []) (both (less free (only v)) (plane_mask d (at d x) (across_line d (x ∷ (y ∷ r)) v))) closing
          (plane_mask d (at d x) (across_line d (x ∷ (y ∷ r)) v))
          (ap is_origin (across-turn d x y r v o) ∙ q) (sym (plane_of-turn d x y r v o)) (free-turn d x y r v free o f) c
          (final_in x y r v hv)
      fix q false e =
          ap (map (in_its_plane d))
          (sym
          (begun_none k (x ∷ (y ∷ (r ++ v ∷ []))) (closes_more x y r v ∙ stuck e v hv (follow_uses x (y ∷ r) v t) (turn_inside d x y r v))
          (ext-none k x y (r ++ v ∷ []) (λ w h u. stuck e w h (can_back x y r v w u)
          (sym (level-turn d x y r v o w)
          ∙ and_right (ltb x w && not (member w (x ∷ (y ∷ (r ++ v ∷ []))))) (level d (x ∷ (y ∷ (r ++ v ∷ []))) w) u)))))

      go : (b : Bool) → is_origin (across_line d (x ∷ (y ∷ r)) v) ≡ b
          → cond b (line (x ∷ (y ∷ (r ++ v ∷ []))) (less free (only v)))
          (when (some_of (on_plane d (at d x) (across_line d (x ∷ (y ∷ r)) v)) 0 (both closing free))
          (in_plane d k (x ∷ (y ∷ (r ++ v ∷ []))) (both (less free (only v)) (plane_mask d (at d x) (across_line d (x ∷ (y ∷ r)) v))) closing
          (plane_mask d (at d x) (across_line d (x ∷ (y ∷ r)) v))))
          ≡ map (in_its_plane d) (begun d k (x ∷ (y ∷ (r ++ v ∷ []))))
      go true q = ih q
      go false q = fix q (some_of (on_plane d (at d x) (across_line d (x ∷ (y ∷ r)) v)) 0 (both closing free)) refl

  pub line_is : (k x y : ℕ) (r : List ℕ) (free closing : List Bool) → is_origin (across d (x ∷ (y ∷ r))) ≡ true → Free d (x ∷ (y ∷ r)) free
      → Closing d (x ∷ (y ∷ r)) closing → final (x ∷ (y ∷ r)) < size d
      → on_line d k (x ∷ (y ∷ r)) free closing ≡ map (in_its_plane d) (begun d k (x ∷ (y ∷ r)))
  unfolding on_line ext Closing
  line_is zero x y r free closing o f c l =
      sym (append-nil (own closing (x ∷ (y ∷ r)) (every d)))
      ∙ own_is 0 closing (x ∷ (y ∷ r)) (every d) [] (last_is x y r closing c l) (sym (plane_of-line d (x ∷ (y ∷ r)) o)) refl
  line_is (suc k) x y r free closing o f c l =
      own_is (suc k) closing (x ∷ (y ∷ r)) (every d)
      (when (not (empty (both closing free)))
      (each_of (λ w rest. line_step d (λ q g. on_line d k q g closing) k (x ∷ (y ∷ r)) free closing w) 0
      (both (near d (final (x ∷ (y ∷ r)))) free)))
      (last_is x y r closing c l) (sym (plane_of-line d (x ∷ (y ∷ r)) o))
      (deeper_is k x y r free closing (λ w rest. line_step d (λ q g. on_line d k q g closing) k (x ∷ (y ∷ r)) free closing w) f c
      (λ w rest h t. step_is k x y r free closing (λ q g. on_line d k q g closing) w o f c h t
      (λ q. let o' : is_origin (across d (x ∷ (y ∷ (r ++ w ∷ [])))) ≡ true = ap is_origin (across-turn d x y r w o) ∙ q in
      line_is k x y (r ++ w ∷ []) (less free (only w)) closing o'
      (free_more d x (y ∷ r) w free (λ j. level-line d (x ∷ (y ∷ (r ++ w ∷ []))) o' j ∙ sym (level-line d (x ∷ (y ∷ r)) o j)) f) c
      (final_in x y r w h))))

  -- ---- from the start
  pub higher-free : (x : ℕ) → Free d (x ∷ []) (higher d x)
  unfolding Free higher member any
  higher-free x w h =
      dig-less (every d) (replicate (suc x) true) w ∙ (λ i. full_is (size d) w i && not (full_is (suc x) w i)) ∙ go (dec_lt x w)
    where
      go : Dec (x < w) → (ltb w (size d) && not (ltb w (suc x))) ≡ (ltb x w && not (eqb w x || false) && level d (x ∷ []) w)
      go (yes k) =
          let ne : eqb w x ≡ false = ne_eqb w x (λ e. absurd (omega arith)) in
          (λ i. lt-ltb w (size d) h i && not (le-ltb w (suc x) (omega arith) i))
          ∙ sym (λ i. lt-ltb x w k i && not (ne i || false) && level-line d (x ∷ []) (one_line d x) w i)
      go (no k) =
          (λ i. lt-ltb w (size d) h i && not (lt-ltb w (suc x) (omega (arith, k)) i))
          ∙ sym (λ i. le-ltb x w (omega (arith, k)) i && not (eqb w x || false) && level d (x ∷ []) w)

  pub start-level : (x w j : ℕ) → level d (x ∷ (w ∷ [])) j ≡ level d (x ∷ []) j
  start-level x w j = level-line d (x ∷ (w ∷ [])) (two_line d x w) j ∙ sym (level-line d (x ∷ []) (one_line d x) j)

  pub start-closing : (x w : ℕ) (rest : List Bool) → follow d (x ∷ []) w ≡ true
      → ((j : ℕ) → dig rest j ≡ (ltb w j && goes (size d) (joined d) (level d) (x ∷ []) j)) → Closing d (x ∷ (w ∷ [])) rest
  unfolding Closing member any
  start-closing x w rest t r j h = r j ∙ go (dec_lt w j)
    where
      above : ltb x w ≡ true
      above =
          and_left (ltb x w) (not (member w (x ∷ [])))
          (and_left (ltb x w && not (member w (x ∷ []))) (level d (x ∷ []) w) (follow_uses x [] w t))

      go : Dec (w < j) → (ltb w j && goes (size d) (joined d) (level d) (x ∷ []) j) ≡ (ltb w j && joined d j x)
      go (no k) =
          (λ i. le-ltb w j (omega (arith, k)) i && goes (size d) (joined d) (level d) (x ∷ []) j)
          ∙ sym (λ i. le-ltb w j (omega (arith, k)) i && joined d j x)
      go (yes k) =
          let l : x < w = ltb-true x w above in
          let ne : eqb j x ≡ false = ne_eqb j x (λ e. absurd (omega arith)) in
          let u : can d (x ∷ [])
          j ≡ true = (λ i. lt-ltb x j (omega arith) i && not (ne i || false) && level-line d (x ∷ []) (one_line d x) j i) in
          ap (λ (b : Bool). ltb w j && b)
          (ap (λ (b : Bool). b && follow d (x ∷ []) j) (lt-ltb j (size d) h) ∙ follow_can d x [] j ∙ (λ i. joined d x j && u i)
          ∙ and-true (joined d x j) ∙ joined_turned d x j)

  -- a row of those that may come second
  pub start-row : (x j : ℕ) → dig (both (near d x) (higher d x)) j ≡ goes (size d) (joined d) (level d) (x ∷ []) (0 + j)
  start-row x j =
      let z : j ≡ 0 + j = omega arith in
      row_is d x [] (higher d x) (higher-free x) j ∙ ap (goes (size d) (joined d) (level d) (x ∷ [])) z

  seconds_is : (x : ℕ) → seconds d x ≡ map (in_its_plane d) (deep d 11 (x ∷ []))
  unfolding seconds ext
  seconds_is x =
      each_scan (size d) (joined d) (level d) (in_its_plane d) (λ w rest. on_line d 10 (x ∷ (w ∷ [])) (less (higher d x) (only w)) rest)
      (deep d 10) (x ∷ []) same 0 (size d - 0) (omega arith)
      (both (near d x) (higher d x)) (start-row x)
    where
      same : (w : ℕ) (rest : List Bool) → w < size d → follow d (x ∷ []) w ≡ true
          → ((j : ℕ) → dig rest j ≡ (ltb w j && goes (size d) (joined d) (level d) (x ∷ []) j))
          → on_line d 10 (x ∷ (w ∷ [])) (less (higher d x) (only w)) rest ≡ map (in_its_plane d) (begun d 10 (x ∷ (w ∷ [])))
      same w rest h t r =
          line_is 10 x w [] (less (higher d x) (only w)) rest (two_line d x w)
          (free_more d x [] w (higher d x) (start-level x w) (higher-free x)) (start-closing x w rest t r) h

  starts_is : (i k : ℕ) → starts d i k ≡ map (in_its_plane d) (scan (size d) (joined d) (level d) (deep d 11) [] i k)
  unfolding starts scan follows branch closes
  starts_is i zero = refl
  starts_is i (suc k) =
      (λ t. seconds_is i t ++ starts_is (suc i) k t)
      ∙ sym (map-append (in_its_plane d) (deep d 11 (i ∷ [])) (scan (size d) (joined d) (level d) (deep d 11) [] (suc i) k))

  -- the search finds the loops, in their order, each with the vertices in its plane
  pub search_is : fast_search d ≡ map (in_its_plane d) (loops d)
  unfolding fast_search loops ext
  search_is =
      let z : size d ≡ size d - 0 = omega arith in
      starts_is 0 (size d) ∙ ap (λ (k : ℕ). map (in_its_plane d) (scan (size d) (joined d) (level d) (deep d 11) [] 0 k)) z

  pub search-loops : map (λ f. f.loop) (fast_search d) ≡ loops d
  search-loops = ap (map (λ f. f.loop)) search_is ∙ map-map (λ f. f.loop) (in_its_plane d) (loops d) ∙ same (loops d)
    where
      same : (l : List Loop) → map (λ q. q) l ≡ l
      same [] = refl
      same (q ∷ l) = ap (λ (r : List Loop). q ∷ r) (same l)
