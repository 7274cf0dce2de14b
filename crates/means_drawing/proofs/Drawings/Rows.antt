-- 14's rounds: a row of what is reached grows until it is closed, in at most as many rounds as vertices.
use mathlib.Core.Path.{◌≡◌, refl, sym, ◌∙◌, ap, subst}
use mathlib.Core.Bool.{Bool, true, false, not, ◌&&◌, ◌||◌, true≢false}
use mathlib.Core.Logic.{◌⊎◌, inl, inr, ◌↔◌}
use mathlib.Core.List.{List, [], ◌∷◌}
use mathlib.Core.Option.{none}
use Prim.Native.Nat.{ℕ, zero, suc, ◌≤◌, ◌<◌}
use native.Mathlib.Decide.{dec_le}
use native.Mathlib.Omega.{arith}
use borrow.Author.Tests.{eqb-true, eq-eqb, ltb-true, ltb-false, not-true, not-false}
use lib.Dec.{eqb, ltb}
use lib.ListN.{length, get_or, get_or-eq_default}
use lib.Seq.{ext_get_or}
use Rattle.lists.specs.Lists.{any, upto}
use Rattle.lists.proofs.Lowest.{lowest-none}
use Rattle.sets.specs.Word.{dig, Sub, count}
use Rattle.sets.proofs.Digits.{count_back, count_length}
use Rattle.lists.proofs.Truth.{and_left, and_right, and_both, or_left, or_right, or_cases, never_true, same_truth}
use Rattle.lists.proofs.Places.{made_at, made_length}
use Rattle.lists.proofs.Passing.{any_yes, any_is, some_yes, some_is}
use Rattle.paper.specs.Drawing.{Wire, Edge, edge, edge_at, joins, joined, further, vertices_reached, apart}
use Rattle.means_drawing.specs.Drawings.{Finds, start, stop, Vertex, Joined, Reachable, first, next}
use Rattle.means_drawing.specs.Rules.{Passes14, RoundsReach}
use Rattle.means_drawing.proofs.Searches.{finds, finds_none}

-- ---- counts of rows

count_some : (a : List Bool) → dig a 0 ≡ true → 1 ≤ count a
unfolding count
count_some [] e = absurd (true≢false (sym e))
count_some (true ∷ a) e = omega arith
count_some (false ∷ a) e = absurd (true≢false (sym e))

-- rows of one length that have the same marks
same_row : (a b : List Bool) → length a ≡ length b → Sub a b → Sub b a → a ≡ b
same_row a b l f g = ext_get_or false a b l (λ i h. same_truth (dig a i) (dig b i) (f i) (g i))

-- ---- an edge joins u and v

joins_yes : (u v : ℕ) (e : Edge) → joins u v e ≡ true → ((u ≡ start e) × (v ≡ stop e)) ⊎ ((u ≡ stop e) × (v ≡ start e))
unfolding joins
joins_yes u v (edge a b) h = go (or_cases (eqb u a && eqb v b) (eqb u b && eqb v a) h)
  where
    go : ((eqb u a && eqb v b) ≡ true) ⊎ ((eqb u b && eqb v a) ≡ true) → ((u ≡ a) × (v ≡ b)) ⊎ ((u ≡ b) × (v ≡ a))
    go (inl q) = inl (eqb-true u a (and_left (eqb u a) (eqb v b) q), eqb-true v b (and_right (eqb u a) (eqb v b) q))
    go (inr q) = inr (eqb-true u b (and_left (eqb u b) (eqb v a) q), eqb-true v a (and_right (eqb u b) (eqb v a) q))

joins_is : (u v : ℕ) (e : Edge) → ((u ≡ start e) × (v ≡ stop e)) ⊎ ((u ≡ stop e) × (v ≡ start e)) → joins u v e ≡ true
unfolding joins
joins_is u v (edge a b) (inl q) = or_left (eqb u a && eqb v b) (eqb u b && eqb v a) (and_both (eq-eqb u a q.0) (eq-eqb v b q.1))
joins_is u v (edge a b) (inr q) = or_right (eqb u a && eqb v b) (eqb u b && eqb v a) (and_both (eq-eqb u b q.0) (eq-eqb v a q.1))

module _ (d : Wire) where
  pub joined_yes : (u v : ℕ) → joined d u v ≡ true → Joined d u v
  unfolding joined edge_at
  joined_yes u v h = let r = any_yes (joins u v) (edge 0 0) d.edges h in (r.0, r.1, joins_yes u v (edge_at d r.0) r.2)

  joined_is : (u v : ℕ) → Joined d u v → joined d u v ≡ true
  unfolding joined edge_at
  joined_is u v j = any_is (joins u v) (edge 0 0) d.edges j.0 j.1 (joins_is u v (edge_at d j.0) j.2)

  abbrev n : ℕ
  n = length d.vertices

  abbrev row : ℕ → List Bool
  row k = vertices_reached d k

  -- ---- one round

  -- a mark is within the row
  inside : (a : List Bool) → length a ≡ n → (v : ℕ) → dig a v ≡ true → v < n
  inside a l v h = go (ltb v n) refl
    where
      go : (t : Bool) → ltb v n ≡ t → v < n
      go true t = ltb-true v n t
      go false t = absurd (true≢false (sym h ∙ get_or-eq_default a false (omega (arith, ltb-false v n t))))

  length_further : (a : List Bool) → length (further d a) ≡ n
  unfolding further
  length_further a = made_length (λ v. get_or a v false || any (λ u. get_or a u false && joined d u v) (upto n)) n

  further-at : (a : List Bool) (v : ℕ) → v < n → dig (further d a) v ≡ dig a v || any (λ u. dig a u && joined d u v) (upto n)
  unfolding further
  further-at a v h = made_at (λ v. get_or a v false || any (λ u. get_or a u false && joined d u v) (upto n)) n v false h

  further_keeps : (a : List Bool) → length a ≡ n → Sub a (further d a)
  further_keeps a l v h = further-at a v (inside a l v h) ∙ or_left (dig a v) (any (λ u. dig a u && joined d u v) (upto n)) h

  further_adds : (a : List Bool) → length a ≡ n → (u v : ℕ) → dig a u ≡ true → Joined d u v → Vertex d v → dig (further d a) v ≡ true
  further_adds a l u v h j hv =
      further-at a v hv
      ∙ or_right (dig a v) (any (λ u. dig a u && joined d u v) (upto n))
      (some_is (λ u. dig a u && joined d u v) n u (inside a l u h) (and_both h (joined_is u v j)))

  -- ---- what is marked is reachable

  length_reached : (k : ℕ) → length (row k) ≡ n
  unfolding vertices_reached
  length_reached zero = made_length (eqb 0) n
  length_reached (suc k) = length_further (row k)

  further_sound : (a : List Bool) → ((v : ℕ) → dig a v ≡ true → Reachable d v) → (v : ℕ) → dig (further d a) v ≡ true → Reachable d v
  further_sound a f v h =
      let hv = inside (further d a) (length_further a) v h in
      go hv (or_cases (dig a v) (any (λ u. dig a u && joined d u v) (upto n)) (sym (further-at a v hv) ∙ h))
    where
      go : v < n → (dig a v ≡ true) ⊎ (any (λ u. dig a u && joined d u v) (upto n) ≡ true) → Reachable d v
      go hv (inl q) = f v q
      go hv (inr q) =
          let r = some_yes (λ u. dig a u && joined d u v) n q in
          let u = r.0 in
          next (f u (and_left (dig a u) (joined d u v) r.2)) (joined_yes u v (and_right (dig a u) (joined d u v) r.2)) hv

  sound : (k v : ℕ) → dig (row k) v ≡ true → Reachable d v
  unfolding vertices_reached
  sound zero v h =
      let e : 0 ≡ v = eqb-true 0 v (sym (made_at (eqb 0) n v false (inside (row 0) (length_reached 0) v h)) ∙ h) in
      subst (Reachable d) e first
  sound (suc k) v h = further_sound (row k) (sound k) v h

  -- ---- a closed row has all that is reachable

  abbrev Closed : List Bool → Type 0
  Closed a = Sub (further d a) a

  has_first : Vertex d 0 → (k : ℕ) → dig (row k) 0 ≡ true
  unfolding vertices_reached
  has_first h zero = made_at (eqb 0) n 0 false h
  has_first h (suc k) = further_keeps (row k) (length_reached k) 0 (has_first h k)

  closed_all : (a : List Bool) → length a ≡ n → Closed a → dig a 0 ≡ true → (v : ℕ) → Reachable d v → dig a v ≡ true
  closed_all a l c z v first = z
  closed_all a l c z v (next {u = u} r j hv) = c v (further_adds a l u v (closed_all a l c z u r) j hv)

  -- ---- each round closes the row or adds to it

  closed_next : (k : ℕ) → Closed (row k) → Closed (row (suc k))
  unfolding vertices_reached
  closed_next k c =
      subst Closed
      (same_row (row k) (further d (row k)) (length_reached k ∙ sym (length_further (row k))) (further_keeps (row k) (length_reached k))
      c) c

  grows : Vertex d 0 → (k : ℕ) → Closed (row k) ⊎ (suc k ≤ count (row k))
  unfolding vertices_reached
  grows h zero = inr (count_some (row 0) (has_first h 0))
  grows h (suc k) = go (grows h k) (dec_le (count (further d (row k))) (count (row k)))
    where
      go : Closed (row k) ⊎ (suc k ≤ count (row k)) → Dec (count (further d (row k)) ≤ count (row k))
          → Closed (row (suc k)) ⊎ (suc (suc k) ≤ count (row (suc k)))
      go (inl c) e = inl (closed_next k c)
      go (inr c) (yes e) = inl (closed_next k (count_back (row k) (further d (row k)) (further_keeps (row k) (length_reached k)) e))
      go (inr c) (no e) = inr (omega arith)

  complete : Vertex d 0 → (v : ℕ) → Reachable d v → dig (row n) v ≡ true
  complete h v r = go (grows h n)
    where
      go : Closed (row n) ⊎ (suc n ≤ count (row n)) → dig (row n) v ≡ true
      go (inl c) = closed_all (row n) (length_reached n) c (has_first h n) v r
      go (inr c) = absurd (omega (arith, count_length (row n), length_reached n))

  -- ---- the row after n rounds

  abbrev marked : ℕ → Bool
  marked v = dig (row n) v

  pub reached_means : RoundsReach d
  reached_means v h = (sound n v, complete (omega arith) v)

  pub apart_finds : Finds (λ v. Reachable d v → ⊥) n (apart d)
  unfolding apart
  apart_finds = finds (λ v. not (marked v)) (λ v. Reachable d v → ⊥) n (λ v h. (to_not v h, of_not v h))
    where
      to_not : (v : ℕ) → v < n → not (marked v) ≡ true → Reachable d v → ⊥
      to_not v h e r = true≢false (sym ((reached_means v h).1 r) ∙ not-true (marked v) e)

      of_not : (v : ℕ) → v < n → (Reachable d v → ⊥) → not (marked v) ≡ true
      of_not v h f = ap not (never_true (marked v) (λ q. f ((reached_means v h).0 q)))

  pub apart_means : (apart d ≡ none) ↔ Passes14 d
  unfolding apart
  apart_means = (
    (λ e v h. (reached_means v h).0 (not-false (marked v) (lowest-none (λ v. not (marked v)) n e v h))),
    (λ f. (finds_none (λ v. Reachable d v → ⊥) n (apart d) apart_finds).1 (λ v h r. r (f v h))),
  )
