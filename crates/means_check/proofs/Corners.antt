-- The corners of a solid's faces are at most two for each edge: each side is an edge, and each edge is a side of two.
use mathlib.Core.Path.{◌≡◌, refl, sym, ap₂, ◌∙◌, subst}
use mathlib.Core.Bool.{Bool, true, false, ◌&&◌, cond}
use mathlib.Core.Logic.{◌⊎◌, inl, inr}
use mathlib.Core.List.{List, [], ◌∷◌, map}
use Prim.Native.Nat.{ℕ, zero, suc, ◌+◌, ◌*◌, ◌≤◌, ◌<◌}
use native.Mathlib.Omega.{arith}
use lib.ListN.{length, get_or}
use Rattle.lists.specs.Around.{around}
use Rattle.lists.proofs.Sides.{around_low}
use Rattle.lists.proofs.Places.{map_at}
use Rattle.sets.specs.Word.{dig, bit, count, both, less, only}
use Rattle.sets.proofs.Digits.{count-only, left_in}
use Rattle.paper.specs.Drawing.{Wire, Edge, edge, edge_at}
use Rattle.paper.specs.Loops.{Loop, loop_at}
use Rattle.paper.specs.Solids.{has}
use Rattle.means_solid.specs.Solid.{Goes, IsSolid}
use Rattle.means_solid.proofs.Goes.{cases_has, one_way}
use Rattle.means_loops.specs.Path.{ClosedPath}
use Rattle.means_masks.proofs.Edges.{in_two_lem}

-- ---- sums over the faces that are taken

-- the sum of a number of each face that is taken
unfoldable pub over : List Bool → (Loop → ℕ) → List Loop → ℕ
over [] f ls = 0
over (t ∷ ts) f [] = 0
over (t ∷ ts) f (l ∷ ls) = cond t (f l) 0 + over ts f ls

over_none : (ts : List Bool) (ls : List Loop) → over ts (λ l. 0) ls ≡ 0
unfolding over
over_none [] ls = refl
over_none (t ∷ ts) [] = refl
over_none (true ∷ ts) (l ∷ ls) = omega (arith, over_none ts ls)
over_none (false ∷ ts) (l ∷ ls) = omega (arith, over_none ts ls)

over-plus : (ts : List Bool) (f g : Loop → ℕ) (ls : List Loop) → over ts (λ l. f l + g l) ls ≡ over ts f ls + over ts g ls
unfolding over
over-plus [] f g ls = refl
over-plus (t ∷ ts) f g [] = refl
over-plus (true ∷ ts) f g (l ∷ ls) = omega (arith, over-plus ts f g ls)
over-plus (false ∷ ts) f g (l ∷ ls) = omega (arith, over-plus ts f g ls)

pub over_le : (ts : List Bool) (f g : Loop → ℕ) (ls : List Loop) → ((i : ℕ) → i < length ls → f (loop_at ls i) ≤ g (loop_at ls i))
    → over ts f ls ≤ over ts g ls
unfolding over
over_le [] f g ls h = omega arith
over_le (t ∷ ts) f g [] h = omega arith
over_le (true ∷ ts) f g (l ∷ ls) h = omega (arith, h 0 (omega arith), over_le ts f g ls (λ i k. h (suc i) (omega arith)))
over_le (false ∷ ts) f g (l ∷ ls) h = omega (arith, over_le ts f g ls (λ i k. h (suc i) (omega arith)))

over_mask : (ts : List Bool) (p : Loop → Bool) (ls : List Loop) → over ts (λ l. bit (p l)) ls ≡ count (both (map p ls) ts)
unfolding over count both
over_mask [] p [] = refl
over_mask [] p (l ∷ ls) = refl
over_mask (t ∷ ts) p [] = refl
over_mask (t ∷ ts) p (l ∷ ls) = ap₂ ◌+◌ (bits (p l) t) (over_mask ts p ls)
  where
    bits : (b t : Bool) → cond t (bit b) 0 ≡ bit (b && t)
    bits true true = refl
    bits true false = refl
    bits false true = refl
    bits false false = refl

-- edges that are each in two of the faces
over_edges : (ts : List Bool) (ls : List Loop) (es : List Edge)
    → ((i : ℕ) → i < length es → count (both (map (has (get_or es i (edge 0 0))) ls) ts) ≡ 2)
    → over ts (λ l. count (map (λ e. has e l) es)) ls ≡ 2 * length es
unfolding count
over_edges ts ls [] h = over_none ts ls
over_edges ts ls (e ∷ es) h =
    let a = over-plus ts (λ l. bit (has e l)) (λ l. count (map (λ e. has e l) es)) ls in
    let b = over_mask ts (has e) ls in
    let c = over_edges ts ls es (λ i k. h (suc i) (omega arith)) in
    omega (arith, a, b, c, h 0 (omega arith))

-- ---- a loop has as many edges as corners

-- n different digits are set
different : (n : ℕ) (m : List Bool) (f : (i : ℕ) → i < n → ℕ) → ((i : ℕ) (h : i < n) → dig m (f i h) ≡ true)
    → ((i j : ℕ) (h : i < n) (k : j < n) → f i h ≡ f j k → i ≡ j) → n ≤ count m
different zero m f on once = omega arith
different (suc n) m f on once =
    let top = f n last in
    let rest = different n (less m (only top)) (λ i h. f i (up i h))
    (λ i h. left_in m top (f i (up i h)) (on i (up i h)) (λ e. absurd (apart i h (once i n (up i h) last e))))
    (λ i j h k. once i j (up i h) (up j k)) in
    omega (arith, count-only m top (on n last), rest)
  where
    last : n < suc n
    last = omega arith

    up : (i : ℕ) → i < n → i < suc n
    up i h = omega arith

    apart : (i : ℕ) → i < n → i ≡ n → ⊥
    apart i h e = omega arith

module _ (d : Wire) (l : Loop) (c : ClosedPath d l) where
  -- the side at i is the edge
  abbrev Side : Edge → ℕ → Type 0
  Side (edge p q) i = ((p ≡ around l i 0) × (q ≡ around l (suc i) 0)) ⊎ ((q ≡ around l i 0) × (p ≡ around l (suc i) 0))

  side_of : (i : ℕ) → i < length l → (e : ℕ) × (e < length d.edges) × Side (edge_at d e) i
  side_of i h =
      let r = c.along (around l i 0) (around l (suc i) 0) (record { at = i; here = h; from = refl; to = refl }) in
      (r.0, r.1, either (edge_at d r.0) r.2)
    where
      either : (e : Edge) → (e ≡ edge (around l i 0) (around l (suc i) 0)) ⊎ (e ≡ edge (around l (suc i) 0) (around l i 0))
          → Side e i
      either e (inl w) = subst (λ (e : Edge). Side e i) (sym w) (inl (refl, refl))
      either e (inr w) = subst (λ (e : Edge). Side e i) (sym w) (inr (refl, refl))

  side_has : (e : Edge) (i : ℕ) → i < length l → Side e i → has e l ≡ true
  side_has (edge p q) i h (inl s) = cases_has p q l (inl (record { at = i; here = h; from = s.0; to = s.1 }))
  side_has (edge p q) i h (inr s) = cases_has p q l (inr (record { at = i; here = h; from = s.0; to = s.1 }))

  -- no edge is two sides
  side_once : (e : Edge) (i j : ℕ) → i < length l → j < length l → Side e i → Side e j → i ≡ j
  side_once (edge p q) i j hi hj s t = go s t
    where
      starts : (v : ℕ) → v ≡ around l i 0 → v ≡ around l j 0 → i ≡ j
      starts v a b = c.different i j hi hj (sym (around_low l i 0 hi) ∙ sym a ∙ b ∙ around_low l j 0 hj)

      goes : {a b : ℕ} (k : ℕ) → k < length l → (a ≡ around l k 0) × (b ≡ around l (suc k) 0) → Goes l a b
      goes k h x = record { at = k; here = h; from = x.0; to = x.1 }

      both_ways : Goes l p q → Goes l q p → i ≡ j
      both_ways g h = absurd (one_way p q l (record { three = c.three; different = c.different }) g h)

      go : Side (edge p q) i → Side (edge p q) j → i ≡ j
      go (inl a) (inl b) = starts p a.0 b.0
      go (inr a) (inr b) = starts q a.0 b.0
      go (inl a) (inr b) = both_ways (goes i hi a) (goes j hj b)
      go (inr a) (inl b) = both_ways (goes j hj b) (goes i hi a)

  corner_edges : length l ≤ count (map (λ e. has e l) d.edges)
  unfolding edge_at
  corner_edges =
      different (length l) (map (λ e. has e l) d.edges) (λ i h. (side_of i h).0)
      (λ i h. map_at (λ e. has e l) d.edges (side_of i h).0 (edge 0 0) false (side_of i h).1
      ∙ side_has (edge_at d (side_of i h).0) i h (side_of i h).2)
      (λ i j h k e. side_once (edge_at d (side_of i h).0) i j h k (side_of i h).2
      (subst (λ (n : ℕ). Side (edge_at d n) j) (sym e) (side_of j k).2))

module _ (d : Wire) (cs : List Loop) (taken turned : List Bool) (paths : (k : ℕ) → k < length cs → ClosedPath d (loop_at cs k)) {six : ℕ}
    (s : IsSolid d cs taken turned six) where
  pub corners_few : over taken length cs ≤ 2 * length d.edges
  unfolding edge_at
  corners_few =
      let a = over_le taken length (λ l. count (map (λ e. has e l) d.edges)) cs (λ i h. corner_edges d (loop_at cs i) (paths i h)) in
      let b = over_edges taken cs d.edges (λ e h. in_two_lem d cs taken turned (edge_at d e) (s.i e h)) in
      omega (arith, a, b)
