-- Vertices of a list that are below a number; and searches that ask two tests which agree there.
use mathlib.Core.Path.{◌≡◌, refl, ap, ap₂, ◌∙◌}
use mathlib.Core.Bool.{Bool, true, false, not, ◌&&◌, ◌||◌, cond}
use mathlib.Core.List.{List, [], ◌∷◌, ◌++◌}
use Prim.Native.Nat.{ℕ, zero, suc, ◌+◌, ◌-◌, ◌≤◌, ◌<◌}
use native.Mathlib.Omega.{arith}
use lib.Dec.{eqb, ltb}
use lib.ListN.{length, get_or}
use Rattle.lists.specs.Lists.{member}
use Rattle.paper.specs.Loops.{Loop, loop_at, follows, closes, branch, scan, ext, final}
use Rattle.means_moves.specs.Alike.{Below, AllBelow}

-- ---- places

pub below_at : (n : ℕ) (l : List ℕ) (k : ℕ) → 0 < n → Below n l → get_or l k 0 < n
below_at n [] k h b = h
below_at n (v ∷ l) zero h b = b.0
below_at n (v ∷ l) (suc k) h b = below_at n l k h b.1

pub below_snoc : (n : ℕ) (l : List ℕ) (v : ℕ) → Below n l → v < n → Below n (l ++ v ∷ [])
below_snoc n [] v b h = (h, tt)
below_snoc n (x ∷ l) v b h = (b.0, below_snoc n l v b.1 h)

pub all-at : (n : ℕ) (ls : List Loop) (k : ℕ) → AllBelow n ls → Below n (loop_at ls k)
all-at n [] k b = tt
all-at n (l ∷ ls) zero b = b.0
all-at n (l ∷ ls) (suc k) b = all-at n ls k b.1

pub all_append : (n : ℕ) (a b : List Loop) → AllBelow n a → AllBelow n b → AllBelow n (a ++ b)
all_append n [] b p q = q
all_append n (l ∷ a) b p q = (p.0, all_append n a b p.1 q)

-- ---- the search for loops, with two tests of a plane that agree on the first n vertices

module _ (n : ℕ) (linked : ℕ → ℕ → Bool) (flat other : List ℕ → ℕ → Bool)
    (agree : (p : List ℕ) (v : ℕ) → Below n (v ∷ p) → other p v ≡ flat p v) where
  follows_same : (p : List ℕ) (v : ℕ) → Below n (v ∷ p) → follows n linked other p v ≡ follows n linked flat p v
  unfolding follows
  follows_same p v b = ap (λ (t : Bool). eqb (length p) 0 || (ltb (get_or p 0 0) v && linked (final p) v && not (member v p) && t))
      (agree p v b)

  branch_same : (t : Bool) (deeper deeper' : List ℕ → List Loop) (q : List ℕ) → deeper' q ≡ deeper q
      → branch n linked other t deeper' q ≡ branch n linked flat t deeper q
  unfolding branch closes
  branch_same true deeper deeper' q e = λ i. cond (closes n linked flat q) (q ∷ e i) (e i)
  branch_same false deeper deeper' q e = refl

  scan-same : (deeper deeper' : List ℕ → List Loop) → ((q : List ℕ) → Below n q → deeper' q ≡ deeper q)
      → (p : List ℕ) (v k : ℕ) → Below n p → v + k ≤ n → scan n linked other deeper' p v k ≡ scan n linked flat deeper p v k
  unfolding scan
  scan-same deeper deeper' h p v zero b l = refl
  scan-same deeper deeper' h p v (suc k) b l =
      let hv : v < n = omega arith in
      ap₂ ◌++◌
      (ap (λ (t : Bool). branch n linked other t deeper' (p ++ v ∷ [])) (follows_same p v (hv, b))
      ∙ branch_same (follows n linked flat p v) deeper deeper' (p ++ v ∷ []) (h (p ++ v ∷ []) (below_snoc n p v b hv)))
      (scan-same deeper deeper' h p (suc v) k b (omega arith))

  pub ext_same : (d : ℕ) (p : List ℕ) (v : ℕ) → Below n p → v ≤ n → ext n linked other d p v ≡ ext n linked flat d p v
  unfolding ext
  ext_same zero p v b l = refl
  ext_same (suc d) p v b l =
      scan-same (λ q. ext n linked flat d q 0) (λ q. ext n linked other d q 0) (λ q c. ext_same d q 0 c (omega arith)) p v (n - v) b
      (omega arith)

-- what it finds is below n
module _ (n : ℕ) (linked : ℕ → ℕ → Bool) (flat : List ℕ → ℕ → Bool) where
  branch-below : (t : Bool) (deeper : List ℕ → List Loop) (q : List ℕ) → Below n q → AllBelow n (deeper q)
      → AllBelow n (branch n linked flat t deeper q)
  unfolding branch
  branch-below true deeper q b h = go (closes n linked flat q)
    where
      go : (c : Bool) → AllBelow n (cond c (q ∷ deeper q) (deeper q))
      go true = (b, h)
      go false = h
  branch-below false deeper q b h = tt

  scan-below : (deeper : List ℕ → List Loop) → ((q : List ℕ) → Below n q → AllBelow n (deeper q)) → (p : List ℕ) (v k : ℕ) → Below n p
      → v + k ≤ n → AllBelow n (scan n linked flat deeper p v k)
  unfolding scan
  scan-below deeper h p v zero b l = tt
  scan-below deeper h p v (suc k) b l =
      let c : Below n (p ++ v ∷ []) = below_snoc n p v b (omega arith) in
      all_append n (branch n linked flat (follows n linked flat p v) deeper (p ++ v ∷ [])) (scan n linked flat deeper p (suc v) k)
      (branch-below (follows n linked flat p v) deeper (p ++ v ∷ []) c (h (p ++ v ∷ []) c))
      (scan-below deeper h p (suc v) k b (omega arith))

  pub ext-below : (d : ℕ) (p : List ℕ) (v : ℕ) → Below n p → v ≤ n → AllBelow n (ext n linked flat d p v)
  unfolding ext
  ext-below zero p v b l = tt
  ext-below (suc d) p v b l = scan-below (λ q. ext n linked flat d q 0) (λ q c. ext-below d q 0 c (omega arith)) p v (n - v) b (omega arith)
