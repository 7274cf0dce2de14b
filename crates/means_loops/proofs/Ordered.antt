-- The list of loops ascends strictly, in the document's order.
use mathlib.Core.Path.{◌≡◌, refl, sym, subst, ◌∙◌}
use mathlib.Core.Bool.{Bool, true, false, cond}
use mathlib.Core.Logic.{inl, inr, ⊎_elim}
use mathlib.Core.List.Memᴰ
use mathlib.Core.List.{List, [], ◌∷◌, ◌++◌, append_assoc, Memᴰ}
use Prim.Native.Nat.{ℕ, zero, suc, ◌-◌, ◌<◌}
use native.Mathlib.Omega.{arith}
use lib.ListN.{length}
use Rattle.paper.specs.Numbers.{most_corners}
use Rattle.paper.specs.Loops.{Loop, loop_at, follows, closes, branch, scan, ext}
use Rattle.means_loops.specs.Loop.{Before, Ascending}
use Rattle.means_loops.proofs.Searching.{Brings, Found, ext_in, scan_in, branch_in}

before_more : (p : List ℕ) (x : ℕ) (t : List ℕ) → Before p (p ++ x ∷ t)
unfolding Before
before_more [] x t = tt
before_more (z ∷ p) x t = inr (refl, before_more p x t)

before_at : (p : List ℕ) (x y : ℕ) (a b : List ℕ) → x < y → Before (p ++ x ∷ a) (p ++ y ∷ b)
unfolding Before
before_at [] x y a b h = inl h
before_at (z ∷ p) x y a b h = inr (refl, before_at p x y a b h)

pub before_self : (a : Loop) → Before a a → ⊥
unfolding Before
before_self [] h = h
before_self (x ∷ a) (inl h) = absurd (omega arith)
before_self (x ∷ a) (inr (e, h)) = before_self a h

ascending-append : (k l : List Loop) → Ascending k → Ascending l → ((a b : Loop) → Memᴰ a k → Memᴰ b l → Before a b)
    → Ascending (k ++ l)
unfolding Ascending
ascending-append [] l h i f = i
ascending-append (q ∷ k) l h i f = (
  λ b m. ⊎_elim (λ m'. h.0 b m') (λ m'. f q b (Memᴰ.head refl) m') (Memᴰ.append_cases k m),
  ascending-append k l h.1 i (λ a b m n. f a b (Memᴰ.tail m) n),
)

pub loop_in_lem : (l : List Loop) (i : ℕ) → i < length l → Memᴰ (loop_at l i) l
loop_in_lem [] i h = absurd (omega arith)
loop_in_lem (x ∷ l) zero h = Memᴰ.head refl
loop_in_lem (x ∷ l) (suc i) h = Memᴰ.tail (loop_in_lem l i (omega arith))

-- an earlier one comes before a later
pub ascending_at : (l : List Loop) → Ascending l → (i j : ℕ) → i < j → j < length l → Before (loop_at l i) (loop_at l j)
unfolding Ascending
ascending_at [] a i j h k = absurd (omega arith)
ascending_at (x ∷ l) a i zero h k = absurd (omega arith)
ascending_at (x ∷ l) a zero (suc j) h k = a.0 (loop_at l j) (loop_in_lem l j (omega arith))
ascending_at (x ∷ l) a (suc i) (suc j) h k = ascending_at l a.1 i j (omega arith) (omega arith)

module _ (n : ℕ) (linked : ℕ → ℕ → Bool) (flat : List ℕ → ℕ → Bool) where
  module _ (deeper : List ℕ → List Loop) (asc : (r : List ℕ) → Ascending (deeper r)) (more : (r a : List ℕ) → Memᴰ a (deeper r)
      → (y : ℕ) × (t : List ℕ) × (a ≡ r ++ y ∷ t)) (p : List ℕ) where
    -- what x brings begins with p and x
    brings_begin : (x : ℕ) (a : Loop) → Brings n linked flat deeper p x a → (t : List ℕ) × (a ≡ p ++ x ∷ t)
    brings_begin x a (inl (e, c)) = ([], e)
    brings_begin x a (inr m) = let s = more (p ++ x ∷ []) a m in (s.0 ∷ s.1, s.2 ∙ append_assoc p (x ∷ []) (s.0 ∷ s.1))

    ascending_branch : (x : ℕ) → Ascending (branch n linked flat (follows n linked flat p x) deeper (p ++ x ∷ []))
    unfolding branch Ascending
    ascending_branch x = go (follows n linked flat p x)
      where
        here : (c : Bool) → Ascending (cond c ((p ++ x ∷ []) ∷ deeper (p ++ x ∷ [])) (deeper (p ++ x ∷ [])))
        here true = (
          λ b m. let s = more (p ++ x ∷ []) b m in
              subst (λ (r : List ℕ). Before (p ++ x ∷ []) r) (sym s.2) (before_more (p ++ x ∷ []) s.0 s.1),
          asc (p ++ x ∷ []),
        )
        here false = asc (p ++ x ∷ [])

        go : (b : Bool) → Ascending (branch n linked flat b deeper (p ++ x ∷ []))
        go true = here (closes n linked flat (p ++ x ∷ []))
        go false = tt

    ascending_scan : (v k : ℕ) → Ascending (scan n linked flat deeper p v k)
    unfolding scan Ascending
    ascending_scan v zero = tt
    ascending_scan v (suc k) =
        ascending-append (branch n linked flat (follows n linked flat p v) deeper (p ++ v ∷ [])) (scan n linked flat deeper p (suc v) k)
        (ascending_branch v) (ascending_scan (suc v) k)
        (λ a b m w.
        let s = brings_begin v a (branch_in n linked flat deeper p a v m).1 in
        let u = scan_in n linked flat deeper p b (suc v) k w in
        let z = brings_begin u.0 b u.4 in
        subst (λ (r : List ℕ). Before r b) (sym s.1)
        (subst (λ (r : List ℕ). Before (p ++ v ∷ s.0) r) (sym z.1) (before_at p v u.0 s.0 z.0 u.1)))

  ascending_ext : (d : ℕ) (p : List ℕ) (v : ℕ) → Ascending (ext n linked flat d p v)
  unfolding ext Ascending Found
  ascending_ext zero p v = tt
  ascending_ext (suc d) p v =
      ascending_scan (λ (r : List ℕ). ext n linked flat d r 0) (λ r. ascending_ext d r 0)
      (λ r a m. let f = ext_in n linked flat d r 0 a m in (f.0, f.1, f.2)) p v (n - v)

  pub found_ascend : Ascending (ext n linked flat most_corners [] 0)
  found_ascend = ascending_ext 12 [] 0
