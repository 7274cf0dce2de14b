-- Of two vertices at one point the lower has a later one there.
use mathlib.Core.Path.{◌≡◌, refl, sym, ◌∙◌, ap}
use mathlib.Core.Bool.{Bool, true, false, ◌||◌, true≢false}
use Prim.Native.Nat.{ℕ, zero, suc, ◌+◌, ◌-◌, ◌≤◌, ◌<◌}
use native.Mathlib.Decide.{dec_le, ℕ_discrete}
use native.Mathlib.Numerals.{add-one}
use native.Mathlib.Omega.{arith}
use lib.ListN.{length}
use Rattle.lists.specs.Lists.{any, from, lowest}
use Rattle.lists.proofs.Truth.{or_left, or_right}
use Rattle.paper.specs.Points.{same_point}
use Rattle.paper.specs.Drawing.{Wire, at, same_place}
use Rattle.paper_laws.proofs.Points.{same_yes, same_is}
use Rattle.means_drawing.specs.Drawings.{Doubled}
use Rattle.means_drawing.proofs.Drawings.{same_place_finds}
use Rattle.fast_meets.specs.Theorems.{later_at, LaterTell}
use Rattle.fast_meets.proofs.Searches.{finds_one, finds_lower}

-- ---- one of the m numbers from j on passes

module _ (p : ℕ → Bool) where
  from_yes : (j m : ℕ) → any p (from j m) ≡ true → (k : ℕ) × (j ≤ k) × (k < j + m) × (p k ≡ true)
  unfolding any from
  from_yes j zero e = absurd (true≢false (sym e))
  from_yes j (suc m) e = go (p j) refl e (from_yes (suc j) m)
    where
      go : (t : Bool) → p j ≡ t → (t || any p (from (suc j) m)) ≡ true
          → (any p (from (suc j) m) ≡ true → (k : ℕ) × (suc j ≤ k) × (k < suc j + m) × (p k ≡ true))
          → (k : ℕ) × (j ≤ k) × (k < j + suc m) × (p k ≡ true)
      go true q h f = (j, omega arith, omega arith, q)
      go false q h f = let r = f h in (r.0, omega (arith, r.1), omega (arith, r.2), r.3)

  from_is : (j m k : ℕ) → j ≤ k → k < j + m → p k ≡ true → any p (from j m) ≡ true
  unfolding any from
  from_is j zero k h l e = absurd (omega arith)
  from_is j (suc m) k h l e = go (ℕ_discrete j k) (λ q. from_is (suc j) m k q (omega arith) e)
    where
      go : Dec (j ≡ k) → (suc j ≤ k → any p (from (suc j) m) ≡ true) → (p j || any p (from (suc j) m)) ≡ true
      go (yes q) f = or_left (p j) (any p (from (suc j) m)) (ap p q ∙ e)
      go (no q) f = or_right (p j) (any p (from (suc j) m)) (f (omega (arith, q)))

  -- two tests that say the same of each
  pub from-same : (q : ℕ → Bool) (j m : ℕ) → ((k : ℕ) → j ≤ k → k < j + m → p k ≡ q k) → any p (from j m) ≡ any q (from j m)
  unfolding any from
  from-same q j zero h = refl
  from-same q j (suc m) h =
      let rest = from-same q (suc j) m (λ k a b. h k (omega arith) (omega arith)) in
      let here = h j (omega arith) (omega arith) in
      λ i. here i || rest i

  -- a loop over the numbers from w on, below n
  module _ (n w : ℕ) where
    abbrev pub left : Bool
    left = any p (from w (n - w))

    pub left-start : any p (from (suc w) (n - suc w)) ≡ any p (from (w + 1) (n - (w + 1)))
    left-start = rw add-one refl

    turned : w < n → left ≡ (p w || any p (from (w + 1) (n - (w + 1))))
    unfolding any from
    turned h =
        let s : n - w ≡ suc (n - (w + 1)) = omega arith in
        rw (s, add-one) refl

    pub left_hit : w < n → p w ≡ true → left ≡ true
    left_hit h e = turned h ∙ ap (λ (t : Bool). t || any p (from (w + 1) (n - (w + 1)))) e

    pub left_miss : w < n → p w ≡ false → left ≡ any p (from (w + 1) (n - (w + 1)))
    left_miss h e = turned h ∙ ap (λ (t : Bool). t || any p (from (w + 1) (n - (w + 1)))) e

    pub left_end : n ≤ w → left ≡ false
    unfolding any from
    left_end h =
        let s : n - w ≡ 0 = omega arith in
        rw s refl

-- ---- 11

module _ (d : Wire) where
  abbrev n : ℕ
  n = length d.vertices

  abbrev there : ℕ → ℕ → Bool
  there u w = same_point (at d u) (at d w)

  later_is : (u w : ℕ) → u < w → w < n → at d u ≡ at d w → later_at d u ≡ true
  later_is u w h l e = from_is (there u) _ _ w (omega arith) (omega arith) (same_is (at d u) (at d w) e)

  doubled : (u : ℕ) → u < n → later_at d u ≡ true → Doubled d u
  doubled u h e =
      let r = from_yes (there u) _ _ e in
      (r.0, omega (arith, r.2), (λ q. omega (arith, q, r.1)), same_yes (at d u) (at d r.0) r.3)

  lower : (u : ℕ) → u < n → Doubled d u → (j : ℕ) × (j ≤ u) × (later_at d j ≡ true)
  lower u h (w, l, ne, e) = go (dec_le u w)
    where
      go : Dec (u ≤ w) → (j : ℕ) × (j ≤ u) × (later_at d j ≡ true)
      go (yes q) = (u, omega arith, later_is u w (omega (arith, ne)) l e)
      go (no q) = (w, omega arith, later_is w u (omega arith) h (sym e))

  pub later_tell : LaterTell d
  later_tell =
      finds_one (Doubled d) n (same_place d) (lowest (later_at d) n) (same_place_finds d)
      (finds_lower (later_at d) (Doubled d) n doubled lower)
