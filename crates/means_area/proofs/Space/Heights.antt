-- A factor with which the heights of different corners differ: above all differences of second coordinates.
use mathlib.Core.Path.{◌≡◌, sym, ap, subst}
use mathlib.Core.Logic.{◌⊎◌, inl, inr}
use mathlib.Core.List.{List, [], ◌∷◌}
use Prim.Native.Nat.{suc}
use lib.IntN.{ℤ, pos, negsuc, neg_ℤ, ◌+ℤ◌, ◌-ℤ◌, ◌*ℤ◌}
use lib.Signed.{≤ℤ_refl}
use Rattle.exact.proofs.Ring.{var, con, ◌⊕◌, ◌⊖◌, ◌⊗◌, neg, ring}
use Rattle.exact.proofs.Order.{whole_nonneg, from_one, mul_nonneg, add_nonneg}
use Rattle.paper.specs.declared.Point.{Point}
use Rattle.means_area.specs.Rings.{Of}
use Rattle.means_area.specs.Flats.{Up, Nn}
use Rattle.means_area.proofs.Flats.Signs.{up_is, nn_is, up_nn, up_add, nn_up, zero_off, ways}

size : ℤ → ℤ
size (pos n) = pos n
size (negsuc n) = pos (suc n)

size_up : (z : ℤ) → Nn (size z -ℤ z) × Nn (size z +ℤ z) × Nn (size z)
unfolding size
size_up (pos n) = (nn_is (ring (pos n ∷ []) (con (pos 0)) (var 0 ⊖ var 0) tt) (≤ℤ_refl (pos 0)), add_nonneg (whole_nonneg n) (whole_nonneg n), whole_nonneg n)
size_up (negsuc n) = (
  add_nonneg (whole_nonneg (suc n)) (whole_nonneg (suc n)),
  nn_is (ring (pos (suc n) ∷ []) (con (pos 0)) (var 0 ⊖ var 0) tt) (≤ℤ_refl (pos 0)),
  whole_nonneg
      (suc n),
)

-- a number that the sizes of the second coordinates are within
pub bound : List Point → ℤ
bound [] = pos 0
bound (p ∷ l) = size p.y +ℤ bound l

pub bound_nn : (l : List Point) → Nn (bound l)
unfolding bound
bound_nn [] = ≤ℤ_refl (pos 0)
bound_nn (p ∷ l) = add_nonneg (size_up p.y).2 (bound_nn l)

pub bounded : (p : Point) (l : List Point) → Of p l → Nn (bound l -ℤ p.y) × Nn (bound l +ℤ p.y)
unfolding bound
bounded p [] i = absurd i
bounded p (q ∷ l) (inl e) =
    let t = size_up q.y in
    let m = bound_nn l in
    let ρ = size q.y ∷ q.y ∷ bound l ∷ [] in
    subst (λ (r : Point). Nn (bound (q ∷ l) -ℤ r.y) × Nn (bound (q ∷ l) +ℤ r.y)) (sym e) (
      nn_is (ring ρ ((var 0 ⊖ var 1) ⊕ var 2) ((var 0 ⊕ var 2) ⊖ var 1) tt) (add_nonneg t.0 m),
      nn_is
          (ring ρ ((var 0 ⊕ var 1) ⊕ var 2) ((var 0 ⊕ var 2) ⊕ var 1) tt) (add_nonneg t.1 m),
    )
bounded p (q ∷ l) (inr i) =
    let t = size_up q.y in
    let m = bounded p l i in
    let ρ = size q.y ∷ p.y ∷ bound l ∷ [] in (
      nn_is (ring ρ (var 0 ⊕ (var 2 ⊖ var 1)) ((var 0 ⊕ var 2) ⊖ var 1) tt) (add_nonneg t.2 m.0),
      nn_is
          (ring ρ (var 0 ⊕ (var 2 ⊕ var 1)) ((var 0 ⊕ var 2) ⊕ var 1) tt) (add_nonneg t.2 m.1),
    )

-- (2 B + 1) a + b is 0 only where a is, for b between -2 B and 2 B
pub steep : (B a b : ℤ) → Nn B → Nn (B +ℤ B -ℤ b) → Nn (B +ℤ B +ℤ b) → (pos 1 +ℤ B +ℤ B) *ℤ a +ℤ b ≡ pos 0 → a ≡ pos 0
steep B a b nb lo hi e = go (ways a)
  where
    ρ : List ℤ
    ρ = B ∷ a ∷ b ∷ []

    one : Up (pos 1)
    one = record { lt = tt }

    m : Nn (pos 1 +ℤ B +ℤ B)
    m = add_nonneg (add_nonneg (up_nn one) nb) nb

    go : Up a ⊎ ((a ≡ pos 0) ⊎ Up (neg_ℤ a)) → a ≡ pos 0
    go (inl h) =
        absurd
        (zero_off e
        (up_is
        (ring ρ ((con (pos 1) ⊕ var 0 ⊕ var 0) ⊗ (var 1 ⊖ con (pos 1)) ⊕ (con (pos 1) ⊕ (var 0 ⊕ var 0 ⊕ var 2)))
        ((con (pos 1) ⊕ var 0 ⊕ var 0) ⊗ var 1 ⊕ var 2) tt)
        (nn_up (mul_nonneg m (from_one a h)) (up_add one hi))))
    go (inr (inl h)) = h
    go (inr (inr h)) =
        absurd
        (zero_off (ap neg_ℤ e)
        (up_is
        (ring ρ ((con (pos 1) ⊕ var 0 ⊕ var 0) ⊗ (neg (var 1) ⊖ con (pos 1)) ⊕ (con (pos 1) ⊕ (var 0 ⊕ var 0 ⊖ var 2)))
        (neg ((con (pos 1) ⊕ var 0 ⊕ var 0) ⊗ var 1 ⊕ var 2)) tt)
        (nn_up (mul_nonneg m (from_one (neg_ℤ a) h)) (up_add one lo))))
