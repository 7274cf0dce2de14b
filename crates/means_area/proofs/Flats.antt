-- A simple polygon in the flat has an area.
-- By induction on the number of corners, of two claims at once: twice the area has the sign of the turn at the lowest corner u; and so
-- has what is left
-- without u, where the triangle of u and its neighbours has no corner inside. At u either that triangle is empty, or a chord from u to a
-- corner in it
-- cuts the ring into two smaller ones with the same lowest corner. For the second claim the same is asked at the lowest corner but u.
pub mod Signs
pub mod Turns
pub mod Net
pub mod Ear
pub mod Choice
pub mod Chains
pub mod Rings
pub mod Lowest
pub mod First
pub mod Areas
pub mod Around
pub mod Chords
pub mod Rests
use mathlib.Core.Path.{◌≡◌, sym, ◌∙◌, subst}
use mathlib.Core.Logic.{◌⊎◌, inl, inr}
use mathlib.Core.List.{List, [], ◌∷◌, ◌++◌}
use Prim.Native.Nat.{ℕ, zero, suc, ◌≤◌}
use native.Mathlib.Omega.{arith}
use lib.ListN.{length, length-append}
use lib.IntN.{ℤ, pos}
use lib.Signed.{◌<ℤ◌}
use Rattle.paper.specs.declared.Flat.{Flat}
use Rattle.means_area.specs.Theorems.{AreaNotZero}
use Rattle.means_area.specs.Rings.{Of}
use Rattle.means_area.specs.Flats.{twice_area, height, Simple, Least, area, SameSign, lst}
use Rattle.means_area.proofs.Flats.Signs.{same_ne}
use Rattle.means_area.proofs.Flats.Rings.{area_turned}
use Rattle.means_area.proofs.Flats.Lowest.{Found, lowest}
use Rattle.means_area.proofs.Flats.First.{Area, Rest}
use Rattle.means_area.proofs.Flats.Areas.{area_step}
use Rattle.means_area.proofs.Flats.Rests.{rest_step}
use Rattle.means_area.proofs.Flats.Chains.{of_append, turned}

module _ (m : ℤ) where
  record Claims (n : ℕ) : Type 0 where
    of_area : Area m n
    of_rest : Rest m n

  claims : (n : ℕ) → Claims n
  claims zero = record { of_area = (λ u c l b j s low. absurd (omega arith)); of_rest = (λ u c l b j s low e. absurd (omega arith)) }
  claims (suc n) =
      let c = claims n in
      let r = rest_step m n c.of_area c.of_rest in
      record { of_area = area_step m n c.of_area r; of_rest = r }

  -- of a ring u c l whose lowest corner is u, the area has the sign of the turn at u, and neither is 0
  pub area-sign : (u c : Flat) (l : List Flat) → 1 ≤ length l → Simple m (u ∷ c ∷ l) → Least m u (c ∷ l)
      → SameSign (area (u ∷ c ∷ l)) (twice_area u c (lst c l))
  area-sign u c l j s low = (claims (length l)).of_area u c l (omega arith) j s low

  -- from any start: a simple polygon has an area
  pub area_not_zero : (g : List Flat) → 3 ≤ length g → Simple m g → area g ≡ pos 0 → ⊥
  area_not_zero [] j s z = absurd (omega arith)
  area_not_zero (a ∷ []) j s z = absurd (omega arith)
  area_not_zero (a ∷ (b ∷ [])) j s z = absurd (omega arith)
  area_not_zero (a ∷ (b ∷ (c ∷ r))) j s z = go (lowest m a (b ∷ c ∷ r) s.apart)
    where
      from : (X : List Flat) (v : Flat) (Y : List Flat) → 2 ≤ length (X ++ v ∷ Y) → Simple m (a ∷ (X ++ v ∷ Y))
          → area (a ∷ (X ++ v ∷ Y)) ≡ pos 0 → Least m v (a ∷ X) → Least m v Y → ⊥
      from X v [] j t q lx ly =
          let e = length-append X (v ∷ []) in
          same_ne (area-sign v a X (omega (arith, e)) (turned m a X v [] t) lx) (sym (area_turned a X v []) ∙ q)
      from X v (y ∷ Y) j t q lx ly =
          let e = length-append Y (a ∷ X) in
          same_ne (area-sign v y (Y ++ a ∷ X) (omega (arith, e)) (turned m a X v (y ∷ Y) t) low) (sym (area_turned a X v (y ∷ Y)) ∙ q)
        where
          low : (z : Flat) → Of z (y ∷ (Y ++ a ∷ X)) → height m v <ℤ height m z
          low z o = pick (of_append z (y ∷ Y) (a ∷ X) o)
            where
              pick : Of z (y ∷ Y) ⊎ Of z (a ∷ X) → height m v <ℤ height m z
              pick (inl p) = ly z p
              pick (inr p) = lx z p

      go : Least m a (b ∷ c ∷ r) ⊎ Found m a (b ∷ c ∷ r) → ⊥
      go (inl low) = same_ne (area-sign a b (c ∷ r) (omega arith) s low) z
      go (inr f) = subst (λ (l : List Flat). 2 ≤ length l → Simple m (a ∷ l) → area (a ∷ l) ≡ pos 0 → ⊥) (sym f.is)
          (λ j t q. from f.before f.v f.after j t q f.low f.low') (omega arith) s z

-- for every height
pub has-area : AreaNotZero
has-area m g = area_not_zero m g
