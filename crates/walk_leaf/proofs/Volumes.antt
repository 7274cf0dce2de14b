-- (iv): six volumes above zero, below it, or zero.
use mathlib.Core.Bool.{Bool, true}
use mathlib.Core.List.{List}
use mathlib.Core.Path.{◌≡◌, refl, sym, ◌∙◌, subst}
use Prim.Native.Nat.{ℕ, zero, suc}
use native.Mathlib.Omega.{arith}
use lib.IntN.{ℤ, pos, negsuc, neg_ℤ, nat_abs}
use lib.Signed.{lt_z, ◌<ℤ◌, ◌≤ℤ◌}
use borrow.Author.Tests.{ltb-true}
use Rattle.exact.proofs.Signs.{above_lt, lt_is, <ℤ-≤ℤ}
use Rattle.sets.specs.Kinds.{Minus}
use Rattle.sets.specs.Sets.{wides, Wide}
use Rattle.sets.proofs.Digits.{never}
use Rattle.paper.specs.Solids.{weighed}
use Rattle.walk_leaf.specs.Tests.{Weighs, LeafIs, WeighedIs}
use Rattle.std.specs.Prelude.{None, Some}

pub turned_above : {v : ℤ} → v <ℤ pos 0 → pos 0 ≤ℤ neg_ℤ v
turned_above {v} p = go v (lt_is p)
  where
    go : (v : ℤ) → lt_z v (pos 0) ≡ true → pos 0 ≤ℤ neg_ℤ v
    go (pos n) e = absurd (omega (arith, ltb-true n 0 e))
    go (negsuc n) e = <ℤ-≤ℤ (above_lt (pos (suc n)) refl)

module _ (t s : List Bool) {taken turned : Wide} (i : wides.Is taken t) (j : wides.Is turned s) where
  above : (v : ℤ) {x : ℕ} → lt_z (pos 0) v ≡ true → x ≡ nat_abs v → LeafIs (Some (record { turned = turned; six = x })) (weighed t s v)
  above (pos zero) e p = never (sym e)
  above (pos (suc n)) e p = record { turned_is = j; six_is = p }
  above (negsuc n) e p = never (sym e)

  below : (v : ℤ) {x : ℕ} {others : Wide} → Minus wides taken turned others → lt_z v (pos 0) ≡ true → x ≡ nat_abs (neg_ℤ v)
      → LeafIs (Some (record { turned = others; six = x })) (weighed t s v)
  below (pos n) d e p = absurd (omega (arith, ltb-true n 0 e))
  below (negsuc n) d e p = record { turned_is = d.same t s i j; six_is = p }

module _ {sixes : List ℤ} {taken turned : Wide} {v : ℤ} (w : Weighs sixes taken turned v) where
  pub volume-above : {x : ℕ} → pos 0 <ℤ v → x ≡ nat_abs v → WeighedIs sixes taken turned (Some (record { turned = turned; six = x }))
  volume-above {x} p e zs t s m l i j =
      subst (λ (y : ℤ). LeafIs (Some (record { turned = turned; six = x })) (weighed t s y)) (w.same zs t s m l i j)
      (above t s i j v (lt_is p) e)

  pub volume-below : {x : ℕ} {others : Wide} → Minus wides taken turned others → v <ℤ pos 0 → x ≡ nat_abs (neg_ℤ v)
      → WeighedIs sixes taken turned (Some (record { turned = others; six = x }))
  volume-below {x} {others} d p e zs t s m l i j =
      subst (λ (y : ℤ). LeafIs (Some (record { turned = others; six = x })) (weighed t s y)) (w.same zs t s m l i j)
      (below t s i j v d (lt_is p) e)

  pub volume-none : v ≡ pos 0 → WeighedIs sixes taken turned None
  volume-none e zs t s m l i j = subst (λ (y : ℤ). LeafIs None (weighed t s y)) (sym e ∙ w.same zs t s m l i j) tt
