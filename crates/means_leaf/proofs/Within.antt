-- The spread turns none but reached faces, and reaches none but taken ones.
use mathlib.Core.Bool.{Bool, true, false, not, cond}
use mathlib.Core.List.{List, [], ◌∷◌}
use mathlib.Core.Path.{◌≡◌, sym, ◌∙◌, subst}
use Prim.Native.Nat.{ℕ, zero, suc}
use native.Mathlib.Decide.{ℕ_discrete}
use lib.Dec.{eqb}
use Rattle.sets.specs.Word.{dig, Sub, count, first}
use Rattle.sets.proofs.Digits.{never, dig-only, first_in}
use Rattle.paper.specs.Solids.{Reach, fresh, reached_on, runs_down, across_edge, pass, spread}
use Rattle.means_leaf.specs.Meaning.{from_lowest_taken, faces}
use Rattle.means_leaf.proofs.Reaches.{pass_taken}
use Rattle.means_leaf.proofs.Directions.{over_not, reached_dig, turned_dig, reached_within}

abbrev Fit : Reach → Type 0
Fit r = Sub r.turned r.reached

over_fit : (mask up taken : List Bool) (r : Reach) → Fit r → Fit (across_edge mask up taken r)
over_fit mask up taken r f = go (ℕ_discrete (count (reached_on mask taken r)) 1)
  where
    go : Dec (count (reached_on mask taken r) ≡ 1) → Fit (across_edge mask up taken r)
    go (yes e) = λ k h. reached_dig mask up taken r e k
        ∙ reached_within (dig r.turned k) (dig (fresh mask taken r) k) (dig r.reached k)
        (cond (runs_down mask up taken r) (not (dig up k)) (dig up k)) (f k) (sym (turned_dig mask up taken r e k) ∙ h)
    go (no n) = subst Fit (sym (over_not mask up taken r n)) f

pass_fit : (masks ups : List (List Bool)) (taken : List Bool) (r : Reach) → Fit r → Fit (pass masks ups taken r)
unfolding pass
pass_fit [] ups taken r f = f
pass_fit (mask ∷ masks) [] taken r f = f
pass_fit (mask ∷ masks) (up ∷ ups) taken r f = pass_fit masks ups taken (across_edge mask up taken r) (over_fit mask up taken r f)

abbrev Safe : List Bool → Reach → Type 0
Safe taken r = Fit r × Sub r.reached taken

spread_safe : (n : ℕ) (masks ups : List (List Bool)) (taken : List Bool) (r : Reach) → Safe taken r
    → Safe taken (spread n masks ups taken r)
unfolding spread
spread_safe zero masks ups taken r f = f
spread_safe (suc n) masks ups taken r f =
    let next : Safe taken (pass masks ups taken r) = (pass_fit masks ups taken r f.0, pass_taken masks ups taken r f.1) in
    go (eqb (count (pass masks ups taken r).reached) (count r.reached)) next
    (spread_safe n masks ups taken (pass masks ups taken r) next)
  where
    go : (b : Bool) → Safe taken (pass masks ups taken r) → Safe taken (spread n masks ups taken (pass masks ups taken r))
        → Safe taken (cond b (pass masks ups taken r) (spread n masks ups taken (pass masks ups taken r)))
    go true p q = p
    go false p q = q

pub turned_taken : (masks ups : List (List Bool)) (taken : List Bool) → (count taken ≡ 0 → ⊥) → Sub (faces masks ups taken).turned taken
unfolding faces
turned_taken masks ups taken some k h =
    let s = spread_safe (count taken) masks ups taken (from_lowest_taken taken)
    (λ j p. never (sym p), λ j p. subst (λ (x : ℕ). dig taken x ≡ true) (sym (dig-only (first taken) j p)) (first_in taken some)) in
    s.1 k (s.0 k h)
