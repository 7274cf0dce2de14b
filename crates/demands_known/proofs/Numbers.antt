-- A test of new numbers: where it says yes, two drawings differ in the vertices' numbers alone.
use mathlib.Core.Path.{◌≡◌, refl, sym, ◌∙◌}
use mathlib.Core.Bool.{Bool, true, false, not, ◌&&◌, ◌||◌}
use mathlib.Core.Logic.{◌⊎◌, inl, inr}
use Prim.Native.Nat.{ℕ, ◌<◌}
use native.Mathlib.Omega.{arith}
use borrow.Author.Tests.{ltb-true, eqb-true, eq-eqb}
use lib.Dec.{eqb, ltb}
use lib.ListN.{length}
use Rattle.lists.specs.Lists.{all, upto}
use Rattle.lists.proofs.Passing.{each_yes}
use Rattle.lists.proofs.Truth.{and_left, and_right, or_cases}
use Rattle.paper.specs.Points.{same_point}
use Rattle.paper.specs.Drawing.{Wire, at, joined}
use Rattle.paper_laws.proofs.Points.{same_yes}
use Rattle.means_loops.proofs.Listing.{joined-edge}
use Rattle.means_loops.proofs.Places.{edge-joined}
use Rattle.means_moves.specs.Renumbered.{Renumbered}

unfoldable pub same : Bool → Bool → Bool
same true b = b
same false b = not b

same_bits : (a b : Bool) → same a b ≡ true → a ≡ b
unfolding same
same_bits true b e = sym e
same_bits false true e = e
same_bits false false e = refl

module _ (new : ℕ → ℕ) (d e : Wire) where
  abbrev n : ℕ
  n = length d.vertices

  abbrev pair : ℕ → ℕ → Bool
  pair u v = (not (eqb (new u) (new v)) || eqb u v) && same (joined d u v) (joined e (new u) (new v))

  abbrev vertex : ℕ → Bool
  vertex v = (ltb (new v) n && same_point (at e (new v)) (at d v)) && all (λ u. pair u v) (upto n)

  pub numbers : length e.vertices ≡ n → all vertex (upto n) ≡ true → Renumbered new d e
  numbers m t = record {
    as_many = m;
    below = λ v h. ltb-true (new v) n (and_left (ltb (new v) n) (same_point (at e (new v)) (at d v)) (left v h));
    apart = λ u v hu hv z.
        go u v z (or_cases (not (eqb (new u) (new v))) (eqb u v) (and_left (not (eqb (new u) (new v)) || eqb u v) _ (both u v hu hv)));
    place = λ v h. same_yes (at e (new v)) (at d v) (and_right (ltb (new v) n) (same_point (at e (new v)) (at d v)) (left v h));
    edges = λ a b ha hb. (
      λ g. joined-edge e (new a) (new b) (sym (joins a b ha hb) ∙ edge-joined d a b g),
      λ g. joined-edge d a b (joins a b ha hb ∙ edge-joined e (new a) (new b) g),
    );
  }
    where
      left : (v : ℕ) → v < n → (ltb (new v) n && same_point (at e (new v)) (at d v)) ≡ true
      left v h = and_left (ltb (new v) n && same_point (at e (new v)) (at d v)) (all (λ u. pair u v) (upto n)) (each_yes vertex n t v h)

      both : (u v : ℕ) → u < n → v < n → pair u v ≡ true
      both u v hu hv =
          each_yes (λ w. pair w v) n
          (and_right (ltb (new v) n && same_point (at e (new v)) (at d v)) (all (λ u. pair u v) (upto n)) (each_yes vertex n t v hv)) u hu

      joins : (a b : ℕ) → a < n → b < n → joined d a b ≡ joined e (new a) (new b)
      joins a b ha hb =
          same_bits (joined d a b) (joined e (new a) (new b)) (and_right (not (eqb (new a) (new b)) || eqb a b) _ (both a b ha hb))

      go : (u v : ℕ) → new u ≡ new v → (not (eqb (new u) (new v)) ≡ true) ⊎ (eqb u v ≡ true) → u ≡ v
      go u v z (inl p) = let t : ◌≡◌ {A = ℕ} 0 1 = cc (eq-eqb (new u) (new v) z) in absurd (omega arith)
      go u v z (inr p) = eqb-true u v p
