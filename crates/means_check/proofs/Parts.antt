-- A solid has a face, and no solid is a part of another.
use mathlib.Core.Path.{◌≡◌, sym, subst, ◌∙◌}
use mathlib.Core.Bool.{Bool, true}
use mathlib.Core.Logic.{◌⊎◌, inl, inr}
use mathlib.Core.List.{List}
use Prim.Native.Nat.{ℕ, ◌<◌}
use native.Mathlib.Omega.{arith}
use lib.IntN.{pos}
use Rattle.sets.specs.Word.{dig, first}
use Rattle.sets.proofs.Digits.{count_none, first_in}
use Rattle.paper.specs.Drawing.{Wire, Edge, edge_at}
use Rattle.paper.specs.Loops.{Loop}
use Rattle.paper.specs.Solids.{tables_of}
use Rattle.means_leaf.proofs.Solids.{six_none}
use Rattle.means_solid.specs.Solid.{HasSide, InTwo, Way, stay, cross, six_of_faces, IsSolid}
use Rattle.means_masks.proofs.Tables.{six_is}

-- with no face there is no volume
pub some_face : (d : Wire) (cs : List Loop) (taken turned : List Bool) {six : ℕ} → IsSolid d cs taken turned six
    → (k : ℕ) × (dig taken k ≡ true)
some_face d cs taken turned {six} s = (
  first taken,
  first_in taken (λ z.
      go s.iv.0 s.iv.1 (sym (six_is d cs taken turned) ∙ six_none taken turned (count_none taken z) 0 (tables_of d cs).sixes)),
)
  where
    go : six_of_faces d cs taken turned 0 cs ≡ pos six → 0 < six → six_of_faces d cs taken turned 0 cs ≡ pos 0 → ⊥
    go p h q = let e : pos 0 ≡ pos six = sym q ∙ p in let z : 0 ≡ six = cc in omega arith

-- ---- no solid is a part of another

module _ (d : Wire) (cs : List Loop) (taken t less u : List Bool) where
  both_in : (e : Edge) → InTwo d cs taken t e → InTwo d cs less u e → ((k : ℕ) → dig less k ≡ true → dig taken k ≡ true)
      → (k : ℕ) → dig taken k ≡ true → HasSide d cs taken t k e → dig less k ≡ true
  both_in e i j sub k f h =
      pick (i.only k f h) (i.only j.one (sub j.one j.faces.0) j.have.0)
      (i.only j.two (sub j.two j.faces.1) j.have.1)
    where
      yes_one : k ≡ j.one → dig less k ≡ true
      yes_one e = subst (λ (x : ℕ). dig less x ≡ true) (sym e) j.faces.0

      yes_two : k ≡ j.two → dig less k ≡ true
      yes_two e = subst (λ (x : ℕ). dig less x ≡ true) (sym e) j.faces.1

      pick : (k ≡ i.one) ⊎ (k ≡ i.two) → (j.one ≡ i.one) ⊎ (j.one ≡ i.two) → (j.two ≡ i.one) ⊎ (j.two ≡ i.two)
          → dig less k ≡ true
      pick (inl p) (inl q) r = yes_one (p ∙ sym q)
      pick (inr p) (inr q) r = yes_one (p ∙ sym q)
      pick (inl p) (inr q) (inl r) = yes_two (p ∙ sym r)
      pick (inl p) (inr q) (inr r) = absurd (omega (arith, j.differ))
      pick (inr p) (inl q) (inl r) = absurd (omega (arith, j.differ))
      pick (inr p) (inl q) (inr r) = yes_two (p ∙ sym r)

  pub no_part : {six six' : ℕ} → IsSolid d cs taken t six → IsSolid d cs less u six' → ((k : ℕ) → dig less k ≡ true → dig taken k ≡ true)
      → (k : ℕ) → dig taken k ≡ true → dig less k ≡ true
  no_part s r sub k h = let f = some_face d cs less u r in along f.0 f.1 k (s.ii f.0 k (sub f.0 f.1) h)
    where
      along : (j : ℕ) → dig less j ≡ true → (k : ℕ) → Way d cs taken t j k → dig less k ≡ true
      along j e k (stay f) = e
      along j e k (cross y g h p f q) = both_in (edge_at d g) (s.i g h) (r.i g h) sub k f q
