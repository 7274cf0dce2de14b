-- The test of rule 11 on the lent list is that on the drawing.
use mathlib.Core.Path.{◌≡◌, sym, ap, ◌∙◌}
use mathlib.Core.Bool.{Bool}
use mathlib.Core.List.{List}
use Prim.Native.Nat.{ℕ, suc, ◌-◌, ◌<◌}
use native.Mathlib.Omega.{arith}
use lib.IntN.{ℤ}
use lib.ListN.{length}
use Rattle.lists.specs.Lists.{any, from}
use Rattle.paper.specs.Points.{same_point}
use Rattle.paper.specs.Drawing.{Wire, points_of, at}
use Rattle.paper_laws.specs.InRange.{Points}
use Rattle.fast_meets.specs.Theorems.{later_at}
use Rattle.fast_meets.proofs.Later.{from-same}
use Rattle.drawing_rules.specs.Meets.{share_in, shared_in}
use Rattle.drawing_rules.proofs.Vertices.{vertex-count, vertex_is}

module _ {xyz : List ℤ} {v : ℕ} (p : Points xyz v) (d : Wire) (e : d.vertices ≡ points_of xyz) where
  pub drawn_count : length d.vertices ≡ v
  drawn_count = ap length e ∙ vertex-count p

  pub shared_is : (u : ℕ) → u < v → shared_in xyz v u ≡ later_at d u
  shared_is u h =
      let there : ℕ → Bool = λ w. same_point (at d u) (at d w) in
      from-same (share_in xyz u) there (suc u) (v - suc u)
      (λ w a b i. same_point (sym (vertex_is p d e u h) i) (sym (vertex_is p d e w (omega arith)) i))
      ∙ ap (λ (n : ℕ). any there (from (suc u) (n - suc u))) (sym drawn_count)
