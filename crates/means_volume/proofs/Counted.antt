-- Determinants of a solid's faces: with two for each face they are at most two for each edge.
use mathlib.Core.Path.{◌≡◌}
use mathlib.Core.Bool.{Bool, true, false}
use mathlib.Core.List.{List, [], ◌∷◌}
use Prim.Native.Nat.{ℕ, suc, ◌+◌, ◌*◌, ◌≤◌, ◌<◌}
use native.Mathlib.Omega.{arith}
use lib.ListN.{length}
use Rattle.sets.specs.Word.{count}
use Rattle.paper.specs.Drawing.{Wire}
use Rattle.paper.specs.Loops.{Loop, loop_at}
use Rattle.means_solid.specs.Solid.{IsSolid}
use Rattle.means_loops.specs.Path.{ClosedPath}
use Rattle.means_check.proofs.Corners.{over, corners_few}
use Rattle.means_volume.proofs.Terms.{terms}

-- a face of n corners has n - 2 determinants
over_terms : (ts : List Bool) (ls : List Loop) → length ts ≡ length ls → ((i : ℕ) → i < length ls → 2 ≤ length (loop_at ls i))
    → over ts terms ls + 2 * count ts ≤ over ts length ls
unfolding over count
over_terms [] ls long h = omega arith
over_terms (t ∷ ts) [] long h = absurd (omega arith)
over_terms (true ∷ ts) (l ∷ ls) long h =
    omega (arith, h 0 (omega arith), over_terms ts ls (omega arith) (λ i k. h (suc i) (omega arith)))
over_terms (false ∷ ts) (l ∷ ls) long h = omega (arith, over_terms ts ls (omega arith) (λ i k. h (suc i) (omega arith)))

module _ (d : Wire) (cs : List Loop) (taken turned : List Bool) (paths : (k : ℕ) → k < length cs → ClosedPath d (loop_at cs k)) {six : ℕ}
    (s : IsSolid d cs taken turned six) where
  pub terms_few : over taken terms cs + 2 * count taken ≤ 2 * length d.edges
  terms_few =
      let a = over_terms taken cs s.some (λ i h. let p = (paths i h).three in omega arith) in
      omega (arith, a, corners_few d cs taken turned paths s)
