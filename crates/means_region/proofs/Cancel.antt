-- Round all faces of a solid, each in its direction, a number that changes its sign with a side's direction adds up to 0.
use mathlib.Core.Path.{◌≡◌, refl, ap, ◌∙◌}
use mathlib.Core.Bool.{Bool}
use mathlib.Core.List.{List, [], ◌∷◌}
use Prim.Native.Nat.{ℕ, ◌<◌}
use lib.IntN.{ℤ, pos, neg_ℤ, ◌+ℤ◌}
use lib.ListN.{length}
use Rattle.lists.specs.Lists.{sides, sides_from}
use Rattle.exact.specs.Sum.{sum_of}
use Rattle.paper.specs.Points.{plus, dot, sum}
use Rattle.paper.specs.Drawing.{Wire}
use Rattle.paper.specs.Loops.{Loop, loop_at}
use Rattle.paper.specs.declared.Point.{Point}
use Rattle.paper_laws.proofs.Vectors.{vec, k as con-s, o, v, ◌·◌, vring}
use Rattle.means_solid.specs.Solid.{face_sum}
use Rattle.means_loops.specs.Path.{ClosedPath}
use Rattle.means_check.proofs.FaceSums.{first, wide, wide_minus, along-first, faces-dot}
use Rattle.means_check.proofs.Cancel.{faces_close}
use Rattle.means_region.specs.Winding.{OnceEachWay}

wide_plus : (y z : ℤ) → wide (y +ℤ z) ≡ plus (wide y) (wide z)
unfolding plus
wide_plus y z = refl

module _ (f : ℕ → ℕ → ℤ) where
  abbrev side : ℕ → ℕ → Point
  side a b = wide (f a b)

  from-sum : (a b : ℕ) (r : List ℕ) → wide (sum_of (sides_from f a b r)) ≡ sum (sides_from side a b r)
  unfolding sides_from sum_of sum
  from-sum a b [] = wide_plus (f b a) (pos 0)
  from-sum a b (c ∷ r) = wide_plus (f b c) (sum_of (sides_from f a c r)) ∙ ap (plus (side b c)) (from-sum a c r)

  side_sum : (l : List ℕ) → sum_of (sides f l) ≡ dot first (sum (sides side l))
  unfolding sides sum_of sum
  side_sum [] = along-first (pos 0)
  side_sum (a ∷ r) = along-first (sum_of (sides_from f a a r)) ∙ ap (dot first) (from-sum a a r)

pub closes : (d : Wire) (cs : List Loop) (taken turned : List Bool) → ((k : ℕ) → k < length cs → ClosedPath d (loop_at cs k))
    → (f : ℕ → ℕ → ℤ) → ((a b : ℕ) → f a b ≡ neg_ℤ (f b a)) → OnceEachWay d cs taken turned
    → face_sum taken turned (λ l. sum_of (sides f l)) 0 cs ≡ pos 0
closes d cs taken turned paths f anti s =
    (λ i. face_sum taken turned (λ l. side_sum f l i) 0 cs) ∙ faces-dot cs taken turned first (λ l. sum (sides (side f) l))
    ∙ ap (dot first) (faces_close d cs taken turned paths (side f) (λ a b. ap wide (anti a b) ∙ wide_minus (f b a)) s.iii)
    ∙ vring (vec first ∷ []) (v 0 · o) (con-s (pos 0)) tt
