-- The direction across a path, one more vertex at a time.
use mathlib.Core.Path.{◌≡◌, refl, ap, ◌∙◌}
use mathlib.Core.Bool.{true, false}
use mathlib.Core.List.{List, [], ◌∷◌, ◌++◌, map, map-append}
use Prim.Native.Nat.{ℕ}
use Rattle.paper.specs.Points.{minus, cross, is_origin, origin}
use Rattle.paper.specs.Loops.{tilt, tilted, across}
use Rattle.paper.specs.declared.Point.{Point}
use Rattle.paper.specs.Drawing.{Wire, at}

-- once there is one it stays; until then it is that of the first two and the next
pub tilt-found : (s b n p : Point) → is_origin n ≡ false → tilt s b n p ≡ n
unfolding tilt
tilt-found s b n p e = rw e

pub tilt-none : (s b n p : Point) → is_origin n ≡ true → tilt s b n p ≡ cross (minus b s) (minus p s)
unfolding tilt
tilt-none s b n p e = rw e

tilted_more : (s b n : Point) (ps : List Point) (p : Point) → tilted s b n (ps ++ p ∷ []) ≡ tilt s b (tilted s b n ps) p
unfolding tilted
tilted_more s b n [] p = refl
tilted_more s b n (q ∷ ps) p = tilted_more s b (tilt s b n q) ps p

pub across_more : (d : Wire) (a b : ℕ) (r : List ℕ) (w : ℕ)
    → across d (a ∷ b ∷ (r ++ w ∷ [])) ≡ tilt (at d a) (at d b) (across d (a ∷ b ∷ r)) (at d w)
unfolding across
across_more d a b r w =
    ap (tilted (at d a) (at d b) origin) (map-append (at d) (a ∷ b ∷ r) (w ∷ []))
    ∙ tilted_more (at d a) (at d b) origin (map (at d) (a ∷ b ∷ r)) (at d w)
