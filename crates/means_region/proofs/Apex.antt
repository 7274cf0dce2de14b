-- The winding of a solid's faces round a point is the same from every apex that sees them.
use mathlib.Core.Path.{◌≡◌, refl, sym, ◌∙◌, ap, ap₂}
use mathlib.Core.Bool.{Bool, true, false, true≢false}
use mathlib.Core.List.{List, [], ◌∷◌}
use Prim.Native.Nat.{ℕ, ◌<◌}
use native.Mathlib.Omega.{arith}
use lib.IntN.{ℤ, pos, negsuc, neg_ℤ, ◌+ℤ◌, ◌-ℤ◌, ◌*ℤ◌}
use lib.ListN.{length, length-map, get_or}
use Rattle.lists.proofs.Passing.{all_yes}
use Rattle.sets.specs.Word.{dig}
use Rattle.sets.proofs.Ones.{dig-below}
use Rattle.exact.proofs.Ring.{var, con, ◌⊕◌, ◌⊖◌, ◌⊗◌, neg, ring}
use Rattle.exact.proofs.Laws.{eq_of_sub}
use Rattle.exact.proofs.Signs.{mul-zero}
use Rattle.paper.specs.Points.{pt, origin, minus, times, dot, cross, det, is_zero, is_origin}
use Rattle.paper.specs.Polygon.{normal, corner, plane_side, one_plane}
use Rattle.paper.specs.Drawing.{Wire, at}
use Rattle.paper.specs.Loops.{Loop, loop_at}
use Rattle.paper.specs.declared.Point.{Point}
use Rattle.paper_laws.specs.Planes.{InOwnPlane}
use Rattle.paper_laws.proofs.Wires.{polygon_length}
use Rattle.paper_laws.proofs.Points.{zero_yes, origin_yes, origin_no}
use Rattle.paper_laws.proofs.Vectors.{num, vec, k as con-s, x as var-s, o, v, negs, ◌+s◌, ◌*s◌, ◌·◌, dets, ◌+v◌, ◌-v◌, ◌*v◌, ◌×v◌, vring}
use Rattle.means_solid.specs.Solid.{Face}
use Rattle.means_loops.specs.Path.{ClosedPath}
use Rattle.means_region.specs.Tetra.{holds}
use Rattle.means_region.specs.Winding.{OnceEachWay, away, rounds, OffPlanes, NoTwoInPlane}
use Rattle.means_region.proofs.Move.{Real}
use Rattle.means_region.proofs.Fan.{Height, face-sides}
use Rattle.means_region.proofs.Cancel.{closes}
use Rattle.means_region.proofs.Near.{Large, all_large, Views, near, views_large, face-same}
use Rattle.means_region.proofs.Counts as counts

halves : (y z : ℤ) → pos 2 *ℤ y +ℤ negsuc 1 *ℤ z ≡ pos 0 → y ≡ z
halves y z e =
    eq_of_sub y z
    (mul-zero (pos 2) (y -ℤ z) (λ q. let w : ◌≡◌ {A = ℕ} 2 0 = cc in omega arith)
    (ring (y ∷ z ∷ []) (con (pos 2) ⊗ (var 0 ⊖ var 1)) (con (pos 2) ⊗ var 0 ⊕ con (negsuc 1) ⊗ var 1) tt ∙ e))

-- a direction in line with two axes is none
abbrev first : Point
first = pt (pos 1) (pos 0) (pos 0)

abbrev second : Point
second = pt (pos 0) (pos 1) (pos 0)

nowhere : (b : Point) → cross first b ≡ origin → cross second b ≡ origin → b ≡ origin
unfolding cross
nowhere b e f =
    let ρ = b.x ∷ b.y ∷ b.z ∷ [] in
    λ i.
    pt
    ((ring ρ (var 0) (neg (con (pos 0) ⊗ var 1 ⊖ con (pos 1) ⊗ var 0)) tt ∙ ap (λ (q : Point). neg_ℤ q.z) f) i)
    ((ring ρ (var 1) (con (pos 1) ⊗ var 1 ⊖ con (pos 0) ⊗ var 0) tt ∙ ap (λ (q : Point). q.z) e) i)
    ((ring ρ (var 2) (con (pos 1) ⊗ var 2 ⊖ con (pos 0) ⊗ var 1) tt ∙ ap (λ (q : Point). q.x) f) i)

module _ (d : Wire) (cs : List Loop) (taken turned : List Bool) (n : ℤ) (p : Point) where
  abbrev face : ℕ → List Point
  face = counts.face d cs taken turned n p

  abbrev seen : ℕ → List Point
  seen = counts.seen d cs taken turned n p

  abbrev round : Point → ℤ
  round a = rounds d cs taken turned n p a

  module _ (paths : (j : ℕ) → j < length cs → ClosedPath d (loop_at cs j)) (own : (j : ℕ) → j < length cs → InOwnPlane (face j))
      (s : OnceEachWay d cs taken turned) (off : OffPlanes d cs taken turned n p) where
    -- the corners of a face are at one height over the point
    abbrev pub high : ℕ → ℤ
    high j = dot (normal (face j)) (away n p (corner (face j)))

    pub high_real : (j : ℕ) → Face d cs taken turned j → Real (high j)
    high_real j f e =
        off j f
        (vring (num n ∷ vec p ∷ vec (normal (face j)) ∷ vec (corner (face j)) ∷ []) (v 2 · (v 1 -v (var-s 0 *v v 3)))
        (negs (v 2 · ((var-s 0 *v v 3) -v v 1))) tt ∙ ap neg_ℤ e)

    in_plane : (j : ℕ) → Face d cs taken turned j → (i : ℕ) → i < length (face j)
        → dot (normal (face j)) (minus (get_or (face j) i origin) (corner (face j))) ≡ pos 0
    unfolding one_plane plane_side
    in_plane j f i h =
        zero_yes (plane_side (face j) (get_or (face j) i origin))
        (all_yes (λ q. is_zero (plane_side (face j) q)) origin (face j) (own j (dig-below taken s.set j f)) i h)

    pub height : (j : ℕ) → Face d cs taken turned j → Height (normal (face j)) (high j) (seen j)
    height j f i h =
        let h' : i < length (face j) = omega (arith, length-map (face j) (away n p)) in
        let q = get_or (face j) i origin in
        ap (dot (normal (face j))) (counts.seen_at d cs taken turned n p j i h)
        ∙ vring (num n ∷ vec p ∷ vec (normal (face j)) ∷ vec (corner (face j)) ∷ vec (get_or (face j) i origin) ∷ [])
        (v 2 · ((var-s 0 *v v 4) -v v 1)) ((var-s 0 *s (v 2 · (v 4 -v v 3))) +s (v 2 · ((var-s 0 *v v 3) -v v 1))) tt
        ∙ ap (λ (z : ℤ). n *ℤ z +ℤ high j) (in_plane j f i h')
        ∙ ring (n ∷ high j ∷ []) (var 0 ⊗ con (pos 0) ⊕ var 1) (var 1) tt

    -- two apexes that are not in line with the point
    not_in_line : (a b : Point) → NoTwoInPlane d cs taken turned n p a → NoTwoInPlane d cs taken turned n p b → (cross a b ≡ origin → ⊥)
        → round a ≡ round b
    not_in_line a b sa sb h =
        halves (round a) (round b)
        (counts.rounds_twice d cs taken turned n p a b (λ j f. face-sides a b (normal (face j)) (high j) (high_real j f) h (seen j)
        (counts.spread d cs taken turned n p a sa j f) (counts.spread d cs taken turned n p b sb j f) (height j f))
        ∙ closes d cs taken turned paths (counts.sway d cs taken turned n p a b) (λ y z. ring
        (holds a b (away n p (at d y)) (away n p (at d z)) ∷ holds a b (away n p (at d z)) (away n p (at d y)) ∷ []) (var 0 ⊖ var 1)
        (neg (var 1 ⊖ var 0)) tt) s)

    -- an apex near to a sees the faces as a does
    pub near_by : (a w : Point) → NoTwoInPlane d cs taken turned n p a
        → (m : ℕ) × ((j : ℕ) → Face d cs taken turned j → Views (near a w m) a (seen j))
    near_by a w sa =
        let f = all_large (length cs) (λ j m. Face d cs taken turned j → Views (near a w m) a (seen j)) (λ j l. one j (dig taken j) refl) in
        (f.0, λ j t. f.1 f.0 (omega arith) j (dig-below taken s.set j t) t)
      where
        one : (j : ℕ) (t : Bool) → dig taken j ≡ t → Large (λ m. Face d cs taken turned j → Views (near a w m) a (seen j))
        one j true t = let r = views_large a w (seen j) (counts.spread d cs taken turned n p a sa j t) in (r.0, λ m l f. r.1 m l)
        one j false t = (0, λ m l f. absurd (true≢false (sym f ∙ t)))

    pub near_apart : (a w : Point) (m : ℕ) → ((j : ℕ) → Face d cs taken turned j → Views (near a w m) a (seen j))
        → NoTwoInPlane d cs taken turned n p (near a w m)
    near_apart a w m views j i l f q r z =
        let r' : l < length (seen j) = omega (arith, length-map (face j) (away n p)) in
        (views j f i l q r').real
        (ap₂ (det (near a w m)) (counts.seen_at d cs taken turned n p j i (omega arith)) (counts.seen_at d cs taken turned n p j l r') ∙ z)

    -- by way of such an apex
    by_way : (a b w : Point) → NoTwoInPlane d cs taken turned n p a → NoTwoInPlane d cs taken turned n p b → cross a b ≡ origin
        → (cross w b ≡ origin → ⊥) → round a ≡ round b
    by_way a b w sa sb e h =
        let f = near_by a w sa in
        let m = f.0 in
        sym
        (counts.rounds-same d cs taken turned n p (near a w m) a (λ j t. face-same (near a w m) a (seen j) (f.1 j t)))
        ∙ not_in_line (near a w m) b (near_apart a w m f.1) sb
        (λ z. h
        (vring (num (pos m) ∷ vec a ∷ vec b ∷ vec w ∷ []) (v 3 ×v v 2) ((((var-s 0 *v v 1) +v v 3) ×v v 2) -v (var-s 0 *v (v 1 ×v v 2))) tt
        ∙ ap₂ (λ (y q : Point). minus y (times (pos m) q)) z e ∙ vring (num (pos m) ∷ []) (o -v (var-s 0 *v o)) o tt))

    -- no face is seen from the point itself
    no_faces_lem : (a : Point) → NoTwoInPlane d cs taken turned n p origin → round a ≡ round origin
    no_faces_lem a s0 =
        counts.rounds-same d cs taken turned n p a origin
        (λ j f. absurd (s0 j 0 1 f (omega arith)
        (omega (arith, (paths j (dig-below taken s.set j f)).three, polygon_length d (loop_at cs j)))
        (vring (vec (away n p (get_or (face j) 0 origin)) ∷ vec (away n p (get_or (face j) 1 origin)) ∷ []) (dets o (v 0) (v 1)) (con-s
        (pos 0)) tt)))

    pub any : (a b : Point) → NoTwoInPlane d cs taken turned n p a → NoTwoInPlane d cs taken turned n p b → round a ≡ round b
    any a b sa sb = go (is_origin (cross a b)) (is_origin (cross first b)) (is_origin (cross second b)) refl refl refl
      where
        go : (t u w : Bool) → is_origin (cross a b) ≡ t → is_origin (cross first b) ≡ u → is_origin (cross second b) ≡ w → round a ≡ round b
        go false u w e f g = not_in_line a b sa sb (origin_no e)
        go true false w e f g = by_way a b first sa sb (origin_yes (cross a b) e) (origin_no f)
        go true true false e f g = by_way a b second sa sb (origin_yes (cross a b) e) (origin_no g)
        go true true true e f g =
            let z = nowhere b (origin_yes (cross first b) f) (origin_yes (cross second b) g) in
            no_faces_lem a (λ j i l h q r m. sb j i l h q r (ap (λ (y : Point). det y (away n p (get_or (face j) i origin)) (away n p (get_or
            (face j) l origin))) z ∙ m))
            ∙ ap round (sym z)
