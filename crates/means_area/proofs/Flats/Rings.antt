-- Rings: their links, their corners, another start, what a chord cuts off; and the area of the parts.
use mathlib.Core.Path.{◌≡◌, refl, sym, ◌∙◌, ap}
use mathlib.Core.List.{List, [], ◌∷◌, ◌++◌}
use lib.IntN.{ℤ, pos, ◌+ℤ◌, ◌-ℤ◌}
use Rattle.exact.proofs.Ring.{var, con, ◌⊕◌, ◌⊖◌, ◌⊗◌, ring}
use Rattle.paper.specs.declared.Flat.{Flat}
use Rattle.means_area.specs.Flats.{twice_area, area_part, area_along, area, lst}
use Rattle.means_area.proofs.Flats.Turns.{env, u_e, v_e, tE}

-- ---- twice the area

pub along_split : (x : Flat) (l : List Flat) (y : Flat) (r : List Flat) (e : Flat) → area_along x (l ++ y ∷ r) e ≡ area_along x l y +ℤ area_along y r e
along_split x [] y r e = refl
along_split x (z ∷ l) y r e =
    ap (λ (t : ℤ). area_part x z +ℤ t) (along_split z l y r e)
    ∙ ring (area_part x z ∷ area_along z l y ∷ area_along y r e ∷ []) (var 0 ⊕ (var 1 ⊕ var 2)) (var 0 ⊕ var 1 ⊕ var 2) tt

pub area_turned : (x : Flat) (l : List Flat) (y : Flat) (r : List Flat) → area (x ∷ (l ++ y ∷ r)) ≡ area (y ∷ (r ++ x ∷ l))
area_turned x l y r =
    along_split x l y r x ∙ ring (area_along x l y ∷ area_along y r x ∷ []) (var 0 ⊕ var 1) (var 1 ⊕ var 0) tt ∙ sym (along_split y r x l y)

pub part_back : (p q : Flat) → area_part p q +ℤ area_part q p ≡ pos 0
unfolding area_part
part_back p q = ring (env (pos 0) (p ∷ q ∷ [])) ((u_e 0 ⊗ v_e 1 ⊖ v_e 0 ⊗ u_e 1) ⊕ (u_e 1 ⊗ v_e 0 ⊖ v_e 1 ⊗ u_e 0)) (con (pos 0)) tt

part-turn : (u c a : Flat) → area_part u c +ℤ area_part a u -ℤ area_part a c ≡ twice_area u c a
unfolding area_part twice_area
part-turn u c a =
    ring (env (pos 0) (u ∷ c ∷ a ∷ [])) ((u_e 0 ⊗ v_e 1 ⊖ v_e 0 ⊗ u_e 1) ⊕ (u_e 2 ⊗ v_e 0 ⊖ v_e 2 ⊗ u_e 0) ⊖ (u_e 2 ⊗ v_e 1 ⊖ v_e 2 ⊗ u_e 1))
    (tE 0 1 2) tt

-- a chord from the first corner
pub area-cut : (u : Flat) (l : List Flat) (w : Flat) (r : List Flat)
    → area (u ∷ (l ++ w ∷ r)) ≡ area (u ∷ (l ++ w ∷ [])) +ℤ area (u ∷ w ∷ r)
area-cut u l w r =
    along_split u l w r u
    ∙ ring (area_along u l w ∷ area_along w r u ∷ []) (var 0 ⊕ var 1) (var 0 ⊕ con (pos 0) ⊕ var 1) tt
    ∙ ap (λ (z : ℤ). area_along u l w +ℤ z +ℤ area_along w r u) (sym (part_back w u))
    ∙ ring (area_along u l w ∷ area_part w u ∷ area_part u w ∷ area_along w r u ∷ []) (var 0 ⊕ (var 1 ⊕ var 2) ⊕ var 3) (var 0 ⊕ var 1 ⊕ (var 2 ⊕ var 3)) tt
    ∙ ap (λ (z : ℤ). z +ℤ area (u ∷ w ∷ r)) (sym (along_split u l w [] u))

along-end : (x : Flat) (l : List Flat) (e f : Flat) → area_along x l e ≡ area_along x l f +ℤ (area_part (lst x l) e -ℤ area_part (lst x l) f)
along-end x [] e f = ring (area_part x e ∷ area_part x f ∷ []) (var 0) (var 1 ⊕ (var 0 ⊖ var 1)) tt
along-end x (y ∷ l) e f =
    ap (λ (z : ℤ). area_part x y +ℤ z) (along-end y l e f)
    ∙ ring (area_part x y ∷ area_along y l f ∷ (area_part (lst y l) e -ℤ area_part (lst y l) f) ∷ []) (var 0 ⊕ (var 1 ⊕ var 2)) (var 0 ⊕ var 1 ⊕ var 2) tt

-- the first corner off
pub area-ear : (u c : Flat) (l : List Flat) → area (u ∷ c ∷ l) ≡ twice_area u c (lst c l) +ℤ area (c ∷ l)
area-ear u c l =
    ap (λ (z : ℤ). area_part u c +ℤ z) (along-end c l u c)
    ∙ ring (area_part u c ∷ area_along c l c ∷ area_part (lst c l) u ∷ area_part (lst c l) c ∷ []) (var 0 ⊕ (var 1 ⊕ (var 2 ⊖ var 3)))
    (var 0 ⊕ var 2 ⊖ var 3 ⊕ var 1) tt
    ∙ ap (λ (z : ℤ). z +ℤ area_along c l c) (part-turn u c (lst c l))
