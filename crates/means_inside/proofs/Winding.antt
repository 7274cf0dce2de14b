-- How often a ring goes round a point: the sides that a ray meets, counted with their direction.
-- What counts against itself from the other end adds up over every chord and every ear.
use mathlib.Core.Path.{◌≡◌, refl, sym, ◌∙◌, ap}
use mathlib.Core.Bool.{Bool, true, false, cond}
use mathlib.Core.List.{List, [], ◌∷◌, ◌++◌}
use lib.IntN.{ℤ, pos, neg_ℤ, ◌+ℤ◌, ◌-ℤ◌}
use Rattle.exact.proofs.Ring.{var, ◌⊕◌, ◌⊖◌, neg, ring}
use Rattle.paper.specs.Points.{above, below}
use Rattle.paper.specs.declared.Flat.{Flat}
use Rattle.means_area.specs.Flats.{twice_area, lst}
use Rattle.means_area.proofs.Flats.Turns.{flip}
use Rattle.means_inside.specs.Beams.{right}
use Rattle.means_inside.proofs.Segment.{below-neg}

-- ---- sums over the sides of a ring, for what counts against itself from the other end
abbrev pub run : (Flat → Flat → ℤ) → Flat → List Flat → Flat → ℤ
run f x [] e = f x e
run f x (y ∷ l) e = f x y +ℤ run f y l e

abbrev pub around : (Flat → Flat → ℤ) → List Flat → ℤ
around f [] = pos 0
around f (x ∷ l) = run f x l x

module _ (f : Flat → Flat → ℤ) (anti : (a b : Flat) → f b a ≡ neg_ℤ (f a b)) where
  run_split : (x : Flat) (l : List Flat) (y : Flat) (r : List Flat) (e : Flat) → run f x (l ++ y ∷ r) e ≡ run f x l y +ℤ run f y r e
  run_split x [] y r e = refl
  run_split x (z ∷ l) y r e =
      ap (λ (t : ℤ). f x z +ℤ t) (run_split z l y r e)
      ∙ ring (f x z ∷ run f z l y ∷ run f y r e ∷ []) (var 0 ⊕ (var 1 ⊕ var 2)) (var 0 ⊕ var 1 ⊕ var 2) tt

  pub around_turned : (x : Flat) (l : List Flat) (y : Flat) (r : List Flat) → around f (x ∷ (l ++ y ∷ r)) ≡ around f (y ∷ (r ++ x ∷ l))
  around_turned x l y r =
      run_split x l y r x ∙ ring (run f x l y ∷ run f y r x ∷ []) (var 0 ⊕ var 1) (var 1 ⊕ var 0) tt ∙ sym (run_split y r x l y)

  pub around-cut : (u : Flat) (l : List Flat) (w : Flat) (r : List Flat)
      → around f (u ∷ (l ++ w ∷ r)) ≡ around f (u ∷ (l ++ w ∷ [])) +ℤ around f (u ∷ w ∷ r)
  around-cut u l w r =
      run_split u l w r u
      ∙ ring (run f u l w ∷ f u w ∷ run f w r u ∷ []) (var 0 ⊕ var 2) ((var 0 ⊕ neg (var 1)) ⊕ (var 1 ⊕ var 2)) tt
      ∙ ap (λ (z : ℤ). (run f u l w +ℤ z) +ℤ (f u w +ℤ run f w r u)) (sym (anti u w))
      ∙ ap (λ (z : ℤ). z +ℤ around f (u ∷ w ∷ r)) (sym (run_split u l w [] u))

  run_end : (x : Flat) (l : List Flat) (e g : Flat) → run f x l e ≡ run f x l g +ℤ (f (lst x l) e -ℤ f (lst x l) g)
  run_end x [] e g = ring (f x e ∷ f x g ∷ []) (var 0) (var 1 ⊕ (var 0 ⊖ var 1)) tt
  run_end x (y ∷ l) e g =
      ap (λ (z : ℤ). f x y +ℤ z) (run_end y l e g)
      ∙ ring (f x y ∷ run f y l g ∷ (f (lst y l) e -ℤ f (lst y l) g) ∷ []) (var 0 ⊕ (var 1 ⊕ var 2)) (var 0 ⊕ var 1 ⊕ var 2) tt

  pub around-ear : (u c : Flat) (l : List Flat) → around f (u ∷ c ∷ l) ≡ around f (u ∷ c ∷ lst c l ∷ []) +ℤ around f (c ∷ l)
  around-ear u c l =
      ap (λ (z : ℤ). f u c +ℤ z) (run_end c l u c)
      ∙ ring (f u c ∷ run f c l c ∷ f (lst c l) u ∷ f (lst c l) c ∷ []) (var 0 ⊕ (var 1 ⊕ (var 2 ⊖ var 3)))
      ((var 0 ⊕ (neg (var 3) ⊕ var 2)) ⊕ var 1) tt
      ∙ ap (λ (z : ℤ). (f u c +ℤ (z +ℤ f (lst c l) u)) +ℤ run f c l c) (sym (anti (lst c l) c))

-- ---- a side that the ray meets: 1 from right to left, -1 from left to right
unfoldable pub counts : Bool → Bool → ℤ → ℤ
counts true true t = pos 0
counts true false t = cond (above t) (pos 1) (pos 0)
counts false true t = cond (below t) (neg_ℤ (pos 1)) (pos 0)
counts false false t = pos 0

unfoldable pub goes : Flat → Flat → Flat → Flat → ℤ
goes p q a b = counts (right p q a) (right p q b) (twice_area a b p)

pub goes_back : (p q a b : Flat) → goes p q b a ≡ neg_ℤ (goes p q a b)
unfolding goes counts
goes_back p q a b = go (right p q a) (right p q b)
  where
    sign : (s : Bool) → cond s (neg_ℤ (pos 1)) (pos 0) ≡ neg_ℤ (cond s (pos 1) (pos 0))
    sign true = refl
    sign false = refl

    sign' : (s : Bool) → cond s (pos 1) (pos 0) ≡ neg_ℤ (cond s (neg_ℤ (pos 1)) (pos 0))
    sign' true = refl
    sign' false = refl

    go : (x y : Bool) → counts y x (twice_area b a p) ≡ neg_ℤ (counts x y (twice_area a b p))
    go true true = unfold counts in refl
    go false false = unfold counts in refl
    go true false =
        unfold counts in
        ap (λ (s : Bool). cond s (neg_ℤ (pos 1)) (pos 0)) (ap below (flip b a p) ∙ below-neg (twice_area a b p)) ∙ sign (above (twice_area a b p))
    go false true =
        unfold counts in
        ap (λ (s : Bool). cond s (pos 1) (pos 0)) (sym (below-neg (twice_area b a p)) ∙ ap below (sym (flip a b p))) ∙ sign' (below (twice_area a b p))
