-- Only a direction strictly inside the angle at a corner of a simple ring leads into it.
use mathlib.Core.Path.{◌≡◌, refl, sym, ◌∙◌, ap, subst}
use mathlib.Core.Logic.{◌⊎◌, inl, inr, ⊎_elim}
use mathlib.Core.List.{List, [], ◌∷◌}
use Prim.Native.Nat.{ℕ, suc, ◌+◌, ◌≤◌}
use native.Mathlib.Omega.{arith}
use lib.ListN.{length}
use lib.IntN.{ℤ, pos, negsuc, neg_ℤ, nat_abs, ◌+ℤ◌, ◌-ℤ◌, ◌*ℤ◌}
use Rattle.exact.proofs.Ring.{var, con, ◌⊕◌, ◌⊖◌, ◌⊗◌, neg, ring}
use Rattle.exact.proofs.Linear.{lt_by}
use Rattle.exact.proofs.Order.{whole_nonneg, whole_pos, from_one, mul-pos, mul_nonneg, ring_with}
use Rattle.paper.specs.Polygon.{where_flat}
use Rattle.paper.specs.declared.Flat.{Flat}
use Rattle.paper.specs.declared.Where.TheVariants.{Inside}
use Rattle.means_area.specs.Rings.{Of, Link}
use Rattle.means_area.specs.Flats.{Up, Nn, twice_area, height, Simple, Distinct, Fresh}
use Rattle.means_area.proofs.Flats.Signs.{up_is, nn_is, up_nn, up_add, nn_up, off, zero_off, which, twice}
use Rattle.means_area.proofs.Flats.Turns.{env, tE, flip_last, flat-first}
use Rattle.means_inside.specs.Beams.{facing}
use Rattle.means_inside.specs.Means.{big}
use Rattle.means_inside.specs.Convex.{NextAlong, Next}
use Rattle.means_inside.proofs.Triangle.{f_e, facing-end, self_up}
use Rattle.means_inside.proofs.Ears.{facing_back}
use Rattle.means_inside.proofs.Segment.{off_link}
use Rattle.means_inside.proofs.Sides.{link_onto, next-apart}
use Rattle.means_inside.proofs.Inside.{inside_off}
use Rattle.means_corner.specs.Corners.{ForSmall}
use Rattle.means_corner.proofs.Steps.{step, step_turn}
use Rattle.means_corner.proofs.Lead.{step_from, step_to}
use Rattle.means_corner.proofs.Corner.{step_chain, same-height}
use Rattle.means_corner.proofs.Beside.{Behind, near}

module _ (v c : Flat) where
  -- where the way is inside, it does not go along a side from v
  pub in_front : (g : List Flat) → ForSmall (λ s n. where_flat (step v c s n) (pos n) g ≡ Inside) → (x : Flat) → Link g v x → Behind v x c
  in_front g f x l e = (low (which (facing v x c)), real)
    where
      k : ℕ
      k = suc (f.0 + nat_abs (facing v c c))

      large : Up (pos k -ℤ facing v c c)
      large = more (facing v c c)
        where
          more : (z : ℤ) → Up (pos (suc (f.0 + nat_abs z)) -ℤ z)
          more (pos j) = lt_by (pos (suc (f.0 + j)) ∷ pos j ∷ []) (con (pos 0)) (var 0 ⊖ var 1) (omega arith)
          more (negsuc j) = lt_by (pos (suc (f.0 + suc j)) ∷ negsuc j ∷ []) (con (pos 0)) (var 0 ⊖ var 1) (omega arith)

      there : where_flat (step v c 1 k) (pos k) g ≡ Inside
      there = f.1 1 k (omega arith) (omega arith) (omega arith)

      line : twice_area (big (pos k) v) (big (pos k) x) (step v c 1 k) ≡ pos 0
      line =
          step_turn v x v c 1 k
          ∙ (λ i. pos k *ℤ (pos k *ℤ flat-first v x i +ℤ pos 1 *ℤ (e i -ℤ flat-first v x i)))
          ∙ ring (pos k ∷ []) (var 0 ⊗ (var 0 ⊗ con (pos 0) ⊕ con (pos 1) ⊗ (con (pos 0) ⊖ con (pos 0)))) (con (pos 0)) tt

      beyond : Up (facing (step v c 1 k) (big (pos k) v) (big (pos k) x))
      beyond = go (which (facing (step v c 1 k) (big (pos k) v) (big (pos k) x)))
        where
          go : Up (facing (step v c 1 k) (big (pos k) v) (big (pos k) x))
              ⊎ Nn (neg_ℤ (facing (step v c 1 k) (big (pos k) v) (big (pos k) x))) → Up (facing (step v c 1 k) (big (pos k) v) (big
              (pos k) x))
          go (inl u) = u
          go (inr u) =
              absurd (inside_off (pos k) (whole_pos k (omega arith)) g (step v c 1 k) there
              (record { a = big (pos k) v; b = big (pos k) x; side = link_onto (big (pos k)) g v x l; line = line; mid = u }))

      low : Up (facing v x c) ⊎ Nn (neg_ℤ (facing v x c)) → Nn (neg_ℤ (facing v x c))
      low (inr u) = u
      low (inl u) =
          absurd (off beyond (nn_is
          (ring (pos k ∷ facing v x c ∷ facing v c c ∷ []) (var 0 ⊗ (var 1 ⊖ con (pos 1)) ⊕ (var 0 ⊖ var 2))
          (neg ((var 0 ⊗ con (pos 1)) ⊗ neg (var 1) ⊕ (con (pos 1) ⊗ con (pos 1)) ⊗ var 2)) tt ∙ ap neg_ℤ (near v c x 1 k))
          (up_nn (nn_up (mul_nonneg (whole_nonneg k) (from_one (facing v x c) u)) large))))

      real : Up (facing v c c)
      real = self_up v c (λ q. zero_off
          (sym (near v c x 1 k) ∙ (λ i. (pos k *ℤ pos 1) *ℤ neg_ℤ ((ap (facing v x) q ∙ here x) i) +ℤ (pos 1 *ℤ pos 1) *ℤ (ap (λ
          (z : Flat). facing v z z) q ∙ facing-end v v) i)
          ∙ ring (pos k ∷ []) ((var 0 ⊗ con (pos 1)) ⊗ neg (con (pos 0)) ⊕ (con (pos 1) ⊗ con (pos 1)) ⊗ con (pos 0)) (con
          (pos 0)) tt) beyond)
        where
          here : (x : Flat) → facing v x v ≡ pos 0
          here x = facing_back v x v ∙ facing-end v x

-- ---- the neighbours of a corner are two, and not in one direction

module _ (m : ℤ) where
  no_back : (y : Flat) (l : List Flat) (e a v : Flat) → Distinct m (y ∷ l) → Fresh m e (y ∷ l) → NextAlong y l e a v → NextAlong y l e v a → ⊥
  no_back y [] e a v d f i j = f y (inl refl) (ap (height m) (sym i.0 ∙ j.1))
  no_back y (z ∷ l) e a v d f (inl i) (inl j) = d.0 z (inl refl) (ap (height m) (sym i.1 ∙ j.0))
  no_back y (z ∷ l) e a v d f (inl i) (inr j) = ends (step_to z l e v a j)
    where
      ends : Of a l ⊎ (a ≡ e) → ⊥
      ends (inl o) = d.0 a (inr o) (ap (height m) i.0)
      ends (inr q) = f a (inl i.0) (ap (height m) q)
  no_back y (z ∷ l) e a v d f (inr i) (inl j) = ends (step_to z l e a v i)
    where
      ends : Of v l ⊎ (v ≡ e) → ⊥
      ends (inl o) = d.0 v (inr o) (ap (height m) j.0)
      ends (inr q) = f v (inl j.0) (ap (height m) q)
  no_back y (z ∷ l) e a v d f (inr i) (inr j) = no_back z l e a v d.1 (λ w o. f w (inr o)) i j

  first_back : (x y : Flat) (l : List Flat) (a v : Flat) → 3 ≤ length (x ∷ y ∷ l) → Distinct m (x ∷ y ∷ l) → a ≡ x → v ≡ y
      → NextAlong y l x v a → ⊥
  first_back x y [] a v n d ea ev s = absurd (omega arith)
  first_back x y (z ∷ l) a v n d ea ev (inl s) = d.0 z (inr (inl refl)) (ap (height m) (sym s.1 ∙ ea))
  first_back x y (z ∷ l) a v n d ea ev (inr s) = d.1.0 v (step_from z l x v a s) (ap (height m) ev)

  two : (g : List Flat) → 3 ≤ length g → Distinct m g → (a v : Flat) → Next g a v → Next g v a → ⊥
  two (x ∷ (y ∷ l)) n d a v (inl i) (inl j) = d.0 y (inl refl) (ap (height m) (sym i.1 ∙ j.0))
  two (x ∷ (y ∷ l)) n d a v (inl i) (inr j) = first_back x y l a v n d i.0 i.1 j
  two (x ∷ (y ∷ l)) n d a v (inr i) (inl j) = first_back x y l v a n d j.0 j.1 i
  two (x ∷ (y ∷ l)) n d a v (inr i) (inr j) = no_back y l x a v d.1 d.0 i j
  two (x ∷ []) n d a v i j = absurd (omega arith)
  two [] n d a v i j = absurd i

lagrange : (v x y : Flat) → twice_area v x y ≡ pos 0 → facing v x x *ℤ facing v y y ≡ facing v x y *ℤ facing v x y
unfolding twice_area facing
lagrange v x y e =
    ring_with (env (pos 0) (v ∷ x ∷ y ∷ [])) (f_e 0 1 1 ⊗ f_e 0 2 2) (f_e 0 1 2 ⊗ f_e 0 1 2) (tE 0 1 2) (tE 0 1 2) (con (pos 0)) tt e

less-facing : (v x y : Flat) → facing y v x ≡ facing v y y -ℤ facing v x y
unfolding facing
less-facing v x y = ring (env (pos 0) (v ∷ x ∷ y ∷ [])) (f_e 2 0 1) (f_e 0 2 2 ⊖ f_e 0 1 2) tt

module _ (m : ℤ) (x : Flat) (l : List Flat) (s : Simple m (x ∷ l)) (n : 3 ≤ length (x ∷ l)) (a v b : Flat) (before : Next (x ∷ l) a v)
    (after : Next (x ∷ l) v b) where
  of_a : Of a (x ∷ l)
  of_a = step_from x l x a v before

  of_b : Of b (x ∷ l)
  of_b = ⊎_elim (λ o. inr o) (λ e. inl e) (step_to x l x v b after)

  ab : height m a ≡ height m b → ⊥
  ab e =
      two m (x ∷ l) n s.apart a v before
      (subst (λ (z : Flat). Next (x ∷ l) v z) (sym (same-height m (x ∷ l) s.apart a b of_a of_b e)) after)

  va : height m v ≡ height m a → ⊥
  va e = next-apart m (x ∷ l) (omega (arith, n)) s.apart a v before (sym e)

  vb : height m v ≡ height m b → ⊥
  vb e = next-apart m (x ∷ l) (omega (arith, n)) s.apart v b after e

  pub straight : twice_area v b a ≡ pos 0 → Up (neg_ℤ (facing v a b))
  straight e = go (which (neg_ℤ (facing v a b)))
    where
      link_a : Link (x ∷ l) v a
      link_a = s.net.back (step_chain x l x a v before)

      link_b : Link (x ∷ l) v b
      link_b = step_chain x l x v b after

      long_b : Up (facing v b b -ℤ facing v a b)
      long_b =
          up_is (less-facing v a b)
          (off_link m b v a vb ab (λ o. s.net.free link_a of_b o) (λ o. s.net.free (s.net.back link_a) of_b o)
          (flip_last v a b ∙ ap neg_ℤ e))

      long_a : Up (facing v a a -ℤ facing v a b)
      long_a =
          up_is (less-facing v b a ∙ ap (λ (z : ℤ). facing v a a -ℤ z) (facing_back v b a))
          (off_link m a v b va (λ q. ab (sym q)) (λ o. s.net.free link_b of_a o) (λ o. s.net.free (s.net.back link_b) of_a o) e)

      go : Up (neg_ℤ (facing v a b)) ⊎ Nn (neg_ℤ (neg_ℤ (facing v a b))) → Up (neg_ℤ (facing v a b))
      go (inl u) = u
      go (inr u) =
          let f = facing v a b in
          let nf : Nn f = nn_is (sym (twice f)) u in
          let ub : Up (facing v b b) = up_is (ring (facing v b b ∷ f ∷ []) ((var 0 ⊖ var 1) ⊕ var 1) (var 0) tt) (up_add long_b nf) in
          absurd (zero_off
          (ring (facing v a a ∷ facing v b b ∷ f ∷ []) ((var 0 ⊖ var 2) ⊗ var 1 ⊕ var 2 ⊗ (var 1 ⊖ var 2))
          (var 0 ⊗ var 1 ⊖ var 2 ⊗ var 2) tt
          ∙ ap (λ (z : ℤ). z -ℤ f *ℤ f) (lagrange v a b (flip_last v a b ∙ ap neg_ℤ e)) ∙ ring (f ∷ []) (var 0 ⊗ var 0 ⊖ var 0 ⊗ var 0)
          (con (pos 0)) tt)
          (up_add (mul-pos long_a ub) (mul_nonneg nf (up_nn long_b))))

-- ---- of a ring from any start

pub next_link : (g : List Flat) (p q : Flat) → Next g p q → Link g p q
next_link [] p q i = i
next_link (x ∷ l) p q i = step_chain x l x p q i

pub straight_in : (m : ℤ) (g : List Flat) → Simple m g → 3 ≤ length g → (a v b : Flat) → Next g a v → Next g v b → twice_area v b a ≡ pos 0
    → Up (neg_ℤ (facing v a b))
straight_in m [] s n a v b i j = absurd i
straight_in m (x ∷ l) s n a v b i j = straight m x l s n a v b i j
