-- A ray in the direction of the line, from a point before the first border point, meets the sides that the ray from the start meets; and
-- some side is met.
use mathlib.Core.Path.{◌≡◌, refl, sym, ◌∙◌, ap}
use mathlib.Core.Bool.{Bool, true, false, xor}
use mathlib.Core.Logic.{◌⊎◌, inl, inr}
use mathlib.Core.List.{List, [], ◌∷◌, map}
use lib.IntN.{ℤ, pos, neg_ℤ, ◌+ℤ◌, ◌-ℤ◌, ◌*ℤ◌}
use lib.Signed.{le_z}
use Rattle.exact.proofs.Ring.{var, ◌⊕◌, ◌⊖◌, ◌⊗◌, neg, ring}
use Rattle.exact.proofs.Order.{add_nonneg, mul-pos, mul_nonneg}
use Rattle.paper.specs.Points.{above, below}
use Rattle.paper.specs.Polygon.{meets_ray}
use Rattle.paper.specs.declared.Flat.{Flat}
use Rattle.means_area.specs.Flats.{Up, Nn, twice_area}
use Rattle.means_area.proofs.Flats.Signs.{up_is, nn_is, up_nn, up_add, nn_up, which, up_out}
use Rattle.means_area.proofs.Flats.Turns.{u_e, v_e}
use Rattle.means_inside.specs.Beams.{odd_along, round, right, beam, facing}
use Rattle.means_inside.specs.Means.{big}
use Rattle.means_inside.proofs.Beams.{above_is, above_no, low-is, low_no, yes_low, no_low}
use Rattle.means_inside.proofs.Segment.{below-neg}
use Rattle.means_inside.proofs.Scale.{ray_scale}
use Rattle.means_corner.specs.Ways.{ahead_by}
use Rattle.means_border.proofs.Side.{across, size, Never, Until, turn_at_lem, hit_miss}
use Rattle.means_border.proofs.Meets.{hit_there}

-- a ring that is made from another
pub round_map : (h : Flat → Flat) (f k : Flat → Flat → Bool) (g : List Flat) → ((a b : Flat) → f (h a) (h b) ≡ k a b)
    → round f (map h g) ≡ round k g
round_map h f k [] e = refl
round_map h f k (x ∷ l) e = go x l x
  where
    go : (x : Flat) (l : List Flat) (y : Flat) → odd_along f (h x) (map h l) (h y) ≡ odd_along k x l y
    go x [] y = e x y
    go x (z ∷ l) y = λ i. xor (e x z i) (go z l y i)

module _ (p w : Flat) (uw : Up (size p w)) where
  abbrev pub tip : Flat → Flat
  tip q = record { u = q.u +ℤ w.u; v = q.v +ℤ w.v }

  pub tip_up : (q : Flat) → Up (facing q (tip q) (tip q))
  unfolding facing
  tip_up q =
      up_is
      (ring (q.u ∷ q.v ∷ w.u ∷ w.v ∷ []) (var 2 ⊗ var 2 ⊕ var 3 ⊗ var 3)
      ((var 0 ⊕ var 2 ⊖ var 0) ⊗ (var 0 ⊕ var 2 ⊖ var 0) ⊕ (var 1 ⊕ var 3 ⊖ var 1) ⊗ (var 1 ⊕ var 3 ⊖ var 1)) tt) uw

  abbrev α : Flat → ℤ
  α = across p w

  across-at : (s m : ℤ) (a : Flat) → twice_area (ahead_by p w s m) (tip (ahead_by p w s m)) (big m a) ≡ m *ℤ α a
  unfolding twice_area
  across-at s m a =
      ring (m ∷ p.u ∷ p.v ∷ w.u ∷ w.v ∷ a.u ∷ a.v ∷ s ∷ [])
      (((var 0 ⊗ u_e 0 ⊕ var 7 ⊗ u_e 1) ⊕ u_e 1 ⊖ (var 0 ⊗ u_e 0 ⊕ var 7 ⊗ u_e 1)) ⊗ (var 0 ⊗ v_e 2 ⊖ (var 0 ⊗ v_e 0 ⊕ var 7 ⊗ v_e 1))
      ⊖ ((var 0 ⊗ v_e 0 ⊕ var 7 ⊗ v_e 1) ⊕ v_e 1 ⊖ (var 0 ⊗ v_e 0 ⊕ var 7 ⊗ v_e 1)) ⊗ (var 0 ⊗ u_e 2 ⊖ (var 0 ⊗ u_e 0 ⊕ var 7 ⊗ u_e 1)))
      (var 0 ⊗ (u_e 1 ⊗ (v_e 2 ⊖ v_e 0) ⊖ v_e 1 ⊗ (u_e 2 ⊖ u_e 0))) tt

  low_times : (m x : ℤ) → Up m → le_z (m *ℤ x) (pos 0) ≡ le_z x (pos 0)
  low_times m x um = go (which x)
    where
      go : Up x ⊎ Nn (neg_ℤ x) → le_z (m *ℤ x) (pos 0) ≡ le_z x (pos 0)
      go (inl u) = low_no (m *ℤ x) (mul-pos um u) ∙ sym (low_no x u)
      go (inr n) =
          low-is (m *ℤ x) (nn_is (ring (m ∷ x ∷ []) (var 0 ⊗ neg (var 1)) (neg (var 0 ⊗ var 1)) tt) (mul_nonneg (up_nn um) n))
          ∙ sym (low-is x n)

  -- the ray from the point at s / m, in numbers of the start
  pub ray_at : (s m : ℤ) → Up m → (a b : Flat) → beam (ahead_by p w s m) (tip (ahead_by p w s m)) (big m a) (big m b)
      ≡ meets_ray (le_z (α a) (pos 0)) (le_z (α b) (pos 0)) (m *ℤ twice_area a b p -ℤ s *ℤ (α b -ℤ α a))
  unfolding beam right
  ray_at s m um a b =
      (λ i.
      meets_ray ((ap (λ (z : ℤ). le_z z (pos 0)) (across-at s m a) ∙ low_times m (α a) um) i)
      ((ap (λ (z : ℤ). le_z z (pos 0)) (across-at s m b) ∙ low_times m (α b) um) i) (turn_at_lem p w s m a b i))
      ∙ ray_scale p m um (le_z (α a) (pos 0)) (le_z (α b) (pos 0)) (m *ℤ twice_area a b p -ℤ s *ℤ (α b -ℤ α a))

  gap : (a b : Flat) → Nn (neg_ℤ (α a)) → Up (α b) → Up (α b -ℤ α a)
  gap a b na ub = up_is (ring (α a ∷ α b ∷ []) (var 1 ⊕ neg (var 0)) (var 1 ⊖ var 0) tt) (up_add ub na)

  -- ---- a side that is never met
  pub silent_one : (a b : Flat) → Never p w a b → Nn (neg_ℤ (α a)) → Up (α b) → above (twice_area a b p) ≡ false
  silent_one a b f na ub = go (which (twice_area a b p))
    where
      d : Up (α b -ℤ α a)
      d = gap a b na ub

      go : Up (twice_area a b p) ⊎ Nn (neg_ℤ (twice_area a b p)) → above (twice_area a b p) ≡ false
      go (inr n) = above_no (twice_area a b p) n
      go (inl u) =
          absurd (hit_miss p w (twice_area a b p) (α b -ℤ α a) a b (hit_there p w uw a b na (up_nn ub) d u)
          (f (twice_area a b p) (α b -ℤ α a) (up_nn u) d))

  -- ---- before the first
  module _ (s m : ℤ) (um : Up m) (s' m' : ℤ) (hs : Nn s') (um' : Up m') (k : Up (s *ℤ m' -ℤ s' *ℤ m)) where
    abbrev now : Flat → Flat → ℤ
    now a b = m' *ℤ twice_area a b p -ℤ s' *ℤ (α b -ℤ α a)

    pub same-one : (a b : Flat) → Until p w s m a b → Nn (neg_ℤ (α a)) → Up (α b) → above (now a b) ≡ above (twice_area a b p)
    same-one a b f na ub = go (which (twice_area a b p))
      where
        t : ℤ
        t = twice_area a b p

        d : ℤ
        d = α b -ℤ α a

        ud : Up d
        ud = gap a b na ub

        go : Up t ⊎ Nn (neg_ℤ t) → above (now a b) ≡ above t
        go (inr n) =
            above_no (now a b) (nn_is
            (ring (m' ∷ t ∷ s' ∷ d ∷ []) (var 0 ⊗ neg (var 1) ⊕ var 2 ⊗ var 3) (neg (var 0 ⊗ var 1 ⊖ var 2 ⊗ var 3)) tt)
            (add_nonneg (mul_nonneg (up_nn um') n) (mul_nonneg hs (up_nn ud)))) ∙ sym (above_no t n)
        go (inl u) = later (which (s *ℤ d -ℤ t *ℤ m))
          where
            later : Up (s *ℤ d -ℤ t *ℤ m) ⊎ Nn (neg_ℤ (s *ℤ d -ℤ t *ℤ m)) → above (now a b) ≡ above t
            later (inl q) = absurd (hit_miss p w t d a b (hit_there p w uw a b na (up_nn ub) ud u) (f t d (up_nn u) ud q))
            later (inr q) =
                above_is (now a b) (up_out m um (up_is
                (ring (s ∷ m ∷ s' ∷ m' ∷ t ∷ d ∷ [])
                (var 3 ⊗ neg (var 0 ⊗ var 5 ⊖ var 4 ⊗ var 1) ⊕ var 5 ⊗ (var 0 ⊗ var 3 ⊖ var 2 ⊗ var 1))
                (var 1 ⊗ (var 3 ⊗ var 4 ⊖ var 2 ⊗ var 5)) tt)
                (nn_up (mul_nonneg (up_nn um') q) (mul-pos ud k)))) ∙ sym (above_is t u)

  -- both ways round, by the sides on which a and b are
  module _ (z : Flat → Flat → ℤ) (y : Flat → Flat → ℤ) (turned-z : (a b : Flat) → z a b ≡ neg_ℤ (z b a))
      (turned-y : (a b : Flat) → y a b ≡ neg_ℤ (y b a)) (a b : Flat)
      (one : Nn (neg_ℤ (α a)) → Up (α b) → above (z a b) ≡ above (y a b))
      (other : Nn (neg_ℤ (α b)) → Up (α a) → above (z b a) ≡ above (y b a)) where
    pub by_sides : meets_ray (le_z (α a) (pos 0)) (le_z (α b) (pos 0)) (z a b) ≡ meets_ray (le_z (α a) (pos 0)) (le_z (α b) (pos 0)) (y a b)
    unfolding meets_ray
    by_sides = go (le_z (α a) (pos 0)) (le_z (α b) (pos 0)) refl refl
      where
        go : (i j : Bool) → le_z (α a) (pos 0) ≡ i → le_z (α b) (pos 0) ≡ j
            → meets_ray (le_z (α a) (pos 0)) (le_z (α b) (pos 0)) (z a b) ≡ meets_ray (le_z (α a) (pos 0)) (le_z (α b) (pos 0)) (y a b)
        go i j e f = (λ k. meets_ray (e k) (f k) (z a b)) ∙ cases i j e f ∙ (λ k. meets_ray (sym e k) (sym f k) (y a b))
          where
            cases : (i j : Bool) → le_z (α a) (pos 0) ≡ i → le_z (α b) (pos 0) ≡ j → meets_ray i j (z a b) ≡ meets_ray i j (y a b)
            cases true true e f = refl
            cases false false e f = refl
            cases true false e f = one (yes_low (α a) e) (no_low (α b) f)
            cases false true e f =
                ap below (turned-z a b) ∙ below-neg (z b a) ∙ other (yes_low (α b) f) (no_low (α a) e)
                ∙ sym (ap below (turned-y a b) ∙ below-neg (y b a))
