-- Every side that the start is not on is never met, or first met at a fraction: by the sides of the line on which its ends are.
use mathlib.Core.Path.{◌≡◌, sym, ◌∙◌, ap, ap₂}
use mathlib.Core.Logic.{◌⊎◌, inl, inr}
use mathlib.Core.List.{[], ◌∷◌}
use lib.IntN.{ℤ, pos, neg_ℤ, ◌+ℤ◌, ◌-ℤ◌, ◌*ℤ◌}
use Rattle.exact.proofs.Ring.{var, con, ◌⊕◌, ◌⊖◌, ◌⊗◌, neg, ring}
use Rattle.exact.proofs.Laws.{eq_of_sub}
use Rattle.exact.proofs.Order.{mul-pos, mul_nonneg, add_nonneg, square_nonneg}
use Rattle.exact.proofs.Signs.{mul-zero, pos-ne}
use Rattle.paper.specs.declared.Flat.{Flat}
use Rattle.means_area.specs.Flats.{Up, Nn, twice_area}
use Rattle.means_area.proofs.Flats.Net.{nn0}
use Rattle.means_area.proofs.Flats.Signs.{up_is, nn_is, up_nn, up_add, nn_up, off, zero_off, ways, which, up_out, nn_out}
use Rattle.means_inside.specs.Beams.{facing}
use Rattle.means_inside.specs.Means.{big}
use Rattle.means_corner.specs.Ways.{ahead_by}
use Rattle.means_border.proofs.Side.{across, ahead, size, Miss, Hit, Never, Side, never, first, left, turn_at_lem, turn_by, face_by}
use Rattle.means_border.proofs.Side.{side_back}

-- ---- numbers: x and y are how far the ends are ahead, α and β how far across
both-sides : (x y α β : ℤ) → x *ℤ β ≡ α *ℤ y → Up (α *ℤ β) → Nn (x *ℤ y)
both-sides x y α β e u =
    nn_out (α *ℤ β) u
    (nn_is (ap (λ (z : ℤ). (x *ℤ β) *ℤ z) e
    ∙ ring (x ∷ y ∷ α ∷ β ∷ []) ((var 0 ⊗ var 3) ⊗ (var 2 ⊗ var 1)) ((var 2 ⊗ var 3) ⊗ (var 0 ⊗ var 1)) tt)
    (square_nonneg (x *ℤ β)))

-- (β - α) x y = α y² - β x²
between : (x y α β : ℤ) → x *ℤ β ≡ α *ℤ y → Nn (neg_ℤ α) → Nn β → Up (β -ℤ α) → Nn (neg_ℤ (x *ℤ y))
between x y α β e na nb u =
    nn_out (β -ℤ α) u
    (nn_is
    (ring (x ∷ y ∷ α ∷ β ∷ []) (neg (var 2) ⊗ (var 1 ⊗ var 1) ⊕ var 3 ⊗ (var 0 ⊗ var 0))
    ((var 0 ⊗ var 3) ⊗ var 0 ⊖ (var 2 ⊗ var 1) ⊗ var 1) tt
    ∙ ap₂ (λ (z t : ℤ). z *ℤ x -ℤ t *ℤ y) e (sym e)
    ∙ ring (x ∷ y ∷ α ∷ β ∷ []) ((var 2 ⊗ var 1) ⊗ var 0 ⊖ (var 0 ⊗ var 3) ⊗ var 1) ((var 3 ⊖ var 2) ⊗ neg (var 0 ⊗ var 1)) tt)
    (add_nonneg (mul_nonneg na (square_nonneg y)) (mul_nonneg nb (square_nonneg x))))

module _ (p w : Flat) (uw : Up (size p w)) where
  abbrev α : Flat → ℤ
  α = across p w

  -- where the side's line is met
  in_line_lem : (s m : ℤ) (a b : Flat) → Up m → twice_area (big m a) (big m b) (ahead_by p w s m) ≡ pos 0
      → left p w s m a *ℤ α b ≡ α a *ℤ left p w s m b
  in_line_lem s m a b um e =
      eq_of_sub (left p w s m a *ℤ α b) (α a *ℤ left p w s m b)
      (mul-zero m (left p w s m a *ℤ α b -ℤ α a *ℤ left p w s m b) (pos-ne um)
      (sym (turn_by p w s m a b) ∙ ap (λ (z : ℤ). size p w *ℤ z) e ∙ ring (size p w ∷ []) (var 0 ⊗ con (pos 0)) (con (pos 0)) tt))

  face_up : (s m : ℤ) (a b : Flat) → Up (left p w s m a *ℤ left p w s m b +ℤ (m *ℤ m) *ℤ (α a *ℤ α b))
      → Up (facing (ahead_by p w s m) (big m a) (big m b))
  face_up s m a b u = up_out (size p w) uw (up_is (sym (face_by p w s m a b)) u)

  face_low : (s m : ℤ) (a b : Flat) → Nn (neg_ℤ (left p w s m a *ℤ left p w s m b +ℤ (m *ℤ m) *ℤ (α a *ℤ α b)))
      → Nn (neg_ℤ (facing (ahead_by p w s m) (big m a) (big m b)))
  face_low s m a b u =
      nn_out (size p w) uw
      (nn_is (ap neg_ℤ (sym (face_by p w s m a b))
      ∙ ring (size p w ∷ facing (ahead_by p w s m) (big m a) (big m b) ∷ []) (neg (var 0 ⊗ var 1)) (var 0 ⊗ neg (var 1)) tt) u)

  -- ---- both ends on one side of the line
  one_side : (a b : Flat) → Up (α a *ℤ α b) → Never p w a b
  one_side a b u s m hs um e =
      face_up s m a b
      (nn_up (both-sides (left p w s m a) (left p w s m b) (α a) (α b) (in_line_lem s m a b um e) u) (mul-pos (mul-pos um um) u))

  -- ---- one on each, or one in the line
  module _ (a b : Flat) (na : Nn (neg_ℤ (α a))) (nb : Nn (α b)) (ud : Up (α b -ℤ α a)) where
    mid : (s m : ℤ) → Up m → twice_area (big m a) (big m b) (ahead_by p w s m) ≡ pos 0 → Hit p w s m a b
    mid s m um e = (
      e,
      face_low s m a b
          (nn_is
          (ring (left p w s m a ∷ left p w s m b ∷ m ∷ α a ∷ α b ∷ []) (neg (var 0 ⊗ var 1) ⊕ (var 2 ⊗ var 2) ⊗ (neg (var 3) ⊗ var 4))
          (neg (var 0 ⊗ var 1 ⊕ (var 2 ⊗ var 2) ⊗ (var 3 ⊗ var 4))) tt)
          (add_nonneg (between (left p w s m a) (left p w s m b) (α a) (α b) (in_line_lem s m a b um e) na nb ud)
          (mul_nonneg (square_nonneg m) (mul_nonneg na nb)))),
    )

    pub hit_there : Up (twice_area a b p) → Hit p w (twice_area a b p) (α b -ℤ α a) a b
    hit_there ut =
        mid (twice_area a b p) (α b -ℤ α a) ud
        (turn_at_lem p w (twice_area a b p) (α b -ℤ α a) a b
        ∙ ring (twice_area a b p ∷ (α b -ℤ α a) ∷ []) (var 1 ⊗ (var 1 ⊗ var 0 ⊖ var 0 ⊗ var 1)) (con (pos 0)) tt)

    pub passes : Miss p w (pos 0) (pos 1) a b → Side p w a b
    passes o = go (ways (twice_area a b p))
      where
        t : ℤ
        t = twice_area a b p

        d : ℤ
        d = α b -ℤ α a

        go : Up t ⊎ ((t ≡ pos 0) ⊎ Up (neg_ℤ t)) → Side p w a b
        go (inl ut) =
            first t d ut ud (hit_there ut) (λ s' m' hs um k e. absurd (zero_off
            (ring (t ∷ d ∷ s' ∷ m' ∷ []) (var 3 ⊗ (var 0 ⊗ var 3 ⊖ var 2 ⊗ var 1)) (var 3 ⊗ (var 3 ⊗ var 0 ⊖ var 2 ⊗ var 1)) tt
            ∙ sym (turn_at_lem p w s' m' a b) ∙ e) (mul-pos um k)))
        go (inr (inr ut)) =
            never (λ s' m' hs um e. absurd (zero_off
            (ring (t ∷ d ∷ s' ∷ m' ∷ []) (var 3 ⊗ (var 3 ⊗ neg (var 0) ⊕ var 2 ⊗ var 1)) (neg (var 3 ⊗ (var 3 ⊗ var 0 ⊖ var 2 ⊗ var 1))) tt
            ∙ ap neg_ℤ (sym (turn_at_lem p w s' m' a b) ∙ e)) (mul-pos um (up_add (mul-pos um ut) (mul_nonneg hs (up_nn ud))))))
        go (inr (inl e)) =
            let z : twice_area (big (pos 1) a) (big (pos 1) b) (ahead_by p w (pos 0) (pos 1)) ≡ pos 0 = turn_at_lem p w (pos 0) (pos 1) a b
            ∙ ring (t ∷ d ∷ []) (con (pos 1) ⊗ (con (pos 1) ⊗ var 0 ⊖ con (pos 0) ⊗ var 1)) (var 0) tt ∙ e in
            absurd (off (o z) (mid (pos 0) (pos 1) (record { lt = tt }) z).1)

  -- ---- both in the line
  module _ (a b : Flat) (ea : α a ≡ pos 0) (eb : α b ≡ pos 0) where
    flat-face : (s m : ℤ) → left p w s m a *ℤ left p w s m b +ℤ (m *ℤ m) *ℤ (α a *ℤ α b) ≡ left p w s m a *ℤ left p w s m b
    flat-face s m =
        ap₂ (λ (x y : ℤ). left p w s m a *ℤ left p w s m b +ℤ (m *ℤ m) *ℤ (x *ℤ y)) ea eb
        ∙ ring ((left p w s m a *ℤ left p w s m b) ∷ m ∷ []) (var 0 ⊕ (var 1 ⊗ var 1) ⊗ (con (pos 0) ⊗ con (pos 0))) (var 0) tt

    flat-turn : (s m : ℤ) → twice_area (big m a) (big m b) (ahead_by p w s m) ≡ pos 0
    flat-turn s m =
        mul-zero (size p w) (twice_area (big m a) (big m b) (ahead_by p w s m)) (pos-ne uw)
        (turn_by p w s m a b ∙ ap₂ (λ (x y : ℤ). m *ℤ (left p w s m a *ℤ y -ℤ x *ℤ left p w s m b)) ea eb
        ∙ ring (m ∷ left p w s m a ∷ left p w s m b ∷ []) (var 0 ⊗ (var 1 ⊗ con (pos 0) ⊖ con (pos 0) ⊗ var 2)) (con (pos 0)) tt)

    both_ahead : (s m : ℤ) → Up (left p w s m a *ℤ left p w s m b) → Miss p w s m a b
    both_ahead s m u e = face_up s m a b (up_is (sym (flat-face s m)) u)

    -- a is the nearer
    nearer : Up (ahead p w a) → Nn (ahead p w b -ℤ ahead p w a) → Side p w a b
    nearer ua nb =
        first (ahead p w a) (size p w) ua uw (
          flat-turn (ahead p w a) (size p w),
          face_low (ahead p w a) (size p w) a b (nn0
              (ap neg_ℤ (flat-face (ahead p w a) (size p w))
              ∙ ring (ahead p w a ∷ size p w ∷ ahead p w b ∷ [])
              (neg ((var 1 ⊗ var 0 ⊖ var 0 ⊗ var 1) ⊗ (var 1 ⊗ var 2 ⊖ var 0 ⊗ var 1))) (con (pos 0)) tt)),
        )
        (λ s' m' hs um k. let la : Up (left p w s' m' a) = up_is
        (ring (ahead p w a ∷ m' ∷ s' ∷ size p w ∷ []) (var 0 ⊗ var 1 ⊖ var 2 ⊗ var 3) (var 1 ⊗ var 0 ⊖ var 2 ⊗ var 3) tt) k in
        both_ahead s' m' (mul-pos la (up_is
        (ring (ahead p w a ∷ m' ∷ s' ∷ size p w ∷ ahead p w b ∷ []) ((var 1 ⊗ var 0 ⊖ var 2 ⊗ var 3) ⊕ var 1 ⊗ (var 4 ⊖ var 0))
        (var 1 ⊗ var 4 ⊖ var 2 ⊗ var 3) tt) (up_add la (mul_nonneg (up_nn um) nb)))))

    behind : Up (neg_ℤ (ahead p w a)) → Up (neg_ℤ (ahead p w b)) → Side p w a b
    behind ua ub =
        never (λ s' m' hs um. both_ahead s' m' (up_is
        (ring (ahead p w a ∷ m' ∷ s' ∷ size p w ∷ ahead p w b ∷ [])
        ((var 1 ⊗ neg (var 0) ⊕ var 2 ⊗ var 3) ⊗ (var 1 ⊗ neg (var 4) ⊕ var 2 ⊗ var 3))
        ((var 1 ⊗ var 0 ⊖ var 2 ⊗ var 3) ⊗ (var 1 ⊗ var 4 ⊖ var 2 ⊗ var 3)) tt)
        (mul-pos (up_add (mul-pos um ua) (mul_nonneg hs (up_nn uw))) (up_add (mul-pos um ub) (mul_nonneg hs (up_nn uw))))))

    -- the start is not between them
    one_way : Miss p w (pos 0) (pos 1) a b → Up (ahead p w a *ℤ ahead p w b)
    one_way o =
        up_is
        (face_by p w (pos 0) (pos 1) a b ∙ flat-face (pos 0) (pos 1)
        ∙ ring (ahead p w a ∷ ahead p w b ∷ size p w ∷ [])
        ((con (pos 1) ⊗ var 0 ⊖ con (pos 0) ⊗ var 2) ⊗ (con (pos 1) ⊗ var 1 ⊖ con (pos 0) ⊗ var 2)) (var 0 ⊗ var 1) tt)
        (mul-pos uw (o (flat-turn (pos 0) (pos 1))))

  within : (a b : Flat) → α a ≡ pos 0 → α b ≡ pos 0 → Miss p w (pos 0) (pos 1) a b → Side p w a b
  within a b ea eb o = go (ways (ahead p w a)) (ways (ahead p w b)) (which (ahead p w a -ℤ ahead p w b))
    where
      A : ℤ
      A = ahead p w a

      B : ℤ
      B = ahead p w b

      u : Up (A *ℤ B)
      u = one_way a b ea eb o

      go : Up A ⊎ ((A ≡ pos 0) ⊎ Up (neg_ℤ A)) → Up B ⊎ ((B ≡ pos 0) ⊎ Up (neg_ℤ B)) → Up (A -ℤ B) ⊎ Nn (neg_ℤ (A -ℤ B)) → Side p w a b
      go (inr (inl e)) y k =
          absurd (zero_off (ap (λ (z : ℤ). z *ℤ B) e ∙ ring (B ∷ []) (con (pos 0) ⊗ var 0) (con (pos 0)) tt) u)
      go (inl x) (inr (inl e)) k =
          absurd (zero_off (ap (λ (z : ℤ). A *ℤ z) e ∙ ring (A ∷ []) (var 0 ⊗ con (pos 0)) (con (pos 0)) tt) u)
      go (inr (inr x)) (inr (inl e)) k =
          absurd (zero_off (ap (λ (z : ℤ). A *ℤ z) e ∙ ring (A ∷ []) (var 0 ⊗ con (pos 0)) (con (pos 0)) tt) u)
      go (inl x) (inr (inr y)) k =
          absurd (off u (up_nn (up_is (ring (A ∷ B ∷ []) (var 0 ⊗ neg (var 1)) (neg (var 0 ⊗ var 1)) tt) (mul-pos x y))))
      go (inr (inr x)) (inl y) k =
          absurd (off u (up_nn (up_is (ring (A ∷ B ∷ []) (neg (var 0) ⊗ var 1) (neg (var 0 ⊗ var 1)) tt) (mul-pos x y))))
      go (inr (inr x)) (inr (inr y)) k = behind a b ea eb x y
      go (inl x) (inl y) (inr k) = nearer a b ea eb x (nn_is (ring (A ∷ B ∷ []) (neg (var 0 ⊖ var 1)) (var 1 ⊖ var 0) tt) k)
      go (inl x) (inl y) (inl k) = side_back p w b a (nearer b a eb ea y (up_nn k))

  -- ---- all cases
  pub meets : (a b : Flat) → Miss p w (pos 0) (pos 1) a b → Miss p w (pos 0) (pos 1) b a → Side p w a b
  meets a b o o' = go (ways (α a)) (ways (α b))
    where
      diff : (x y : ℤ) → Nn (neg_ℤ x) → Up y → Up (y -ℤ x)
      diff x y nx uy = up_is (ring (x ∷ y ∷ []) (var 1 ⊕ neg (var 0)) (var 1 ⊖ var 0) tt) (up_add uy nx)

      diff' : (x y : ℤ) → Up (neg_ℤ x) → Nn y → Up (y -ℤ x)
      diff' x y nx uy = up_is (ring (x ∷ y ∷ []) (neg (var 0) ⊕ var 1) (var 1 ⊖ var 0) tt) (up_add nx uy)

      go : Up (α a) ⊎ ((α a ≡ pos 0) ⊎ Up (neg_ℤ (α a))) → Up (α b) ⊎ ((α b ≡ pos 0) ⊎ Up (neg_ℤ (α b))) → Side p w a b
      go (inl x) (inl y) = never (one_side a b (mul-pos x y))
      go (inr (inr x)) (inr (inr y)) =
          never (one_side a b (up_is (ring (α a ∷ α b ∷ []) (neg (var 0) ⊗ neg (var 1)) (var 0 ⊗ var 1) tt) (mul-pos x y)))
      go (inr (inl x)) (inr (inl y)) = within a b x y o
      go (inr (inl x)) (inl y) = passes a b (nn0 (ap neg_ℤ x)) (up_nn y) (diff (α a) (α b) (nn0 (ap neg_ℤ x)) y) o
      go (inr (inr x)) (inl y) = passes a b (up_nn x) (up_nn y) (diff (α a) (α b) (up_nn x) y) o
      go (inr (inr x)) (inr (inl y)) = passes a b (up_nn x) (nn0 y) (diff' (α a) (α b) x (nn0 y)) o
      go (inr (inl x)) (inr (inr y)) =
          side_back p w b a (passes b a (up_nn y) (nn0 x) (diff' (α b) (α a) y (nn0 x)) o')
      go (inl x) (inr (inl y)) = side_back p w b a (passes b a (nn0 (ap neg_ℤ y)) (up_nn x) (diff (α b) (α a) (nn0 (ap neg_ℤ y)) x) o')
      go (inl x) (inr (inr y)) = side_back p w b a (passes b a (up_nn y) (up_nn x) (diff (α b) (α a) (up_nn y) x) o')
