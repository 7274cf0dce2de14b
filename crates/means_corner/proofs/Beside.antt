-- The first part of the way from a corner in a direction strictly inside the angle is on no side of the ring.
use mathlib.Core.Path.{◌≡◌, refl, sym, ◌∙◌, ap, subst}
use mathlib.Core.Logic.{◌⊎◌, inl, inr}
use mathlib.Core.List.{List, [], ◌∷◌}
use Prim.Native.Nat.{ℕ, ◌<◌}
use lib.IntN.{ℤ, pos, neg_ℤ, ◌+ℤ◌, ◌-ℤ◌, ◌*ℤ◌}
use Rattle.exact.proofs.Ring.{var, con, ◌⊕◌, ◌⊖◌, ◌⊗◌, neg, ring}
use Rattle.exact.proofs.Order.{whole_nonneg, whole_pos, mul-pos, mul_nonneg, ring_with}
use Rattle.exact.proofs.Signs.{mul-zero, pos-ne}
use Rattle.paper.specs.declared.Flat.{Flat}
use Rattle.means_area.specs.Rings.{Of}
use Rattle.means_area.specs.Flats.{Up, Nn, twice_area, height, Distinct, Fresh}
use Rattle.means_area.proofs.Flats.Signs.{up_is, nn_is, up_add, nn_up, zero_off, ways, nn_out}
use Rattle.means_area.proofs.Flats.Turns.{u_e, v_e, tE, env, spin, flip_last, flat-first}
use Rattle.means_inside.specs.Beams.{facing, Off}
use Rattle.means_inside.specs.Means.{big}
use Rattle.means_inside.specs.Convex.{NextAlong, Hand, lefts, rights, handed}
use Rattle.means_inside.proofs.Triangle.{f_e, facing-end, self_nn, self_up}
use Rattle.means_corner.specs.Corners.{ForSmall}
use Rattle.means_corner.proofs.Small.{then, both_small, stays}
use Rattle.means_corner.proofs.Cone.{t, hand_back}
use Rattle.means_corner.proofs.Steps.{step, step_turn}
use Rattle.means_corner.proofs.Lead.{step_from, step_to}

-- where x, v and c are in line, v is between x and c, or is x; and c is not v
abbrev pub Behind : Flat → Flat → Flat → Type 0
Behind v x c = twice_area v x c ≡ pos 0 → Nn (neg_ℤ (facing v x c)) × Up (facing v c c)

module _ (v c : Flat) where
  -- ---- a side that is not at v

  pub facing_step : (x y : Flat) (s n : ℕ)
      → facing (step v c s n) (big (pos n) x) (big (pos n) y)
      ≡ pos n *ℤ (pos n *ℤ facing v x y +ℤ pos s *ℤ neg_ℤ (facing v x c +ℤ facing v y c)) +ℤ (pos s *ℤ pos s) *ℤ facing v c c
  unfolding facing
  facing_step x y s n =
      ring (pos n ∷ x.u ∷ x.v ∷ y.u ∷ y.v ∷ v.u ∷ v.v ∷ c.u ∷ c.v ∷ pos s ∷ [])
      ((var 0 ⊗ u_e 0 ⊖ (var 0 ⊗ u_e 2 ⊕ var 9 ⊗ (u_e 3 ⊖ u_e 2))) ⊗ (var 0 ⊗ u_e 1 ⊖ (var 0 ⊗ u_e 2 ⊕ var 9 ⊗ (u_e 3 ⊖ u_e 2)))
      ⊕ (var 0 ⊗ v_e 0 ⊖ (var 0 ⊗ v_e 2 ⊕ var 9 ⊗ (v_e 3 ⊖ v_e 2))) ⊗ (var 0 ⊗ v_e 1 ⊖ (var 0 ⊗ v_e 2 ⊕ var 9 ⊗ (v_e 3 ⊖ v_e 2))))
      (var 0 ⊗ (var 0 ⊗ f_e 2 0 1 ⊕ var 9 ⊗ neg (f_e 2 0 3 ⊕ f_e 2 1 3)) ⊕ (var 9 ⊗ var 9) ⊗ f_e 2 3 3) tt

  pub away : (x y : Flat) → Off v x y → ForSmall (λ s n. Off (step v c s n) (big (pos n) x) (big (pos n) y))
  away x y o = go (ways (twice_area x y v))
    where
      e : ℤ
      e = twice_area x y c -ℤ twice_area x y v

      go : Up (twice_area x y v) ⊎ ((twice_area x y v ≡ pos 0) ⊎ Up (neg_ℤ (twice_area x y v)))
          → ForSmall (λ s n. Off (step v c s n) (big (pos n) x) (big (pos n) y))
      go (inl u) =
          let b = stays (twice_area x y v) e u in
          (b.0, λ s n hs hn l z. absurd (zero_off (sym (step_turn x y v c s n) ∙ z) (mul-pos (whole_pos n hn) (b.1 s n hs hn l))))
      go (inr (inr u)) =
          let b = stays (neg_ℤ (twice_area x y v)) (neg_ℤ e) u in (
            b.0,
            λ s n hs hn l z. absurd (zero_off
                (ring (pos n ∷ pos s ∷ twice_area x y v ∷ e ∷ []) (var 0 ⊗ (var 0 ⊗ neg (var 2) ⊕ var 1 ⊗ neg (var 3)))
                (neg (var 0 ⊗ (var 0 ⊗ var 2 ⊕ var 1 ⊗ var 3))) tt ∙ ap neg_ℤ (sym (step_turn x y v c s n) ∙ z))
                (mul-pos (whole_pos n hn) (b.1 s n hs hn l))),
          )
      go (inr (inl q)) =
          let b = stays (facing v x y) (neg_ℤ (facing v x c +ℤ facing v y c)) (o q) in (
            b.0,
            λ s n hs hn l z. up_is (sym (facing_step x y s n))
                (up_add (mul-pos (whole_pos n hn) (b.1 s n hs hn l))
                (mul_nonneg (mul_nonneg (whole_nonneg s) (whole_nonneg s)) (self_nn v c))),
          )

  -- ---- a side at v, whose other end is not in the direction

  pub near : (x : Flat) (s n : ℕ) → (pos n *ℤ pos s) *ℤ neg_ℤ (facing v x c) +ℤ (pos s *ℤ pos s) *ℤ facing v c c
      ≡ facing (step v c s n) (big (pos n) v) (big (pos n) x)
  near x s n =
      ring (pos n ∷ pos s ∷ facing v x c ∷ facing v c c ∷ [])
      ((var 0 ⊗ var 1) ⊗ neg (var 2) ⊕ (var 1 ⊗ var 1) ⊗ var 3)
      (var 0 ⊗ (var 0 ⊗ con (pos 0) ⊕ var 1 ⊗ neg (con (pos 0) ⊕ var 2)) ⊕ (var 1 ⊗ var 1) ⊗ var 3) tt
      ∙ (λ i. pos n *ℤ (pos n *ℤ sym (facing-end v x) i +ℤ pos s *ℤ neg_ℤ (sym (facing-end v c) i +ℤ facing v x c)) +ℤ
      (pos s *ℤ pos s) *ℤ facing v c c)
      ∙ sym (facing_step v x s n)

  pub beside : (x : Flat) → Behind v x c
      → (s n : ℕ) → 0 < s → 0 < n → Off (step v c s n) (big (pos n) v) (big (pos n) x)
  beside x f s n hs hn z =
      let q : twice_area v x c ≡ pos 0 = mul-zero (pos s) (twice_area v x c) (pos-ne (whole_pos s hs))
      (mul-zero (pos n) (pos s *ℤ twice_area v x c) (pos-ne (whole_pos n hn))
      (ring (pos n ∷ pos s ∷ twice_area v x c ∷ []) (var 0 ⊗ (var 1 ⊗ var 2)) (var 0 ⊗ (var 0 ⊗ con (pos 0) ⊕ var 1 ⊗ (var 2 ⊖ con (pos 0)))) tt
      ∙ ap (λ (y : ℤ). pos n *ℤ (pos n *ℤ y +ℤ pos s *ℤ (twice_area v x c -ℤ y))) (sym (flat-first v x)) ∙ sym (step_turn v x v c s n) ∙ z)) in
      up_is (near x s n)
      (nn_up (mul_nonneg (mul_nonneg (whole_nonneg n) (whole_nonneg s)) (f q).0)
      (mul-pos (mul-pos (whole_pos s hs) (whole_pos s hs)) (f q).1))

  -- in line with c and not to its side: b is behind v where the angle from b to a is 180 degrees or more
  pub ratio : (b a : Flat) → twice_area v b c ≡ pos 0 → facing v c c *ℤ twice_area v b a ≡ facing v b c *ℤ twice_area v c a
  unfolding twice_area facing
  ratio b a e =
      ring_with (env (pos 0) (v ∷ b ∷ a ∷ c ∷ [])) (f_e 0 3 3 ⊗ tE 0 1 2) (f_e 0 1 3 ⊗ tE 0 3 2)
      ((u_e 3 ⊖ u_e 0) ⊗ (u_e 2 ⊖ u_e 0) ⊕ (v_e 3 ⊖ v_e 0) ⊗ (v_e 2 ⊖ v_e 0)) (tE 0 1 3) (con (pos 0)) tt e

-- ---- strictly inside the angle from b to a, at v

pub data Strict (h : Hand) (v b a c : Flat) : Type 0 where
  acute : Up (t h v b a) → Up (t h v b c) → Up (t h v c a) → Strict h v b a c
  wide : Nn (neg_ℤ (t h v b a)) → Up (t h v b c) ⊎ Up (t h v c a) → Strict h v b a c

hand_zero : (h : Hand) (x : ℤ) → x ≡ pos 0 → Up (handed h x) → ⊥
hand_zero lefts x e u = zero_off e u
hand_zero rights x e u = zero_off (ap neg_ℤ e) u

pub behind : (f g x y : ℤ) → f *ℤ x ≡ g *ℤ y → Nn f → Nn (neg_ℤ x) → Up y → Nn (neg_ℤ g)
behind f g x y e nf nx uy =
    nn_out y uy
    (nn_is (ring (f ∷ x ∷ []) (var 0 ⊗ neg (var 1)) (neg (var 0 ⊗ var 1)) tt ∙ ap neg_ℤ e
    ∙ ring (g ∷ y ∷ []) (neg (var 0 ⊗ var 1)) (var 1 ⊗ neg (var 0)) tt) (mul_nonneg nf nx))

module _ (v c : Flat) where
  pub hand_ratio : (h : Hand) (b a : Flat) → twice_area v b c ≡ pos 0 → facing v c c *ℤ t h v b a ≡ facing v b c *ℤ t h v c a
  hand_ratio lefts b a e = ratio v c b a e
  hand_ratio rights b a e =
      ring (facing v c c ∷ twice_area v b a ∷ []) (var 0 ⊗ neg (var 1)) (neg (var 0 ⊗ var 1)) tt ∙ ap neg_ℤ (ratio v c b a e)
      ∙ ring (facing v b c ∷ twice_area v c a ∷ []) (neg (var 0 ⊗ var 1)) (var 0 ⊗ neg (var 1)) tt

  not_here : (h : Hand) (x : Flat) → Up (t h v c x) → Up (facing v c c)
  not_here h x u = self_up v c (λ e. hand_zero h (twice_area v c x) (ap (λ (z : Flat). twice_area v z x) e ∙ spin v v x ∙ flat-first v x) u)

  -- the two sides at v
  pub side_next : (h : Hand) (b a : Flat) → Strict h v b a c → Behind v b c
  side_next h b a (acute i j k) e = absurd (hand_zero h (twice_area v b c) e j)
  side_next h b a (wide i (inl j)) e = absurd (hand_zero h (twice_area v b c) e j)
  side_next h b a (wide i (inr k)) e =
      (behind (facing v c c) (facing v b c) (t h v b a) (t h v c a) (hand_ratio h b a e) (self_nn v c) i k, not_here h a k)

  pub side_before : (h : Hand) (b a : Flat) → Strict h v b a c → Behind v a c
  side_before h b a (acute i j k) e = absurd (hand_zero h (twice_area v c a) (flip_last v c a ∙ ap neg_ℤ e) k)
  side_before h b a (wide i (inr k)) e = absurd (hand_zero h (twice_area v c a) (flip_last v c a ∙ ap neg_ℤ e) k)
  side_before h b a (wide i (inl j)) e = (
    behind (facing v c c) (facing v a c) (t h v b a) (t h v b c)
        (ap (λ (z : ℤ). facing v c c *ℤ z) (hand_back v h b a)
        ∙ ring (facing v c c ∷ t h v a b ∷ []) (var 0 ⊗ neg (var 1)) (neg (var 0 ⊗ var 1)) tt ∙ ap neg_ℤ (hand_ratio h a b e)
        ∙ ring (facing v a c ∷ t h v c b ∷ []) (neg (var 0 ⊗ var 1)) (var 0 ⊗ neg (var 1)) tt
        ∙ ap (λ (z : ℤ). facing v a c *ℤ z) (sym (hand_back v h b c))) (self_nn v c) i j,
    self_up v c (λ q. hand_zero h (twice_area v b c) (ap (twice_area v b) q ∙ flat-first v b) j),
  )

-- ---- finitely many sides together

pub all-steps : (P : Flat → Flat → ℕ → ℕ → Type 0) (x : Flat) (l : List Flat) (e : Flat) → ((p q : Flat) → NextAlong x l e p q → ForSmall (P p q))
    → ForSmall (λ s n. (p q : Flat) → NextAlong x l e p q → P p q s n)
all-steps P x [] e f =
    then (λ s n o p q k. subst (λ (z : Flat). P z q s n) (sym k.0) (subst (λ (z : Flat). P x z s n) (sym k.1) o))
    (f x e (refl, refl))
all-steps P x (y ∷ l) e f =
    then {P = λ s n. P x y s n × ((p q : Flat) → NextAlong y l e p q → P p q s n)} (λ s n o p q. split s n o.0 o.1 p q)
    (both_small (f x y (inl (refl, refl))) (all-steps P y l e (λ p q k. f p q (inr k))))
  where
    split : (s n : ℕ) → P x y s n → ((p q : Flat) → NextAlong y l e p q → P p q s n) → (p q : Flat) → NextAlong x (y ∷ l) e p q → P p q s n
    split s n o r p q (inl k) = subst (λ (z : Flat). P z q s n) (sym k.0) (subst (λ (z : Flat). P x z s n) (sym k.1) o)
    split s n o r p q (inr k) = r p q k

-- ---- the sides of a ring

module _ (m : ℤ) (v c : Flat) where
  abbrev pub Miss : Flat → Flat → ℕ → ℕ → Type 0
  Miss x y s n = Off (step v c s n) (big (pos n) x) (big (pos n) y)

  -- one corner is next, one is before
  pub next_one : (x : Flat) (l : List Flat) (e : Flat) → Distinct m (x ∷ l) → (b d : Flat) → NextAlong x l e v b → NextAlong x l e v d → b ≡ d
  next_one x [] e dd b d i j = i.1 ∙ sym j.1
  next_one x (y ∷ l) e dd b d (inl i) (inl j) = i.1 ∙ sym j.1
  next_one x (y ∷ l) e dd b d (inl i) (inr j) = absurd (dd.0 v (step_from y l e v d j) (ap (height m) i.0))
  next_one x (y ∷ l) e dd b d (inr i) (inl j) = absurd (dd.0 v (step_from y l e v b i) (ap (height m) j.0))
  next_one x (y ∷ l) e dd b d (inr i) (inr j) = next_one y l e dd.1 b d i j

  twice_there : (y : Flat) (l : List Flat) (e : Flat) → Distinct m (y ∷ l) → Fresh m e (y ∷ l) → v ≡ y → Of v l ⊎ (v ≡ e) → ⊥
  twice_there y l e dd f i (inl o) = dd.0 v o (ap (height m) i)
  twice_there y l e dd f i (inr q) = f y (inl refl) (ap (height m) (sym i ∙ q))

  pub before_one : (x : Flat) (l : List Flat) (e : Flat) → Distinct m l → Fresh m e l → (a d : Flat) → NextAlong x l e a v → NextAlong x l e d v
      → a ≡ d
  before_one x [] e dd f a d i j = i.0 ∙ sym j.0
  before_one x (y ∷ l) e dd f a d (inl i) (inl j) = i.0 ∙ sym j.0
  before_one x (y ∷ l) e dd f a d (inl i) (inr j) = absurd (twice_there y l e dd f i.1 (step_to y l e d v j))
  before_one x (y ∷ l) e dd f a d (inr i) (inl j) = absurd (twice_there y l e dd f j.1 (step_to y l e a v i))
  before_one x (y ∷ l) e dd f a d (inr i) (inr j) = before_one y l e dd.1 (λ z o. f z (inr o)) a d i j
