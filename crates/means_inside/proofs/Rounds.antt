-- A triangle that turns to the left goes round a point once or not at all, and only round points within it.
-- Of three corners one is alone on its side of the ray's line; p is on that line, so its places there are of one sign. A point within is
-- counted by the ray across a side that it is not in line with.
use mathlib.Core.Path.{◌≡◌, refl, sym, ◌∙◌, ap, subst}
use mathlib.Core.Bool.{Bool, true, false, cond, true≢false}
use mathlib.Core.Logic.{◌⊎◌, inl, inr}
use mathlib.Core.List.{[], ◌∷◌}
use lib.IntN.{ℤ, pos, neg_ℤ, ◌+ℤ◌, ◌*ℤ◌}
use Rattle.exact.proofs.Ring.{var, ◌⊕◌, ◌⊖◌, ◌⊗◌, neg, ring}
use Rattle.exact.proofs.Order.{mul-pos, mul_nonneg, add_nonneg}
use Rattle.paper.specs.Points.{above, below}
use Rattle.paper.specs.declared.Flat.{Flat}
use Rattle.means_area.specs.Flats.{Up, Nn, twice_area}
use Rattle.means_area.proofs.Flats.Signs.{up_is, nn_is, up_nn, up_add, nn_up, off, which, nn_out, twice}
use Rattle.means_area.proofs.Flats.Turns.{env, u_e, v_e, tE, spin, sum_is}
use Rattle.means_inside.specs.Beams.{right}
use Rattle.means_inside.specs.Regions.{InTriangle, left}
use Rattle.means_inside.proofs.Beams.{above_is, above_yes, below_is, below_no, below_yes, low-is, low_no, yes_low, no_low}
use Rattle.means_inside.proofs.Triangle.{shift}
use Rattle.means_inside.proofs.Covers.{turn_within}
use Rattle.means_inside.proofs.Winding.{around, counts, goes}

-- ---- a triangle that turns to the left
pub data Turns (a b c p : Flat) (s : ℤ) : Type 0 where
  never : s ≡ pos 0 → Turns a b c p s
  once : s ≡ pos 1 → InTriangle a b c p → Turns a b c p s

abbrev pub round3 : Flat → Flat → Flat → Flat → Flat → ℤ
round3 p q a b c = around (goes p q) (a ∷ b ∷ c ∷ [])

-- the next corner first
next3 : (p q a b c : Flat) → round3 p q a b c ≡ round3 p q b c a
next3 p q a b c = ring (goes p q a b ∷ goes p q b c ∷ goes p q c a ∷ []) (var 0 ⊕ (var 1 ⊕ var 2)) (var 1 ⊕ (var 2 ⊕ var 0)) tt

turns_next : (p q a b c : Flat) → Turns b c a p (round3 p q b c a) → Turns a b c p (round3 p q a b c)
turns_next p q a b c (never e) = never (next3 p q a b c ∙ e)
turns_next p q a b c (once e i) = once (next3 p q a b c ∙ e) (turn_within a b c p i)

not-below : (t : ℤ) → below t ≡ false → Nn t
not-below t e = go (which (neg_ℤ t))
  where
    go : Up (neg_ℤ t) ⊎ Nn (neg_ℤ (neg_ℤ t)) → Nn t
    go (inl u) = absurd (true≢false (sym (below_is t u) ∙ e))
    go (inr n) = nn_is (sym (twice t)) n

pub not_above : (t : ℤ) → above t ≡ false → Nn (neg_ℤ t)
not_above t e = go (which t)
  where
    go : Up t ⊎ Nn (neg_ℤ t) → Nn (neg_ℤ t)
    go (inl u) = absurd (true≢false (sym (above_is t u) ∙ e))
    go (inr n) = n

module _ (p q a b c : Flat) (D : Up (twice_area a b c)) where
  abbrev A : ℤ
  A = twice_area p q a

  abbrev B : ℤ
  B = twice_area p q b

  abbrev C : ℤ
  C = twice_area p q c

  abbrev x : ℤ
  x = twice_area a b p

  abbrev y : ℤ
  y = twice_area b c p

  abbrev z : ℤ
  z = twice_area c a p

  -- p by its places: on the ray's line
  weight : C *ℤ x ≡ y *ℤ neg_ℤ A +ℤ z *ℤ neg_ℤ B
  unfolding twice_area
  weight =
      ring (env (pos 0) (p ∷ q ∷ a ∷ b ∷ c ∷ [])) (tE 0 1 4 ⊗ tE 2 3 0) (tE 3 4 0 ⊗ neg (tE 0 1 2) ⊕ tE 4 2 0 ⊗ neg (tE 0 1 3)) tt

  -- its places are not all at most 0
  not-all : Nn (neg_ℤ x) → Nn (neg_ℤ y) → Nn (neg_ℤ z) → ⊥
  not-all i j k =
      off D
      (nn_is (ring (x ∷ y ∷ z ∷ []) (neg (var 0) ⊕ (neg (var 1) ⊕ neg (var 2))) (neg (var 1 ⊕ var 2 ⊕ var 0)) tt ∙ ap neg_ℤ (sum_is a b c p))
      (add_nonneg i (add_nonneg j k)))

  parts : (u v w : Bool) → right p q a ≡ u → right p q b ≡ v → right p q c ≡ w
      → counts u v x +ℤ (counts v w y +ℤ counts w u z) ≡ round3 p q a b c
  unfolding goes
  parts u v w ea eb ec =
      λ i. counts (sym ea i) (sym eb i) x +ℤ (counts (sym eb i) (sym ec i) y +ℤ counts (sym ec i) (sym ea i) z)

  -- c alone to the left
  apex_left : right p q a ≡ true → right p q b ≡ true → right p q c ≡ false → Turns a b c p (round3 p q a b c)
  unfolding right counts
  apex_left ea eb ec = subst (Turns a b c p) (parts true true false ea eb ec) (go (above y) (below z) refl refl)
    where
      nA : Nn (neg_ℤ (twice_area p q a))
      nA = yes_low (twice_area p q a) ea

      nB : Nn (neg_ℤ (twice_area p q b))
      nB = yes_low (twice_area p q b) eb

      u_c : Up (twice_area p q c)
      u_c = no_low (twice_area p q c) ec

      go : (s t : Bool) → above (twice_area b c p) ≡ s → below (twice_area c a p) ≡ t
          → Turns a b c p (pos 0 +ℤ (cond s (pos 1) (pos 0) +ℤ cond t (neg_ℤ (pos 1)) (pos 0)))
      go true true e f = never refl
      go false false e f = never refl
      go true false e f =
          let j = up_nn (above_yes (twice_area b c p) e) in
          let k = not-below (twice_area c a p) f in
          once refl (left (nn_out (twice_area p q c) u_c (nn_is (sym weight) (add_nonneg (mul_nonneg j nA) (mul_nonneg k nB)))) j k)
      go false true e f =
          let j = not_above (twice_area b c p) e in
          let k = up_nn (below_yes (twice_area c a p) f) in
          absurd
          (not-all
          (nn_out (twice_area p q c) u_c
          (nn_is
          (ring (y ∷ A ∷ z ∷ B ∷ []) (neg (var 0) ⊗ neg (var 1) ⊕ neg (var 2) ⊗ neg (var 3))
          (neg (var 0 ⊗ neg (var 1) ⊕ var 2 ⊗ neg (var 3))) tt
          ∙ ap neg_ℤ (sym weight) ∙ ring (C ∷ x ∷ []) (neg (var 0 ⊗ var 1)) (var 0 ⊗ neg (var 1)) tt)
          (add_nonneg (mul_nonneg j nA) (mul_nonneg k nB)))) j k)

  -- c alone to the right
  apex_right : right p q a ≡ false → right p q b ≡ false → right p q c ≡ true → Turns a b c p (round3 p q a b c)
  unfolding right counts
  apex_right ea eb ec = subst (Turns a b c p) (parts false false true ea eb ec) (go (below y) (above z) refl refl)
    where
      u_a : Up (twice_area p q a)
      u_a = no_low (twice_area p q a) ea

      u_b : Up (twice_area p q b)
      u_b = no_low (twice_area p q b) eb

      nC : Nn (neg_ℤ (twice_area p q c))
      nC = yes_low (twice_area p q c) ec

      -- of x times what is not below 0
      back : neg_ℤ C *ℤ x ≡ y *ℤ A +ℤ z *ℤ B
      back =
          ring (C ∷ x ∷ []) (neg (var 0) ⊗ var 1) (neg (var 0 ⊗ var 1)) tt ∙ ap neg_ℤ weight
          ∙ ring (y ∷ A ∷ z ∷ B ∷ []) (neg (var 0 ⊗ neg (var 1) ⊕ var 2 ⊗ neg (var 3))) (var 0 ⊗ var 1 ⊕ var 2 ⊗ var 3) tt

      x_up : Nn (twice_area b c p) → Up (twice_area c a p) → Up (twice_area a b p) ⊎ Nn (neg_ℤ (twice_area a b p)) → Nn (twice_area a b p)
      x_up j k (inl u) = up_nn u
      x_up j k (inr n) =
          absurd
          (off (up_is (sym back) (nn_up (mul_nonneg j (up_nn u_a)) (mul-pos k u_b)))
          (nn_is (ring (C ∷ x ∷ []) (neg (var 0) ⊗ neg (var 1)) (neg (neg (var 0) ⊗ var 1)) tt) (mul_nonneg nC n)))

      x_down : Up (neg_ℤ (twice_area b c p)) → Nn (neg_ℤ (twice_area c a p)) → Up (twice_area a b p) ⊎ Nn (neg_ℤ (twice_area a b p)) → Nn (neg_ℤ (twice_area a b p))
      x_down j k (inr n) = n
      x_down j k (inl u) =
          absurd
          (off (up_add (mul-pos j u_a) (mul_nonneg k (up_nn u_b)))
          (nn_is
          (back ∙ ring (y ∷ A ∷ z ∷ B ∷ []) (var 0 ⊗ var 1 ⊕ var 2 ⊗ var 3) (neg (neg (var 0) ⊗ var 1 ⊕ neg (var 2) ⊗ var 3)) tt)
          (mul_nonneg nC (up_nn u))))

      go : (s t : Bool) → below (twice_area b c p) ≡ s → above (twice_area c a p) ≡ t
          → Turns a b c p (pos 0 +ℤ (cond s (neg_ℤ (pos 1)) (pos 0) +ℤ cond t (pos 1) (pos 0)))
      go true true e f = never refl
      go false false e f = never refl
      go false true e f =
          let j = not-below (twice_area b c p) e in
          let k = above_yes (twice_area c a p) f in
          once refl (left (x_up j k (which x)) j (up_nn k))
      go true false e f =
          let j = below_yes (twice_area b c p) e in
          let k = not_above (twice_area c a p) f in
          absurd (not-all (x_down j k (which x)) (up_nn j) k)

-- whatever the ray
pub turns : (p q a b c : Flat) → Up (twice_area a b c) → Turns a b c p (round3 p q a b c)
turns p q a b c D = go (right p q a) (right p q b) (right p q c) refl refl refl
  where
    D1 : Up (twice_area b c a)
    D1 = up_is (spin a b c) D

    D2 : Up (twice_area c a b)
    D2 = up_is (spin b c a) D1

    none : (s : Bool) (t u v : ℤ) → counts s s t +ℤ (counts s s u +ℤ counts s s v) ≡ pos 0
    none true t u v = unfold counts in refl
    none false t u v = unfold counts in refl

    all : (s : Bool) → right p q a ≡ s → right p q b ≡ s → right p q c ≡ s → Turns a b c p (round3 p q a b c)
    all s ea eb ec = never (sym (parts p q a b c D s s s ea eb ec) ∙ none s (twice_area a b p) (twice_area b c p) (twice_area c a p))

    go : (u v w : Bool) → right p q a ≡ u → right p q b ≡ v → right p q c ≡ w → Turns a b c p (round3 p q a b c)
    go true true true ea eb ec = all true ea eb ec
    go false false false ea eb ec = all false ea eb ec
    go true true false ea eb ec = apex_left p q a b c D ea eb ec
    go false false true ea eb ec = apex_right p q a b c D ea eb ec
    go true false true ea eb ec = turns_next p q a b c (turns_next p q b c a (apex_left p q c a b D2 ec ea eb))
    go false true false ea eb ec = turns_next p q a b c (turns_next p q b c a (apex_right p q c a b D2 ec ea eb))
    go false true true ea eb ec = turns_next p q a b c (apex_left p q b c a D1 eb ec ea)
    go true false false ea eb ec = turns_next p q a b c (apex_right p q b c a D1 eb ec ea)

-- ---- a ray that counts a point within: across a side that the point is not in line with
module _ (p a b c : Flat) where
  across_bc : Up (twice_area b c p) → Nn (twice_area c a p) → Nn (twice_area a b p) → round3 p (shift b p c) a b c ≡ pos 1
  unfolding goes right counts
  across_bc y z x = go (right p (shift b p c) a)
    where
      at_b : twice_area p (shift b p c) b ≡ neg_ℤ (twice_area b c p)
      at_b =
          unfold twice_area shift in
          ring (env (pos 0) (p ∷ b ∷ c ∷ []))
          (((u_e 1 ⊕ (u_e 2 ⊖ u_e 0)) ⊖ u_e 0) ⊗ (v_e 1 ⊖ v_e 0) ⊖ ((v_e 1 ⊕ (v_e 2 ⊖ v_e 0)) ⊖ v_e 0) ⊗ (u_e 1 ⊖ u_e 0)) (neg (tE 1 2 0)) tt

      at_c : twice_area p (shift b p c) c ≡ twice_area b c p
      at_c =
          unfold twice_area shift in
          ring (env (pos 0) (p ∷ b ∷ c ∷ []))
          (((u_e 1 ⊕ (u_e 2 ⊖ u_e 0)) ⊖ u_e 0) ⊗ (v_e 2 ⊖ v_e 0) ⊖ ((v_e 1 ⊕ (v_e 2 ⊖ v_e 0)) ⊖ v_e 0) ⊗ (u_e 2 ⊖ u_e 0)) (tE 1 2 0) tt

      eb : right p (shift b p c) b ≡ true
      eb = unfold right in low-is (twice_area p (shift b p c) b) (nn_is (twice (twice_area b c p) ∙ ap neg_ℤ (sym at_b)) (up_nn y))

      ec : right p (shift b p c) c ≡ false
      ec = unfold right in low_no (twice_area p (shift b p c) c) (up_is (sym at_c) y)

      go : (u : Bool) → counts u (right p (shift b p c) b) (twice_area a b p)
          +ℤ (counts (right p (shift b p c) b) (right p (shift b p c) c) (twice_area b c p) +ℤ counts (right p (shift b p c) c) u (twice_area c a p))
          ≡ pos 1
      go true =
          unfold counts in
          (λ i. counts true (eb i) (twice_area a b p) +ℤ (counts (eb i) (ec i) (twice_area b c p) +ℤ counts (ec i) true (twice_area c a p)))
          ∙ (λ i. pos 0 +ℤ (cond (above_is (twice_area b c p) y i) (pos 1) (pos 0) +ℤ cond (below_no (twice_area c a p) z i) (neg_ℤ (pos 1)) (pos 0)))
      go false =
          unfold counts in
          (λ i. counts false (eb i) (twice_area a b p) +ℤ (counts (eb i) (ec i) (twice_area b c p) +ℤ counts (ec i) false (twice_area c a p)))
          ∙ (λ i. cond (below_no (twice_area a b p) x i) (neg_ℤ (pos 1)) (pos 0) +ℤ (cond (above_is (twice_area b c p) y i) (pos 1) (pos 0) +ℤ pos 0))

pub some_ray : (p a b c : Flat) → Up (twice_area a b c) → InTriangle a b c p → (q : Flat) × (round3 p q a b c ≡ pos 1)
some_ray p a b c D (Rattle.means_inside.specs.Regions.right x y z) = absurd (not-all p p a b c D x y z)
some_ray p a b c D (left x y z) = go (which (twice_area a b p)) (which (twice_area b c p)) (which (twice_area c a p))
  where
    go : Up (twice_area a b p) ⊎ Nn (neg_ℤ (twice_area a b p)) → Up (twice_area b c p) ⊎ Nn (neg_ℤ (twice_area b c p))
        → Up (twice_area c a p) ⊎ Nn (neg_ℤ (twice_area c a p)) → (q : Flat) × (round3 p q a b c ≡ pos 1)
    go u (inl v) w = (shift b p c, across_bc p a b c v z x)
    go u (inr v) (inl w) = (shift c p a, next3 p (shift c p a) a b c ∙ across_bc p b c a w x y)
    go (inl u) (inr v) (inr w) =
        (shift a p b, next3 p (shift a p b) a b c ∙ next3 p (shift a p b) b c a ∙ across_bc p c a b u y z)
    go (inr u) (inr v) (inr w) = absurd (not-all p p a b c D u v w)
