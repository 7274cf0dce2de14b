-- A point that is odd in a triangle, or on a side of it, is within; one that is so in a ring is so in one of its parts.
use mathlib.Core.Path.{◌≡◌, refl, sym, ◌∙◌, ap}
use mathlib.Core.Bool.{Bool, true, false, xor}
use mathlib.Core.Logic.{◌⊎◌, inl, inr}
use mathlib.Core.List.{List, [], ◌∷◌, ◌++◌}
use native.Mathlib.Omega.{arith}
use lib.IntN.{ℤ, pos, neg_ℤ, ◌+ℤ◌}
use Rattle.exact.proofs.Order.{add_nonneg}
use Rattle.paper.specs.declared.Flat.{Flat}
use Rattle.means_area.specs.Rings.{TheTwo, Chain, Link}
use Rattle.means_area.specs.Flats.{Nn, twice_area, Simple, lst}
use Rattle.means_area.proofs.Flats.Signs.{nn_is, off}
use Rattle.means_area.proofs.Flats.Turns.{spin, flip, flip_last, sum_is, sum-neg}
use Rattle.means_area.proofs.Flats.Choice.{Hit, by_sense}
use Rattle.means_area.proofs.Flats.Rings.{part_back, area-ear}
use Rattle.means_area.proofs.Flats.{area_not_zero}
use Rattle.means_area.proofs.Flats.Chains.{chain_split, chain_left, chain_end}
use Rattle.means_inside.specs.Beams.{beam, facing, Off, odd, east}
use Rattle.means_inside.specs.Regions.{InTriangle, left, right}
use Rattle.means_inside.specs.Touch.{Touch}
use Rattle.means_inside.proofs.Parity.{round_turned, round-cut, round-ear}
use Rattle.means_inside.proofs.Triangle.{inn, base_a, base_b, odd-far, odd_a, odd_b}
use Rattle.means_inside.proofs.Segment.{beam_back}
use Rattle.means_inside.proofs.Ears.{facing_back, off_back, off_or, clear3, flip3}
use Rattle.means_inside.proofs.Form.{turn_link}

-- within a triangle, and on neither side at v
pub within_hit : (v x y p : Flat) → (twice_area v x y ≡ pos 0 → ⊥) → Off p v x → Off p v y → InTriangle v x y p → Hit v x y p
within_hit v x y p n ox oy (left a b c) =
    by_sense v x y n (λ D. inl (inn v x y p D ox oy b c a))
    (λ D. absurd (off D (nn_is (sum_is v x y p ∙ flip_last v x y) (add_nonneg (add_nonneg b c) a))))
within_hit v x y p n ox oy (right a b c) =
    by_sense v x y n (λ D. absurd (off D (nn_is (sum-neg v x y p) (add_nonneg (add_nonneg (nn_is (sym (flip y x p)) b) c) a))))
    (λ D. inr (inn v y x p D oy ox (nn_is (sym (flip y x p)) b) (nn_is (sym (flip x v p)) a) (nn_is (sym (flip v y p)) c)))

-- a simple triangle is no line
pub three-turn : (m : ℤ) (a b c : Flat) → Simple m (a ∷ b ∷ c ∷ []) → twice_area a b c ≡ pos 0 → ⊥
three-turn m a b c s e =
    area_not_zero m (a ∷ b ∷ c ∷ []) (omega arith) s (area-ear a b (c ∷ []) ∙ (λ i. e i +ℤ part_back b c i))

-- on the side from a to b of a triangle, in either sense
on_side : (v a b p : Flat) → (twice_area v a b ≡ pos 0 → ⊥) → twice_area a b p ≡ pos 0 → Nn (neg_ℤ (facing p a b)) → InTriangle v a b p
on_side v a b p n e f =
    by_sense v a b n (λ D. left (base_b v a b p D e f) (nn_is (sym e) (record { le = tt })) (base_a v a b p D e f))
    (λ D.
    let e' = flip b a p ∙ ap neg_ℤ e in
    let f' = nn_is (ap neg_ℤ (facing_back p a b)) f in
    right (nn_is (flip a v p) (base_a v b a p D e' f')) (nn_is (ap neg_ℤ (sym e)) (record { le = tt }))
    (nn_is (flip v b p) (base_b v b a p D e' f')))

-- the next corner first
pub turn_within : (a b c p : Flat) → InTriangle b c a p → InTriangle a b c p
turn_within a b c p (left x y z) = left z x y
turn_within a b c p (right x y z) = right z x y

module _ (a b c p : Flat) (n : twice_area a b c ≡ pos 0 → ⊥) where
  bc : twice_area b c p ≡ pos 0 → Nn (neg_ℤ (facing p b c)) → InTriangle a b c p
  bc = on_side a b c p n

  ca : twice_area c a p ≡ pos 0 → Nn (neg_ℤ (facing p c a)) → InTriangle a b c p
  ca e f = turn_within a b c p (on_side b c a p (λ q. n (spin a b c ∙ q)) e f)

  ab : twice_area a b p ≡ pos 0 → Nn (neg_ℤ (facing p a b)) → InTriangle a b c p
  ab e f = turn_within a b c p (turn_within b c a p (on_side c a b p (λ q. n (spin a b c ∙ spin b c a ∙ q)) e f))

  -- odd in the triangle
  pub odd_within : odd p (a ∷ b ∷ c ∷ []) ≡ true → InTriangle a b c p
  odd_within o = go (off_or p a b) (off_or p b c) (off_or p c a)
    where
      clear : Off p a b → Off p b c → Off p c a → InTriangle a b c p
      clear x y z =
          by_sense a b c n
          (λ D.
          let k = clear3 a b c p x (off_back p c a z) n b c x (off_back p c a z) y in
          left (odd_b a b c p D k o) (odd-far a b c p D k o) (odd_a a b c p D k o))
          (λ D.
          let k = clear3 a b c p x (off_back p c a z) n c b (off_back p c a z) x (off_back p b c y) in
          let o' = sym (flip3 a b c p x (off_back p c a z) n (beam p (east p)) (beam_back p (east p))) ∙ o in
          right (nn_is (flip b a p) (odd_a a c b p D k o')) (nn_is (flip c b p) (odd-far a c b p D k o'))
          (nn_is (flip a c p) (odd_b a c b p D k o')))

      go : Off p a b ⊎ ((twice_area a b p ≡ pos 0) × Nn (neg_ℤ (facing p a b))) → Off p b c ⊎ ((twice_area b c p ≡ pos 0) × Nn (neg_ℤ (facing p b c)))
          → Off p c a ⊎ ((twice_area c a p ≡ pos 0) × Nn (neg_ℤ (facing p c a))) → InTriangle a b c p
      go (inr k) y z = ab k.0 k.1
      go (inl x) (inr k) z = bc k.0 k.1
      go (inl x) (inl y) (inr k) = ca k.0 k.1
      go (inl x) (inl y) (inl z) = clear x y z

  pub touch_within : Touch p (a ∷ b ∷ c ∷ []) → InTriangle a b c p
  touch_within t = go t.side
    where
      pair : (d e : Flat) → (twice_area d e p ≡ pos 0 → Nn (neg_ℤ (facing p d e)) → InTriangle a b c p) → TheTwo d e t.a t.b
          → InTriangle a b c p
      pair d e f (inl q) =
          f ((λ i. twice_area (sym q.0 i) (sym q.1 i) p) ∙ t.line) (nn_is (λ i. neg_ℤ (facing p (q.0 i) (q.1 i))) t.mid)
      pair d e f (inr q) =
          f (flip d e p ∙ ap neg_ℤ ((λ i. twice_area (sym q.0 i) (sym q.1 i) p) ∙ t.line))
          (nn_is (ap neg_ℤ (facing_back p e d)) (nn_is (λ i. neg_ℤ (facing p (q.0 i) (q.1 i))) t.mid))

      go : Link (a ∷ b ∷ c ∷ []) t.a t.b → InTriangle a b c p
      go (inl k) = pair a b ab k
      go (inr (inl k)) = pair b c bc k
      go (inr (inr k)) = pair c a ca k

-- one of two
pub one_of : (a b : Bool) → xor a b ≡ true → (a ≡ true) ⊎ (b ≡ true)
unfolding xor
one_of true b e = inl refl
one_of false true e = inr refl
one_of false false e = inl e

module _ (m : ℤ) (p : Flat) where
  abbrev f : Flat → Flat → Bool
  f = beam p (east p)

  abbrev pub Here : List Flat → Type 0
  Here g = (odd p g ≡ true) ⊎ Touch p g

  at_side : (g k : List Flat) (t : Touch p g) → Link k t.a t.b → Here k
  at_side g k t j = inr (record { a = t.a; b = t.b; side = j; line = t.line; mid = t.mid })

  pub chord_here : (u : Flat) (l : List Flat) (w : Flat) (r : List Flat) → Here (u ∷ (l ++ w ∷ r))
      → Here (u ∷ (l ++ w ∷ [])) ⊎ Here (u ∷ w ∷ r)
  chord_here u l w r (inl o) =
      go (one_of (odd p (u ∷ (l ++ w ∷ []))) (odd p (u ∷ w ∷ r)) (sym (round-cut f u l w r (beam_back p (east p) w u)) ∙ o))
    where
      go : (odd p (u ∷ (l ++ w ∷ [])) ≡ true) ⊎ (odd p (u ∷ w ∷ r) ≡ true) → Here (u ∷ (l ++ w ∷ [])) ⊎ Here (u ∷ w ∷ r)
      go (inl k) = inl (inl k)
      go (inr k) = inr (inl k)
  chord_here u l w r (inr k) = go (chain_split u l w r u k.a k.b k.side)
    where
      go : Chain u l w k.a k.b ⊎ Chain w r u k.a k.b → Here (u ∷ (l ++ w ∷ [])) ⊎ Here (u ∷ w ∷ r)
      go (inl c) = inl (at_side (u ∷ (l ++ w ∷ r)) (u ∷ (l ++ w ∷ [])) k (chain_left u l w [] u k.a k.b c))
      go (inr c) = inr (at_side (u ∷ (l ++ w ∷ r)) (u ∷ w ∷ r) k (inr c))

  pub ear_here : (u c : Flat) (l : List Flat) → Here (u ∷ c ∷ l) → Here (u ∷ c ∷ lst c l ∷ []) ⊎ Here (c ∷ l)
  ear_here u c l (inl o) =
      go (one_of (odd p (u ∷ c ∷ lst c l ∷ [])) (odd p (c ∷ l)) (sym (round-ear f u c l (beam_back p (east p) (lst c l) c)) ∙ o))
    where
      go : (odd p (u ∷ c ∷ lst c l ∷ []) ≡ true) ⊎ (odd p (c ∷ l) ≡ true) → Here (u ∷ c ∷ lst c l ∷ []) ⊎ Here (c ∷ l)
      go (inl k) = inl (inl k)
      go (inr k) = inr (inl k)
  ear_here u c l (inr k) = go k.side
    where
      at : Chain c l c k.a k.b ⊎ TheTwo (lst c l) u k.a k.b → Here (u ∷ c ∷ lst c l ∷ []) ⊎ Here (c ∷ l)
      at (inl j) = inr (at_side (u ∷ c ∷ l) (c ∷ l) k j)
      at (inr j) = inl (at_side (u ∷ c ∷ l) (u ∷ c ∷ lst c l ∷ []) k (inr (inr j)))

      go : Link (u ∷ c ∷ l) k.a k.b → Here (u ∷ c ∷ lst c l ∷ []) ⊎ Here (c ∷ l)
      go (inl j) = inl (at_side (u ∷ c ∷ l) (u ∷ c ∷ lst c l ∷ []) k (inl j))
      go (inr j) = at (chain_end c l u c k.a k.b j)

  pub start_here : (x : Flat) (l : List Flat) (y : Flat) (r : List Flat) → Here (x ∷ (l ++ y ∷ r)) → Here (y ∷ (r ++ x ∷ l))
  start_here x l y r (inl o) = inl (sym (round_turned f x l y r) ∙ o)
  start_here x l y r (inr k) = at_side (x ∷ (l ++ y ∷ r)) (y ∷ (r ++ x ∷ l)) k (turn_link m x l y r k.a k.b k.side)

  pub tri_here : (a b c : Flat) → Simple m (a ∷ b ∷ c ∷ []) → Here (a ∷ b ∷ c ∷ []) → InTriangle a b c p
  tri_here a b c s (inl o) = odd_within a b c p (three-turn m a b c s) o
  tri_here a b c s (inr k) = touch_within a b c p (three-turn m a b c s) k

  pub sums : {A B C D : Type 0} → (A → C) → (B → D) → A ⊎ B → C ⊎ D
  sums f g (inl a) = inl (f a)
  sums f g (inr b) = inr (g b)
