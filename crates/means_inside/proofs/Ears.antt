-- A corner with its neighbours and a point: on the chord, or odd in the triangle, is in it.
use mathlib.Core.Path.{◌≡◌, refl, sym, ◌∙◌, ap, subst}
use mathlib.Core.Bool.{Bool, true, false, xor}
use mathlib.Core.Logic.{◌⊎◌, inl, inr}
use mathlib.Core.List.{List, [], ◌∷◌}
use lib.IntN.{ℤ, pos, neg_ℤ, ◌+ℤ◌, ◌-ℤ◌}
use Rattle.lists.proofs.Truth.{xor_assoc}
use Rattle.exact.proofs.Ring.{var, con, ◌⊕◌, ◌⊖◌, ◌⊗◌, ring}
use Rattle.paper.specs.declared.Flat.{Flat}
use Rattle.means_area.specs.Rings.{Of, Link, TheTwo}
use Rattle.means_area.specs.Flats.{Up, Nn, twice_area, height, Least, lst}
use Rattle.means_area.proofs.Flats.Signs.{up_is, nn_is, zero_off, ways, which, up_diff}
use Rattle.means_area.proofs.Flats.Turns.{env, u_e, v_e, h_e, spin, flip, flat-first}
use Rattle.means_area.proofs.Flats.Choice.{Hit, by_sense}
use Rattle.means_inside.specs.Beams.{round, beam, facing, Off, OffEverySide, odd, east, Seen}
use Rattle.means_inside.proofs.Parity.{xor_comm, xor_self}
use Rattle.means_inside.proofs.Triangle.{f_e, facing-end, odd-far, odd_a, odd_b, inn, onto, out}
use Rattle.means_inside.proofs.Cap.{fan_in, fan_in'}
use Rattle.means_inside.proofs.Segment.{beam_back}
use Rattle.means_inside.proofs.Look.{Between}

pub facing_back : (p a b : Flat) → facing p a b ≡ facing p b a
unfolding facing
facing_back p a b = ring (env (pos 0) (p ∷ a ∷ b ∷ [])) (f_e 0 1 2) (f_e 0 2 1) tt

pub off_back : (p a b : Flat) → Off p a b → Off p b a
off_back p a b o e = up_is (facing_back p a b) (o (flip a b p ∙ ap neg_ℤ e))

-- on it, or not
pub off_or : (p a b : Flat) → Off p a b ⊎ ((twice_area a b p ≡ pos 0) × Nn (neg_ℤ (facing p a b)))
off_or p a b = go (ways (twice_area a b p)) (which (facing p a b))
  where
    go : Up (twice_area a b p) ⊎ ((twice_area a b p ≡ pos 0) ⊎ Up (neg_ℤ (twice_area a b p))) → Up (facing p a b) ⊎ Nn (neg_ℤ (facing p a b))
        → Off p a b ⊎ ((twice_area a b p ≡ pos 0) × Nn (neg_ℤ (facing p a b)))
    go (inl k) y = inl (λ e. absurd (zero_off e k))
    go (inr (inl e)) (inl f) = inl (λ z. f)
    go (inr (inl e)) (inr f) = inr (e, f)
    go (inr (inr k)) y = inl (λ e. absurd (zero_off (ap neg_ℤ e) k))

-- not one of its ends
pub off_end : (p a b : Flat) → Off p a b → p ≡ a → ⊥
off_end p a b o e = zero_off (ap (λ (z : Flat). facing z a b) e ∙ facing-end a b) (o (ap (twice_area a b) e ∙ flat-first a b))

pub bool : (b : Bool) → (b ≡ true) ⊎ (b ≡ false)
bool true = inl refl
bool false = inr refl

module _ (v x y p : Flat) (ox : Off p v x) (oy : Off p v y) (n : twice_area v x y ≡ pos 0 → ⊥) where
  pub chord_hit : twice_area x y p ≡ pos 0 → Nn (neg_ℤ (facing p x y)) → Hit v x y p
  chord_hit e f =
      by_sense v x y n (λ D. inl (onto v x y p D ox oy e f))
      (λ D. inr (onto v y x p D oy ox (flip y x p ∙ ap neg_ℤ e) (nn_is (ap neg_ℤ (facing_back p x y)) f)))

  pub clear3 : (a b : Flat) → Off p v a → Off p v b → Off p a b → OffEverySide p (v ∷ a ∷ b ∷ [])
  clear3 a b oa ob oc q r l = go l
    where
      pair : (c d : Flat) → Off p c d → TheTwo c d q r → Off p q r
      pair c d o (inl e) = subst (λ (z : Flat). Off p z r) (sym e.0) (subst (λ (z : Flat). Off p c z) (sym e.1) o)
      pair c d o (inr e) = subst (λ (z : Flat). Off p z r) (sym e.0) (subst (λ (z : Flat). Off p d z) (sym e.1) (off_back p c d o))

      go : Link (v ∷ a ∷ b ∷ []) q r → Off p q r
      go (inl k) = pair v a oa k
      go (inr (inl k)) = pair a b oc k
      go (inr (inr k)) = pair b v (off_back p v b ob) k

  -- the other way round
  pub flip3 : (f : Flat → Flat → Bool) → ((a b : Flat) → f a b ≡ f b a) → round f (v ∷ x ∷ y ∷ []) ≡ round f (v ∷ y ∷ x ∷ [])
  flip3 f s =
      (λ i. xor (s v x i) (xor (s x y i) (s y v i)))
      ∙ ap (xor (f x v)) (xor_comm (f y x) (f v y)) ∙ xor_comm (f x v) (xor (f v y) (f y x)) ∙ xor_assoc (f v y) (f y x) (f x v)

  pub odd_hit : Off p x y → odd p (v ∷ x ∷ y ∷ []) ≡ true → Hit v x y p
  odd_hit oc o =
      by_sense v x y n
      (λ D.
      let c = clear3 x y ox oy oc in
      inl (inn v x y p D ox oy (odd-far v x y p D c o) (odd_a v x y p D c o) (odd_b v x y p D c o)))
      (λ D.
      let c = clear3 y x oy ox (off_back p x y oc) in
      let o' = sym (flip3 (beam p (east p)) (beam_back p (east p))) ∙ o in
      inr (inn v y x p D oy ox (odd-far v y x p D c o') (odd_a v y x p D c o') (odd_b v y x p D c o')))

-- two corners only
pub odd_two : (p x y : Flat) → odd p (x ∷ y ∷ []) ≡ false
odd_two p x y = ap (λ (b : Bool). xor b (beam p (east p) y x)) (beam_back p (east p) x y) ∙ xor_self (beam p (east p) y x)

module _ (m : ℤ) where
  -- in the angle, and seen
  pub between-odd : (v x : Flat) (l : List Flat) → Least m v (x ∷ l) → (p : Flat) → OffEverySide p (v ∷ x ∷ l) → Seen m v p (v ∷ x ∷ l)
      → Between v x (lst x l) p → odd p (v ∷ x ∷ l) ≡ true
  between-odd v x l low p c s (inl t) = fan_in m v x l low p c s t.0 (up_is (sym (spin (lst x l) v p)) t.1)
  between-odd v x l low p c s (inr t) = fan_in' m v x l low p c s (up_is (sym (spin x v p)) t.1) t.0

  -- lower than all
  under : Flat → Flat
  under v = record { u = v.u +ℤ pos 1; v = v.v -ℤ m }

  under_is : (v z : Flat) → twice_area v (under v) z ≡ height m z -ℤ height m v
  unfolding twice_area height under
  under_is v z =
      ring (env m (v ∷ z ∷ [])) (((u_e 0 ⊕ con (pos 1)) ⊖ u_e 0) ⊗ (v_e 1 ⊖ v_e 0) ⊖ ((v_e 0 ⊖ var 0) ⊖ v_e 0) ⊗ (u_e 1 ⊖ u_e 0)) (h_e 1 ⊖ h_e 0) tt

  pub low_even : (v x : Flat) (l : List Flat) → Least m v (x ∷ l) → OffEverySide v (x ∷ l) → odd v (x ∷ l) ≡ false
  low_even v x l low c = out v (under v) x (x ∷ l) c (all x (inl refl)) all
    where
      all : (z : Flat) → Of z (x ∷ l) → Up (twice_area v (under v) z)
      all z o = up_is (sym (under_is v z)) (up_diff (low z o))
