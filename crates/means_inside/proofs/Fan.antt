-- The ray from p through a corner v that is lower than all others: where nothing crosses the segment from v to p, it meets a side only at
-- v.
use mathlib.Core.Path.{◌≡◌, refl, sym, ◌∙◌, ap}
use mathlib.Core.Bool.{Bool, true, false, not, xor}
use mathlib.Core.Logic.{◌⊎◌, inl, inr}
use mathlib.Core.List.{List, [], ◌∷◌}
use lib.IntN.{ℤ, pos, neg_ℤ, ◌+ℤ◌, ◌-ℤ◌, ◌*ℤ◌}
use lib.Signed.{le_z, ◌<ℤ◌}
use Rattle.lists.proofs.Truth.{never_true, xor_not}
use Rattle.exact.proofs.Ring.{var, con, ◌⊕◌, ◌⊖◌, ◌⊗◌, neg, ring}
use Rattle.exact.proofs.Order.{ring_with, mul-pos, mul_nonneg, sub_pos}
use Rattle.paper.specs.Points.{above, below}
use Rattle.paper.specs.Polygon.{meets_ray}
use Rattle.paper.specs.declared.Flat.{Flat}
use Rattle.means_area.specs.Rings.{Of, Chain, Link}
use Rattle.means_area.specs.Flats.{Up, Nn, twice_area, Cross, height, WithinSegment, Least, lst}
use Rattle.means_area.proofs.Flats.Signs.{up_is, nn_is, up_nn, up_add, off, zero_off, ways, up_out, diff_up}
use Rattle.means_area.proofs.Flats.Turns.{env, tE, h_e, spin, flip, flat-second}
use Rattle.means_area.proofs.Flats.Chains.{chain_back, link_back, link_of}
use Rattle.means_inside.specs.Beams.{round, right, beam, Seen}
use Rattle.means_inside.proofs.Parity.{quiet, silent}
use Rattle.means_inside.proofs.Beams.{above_is, above_yes, below_is, below_yes, yes_low, no_low}
use Rattle.means_inside.specs.Theorems.{FanDecides}

module _ (m : ℤ) (v p : Flat) (hp : height m v <ℤ height m p) (L : Flat → Flat → Type 0) (back : (x y : Flat) → L x y → L y x)
    (high : (x y : Flat) → L x y → height m v <ℤ height m x)
    (uncut : (x y : Flat) → L x y → Cross v p x y → ⊥) (bare : (x y : Flat) → L x y → WithinSegment m v p x → ⊥) where
  abbrev h : Flat → ℤ
  h = height m

  -- the place where a side comes into the ray's line
  place : (x y : Flat) → (h p -ℤ h v) *ℤ twice_area y x v ≡ twice_area p v y *ℤ (h x -ℤ h v) +ℤ twice_area v p x *ℤ (h y -ℤ h v)
  unfolding twice_area height
  place x y = ring (env m (v ∷ p ∷ x ∷ y ∷ [])) ((h_e 1 ⊖ h_e 0) ⊗ tE 3 2 0) (tE 1 0 3 ⊗ (h_e 2 ⊖ h_e 0) ⊕ tE 0 1 2 ⊗ (h_e 3 ⊖ h_e 0)) tt

  before : (x y : Flat) → twice_area v p x ≡ pos 0 → twice_area p v y *ℤ (h p -ℤ h x) ≡ twice_area x y p *ℤ (h p -ℤ h v)
  unfolding twice_area height
  before x y e =
      ring_with (env m (v ∷ p ∷ x ∷ y ∷ [])) (tE 1 0 3 ⊗ (h_e 1 ⊖ h_e 2)) (tE 2 3 1 ⊗ (h_e 1 ⊖ h_e 0)) (h_e 3 ⊖ h_e 1) (tE 0 1 2) (con (pos 0))
      tt e

  into : (x y : Flat) → L x y → Nn (twice_area v p x) → Up (twice_area p v y) → Up (twice_area x y p) → ⊥
  into x y l a b t = go (ways (twice_area v p x))
    where
      behind : Up (twice_area y x v)
      behind =
          up_out (h p -ℤ h v) (sub_pos hp)
          (up_is (sym (place x y)) (up_add (mul-pos b (sub_pos (high x y l))) (mul_nonneg a (up_nn (sub_pos (high y x (back x y l)))))))

      go : Up (twice_area v p x) ⊎ ((twice_area v p x ≡ pos 0) ⊎ Up (neg_ℤ (twice_area v p x))) → ⊥
      go (inl k) = uncut x y l (record { left = k; right = b; ahead = t; behind = behind })
      go (inr (inl e)) =
          bare x y l
          (record {
            line = e;
            after = high x y l;
            before = diff_up (h x) (h p) (up_out (twice_area p v y) b (up_is (sym (before x y e)) (mul-pos t (sub_pos hp))));
          })
      go (inr (inr k)) = off k (nn_is (ring (twice_area v p x ∷ []) (var 0) (neg (neg (var 0))) tt) a)

  pub none : (x y : Flat) → L x y → beam p v x y ≡ false
  unfolding beam right meets_ray
  none x y l = go (le_z (twice_area p v x) (pos 0)) (le_z (twice_area p v y) (pos 0)) refl refl
    where
      right_nn : (z : Flat) → le_z (twice_area p v z) (pos 0) ≡ true → Nn (twice_area v p z)
      right_nn z e = nn_is (sym (flip v p z)) (yes_low (twice_area p v z) e)

      go : (a b : Bool) → le_z (twice_area p v x) (pos 0) ≡ a → le_z (twice_area p v y) (pos 0) ≡ b → meets_ray a b (twice_area x y p) ≡ false
      go true true e f = refl
      go false false e f = refl
      go true false e f =
          never_true (above (twice_area x y p)) (λ q. into x y l (right_nn x e) (no_low (twice_area p v y) f) (above_yes (twice_area x y p) q))
      go false true e f =
          never_true (below (twice_area x y p))
          (λ q. into y x (back x y l) (right_nn y f) (no_low (twice_area p v x) e) (up_is (sym (flip y x p)) (below_yes (twice_area x y p) q)))

-- the sides at v
pub first-beam : (p v x : Flat) → beam p v v x ≡ not (right p v x)
unfolding beam right meets_ray
first-beam p v x = go (le_z (twice_area p v v) (pos 0)) (le_z (twice_area p v x) (pos 0)) refl refl
  where
    go : (a b : Bool) → le_z (twice_area p v v) (pos 0) ≡ a → le_z (twice_area p v x) (pos 0) ≡ b → meets_ray a b (twice_area v x p) ≡ not b
    go true true e f = refl
    go true false e f = above_is (twice_area v x p) (up_is (spin p v x) (no_low (twice_area p v x) f))
    go false b e f = absurd (zero_off (flat-second p v) (no_low (twice_area p v v) e))

pub last_beam : (p v x : Flat) → beam p v x v ≡ not (right p v x)
unfolding beam right meets_ray
last_beam p v x = go (le_z (twice_area p v x) (pos 0)) (le_z (twice_area p v v) (pos 0)) refl refl
  where
    go : (a b : Bool) → le_z (twice_area p v x) (pos 0) ≡ a → le_z (twice_area p v v) (pos 0) ≡ b → meets_ray a b (twice_area x v p) ≡ not a
    go true true e f = refl
    go false true e f = below_is (twice_area x v p) (up_is (spin p v x ∙ flip v x p) (no_low (twice_area p v x) e))
    go a false e f = absurd (zero_off (flat-second p v) (no_low (twice_area p v v) f))

-- the ring at v: the two sides at v decide
pub fan : FanDecides
fan m p v x l low s =
    (λ i. xor (first-beam p v x i) (quiet (beam p v) x l v quiet_side i))
    ∙ ap (xor (not (right p v x))) (last_beam p v (lst x l))
    ∙ xor_not (right p v x) (right p v (lst x l))
  where
    quiet_side : (a b : Flat) → Of a (x ∷ l) → Of b (x ∷ l) → Chain x l v a b → beam p v a b ≡ false
    quiet_side a b oa ob c = none m v p s.up (λ a b. Of a (x ∷ l) × Of b (x ∷ l) × Chain x l v a b)
        (λ a b t. (t.1, t.0, chain_back x l v a b t.2)) (λ a b t. low a t.0) (λ a b t. s.uncut a b (inr t.2))
        (λ a b t. s.bare a (inr t.0)) a b (oa, ob, c)

-- a ring without v
pub apart-fan : (m : ℤ) (p v : Flat) (g : List Flat) → Least m v g → Seen m v p g → round (beam p v) g ≡ false
apart-fan m p v [] low s = refl
apart-fan m p v (x ∷ l) low s = silent (beam p v) x l x (λ a b c.
    none m v p s.up (Link (x ∷ l)) (λ a b t. link_back (x ∷ l) a b t) (λ a b t. low a (link_of (x ∷ l) a b t)) s.uncut
    (λ a b t. s.bare a (link_of (x ∷ l) a b t)) a b c)
