-- A ray asked in a mirror: the sides beyond p on its line are as many as those before p, up to an even number.
-- Numbers that are one up to factors above 0 answer the ray's tests alike; a line meets an even number of sides.
use mathlib.Core.Path.{◌≡◌, refl, sym, ◌∙◌, ap}
use mathlib.Core.Bool.{Bool, true, false, xor, true≢false}
use mathlib.Core.Logic.{◌⊎◌, inl, inr}
use mathlib.Core.List.{List, [], ◌∷◌}
use lib.IntN.{ℤ, pos, neg_ℤ, ◌+ℤ◌, ◌*ℤ◌, *ℤ_comm}
use lib.Signed.{le_z}
use Rattle.exact.proofs.Ring.{var, con, ◌⊕◌, ◌⊗◌, neg, ring}
use Rattle.exact.proofs.Order.{ring_with, mul-pos}
use Rattle.paper.specs.Points.{above, below}
use Rattle.paper.specs.Polygon.{meets_ray}
use Rattle.paper.specs.declared.Flat.{Flat}
use Rattle.means_area.specs.Flats.{Up, Nn, twice_area}
use Rattle.means_area.proofs.Flats.Signs.{up_is, nn_is, up_nn, off, which, ways, up_out, twice}
use Rattle.means_area.proofs.Flats.Turns.{flip, flat-second}
use Rattle.means_inside.specs.Beams.{round, right, beam, facing, OffEverySide}
use Rattle.means_inside.specs.Convex.{Hand, lefts, rights, handed}
use Rattle.means_inside.proofs.Parity.{potential}
use Rattle.means_inside.proofs.Beams.{above_is, above_no, below_is, below_no, low-is, low_no, same_side}
use Rattle.means_inside.proofs.Triangle.{self_up, shift, shift_is, shift_up}
use Rattle.means_inside.proofs.Scale.{ray_scale}

-- ---- two numbers that are one up to factors above 0
module _ (k l : ℤ) (K : Up k) (L : Up l) where
  pub ray_over : (p : Flat) (a b : Bool) (s t : ℤ) → s *ℤ k ≡ t *ℤ l → meets_ray a b s ≡ meets_ray a b t
  ray_over p a b s t e =
      sym (ray_scale p k K a b s) ∙ ap (meets_ray a b) (*ℤ_comm k s ∙ e ∙ *ℤ_comm t l) ∙ ray_scale p l L a b t

  up_over : (s t : ℤ) → s *ℤ k ≡ t *ℤ l → Up s → Up t
  up_over s t e u = up_out l L (up_is (e ∙ *ℤ_comm t l) (mul-pos u K))

pub low_over : (k l : ℤ) → Up k → Up l → (s t : ℤ) → s *ℤ k ≡ t *ℤ l → le_z s (pos 0) ≡ le_z t (pos 0)
low_over k l K L s t e = go (which s) (which t)
  where
    go : Up s ⊎ Nn (neg_ℤ s) → Up t ⊎ Nn (neg_ℤ t) → le_z s (pos 0) ≡ le_z t (pos 0)
    go (inl a) (inl b) = low_no s a ∙ sym (low_no t b)
    go (inl a) (inr b) = absurd (off (up_over k l K L s t e a) b)
    go (inr a) (inl b) = absurd (off (up_over l k L K t s (sym e) b) a)
    go (inr a) (inr b) = low-is s a ∙ sym (low-is t b)

-- by signs of the two factors
pub record Scaled (M N : ℤ) : Type 0 where
  pub hand : Hand
  pub k : ℤ
  pub l : ℤ
  pub upk : Up k
  pub upl : Up l
  pub is : (s t : ℤ) → s *ℤ N ≡ t *ℤ M → s *ℤ k ≡ handed hand t *ℤ l

pub scaled : (M N : ℤ) → (M ≡ pos 0 → ⊥) → (N ≡ pos 0 → ⊥) → Scaled M N
scaled M N m n = go (ways M) (ways N)
  where
    go : Up M ⊎ ((M ≡ pos 0) ⊎ Up (neg_ℤ M)) → Up N ⊎ ((N ≡ pos 0) ⊎ Up (neg_ℤ N)) → Scaled M N
    go (inr (inl e)) y = absurd (m e)
    go (inl a) (inr (inl e)) = absurd (n e)
    go (inr (inr a)) (inr (inl e)) = absurd (n e)
    go (inl a) (inl b) = record { hand = lefts; k = N; l = M; upk = b; upl = a; is = (λ s t e. e) }
    go (inr (inr a)) (inr (inr b)) = record {
      hand = lefts;
      k = neg_ℤ N;
      l = neg_ℤ M;
      upk = b;
      upl = a;
      is = (λ s t e. ring_with (s ∷ t ∷ M ∷ N ∷ []) (var 0 ⊗ neg (var 3)) (var 1 ⊗ neg (var 2)) (con (neg_ℤ (pos 1))) (var 0 ⊗ var 3)
          (var 1 ⊗ var 2) tt e);
    }
    go (inl a) (inr (inr b)) = record {
      hand = rights;
      k = neg_ℤ N;
      l = M;
      upk = b;
      upl = a;
      is = (λ s t e. ring_with (s ∷ t ∷ M ∷ N ∷ []) (var 0 ⊗ neg (var 3)) (neg (var 1) ⊗ var 2) (con (neg_ℤ (pos 1))) (var 0 ⊗ var 3)
          (var 1 ⊗ var 2) tt e);
    }
    go (inr (inr a)) (inl b) = record {
      hand = rights;
      k = N;
      l = neg_ℤ M;
      upk = b;
      upl = a;
      is = (λ s t e. ring_with (s ∷ t ∷ M ∷ N ∷ []) (var 0 ⊗ var 3) (neg (var 1) ⊗ neg (var 2)) (con (pos 1)) (var 0 ⊗ var 3)
          (var 1 ⊗ var 2) tt e);
    }

-- ---- mirrored
-- the ray from p through q, or the other way; the sides on its line before p, or beyond
pub ray : Hand → Flat → Flat → Flat
ray lefts p q = q
ray rights p q = shift p q p

pub ray_is : (h : Hand) (p q z : Flat) → twice_area p (ray h p q) z ≡ handed h (twice_area p q z)
unfolding ray
ray_is lefts p q z = refl
ray_is rights p q z =
    shift_is p q p z ∙ (λ i. flip q p z i +ℤ neg_ℤ (flat-second q p i))
    ∙ ring (twice_area p q z ∷ []) (neg (var 0) ⊕ neg (con (pos 0))) (neg (var 0)) tt

pub ray_up : (h : Hand) (p q : Flat) → (q ≡ p → ⊥) → Up (facing p (ray h p q) (ray h p q))
unfolding ray
ray_up lefts p q n = self_up p q n
ray_up rights p q n = shift_up p q p (λ e. n (sym e))

abbrev pub mirrored : Hand → Flat → Flat → Flat → Flat → Bool
mirrored h p q a b = meets_ray (right p q a) (right p q b) (handed h (twice_area a b p))

both_ways : (x y : Bool) (t : ℤ) → (t ≡ pos 0 → x ≡ y) → xor (meets_ray x y (neg_ℤ t)) (meets_ray x y t) ≡ xor x y
unfolding xor meets_ray
both_ways true true t e = refl
both_ways false false t e = refl
both_ways true false t e = go (ways t)
  where
    go : Up t ⊎ ((t ≡ pos 0) ⊎ Up (neg_ℤ t)) → xor (above (neg_ℤ t)) (above t) ≡ true
    go (inl u) = unfold xor in λ i. xor (above_no (neg_ℤ t) (nn_is (twice t) (up_nn u)) i) (above_is t u i)
    go (inr (inl z)) = absurd (true≢false (e z))
    go (inr (inr u)) = unfold xor in λ i. xor (above_is (neg_ℤ t) u i) (above_no t (up_nn u) i)
both_ways false true t e = go (ways t)
  where
    go : Up t ⊎ ((t ≡ pos 0) ⊎ Up (neg_ℤ t)) → xor (below (neg_ℤ t)) (below t) ≡ true
    go (inl u) = unfold xor in λ i. xor (below_is (neg_ℤ t) (up_is (twice t) u) i) (below_no t (up_nn u) i)
    go (inr (inl z)) = absurd (true≢false (sym (e z)))
    go (inr (inr u)) = unfold xor in λ i. xor (below_no (neg_ℤ t) (up_nn u) i) (below_is t u i)

pub mirror : (h : Hand) (p q : Flat) (g : List Flat) → OffEverySide p g → round (mirrored h p q) g ≡ round (beam p q) g
unfolding beam
mirror lefts p q g c = refl
mirror rights p q g c =
    potential (mirrored rights p q) (beam p q) (right p q) g
    (λ a b l. both_ways (right p q a) (right p q b) (twice_area a b p) (λ z. same_side p q a b z (c a b l z)))
