-- The lowest corner u of a ring with an empty triangle: a point of the triangle, or of what is left, is inside.
use mathlib.Core.Path.{◌≡◌, refl, sym, ◌∙◌, ap, subst}
use mathlib.Core.Bool.{Bool, true, false, xor, true≢false}
use mathlib.Core.Logic.{◌⊎◌, inl, inr}
use mathlib.Core.List.{List, [], ◌∷◌}
use Prim.Native.Nat.{◌≤◌}
use native.Mathlib.Omega.{arith}
use lib.ListN.{length}
use lib.IntN.{ℤ, pos, neg_ℤ}
use lib.Signed.{◌<ℤ◌}
use Rattle.lists.proofs.Truth.{false_xor}
use Rattle.paper.specs.declared.Flat.{Flat}
use Rattle.means_area.specs.Rings.{Of, TheTwo, Link}
use Rattle.means_area.specs.Flats.{Nn, twice_area, height, Simple, Least, lst}
use Rattle.means_area.proofs.Flats.Net.{Ok}
use Rattle.means_area.proofs.Flats.Choice.{Hit, ear_ok}
use Rattle.means_area.proofs.Flats.First.{first_link, last_link, ends-apart, only-first, not_flat, rest_link}
use Rattle.means_area.proofs.Flats.Chains.{lst_of, Sub, keep, skip, done, sub_of, sub_distinct, narrow}
use Rattle.means_inside.specs.Beams.{beam, facing, Off, OffEverySide, odd, east}
use Rattle.means_inside.specs.Regions.{InTriangle}
use Rattle.means_inside.proofs.Parity.{round-ear}
use Rattle.means_inside.proofs.Segment.{beam_back}
use Rattle.means_inside.proofs.Cap.{ear_in}
use Rattle.means_inside.proofs.Ears.{off_or, bool, chord_hit, clear3, odd_hit}
use Rattle.means_inside.proofs.Covers.{within_hit}
use Rattle.means_inside.proofs.Together.{clear_with}

-- a chord from c to d cuts g into h and k; a point p of the one, A, or of the other, B, is inside g, and off the chord it is not in both
pub record Joined (g h k : List Flat) (c d : Flat) (A B : Flat → Type 0) (p : Flat) : Type 0 where
  pub whole : A p ⊎ B p → odd p g ≡ true
  pub clear1 : Off p c d → OffEverySide p h
  pub clear2 : Off p c d → OffEverySide p k
  pub not_both : Off p c d → A p → B p → ⊥

module _ (m : ℤ) where
  abbrev h : Flat → ℤ
  h = height m

  module _ (u c : Flat) (l : List Flat) (k : 1 ≤ length l) (s : Simple m (u ∷ c ∷ l)) (low : Least m u (c ∷ l)) where
    abbrev g : List Flat
    g = u ∷ c ∷ l

    abbrev a : Flat
    a = lst c l

    pub hc : h u <ℤ h c
    hc = low c (inl refl)

    pub ha : h u <ℤ h a
    ha = low a (lst_of c l)

    pub uc : Link g u c
    uc = first_link m u c l

    pub ua : Link g u a
    ua = last_link m u c l

    pub apart : h c ≡ h a → ⊥
    apart = ends-apart m u c l k s.apart

    pub crooked : twice_area u c a ≡ pos 0 → ⊥
    crooked = not_flat m u c l k s hc ha

    -- ---- the ear
    module _ (e : (z : Flat) → Of z g → Hit u c a z → ⊥) where
      ok : Ok m (Link g) (λ r. Of r g) c a
      ok = ear_ok m (Link g) g s.net u c a uc ua hc ha apart (only-first m u c l s.apart.0) e

      pub hit : (p : Flat) → OffEverySide p g → Hit u c a p → odd p g ≡ true
      hit p cl i = ear_in m u c l low p cl s e i

      sub_last : (c : Flat) (l : List Flat) → 1 ≤ length l → Sub (lst c l ∷ []) l
      sub_last c [] k = absurd (omega (arith, k))
      sub_last c (x ∷ []) k = keep done
      sub_last c (x ∷ (y ∷ l)) k = skip (sub_last x (y ∷ l) (omega arith))

      sub3 : Sub (u ∷ c ∷ a ∷ []) g
      sub3 = keep (keep (sub_last c l k))

      pub three : Simple m (u ∷ c ∷ a ∷ [])
      three = narrow m g (u ∷ c ∷ a ∷ []) c a s f (λ z o. sub_of z sub3 o) (sub_distinct m sub3 s.apart) ok
        where
          pair : (x y p q : Flat) → Link g x y → Link g y x → TheTwo x y p q → Link g p q
          pair x y p q j j' (inl t) = subst (λ (z : Flat). Link g z q) (sym t.0) (subst (λ (z : Flat). Link g x z) (sym t.1) j)
          pair x y p q j j' (inr t) = subst (λ (z : Flat). Link g z q) (sym t.0) (subst (λ (z : Flat). Link g y z) (sym t.1) j')

          f : (p q : Flat) → Link (u ∷ c ∷ a ∷ []) p q → Link g p q ⊎ TheTwo c a p q
          f p q (inl j) = inl (pair u c p q uc (s.net.back uc) j)
          f p q (inr (inl j)) = inr j
          f p q (inr (inr j)) = inl (pair a u p q (s.net.back ua) ua j)

      at_rest : (p : Flat) → OffEverySide p g → Off p c a → odd p (c ∷ l) ≡ true → odd p g ≡ true
      at_rest p cl o r = go (bool (odd p (u ∷ c ∷ a ∷ [])))
        where
          go : (odd p (u ∷ c ∷ a ∷ []) ≡ true) ⊎ (odd p (u ∷ c ∷ a ∷ []) ≡ false) → odd p g ≡ true
          go (inl q) = hit p cl (odd_hit u c a p (cl u c uc) (cl u a ua) crooked o q)
          go (inr q) =
              round-ear (beam p (east p)) u c l (beam_back p (east p) a c) ∙ ap (λ (z : Bool). xor z (odd p (c ∷ l))) q
              ∙ false_xor (odd p (c ∷ l)) ∙ r

      clear_tri : (p : Flat) → OffEverySide p g → Off p c a → OffEverySide p (u ∷ c ∷ a ∷ [])
      clear_tri p cl o = clear3 u c a p (cl u c uc) (cl u a ua) crooked c a (cl u c uc) (cl u a ua) o

      clear_rest : (p : Flat) → OffEverySide p g → Off p c a → OffEverySide p (c ∷ l)
      clear_rest p cl o = clear_with p g (c ∷ l) c a cl o (rest_link u c l)

      in_tri : (p : Flat) → OffEverySide p g → InTriangle u c a p → Hit u c a p
      in_tri p cl w = within_hit u c a p crooked (cl u c uc) (cl u a ua) w

      tri_odd : (p : Flat) → OffEverySide p g → Off p c a → Hit u c a p → odd p (u ∷ c ∷ a ∷ []) ≡ true
      tri_odd p cl o i =
          ear_in m u c (a ∷ []) (λ z q. low z (sub_of z (keep (sub_last c l k)) q)) p (clear_tri p cl o) three
          (λ z q. e z (sub_of z sub3 q)) i

      -- off the chord, a point of the triangle is not in the rest: it would be even in the ring
      apart_rest : (A : Flat → Type 0) → ((p : Flat) → OffEverySide p (c ∷ l) → A p → odd p (c ∷ l) ≡ true) → (p : Flat) → OffEverySide p g
          → Off p c a → InTriangle u c a p → A p → ⊥
      unfolding xor
      apart_rest A f p cl o w t =
          let i = in_tri p cl w in
          true≢false
          (sym (hit p cl i) ∙ round-ear (beam p (east p)) u c l (beam_back p (east p) a c)
          ∙ (λ s. xor (tri_odd p cl o i s) (f p (clear_rest p cl o) t s)))

      ear_inside : (A : Flat → Type 0) → ((p : Flat) → OffEverySide p (c ∷ l) → A p → odd p (c ∷ l) ≡ true) → (p : Flat) → OffEverySide p g
          → InTriangle u c a p ⊎ A p → odd p g ≡ true
      ear_inside A f p cl (inl w) = hit p cl (in_tri p cl w)
      ear_inside A f p cl (inr w) = pick (off_or p c a)
        where
          pick : Off p c a ⊎ ((twice_area c a p ≡ pos 0) × Nn (neg_ℤ (facing p c a))) → odd p g ≡ true
          pick (inr q) = hit p cl (chord_hit u c a p (cl u c uc) (cl u a ua) crooked q.0 q.1)
          pick (inl q) = at_rest p cl q (f p (clear_rest p cl q) w)

      pub ear-joined : (A : Flat → Type 0) → ((p : Flat) → OffEverySide p (c ∷ l) → A p → odd p (c ∷ l) ≡ true) → (p : Flat) → OffEverySide p g
          → Joined g (u ∷ c ∷ a ∷ []) (c ∷ l) c a (InTriangle u c a) A p
      ear-joined A f p cl = record {
        whole = ear_inside A f p cl;
        clear1 = clear_tri p cl;
        clear2 = clear_rest p cl;
        not_both = apart_rest A f p cl;
      }
