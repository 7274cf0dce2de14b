-- A ring that is cut at its lowest corner by a chord: its two parts, each apart from the other ring.
use mathlib.Core.Path.{◌≡◌, refl, sym, ◌∙◌, ap, subst}
use mathlib.Core.Bool.{Bool, true, false, xor, true≢false}
use mathlib.Core.Logic.{◌⊎◌, inl, inr}
use mathlib.Core.List.{List, [], ◌∷◌, ◌++◌}
use Prim.Native.Nat.{ℕ, suc, ◌+◌, ◌≤◌}
use native.Mathlib.Omega.{arith}
use lib.ListN.{length, length-append}
use lib.IntN.{ℤ, pos, neg_ℤ}
use Rattle.lists.proofs.Truth.{false_xor}
use Rattle.paper.specs.declared.Flat.{Flat}
use Rattle.means_area.specs.Rings.{Of, TheTwo, Chain, Link}
use Rattle.means_area.specs.Flats.{Nn, twice_area, Cross, WithinSegment, Least, SameSign, lst}
use Rattle.means_area.proofs.Flats.Net.{Ok}
use Rattle.means_area.proofs.Flats.First.{first_link}
use Rattle.means_area.proofs.Flats.Chains.{chain_split, chain_left, of_append, of_left}
use Rattle.means_area.proofs.Flats.Chains.{of_right, distinct_across}
use Rattle.means_inside.specs.Beams.{beam, facing, Off, OffEverySide, odd, east}
use Rattle.means_inside.proofs.Parity.{round-cut}
use Rattle.means_inside.proofs.Segment.{off_link, beam_back}
use Rattle.means_inside.proofs.Apart.{parts, in1, in2, f1, f2, outside1, outside2}
use Rattle.means_inside.proofs.Ears.{off_or, off_end, bool}
use Rattle.means_inside.proofs.Beside.{Apart, clear_out, member}
use Rattle.means_inside.proofs.Together.{clear_with, h, Disjoint, sub_apart}

module _ (m : ℤ) where
  -- ---- the ring is cut at v by a chord to w
  module _ (n : ℕ) (ih : Disjoint m n) (R : List Flat) where
    module _ (v x : Flat) (X : List Flat) (w y : Flat) (Y : List Flat) (t : Apart m (v ∷ x ∷ (X ++ w ∷ y ∷ Y)) R)
        (bound : length (v ∷ x ∷ (X ++ w ∷ y ∷ Y)) + length R ≤ suc n) (low : Least m v (x ∷ (X ++ w ∷ y ∷ Y)))
        (ok : Ok m (Link (v ∷ x ∷ (X ++ w ∷ y ∷ Y))) (λ z. Of z (v ∷ x ∷ (X ++ w ∷ y ∷ Y))) v w)
        (s1 : SameSign (twice_area v x w) (twice_area v x (lst y Y))) (s2 : SameSign (twice_area v w (lst y Y)) (twice_area v x (lst y Y)))
        (uncut : (a b : Flat) → Link R a b → Cross v w a b → ⊥) (bare : (r : Flat) → Of r R → WithinSegment m v w r → ⊥)
        (bare' : (r : Flat) → Of r R → WithinSegment m w v r → ⊥) where
      abbrev g : List Flat
      g = v ∷ x ∷ (X ++ w ∷ y ∷ Y)

      abbrev P1 : List Flat
      P1 = v ∷ x ∷ (X ++ w ∷ [])

      abbrev P2 : List Flat
      P2 = v ∷ w ∷ y ∷ Y

      two : Apart m P1 P2
      two = parts m v x X w y Y t.sp low ok s1 s2

      into1 : (z : Flat) → Of z P1 → Of z g
      into1 = in1 m v x X w y Y t.sp low ok s1 s2

      into2 : (z : Flat) → Of z P2 → Of z g
      into2 = in2 m v x X w y Y t.sp low ok s1 s2

      link1 : (a b : Flat) → Link P1 a b → Link g a b ⊎ TheTwo v w a b
      link1 = f1 m v x X w y Y t.sp low ok s1 s2

      link2 : (a b : Flat) → Link P2 a b → Link g a b ⊎ TheTwo v w a b
      link2 = f2 m v x X w y Y t.sp low ok s1 s2

      len1 : length P1 + length R ≤ n
      len1 = let e = length-append X (w ∷ []) in let e' = length-append X (w ∷ y ∷ Y) in omega (arith, e, e', bound)

      len2 : length P2 + length R ≤ n
      len2 = let e' = length-append X (w ∷ y ∷ Y) in omega (arith, e', bound)

      len12 : length P1 + length P2 ≤ n
      len12 = let e = length-append X (w ∷ []) in let e' = length-append X (w ∷ y ∷ Y) in let k = t.nr in omega (arith, e, e', bound, k)

      -- the sum
      sum : (p : Flat) → odd p g ≡ xor (odd p P1) (odd p P2)
      sum p = round-cut (beam p (east p)) v (x ∷ X) w (y ∷ Y) (beam_back p (east p) w v)

      -- which of the two
      where1 : (p : Flat) → odd p g ≡ true → (odd p P1 ≡ true) ⊎ (odd p P2 ≡ true)
      where1 p o = go (bool (odd p P1))
        where
          go : (odd p P1 ≡ true) ⊎ (odd p P1 ≡ false) → (odd p P1 ≡ true) ⊎ (odd p P2 ≡ true)
          go (inl e) = inl e
          go (inr e) = inr (sym (false_xor (odd p P2)) ∙ ap (λ (b : Bool). xor b (odd p P2)) (sym e) ∙ sym (sum p) ∙ o)

      -- where the corners of g are
      split : (z : Flat) → Of z g → (Of z P1) ⊎ Of z (y ∷ Y)
      split z (inl e) = inl (inl e)
      split z (inr o) = go (of_append z (x ∷ X) (w ∷ y ∷ Y) o)
        where
          go : Of z (x ∷ X) ⊎ Of z (w ∷ y ∷ Y) → (Of z P1) ⊎ Of z (y ∷ Y)
          go (inl k) = inl (inr (of_left z (x ∷ X) (w ∷ []) k))
          go (inr (inl e)) = inl (inr (of_right z (x ∷ X) (w ∷ []) (inl e)))
          go (inr (inr k)) = inr k

      split2 : (z : Flat) → Of z g → (Of z P2) ⊎ Of z (x ∷ X)
      split2 z (inl e) = inl (inl e)
      split2 z (inr o) = go (of_append z (x ∷ X) (w ∷ y ∷ Y) o)
        where
          go : Of z (x ∷ X) ⊎ Of z (w ∷ y ∷ Y) → (Of z P2) ⊎ Of z (x ∷ X)
          go (inl k) = inr k
          go (inr k) = inl (inr k)

      off_vw : (z : Flat) → Of z R → (Of z g → ⊥) → Off z v w
      off_vw z o nay =
          off_link m z v w (λ e. nay (subst (λ (q : Flat). Of q g) (t.one v z (inl refl) o e) (inl refl)))
          (λ e. nay (subst (λ (q : Flat). Of q g) (t.one w z (into2 w (inr (inl refl))) o e) (into2 w (inr (inl refl))))) (bare z o)
          (bare' z o)

      -- a corner of R is even in both
      even12 : (z : Flat) → Of z R → (Of z g → ⊥) → (odd z P1 ≡ false) × (odd z P2 ≡ false)
      unfolding xor
      even12 z o nay = go (bool (odd z P1)) (bool (odd z P2))
        where
          c : OffEverySide z g
          c = clear_out m g R t z o nay

          e : xor (odd z P1) (odd z P2) ≡ false
          e = sym (sum z) ∙ t.out_p z o nay

          one : odd z P1 ≡ true → odd z P2 ≡ false → ⊥
          one p q = true≢false ((λ i. xor (sym p i) (sym q i)) ∙ e)

          other : odd z P1 ≡ false → odd z P2 ≡ true → ⊥
          other p q = true≢false ((λ i. xor (sym p i) (sym q i)) ∙ e)

          go : (odd z P1 ≡ true) ⊎ (odd z P1 ≡ false) → (odd z P2 ≡ true) ⊎ (odd z P2 ≡ false) → (odd z P1 ≡ false) × (odd z P2 ≡ false)
          go (inr p) (inr q) = (p, q)
          go (inl p) (inl q) =
              absurd
              (ih P1 P2 len12 two z (clear_with z g P1 v w c (off_vw z o nay) link1) (clear_with z g P2 v w c (off_vw z o nay) link2) p q)
          go (inl p) (inr q) = absurd (one p q)
          go (inr p) (inl q) = absurd (other p q)

      out1 : (z : Flat) → Of z R → (Of z P1 → ⊥) → odd z P1 ≡ false
      out1 z o nay = go (member m g R t z o)
        where
          at : (Of z P1) ⊎ Of z (y ∷ Y) → odd z P1 ≡ false
          at (inl k) = absurd (nay k)
          at (inr k) = outside1 m v x X w y Y t.sp low ok s1 s2 z k

          go : Of z g ⊎ (Of z g → ⊥) → odd z P1 ≡ false
          go (inl k) = at (split z k)
          go (inr k) = (even12 z o k).0

      out2 : (z : Flat) → Of z R → (Of z P2 → ⊥) → odd z P2 ≡ false
      out2 z o nay = go (member m g R t z o)
        where
          at : (Of z P2) ⊎ Of z (x ∷ X) → odd z P2 ≡ false
          at (inl k) = absurd (nay k)
          at (inr k) = outside2 m v x X w y Y t.sp low ok s1 s2 z k

          go : Of z g ⊎ (Of z g → ⊥) → odd z P2 ≡ false
          go (inl k) = at (split2 z k)
          go (inr k) = (even12 z o k).1

      -- an inner corner of a way is an end of each of its links
      inner : (a : Flat) (b : Flat) (l : List Flat) (e p q : Flat) → Chain a (b ∷ l) e p q → Of p (b ∷ l) ⊎ Of q (b ∷ l)
      inner a b [] e p q (inl (inl s)) = inr (inl s.1)
      inner a b [] e p q (inl (inr s)) = inl (inl s.0)
      inner a b (c ∷ l) e p q (inl (inl s)) = inr (inl s.1)
      inner a b (c ∷ l) e p q (inl (inr s)) = inl (inl s.0)
      inner a b [] e p q (inr (inl s)) = inl (inl s.0)
      inner a b [] e p q (inr (inr s)) = inr (inl s.1)
      inner a b (c ∷ l) e p q (inr k) = go (inner b c l e p q k)
        where
          go : Of p (c ∷ l) ⊎ Of q (c ∷ l) → Of p (b ∷ c ∷ l) ⊎ Of q (b ∷ c ∷ l)
          go (inl o) = inl (inr o)
          go (inr o) = inr (inr o)

      -- corners of one part only
      only1 : (z : Flat) → Of z (x ∷ X) → Of z P2 → ⊥
      only1 z o k = go (k)
        where
          go : Of z P2 → ⊥
          go (inl e) = t.sp.apart.0 z (of_left z (x ∷ X) (w ∷ y ∷ Y) o) (ap (h m) e)
          go (inr q) = distinct_across m (x ∷ X) (w ∷ y ∷ Y) t.sp.apart.1 z z o q refl

      only2 : (z : Flat) → Of z (y ∷ Y) → Of z P1 → ⊥
      only2 z o (inl e) = t.sp.apart.0 z (of_right z (x ∷ X) (w ∷ y ∷ Y) (inr o)) (ap (h m) e)
      only2 z o (inr k) = go (of_append z (x ∷ X) (w ∷ []) k)
        where
          go : Of z (x ∷ X) ⊎ Of z (w ∷ []) → ⊥
          go (inl q) = only1 z q (inr (inr o))
          go (inr (inl e)) = two.sr.apart.1.0 z o (ap (h m) e)
          go (inr (inr q)) = q

      keep1 : (a b : Flat) → Link g a b → Of a P1 → Of b P1 → Link P1 a b
      keep1 a b l oa ob = go (chain_split v (x ∷ X) w (y ∷ Y) v a b l)
        where
          nay : Of a (y ∷ Y) ⊎ Of b (y ∷ Y) → Link P1 a b
          nay (inl k) = absurd (only2 a k oa)
          nay (inr k) = absurd (only2 b k ob)

          go : Chain v (x ∷ X) w a b ⊎ Chain w (y ∷ Y) v a b → Link P1 a b
          go (inl c) = chain_left v (x ∷ X) w [] v a b c
          go (inr c) = nay (inner w y Y v a b c)

      keep2 : (a b : Flat) → Link g a b → Of a P2 → Of b P2 → Link P2 a b
      keep2 a b l oa ob = go (chain_split v (x ∷ X) w (y ∷ Y) v a b l)
        where
          nay : Of a (x ∷ X) ⊎ Of b (x ∷ X) → Link P2 a b
          nay (inl k) = absurd (only1 a k oa)
          nay (inr k) = absurd (only1 b k ob)

          go : Chain v (x ∷ X) w a b ⊎ Chain w (y ∷ Y) v a b → Link P2 a b
          go (inl c) = nay (inner v x X w a b c)
          go (inr c) = inr c

      pub by_cut : ((p : Flat) → twice_area v w p ≡ pos 0 → Nn (neg_ℤ (facing p v w)) → (p ≡ v → ⊥) → OffEverySide p R → odd p R ≡ false) → (p : Flat)
          → OffEverySide p g → OffEverySide p R → odd p g ≡ true → odd p R ≡ true → ⊥
      by_cut on p c cR o oR = go (off_or p v w)
        where
          go : Off p v w ⊎ ((twice_area v w p ≡ pos 0) × Nn (neg_ℤ (facing p v w))) → ⊥
          go (inr q) = true≢false (sym oR ∙ on p q.0 q.1 (off_end p v x (c v x (first_link m v x (X ++ w ∷ y ∷ Y)))) cR)
          go (inl q) = pick (where1 p o)
            where
              pick : (odd p P1 ≡ true) ⊎ (odd p P2 ≡ true) → ⊥
              pick (inl e) =
                  ih P1 R len1 (sub_apart m g P1 R v w t two.sp two.np link1 into1 keep1 uncut bare bare' out1) p
                  (clear_with p g P1 v w c q link1) cR e oR
              pick (inr e) =
                  ih P2 R len2 (sub_apart m g P2 R v w t two.sr two.nr link2 into2 keep2 uncut bare bare' out2) p
                  (clear_with p g P2 v w c q link2) cR e oR
