-- The same where a chord from v to a corner w leaves a smaller ring.
use mathlib.Core.Path.{◌≡◌, sym, ◌∙◌, ap, subst}
use mathlib.Core.Logic.{◌⊎◌, inl, inr}
use mathlib.Core.List.{List, [], ◌∷◌, ◌++◌}
use Prim.Native.Nat.{ℕ, suc, ◌+◌, ◌≤◌}
use native.Mathlib.Omega.{arith}
use lib.ListN.{length, length-append}
use lib.IntN.{ℤ}
use Rattle.paper.specs.declared.Flat.{Flat}
use Rattle.means_area.specs.Rings.{Of, TheTwo, Chain, Link}
use Rattle.means_area.specs.Flats.{twice_area, SameSign, lst}
use Rattle.means_area.proofs.Flats.Signs.{same-flip, same_trans, same_is, same_is2, same_ne}
use Rattle.means_area.proofs.Flats.Turns.{flat-second}
use Rattle.means_area.proofs.Flats.Net.{Ok}
use Rattle.means_area.proofs.Flats.Choice.{Hit}
use Rattle.means_area.proofs.Flats.Lowest.{Split, Prefix, lst_nil, pair_swap}
use Rattle.means_area.proofs.Flats.First.{Area, Rest}
use Rattle.means_area.proofs.Flats.Around.{Second, OneTurn, reduced}
use Rattle.means_area.proofs.Flats.Chains.{lst_append, chain_split, chain_left, chain_right, chain_cut, Sub, keep, skip, sub_all}
use Rattle.means_area.proofs.Flats.Chains.{sub_none, sub_left, sub_append, sub_of, sub_distinct, narrow}

-- the chord from v to w may be added
abbrev pub Chord : ℤ → Flat → Flat → List Flat → Flat → Flat → List Flat → Flat → Type 0
Chord m u c X v y Y w = Ok m (Link (u ∷ c ∷ (X ++ v ∷ y ∷ Y))) (λ z. Of z (u ∷ c ∷ (X ++ v ∷ y ∷ Y))) v w

module _ (m : ℤ) (n : ℕ) (A : Area m n) (R : Rest m n) where
  -- ---- w is behind v: the corners from y up to w are cut off
  cut_y : (u c : Flat) (X : List Flat) (v y : Flat) (Z : List Flat) (w : Flat) (W : List Flat)
      → length (X ++ v ∷ y ∷ (Z ++ w ∷ W)) ≤ suc n → Second m u c X v y (Z ++ w ∷ W)
      → Chord m u c X v y (Z ++ w ∷ W) w → SameSign (twice_area v w (lst c X)) (twice_area v y (lst c X)) → OneTurn u c X v y (Z ++ w ∷ W)
  cut_y u c X v y Z w W b q ok s2 =
      same_trans (same-flip s2)
      (same_is2 (ap (twice_area u c) (sym (lst_append y Z w W)))
      (reduced m n A R u c X v w W (omega (arith, e1, e2, e3)) smaller (omega (arith, e1, e2, e3))))
    where
      e1 : length (X ++ v ∷ y ∷ (Z ++ w ∷ W)) ≡ length X + suc (suc (length (Z ++ w ∷ W)))
      e1 = length-append X (v ∷ y ∷ (Z ++ w ∷ W))

      e2 : length (Z ++ w ∷ W) ≡ length Z + suc (length W)
      e2 = length-append Z (w ∷ W)

      e3 : length (X ++ v ∷ w ∷ W) ≡ length X + suc (suc (length W))
      e3 = length-append X (v ∷ w ∷ W)

      g : List Flat
      g = u ∷ c ∷ (X ++ v ∷ y ∷ (Z ++ w ∷ W))

      late : Sub (w ∷ W) (y ∷ (Z ++ w ∷ W))
      late = skip (sub_append (sub_none Z) (sub_all (w ∷ W)))

      sub : Sub (c ∷ (X ++ v ∷ w ∷ W)) (c ∷ (X ++ v ∷ y ∷ (Z ++ w ∷ W)))
      sub = keep (sub_append (sub_all X) (keep late))

      f : (p r : Flat) → Link (u ∷ c ∷ (X ++ v ∷ w ∷ W)) p r → Link g p r ⊎ TheTwo v w p r
      f p r t = go (chain_split u (c ∷ X) v (w ∷ W) u p r t)
        where
          go : Chain u (c ∷ X) v p r ⊎ Chain v (w ∷ W) u p r → Link g p r ⊎ TheTwo v w p r
          go (inl d) = inl (chain_left u (c ∷ X) v (y ∷ (Z ++ w ∷ W)) u p r d)
          go (inr (inl d)) = inr d
          go (inr (inr d)) = inl (chain_right u (c ∷ X) v (y ∷ (Z ++ w ∷ W)) u p r (chain_right v (y ∷ Z) w W u p r d))

      smaller : Second m u c X v w W
      smaller = record {
        simple =
            narrow m g (u ∷ c ∷ (X ++ v ∷ w ∷ W)) v w q.simple f (λ z o. sub_of z (keep sub) o)
            (sub_distinct m (keep sub) q.simple.apart) ok;
        low = (λ z o. q.low z (sub_of z sub o));
        empty = (λ z o. subst (λ (a : Flat). Hit u c a z → ⊥) (lst_append y Z w W) (q.empty z (sub_of z (keep sub) o)));
        low_c = q.low_c;
        low_y = (λ z o. q.low_y z (sub_of z late o));
      }

  pub cut-behind : (u c : Flat) (X : List Flat) (v y : Flat) (Y : List Flat) (w : Flat) → Split w Y → length (X ++ v ∷ y ∷ Y) ≤ suc n
      → Second m u c X v y Y
      → Chord m u c X v y Y w → SameSign (twice_area v w (lst c X)) (twice_area v y (lst c X)) → OneTurn u c X v y Y
  cut-behind u c X v y Y w t =
      subst (λ (Y : List Flat). length (X ++ v ∷ y ∷ Y) ≤ suc n → Second m u c X v y Y → Chord m u c X v y Y w
      → SameSign (twice_area v w (lst c X)) (twice_area v y (lst c X)) → OneTurn u c X v y Y)
      (sym t.is) (cut_y u c X v y t.before w t.after)

  -- ---- w is before v: the corners after w, up to v, are cut off; w is the last of c X
  cut_x : (u c : Flat) (X : List Flat) (x : Flat) (W : List Flat) (v y : Flat) (Y : List Flat)
      → length ((X ++ x ∷ W) ++ v ∷ y ∷ Y) ≤ suc n → Second m u c (X ++ x ∷ W) v y Y
      → Chord m u c (X ++ x ∷ W) v y Y (lst c X) → SameSign (twice_area v y (lst c X)) (twice_area v y (lst c (X ++ x ∷ W)))
      → OneTurn u c (X ++ x ∷ W) v y Y
  cut_x u c X x W v y Y b q ok s1 =
      same_trans (same-flip s1) (reduced m n A R u c X v y Y (omega (arith, e1, e2, e3)) smaller (omega (arith, e1, e2, e3)))
    where
      e1 : length ((X ++ x ∷ W) ++ v ∷ y ∷ Y) ≡ length (X ++ x ∷ W) + suc (suc (length Y))
      e1 = length-append (X ++ x ∷ W) (v ∷ y ∷ Y)

      e2 : length (X ++ x ∷ W) ≡ length X + suc (length W)
      e2 = length-append X (x ∷ W)

      e3 : length (X ++ v ∷ y ∷ Y) ≡ length X + suc (suc (length Y))
      e3 = length-append X (v ∷ y ∷ Y)

      g : List Flat
      g = u ∷ c ∷ ((X ++ x ∷ W) ++ v ∷ y ∷ Y)

      sub : Sub (c ∷ (X ++ v ∷ y ∷ Y)) (c ∷ ((X ++ x ∷ W) ++ v ∷ y ∷ Y))
      sub = keep (sub_append (sub_left X (x ∷ W)) (sub_all (v ∷ y ∷ Y)))

      f : (p r : Flat) → Link (u ∷ c ∷ (X ++ v ∷ y ∷ Y)) p r → Link g p r ⊎ TheTwo v (lst c X) p r
      f p r t = go (chain_split u (c ∷ X) v (y ∷ Y) u p r t)
        where
          cutoff : Chain u (c ∷ (X ++ x ∷ W)) v p r ⊎ TheTwo (lst c X) v p r → Link g p r ⊎ TheTwo v (lst c X) p r
          cutoff (inl d) = inl (chain_left u (c ∷ (X ++ x ∷ W)) v (y ∷ Y) u p r d)
          cutoff (inr d) = inr (pair_swap (lst c X) v p r d)

          go : Chain u (c ∷ X) v p r ⊎ Chain v (y ∷ Y) u p r → Link g p r ⊎ TheTwo v (lst c X) p r
          go (inl d) = cutoff (chain_cut u (c ∷ X) v x W v p r d)
          go (inr d) = inl (chain_right u (c ∷ (X ++ x ∷ W)) v (y ∷ Y) u p r d)

      smaller : Second m u c X v y Y
      smaller = record {
        simple =
            narrow m g (u ∷ c ∷ (X ++ v ∷ y ∷ Y)) v (lst c X) q.simple f (λ z o. sub_of z (keep sub) o)
            (sub_distinct m (keep sub) q.simple.apart) ok;
        low = (λ z o. q.low z (sub_of z sub o));
        empty = (λ z o. q.empty z (sub_of z (keep sub) o));
        low_c = (λ z o. q.low_c z (sub_of z (keep (sub_left X (x ∷ W))) o));
        low_y = q.low_y;
      }

  abbrev Before : Flat → Flat → List Flat → Flat → Flat → List Flat → Flat → Type 0
  Before u c X v y Y w =
      length (X ++ v ∷ y ∷ Y) ≤ suc n → Second m u c X v y Y → Chord m u c X v y Y w → SameSign (twice_area v y w) (twice_area v y (lst c X))
      → SameSign (twice_area v w (lst c X)) (twice_area v y (lst c X)) → OneTurn u c X v y Y

  pub cut_before : (u c : Flat) (X : List Flat) (v y : Flat) (Y : List Flat) (w : Flat) → Prefix w c X → length (X ++ v ∷ y ∷ Y) ≤ suc n
      → Second m u c X v y Y
      → Chord m u c X v y Y w → SameSign (twice_area v y w) (twice_area v y (lst c X)) → SameSign (twice_area v w (lst c X)) (twice_area v y (lst c X))
      → OneTurn u c X v y Y
  cut_before u c X v y Y w t = subst (λ (X : List Flat). Before u c X v y Y w) (sym t.is) (go t.upto t.rest t.last)
    where
      go : (X W : List Flat) → lst c X ≡ w → Before u c (X ++ W) v y Y w
      go X [] e b q ok s1 s2 = absurd (same_ne s2 (ap (twice_area v w) (lst_nil c X ∙ e) ∙ flat-second v w))
      go X (x ∷ W) e b q ok s1 s2 =
          cut_x u c X x W v y Y b q (subst (λ (z : Flat). Chord m u c (X ++ x ∷ W) v y Y z) (sym e) ok)
          (same_is (ap (twice_area v y) (sym e)) s1)
