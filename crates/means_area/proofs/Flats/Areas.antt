-- The step of the first claim: at u the ear is off, or a chord from u cuts the ring in two.
use mathlib.Core.Path.{◌≡◌, refl, sym, ◌∙◌, ap, subst}
use mathlib.Core.Logic.{◌⊎◌, inl, inr}
use mathlib.Core.List.{List, [], ◌∷◌, ◌++◌}
use Prim.Native.Nat.{ℕ, suc, ◌≤◌}
use native.Mathlib.Omega.{arith}
use lib.ListN.{length, length-append}
use lib.IntN.{ℤ, pos, ◌+ℤ◌}
use lib.Signed.{◌<ℤ◌, <ℤ_irrefl}
use Rattle.exact.proofs.Ring.{var, con, ◌⊕◌, ring}
use Rattle.paper.specs.declared.Flat.{Flat}
use Rattle.means_area.specs.Rings.{Of, TheTwo, Chain, Link}
use Rattle.means_area.specs.Flats.{twice_area, height, Simple, Least, area, SameSign, lst}
use Rattle.means_area.proofs.Flats.Signs.{same-flip, same_trans, same_add, same_is, same_is2, same_ne, same_self}
use Rattle.means_area.proofs.Flats.Turns.{flat-second}
use Rattle.means_area.proofs.Flats.Net.{Ok}
use Rattle.means_area.proofs.Flats.Choice.{Choice, whole, cut}
use Rattle.means_area.proofs.Flats.Rings.{part_back, area-cut, area-ear}
use Rattle.means_area.proofs.Flats.Lowest.{Split, of_split, pair_swap}
use Rattle.means_area.proofs.Flats.First.{Free, choice, not_flat, Area, Rest}
use Rattle.means_area.proofs.Flats.Chains.{lst_append, lst_of, chain_split, chain_left, chain_right, Sub, keep, skip, sub_all}
use Rattle.means_area.proofs.Flats.Chains.{sub_none, sub_append, sub_of, sub_distinct, narrow}

module _ (m : ℤ) (n : ℕ) (A : Area m n) (R : Rest m (suc n)) where
  abbrev h : Flat → ℤ
  h = height m

  -- the triangle is empty
  no_cut : (u c : Flat) (l : List Flat) → length l ≤ suc n → 1 ≤ length l → Simple m (u ∷ c ∷ l) → Least m u (c ∷ l)
      → Free u c (lst c l) (u ∷ c ∷ l) → SameSign (area (u ∷ c ∷ l)) (twice_area u c (lst c l))
  no_cut u c [] b k s low e = absurd (omega arith)
  no_cut u c (a ∷ []) b k s low e =
      same_is
      (sym (area-ear u c (a ∷ []) ∙ ap (λ (z : ℤ). twice_area u c a +ℤ z) (flat2 c a)
      ∙ ring (twice_area u c a ∷ []) (var 0 ⊕ con (pos 0)) (var 0) tt))
      (same_self (not_flat m u c (a ∷ []) k s (low c (inl refl)) (low a (inr (inl refl)))))
    where
      flat2 : (c a : Flat) → area (c ∷ a ∷ []) ≡ pos 0
      flat2 c a = part_back c a
  no_cut u c (d ∷ (f ∷ l)) b k s low e =
      let r = R u c (d ∷ f ∷ l) b (omega arith) s low e in
      same_is (sym (area-ear u c (d ∷ f ∷ l))) (same_add (same_trans (same-flip r) r) r)

  -- a chord from u to w
  module _ (u c : Flat) (X : List Flat) (w y : Flat) (Y : List Flat) (b : length (X ++ w ∷ y ∷ Y) ≤ suc n)
      (s : Simple m (u ∷ c ∷ (X ++ w ∷ y ∷ Y))) (low : Least m u (c ∷ (X ++ w ∷ y ∷ Y)))
      (ok : Ok m (Link (u ∷ c ∷ (X ++ w ∷ y ∷ Y))) (λ z. Of z (u ∷ c ∷ (X ++ w ∷ y ∷ Y))) u w) where
    abbrev g : List Flat
    g = u ∷ c ∷ (X ++ w ∷ y ∷ Y)

    sub1 : Sub (c ∷ (X ++ w ∷ [])) (c ∷ (X ++ w ∷ y ∷ Y))
    sub1 = keep (sub_append (sub_all X) (keep (sub_none (y ∷ Y))))

    sub2 : Sub (w ∷ y ∷ Y) (c ∷ (X ++ w ∷ y ∷ Y))
    sub2 = skip (sub_append (sub_none X) (sub_all (w ∷ y ∷ Y)))

    simple1 : Simple m (u ∷ c ∷ (X ++ w ∷ []))
    simple1 = narrow m g (u ∷ c ∷ (X ++ w ∷ [])) u w s f (λ z o. sub_of z (keep sub1) o) (sub_distinct m (keep sub1) s.apart) ok
      where
        f : (p q : Flat) → Link (u ∷ c ∷ (X ++ w ∷ [])) p q → Link g p q ⊎ TheTwo u w p q
        f p q t = go (chain_split u (c ∷ X) w [] u p q t)
          where
            go : Chain u (c ∷ X) w p q ⊎ Chain w [] u p q → Link g p q ⊎ TheTwo u w p q
            go (inl d) = inl (chain_left u (c ∷ X) w (y ∷ Y) u p q d)
            go (inr d) = inr (pair_swap w u p q d)

    simple2 : Simple m (u ∷ w ∷ y ∷ Y)
    simple2 = narrow m g (u ∷ w ∷ y ∷ Y) u w s f (λ z o. sub_of z (keep sub2) o) (sub_distinct m (keep sub2) s.apart) ok
      where
        f : (p q : Flat) → Link (u ∷ w ∷ y ∷ Y) p q → Link g p q ⊎ TheTwo u w p q
        f p q (inl d) = inr d
        f p q (inr d) = inl (chain_right u (c ∷ X) w (y ∷ Y) u p q d)

    cutting : SameSign (twice_area u c w) (twice_area u c (lst y Y)) → SameSign (twice_area u w (lst y Y)) (twice_area u c (lst y Y)) → SameSign (area g) (twice_area u c (lst y Y))
    cutting s1 s2 =
        let e1 = length-append X (w ∷ y ∷ Y) in
        let e2 = length-append X (w ∷ []) in
        let a1 = A u c (X ++ w ∷ []) (omega (arith, e1, e2)) (omega (arith, e1, e2)) simple1 (λ z o. low z (sub_of z sub1 o)) in
        let a2 = A u w (y ∷ Y) (omega (arith, e1, e2)) (omega (arith, e1, e2)) simple2 (λ z o. low z (sub_of z sub2 o)) in
        same_is (sym (area-cut u (c ∷ X) w (y ∷ Y)))
        (same_add (same_trans (same_is2 (ap (twice_area u c) (lst_append c X w [])) a1) s1) (same_trans a2 s2))

  -- the same, with the split as an equation
  cut_split : (u c : Flat) (l : List Flat) (w : Flat) (t : Split w l) → length l ≤ suc n → Simple m (u ∷ c ∷ l) → Least m u (c ∷ l)
      → Ok m (Link (u ∷ c ∷ l)) (λ z. Of z (u ∷ c ∷ l)) u w
      → SameSign (twice_area u c w) (twice_area u c (lst c l)) → SameSign (twice_area u w (lst c l)) (twice_area u c (lst c l))
      → SameSign (area (u ∷ c ∷ l)) (twice_area u c (lst c l))
  cut_split u c l w t =
      subst (λ (r : List Flat). length r ≤ suc n → Simple m (u ∷ c ∷ r) → Least m u (c ∷ r)
      → Ok m (Link (u ∷ c ∷ r)) (λ z. Of z (u ∷ c ∷ r)) u w
      → SameSign (twice_area u c w) (twice_area u c (lst c r)) → SameSign (twice_area u w (lst c r)) (twice_area u c (lst c r))
      → SameSign (area (u ∷ c ∷ r)) (twice_area u c (lst c r))) (sym t.is) (go t.before t.after)
    where
      go : (X Y : List Flat) → length (X ++ w ∷ Y) ≤ suc n → Simple m (u ∷ c ∷ (X ++ w ∷ Y)) → Least m u (c ∷ (X ++ w ∷ Y))
          → Ok m (Link (u ∷ c ∷ (X ++ w ∷ Y))) (λ z. Of z (u ∷ c ∷ (X ++ w ∷ Y))) u w
          → SameSign (twice_area u c w) (twice_area u c (lst c (X ++ w ∷ Y))) → SameSign (twice_area u w (lst c (X ++ w ∷ Y))) (twice_area u c (lst c (X ++ w ∷ Y)))
          → SameSign (area (u ∷ c ∷ (X ++ w ∷ Y))) (twice_area u c (lst c (X ++ w ∷ Y)))
      go X [] b s low ok s1 s2 = absurd (same_ne s2 (ap (twice_area u w) (lst_append c X w []) ∙ flat-second u w))
      go X (y ∷ Y) b s low ok s1 s2 =
          let e = lst_append c X w (y ∷ Y) in
          same_is2 (ap (twice_area u c) (sym e))
          (cutting u c X w y Y b s low ok (same_is2 (ap (twice_area u c) e) s1) (same_is2 (ap (twice_area u c) e) (same_is (ap (twice_area u w) e) s2)))

  pub area_step : Area m (suc n)
  area_step u c l b k s low = go (choice m u c l k s (low c (inl refl)) (low (lst c l) (lst_of c l)))
    where
      go : Choice m (Link (u ∷ c ∷ l)) (u ∷ c ∷ l) s.net u c (lst c l) → SameSign (area (u ∷ c ∷ l)) (twice_area u c (lst c l))
      go (whole e ok) = no_cut u c l b k s low e
      go (cut w (inl e) ok hw s1 s2) = absurd (<ℤ_irrefl (subst (λ (z : Flat). h u <ℤ h z) e hw))
      go (cut w (inr (inl e)) ok hw s1 s2) = absurd (same_ne s1 (ap (twice_area u c) e ∙ flat-second u c))
      go (cut w (inr (inr o)) ok hw s1 s2) = cut_split u c l w (of_split w l o) b s low ok s1 s2
