-- The ring u c X v y Y, where the triangle at its lowest corner u is empty and v, the lowest but u, is no neighbour of u: the turns at v
-- and at u have one
-- sign if the triangle at v is empty too, or the ring is smaller.
use mathlib.Core.Path.{◌≡◌, refl, sym, ◌∙◌, ap, subst}
use mathlib.Core.Logic.{◌⊎◌, inl, inr}
use mathlib.Core.List.{List, [], ◌∷◌, ◌++◌}
use Prim.Native.Nat.{ℕ, suc, ◌+◌, ◌≤◌}
use native.Mathlib.Omega.{arith}
use lib.ListN.{length, length-append}
use lib.IntN.{ℤ}
use lib.Signed.{◌<ℤ◌}
use Rattle.paper.specs.declared.Flat.{Flat}
use Rattle.means_area.specs.Rings.{Of, TheTwo, Chain, Link}
use Rattle.means_area.specs.Flats.{twice_area, height, Simple, Least, area, SameSign, lst}
use Rattle.means_area.proofs.Flats.Signs.{same-flip, same_trans, same_is, same_is2}
use Rattle.means_area.proofs.Flats.Net.{Ok}
use Rattle.means_area.proofs.Flats.Choice.{Hit, four}
use Rattle.means_area.proofs.Flats.Rings.{area_turned}
use Rattle.means_area.proofs.Flats.Lowest.{pair_swap}
use Rattle.means_area.proofs.Flats.First.{Free, ends-apart, first_link, last_link, ear_simple, Area, Rest}
use Rattle.means_area.proofs.Flats.Chains.{lst_append, lst_of, link_back, chain_split, chain_left, chain_right, chain-last}
use Rattle.means_area.proofs.Flats.Chains.{chain_cut, Sub, keep, skip, sub_all, sub_append, sub_of, of_append, of_right}
use Rattle.means_area.proofs.Flats.Chains.{sub_distinct, narrow, turned, ok_turned}

-- the ring u c X v y Y, with u the lowest, an empty triangle at u, and v the lowest but u
pub record Second (m : ℤ) (u c : Flat) (X : List Flat) (v y : Flat) (Y : List Flat) : Type 0 where
  pub simple : Simple m (u ∷ c ∷ (X ++ v ∷ y ∷ Y))
  pub low : Least m u (c ∷ (X ++ v ∷ y ∷ Y))
  pub empty : Free u c (lst y Y) (u ∷ c ∷ (X ++ v ∷ y ∷ Y))
  pub low_c : Least m v (c ∷ X)
  pub low_y : Least m v (y ∷ Y)

-- the turns at v and at u have one sign
abbrev pub OneTurn : Flat → Flat → List Flat → Flat → Flat → List Flat → Type 0
OneTurn u c X v y Y = SameSign (twice_area v y (lst c X)) (twice_area u c (lst y Y))

module _ (m : ℤ) (n : ℕ) (A : Area m n) (R : Rest m n) (u c : Flat) (X : List Flat) (v y : Flat) (Y : List Flat)
    (b : length (X ++ v ∷ y ∷ Y) ≤ suc n) (q : Second m u c X v y Y) where
  abbrev h : Flat → ℤ
  h = height m

  abbrev l : List Flat
  l = X ++ v ∷ y ∷ Y

  last_is : lst c (X ++ v ∷ y ∷ Y) ≡ lst y Y
  last_is = lst_append c X v (y ∷ Y)

  free_is : Free u c (lst c (X ++ v ∷ y ∷ Y)) (u ∷ c ∷ (X ++ v ∷ y ∷ Y))
  free_is = subst (λ (a : Flat). Free u c a (u ∷ c ∷ l)) (sym last_is) q.empty

  two : 2 ≤ length (X ++ v ∷ y ∷ Y)
  two = let e = length-append X (v ∷ y ∷ Y) in omega (arith, e)

  hc : h u <ℤ h c
  hc = q.low c (inl refl)

  ha : h u <ℤ h (lst c (X ++ v ∷ y ∷ Y))
  ha = q.low (lst c l) (lst_of c l)

  pub u_v : h u <ℤ h v
  u_v = q.low v (inr (of_right v X (v ∷ y ∷ Y) (inl refl)))

  -- without u
  inner : Simple m (c ∷ (X ++ v ∷ y ∷ Y))
  inner = ear_simple m u c l (omega (arith, two)) q.simple hc ha free_is

  least_v : Least m v (y ∷ (Y ++ c ∷ X))
  least_v z (inl e) = q.low_y z (inl e)
  least_v z (inr o) = go (of_append z Y (c ∷ X) o)
    where
      go : Of z Y ⊎ Of z (c ∷ X) → h v <ℤ h z
      go (inl p) = q.low_y z (inr p)
      go (inr p) = q.low_c z p

  -- the turn at v has the sign of what is left without u
  pub at_v : SameSign (area (c ∷ (X ++ v ∷ y ∷ Y))) (twice_area v y (lst c X))
  at_v =
      let e1 = length-append X (v ∷ y ∷ Y) in
      let e2 = length-append Y (c ∷ X) in
      same_is (sym (area_turned c X v (y ∷ Y)))
      (same_is2 (ap (twice_area v y) (lst_append y Y c X))
      (A v y (Y ++ c ∷ X) (omega (arith, e1, e2)) (omega (arith, e2)) (turned m c X v (y ∷ Y) inner) least_v))

  -- so has the turn at u, in a ring that is smaller
  pub reduced : length (X ++ v ∷ y ∷ Y) ≤ n → OneTurn u c X v y Y
  reduced b' = same_trans (same-flip at_v) (same_is2 (ap (twice_area u c) last_is) (R u c l b' two q.simple q.low free_is))

  -- ---- the ring from v
  pub from_v : Simple m (v ∷ y ∷ (Y ++ u ∷ c ∷ X))
  from_v = turned m u (c ∷ X) v (y ∷ Y) q.simple

  pub x_is : lst y (Y ++ u ∷ c ∷ X) ≡ lst c X
  x_is = lst_append y Y u (c ∷ X)

  v_x : Link (u ∷ c ∷ (X ++ v ∷ y ∷ Y)) v (lst c X)
  v_x = link_back (u ∷ c ∷ l) (lst c X) v (chain_left u (c ∷ X) v (y ∷ Y) u (lst c X) v (chain-last u (c ∷ X) v))

  v_y : Link (u ∷ c ∷ (X ++ v ∷ y ∷ Y)) v y
  v_y = chain_right u (c ∷ X) v (y ∷ Y) u v y (inl (inl (refl, refl)))

  -- four corners
  pub square : X ≡ [] → Y ≡ [] → OneTurn u c X v y Y
  square eX eY =
      let cx : lst c X ≡ c = ap (lst c) eX in
      let ay : lst c l ≡ y = last_is ∙ ap (lst y) eY in
      let ya : y ≡ lst c l = sym ay in
      let g = u ∷ c ∷ l in
      let t : SameSign (area (c ∷ l)) (twice_area v (lst c l) c) = same_is2 (λ i. twice_area v (ya i) (cx i)) at_v in
      let r = four m (Link g) g q.simple.net u c (lst c l) (first_link m u c l) (last_link m u c l) hc ha free_is
      (ends-apart m u c l (omega (arith, two)) q.simple.apart) v
      (subst (λ (z : Flat). Link g v z) cx v_x) (subst (λ (z : Flat). Link g v z) ya v_y) u_v t in
      same_is (λ i. twice_area v (ay i) (sym cx i)) (same_is2 (ap (twice_area u c) last_is) r)

  -- ---- more corners, and an empty triangle at v: without v, and without u and v
  module _ (e' : Free v y (lst y (Y ++ u ∷ c ∷ X)) (v ∷ y ∷ (Y ++ u ∷ c ∷ X)))
      (ok : Ok m (Link (v ∷ y ∷ (Y ++ u ∷ c ∷ X))) (λ z. Of z (v ∷ y ∷ (Y ++ u ∷ c ∷ X))) y (lst y (Y ++ u ∷ c ∷ X))) where
    sub : Sub (c ∷ (X ++ y ∷ Y)) (c ∷ (X ++ v ∷ y ∷ Y))
    sub = keep (sub_append (sub_all X) (skip (sub_all (y ∷ Y))))

    less : Simple m (u ∷ c ∷ (X ++ y ∷ Y))
    less =
        narrow m (u ∷ c ∷ l) (u ∷ c ∷ (X ++ y ∷ Y)) y (lst c X) q.simple f (λ z o. sub_of z (keep sub) o)
        (sub_distinct m (keep sub) q.simple.apart)
        (subst (λ (z : Flat). Ok m (Link (u ∷ c ∷ l)) (λ r. Of r (u ∷ c ∷ l)) y z) x_is
        (ok_turned m u (c ∷ X) v (y ∷ Y) y (lst y (Y ++ u ∷ c ∷ X)) ok))
      where
        f : (p r : Flat) → Link (u ∷ c ∷ (X ++ y ∷ Y)) p r → Link (u ∷ c ∷ l) p r ⊎ TheTwo y (lst c X) p r
        f p r t = go (chain_split u (c ∷ X) y Y u p r t)
          where
            cutoff : Chain u (c ∷ (X ++ v ∷ y ∷ Y)) u p r ⊎ TheTwo (lst c X) y p r → Link (u ∷ c ∷ l) p r ⊎ TheTwo y (lst c X) p r
            cutoff (inl d) = inl d
            cutoff (inr d) = inr (pair_swap (lst c X) y p r d)

            go : Chain u (c ∷ X) y p r ⊎ Chain y Y u p r → Link (u ∷ c ∷ l) p r ⊎ TheTwo y (lst c X) p r
            go (inl d) = cutoff (chain_cut u (c ∷ X) y v (y ∷ Y) u p r d)
            go (inr d) = inl (chain_right u (c ∷ X) v (y ∷ Y) u p r (inr d))

    free1 : Free u c (lst c (X ++ y ∷ Y)) (u ∷ c ∷ (X ++ y ∷ Y))
    free1 z o = subst (λ (a : Flat). Hit u c a z → ⊥) (sym (lst_append c X y Y)) (q.empty z (sub_of z (keep sub) o))

    sub_v : Sub (v ∷ y ∷ (Y ++ c ∷ X)) (v ∷ y ∷ (Y ++ u ∷ c ∷ X))
    sub_v = keep (keep (sub_append (sub_all Y) (skip (sub_all (c ∷ X)))))

    free2 : Free v y (lst y (Y ++ c ∷ X)) (v ∷ y ∷ (Y ++ c ∷ X))
    free2 z o = subst (λ (a : Flat). Hit v y a z → ⊥) (x_is ∙ sym (lst_append y Y c X)) (e' z (sub_of z sub_v o))

    pub without : 1 ≤ length X + length Y → OneTurn u c X v y Y
    without j =
        let e1 = length-append X (v ∷ y ∷ Y) in
        let e2 = length-append X (y ∷ Y) in
        let e3 = length-append Y (c ∷ X) in
        let r1 = R u c (X ++ y ∷ Y) (omega (arith, e1, e2)) (omega (arith, e2)) less (λ z o. q.low z (sub_of z sub o)) free1 in
        let r2 = R v y (Y ++ c ∷ X) (omega (arith, e1, e3)) (omega (arith, e3)) (turned m c X v (y ∷ Y) inner) least_v free2 in
        same_trans (same-flip (same_is2 (ap (twice_area v y) (lst_append y Y c X)) r2))
        (same_is (area_turned c X y Y) (same_is2 (ap (twice_area u c) (lst_append c X y Y)) r1))
