-- Two rings that do not cross, with the corners of each outside of the other or common; and the two parts of a ring cut at its lowest
-- corner.
use mathlib.Core.Path.{◌≡◌, refl, sym, ◌∙◌, ap, subst}
use mathlib.Core.Bool.{Bool, false, xor}
use mathlib.Core.Logic.{◌⊎◌, inl, inr}
use mathlib.Core.List.{List, [], ◌∷◌, ◌++◌}
use native.Mathlib.Omega.{arith}
use lib.ListN.{length-append}
use lib.IntN.{ℤ}
use Rattle.paper.specs.declared.Flat.{Flat}
use Rattle.means_area.specs.Rings.{Of, TheTwo, Chain, Link}
use Rattle.means_area.specs.Flats.{twice_area, Net, Simple, Least, SameSign, both, none, lst}
use Rattle.means_area.proofs.Flats.Signs.{up_is}
use Rattle.means_area.proofs.Flats.Turns.{flip_last}
use Rattle.means_area.proofs.Flats.Net.{Ok}
use Rattle.means_area.proofs.Flats.Lowest.{pair_swap}
use Rattle.means_area.proofs.Flats.First.{first_link, last_link}
use Rattle.means_area.proofs.Flats.Chains.{lst_append, lst_of, link_back, link_of, chain_split, chain_left, chain_right, Sub, keep, skip}
use Rattle.means_area.proofs.Flats.Chains.{sub_all, sub_none, sub_left, sub_append, sub_of, sub_distinct, narrow, of_append, of_left}
use Rattle.means_area.proofs.Flats.Chains.{of_right, distinct_across}
use Rattle.means_inside.specs.Beams.{right, OffEverySide, odd}
use Rattle.means_inside.proofs.Parity.{xor_self}
use Rattle.means_inside.proofs.Fan.{fan}
use Rattle.means_inside.proofs.Cap.{by_low}
use Rattle.means_inside.proofs.Segment.{off_link}
use Rattle.means_inside.proofs.Beside.{h, Apart, one_at, same-right, joint, onward, backward}

module _ (m : ℤ) where
  -- ---- the parts
  module _ (v x : Flat) (X : List Flat) (w y : Flat) (Y : List Flat) (s : Simple m (v ∷ x ∷ (X ++ w ∷ y ∷ Y)))
      (low : Least m v (x ∷ (X ++ w ∷ y ∷ Y)))
      (ok : Ok m (Link (v ∷ x ∷ (X ++ w ∷ y ∷ Y))) (λ z. Of z (v ∷ x ∷ (X ++ w ∷ y ∷ Y))) v w)
      (s1 : SameSign (twice_area v x w) (twice_area v x (lst y Y))) (s2 : SameSign (twice_area v w (lst y Y)) (twice_area v x (lst y Y))) where
    abbrev g : List Flat
    g = v ∷ x ∷ (X ++ w ∷ y ∷ Y)

    abbrev P1 : List Flat
    P1 = v ∷ x ∷ (X ++ w ∷ [])

    abbrev P2 : List Flat
    P2 = v ∷ w ∷ y ∷ Y

    abbrev K : Flat → Flat → Type 0
    K p q = Link g p q ⊎ TheTwo v w p q

    sub1 : Sub P1 g
    sub1 = keep (keep (sub_append (sub_all X) (keep (sub_none (y ∷ Y)))))

    sub2 : Sub P2 g
    sub2 = keep (skip (sub_append (sub_none X) (sub_all (w ∷ y ∷ Y))))

    pub in1 : (z : Flat) → Of z P1 → Of z g
    in1 z o = sub_of z sub1 o

    pub in2 : (z : Flat) → Of z P2 → Of z g
    in2 z o = sub_of z sub2 o

    pub f1 : (p q : Flat) → Link P1 p q → K p q
    f1 p q t = go (chain_split v (x ∷ X) w [] v p q t)
      where
        go : Chain v (x ∷ X) w p q ⊎ Chain w [] v p q → K p q
        go (inl d) = inl (chain_left v (x ∷ X) w (y ∷ Y) v p q d)
        go (inr d) = inr (pair_swap w v p q d)

    pub f2 : (p q : Flat) → Link P2 p q → K p q
    f2 p q (inl d) = inr d
    f2 p q (inr d) = inl (chain_right v (x ∷ X) w (y ∷ Y) v p q d)

    pub simple1 : Simple m P1
    simple1 = narrow m g P1 v w s f1 in1 (sub_distinct m sub1 s.apart) ok

    pub simple2 : Simple m P2
    simple2 = narrow m g P2 v w s f2 in2 (sub_distinct m sub2 s.apart) ok

    net : Net m K (λ z. Of z g)
    net = joint m g v w s ok (inl refl) (in2 w (inr (inl refl)))

    pub low1 : Least m v (x ∷ (X ++ w ∷ []))
    low1 z o = low z (sub_of z (keep (sub_append (sub_all X) (keep (sub_none (y ∷ Y))))) o)

    pub low2 : Least m v (w ∷ y ∷ Y)
    low2 z o = low z (sub_of z (skip (sub_append (sub_none X) (sub_all (w ∷ y ∷ Y)))) o)

    -- corners of the one part only
    not2 : (z : Flat) → Of z (x ∷ X) → (r : Flat) → Of r P2 → h m r ≡ h m z → ⊥
    not2 z o r (inl e) q = s.apart.0 z (of_left z (x ∷ X) (w ∷ y ∷ Y) o) (sym q ∙ ap (h m) e)
    not2 z o r (inr k) q = distinct_across m (x ∷ X) (w ∷ y ∷ Y) s.apart.1 z r o k (sym q)

    not1 : (z : Flat) → Of z (y ∷ Y) → (r : Flat) → Of r P1 → h m r ≡ h m z → ⊥
    not1 z o r (inl e) q = s.apart.0 z (of_right z (x ∷ X) (w ∷ y ∷ Y) (inr o)) (sym q ∙ ap (h m) e)
    not1 z o r (inr k) q = go (of_append r (x ∷ X) (w ∷ []) k)
      where
        go : Of r (x ∷ X) ⊎ Of r (w ∷ []) → ⊥
        go (inl t) = distinct_across m (x ∷ X) (w ∷ y ∷ Y) s.apart.1 r z t (inr o) q
        go (inr (inl t)) = simple2.apart.1.0 z o (sym q ∙ ap (h m) t)
        go (inr (inr t)) = t

    clear2 : (z : Flat) → Of z (x ∷ X) → OffEverySide z P2
    clear2 z o p q l =
        let oz = of_left z (x ∷ X) (w ∷ y ∷ Y) o in
        off_link m z p q (not2 z o p (link_of P2 p q l)) (not2 z o q (link_of P2 q p (link_back P2 p q l)))
        (λ c. net.free (f2 p q l) (inr oz) c) (λ c. net.free (f2 q p (link_back P2 p q l)) (inr oz) c)

    clear1 : (z : Flat) → Of z (y ∷ Y) → OffEverySide z P1
    clear1 z o p q l =
        let oz = of_right z (x ∷ X) (w ∷ y ∷ Y) (inr o) in
        off_link m z p q (not1 z o p (link_of P1 p q l)) (not1 z o q (link_of P1 q p (link_back P1 p q l)))
        (λ c. net.free (f1 p q l) (inr oz) c) (λ c. net.free (f1 q p (link_back P1 p q l)) (inr oz) c)

    -- from x on, outside of the second
    start2 : odd x P2 ≡ false
    start2 =
        by_low m x v P2 (clear2 x (inl refl)) (low x (inl refl))
        ∙ fan m x v w (y ∷ Y) low2
        (record {
          up = low x (inl refl);
          uncut = (λ a b k c. net.clear (inl (first_link m v x (X ++ w ∷ y ∷ Y))) (f2 a b k) c);
          bare = (λ a k c. net.free (inl (first_link m v x (X ++ w ∷ y ∷ Y))) (in2 a k) c);
        })
        ∙ ap (λ (b : Bool). xor b (right x v (lst y Y))) (same-right m x v w (lst y Y) s1) ∙ xor_self (right x v (lst y Y))

    sub_x : Sub (x ∷ X) g
    sub_x = skip (keep (sub_left X (w ∷ y ∷ Y)))

    pub outside2 : (z : Flat) → Of z (x ∷ X) → odd z P2 ≡ false
    outside2 =
        onward m K (λ z. Of z g) net P2 f2 in2 x X w (sub_distinct m sub_x s.apart)
        (λ p q c. inl (chain_left v (x ∷ X) w (y ∷ Y) v p q (inr c))) clear2 start2

    -- from the last back, outside of the first
    v_last : Link g v (lst y Y)
    v_last = subst (λ (z : Flat). Link g v z) (lst_append x X w (y ∷ Y)) (last_link m v x (X ++ w ∷ y ∷ Y))

    start1 : odd (lst y Y) P1 ≡ false
    start1 =
        let a = lst y Y in
        let k = low a (of_right a (x ∷ X) (w ∷ y ∷ Y) (inr (lst_of y Y))) in
        by_low m a v P1 (clear1 a (lst_of y Y)) k
        ∙ fan m a v x (X ++ w ∷ []) low1
        (record {
          up = k;
          uncut = (λ p q t c. net.clear (inl v_last) (f1 p q t) c);
          bare = (λ p t c. net.free (inl v_last) (in1 p t) c);
        })
        ∙ ap (λ (z : Flat). xor (right a v x) (right a v z)) (lst_append x X w [])
        ∙ ap (λ (b : Bool). xor b (right a v w)) (same-right m a v x w (flip-same s2)) ∙ xor_self (right a v w)
      where
        flip-same : SameSign (twice_area v w (lst y Y)) (twice_area v x (lst y Y)) → SameSign (twice_area v (lst y Y) x) (twice_area v (lst y Y) w)
        flip-same (both p q) = none (up_is (flip_last v x (lst y Y)) q) (up_is (flip_last v w (lst y Y)) p)
        flip-same (none p q) = both (up_is (sym (flip_last v (lst y Y) x)) q) (up_is (sym (flip_last v (lst y Y) w)) p)

    pub outside1 : (z : Flat) → Of z (y ∷ Y) → odd z P1 ≡ false
    outside1 =
        backward m K (λ z. Of z g) net P1 f1 in1 y Y v simple2.apart.1.1
        (λ p q c. inl (chain_right v (x ∷ X) w (y ∷ Y) v p q (inr c)))
        clear1 start1

    -- the common corners
    common : (z : Flat) → Of z P1 → Of z P2 → (z ≡ v) ⊎ (z ≡ w)
    common z (inl e) k = inl e
    common z (inr o) k = go (of_append z (x ∷ X) (w ∷ []) o)
      where
        go : Of z (x ∷ X) ⊎ Of z (w ∷ []) → (z ≡ v) ⊎ (z ≡ w)
        go (inl t) = absurd (not2 z t z k refl)
        go (inr (inl t)) = inr t
        go (inr (inr t)) = absurd t

    vw1 : Link P1 v w
    vw1 = subst (λ (z : Flat). Link P1 v z) (lst_append x X w []) (last_link m v x (X ++ w ∷ []))

    pub parts : Apart m P1 P2
    parts = record {
      sp = simple1;
      sr = simple2;
      np = let e = length-append X (w ∷ []) in omega (arith, e);
      nr = omega arith;
      clear = (λ p q r t l k c. net.clear (f1 p q l) (f2 r t k) c);
      free_p = (λ p q r l k c. net.free (f1 p q l) (in2 r k) c);
      free_r = (λ p q r l k c. net.free (f2 p q l) (in1 r k) c);
      one = (λ p r o k e. one_at m g s.apart p r (in1 p o) (in2 r k) e);
      out_p = out1;
      out_r = out2;
      link = (λ a b oa ob ka kb n. linked a b (common a oa ka) (common b ob kb) n);
      share = (λ a b c oa ob oc ka kb kc n1 n2 n3. three a b c (common a oa ka) (common b ob kb) (common c oc kc) n1 n2 n3);
    }
      where
        out1 : (z : Flat) → Of z P2 → (Of z P1 → ⊥) → odd z P1 ≡ false
        out1 z (inl e) n = absurd (n (inl e))
        out1 z (inr (inl e)) n = absurd (n (inr (of_right z (x ∷ X) (w ∷ []) (inl e))))
        out1 z (inr (inr o)) n = outside1 z o

        out2 : (z : Flat) → Of z P1 → (Of z P2 → ⊥) → odd z P2 ≡ false
        out2 z (inl e) n = absurd (n (inl e))
        out2 z (inr o) n = go (of_append z (x ∷ X) (w ∷ []) o)
          where
            go : Of z (x ∷ X) ⊎ Of z (w ∷ []) → odd z P2 ≡ false
            go (inl t) = outside2 z t
            go (inr (inl t)) = absurd (n (inr (inl t)))
            go (inr (inr t)) = absurd t

        put : (a b : Flat) → Link P1 v w × Link P2 v w → a ≡ v → b ≡ w → Link P1 a b × Link P2 a b
        put a b q ea eb =
            subst (λ (t : Flat). Link P1 t b × Link P2 t b) (sym ea) (subst (λ (t : Flat). Link P1 v t × Link P2 v t) (sym eb) q)

        linked : (a b : Flat) → (a ≡ v) ⊎ (a ≡ w) → (b ≡ v) ⊎ (b ≡ w) → (h m a ≡ h m b → ⊥) → Link P1 a b × Link P2 a b
        linked a b (inl e) (inl f) n = absurd (n (ap (h m) (e ∙ sym f)))
        linked a b (inr e) (inr f) n = absurd (n (ap (h m) (e ∙ sym f)))
        linked a b (inl e) (inr f) n = put a b (vw1, first_link m v w (y ∷ Y)) e f
        linked a b (inr e) (inl f) n =
            let q = put b a (vw1, first_link m v w (y ∷ Y)) f e in
            (link_back P1 b a q.0, link_back P2 b a q.1)

        three : (a b c : Flat) → (a ≡ v) ⊎ (a ≡ w) → (b ≡ v) ⊎ (b ≡ w) → (c ≡ v) ⊎ (c ≡ w) → (h m a ≡ h m b → ⊥) → (h m b ≡ h m c → ⊥)
            → (h m a ≡ h m c → ⊥) → ⊥
        three a b c (inl e) (inl f) k n1 n2 n3 = n1 (ap (h m) (e ∙ sym f))
        three a b c (inr e) (inr f) k n1 n2 n3 = n1 (ap (h m) (e ∙ sym f))
        three a b c (inl e) (inr f) (inl k) n1 n2 n3 = n3 (ap (h m) (e ∙ sym k))
        three a b c (inl e) (inr f) (inr k) n1 n2 n3 = n2 (ap (h m) (f ∙ sym k))
        three a b c (inr e) (inl f) (inl k) n1 n2 n3 = n2 (ap (h m) (f ∙ sym k))
        three a b c (inr e) (inl f) (inr k) n1 n2 n3 = n3 (ap (h m) (e ∙ sym k))
