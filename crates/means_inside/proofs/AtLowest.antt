-- At the lowest corner of both rings: no point is odd in both, if none is with fewer corners.
use mathlib.Core.Path.{◌≡◌, refl, sym, ◌∙◌, ap, subst}
use mathlib.Core.Bool.{Bool, true, false, xor, true≢false}
use mathlib.Core.Logic.{◌⊎◌, inl, inr}
use mathlib.Core.List.{List, [], ◌∷◌, ◌++◌}
use Prim.Native.Nat.{ℕ, suc, ◌+◌, ◌≤◌}
use native.Mathlib.Omega.{arith}
use lib.ListN.{length}
use lib.IntN.{ℤ, pos, neg_ℤ}
use lib.Signed.{◌<ℤ◌, <ℤ_irrefl}
use Rattle.lists.proofs.Truth.{false_xor}
use Rattle.paper.specs.declared.Flat.{Flat}
use Rattle.means_area.specs.Rings.{Of, TheTwo, Chain, Link}
use Rattle.means_area.specs.Flats.{Nn, twice_area, Cross, Net, Least, SameSign, lst}
use Rattle.means_area.proofs.Flats.Signs.{up_is, same_ne, same_is, same_is2}
use Rattle.means_area.proofs.Flats.Turns.{spin, flat-second}
use Rattle.means_area.proofs.Flats.Net.{Ok}
use Rattle.means_area.proofs.Flats.Choice.{Hit, ear_ok}
use Rattle.means_area.proofs.Flats.Lowest.{of_split}
use Rattle.means_area.proofs.Flats.First.{first_link, last_link, ends-apart, only-first, not_flat, ear_simple, rest_link}
use Rattle.means_area.proofs.Flats.Chains.{lst_append, lst_of, link_back, link_of, chain_end, of_append, of_left}
use Rattle.means_area.proofs.Flats.Chains.{of_right}
use Rattle.means_inside.specs.Beams.{beam, facing, Off, OffEverySide, odd, east, Seen}
use Rattle.means_inside.proofs.Parity.{round-ear}
use Rattle.means_inside.proofs.Segment.{off_link, off_low, beam_back}
use Rattle.means_inside.proofs.Look.{Between, View, Look, empty, far, look, view_ear}
use Rattle.means_inside.proofs.Ears.{off_or, bool, chord_hit, odd_hit, odd_two, between-odd, low_even}
use Rattle.means_inside.proofs.Beside.{Apart, clear_out, member}
use Rattle.means_inside.proofs.Chorded.{by_cut}
use Rattle.means_inside.proofs.Together.{eqd, clear_with, h, sub_apart, together, fewer, Disjoint}

module _ (m : ℤ) where
  module _ (n : ℕ) (ih : Disjoint m n) (R : List Flat) where
    -- ---- at the lowest corner of both
    module _ (v x : Flat) (l : List Flat) (t : Apart m (v ∷ x ∷ l) R) (bound : length (v ∷ x ∷ l) + length R ≤ suc n)
        (low : Least m v (x ∷ l))
        (even : (p : Flat) → OffEverySide p R → Seen m v p R → Between v x (lst x l) p → odd p R ≡ false)
        (notin : (q : Flat) → Link R v q → Between v x (lst x l) q → ⊥) where
      abbrev P : List Flat
      P = v ∷ x ∷ l

      abbrev z0 : Flat
      z0 = lst x l

      abbrev J : Flat → Flat → Type 0
      J a b = Link P a b ⊎ Link R a b

      net : Net m J (λ z. Of z (P ++ R))
      net = together m P R t

      long : 1 ≤ length l
      long = let k = t.np in omega (arith, k)

      hx : h m v <ℤ (h m) x
      hx = low x (inl refl)

      hy : h m v <ℤ (h m) z0
      hy = low z0 (lst_of x l)

      vx : Link P v x
      vx = first_link m v x l

      vy : Link P v z0
      vy = last_link m v x l

      apart : h m x ≡ h m z0 → ⊥
      apart = ends-apart m v x l long t.sp.apart

      crooked : twice_area v x z0 ≡ pos 0 → ⊥
      crooked = not_flat m v x l long t.sp hx hy

      abbrev Vw : Flat → Type 0
      Vw p = View m J (P ++ R) net v x z0 (inl vx) (inl vy) hx hy p

      seen_r : (p : Flat) → Vw p → Seen m v p R
      seen_r p w =
          record {
            up = w.up;
            uncut = (λ a b k c. w.ok.uncut (inr k) c);
            bare = (λ a o c. w.ok.bare (of_right a P R o) c);
          }

      seen_p : (p : Flat) → Vw p → Seen m v p P
      seen_p p w =
          record { up = w.up; uncut = (λ a b k c. w.ok.uncut (inl k) c); bare = (λ a o c. w.ok.bare (of_left a P R o) c) }

      viewed : (p : Flat) → Vw p → OffEverySide p R → odd p R ≡ false
      viewed p w c = even p c (seen_r p w) w.mid

      -- ---- the triangle is empty
      module _ (e : (z : Flat) → Of z (P ++ R) → Hit v x z0 z → ⊥) where
        e_p : (z : Flat) → Of z P → Hit v x z0 z → ⊥
        e_p z o = e z (of_left z P R o)

        hit : (p : Flat) → Hit v x z0 p → OffEverySide p R → odd p R ≡ false
        hit p i c = viewed p (view_ear m J (P ++ R) net v x z0 (inl vx) (inl vy) hx hy e p i) c

        -- without R's links at v
        abbrev J' : Flat → Flat → Type 0
        J' a b = Link P a b ⊎ (Link R a b × (h m a ≡ h m v → ⊥) × (h m b ≡ h m v → ⊥))

        okc : Ok m J' (λ z. Of z (P ++ R)) x z0
        okc = ear_ok m J' (P ++ R) (fewer m J J' (λ z. Of z (P ++ R)) net wide turnback) v x z0 (inl vx) (inl vy) hx hy apart only e
          where
            wide : (a b : Flat) → J' a b → J a b
            wide a b (inl k) = inl k
            wide a b (inr k) = inr k.0

            turnback : (a b : Flat) → J' a b → J' b a
            turnback a b (inl k) = inl (link_back P a b k)
            turnback a b (inr k) = inr (link_back R a b k.0, k.2, k.1)

            only : (q : Flat) → J' v q → (q ≡ x) ⊎ (q ≡ z0)
            only q (inl k) = only-first m v x l t.sp.apart.0 q k
            only q (inr k) = absurd (k.1 refl)

        uncut_r : (a b : Flat) → Link R a b → Cross x z0 a b → ⊥
        uncut_r a b k c = go (eqd (h m a) (h m v)) (eqd (h m b) (h m v))
          where
            at_a : a ≡ v → ⊥
            at_a q =
                let c' = subst (λ (z : Flat). Cross x z0 z b) q c in
                notin b (subst (λ (z : Flat). Link R z b) q k) (inl (up_is (spin b v x) c'.behind, c'.ahead))

            at_b : b ≡ v → ⊥
            at_b q =
                let c' = subst (λ (z : Flat). Cross x z0 a z) q c in
                notin a (link_back R a v (subst (λ (z : Flat). Link R a z) q k)) (inr (up_is (spin a v z0) c'.ahead, c'.behind))

            go : (h m a ≡ h m v) ⊎ (h m a ≡ h m v → ⊥) → (h m b ≡ h m v) ⊎ (h m b ≡ h m v → ⊥) → ⊥
            go (inl q) r = at_a (sym (t.one v a (inl refl) (link_of R a b k) (sym q)))
            go (inr q) (inl r) = at_b (sym (t.one v b (inl refl) (link_of R b a (link_back R a b k)) (sym r)))
            go (inr q) (inr r) = okc.uncut (inr (k, q, r)) c

        sum3 : (p : Flat) → odd p P ≡ xor (odd p (v ∷ x ∷ z0 ∷ [])) (odd p (x ∷ l))
        sum3 p = round-ear (beam p (east p)) v x l (beam_back p (east p) z0 x)

        -- not in the triangle
        rest : (p : Flat) → OffEverySide p P → Off p x z0 → (Hit v x z0 p → ⊥) → odd p P ≡ odd p (x ∷ l)
        rest p c oc nh = sum3 p ∙ go (bool (odd p (v ∷ x ∷ z0 ∷ [])))
          where
            go : (odd p (v ∷ x ∷ z0 ∷ []) ≡ true) ⊎ (odd p (v ∷ x ∷ z0 ∷ []) ≡ false)
                → xor (odd p (v ∷ x ∷ z0 ∷ [])) (odd p (x ∷ l)) ≡ odd p (x ∷ l)
            go (inl q) = absurd (nh (odd_hit v x z0 p (c v x vx) (c v z0 vy) crooked oc q))
            go (inr q) = ap (λ (b : Bool). xor b (odd p (x ∷ l))) q ∙ false_xor (odd p (x ∷ l))

        off_xy : (z : Flat) → Of z R → (Of z (x ∷ l) → ⊥) → Off z x z0
        off_xy z o nay =
            off_link m z x z0 (λ q. nay (subst (λ (y : Flat). Of y (x ∷ l)) (t.one x z (inr (inl refl)) o q) (inl refl)))
            (λ q. nay (subst (λ (y : Flat). Of y (x ∷ l)) (t.one z0 z (inr (lst_of x l)) o q) (lst_of x l)))
            (λ c. okc.bare (of_right z P R o) c) (λ c. okc.bare_back (of_right z P R o) c)

        clear_v : OffEverySide v (x ∷ l)
        clear_v a b k = off_low m v a b (low a (link_of (x ∷ l) a b k)) (low b (link_of (x ∷ l) b a (link_back (x ∷ l) a b k)))

        out' : (z : Flat) → Of z R → (Of z (x ∷ l) → ⊥) → odd z (x ∷ l) ≡ false
        out' z o nay = go (member m P R t z o)
          where
            go : Of z P ⊎ (Of z P → ⊥) → odd z (x ∷ l) ≡ false
            go (inl (inl q)) = ap (λ (y : Flat). odd y (x ∷ l)) q ∙ low_even m v x l low clear_v
            go (inl (inr q)) = absurd (nay q)
            go (inr q) = sym (rest z (clear_out m P R t z o q) (off_xy z o nay) (e z (of_right z P R o))) ∙ t.out_p z o q

        keep' : (a b : Flat) → Link P a b → Of a (x ∷ l) → Of b (x ∷ l) → Link (x ∷ l) a b
        keep' a b (inl (inl q)) oa ob = absurd (t.sp.apart.0 a oa (ap (h m) q.0))
        keep' a b (inl (inr q)) oa ob = absurd (t.sp.apart.0 b ob (ap (h m) q.1))
        keep' a b (inr k) oa ob = go (chain_end x l v x a b k)
          where
            go : Chain x l x a b ⊎ TheTwo z0 v a b → Link (x ∷ l) a b
            go (inl c) = c
            go (inr (inl q)) = absurd (t.sp.apart.0 b ob (ap (h m) q.1))
            go (inr (inr q)) = absurd (t.sp.apart.0 a oa (ap (h m) q.0))

        smaller : 3 ≤ length (x ∷ l) → Apart m (x ∷ l) R
        smaller k =
            sub_apart m P (x ∷ l) R x z0 t (ear_simple m v x l long t.sp hx hy e_p) k (rest_link v x l) (λ z o. inr o) keep' uncut_r
            (λ r o c. okc.bare (of_right r P R o) c) (λ r o c. okc.bare_back (of_right r P R o) c) out'

        by_ear : (p : Flat) → OffEverySide p P → OffEverySide p R → odd p P ≡ true → odd p R ≡ true → ⊥
        by_ear p c cR o oR = go (off_or p x z0)
          where
            nh : Hit v x z0 p → ⊥
            nh i = true≢false (sym oR ∙ hit p i cR)

            go : Off p x z0 ⊎ ((twice_area x z0 p ≡ pos 0) × Nn (neg_ℤ (facing p x z0))) → ⊥
            go (inr q) = nh (chord_hit v x z0 p (c v x vx) (c v z0 vy) crooked q.0 q.1)
            go (inl q) = last l refl
              where
                o' : odd p (x ∷ l) ≡ true
                o' = sym (rest p c q nh) ∙ o

                big : 2 ≤ length l → ⊥
                big k =
                    ih (x ∷ l) R (omega (arith, bound)) (smaller (omega (arith, k))) p (clear_with p P (x ∷ l) x z0 c q (rest_link v x l))
                    cR o' oR

                last : (k : List Flat) → l ≡ k → ⊥
                last [] eq = let j = subst (λ (r : List Flat). 1 ≤ length r) eq long in absurd (omega (arith, j))
                last (a ∷ []) eq = true≢false (sym o' ∙ ap (λ (r : List Flat). odd p (x ∷ r)) eq ∙ odd_two p x a)
                last (a ∷ (b ∷ k)) eq = big (subst (λ (r : List Flat). 2 ≤ length r) (sym eq) (omega arith))

      -- ---- a chord to w
      CutGoal : Flat → List Flat → Type 0
      CutGoal w l =
          Apart m (v ∷ x ∷ l) R → length (v ∷ x ∷ l) + length R ≤ suc n → Least m v (x ∷ l)
          → Ok m (Link (v ∷ x ∷ l)) (λ z. Of z (v ∷ x ∷ l)) v w → SameSign (twice_area v x w) (twice_area v x (lst x l))
          → SameSign (twice_area v w (lst x l)) (twice_area v x (lst x l))
          → ((p : Flat) → OffEverySide p (v ∷ x ∷ l) → OffEverySide p R → odd p (v ∷ x ∷ l) ≡ true → odd p R ≡ true → ⊥)

      module _ (w : Flat) (vw : Vw w) (on : (p : Flat) → twice_area v w p ≡ pos 0 → Nn (neg_ℤ (facing p v w)) → (p ≡ v → ⊥) → Vw p) where
        split_cut : (X Y : List Flat) → CutGoal w (X ++ w ∷ Y)
        unfolding CutGoal
        split_cut X [] t' b' low' ok s1 s2 = absurd (same_ne s2 (ap (twice_area v w) (lst_append x X w []) ∙ flat-second v w))
        split_cut X (y ∷ Y) t' b' low' ok s1 s2 =
            let q = lst_append x X w (y ∷ Y) in
            by_cut m n ih R v x X w y Y t' b' low' ok (same_is2 (ap (twice_area v x) q) s1)
            (same_is2 (ap (twice_area v x) q) (same_is (ap (twice_area v w) q) s2))
            (λ a b k c. vw.ok.uncut (inr k) c) (λ r o c. vw.ok.bare (of_right r P R o) c)
            (λ r o c. vw.ok.bare_back (of_right r P R o) c)
            (λ p e f nv cR. viewed p (on p e f nv) cR)

        ok_p : Ok m (Link P) (λ z. Of z P) v w
        ok_p =
            record {
              uncut = (λ {p} {q} k c. vw.ok.uncut (inl k) c);
              bare = (λ {r} o c. vw.ok.bare (of_left r P R o) c);
              bare_back = (λ {r} o c. vw.ok.bare_back (of_left r P R o) c);
            }

        by_far : Of w P → SameSign (twice_area v x w) (twice_area v x z0) → SameSign (twice_area v w z0) (twice_area v x z0) → (p : Flat) → OffEverySide p P → OffEverySide p R
            → odd p P ≡ true → odd p R ≡ true → ⊥
        unfolding CutGoal
        by_far (inl e) s1 s2 = absurd (<ℤ_irrefl (subst (λ (z : Flat). h m v <ℤ (h m) z) e vw.up))
        by_far (inr (inl e)) s1 s2 = absurd (same_ne s1 (ap (twice_area v x) e ∙ flat-second v x))
        by_far (inr (inr o)) s1 s2 =
            let k = of_split w l o in
            subst (CutGoal w) (sym k.is) (split_cut k.before k.after) t bound low ok_p s1 s2

        -- w is a corner of P
        of_p : Of w (P ++ R) → Of w P
        of_p o = go (of_append w P R o)
          where
            pick : Of w R → Of w P ⊎ (Of w P → ⊥) → Of w P
            pick k (inl q) = q
            pick k (inr q) =
                absurd (true≢false (sym (between-odd m v x l low w (clear_out m P R t w k q) (seen_p w vw) vw.mid) ∙ t.out_p w k q))

            go : Of w P ⊎ Of w R → Of w P
            go (inl k) = k
            go (inr k) = pick k (member m P R t w k)

      pub at-lowest : (p : Flat) → OffEverySide p P → OffEverySide p R → odd p P ≡ true → odd p R ≡ true → ⊥
      at-lowest = go (look m J (P ++ R) net v x z0 (inl vx) (inl vy) hx hy apart)
        where
          go : Look m J (P ++ R) net v x z0 (inl vx) (inl vy) hx hy → (p : Flat) → OffEverySide p P → OffEverySide p R → odd p P ≡ true → odd p R ≡ true
              → ⊥
          go (empty e) = by_ear e
          go (far w o vw s1 s2 on) = by_far w vw on (of_p w vw on o) s1 s2
