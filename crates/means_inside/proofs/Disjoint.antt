-- No point is odd in both of two rings that are apart. By induction on the number of corners, at the lowest corner of both.
use mathlib.Core.Path.{◌≡◌, refl, sym, ◌∙◌, ap, subst}
use mathlib.Core.Bool.{Bool, true, false, xor, true≢false}
use mathlib.Core.Logic.{◌⊎◌, inl, inr}
use mathlib.Core.List.{List, ◌∷◌}
use Prim.Native.Nat.{ℕ, zero, suc, ◌+◌, ◌≤◌}
use native.Mathlib.Omega.{arith}
use lib.ListN.{length}
use lib.IntN.{ℤ, pos, neg_ℤ}
use lib.Signed.{◌<ℤ◌, <ℤ_irrefl}
use Rattle.exact.proofs.Signs.{<ℤ-ne}
use Rattle.exact.proofs.Order.{lt_chain}
use Rattle.paper.specs.declared.Flat.{Flat}
use Rattle.means_area.specs.Rings.{Of, Link}
use Rattle.means_area.specs.Flats.{Up, Nn, twice_area, Least, lst}
use Rattle.means_area.proofs.Flats.Signs.{up_is, nn_is, zero_off}
use Rattle.means_area.proofs.Flats.Turns.{spin, flip, flip_last, flat-second}
use Rattle.means_area.proofs.Flats.Choice.{compare}
use Rattle.means_area.proofs.Flats.First.{first_link, last_link, ends-apart, only-first}
use Rattle.means_area.proofs.Flats.Chains.{lst_of, link_back, link_of}
use Rattle.means_area.proofs.Flats.Chains.{cross_turned}
use Rattle.means_inside.specs.Beams.{right, OffEverySide, odd, Seen}
use Rattle.means_inside.proofs.Parity.{xor_self}
use Rattle.means_inside.proofs.Beams.{yes_low, no_low}
use Rattle.means_inside.proofs.Fan.{fan, apart-fan}
use Rattle.means_inside.proofs.Cap.{by_low}
use Rattle.means_inside.proofs.Look.{Ang, Between, ang}
use Rattle.means_inside.proofs.Ears.{bool, between-odd}
use Rattle.means_inside.proofs.Beside.{Apart, swap, clear_out, member}
use Rattle.means_inside.proofs.AtLowest.{at-lowest}
use Rattle.means_inside.proofs.Form.{form, formed}
use Rattle.means_inside.proofs.Together.{h, Disjoint}

module _ (m : ℤ) where
  -- ---- R is above v
  above : (n : ℕ) → Disjoint m n → (v x : Flat) (l R : List Flat) → Apart m (v ∷ x ∷ l) R → length (v ∷ x ∷ l) + length R ≤ suc n
      → Least m v (x ∷ l) → Least m v R
      → (p : Flat) → OffEverySide p (v ∷ x ∷ l) → OffEverySide p R → odd p (v ∷ x ∷ l) ≡ true → odd p R ≡ true → ⊥
  above n ih v x l R t b low lowR =
      at-lowest m n ih R v x l t b low (λ p c s k. by_low m p v R c s.up ∙ apart-fan m p v R lowR s)
      (λ q k i. absurd (<ℤ_irrefl (lowR v (link_of R v q k))))

  -- ---- v is in both
  -- a link of R at v is not in P's angle
  outside_angle : (v x : Flat) (l : List Flat) (x' : Flat) (l' : List Flat) → Apart m (v ∷ x ∷ l) (v ∷ x' ∷ l') → Least m v (x ∷ l)
      → Least m v (x' ∷ l') → (q : Flat) → Link (v ∷ x' ∷ l') v q → Between v x (lst x l) q → ⊥
  outside_angle v x l x' l' t low low' q k i = go (member m P R t q oq)
    where
      P : List Flat
      P = v ∷ x ∷ l

      R : List Flat
      R = v ∷ x' ∷ l'

      oq : Of q (v ∷ x' ∷ l')
      oq = link_of (v ∷ x' ∷ l') q v (link_back (v ∷ x' ∷ l') v q k)

      above_v : (q ≡ x') ⊎ (q ≡ lst x' l') → h m v <ℤ (h m) q
      above_v (inl e) = low' q (inl e)
      above_v (inr e) = low' q (subst (λ (z : Flat). Of z (x' ∷ l')) (sym e) (lst_of x' l'))

      hq : h m v <ℤ (h m) q
      hq = above_v (only-first m v x' l' t.sr.apart.0 q k)

      -- a side of the angle is not in it
      at_x : (z : Flat) → (z ≡ x) ⊎ (z ≡ lst x l) → Between v x (lst x l) z → ⊥
      at_x z (inl e) (inl u) = zero_off (ap (twice_area v x) e ∙ flat-second v x) u.0
      at_x z (inl e) (inr u) = zero_off (ap (λ (y : Flat). twice_area v y x) e ∙ flat-second v x) u.1
      at_x z (inr e) (inl u) = zero_off (ap (λ (y : Flat). twice_area v y (lst x l)) e ∙ flat-second v (lst x l)) u.1
      at_x z (inr e) (inr u) = zero_off (ap (twice_area v (lst x l)) e ∙ flat-second v (lst x l)) u.0

      go : Of q (v ∷ x ∷ l) ⊎ (Of q (v ∷ x ∷ l) → ⊥) → ⊥
      go (inl o) = at_x q (only-first m v x l t.sp.apart.0 q (t.link v q (inl refl) o (inl refl) oq (λ e. <ℤ-ne hq e)).0) i
      go (inr o) = true≢false (sym (between-odd m v x l low q (clear_out m (v ∷ x ∷ l) (v ∷ x' ∷ l') t q oq o) (record {
        up = hq;
        uncut = (λ a b j c. t.clear a b q v j (link_back (v ∷ x' ∷ l') v q k) (cross_turned m c));
        bare = (λ a j c. t.free_r v q a k j c);
      }) i) ∙ t.out_p q oq o)

  -- two links at v in one line are one
  in_line_lem : (P R : List Flat) → Apart m P R → (v a a' : Flat) → Link P v a → Link R v a' → h m v <ℤ (h m) a → h m v <ℤ (h m) a'
      → twice_area v a a' ≡ pos 0
      → a ≡ a'
  in_line_lem P R t v a a' k k' ha ha' e = go (compare (h m a) (h m a'))
    where
      go : (h m a <ℤ (h m) a') ⊎ ((h m a ≡ h m a') ⊎ (h m a' <ℤ (h m) a)) → a ≡ a'
      go (inl q) =
          absurd
          (t.free_r v a' a k' (link_of P a v (link_back P v a k))
          (record { line = flip_last v a' a ∙ ap neg_ℤ e; after = ha; before = q }))
      go (inr (inl q)) = t.one a a' (link_of P a v (link_back P v a k)) (link_of R a' v (link_back R v a' k')) q
      go (inr (inr q)) = absurd (t.free_p v a a' k (link_of R a' v (link_back R v a' k')) (record { line = e; after = ha'; before = q }))

  module _ (v x : Flat) (l : List Flat) (x' : Flat) (l' : List Flat) (t : Apart m (v ∷ x ∷ l) (v ∷ x' ∷ l')) (low : Least m v (x ∷ l))
      (low' : Least m v (x' ∷ l')) where
    abbrev PA : List Flat
    PA = v ∷ x ∷ l

    abbrev Ra : List Flat
    Ra = v ∷ x' ∷ l'

    -- the angles have no common direction
    clash : (a b a' b' p : Flat) → Link PA v a → Link PA v b → Link Ra v a' → Link Ra v b' → h m v <ℤ (h m) a → h m v <ℤ (h m) b
        → h m v <ℤ (h m) a'
        → h m v <ℤ (h m) b' → h m v <ℤ (h m) p → (h m a ≡ h m b → ⊥)
        → ((q : Flat) → Ang v a b q → Between v x (lst x l) q) → ((q : Flat) → Ang v a' b' q → Between v x' (lst x' l') q)
        → Ang v a b p → Up (twice_area v a' p) → Nn (twice_area v p b') → ⊥
    clash a b a' b' p ka kb ka' kb' ha hb ha' hb' hp ne f f' i s s' =
        let z = ang m v a b a' b' p ha hb ha' hb' hp i.0 i.1 s s'
        (λ j. outside_angle v x l x' l' t low low' a' ka' (f a' j)) (λ j. outside_angle v x l x' l' t low low' b' kb' (f b' j))
        (λ j. outside_angle v x' l' x l (swap m PA Ra t) low' low a ka (f' a j))
        (λ j. outside_angle v x' l' x l (swap m PA Ra t) low' low b kb (f' b j)) in
        let ea = in_line_lem PA Ra t v a a' ka ka' ha ha' z.0 in
        let eb = in_line_lem PA Ra t v b b' kb kb' hb hb' z.1 in
        t.share v a b (inl refl) (link_of PA a v (link_back PA v a ka)) (link_of PA b v (link_back PA v b kb)) (inl refl)
        (subst (λ (y : Flat). Of y Ra) (sym ea) (link_of Ra a' v (link_back Ra v a' ka')))
        (subst (λ (y : Flat). Of y Ra) (sym eb) (link_of Ra b' v (link_back Ra v b' kb')))
        (λ e. <ℤ-ne ha e) ne (λ e. <ℤ-ne hb e)

    longer : 1 ≤ length l
    longer = let k = t.np in omega (arith, k)

    even_at : (p : Flat) → OffEverySide p Ra → Seen m v p Ra → Between v x (lst x l) p → odd p Ra ≡ false
    unfolding right
    even_at p c s i =
        by_low m p v Ra c s.up ∙ fan m p v x' l' low' s
        ∙ ap (λ (b : Bool). xor b (right p v (lst x' l'))) (go (bool (right p v x')) (bool (right p v (lst x' l'))))
        ∙ xor_self (right p v (lst x' l'))
      where
        left : (q : Flat) → right p v q ≡ false → Up (twice_area v q p)
        left q e = up_is (spin p v q) (no_low (twice_area p v q) e)

        weak : (q : Flat) → right p v q ≡ true → Nn (twice_area v p q)
        weak q e = nn_is (sym (flip v p q)) (yes_low (twice_area p v q) e)

        k1 : Link PA v x
        k1 = first_link m v x l

        k2 : Link PA v (lst x l)
        k2 = last_link m v x l

        k3 : Link Ra v x'
        k3 = first_link m v x' l'

        k4 : Link Ra v (lst x' l')
        k4 = last_link m v x' l'

        h1 : h m v <ℤ (h m) x
        h1 = low x (inl refl)

        h2 : h m v <ℤ (h m) (lst x l)
        h2 = low (lst x l) (lst_of x l)

        h3 : h m v <ℤ (h m) x'
        h3 = low' x' (inl refl)

        h4 : h m v <ℤ (h m) (lst x' l')
        h4 = low' (lst x' l') (lst_of x' l')

        ne : h m x ≡ h m (lst x l) → ⊥
        ne = ends-apart m v x l longer t.sp.apart

        meet : (a' b' : Flat) → Link Ra v a' → Link Ra v b' → h m v <ℤ (h m) a' → h m v <ℤ (h m) b'
            → ((q : Flat) → Ang v a' b' q → Between v x' (lst x' l') q) → right p v a' ≡ false → right p v b' ≡ true
            → Between v x (lst x l) p → ⊥
        meet a' b' ka' kb' ha' hb' f' ea eb (inl j) =
            clash x (lst x l) a' b' p k1 k2 ka' kb' h1 h2 ha' hb' s.up ne (λ q u. inl u) f' j (left a' ea) (weak b' eb)
        meet a' b' ka' kb' ha' hb' f' ea eb (inr j) =
            clash (lst x l) x a' b' p k2 k1 ka' kb' h2 h1 ha' hb' s.up (λ q. ne (sym q)) (λ q u. inr u) f' j (left a' ea) (weak b' eb)

        go : (right p v x' ≡ true) ⊎ (right p v x' ≡ false) → (right p v (lst x' l') ≡ true) ⊎ (right p v (lst x' l') ≡ false)
            → right p v x' ≡ right p v (lst x' l')
        go (inl a) (inl b) = a ∙ sym b
        go (inr a) (inr b) = a ∙ sym b
        go (inr a) (inl b) = absurd (meet x' (lst x' l') k3 k4 h3 h4 (λ q u. inl u) a b i)
        go (inl a) (inr b) = absurd (meet (lst x' l') x' k4 k3 h4 h3 (λ q u. inr u) b a i)

    at : (n : ℕ) → Disjoint m n → length PA + length Ra ≤ suc n → (p : Flat) → OffEverySide p PA → OffEverySide p Ra → odd p PA ≡ true → odd p Ra ≡ true
        → ⊥
    at n ih b = at-lowest m n ih Ra v x l t b low even_at (λ q k i. outside_angle v x l x' l' t low low' q k i)

  both_formed : (n : ℕ) → Disjoint m n → (v x : Flat) (l : List Flat) (v' x' : Flat) (l' : List Flat) → Apart m (v ∷ x ∷ l) (v' ∷ x' ∷ l')
      → Least m v (x ∷ l) → Least m v' (x' ∷ l') → length (v ∷ x ∷ l) + length (v' ∷ x' ∷ l') ≤ suc n
      → (p : Flat) → OffEverySide p (v ∷ x ∷ l) → OffEverySide p (v' ∷ x' ∷ l') → odd p (v ∷ x ∷ l) ≡ true → odd p (v' ∷ x' ∷ l') ≡ true → ⊥
  both_formed n ih v x l v' x' l' t low low' b = go (compare (h m v) (h m v'))
    where
      all : (v : Flat) (v' : Flat) (r : List Flat) → h m v <ℤ (h m) v' → Least m v' r → (z : Flat) → Of z (v' ∷ r) → h m v <ℤ (h m) z
      all v v' r k f z (inl e) = subst (λ (y : Flat). h m v <ℤ (h m) y) (sym e) k
      all v v' r k f z (inr o) = lt_chain k (f z o)

      go : (h m v <ℤ (h m) v') ⊎ ((h m v ≡ h m v') ⊎ (h m v' <ℤ (h m) v)) → (p : Flat) → OffEverySide p (v ∷ x ∷ l) → OffEverySide p (v' ∷ x' ∷ l')
          → odd p (v ∷ x ∷ l) ≡ true → odd p (v' ∷ x' ∷ l') ≡ true → ⊥
      go (inl k) = above n ih v x l (v' ∷ x' ∷ l') t b low (all v v' (x' ∷ l') k low')
      go (inr (inr k)) =
          λ p c c' o o'. above n ih v' x' l' (v ∷ x ∷ l) (swap m (v ∷ x ∷ l) (v' ∷ x' ∷ l') t) (omega (arith, b)) low'
          (all v' v (x ∷ l) k low) p c' c o' o
      go (inr (inl k)) =
          subst (λ (z : Flat). Apart m (v ∷ x ∷ l) (z ∷ x' ∷ l') → Least m z (x' ∷ l') → (p : Flat) → OffEverySide p (v ∷ x ∷ l)
          → OffEverySide p (z ∷ x' ∷ l') → odd p (v ∷ x ∷ l) ≡ true → odd p (z ∷ x' ∷ l') ≡ true → ⊥)
          (t.one v v' (inl refl) (inl refl) k) (λ t' lw. at v x l x' l' t' low lw n ih b) t low'

  pub disjoint : (n : ℕ) → Disjoint m n
  disjoint zero P R b t p c c' o o' = let k = t.np in absurd (omega (arith, b, k))
  disjoint (suc n) P R b t p c c' o o' =
      let f = form m P t.sp t.np in
      let f' = form m R t.sr t.nr in
      let K = f.v ∷ f.x ∷ f.l in
      let K' = f'.v ∷ f'.x ∷ f'.l in
      let t1 = swap m K' K (formed m R K (swap m K R (formed m P R t f)) f') in
      let e = f.size in
      let e' = f'.size in
      both_formed n (disjoint n) f.v f.x f.l f'.v f'.x f'.l t1 f.low f'.low (omega (arith, e, e', b)) p
      (λ a b k. c a b (f.to a b k)) (λ a b k. c' a b (f'.to a b k)) (f.odds p ∙ o) (f'.odds p ∙ o')
