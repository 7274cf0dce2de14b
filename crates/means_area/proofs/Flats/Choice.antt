-- At a corner v that is lower than its neighbours x and y: the three are in no line, and either the triangle has no other corner and the
-- chord x y may be added, or a chord from v to a corner w inside the angle.
use mathlib.Core.Path.{◌≡◌, refl, sym, ◌∙◌, ap, subst}
use mathlib.Core.Logic.{◌⊎◌, inl, inr, ⊎_swap}
use mathlib.Core.List.{List, [], ◌∷◌}
use lib.IntN.{ℤ, pos, neg_ℤ}
use lib.Signed.{◌≤ℤ◌, ◌<ℤ◌, ≤ℤ_refl, clash_ℤ}
use Rattle.exact.proofs.Signs.{lt-or-ge, <ℤ-≤ℤ, ≤ℤ-antisym}
use Rattle.exact.proofs.Order.{lt_chain}
use Rattle.paper.specs.declared.Flat.{Flat}
use Rattle.means_area.specs.Rings.{Of}
use Rattle.means_area.specs.Flats.{Up, Nn, twice_area, height, Net, SameSign, both, none}
use Rattle.means_area.proofs.Flats.Signs.{up_is, up_nn, up_add, nn_up, off, which, ways}
use Rattle.means_area.proofs.Flats.Turns.{In, spin, flip, flip_last, sum_is}
use Rattle.means_area.proofs.Flats.Net.{Ok, higher, diagonal}
use Rattle.means_area.proofs.Flats.Ear.{ear, next_a, next_b, fourth}

-- which of two is lower
pub compare : (a b : ℤ) → (a <ℤ b) ⊎ ((a ≡ b) ⊎ (b <ℤ a))
compare a b = go (lt-or-ge a b) (lt-or-ge b a)
  where
    go : (a <ℤ b) ⊎ (b ≤ℤ a) → (b <ℤ a) ⊎ (a ≤ℤ b) → (a <ℤ b) ⊎ ((a ≡ b) ⊎ (b <ℤ a))
    go (inl h) y = inl h
    go (inr h) (inl k) = inr (inr k)
    go (inr h) (inr k) = inr (inl (≤ℤ-antisym k h))

module _ (v a b : Flat) where
  inside : (x : Flat) → In v a b x ⊎ (In v a b x → ⊥)
  inside x = go (lt-or-ge (twice_area a b x) (pos 0)) (which (twice_area b v x)) (which (twice_area v a x))
    where
      go : (twice_area a b x <ℤ pos 0) ⊎ Nn (twice_area a b x) → Up (twice_area b v x) ⊎ Nn (neg_ℤ (twice_area b v x)) → Up (twice_area v a x) ⊎ Nn (neg_ℤ (twice_area v a x))
          → In v a b x ⊎ (In v a b x → ⊥)
      go (inl h) y z = inr (λ i. clash_ℤ h i.far)
      go (inr h) (inr k) z = inr (λ i. off i.by_a k)
      go (inr h) (inl k) (inr l) = inr (λ i. off i.by_b l)
      go (inr h) (inl k) (inl l) = inl (record { far = h; by_a = k; by_b = l })

  pub record Best (cs : List Flat) : Type 0 where
    pub w : Flat
    pub of : Of w cs
    pub inn : In v a b w
    pub top : (r : Flat) → Of r cs → In v a b r → twice_area a b r ≤ℤ twice_area a b w

  abbrev Empty : List Flat → Type 0
  Empty cs = (x : Flat) → Of x cs → In v a b x → ⊥

  more : (c : Flat) (cs : List Flat) → In v a b c ⊎ (In v a b c → ⊥) → Empty cs ⊎ Best cs → Empty (c ∷ cs) ⊎ Best (c ∷ cs)
  more c cs (inr n) (inl e) = inl go
    where
      go : (x : Flat) → Of x (c ∷ cs) → In v a b x → ⊥
      go x (inl p) i = n (subst (λ (z : Flat). In v a b z) p i)
      go x (inr p) i = e x p i
  more c cs (inl i) (inl e) = inr (record { w = c; of = inl refl; inn = i; top = go })
    where
      go : (r : Flat) → Of r (c ∷ cs) → In v a b r → twice_area a b r ≤ℤ twice_area a b c
      go r (inl p) j = subst (λ (z : Flat). twice_area a b z ≤ℤ twice_area a b c) (sym p) (≤ℤ_refl (twice_area a b c))
      go r (inr p) j = absurd (e r p j)
  more c cs (inr n) (inr t) = inr (record { w = t.w; of = inr t.of; inn = t.inn; top = go })
    where
      go : (r : Flat) → Of r (c ∷ cs) → In v a b r → twice_area a b r ≤ℤ twice_area a b t.w
      go r (inl p) j = absurd (n (subst (λ (z : Flat). In v a b z) p j))
      go r (inr p) j = t.top r p j
  more c cs (inl i) (inr t) = pick (lt-or-ge (twice_area a b t.w) (twice_area a b c))
    where
      pick : (twice_area a b t.w <ℤ twice_area a b c) ⊎ (twice_area a b c ≤ℤ twice_area a b t.w) → Empty (c ∷ cs) ⊎ Best (c ∷ cs)
      pick (inl l) = inr (record { w = c; of = inl refl; inn = i; top = go })
        where
          go : (r : Flat) → Of r (c ∷ cs) → In v a b r → twice_area a b r ≤ℤ twice_area a b c
          go r (inl p) j = subst (λ (z : Flat). twice_area a b z ≤ℤ twice_area a b c) (sym p) (≤ℤ_refl (twice_area a b c))
          go r (inr p) j = le_trans (t.top r p j) (<ℤ-≤ℤ l)
            where
              le_trans : twice_area a b r ≤ℤ twice_area a b t.w → twice_area a b t.w ≤ℤ twice_area a b c → twice_area a b r ≤ℤ twice_area a b c
              le_trans h k = last (lt-or-ge (twice_area a b c) (twice_area a b r))
                where
                  last : (twice_area a b c <ℤ twice_area a b r) ⊎ (twice_area a b r ≤ℤ twice_area a b c) → twice_area a b r ≤ℤ twice_area a b c
                  last (inl m) = clash_ℤ (lt_chain l m) h
                  last (inr m) = m
      pick (inr l) = inr (record { w = t.w; of = inr t.of; inn = t.inn; top = go })
        where
          go : (r : Flat) → Of r (c ∷ cs) → In v a b r → twice_area a b r ≤ℤ twice_area a b t.w
          go r (inl p) j = subst (λ (z : Flat). twice_area a b z ≤ℤ twice_area a b t.w) (sym p) l
          go r (inr p) j = t.top r p j

  pub best : (cs : List Flat) → Empty cs ⊎ Best cs
  best [] = inl (λ x i j. i)
  best (c ∷ cs) = more c cs (inside c) (best cs)

-- x is in the triangle, whichever way round it is
abbrev pub Hit : Flat → Flat → Flat → Flat → Type 0
Hit v x y z = In v x y z ⊎ In v y x z

-- the triangle has its sense
pub in_sense : (v a b x : Flat) → In v a b x → Up (twice_area v a b)
in_sense v a b x i = up_is (sum_is v a b x) (up_add (nn_up i.far i.by_a) (up_nn i.by_b))

-- what is in it is in it that way round
pub hit_sense : (v a b x : Flat) → Up (twice_area v a b) → Hit v a b x → In v a b x
hit_sense v a b x D (inl i) = i
hit_sense v a b x D (inr i) = absurd (off D (up_nn (up_is (flip_last v b a) (in_sense v b a x i))))

-- one that is no line has one sense or the other
pub by_sense : {A : Type 0} (v x y : Flat) → (twice_area v x y ≡ pos 0 → ⊥) → (Up (twice_area v x y) → A) → (Up (twice_area v y x) → A) → A
by_sense {A} v x y n f g = go (ways (twice_area v x y))
  where
    go : Up (twice_area v x y) ⊎ ((twice_area v x y ≡ pos 0) ⊎ Up (neg_ℤ (twice_area v x y))) → A
    go (inl D) = f D
    go (inr (inl e)) = absurd (n e)
    go (inr (inr D)) = g (up_is (sym (flip_last v y x)) D)

module _ (m : ℤ) (L : Flat → Flat → Type 0) (cs : List Flat) (net : Net m L (λ x. Of x cs)) where
  abbrev h : Flat → ℤ
  h = height m

  pub data Choice (v x y : Flat) : Type 0 where
    whole : ((z : Flat) → Of z cs → Hit v x y z → ⊥) → Ok m L (λ r. Of r cs) x y → Choice v x y
    cut : (w : Flat) → Of w cs → Ok m L (λ r. Of r cs) v w → h v <ℤ h w → SameSign (twice_area v x w) (twice_area v x y) → SameSign (twice_area v w y) (twice_area v x y)
        → Choice v x y

  module _ (v x y : Flat) (vx : L v x) (vy : L v y) (hx : h v <ℤ h x) (hy : h v <ℤ h y) where
    -- three corners are in no line
    pub bent : (h x ≡ h y → ⊥) → twice_area v x y ≡ pos 0 → ⊥
    bent ne e = go (compare (h x) (h y))
      where
        go : (h x <ℤ h y) ⊎ ((h x ≡ h y) ⊎ (h y <ℤ h x)) → ⊥
        go (inl k) = net.free vy (net.end (net.back vx)) (record { line = flip_last v y x ∙ ap neg_ℤ e; after = hx; before = k })
        go (inr (inl k)) = ne k
        go (inr (inr k)) = net.free vx (net.end (net.back vy)) (record { line = e; after = hy; before = k })

    ok_back : Ok m L (λ r. Of r cs) y x → Ok m L (λ r. Of r cs) x y
    ok_back o = record {
      uncut = (λ {p} {q} l c. o.uncut (net.back l) (record { left = c.right; right = c.left; ahead = c.behind; behind = c.ahead }));
      bare = o.bare_back;
      bare_back = o.bare;
    }

    -- the chord of an empty triangle
    pub ear_ok : (h x ≡ h y → ⊥) → ((q : Flat) → L v q → (q ≡ x) ⊎ (q ≡ y)) → ((z : Flat) → Of z cs → Hit v x y z → ⊥)
        → Ok m L (λ r. Of r cs) x y
    ear_ok ne only e =
        by_sense v x y (bent ne) (λ D. ear m L (λ r. Of r cs) net v x y D vx vy hx hy (λ z o i. e z o (inl i)) only)
        (λ D. ok_back (ear m L (λ r. Of r cs) net v y x D vy vx hy hx (λ z o i. e z o (inr i)) (λ q l. ⊎_swap (only q l))))

    -- y is lower than x, and r is its other neighbour: r is not on v's side of the chord
    pub near : {t : ℤ} → ((z : Flat) → Of z cs → Hit v x y z → ⊥) → (h x ≡ h y → ⊥) → h y <ℤ h x → (r : Flat) → L r y → h y <ℤ h r
        → SameSign t (twice_area y x r) → SameSign (twice_area y x r) (twice_area v x y)
    near e ne k r l hr (both a b) =
        by_sense v x y (bent ne) (λ D. both b D) (λ D. absurd
        (next_a m L (λ r. Of r cs) net v y x D vy vx hy hx (λ z o i. e z o (inr i)) {r = r} (net.end l) b l hr k))
    near e ne k r l hr (none a b) =
        by_sense v x y (bent ne) (λ D. absurd
        (next_b m L (λ r. Of r cs) net v x y D vx vy hx hy (λ z o i. e z o (inl i)) {r = r} (net.end l) (up_is (sym (flip x y r)) b) l hr
        k))
        (λ D. none b (up_is (flip_last v y x) D))

    -- r is the other neighbour of both
    pub four : {t : ℤ} → ((z : Flat) → Of z cs → Hit v x y z → ⊥) → (h x ≡ h y → ⊥) → (r : Flat) → L r x → L r y → h v <ℤ h r
        → SameSign t (twice_area r y x) → SameSign (twice_area r y x) (twice_area v x y)
    four e ne r lx ly hr (both a b) =
        by_sense v x y (bent ne) (λ D. both b D) (λ D. absurd
        (fourth m L (λ r. Of r cs) net v y x D vy vx hy hx (λ z o i. e z o (inr i)) {r = r} (net.end lx) (up_is (spin r y x) b) ly lx hr))
    four e ne r lx ly hr (none a b) =
        by_sense v x y (bent ne) (λ D. absurd
        (fourth m L (λ r. Of r cs) net v x y D vx vy hx hy (λ z o i. e z o (inl i)) {r = r} (net.end lx)
        (up_is (ap neg_ℤ (spin r y x) ∙ sym (flip x y r)) b) lx ly hr))
        (λ D. none b (up_is (flip_last v y x) D))

    pub choose : (h x ≡ h y → ⊥) → ((q : Flat) → L v q → (q ≡ x) ⊎ (q ≡ y)) → Choice v x y
    choose ne only = by_sense v x y (bent ne) (λ D. up D (best v x y cs)) (λ D. down D (best v y x cs))
      where
        up : Up (twice_area v x y) → Empty v x y cs ⊎ Best v x y cs → Choice v x y
        up D (inl e) = whole (λ z o i. e z o (hit_sense v x y z D i)) (ear m L (λ r. Of r cs) net v x y D vx vy hx hy e only)
        up D (inr t) =
            cut t.w t.of (diagonal m L (λ r. Of r cs) net v x y D vx vy hx hy t.w t.inn t.top)
            (higher m L (λ r. Of r cs) net v x y D vx vy hx hy t.w t.inn t.top)
            (both t.inn.by_b D) (both (up_is (spin y v t.w) t.inn.by_a) D)

        down : Up (twice_area v y x) → Empty v y x cs ⊎ Best v y x cs → Choice v x y
        down D (inl e) =
            whole (λ z o i. e z o (hit_sense v y x z D (⊎_swap i)))
            (ok_back (ear m L (λ r. Of r cs) net v y x D vy vx hy hx e (λ q l. ⊎_swap (only q l))))
        down D (inr t) =
            cut t.w t.of (diagonal m L (λ r. Of r cs) net v y x D vy vx hy hx t.w t.inn t.top)
            (higher m L (λ r. Of r cs) net v y x D vy vx hy hx t.w t.inn t.top)
            (none (up_is (flip x v t.w) t.inn.by_a) (up_is (flip_last v y x) D))
            (none (up_is (flip_last v y t.w) t.inn.by_b) (up_is (flip_last v y x) D))
