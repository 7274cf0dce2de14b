-- Every triangulation whose triangles turn the way that the ring does has the inside and the border for its region.
-- With one sign for all triangles no count takes another back: a point in one of them is gone round by the ring, for some ray, and so in
-- every other such triangulation it is in a triangle too; one of them is that of `means`.
use mathlib.Core.Path.{◌≡◌, sym, ◌∙◌}
use mathlib.Core.Logic.{◌⊎◌, inl, inr, ⊎_elim}
use mathlib.Core.List.{List, [], ◌∷◌, ◌++◌}
use Prim.Native.Nat.{◌≤◌}
use native.Mathlib.Omega.{arith}
use lib.ListN.{length, length-append}
use lib.IntN.{ℤ, pos, neg_ℤ, ◌+ℤ◌}
use Rattle.exact.proofs.Ring.{var, ◌⊕◌, neg, ring}
use Rattle.exact.proofs.Order.{add_nonneg}
use Rattle.paper.specs.declared.Flat.{Flat}
use Rattle.means_area.specs.Flats.{Up, Nn, twice_area, Simple, area, SameSign, both, none, lst}
use Rattle.means_area.proofs.Flats.{area_not_zero}
use Rattle.means_area.proofs.Flats.Signs.{up_is, nn_is, up_nn, up_add, nn_up, off, zero_off, which, ways}
use Rattle.means_area.proofs.Flats.Turns.{flip, flip_last}
use Rattle.means_inside.specs.Regions.{Cut, one, chord, ear, start, InTriangle, left, right, At, OneWay}
use Rattle.means_inside.specs.Means.{big, Means}
use Rattle.means_inside.specs.Convex.{Hand, lefts, rights, handed}
use Rattle.means_inside.specs.Theorems.{OneRegion}
use Rattle.means_inside.proofs.Parts.{up_big}
use Rattle.means_inside.proofs.Winding.{around, goes, goes_back, around_turned, around-cut, around-ear}
use Rattle.means_inside.proofs.Rounds.{Turns, never, once, turns, some_ray}
use Rattle.means_inside.proofs.Inside.{any_cover, means}

-- a triangle the other way round
swap3 : (a b c p : Flat) → InTriangle a c b p → InTriangle a b c p
swap3 a b c p (left x y z) =
    right (nn_is (flip b a p) z) (nn_is (flip c b p) y) (nn_is (flip a c p) x)
swap3 a b c p (right x y z) =
    left (nn_is (sym (flip a b p)) z) (nn_is (sym (flip b c p)) y) (nn_is (sym (flip c a p)) x)

same_hand : (h : Hand) (s z : ℤ) → SameSign s z → Up (handed h z) → Up (handed h s)
same_hand lefts s z (both a b) u = a
same_hand lefts s z (none a b) u = absurd (off u (up_nn b))
same_hand rights s z (both a b) u = absurd (off b (up_nn u))
same_hand rights s z (none a b) u = a

-- of two numbers that add up to one above 0, one is
one_up : (s t : ℤ) → Up (s +ℤ t) → Up s ⊎ Up t
one_up s t u = go (which s)
  where
    go : Up s ⊎ Nn (neg_ℤ s) → Up s ⊎ Up t
    go (inl a) = inl a
    go (inr a) = inr (up_is (ring (s ∷ t ∷ []) ((var 0 ⊕ var 1) ⊕ neg (var 0)) (var 1) tt) (up_add u a))

module _ (m d : ℤ) (k : Up d) (p : Flat) where
  -- sides counted from right to left, for rings that turn to the left; the other way for the others
  abbrev side : Hand → Flat → Flat → Flat → ℤ
  side lefts q a b = goes p q (big d a) (big d b)
  side rights q a b = goes p q (big d b) (big d a)

  side_back : (h : Hand) (q a b : Flat) → side h q b a ≡ neg_ℤ (side h q a b)
  side_back lefts q a b = goes_back p q (big d a) (big d b)
  side_back rights q a b = goes_back p q (big d b) (big d a)

  abbrev three : Hand → Flat → Flat → Flat → Flat → ℤ
  three h q a b c = around (side h q) (a ∷ b ∷ c ∷ [])

  turn_back : (q a b c : Flat) → three rights q a b c ≡ three lefts q a c b
  turn_back q a b c =
      ring (side lefts q b a ∷ side lefts q c b ∷ side lefts q a c ∷ []) (var 0 ⊕ (var 1 ⊕ var 2)) (var 2 ⊕ (var 1 ⊕ var 0)) tt

  other : (a b c : Flat) → Up (neg_ℤ (twice_area a b c)) → Up (twice_area (big d a) (big d c) (big d b))
  other a b c D = up_big m d k a c b (up_is (sym (flip_last a c b)) D)

  turns3 : (h : Hand) (q a b c : Flat) → Up (handed h (twice_area a b c)) → Turns (big d a) (big d b) (big d c) p (three h q a b c)
  turns3 lefts q a b c D = turns p q (big d a) (big d b) (big d c) (up_big m d k a b c D)
  turns3 rights q a b c D = go (turns p q (big d a) (big d c) (big d b) (other a b c D))
    where
      go : Turns (big d a) (big d c) (big d b) p (three lefts q a c b) → Turns (big d a) (big d b) (big d c) p (three rights q a b c)
      go (never e) = never (turn_back q a b c ∙ e)
      go (once e i) = once (turn_back q a b c ∙ e) (swap3 (big d a) (big d b) (big d c) p i)

  ray3 : (h : Hand) (a b c : Flat) → Up (handed h (twice_area a b c)) → InTriangle (big d a) (big d b) (big d c) p
      → (q : Flat) × Up (three h q a b c)
  ray3 lefts a b c D i =
      let r = some_ray p (big d a) (big d b) (big d c) (up_big m d k a b c D) i in (r.0, up_is (sym r.1) (record { lt = tt }))
  ray3 rights a b c D i =
      let r = some_ray p (big d a) (big d c) (big d b) (other a b c D) (swap3 (big d a) (big d c) (big d b) p i) in
      (r.0, up_is (sym (turn_back r.0 a b c ∙ r.1)) (record { lt = tt }))

  -- none is taken back
  nn3 : {a b c : Flat} {s : ℤ} → Turns a b c p s → Nn s
  nn3 (never e) = nn_is (sym e) (record { le = tt })
  nn3 (once e i) = nn_is (sym e) (record { le = tt })

  in3 : {a b c : Flat} {s : ℤ} → Up s → Turns a b c p s → InTriangle a b c p
  in3 u (never e) = absurd (zero_off e u)
  in3 u (once e i) = i

  module _ (h : Hand) (z : ℤ) (D : Up (handed h z)) where
    not_back : (q : Flat) {g : List Flat} (t : Cut m g) → OneWay z t → Nn (around (side h q) g)
    not_back q (one a b c s) w = nn3 (turns3 h q a b c (same_hand h (twice_area a b c) z w D))
    not_back q (chord u l v r s x y) w =
        nn_is (sym (around-cut (side h q) (side_back h q) u l v r)) (add_nonneg (not_back q x w.0) (not_back q y w.1))
    not_back q (ear u c l s t x) w =
        nn_is (sym (around-ear (side h q) (side_back h q) u c l))
        (add_nonneg (nn3 (turns3 h q u c (lst c l) (same_hand h (twice_area u c (lst c l)) z w.0 D))) (not_back q x w.1))
    not_back q (start x l y r t) w = nn_is (sym (around_turned (side h q) (side_back h q) x l y r)) (not_back q t w)

    -- what the ring goes round is in a triangle
    found : (q : Flat) {g : List Flat} (t : Cut m g) → OneWay z t → Up (around (side h q) g) → At (big d) t p
    found q (one a b c s) w n = in3 n (turns3 h q a b c (same_hand h (twice_area a b c) z w D))
    found q (chord u l v r s x y) w n =
        ⊎_elim (λ i. inl (found q x w.0 i)) (λ i. inr (found q y w.1 i))
        (one_up (around (side h q) (u ∷ (l ++ v ∷ []))) (around (side h q) (u ∷ v ∷ r))
        (up_is (around-cut (side h q) (side_back h q) u l v r) n))
    found q (ear u c l s t x) w n =
        ⊎_elim (λ i. inl (in3 i (turns3 h q u c (lst c l) (same_hand h (twice_area u c (lst c l)) z w.0 D)))) (λ i. inr (found q x w.1 i))
        (one_up (three h q u c (lst c l)) (around (side h q) (c ∷ l)) (up_is (around-ear (side h q) (side_back h q) u c l) n))
    found q (start x l y r t) w n = found q t w (up_is (around_turned (side h q) (side_back h q) x l y r) n)

    -- the ring goes round what is in a triangle
    gone : {g : List Flat} (t : Cut m g) → OneWay z t → At (big d) t p → (q : Flat) × Up (around (side h q) g)
    gone (one a b c s) w i = ray3 h a b c (same_hand h (twice_area a b c) z w D) i
    gone (chord u l v r s x y) w (inl i) =
        let n = gone x w.0 i in
        (n.0, up_is (sym (around-cut (side h n.0) (side_back h n.0) u l v r)) (up_add n.1 (not_back n.0 y w.1)))
    gone (chord u l v r s x y) w (inr i) =
        let n = gone y w.1 i in
        (n.0, up_is (sym (around-cut (side h n.0) (side_back h n.0) u l v r)) (nn_up (not_back n.0 x w.0) n.1))
    gone (ear u c l s t x) w (inl i) =
        let n = ray3 h u c (lst c l) (same_hand h (twice_area u c (lst c l)) z w.0 D) i in
        (n.0, up_is (sym (around-ear (side h n.0) (side_back h n.0) u c l)) (up_add n.1 (not_back n.0 x w.1)))
    gone (ear u c l s t x) w (inr i) =
        let n = gone x w.1 i in
        let e = nn3 (turns3 h n.0 u c (lst c l) (same_hand h (twice_area u c (lst c l)) z w.0 D)) in
        (n.0, up_is (sym (around-ear (side h n.0) (side_back h n.0) u c l)) (nn_up e n.1))
    gone (start x l y r t) w i =
        let n = gone t w i in (n.0, up_is (sym (around_turned (side h n.0) (side_back h n.0) x l y r)) n.1)

-- ---- any two have one region
cut_simple : {m : ℤ} {g : List Flat} → Cut m g → Simple m g
cut_simple (one a b c s) = s
cut_simple (chord u l w r s x y) = s
cut_simple (ear u c l s t x) = s
cut_simple {m} (start x l y r t) = Rattle.means_area.proofs.Flats.Chains.turned m y r x l (cut_simple t)

cut_long : {m : ℤ} {g : List Flat} → Cut m g → 3 ≤ length g
cut_long (one a b c s) = omega arith
cut_long (chord u l w r s x y) =
    let k = cut_long x in
    let e = length-append l (w ∷ []) in
    let e' = length-append l (w ∷ r) in
    omega (arith, k, e, e')
cut_long (ear u c l s t x) = let k = cut_long x in omega (arith, k)
cut_long (start x l y r t) =
    let k = cut_long t in
    let e = length-append r (x ∷ l) in
    let e' = length-append l (y ∷ r) in
    omega (arith, k, e, e')

pub one_region : OneRegion
one_region m g t w d k p = ((λ a e. r.outside d k p e (⊎_elim (λ D. into lefts D a) (λ D. into rights D a) sign)), any_cover m d k g t p)
  where
    r : Means m g
    r = means m g (cut_long t) (cut_simple t)

    sign : Up (area g) ⊎ Up (neg_ℤ (area g))
    sign = go (ways (area g))
      where
        go : Up (area g) ⊎ ((area g ≡ pos 0) ⊎ Up (neg_ℤ (area g))) → Up (area g) ⊎ Up (neg_ℤ (area g))
        go (inl u) = inl u
        go (inr (inl e)) = absurd (area_not_zero m g (cut_long t) (cut_simple t) e)
        go (inr (inr u)) = inr u

    into : (h : Hand) → Up (handed h (area g)) → At (big d) t p → At (big d) r.cut p
    into h D a = let q = gone m d k p h (area g) D t w a in found m d k p h (area g) D q.0 r.cut r.one_way q.1
