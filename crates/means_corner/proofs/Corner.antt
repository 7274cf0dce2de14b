-- A direction strictly inside the angle at a corner of a simple ring leads into it.
use mathlib.Core.Path.{◌≡◌, sym, ◌∙◌, ap, subst}
use mathlib.Core.Bool.{not, ◌&&◌, ◌||◌, cond}
use mathlib.Core.Logic.{◌⊎◌, inl, inr, ⊎_elim}
use mathlib.Core.List.{List, [], ◌∷◌, map}
use Prim.Native.Nat.{ℕ, ◌≤◌}
use lib.IntN.{ℤ, pos, neg_ℤ, ◌-ℤ◌}
use lib.ListN.{length}
use Rattle.lists.proofs.Truth.{or_right}
use Rattle.exact.specs.Signs.{sign}
use Rattle.exact.proofs.Laws.{eq_of_sub, sub_of_eq}
use Rattle.exact.proofs.Signs.{sign_above}
use Rattle.paper.specs.Polygon.{where_flat}
use Rattle.paper.specs.declared.Flat.{Flat}
use Rattle.paper.specs.declared.Where.TheVariants.{Inside}
use Rattle.means_area.specs.Rings.{Of, Chain}
use Rattle.means_area.specs.Flats.{Up, height, Simple, Distinct, area}
use Rattle.means_area.proofs.Flats.Signs.{ways, off, zero_off}
use Rattle.means_area.proofs.Space.Maps.{map_link}
use Rattle.means_inside.specs.Beams.{Off}
use Rattle.means_inside.specs.Touch.{Touch}
use Rattle.means_inside.specs.Means.{big}
use Rattle.means_inside.specs.Convex.{NextAlong, Next, Hand, handed}
use Rattle.means_inside.proofs.Ears.{off_back}
use Rattle.means_inside.proofs.Segment.{off_link}
use Rattle.means_inside.proofs.Sides.{link_next}
use Rattle.means_inside.proofs.Inside.{means}
use Rattle.means_corner.specs.Corners.{ForSmall}
use Rattle.exact.proofs.Order.{whole_pos}
use Rattle.means_corner.proofs.Small.{always, then, both_small}
use Rattle.means_corner.proofs.Signs.{down, low_sign}
use Rattle.means_corner.proofs.Cone.{t, cone, Cone}
use Rattle.means_corner.proofs.Steps.{step}
use Rattle.means_corner.proofs.Lead.{step_from, step_to, lead}
use Rattle.means_corner.proofs.Beside.{Behind, Strict, acute, wide, away, beside, side_next, side_before, Miss, all-steps}
use Rattle.means_corner.proofs.Beside.{next_one, before_one}

pub step_chain : (x : Flat) (l : List Flat) (e a b : Flat) → NextAlong x l e a b → Chain x l e a b
step_chain x [] e a b s = inl s
step_chain x (y ∷ l) e a b (inl s) = inl (inl s)
step_chain x (y ∷ l) e a b (inr s) = inr (step_chain y l e a b s)

pub same-height : (m : ℤ) (l : List Flat) → Distinct m l → (y z : Flat) → Of y l → Of z l → height m y ≡ height m z → y ≡ z
same-height m (x ∷ l) d y z (inl i) (inl j) e = i ∙ sym j
same-height m (x ∷ l) d y z (inl i) (inr j) e = absurd (d.0 z j (sym e ∙ ap (height m) i))
same-height m (x ∷ l) d y z (inr i) (inl j) e = absurd (d.0 y i (e ∙ ap (height m) j))
same-height m (x ∷ l) d y z (inr i) (inr j) e = same-height m l d.1 y z i j e
same-height m [] d y z i j e = absurd i

module _ (m : ℤ) (x : Flat) (l : List Flat) (s : Simple m (x ∷ l)) (a v b c : Flat) (before : Next (x ∷ l) a v)
    (after : Next (x ∷ l) v b) (okb : Behind v b c) (oka : Behind v a c) where
  here : Of v (x ∷ l)
  here = step_from x l x v b after

  -- a side is at v or not
  one_side : (p q : Flat) → Next (x ∷ l) p q → ForSmall (Miss m v c p q)
  one_side p q i = go (ways (height m p -ℤ height m v)) (ways (height m q -ℤ height m v))
    where
      there : Of q (x ∷ l)
      there = ⊎_elim (λ o. inr o) (λ e. inl e) (step_to x l x p q i)

      from_v : height m p -ℤ height m v ≡ pos 0 → ForSmall (Miss m v c p q)
      from_v e =
          let pv : p ≡ v = same-height m (x ∷ l) s.apart p v (step_from x l x p q i) here (eq_of_sub (height m p) (height m v) e) in
          let bq : b ≡ q = next_one m v c x l x s.apart b q after (subst (λ (z : Flat). Next (x ∷ l) z q) pv i) in
          always (λ t n ht hn. subst (λ (z : Flat). Miss m v c z q t n) (sym pv)
          (subst (λ (z : Flat). Miss m v c v z t n) bq (beside v c b okb t n ht hn)))

      to_v : height m q -ℤ height m v ≡ pos 0 → ForSmall (Miss m v c p q)
      to_v e =
          let qv : q ≡ v = same-height m (x ∷ l) s.apart q v there here (eq_of_sub (height m q) (height m v) e) in
          let ap' : a ≡ p = before_one m v c x l x s.apart.1 s.apart.0 a p before (subst (λ (z : Flat). Next (x ∷ l) p z) qv i) in
          always (λ t n ht hn. subst (λ (z : Flat). Miss m v c p z t n) (sym qv)
          (subst (λ (z : Flat). Miss m v c z v t n) ap'
          (off_back (step v c t n) (big (pos n) v) (big (pos n) a) (beside v c a oka t n ht hn))))

      apart : (y z : Flat) → Up (height m y -ℤ height m z) ⊎ Up (neg_ℤ (height m y -ℤ height m z)) → height m y ≡ height m z → ⊥
      apart y z (inl u) e = zero_off (sub_of_eq (height m y) (height m z) e) u
      apart y z (inr u) e = zero_off (ap neg_ℤ (sub_of_eq (height m y) (height m z) e)) u

      neither : Up (height m p -ℤ height m v) ⊎ Up (neg_ℤ (height m p -ℤ height m v))
          → Up (height m q -ℤ height m v) ⊎ Up (neg_ℤ (height m q -ℤ height m v)) → ForSmall (Miss m v c p q)
      neither yp yq =
          let link = step_chain x l x p q i in
          away v c p q
          (off_link m v p q (apart p v yp) (apart q v yq) (λ o. s.net.free link here o) (λ o. s.net.free (s.net.back link) here o))

      go : Up (height m p -ℤ height m v) ⊎ ((height m p -ℤ height m v ≡ pos 0) ⊎ Up (neg_ℤ (height m p -ℤ height m v)))
          → Up (height m q -ℤ height m v) ⊎ ((height m q -ℤ height m v ≡ pos 0) ⊎ Up (neg_ℤ (height m q -ℤ height m v)))
          → ForSmall (Miss m v c p q)
      go (inr (inl e)) y = from_v e
      go (inl u) (inr (inl e)) = to_v e
      go (inr (inr u)) (inr (inl e)) = to_v e
      go (inl u) (inl w) = neither (inl u) (inl w)
      go (inl u) (inr (inr w)) = neither (inl u) (inr w)
      go (inr (inr u)) (inl w) = neither (inr u) (inl w)
      go (inr (inr u)) (inr (inr w)) = neither (inr u) (inr w)

  pub no_touch : ForSmall (λ t n. Touch (step v c t n) (map (big (pos n)) (x ∷ l)) → ⊥)
  no_touch = then (λ t n f. not_on t n f) (all-steps (Miss m v c) x l x one_side)
    where
      not_on : (t n : ℕ) → ((p q : Flat) → Next (x ∷ l) p q → Miss m v c p q t n) → Touch (step v c t n) (map (big (pos n)) (x ∷ l)) → ⊥
      not_on t n f w =
          let r = map_link (big (pos n)) (x ∷ l) w.a w.b w.side in
          let o : Miss m v c r.0 r.1 t n = ⊎_elim (λ i. f r.0 r.1 i)
          (λ i. off_back (step v c t n) (big (pos n) r.1) (big (pos n) r.0) (f r.1 r.0 i)) (link_next (x ∷ l) r.0 r.1
          r.2) in
          let o' : Off (step v c t n) w.a w.b = subst (λ (y : Flat). Off (step v c t n) y w.b) (sym r.3)
          (subst (λ (y : Flat). Off (step v c t n) (big (pos n) r.0) y) (sym r.4) o) in
          off (o' w.line) w.mid

closed : (h : Hand) (v b a c : Flat) → Strict h v b a c → Cone h v b a c
closed h v b a c (acute i j w) = λ y. cone (sign_above i y) (sign_above j y) (sign_above w y)
closed h v b a c (wide i (inl j)) =
    (λ y. cond (low_sign (t h v b a) i y) (not (down (sign (t h v b c))) && not (down (sign (t h v c a))))
    (not (down (sign (t h v b c))) || not (down (sign (t h v c a)))))
    ∙ (λ y. not (down (sign_above j y)) || not (down (sign (t h v c a))))
closed h v b a c (wide i (inr w)) =
    (λ y. cond (low_sign (t h v b a) i y) (not (down (sign (t h v b c))) && not (down (sign (t h v c a))))
    (not (down (sign (t h v b c))) || not (down (sign (t h v c a)))))
    ∙ or_right (not (down (sign (t h v b c)))) (not (down (sign (t h v c a)))) (λ y. not (down (sign_above w y)))

pub at-corner : (m : ℤ) (r : List Flat) → Simple m r → (h : Hand) (a v b c : Flat) → Next r a v → Next r v b → Strict h v b a c
    → 3 ≤ length r → Up (handed h (area r)) → ForSmall (λ t n. where_flat (step v c t n) (pos n) r ≡ Inside)
at-corner m [] s h a v b c p q k long up = absurd p
at-corner m (x ∷ l) s h a v b c p q k long up =
    let r = means m (x ∷ l) long s in
    let f = both_small (lead m h v c (area (x ∷ l)) up (x ∷ l) r.cut r.one_way a b p q (closed h v b a c k))
    (no_touch m x l s a v b c p q (side_next v c h b a k) (side_before v c h b a k)) in
    (f.0, λ t n ht hn q. r.is_inside_lem (pos n) (whole_pos n hn) (step v c t n) (f.1 t n ht hn q).0 (f.1 t n ht hn q).1)
