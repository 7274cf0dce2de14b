-- The two answers of a pair of segments from one set of steps, and segments with a common end.
use mathlib.Core.Path.{◌≡◌, refl, sym, ◌∙◌, ap}
use mathlib.Core.Bool.{Bool, true, false, ◌&&◌, cond, and-false}
use mathlib.Core.Logic.{inl, inr}
use mathlib.Core.List.{[], ◌∷◌}
use lib.IntN.{ℤ, pos}
use lib.Signed.{lt_z, le_z, ◌<ℤ◌}
use Rattle.exact.proofs.Signs.{lt_yes, pos-ne, <ℤ-ne}
use Rattle.lists.proofs.Truth.{same_truth, never_true, and_left, and_right}
use Rattle.paper.specs.Points.{origin, minus, dot, cross, is_zero, is_origin}
use Rattle.paper.specs.Drawing.{cuts_open, open_meets}
use Rattle.paper.specs.declared.Point.{Point}
use Rattle.paper_laws.proofs.Points.{origin_yes, origin_is, differ, cross-line, cross_turned}
use Rattle.paper_laws.proofs.Vectors.{vec, k, ◌·◌, o, v, ◌-v◌, ◌×v◌, vring}
use Rattle.fast_meets.specs.Theorems.{Longs, EndShared, laps, second, OneGivesBoth, JoinedMeetNoMore}

-- both zero or neither
same-zero : {u w : Point} → (u ≡ origin → w ≡ origin) → (w ≡ origin → u ≡ origin) → is_origin u ≡ is_origin w
same-zero {u} {w} f g =
    same_truth (is_origin u) (is_origin w) (λ e. origin_is (f (origin_yes u e))) (λ e. origin_is (g (origin_yes w e)))

-- ---- the other's answer

module _ (a b c d : Point) where
  abbrev P : Point
  P = minus b a

  abbrev Q : Point
  Q = minus d c

  abbrev R : Point
  R = minus c a

  abbrev N : Point
  N = cross P Q

  -- from c to a
  abbrev B : Point
  B = minus a c

  opposite : cross P B ≡ minus origin (cross P R)
  opposite = vring (vec a ∷ vec b ∷ vec c ∷ []) ((v 1 -v v 0) ×v (v 0 -v v 2)) (o -v (v 1 -v v 0) ×v (v 2 -v v 0)) tt

  -- they are in one line, seen from the one and from the other
  one_line : Longs a b c d → N ≡ origin → is_origin (cross Q B) ≡ is_origin (cross P R)
  one_line long e =
      same-zero
      (λ h. back (cross-line Q P B (differ long.cd) (cross_turned P Q e) h))
      (λ h. cross-line P Q B (differ long.ab) e (opposite ∙ ap (minus origin) h ∙ vring [] (o -v o) o tt))
    where
      back : cross P B ≡ origin → cross P R ≡ origin
      back h =
          vring (vec (cross P R) ∷ []) (v 0) (o -v (o -v v 0)) tt ∙ ap (minus origin) (sym opposite ∙ h) ∙ vring [] (o -v o) o tt

  pub one_gives_both : OneGivesBoth a b c d
  unfolding open_meets second laps
  one_gives_both long =
      ap (λ (t : Bool). cond t (is_origin (cross Q B) && laps c d a b) (across (cross Q P) B P Q)) (same-zero (cross_turned Q P) (cross_turned P Q))
      ∙ go (is_origin N) refl
    where
      across : Point → Point → Point → Point → Bool
      across n r q p = is_zero (dot r n) && cuts_open (dot (cross r q) n) (dot (cross r p) n) (dot n n)

      plane : dot B (cross Q P) ≡ dot R N
      plane =
          vring (vec a ∷ vec b ∷ vec c ∷ vec d ∷ []) ((v 0 -v v 2) · ((v 3 -v v 2) ×v (v 1 -v v 0)))
          ((v 2 -v v 0) · ((v 1 -v v 0) ×v (v 3 -v v 2))) tt

      there : (w : Point) → dot (cross B w) (cross Q P) ≡ dot (cross R w) N
      there w =
          vring (vec a ∷ vec b ∷ vec c ∷ vec d ∷ vec w ∷ []) (((v 0 -v v 2) ×v v 4) · ((v 3 -v v 2) ×v (v 1 -v v 0)))
          (((v 2 -v v 0) ×v v 4) · ((v 1 -v v 0) ×v (v 3 -v v 2))) tt

      square : dot (cross Q P) (cross Q P) ≡ dot N N
      square = vring (vec P ∷ vec Q ∷ []) ((v 1 ×v v 0) · (v 1 ×v v 0)) ((v 0 ×v v 1) · (v 0 ×v v 1)) tt

      go : (t : Bool) → is_origin N ≡ t
          → cond t (is_origin (cross Q B) && laps c d a b) (across (cross Q P) B P Q)
          ≡ cond t (is_origin (cross P R) && laps c d a b)
          (is_zero (dot R N) && cuts_open (dot (cross R P) N) (dot (cross R Q) N) (dot N N))
      go true e = ap (λ (t : Bool). t && laps c d a b) (one_line long (origin_yes N e))
      go false e = λ i. is_zero (plane i) && cuts_open (there P i) (there Q i) (square i)

-- ---- a common end

-- a place at an end is not between the ends
module _ (t s m : ℤ) where
  inner : cuts_open t s m ≡ true → (pos 0 <ℤ t) × (t <ℤ m)
  unfolding cuts_open
  inner h =
      let u = and_left (lt_z (pos 0) t && lt_z t m) (le_z (pos 0) s && le_z s m) h in
      (lt_yes (and_left (lt_z (pos 0) t) (lt_z t m) u), lt_yes (and_right (lt_z (pos 0) t) (lt_z t m) u))

  at-start : t ≡ pos 0 → cuts_open t s m ≡ false
  at-start e = never_true (cuts_open t s m) (λ h. pos-ne (inner h).0 e)

  at-stop : t ≡ m → cuts_open t s m ≡ false
  at-stop e = never_true (cuts_open t s m) (λ h. <ℤ-ne (inner h).1 e)

joined-first : (a b c d : Point) → is_origin (cross (minus b a) (minus d c)) ≡ false → EndShared a b c d → open_meets a b c d ≡ false
unfolding open_meets laps
joined-first a b c d e shared = ap (λ (t : Bool). cond t (is_origin (cross p r) && laps a b c d) (is_zero (dot r n) && cut)) e
    ∙ ap (λ (t : Bool). is_zero (dot r n) && t) (outside shared) ∙ and-false (is_zero (dot r n))
  where
    p : Point
    p = minus b a

    q : Point
    q = minus d c

    r : Point
    r = minus c a

    n : Point
    n = cross p q

    -- t, by where the other starts
    t : Point → ℤ
    t w = dot (cross w q) n

    s : ℤ
    s = dot (cross r p) n

    m : ℤ
    m = dot n n

    cut : Bool
    cut = cuts_open (t r) s m

    outside : EndShared a b c d → cut ≡ false
    outside (inl h) =
        at-start (t r) s m (ap (λ (y : Point). t (minus y a)) (sym h)
        ∙ vring (vec a ∷ vec q ∷ vec n ∷ []) (((v 0 -v v 0) ×v v 1) · v 2) (k (pos 0)) tt)
    outside (inr (inl h)) =
        at-start (t r) s m (ap (λ (y : Point). t (minus c y)) h
        ∙ vring (vec c ∷ vec d ∷ vec n ∷ []) (((v 0 -v v 1) ×v (v 1 -v v 0)) · v 2) (k (pos 0)) tt)
    outside (inr (inr (inl h))) = at-stop (t r) s m (ap (λ (y : Point). t (minus y a)) (sym h))
    outside (inr (inr (inr h))) =
        at-stop (t r) s m (vring (vec a ∷ vec c ∷ vec d ∷ vec n ∷ []) (((v 1 -v v 0) ×v (v 2 -v v 1)) · v 3)
        (((v 2 -v v 0) ×v (v 2 -v v 1)) · v 3) tt
        ∙ ap (λ (y : Point). t (minus y a)) (sym h))

other_way : {a b c d : Point} → EndShared a b c d → EndShared c d a b
other_way (inl h) = inl (sym h)
other_way (inr (inl h)) = inr (inr (inl (sym h)))
other_way (inr (inr (inl h))) = inr (inl (sym h))
other_way (inr (inr (inr h))) = inr (inr (inr (sym h)))

pub joined_meet_no_more : (a b c d : Point) → JoinedMeetNoMore a b c d
joined_meet_no_more a b c d e shared = record {
  first = joined-first a b c d e shared;
  second = joined-first c d a b (same-zero (cross_turned (minus d c) (minus b a)) (cross_turned (minus b a) (minus d c)) ∙ e) (other_way shared);
}
