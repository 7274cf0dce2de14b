-- A direction strictly outside the angle at a corner of a simple ring leads out of it.
use mathlib.Core.Path.{◌≡◌, refl, sym, ◌∙◌, ap}
use mathlib.Core.Bool.{Bool, true, false, xor, true≢false}
use mathlib.Core.Logic.{◌⊎◌, inl, inr, ⊎_elim}
use mathlib.Core.List.{List, [], ◌∷◌, map}
use Prim.Native.Nat.{ℕ, suc, ◌≤◌, ◌<◌}
use native.Mathlib.Omega.{arith}
use lib.IntN.{ℤ, pos, neg_ℤ, ◌+ℤ◌, ◌*ℤ◌}
use lib.ListN.{length}
use Rattle.exact.proofs.Ring.{var, con, ◌⊕◌, ◌⊗◌, neg, ring}
use Rattle.exact.proofs.Order.{whole_pos, mul-pos}
use Rattle.paper.specs.Polygon.{where_flat}
use Rattle.paper.specs.declared.Flat.{Flat}
use Rattle.paper.specs.declared.Where.TheVariants.{Outside, Inside}
use Rattle.means_area.specs.Rings.{Of, Chain}
use Rattle.means_area.specs.Flats.{Up, height, Simple, area, lst}
use Rattle.means_area.proofs.Flats.Signs.{up_is, nn_is}
use Rattle.means_area.proofs.Flats.Turns.{flip_last}
use Rattle.means_inside.specs.Beams.{odd_along, round, beam, facing, Off}
use Rattle.means_inside.specs.Means.{big}
use Rattle.means_inside.specs.Convex.{NextAlong, Next, Hand, lefts, rights, handed}
use Rattle.means_inside.proofs.Parity.{xor_comm}
use Rattle.means_inside.proofs.Segment.{beam_back, off_link}
use Rattle.means_inside.proofs.Triangle.{facing-end}
use Rattle.means_inside.proofs.Sides.{link_next, step_last}
use Rattle.means_inside.proofs.Inside.{io, every_ray_says, inside_off}
use Rattle.means_corner.specs.Corners.{ForSmall}
use Rattle.means_corner.proofs.Small.{always, then, both_small}
use Rattle.means_corner.proofs.Steps.{step}
use Rattle.means_corner.proofs.Lead.{step_from, step_to}
use Rattle.means_corner.proofs.Beside.{Behind, Strict, acute, wide, facing_step, all-steps}
use Rattle.means_corner.proofs.Corner.{step_chain, no_touch, at-corner}
use Rattle.means_corner.proofs.Rays.{opposite, ray, far_side, jump, compare}
use Rattle.means_corner.proofs.Outer.{Outer, Parted, after, before, outer_real, strict_real, outer_first, outer_last, inner}

-- outside the angle at v from b to a, on a hand
abbrev pub OuterBy : Hand → Flat → Flat → Flat → Flat → Type 0
OuterBy lefts v b a c = Outer v b a c
OuterBy rights v b a c = Outer v a b c

-- the parity of a ring that is n times as large
round-big : (f : Flat → Flat → Bool) (h : Flat → Flat) (g : List Flat) → round f (map h g) ≡ round (λ y z. f (h y) (h z)) g
round-big f h [] = refl
round-big f h (x ∷ l) = walk-big x l x
  where
    walk-big : (x : Flat) (l : List Flat) (e : Flat) → odd_along f (h x) (map h l) (h e) ≡ odd_along (λ y z. f (h y) (h z)) x l e
    walk-big x [] e = refl
    walk-big x (y ∷ l) e = ap (xor (f (h x) (h y))) (walk-big y l e)

-- the point is not v
not_at : (v c : Flat) (s n : ℕ) → 0 < s → Up (facing v c c) → Up (facing (step v c s n) (big (pos n) v) (big (pos n) v))
not_at v c s n hs u =
    up_is
    (ring (pos n ∷ pos s ∷ facing v c c ∷ []) ((var 1 ⊗ var 1) ⊗ var 2)
    (var 0 ⊗ (var 0 ⊗ con (pos 0) ⊕ var 1 ⊗ neg (con (pos 0) ⊕ con (pos 0))) ⊕ (var 1 ⊗ var 1) ⊗ var 2) tt
    ∙ (λ i. pos n *ℤ (pos n *ℤ sym (facing-end v v) i +ℤ pos s *ℤ neg_ℤ (sym (facing-end v c) i +ℤ sym (facing-end v c) i))
    +ℤ (pos s *ℤ pos s) *ℤ facing v c c) ∙ sym (facing_step v c v v s n))
    (mul-pos (mul-pos (whole_pos s hs) (whole_pos s hs)) u)

module _ (m : ℤ) (v b : Flat) (r : List Flat) (simple : Simple m (v ∷ b ∷ r)) where
  abbrev g : List Flat
  g = v ∷ b ∷ r

  abbrev a : Flat
  a = lst b r

  off_v : (x y : Flat) → Of x (b ∷ r) → Of y (b ∷ r) → Chain b r v x y → Off v x y
  off_v x y i j l =
      off_link m v x y (λ e. simple.apart.0 x i e) (λ e. simple.apart.0 y j e) (λ o. simple.net.free (inr l) (inl refl) o)
      (λ o. simple.net.free (simple.net.back (inr l)) (inl refl) o)

  -- the sides away from v
  far-all : (c : Flat) → ForSmall (λ s n. (x y : Flat) → Of x (b ∷ r) → Of y (b ∷ r) → Chain b r v x y → ray v c s n x y ≡ beam v
      (opposite v c) x y)
  far-all c =
      let f = all-steps (λ x y s n. Of x (b ∷ r) → Of y (b ∷ r) → ray v c s n x y ≡ beam v (opposite v c) x y) b r v one in
      (f.0, λ s n hs hn l x y i j k. pick s n (f.1 s n hs hn l) x y i j (link_next g x y (inr k)))
    where
      never : (z : Flat) → z ≡ v → Of z (b ∷ r) → ⊥
      never z e o = simple.apart.0 z o (ap (height m) e)

      one : (x y : Flat) → NextAlong b r v x y → ForSmall (λ s n. Of x (b ∷ r) → Of y (b ∷ r) → ray v c s n x y ≡ beam v (opposite v c) x y)
      one x y k =
          ⊎_elim
          (λ o. then (λ s n e i j. e) (far_side v c x y (off_v x y (step_from b r v x y k) (inr o) (step_chain b r v x y k))))
          (λ e. always (λ s n hs hn i j. absurd (never y e j))) (step_to b r v x y k)

      pick : (s n : ℕ) → ((x y : Flat) → NextAlong b r v x y → Of x (b ∷ r) → Of y (b ∷ r) → ray v c s n x y ≡ beam v (opposite v c) x y)
          → (x y : Flat) → Of x (b ∷ r) → Of y (b ∷ r) → Next g x y ⊎ Next g y x → ray v c s n x y ≡ beam v (opposite v c) x y
      pick s n f x y i j (inl (inl e)) = absurd (never x e.0 i)
      pick s n f x y i j (inl (inr k)) = f x y k i j
      pick s n f x y i j (inr (inl e)) = absurd (never y e.0 j)
      pick s n f x y i j (inr (inr k)) =
          beam_back (step v c s n) (big (pos n) v) (big (pos n) x) (big (pos n) y) ∙ f y x k j i ∙ beam_back v (opposite v c) y x

  came : Next g a v
  came = step_last v (b ∷ r) v

  goes : Next g v b
  goes = inl (refl, refl)

  xor_true : (x y : Bool) → xor x y ≡ true → y ≡ true → x ≡ false
  unfolding xor
  xor_true true true e f = sym e
  xor_true true false e f = absurd (true≢false (sym f))
  xor_true false y e f = refl

  -- c outside and d inside, with one side of the angle between them
  apart_out : (h : Hand) → 3 ≤ length g → Up (handed h (area g)) → (c d : Flat) → Strict h v b a d → Up (facing v d d) → Parted v b a c d
      → Up (facing v c c) → Behind v b c → Behind v a c → ForSmall (λ s n. where_flat (step v c s n) (pos n) g ≡ Outside)
  apart_out h long up c d strict rd parted rc okb oka =
      let fd = both_small (at-corner m g simple h a v b d came goes strict long up) (far-all d) in
      let t = fd.1 1 (suc fd.0) (omega arith) (omega arith) (omega arith) in
      let fc = both_small (far-all c) (no_touch m v (b ∷ r) simple a v b c came goes okb oka) in (
        fc.0,
        λ s n hs hn l.
            (every_ray_says (pos n) (whole_pos n hn) g (step v c s n) (big (pos n) v) (not_at v c s n hs rc) (fc.1 s n hs hn l).1).1
            (round-big (beam (step v c s n) (big (pos n) v)) (big (pos n)) g
            ∙ even (suc fd.0) s n hs (omega arith) hn t.0 t.1 (fc.1 s n hs hn l).0 parted),
      )
    where
      odd_d : (k : ℕ) → 0 < k → where_flat (step v d 1 k) (pos k) g ≡ Inside → round (ray v d 1 k) g ≡ true
      odd_d k hk w = go (round (ray v d 1 k) g) refl
        where
          go : (z : Bool) → round (ray v d 1 k) g ≡ z → round (ray v d 1 k) g ≡ true
          go true e = e
          go false e =
              absurd (io (sym w
              ∙ (every_ray_says (pos k) (whole_pos k hk) g (step v d 1 k) (big (pos k) v) (not_at v d 1 k (omega arith) rd)
              (inside_off (pos k) (whole_pos k hk) g (step v d 1 k) w)).1
              (round-big (beam (step v d 1 k) (big (pos k) v)) (big (pos k)) g ∙ e)))

      even : (k s n : ℕ) → 0 < s → 0 < k → 0 < n → where_flat (step v d 1 k) (pos k) g ≡ Inside
          → ((x y : Flat) → Of x (b ∷ r) → Of y (b ∷ r) → Chain b r v x y → ray v d 1 k x y ≡ beam v (opposite v d) x y)
          → ((x y : Flat) → Of x (b ∷ r) → Of y (b ∷ r) → Chain b r v x y → ray v c s n x y ≡ beam v (opposite v c) x y)
          → Parted v b a c d → round (ray v c s n) g ≡ false
      even k s n hs hk hn w f e (after κ q) =
          xor_true (round (ray v c s n) g) (round (ray v d 1 k) g)
          (compare v c d κ b r s n 1 k hs hn (omega arith) hk (λ x y i j l. (off_v x y i j l, e x y i j l, f x y i j l)) ∙ q) (odd_d k hk w)
      even k s n hs hk hn w f e (before κ q) =
          xor_true (round (ray v c s n) g) (round (ray v d 1 k) g)
          (xor_comm (round (ray v c s n) g) (round (ray v d 1 k) g)
          ∙ compare v d c κ b r 1 k s n (omega arith) hk hs hn (λ x y i j l. (off_v x y i j l, f x y i j l, e x y i j l)) ∙ q)
          (odd_d k hk w)

  other_hand : (d : Flat) → Strict lefts v a b d → Strict rights v b a d
  other_hand d (acute i j k) = acute (up_is (flip_last v a b) i) (up_is (flip_last v d b) k) (up_is (flip_last v a d) j)
  other_hand d (wide i (inl j)) = wide (nn_is (ap neg_ℤ (flip_last v a b)) i) (inr (up_is (flip_last v a d) j))
  other_hand d (wide i (inr k)) = wide (nn_is (ap neg_ℤ (flip_last v a b)) i) (inl (up_is (flip_last v d b) k))

  swap : (c d : Flat) → Parted v a b c d → Parted v b a c d
  swap c d (after κ q) = after κ (xor_comm (jump v c d b) (jump v c d a) ∙ q)
  swap c d (before κ q) = before κ (xor_comm (jump v d c b) (jump v d c a) ∙ q)

  pub out_first : (h : Hand) → 3 ≤ length g → Up (handed h (area g)) → (c : Flat) → OuterBy h v b a c
      → ForSmall (λ s n. where_flat (step v c s n) (pos n) g ≡ Outside)
  out_first lefts long up c o =
      let w = inner v b a c o in
      apart_out lefts long up c w.0 w.1 (strict_real v w.0 b a w.1) w.2 (outer_real v c b a o) (outer_first v c b a o)
      (outer_last v c b a o)
  out_first rights long up c o =
      let w = inner v a b c o in
      apart_out rights long up c w.0 (other_hand w.0 w.1) (strict_real v w.0 a b w.1) (swap c w.0 w.2)
      (outer_real v c a b o) (outer_last v c a b o) (outer_first v c a b o)
