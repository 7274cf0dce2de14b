-- From a point near a corner v, the ray through v: of the sides away from v it meets those that the ray from v meets, and of the two at v
-- those whose other end is to the left. So two points near v differ in parity as the two sides lie between them.
use mathlib.Core.Path.{◌≡◌, refl, sym, ◌∙◌, ap}
use mathlib.Core.Bool.{Bool, true, false, not, ◌&&◌, xor, true≢false}
use mathlib.Core.Logic.{◌⊎◌, inl, inr}
use mathlib.Core.List.{List, [], ◌∷◌}
use Prim.Native.Nat.{ℕ, ◌<◌}
use lib.IntN.{ℤ, pos, neg_ℤ, ◌+ℤ◌, ◌-ℤ◌, ◌*ℤ◌}
use lib.Signed.{le_z}
use Rattle.exact.proofs.Ring.{var, con, ◌⊕◌, ◌⊖◌, ◌⊗◌, neg, ring}
use Rattle.exact.proofs.Order.{whole_pos, mul-pos}
use Rattle.paper.specs.Polygon.{meets_ray}
use Rattle.paper.specs.declared.Flat.{Flat}
use Rattle.means_area.specs.Rings.{Of, Chain}
use Rattle.paper_laws.proofs.Factors.{low_times}
use Rattle.means_area.specs.Flats.{Up, twice_area, lst}
use Rattle.means_area.proofs.Flats.Signs.{up_is, up_nn, ways}
use Rattle.means_area.proofs.Flats.Turns.{u_e, v_e, tE, env, flat-first, flat-second}
use Rattle.means_inside.specs.Beams.{odd_along, round, right, beam, Off}
use Rattle.means_inside.specs.Means.{big}
use Rattle.means_inside.proofs.Beams.{above_is, above_no, below_is, below_no, no_low, sect, two_rays, same_side, cross4}
use Rattle.lists.proofs.Truth.{xor_assoc, false_xor}
use Rattle.means_inside.proofs.Parity.{swap4, mid, xor_self, xor_comm}
use Rattle.means_inside.proofs.Segment.{beam_back}
use Rattle.means_inside.proofs.Scale.{ray_scale}
use Rattle.means_corner.specs.Corners.{ForSmall}
use Rattle.means_corner.proofs.Small.{always, stays}
use Rattle.means_corner.proofs.Steps.{step, step_turn}

module _ (v c : Flat) where
  -- what is opposite to c
  pub opposite : Flat
  opposite = record { u = v.u +ℤ v.u -ℤ c.u; v = v.v +ℤ v.v -ℤ c.v }

  pub opposite-turn : (x : Flat) → twice_area v opposite x ≡ twice_area v x c
  unfolding twice_area opposite
  opposite-turn x =
      ring (env (pos 0) (v ∷ x ∷ c ∷ []))
      ((u_e 0 ⊕ u_e 0 ⊖ u_e 2 ⊖ u_e 0) ⊗ (v_e 1 ⊖ v_e 0) ⊖ (v_e 0 ⊕ v_e 0 ⊖ v_e 2 ⊖ v_e 0) ⊗ (u_e 1 ⊖ u_e 0)) (tE 0 1 2) tt

  abbrev pub ray : ℕ → ℕ → Flat → Flat → Bool
  ray s n x y = beam (step v c s n) (big (pos n) v) (big (pos n) x) (big (pos n) y)

  through-turn : (s n : ℕ) (x : Flat) → twice_area (step v c s n) (big (pos n) v) (big (pos n) x) ≡ (pos n *ℤ pos s) *ℤ twice_area v x c
  unfolding twice_area
  through-turn s n x =
      ring (pos n ∷ v.u ∷ v.v ∷ x.u ∷ x.v ∷ c.u ∷ c.v ∷ pos s ∷ [])
      ((var 0 ⊗ u_e 0 ⊖ (var 0 ⊗ u_e 0 ⊕ var 7 ⊗ (u_e 2 ⊖ u_e 0))) ⊗ (var 0 ⊗ v_e 1 ⊖ (var 0 ⊗ v_e 0 ⊕ var 7 ⊗ (v_e 2 ⊖ v_e 0)))
      ⊖ (var 0 ⊗ v_e 0 ⊖ (var 0 ⊗ v_e 0 ⊕ var 7 ⊗ (v_e 2 ⊖ v_e 0))) ⊗ (var 0 ⊗ u_e 1 ⊖ (var 0 ⊗ u_e 0 ⊕ var 7 ⊗ (u_e 2 ⊖ u_e 0))))
      ((var 0 ⊗ var 7) ⊗ tE 0 1 2) tt

  -- to the right of it, or in its line
  abbrev pub low : Flat → Bool
  low x = right v opposite x

  low-is : (s n : ℕ) → 0 < s → 0 < n → (x : Flat) → right (step v c s n) (big (pos n) v) (big (pos n) x) ≡ low x
  unfolding right
  low-is s n hs hn x =
      ap (λ (z : ℤ). le_z z (pos 0)) (through-turn s n x)
      ∙ low_times (pos n *ℤ pos s) (mul-pos (whole_pos n hn) (whole_pos s hs)) (twice_area v x c)
      ∙ ap (λ (z : ℤ). le_z z (pos 0)) (sym (opposite-turn x))

  -- a side away from v
  pub far_side : (x y : Flat) → Off v x y → ForSmall (λ s n. ray s n x y ≡ beam v opposite x y)
  unfolding beam
  far_side x y o = go (ways (twice_area x y v))
    where
      e : ℤ
      e = twice_area x y c -ℤ twice_area x y v

      by : (s n : ℕ) → 0 < s → 0 < n → (t : ℤ) → twice_area (big (pos n) x) (big (pos n) y) (step v c s n) ≡ pos n *ℤ t
          → meets_ray (low x) (low y) t ≡ meets_ray (low x) (low y) (twice_area x y v)
          → meets_ray (right (step v c s n) (big (pos n) v) (big (pos n) x)) (right (step v c s n) (big (pos n) v) (big (pos n) y))
          (twice_area (big (pos n) x) (big (pos n) y) (step v c s n)) ≡ meets_ray (low x) (low y) (twice_area x y v)
      by s n hs hn t q r =
          (λ i. meets_ray (low-is s n hs hn x i) (low-is s n hs hn y i) (q i)) ∙ ray_scale v (pos n) (whole_pos n hn) (low x) (low y) t ∙ r

      up_ray : (a b : Bool) (y z : ℤ) → Up y → Up z → meets_ray a b y ≡ meets_ray a b z
      up_ray true true y z h k = unfold meets_ray in refl
      up_ray false false y z h k = unfold meets_ray in refl
      up_ray true false y z h k = unfold meets_ray in (above_is y h ∙ sym (above_is z k))
      up_ray false true y z h k = unfold meets_ray in (below_no y (up_nn h) ∙ sym (below_no z (up_nn k)))

      dn_ray : (a b : Bool) (y z : ℤ) → Up (neg_ℤ y) → Up (neg_ℤ z) → meets_ray a b y ≡ meets_ray a b z
      dn_ray true true y z h k = unfold meets_ray in refl
      dn_ray false false y z h k = unfold meets_ray in refl
      dn_ray true false y z h k = unfold meets_ray in (above_no y (up_nn h) ∙ sym (above_no z (up_nn k)))
      dn_ray false true y z h k = unfold meets_ray in (below_is y h ∙ sym (below_is z k))

      no_ray : (a b : Bool) (y z : ℤ) → a ≡ b → meets_ray a b y ≡ meets_ray a b z
      no_ray true true y z h = unfold meets_ray in refl
      no_ray false false y z h = unfold meets_ray in refl
      no_ray true false y z h = absurd (true≢false h)
      no_ray false true y z h = absurd (true≢false (sym h))

      go : Up (twice_area x y v) ⊎ ((twice_area x y v ≡ pos 0) ⊎ Up (neg_ℤ (twice_area x y v))) → ForSmall (λ s n. ray s n x y ≡ beam v opposite x y)
      go (inl u) =
          let b = stays (twice_area x y v) e u in (
            b.0,
            λ s n hs hn l. by s n hs hn (pos n *ℤ twice_area x y v +ℤ pos s *ℤ e) (step_turn x y v c s n)
                (up_ray (low x) (low y) (pos n *ℤ twice_area x y v +ℤ pos s *ℤ e) (twice_area x y v) (b.1 s n hs hn l) u),
          )
      go (inr (inr u)) =
          let b = stays (neg_ℤ (twice_area x y v)) (neg_ℤ e) u in (
            b.0,
            λ s n hs hn l. by s n hs hn (pos n *ℤ twice_area x y v +ℤ pos s *ℤ e) (step_turn x y v c s n)
                (dn_ray (low x) (low y) (pos n *ℤ twice_area x y v +ℤ pos s *ℤ e) (twice_area x y v)
                (up_is (ring (pos n ∷ pos s ∷ twice_area x y v ∷ e ∷ []) (var 0 ⊗ neg (var 2) ⊕ var 1 ⊗ neg (var 3))
                (neg (var 0 ⊗ var 2 ⊕ var 1 ⊗ var 3)) tt) (b.1 s n hs hn l)) u),
          )
      go (inr (inl q)) =
          always (λ s n hs hn. by s n hs hn (pos n *ℤ twice_area x y v +ℤ pos s *ℤ e) (step_turn x y v c s n)
          (no_ray (low x) (low y) (pos n *ℤ twice_area x y v +ℤ pos s *ℤ e) (twice_area x y v) (same_side v opposite x y q (o q))))

  -- the sides at v
  at_v : (s n : ℕ) → right (step v c s n) (big (pos n) v) (big (pos n) v) ≡ true
  unfolding right
  at_v s n = ap (λ (z : ℤ). le_z z (pos 0)) (flat-second (step v c s n) (big (pos n) v)) ∙ refl

  in_low : (x : Flat) → low x ≡ false → Up (twice_area v x c)
  unfolding right
  in_low x e = up_is (opposite-turn x) (no_low (twice_area v opposite x) e)

  from_v : (s n : ℕ) → 0 < s → 0 < n → (x : Flat) → ray s n v x ≡ not (low x)
  unfolding beam
  from_v s n hs hn x =
      (λ i. meets_ray (at_v s n i) (low-is s n hs hn x i) (twice_area (big (pos n) v) (big (pos n) x) (step v c s n))) ∙ go (low x) refl
    where
      up : Up (twice_area v x c) → Up (twice_area (big (pos n) v) (big (pos n) x) (step v c s n))
      up u =
          up_is (ring (pos n ∷ pos s ∷ twice_area v x c ∷ []) (var 0 ⊗ (var 1 ⊗ var 2)) (var 0 ⊗ (var 0 ⊗ con (pos 0) ⊕ var 1 ⊗ (var 2 ⊖ con
          (pos 0)))) tt
          ∙ ap (λ (z : ℤ). pos n *ℤ (pos n *ℤ z +ℤ pos s *ℤ (twice_area v x c -ℤ z))) (sym (flat-first v x)) ∙ sym (step_turn v x v c s n))
          (mul-pos (whole_pos n hn) (mul-pos (whole_pos s hs) u))

      go : (b : Bool) → low x ≡ b → meets_ray true b (twice_area (big (pos n) v) (big (pos n) x) (step v c s n)) ≡ not b
      go true e = unfold meets_ray in refl
      go false e = unfold meets_ray in (above_is (twice_area (big (pos n) v) (big (pos n) x) (step v c s n)) (up (in_low x e)))

  to_v : (s n : ℕ) → 0 < s → 0 < n → (x : Flat) → ray s n x v ≡ not (low x)
  to_v s n hs hn x = beam_back (step v c s n) (big (pos n) v) (big (pos n) x) (big (pos n) v) ∙ from_v s n hs hn x

-- ---- tests, two and two

again : (a b : Bool) → xor a (xor a b) ≡ b
again a b = sym (xor_assoc a a b) ∙ ap (λ (z : Bool). xor z b) (xor_self a) ∙ false_xor b

-- ---- two that differ at each side by what a potential changes, but at the last

tele_end : (f k : Flat → Flat → Bool) (s : Flat → Bool) (t : Bool) (x : Flat) (l : List Flat) (e : Flat)
    → ((a b : Flat) → Of a (x ∷ l) → Of b (x ∷ l) → Chain x l e a b → xor (f a b) (k a b) ≡ xor (s a) (s b))
    → xor (f (lst x l) e) (k (lst x l) e) ≡ xor (s (lst x l)) t → xor (odd_along f x l e) (odd_along k x l e) ≡ xor (s x) t
tele_end f k s t x [] e h q = q
tele_end f k s t x (y ∷ l) e h q =
    swap4 (f x y) (odd_along f y l e) (k x y) (odd_along k y l e)
    ∙ (λ i. xor (h x y (inl refl) (inr (inl refl)) (inl (inl (refl, refl))) i)
    (tele_end f k s t y l e (λ a b o p c. h a b (inr o) (inr p) (inr c)) q i))
    ∙ mid (s x) (s y) t

-- z is between the two directions
abbrev pub jump : Flat → Flat → Flat → Flat → Bool
jump v c d z = low v c z && not (low v d z)

module _ (v c d : Flat) (k : Up (twice_area v c d)) where
  turn_on : Up (twice_area v (opposite v c) (opposite v d))
  turn_on = up_is (sym (opposite-turn v c (opposite v d) ∙ both)) k
    where
      both : twice_area v (opposite v d) c ≡ twice_area v c d
      both = opposite-turn v d c

  sides-part : (x y : Flat) → Off v x y
      → xor (beam v (opposite v c) x y) (beam v (opposite v d) x y) ≡ xor (sect (low v c x) (low v d x)) (sect (low v c y) (low v d y))
  unfolding beam right
  sides-part x y o =
      let q = opposite v c in
      let r = opposite v d in
      two_rays (twice_area v q x) (twice_area v q y) (twice_area v r x) (twice_area v r y) (twice_area x y v) (twice_area v q r) turn_on (cross4 v q r x y)
      (λ z. same_side v q x y z (o z)) (λ z. same_side v r x y z (o z))

  pub compare : (b : Flat) (r : List Flat) (s n s' n' : ℕ) → 0 < s → 0 < n → 0 < s' → 0 < n'
      → ((x y : Flat) → Of x (b ∷ r) → Of y (b ∷ r) → Chain b r v x y
      → Off v x y × (ray v c s n x y ≡ beam v (opposite v c) x y) × (ray v d s' n' x y ≡ beam v (opposite v d) x y))
      → xor (round (ray v c s n) (v ∷ b ∷ r)) (round (ray v d s' n') (v ∷ b ∷ r)) ≡ xor (jump v c d b) (jump v c d (lst b r))
  compare b r s n s' n' hs hn hs' hn' f =
      swap4 (ray v c s n v b) (odd_along (ray v c s n) b r v) (ray v d s' n' v b) (odd_along (ray v d s' n') b r v)
      ∙ (λ i. xor (xor (from_v v c s n hs hn b i) (from_v v d s' n' hs' hn' b i)) (walks i))
      ∙ sym (xor_assoc (turns b) (S b) (xor (S a) (turns a))) ∙ ap (λ (z : Bool). xor z (xor (S a) (turns a))) (xor_comm (turns b) (S b))
      ∙ (λ i. xor (settle (low v c b) (low v d b) i) (settle (low v c a) (low v d a) i))
    where
      a : Flat
      a = lst b r

      S : Flat → Bool
      S z = sect (low v c z) (low v d z)

      turns : Flat → Bool
      turns z = xor (not (low v c z)) (not (low v d z))

      walks : xor (odd_along (ray v c s n) b r v) (odd_along (ray v d s' n') b r v) ≡ xor (S b) (xor (S a) (turns a))
      walks =
          tele_end (ray v c s n) (ray v d s' n') S (xor (S a) (turns a)) b r v
          (λ x y o p l. (λ i. xor ((f x y o p l).1 i) ((f x y o p l).2 i)) ∙ sides-part x y (f x y o p l).0)
          ((λ i. xor (to_v v c s n hs hn a i) (to_v v d s' n' hs' hn' a i)) ∙ sym (again (S a) (turns a)))

      settle : (p q : Bool) → xor (sect p q) (xor (not p) (not q)) ≡ p && not q
      settle true true = unfold xor in refl
      settle true false = unfold xor in refl
      settle false true = unfold xor in refl
      settle false false = unfold xor in refl
