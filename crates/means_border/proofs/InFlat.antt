-- In the flat: from a point strictly inside a ring, in any direction, the first border point; what is before it is inside.
use mathlib.Core.Path.{◌≡◌, refl, sym, ◌∙◌, ap, ap₂, subst}
use mathlib.Core.Bool.{Bool, true, false, xor, true≢false}
use mathlib.Core.Logic.{◌⊎◌, inl, inr}
use mathlib.Core.List.{List, [], ◌∷◌, map}
use lib.IntN.{ℤ, pos, neg_ℤ, ◌+ℤ◌, ◌-ℤ◌, ◌*ℤ◌}
use lib.Signed.{le_z}
use Rattle.exact.proofs.Laws.{one_*ℤ}
use Rattle.exact.proofs.Ring.{var, con, ◌⊕◌, ◌⊖◌, ◌⊗◌, neg, ring}
use Rattle.exact.proofs.Order.{mul-pos, sub_pos}
use Rattle.paper.specs.Points.{above, below}
use Rattle.paper.specs.Polygon.{meets_ray, where_flat}
use Rattle.paper.specs.declared.Flat.{Flat}
use Rattle.paper.specs.declared.Where.TheVariants.{Inside}
use Rattle.means_area.specs.Rings.{Link}
use Rattle.means_area.specs.Flats.{Up, Nn, twice_area}
use Rattle.means_area.proofs.Flats.Signs.{off}
use Rattle.means_area.proofs.Flats.Turns.{u_e, v_e, flip}
use Rattle.means_area.proofs.Space.Maps.{map_link}
use Rattle.means_inside.specs.Beams.{right, beam, Off, OffEverySide, odd}
use Rattle.means_inside.specs.Touch.{Touch}
use Rattle.means_inside.specs.Means.{big}
use Rattle.means_inside.specs.Convex.{Next}
use Rattle.means_inside.proofs.Parity.{potential, silent, xor_self}
use Rattle.means_inside.proofs.Triangle.{by_ray}
use Rattle.means_inside.proofs.Ears.{off_back}
use Rattle.means_inside.proofs.Sides.{link_onto, link_next}
use Rattle.means_inside.proofs.Inside.{Ways, at_border, at_inside, at-outside, ways, touch_border, inside_off, io}
use Rattle.means_corner.proofs.Corner.{step_chain}
use Rattle.means_corner.specs.Ways.{ahead_by}
use Rattle.means_border.specs.Along.{FirstFlat, MeetsFlat}
use Rattle.means_border.proofs.Side.{across, size, Miss, Hit, Never, Until, miss_back}
use Rattle.means_border.proofs.Meets.{meets}
use Rattle.means_border.proofs.Least.{Firsts, not_met, met, least}
use Rattle.means_border.proofs.Before.{round_map, tip, tip_up, ray_at, silent_one, same-one, by_sides}

ring_scale : (m d : ℤ) (g : List Flat) → map (big (m *ℤ d)) g ≡ map (big m) (map (big d) g)
ring_scale m d [] = refl
ring_scale m d (a ∷ g) = ap₂ (λ (b : Flat) (l : List Flat). b ∷ l) (λ i. record { u = e a.u i; v = e a.v i }) (ring_scale m d g)
  where
    e : (x : ℤ) → (m *ℤ d) *ℤ x ≡ m *ℤ (d *ℤ x)
    e x = ring (m ∷ d ∷ x ∷ []) ((var 0 ⊗ var 1) ⊗ var 2) (var 0 ⊗ (var 1 ⊗ var 2)) tt

module _ (p w : Flat) (uw : Up (size p w)) where
  abbrev α : Flat → ℤ
  α = across p w

  -- the start is at 0 / 1
  here : ahead_by p w (pos 0) (pos 1) ≡ p
  here = λ i. record { u = e p.u w.u i; v = e p.v w.v i }
    where
      e : (x y : ℤ) → pos 1 *ℤ x +ℤ pos 0 *ℤ y ≡ x
      e x y = ring (x ∷ y ∷ []) (con (pos 1) ⊗ var 0 ⊕ con (pos 0) ⊗ var 1) (var 0) tt

  once : (a : Flat) → big (pos 1) a ≡ a
  once a = λ i. record { u = one_*ℤ a.u i; v = one_*ℤ a.v i }

  start_miss : (a b : Flat) → Off p a b → Miss p w (pos 0) (pos 1) a b
  start_miss a b o =
      subst (λ (q : Flat). Off q (big (pos 1) a) (big (pos 1) b)) (sym here)
      (subst (λ (q : Flat). Off p q (big (pos 1) b)) (sym (once a)) (subst (λ (q : Flat). Off p a q) (sym (once b)) o))

  across-start : (a : Flat) → twice_area p (tip p w uw p) a ≡ α a
  unfolding twice_area
  across-start a =
      ring (pos 0 ∷ p.u ∷ p.v ∷ w.u ∷ w.v ∷ a.u ∷ a.v ∷ [])
      ((u_e 0 ⊕ u_e 1 ⊖ u_e 0) ⊗ (v_e 2 ⊖ v_e 0) ⊖ (v_e 0 ⊕ v_e 1 ⊖ v_e 0) ⊗ (u_e 2 ⊖ u_e 0)) (u_e 1 ⊗ (v_e 2 ⊖ v_e 0) ⊖ v_e 1 ⊗ (u_e 2 ⊖ u_e 0)) tt

  ray_start : (a b : Flat) → beam p (tip p w uw p) a b ≡ meets_ray (le_z (α a) (pos 0)) (le_z (α b) (pos 0)) (twice_area a b p)
  unfolding beam right
  ray_start a b = λ i. meets_ray (le_z (across-start a i) (pos 0)) (le_z (across-start b i) (pos 0)) (twice_area a b p)

  ray_none : (x y : Bool) → meets_ray x y (pos 0) ≡ false
  unfolding meets_ray above below
  ray_none true true = refl
  ray_none true false = refl
  ray_none false true = refl
  ray_none false false = refl

  quiet_side : (a b : Flat) → Never p w a b → Never p w b a → beam p (tip p w uw p) a b ≡ false
  unfolding above
  quiet_side a b f f' =
      ray_start a b
      ∙ by_sides p w uw (λ c e. twice_area c e p) (λ c e. pos 0) (λ c e. flip c e p) (λ c e. refl) a b (λ na ub. silent_one p w uw a b f na ub)
      (λ nb ua. silent_one p w uw b a f' nb ua)
      ∙ ray_none (le_z (α a) (pos 0)) (le_z (α b) (pos 0))

  -- ---- the first of all sides
  pub record First (R : List Flat) : Type 0 where
    pub s : ℤ
    pub m : ℤ
    pub up_s : Up s
    pub up_m : Up m
    pub a : Flat
    pub b : Flat
    pub side : Link R a b
    pub hit : Hit p w s m a b
    pub until : (c d : Flat) → Link R c d → Until p w s m c d

  back : (a b : Flat) → Never p w a b → Never p w b a
  back a b f s m hs um = miss_back p w s m a b (f s m hs um)

  pub find : (R : List Flat) → OffEverySide p R → odd p R ≡ true → First R
  find [] c o = absurd (true≢false (sym o))
  find (x ∷ l) c o =
      go (least p w x l x (λ a b k. let q = c a b (step_chain x l x a b k) in
      meets p w uw a b (start_miss a b q) (start_miss b a (off_back p a b q))))
    where
      go : Firsts p w x l x → First (x ∷ l)
      go (not_met f) =
          absurd (true≢false (sym o ∙ by_ray p (tip p w uw p) (x ∷ l) c (tip_up p w uw p)
          ∙ silent (beam p (tip p w uw p)) x l x (λ a b k. one a b (link_next (x ∷ l) a b k))))
        where
          one : (a b : Flat) → Next (x ∷ l) a b ⊎ Next (x ∷ l) b a → beam p (tip p w uw p) a b ≡ false
          one a b (inl k) = quiet_side a b (f a b k) (back a b (f a b k))
          one a b (inr k) = quiet_side a b (back b a (f b a k)) (f b a k)
      go (met s m us um a b k h f) = record {
        s = s;
        m = m;
        up_s = us;
        up_m = um;
        a = a;
        b = b;
        side = step_chain x l x a b k;
        hit = h;
        until = (λ c d t. one c d (link_next (x ∷ l) c d t));
      }
        where
          one : (c d : Flat) → Next (x ∷ l) c d ⊎ Next (x ∷ l) d c → Until p w s m c d
          one c d (inl t) = f c d t
          one c d (inr t) = λ s' m' hs um' q. miss_back p w s' m' d c (f d c t s' m' hs um' q)

  -- ---- before it the parity stays
  module _ (R : List Flat) (t : First R) (s' m' : ℤ) (hs : Nn s') (um' : Up m') (k : Up (t.s *ℤ m' -ℤ s' *ℤ t.m)) where
    abbrev now : Flat → Flat → ℤ
    now a b = m' *ℤ twice_area a b p -ℤ s' *ℤ (α b -ℤ α a)

    now_back : (a b : Flat) → now a b ≡ neg_ℤ (now b a)
    now_back a b =
        ap (λ (z : ℤ). m' *ℤ z -ℤ s' *ℤ (α b -ℤ α a)) (flip a b p)
        ∙ ring (m' ∷ twice_area b a p ∷ s' ∷ α a ∷ α b ∷ []) (var 0 ⊗ neg (var 1) ⊖ var 2 ⊗ (var 4 ⊖ var 3))
        (neg (var 0 ⊗ var 1 ⊖ var 2 ⊗ (var 3 ⊖ var 4))) tt

    abbrev ray_now : Flat → Flat → Bool
    ray_now a b = meets_ray (le_z (α a) (pos 0)) (le_z (α b) (pos 0)) (now a b)

    same_side : (a b : Flat) → Link R a b → ray_now a b ≡ beam p (tip p w uw p) a b
    same_side a b l =
        by_sides p w uw now (λ c e. twice_area c e p) now_back (λ c e. flip c e p) a b
        (λ na ub. same-one p w uw t.s t.m t.up_m s' m' hs um' k a b (t.until a b l) na ub)
        (λ nb ua. same-one p w uw t.s t.m t.up_m s' m' hs um' k b a
        (λ s₂ m₂ h₂ u₂ q. miss_back p w s₂ m₂ a b (t.until a b l s₂ m₂ h₂ u₂ q)) nb ua)
        ∙ sym (ray_start a b)

    pub stays_odd : OffEverySide p R → odd p R ≡ true → OffEverySide (ahead_by p w s' m') (map (big m') R)
        → odd (ahead_by p w s' m') (map (big m') R) ≡ true
    stays_odd c o c' =
        by_ray (ahead_by p w s' m') (tip p w uw (ahead_by p w s' m')) (map (big m') R) c' (tip_up p w uw (ahead_by p w s' m'))
        ∙ round_map (big m') (beam (ahead_by p w s' m') (tip p w uw (ahead_by p w s' m'))) ray_now R (λ a b. ray_at p w uw s' m' um' a b)
        ∙ potential ray_now (beam p (tip p w uw p)) (λ a. false) R (λ a b l. ap (λ (x : Bool). xor x (beam p (tip p w uw p) a b))
        (same_side a b l) ∙ xor_self (beam p (tip p w uw p) a b) ∙ sym (xor_self false))
        ∙ sym (by_ray p (tip p w uw p) R c (tip_up p w uw p)) ∙ o

    pub not_on : Touch (ahead_by p w s' m') (map (big m') R) → ⊥
    not_on h =
        let q = map_link (big m') R h.a h.b h.side in
        let o : Off (ahead_by p w s' m') h.a h.b = subst (λ (z : Flat). Off (ahead_by p w s' m') z h.b) (sym q.3)
        (subst (λ (z : Flat). Off (ahead_by p w s' m') (big m' q.0) z) (sym q.4) (t.until q.0 q.1 q.2 s' m' hs um' k)) in
        off (o h.line) h.mid

-- ---- the theorem
pub meets-flat : MeetsFlat
meets-flat g p d ud e w uw = go (ways (pos 0) d ud g p)
  where
    found : OffEverySide p (map (big d) g) → odd p (map (big d) g) ≡ true → First p w uw (map (big d) g) → FirstFlat g p d w
    found c o t = record {
      s = t.s;
      m = t.m;
      up_s = t.up_s;
      up_m = t.up_m;
      border =
          touch_border (t.m *ℤ d) (mul-pos t.up_m ud) g (ahead_by p w t.s t.m)
          (subst (λ (l : List Flat). Touch (ahead_by p w t.s t.m) l) (sym (ring_scale t.m d g)) (record {
            a = big t.m t.a;
            b = big t.m t.b;
            side = link_onto (big t.m) (map (big d) g) t.a t.b t.side;
            line = t.hit.0;
            mid = t.hit.1;
          }));
      inside = (λ s' m' hs um k. before s' m' hs um (sub_pos k) (ways (pos 0) (m' *ℤ d) (mul-pos um ud) g (ahead_by p w s' m')));
    }
      where
        before : (s' m' : ℤ) → Nn s' → (um : Up m') → Up (t.s *ℤ m' -ℤ s' *ℤ t.m)
            → Ways (pos 0) (m' *ℤ d) (mul-pos um ud) g (ahead_by p w s' m') → where_flat (ahead_by p w s' m') (m' *ℤ d) g ≡ Inside
        before s' m' hs um k (at_inside c' o' f) = f
        before s' m' hs um k (at_border h f) =
            absurd (not_on p w uw (map (big d) g) t s' m' hs um k
            (subst (λ (l : List Flat). Touch (ahead_by p w s' m') l) (ring_scale m' d g) h))
        before s' m' hs um k (at-outside c' o' f) =
            absurd (true≢false (sym (stays_odd p w uw (map (big d) g) t s' m' hs um k c o
            (subst (λ (l : List Flat). OffEverySide (ahead_by p w s' m') l) (ring_scale m' d g) c'))
            ∙ ap (odd (ahead_by p w s' m')) (sym (ring_scale m' d g)) ∙ o'))

    go : Ways (pos 0) d ud g p → FirstFlat g p d w
    go (at_border h f) = absurd (inside_off d ud g p e h)
    go (at-outside c o f) = absurd (io (sym e ∙ f))
    go (at_inside c o f) = found c o (find p w uw (map (big d) g) c o)
