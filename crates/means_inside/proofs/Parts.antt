-- A ring that is cut at its lowest corner, d times as large: in one of the parts is inside, in both is on the chord; and every
-- triangulation covers the inside and the border.
use mathlib.Core.Path.{◌≡◌, refl, sym, ◌∙◌, ap, subst}
use mathlib.Core.Bool.{true, xor}
use mathlib.Core.Logic.{◌⊎◌, inl, inr}
use mathlib.Core.List.{List, [], ◌∷◌, ◌++◌, map}
use Prim.Native.Nat.{◌+◌, ◌≤◌}
use native.Mathlib.Omega.{arith}
use lib.ListN.{length}
use lib.IntN.{ℤ, pos, neg_ℤ, ◌*ℤ◌}
use lib.Signed.{◌<ℤ◌}
use Rattle.lists.proofs.Truth.{false_xor, xor-false, never_true}
use Rattle.exact.proofs.Ring.{var, ◌⊗◌, neg, ring}
use Rattle.exact.proofs.Order.{mul-pos, mul-lt}
use Rattle.exact.proofs.Signs.{mul-zero, pos-ne}
use Rattle.paper.specs.declared.Flat.{Flat}
use Rattle.means_area.specs.Rings.{Of, Link}
use Rattle.means_area.specs.Flats.{Up, Nn, twice_area, Cross, height, WithinSegment, Simple, Least, SameSign, both, none, lst}
use Rattle.means_area.proofs.Flats.Signs.{up_is, nn_is, nn_out, same_is, same_is2}
use Rattle.means_area.proofs.Flats.Turns.{In}
use Rattle.means_area.proofs.Flats.Net.{Ok}
use Rattle.means_area.proofs.Flats.Choice.{Hit}
use Rattle.means_area.proofs.Flats.First.{first_link}
use Rattle.means_area.proofs.Space.Maps.{map_of, map_link, length-map}
use Rattle.means_area.proofs.Flats.Chains.{lst_append}
use Rattle.means_inside.specs.Beams.{beam, facing, Off, OffEverySide, odd, east}
use Rattle.means_inside.specs.Regions.{Cut, one, chord, ear, start, InTriangle, At}
use Rattle.means_inside.specs.Means.{big}
use Rattle.means_inside.proofs.Parity.{round-cut}
use Rattle.means_inside.proofs.Segment.{beam_back}
use Rattle.means_inside.proofs.Apart.{parts, low2, f1, f2}
use Rattle.means_inside.proofs.Ears.{off_or, off_end, between-odd}
use Rattle.means_inside.proofs.Disjoint.{disjoint}
use Rattle.means_inside.proofs.Covers.{Here, chord_here, ear_here, start_here, tri_here, sums}
use Rattle.means_inside.proofs.Region.{Joined, ear-joined}
use Rattle.means_inside.proofs.Chord.{same-between, chord-seen, chord-between}
use Rattle.means_inside.proofs.Larger.{big-turn, big-height, small_up, small_lt, big_simple}
use Rattle.means_inside.proofs.Together.{map_app, lst_map, clear_with}

-- a chord from the lowest corner: in one of the parts is inside, and off the chord no point is in both
cut-joined : (m : ℤ) (u c : Flat) (X : List Flat) (w y : Flat) (Y : List Flat) → SameSign (twice_area u c w) (twice_area u c (lst y Y))
    → SameSign (twice_area u w (lst y Y)) (twice_area u c (lst y Y)) → (A B : Flat → Type 0)
    → ((p : Flat) → OffEverySide p (u ∷ c ∷ (X ++ w ∷ [])) → A p → odd p (u ∷ c ∷ (X ++ w ∷ [])) ≡ true)
    → ((p : Flat) → OffEverySide p (u ∷ w ∷ y ∷ Y) → B p → odd p (u ∷ w ∷ y ∷ Y) ≡ true)
    → Simple m (u ∷ c ∷ (X ++ w ∷ y ∷ Y)) → Least m u (c ∷ (X ++ w ∷ y ∷ Y))
    → Ok m (Link (u ∷ c ∷ (X ++ w ∷ y ∷ Y))) (λ z. Of z (u ∷ c ∷ (X ++ w ∷ y ∷ Y))) u w
    → (p : Flat) → OffEverySide p (u ∷ c ∷ (X ++ w ∷ y ∷ Y))
    → Joined (u ∷ c ∷ (X ++ w ∷ y ∷ Y)) (u ∷ c ∷ (X ++ w ∷ [])) (u ∷ w ∷ y ∷ Y) u w A B p
cut-joined m u c X w y Y s1 s2 A B i1 i2 s low ok p cl =
    record { whole = (λ t. go t (off_or p u w)); clear1 = c1; clear2 = c2; not_both = (λ q a b. clash q (i1 p (c1 q) a) (i2 p (c2 q) b)) }
  where
    c1 : Off p u w → OffEverySide p (u ∷ c ∷ (X ++ w ∷ []))
    c1 q = clear_with p (u ∷ c ∷ (X ++ w ∷ y ∷ Y)) (u ∷ c ∷ (X ++ w ∷ [])) u w cl q (f1 m u c X w y Y s low ok s1 s2)

    c2 : Off p u w → OffEverySide p (u ∷ w ∷ y ∷ Y)
    c2 q = clear_with p (u ∷ c ∷ (X ++ w ∷ y ∷ Y)) (u ∷ w ∷ y ∷ Y) u w cl q (f2 m u c X w y Y s low ok s1 s2)

    clash : Off p u w → odd p (u ∷ c ∷ (X ++ w ∷ [])) ≡ true → odd p (u ∷ w ∷ y ∷ Y) ≡ true → ⊥
    clash q o o' =
        disjoint m (length (u ∷ c ∷ (X ++ w ∷ [])) + length (u ∷ w ∷ y ∷ Y)) (u ∷ c ∷ (X ++ w ∷ [])) (u ∷ w ∷ y ∷ Y) (omega arith)
        (parts m u c X w y Y s low ok s1 s2) p (c1 q) (c2 q) o o'

    hw : height m u <ℤ height m w
    hw = low2 m u c X w y Y s low ok s1 s2 w (inl refl)

    sum : odd p (u ∷ c ∷ (X ++ w ∷ y ∷ Y)) ≡ xor (odd p (u ∷ c ∷ (X ++ w ∷ []))) (odd p (u ∷ w ∷ y ∷ Y))
    sum = round-cut (beam p (east p)) u (c ∷ X) w (y ∷ Y) (beam_back p (east p) w u)

    in_part : Off p u w → A p ⊎ B p → odd p (u ∷ c ∷ (X ++ w ∷ y ∷ Y)) ≡ true
    in_part q (inl x) =
        let o = i1 p (c1 q) x in sum ∙ (λ i. xor (o i) (never_true (odd p (u ∷ w ∷ y ∷ Y)) (clash q o) i)) ∙ xor-false true
    in_part q (inr x) =
        let o = i2 p (c2 q) x in
        sum ∙ (λ i. xor (never_true (odd p (u ∷ c ∷ (X ++ w ∷ []))) (λ r. clash q r o) i) (o i)) ∙ false_xor true

    go : A p ⊎ B p → Off p u w ⊎ ((twice_area u w p ≡ pos 0) × Nn (neg_ℤ (facing p u w))) → odd p (u ∷ c ∷ (X ++ w ∷ y ∷ Y)) ≡ true
    go t (inl q) = in_part q t
    go t (inr q) =
        let n = off_end p u c (cl u c (first_link m u c (X ++ w ∷ y ∷ Y))) in
        let z = lst_append c X w (y ∷ Y) in
        between-odd m u c (X ++ w ∷ y ∷ Y) low p cl (chord-seen m u w p hw q.0 q.1 n (u ∷ c ∷ (X ++ w ∷ y ∷ Y)) ok)
        (chord-between m u w p hw q.0 q.1 n c (lst c (X ++ w ∷ y ∷ Y))
        (same-between u c (lst c (X ++ w ∷ y ∷ Y)) w (same_is2 (ap (twice_area u c) (sym z)) s1)
        (same_is2 (ap (twice_area u c) (sym z)) (same_is (ap (twice_area u w) (sym z)) s2))))

module _ (m d : ℤ) (k : Up d) where
  abbrev B : Flat → Flat
  B = big d

  -- ---- what is so of a ring is so of the larger one
  low_big : (u : Flat) (l : List Flat) → Least m u l → Least m (B u) (map B l)
  low_big u l low z o =
      let r = map_of B z l o in
      subst (λ (y : Flat). height m (B u) <ℤ height m y) (sym r.2)
      (subst (λ (t : ℤ). t <ℤ height m (B r.0)) (sym (big-height m d k u))
      (subst (λ (t : ℤ). (d *ℤ height m u) <ℤ t) (sym (big-height m d k r.0)) (mul-lt d k (low r.0 r.1))))

  small_in : (v a b z : Flat) → In (B v) (B a) (B b) (B z) → In v a b z
  small_in v a b z i =
      record {
        far = nn_out d k (nn_out d k (nn_is (big-turn m d k a b z) i.far));
        by_a = small_up m d k b v z i.by_a;
        by_b = small_up m d k v a z i.by_b;
      }

  small_hit : (v a b z : Flat) → Hit (B v) (B a) (B b) (B z) → Hit v a b z
  small_hit v a b z (inl i) = inl (small_in v a b z i)
  small_hit v a b z (inr i) = inr (small_in v b a z i)

  free-big : (g : List Flat) (v a b : Flat) → ((z : Flat) → Of z g → Hit v a b z → ⊥) → (z : Flat) → Of z (map B g)
      → Hit (B v) (B a) (B b) z → ⊥
  free-big g v a b e z o i =
      let r = map_of B z g o in
      e r.0 r.1 (small_hit v a b r.0 (subst (λ (y : Flat). Hit (B v) (B a) (B b) y) r.2 i))

  ok_big : (g : List Flat) (u w : Flat) → Ok m (Link g) (λ z. Of z g) u w → Ok m (Link (map B g)) (λ z. Of z (map B g)) (B u) (B w)
  ok_big g u w ok = record {
    uncut = (λ {p} {q} l c. uncut p q (map_link B g p q l) c);
    bare = (λ {r} o c. bare r (map_of B r g o) c);
    bare_back = (λ {r} o c. bare' r (map_of B r g o) c);
  }
    where
      uncut : (p q : Flat) → (b : Flat) × (c : Flat) × Link g b c × (p ≡ B b) × (q ≡ B c) → Cross (B u) (B w) p q → ⊥
      uncut p q x c = ok.uncut x.2 (record {
        left = small_up m d k u w x.0 (up_is (λ i. twice_area (B u) (B w) (x.3 i)) c.left);
        right = small_up m d k w u x.1 (up_is (λ i. twice_area (B w) (B u) (x.4 i)) c.right);
        ahead = small_up m d k x.0 x.1 w (up_is (λ i. twice_area (x.3 i) (x.4 i) (B w)) c.ahead);
        behind = small_up m d k x.1 x.0 u (up_is (λ i. twice_area (x.4 i) (x.3 i) (B u)) c.behind);
      })

      on : (a b r : Flat) (z : Flat) → r ≡ B z → WithinSegment m (B a) (B b) r → WithinSegment m a b z
      on a b r z q c = record {
        line =
            mul-zero d (twice_area a b z) (pos-ne k)
            (mul-zero d (d *ℤ twice_area a b z) (pos-ne k) (sym (big-turn m d k a b z) ∙ sym (ap (twice_area (B a) (B b)) q) ∙ c.line));
        after = small_lt m d k a z (subst (λ (y : Flat). height m (B a) <ℤ height m y) q c.after);
        before = small_lt m d k z b (subst (λ (y : Flat). height m y <ℤ height m (B b)) q c.before);
      }

      bare : (r : Flat) → (b : Flat) × Of b g × (r ≡ B b) → WithinSegment m (B u) (B w) r → ⊥
      bare r x c = ok.bare x.1 (on u w r x.0 x.2 c)

      bare' : (r : Flat) → (b : Flat) × Of b g × (r ≡ B b) → WithinSegment m (B w) (B u) r → ⊥
      bare' r x c = ok.bare_back x.1 (on w u r x.0 x.2 c)

  pub up_big : (a b c : Flat) → Up (twice_area a b c) → Up (twice_area (B a) (B b) (B c))
  up_big a b c h = up_is (sym (big-turn m d k a b c)) (mul-pos k (mul-pos k h))

  down_big : (a b c : Flat) → Up (neg_ℤ (twice_area a b c)) → Up (neg_ℤ (twice_area (B a) (B b) (B c)))
  down_big a b c h =
      up_is (ap neg_ℤ (sym (big-turn m d k a b c)))
      (up_is (ring (d ∷ twice_area a b c ∷ []) (var 0 ⊗ (var 0 ⊗ neg (var 1))) (neg (var 0 ⊗ (var 0 ⊗ var 1))) tt) (mul-pos k (mul-pos k h)))

  same-big : (a b c a' b' c' : Flat) → SameSign (twice_area a b c) (twice_area a' b' c') → SameSign (twice_area (B a) (B b) (B c)) (twice_area (B a') (B b') (B c'))
  same-big a b c a' b' c' (both x y) = both (up_big a b c x) (up_big a' b' c' y)
  same-big a b c a' b' c' (none x y) = none (down_big a b c x) (down_big a' b' c' y)

  -- ---- inside, of the larger ring
  pub ear-big : (u c : Flat) (l : List Flat) → 1 ≤ length l → Simple m (u ∷ c ∷ l) → Least m u (c ∷ l)
      → ((z : Flat) → Of z (u ∷ c ∷ l) → Hit u c (lst c l) z → ⊥) → (A : Flat → Type 0)
      → ((p : Flat) → OffEverySide p (map B (c ∷ l)) → A p → odd p (map B (c ∷ l)) ≡ true)
      → (p : Flat) → OffEverySide p (map B (u ∷ c ∷ l))
      → Joined (map B (u ∷ c ∷ l)) (B u ∷ B c ∷ B (lst c l) ∷ []) (map B (c ∷ l)) (B c) (B (lst c l))
      (InTriangle (B u) (B c) (B (lst c l))) A p
  ear-big u c l j s low e A f p cl =
      let q = length-map B l in
      subst (λ (a : Flat). Joined (map B (u ∷ c ∷ l)) (B u ∷ B c ∷ a ∷ []) (map B (c ∷ l)) (B c) a (InTriangle (B u) (B c) a) A p)
      (lst_map B c l)
      (ear-joined m (B u) (B c) (map B l) (omega (arith, q, j)) (big_simple m d k (u ∷ c ∷ l) s) (low_big u (c ∷ l) low)
      (subst (λ (a : Flat). (z : Flat) → Of z (map B (u ∷ c ∷ l)) → Hit (B u) (B c) a z → ⊥) (sym (lst_map B c l))
      (free-big (u ∷ c ∷ l) u c (lst c l) e)) A f p cl)

  pub cut-big : (u c : Flat) (X : List Flat) (w y : Flat) (Y : List Flat) → Simple m (u ∷ c ∷ (X ++ w ∷ y ∷ Y))
      → Least m u (c ∷ (X ++ w ∷ y ∷ Y)) → Ok m (Link (u ∷ c ∷ (X ++ w ∷ y ∷ Y))) (λ z. Of z (u ∷ c ∷ (X ++ w ∷ y ∷ Y))) u w
      → SameSign (twice_area u c w) (twice_area u c (lst y Y)) → SameSign (twice_area u w (lst y Y)) (twice_area u c (lst y Y)) → (A C : Flat → Type 0)
      → ((p : Flat) → OffEverySide p (map B (u ∷ c ∷ (X ++ w ∷ []))) → A p → odd p (map B (u ∷ c ∷ (X ++ w ∷ []))) ≡ true)
      → ((p : Flat) → OffEverySide p (map B (u ∷ w ∷ y ∷ Y)) → C p → odd p (map B (u ∷ w ∷ y ∷ Y)) ≡ true)
      → (p : Flat) → OffEverySide p (map B (u ∷ c ∷ (X ++ w ∷ y ∷ Y)))
      → Joined (map B (u ∷ c ∷ (X ++ w ∷ y ∷ Y))) (map B (u ∷ c ∷ (X ++ w ∷ []))) (map B (u ∷ w ∷ y ∷ Y)) (B u) (B w) A C p
  cut-big u c X w y Y s low ok s1 s2 A C i1 i2 =
      subst (λ (r : List Flat). Simple m (B u ∷ B c ∷ r) → Least m (B u) (B c ∷ r)
      → Ok m (Link (B u ∷ B c ∷ r)) (λ z. Of z (B u ∷ B c ∷ r)) (B u) (B w) → (p : Flat) → OffEverySide p (B u ∷ B c ∷ r)
      → Joined (B u ∷ B c ∷ r) (map B (u ∷ c ∷ (X ++ w ∷ []))) (map B (u ∷ w ∷ y ∷ Y)) (B u) (B w) A C p)
      (sym (map_app B X (w ∷ y ∷ Y)))
      (subst (λ (h : List Flat). ((p : Flat) → OffEverySide p (B u ∷ B c ∷ h) → A p → odd p (B u ∷ B c ∷ h) ≡ true)
      → Simple m (B u ∷ B c ∷ (map B X ++ B w ∷ B y ∷ map B Y)) → Least m (B u) (B c ∷ (map B X ++ B w ∷ B y ∷ map B Y))
      → Ok m (Link (B u ∷ B c ∷ (map B X ++ B w ∷ B y ∷ map B Y))) (λ z. Of z (B u ∷ B c ∷ (map B X ++ B w ∷ B y ∷ map B Y))) (B u) (B w)
      → (p : Flat) → OffEverySide p (B u ∷ B c ∷ (map B X ++ B w ∷ B y ∷ map B Y))
      → Joined (B u ∷ B c ∷ (map B X ++ B w ∷ B y ∷ map B Y)) (B u ∷ B c ∷ h) (map B (u ∷ w ∷ y ∷ Y)) (B u) (B w) A C p)
      (sym (map_app B X (w ∷ [])))
      (λ i. cut-joined m (B u) (B c) (map B X) (B w) (B y) (map B Y)
      (same_is2 (ap (twice_area (B u) (B c)) (sym (lst_map B y Y))) (same-big u c w u c (lst y Y) s1))
      (same_is2 (ap (twice_area (B u) (B c)) (sym (lst_map B y Y)))
      (same_is (ap (twice_area (B u) (B w)) (sym (lst_map B y Y))) (same-big u w (lst y Y) u c (lst y Y) s2))) A C i i2) i1)
      (big_simple m d k (u ∷ c ∷ (X ++ w ∷ y ∷ Y)) s) (low_big u (c ∷ (X ++ w ∷ y ∷ Y)) low) (ok_big (u ∷ c ∷ (X ++ w ∷ y ∷ Y)) u w ok)

  -- ---- every triangulation covers
  module _ (p : Flat) where
    chord-at : (u : Flat) (l : List Flat) (w : Flat) (r : List Flat) → Here m p (map B (u ∷ (l ++ w ∷ r)))
        → Here m p (map B (u ∷ (l ++ w ∷ []))) ⊎ Here m p (map B (u ∷ w ∷ r))
    chord-at u l w r t =
        sums m p (λ q. subst (λ (x : List Flat). Here m p (B u ∷ x)) (sym (map_app B l (w ∷ []))) q) (λ q. q)
        (chord_here m p (B u) (map B l) (B w) (map B r) (subst (λ (x : List Flat). Here m p (B u ∷ x)) (map_app B l (w ∷ r)) t))

    ear-at : (u c : Flat) (l : List Flat) → Here m p (map B (u ∷ c ∷ l)) → Here m p (B u ∷ B c ∷ B (lst c l) ∷ [])
        ⊎ Here m p (map B (c ∷ l))
    ear-at u c l t =
        subst (λ (a : Flat). Here m p (B u ∷ B c ∷ a ∷ []) ⊎ Here m p (map B (c ∷ l))) (lst_map B c l)
        (ear_here m p (B u) (B c) (map B l) t)

    start-at : (x : Flat) (l : List Flat) (y : Flat) (r : List Flat) → Here m p (map B (x ∷ (l ++ y ∷ r)))
        → Here m p (map B (y ∷ (r ++ x ∷ l)))
    start-at x l y r t =
        subst (λ (z : List Flat). Here m p (B y ∷ z)) (sym (map_app B r (x ∷ l)))
        (start_here m p (B x) (map B l) (B y) (map B r) (subst (λ (z : List Flat). Here m p (B x ∷ z)) (map_app B l (y ∷ r)) t))

    pub cover_at : (g : List Flat) (t : Cut m g) → Here m p (map B g) → At B t p
    cover_at _ (one a b c s) t = tri_here m p (B a) (B b) (B c) (big_simple m d k (a ∷ b ∷ c ∷ []) s) t
    cover_at _ (chord u l w r s x y) t =
        sums m p (λ q. cover_at (u ∷ (l ++ w ∷ [])) x q) (λ q. cover_at (u ∷ w ∷ r) y q) (chord-at u l w r t)
    cover_at _ (ear u c l s z x) t =
        sums m p (λ q. tri_here m p (B u) (B c) (B (lst c l)) (big_simple m d k (u ∷ c ∷ lst c l ∷ []) z) q) (λ q. cover_at (c ∷ l) x q)
        (ear-at u c l t)
    cover_at _ (start x l y r z) t = cover_at (y ∷ (r ++ x ∷ l)) z (start-at x l y r t)
