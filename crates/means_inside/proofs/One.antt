-- One triangulation for all points p / d.
use mathlib.Core.Path.{◌≡◌, refl, sym, ◌∙◌, ap, subst}
use mathlib.Core.Bool.{true}
use mathlib.Core.Logic.{◌⊎◌, inl, inr}
use mathlib.Core.List.{List, [], ◌∷◌, ◌++◌, map}
use Prim.Native.Nat.{ℕ, zero, suc, ◌≤◌}
use native.Mathlib.Omega.{arith}
use lib.ListN.{length, length-append}
use lib.IntN.{ℤ}
use lib.Signed.{◌<ℤ◌, <ℤ_irrefl}
use Rattle.paper.specs.declared.Flat.{Flat}
use Rattle.means_area.specs.Rings.{Of, Link}
use Rattle.means_area.specs.Flats.{Up, twice_area, height, Simple, Least, area, SameSign, lst}
use Rattle.means_area.proofs.Flats.Signs.{same_ne, same_is, same_is2}
use Rattle.means_area.proofs.Flats.Turns.{flat-second}
use Rattle.means_area.proofs.Flats.Net.{Ok}
use Rattle.means_area.proofs.Flats.Choice.{Hit}
use Rattle.means_area.proofs.Flats.Rings.{area_turned}
use Rattle.means_area.proofs.Flats.Lowest.{of_split}
use Rattle.means_area.proofs.Flats.First.{first_link, last_link, ear_simple}
use Rattle.means_area.proofs.Flats.Chains.{lst_append, lst_of}
use Rattle.means_inside.specs.Beams.{OffEverySide, odd}
use Rattle.means_inside.specs.Regions.{Cut, one, chord, ear, start, InTriangle, At, OneWay, OffChords, AtMostOne}
use Rattle.means_inside.specs.Means.{big}
use Rattle.means_inside.proofs.Look.{Look, empty, far, look}
use Rattle.means_inside.proofs.Apart.{low1, low2, simple1, simple2}
use Rattle.means_inside.proofs.Region.{Joined, apart, three}
use Rattle.means_inside.proofs.Form.{Started, here, there, form, odd_turned, link_turned}
use Rattle.means_inside.proofs.Parts.{ear-big, cut-big}
use Rattle.means_inside.proofs.OneWay.{way_same, tip_way, rest_way, part_way1, part_way2}

-- ---- the triangulation
module _ (m : ℤ) where
  pub record Whole (g : List Flat) : Type 0 where
    pub cut : Cut m g
    pub inside : (d : ℤ) → Up d → (p : Flat) → OffEverySide p (map (big d) g) → At (big d) cut p → odd p (map (big d) g) ≡ true
    pub way : OneWay (area g) cut
    pub single : (d : ℤ) → Up d → (p : Flat) → OffEverySide p (map (big d) g) → OffChords (big d) cut p → AtMostOne (big d) cut p

  -- from another start
  restart : {P Q : List Flat} → Started P Q → Whole Q → Whole P
  restart (here g) r = r
  restart (there a l b s) r = record {
    cut = start a l b s r.cut;
    inside = (λ d k p c t. sym (odd_turned m (big d) p a l b s) ∙ r.inside d k p (back d p c) t);
    way = subst (λ (z : ℤ). OneWay z r.cut) (area_turned b s a l) r.way;
    single = (λ d k p c o. r.single d k p (back d p c) o);
  }
    where
      back : (d : ℤ) (p : Flat) → OffEverySide p (map (big d) (a ∷ (l ++ b ∷ s))) → OffEverySide p (map (big d) (b ∷ (s ++ a ∷ l)))
      back d p c x y t = c x y (link_turned m (big d) a l b s x y t)

  -- two parts with a chord from the lowest corner
  join : (u c : Flat) (X : List Flat) (w y : Flat) (Y : List Flat) → Simple m (u ∷ c ∷ (X ++ w ∷ y ∷ Y))
      → Least m u (c ∷ (X ++ w ∷ y ∷ Y)) → Ok m (Link (u ∷ c ∷ (X ++ w ∷ y ∷ Y))) (λ z. Of z (u ∷ c ∷ (X ++ w ∷ y ∷ Y))) u w
      → SameSign (twice_area u c w) (twice_area u c (lst y Y)) → SameSign (twice_area u w (lst y Y)) (twice_area u c (lst y Y)) → Whole (u ∷ c ∷ (X ++ w ∷ []))
      → Whole (u ∷ w ∷ y ∷ Y) → Whole (u ∷ c ∷ (X ++ w ∷ y ∷ Y))
  join u c X w y Y s low ok s1 s2 r1 r2 = record {
    cut = chord u (c ∷ X) w (y ∷ Y) s r1.cut r2.cut;
    inside = (λ d k p cl t. (at d k p cl).whole t);
    way = (
      way_same m (part_way1 m u c X w y Y s low ok s1 s2) r1.cut r1.way,
      way_same m (part_way2 m u c X w y Y s low ok s1 s2) r2.cut r2.way,
    );
    single = (λ d k p cl o. let q = at d k p cl in
        (q.not_both o.0, r1.single d k p (q.clear1 o.0) o.1, r2.single d k p (q.clear2 o.0) o.2));
  }
    where
      at : (d : ℤ) → Up d → (p : Flat) → OffEverySide p (map (big d) (u ∷ c ∷ (X ++ w ∷ y ∷ Y)))
          → Joined (map (big d) (u ∷ c ∷ (X ++ w ∷ y ∷ Y))) (map (big d) (u ∷ c ∷ (X ++ w ∷ []))) (map (big d) (u ∷ w ∷ y ∷ Y)) (big d u)
          (big d w) (At (big d) r1.cut) (At (big d) r2.cut) p
      at d k =
          cut-big m d k u c X w y Y s low ok s1 s2 (At (big d) r1.cut) (At (big d) r2.cut) (r1.inside d k) (r2.inside d k)

  -- an empty ear at the lowest corner, and the rest
  put_ear : (u c : Flat) (l : List Flat) (k : 1 ≤ length l) (s : Simple m (u ∷ c ∷ l)) (low : Least m u (c ∷ l))
      → ((z : Flat) → Of z (u ∷ c ∷ l) → Hit u c (lst c l) z → ⊥) → 2 ≤ length l → Whole (c ∷ l) → Whole (u ∷ c ∷ l)
  put_ear u c l k s low e j r = record {
    cut = ear u c l s (three m u c l k s low e) r.cut;
    inside = (λ d i p cl w. (at d i p cl).whole w);
    way = (tip_way m u c l s low k, way_same m (rest_way m u c l s low j e) r.cut r.way);
    single = (λ d i p cl o. let t = at d i p cl in (t.not_both o.0, r.single d i p (t.clear2 o.0) o.1));
  }
    where
      at : (d : ℤ) → Up d → (p : Flat) → OffEverySide p (map (big d) (u ∷ c ∷ l))
          → Joined (map (big d) (u ∷ c ∷ l)) (big d u ∷ big d c ∷ big d (lst c l) ∷ []) (map (big d) (c ∷ l)) (big d c) (big d (lst c l))
          (InTriangle (big d u) (big d c) (big d (lst c l))) (At (big d) r.cut) p
      at d i = ear-big m d i u c l k s low e (At (big d) r.cut) (r.inside d i)

  abbrev Claim1 : ℕ → Type 0
  Claim1 n = (u c : Flat) (l : List Flat) → length l ≤ n → 1 ≤ length l → Simple m (u ∷ c ∷ l) → Least m u (c ∷ l) → Whole (u ∷ c ∷ l)

  module _ (n : ℕ) (ih : Claim1 n) where
    smaller : (g : List Flat) → length g ≤ suc (suc n) → 3 ≤ length g → Simple m g → Whole g
    smaller g b k s =
        let f = form m g s k in
        let e = f.size in
        let r = ih f.v f.x f.l (omega (arith, e, b)) (omega (arith, e, k)) f.simple f.low in
        restart f.start r

    CutGoal : Flat → Flat → Flat → List Flat → Type 0
    CutGoal u c w l =
        length l ≤ suc n → (s : Simple m (u ∷ c ∷ l)) → Least m u (c ∷ l) → Ok m (Link (u ∷ c ∷ l)) (λ z. Of z (u ∷ c ∷ l)) u w
        → SameSign (twice_area u c w) (twice_area u c (lst c l)) → SameSign (twice_area u w (lst c l)) (twice_area u c (lst c l)) → Whole (u ∷ c ∷ l)

    split_cut : (u c w : Flat) (X Y : List Flat) → CutGoal u c w (X ++ w ∷ Y)
    unfolding CutGoal
    split_cut u c w X [] b s low ok s1 s2 = absurd (same_ne s2 (ap (twice_area u w) (lst_append c X w []) ∙ flat-second u w))
    split_cut u c w X (y ∷ Y) b s low ok s1 s2 =
        let q = lst_append c X w (y ∷ Y) in
        let t1 = same_is2 (ap (twice_area u c) q) s1 in
        let t2 = same_is2 (ap (twice_area u c) q) (same_is (ap (twice_area u w) q) s2) in
        let e1 = length-append X (w ∷ y ∷ Y) in
        let e2 = length-append X (w ∷ []) in
        let r1 = ih u c (X ++ w ∷ []) (omega (arith, b, e1, e2)) (omega (arith, e2)) (simple1 m u c X w y Y s low ok t1 t2)
        (low1 m u c X w y Y s low ok t1 t2) in
        let r2 = ih u w (y ∷ Y) (omega (arith, b, e1)) (omega arith) (simple2 m u c X w y Y s low ok t1 t2)
        (low2 m u c X w y Y s low ok t1 t2) in
        join u c X w y Y s low ok t1 t2 r1 r2

    step : Claim1 (suc n)
    unfolding CutGoal
    step u c l b k s low =
        go (look m (Link (u ∷ c ∷ l)) (u ∷ c ∷ l) s.net u c (lst c l) (first_link m u c l) (last_link m u c l) (low c (inl refl))
        (low (lst c l) (lst_of c l)) (apart m u c l k s low))
      where
        ears : (r : List Flat) → l ≡ r → ((z : Flat) → Of z (u ∷ c ∷ l) → Hit u c (lst c l) z → ⊥) → Whole (u ∷ c ∷ l)
        ears [] q e = let j = subst (λ (r : List Flat). 1 ≤ length r) q k in absurd (omega (arith, j))
        ears (x ∷ []) q e =
            subst (λ (r : List Flat). Simple m (u ∷ c ∷ r)
            → ((d : ℤ) → Up d → (p : Flat) → OffEverySide p (map (big d) (u ∷ c ∷ r)) → InTriangle (big d u) (big d c) (big d (lst c r)) p ⊎ ⊥
            → odd p (map (big d) (u ∷ c ∷ r)) ≡ true) → SameSign (twice_area u c (lst c r)) (area (u ∷ c ∷ r)) → Whole (u ∷ c ∷ r)) (sym q)
            (λ s f t. record { cut = one u c x s; inside = (λ d j p cl w. f d j p cl (inl w)); way = t; single = (λ d j p cl o. tt) }) s
            (λ d j p cl w. (ear-big m d j u c l k s low e (λ z. ⊥) (λ p cl v. absurd v) p cl).whole w) (tip_way m u c l s low k)
        ears (x ∷ (y ∷ r)) q e =
            let j = subst (λ (r : List Flat). 2 ≤ length r) (sym q) (omega arith) in
            let r = smaller (c ∷ l) (omega (arith, b)) (omega (arith, j))
            (ear_simple m u c l k s (low c (inl refl)) (low (lst c l) (lst_of c l)) e) in
            put_ear u c l k s low e j r

        go : Look m (Link (u ∷ c ∷ l)) (u ∷ c ∷ l) s.net u c (lst c l) (first_link m u c l) (last_link m u c l) (low c (inl refl))
            (low (lst c l) (lst_of c l)) → Whole (u ∷ c ∷ l)
        go (empty e) = ears l refl e
        go (far w (inl q) vw s1 s2 on) = absurd (<ℤ_irrefl (subst (λ (z : Flat). height m u <ℤ height m z) q vw.up))
        go (far w (inr (inl q)) vw s1 s2 on) = absurd (same_ne s1 (ap (twice_area u c) q ∙ flat-second u c))
        go (far w (inr (inr o)) vw s1 s2 on) =
            let t = of_split w l o in
            subst (CutGoal u c w) (sym t.is) (split_cut u c w t.before t.after) b s low vw.ok s1 s2

  claims1 : (n : ℕ) → Claim1 n
  claims1 zero u c l b k s low = absurd (omega (arith, b, k))
  claims1 (suc n) u c l b k s low = step n (claims1 n) u c l b k s low

  pub whole : (g : List Flat) → 3 ≤ length g → Simple m g → Whole g
  whole g k s = smaller (length g) (claims1 (length g)) g (omega arith) k s
