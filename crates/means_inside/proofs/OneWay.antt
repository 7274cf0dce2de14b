-- The parts of a ring that is cut at its lowest corner turn the way that it does.
-- The area of each part has the sign of the turn at its lowest corner, and these turns have one sign.
use mathlib.Core.Path.{ap}
use mathlib.Core.List.{List, [], ◌∷◌, ◌++◌}
use Prim.Native.Nat.{ℕ, zero, suc, ◌≤◌}
use native.Mathlib.Omega.{arith}
use lib.ListN.{length, length-append}
use lib.IntN.{ℤ}
use Rattle.paper.specs.declared.Flat.{Flat}
use Rattle.means_area.specs.Rings.{Of, Link}
use Rattle.means_area.specs.Flats.{twice_area, Simple, Least, area, SameSign, lst}
use Rattle.means_area.proofs.Flats.{area-sign}
use Rattle.means_area.proofs.Flats.Signs.{same-flip, same_trans, same_is2}
use Rattle.means_area.proofs.Flats.Net.{Ok}
use Rattle.means_area.proofs.Flats.First.{Free, Rest}
use Rattle.means_area.proofs.Flats.Rests.{rest_step}
use Rattle.means_area.proofs.Flats.Chains.{lst_append}
use Rattle.means_inside.specs.Regions.{Cut, one, chord, ear, start, OneWay}
use Rattle.means_inside.proofs.Apart.{low1, low2, simple1, simple2}

module _ (m : ℤ) where
  -- another number of the same sign
  pub way_same : {y z : ℤ} → SameSign y z → {g : List Flat} (t : Cut m g) → OneWay y t → OneWay z t
  way_same s (one a b c k) w = same_trans w s
  way_same s (chord u l v r k x y) w = (way_same s x w.0, way_same s y w.1)
  way_same s (ear u c l k t x) w = (same_trans w.0 s, way_same s x w.1)
  way_same s (start x l y r t) w = way_same s t w

  -- the ear
  rests : (n : ℕ) → Rest m n
  rests zero u c l b j s low e = absurd (omega (arith, b, j))
  rests (suc n) u c l b j s low e = rest_step m n (λ u c l b j s low. area-sign m u c l j s low) (rests n) u c l b j s low e

  module _ (u c : Flat) (l : List Flat) (s : Simple m (u ∷ c ∷ l)) (low : Least m u (c ∷ l)) where
    pub tip_way : 1 ≤ length l → SameSign (twice_area u c (lst c l)) (area (u ∷ c ∷ l))
    tip_way j = same-flip (area-sign m u c l j s low)

    pub rest_way : 2 ≤ length l → Free u c (lst c l) (u ∷ c ∷ l) → SameSign (area (c ∷ l)) (area (u ∷ c ∷ l))
    rest_way j e = same_trans (rests (length l) u c l (omega arith) j s low e) (tip_way (omega (arith, j)))

  -- a chord
  module _ (u c : Flat) (X : List Flat) (w y : Flat) (Y : List Flat) (s : Simple m (u ∷ c ∷ (X ++ w ∷ y ∷ Y)))
      (low : Least m u (c ∷ (X ++ w ∷ y ∷ Y)))
      (ok : Ok m (Link (u ∷ c ∷ (X ++ w ∷ y ∷ Y))) (λ z. Of z (u ∷ c ∷ (X ++ w ∷ y ∷ Y))) u w)
      (s1 : SameSign (twice_area u c w) (twice_area u c (lst y Y))) (s2 : SameSign (twice_area u w (lst y Y)) (twice_area u c (lst y Y))) where
    ring-way : SameSign (twice_area u c (lst y Y)) (area (u ∷ c ∷ (X ++ w ∷ y ∷ Y)))
    ring-way =
        let e = length-append X (w ∷ y ∷ Y) in
        same-flip
        (same_is2 (ap (twice_area u c) (lst_append c X w (y ∷ Y))) (area-sign m u c (X ++ w ∷ y ∷ Y) (omega (arith, e)) s low))

    pub part_way1 : SameSign (area (u ∷ c ∷ (X ++ w ∷ []))) (area (u ∷ c ∷ (X ++ w ∷ y ∷ Y)))
    part_way1 =
        let e = length-append X (w ∷ []) in
        same_trans
        (same_trans (same_is2 (ap (twice_area u c) (lst_append c X w []))
        (area-sign m u c (X ++ w ∷ []) (omega (arith, e)) (simple1 m u c X w y Y s low ok s1 s2) (low1 m u c X w y Y s low ok s1 s2))) s1)
        ring-way

    pub part_way2 : SameSign (area (u ∷ w ∷ y ∷ Y)) (area (u ∷ c ∷ (X ++ w ∷ y ∷ Y)))
    part_way2 =
        same_trans
        (same_trans (area-sign m u w (y ∷ Y) (omega arith) (simple2 m u c X w y Y s low ok s1 s2) (low2 m u c X w y Y s low ok s1 s2)) s2)
        ring-way
