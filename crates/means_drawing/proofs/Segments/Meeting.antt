-- The test `openMeets`, for segments that are parallel and for others.
use mathlib.Core.Path.{◌≡◌, refl, sym, ◌∙◌, ap}
use mathlib.Core.Bool.{Bool, true, false, ◌&&◌, cond}
use mathlib.Core.Logic.{◌↔◌}
use mathlib.Core.List.{[], ◌∷◌}
use lib.IntN.{ℤ, pos, ◌+ℤ◌}
use lib.Signed.{le_z, lt_z}
use Rattle.lists.proofs.Truth.{and_left, and_right, and_both}
use Rattle.exact.proofs.Signs.{lt_yes, le_yes}
use Rattle.paper.specs.Points.{minus, dot, cross, is_zero, is_origin}
use Rattle.paper.specs.Drawing.{overlap, cuts_open, open_meets}
use Rattle.paper.specs.declared.Point.{Point}
use Rattle.paper_laws.proofs.Points.{zero_yes, zero_is, origin_yes, origin_is, origin_no, differ, self_pos}
use Rattle.means_drawing.specs.Segments.{Common}
use Rattle.paper_laws.proofs.Vectors.{vec, ◌+s◌, ◌·◌, v, ◌-v◌, vring}
use Rattle.means_drawing.proofs.Segments.Crossing.{to_places, of_places, crossing_meet, meet_flat, meet_cuts}
use Rattle.means_drawing.proofs.Segments.Along.{Places, find, not_low, not_high, overlap_yes, overlap_is, line_meet, meet_line}
use Rattle.means_drawing.proofs.Segments.Along.{meet_places}

module _ (a b c d : Point) (ne : a ≡ b → ⊥) where
  abbrev pp : Point
  pp = minus b a

  abbrev qq : Point
  qq = minus d c

  abbrev rr : Point
  rr = minus c a

  far : dot pp (minus d a) ≡ dot pp rr +ℤ dot pp qq
  far =
      vring (vec a ∷ vec b ∷ vec c ∷ vec d ∷ []) ((v 1 -v v 0) · (v 3 -v v 0))
      ((v 1 -v v 0) · (v 2 -v v 0) +s (v 1 -v v 0) · (v 3 -v v 2)) tt

  abbrev test : Bool → Bool
  test t =
      cond t
      (is_origin (cross pp rr) && overlap (dot pp rr) (dot pp (minus d a)) (dot pp pp))
      (is_zero (dot rr (cross pp qq)) && cuts_open (dot (cross rr qq) (cross pp qq)) (dot (cross rr pp) (cross pp qq))
      (dot (cross pp qq) (cross pp qq)))

  meets_yes : (t : Bool) → is_origin (cross pp qq) ≡ t → test t ≡ true → Common a b c d
  unfolding cuts_open
  meets_yes true i e =
      let par = origin_yes (cross pp qq) i in
      let l = origin_yes (cross pp rr) (and_left (is_origin (cross pp rr)) (overlap (dot pp rr) (dot pp (minus d a)) (dot pp pp)) e) in
      let h = overlap_yes (dot pp rr) (dot pp rr +ℤ dot pp qq) (dot pp pp)
      (ap (λ (z : ℤ). overlap (dot pp rr) z (dot pp pp)) (sym far)
      ∙ and_right (is_origin (cross pp rr)) (overlap (dot pp rr) (dot pp (minus d a)) (dot pp pp)) e) in
      let t = find (dot pp pp) (dot pp rr) (dot pp qq) (self_pos pp (differ ne)) h.0 h.1 in
      record {
        here = t.here;
        there = t.there;
        is =
            to_places a b c d t.here.scale t.here.place t.there.scale t.there.place
            (line_meet pp qq rr (differ ne) par l t);
      }
  meets_yes false i e =
      let n = cross pp qq in
      let m = dot n n in
      let t = dot (cross rr qq) n in
      let s = dot (cross rr pp) n in
      let f = zero_yes (dot rr n) (and_left (is_zero (dot rr n)) (cuts_open t s m) e) in
      let cut = and_right (is_zero (dot rr n)) (cuts_open t s m) e in
      let c1 = and_left (lt_z (pos 0) t && lt_z t m) (le_z (pos 0) s && le_z s m) cut in
      let c2 = and_right (lt_z (pos 0) t && lt_z t m) (le_z (pos 0) s && le_z s m) cut in
      record {
        here =
            record {
              scale = m;
              place = t;
              after = lt_yes (and_left (lt_z (pos 0) t) (lt_z t m) c1);
              before = lt_yes (and_right (lt_z (pos 0) t) (lt_z t m) c1);
            };
        there = record {
          scale = m;
          place = s;
          some = self_pos n (origin_no i);
          least = le_yes (and_left (le_z (pos 0) s) (le_z s m) c2);
          most = le_yes (and_right (le_z (pos 0) s) (le_z s m) c2);
        };
        is = to_places a b c d m t m s (crossing_meet pp qq rr f);
      }

  meets_is : (t : Bool) → is_origin (cross pp qq) ≡ t → Common a b c d → test t ≡ true
  meets_is true i y =
      let par = origin_yes (cross pp qq) i in
      let e = of_places a b c d y.here.scale y.here.place y.there.scale y.there.place y.is in
      let mp = self_pos pp (differ ne) in
      let t : Places (dot pp pp) (dot pp rr) (dot pp qq) = record
      { here = y.here; there = y.there; is = meet_places pp qq rr (differ ne) par y.here y.there e } in
      and_both
      (origin_is (meet_line pp qq rr (differ ne) par y.here y.there e))
      (ap (λ (z : ℤ). overlap (dot pp rr) z (dot pp pp)) far
      ∙ overlap_is (dot pp rr) (dot pp rr +ℤ dot pp qq) (dot pp pp) (not_low (dot pp pp) (dot pp rr) (dot pp qq) mp t)
      (not_high (dot pp pp) (dot pp rr) (dot pp qq) mp t))
  meets_is false i y =
      let e = of_places a b c d y.here.scale y.here.place y.there.scale y.there.place y.is in
      and_both (zero_is (meet_flat pp qq rr y.here y.there e)) (meet_cuts pp qq rr y.here y.there e (origin_no i))

  -- the segment from a to b without its ends and the one from c to d with its ends have a common point exactly when `openMeets` says so
  pub open_meets_means : (open_meets a b c d ≡ true) ↔ Common a b c d
  unfolding open_meets
  open_meets_means = (meets_yes (is_origin (cross pp qq)) refl, meets_is (is_origin (cross pp qq)) refl)
