-- Both answers of a pair of segments, by whether they are of one direction.
use mathlib.Core.Bool.{Bool, false, cond}
use mathlib.Core.Path.{◌∙◌, ◌≡◌, ap, sym}
use Rattle.paper.specs.Drawing.{open_meets}
use Rattle.paper.specs.Points.{cross, is_origin, minus}
use Rattle.paper.specs.declared.Point.{Point}
use Rattle.fast_meets.specs.Theorems.{EndShared, Longs, laps, second}
use Rattle.fast_meets.proofs.Both.{joined_meet_no_more, one_gives_both}
use Rattle.drawing_segments.specs.Ways.{answers, both_across, both_along, both_meet}
use Rattle.drawing_segments.specs.declared.Both.{Both}

module _ (a b c d : Point) where
  abbrev pub P : Point
  P = minus b a

  abbrev pub Q : Point
  Q = minus d c

  abbrev pub R : Point
  R = minus c a

  abbrev pub N : Point
  N = cross P Q

  abbrev pub byDirection : Bool → Both
  byDirection t =
      let one = both_along a b c d in
      let two = both_across P Q R N in
      answers (cond t one.first two.first) (cond t one.second two.second)

  pub by-direction : Longs a b c d → {t : Bool} → is_origin N ≡ t → byDirection t ≡ both_meet a b c d
  unfolding open_meets second laps
  by-direction long e =
      let one = both_along a b c d in
      let two = both_across P Q R N in
      let first = ap (λ (t : Bool). cond t one.first two.first) (sym e) in
      let other = ap (λ (t : Bool). cond t one.second two.second) (sym e) ∙ sym (one_gives_both a b c d long) in
      λ i. answers (first i) (other i)

  pub by-joined : is_origin N ≡ false → EndShared a b c d → answers false false ≡ both_meet a b c d
  by-joined e shared =
      let none = joined_meet_no_more a b c d e shared in
      λ i. answers (sym none.first i) (sym none.second i)
