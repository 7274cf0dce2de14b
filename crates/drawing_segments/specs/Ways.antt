-- Boxes, and both answers of a pair of segments, as the code holds them.
use Rattle.std.specs.Prelude.{Bool, ◌&&◌}
use Rattle.paper.specs.Points.{dot, cross, minus, is_zero, is_origin}
use Rattle.paper.specs.Drawing.{cuts_open, open_meets}
use Rattle.paper.specs.declared.Point.{Point}
use Rattle.fast_meets.specs.Boxes.{low_corner, high_corner, boxes_apart}
use Rattle.fast_meets.specs.Theorems.{laps}
use Rattle.drawing_segments.specs.declared.Span.{Span}
use Rattle.drawing_segments.specs.declared.Both.{Both}

abbrev pub span_of : Point → Point → Span
span_of a b = record { low = low_corner a b; high = high_corner a b }

abbrev pub spans_apart : Span → Span → Bool
spans_apart s t = boxes_apart s.low s.high t.low t.high

abbrev pub answers : Bool → Bool → Both
answers one other = record { first = one; second = other }

-- of the segments from a to b and from c to d
abbrev pub both_meet : Point → Point → Point → Point → Both
both_meet a b c d = answers (open_meets a b c d) (open_meets c d a b)

-- of one direction
abbrev pub both_along : Point → Point → Point → Point → Both
both_along a b c d =
    let line = is_origin (cross (minus b a) (minus c a)) in
    answers (line && laps a b c d) (line && laps c d a b)

-- of two directions p and q, whose cross product is n, the second starting at r from the start of the first: in one plane, or not
abbrev pub both_cut : Point → Point → Point → Point → Both
both_cut p q r n =
    let t = dot (cross r q) n in
    let s = dot (cross r p) n in
    answers (cuts_open t s (dot n n)) (cuts_open s t (dot n n))

abbrev pub both_across : Point → Point → Point → Point → Both
both_across p q r n =
    let cut = both_cut p q r n in
    answers (is_zero (dot r n) && cut.first) (is_zero (dot r n) && cut.second)
