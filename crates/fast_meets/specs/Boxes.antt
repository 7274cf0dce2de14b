-- The box of a segment, by its lowest and its highest corner, and boxes that are apart along an axis.
use Rattle.std.specs.Prelude.{Bool, ◌||◌, cond, ℤ}
use Rattle.std.specs.Int.Signed.{lt_z, le_z}
use Rattle.paper.specs.Points.{pt}
use Rattle.paper.specs.declared.Point.{Point}

unfoldable pub lesser : ℤ → ℤ → ℤ
lesser a b = cond (le_z a b) a b

unfoldable pub greater : ℤ → ℤ → ℤ
greater a b = cond (le_z a b) b a

-- of the segment from a to b
unfoldable pub low_corner : Point → Point → Point
unfolding lesser
low_corner a b = pt (lesser a.x b.x) (lesser a.y b.y) (lesser a.z b.z)

unfoldable pub high_corner : Point → Point → Point
unfolding greater
high_corner a b = pt (greater a.x b.x) (greater a.y b.y) (greater a.z b.z)

-- one of the spans from low to high and from l to h ends before the other begins
unfoldable pub clear : ℤ → ℤ → ℤ → ℤ → Bool
clear low high l h = lt_z h low || lt_z high l

-- the boxes with these corners are apart along an axis
unfoldable pub boxes_apart : Point → Point → Point → Point → Bool
unfolding clear
boxes_apart low high l h =
    clear low.x high.x l.x h.x || clear low.y high.y l.y h.y || clear low.z high.z l.z h.z

-- so are those of the segments from a to b and from c to d
abbrev pub are_apart : Point → Point → Point → Point → Bool
are_apart a b c d = boxes_apart (low_corner a b) (high_corner a b) (low_corner c d) (high_corner c d)
