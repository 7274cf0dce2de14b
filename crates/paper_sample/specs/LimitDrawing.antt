-- Each number and each limit (drawing), as the reference answers them.
use Rattle.std.specs.Prelude.{refl, true, false, List, [], ◌∷◌, ◌++◌, pos}
use Rattle.std.specs.Float.{binary64}
use Rattle.std.specs.Float.Ieee.{of_bits}
use Rattle.paper.specs.Numbers.{documented}
use Rattle.paper.specs.Sheet.{held, blank}
use Rattle.paper.specs.Desk.{text}
use Rattle.paper.specs.Questions.{neg, wholly, fetched, stored, checked, paired, covering, desk, read, ruled, posted, left, wrote, sheet, bytes, verdicts, rules, tests, reads, face_before, solid_before, Case, ◌yields◌, asked, said, Holds}
use Rattle.paper.specs.declared.Conversion.TheVariants as Conversion
use Rattle.paper.specs.Refusals as No

unfoldable pub rows0 : List Case
unfolding text of_bits
rows0 =
    wholly documented (record { xyz = (pos 0 ∷ pos 0 ∷ pos 0 ∷ pos 6 ∷ pos 0 ∷ pos 0 ∷ pos 0 ∷ pos 6 ∷ pos 0 ∷ pos 0 ∷ pos 0 ∷ pos 6 ∷ []); ends = (0 ∷ 1 ∷ 0 ∷ 2 ∷ 0 ∷ 3 ∷ 1 ∷ 2 ∷ 1 ∷ 3 ∷ 2 ∷ 3 ∷ []) }) 1000001 831 24
    yields left (Conversion.Refused (record { number = No.NoRoom; place = 0 })) (([]) ++ face_before 831) (([]) ++ solid_before 24)
    ∷ wholly documented (record { xyz = (pos 0 ∷ pos 0 ∷ pos 0 ∷ pos 6 ∷ pos 0 ∷ pos 0 ∷ pos 0 ∷ pos 6 ∷ pos 0 ∷ pos 0 ∷ pos 0 ∷ pos 6 ∷ []); ends = (0 ∷ 1 ∷ 0 ∷ 2 ∷ 0 ∷ 3 ∷ 1 ∷ 2 ∷ 1 ∷ 3 ∷ 2 ∷ 3 ∷ []) }) 1000001 832 23
    yields left (Conversion.Refused (record { number = No.NoRoom; place = 1 })) (([]) ++ face_before 832) (([]) ++ solid_before 23)
    ∷ wholly documented (record { xyz = (pos 0 ∷ pos 0 ∷ pos 0 ∷ pos 6 ∷ pos 0 ∷ pos 0 ∷ pos 0 ∷ pos 6 ∷ pos 0 ∷ pos 0 ∷ pos 0 ∷ pos 6 ∷ []); ends = (0 ∷ 1 ∷ 0 ∷ 2 ∷ 0 ∷ 3 ∷ 1 ∷ 2 ∷ 1 ∷ 3 ∷ 2 ∷ 3 ∷ []) }) 0 831 23
    yields left (Conversion.Refused (record { number = No.NoRoom; place = 0 })) (([]) ++ face_before 831) (([]) ++ solid_before 23)
    ∷ []

pub hold0 : Holds rows0
unfolding rows0 asked said
hold0 = refl

unfoldable pub rows1 : List Case
unfolding text of_bits
rows1 =
    wholly documented (record { xyz = (pos 0 ∷ pos 0 ∷ pos 0 ∷ pos 6 ∷ pos 0 ∷ pos 0 ∷ pos 0 ∷ pos 6 ∷ pos 0 ∷ pos 0 ∷ pos 0 ∷ pos 6 ∷ []); ends = (0 ∷ 1 ∷ 0 ∷ 2 ∷ 0 ∷ 3 ∷ 1 ∷ 2 ∷ 1 ∷ 3 ∷ 2 ∷ 3 ∷ []) }) 1000001 832 24
    yields left (Conversion.Refused (record { number = No.BadLimit; place = 0 })) (([]) ++ face_before 832) (([]) ++ solid_before 24)
    ∷ wholly documented (record { xyz = (pos 0 ∷ pos 0 ∷ pos 0 ∷ pos 6 ∷ pos 0 ∷ pos 0 ∷ pos 0 ∷ pos 6 ∷ pos 0 ∷ pos 0 ∷ pos 0 ∷ pos 6 ∷ []); ends = (0 ∷ 1 ∷ 0 ∷ 2 ∷ 0 ∷ 3 ∷ 1 ∷ 2 ∷ 1 ∷ 3 ∷ 2 ∷ 3 ∷ []) }) 1000000 840 27
    yields left (Conversion.One 4 4 0 216) ((3 ∷ 0 ∷ 1 ∷ 2 ∷ 255 ∷ 255 ∷ 255 ∷ 255 ∷ 255 ∷ 255 ∷ 255 ∷ 255 ∷ 255 ∷ 3 ∷ 0 ∷ 1 ∷ 3 ∷ 255 ∷ 255 ∷ 255 ∷ 255 ∷ 255 ∷ 255 ∷ 255 ∷ 255 ∷ 255 ∷ 3 ∷ 0 ∷ 2 ∷ 3 ∷ 255 ∷ 255 ∷ 255 ∷ 255 ∷ 255 ∷ 255 ∷ 255 ∷ 255 ∷ 255 ∷ 3 ∷ 1 ∷ 2 ∷ 3 ∷ 255 ∷ 255 ∷ 255 ∷ 255 ∷ 255 ∷ 255 ∷ 255 ∷ 255 ∷ 255 ∷ []) ++ face_before 788) ((15 ∷ 5 ∷ 216 ∷ []) ++ solid_before 24)
    ∷ wholly documented (record { xyz = (pos 0 ∷ pos 0 ∷ pos 0 ∷ pos 6 ∷ pos 0 ∷ pos 0 ∷ pos 0 ∷ pos 6 ∷ pos 0 ∷ pos 0 ∷ pos 0 ∷ pos 6 ∷ pos 0 ∷ []); ends = (0 ∷ 1 ∷ 0 ∷ 2 ∷ 0 ∷ 3 ∷ 1 ∷ 2 ∷ 1 ∷ 3 ∷ 2 ∷ 3 ∷ []) }) 0 832 24
    yields left (Conversion.Refused (record { number = No.BadCount; place = 0 })) (([]) ++ face_before 832) (([]) ++ solid_before 24)
    ∷ []

pub hold1 : Holds rows1
unfolding rows1 asked said
hold1 = refl

unfoldable pub rows2 : List Case
unfolding text of_bits
rows2 =
    wholly documented (record { xyz = (pos 0 ∷ pos 0 ∷ pos 0 ∷ pos 6 ∷ pos 0 ∷ pos 0 ∷ pos 0 ∷ pos 6 ∷ pos 0 ∷ pos 0 ∷ pos 0 ∷ pos 6 ∷ []); ends = (0 ∷ 1 ∷ 0 ∷ 2 ∷ 0 ∷ 3 ∷ 1 ∷ 2 ∷ 1 ∷ 3 ∷ 2 ∷ 3 ∷ 3 ∷ []) }) 0 832 24
    yields left (Conversion.Refused (record { number = No.BadCount; place = 1 })) (([]) ++ face_before 832) (([]) ++ solid_before 24)
    ∷ wholly documented (record { xyz = (pos 0 ∷ pos 0 ∷ pos 0 ∷ neg 1001 ∷ pos 0 ∷ pos 0 ∷ pos 0 ∷ pos 6 ∷ pos 0 ∷ pos 0 ∷ pos 0 ∷ pos 6 ∷ []); ends = (0 ∷ 1 ∷ 0 ∷ 2 ∷ 0 ∷ 3 ∷ 1 ∷ 2 ∷ 1 ∷ 3 ∷ 2 ∷ 3 ∷ []) }) 0 832 24
    yields left (Conversion.Refused (record { number = No.BadCoordinate; place = 3 })) (([]) ++ face_before 832) (([]) ++ solid_before 24)
    ∷ wholly documented (record { xyz = (pos 0 ∷ pos 0 ∷ pos 0 ∷ pos 6 ∷ pos 0 ∷ pos 0 ∷ pos 0 ∷ pos 6 ∷ pos 0 ∷ []); ends = (0 ∷ 1 ∷ 0 ∷ 2 ∷ 0 ∷ 3 ∷ 1 ∷ 2 ∷ 1 ∷ 3 ∷ 2 ∷ 3 ∷ []) }) 0 832 24
    yields left (Conversion.Refused (record { number = No.BadCount; place = 0 })) (([]) ++ face_before 832) (([]) ++ solid_before 24)
    ∷ []

pub hold2 : Holds rows2
unfolding rows2 asked said
hold2 = refl

unfoldable pub rows3 : List Case
unfolding text of_bits
rows3 =
    wholly documented (record { xyz = (pos 7 ∷ pos 8 ∷ pos 9 ∷ pos 7 ∷ pos 8 ∷ pos 9 ∷ pos 7 ∷ pos 8 ∷ pos 9 ∷ pos 7 ∷ pos 8 ∷ pos 9 ∷ pos 7 ∷ pos 8 ∷ pos 9 ∷ pos 7 ∷ pos 8 ∷ pos 9 ∷ pos 7 ∷ pos 8 ∷ pos 9 ∷ pos 7 ∷ pos 8 ∷ pos 9 ∷ pos 7 ∷ pos 8 ∷ pos 9 ∷ pos 7 ∷ pos 8 ∷ pos 9 ∷ pos 7 ∷ pos 8 ∷ pos 9 ∷ pos 7 ∷ pos 8 ∷ pos 9 ∷ pos 7 ∷ pos 8 ∷ pos 9 ∷ pos 7 ∷ pos 8 ∷ pos 9 ∷ pos 7 ∷ pos 8 ∷ pos 9 ∷ pos 7 ∷ pos 8 ∷ pos 9 ∷ pos 7 ∷ pos 8 ∷ pos 9 ∷ pos 7 ∷ pos 8 ∷ pos 9 ∷ pos 7 ∷ pos 8 ∷ pos 9 ∷ pos 7 ∷ pos 8 ∷ pos 9 ∷ pos 7 ∷ pos 8 ∷ pos 9 ∷ pos 7 ∷ pos 8 ∷ pos 9 ∷ pos 7 ∷ pos 8 ∷ pos 9 ∷ pos 7 ∷ pos 8 ∷ pos 9 ∷ pos 7 ∷ pos 8 ∷ pos 9 ∷ pos 7 ∷ pos 8 ∷ pos 9 ∷ pos 7 ∷ pos 8 ∷ pos 9 ∷ pos 7 ∷ pos 8 ∷ pos 9 ∷ pos 7 ∷ pos 8 ∷ pos 9 ∷ pos 7 ∷ pos 8 ∷ pos 9 ∷ pos 7 ∷ pos 8 ∷ pos 9 ∷ pos 7 ∷ pos 8 ∷ pos 9 ∷ pos 7 ∷ pos 8 ∷ pos 9 ∷ []); ends = (0 ∷ 1 ∷ 0 ∷ 2 ∷ 0 ∷ 3 ∷ 1 ∷ 2 ∷ 1 ∷ 3 ∷ 2 ∷ 3 ∷ []) }) 0 832 24
    yields left (Conversion.Refused (record { number = No.BadCount; place = 0 })) (([]) ++ face_before 832) (([]) ++ solid_before 24)
    ∷ wholly documented (record { xyz = (pos 0 ∷ pos 0 ∷ pos 0 ∷ pos 6 ∷ pos 0 ∷ pos 0 ∷ pos 0 ∷ pos 6 ∷ pos 0 ∷ pos 0 ∷ pos 0 ∷ pos 6 ∷ []); ends = (0 ∷ 1 ∷ 0 ∷ 2 ∷ 0 ∷ 3 ∷ 1 ∷ 2 ∷ 1 ∷ 3 ∷ []) }) 0 832 24
    yields left (Conversion.Refused (record { number = No.BadCount; place = 1 })) (([]) ++ face_before 832) (([]) ++ solid_before 24)
    ∷ wholly documented (record { xyz = (pos 0 ∷ pos 0 ∷ pos 0 ∷ pos 6 ∷ pos 0 ∷ pos 0 ∷ pos 0 ∷ pos 6 ∷ pos 0 ∷ pos 0 ∷ pos 0 ∷ pos 6 ∷ []); ends = (0 ∷ 1 ∷ 0 ∷ 1 ∷ 0 ∷ 1 ∷ 0 ∷ 1 ∷ 0 ∷ 1 ∷ 0 ∷ 1 ∷ 0 ∷ 1 ∷ 0 ∷ 1 ∷ 0 ∷ 1 ∷ 0 ∷ 1 ∷ 0 ∷ 1 ∷ 0 ∷ 1 ∷ 0 ∷ 1 ∷ 0 ∷ 1 ∷ 0 ∷ 1 ∷ 0 ∷ 1 ∷ 0 ∷ 1 ∷ 0 ∷ 1 ∷ 0 ∷ 1 ∷ 0 ∷ 1 ∷ 0 ∷ 1 ∷ 0 ∷ 1 ∷ 0 ∷ 1 ∷ 0 ∷ 1 ∷ 0 ∷ 1 ∷ 0 ∷ 1 ∷ 0 ∷ 1 ∷ 0 ∷ 1 ∷ 0 ∷ 1 ∷ 0 ∷ 1 ∷ 0 ∷ 1 ∷ 0 ∷ 1 ∷ 0 ∷ 1 ∷ 0 ∷ 1 ∷ 0 ∷ 1 ∷ 0 ∷ 1 ∷ 0 ∷ 1 ∷ 0 ∷ 1 ∷ 0 ∷ 1 ∷ 0 ∷ 1 ∷ 0 ∷ 1 ∷ 0 ∷ 1 ∷ 0 ∷ 1 ∷ 0 ∷ 1 ∷ 0 ∷ 1 ∷ 0 ∷ 1 ∷ 0 ∷ 1 ∷ 0 ∷ 1 ∷ 0 ∷ 1 ∷ 0 ∷ 1 ∷ 0 ∷ 1 ∷ 0 ∷ 1 ∷ 0 ∷ 1 ∷ 0 ∷ 1 ∷ 0 ∷ 1 ∷ 0 ∷ 1 ∷ 0 ∷ 1 ∷ 0 ∷ 1 ∷ 0 ∷ 1 ∷ 0 ∷ 1 ∷ 0 ∷ 1 ∷ 0 ∷ 1 ∷ 0 ∷ 1 ∷ 0 ∷ 1 ∷ 0 ∷ 1 ∷ []) }) 0 832 24
    yields left (Conversion.Refused (record { number = No.BadCount; place = 1 })) (([]) ++ face_before 832) (([]) ++ solid_before 24)
    ∷ []

pub hold3 : Holds rows3
unfolding rows3 asked said
hold3 = refl

unfoldable pub rows4 : List Case
unfolding text of_bits
rows4 =
    wholly documented (record { xyz = (pos 0 ∷ pos 0 ∷ pos 0 ∷ pos 6 ∷ pos 0 ∷ pos 0 ∷ pos 0 ∷ pos 6 ∷ pos 0 ∷ pos 0 ∷ pos 0 ∷ pos 1001 ∷ []); ends = (0 ∷ 1 ∷ 0 ∷ 2 ∷ 0 ∷ 3 ∷ 1 ∷ 2 ∷ 1 ∷ 3 ∷ 2 ∷ 3 ∷ []) }) 0 832 24
    yields left (Conversion.Refused (record { number = No.BadCoordinate; place = 11 })) (([]) ++ face_before 832) (([]) ++ solid_before 24)
    ∷ wholly documented (record { xyz = (pos 0 ∷ pos 0 ∷ pos 0 ∷ pos 6 ∷ pos 0 ∷ pos 0 ∷ pos 0 ∷ pos 6 ∷ pos 0 ∷ pos 0 ∷ pos 0 ∷ pos 6 ∷ []); ends = (0 ∷ 1 ∷ 0 ∷ 2 ∷ 0 ∷ 3 ∷ 1 ∷ 2 ∷ 1 ∷ 3 ∷ 2 ∷ 4 ∷ []) }) 0 832 24
    yields left (Conversion.Refused (record { number = No.BadEdge; place = 5 })) (([]) ++ face_before 832) (([]) ++ solid_before 24)
    ∷ wholly documented (record { xyz = (pos 0 ∷ pos 0 ∷ pos 0 ∷ pos 6 ∷ pos 0 ∷ pos 0 ∷ pos 0 ∷ pos 6 ∷ pos 0 ∷ pos 0 ∷ pos 0 ∷ pos 6 ∷ []); ends = (0 ∷ 1 ∷ 0 ∷ 2 ∷ 0 ∷ 3 ∷ 2 ∷ 1 ∷ 1 ∷ 3 ∷ 2 ∷ 3 ∷ []) }) 0 832 24
    yields left (Conversion.Refused (record { number = No.BadEdge; place = 3 })) (([]) ++ face_before 832) (([]) ++ solid_before 24)
    ∷ []

pub hold4 : Holds rows4
unfolding rows4 asked said
hold4 = refl

unfoldable pub rows5 : List Case
unfolding text of_bits
rows5 =
    wholly documented (record { xyz = (pos 0 ∷ pos 0 ∷ pos 0 ∷ pos 6 ∷ pos 0 ∷ pos 0 ∷ pos 0 ∷ pos 6 ∷ pos 0 ∷ pos 0 ∷ pos 0 ∷ pos 6 ∷ []); ends = (0 ∷ 1 ∷ 0 ∷ 2 ∷ 0 ∷ 3 ∷ 1 ∷ 2 ∷ 1 ∷ 2 ∷ 2 ∷ 3 ∷ []) }) 0 832 24
    yields left (Conversion.Refused (record { number = No.EdgeOrder; place = 4 })) (([]) ++ face_before 832) (([]) ++ solid_before 24)
    ∷ wholly documented (record { xyz = (pos 0 ∷ pos 0 ∷ pos 0 ∷ pos 6 ∷ pos 0 ∷ pos 0 ∷ pos 0 ∷ pos 6 ∷ pos 0 ∷ pos 0 ∷ pos 0 ∷ pos 6 ∷ []); ends = (0 ∷ 1 ∷ 0 ∷ 3 ∷ 0 ∷ 2 ∷ 1 ∷ 2 ∷ 1 ∷ 3 ∷ 2 ∷ 3 ∷ []) }) 0 832 24
    yields left (Conversion.Refused (record { number = No.EdgeOrder; place = 2 })) (([]) ++ face_before 832) (([]) ++ solid_before 24)
    ∷ wholly documented (record { xyz = (pos 0 ∷ pos 0 ∷ pos 0 ∷ pos 6 ∷ pos 0 ∷ pos 0 ∷ pos 0 ∷ pos 6 ∷ pos 0 ∷ pos 0 ∷ pos 6 ∷ pos 0 ∷ []); ends = (0 ∷ 1 ∷ 0 ∷ 2 ∷ 0 ∷ 3 ∷ 1 ∷ 2 ∷ 1 ∷ 3 ∷ 2 ∷ 3 ∷ []) }) 0 832 24
    yields left (Conversion.Refused (record { number = No.SamePlace; place = 2 })) (([]) ++ face_before 832) (([]) ++ solid_before 24)
    ∷ []

pub hold5 : Holds rows5
unfolding rows5 asked said
hold5 = refl

unfoldable pub rows6 : List Case
unfolding text of_bits
rows6 =
    wholly documented (record { xyz = (pos 0 ∷ pos 0 ∷ pos 0 ∷ pos 6 ∷ pos 0 ∷ pos 0 ∷ pos 0 ∷ pos 6 ∷ pos 0 ∷ pos 0 ∷ pos 0 ∷ pos 6 ∷ pos 9 ∷ pos 9 ∷ pos 9 ∷ []); ends = (0 ∷ 1 ∷ 0 ∷ 2 ∷ 0 ∷ 3 ∷ 1 ∷ 2 ∷ 1 ∷ 3 ∷ 2 ∷ 3 ∷ []) }) 0 832 24
    yields left (Conversion.Refused (record { number = No.LooseVertex; place = 4 })) (([]) ++ face_before 832) (([]) ++ solid_before 24)
    ∷ wholly documented (record { xyz = (pos 0 ∷ pos 0 ∷ pos 0 ∷ pos 6 ∷ pos 0 ∷ pos 0 ∷ pos 0 ∷ pos 6 ∷ pos 0 ∷ pos 6 ∷ pos 6 ∷ pos 0 ∷ []); ends = (0 ∷ 1 ∷ 0 ∷ 2 ∷ 0 ∷ 3 ∷ 1 ∷ 2 ∷ 1 ∷ 3 ∷ 2 ∷ 3 ∷ []) }) 0 832 24
    yields left (Conversion.Refused (record { number = No.EdgeMeets; place = 2 })) (([]) ++ face_before 832) (([]) ++ solid_before 24)
    ∷ wholly documented (record { xyz = (pos 0 ∷ pos 0 ∷ pos 0 ∷ pos 6 ∷ pos 0 ∷ pos 0 ∷ pos 0 ∷ pos 6 ∷ pos 0 ∷ pos 0 ∷ pos 0 ∷ pos 6 ∷ pos 50 ∷ pos 60 ∷ pos 70 ∷ pos 56 ∷ pos 60 ∷ pos 70 ∷ pos 50 ∷ pos 66 ∷ pos 70 ∷ pos 50 ∷ pos 60 ∷ pos 76 ∷ []); ends = (0 ∷ 1 ∷ 0 ∷ 2 ∷ 0 ∷ 3 ∷ 1 ∷ 2 ∷ 1 ∷ 3 ∷ 2 ∷ 3 ∷ 4 ∷ 5 ∷ 4 ∷ 6 ∷ 4 ∷ 7 ∷ 5 ∷ 6 ∷ 5 ∷ 7 ∷ 6 ∷ 7 ∷ []) }) 0 832 24
    yields left (Conversion.Refused (record { number = No.Apart; place = 4 })) (([]) ++ face_before 832) (([]) ++ solid_before 24)
    ∷ []

pub hold6 : Holds rows6
unfolding rows6 asked said
hold6 = refl

unfoldable pub rows7 : List Case
unfolding text of_bits
rows7 =
    wholly documented (record { xyz = (pos 0 ∷ pos 1 ∷ pos 0 ∷ pos 2 ∷ pos 1 ∷ pos 0 ∷ pos 3 ∷ pos 3 ∷ pos 0 ∷ pos 4 ∷ pos 0 ∷ pos 0 ∷ pos 2 ∷ pos 3 ∷ pos 0 ∷ pos 1 ∷ pos 6 ∷ pos 0 ∷ pos 3 ∷ pos 1 ∷ pos 0 ∷ pos 4 ∷ pos 5 ∷ pos 0 ∷ []); ends = (0 ∷ 1 ∷ 0 ∷ 3 ∷ 0 ∷ 5 ∷ 1 ∷ 4 ∷ 1 ∷ 5 ∷ 1 ∷ 6 ∷ 2 ∷ 3 ∷ 2 ∷ 5 ∷ 2 ∷ 6 ∷ 2 ∷ 7 ∷ 3 ∷ 6 ∷ 3 ∷ 7 ∷ 4 ∷ 5 ∷ 4 ∷ 6 ∷ 5 ∷ 6 ∷ 5 ∷ 7 ∷ []) }) 0 832 24
    yields left (Conversion.Refused (record { number = No.ManyLoops; place = 0 })) (([]) ++ face_before 832) (([]) ++ solid_before 24)
    ∷ wholly documented (record { xyz = (neg 4 ∷ pos 16 ∷ neg 64 ∷ neg 3 ∷ pos 9 ∷ neg 27 ∷ neg 2 ∷ pos 4 ∷ neg 8 ∷ neg 1 ∷ pos 1 ∷ neg 1 ∷ pos 0 ∷ pos 0 ∷ pos 0 ∷ pos 1 ∷ pos 1 ∷ pos 1 ∷ pos 2 ∷ pos 4 ∷ pos 8 ∷ pos 3 ∷ pos 9 ∷ pos 27 ∷ pos 4 ∷ pos 16 ∷ pos 64 ∷ []); ends = (0 ∷ 2 ∷ 0 ∷ 3 ∷ 0 ∷ 4 ∷ 0 ∷ 5 ∷ 0 ∷ 6 ∷ 0 ∷ 7 ∷ 0 ∷ 8 ∷ 1 ∷ 3 ∷ 1 ∷ 4 ∷ 1 ∷ 5 ∷ 1 ∷ 6 ∷ 1 ∷ 7 ∷ 1 ∷ 8 ∷ 2 ∷ 4 ∷ 2 ∷ 5 ∷ 2 ∷ 6 ∷ 2 ∷ 7 ∷ 2 ∷ 8 ∷ 3 ∷ 4 ∷ 3 ∷ 5 ∷ 3 ∷ 6 ∷ 3 ∷ 7 ∷ 3 ∷ 8 ∷ 4 ∷ 5 ∷ 4 ∷ 6 ∷ 4 ∷ 7 ∷ 4 ∷ 8 ∷ 5 ∷ 6 ∷ 5 ∷ 7 ∷ 5 ∷ 8 ∷ 6 ∷ 7 ∷ 6 ∷ 8 ∷ 7 ∷ 8 ∷ []) }) 0 832 24
    yields left (Conversion.Refused (record { number = No.ManyCandidates; place = 0 })) (([]) ++ face_before 832) (([]) ++ solid_before 24)
    ∷ wholly documented (record { xyz = (pos 2 ∷ pos 3 ∷ pos 0 ∷ pos 4 ∷ pos 5 ∷ pos 0 ∷ pos 6 ∷ pos 0 ∷ pos 0 ∷ pos 0 ∷ pos 4 ∷ pos 0 ∷ pos 5 ∷ pos 5 ∷ pos 0 ∷ pos 4 ∷ pos 4 ∷ pos 0 ∷ pos 5 ∷ pos 6 ∷ pos 0 ∷ pos 2 ∷ pos 2 ∷ pos 0 ∷ []); ends = (0 ∷ 1 ∷ 0 ∷ 3 ∷ 0 ∷ 7 ∷ 1 ∷ 3 ∷ 1 ∷ 5 ∷ 1 ∷ 6 ∷ 1 ∷ 7 ∷ 2 ∷ 4 ∷ 2 ∷ 5 ∷ 2 ∷ 6 ∷ 2 ∷ 7 ∷ 3 ∷ 6 ∷ 3 ∷ 7 ∷ 4 ∷ 5 ∷ 4 ∷ 6 ∷ 5 ∷ 6 ∷ []) }) 1000000 832 24
    yields left (Conversion.NoSolid 128 9 0) (([]) ++ face_before 832) (([]) ++ solid_before 24)
    ∷ []

pub hold7 : Holds rows7
unfolding rows7 asked said
hold7 = refl

unfoldable pub rows8 : List Case
unfolding text of_bits
rows8 =
    wholly documented (record { xyz = (neg 4 ∷ pos 16 ∷ neg 64 ∷ neg 3 ∷ pos 9 ∷ neg 27 ∷ neg 2 ∷ pos 4 ∷ neg 8 ∷ neg 1 ∷ pos 1 ∷ neg 1 ∷ pos 0 ∷ pos 0 ∷ pos 0 ∷ pos 1 ∷ pos 1 ∷ pos 1 ∷ pos 2 ∷ pos 4 ∷ pos 8 ∷ pos 3 ∷ pos 9 ∷ pos 27 ∷ pos 4 ∷ pos 16 ∷ pos 64 ∷ []); ends = (0 ∷ 2 ∷ 0 ∷ 3 ∷ 0 ∷ 4 ∷ 0 ∷ 5 ∷ 0 ∷ 6 ∷ 0 ∷ 7 ∷ 0 ∷ 8 ∷ 1 ∷ 3 ∷ 1 ∷ 4 ∷ 1 ∷ 5 ∷ 1 ∷ 6 ∷ 1 ∷ 7 ∷ 1 ∷ 8 ∷ 2 ∷ 3 ∷ 2 ∷ 4 ∷ 2 ∷ 5 ∷ 2 ∷ 6 ∷ 2 ∷ 7 ∷ 2 ∷ 8 ∷ 3 ∷ 5 ∷ 3 ∷ 6 ∷ 3 ∷ 7 ∷ 3 ∷ 8 ∷ 4 ∷ 5 ∷ 4 ∷ 6 ∷ 4 ∷ 7 ∷ 4 ∷ 8 ∷ 5 ∷ 6 ∷ 5 ∷ 7 ∷ 5 ∷ 8 ∷ 6 ∷ 7 ∷ 6 ∷ 8 ∷ 7 ∷ 8 ∷ []) }) 0 832 24
    yields left (Conversion.TooLong 64 64 0) (([]) ++ face_before 832) (([]) ++ solid_before 24)
    ∷ wholly documented (record { xyz = (pos 0 ∷ pos 0 ∷ pos 0 ∷ pos 2 ∷ pos 0 ∷ pos 0 ∷ pos 4 ∷ pos 1 ∷ pos 0 ∷ pos 5 ∷ pos 2 ∷ pos 0 ∷ pos 5 ∷ pos 4 ∷ pos 0 ∷ pos 4 ∷ pos 6 ∷ pos 0 ∷ pos 3 ∷ pos 7 ∷ pos 0 ∷ pos 1 ∷ pos 7 ∷ pos 0 ∷ neg 1 ∷ pos 6 ∷ pos 0 ∷ neg 2 ∷ pos 5 ∷ pos 0 ∷ neg 2 ∷ pos 3 ∷ pos 0 ∷ neg 1 ∷ pos 1 ∷ pos 0 ∷ pos 3 ∷ pos 4 ∷ pos 7 ∷ []); ends = (0 ∷ 1 ∷ 0 ∷ 11 ∷ 0 ∷ 12 ∷ 1 ∷ 2 ∷ 1 ∷ 12 ∷ 2 ∷ 3 ∷ 2 ∷ 12 ∷ 3 ∷ 4 ∷ 3 ∷ 12 ∷ 4 ∷ 5 ∷ 4 ∷ 12 ∷ 5 ∷ 6 ∷ 5 ∷ 12 ∷ 6 ∷ 7 ∷ 6 ∷ 12 ∷ 7 ∷ 8 ∷ 7 ∷ 12 ∷ 8 ∷ 9 ∷ 8 ∷ 12 ∷ 9 ∷ 10 ∷ 9 ∷ 12 ∷ 10 ∷ 11 ∷ 10 ∷ 12 ∷ 11 ∷ 12 ∷ []) }) 1000000 832 24
    yields left (Conversion.One 13 13 0 546) ((12 ∷ 0 ∷ 1 ∷ 2 ∷ 3 ∷ 4 ∷ 5 ∷ 6 ∷ 7 ∷ 8 ∷ 9 ∷ 10 ∷ 11 ∷ 3 ∷ 0 ∷ 1 ∷ 12 ∷ 255 ∷ 255 ∷ 255 ∷ 255 ∷ 255 ∷ 255 ∷ 255 ∷ 255 ∷ 255 ∷ 3 ∷ 0 ∷ 11 ∷ 12 ∷ 255 ∷ 255 ∷ 255 ∷ 255 ∷ 255 ∷ 255 ∷ 255 ∷ 255 ∷ 255 ∷ 3 ∷ 1 ∷ 2 ∷ 12 ∷ 255 ∷ 255 ∷ 255 ∷ 255 ∷ 255 ∷ 255 ∷ 255 ∷ 255 ∷ 255 ∷ 3 ∷ 2 ∷ 3 ∷ 12 ∷ 255 ∷ 255 ∷ 255 ∷ 255 ∷ 255 ∷ 255 ∷ 255 ∷ 255 ∷ 255 ∷ 3 ∷ 3 ∷ 4 ∷ 12 ∷ 255 ∷ 255 ∷ 255 ∷ 255 ∷ 255 ∷ 255 ∷ 255 ∷ 255 ∷ 255 ∷ 3 ∷ 4 ∷ 5 ∷ 12 ∷ 255 ∷ 255 ∷ 255 ∷ 255 ∷ 255 ∷ 255 ∷ 255 ∷ 255 ∷ 255 ∷ 3 ∷ 5 ∷ 6 ∷ 12 ∷ 255 ∷ 255 ∷ 255 ∷ 255 ∷ 255 ∷ 255 ∷ 255 ∷ 255 ∷ 255 ∷ 3 ∷ 6 ∷ 7 ∷ 12 ∷ 255 ∷ 255 ∷ 255 ∷ 255 ∷ 255 ∷ 255 ∷ 255 ∷ 255 ∷ 255 ∷ 3 ∷ 7 ∷ 8 ∷ 12 ∷ 255 ∷ 255 ∷ 255 ∷ 255 ∷ 255 ∷ 255 ∷ 255 ∷ 255 ∷ 255 ∷ 3 ∷ 8 ∷ 9 ∷ 12 ∷ 255 ∷ 255 ∷ 255 ∷ 255 ∷ 255 ∷ 255 ∷ 255 ∷ 255 ∷ 255 ∷ 3 ∷ 9 ∷ 10 ∷ 12 ∷ 255 ∷ 255 ∷ 255 ∷ 255 ∷ 255 ∷ 255 ∷ 255 ∷ 255 ∷ 255 ∷ 3 ∷ 10 ∷ 11 ∷ 12 ∷ 255 ∷ 255 ∷ 255 ∷ 255 ∷ 255 ∷ 255 ∷ 255 ∷ 255 ∷ 255 ∷ []) ++ face_before 663) ((8191 ∷ 5 ∷ 546 ∷ []) ++ solid_before 21)
    ∷ wholly documented (record { xyz = (pos 0 ∷ pos 0 ∷ pos 0 ∷ pos 2 ∷ pos 0 ∷ pos 0 ∷ pos 4 ∷ pos 1 ∷ pos 0 ∷ pos 5 ∷ pos 2 ∷ pos 0 ∷ pos 6 ∷ pos 4 ∷ pos 0 ∷ pos 6 ∷ pos 6 ∷ pos 0 ∷ pos 5 ∷ pos 8 ∷ pos 0 ∷ pos 4 ∷ pos 9 ∷ pos 0 ∷ pos 2 ∷ pos 9 ∷ pos 0 ∷ pos 0 ∷ pos 8 ∷ pos 0 ∷ neg 1 ∷ pos 7 ∷ pos 0 ∷ neg 2 ∷ pos 5 ∷ pos 0 ∷ neg 2 ∷ pos 3 ∷ pos 0 ∷ pos 3 ∷ pos 4 ∷ pos 7 ∷ []); ends = (0 ∷ 1 ∷ 0 ∷ 12 ∷ 0 ∷ 13 ∷ 1 ∷ 2 ∷ 1 ∷ 13 ∷ 2 ∷ 3 ∷ 2 ∷ 13 ∷ 3 ∷ 4 ∷ 3 ∷ 13 ∷ 4 ∷ 5 ∷ 4 ∷ 13 ∷ 5 ∷ 6 ∷ 5 ∷ 13 ∷ 6 ∷ 7 ∷ 6 ∷ 13 ∷ 7 ∷ 8 ∷ 7 ∷ 13 ∷ 8 ∷ 9 ∷ 8 ∷ 13 ∷ 9 ∷ 10 ∷ 9 ∷ 13 ∷ 10 ∷ 11 ∷ 10 ∷ 13 ∷ 11 ∷ 12 ∷ 11 ∷ 13 ∷ 12 ∷ 13 ∷ []) }) 1000000 832 24
    yields left (Conversion.NoSolid 13 13 0) (([]) ++ face_before 832) (([]) ++ solid_before 24)
    ∷ []

pub hold8 : Holds rows8
unfolding rows8 asked said
hold8 = refl

unfoldable pub rows9 : List Case
unfolding text of_bits
rows9 =
    wholly (record { loops = 128; candidates = 64; solids = 3 }) (record { xyz = (pos 0 ∷ pos 0 ∷ pos 0 ∷ pos 4 ∷ pos 0 ∷ pos 0 ∷ pos 0 ∷ pos 4 ∷ pos 0 ∷ pos 0 ∷ pos 0 ∷ pos 4 ∷ pos 4 ∷ pos 4 ∷ pos 0 ∷ pos 4 ∷ pos 0 ∷ pos 4 ∷ pos 0 ∷ pos 4 ∷ pos 4 ∷ pos 4 ∷ pos 4 ∷ pos 4 ∷ pos 2 ∷ pos 2 ∷ pos 2 ∷ []); ends = (0 ∷ 1 ∷ 0 ∷ 2 ∷ 0 ∷ 3 ∷ 0 ∷ 8 ∷ 1 ∷ 4 ∷ 1 ∷ 5 ∷ 1 ∷ 8 ∷ 2 ∷ 4 ∷ 2 ∷ 6 ∷ 2 ∷ 8 ∷ 3 ∷ 5 ∷ 3 ∷ 6 ∷ 3 ∷ 8 ∷ 4 ∷ 7 ∷ 4 ∷ 8 ∷ 5 ∷ 7 ∷ 5 ∷ 8 ∷ 6 ∷ 7 ∷ 6 ∷ 8 ∷ 7 ∷ 8 ∷ []) }) 1000000 832 24
    yields left (Conversion.Several 18 18 4 3) ((4 ∷ 0 ∷ 1 ∷ 4 ∷ 2 ∷ 255 ∷ 255 ∷ 255 ∷ 255 ∷ 255 ∷ 255 ∷ 255 ∷ 255 ∷ 4 ∷ 0 ∷ 1 ∷ 5 ∷ 3 ∷ 255 ∷ 255 ∷ 255 ∷ 255 ∷ 255 ∷ 255 ∷ 255 ∷ 255 ∷ 3 ∷ 0 ∷ 1 ∷ 8 ∷ 255 ∷ 255 ∷ 255 ∷ 255 ∷ 255 ∷ 255 ∷ 255 ∷ 255 ∷ 255 ∷ 4 ∷ 0 ∷ 2 ∷ 6 ∷ 3 ∷ 255 ∷ 255 ∷ 255 ∷ 255 ∷ 255 ∷ 255 ∷ 255 ∷ 255 ∷ 3 ∷ 0 ∷ 2 ∷ 8 ∷ 255 ∷ 255 ∷ 255 ∷ 255 ∷ 255 ∷ 255 ∷ 255 ∷ 255 ∷ 255 ∷ 3 ∷ 0 ∷ 3 ∷ 8 ∷ 255 ∷ 255 ∷ 255 ∷ 255 ∷ 255 ∷ 255 ∷ 255 ∷ 255 ∷ 255 ∷ 4 ∷ 1 ∷ 4 ∷ 7 ∷ 5 ∷ 255 ∷ 255 ∷ 255 ∷ 255 ∷ 255 ∷ 255 ∷ 255 ∷ 255 ∷ 3 ∷ 1 ∷ 4 ∷ 8 ∷ 255 ∷ 255 ∷ 255 ∷ 255 ∷ 255 ∷ 255 ∷ 255 ∷ 255 ∷ 255 ∷ 3 ∷ 1 ∷ 5 ∷ 8 ∷ 255 ∷ 255 ∷ 255 ∷ 255 ∷ 255 ∷ 255 ∷ 255 ∷ 255 ∷ 255 ∷ 4 ∷ 2 ∷ 4 ∷ 7 ∷ 6 ∷ 255 ∷ 255 ∷ 255 ∷ 255 ∷ 255 ∷ 255 ∷ 255 ∷ 255 ∷ 3 ∷ 2 ∷ 4 ∷ 8 ∷ 255 ∷ 255 ∷ 255 ∷ 255 ∷ 255 ∷ 255 ∷ 255 ∷ 255 ∷ 255 ∷ 3 ∷ 2 ∷ 6 ∷ 8 ∷ 255 ∷ 255 ∷ 255 ∷ 255 ∷ 255 ∷ 255 ∷ 255 ∷ 255 ∷ 255 ∷ 4 ∷ 3 ∷ 5 ∷ 7 ∷ 6 ∷ 255 ∷ 255 ∷ 255 ∷ 255 ∷ 255 ∷ 255 ∷ 255 ∷ 255 ∷ 3 ∷ 3 ∷ 5 ∷ 8 ∷ 255 ∷ 255 ∷ 255 ∷ 255 ∷ 255 ∷ 255 ∷ 255 ∷ 255 ∷ 255 ∷ 3 ∷ 3 ∷ 6 ∷ 8 ∷ 255 ∷ 255 ∷ 255 ∷ 255 ∷ 255 ∷ 255 ∷ 255 ∷ 255 ∷ 255 ∷ 3 ∷ 4 ∷ 7 ∷ 8 ∷ 255 ∷ 255 ∷ 255 ∷ 255 ∷ 255 ∷ 255 ∷ 255 ∷ 255 ∷ 255 ∷ 3 ∷ 5 ∷ 7 ∷ 8 ∷ 255 ∷ 255 ∷ 255 ∷ 255 ∷ 255 ∷ 255 ∷ 255 ∷ 255 ∷ 255 ∷ 3 ∷ 6 ∷ 7 ∷ 8 ∷ 255 ∷ 255 ∷ 255 ∷ 255 ∷ 255 ∷ 255 ∷ 255 ∷ 255 ∷ 255 ∷ []) ++ face_before 598) ((121779 ∷ 68369 ∷ 256 ∷ 179565 ∷ 42025 ∷ 256 ∷ 222942 ∷ 148108 ∷ 256 ∷ []) ++ solid_before 15)
    ∷ wholly (record { loops = 128; candidates = 64; solids = 2 }) (record { xyz = (pos 0 ∷ pos 0 ∷ pos 0 ∷ pos 4 ∷ pos 0 ∷ pos 0 ∷ pos 0 ∷ pos 4 ∷ pos 0 ∷ pos 0 ∷ pos 0 ∷ pos 4 ∷ pos 4 ∷ pos 4 ∷ pos 0 ∷ pos 4 ∷ pos 0 ∷ pos 4 ∷ pos 0 ∷ pos 4 ∷ pos 4 ∷ pos 4 ∷ pos 4 ∷ pos 4 ∷ pos 2 ∷ pos 2 ∷ pos 2 ∷ []); ends = (0 ∷ 1 ∷ 0 ∷ 2 ∷ 0 ∷ 3 ∷ 0 ∷ 8 ∷ 1 ∷ 4 ∷ 1 ∷ 5 ∷ 1 ∷ 8 ∷ 2 ∷ 4 ∷ 2 ∷ 6 ∷ 2 ∷ 8 ∷ 3 ∷ 5 ∷ 3 ∷ 6 ∷ 3 ∷ 8 ∷ 4 ∷ 7 ∷ 4 ∷ 8 ∷ 5 ∷ 7 ∷ 5 ∷ 8 ∷ 6 ∷ 7 ∷ 6 ∷ 8 ∷ 7 ∷ 8 ∷ []) }) 1000000 832 24
    yields left (Conversion.Many 18 18 4) (([]) ++ face_before 832) (([]) ++ solid_before 24)
    ∷ wholly documented (record { xyz = (pos 10 ∷ pos 0 ∷ pos 0 ∷ neg 10 ∷ pos 0 ∷ pos 0 ∷ pos 0 ∷ pos 10 ∷ pos 0 ∷ pos 0 ∷ neg 10 ∷ pos 0 ∷ pos 0 ∷ pos 0 ∷ pos 10 ∷ pos 0 ∷ pos 0 ∷ neg 10 ∷ []); ends = (0 ∷ 2 ∷ 0 ∷ 3 ∷ 0 ∷ 4 ∷ 0 ∷ 5 ∷ 1 ∷ 2 ∷ 1 ∷ 3 ∷ 1 ∷ 4 ∷ 1 ∷ 5 ∷ 2 ∷ 4 ∷ 2 ∷ 5 ∷ 3 ∷ 4 ∷ 3 ∷ 5 ∷ []) }) 3 832 24
    yields left (Conversion.TooLong 11 11 3) (([]) ++ face_before 832) (([]) ++ solid_before 24)
    ∷ []

pub hold9 : Holds rows9
unfolding rows9 asked said
hold9 = refl

unfoldable pub rows10 : List Case
unfolding text of_bits
rows10 =
    wholly documented (record { xyz = (pos 10 ∷ pos 0 ∷ pos 0 ∷ neg 10 ∷ pos 0 ∷ pos 0 ∷ pos 0 ∷ pos 10 ∷ pos 0 ∷ pos 0 ∷ neg 10 ∷ pos 0 ∷ pos 0 ∷ pos 0 ∷ pos 10 ∷ pos 0 ∷ pos 0 ∷ neg 10 ∷ []); ends = (0 ∷ 2 ∷ 0 ∷ 3 ∷ 0 ∷ 4 ∷ 0 ∷ 5 ∷ 1 ∷ 2 ∷ 1 ∷ 3 ∷ 1 ∷ 4 ∷ 1 ∷ 5 ∷ 2 ∷ 4 ∷ 2 ∷ 5 ∷ 3 ∷ 4 ∷ 3 ∷ 5 ∷ []) }) 4 832 24
    yields left (Conversion.One 11 11 4 8000) ((4 ∷ 0 ∷ 2 ∷ 1 ∷ 3 ∷ 255 ∷ 255 ∷ 255 ∷ 255 ∷ 255 ∷ 255 ∷ 255 ∷ 255 ∷ 3 ∷ 0 ∷ 2 ∷ 4 ∷ 255 ∷ 255 ∷ 255 ∷ 255 ∷ 255 ∷ 255 ∷ 255 ∷ 255 ∷ 255 ∷ 3 ∷ 0 ∷ 2 ∷ 5 ∷ 255 ∷ 255 ∷ 255 ∷ 255 ∷ 255 ∷ 255 ∷ 255 ∷ 255 ∷ 255 ∷ 3 ∷ 0 ∷ 3 ∷ 4 ∷ 255 ∷ 255 ∷ 255 ∷ 255 ∷ 255 ∷ 255 ∷ 255 ∷ 255 ∷ 255 ∷ 3 ∷ 0 ∷ 3 ∷ 5 ∷ 255 ∷ 255 ∷ 255 ∷ 255 ∷ 255 ∷ 255 ∷ 255 ∷ 255 ∷ 255 ∷ 4 ∷ 0 ∷ 4 ∷ 1 ∷ 5 ∷ 255 ∷ 255 ∷ 255 ∷ 255 ∷ 255 ∷ 255 ∷ 255 ∷ 255 ∷ 3 ∷ 1 ∷ 2 ∷ 4 ∷ 255 ∷ 255 ∷ 255 ∷ 255 ∷ 255 ∷ 255 ∷ 255 ∷ 255 ∷ 255 ∷ 3 ∷ 1 ∷ 2 ∷ 5 ∷ 255 ∷ 255 ∷ 255 ∷ 255 ∷ 255 ∷ 255 ∷ 255 ∷ 255 ∷ 255 ∷ 3 ∷ 1 ∷ 3 ∷ 4 ∷ 255 ∷ 255 ∷ 255 ∷ 255 ∷ 255 ∷ 255 ∷ 255 ∷ 255 ∷ 255 ∷ 3 ∷ 1 ∷ 3 ∷ 5 ∷ 255 ∷ 255 ∷ 255 ∷ 255 ∷ 255 ∷ 255 ∷ 255 ∷ 255 ∷ 255 ∷ 4 ∷ 2 ∷ 4 ∷ 3 ∷ 5 ∷ 255 ∷ 255 ∷ 255 ∷ 255 ∷ 255 ∷ 255 ∷ 255 ∷ 255 ∷ []) ++ face_before 689) ((990 ∷ 588 ∷ 8000 ∷ []) ++ solid_before 21)
    ∷ wholly documented (record { xyz = (pos 0 ∷ pos 0 ∷ pos 0 ∷ pos 10 ∷ pos 0 ∷ pos 0 ∷ pos 0 ∷ pos 10 ∷ pos 0 ∷ pos 10 ∷ pos 10 ∷ pos 0 ∷ pos 0 ∷ pos 0 ∷ pos 10 ∷ pos 10 ∷ pos 0 ∷ pos 10 ∷ pos 0 ∷ pos 10 ∷ pos 10 ∷ pos 10 ∷ pos 10 ∷ pos 10 ∷ []); ends = (0 ∷ 2 ∷ 0 ∷ 4 ∷ 1 ∷ 3 ∷ 1 ∷ 5 ∷ 2 ∷ 3 ∷ 2 ∷ 6 ∷ 3 ∷ 7 ∷ 4 ∷ 5 ∷ 4 ∷ 6 ∷ 5 ∷ 7 ∷ 6 ∷ 7 ∷ []) }) 0 832 24
    yields left (Conversion.NoSolid 4 4 0) (([]) ++ face_before 832) (([]) ++ solid_before 24)
    ∷ wholly (record { loops = 10; candidates = 11; solids = 8 }) (record { xyz = (pos 10 ∷ pos 0 ∷ pos 0 ∷ neg 10 ∷ pos 0 ∷ pos 0 ∷ pos 0 ∷ pos 10 ∷ pos 0 ∷ pos 0 ∷ neg 10 ∷ pos 0 ∷ pos 0 ∷ pos 0 ∷ pos 10 ∷ pos 0 ∷ pos 0 ∷ neg 10 ∷ []); ends = (0 ∷ 2 ∷ 0 ∷ 3 ∷ 0 ∷ 4 ∷ 0 ∷ 5 ∷ 1 ∷ 2 ∷ 1 ∷ 3 ∷ 1 ∷ 4 ∷ 1 ∷ 5 ∷ 2 ∷ 4 ∷ 2 ∷ 5 ∷ 3 ∷ 4 ∷ 3 ∷ 5 ∷ []) }) 1000000 832 24
    yields left (Conversion.Refused (record { number = No.ManyLoops; place = 0 })) (([]) ++ face_before 832) (([]) ++ solid_before 24)
    ∷ []

pub hold10 : Holds rows10
unfolding rows10 asked said
hold10 = refl

unfoldable pub rows11 : List Case
unfolding text of_bits
rows11 =
    wholly (record { loops = 11; candidates = 10; solids = 8 }) (record { xyz = (pos 10 ∷ pos 0 ∷ pos 0 ∷ neg 10 ∷ pos 0 ∷ pos 0 ∷ pos 0 ∷ pos 10 ∷ pos 0 ∷ pos 0 ∷ neg 10 ∷ pos 0 ∷ pos 0 ∷ pos 0 ∷ pos 10 ∷ pos 0 ∷ pos 0 ∷ neg 10 ∷ []); ends = (0 ∷ 2 ∷ 0 ∷ 3 ∷ 0 ∷ 4 ∷ 0 ∷ 5 ∷ 1 ∷ 2 ∷ 1 ∷ 3 ∷ 1 ∷ 4 ∷ 1 ∷ 5 ∷ 2 ∷ 4 ∷ 2 ∷ 5 ∷ 3 ∷ 4 ∷ 3 ∷ 5 ∷ []) }) 1000000 832 24
    yields left (Conversion.Refused (record { number = No.ManyCandidates; place = 0 })) (([]) ++ face_before 832) (([]) ++ solid_before 24)
    ∷ wholly (record { loops = 10; candidates = 10; solids = 8 }) (record { xyz = (pos 10 ∷ pos 0 ∷ pos 0 ∷ neg 10 ∷ pos 0 ∷ pos 0 ∷ pos 0 ∷ pos 10 ∷ pos 0 ∷ pos 0 ∷ neg 10 ∷ pos 0 ∷ pos 0 ∷ pos 0 ∷ pos 10 ∷ pos 0 ∷ pos 0 ∷ neg 10 ∷ []); ends = (0 ∷ 2 ∷ 0 ∷ 3 ∷ 0 ∷ 4 ∷ 0 ∷ 5 ∷ 1 ∷ 2 ∷ 1 ∷ 3 ∷ 1 ∷ 4 ∷ 1 ∷ 5 ∷ 2 ∷ 4 ∷ 2 ∷ 5 ∷ 3 ∷ 4 ∷ 3 ∷ 5 ∷ []) }) 1000000 832 24
    yields left (Conversion.Refused (record { number = No.ManyLoops; place = 0 })) (([]) ++ face_before 832) (([]) ++ solid_before 24)
    ∷ wholly (record { loops = 11; candidates = 11; solids = 8 }) (record { xyz = (pos 10 ∷ pos 0 ∷ pos 0 ∷ neg 10 ∷ pos 0 ∷ pos 0 ∷ pos 0 ∷ pos 10 ∷ pos 0 ∷ pos 0 ∷ neg 10 ∷ pos 0 ∷ pos 0 ∷ pos 0 ∷ pos 10 ∷ pos 0 ∷ pos 0 ∷ neg 10 ∷ []); ends = (0 ∷ 2 ∷ 0 ∷ 3 ∷ 0 ∷ 4 ∷ 0 ∷ 5 ∷ 1 ∷ 2 ∷ 1 ∷ 3 ∷ 1 ∷ 4 ∷ 1 ∷ 5 ∷ 2 ∷ 4 ∷ 2 ∷ 5 ∷ 3 ∷ 4 ∷ 3 ∷ 5 ∷ []) }) 1000000 832 24
    yields left (Conversion.One 11 11 4 8000) ((4 ∷ 0 ∷ 2 ∷ 1 ∷ 3 ∷ 255 ∷ 255 ∷ 255 ∷ 255 ∷ 255 ∷ 255 ∷ 255 ∷ 255 ∷ 3 ∷ 0 ∷ 2 ∷ 4 ∷ 255 ∷ 255 ∷ 255 ∷ 255 ∷ 255 ∷ 255 ∷ 255 ∷ 255 ∷ 255 ∷ 3 ∷ 0 ∷ 2 ∷ 5 ∷ 255 ∷ 255 ∷ 255 ∷ 255 ∷ 255 ∷ 255 ∷ 255 ∷ 255 ∷ 255 ∷ 3 ∷ 0 ∷ 3 ∷ 4 ∷ 255 ∷ 255 ∷ 255 ∷ 255 ∷ 255 ∷ 255 ∷ 255 ∷ 255 ∷ 255 ∷ 3 ∷ 0 ∷ 3 ∷ 5 ∷ 255 ∷ 255 ∷ 255 ∷ 255 ∷ 255 ∷ 255 ∷ 255 ∷ 255 ∷ 255 ∷ 4 ∷ 0 ∷ 4 ∷ 1 ∷ 5 ∷ 255 ∷ 255 ∷ 255 ∷ 255 ∷ 255 ∷ 255 ∷ 255 ∷ 255 ∷ 3 ∷ 1 ∷ 2 ∷ 4 ∷ 255 ∷ 255 ∷ 255 ∷ 255 ∷ 255 ∷ 255 ∷ 255 ∷ 255 ∷ 255 ∷ 3 ∷ 1 ∷ 2 ∷ 5 ∷ 255 ∷ 255 ∷ 255 ∷ 255 ∷ 255 ∷ 255 ∷ 255 ∷ 255 ∷ 255 ∷ 3 ∷ 1 ∷ 3 ∷ 4 ∷ 255 ∷ 255 ∷ 255 ∷ 255 ∷ 255 ∷ 255 ∷ 255 ∷ 255 ∷ 255 ∷ 3 ∷ 1 ∷ 3 ∷ 5 ∷ 255 ∷ 255 ∷ 255 ∷ 255 ∷ 255 ∷ 255 ∷ 255 ∷ 255 ∷ 255 ∷ 4 ∷ 2 ∷ 4 ∷ 3 ∷ 5 ∷ 255 ∷ 255 ∷ 255 ∷ 255 ∷ 255 ∷ 255 ∷ 255 ∷ 255 ∷ []) ++ face_before 689) ((990 ∷ 588 ∷ 8000 ∷ []) ++ solid_before 21)
    ∷ []

pub hold11 : Holds rows11
unfolding rows11 asked said
hold11 = refl

unfoldable pub rows12 : List Case
unfolding text of_bits
rows12 =
    wholly (record { loops = 6; candidates = 3; solids = 8 }) (record { xyz = (pos 0 ∷ pos 0 ∷ pos 0 ∷ pos 9 ∷ pos 0 ∷ pos 0 ∷ pos 0 ∷ pos 9 ∷ pos 0 ∷ pos 3 ∷ pos 3 ∷ pos 0 ∷ []); ends = (0 ∷ 1 ∷ 0 ∷ 2 ∷ 0 ∷ 3 ∷ 1 ∷ 2 ∷ 1 ∷ 3 ∷ 2 ∷ 3 ∷ []) }) 1000000 832 24
    yields left (Conversion.Refused (record { number = No.ManyLoops; place = 0 })) (([]) ++ face_before 832) (([]) ++ solid_before 24)
    ∷ wholly (record { loops = 7; candidates = 2; solids = 8 }) (record { xyz = (pos 0 ∷ pos 0 ∷ pos 0 ∷ pos 9 ∷ pos 0 ∷ pos 0 ∷ pos 0 ∷ pos 9 ∷ pos 0 ∷ pos 3 ∷ pos 3 ∷ pos 0 ∷ []); ends = (0 ∷ 1 ∷ 0 ∷ 2 ∷ 0 ∷ 3 ∷ 1 ∷ 2 ∷ 1 ∷ 3 ∷ 2 ∷ 3 ∷ []) }) 1000000 832 24
    yields left (Conversion.Refused (record { number = No.ManyCandidates; place = 0 })) (([]) ++ face_before 832) (([]) ++ solid_before 24)
    ∷ wholly (record { loops = 6; candidates = 2; solids = 8 }) (record { xyz = (pos 0 ∷ pos 0 ∷ pos 0 ∷ pos 9 ∷ pos 0 ∷ pos 0 ∷ pos 0 ∷ pos 9 ∷ pos 0 ∷ pos 3 ∷ pos 3 ∷ pos 0 ∷ []); ends = (0 ∷ 1 ∷ 0 ∷ 2 ∷ 0 ∷ 3 ∷ 1 ∷ 2 ∷ 1 ∷ 3 ∷ 2 ∷ 3 ∷ []) }) 1000000 832 24
    yields left (Conversion.Refused (record { number = No.ManyLoops; place = 0 })) (([]) ++ face_before 832) (([]) ++ solid_before 24)
    ∷ []

pub hold12 : Holds rows12
unfolding rows12 asked said
hold12 = refl

unfoldable pub rows13 : List Case
unfolding text of_bits
rows13 =
    wholly (record { loops = 7; candidates = 3; solids = 8 }) (record { xyz = (pos 0 ∷ pos 0 ∷ pos 0 ∷ pos 9 ∷ pos 0 ∷ pos 0 ∷ pos 0 ∷ pos 9 ∷ pos 0 ∷ pos 3 ∷ pos 3 ∷ pos 0 ∷ []); ends = (0 ∷ 1 ∷ 0 ∷ 2 ∷ 0 ∷ 3 ∷ 1 ∷ 2 ∷ 1 ∷ 3 ∷ 2 ∷ 3 ∷ []) }) 1000000 832 24
    yields left (Conversion.NoSolid 7 3 0) (([]) ++ face_before 832) (([]) ++ solid_before 24)
    ∷ []

pub hold13 : Holds rows13
unfolding rows13 asked said
hold13 = refl
