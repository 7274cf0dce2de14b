-- A fixed sample of cases (drawing), as the reference answers them.
use Rattle.std.specs.Prelude.{refl, true, false, List, [], ◌∷◌, ◌++◌, pos}
use Rattle.std.specs.Float.{binary64}
use Rattle.std.specs.Float.Ieee.{of_bits}
use Rattle.paper.specs.Numbers.{documented}
use Rattle.paper.specs.Sheet.{held, blank}
use Rattle.paper.specs.Desk.{text}
use Rattle.paper.specs.Questions.{neg, wholly, fetched, stored, checked, paired, covering, desk, read, ruled, posted, left, wrote, sheet, bytes, verdicts, rules, tests, reads, face_before, solid_before, Case, ◌yields◌, asked, said, Holds}
use Rattle.paper.specs.declared.Conversion.TheVariants as Conversion
use Rattle.paper.specs.Refusals as No

unfoldable pub rows0 : List Case
unfolding text of_bits
rows0 =
    wholly documented (record { xyz = (pos 830 ∷ neg 372 ∷ pos 309 ∷ pos 1000 ∷ neg 441 ∷ pos 29 ∷ pos 762 ∷ neg 372 ∷ pos 309 ∷ pos 762 ∷ neg 326 ∷ pos 309 ∷ pos 1000 ∷ neg 257 ∷ pos 29 ∷ pos 728 ∷ neg 257 ∷ pos 29 ∷ pos 830 ∷ neg 326 ∷ pos 309 ∷ pos 728 ∷ neg 441 ∷ pos 29 ∷ []); ends = (0 ∷ 1 ∷ 0 ∷ 2 ∷ 0 ∷ 6 ∷ 1 ∷ 4 ∷ 1 ∷ 7 ∷ 2 ∷ 3 ∷ 2 ∷ 7 ∷ 3 ∷ 5 ∷ 3 ∷ 6 ∷ 4 ∷ 5 ∷ 4 ∷ 6 ∷ 5 ∷ 7 ∷ []) }) 23 840 27
    yields left (Conversion.One 6 6 0 36785280) ((4 ∷ 0 ∷ 1 ∷ 4 ∷ 6 ∷ 255 ∷ 255 ∷ 255 ∷ 255 ∷ 255 ∷ 255 ∷ 255 ∷ 255 ∷ 4 ∷ 0 ∷ 1 ∷ 7 ∷ 2 ∷ 255 ∷ 255 ∷ 255 ∷ 255 ∷ 255 ∷ 255 ∷ 255 ∷ 255 ∷ 4 ∷ 0 ∷ 2 ∷ 3 ∷ 6 ∷ 255 ∷ 255 ∷ 255 ∷ 255 ∷ 255 ∷ 255 ∷ 255 ∷ 255 ∷ 4 ∷ 1 ∷ 4 ∷ 5 ∷ 7 ∷ 255 ∷ 255 ∷ 255 ∷ 255 ∷ 255 ∷ 255 ∷ 255 ∷ 255 ∷ 4 ∷ 2 ∷ 3 ∷ 5 ∷ 7 ∷ 255 ∷ 255 ∷ 255 ∷ 255 ∷ 255 ∷ 255 ∷ 255 ∷ 255 ∷ 4 ∷ 3 ∷ 5 ∷ 4 ∷ 6 ∷ 255 ∷ 255 ∷ 255 ∷ 255 ∷ 255 ∷ 255 ∷ 255 ∷ 255 ∷ []) ++ face_before 762) ((63 ∷ 46 ∷ 36785280 ∷ []) ++ solid_before 24)
    ∷ wholly documented (record { xyz = (neg 895 ∷ neg 890 ∷ pos 724 ∷ neg 814 ∷ neg 872 ∷ pos 688 ∷ neg 1000 ∷ neg 950 ∷ pos 814 ∷ neg 919 ∷ neg 932 ∷ pos 778 ∷ neg 885 ∷ neg 940 ∷ pos 814 ∷ neg 804 ∷ neg 922 ∷ pos 778 ∷ neg 990 ∷ neg 1000 ∷ pos 904 ∷ neg 909 ∷ neg 982 ∷ pos 868 ∷ []); ends = (0 ∷ 1 ∷ 0 ∷ 2 ∷ 0 ∷ 4 ∷ 1 ∷ 3 ∷ 1 ∷ 5 ∷ 2 ∷ 3 ∷ 2 ∷ 6 ∷ 3 ∷ 7 ∷ 4 ∷ 5 ∷ 4 ∷ 6 ∷ 5 ∷ 7 ∷ 6 ∷ 7 ∷ []) }) 28 840 27
    yields left (Conversion.One 6 6 0 583200) ((4 ∷ 0 ∷ 1 ∷ 3 ∷ 2 ∷ 255 ∷ 255 ∷ 255 ∷ 255 ∷ 255 ∷ 255 ∷ 255 ∷ 255 ∷ 4 ∷ 0 ∷ 1 ∷ 5 ∷ 4 ∷ 255 ∷ 255 ∷ 255 ∷ 255 ∷ 255 ∷ 255 ∷ 255 ∷ 255 ∷ 4 ∷ 0 ∷ 2 ∷ 6 ∷ 4 ∷ 255 ∷ 255 ∷ 255 ∷ 255 ∷ 255 ∷ 255 ∷ 255 ∷ 255 ∷ 4 ∷ 1 ∷ 3 ∷ 7 ∷ 5 ∷ 255 ∷ 255 ∷ 255 ∷ 255 ∷ 255 ∷ 255 ∷ 255 ∷ 255 ∷ 4 ∷ 2 ∷ 3 ∷ 7 ∷ 6 ∷ 255 ∷ 255 ∷ 255 ∷ 255 ∷ 255 ∷ 255 ∷ 255 ∷ 255 ∷ 4 ∷ 4 ∷ 5 ∷ 7 ∷ 6 ∷ 255 ∷ 255 ∷ 255 ∷ 255 ∷ 255 ∷ 255 ∷ 255 ∷ 255 ∷ []) ++ face_before 762) ((63 ∷ 42 ∷ 583200 ∷ []) ++ solid_before 24)
    ∷ wholly documented (record { xyz = (pos 0 ∷ pos 0 ∷ pos 0 ∷ pos 4 ∷ pos 0 ∷ pos 0 ∷ pos 4 ∷ pos 2 ∷ pos 0 ∷ pos 2 ∷ pos 2 ∷ pos 0 ∷ pos 2 ∷ pos 4 ∷ pos 0 ∷ pos 0 ∷ pos 4 ∷ pos 0 ∷ pos 1 ∷ pos 1 ∷ pos 1 ∷ []); ends = (0 ∷ 1 ∷ 0 ∷ 5 ∷ 0 ∷ 6 ∷ 1 ∷ 2 ∷ 1 ∷ 6 ∷ 2 ∷ 3 ∷ 2 ∷ 6 ∷ 3 ∷ 4 ∷ 3 ∷ 6 ∷ 4 ∷ 5 ∷ 4 ∷ 6 ∷ 5 ∷ 6 ∷ []) }) 2000000 832 24
    yields left (Conversion.Refused (record { number = No.BadLimit; place = 0 })) (([]) ++ face_before 832) (([]) ++ solid_before 24)
    ∷ []

pub hold0 : Holds rows0
unfolding rows0 asked said
hold0 = refl

unfoldable pub rows1 : List Case
unfolding text of_bits
rows1 =
    wholly documented (record { xyz = (pos 10 ∷ pos 0 ∷ pos 0 ∷ neg 10 ∷ pos 0 ∷ pos 0 ∷ pos 0 ∷ pos 10 ∷ pos 0 ∷ []); ends = (0 ∷ 2 ∷ 0 ∷ 3 ∷ 0 ∷ 4 ∷ 0 ∷ 5 ∷ 1 ∷ 2 ∷ 1 ∷ 3 ∷ 1 ∷ 4 ∷ 1 ∷ 5 ∷ 2 ∷ 4 ∷ 2 ∷ 5 ∷ 3 ∷ 4 ∷ 3 ∷ 5 ∷ []) }) 1000000 832 24
    yields left (Conversion.Refused (record { number = No.BadCount; place = 0 })) (([]) ++ face_before 832) (([]) ++ solid_before 24)
    ∷ wholly documented (record { xyz = (neg 6 ∷ neg 4 ∷ neg 5 ∷ pos 5 ∷ neg 4 ∷ neg 5 ∷ neg 6 ∷ pos 1 ∷ neg 5 ∷ pos 5 ∷ pos 1 ∷ neg 5 ∷ neg 6 ∷ neg 4 ∷ pos 4 ∷ pos 5 ∷ neg 4 ∷ pos 4 ∷ neg 6 ∷ pos 1 ∷ pos 4 ∷ pos 5 ∷ pos 1 ∷ pos 4 ∷ []); ends = (0 ∷ 1 ∷ 6 ∷ 7 ∷ 0 ∷ 4 ∷ 1 ∷ 3 ∷ 1 ∷ 5 ∷ 2 ∷ 3 ∷ 2 ∷ 6 ∷ 3 ∷ 7 ∷ 4 ∷ 5 ∷ 4 ∷ 6 ∷ 5 ∷ 7 ∷ 0 ∷ 2 ∷ []) }) 0 840 27
    yields left (Conversion.Refused (record { number = No.EdgeOrder; place = 2 })) (([]) ++ face_before 840) (([]) ++ solid_before 27)
    ∷ wholly documented (record { xyz = (neg 9 ∷ pos 6 ∷ pos 0 ∷ neg 9 ∷ pos 6 ∷ pos 0 ∷ pos 2 ∷ neg 9 ∷ pos 0 ∷ pos 2 ∷ neg 4 ∷ pos 0 ∷ pos 0 ∷ neg 1 ∷ pos 5 ∷ neg 9 ∷ pos 6 ∷ pos 0 ∷ []); ends = (0 ∷ 1 ∷ 0 ∷ 3 ∷ 0 ∷ 4 ∷ 0 ∷ 5 ∷ 1 ∷ 2 ∷ 1 ∷ 4 ∷ 1 ∷ 5 ∷ 2 ∷ 3 ∷ 2 ∷ 4 ∷ 2 ∷ 5 ∷ 3 ∷ 4 ∷ 3 ∷ 5 ∷ []) }) 1000000 832 24
    yields left (Conversion.Refused (record { number = No.SamePlace; place = 0 })) (([]) ++ face_before 832) (([]) ++ solid_before 24)
    ∷ []

pub hold1 : Holds rows1
unfolding rows1 asked said
hold1 = refl

unfoldable pub rows2 : List Case
unfolding text of_bits
rows2 =
    wholly documented (record { xyz = (pos 227 ∷ pos 999 ∷ neg 999 ∷ pos 0 ∷ pos 0 ∷ pos 0 ∷ pos 3 ∷ pos 0 ∷ pos 0 ∷ pos 0 ∷ pos 3 ∷ pos 0 ∷ pos 0 ∷ pos 0 ∷ pos 3 ∷ pos 3 ∷ pos 3 ∷ pos 0 ∷ pos 3 ∷ pos 0 ∷ pos 3 ∷ pos 0 ∷ pos 3 ∷ pos 3 ∷ pos 3 ∷ pos 3 ∷ pos 3 ∷ []); ends = (0 ∷ 1 ∷ 0 ∷ 2 ∷ 0 ∷ 3 ∷ 1 ∷ 4 ∷ 1 ∷ 5 ∷ 2 ∷ 4 ∷ 2 ∷ 6 ∷ 3 ∷ 5 ∷ 3 ∷ 6 ∷ 4 ∷ 7 ∷ 5 ∷ 7 ∷ 6 ∷ 7 ∷ []) }) 1 832 24
    yields left (Conversion.Refused (record { number = No.LooseVertex; place = 8 })) (([]) ++ face_before 832) (([]) ++ solid_before 24)
    ∷ wholly documented (record { xyz = (neg 988 ∷ pos 878 ∷ neg 165 ∷ neg 1000 ∷ pos 875 ∷ neg 165 ∷ neg 988 ∷ pos 878 ∷ neg 163 ∷ neg 979 ∷ pos 875 ∷ neg 165 ∷ neg 988 ∷ pos 875 ∷ neg 166 ∷ neg 988 ∷ pos 878 ∷ neg 166 ∷ neg 988 ∷ pos 875 ∷ neg 165 ∷ []); ends = (0 ∷ 1 ∷ 0 ∷ 3 ∷ 0 ∷ 5 ∷ 0 ∷ 6 ∷ 1 ∷ 2 ∷ 1 ∷ 4 ∷ 1 ∷ 5 ∷ 1 ∷ 6 ∷ 2 ∷ 3 ∷ 3 ∷ 4 ∷ 3 ∷ 5 ∷ 3 ∷ 6 ∷ 4 ∷ 5 ∷ 4 ∷ 6 ∷ []) }) 1000000 832 24
    yields left (Conversion.NoSolid 13 11 0) (([]) ++ face_before 832) (([]) ++ solid_before 24)
    ∷ wholly documented (record { xyz = (pos 10 ∷ pos 10 ∷ pos 10 ∷ pos 0 ∷ pos 10 ∷ pos 10 ∷ pos 0 ∷ pos 10 ∷ pos 0 ∷ pos 10 ∷ pos 0 ∷ pos 10 ∷ pos 10 ∷ pos 10 ∷ pos 0 ∷ pos 10 ∷ pos 0 ∷ pos 0 ∷ pos 0 ∷ pos 0 ∷ pos 10 ∷ pos 0 ∷ pos 0 ∷ pos 0 ∷ []); ends = (0 ∷ 1 ∷ 0 ∷ 3 ∷ 0 ∷ 4 ∷ 1 ∷ 2 ∷ 1 ∷ 6 ∷ 2 ∷ 4 ∷ 2 ∷ 7 ∷ 3 ∷ 5 ∷ 3 ∷ 6 ∷ 4 ∷ 5 ∷ 5 ∷ 7 ∷ 6 ∷ 7 ∷ []) }) 14 840 27
    yields left (Conversion.One 6 6 0 6000) ((4 ∷ 0 ∷ 1 ∷ 2 ∷ 4 ∷ 255 ∷ 255 ∷ 255 ∷ 255 ∷ 255 ∷ 255 ∷ 255 ∷ 255 ∷ 4 ∷ 0 ∷ 1 ∷ 6 ∷ 3 ∷ 255 ∷ 255 ∷ 255 ∷ 255 ∷ 255 ∷ 255 ∷ 255 ∷ 255 ∷ 4 ∷ 0 ∷ 3 ∷ 5 ∷ 4 ∷ 255 ∷ 255 ∷ 255 ∷ 255 ∷ 255 ∷ 255 ∷ 255 ∷ 255 ∷ 4 ∷ 1 ∷ 2 ∷ 7 ∷ 6 ∷ 255 ∷ 255 ∷ 255 ∷ 255 ∷ 255 ∷ 255 ∷ 255 ∷ 255 ∷ 4 ∷ 2 ∷ 4 ∷ 5 ∷ 7 ∷ 255 ∷ 255 ∷ 255 ∷ 255 ∷ 255 ∷ 255 ∷ 255 ∷ 255 ∷ 4 ∷ 3 ∷ 5 ∷ 7 ∷ 6 ∷ 255 ∷ 255 ∷ 255 ∷ 255 ∷ 255 ∷ 255 ∷ 255 ∷ 255 ∷ []) ++ face_before 762) ((63 ∷ 33 ∷ 6000 ∷ []) ++ solid_before 24)
    ∷ []

pub hold2 : Holds rows2
unfolding rows2 asked said
hold2 = refl

unfoldable pub rows3 : List Case
unfolding text of_bits
rows3 =
    wholly documented (record { xyz = (neg 10 ∷ pos 0 ∷ pos 0 ∷ pos 0 ∷ neg 10 ∷ pos 0 ∷ pos 0 ∷ pos 0 ∷ neg 10 ∷ pos 10 ∷ pos 0 ∷ pos 0 ∷ pos 0 ∷ pos 0 ∷ pos 10 ∷ pos 0 ∷ pos 10 ∷ pos 0 ∷ []); ends = (0 ∷ 1 ∷ 0 ∷ 2 ∷ 0 ∷ 4 ∷ 0 ∷ 5 ∷ 1 ∷ 2 ∷ 1 ∷ 3 ∷ 1 ∷ 4 ∷ 2 ∷ 3 ∷ 2 ∷ 5 ∷ 3 ∷ 4 ∷ 3 ∷ 5 ∷ 4 ∷ 5 ∷ []) }) 3 832 24
    yields left (Conversion.TooLong 11 11 3) (([]) ++ face_before 832) (([]) ++ solid_before 24)
    ∷ wholly documented (record { xyz = (neg 413 ∷ neg 994 ∷ pos 463 ∷ neg 425 ∷ neg 994 ∷ pos 463 ∷ neg 413 ∷ neg 994 ∷ pos 475 ∷ neg 413 ∷ neg 1000 ∷ pos 463 ∷ []); ends = (0 ∷ 1 ∷ 0 ∷ 2 ∷ 0 ∷ 3 ∷ 1 ∷ 2 ∷ 1 ∷ 3 ∷ 2 ∷ 3 ∷ []) }) 1000000 832 24
    yields left (Conversion.One 4 4 0 864) ((3 ∷ 0 ∷ 1 ∷ 2 ∷ 255 ∷ 255 ∷ 255 ∷ 255 ∷ 255 ∷ 255 ∷ 255 ∷ 255 ∷ 255 ∷ 3 ∷ 0 ∷ 1 ∷ 3 ∷ 255 ∷ 255 ∷ 255 ∷ 255 ∷ 255 ∷ 255 ∷ 255 ∷ 255 ∷ 255 ∷ 3 ∷ 0 ∷ 2 ∷ 3 ∷ 255 ∷ 255 ∷ 255 ∷ 255 ∷ 255 ∷ 255 ∷ 255 ∷ 255 ∷ 255 ∷ 3 ∷ 1 ∷ 2 ∷ 3 ∷ 255 ∷ 255 ∷ 255 ∷ 255 ∷ 255 ∷ 255 ∷ 255 ∷ 255 ∷ 255 ∷ []) ++ face_before 780) ((15 ∷ 10 ∷ 864 ∷ []) ++ solid_before 21)
    ∷ wholly documented (record { xyz = (pos 907 ∷ neg 398 ∷ pos 968 ∷ pos 1000 ∷ neg 467 ∷ pos 850 ∷ pos 910 ∷ neg 407 ∷ pos 950 ∷ pos 952 ∷ neg 467 ∷ pos 882 ∷ pos 997 ∷ neg 458 ∷ pos 868 ∷ pos 949 ∷ neg 458 ∷ pos 900 ∷ pos 862 ∷ neg 407 ∷ pos 982 ∷ pos 859 ∷ neg 398 ∷ pos 1000 ∷ []); ends = (0 ∷ 2 ∷ 0 ∷ 4 ∷ 0 ∷ 7 ∷ 1 ∷ 2 ∷ 1 ∷ 3 ∷ 1 ∷ 4 ∷ 2 ∷ 6 ∷ 3 ∷ 5 ∷ 3 ∷ 6 ∷ 4 ∷ 5 ∷ 5 ∷ 7 ∷ 6 ∷ 7 ∷ []) }) 1000000 832 24
    yields left (Conversion.One 6 6 0 172800) ((4 ∷ 0 ∷ 2 ∷ 1 ∷ 4 ∷ 255 ∷ 255 ∷ 255 ∷ 255 ∷ 255 ∷ 255 ∷ 255 ∷ 255 ∷ 4 ∷ 0 ∷ 2 ∷ 6 ∷ 7 ∷ 255 ∷ 255 ∷ 255 ∷ 255 ∷ 255 ∷ 255 ∷ 255 ∷ 255 ∷ 4 ∷ 0 ∷ 4 ∷ 5 ∷ 7 ∷ 255 ∷ 255 ∷ 255 ∷ 255 ∷ 255 ∷ 255 ∷ 255 ∷ 255 ∷ 4 ∷ 1 ∷ 2 ∷ 6 ∷ 3 ∷ 255 ∷ 255 ∷ 255 ∷ 255 ∷ 255 ∷ 255 ∷ 255 ∷ 255 ∷ 4 ∷ 1 ∷ 3 ∷ 5 ∷ 4 ∷ 255 ∷ 255 ∷ 255 ∷ 255 ∷ 255 ∷ 255 ∷ 255 ∷ 255 ∷ 4 ∷ 3 ∷ 5 ∷ 7 ∷ 6 ∷ 255 ∷ 255 ∷ 255 ∷ 255 ∷ 255 ∷ 255 ∷ 255 ∷ 255 ∷ []) ++ face_before 754) ((63 ∷ 29 ∷ 172800 ∷ []) ++ solid_before 21)
    ∷ []

pub hold3 : Holds rows3
unfolding rows3 asked said
hold3 = refl

unfoldable pub rows4 : List Case
unfolding text of_bits
rows4 =
    wholly documented (record { xyz = (pos 990 ∷ pos 198 ∷ neg 980 ∷ pos 990 ∷ pos 198 ∷ neg 1000 ∷ pos 990 ∷ pos 208 ∷ neg 980 ∷ pos 990 ∷ pos 188 ∷ neg 1000 ∷ pos 1000 ∷ pos 208 ∷ neg 1000 ∷ pos 982 ∷ pos 190 ∷ neg 982 ∷ []); ends = (0 ∷ 2 ∷ 0 ∷ 3 ∷ 0 ∷ 4 ∷ 0 ∷ 5 ∷ 1 ∷ 2 ∷ 1 ∷ 3 ∷ 1 ∷ 4 ∷ 1 ∷ 5 ∷ 2 ∷ 4 ∷ 2 ∷ 5 ∷ 3 ∷ 4 ∷ 3 ∷ 5 ∷ []) }) 16 840 27
    yields left (Conversion.One 11 11 4 7200) ((4 ∷ 0 ∷ 2 ∷ 1 ∷ 3 ∷ 255 ∷ 255 ∷ 255 ∷ 255 ∷ 255 ∷ 255 ∷ 255 ∷ 255 ∷ 3 ∷ 0 ∷ 2 ∷ 4 ∷ 255 ∷ 255 ∷ 255 ∷ 255 ∷ 255 ∷ 255 ∷ 255 ∷ 255 ∷ 255 ∷ 3 ∷ 0 ∷ 2 ∷ 5 ∷ 255 ∷ 255 ∷ 255 ∷ 255 ∷ 255 ∷ 255 ∷ 255 ∷ 255 ∷ 255 ∷ 3 ∷ 0 ∷ 3 ∷ 4 ∷ 255 ∷ 255 ∷ 255 ∷ 255 ∷ 255 ∷ 255 ∷ 255 ∷ 255 ∷ 255 ∷ 3 ∷ 0 ∷ 3 ∷ 5 ∷ 255 ∷ 255 ∷ 255 ∷ 255 ∷ 255 ∷ 255 ∷ 255 ∷ 255 ∷ 255 ∷ 4 ∷ 0 ∷ 4 ∷ 1 ∷ 5 ∷ 255 ∷ 255 ∷ 255 ∷ 255 ∷ 255 ∷ 255 ∷ 255 ∷ 255 ∷ 3 ∷ 1 ∷ 2 ∷ 4 ∷ 255 ∷ 255 ∷ 255 ∷ 255 ∷ 255 ∷ 255 ∷ 255 ∷ 255 ∷ 255 ∷ 3 ∷ 1 ∷ 2 ∷ 5 ∷ 255 ∷ 255 ∷ 255 ∷ 255 ∷ 255 ∷ 255 ∷ 255 ∷ 255 ∷ 255 ∷ 3 ∷ 1 ∷ 3 ∷ 4 ∷ 255 ∷ 255 ∷ 255 ∷ 255 ∷ 255 ∷ 255 ∷ 255 ∷ 255 ∷ 255 ∷ 3 ∷ 1 ∷ 3 ∷ 5 ∷ 255 ∷ 255 ∷ 255 ∷ 255 ∷ 255 ∷ 255 ∷ 255 ∷ 255 ∷ 255 ∷ 4 ∷ 2 ∷ 4 ∷ 3 ∷ 5 ∷ 255 ∷ 255 ∷ 255 ∷ 255 ∷ 255 ∷ 255 ∷ 255 ∷ 255 ∷ []) ++ face_before 697) ((990 ∷ 402 ∷ 7200 ∷ []) ++ solid_before 24)
    ∷ wholly (record { loops = 128; candidates = 64; solids = 1 }) (record { xyz = (pos 159 ∷ neg 776 ∷ pos 166 ∷ pos 227 ∷ neg 534 ∷ pos 151 ∷ pos 261 ∷ neg 548 ∷ pos 246 ∷ pos 424 ∷ neg 429 ∷ pos 147 ∷ pos 163 ∷ neg 1000 ∷ pos 346 ∷ pos 266 ∷ neg 558 ∷ pos 266 ∷ []); ends = (0 ∷ 1 ∷ 0 ∷ 3 ∷ 0 ∷ 4 ∷ 1 ∷ 2 ∷ 1 ∷ 3 ∷ 2 ∷ 3 ∷ 2 ∷ 5 ∷ 3 ∷ 4 ∷ 3 ∷ 5 ∷ 4 ∷ 5 ∷ []) }) 54 832 24
    yields left (Conversion.One 6 6 0 14947030) ((5 ∷ 0 ∷ 1 ∷ 2 ∷ 5 ∷ 4 ∷ 255 ∷ 255 ∷ 255 ∷ 255 ∷ 255 ∷ 255 ∷ 255 ∷ 3 ∷ 0 ∷ 1 ∷ 3 ∷ 255 ∷ 255 ∷ 255 ∷ 255 ∷ 255 ∷ 255 ∷ 255 ∷ 255 ∷ 255 ∷ 3 ∷ 0 ∷ 3 ∷ 4 ∷ 255 ∷ 255 ∷ 255 ∷ 255 ∷ 255 ∷ 255 ∷ 255 ∷ 255 ∷ 255 ∷ 3 ∷ 1 ∷ 2 ∷ 3 ∷ 255 ∷ 255 ∷ 255 ∷ 255 ∷ 255 ∷ 255 ∷ 255 ∷ 255 ∷ 255 ∷ 3 ∷ 2 ∷ 3 ∷ 5 ∷ 255 ∷ 255 ∷ 255 ∷ 255 ∷ 255 ∷ 255 ∷ 255 ∷ 255 ∷ 255 ∷ 3 ∷ 3 ∷ 4 ∷ 5 ∷ 255 ∷ 255 ∷ 255 ∷ 255 ∷ 255 ∷ 255 ∷ 255 ∷ 255 ∷ 255 ∷ []) ++ face_before 754) ((63 ∷ 49 ∷ 14947030 ∷ []) ++ solid_before 21)
    ∷ wholly (record { loops = 128; candidates = 64; solids = 1 }) (record { xyz = (neg 1 ∷ pos 2 ∷ pos 1 ∷ pos 5 ∷ pos 8 ∷ pos 0 ∷ pos 0 ∷ pos 0 ∷ neg 7 ∷ neg 6 ∷ neg 8 ∷ pos 0 ∷ neg 4 ∷ neg 9 ∷ pos 0 ∷ pos 1 ∷ pos 2 ∷ pos 0 ∷ []); ends = (0 ∷ 1 ∷ 0 ∷ 3 ∷ 0 ∷ 4 ∷ 0 ∷ 5 ∷ 1 ∷ 2 ∷ 1 ∷ 4 ∷ 1 ∷ 5 ∷ 2 ∷ 3 ∷ 2 ∷ 4 ∷ 2 ∷ 5 ∷ 3 ∷ 4 ∷ 3 ∷ 5 ∷ []) }) 1000000 840 27
    yields left (Conversion.One 9 9 0 328) ((3 ∷ 0 ∷ 1 ∷ 4 ∷ 255 ∷ 255 ∷ 255 ∷ 255 ∷ 255 ∷ 255 ∷ 255 ∷ 255 ∷ 255 ∷ 3 ∷ 0 ∷ 1 ∷ 5 ∷ 255 ∷ 255 ∷ 255 ∷ 255 ∷ 255 ∷ 255 ∷ 255 ∷ 255 ∷ 255 ∷ 3 ∷ 0 ∷ 3 ∷ 4 ∷ 255 ∷ 255 ∷ 255 ∷ 255 ∷ 255 ∷ 255 ∷ 255 ∷ 255 ∷ 255 ∷ 3 ∷ 0 ∷ 3 ∷ 5 ∷ 255 ∷ 255 ∷ 255 ∷ 255 ∷ 255 ∷ 255 ∷ 255 ∷ 255 ∷ 255 ∷ 3 ∷ 1 ∷ 2 ∷ 4 ∷ 255 ∷ 255 ∷ 255 ∷ 255 ∷ 255 ∷ 255 ∷ 255 ∷ 255 ∷ 255 ∷ 3 ∷ 1 ∷ 2 ∷ 5 ∷ 255 ∷ 255 ∷ 255 ∷ 255 ∷ 255 ∷ 255 ∷ 255 ∷ 255 ∷ 255 ∷ 4 ∷ 1 ∷ 4 ∷ 3 ∷ 5 ∷ 255 ∷ 255 ∷ 255 ∷ 255 ∷ 255 ∷ 255 ∷ 255 ∷ 255 ∷ 3 ∷ 2 ∷ 3 ∷ 4 ∷ 255 ∷ 255 ∷ 255 ∷ 255 ∷ 255 ∷ 255 ∷ 255 ∷ 255 ∷ 255 ∷ 3 ∷ 2 ∷ 3 ∷ 5 ∷ 255 ∷ 255 ∷ 255 ∷ 255 ∷ 255 ∷ 255 ∷ 255 ∷ 255 ∷ 255 ∷ []) ++ face_before 723) ((447 ∷ 153 ∷ 328 ∷ []) ++ solid_before 24)
    ∷ []

pub hold4 : Holds rows4
unfolding rows4 asked said
hold4 = refl

unfoldable pub rows5 : List Case
unfolding text of_bits
rows5 =
    wholly (record { loops = 128; candidates = 64; solids = 1 }) (record { xyz = (neg 7 ∷ neg 4 ∷ pos 0 ∷ neg 4 ∷ neg 7 ∷ pos 0 ∷ pos 2 ∷ pos 3 ∷ pos 0 ∷ pos 0 ∷ pos 6 ∷ pos 0 ∷ pos 1 ∷ pos 2 ∷ pos 5 ∷ pos 6 ∷ neg 5 ∷ pos 0 ∷ pos 3 ∷ pos 9 ∷ pos 0 ∷ []); ends = (0 ∷ 1 ∷ 0 ∷ 3 ∷ 0 ∷ 4 ∷ 1 ∷ 4 ∷ 1 ∷ 5 ∷ 2 ∷ 4 ∷ 2 ∷ 5 ∷ 2 ∷ 6 ∷ 3 ∷ 4 ∷ 3 ∷ 6 ∷ 4 ∷ 5 ∷ 4 ∷ 6 ∷ []) }) 1000000 840 27
    yields left (Conversion.One 7 7 0 960) ((3 ∷ 0 ∷ 1 ∷ 4 ∷ 255 ∷ 255 ∷ 255 ∷ 255 ∷ 255 ∷ 255 ∷ 255 ∷ 255 ∷ 255 ∷ 6 ∷ 0 ∷ 1 ∷ 5 ∷ 2 ∷ 6 ∷ 3 ∷ 255 ∷ 255 ∷ 255 ∷ 255 ∷ 255 ∷ 255 ∷ 3 ∷ 0 ∷ 3 ∷ 4 ∷ 255 ∷ 255 ∷ 255 ∷ 255 ∷ 255 ∷ 255 ∷ 255 ∷ 255 ∷ 255 ∷ 3 ∷ 1 ∷ 4 ∷ 5 ∷ 255 ∷ 255 ∷ 255 ∷ 255 ∷ 255 ∷ 255 ∷ 255 ∷ 255 ∷ 255 ∷ 3 ∷ 2 ∷ 4 ∷ 5 ∷ 255 ∷ 255 ∷ 255 ∷ 255 ∷ 255 ∷ 255 ∷ 255 ∷ 255 ∷ 255 ∷ 3 ∷ 2 ∷ 4 ∷ 6 ∷ 255 ∷ 255 ∷ 255 ∷ 255 ∷ 255 ∷ 255 ∷ 255 ∷ 255 ∷ 255 ∷ 3 ∷ 3 ∷ 4 ∷ 6 ∷ 255 ∷ 255 ∷ 255 ∷ 255 ∷ 255 ∷ 255 ∷ 255 ∷ 255 ∷ 255 ∷ []) ++ face_before 749) ((127 ∷ 46 ∷ 960 ∷ []) ++ solid_before 24)
    ∷ wholly (record { loops = 128; candidates = 64; solids = 1 }) (record { xyz = (neg 531 ∷ pos 1000 ∷ pos 596 ∷ neg 531 ∷ pos 999 ∷ pos 594 ∷ neg 531 ∷ pos 1000 ∷ pos 594 ∷ neg 533 ∷ pos 999 ∷ pos 594 ∷ []); ends = (0 ∷ 1 ∷ 0 ∷ 2 ∷ 0 ∷ 3 ∷ 1 ∷ 2 ∷ 1 ∷ 3 ∷ 2 ∷ 3 ∷ []) }) 1000000 832 24
    yields left (Conversion.One 4 4 0 4) ((3 ∷ 0 ∷ 1 ∷ 2 ∷ 255 ∷ 255 ∷ 255 ∷ 255 ∷ 255 ∷ 255 ∷ 255 ∷ 255 ∷ 255 ∷ 3 ∷ 0 ∷ 1 ∷ 3 ∷ 255 ∷ 255 ∷ 255 ∷ 255 ∷ 255 ∷ 255 ∷ 255 ∷ 255 ∷ 255 ∷ 3 ∷ 0 ∷ 2 ∷ 3 ∷ 255 ∷ 255 ∷ 255 ∷ 255 ∷ 255 ∷ 255 ∷ 255 ∷ 255 ∷ 255 ∷ 3 ∷ 1 ∷ 2 ∷ 3 ∷ 255 ∷ 255 ∷ 255 ∷ 255 ∷ 255 ∷ 255 ∷ 255 ∷ 255 ∷ 255 ∷ []) ++ face_before 780) ((15 ∷ 10 ∷ 4 ∷ []) ++ solid_before 21)
    ∷ wholly (record { loops = 128; candidates = 64; solids = 1 }) (record { xyz = (neg 1000 ∷ pos 990 ∷ pos 314 ∷ neg 944 ∷ pos 990 ∷ pos 353 ∷ neg 972 ∷ pos 1000 ∷ pos 340 ∷ neg 1000 ∷ pos 995 ∷ pos 340 ∷ neg 944 ∷ pos 1000 ∷ pos 314 ∷ neg 916 ∷ pos 990 ∷ pos 340 ∷ []); ends = (0 ∷ 3 ∷ 0 ∷ 4 ∷ 0 ∷ 5 ∷ 1 ∷ 2 ∷ 1 ∷ 3 ∷ 1 ∷ 5 ∷ 2 ∷ 3 ∷ 2 ∷ 4 ∷ 2 ∷ 5 ∷ 4 ∷ 5 ∷ []) }) 1000001 832 24
    yields left (Conversion.Refused (record { number = No.BadLimit; place = 0 })) (([]) ++ face_before 832) (([]) ++ solid_before 24)
    ∷ []

pub hold5 : Holds rows5
unfolding rows5 asked said
hold5 = refl
