-- A fixed sample of cases (list), as the reference answers them.
use Rattle.std.specs.Prelude.{refl, true, false, List, [], ◌∷◌, ◌++◌, pos, Err}
use Rattle.std.specs.Float.{binary64}
use Rattle.std.specs.Float.Ieee.{of_bits}
use Rattle.paper.specs.Numbers.{documented}
use Rattle.paper.specs.Sheet.{held, blank}
use Rattle.paper.specs.Desk.{text}
use Rattle.paper.specs.Questions.{neg, wholly, fetched, stored, checked, paired, covering, desk, read, ruled, posted, left, wrote, sheet, bytes, verdicts, rules, tests, reads, face_before, solid_before, Case, ◌yields◌, asked, said, Holds}
use Rattle.paper.specs.Refusals.{ListAccepted}
use Rattle.paper.specs.declared.Conversion.TheVariants as Conversion
use Rattle.paper.specs.Refusals as No

unfoldable pub rows0 : List Case
unfolding text of_bits
rows0 =
    checked (record { xyz = (neg 193 ∷ neg 996 ∷ pos 998 ∷ neg 193 ∷ neg 998 ∷ pos 1000 ∷ neg 193 ∷ neg 1000 ∷ pos 998 ∷ neg 193 ∷ neg 998 ∷ pos 996 ∷ neg 197 ∷ neg 998 ∷ pos 998 ∷ neg 187 ∷ neg 998 ∷ pos 998 ∷ []); ends = (0 ∷ 1 ∷ 0 ∷ 3 ∷ 0 ∷ 4 ∷ 0 ∷ 5 ∷ 1 ∷ 2 ∷ 1 ∷ 4 ∷ 1 ∷ 5 ∷ 2 ∷ 3 ∷ 2 ∷ 4 ∷ 2 ∷ 5 ∷ 3 ∷ 4 ∷ 3 ∷ 5 ∷ []) }) (18 ∷ 12 ∷ 129 ∷ 1 ∷ 132 ∷ 160 ∷ 50 ∷ 0 ∷ 102 ∷ 2 ∷ 140 ∷ 196 ∷ 18 ∷ 24 ∷ 138 ∷ 19 ∷ 32 ∷ 196 ∷ 99 ∷ 40 ∷ 128 ∷ [])
    yields verdicts ListAccepted
    ∷ checked (record { xyz = (pos 0 ∷ pos 3 ∷ pos 2 ∷ pos 1 ∷ pos 3 ∷ pos 0 ∷ pos 1 ∷ pos 3 ∷ pos 2 ∷ pos 0 ∷ pos 0 ∷ pos 2 ∷ pos 0 ∷ pos 3 ∷ pos 0 ∷ pos 1 ∷ pos 0 ∷ pos 0 ∷ pos 0 ∷ pos 0 ∷ pos 0 ∷ pos 1 ∷ pos 0 ∷ pos 2 ∷ []); ends = (0 ∷ 2 ∷ 0 ∷ 3 ∷ 0 ∷ 4 ∷ 1 ∷ 2 ∷ 1 ∷ 4 ∷ 1 ∷ 5 ∷ 2 ∷ 7 ∷ 3 ∷ 6 ∷ 3 ∷ 7 ∷ 4 ∷ 6 ∷ 5 ∷ 6 ∷ 5 ∷ 7 ∷ []) }) (17 ∷ 144 ∷ 167 ∷ 25 ∷ 144 ∷ 103 ∷ 16 ∷ 16 ∷ 134 ∷ 24 ∷ 16 ∷ 229 ∷ 8 ∷ 144 ∷ 129 ∷ 41 ∷ 144 ∷ 2 ∷ 9 ∷ 0 ∷ [])
    yields verdicts ListAccepted
    ∷ checked (record { xyz = (pos 4 ∷ pos 2 ∷ pos 0 ∷ pos 2 ∷ pos 4 ∷ pos 0 ∷ neg 2 ∷ pos 4 ∷ pos 0 ∷ neg 4 ∷ pos 2 ∷ pos 0 ∷ neg 4 ∷ neg 2 ∷ pos 0 ∷ neg 2 ∷ neg 4 ∷ pos 0 ∷ pos 2 ∷ neg 4 ∷ pos 0 ∷ pos 4 ∷ neg 2 ∷ pos 0 ∷ []); ends = (0 ∷ 1 ∷ 0 ∷ 7 ∷ 1 ∷ 2 ∷ 2 ∷ 3 ∷ 3 ∷ 4 ∷ 4 ∷ 5 ∷ 5 ∷ 6 ∷ 6 ∷ 7 ∷ []) }) (16 ∷ 96 ∷ 199 ∷ 0 ∷ 68 ∷ 50 ∷ 20 ∷ [])
    yields verdicts (Err (record { number = No.ShellShape; place = 0 }))
    ∷ []

pub hold0 : Holds rows0
unfolding rows0 asked said
hold0 = refl

unfoldable pub rows1 : List Case
unfolding text of_bits
rows1 =
    checked (record { xyz = (pos 9 ∷ pos 4 ∷ pos 0 ∷ pos 4 ∷ pos 2 ∷ pos 0 ∷ pos 0 ∷ pos 9 ∷ pos 0 ∷ neg 6 ∷ pos 9 ∷ pos 0 ∷ neg 9 ∷ pos 2 ∷ pos 0 ∷ pos 5 ∷ neg 5 ∷ pos 0 ∷ neg 3 ∷ pos 3 ∷ pos 4 ∷ []); ends = (0 ∷ 1 ∷ 0 ∷ 5 ∷ 0 ∷ 6 ∷ 1 ∷ 2 ∷ 1 ∷ 6 ∷ 2 ∷ 3 ∷ 2 ∷ 6 ∷ 3 ∷ 4 ∷ 3 ∷ 6 ∷ 4 ∷ 5 ∷ 4 ∷ 6 ∷ 5 ∷ 6 ∷ []) }) (49 ∷ 216 ∷ 100 ∷ 40 ∷ 2 ∷ 35 ∷ 48 ∷ 2 ∷ 96 ∷ 49 ∷ 76 ∷ 70 ∷ 9 ∷ 140 ∷ 194 ∷ 49 ∷ 152 ∷ 134 ∷ 98 ∷ 144 ∷ [])
    yields verdicts (Err (record { number = No.ShellShape; place = 0 }))
    ∷ checked (record { xyz = (neg 4 ∷ neg 4 ∷ pos 9 ∷ neg 4 ∷ neg 4 ∷ neg 7 ∷ neg 4 ∷ pos 5 ∷ pos 9 ∷ pos 9 ∷ pos 5 ∷ neg 7 ∷ neg 4 ∷ pos 5 ∷ neg 7 ∷ pos 9 ∷ pos 5 ∷ pos 9 ∷ pos 9 ∷ neg 4 ∷ pos 9 ∷ pos 9 ∷ neg 4 ∷ neg 7 ∷ []); ends = (0 ∷ 1 ∷ 0 ∷ 2 ∷ 0 ∷ 6 ∷ 1 ∷ 4 ∷ 1 ∷ 7 ∷ 2 ∷ 4 ∷ 2 ∷ 5 ∷ 3 ∷ 4 ∷ 3 ∷ 5 ∷ 3 ∷ 7 ∷ 5 ∷ 6 ∷ 6 ∷ 7 ∷ []) }) (17 ∷ 80 ∷ 130 ∷ 0 ∷ 80 ∷ 227 ∷ 0 ∷ 80 ∷ 103 ∷ 9 ∷ 16 ∷ 100 ∷ 17 ∷ 80 ∷ 32 ∷ 17 ∷ 0 ∷ [])
    yields verdicts (Err (record { number = No.NotCandidate; place = 1 }))
    ∷ checked (record { xyz = (neg 22 ∷ neg 27 ∷ pos 43 ∷ pos 16 ∷ pos 6 ∷ pos 48 ∷ pos 38 ∷ neg 12 ∷ neg 20 ∷ neg 48 ∷ neg 34 ∷ neg 50 ∷ []); ends = (0 ∷ 1 ∷ 0 ∷ 2 ∷ 0 ∷ 3 ∷ 1 ∷ 2 ∷ 1 ∷ 3 ∷ 2 ∷ 3 ∷ []) }) (17 ∷ 12 ∷ 32 ∷ 25 ∷ 128 ∷ 35 ∷ 48 ∷ 12 ∷ 70 ∷ 48 ∷ 136 ∷ [])
    yields verdicts (Err (record { number = No.FaceTwice; place = 1 }))
    ∷ []

pub hold1 : Holds rows1
unfolding rows1 asked said
hold1 = refl

unfoldable pub rows2 : List Case
unfolding text of_bits
rows2 =
    checked (record { xyz = (pos 0 ∷ pos 0 ∷ pos 0 ∷ pos 6 ∷ pos 0 ∷ pos 0 ∷ pos 0 ∷ pos 6 ∷ pos 0 ∷ pos 0 ∷ pos 0 ∷ pos 6 ∷ neg 6 ∷ pos 0 ∷ pos 0 ∷ pos 0 ∷ neg 6 ∷ pos 0 ∷ pos 0 ∷ pos 0 ∷ neg 6 ∷ []); ends = (0 ∷ 1 ∷ 0 ∷ 2 ∷ 0 ∷ 3 ∷ 0 ∷ 4 ∷ 0 ∷ 5 ∷ 0 ∷ 6 ∷ 1 ∷ 2 ∷ 1 ∷ 3 ∷ 2 ∷ 3 ∷ 4 ∷ 5 ∷ 4 ∷ 6 ∷ 5 ∷ 6 ∷ []) }) (18 ∷ 12 ∷ 98 ∷ 9 ∷ 152 ∷ 160 ∷ 50 ∷ 24 ∷ 6 ∷ 33 ∷ 128 ∷ 194 ∷ 32 ∷ 24 ∷ 64 ∷ 51 ∷ 32 ∷ 10 ∷ 101 ∷ 49 ∷ 0 ∷ [])
    yields verdicts (Err (record { number = No.Pieces; place = 1 }))
    ∷ checked (record { xyz = (pos 2 ∷ pos 12 ∷ pos 0 ∷ neg 8 ∷ pos 0 ∷ pos 0 ∷ pos 1 ∷ neg 9 ∷ pos 0 ∷ pos 4 ∷ pos 15 ∷ pos 5 ∷ neg 6 ∷ pos 3 ∷ pos 5 ∷ pos 3 ∷ neg 6 ∷ pos 5 ∷ []); ends = (0 ∷ 1 ∷ 0 ∷ 2 ∷ 0 ∷ 3 ∷ 1 ∷ 2 ∷ 1 ∷ 4 ∷ 2 ∷ 5 ∷ 3 ∷ 4 ∷ 3 ∷ 5 ∷ 4 ∷ 5 ∷ []) }) (17 ∷ 76 ∷ 101 ∷ 34 ∷ 16 ∷ 32 ∷ 26 ∷ 20 ∷ 96 ∷ 18 ∷ 16 ∷ 162 ∷ 9 ∷ 128 ∷ 34 ∷ [])
    yields verdicts (Err (record { number = No.Inward; place = 0 }))
    ∷ checked (record { xyz = (pos 10 ∷ pos 0 ∷ pos 0 ∷ neg 10 ∷ pos 0 ∷ pos 0 ∷ pos 0 ∷ pos 10 ∷ pos 0 ∷ pos 1002 ∷ neg 10 ∷ pos 0 ∷ pos 0 ∷ pos 1002 ∷ pos 1047 ∷ pos 0 ∷ pos 0 ∷ neg 10 ∷ []); ends = (0 ∷ 2 ∷ 0 ∷ 3 ∷ 0 ∷ 4 ∷ 0 ∷ 5 ∷ 1 ∷ 2 ∷ 1 ∷ 3 ∷ 1 ∷ 4 ∷ 1 ∷ 5 ∷ 2 ∷ 4 ∷ 2 ∷ 5 ∷ 3 ∷ 4 ∷ 3 ∷ 5 ∷ []) }) (17 ∷ 12 ∷ 1 ∷ 17 ∷ 128 ∷ 35 ∷ 48 ∷ 8 ∷ [])
    yields verdicts (Err (record { number = No.BadCoordinate; place = 9 }))
    ∷ []

pub hold2 : Holds rows2
unfolding rows2 asked said
hold2 = refl

unfoldable pub rows3 : List Case
unfolding text of_bits
rows3 =
    checked (record { xyz = (neg 1000 ∷ neg 1000 ∷ pos 160 ∷ neg 1000 ∷ neg 1000 ∷ pos 166 ∷ neg 994 ∷ neg 994 ∷ pos 160 ∷ neg 994 ∷ neg 1000 ∷ pos 160 ∷ neg 1000 ∷ neg 994 ∷ pos 166 ∷ neg 1000 ∷ neg 994 ∷ pos 160 ∷ neg 994 ∷ neg 994 ∷ pos 166 ∷ neg 994 ∷ neg 1000 ∷ pos 166 ∷ []); ends = (0 ∷ 1 ∷ 0 ∷ 3 ∷ 0 ∷ 5 ∷ 1 ∷ 4 ∷ 1 ∷ 7 ∷ 2 ∷ 3 ∷ 2 ∷ 5 ∷ 2 ∷ 6 ∷ 3 ∷ 7 ∷ 4 ∷ 5 ∷ 4 ∷ 6 ∷ 6 ∷ 7 ∷ []) }) (17 ∷ 144 ∷ 1 ∷ 33 ∷ 80 ∷ 3 ∷ 56 ∷ 80 ∷ 5 ∷ 16 ∷ 208 ∷ 230 ∷ 32 ∷ 80 ∷ 70 ∷ 56 ∷ 208 ∷ 194 ∷ 41 ∷ 0 ∷ [])
    yields verdicts ListAccepted
    ∷ checked (record { xyz = (neg 840 ∷ pos 546 ∷ neg 508 ∷ neg 792 ∷ pos 594 ∷ neg 484 ∷ neg 804 ∷ pos 582 ∷ neg 484 ∷ neg 756 ∷ pos 630 ∷ neg 460 ∷ neg 1000 ∷ pos 674 ∷ neg 540 ∷ neg 952 ∷ pos 722 ∷ neg 516 ∷ neg 964 ∷ pos 710 ∷ neg 516 ∷ neg 916 ∷ pos 758 ∷ neg 492 ∷ []); ends = (0 ∷ 1 ∷ 0 ∷ 2 ∷ 0 ∷ 4 ∷ 1 ∷ 3 ∷ 1 ∷ 5 ∷ 2 ∷ 3 ∷ 2 ∷ 6 ∷ 3 ∷ 7 ∷ 4 ∷ 5 ∷ 4 ∷ 6 ∷ 5 ∷ 7 ∷ 6 ∷ 7 ∷ []) }) (17 ∷ 144 ∷ 164 ∷ 49 ∷ 208 ∷ 67 ∷ 57 ∷ 144 ∷ 64 ∷ 8 ∷ 208 ∷ 2 ∷ 49 ∷ 16 ∷ 37 ∷ 56 ∷ 208 ∷ 161 ∷ 1 ∷ 0 ∷ [])
    yields verdicts ListAccepted
    ∷ checked (record { xyz = (pos 49 ∷ neg 779 ∷ neg 995 ∷ pos 47 ∷ neg 775 ∷ neg 997 ∷ pos 47 ∷ neg 772 ∷ neg 999 ∷ pos 50 ∷ neg 772 ∷ neg 1000 ∷ pos 52 ∷ neg 776 ∷ neg 998 ∷ pos 50 ∷ neg 786 ∷ neg 994 ∷ pos 48 ∷ neg 782 ∷ neg 996 ∷ pos 48 ∷ neg 779 ∷ neg 998 ∷ pos 51 ∷ neg 779 ∷ neg 999 ∷ pos 53 ∷ neg 783 ∷ neg 997 ∷ []); ends = (0 ∷ 1 ∷ 0 ∷ 4 ∷ 0 ∷ 5 ∷ 2 ∷ 3 ∷ 2 ∷ 7 ∷ 3 ∷ 4 ∷ 3 ∷ 8 ∷ 4 ∷ 9 ∷ 5 ∷ 6 ∷ 5 ∷ 9 ∷ 6 ∷ 7 ∷ 7 ∷ 8 ∷ 8 ∷ 9 ∷ []) }) (17 ∷ 16 ∷ 131 ∷ 66 ∷ 76 ∷ 133 ∷ 2 ∷ 8 ∷ 232 ∷ 26 ∷ 0 ∷ 137 ∷ 40 ∷ [])
    yields verdicts (Err (record { number = No.NotCandidate; place = 1 }))
    ∷ []

pub hold3 : Holds rows3
unfolding rows3 asked said
hold3 = refl

unfoldable pub rows4 : List Case
unfolding text of_bits
rows4 =
    checked (record { xyz = (neg 31 ∷ pos 1000 ∷ neg 994 ∷ neg 37 ∷ pos 1000 ∷ neg 994 ∷ neg 25 ∷ pos 994 ∷ neg 1000 ∷ neg 31 ∷ pos 1000 ∷ neg 1000 ∷ neg 25 ∷ pos 1000 ∷ neg 994 ∷ neg 19 ∷ pos 994 ∷ neg 1000 ∷ neg 25 ∷ pos 1000 ∷ neg 1000 ∷ []); ends = (0 ∷ 1 ∷ 0 ∷ 2 ∷ 0 ∷ 3 ∷ 0 ∷ 4 ∷ 0 ∷ 5 ∷ 0 ∷ 6 ∷ 1 ∷ 2 ∷ 1 ∷ 3 ∷ 2 ∷ 3 ∷ 4 ∷ 5 ∷ 4 ∷ 6 ∷ 5 ∷ 6 ∷ []) }) (18 ∷ 12 ∷ 5 ∷ 33 ∷ 152 ∷ 133 ∷ 49 ∷ 4 ∷ 102 ∷ 0 ∷ 136 ∷ 192 ∷ 48 ∷ 153 ∷ 138 ∷ 3 ∷ 0 ∷ 134 ∷ 100 ∷ 48 ∷ 0 ∷ [])
    yields verdicts (Err (record { number = No.Pieces; place = 2 }))
    ∷ checked (record { xyz = (pos 1000 ∷ neg 988 ∷ pos 994 ∷ pos 988 ∷ neg 988 ∷ pos 1000 ∷ pos 1000 ∷ neg 976 ∷ pos 1000 ∷ pos 1000 ∷ neg 1000 ∷ pos 1000 ∷ pos 1000 ∷ neg 1000 ∷ pos 994 ∷ pos 988 ∷ neg 1000 ∷ pos 1000 ∷ pos 1000 ∷ neg 988 ∷ pos 1000 ∷ []); ends = (0 ∷ 1 ∷ 0 ∷ 2 ∷ 0 ∷ 6 ∷ 1 ∷ 2 ∷ 1 ∷ 6 ∷ 2 ∷ 6 ∷ 3 ∷ 4 ∷ 3 ∷ 5 ∷ 3 ∷ 6 ∷ 4 ∷ 5 ∷ 4 ∷ 6 ∷ 5 ∷ 6 ∷ []) }) (18 ∷ 12 ∷ 134 ∷ 41 ∷ 144 ∷ 163 ∷ 49 ∷ 152 ∷ 134 ∷ 50 ∷ 152 ∷ 204 ∷ 17 ∷ 24 ∷ 130 ∷ 3 ∷ 9 ∷ 128 ∷ 102 ∷ 16 ∷ 0 ∷ [])
    yields verdicts (Err (record { number = No.Pieces; place = 4 }))
    ∷ []

pub hold4 : Holds rows4
unfolding rows4 asked said
hold4 = refl
