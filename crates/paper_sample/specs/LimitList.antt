-- Each number and each limit (list, ruled), as the reference answers them.
use Rattle.std.specs.Prelude.{refl, true, false, List, [], ◌∷◌, ◌++◌, pos, Err}
use Rattle.std.specs.Float.{binary64}
use Rattle.std.specs.Float.Ieee.{of_bits}
use Rattle.paper.specs.Numbers.{documented}
use Rattle.paper.specs.Sheet.{held, blank}
use Rattle.paper.specs.Desk.{text}
use Rattle.paper.specs.Questions.{neg, wholly, fetched, stored, checked, paired, covering, desk, read, ruled, posted, left, wrote, sheet, bytes, verdicts, rules, tests, reads, face_before, solid_before, Case, ◌yields◌, asked, said, Holds}
use Rattle.paper.specs.Refusals.{ListAccepted}
use Rattle.paper.specs.declared.Conversion.TheVariants as Conversion
use Rattle.paper.specs.Refusals as No

unfoldable pub rows0 : List Case
unfolding text of_bits
rows0 =
    checked (record { xyz = (pos 0 ∷ pos 0 ∷ pos 0 ∷ pos 10 ∷ pos 0 ∷ pos 0 ∷ pos 0 ∷ pos 10 ∷ pos 0 ∷ pos 10 ∷ pos 10 ∷ pos 0 ∷ pos 0 ∷ pos 0 ∷ pos 10 ∷ pos 10 ∷ pos 0 ∷ pos 10 ∷ pos 0 ∷ pos 10 ∷ pos 10 ∷ pos 10 ∷ pos 10 ∷ pos 10 ∷ []); ends = (0 ∷ 1 ∷ 0 ∷ 2 ∷ 0 ∷ 4 ∷ 1 ∷ 3 ∷ 1 ∷ 5 ∷ 2 ∷ 3 ∷ 2 ∷ 6 ∷ 3 ∷ 7 ∷ 4 ∷ 5 ∷ 4 ∷ 6 ∷ 5 ∷ 7 ∷ 6 ∷ 7 ∷ []) }) (17 ∷ 144 ∷ 67 ∷ 8 ∷ 16 ∷ 1 ∷ 41 ∷ 16 ∷ 134 ∷ 16 ∷ 16 ∷ 35 ∷ 57 ∷ 80 ∷ 199 ∷ 24 ∷ 144 ∷ 133 ∷ 57 ∷ 128 ∷ [])
    yields verdicts ListAccepted
    ∷ checked (record { xyz = (pos 0 ∷ pos 0 ∷ pos 0 ∷ pos 10 ∷ pos 0 ∷ pos 0 ∷ pos 0 ∷ pos 10 ∷ pos 0 ∷ pos 10 ∷ pos 10 ∷ pos 0 ∷ pos 0 ∷ pos 0 ∷ pos 10 ∷ pos 10 ∷ pos 0 ∷ pos 10 ∷ pos 0 ∷ pos 10 ∷ pos 10 ∷ pos 10 ∷ pos 10 ∷ pos 10 ∷ []); ends = (0 ∷ 1 ∷ 0 ∷ 2 ∷ 0 ∷ 4 ∷ 1 ∷ 3 ∷ 1 ∷ 5 ∷ 2 ∷ 3 ∷ 2 ∷ 6 ∷ 3 ∷ 7 ∷ 4 ∷ 5 ∷ 4 ∷ 6 ∷ 5 ∷ 7 ∷ 6 ∷ 7 ∷ []) }) ([])
    yields verdicts (Err (record { number = No.ShellShape; place = 0 }))
    ∷ checked (record { xyz = (pos 0 ∷ pos 0 ∷ pos 0 ∷ pos 10 ∷ pos 0 ∷ pos 0 ∷ pos 0 ∷ pos 10 ∷ pos 0 ∷ pos 10 ∷ pos 10 ∷ pos 0 ∷ pos 0 ∷ pos 0 ∷ pos 10 ∷ pos 10 ∷ pos 0 ∷ pos 10 ∷ pos 0 ∷ pos 10 ∷ pos 10 ∷ pos 10 ∷ pos 10 ∷ pos 10 ∷ []); ends = (0 ∷ 1 ∷ 0 ∷ 2 ∷ 0 ∷ 4 ∷ 1 ∷ 3 ∷ 1 ∷ 5 ∷ 2 ∷ 3 ∷ 2 ∷ 6 ∷ 3 ∷ 7 ∷ 4 ∷ 5 ∷ 4 ∷ 6 ∷ 5 ∷ 7 ∷ 6 ∷ 7 ∷ []) }) (33 ∷ 144 ∷ 67 ∷ 8 ∷ 16 ∷ 1 ∷ 41 ∷ 16 ∷ 134 ∷ 16 ∷ 16 ∷ 35 ∷ 57 ∷ 80 ∷ 199 ∷ 24 ∷ 144 ∷ 133 ∷ 57 ∷ 128 ∷ [])
    yields verdicts (Err (record { number = No.ShellShape; place = 0 }))
    ∷ []

pub hold0 : Holds rows0
unfolding rows0 asked said
hold0 = refl

unfoldable pub rows1 : List Case
unfolding text of_bits
rows1 =
    checked (record { xyz = (pos 0 ∷ pos 0 ∷ pos 0 ∷ pos 10 ∷ pos 0 ∷ pos 0 ∷ pos 0 ∷ pos 10 ∷ pos 0 ∷ pos 10 ∷ pos 10 ∷ pos 0 ∷ pos 0 ∷ pos 0 ∷ pos 10 ∷ pos 10 ∷ pos 0 ∷ pos 10 ∷ pos 0 ∷ pos 10 ∷ pos 10 ∷ pos 10 ∷ pos 10 ∷ pos 10 ∷ []); ends = (0 ∷ 1 ∷ 0 ∷ 2 ∷ 0 ∷ 4 ∷ 1 ∷ 3 ∷ 1 ∷ 5 ∷ 2 ∷ 3 ∷ 2 ∷ 6 ∷ 3 ∷ 7 ∷ 4 ∷ 5 ∷ 4 ∷ 6 ∷ 5 ∷ 7 ∷ 6 ∷ 7 ∷ []) }) (17 ∷ 144 ∷ 67 ∷ 8 ∷ 16 ∷ 1 ∷ 41 ∷ 16 ∷ 134 ∷ 16 ∷ 16 ∷ 35 ∷ 57 ∷ 80 ∷ 199 ∷ 24 ∷ 144 ∷ 133 ∷ 57 ∷ 128 ∷ 0 ∷ [])
    yields verdicts (Err (record { number = No.ShellShape; place = 0 }))
    ∷ checked (record { xyz = (pos 0 ∷ pos 0 ∷ pos 0 ∷ pos 10 ∷ pos 0 ∷ pos 0 ∷ pos 0 ∷ pos 10 ∷ pos 0 ∷ pos 10 ∷ pos 10 ∷ pos 0 ∷ pos 0 ∷ pos 0 ∷ pos 10 ∷ pos 10 ∷ pos 0 ∷ pos 10 ∷ pos 0 ∷ pos 10 ∷ pos 10 ∷ pos 10 ∷ pos 10 ∷ pos 10 ∷ []); ends = (0 ∷ 1 ∷ 0 ∷ 2 ∷ 0 ∷ 4 ∷ 1 ∷ 3 ∷ 1 ∷ 5 ∷ 2 ∷ 3 ∷ 2 ∷ 6 ∷ 3 ∷ 7 ∷ 4 ∷ 5 ∷ 4 ∷ 6 ∷ 5 ∷ 7 ∷ 6 ∷ 7 ∷ []) }) (17 ∷ 144 ∷ 67 ∷ 8 ∷ 16 ∷ 1 ∷ 41 ∷ 16 ∷ 134 ∷ 16 ∷ 16 ∷ 35 ∷ 57 ∷ 80 ∷ 199 ∷ 24 ∷ 144 ∷ 133 ∷ 57 ∷ 129 ∷ [])
    yields verdicts (Err (record { number = No.ShellShape; place = 0 }))
    ∷ checked (record { xyz = (pos 0 ∷ pos 0 ∷ pos 0 ∷ pos 10 ∷ pos 0 ∷ pos 0 ∷ pos 0 ∷ pos 10 ∷ pos 0 ∷ pos 10 ∷ pos 10 ∷ pos 0 ∷ pos 0 ∷ pos 0 ∷ pos 10 ∷ pos 10 ∷ pos 0 ∷ pos 10 ∷ pos 0 ∷ pos 10 ∷ pos 10 ∷ pos 10 ∷ pos 10 ∷ pos 10 ∷ []); ends = (0 ∷ 1 ∷ 0 ∷ 2 ∷ 0 ∷ 4 ∷ 1 ∷ 3 ∷ 1 ∷ 5 ∷ 2 ∷ 3 ∷ 2 ∷ 6 ∷ 3 ∷ 7 ∷ 4 ∷ 5 ∷ 4 ∷ 6 ∷ 5 ∷ 7 ∷ 6 ∷ 7 ∷ []) }) (16 ∷ 208 ∷ 67 ∷ 8 ∷ 16 ∷ 1 ∷ 41 ∷ 16 ∷ 134 ∷ 16 ∷ 0 ∷ [])
    yields verdicts (Err (record { number = No.ShellShape; place = 0 }))
    ∷ []

pub hold1 : Holds rows1
unfolding rows1 asked said
hold1 = refl

unfoldable pub rows2 : List Case
unfolding text of_bits
rows2 =
    checked (record { xyz = (pos 0 ∷ pos 0 ∷ pos 0 ∷ pos 10 ∷ pos 0 ∷ pos 0 ∷ pos 0 ∷ pos 10 ∷ pos 0 ∷ pos 10 ∷ pos 10 ∷ pos 0 ∷ pos 0 ∷ pos 0 ∷ pos 10 ∷ pos 10 ∷ pos 0 ∷ pos 10 ∷ pos 0 ∷ pos 10 ∷ pos 10 ∷ pos 10 ∷ pos 10 ∷ pos 10 ∷ []); ends = (0 ∷ 1 ∷ 0 ∷ 2 ∷ 0 ∷ 4 ∷ 1 ∷ 3 ∷ 1 ∷ 5 ∷ 2 ∷ 3 ∷ 2 ∷ 6 ∷ 3 ∷ 7 ∷ 4 ∷ 5 ∷ 4 ∷ 6 ∷ 5 ∷ 7 ∷ 6 ∷ 7 ∷ []) }) (26 ∷ 208 ∷ 67 ∷ 8 ∷ 16 ∷ 67 ∷ 8 ∷ 16 ∷ 67 ∷ 8 ∷ 16 ∷ 67 ∷ 8 ∷ 16 ∷ 67 ∷ 8 ∷ 16 ∷ 67 ∷ 8 ∷ 16 ∷ 67 ∷ 8 ∷ 16 ∷ 67 ∷ 8 ∷ 16 ∷ 67 ∷ 8 ∷ 16 ∷ 67 ∷ 8 ∷ 16 ∷ 67 ∷ 8 ∷ 16 ∷ 67 ∷ 8 ∷ 16 ∷ 67 ∷ 8 ∷ 16 ∷ 67 ∷ 8 ∷ 16 ∷ 67 ∷ 8 ∷ 16 ∷ 67 ∷ 8 ∷ 16 ∷ 67 ∷ 8 ∷ 16 ∷ 67 ∷ 8 ∷ 16 ∷ 67 ∷ 8 ∷ 16 ∷ 67 ∷ 8 ∷ 16 ∷ 67 ∷ 8 ∷ 16 ∷ 67 ∷ 8 ∷ 16 ∷ 67 ∷ 8 ∷ 16 ∷ 67 ∷ 8 ∷ 16 ∷ 67 ∷ 8 ∷ 16 ∷ 67 ∷ 8 ∷ 16 ∷ 67 ∷ 8 ∷ 16 ∷ 67 ∷ 8 ∷ 16 ∷ 67 ∷ 8 ∷ 16 ∷ 67 ∷ 8 ∷ 16 ∷ 67 ∷ 8 ∷ 16 ∷ 67 ∷ 8 ∷ 16 ∷ 67 ∷ 8 ∷ 16 ∷ 67 ∷ 8 ∷ 16 ∷ 67 ∷ 8 ∷ 16 ∷ 67 ∷ 8 ∷ 16 ∷ 67 ∷ 8 ∷ 16 ∷ 67 ∷ 8 ∷ 16 ∷ 67 ∷ 8 ∷ 16 ∷ 67 ∷ 8 ∷ 16 ∷ 67 ∷ 8 ∷ 16 ∷ 67 ∷ 8 ∷ 16 ∷ 67 ∷ 8 ∷ 0 ∷ [])
    yields verdicts (Err (record { number = No.ShellShape; place = 0 }))
    ∷ checked (record { xyz = (pos 0 ∷ pos 0 ∷ pos 0 ∷ pos 10 ∷ pos 0 ∷ pos 0 ∷ pos 0 ∷ pos 10 ∷ pos 0 ∷ pos 10 ∷ pos 10 ∷ pos 0 ∷ pos 0 ∷ pos 0 ∷ pos 10 ∷ pos 10 ∷ pos 0 ∷ pos 10 ∷ pos 0 ∷ pos 10 ∷ pos 10 ∷ pos 10 ∷ pos 10 ∷ pos 10 ∷ []); ends = (0 ∷ 1 ∷ 0 ∷ 2 ∷ 0 ∷ 4 ∷ 1 ∷ 3 ∷ 1 ∷ 5 ∷ 2 ∷ 3 ∷ 2 ∷ 6 ∷ 3 ∷ 7 ∷ 4 ∷ 5 ∷ 4 ∷ 6 ∷ 5 ∷ 7 ∷ 6 ∷ 7 ∷ []) }) (17 ∷ 144 ∷ 67 ∷ 8 ∷ 16 ∷ 1 ∷ 41 ∷ 16 ∷ 134 ∷ 16 ∷ 16 ∷ 35 ∷ 57 ∷ 80 ∷ 199 ∷ 24 ∷ 136 ∷ 133 ∷ [])
    yields verdicts (Err (record { number = No.ShellShape; place = 0 }))
    ∷ checked (record { xyz = (pos 0 ∷ pos 0 ∷ pos 0 ∷ pos 10 ∷ pos 0 ∷ pos 0 ∷ pos 0 ∷ pos 10 ∷ pos 0 ∷ pos 10 ∷ pos 10 ∷ pos 0 ∷ pos 0 ∷ pos 0 ∷ pos 10 ∷ pos 10 ∷ pos 0 ∷ pos 10 ∷ pos 0 ∷ pos 10 ∷ pos 10 ∷ pos 10 ∷ pos 10 ∷ pos 10 ∷ []); ends = (0 ∷ 1 ∷ 0 ∷ 2 ∷ 0 ∷ 4 ∷ 1 ∷ 3 ∷ 1 ∷ 5 ∷ 2 ∷ 3 ∷ 2 ∷ 6 ∷ 3 ∷ 7 ∷ 4 ∷ 5 ∷ 4 ∷ 6 ∷ 5 ∷ 7 ∷ 6 ∷ 7 ∷ []) }) (17 ∷ 144 ∷ 67 ∷ 8 ∷ 16 ∷ 1 ∷ 41 ∷ 16 ∷ 134 ∷ 16 ∷ 16 ∷ 35 ∷ 57 ∷ 80 ∷ 199 ∷ 24 ∷ 180 ∷ 133 ∷ 57 ∷ 136 ∷ 83 ∷ 152 ∷ 133 ∷ 57 ∷ 136 ∷ [])
    yields verdicts (Err (record { number = No.ShellShape; place = 0 }))
    ∷ []

pub hold2 : Holds rows2
unfolding rows2 asked said
hold2 = refl

unfoldable pub rows3 : List Case
unfolding text of_bits
rows3 =
    checked (record { xyz = (pos 0 ∷ pos 0 ∷ pos 0 ∷ pos 10 ∷ pos 0 ∷ pos 0 ∷ pos 0 ∷ pos 10 ∷ pos 0 ∷ pos 10 ∷ pos 10 ∷ pos 0 ∷ pos 0 ∷ pos 0 ∷ pos 10 ∷ pos 10 ∷ pos 0 ∷ pos 10 ∷ pos 0 ∷ pos 10 ∷ pos 10 ∷ pos 10 ∷ pos 10 ∷ pos 10 ∷ []); ends = (0 ∷ 1 ∷ 0 ∷ 2 ∷ 0 ∷ 4 ∷ 1 ∷ 3 ∷ 1 ∷ 5 ∷ 2 ∷ 3 ∷ 2 ∷ 6 ∷ 3 ∷ 7 ∷ 4 ∷ 5 ∷ 4 ∷ 6 ∷ 5 ∷ 7 ∷ 6 ∷ 7 ∷ []) }) (17 ∷ 144 ∷ 67 ∷ 8 ∷ 16 ∷ 1 ∷ 41 ∷ 16 ∷ 134 ∷ 16 ∷ 16 ∷ 35 ∷ 57 ∷ 80 ∷ 199 ∷ 24 ∷ 144 ∷ 133 ∷ 65 ∷ 128 ∷ [])
    yields verdicts (Err (record { number = No.ShellShape; place = 0 }))
    ∷ checked (record { xyz = (pos 0 ∷ pos 0 ∷ pos 0 ∷ pos 10 ∷ pos 0 ∷ pos 0 ∷ pos 0 ∷ pos 10 ∷ pos 0 ∷ pos 10 ∷ pos 10 ∷ pos 0 ∷ pos 0 ∷ pos 0 ∷ pos 10 ∷ pos 10 ∷ pos 0 ∷ pos 10 ∷ pos 0 ∷ pos 10 ∷ pos 10 ∷ pos 10 ∷ pos 10 ∷ pos 10 ∷ []); ends = (0 ∷ 1 ∷ 0 ∷ 2 ∷ 0 ∷ 4 ∷ 1 ∷ 3 ∷ 1 ∷ 5 ∷ 2 ∷ 3 ∷ 2 ∷ 6 ∷ 3 ∷ 7 ∷ 4 ∷ 5 ∷ 4 ∷ 6 ∷ 5 ∷ 7 ∷ 6 ∷ 7 ∷ []) }) (17 ∷ 144 ∷ 67 ∷ 8 ∷ 16 ∷ 1 ∷ 41 ∷ 16 ∷ 1 ∷ 57 ∷ 144 ∷ 35 ∷ 57 ∷ 80 ∷ 199 ∷ 24 ∷ 144 ∷ 133 ∷ 57 ∷ 128 ∷ [])
    yields verdicts (Err (record { number = No.NotCandidate; place = 2 }))
    ∷ checked (record { xyz = (pos 0 ∷ pos 0 ∷ pos 0 ∷ pos 10 ∷ pos 0 ∷ pos 0 ∷ pos 0 ∷ pos 10 ∷ pos 0 ∷ pos 10 ∷ pos 10 ∷ pos 0 ∷ pos 0 ∷ pos 0 ∷ pos 10 ∷ pos 10 ∷ pos 0 ∷ pos 10 ∷ pos 0 ∷ pos 10 ∷ pos 10 ∷ pos 10 ∷ pos 10 ∷ pos 10 ∷ []); ends = (0 ∷ 1 ∷ 0 ∷ 2 ∷ 0 ∷ 4 ∷ 1 ∷ 3 ∷ 1 ∷ 5 ∷ 2 ∷ 3 ∷ 2 ∷ 6 ∷ 3 ∷ 7 ∷ 4 ∷ 5 ∷ 4 ∷ 6 ∷ 5 ∷ 7 ∷ 6 ∷ 7 ∷ []) }) (17 ∷ 208 ∷ 67 ∷ 8 ∷ 16 ∷ 1 ∷ 41 ∷ 16 ∷ 134 ∷ 16 ∷ 16 ∷ 35 ∷ 57 ∷ 80 ∷ 199 ∷ 24 ∷ 144 ∷ 133 ∷ 57 ∷ 144 ∷ 161 ∷ 1 ∷ 0 ∷ [])
    yields verdicts (Err (record { number = No.FaceTwice; place = 6 }))
    ∷ []

pub hold3 : Holds rows3
unfolding rows3 asked said
hold3 = refl

unfoldable pub rows4 : List Case
unfolding text of_bits
rows4 =
    checked (record { xyz = (pos 0 ∷ pos 0 ∷ pos 0 ∷ pos 10 ∷ pos 0 ∷ pos 0 ∷ pos 0 ∷ pos 10 ∷ pos 0 ∷ pos 10 ∷ pos 10 ∷ pos 0 ∷ pos 0 ∷ pos 0 ∷ pos 10 ∷ pos 10 ∷ pos 0 ∷ pos 10 ∷ pos 0 ∷ pos 10 ∷ pos 10 ∷ pos 10 ∷ pos 10 ∷ pos 10 ∷ []); ends = (0 ∷ 1 ∷ 0 ∷ 2 ∷ 0 ∷ 4 ∷ 1 ∷ 3 ∷ 1 ∷ 5 ∷ 2 ∷ 3 ∷ 2 ∷ 6 ∷ 3 ∷ 7 ∷ 4 ∷ 5 ∷ 4 ∷ 6 ∷ 5 ∷ 7 ∷ 6 ∷ 7 ∷ []) }) (17 ∷ 80 ∷ 67 ∷ 8 ∷ 16 ∷ 1 ∷ 41 ∷ 16 ∷ 134 ∷ 16 ∷ 16 ∷ 35 ∷ 57 ∷ 80 ∷ 199 ∷ 24 ∷ 128 ∷ [])
    yields verdicts (Err (record { number = No.EdgeCount; place = 8 }))
    ∷ checked (record { xyz = (pos 0 ∷ pos 0 ∷ pos 0 ∷ pos 10 ∷ pos 0 ∷ pos 0 ∷ pos 0 ∷ pos 10 ∷ pos 0 ∷ pos 10 ∷ pos 10 ∷ pos 0 ∷ pos 0 ∷ pos 0 ∷ pos 10 ∷ pos 10 ∷ pos 0 ∷ pos 10 ∷ pos 0 ∷ pos 10 ∷ pos 10 ∷ pos 10 ∷ pos 10 ∷ pos 10 ∷ []); ends = (0 ∷ 1 ∷ 0 ∷ 2 ∷ 0 ∷ 4 ∷ 1 ∷ 3 ∷ 1 ∷ 5 ∷ 2 ∷ 3 ∷ 2 ∷ 6 ∷ 3 ∷ 7 ∷ 4 ∷ 5 ∷ 4 ∷ 6 ∷ 5 ∷ 7 ∷ 6 ∷ 7 ∷ []) }) (17 ∷ 144 ∷ 67 ∷ 8 ∷ 16 ∷ 1 ∷ 41 ∷ 16 ∷ 134 ∷ 16 ∷ 16 ∷ 35 ∷ 57 ∷ 80 ∷ 199 ∷ 24 ∷ 144 ∷ 199 ∷ 41 ∷ 0 ∷ [])
    yields verdicts (Err (record { number = No.Direction; place = 8 }))
    ∷ checked (record { xyz = (pos 0 ∷ pos 0 ∷ pos 0 ∷ pos 10 ∷ pos 0 ∷ pos 0 ∷ pos 0 ∷ pos 10 ∷ pos 0 ∷ pos 10 ∷ pos 10 ∷ pos 0 ∷ pos 0 ∷ pos 0 ∷ pos 10 ∷ pos 10 ∷ pos 0 ∷ pos 10 ∷ pos 0 ∷ pos 10 ∷ pos 10 ∷ pos 10 ∷ pos 10 ∷ pos 10 ∷ []); ends = (0 ∷ 1 ∷ 0 ∷ 2 ∷ 0 ∷ 4 ∷ 1 ∷ 3 ∷ 1 ∷ 5 ∷ 2 ∷ 3 ∷ 2 ∷ 6 ∷ 3 ∷ 7 ∷ 4 ∷ 5 ∷ 4 ∷ 6 ∷ 5 ∷ 7 ∷ 6 ∷ 7 ∷ []) }) (17 ∷ 144 ∷ 1 ∷ 24 ∷ 144 ∷ 133 ∷ 8 ∷ 16 ∷ 2 ∷ 49 ∷ 16 ∷ 167 ∷ 24 ∷ 80 ∷ 67 ∷ 57 ∷ 144 ∷ 199 ∷ 41 ∷ 0 ∷ [])
    yields verdicts (Err (record { number = No.Inward; place = 0 }))
    ∷ []

pub hold4 : Holds rows4
unfolding rows4 asked said
hold4 = refl

unfoldable pub rows5 : List Case
unfolding text of_bits
rows5 =
    checked (record { xyz = (pos 0 ∷ pos 0 ∷ pos 0 ∷ pos 6 ∷ pos 0 ∷ pos 0 ∷ pos 0 ∷ pos 6 ∷ pos 0 ∷ pos 0 ∷ pos 0 ∷ pos 6 ∷ pos 0 ∷ []); ends = (0 ∷ 1 ∷ 0 ∷ 2 ∷ 0 ∷ 3 ∷ 1 ∷ 2 ∷ 1 ∷ 3 ∷ 2 ∷ 3 ∷ []) }) (17 ∷ 144 ∷ 67 ∷ 8 ∷ 16 ∷ 1 ∷ 41 ∷ 16 ∷ 134 ∷ 16 ∷ 16 ∷ 35 ∷ 57 ∷ 80 ∷ 199 ∷ 24 ∷ 144 ∷ 133 ∷ 57 ∷ 128 ∷ [])
    yields verdicts (Err (record { number = No.BadCount; place = 0 }))
    ∷ checked (record { xyz = (pos 0 ∷ pos 0 ∷ pos 0 ∷ pos 6 ∷ pos 0 ∷ pos 0 ∷ pos 0 ∷ pos 6 ∷ pos 0 ∷ pos 0 ∷ pos 0 ∷ pos 6 ∷ []); ends = (0 ∷ 1 ∷ 0 ∷ 2 ∷ 0 ∷ 3 ∷ 1 ∷ 2 ∷ 1 ∷ 3 ∷ 2 ∷ 3 ∷ 3 ∷ []) }) (17 ∷ 144 ∷ 67 ∷ 8 ∷ 16 ∷ 1 ∷ 41 ∷ 16 ∷ 134 ∷ 16 ∷ 16 ∷ 35 ∷ 57 ∷ 80 ∷ 199 ∷ 24 ∷ 144 ∷ 133 ∷ 57 ∷ 128 ∷ [])
    yields verdicts (Err (record { number = No.BadCount; place = 1 }))
    ∷ checked (record { xyz = (pos 0 ∷ pos 0 ∷ pos 0 ∷ neg 1001 ∷ pos 0 ∷ pos 0 ∷ pos 0 ∷ pos 6 ∷ pos 0 ∷ pos 0 ∷ pos 0 ∷ pos 6 ∷ []); ends = (0 ∷ 1 ∷ 0 ∷ 2 ∷ 0 ∷ 3 ∷ 1 ∷ 2 ∷ 1 ∷ 3 ∷ 2 ∷ 3 ∷ []) }) (17 ∷ 144 ∷ 67 ∷ 8 ∷ 16 ∷ 1 ∷ 41 ∷ 16 ∷ 134 ∷ 16 ∷ 16 ∷ 35 ∷ 57 ∷ 80 ∷ 199 ∷ 24 ∷ 144 ∷ 133 ∷ 57 ∷ 128 ∷ [])
    yields verdicts (Err (record { number = No.BadCoordinate; place = 3 }))
    ∷ []

pub hold5 : Holds rows5
unfolding rows5 asked said
hold5 = refl

unfoldable pub rows6 : List Case
unfolding text of_bits
rows6 =
    checked (record { xyz = (pos 0 ∷ pos 0 ∷ pos 0 ∷ pos 6 ∷ pos 0 ∷ pos 0 ∷ pos 0 ∷ pos 6 ∷ pos 0 ∷ []); ends = (0 ∷ 1 ∷ 0 ∷ 2 ∷ 0 ∷ 3 ∷ 1 ∷ 2 ∷ 1 ∷ 3 ∷ 2 ∷ 3 ∷ []) }) (17 ∷ 144 ∷ 67 ∷ 8 ∷ 16 ∷ 1 ∷ 41 ∷ 16 ∷ 134 ∷ 16 ∷ 16 ∷ 35 ∷ 57 ∷ 80 ∷ 199 ∷ 24 ∷ 144 ∷ 133 ∷ 57 ∷ 128 ∷ [])
    yields verdicts (Err (record { number = No.BadCount; place = 0 }))
    ∷ checked (record { xyz = (pos 7 ∷ pos 8 ∷ pos 9 ∷ pos 7 ∷ pos 8 ∷ pos 9 ∷ pos 7 ∷ pos 8 ∷ pos 9 ∷ pos 7 ∷ pos 8 ∷ pos 9 ∷ pos 7 ∷ pos 8 ∷ pos 9 ∷ pos 7 ∷ pos 8 ∷ pos 9 ∷ pos 7 ∷ pos 8 ∷ pos 9 ∷ pos 7 ∷ pos 8 ∷ pos 9 ∷ pos 7 ∷ pos 8 ∷ pos 9 ∷ pos 7 ∷ pos 8 ∷ pos 9 ∷ pos 7 ∷ pos 8 ∷ pos 9 ∷ pos 7 ∷ pos 8 ∷ pos 9 ∷ pos 7 ∷ pos 8 ∷ pos 9 ∷ pos 7 ∷ pos 8 ∷ pos 9 ∷ pos 7 ∷ pos 8 ∷ pos 9 ∷ pos 7 ∷ pos 8 ∷ pos 9 ∷ pos 7 ∷ pos 8 ∷ pos 9 ∷ pos 7 ∷ pos 8 ∷ pos 9 ∷ pos 7 ∷ pos 8 ∷ pos 9 ∷ pos 7 ∷ pos 8 ∷ pos 9 ∷ pos 7 ∷ pos 8 ∷ pos 9 ∷ pos 7 ∷ pos 8 ∷ pos 9 ∷ pos 7 ∷ pos 8 ∷ pos 9 ∷ pos 7 ∷ pos 8 ∷ pos 9 ∷ pos 7 ∷ pos 8 ∷ pos 9 ∷ pos 7 ∷ pos 8 ∷ pos 9 ∷ pos 7 ∷ pos 8 ∷ pos 9 ∷ pos 7 ∷ pos 8 ∷ pos 9 ∷ pos 7 ∷ pos 8 ∷ pos 9 ∷ pos 7 ∷ pos 8 ∷ pos 9 ∷ pos 7 ∷ pos 8 ∷ pos 9 ∷ pos 7 ∷ pos 8 ∷ pos 9 ∷ pos 7 ∷ pos 8 ∷ pos 9 ∷ []); ends = (0 ∷ 1 ∷ 0 ∷ 2 ∷ 0 ∷ 3 ∷ 1 ∷ 2 ∷ 1 ∷ 3 ∷ 2 ∷ 3 ∷ []) }) (17 ∷ 144 ∷ 67 ∷ 8 ∷ 16 ∷ 1 ∷ 41 ∷ 16 ∷ 134 ∷ 16 ∷ 16 ∷ 35 ∷ 57 ∷ 80 ∷ 199 ∷ 24 ∷ 144 ∷ 133 ∷ 57 ∷ 128 ∷ [])
    yields verdicts (Err (record { number = No.BadCount; place = 0 }))
    ∷ checked (record { xyz = (pos 0 ∷ pos 0 ∷ pos 0 ∷ pos 6 ∷ pos 0 ∷ pos 0 ∷ pos 0 ∷ pos 6 ∷ pos 0 ∷ pos 0 ∷ pos 0 ∷ pos 6 ∷ []); ends = (0 ∷ 1 ∷ 0 ∷ 2 ∷ 0 ∷ 3 ∷ 1 ∷ 2 ∷ 1 ∷ 3 ∷ []) }) (17 ∷ 144 ∷ 67 ∷ 8 ∷ 16 ∷ 1 ∷ 41 ∷ 16 ∷ 134 ∷ 16 ∷ 16 ∷ 35 ∷ 57 ∷ 80 ∷ 199 ∷ 24 ∷ 144 ∷ 133 ∷ 57 ∷ 128 ∷ [])
    yields verdicts (Err (record { number = No.BadCount; place = 1 }))
    ∷ []

pub hold6 : Holds rows6
unfolding rows6 asked said
hold6 = refl

unfoldable pub rows7 : List Case
unfolding text of_bits
rows7 =
    checked (record { xyz = (pos 0 ∷ pos 0 ∷ pos 0 ∷ pos 6 ∷ pos 0 ∷ pos 0 ∷ pos 0 ∷ pos 6 ∷ pos 0 ∷ pos 0 ∷ pos 0 ∷ pos 6 ∷ []); ends = (0 ∷ 1 ∷ 0 ∷ 1 ∷ 0 ∷ 1 ∷ 0 ∷ 1 ∷ 0 ∷ 1 ∷ 0 ∷ 1 ∷ 0 ∷ 1 ∷ 0 ∷ 1 ∷ 0 ∷ 1 ∷ 0 ∷ 1 ∷ 0 ∷ 1 ∷ 0 ∷ 1 ∷ 0 ∷ 1 ∷ 0 ∷ 1 ∷ 0 ∷ 1 ∷ 0 ∷ 1 ∷ 0 ∷ 1 ∷ 0 ∷ 1 ∷ 0 ∷ 1 ∷ 0 ∷ 1 ∷ 0 ∷ 1 ∷ 0 ∷ 1 ∷ 0 ∷ 1 ∷ 0 ∷ 1 ∷ 0 ∷ 1 ∷ 0 ∷ 1 ∷ 0 ∷ 1 ∷ 0 ∷ 1 ∷ 0 ∷ 1 ∷ 0 ∷ 1 ∷ 0 ∷ 1 ∷ 0 ∷ 1 ∷ 0 ∷ 1 ∷ 0 ∷ 1 ∷ 0 ∷ 1 ∷ 0 ∷ 1 ∷ 0 ∷ 1 ∷ 0 ∷ 1 ∷ 0 ∷ 1 ∷ 0 ∷ 1 ∷ 0 ∷ 1 ∷ 0 ∷ 1 ∷ 0 ∷ 1 ∷ 0 ∷ 1 ∷ 0 ∷ 1 ∷ 0 ∷ 1 ∷ 0 ∷ 1 ∷ 0 ∷ 1 ∷ 0 ∷ 1 ∷ 0 ∷ 1 ∷ 0 ∷ 1 ∷ 0 ∷ 1 ∷ 0 ∷ 1 ∷ 0 ∷ 1 ∷ 0 ∷ 1 ∷ 0 ∷ 1 ∷ 0 ∷ 1 ∷ 0 ∷ 1 ∷ 0 ∷ 1 ∷ 0 ∷ 1 ∷ 0 ∷ 1 ∷ 0 ∷ 1 ∷ 0 ∷ 1 ∷ 0 ∷ 1 ∷ 0 ∷ 1 ∷ []) }) (17 ∷ 144 ∷ 67 ∷ 8 ∷ 16 ∷ 1 ∷ 41 ∷ 16 ∷ 134 ∷ 16 ∷ 16 ∷ 35 ∷ 57 ∷ 80 ∷ 199 ∷ 24 ∷ 144 ∷ 133 ∷ 57 ∷ 128 ∷ [])
    yields verdicts (Err (record { number = No.BadCount; place = 1 }))
    ∷ checked (record { xyz = (pos 0 ∷ pos 0 ∷ pos 0 ∷ pos 6 ∷ pos 0 ∷ pos 0 ∷ pos 0 ∷ pos 6 ∷ pos 0 ∷ pos 0 ∷ pos 0 ∷ pos 1001 ∷ []); ends = (0 ∷ 1 ∷ 0 ∷ 2 ∷ 0 ∷ 3 ∷ 1 ∷ 2 ∷ 1 ∷ 3 ∷ 2 ∷ 3 ∷ []) }) (17 ∷ 144 ∷ 67 ∷ 8 ∷ 16 ∷ 1 ∷ 41 ∷ 16 ∷ 134 ∷ 16 ∷ 16 ∷ 35 ∷ 57 ∷ 80 ∷ 199 ∷ 24 ∷ 144 ∷ 133 ∷ 57 ∷ 128 ∷ [])
    yields verdicts (Err (record { number = No.BadCoordinate; place = 11 }))
    ∷ checked (record { xyz = (pos 0 ∷ pos 0 ∷ pos 0 ∷ pos 6 ∷ pos 0 ∷ pos 0 ∷ pos 0 ∷ pos 6 ∷ pos 0 ∷ pos 0 ∷ pos 0 ∷ pos 6 ∷ []); ends = (0 ∷ 1 ∷ 0 ∷ 2 ∷ 0 ∷ 3 ∷ 1 ∷ 2 ∷ 1 ∷ 3 ∷ 2 ∷ 4 ∷ []) }) (17 ∷ 144 ∷ 67 ∷ 8 ∷ 16 ∷ 1 ∷ 41 ∷ 16 ∷ 134 ∷ 16 ∷ 16 ∷ 35 ∷ 57 ∷ 80 ∷ 199 ∷ 24 ∷ 144 ∷ 133 ∷ 57 ∷ 128 ∷ [])
    yields verdicts (Err (record { number = No.BadEdge; place = 5 }))
    ∷ []

pub hold7 : Holds rows7
unfolding rows7 asked said
hold7 = refl

unfoldable pub rows8 : List Case
unfolding text of_bits
rows8 =
    checked (record { xyz = (pos 0 ∷ pos 0 ∷ pos 0 ∷ pos 6 ∷ pos 0 ∷ pos 0 ∷ pos 0 ∷ pos 6 ∷ pos 0 ∷ pos 0 ∷ pos 0 ∷ pos 6 ∷ []); ends = (0 ∷ 1 ∷ 0 ∷ 2 ∷ 0 ∷ 3 ∷ 2 ∷ 1 ∷ 1 ∷ 3 ∷ 2 ∷ 3 ∷ []) }) (17 ∷ 144 ∷ 67 ∷ 8 ∷ 16 ∷ 1 ∷ 41 ∷ 16 ∷ 134 ∷ 16 ∷ 16 ∷ 35 ∷ 57 ∷ 80 ∷ 199 ∷ 24 ∷ 144 ∷ 133 ∷ 57 ∷ 128 ∷ [])
    yields verdicts (Err (record { number = No.BadEdge; place = 3 }))
    ∷ checked (record { xyz = (pos 0 ∷ pos 0 ∷ pos 0 ∷ pos 6 ∷ pos 0 ∷ pos 0 ∷ pos 0 ∷ pos 6 ∷ pos 0 ∷ pos 0 ∷ pos 0 ∷ pos 6 ∷ []); ends = (0 ∷ 1 ∷ 0 ∷ 2 ∷ 0 ∷ 3 ∷ 1 ∷ 2 ∷ 1 ∷ 2 ∷ 2 ∷ 3 ∷ []) }) (17 ∷ 144 ∷ 67 ∷ 8 ∷ 16 ∷ 1 ∷ 41 ∷ 16 ∷ 134 ∷ 16 ∷ 16 ∷ 35 ∷ 57 ∷ 80 ∷ 199 ∷ 24 ∷ 144 ∷ 133 ∷ 57 ∷ 128 ∷ [])
    yields verdicts (Err (record { number = No.EdgeOrder; place = 4 }))
    ∷ checked (record { xyz = (pos 0 ∷ pos 0 ∷ pos 0 ∷ pos 6 ∷ pos 0 ∷ pos 0 ∷ pos 0 ∷ pos 6 ∷ pos 0 ∷ pos 0 ∷ pos 0 ∷ pos 6 ∷ []); ends = (0 ∷ 1 ∷ 0 ∷ 3 ∷ 0 ∷ 2 ∷ 1 ∷ 2 ∷ 1 ∷ 3 ∷ 2 ∷ 3 ∷ []) }) (17 ∷ 144 ∷ 67 ∷ 8 ∷ 16 ∷ 1 ∷ 41 ∷ 16 ∷ 134 ∷ 16 ∷ 16 ∷ 35 ∷ 57 ∷ 80 ∷ 199 ∷ 24 ∷ 144 ∷ 133 ∷ 57 ∷ 128 ∷ [])
    yields verdicts (Err (record { number = No.EdgeOrder; place = 2 }))
    ∷ []

pub hold8 : Holds rows8
unfolding rows8 asked said
hold8 = refl

unfoldable pub rows9 : List Case
unfolding text of_bits
rows9 =
    checked (record { xyz = (pos 0 ∷ pos 0 ∷ pos 0 ∷ pos 6 ∷ pos 0 ∷ pos 0 ∷ pos 0 ∷ pos 6 ∷ pos 0 ∷ pos 0 ∷ pos 6 ∷ pos 0 ∷ []); ends = (0 ∷ 1 ∷ 0 ∷ 2 ∷ 0 ∷ 3 ∷ 1 ∷ 2 ∷ 1 ∷ 3 ∷ 2 ∷ 3 ∷ []) }) (17 ∷ 144 ∷ 67 ∷ 8 ∷ 16 ∷ 1 ∷ 41 ∷ 16 ∷ 134 ∷ 16 ∷ 16 ∷ 35 ∷ 57 ∷ 80 ∷ 199 ∷ 24 ∷ 144 ∷ 133 ∷ 57 ∷ 128 ∷ [])
    yields verdicts (Err (record { number = No.SamePlace; place = 2 }))
    ∷ checked (record { xyz = (pos 0 ∷ pos 0 ∷ pos 0 ∷ pos 6 ∷ pos 0 ∷ pos 0 ∷ pos 0 ∷ pos 6 ∷ pos 0 ∷ pos 0 ∷ pos 0 ∷ pos 6 ∷ pos 9 ∷ pos 9 ∷ pos 9 ∷ []); ends = (0 ∷ 1 ∷ 0 ∷ 2 ∷ 0 ∷ 3 ∷ 1 ∷ 2 ∷ 1 ∷ 3 ∷ 2 ∷ 3 ∷ []) }) (17 ∷ 144 ∷ 67 ∷ 8 ∷ 16 ∷ 1 ∷ 41 ∷ 16 ∷ 134 ∷ 16 ∷ 16 ∷ 35 ∷ 57 ∷ 80 ∷ 199 ∷ 24 ∷ 144 ∷ 133 ∷ 57 ∷ 128 ∷ [])
    yields verdicts (Err (record { number = No.LooseVertex; place = 4 }))
    ∷ checked (record { xyz = (pos 0 ∷ pos 0 ∷ pos 0 ∷ pos 6 ∷ pos 0 ∷ pos 0 ∷ pos 0 ∷ pos 6 ∷ pos 0 ∷ pos 6 ∷ pos 6 ∷ pos 0 ∷ []); ends = (0 ∷ 1 ∷ 0 ∷ 2 ∷ 0 ∷ 3 ∷ 1 ∷ 2 ∷ 1 ∷ 3 ∷ 2 ∷ 3 ∷ []) }) (17 ∷ 144 ∷ 67 ∷ 8 ∷ 16 ∷ 1 ∷ 41 ∷ 16 ∷ 134 ∷ 16 ∷ 16 ∷ 35 ∷ 57 ∷ 80 ∷ 199 ∷ 24 ∷ 144 ∷ 133 ∷ 57 ∷ 128 ∷ [])
    yields verdicts (Err (record { number = No.EdgeMeets; place = 2 }))
    ∷ []

pub hold9 : Holds rows9
unfolding rows9 asked said
hold9 = refl

unfoldable pub rows10 : List Case
unfolding text of_bits
rows10 =
    checked (record { xyz = (pos 0 ∷ pos 0 ∷ pos 0 ∷ pos 6 ∷ pos 0 ∷ pos 0 ∷ pos 0 ∷ pos 6 ∷ pos 0 ∷ pos 0 ∷ pos 0 ∷ pos 6 ∷ pos 50 ∷ pos 60 ∷ pos 70 ∷ pos 56 ∷ pos 60 ∷ pos 70 ∷ pos 50 ∷ pos 66 ∷ pos 70 ∷ pos 50 ∷ pos 60 ∷ pos 76 ∷ []); ends = (0 ∷ 1 ∷ 0 ∷ 2 ∷ 0 ∷ 3 ∷ 1 ∷ 2 ∷ 1 ∷ 3 ∷ 2 ∷ 3 ∷ 4 ∷ 5 ∷ 4 ∷ 6 ∷ 4 ∷ 7 ∷ 5 ∷ 6 ∷ 5 ∷ 7 ∷ 6 ∷ 7 ∷ []) }) (17 ∷ 144 ∷ 67 ∷ 8 ∷ 16 ∷ 1 ∷ 41 ∷ 16 ∷ 134 ∷ 16 ∷ 16 ∷ 35 ∷ 57 ∷ 80 ∷ 199 ∷ 24 ∷ 144 ∷ 133 ∷ 57 ∷ 128 ∷ [])
    yields verdicts (Err (record { number = No.Apart; place = 4 }))
    ∷ checked (record { xyz = (pos 0 ∷ pos 1 ∷ pos 0 ∷ pos 2 ∷ pos 1 ∷ pos 0 ∷ pos 3 ∷ pos 3 ∷ pos 0 ∷ pos 4 ∷ pos 0 ∷ pos 0 ∷ pos 2 ∷ pos 3 ∷ pos 0 ∷ pos 1 ∷ pos 6 ∷ pos 0 ∷ pos 3 ∷ pos 1 ∷ pos 0 ∷ pos 4 ∷ pos 5 ∷ pos 0 ∷ []); ends = (0 ∷ 1 ∷ 0 ∷ 3 ∷ 0 ∷ 5 ∷ 1 ∷ 4 ∷ 1 ∷ 5 ∷ 1 ∷ 6 ∷ 2 ∷ 3 ∷ 2 ∷ 5 ∷ 2 ∷ 6 ∷ 2 ∷ 7 ∷ 3 ∷ 6 ∷ 3 ∷ 7 ∷ 4 ∷ 5 ∷ 4 ∷ 6 ∷ 5 ∷ 6 ∷ 5 ∷ 7 ∷ []) }) (17 ∷ 144 ∷ 67 ∷ 8 ∷ 16 ∷ 1 ∷ 41 ∷ 16 ∷ 134 ∷ 16 ∷ 16 ∷ 35 ∷ 57 ∷ 80 ∷ 199 ∷ 24 ∷ 144 ∷ 133 ∷ 57 ∷ 128 ∷ [])
    yields verdicts (Err (record { number = No.ManyLoops; place = 0 }))
    ∷ checked (record { xyz = (neg 4 ∷ pos 16 ∷ neg 64 ∷ neg 3 ∷ pos 9 ∷ neg 27 ∷ neg 2 ∷ pos 4 ∷ neg 8 ∷ neg 1 ∷ pos 1 ∷ neg 1 ∷ pos 0 ∷ pos 0 ∷ pos 0 ∷ pos 1 ∷ pos 1 ∷ pos 1 ∷ pos 2 ∷ pos 4 ∷ pos 8 ∷ pos 3 ∷ pos 9 ∷ pos 27 ∷ pos 4 ∷ pos 16 ∷ pos 64 ∷ []); ends = (0 ∷ 2 ∷ 0 ∷ 3 ∷ 0 ∷ 4 ∷ 0 ∷ 5 ∷ 0 ∷ 6 ∷ 0 ∷ 7 ∷ 0 ∷ 8 ∷ 1 ∷ 3 ∷ 1 ∷ 4 ∷ 1 ∷ 5 ∷ 1 ∷ 6 ∷ 1 ∷ 7 ∷ 1 ∷ 8 ∷ 2 ∷ 4 ∷ 2 ∷ 5 ∷ 2 ∷ 6 ∷ 2 ∷ 7 ∷ 2 ∷ 8 ∷ 3 ∷ 4 ∷ 3 ∷ 5 ∷ 3 ∷ 6 ∷ 3 ∷ 7 ∷ 3 ∷ 8 ∷ 4 ∷ 5 ∷ 4 ∷ 6 ∷ 4 ∷ 7 ∷ 4 ∷ 8 ∷ 5 ∷ 6 ∷ 5 ∷ 7 ∷ 5 ∷ 8 ∷ 6 ∷ 7 ∷ 6 ∷ 8 ∷ 7 ∷ 8 ∷ []) }) (17 ∷ 144 ∷ 67 ∷ 8 ∷ 16 ∷ 1 ∷ 41 ∷ 16 ∷ 134 ∷ 16 ∷ 16 ∷ 35 ∷ 57 ∷ 80 ∷ 199 ∷ 24 ∷ 144 ∷ 133 ∷ 57 ∷ 128 ∷ [])
    yields verdicts (Err (record { number = No.ManyCandidates; place = 0 }))
    ∷ []

pub hold10 : Holds rows10
unfolding rows10 asked said
hold10 = refl

unfoldable pub rows11 : List Case
unfolding text of_bits
rows11 =
    checked (record { xyz = (pos 0 ∷ pos 0 ∷ pos 0 ∷ pos 10 ∷ pos 0 ∷ pos 0 ∷ pos 0 ∷ pos 10 ∷ pos 0 ∷ pos 10 ∷ pos 10 ∷ pos 0 ∷ pos 0 ∷ pos 0 ∷ pos 10 ∷ pos 10 ∷ pos 0 ∷ pos 10 ∷ pos 0 ∷ pos 10 ∷ pos 10 ∷ pos 10 ∷ pos 10 ∷ pos 10 ∷ pos 5 ∷ pos 4 ∷ neg 1 ∷ []); ends = (0 ∷ 1 ∷ 0 ∷ 2 ∷ 0 ∷ 4 ∷ 1 ∷ 3 ∷ 1 ∷ 5 ∷ 2 ∷ 3 ∷ 2 ∷ 6 ∷ 3 ∷ 7 ∷ 4 ∷ 5 ∷ 4 ∷ 6 ∷ 4 ∷ 8 ∷ 5 ∷ 7 ∷ 5 ∷ 8 ∷ 6 ∷ 7 ∷ 6 ∷ 8 ∷ 7 ∷ 8 ∷ []) }) (18 ∷ 80 ∷ 1 ∷ 41 ∷ 16 ∷ 134 ∷ 16 ∷ 16 ∷ 35 ∷ 57 ∷ 80 ∷ 199 ∷ 24 ∷ 140 ∷ 133 ∷ 65 ∷ 148 ∷ 232 ∷ 51 ∷ 153 ∷ 6 ∷ 98 ∷ 33 ∷ 4 ∷ 48 ∷ 128 ∷ [])
    yields verdicts (Err (record { number = No.Clash; place = 4 }))
    ∷ checked (record { xyz = (pos 0 ∷ pos 0 ∷ pos 0 ∷ pos 6 ∷ pos 0 ∷ pos 0 ∷ pos 0 ∷ pos 6 ∷ pos 0 ∷ pos 0 ∷ pos 0 ∷ pos 6 ∷ neg 6 ∷ pos 0 ∷ pos 0 ∷ pos 0 ∷ neg 6 ∷ pos 0 ∷ pos 0 ∷ pos 0 ∷ neg 6 ∷ []); ends = (0 ∷ 1 ∷ 0 ∷ 2 ∷ 0 ∷ 3 ∷ 0 ∷ 4 ∷ 0 ∷ 5 ∷ 0 ∷ 6 ∷ 1 ∷ 2 ∷ 1 ∷ 3 ∷ 2 ∷ 3 ∷ 4 ∷ 5 ∷ 4 ∷ 6 ∷ 5 ∷ 6 ∷ []) }) (18 ∷ 12 ∷ 65 ∷ 1 ∷ 128 ∷ 35 ∷ 49 ∷ 136 ∷ 6 ∷ 17 ∷ 12 ∷ 192 ∷ 66 ∷ 153 ∷ 136 ∷ 3 ∷ 1 ∷ 76 ∷ 102 ∷ 41 ∷ 0 ∷ [])
    yields verdicts (Err (record { number = No.Pieces; place = 4 }))
    ∷ checked (record { xyz = (pos 0 ∷ pos 0 ∷ pos 0 ∷ pos 2 ∷ pos 0 ∷ pos 0 ∷ pos 4 ∷ pos 1 ∷ pos 0 ∷ pos 5 ∷ pos 2 ∷ pos 0 ∷ pos 5 ∷ pos 4 ∷ pos 0 ∷ pos 4 ∷ pos 6 ∷ pos 0 ∷ pos 3 ∷ pos 7 ∷ pos 0 ∷ pos 1 ∷ pos 7 ∷ pos 0 ∷ neg 1 ∷ pos 6 ∷ pos 0 ∷ neg 2 ∷ pos 5 ∷ pos 0 ∷ neg 2 ∷ pos 3 ∷ pos 0 ∷ neg 1 ∷ pos 1 ∷ pos 0 ∷ pos 3 ∷ pos 4 ∷ pos 7 ∷ []); ends = (0 ∷ 1 ∷ 0 ∷ 11 ∷ 0 ∷ 12 ∷ 1 ∷ 2 ∷ 1 ∷ 12 ∷ 2 ∷ 3 ∷ 2 ∷ 12 ∷ 3 ∷ 4 ∷ 3 ∷ 12 ∷ 4 ∷ 5 ∷ 4 ∷ 12 ∷ 5 ∷ 6 ∷ 5 ∷ 12 ∷ 6 ∷ 7 ∷ 6 ∷ 12 ∷ 7 ∷ 8 ∷ 7 ∷ 12 ∷ 8 ∷ 9 ∷ 8 ∷ 12 ∷ 9 ∷ 10 ∷ 9 ∷ 12 ∷ 10 ∷ 11 ∷ 10 ∷ 12 ∷ 11 ∷ 12 ∷ []) }) (19 ∷ 112 ∷ 11 ∷ 82 ∷ 80 ∷ 115 ∷ 20 ∷ 131 ∷ 16 ∷ 76 ∷ 1 ∷ 97 ∷ 129 ∷ 139 ∷ 48 ∷ 137 ∷ 134 ∷ 33 ∷ 176 ∷ 198 ∷ 70 ∷ 25 ∷ 10 ∷ 195 ∷ 41 ∷ 152 ∷ 102 ∷ 59 ∷ 12 ∷ 232 ∷ 97 ∷ 161 ∷ 44 ∷ 52 ∷ 169 ∷ 134 ∷ 165 ∷ 176 ∷ [])
    yields verdicts ListAccepted
    ∷ []

pub hold11 : Holds rows11
unfolding rows11 asked said
hold11 = refl

unfoldable pub rows12 : List Case
unfolding text of_bits
rows12 =
    ruled ([]) (17 ∷ 144 ∷ 67 ∷ 8 ∷ 16 ∷ 1 ∷ 41 ∷ 16 ∷ 134 ∷ 16 ∷ 16 ∷ 35 ∷ 57 ∷ 80 ∷ 199 ∷ 24 ∷ 144 ∷ 133 ∷ 57 ∷ 128 ∷ [])
    yields verdicts (Err (record { number = No.SheetShort; place = 0 }))
    ∷ ruled (17 ∷ 3 ∷ []) (17 ∷ 144 ∷ 67 ∷ 8 ∷ 16 ∷ 1 ∷ 41 ∷ 16 ∷ 134 ∷ 16 ∷ 16 ∷ 35 ∷ 57 ∷ 80 ∷ 199 ∷ 24 ∷ 144 ∷ 133 ∷ 57 ∷ 128 ∷ [])
    yields verdicts (Err (record { number = No.SheetShort; place = 0 }))
    ∷ ruled (33 ∷ 3 ∷ 62 ∷ 135 ∷ 208 ∷ 250 ∷ 31 ∷ 115 ∷ 232 ∷ 125 ∷ 15 ∷ 161 ∷ 247 ∷ 62 ∷ 135 ∷ 208 ∷ 250 ∷ 31 ∷ 112 ∷ 2 ∷ 1 ∷ 0 ∷ 97 ∷ 16 ∷ 70 ∷ 33 ∷ 128 ∷ []) (17 ∷ 144 ∷ 67 ∷ 8 ∷ 16 ∷ 1 ∷ 41 ∷ 16 ∷ 134 ∷ 16 ∷ 16 ∷ 35 ∷ 57 ∷ 80 ∷ 199 ∷ 24 ∷ 144 ∷ 133 ∷ 57 ∷ 128 ∷ [])
    yields verdicts (Err (record { number = No.SheetEdition; place = 0 }))
    ∷ []

pub hold12 : Holds rows12
unfolding rows12 asked said
hold12 = refl

unfoldable pub rows13 : List Case
unfolding text of_bits
rows13 =
    ruled (16 ∷ 195 ∷ 62 ∷ 135 ∷ 208 ∷ 250 ∷ 31 ∷ 115 ∷ 232 ∷ 125 ∷ 15 ∷ 161 ∷ 247 ∷ 62 ∷ 128 ∷ 4 ∷ 2 ∷ 0 ∷ 194 ∷ 32 ∷ 140 ∷ 67 ∷ []) (17 ∷ 144 ∷ 67 ∷ 8 ∷ 16 ∷ 1 ∷ 41 ∷ 16 ∷ 134 ∷ 16 ∷ 16 ∷ 35 ∷ 57 ∷ 80 ∷ 199 ∷ 24 ∷ 144 ∷ 133 ∷ 57 ∷ 128 ∷ [])
    yields verdicts (Err (record { number = No.BadCount; place = 0 }))
    ∷ ruled (24 ∷ 67 ∷ 62 ∷ 247 ∷ 224 ∷ 252 ∷ 95 ∷ 123 ∷ 240 ∷ 126 ∷ 47 ∷ 189 ∷ 248 ∷ 63 ∷ 23 ∷ 222 ∷ 252 ∷ 31 ∷ 139 ∷ 239 ∷ 126 ∷ 15 ∷ 197 ∷ 247 ∷ 191 ∷ 7 ∷ 226 ∷ 251 ∷ 223 ∷ 131 ∷ 241 ∷ 125 ∷ 239 ∷ 193 ∷ 248 ∷ 190 ∷ 247 ∷ 224 ∷ 252 ∷ 95 ∷ 123 ∷ 240 ∷ 126 ∷ 47 ∷ 189 ∷ 248 ∷ 63 ∷ 23 ∷ 222 ∷ 252 ∷ 31 ∷ 139 ∷ 239 ∷ 126 ∷ 15 ∷ 197 ∷ 247 ∷ 191 ∷ 7 ∷ 226 ∷ 251 ∷ 223 ∷ 131 ∷ 241 ∷ 125 ∷ 239 ∷ 193 ∷ 248 ∷ 190 ∷ 247 ∷ 224 ∷ 252 ∷ 95 ∷ 123 ∷ 240 ∷ 126 ∷ 47 ∷ 189 ∷ 248 ∷ 63 ∷ 23 ∷ 222 ∷ 252 ∷ 31 ∷ 139 ∷ 239 ∷ 126 ∷ 15 ∷ 197 ∷ 247 ∷ 191 ∷ 7 ∷ 226 ∷ 251 ∷ 223 ∷ 131 ∷ 241 ∷ 125 ∷ 239 ∷ 193 ∷ 248 ∷ 190 ∷ 247 ∷ 224 ∷ 252 ∷ 95 ∷ 123 ∷ 240 ∷ 126 ∷ 47 ∷ 189 ∷ 248 ∷ 63 ∷ 23 ∷ 222 ∷ 252 ∷ 31 ∷ 139 ∷ 239 ∷ 126 ∷ 15 ∷ 197 ∷ 247 ∷ 191 ∷ 7 ∷ 226 ∷ 251 ∷ 223 ∷ 131 ∷ 241 ∷ 125 ∷ 239 ∷ 193 ∷ 248 ∷ 190 ∷ 247 ∷ 224 ∷ 252 ∷ 64 ∷ 16 ∷ 8 ∷ 3 ∷ 8 ∷ 130 ∷ 49 ∷ 12 ∷ []) (17 ∷ 144 ∷ 67 ∷ 8 ∷ 16 ∷ 1 ∷ 41 ∷ 16 ∷ 134 ∷ 16 ∷ 16 ∷ 35 ∷ 57 ∷ 80 ∷ 199 ∷ 24 ∷ 144 ∷ 133 ∷ 57 ∷ 128 ∷ [])
    yields verdicts (Err (record { number = No.BadCount; place = 0 }))
    ∷ ruled (17 ∷ 2 ∷ 190 ∷ 135 ∷ 208 ∷ 250 ∷ 31 ∷ 115 ∷ 232 ∷ 125 ∷ 15 ∷ 161 ∷ 247 ∷ 62 ∷ 135 ∷ 208 ∷ 250 ∷ 31 ∷ 112 ∷ 2 ∷ 1 ∷ 0 ∷ 97 ∷ 16 ∷ 70 ∷ []) (17 ∷ 144 ∷ 67 ∷ 8 ∷ 16 ∷ 1 ∷ 41 ∷ 16 ∷ 134 ∷ 16 ∷ 16 ∷ 35 ∷ 57 ∷ 80 ∷ 199 ∷ 24 ∷ 144 ∷ 133 ∷ 57 ∷ 128 ∷ [])
    yields verdicts (Err (record { number = No.BadCount; place = 1 }))
    ∷ []

pub hold13 : Holds rows13
unfolding rows13 asked said
hold13 = refl

unfoldable pub rows14 : List Case
unfolding text of_bits
rows14 =
    ruled (17 ∷ 32 ∷ 190 ∷ 135 ∷ 208 ∷ 250 ∷ 31 ∷ 115 ∷ 232 ∷ 125 ∷ 15 ∷ 161 ∷ 247 ∷ 62 ∷ 135 ∷ 208 ∷ 250 ∷ 31 ∷ 112 ∷ 2 ∷ 0 ∷ 128 ∷ 32 ∷ 8 ∷ 2 ∷ 0 ∷ 128 ∷ 32 ∷ 8 ∷ 2 ∷ 0 ∷ 128 ∷ 32 ∷ 8 ∷ 2 ∷ 0 ∷ 128 ∷ 32 ∷ 8 ∷ 2 ∷ 0 ∷ 128 ∷ 32 ∷ 8 ∷ 2 ∷ 0 ∷ 128 ∷ 32 ∷ 8 ∷ 2 ∷ 0 ∷ 128 ∷ 32 ∷ 8 ∷ 2 ∷ 0 ∷ 128 ∷ 32 ∷ 8 ∷ 2 ∷ 0 ∷ 128 ∷ 32 ∷ 8 ∷ 2 ∷ 0 ∷ 128 ∷ 32 ∷ 8 ∷ 2 ∷ 0 ∷ 128 ∷ 32 ∷ 8 ∷ 2 ∷ 0 ∷ 128 ∷ 32 ∷ 8 ∷ 2 ∷ 0 ∷ 128 ∷ 32 ∷ 8 ∷ 2 ∷ 0 ∷ 128 ∷ 32 ∷ 8 ∷ 2 ∷ 0 ∷ 128 ∷ 32 ∷ 8 ∷ 2 ∷ 0 ∷ 128 ∷ 32 ∷ 8 ∷ 2 ∷ []) (17 ∷ 144 ∷ 67 ∷ 8 ∷ 16 ∷ 1 ∷ 41 ∷ 16 ∷ 134 ∷ 16 ∷ 16 ∷ 35 ∷ 57 ∷ 80 ∷ 199 ∷ 24 ∷ 144 ∷ 133 ∷ 57 ∷ 128 ∷ [])
    yields verdicts (Err (record { number = No.BadCount; place = 1 }))
    ∷ ruled (17 ∷ 3 ∷ 62 ∷ 135 ∷ 208 ∷ 250 ∷ 31 ∷ 115 ∷ 232 ∷ 125 ∷ 15 ∷ 161 ∷ 247 ∷ 62 ∷ 135 ∷ 208 ∷ 250 ∷ 31 ∷ 112 ∷ 2 ∷ 1 ∷ 0 ∷ 97 ∷ 16 ∷ 70 ∷ 33 ∷ []) (17 ∷ 144 ∷ 67 ∷ 8 ∷ 16 ∷ 1 ∷ 41 ∷ 16 ∷ 134 ∷ 16 ∷ 16 ∷ 35 ∷ 57 ∷ 80 ∷ 199 ∷ 24 ∷ 144 ∷ 133 ∷ 57 ∷ 128 ∷ [])
    yields verdicts (Err (record { number = No.SheetLength; place = 0 }))
    ∷ ruled (17 ∷ 3 ∷ 62 ∷ 135 ∷ 208 ∷ 250 ∷ 31 ∷ 115 ∷ 232 ∷ 125 ∷ 15 ∷ 161 ∷ 247 ∷ 62 ∷ 135 ∷ 208 ∷ 250 ∷ 31 ∷ 112 ∷ 2 ∷ 1 ∷ 0 ∷ 97 ∷ 16 ∷ 70 ∷ 33 ∷ 128 ∷ 0 ∷ []) (17 ∷ 144 ∷ 67 ∷ 8 ∷ 16 ∷ 1 ∷ 41 ∷ 16 ∷ 134 ∷ 16 ∷ 16 ∷ 35 ∷ 57 ∷ 80 ∷ 199 ∷ 24 ∷ 144 ∷ 133 ∷ 57 ∷ 128 ∷ [])
    yields verdicts (Err (record { number = No.SheetLength; place = 0 }))
    ∷ []

pub hold14 : Holds rows14
unfolding rows14 asked said
hold14 = refl

unfoldable pub rows15 : List Case
unfolding text of_bits
rows15 =
    ruled (17 ∷ 3 ∷ 62 ∷ 135 ∷ 208 ∷ 250 ∷ 31 ∷ 115 ∷ 232 ∷ 125 ∷ 15 ∷ 161 ∷ 247 ∷ 62 ∷ 135 ∷ 208 ∷ 250 ∷ 31 ∷ 112 ∷ 2 ∷ 1 ∷ 0 ∷ 97 ∷ 16 ∷ 70 ∷ 33 ∷ 129 ∷ []) (17 ∷ 144 ∷ 67 ∷ 8 ∷ 16 ∷ 1 ∷ 41 ∷ 16 ∷ 134 ∷ 16 ∷ 16 ∷ 35 ∷ 57 ∷ 80 ∷ 199 ∷ 24 ∷ 144 ∷ 133 ∷ 57 ∷ 128 ∷ [])
    yields verdicts (Err (record { number = No.SheetPad; place = 0 }))
    ∷ ruled (17 ∷ 3 ∷ 62 ∷ 135 ∷ 208 ∷ 250 ∷ 31 ∷ 115 ∷ 232 ∷ 125 ∷ 15 ∷ 161 ∷ 247 ∷ 62 ∷ 135 ∷ 208 ∷ 250 ∷ 62 ∷ 136 ∷ 2 ∷ 1 ∷ 0 ∷ 97 ∷ 16 ∷ 70 ∷ 33 ∷ 128 ∷ []) (17 ∷ 144 ∷ 67 ∷ 8 ∷ 16 ∷ 1 ∷ 41 ∷ 16 ∷ 134 ∷ 16 ∷ 16 ∷ 35 ∷ 57 ∷ 80 ∷ 199 ∷ 24 ∷ 144 ∷ 133 ∷ 57 ∷ 128 ∷ [])
    yields verdicts (Err (record { number = No.BadCoordinate; place = 11 }))
    ∷ ruled (17 ∷ 3 ∷ 62 ∷ 135 ∷ 208 ∷ 250 ∷ 31 ∷ 115 ∷ 232 ∷ 125 ∷ 15 ∷ 161 ∷ 247 ∷ 62 ∷ 135 ∷ 208 ∷ 250 ∷ 31 ∷ 112 ∷ 2 ∷ 1 ∷ 0 ∷ 97 ∷ 16 ∷ 70 ∷ 34 ∷ 0 ∷ []) (17 ∷ 144 ∷ 67 ∷ 8 ∷ 16 ∷ 1 ∷ 41 ∷ 16 ∷ 134 ∷ 16 ∷ 16 ∷ 35 ∷ 57 ∷ 80 ∷ 199 ∷ 24 ∷ 144 ∷ 133 ∷ 57 ∷ 128 ∷ [])
    yields verdicts (Err (record { number = No.BadEdge; place = 5 }))
    ∷ []

pub hold15 : Holds rows15
unfolding rows15 asked said
hold15 = refl

unfoldable pub rows16 : List Case
unfolding text of_bits
rows16 =
    ruled (17 ∷ 3 ∷ 62 ∷ 135 ∷ 208 ∷ 250 ∷ 31 ∷ 115 ∷ 232 ∷ 125 ∷ 15 ∷ 161 ∷ 247 ∷ 62 ∷ 135 ∷ 208 ∷ 250 ∷ 31 ∷ 112 ∷ 2 ∷ 1 ∷ 0 ∷ 98 ∷ 8 ∷ 70 ∷ 33 ∷ 128 ∷ []) (17 ∷ 144 ∷ 67 ∷ 8 ∷ 16 ∷ 1 ∷ 41 ∷ 16 ∷ 134 ∷ 16 ∷ 16 ∷ 35 ∷ 57 ∷ 80 ∷ 199 ∷ 24 ∷ 144 ∷ 133 ∷ 57 ∷ 128 ∷ [])
    yields verdicts (Err (record { number = No.BadEdge; place = 3 }))
    ∷ ruled (17 ∷ 3 ∷ 62 ∷ 135 ∷ 208 ∷ 250 ∷ 31 ∷ 115 ∷ 232 ∷ 125 ∷ 15 ∷ 161 ∷ 247 ∷ 62 ∷ 135 ∷ 208 ∷ 250 ∷ 31 ∷ 112 ∷ 2 ∷ 1 ∷ 0 ∷ 97 ∷ 16 ∷ 68 ∷ 33 ∷ 128 ∷ []) (17 ∷ 144 ∷ 67 ∷ 8 ∷ 16 ∷ 1 ∷ 41 ∷ 16 ∷ 134 ∷ 16 ∷ 16 ∷ 35 ∷ 57 ∷ 80 ∷ 199 ∷ 24 ∷ 144 ∷ 133 ∷ 57 ∷ 128 ∷ [])
    yields verdicts (Err (record { number = No.EdgeOrder; place = 4 }))
    ∷ ruled (17 ∷ 3 ∷ 62 ∷ 135 ∷ 208 ∷ 250 ∷ 31 ∷ 115 ∷ 232 ∷ 125 ∷ 15 ∷ 161 ∷ 247 ∷ 62 ∷ 135 ∷ 208 ∷ 250 ∷ 31 ∷ 112 ∷ 2 ∷ 1 ∷ 128 ∷ 65 ∷ 16 ∷ 70 ∷ 33 ∷ 128 ∷ []) (17 ∷ 144 ∷ 67 ∷ 8 ∷ 16 ∷ 1 ∷ 41 ∷ 16 ∷ 134 ∷ 16 ∷ 16 ∷ 35 ∷ 57 ∷ 80 ∷ 199 ∷ 24 ∷ 144 ∷ 133 ∷ 57 ∷ 128 ∷ [])
    yields verdicts (Err (record { number = No.EdgeOrder; place = 2 }))
    ∷ []

pub hold16 : Holds rows16
unfolding rows16 asked said
hold16 = refl

unfoldable pub rows17 : List Case
unfolding text of_bits
rows17 =
    ruled (18 ∷ 6 ∷ 62 ∷ 135 ∷ 208 ∷ 250 ∷ 31 ∷ 147 ∷ 232 ∷ 125 ∷ 15 ∷ 161 ∷ 249 ∷ 62 ∷ 135 ∷ 228 ∷ 252 ∷ 159 ∷ 67 ∷ 232 ∷ 125 ∷ 15 ∷ 201 ∷ 249 ∷ 62 ∷ 135 ∷ 228 ∷ 250 ∷ 31 ∷ 147 ∷ 242 ∷ 126 ∷ 79 ∷ 201 ∷ 249 ∷ 0 ∷ 32 ∷ 16 ∷ 8 ∷ 17 ∷ 132 ∷ 162 ∷ 24 ∷ 140 ∷ 51 ∷ 144 ∷ 164 ∷ 49 ∷ 78 ∷ 99 ∷ 128 ∷ []) (17 ∷ 144 ∷ 67 ∷ 8 ∷ 16 ∷ 1 ∷ 41 ∷ 16 ∷ 134 ∷ 16 ∷ 16 ∷ 35 ∷ 57 ∷ 80 ∷ 199 ∷ 24 ∷ 144 ∷ 133 ∷ 57 ∷ 128 ∷ [])
    yields verdicts ListAccepted
    ∷ ruled (18 ∷ 6 ∷ 62 ∷ 135 ∷ 208 ∷ 250 ∷ 31 ∷ 147 ∷ 232 ∷ 125 ∷ 15 ∷ 161 ∷ 249 ∷ 62 ∷ 135 ∷ 228 ∷ 252 ∷ 159 ∷ 67 ∷ 232 ∷ 125 ∷ 15 ∷ 201 ∷ 249 ∷ 62 ∷ 135 ∷ 228 ∷ 250 ∷ 31 ∷ 147 ∷ 242 ∷ 126 ∷ 79 ∷ 201 ∷ 249 ∷ 0 ∷ 32 ∷ 16 ∷ 8 ∷ 17 ∷ 132 ∷ 162 ∷ 24 ∷ 140 ∷ 51 ∷ 144 ∷ 164 ∷ 49 ∷ 78 ∷ 99 ∷ 128 ∷ []) (17 ∷ 144 ∷ 1 ∷ 24 ∷ 144 ∷ 133 ∷ 8 ∷ 16 ∷ 2 ∷ 49 ∷ 16 ∷ 167 ∷ 24 ∷ 80 ∷ 67 ∷ 57 ∷ 144 ∷ 199 ∷ 41 ∷ 0 ∷ [])
    yields verdicts (Err (record { number = No.Inward; place = 0 }))
    ∷ ruled (18 ∷ 5 ∷ 190 ∷ 135 ∷ 208 ∷ 250 ∷ 31 ∷ 147 ∷ 232 ∷ 125 ∷ 15 ∷ 161 ∷ 249 ∷ 62 ∷ 135 ∷ 228 ∷ 252 ∷ 159 ∷ 67 ∷ 232 ∷ 125 ∷ 15 ∷ 201 ∷ 249 ∷ 62 ∷ 135 ∷ 228 ∷ 250 ∷ 31 ∷ 147 ∷ 242 ∷ 126 ∷ 79 ∷ 201 ∷ 249 ∷ 0 ∷ 64 ∷ 32 ∷ 70 ∷ 18 ∷ 136 ∷ 98 ∷ 48 ∷ 206 ∷ 66 ∷ 144 ∷ 197 ∷ 57 ∷ 142 ∷ []) (17 ∷ 144 ∷ 67 ∷ 8 ∷ 16 ∷ 1 ∷ 41 ∷ 16 ∷ 134 ∷ 16 ∷ 16 ∷ 35 ∷ 57 ∷ 80 ∷ 199 ∷ 24 ∷ 144 ∷ 133 ∷ 57 ∷ 128 ∷ [])
    yields verdicts (Err (record { number = No.NotCandidate; place = 0 }))
    ∷ []

pub hold17 : Holds rows17
unfolding rows17 asked said
hold17 = refl
