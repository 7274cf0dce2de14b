-- A fixed sample of cases (write), as the reference answers them.
use Rattle.std.specs.Prelude.{refl, true, false, List, [], ◌∷◌, ◌++◌, pos, Ok}
use Rattle.std.specs.Float.{binary64}
use Rattle.std.specs.Float.Ieee.{of_bits}
use Rattle.paper.specs.Numbers.{documented}
use Rattle.paper.specs.Sheet.{held, blank}
use Rattle.paper.specs.Desk.{text}
use Rattle.paper.specs.Questions.{neg, wholly, fetched, stored, checked, paired, covering, desk, read, ruled, posted, left, wrote, sheet, bytes, verdicts, rules, tests, reads, face_before, solid_before, Case, ◌yields◌, asked, said, Holds}
use Rattle.paper.specs.declared.Conversion.TheVariants as Conversion

unfoldable pub rows0 : List Case
unfolding text of_bits
rows0 =
    stored (record { xyz = (pos 23 ∷ pos 49 ∷ pos 40 ∷ neg 32 ∷ neg 15 ∷ pos 7 ∷ neg 22 ∷ pos 18 ∷ neg 20 ∷ neg 13 ∷ pos 30 ∷ neg 35 ∷ []); ends = (0 ∷ 1 ∷ 0 ∷ 2 ∷ 0 ∷ 3 ∷ 1 ∷ 2 ∷ 1 ∷ 3 ∷ 2 ∷ 3 ∷ []) }) 230
    yields wrote (Ok 27) ((17 ∷ 3 ∷ 63 ∷ 248 ∷ 51 ∷ 4 ∷ 30 ∷ 67 ∷ 217 ∷ 125 ∷ 239 ∷ 73 ∷ 253 ∷ 61 ∷ 71 ∷ 183 ∷ 1 ∷ 158 ∷ 40 ∷ 2 ∷ 1 ∷ 0 ∷ 97 ∷ 16 ∷ 70 ∷ 33 ∷ 128 ∷ []) ++ face_before 203)
    ∷ stored (record { xyz = (pos 0 ∷ pos 0 ∷ pos 10 ∷ pos 10 ∷ pos 0 ∷ pos 10 ∷ pos 10 ∷ pos 10 ∷ pos 10 ∷ pos 10 ∷ pos 10 ∷ pos 0 ∷ pos 0 ∷ pos 10 ∷ pos 0 ∷ pos 10 ∷ pos 0 ∷ pos 0 ∷ pos 0 ∷ pos 0 ∷ pos 0 ∷ pos 0 ∷ pos 10 ∷ pos 10 ∷ []); ends = (0 ∷ 1 ∷ 0 ∷ 6 ∷ 0 ∷ 7 ∷ 1 ∷ 2 ∷ 1 ∷ 5 ∷ 2 ∷ 3 ∷ 2 ∷ 7 ∷ 3 ∷ 4 ∷ 3 ∷ 5 ∷ 4 ∷ 6 ∷ 4 ∷ 7 ∷ 5 ∷ 6 ∷ 5 ∷ 7 ∷ []) }) 230
    yields wrote (Ok 52) ((18 ∷ 6 ∷ 190 ∷ 135 ∷ 208 ∷ 252 ∷ 159 ∷ 147 ∷ 232 ∷ 126 ∷ 79 ∷ 201 ∷ 249 ∷ 63 ∷ 39 ∷ 228 ∷ 252 ∷ 159 ∷ 67 ∷ 232 ∷ 126 ∷ 79 ∷ 161 ∷ 249 ∷ 62 ∷ 135 ∷ 208 ∷ 250 ∷ 31 ∷ 67 ∷ 232 ∷ 125 ∷ 15 ∷ 201 ∷ 249 ∷ 0 ∷ 32 ∷ 48 ∷ 14 ∷ 17 ∷ 4 ∷ 162 ∷ 24 ∷ 142 ∷ 50 ∷ 12 ∷ 164 ∷ 49 ∷ 14 ∷ 83 ∷ 20 ∷ 224 ∷ []) ++ face_before 178)
    ∷ []

pub hold0 : Holds rows0
unfolding rows0 asked said
hold0 = refl
