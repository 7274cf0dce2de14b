-- A fixed sample of cases (sheet), as the reference answers them.
use Rattle.std.specs.Prelude.{refl, true, false, List, [], ◌∷◌, ◌++◌, pos, Err}
use Rattle.std.specs.Float.{binary64}
use Rattle.std.specs.Float.Ieee.{of_bits}
use Rattle.paper.specs.Numbers.{documented}
use Rattle.paper.specs.Sheet.{held, blank}
use Rattle.paper.specs.Desk.{text}
use Rattle.paper.specs.Questions.{neg, wholly, fetched, stored, checked, paired, covering, desk, read, ruled, posted, left, wrote, sheet, bytes, verdicts, rules, tests, reads, face_before, solid_before, Case, ◌yields◌, asked, said, Holds}
use Rattle.paper.specs.Refusals.{Fine}
use Rattle.paper.specs.declared.Conversion.TheVariants as Conversion
use Rattle.paper.specs.Refusals as No

unfoldable pub rows0 : List Case
unfolding text of_bits
rows0 =
    fetched (17 ∷ 198 ∷ 115 ∷ 50 ∷ 59 ∷ 242 ∷ 185 ∷ 153 ∷ 29 ∷ 248 ∷ 156 ∷ 228 ∷ 142 ∷ 252 ∷ 174 ∷ 102 ∷ 72 ∷ 254 ∷ 87 ∷ 51 ∷ 35 ∷ 191 ∷ 67 ∷ 150 ∷ 145 ∷ 223 ∷ 149 ∷ 204 ∷ 200 ∷ 191 ∷ 202 ∷ 0 ∷ 64 ∷ 32 ∷ 12 ∷ 4 ∷ 1 ∷ 64 ∷ 96 ∷ 136 ∷ 35 ∷ 16 ∷ 200 ∷ 82 ∷ 24 ∷ 166 ∷ [])
    yields sheet (record { answer = Fine; drawing = held 7 12 (pos 843 ∷ neg 715 ∷ pos 994 ∷ pos 843 ∷ neg 715 ∷ pos 988 ∷ pos 849 ∷ neg 715 ∷ pos 994 ∷ pos 843 ∷ neg 709 ∷ pos 994 ∷ pos 843 ∷ neg 715 ∷ pos 1000 ∷ pos 837 ∷ neg 715 ∷ pos 994 ∷ pos 843 ∷ neg 721 ∷ pos 994 ∷ []) (0 ∷ 1 ∷ 0 ∷ 2 ∷ 0 ∷ 3 ∷ 0 ∷ 4 ∷ 0 ∷ 5 ∷ 0 ∷ 6 ∷ 1 ∷ 2 ∷ 1 ∷ 3 ∷ 2 ∷ 3 ∷ 4 ∷ 5 ∷ 4 ∷ 6 ∷ 5 ∷ 6 ∷ []) })
    ∷ fetched (18 ∷ 74 ∷ [])
    yields sheet (record { answer = Err (record { number = No.SheetShort; place = 0 }); drawing = blank })
    ∷ fetched (16 ∷ 127 ∷ 190 ∷ 135 ∷ 208 ∷ 250 ∷ 31 ∷ 147 ∷ 232 ∷ 125 ∷ 15 ∷ 161 ∷ 249 ∷ 62 ∷ 135 ∷ 228 ∷ 252 ∷ 159 ∷ 67 ∷ 232 ∷ 125 ∷ 15 ∷ 201 ∷ 249 ∷ 62 ∷ 135 ∷ 228 ∷ 250 ∷ 31 ∷ 147 ∷ 242 ∷ 126 ∷ 79 ∷ 201 ∷ 249 ∷ 0 ∷ 32 ∷ 16 ∷ 8 ∷ 17 ∷ 132 ∷ 162 ∷ 24 ∷ 140 ∷ 66 ∷ 144 ∷ 197 ∷ 57 ∷ 142 ∷ [])
    yields sheet (record { answer = Err (record { number = No.BadCount; place = 0 }); drawing = blank })
    ∷ []

pub hold0 : Holds rows0
unfolding rows0 asked said
hold0 = refl

unfoldable pub rows1 : List Case
unfolding text of_bits
rows1 =
    fetched (18 ∷ 5 ∷ 190 ∷ 135 ∷ 208 ∷ 250 ∷ 31 ∷ 147 ∷ 232 ∷ 125 ∷ 15 ∷ 161 ∷ 249 ∷ 62 ∷ 135 ∷ 228 ∷ 252 ∷ 159 ∷ 67 ∷ 232 ∷ 125 ∷ 15 ∷ 201 ∷ 249 ∷ 62 ∷ 135 ∷ 228 ∷ 250 ∷ 31 ∷ 147 ∷ 242 ∷ 126 ∷ 79 ∷ 201 ∷ 249 ∷ 0 ∷ 32 ∷ 16 ∷ 8 ∷ 17 ∷ 132 ∷ 162 ∷ 24 ∷ 206 ∷ 66 ∷ 144 ∷ 197 ∷ 57 ∷ 142 ∷ 0 ∷ [])
    yields sheet (record { answer = Err (record { number = No.SheetLength; place = 0 }); drawing = blank })
    ∷ fetched (17 ∷ 199 ∷ 190 ∷ 159 ∷ 162 ∷ 250 ∷ 31 ∷ 79 ∷ 210 ∷ 125 ∷ 15 ∷ 169 ∷ 245 ∷ 62 ∷ 135 ∷ 208 ∷ 250 ∷ 159 ∷ 67 ∷ 234 ∷ 125 ∷ 47 ∷ 161 ∷ 244 ∷ 62 ∷ 151 ∷ 208 ∷ 251 ∷ 31 ∷ 75 ∷ 235 ∷ 0 ∷ 64 ∷ 32 ∷ 12 ∷ 4 ∷ 1 ∷ 130 ∷ 48 ∷ 144 ∷ 37 ∷ 9 ∷ 132 ∷ 65 ∷ 24 ∷ 101 ∷ 25 ∷ 136 ∷ 98 ∷ 152 ∷ [])
    yields sheet (record { answer = Err (record { number = No.BadCoordinate; place = 1 }); drawing = blank })
    ∷ fetched (18 ∷ 6 ∷ 62 ∷ 103 ∷ 196 ∷ 249 ∷ 95 ∷ 123 ∷ 226 ∷ 124 ∷ 175 ∷ 153 ∷ 245 ∷ 62 ∷ 87 ∷ 222 ∷ 250 ∷ 159 ∷ 43 ∷ 230 ∷ 124 ∷ 79 ∷ 177 ∷ 247 ∷ 190 ∷ 39 ∷ 216 ∷ 249 ∷ 159 ∷ 83 ∷ 236 ∷ 125 ∷ 239 ∷ 169 ∷ 246 ∷ 0 ∷ 32 ∷ 16 ∷ 8 ∷ 17 ∷ 132 ∷ 162 ∷ 24 ∷ 140 ∷ 51 ∷ 144 ∷ 164 ∷ 49 ∷ 78 ∷ 99 ∷ 128 ∷ [])
    yields sheet (record { answer = Fine; drawing = held 8 12 (neg 2 ∷ neg 6 ∷ neg 3 ∷ pos 7 ∷ neg 6 ∷ neg 3 ∷ neg 2 ∷ pos 2 ∷ neg 3 ∷ pos 7 ∷ pos 2 ∷ neg 3 ∷ neg 2 ∷ neg 6 ∷ pos 4 ∷ pos 7 ∷ neg 6 ∷ pos 4 ∷ neg 2 ∷ pos 2 ∷ pos 4 ∷ pos 7 ∷ pos 2 ∷ pos 4 ∷ []) (0 ∷ 1 ∷ 0 ∷ 2 ∷ 0 ∷ 4 ∷ 1 ∷ 3 ∷ 1 ∷ 5 ∷ 2 ∷ 3 ∷ 2 ∷ 6 ∷ 3 ∷ 7 ∷ 4 ∷ 5 ∷ 4 ∷ 6 ∷ 5 ∷ 7 ∷ 6 ∷ 7 ∷ []) })
    ∷ []

pub hold1 : Holds rows1
unfolding rows1 asked said
hold1 = refl
