-- A fixed sample of cases (desk), as the reference answers them.
use Rattle.std.specs.Prelude.{refl, true, false, List, [], ◌∷◌, ◌++◌, pos}
use Rattle.std.specs.Float.{binary64}
use Rattle.std.specs.Float.Ieee.{of_bits}
use Rattle.paper.specs.Numbers.{documented}
use Rattle.paper.specs.Sheet.{held, blank}
use Rattle.paper.specs.Desk.{text}
use Rattle.paper.specs.Questions.{neg, wholly, fetched, stored, checked, paired, covering, desk, read, ruled, posted, left, wrote, sheet, bytes, verdicts, rules, tests, reads, face_before, solid_before, Case, ◌yields◌, asked, said, Holds}
use Rattle.paper.specs.declared.Conversion.TheVariants as Conversion

unfoldable pub rows0 : List Case
unfolding text of_bits
rows0 =
    desk (17 ∷ 201 ∷ 62 ∷ 151 ∷ 208 ∷ 250 ∷ 31 ∷ 67 ∷ 233 ∷ 125 ∷ 15 ∷ 161 ∷ 243 ∷ 190 ∷ 135 ∷ 208 ∷ 250 ∷ 31 ∷ 59 ∷ 232 ∷ 125 ∷ 15 ∷ 165 ∷ 243 ∷ 190 ∷ 135 ∷ 208 ∷ 250 ∷ 31 ∷ 67 ∷ 232 ∷ 0 ∷ 64 ∷ 32 ∷ 12 ∷ 4 ∷ 1 ∷ 130 ∷ 48 ∷ 144 ∷ 37 ∷ 9 ∷ 132 ∷ 49 ∷ 16 ∷ 69 ∷ 17 ∷ 134 ∷ 81 ∷ 152 ∷ 133 ∷ 33 ∷ 138 ∷ 96 ∷ [])
    yields bytes (text "wire 7 18\nloops 47 candidates 20\nwork 6\nsolids 4\nsolid 1 sixvolumes 6 faces -0 +1 +3 -5 +7 +9 -10 -12 -13 +15 -16 +18\nsolid 2 sixvolumes 6 faces -0 +1 -4 +5 -6 +8 -11 +12 -13 +14 +15 -19\nsolid 3 sixvolumes 6 faces -0 +2 +3 -4 -7 +8 -10 +11 -14 +15 +17 -18\nsolid 4 sixvolumes 6 faces +1 -2 +3 -4 +6 +8 -9 -10 -13 +16 -17 +19\n")
    ∷ desk (18 ∷ 6 ∷ 62 ∷ 87 ∷ 192 ∷ 250 ∷ 223 ∷ 91 ∷ 224 ∷ 125 ∷ 111 ∷ 149 ∷ 240 ∷ 62 ∷ 87 ∷ 214 ∷ 251 ∷ 159 ∷ 91 ∷ 235 ∷ 125 ∷ 207 ∷ 149 ∷ 242 ∷ 190 ∷ 231 ∷ 202 ∷ 250 ∷ 223 ∷ 3 ∷ 229 ∷ 124 ∷ 175 ∷ 185 ∷ 245 ∷ 128 ∷ 32 ∷ 16 ∷ 14 ∷ 17 ∷ 132 ∷ 194 ∷ 40 ∷ 140 ∷ 50 ∷ 12 ∷ 228 ∷ 41 ∷ 12 ∷ 83 ∷ 128 ∷ [])
    yields bytes (text "wire 8 12\nloops 6 candidates 6\nwork 0\nsolids 1\nsolid 1 sixvolumes 3024 faces +0 -1 -2 -3 +4 +5\n")
    ∷ desk (18 ∷ 6 ∷ 62 ∷ 167 ∷ 196 ∷ 251 ∷ 95 ∷ 19 ∷ 226 ∷ 125 ∷ 175 ∷ 137 ∷ 245 ∷ 62 ∷ 215 ∷ 212 ∷ 250 ∷ 158 ∷ 251 ∷ 234 ∷ 124 ∷ 79 ∷ 125 ∷ 241 ∷ 62 ∷ 167 ∷ 190 ∷ 248 ∷ 159 ∷ 19 ∷ 223 ∷ 125 ∷ 79 ∷ 169 ∷ 246 ∷ 128 ∷ 32 ∷ 32 ∷ 14 ∷ 17 ∷ 4 ∷ 194 ∷ 40 ∷ 142 ∷ 50 ∷ 12 ∷ 163 ∷ 57 ∷ 12 ∷ 83 ∷ 0 ∷ [])
    yields bytes (text "wire 8 12\nloops 6 candidates 6\nwork 0\nsolids 1\nsolid 1 sixvolumes 5376 faces -0 +1 +2 +3 -4 +5\n")
    ∷ []

pub hold0 : Holds rows0
unfolding rows0 asked said
hold0 = refl

unfoldable pub rows1 : List Case
unfolding text of_bits
rows1 =
    desk (17 ∷ 198 ∷ 1 ∷ 34 ∷ 8 ∷ 38 ∷ 128 ∷ 145 ∷ 16 ∷ 14 ∷ 192 ∷ 144 ∷ 136 ∷ 8 ∷ 128 ∷ 48 ∷ 63 ∷ 132 ∷ 160 ∷ 12 ∷ 34 ∷ 193 ∷ 240 ∷ 9 ∷ 16 ∷ 161 ∷ 16 ∷ 0 ∷ 8 ∷ 32 ∷ 136 ∷ 1 ∷ 0 ∷ 80 ∷ 24 ∷ 34 ∷ 8 ∷ 194 ∷ 81 ∷ 12 ∷ 69 ∷ 25 ∷ 72 ∷ 82 ∷ 24 ∷ 166 ∷ [])
    yields bytes (text "wire 7 12\nloops 8 candidates 8\nwork 0\nno solid\n")
    ∷ desk ([])
    yields bytes (text "refused 3 0\n")
    ∷ desk (18 ∷ 9 ∷ 62 ∷ 183 ∷ 208 ∷ 250 ∷ 31 ∷ 67 ∷ 235 ∷ 125 ∷ 15 ∷ 149 ∷ 245 ∷ 190 ∷ 135 ∷ 202 ∷ 250 ∷ 31 ∷ 67 ∷ 232 ∷ 124 ∷ 175 ∷ 161 ∷ 245 ∷ 190 ∷ 87 ∷ 208 ∷ 250 ∷ 31 ∷ 67 ∷ 228 ∷ 125 ∷ 15 ∷ 161 ∷ 246 ∷ 128 ∷ 32 ∷ 40 ∷ 12 ∷ 3 ∷ 132 ∷ 65 ∷ 48 ∷ 78 ∷ 33 ∷ 136 ∷ 194 ∷ 56 ∷ 200 ∷ 51 ∷ 12 ∷ 228 ∷ 41 ∷ 12 ∷ 67 ∷ 148 ∷ 197 ∷ 56 ∷ [])
    yields bytes (text "wire 8 18\nloops 16 candidates 16\nwork 4\nsolids 1\nsolid 1 sixvolumes 486 faces -1 +2 +3 -4 -6 +7 -9 +10 -12 +13 -14 +15\n")
    ∷ []

pub hold1 : Holds rows1
unfolding rows1 asked said
hold1 = refl

unfoldable pub rows2 : List Case
unfolding text of_bits
rows2 =
    desk (17 ∷ 198 ∷ 63 ∷ 7 ∷ 216 ∷ 250 ∷ 31 ∷ 3 ∷ 237 ∷ 125 ∷ 15 ∷ 125 ∷ 242 ∷ 190 ∷ 135 ∷ 200 ∷ 250 ∷ 223 ∷ 67 ∷ 230 ∷ 124 ∷ 79 ∷ 161 ∷ 244 ∷ 62 ∷ 167 ∷ 214 ∷ 250 ∷ 95 ∷ 19 ∷ 232 ∷ 0 ∷ 192 ∷ 80 ∷ 24 ∷ 34 ∷ 8 ∷ 194 ∷ 81 ∷ 16 ∷ 69 ∷ 25 ∷ 72 ∷ 82 ∷ 24 ∷ 166 ∷ [])
    yields bytes (text "wire 7 12\nloops 7 candidates 7\nwork 0\nsolids 1\nsolid 1 sixvolumes 693 faces -0 +1 +2 +3 -4 +5 -6\n")
    ∷ []

pub hold2 : Holds rows2
unfolding rows2 asked said
hold2 = refl
