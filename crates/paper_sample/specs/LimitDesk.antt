-- Each number and each limit (desk), as the reference answers them.
use Rattle.std.specs.Prelude.{refl, true, false, List, [], ◌∷◌, ◌++◌, pos}
use Rattle.std.specs.Float.{binary64}
use Rattle.std.specs.Float.Ieee.{of_bits}
use Rattle.paper.specs.Numbers.{documented}
use Rattle.paper.specs.Sheet.{held, blank}
use Rattle.paper.specs.Desk.{text}
use Rattle.paper.specs.Questions.{neg, wholly, fetched, stored, checked, paired, covering, desk, read, ruled, posted, left, wrote, sheet, bytes, verdicts, rules, tests, reads, face_before, solid_before, Case, ◌yields◌, asked, said, Holds}
use Rattle.paper.specs.declared.Conversion.TheVariants as Conversion

unfoldable pub rows0 : List Case
unfolding text of_bits
rows0 =
    desk ([])
    yields bytes (text "refused 3 0\n")
    ∷ desk (17 ∷ 3 ∷ [])
    yields bytes (text "refused 3 0\n")
    ∷ desk (33 ∷ 3 ∷ 62 ∷ 135 ∷ 208 ∷ 250 ∷ 31 ∷ 115 ∷ 232 ∷ 125 ∷ 15 ∷ 161 ∷ 247 ∷ 62 ∷ 135 ∷ 208 ∷ 250 ∷ 31 ∷ 112 ∷ 2 ∷ 1 ∷ 0 ∷ 97 ∷ 16 ∷ 70 ∷ 33 ∷ 128 ∷ [])
    yields bytes (text "refused 4 0\n")
    ∷ []

pub hold0 : Holds rows0
unfolding rows0 asked said
hold0 = refl

unfoldable pub rows1 : List Case
unfolding text of_bits
rows1 =
    desk (16 ∷ 195 ∷ 62 ∷ 135 ∷ 208 ∷ 250 ∷ 31 ∷ 115 ∷ 232 ∷ 125 ∷ 15 ∷ 161 ∷ 247 ∷ 62 ∷ 128 ∷ 4 ∷ 2 ∷ 0 ∷ 194 ∷ 32 ∷ 140 ∷ 67 ∷ [])
    yields bytes (text "refused 5 0\n")
    ∷ desk (24 ∷ 67 ∷ 62 ∷ 247 ∷ 224 ∷ 252 ∷ 95 ∷ 123 ∷ 240 ∷ 126 ∷ 47 ∷ 189 ∷ 248 ∷ 63 ∷ 23 ∷ 222 ∷ 252 ∷ 31 ∷ 139 ∷ 239 ∷ 126 ∷ 15 ∷ 197 ∷ 247 ∷ 191 ∷ 7 ∷ 226 ∷ 251 ∷ 223 ∷ 131 ∷ 241 ∷ 125 ∷ 239 ∷ 193 ∷ 248 ∷ 190 ∷ 247 ∷ 224 ∷ 252 ∷ 95 ∷ 123 ∷ 240 ∷ 126 ∷ 47 ∷ 189 ∷ 248 ∷ 63 ∷ 23 ∷ 222 ∷ 252 ∷ 31 ∷ 139 ∷ 239 ∷ 126 ∷ 15 ∷ 197 ∷ 247 ∷ 191 ∷ 7 ∷ 226 ∷ 251 ∷ 223 ∷ 131 ∷ 241 ∷ 125 ∷ 239 ∷ 193 ∷ 248 ∷ 190 ∷ 247 ∷ 224 ∷ 252 ∷ 95 ∷ 123 ∷ 240 ∷ 126 ∷ 47 ∷ 189 ∷ 248 ∷ 63 ∷ 23 ∷ 222 ∷ 252 ∷ 31 ∷ 139 ∷ 239 ∷ 126 ∷ 15 ∷ 197 ∷ 247 ∷ 191 ∷ 7 ∷ 226 ∷ 251 ∷ 223 ∷ 131 ∷ 241 ∷ 125 ∷ 239 ∷ 193 ∷ 248 ∷ 190 ∷ 247 ∷ 224 ∷ 252 ∷ 95 ∷ 123 ∷ 240 ∷ 126 ∷ 47 ∷ 189 ∷ 248 ∷ 63 ∷ 23 ∷ 222 ∷ 252 ∷ 31 ∷ 139 ∷ 239 ∷ 126 ∷ 15 ∷ 197 ∷ 247 ∷ 191 ∷ 7 ∷ 226 ∷ 251 ∷ 223 ∷ 131 ∷ 241 ∷ 125 ∷ 239 ∷ 193 ∷ 248 ∷ 190 ∷ 247 ∷ 224 ∷ 252 ∷ 64 ∷ 16 ∷ 8 ∷ 3 ∷ 8 ∷ 130 ∷ 49 ∷ 12 ∷ [])
    yields bytes (text "refused 5 0\n")
    ∷ desk (17 ∷ 2 ∷ 190 ∷ 135 ∷ 208 ∷ 250 ∷ 31 ∷ 115 ∷ 232 ∷ 125 ∷ 15 ∷ 161 ∷ 247 ∷ 62 ∷ 135 ∷ 208 ∷ 250 ∷ 31 ∷ 112 ∷ 2 ∷ 1 ∷ 0 ∷ 97 ∷ 16 ∷ 70 ∷ [])
    yields bytes (text "refused 5 1\n")
    ∷ []

pub hold1 : Holds rows1
unfolding rows1 asked said
hold1 = refl

unfoldable pub rows2 : List Case
unfolding text of_bits
rows2 =
    desk (17 ∷ 32 ∷ 190 ∷ 135 ∷ 208 ∷ 250 ∷ 31 ∷ 115 ∷ 232 ∷ 125 ∷ 15 ∷ 161 ∷ 247 ∷ 62 ∷ 135 ∷ 208 ∷ 250 ∷ 31 ∷ 112 ∷ 2 ∷ 0 ∷ 128 ∷ 32 ∷ 8 ∷ 2 ∷ 0 ∷ 128 ∷ 32 ∷ 8 ∷ 2 ∷ 0 ∷ 128 ∷ 32 ∷ 8 ∷ 2 ∷ 0 ∷ 128 ∷ 32 ∷ 8 ∷ 2 ∷ 0 ∷ 128 ∷ 32 ∷ 8 ∷ 2 ∷ 0 ∷ 128 ∷ 32 ∷ 8 ∷ 2 ∷ 0 ∷ 128 ∷ 32 ∷ 8 ∷ 2 ∷ 0 ∷ 128 ∷ 32 ∷ 8 ∷ 2 ∷ 0 ∷ 128 ∷ 32 ∷ 8 ∷ 2 ∷ 0 ∷ 128 ∷ 32 ∷ 8 ∷ 2 ∷ 0 ∷ 128 ∷ 32 ∷ 8 ∷ 2 ∷ 0 ∷ 128 ∷ 32 ∷ 8 ∷ 2 ∷ 0 ∷ 128 ∷ 32 ∷ 8 ∷ 2 ∷ 0 ∷ 128 ∷ 32 ∷ 8 ∷ 2 ∷ 0 ∷ 128 ∷ 32 ∷ 8 ∷ 2 ∷ 0 ∷ 128 ∷ 32 ∷ 8 ∷ 2 ∷ [])
    yields bytes (text "refused 5 1\n")
    ∷ desk (17 ∷ 3 ∷ 62 ∷ 135 ∷ 208 ∷ 250 ∷ 31 ∷ 115 ∷ 232 ∷ 125 ∷ 15 ∷ 161 ∷ 247 ∷ 62 ∷ 135 ∷ 208 ∷ 250 ∷ 31 ∷ 112 ∷ 2 ∷ 1 ∷ 0 ∷ 97 ∷ 16 ∷ 70 ∷ 33 ∷ [])
    yields bytes (text "refused 6 0\n")
    ∷ desk (17 ∷ 3 ∷ 62 ∷ 135 ∷ 208 ∷ 250 ∷ 31 ∷ 115 ∷ 232 ∷ 125 ∷ 15 ∷ 161 ∷ 247 ∷ 62 ∷ 135 ∷ 208 ∷ 250 ∷ 31 ∷ 112 ∷ 2 ∷ 1 ∷ 0 ∷ 97 ∷ 16 ∷ 70 ∷ 33 ∷ 128 ∷ 0 ∷ [])
    yields bytes (text "refused 6 0\n")
    ∷ []

pub hold2 : Holds rows2
unfolding rows2 asked said
hold2 = refl

unfoldable pub rows3 : List Case
unfolding text of_bits
rows3 =
    desk (17 ∷ 3 ∷ 62 ∷ 135 ∷ 208 ∷ 250 ∷ 31 ∷ 115 ∷ 232 ∷ 125 ∷ 15 ∷ 161 ∷ 247 ∷ 62 ∷ 135 ∷ 208 ∷ 250 ∷ 31 ∷ 112 ∷ 2 ∷ 1 ∷ 0 ∷ 97 ∷ 16 ∷ 70 ∷ 33 ∷ 129 ∷ [])
    yields bytes (text "refused 7 0\n")
    ∷ desk (17 ∷ 3 ∷ 62 ∷ 135 ∷ 208 ∷ 250 ∷ 31 ∷ 115 ∷ 232 ∷ 125 ∷ 15 ∷ 161 ∷ 247 ∷ 62 ∷ 135 ∷ 208 ∷ 250 ∷ 62 ∷ 136 ∷ 2 ∷ 1 ∷ 0 ∷ 97 ∷ 16 ∷ 70 ∷ 33 ∷ 128 ∷ [])
    yields bytes (text "refused 8 11\n")
    ∷ desk (17 ∷ 3 ∷ 62 ∷ 135 ∷ 208 ∷ 250 ∷ 31 ∷ 115 ∷ 232 ∷ 125 ∷ 15 ∷ 161 ∷ 247 ∷ 62 ∷ 135 ∷ 208 ∷ 250 ∷ 31 ∷ 112 ∷ 2 ∷ 1 ∷ 0 ∷ 97 ∷ 16 ∷ 70 ∷ 34 ∷ 0 ∷ [])
    yields bytes (text "refused 9 5\n")
    ∷ []

pub hold3 : Holds rows3
unfolding rows3 asked said
hold3 = refl

unfoldable pub rows4 : List Case
unfolding text of_bits
rows4 =
    desk (17 ∷ 3 ∷ 62 ∷ 135 ∷ 208 ∷ 250 ∷ 31 ∷ 115 ∷ 232 ∷ 125 ∷ 15 ∷ 161 ∷ 247 ∷ 62 ∷ 135 ∷ 208 ∷ 250 ∷ 31 ∷ 112 ∷ 2 ∷ 1 ∷ 0 ∷ 98 ∷ 8 ∷ 70 ∷ 33 ∷ 128 ∷ [])
    yields bytes (text "refused 9 3\n")
    ∷ desk (17 ∷ 3 ∷ 62 ∷ 135 ∷ 208 ∷ 250 ∷ 31 ∷ 115 ∷ 232 ∷ 125 ∷ 15 ∷ 161 ∷ 247 ∷ 62 ∷ 135 ∷ 208 ∷ 250 ∷ 31 ∷ 112 ∷ 2 ∷ 1 ∷ 0 ∷ 97 ∷ 16 ∷ 68 ∷ 33 ∷ 128 ∷ [])
    yields bytes (text "refused 10 4\n")
    ∷ desk (17 ∷ 3 ∷ 62 ∷ 135 ∷ 208 ∷ 250 ∷ 31 ∷ 115 ∷ 232 ∷ 125 ∷ 15 ∷ 161 ∷ 247 ∷ 62 ∷ 135 ∷ 208 ∷ 250 ∷ 31 ∷ 112 ∷ 2 ∷ 1 ∷ 128 ∷ 65 ∷ 16 ∷ 70 ∷ 33 ∷ 128 ∷ [])
    yields bytes (text "refused 10 2\n")
    ∷ []

pub hold4 : Holds rows4
unfolding rows4 asked said
hold4 = refl

unfoldable pub rows5 : List Case
unfolding text of_bits
rows5 =
    desk (17 ∷ 3 ∷ 62 ∷ 135 ∷ 208 ∷ 250 ∷ 31 ∷ 115 ∷ 232 ∷ 125 ∷ 15 ∷ 161 ∷ 247 ∷ 62 ∷ 135 ∷ 208 ∷ 251 ∷ 159 ∷ 64 ∷ 2 ∷ 1 ∷ 0 ∷ 97 ∷ 16 ∷ 70 ∷ 33 ∷ 128 ∷ [])
    yields bytes (text "refused 11 2\n")
    ∷ desk (17 ∷ 67 ∷ 62 ∷ 135 ∷ 208 ∷ 250 ∷ 31 ∷ 115 ∷ 232 ∷ 125 ∷ 15 ∷ 161 ∷ 247 ∷ 62 ∷ 135 ∷ 208 ∷ 250 ∷ 31 ∷ 115 ∷ 241 ∷ 126 ∷ 47 ∷ 196 ∷ 1 ∷ 0 ∷ 128 ∷ 48 ∷ 136 ∷ 35 ∷ 16 ∷ 192 ∷ [])
    yields bytes (text "refused 12 4\n")
    ∷ desk (17 ∷ 3 ∷ 62 ∷ 135 ∷ 208 ∷ 250 ∷ 31 ∷ 115 ∷ 232 ∷ 125 ∷ 15 ∷ 161 ∷ 247 ∷ 62 ∷ 135 ∷ 220 ∷ 251 ∷ 159 ∷ 64 ∷ 2 ∷ 1 ∷ 0 ∷ 97 ∷ 16 ∷ 70 ∷ 33 ∷ 128 ∷ [])
    yields bytes (text "refused 13 2\n")
    ∷ []

pub hold5 : Holds rows5
unfolding rows5 asked said
hold5 = refl

unfoldable pub rows6 : List Case
unfolding text of_bits
rows6 =
    desk (18 ∷ 6 ∷ 62 ∷ 135 ∷ 208 ∷ 250 ∷ 31 ∷ 115 ∷ 232 ∷ 125 ∷ 15 ∷ 161 ∷ 247 ∷ 62 ∷ 135 ∷ 208 ∷ 250 ∷ 31 ∷ 116 ∷ 26 ∷ 132 ∷ 144 ∷ 186 ∷ 16 ∷ 66 ∷ 72 ∷ 93 ∷ 6 ∷ 161 ∷ 84 ∷ 46 ∷ 131 ∷ 80 ∷ 146 ∷ 26 ∷ 0 ∷ 32 ∷ 16 ∷ 6 ∷ 17 ∷ 4 ∷ 98 ∷ 25 ∷ 10 ∷ 67 ∷ 16 ∷ 229 ∷ 49 ∷ 78 ∷ 99 ∷ 128 ∷ [])
    yields bytes (text "refused 14 4\n")
    ∷ desk (17 ∷ 3 ∷ 62 ∷ 135 ∷ 208 ∷ 250 ∷ 31 ∷ 115 ∷ 232 ∷ 125 ∷ 15 ∷ 161 ∷ 247 ∷ 62 ∷ 135 ∷ 208 ∷ 250 ∷ 31 ∷ 112 ∷ 2 ∷ 1 ∷ 0 ∷ 97 ∷ 16 ∷ 70 ∷ 33 ∷ 128 ∷ [])
    yields bytes (text "wire 4 6\nloops 4 candidates 4\nwork 0\nsolids 1\nsolid 1 sixvolumes 216 faces -0 +1 -2 +3\n")
    ∷ desk (18 ∷ 74 ∷ 62 ∷ 135 ∷ 208 ∷ 250 ∷ 31 ∷ 99 ∷ 232 ∷ 125 ∷ 15 ∷ 161 ∷ 246 ∷ 62 ∷ 135 ∷ 208 ∷ 250 ∷ 31 ∷ 99 ∷ 236 ∷ 125 ∷ 143 ∷ 161 ∷ 246 ∷ 62 ∷ 135 ∷ 216 ∷ 250 ∷ 31 ∷ 99 ∷ 236 ∷ 125 ∷ 143 ∷ 177 ∷ 246 ∷ 62 ∷ 167 ∷ 212 ∷ 250 ∷ 128 ∷ 16 ∷ 8 ∷ 3 ∷ 2 ∷ 2 ∷ 64 ∷ 148 ∷ 40 ∷ 17 ∷ 4 ∷ 97 ∷ 32 ∷ 101 ∷ 25 ∷ 134 ∷ 130 ∷ 28 ∷ 136 ∷ 41 ∷ 202 ∷ 131 ∷ 28 ∷ 200 ∷ 58 ∷ 0 ∷ [])
    yields bytes (text "wire 9 20\nloops 18 candidates 18\nwork 4\nsolids 3\nsolid 1 sixvolumes 256 faces -0 +1 -4 +5 +7 -8 -9 -11 +12 +14 +15 -16\nsolid 2 sixvolumes 256 faces -0 +2 -3 -5 +6 +8 -10 +11 +12 -13 -15 +17\nsolid 3 sixvolumes 256 faces +1 -2 -3 +4 +6 -7 -9 +10 +13 -14 +16 -17\n")
    ∷ []

pub hold6 : Holds rows6
unfolding rows6 asked said
hold6 = refl

unfoldable pub rows7 : List Case
unfolding text of_bits
rows7 =
    desk (18 ∷ 5 ∷ 190 ∷ 135 ∷ 208 ∷ 250 ∷ 31 ∷ 147 ∷ 232 ∷ 125 ∷ 15 ∷ 161 ∷ 249 ∷ 62 ∷ 135 ∷ 228 ∷ 252 ∷ 159 ∷ 67 ∷ 232 ∷ 125 ∷ 15 ∷ 201 ∷ 249 ∷ 62 ∷ 135 ∷ 228 ∷ 250 ∷ 31 ∷ 147 ∷ 242 ∷ 126 ∷ 79 ∷ 201 ∷ 249 ∷ 0 ∷ 64 ∷ 32 ∷ 70 ∷ 18 ∷ 136 ∷ 98 ∷ 48 ∷ 206 ∷ 66 ∷ 144 ∷ 197 ∷ 57 ∷ 142 ∷ [])
    yields bytes (text "wire 8 11\nloops 4 candidates 4\nwork 0\nno solid\n")
    ∷ desk (18 ∷ 77 ∷ 190 ∷ 199 ∷ 232 ∷ 250 ∷ 31 ∷ 67 ∷ 232 ∷ 125 ∷ 143 ∷ 177 ∷ 250 ∷ 63 ∷ 71 ∷ 218 ∷ 252 ∷ 31 ∷ 131 ∷ 236 ∷ 125 ∷ 15 ∷ 209 ∷ 244 ∷ 191 ∷ 103 ∷ 216 ∷ 252 ∷ 31 ∷ 131 ∷ 238 ∷ 125 ∷ 143 ∷ 193 ∷ 248 ∷ 62 ∷ 199 ∷ 212 ∷ 251 ∷ 0 ∷ 16 ∷ 20 ∷ 6 ∷ 1 ∷ 192 ∷ 128 ∷ 136 ∷ 35 ∷ 9 ∷ 2 ∷ 80 ∷ 156 ∷ 40 ∷ 16 ∷ 196 ∷ 65 ∷ 20 ∷ 70 ∷ 25 ∷ 6 ∷ 81 ∷ 152 ∷ 103 ∷ 26 ∷ 8 ∷ 98 ∷ 32 ∷ 166 ∷ 41 ∷ 204 ∷ 115 ∷ 32 ∷ 232 ∷ [])
    yields bytes (text "wire 9 27\nloops 33 candidates 33\nwork 23\nmany\n")
    ∷ []

pub hold7 : Holds rows7
unfolding rows7 asked said
hold7 = refl
