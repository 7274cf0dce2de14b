-- Each number and each limit (sheet, write, sent), as the reference answers them.
use Rattle.std.specs.Prelude.{refl, true, false, List, [], ◌∷◌, ◌++◌, pos, Ok, Err}
use Rattle.std.specs.Float.{binary64}
use Rattle.std.specs.Float.Ieee.{of_bits}
use Rattle.paper.specs.Numbers.{documented}
use Rattle.paper.specs.Sheet.{held, blank}
use Rattle.paper.specs.Desk.{text}
use Rattle.paper.specs.Questions.{neg, wholly, fetched, stored, checked, paired, covering, desk, read, ruled, posted, left, wrote, sheet, bytes, verdicts, rules, tests, reads, face_before, solid_before, Case, ◌yields◌, asked, said, Holds}
use Rattle.paper.specs.Refusals.{Fine}
use Rattle.paper.specs.declared.Conversion.TheVariants as Conversion
use Rattle.paper.specs.Refusals as No

unfoldable pub rows0 : List Case
unfolding text of_bits
rows0 =
    fetched ([])
    yields sheet (record { answer = Err (record { number = No.SheetShort; place = 0 }); drawing = blank })
    ∷ fetched (17 ∷ 3 ∷ [])
    yields sheet (record { answer = Err (record { number = No.SheetShort; place = 0 }); drawing = blank })
    ∷ fetched (33 ∷ 3 ∷ 62 ∷ 135 ∷ 208 ∷ 250 ∷ 31 ∷ 115 ∷ 232 ∷ 125 ∷ 15 ∷ 161 ∷ 247 ∷ 62 ∷ 135 ∷ 208 ∷ 250 ∷ 31 ∷ 112 ∷ 2 ∷ 1 ∷ 0 ∷ 97 ∷ 16 ∷ 70 ∷ 33 ∷ 128 ∷ [])
    yields sheet (record { answer = Err (record { number = No.SheetEdition; place = 0 }); drawing = blank })
    ∷ []

pub hold0 : Holds rows0
unfolding rows0 asked said
hold0 = refl

unfoldable pub rows1 : List Case
unfolding text of_bits
rows1 =
    fetched (16 ∷ 195 ∷ 62 ∷ 135 ∷ 208 ∷ 250 ∷ 31 ∷ 115 ∷ 232 ∷ 125 ∷ 15 ∷ 161 ∷ 247 ∷ 62 ∷ 128 ∷ 4 ∷ 2 ∷ 0 ∷ 194 ∷ 32 ∷ 140 ∷ 67 ∷ [])
    yields sheet (record { answer = Err (record { number = No.BadCount; place = 0 }); drawing = blank })
    ∷ fetched (24 ∷ 67 ∷ 62 ∷ 247 ∷ 224 ∷ 252 ∷ 95 ∷ 123 ∷ 240 ∷ 126 ∷ 47 ∷ 189 ∷ 248 ∷ 63 ∷ 23 ∷ 222 ∷ 252 ∷ 31 ∷ 139 ∷ 239 ∷ 126 ∷ 15 ∷ 197 ∷ 247 ∷ 191 ∷ 7 ∷ 226 ∷ 251 ∷ 223 ∷ 131 ∷ 241 ∷ 125 ∷ 239 ∷ 193 ∷ 248 ∷ 190 ∷ 247 ∷ 224 ∷ 252 ∷ 95 ∷ 123 ∷ 240 ∷ 126 ∷ 47 ∷ 189 ∷ 248 ∷ 63 ∷ 23 ∷ 222 ∷ 252 ∷ 31 ∷ 139 ∷ 239 ∷ 126 ∷ 15 ∷ 197 ∷ 247 ∷ 191 ∷ 7 ∷ 226 ∷ 251 ∷ 223 ∷ 131 ∷ 241 ∷ 125 ∷ 239 ∷ 193 ∷ 248 ∷ 190 ∷ 247 ∷ 224 ∷ 252 ∷ 95 ∷ 123 ∷ 240 ∷ 126 ∷ 47 ∷ 189 ∷ 248 ∷ 63 ∷ 23 ∷ 222 ∷ 252 ∷ 31 ∷ 139 ∷ 239 ∷ 126 ∷ 15 ∷ 197 ∷ 247 ∷ 191 ∷ 7 ∷ 226 ∷ 251 ∷ 223 ∷ 131 ∷ 241 ∷ 125 ∷ 239 ∷ 193 ∷ 248 ∷ 190 ∷ 247 ∷ 224 ∷ 252 ∷ 95 ∷ 123 ∷ 240 ∷ 126 ∷ 47 ∷ 189 ∷ 248 ∷ 63 ∷ 23 ∷ 222 ∷ 252 ∷ 31 ∷ 139 ∷ 239 ∷ 126 ∷ 15 ∷ 197 ∷ 247 ∷ 191 ∷ 7 ∷ 226 ∷ 251 ∷ 223 ∷ 131 ∷ 241 ∷ 125 ∷ 239 ∷ 193 ∷ 248 ∷ 190 ∷ 247 ∷ 224 ∷ 252 ∷ 64 ∷ 16 ∷ 8 ∷ 3 ∷ 8 ∷ 130 ∷ 49 ∷ 12 ∷ [])
    yields sheet (record { answer = Err (record { number = No.BadCount; place = 0 }); drawing = blank })
    ∷ fetched (17 ∷ 2 ∷ 190 ∷ 135 ∷ 208 ∷ 250 ∷ 31 ∷ 115 ∷ 232 ∷ 125 ∷ 15 ∷ 161 ∷ 247 ∷ 62 ∷ 135 ∷ 208 ∷ 250 ∷ 31 ∷ 112 ∷ 2 ∷ 1 ∷ 0 ∷ 97 ∷ 16 ∷ 70 ∷ [])
    yields sheet (record { answer = Err (record { number = No.BadCount; place = 1 }); drawing = blank })
    ∷ []

pub hold1 : Holds rows1
unfolding rows1 asked said
hold1 = refl

unfoldable pub rows2 : List Case
unfolding text of_bits
rows2 =
    fetched (17 ∷ 32 ∷ 190 ∷ 135 ∷ 208 ∷ 250 ∷ 31 ∷ 115 ∷ 232 ∷ 125 ∷ 15 ∷ 161 ∷ 247 ∷ 62 ∷ 135 ∷ 208 ∷ 250 ∷ 31 ∷ 112 ∷ 2 ∷ 0 ∷ 128 ∷ 32 ∷ 8 ∷ 2 ∷ 0 ∷ 128 ∷ 32 ∷ 8 ∷ 2 ∷ 0 ∷ 128 ∷ 32 ∷ 8 ∷ 2 ∷ 0 ∷ 128 ∷ 32 ∷ 8 ∷ 2 ∷ 0 ∷ 128 ∷ 32 ∷ 8 ∷ 2 ∷ 0 ∷ 128 ∷ 32 ∷ 8 ∷ 2 ∷ 0 ∷ 128 ∷ 32 ∷ 8 ∷ 2 ∷ 0 ∷ 128 ∷ 32 ∷ 8 ∷ 2 ∷ 0 ∷ 128 ∷ 32 ∷ 8 ∷ 2 ∷ 0 ∷ 128 ∷ 32 ∷ 8 ∷ 2 ∷ 0 ∷ 128 ∷ 32 ∷ 8 ∷ 2 ∷ 0 ∷ 128 ∷ 32 ∷ 8 ∷ 2 ∷ 0 ∷ 128 ∷ 32 ∷ 8 ∷ 2 ∷ 0 ∷ 128 ∷ 32 ∷ 8 ∷ 2 ∷ 0 ∷ 128 ∷ 32 ∷ 8 ∷ 2 ∷ 0 ∷ 128 ∷ 32 ∷ 8 ∷ 2 ∷ [])
    yields sheet (record { answer = Err (record { number = No.BadCount; place = 1 }); drawing = blank })
    ∷ fetched (17 ∷ 3 ∷ 62 ∷ 135 ∷ 208 ∷ 250 ∷ 31 ∷ 115 ∷ 232 ∷ 125 ∷ 15 ∷ 161 ∷ 247 ∷ 62 ∷ 135 ∷ 208 ∷ 250 ∷ 31 ∷ 112 ∷ 2 ∷ 1 ∷ 0 ∷ 97 ∷ 16 ∷ 70 ∷ 33 ∷ [])
    yields sheet (record { answer = Err (record { number = No.SheetLength; place = 0 }); drawing = blank })
    ∷ fetched (17 ∷ 3 ∷ 62 ∷ 135 ∷ 208 ∷ 250 ∷ 31 ∷ 115 ∷ 232 ∷ 125 ∷ 15 ∷ 161 ∷ 247 ∷ 62 ∷ 135 ∷ 208 ∷ 250 ∷ 31 ∷ 112 ∷ 2 ∷ 1 ∷ 0 ∷ 97 ∷ 16 ∷ 70 ∷ 33 ∷ 128 ∷ 0 ∷ [])
    yields sheet (record { answer = Err (record { number = No.SheetLength; place = 0 }); drawing = blank })
    ∷ []

pub hold2 : Holds rows2
unfolding rows2 asked said
hold2 = refl

unfoldable pub rows3 : List Case
unfolding text of_bits
rows3 =
    fetched (17 ∷ 3 ∷ 62 ∷ 135 ∷ 208 ∷ 250 ∷ 31 ∷ 115 ∷ 232 ∷ 125 ∷ 15 ∷ 161 ∷ 247 ∷ 62 ∷ 135 ∷ 208 ∷ 250 ∷ 31 ∷ 112 ∷ 2 ∷ 1 ∷ 0 ∷ 97 ∷ 16 ∷ 70 ∷ 33 ∷ 129 ∷ [])
    yields sheet (record { answer = Err (record { number = No.SheetPad; place = 0 }); drawing = blank })
    ∷ fetched (17 ∷ 3 ∷ 62 ∷ 135 ∷ 208 ∷ 250 ∷ 31 ∷ 115 ∷ 232 ∷ 125 ∷ 15 ∷ 161 ∷ 247 ∷ 62 ∷ 135 ∷ 208 ∷ 250 ∷ 62 ∷ 136 ∷ 2 ∷ 1 ∷ 0 ∷ 97 ∷ 16 ∷ 70 ∷ 33 ∷ 128 ∷ [])
    yields sheet (record { answer = Err (record { number = No.BadCoordinate; place = 11 }); drawing = blank })
    ∷ fetched (17 ∷ 3 ∷ 62 ∷ 135 ∷ 208 ∷ 250 ∷ 31 ∷ 115 ∷ 232 ∷ 125 ∷ 15 ∷ 161 ∷ 247 ∷ 62 ∷ 135 ∷ 208 ∷ 250 ∷ 31 ∷ 112 ∷ 2 ∷ 1 ∷ 0 ∷ 97 ∷ 16 ∷ 70 ∷ 34 ∷ 0 ∷ [])
    yields sheet (record { answer = Err (record { number = No.BadEdge; place = 5 }); drawing = blank })
    ∷ []

pub hold3 : Holds rows3
unfolding rows3 asked said
hold3 = refl

unfoldable pub rows4 : List Case
unfolding text of_bits
rows4 =
    fetched (17 ∷ 3 ∷ 62 ∷ 135 ∷ 208 ∷ 250 ∷ 31 ∷ 115 ∷ 232 ∷ 125 ∷ 15 ∷ 161 ∷ 247 ∷ 62 ∷ 135 ∷ 208 ∷ 250 ∷ 31 ∷ 112 ∷ 2 ∷ 1 ∷ 0 ∷ 98 ∷ 8 ∷ 70 ∷ 33 ∷ 128 ∷ [])
    yields sheet (record { answer = Err (record { number = No.BadEdge; place = 3 }); drawing = blank })
    ∷ fetched (17 ∷ 3 ∷ 62 ∷ 135 ∷ 208 ∷ 250 ∷ 31 ∷ 115 ∷ 232 ∷ 125 ∷ 15 ∷ 161 ∷ 247 ∷ 62 ∷ 135 ∷ 208 ∷ 250 ∷ 31 ∷ 112 ∷ 2 ∷ 1 ∷ 0 ∷ 97 ∷ 16 ∷ 68 ∷ 33 ∷ 128 ∷ [])
    yields sheet (record { answer = Err (record { number = No.EdgeOrder; place = 4 }); drawing = blank })
    ∷ fetched (17 ∷ 3 ∷ 62 ∷ 135 ∷ 208 ∷ 250 ∷ 31 ∷ 115 ∷ 232 ∷ 125 ∷ 15 ∷ 161 ∷ 247 ∷ 62 ∷ 135 ∷ 208 ∷ 250 ∷ 31 ∷ 112 ∷ 2 ∷ 1 ∷ 128 ∷ 65 ∷ 16 ∷ 70 ∷ 33 ∷ 128 ∷ [])
    yields sheet (record { answer = Err (record { number = No.EdgeOrder; place = 2 }); drawing = blank })
    ∷ []

pub hold4 : Holds rows4
unfolding rows4 asked said
hold4 = refl

unfoldable pub rows5 : List Case
unfolding text of_bits
rows5 =
    fetched (18 ∷ 6 ∷ 62 ∷ 135 ∷ 208 ∷ 250 ∷ 31 ∷ 147 ∷ 232 ∷ 125 ∷ 15 ∷ 161 ∷ 249 ∷ 62 ∷ 135 ∷ 228 ∷ 252 ∷ 159 ∷ 67 ∷ 232 ∷ 125 ∷ 15 ∷ 201 ∷ 249 ∷ 62 ∷ 135 ∷ 228 ∷ 250 ∷ 31 ∷ 147 ∷ 242 ∷ 126 ∷ 79 ∷ 201 ∷ 249 ∷ 0 ∷ 32 ∷ 16 ∷ 8 ∷ 17 ∷ 132 ∷ 162 ∷ 24 ∷ 140 ∷ 51 ∷ 144 ∷ 164 ∷ 49 ∷ 78 ∷ 99 ∷ 128 ∷ [])
    yields sheet (record { answer = Fine; drawing = held 8 12 (pos 0 ∷ pos 0 ∷ pos 0 ∷ pos 10 ∷ pos 0 ∷ pos 0 ∷ pos 0 ∷ pos 10 ∷ pos 0 ∷ pos 10 ∷ pos 10 ∷ pos 0 ∷ pos 0 ∷ pos 0 ∷ pos 10 ∷ pos 10 ∷ pos 0 ∷ pos 10 ∷ pos 0 ∷ pos 10 ∷ pos 10 ∷ pos 10 ∷ pos 10 ∷ pos 10 ∷ []) (0 ∷ 1 ∷ 0 ∷ 2 ∷ 0 ∷ 4 ∷ 1 ∷ 3 ∷ 1 ∷ 5 ∷ 2 ∷ 3 ∷ 2 ∷ 6 ∷ 3 ∷ 7 ∷ 4 ∷ 5 ∷ 4 ∷ 6 ∷ 5 ∷ 7 ∷ 6 ∷ 7 ∷ []) })
    ∷ stored (record { xyz = (pos 0 ∷ pos 0 ∷ pos 0 ∷ pos 6 ∷ pos 0 ∷ pos 0 ∷ pos 0 ∷ pos 6 ∷ pos 0 ∷ pos 0 ∷ pos 0 ∷ pos 6 ∷ pos 0 ∷ []); ends = (0 ∷ 1 ∷ 0 ∷ 2 ∷ 0 ∷ 3 ∷ 1 ∷ 2 ∷ 1 ∷ 3 ∷ 2 ∷ 3 ∷ []) }) 26
    yields wrote (Err (record { number = No.BadCount; place = 0 })) (face_before 26)
    ∷ stored (record { xyz = (pos 0 ∷ pos 0 ∷ pos 0 ∷ pos 6 ∷ pos 0 ∷ pos 0 ∷ pos 0 ∷ pos 6 ∷ pos 0 ∷ pos 0 ∷ pos 0 ∷ pos 6 ∷ []); ends = (0 ∷ 1 ∷ 0 ∷ 2 ∷ 0 ∷ 3 ∷ 1 ∷ 2 ∷ 1 ∷ 3 ∷ 2 ∷ 3 ∷ 3 ∷ []) }) 26
    yields wrote (Err (record { number = No.BadCount; place = 1 })) (face_before 26)
    ∷ []

pub hold5 : Holds rows5
unfolding rows5 asked said
hold5 = refl

unfoldable pub rows6 : List Case
unfolding text of_bits
rows6 =
    stored (record { xyz = (pos 0 ∷ pos 0 ∷ pos 0 ∷ neg 1001 ∷ pos 0 ∷ pos 0 ∷ pos 0 ∷ pos 6 ∷ pos 0 ∷ pos 0 ∷ pos 0 ∷ pos 6 ∷ []); ends = (0 ∷ 1 ∷ 0 ∷ 2 ∷ 0 ∷ 3 ∷ 1 ∷ 2 ∷ 1 ∷ 3 ∷ 2 ∷ 3 ∷ []) }) 26
    yields wrote (Err (record { number = No.BadCoordinate; place = 3 })) (face_before 26)
    ∷ stored (record { xyz = (pos 0 ∷ pos 0 ∷ pos 0 ∷ pos 6 ∷ pos 0 ∷ pos 0 ∷ pos 0 ∷ pos 6 ∷ pos 0 ∷ []); ends = (0 ∷ 1 ∷ 0 ∷ 2 ∷ 0 ∷ 3 ∷ 1 ∷ 2 ∷ 1 ∷ 3 ∷ 2 ∷ 3 ∷ []) }) 26
    yields wrote (Err (record { number = No.BadCount; place = 0 })) (face_before 26)
    ∷ stored (record { xyz = (pos 7 ∷ pos 8 ∷ pos 9 ∷ pos 7 ∷ pos 8 ∷ pos 9 ∷ pos 7 ∷ pos 8 ∷ pos 9 ∷ pos 7 ∷ pos 8 ∷ pos 9 ∷ pos 7 ∷ pos 8 ∷ pos 9 ∷ pos 7 ∷ pos 8 ∷ pos 9 ∷ pos 7 ∷ pos 8 ∷ pos 9 ∷ pos 7 ∷ pos 8 ∷ pos 9 ∷ pos 7 ∷ pos 8 ∷ pos 9 ∷ pos 7 ∷ pos 8 ∷ pos 9 ∷ pos 7 ∷ pos 8 ∷ pos 9 ∷ pos 7 ∷ pos 8 ∷ pos 9 ∷ pos 7 ∷ pos 8 ∷ pos 9 ∷ pos 7 ∷ pos 8 ∷ pos 9 ∷ pos 7 ∷ pos 8 ∷ pos 9 ∷ pos 7 ∷ pos 8 ∷ pos 9 ∷ pos 7 ∷ pos 8 ∷ pos 9 ∷ pos 7 ∷ pos 8 ∷ pos 9 ∷ pos 7 ∷ pos 8 ∷ pos 9 ∷ pos 7 ∷ pos 8 ∷ pos 9 ∷ pos 7 ∷ pos 8 ∷ pos 9 ∷ pos 7 ∷ pos 8 ∷ pos 9 ∷ pos 7 ∷ pos 8 ∷ pos 9 ∷ pos 7 ∷ pos 8 ∷ pos 9 ∷ pos 7 ∷ pos 8 ∷ pos 9 ∷ pos 7 ∷ pos 8 ∷ pos 9 ∷ pos 7 ∷ pos 8 ∷ pos 9 ∷ pos 7 ∷ pos 8 ∷ pos 9 ∷ pos 7 ∷ pos 8 ∷ pos 9 ∷ pos 7 ∷ pos 8 ∷ pos 9 ∷ pos 7 ∷ pos 8 ∷ pos 9 ∷ pos 7 ∷ pos 8 ∷ pos 9 ∷ pos 7 ∷ pos 8 ∷ pos 9 ∷ []); ends = (0 ∷ 1 ∷ 0 ∷ 2 ∷ 0 ∷ 3 ∷ 1 ∷ 2 ∷ 1 ∷ 3 ∷ 2 ∷ 3 ∷ []) }) 26
    yields wrote (Err (record { number = No.BadCount; place = 0 })) (face_before 26)
    ∷ []

pub hold6 : Holds rows6
unfolding rows6 asked said
hold6 = refl

unfoldable pub rows7 : List Case
unfolding text of_bits
rows7 =
    stored (record { xyz = (pos 0 ∷ pos 0 ∷ pos 0 ∷ pos 6 ∷ pos 0 ∷ pos 0 ∷ pos 0 ∷ pos 6 ∷ pos 0 ∷ pos 0 ∷ pos 0 ∷ pos 6 ∷ []); ends = (0 ∷ 1 ∷ 0 ∷ 2 ∷ 0 ∷ 3 ∷ 1 ∷ 2 ∷ 1 ∷ 3 ∷ []) }) 26
    yields wrote (Err (record { number = No.BadCount; place = 1 })) (face_before 26)
    ∷ stored (record { xyz = (pos 0 ∷ pos 0 ∷ pos 0 ∷ pos 6 ∷ pos 0 ∷ pos 0 ∷ pos 0 ∷ pos 6 ∷ pos 0 ∷ pos 0 ∷ pos 0 ∷ pos 6 ∷ []); ends = (0 ∷ 1 ∷ 0 ∷ 1 ∷ 0 ∷ 1 ∷ 0 ∷ 1 ∷ 0 ∷ 1 ∷ 0 ∷ 1 ∷ 0 ∷ 1 ∷ 0 ∷ 1 ∷ 0 ∷ 1 ∷ 0 ∷ 1 ∷ 0 ∷ 1 ∷ 0 ∷ 1 ∷ 0 ∷ 1 ∷ 0 ∷ 1 ∷ 0 ∷ 1 ∷ 0 ∷ 1 ∷ 0 ∷ 1 ∷ 0 ∷ 1 ∷ 0 ∷ 1 ∷ 0 ∷ 1 ∷ 0 ∷ 1 ∷ 0 ∷ 1 ∷ 0 ∷ 1 ∷ 0 ∷ 1 ∷ 0 ∷ 1 ∷ 0 ∷ 1 ∷ 0 ∷ 1 ∷ 0 ∷ 1 ∷ 0 ∷ 1 ∷ 0 ∷ 1 ∷ 0 ∷ 1 ∷ 0 ∷ 1 ∷ 0 ∷ 1 ∷ 0 ∷ 1 ∷ 0 ∷ 1 ∷ 0 ∷ 1 ∷ 0 ∷ 1 ∷ 0 ∷ 1 ∷ 0 ∷ 1 ∷ 0 ∷ 1 ∷ 0 ∷ 1 ∷ 0 ∷ 1 ∷ 0 ∷ 1 ∷ 0 ∷ 1 ∷ 0 ∷ 1 ∷ 0 ∷ 1 ∷ 0 ∷ 1 ∷ 0 ∷ 1 ∷ 0 ∷ 1 ∷ 0 ∷ 1 ∷ 0 ∷ 1 ∷ 0 ∷ 1 ∷ 0 ∷ 1 ∷ 0 ∷ 1 ∷ 0 ∷ 1 ∷ 0 ∷ 1 ∷ 0 ∷ 1 ∷ 0 ∷ 1 ∷ 0 ∷ 1 ∷ 0 ∷ 1 ∷ 0 ∷ 1 ∷ 0 ∷ 1 ∷ 0 ∷ 1 ∷ 0 ∷ 1 ∷ 0 ∷ 1 ∷ []) }) 26
    yields wrote (Err (record { number = No.BadCount; place = 1 })) (face_before 26)
    ∷ stored (record { xyz = (pos 0 ∷ pos 0 ∷ pos 0 ∷ pos 6 ∷ pos 0 ∷ pos 0 ∷ pos 0 ∷ pos 6 ∷ pos 0 ∷ pos 0 ∷ pos 0 ∷ pos 1001 ∷ []); ends = (0 ∷ 1 ∷ 0 ∷ 2 ∷ 0 ∷ 3 ∷ 1 ∷ 2 ∷ 1 ∷ 3 ∷ 2 ∷ 3 ∷ []) }) 26
    yields wrote (Err (record { number = No.BadCoordinate; place = 11 })) (face_before 26)
    ∷ []

pub hold7 : Holds rows7
unfolding rows7 asked said
hold7 = refl

unfoldable pub rows8 : List Case
unfolding text of_bits
rows8 =
    stored (record { xyz = (pos 0 ∷ pos 0 ∷ pos 0 ∷ pos 6 ∷ pos 0 ∷ pos 0 ∷ pos 0 ∷ pos 6 ∷ pos 0 ∷ pos 0 ∷ pos 0 ∷ pos 6 ∷ []); ends = (0 ∷ 1 ∷ 0 ∷ 2 ∷ 0 ∷ 3 ∷ 1 ∷ 2 ∷ 1 ∷ 3 ∷ 2 ∷ 4 ∷ []) }) 26
    yields wrote (Err (record { number = No.BadEdge; place = 5 })) (face_before 26)
    ∷ stored (record { xyz = (pos 0 ∷ pos 0 ∷ pos 0 ∷ pos 6 ∷ pos 0 ∷ pos 0 ∷ pos 0 ∷ pos 6 ∷ pos 0 ∷ pos 0 ∷ pos 0 ∷ pos 6 ∷ []); ends = (0 ∷ 1 ∷ 0 ∷ 2 ∷ 0 ∷ 3 ∷ 2 ∷ 1 ∷ 1 ∷ 3 ∷ 2 ∷ 3 ∷ []) }) 26
    yields wrote (Err (record { number = No.BadEdge; place = 3 })) (face_before 26)
    ∷ stored (record { xyz = (pos 0 ∷ pos 0 ∷ pos 0 ∷ pos 6 ∷ pos 0 ∷ pos 0 ∷ pos 0 ∷ pos 6 ∷ pos 0 ∷ pos 0 ∷ pos 0 ∷ pos 6 ∷ []); ends = (0 ∷ 1 ∷ 0 ∷ 2 ∷ 0 ∷ 3 ∷ 1 ∷ 2 ∷ 1 ∷ 2 ∷ 2 ∷ 3 ∷ []) }) 26
    yields wrote (Err (record { number = No.EdgeOrder; place = 4 })) (face_before 26)
    ∷ []

pub hold8 : Holds rows8
unfolding rows8 asked said
hold8 = refl

unfoldable pub rows9 : List Case
unfolding text of_bits
rows9 =
    stored (record { xyz = (pos 0 ∷ pos 0 ∷ pos 0 ∷ pos 6 ∷ pos 0 ∷ pos 0 ∷ pos 0 ∷ pos 6 ∷ pos 0 ∷ pos 0 ∷ pos 0 ∷ pos 6 ∷ []); ends = (0 ∷ 1 ∷ 0 ∷ 3 ∷ 0 ∷ 2 ∷ 1 ∷ 2 ∷ 1 ∷ 3 ∷ 2 ∷ 3 ∷ []) }) 26
    yields wrote (Err (record { number = No.EdgeOrder; place = 2 })) (face_before 26)
    ∷ stored (record { xyz = (pos 0 ∷ pos 0 ∷ pos 0 ∷ pos 6 ∷ pos 0 ∷ pos 0 ∷ pos 0 ∷ pos 6 ∷ pos 0 ∷ pos 0 ∷ pos 0 ∷ pos 6 ∷ []); ends = (0 ∷ 1 ∷ 0 ∷ 2 ∷ 0 ∷ 3 ∷ 1 ∷ 2 ∷ 1 ∷ 3 ∷ 2 ∷ 3 ∷ []) }) 26
    yields wrote (Err (record { number = No.NoRoom; place = 0 })) (face_before 26)
    ∷ stored (record { xyz = (pos 0 ∷ pos 0 ∷ pos 0 ∷ pos 6 ∷ pos 0 ∷ pos 0 ∷ pos 0 ∷ pos 6 ∷ pos 0 ∷ pos 0 ∷ pos 0 ∷ pos 6 ∷ []); ends = (0 ∷ 1 ∷ 0 ∷ 2 ∷ 0 ∷ 3 ∷ 1 ∷ 2 ∷ 1 ∷ 3 ∷ 2 ∷ 3 ∷ []) }) 27
    yields wrote (Ok 27) ((17 ∷ 3 ∷ 62 ∷ 135 ∷ 208 ∷ 250 ∷ 31 ∷ 115 ∷ 232 ∷ 125 ∷ 15 ∷ 161 ∷ 247 ∷ 62 ∷ 135 ∷ 208 ∷ 250 ∷ 31 ∷ 112 ∷ 2 ∷ 1 ∷ 0 ∷ 97 ∷ 16 ∷ 70 ∷ 33 ∷ 128 ∷ []) ++ face_before 0)
    ∷ []

pub hold9 : Holds rows9
unfolding rows9 asked said
hold9 = refl

unfoldable pub rows10 : List Case
unfolding text of_bits
rows10 =
    stored (record { xyz = (pos 0 ∷ pos 0 ∷ pos 0 ∷ pos 6 ∷ pos 0 ∷ pos 0 ∷ pos 0 ∷ pos 6 ∷ pos 0 ∷ pos 0 ∷ pos 0 ∷ pos 6 ∷ []); ends = (0 ∷ 1 ∷ 0 ∷ 2 ∷ 0 ∷ 3 ∷ 1 ∷ 2 ∷ 1 ∷ 3 ∷ 2 ∷ 3 ∷ []) }) 30
    yields wrote (Ok 27) ((17 ∷ 3 ∷ 62 ∷ 135 ∷ 208 ∷ 250 ∷ 31 ∷ 115 ∷ 232 ∷ 125 ∷ 15 ∷ 161 ∷ 247 ∷ 62 ∷ 135 ∷ 208 ∷ 250 ∷ 31 ∷ 112 ∷ 2 ∷ 1 ∷ 0 ∷ 97 ∷ 16 ∷ 70 ∷ 33 ∷ 128 ∷ []) ++ face_before 3)
    ∷ posted 4 6 (3 ∷ 0 ∷ 1 ∷ 2 ∷ 255 ∷ 255 ∷ 255 ∷ 255 ∷ 255 ∷ 255 ∷ 255 ∷ 255 ∷ 255 ∷ 3 ∷ 0 ∷ 1 ∷ 3 ∷ 255 ∷ 255 ∷ 255 ∷ 255 ∷ 255 ∷ 255 ∷ 255 ∷ 255 ∷ 255 ∷ 3 ∷ 0 ∷ 2 ∷ 3 ∷ 255 ∷ 255 ∷ 255 ∷ 255 ∷ 255 ∷ 255 ∷ 255 ∷ 255 ∷ 255 ∷ 3 ∷ 1 ∷ 2 ∷ 3 ∷ 255 ∷ 255 ∷ 255 ∷ 255 ∷ 255 ∷ 255 ∷ 255 ∷ 255 ∷ 255 ∷ []) (15 ∷ 5 ∷ []) 20
    yields wrote (Ok 11) ((17 ∷ 12 ∷ 2 ∷ 9 ∷ 128 ∷ 35 ∷ 48 ∷ 12 ∷ 70 ∷ 17 ∷ 12 ∷ []) ++ face_before 9)
    ∷ posted 4 6 (3 ∷ 0 ∷ 1 ∷ 2 ∷ 255 ∷ 255 ∷ 255 ∷ 255 ∷ 255 ∷ 255 ∷ 255 ∷ 255 ∷ 255 ∷ 3 ∷ 0 ∷ 1 ∷ 3 ∷ 255 ∷ 255 ∷ 255 ∷ 255 ∷ 255 ∷ 255 ∷ 255 ∷ 255 ∷ 255 ∷ 3 ∷ 0 ∷ 2 ∷ 3 ∷ 255 ∷ 255 ∷ 255 ∷ 255 ∷ 255 ∷ 255 ∷ 255 ∷ 255 ∷ 255 ∷ 3 ∷ 1 ∷ 2 ∷ 3 ∷ 255 ∷ 255 ∷ 255 ∷ 255 ∷ 255 ∷ 255 ∷ 255 ∷ 255 ∷ 255 ∷ []) (15 ∷ 5 ∷ []) 11
    yields wrote (Ok 11) ((17 ∷ 12 ∷ 2 ∷ 9 ∷ 128 ∷ 35 ∷ 48 ∷ 12 ∷ 70 ∷ 17 ∷ 12 ∷ []) ++ face_before 0)
    ∷ []

pub hold10 : Holds rows10
unfolding rows10 asked said
hold10 = refl

unfoldable pub rows11 : List Case
unfolding text of_bits
rows11 =
    posted 4 6 (3 ∷ 0 ∷ 1 ∷ 2 ∷ 255 ∷ 255 ∷ 255 ∷ 255 ∷ 255 ∷ 255 ∷ 255 ∷ 255 ∷ 255 ∷ 3 ∷ 0 ∷ 1 ∷ 3 ∷ 255 ∷ 255 ∷ 255 ∷ 255 ∷ 255 ∷ 255 ∷ 255 ∷ 255 ∷ 255 ∷ 3 ∷ 0 ∷ 2 ∷ 3 ∷ 255 ∷ 255 ∷ 255 ∷ 255 ∷ 255 ∷ 255 ∷ 255 ∷ 255 ∷ 255 ∷ 3 ∷ 1 ∷ 2 ∷ 3 ∷ 255 ∷ 255 ∷ 255 ∷ 255 ∷ 255 ∷ 255 ∷ 255 ∷ 255 ∷ 255 ∷ []) (15 ∷ 5 ∷ []) 10
    yields wrote (Err (record { number = No.NoRoom; place = 0 })) (face_before 10)
    ∷ posted 4 6 (3 ∷ 0 ∷ 1 ∷ 2 ∷ 255 ∷ 255 ∷ 255 ∷ 255 ∷ 255 ∷ 255 ∷ 255 ∷ 255 ∷ 255 ∷ 3 ∷ 0 ∷ 1 ∷ 3 ∷ 255 ∷ 255 ∷ 255 ∷ 255 ∷ 255 ∷ 255 ∷ 255 ∷ 255 ∷ 255 ∷ 3 ∷ 0 ∷ 2 ∷ 3 ∷ 255 ∷ 255 ∷ 255 ∷ 255 ∷ 255 ∷ 255 ∷ 255 ∷ 255 ∷ 255 ∷ 3 ∷ 1 ∷ 2 ∷ 3 ∷ 255 ∷ 255 ∷ 255 ∷ 255 ∷ 255 ∷ 255 ∷ 255 ∷ 255 ∷ 255 ∷ []) (7 ∷ 5 ∷ []) 10
    yields wrote (Err (record { number = No.ShellShape; place = 0 })) (face_before 10)
    ∷ posted 4 6 (3 ∷ 0 ∷ 1 ∷ 2 ∷ 255 ∷ 255 ∷ 255 ∷ 255 ∷ 255 ∷ 255 ∷ 255 ∷ 255 ∷ 255 ∷ 3 ∷ 0 ∷ 1 ∷ 3 ∷ 255 ∷ 255 ∷ 255 ∷ 255 ∷ 255 ∷ 255 ∷ 255 ∷ 255 ∷ 255 ∷ 3 ∷ 0 ∷ 2 ∷ 3 ∷ 255 ∷ 255 ∷ 255 ∷ 255 ∷ 255 ∷ 255 ∷ 255 ∷ 255 ∷ 255 ∷ 3 ∷ 1 ∷ 2 ∷ 3 ∷ 255 ∷ 255 ∷ 255 ∷ 255 ∷ 255 ∷ 255 ∷ 255 ∷ 255 ∷ []) (15 ∷ 5 ∷ []) 20
    yields wrote (Err (record { number = No.ShellShape; place = 0 })) (face_before 20)
    ∷ []

pub hold11 : Holds rows11
unfolding rows11 asked said
hold11 = refl

unfoldable pub rows12 : List Case
unfolding text of_bits
rows12 =
    posted 4 6 (2 ∷ 0 ∷ 1 ∷ 2 ∷ 255 ∷ 255 ∷ 255 ∷ 255 ∷ 255 ∷ 255 ∷ 255 ∷ 255 ∷ 255 ∷ 3 ∷ 0 ∷ 1 ∷ 3 ∷ 255 ∷ 255 ∷ 255 ∷ 255 ∷ 255 ∷ 255 ∷ 255 ∷ 255 ∷ 255 ∷ 3 ∷ 0 ∷ 2 ∷ 3 ∷ 255 ∷ 255 ∷ 255 ∷ 255 ∷ 255 ∷ 255 ∷ 255 ∷ 255 ∷ 255 ∷ 3 ∷ 1 ∷ 2 ∷ 3 ∷ 255 ∷ 255 ∷ 255 ∷ 255 ∷ 255 ∷ 255 ∷ 255 ∷ 255 ∷ 255 ∷ []) (15 ∷ 5 ∷ []) 20
    yields wrote (Err (record { number = No.ShellShape; place = 0 })) (face_before 20)
    ∷ posted 4 6 (13 ∷ 0 ∷ 1 ∷ 2 ∷ 255 ∷ 255 ∷ 255 ∷ 255 ∷ 255 ∷ 255 ∷ 255 ∷ 255 ∷ 255 ∷ 3 ∷ 0 ∷ 1 ∷ 3 ∷ 255 ∷ 255 ∷ 255 ∷ 255 ∷ 255 ∷ 255 ∷ 255 ∷ 255 ∷ 255 ∷ 3 ∷ 0 ∷ 2 ∷ 3 ∷ 255 ∷ 255 ∷ 255 ∷ 255 ∷ 255 ∷ 255 ∷ 255 ∷ 255 ∷ 255 ∷ 3 ∷ 1 ∷ 2 ∷ 3 ∷ 255 ∷ 255 ∷ 255 ∷ 255 ∷ 255 ∷ 255 ∷ 255 ∷ 255 ∷ 255 ∷ []) (15 ∷ 5 ∷ []) 20
    yields wrote (Err (record { number = No.ShellShape; place = 0 })) (face_before 20)
    ∷ posted 4 6 (3 ∷ 32 ∷ 1 ∷ 2 ∷ 255 ∷ 255 ∷ 255 ∷ 255 ∷ 255 ∷ 255 ∷ 255 ∷ 255 ∷ 255 ∷ 3 ∷ 0 ∷ 1 ∷ 3 ∷ 255 ∷ 255 ∷ 255 ∷ 255 ∷ 255 ∷ 255 ∷ 255 ∷ 255 ∷ 255 ∷ 3 ∷ 0 ∷ 2 ∷ 3 ∷ 255 ∷ 255 ∷ 255 ∷ 255 ∷ 255 ∷ 255 ∷ 255 ∷ 255 ∷ 255 ∷ 3 ∷ 1 ∷ 2 ∷ 3 ∷ 255 ∷ 255 ∷ 255 ∷ 255 ∷ 255 ∷ 255 ∷ 255 ∷ 255 ∷ 255 ∷ []) (15 ∷ 5 ∷ []) 20
    yields wrote (Err (record { number = No.ShellShape; place = 0 })) (face_before 20)
    ∷ []

pub hold12 : Holds rows12
unfolding rows12 asked said
hold12 = refl

unfoldable pub rows13 : List Case
unfolding text of_bits
rows13 =
    posted 13 24 (12 ∷ 0 ∷ 1 ∷ 2 ∷ 3 ∷ 4 ∷ 5 ∷ 6 ∷ 7 ∷ 8 ∷ 9 ∷ 10 ∷ 11 ∷ 3 ∷ 0 ∷ 1 ∷ 12 ∷ 255 ∷ 255 ∷ 255 ∷ 255 ∷ 255 ∷ 255 ∷ 255 ∷ 255 ∷ 255 ∷ 3 ∷ 0 ∷ 11 ∷ 12 ∷ 255 ∷ 255 ∷ 255 ∷ 255 ∷ 255 ∷ 255 ∷ 255 ∷ 255 ∷ 255 ∷ 3 ∷ 1 ∷ 2 ∷ 12 ∷ 255 ∷ 255 ∷ 255 ∷ 255 ∷ 255 ∷ 255 ∷ 255 ∷ 255 ∷ 255 ∷ 3 ∷ 2 ∷ 3 ∷ 12 ∷ 255 ∷ 255 ∷ 255 ∷ 255 ∷ 255 ∷ 255 ∷ 255 ∷ 255 ∷ 255 ∷ 3 ∷ 3 ∷ 4 ∷ 12 ∷ 255 ∷ 255 ∷ 255 ∷ 255 ∷ 255 ∷ 255 ∷ 255 ∷ 255 ∷ 255 ∷ 3 ∷ 4 ∷ 5 ∷ 12 ∷ 255 ∷ 255 ∷ 255 ∷ 255 ∷ 255 ∷ 255 ∷ 255 ∷ 255 ∷ 255 ∷ 3 ∷ 5 ∷ 6 ∷ 12 ∷ 255 ∷ 255 ∷ 255 ∷ 255 ∷ 255 ∷ 255 ∷ 255 ∷ 255 ∷ 255 ∷ 3 ∷ 6 ∷ 7 ∷ 12 ∷ 255 ∷ 255 ∷ 255 ∷ 255 ∷ 255 ∷ 255 ∷ 255 ∷ 255 ∷ 255 ∷ 3 ∷ 7 ∷ 8 ∷ 12 ∷ 255 ∷ 255 ∷ 255 ∷ 255 ∷ 255 ∷ 255 ∷ 255 ∷ 255 ∷ 255 ∷ 3 ∷ 8 ∷ 9 ∷ 12 ∷ 255 ∷ 255 ∷ 255 ∷ 255 ∷ 255 ∷ 255 ∷ 255 ∷ 255 ∷ 255 ∷ 3 ∷ 9 ∷ 10 ∷ 12 ∷ 255 ∷ 255 ∷ 255 ∷ 255 ∷ 255 ∷ 255 ∷ 255 ∷ 255 ∷ 255 ∷ 3 ∷ 10 ∷ 11 ∷ 12 ∷ 255 ∷ 255 ∷ 255 ∷ 255 ∷ 255 ∷ 255 ∷ 255 ∷ 255 ∷ 255 ∷ []) (8191 ∷ 5 ∷ []) 50
    yields wrote (Ok 38) ((19 ∷ 112 ∷ 11 ∷ 82 ∷ 80 ∷ 115 ∷ 20 ∷ 131 ∷ 16 ∷ 76 ∷ 1 ∷ 97 ∷ 129 ∷ 139 ∷ 48 ∷ 137 ∷ 134 ∷ 33 ∷ 176 ∷ 198 ∷ 70 ∷ 25 ∷ 10 ∷ 195 ∷ 41 ∷ 152 ∷ 102 ∷ 59 ∷ 12 ∷ 232 ∷ 97 ∷ 161 ∷ 44 ∷ 52 ∷ 169 ∷ 134 ∷ 165 ∷ 176 ∷ []) ++ face_before 12)
    ∷ []

pub hold13 : Holds rows13
unfolding rows13 asked said
hold13 = refl
