-- Each number and each limit (reading), as the reference answers them.
use Rattle.std.specs.Prelude.{refl, true, false, List, [], ◌∷◌, ◌++◌, pos, Ok, Err}
use Rattle.std.specs.Float.{binary64}
use Rattle.std.specs.Float.Ieee.{of_bits}
use Rattle.paper.specs.Numbers.{documented}
use Rattle.paper.specs.Sheet.{held, blank}
use Rattle.paper.specs.Desk.{text}
use Rattle.paper.specs.Questions.{neg, wholly, fetched, stored, checked, paired, covering, desk, read, ruled, posted, left, wrote, sheet, bytes, verdicts, rules, tests, reads, face_before, solid_before, Case, ◌yields◌, asked, said, Holds}
use Rattle.paper.specs.declared.Conversion.TheVariants as Conversion
use Rattle.paper.specs.Refusals as No

unfoldable pub rows0 : List Case
unfolding text of_bits
rows0 =
    read (Conversion.Refused (record { number = No.NoRoom; place = 0 }))
    yields reads (Err No.NoRoom)
    ∷ read (Conversion.Refused (record { number = No.NoRoom; place = 1 }))
    yields reads (Err No.NoRoom)
    ∷ read (Conversion.Refused (record { number = No.BadLimit; place = 0 }))
    yields reads (Err No.BadLimit)
    ∷ []

pub hold0 : Holds rows0
unfolding rows0 asked said
hold0 = refl

unfoldable pub rows1 : List Case
unfolding text of_bits
rows1 =
    read (Conversion.One 4 4 0 216)
    yields reads (Ok (of_bits binary64 4540437487055317823))
    ∷ read (Conversion.Refused (record { number = No.BadCount; place = 0 }))
    yields reads (Err No.BadCount)
    ∷ read (Conversion.Refused (record { number = No.BadCount; place = 1 }))
    yields reads (Err No.BadCount)
    ∷ []

pub hold1 : Holds rows1
unfolding rows1 asked said
hold1 = refl

unfoldable pub rows2 : List Case
unfolding text of_bits
rows2 =
    read (Conversion.Refused (record { number = No.BadCoordinate; place = 3 }))
    yields reads (Err No.BadCoordinate)
    ∷ read (Conversion.Refused (record { number = No.BadCoordinate; place = 11 }))
    yields reads (Err No.BadCoordinate)
    ∷ read (Conversion.Refused (record { number = No.BadEdge; place = 5 }))
    yields reads (Err No.BadEdge)
    ∷ []

pub hold2 : Holds rows2
unfolding rows2 asked said
hold2 = refl

unfoldable pub rows3 : List Case
unfolding text of_bits
rows3 =
    read (Conversion.Refused (record { number = No.BadEdge; place = 3 }))
    yields reads (Err No.BadEdge)
    ∷ read (Conversion.Refused (record { number = No.EdgeOrder; place = 4 }))
    yields reads (Err No.EdgeOrder)
    ∷ read (Conversion.Refused (record { number = No.EdgeOrder; place = 2 }))
    yields reads (Err No.EdgeOrder)
    ∷ []

pub hold3 : Holds rows3
unfolding rows3 asked said
hold3 = refl

unfoldable pub rows4 : List Case
unfolding text of_bits
rows4 =
    read (Conversion.Refused (record { number = No.SamePlace; place = 2 }))
    yields reads (Err No.SamePlace)
    ∷ read (Conversion.Refused (record { number = No.LooseVertex; place = 4 }))
    yields reads (Err No.LooseVertex)
    ∷ read (Conversion.Refused (record { number = No.EdgeMeets; place = 2 }))
    yields reads (Err No.EdgeMeets)
    ∷ []

pub hold4 : Holds rows4
unfolding rows4 asked said
hold4 = refl

unfoldable pub rows5 : List Case
unfolding text of_bits
rows5 =
    read (Conversion.Refused (record { number = No.Apart; place = 4 }))
    yields reads (Err No.Apart)
    ∷ read (Conversion.Refused (record { number = No.ManyLoops; place = 0 }))
    yields reads (Err No.ManyLoops)
    ∷ read (Conversion.Refused (record { number = No.ManyCandidates; place = 0 }))
    yields reads (Err No.ManyCandidates)
    ∷ []

pub hold5 : Holds rows5
unfolding rows5 asked said
hold5 = refl

unfoldable pub rows6 : List Case
unfolding text of_bits
rows6 =
    read (Conversion.NoSolid 128 9 0)
    yields reads (Err No.NoSolid)
    ∷ read (Conversion.TooLong 64 64 0)
    yields reads (Err No.TooLong)
    ∷ read (Conversion.One 13 13 0 546)
    yields reads (Ok (of_bits binary64 4546343039232290245))
    ∷ []

pub hold6 : Holds rows6
unfolding rows6 asked said
hold6 = refl

unfoldable pub rows7 : List Case
unfolding text of_bits
rows7 =
    read (Conversion.NoSolid 13 13 0)
    yields reads (Err No.NoSolid)
    ∷ read (Conversion.Several 18 18 4 3)
    yields reads (Err No.Ambiguous)
    ∷ read (Conversion.Many 18 18 4)
    yields reads (Err No.Many)
    ∷ []

pub hold7 : Holds rows7
unfolding rows7 asked said
hold7 = refl

unfoldable pub rows8 : List Case
unfolding text of_bits
rows8 =
    read (Conversion.TooLong 11 11 3)
    yields reads (Err No.TooLong)
    ∷ read (Conversion.One 11 11 4 8000)
    yields reads (Ok (of_bits binary64 4563791737590178469))
    ∷ read (Conversion.NoSolid 4 4 0)
    yields reads (Err No.NoSolid)
    ∷ []

pub hold8 : Holds rows8
unfolding rows8 asked said
hold8 = refl

unfoldable pub rows9 : List Case
unfolding text of_bits
rows9 =
    read (Conversion.NoSolid 7 3 0)
    yields reads (Err No.NoSolid)
    ∷ []

pub hold9 : Holds rows9
unfolding rows9 asked said
hold9 = refl
