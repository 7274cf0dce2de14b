-- Document 01, "Known drawings (starred ones are proved)", in one table under one statement, proved by evaluation; with the rows that
-- tell its "Errors that look right" from the definitions. Polygons come first: what is wrong with them is refused before a search is
-- evaluated.
pub mod Drawings
pub mod Polygons
use Rattle.std.specs.Prelude.{refl, true, false, pos, replicate, Ok, Err}
use mathlib.Core.List.{List, [], ◌∷◌, ◌++◌, flat_map}
use Rattle.std.specs.Float.{binary64}
use Rattle.std.specs.Float.Ieee.{of_bits}
use Rattle.paper.specs.Numbers.{documented, most_work}
use Rattle.paper.specs.Refusals as No
use Rattle.paper.specs.Refusals.{refuse, ListAccepted, Fine}
use Rattle.paper.specs.Loops.{row}
use Rattle.paper.specs.Reading.{volume}
use Rattle.paper.specs.Desk.{text}
use Rattle.paper.specs.Questions.{converted, faced, wholly, printed, sized, lent, sent, paired, covering, selected, read, worded}
use Rattle.paper.specs.Questions.{enclosed, posted, solved, left, bytes, number, answer, wrote, verdicts, rules, tests, reads}
use Rattle.paper.specs.Questions.{face_before, solid_before, Case, ◌yields◌, asked, said, Holds}
use Rattle.paper.specs.Known.Drawings.{tetrahedron, corners, cube, outward, inward_faces, open_cube, octahedron, nested, centred, touching}
use Rattle.paper.specs.Known.Drawings.{eight, six_ends}
use Rattle.paper.specs.Known.Polygons as Faces
use Rattle.paper.specs.declared.Conversion.TheVariants as Conversion

unfoldable pub table : List Case
unfolding flat_map row text volume of_bits
table =
    -- "Pairs": A, none, B, C
    paired Faces.face Faces.piercing_triangle yields rules true false false
    ∷ paired Faces.face Faces.passing yields rules false false false
    ∷ paired Faces.face Faces.entering yields rules false true false
    ∷ paired Faces.square Faces.folding yields rules false false true
    -- "the notched pentagon, which covers neither triangle nor square"; the square covers both
    ∷ covering Faces.notched Faces.notch yields tests (false ∷ [])
    ∷ covering Faces.notched Faces.closing yields tests (false ∷ [])
    ∷ covering Faces.closing Faces.notched yields tests (true ∷ [])
    ∷ covering Faces.closing Faces.notch yields tests (true ∷ [])
    -- "Reading a reflex corner as its smaller angle in rule C"
    ∷ paired Faces.bow Faces.blade yields rules false false true
    ∷ paired Faces.hook Faces.blade yields rules false false true
    -- "Rounding the piercing point before the inside test"
    ∷ paired Faces.face Faces.slanted yields rules true false false
    ∷ paired Faces.face Faces.steep yields rules true false false
    -- "32 vertices pass and 33 get 5; coordinate 1,000 passes and 1,001 gets 8"; "the largest drawing 215"
    ∷ lent (record { xyz = replicate 96 (pos 1000); ends = six_ends }) yields answer Fine
    ∷ lent (record { xyz = replicate 99 (pos 1000); ends = six_ends }) yields answer (refuse No.BadCount 0)
    ∷ lent (record { xyz = replicate 95 (pos 1000) ++ (pos 1001 ∷ []); ends = six_ends }) yields answer (refuse No.BadCoordinate 95)
    ∷ sized (record { xyz = replicate 96 (pos 0); ends = replicate 128 0 }) yields number 215
    -- "a volume in cubic metres as a double": 3.6e-5 by its bits; "or "not assessed" with a number from the table, or 30"
    ∷ read (Conversion.One 4 4 0 216) yields reads (Ok (of_bits binary64 4540437487055317823))
    ∷ read (Conversion.Several 24 24 4 3) yields reads (Err No.Ambiguous)
    ∷ read (Conversion.NoSolid 4 4 0) yields reads (Err No.NoSolid)
    ∷ read (Conversion.Many 18 18 4) yields reads (Err No.Many)
    ∷ read (Conversion.TooLong 11 11 3) yields reads (Err No.TooLong)
    ∷ read (Conversion.Refused (record { number = No.BadCount; place = 0 })) yields reads (Err No.BadCount)
    -- "the line after `work` is the last and reads `no solid`, `many` or `too long`; for another refusal the only line is `refused`"
    ∷ worded 8 11 (Conversion.NoSolid 4 4 0) [] yields bytes (text "wire 8 11\nloops 4 candidates 4\nwork 0\nno solid\n")
    ∷ worded 9 20 (Conversion.Many 18 18 4) [] yields bytes (text "wire 9 20\nloops 18 candidates 18\nwork 4\nmany\n")
    ∷ worded 6 12 (Conversion.TooLong 11 11 3) [] yields bytes (text "wire 6 12\nloops 11 candidates 11\nwork 3\ntoo long\n")
    ∷ worded 0 0 (Conversion.Refused (record { number = No.EdgeMeets; place = 20 })) [] yields bytes (text "refused 13 20\n")
    -- "under 832 bytes for faces; under 24 words for solids"
    ∷ wholly documented tetrahedron most_work 831 24
    yields left (Conversion.Refused (record { number = No.NoRoom; place = 0 })) (face_before 831) (solid_before 24)
    ∷ wholly documented tetrahedron most_work 832 23
    yields left (Conversion.Refused (record { number = No.NoRoom; place = 1 })) (face_before 832) (solid_before 23)
    -- the tetrahedron's solid written as a face list, its turned faces the other way round; later room is kept
    ∷ posted 4 6 (flat_map row corners) (15 ∷ 5 ∷ []) 12
    yields wrote (Ok 11) (17 ∷ 12 ∷ 2 ∷ 9 ∷ 128 ∷ 35 ∷ 48 ∷ 12 ∷ 70 ∷ 17 ∷ 12 ∷ face_before 1)
    -- "4 loops, work 0, six volumes 216"; its rows in the face room; "A tetrahedron takes 27 bytes"
    ∷ converted tetrahedron most_work yields solved (Conversion.One 4 4 0 216) (Ok (volume 216))
    (15 ∷ 5 ∷ 216 ∷ solid_before 21)
    ∷ faced tetrahedron
    yields bytes (flat_map row ((0 ∷ 1 ∷ 2 ∷ []) ∷ (0 ∷ 1 ∷ 3 ∷ []) ∷ (0 ∷ 2 ∷ 3 ∷ []) ∷ (1 ∷ 2 ∷ 3 ∷ []) ∷ []) ++ face_before 780)
    ∷ sized tetrahedron yields number 27
    -- "6 loops, work 0, 6,000. Its list with all faces turned: 26. Without one edge: NoSolid, work 0."
    ∷ converted cube most_work yields solved (Conversion.One 6 6 0 6000) (Ok (volume 6000)) (63 ∷ 21 ∷ 6000 ∷ solid_before 21)
    ∷ sent cube outward yields verdicts ListAccepted
    ∷ sent cube inward_faces yields verdicts (Err (record { number = No.Inward; place = 0 }))
    -- the same by its sheet; without the edge that two of the faces have, those are no candidates
    ∷ enclosed cube outward yields verdicts ListAccepted
    ∷ enclosed open_cube outward yields verdicts (Err (record { number = No.NotCandidate; place = 0 }))
    ∷ converted open_cube most_work yields solved (Conversion.NoSolid 4 4 0) (Err No.NoSolid) (solid_before 24)
    -- "11 candidates, work 4, three selections, two fail (iii), one solid. With limit 3: TooLong."; "prints exactly"
    ∷ converted octahedron most_work
    yields solved (Conversion.One 11 11 4 8000) (Ok (volume 8000)) (990 ∷ 588 ∷ 8000 ∷ solid_before 21)
    ∷ converted octahedron 3 yields solved (Conversion.TooLong 11 11 3) (Err No.TooLong) (solid_before 24)
    ∷ selected octahedron yields tests (false ∷ false ∷ true ∷ [])
    ∷ printed octahedron
    yields bytes (text "wire 6 12\nloops 11 candidates 11\nwork 4\nsolids 1\nsolid 1 sixvolumes 8000 faces +1 -2 -3 +4 -6 +7 +8 -9\n")
    -- "24 candidates, work 4, three solids of 224,000 each; reading "not assessed 30"."
    ∷ converted nested most_work
    yields solved (Conversion.Several 24 24 4 3) (Err No.Ambiguous)
    (13482931 ∷ 8981265 ∷ 224000 ∷ 11959661 ∷ 10507305 ∷ 224000 ∷ 8111838 ∷ 2785932 ∷ 224000 ∷ solid_before 15)
    -- "7 loops, 3 candidates, NoSolid"
    ∷ converted centred most_work yields solved (Conversion.NoSolid 7 3 0) (Err No.NoSolid) (solid_before 24)
    -- "NoSolid; the list of all eight faces, each outward, gets 25"
    ∷ converted touching most_work yields solved (Conversion.NoSolid 8 8 0) (Err No.NoSolid) (solid_before 24)
    ∷ sent touching eight yields verdicts (Err (record { number = No.Pieces; place = 4 }))
    ∷ []

pub known : Holds table
unfolding table asked said
known = refl
