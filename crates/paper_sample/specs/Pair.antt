-- A fixed sample of cases (pair), as the reference answers them.
use Rattle.std.specs.Prelude.{refl, true, false, List, [], ◌∷◌, ◌++◌, pos}
use Rattle.std.specs.Float.{binary64}
use Rattle.std.specs.Float.Ieee.{of_bits}
use Rattle.paper.specs.Numbers.{documented}
use Rattle.paper.specs.Sheet.{held, blank}
use Rattle.paper.specs.Desk.{text}
use Rattle.paper.specs.Questions.{neg, wholly, fetched, stored, checked, paired, covering, desk, read, ruled, posted, left, wrote, sheet, bytes, verdicts, rules, tests, reads, face_before, solid_before, Case, ◌yields◌, asked, said, Holds}
use Rattle.paper.specs.declared.Conversion.TheVariants as Conversion

unfoldable pub rows0 : List Case
unfolding text of_bits
rows0 =
    paired (pos 0 ∷ pos 2 ∷ pos 3 ∷ pos 0 ∷ pos 3 ∷ pos 3 ∷ neg 1 ∷ neg 1 ∷ pos 0 ∷ []) (pos 0 ∷ pos 1 ∷ neg 2 ∷ pos 0 ∷ neg 3 ∷ pos 1 ∷ pos 2 ∷ neg 1 ∷ pos 2 ∷ [])
    yields rules false false false
    ∷ paired (neg 3 ∷ pos 4 ∷ pos 5 ∷ neg 1 ∷ pos 2 ∷ pos 0 ∷ pos 0 ∷ pos 0 ∷ pos 0 ∷ neg 1 ∷ pos 0 ∷ pos 5 ∷ []) (pos 3 ∷ pos 0 ∷ pos 5 ∷ pos 5 ∷ pos 2 ∷ pos 5 ∷ pos 3 ∷ pos 1 ∷ pos 0 ∷ pos 2 ∷ pos 0 ∷ pos 0 ∷ [])
    yields rules false false false
    ∷ paired (pos 3 ∷ pos 2 ∷ pos 4 ∷ neg 1 ∷ neg 3 ∷ neg 5 ∷ pos 1 ∷ pos 4 ∷ pos 4 ∷ []) (pos 1 ∷ pos 4 ∷ pos 4 ∷ pos 3 ∷ pos 2 ∷ pos 4 ∷ pos 5 ∷ pos 0 ∷ pos 4 ∷ neg 1 ∷ neg 3 ∷ neg 5 ∷ [])
    yields rules false false false
    ∷ []

pub hold0 : Holds rows0
unfolding rows0 asked said
hold0 = refl

unfoldable pub rows1 : List Case
unfolding text of_bits
rows1 =
    paired (pos 7 ∷ neg 4 ∷ pos 2 ∷ pos 4 ∷ pos 1 ∷ neg 14 ∷ pos 2 ∷ pos 3 ∷ neg 18 ∷ neg 5 ∷ pos 4 ∷ neg 2 ∷ neg 3 ∷ pos 2 ∷ pos 2 ∷ neg 1 ∷ pos 0 ∷ pos 6 ∷ pos 2 ∷ neg 1 ∷ pos 2 ∷ []) (neg 1 ∷ pos 0 ∷ pos 6 ∷ neg 3 ∷ pos 2 ∷ pos 2 ∷ pos 4 ∷ pos 1 ∷ neg 14 ∷ [])
    yields rules false false false
    ∷ paired (pos 0 ∷ neg 3 ∷ pos 2 ∷ pos 0 ∷ pos 1 ∷ pos 3 ∷ neg 3 ∷ pos 0 ∷ neg 1 ∷ []) (pos 0 ∷ pos 0 ∷ pos 0 ∷ neg 1 ∷ pos 0 ∷ neg 1 ∷ neg 3 ∷ neg 2 ∷ pos 3 ∷ [])
    yields rules true false false
    ∷ paired (pos 0 ∷ neg 1 ∷ neg 3 ∷ pos 1 ∷ pos 3 ∷ pos 2 ∷ pos 3 ∷ pos 6 ∷ pos 3 ∷ pos 2 ∷ pos 2 ∷ neg 2 ∷ []) (pos 1 ∷ neg 8 ∷ neg 7 ∷ pos 0 ∷ neg 1 ∷ neg 3 ∷ neg 3 ∷ neg 2 ∷ neg 9 ∷ pos 1 ∷ pos 3 ∷ pos 2 ∷ [])
    yields rules false false false
    ∷ []

pub hold1 : Holds rows1
unfolding rows1 asked said
hold1 = refl

unfoldable pub rows2 : List Case
unfolding text of_bits
rows2 =
    paired (neg 4 ∷ pos 3 ∷ pos 3 ∷ pos 1 ∷ pos 1 ∷ neg 2 ∷ neg 13 ∷ pos 5 ∷ pos 9 ∷ pos 0 ∷ pos 3 ∷ pos 2 ∷ []) (pos 1 ∷ pos 2 ∷ neg 4 ∷ pos 1 ∷ pos 1 ∷ neg 2 ∷ pos 1 ∷ pos 0 ∷ pos 0 ∷ neg 13 ∷ pos 5 ∷ pos 9 ∷ [])
    yields rules false false false
    ∷ paired (neg 3 ∷ pos 3 ∷ pos 3 ∷ neg 11 ∷ pos 10 ∷ pos 8 ∷ neg 2 ∷ neg 2 ∷ neg 1 ∷ pos 0 ∷ neg 1 ∷ pos 0 ∷ pos 8 ∷ neg 8 ∷ neg 5 ∷ neg 1 ∷ pos 4 ∷ pos 4 ∷ []) (pos 0 ∷ neg 1 ∷ pos 0 ∷ pos 0 ∷ pos 2 ∷ pos 0 ∷ neg 3 ∷ pos 3 ∷ pos 3 ∷ neg 3 ∷ pos 0 ∷ pos 3 ∷ [])
    yields rules false false true
    ∷ paired (pos 0 ∷ neg 1 ∷ neg 1 ∷ neg 1 ∷ neg 2 ∷ pos 2 ∷ neg 1 ∷ neg 3 ∷ pos 6 ∷ pos 0 ∷ neg 2 ∷ pos 3 ∷ []) (neg 3 ∷ neg 3 ∷ pos 3 ∷ neg 1 ∷ neg 2 ∷ pos 2 ∷ pos 2 ∷ pos 0 ∷ neg 2 ∷ pos 0 ∷ neg 1 ∷ neg 1 ∷ [])
    yields rules false false false
    ∷ []

pub hold2 : Holds rows2
unfolding rows2 asked said
hold2 = refl

unfoldable pub rows3 : List Case
unfolding text of_bits
rows3 =
    paired (pos 2 ∷ neg 7 ∷ neg 11 ∷ neg 4 ∷ neg 1 ∷ pos 1 ∷ pos 1 ∷ pos 1 ∷ pos 3 ∷ pos 2 ∷ pos 7 ∷ pos 13 ∷ pos 8 ∷ pos 1 ∷ pos 1 ∷ pos 3 ∷ neg 1 ∷ neg 1 ∷ []) (pos 8 ∷ pos 1 ∷ pos 1 ∷ pos 4 ∷ neg 1 ∷ pos 4 ∷ neg 1 ∷ neg 3 ∷ pos 2 ∷ pos 3 ∷ neg 1 ∷ neg 1 ∷ pos 7 ∷ pos 1 ∷ neg 4 ∷ pos 12 ∷ pos 3 ∷ neg 2 ∷ [])
    yields rules false false false
    ∷ paired (pos 8 ∷ neg 5 ∷ neg 3 ∷ neg 6 ∷ neg 1 ∷ pos 7 ∷ pos 6 ∷ pos 2 ∷ neg 5 ∷ []) (pos 4 ∷ pos 9 ∷ neg 7 ∷ pos 6 ∷ pos 2 ∷ neg 5 ∷ pos 8 ∷ neg 5 ∷ neg 3 ∷ neg 4 ∷ neg 8 ∷ pos 9 ∷ neg 7 ∷ neg 5 ∷ pos 10 ∷ neg 6 ∷ neg 1 ∷ pos 7 ∷ [])
    yields rules false false false
    ∷ paired (neg 2 ∷ neg 8 ∷ neg 9 ∷ neg 2 ∷ neg 4 ∷ neg 4 ∷ neg 2 ∷ pos 4 ∷ pos 6 ∷ neg 1 ∷ pos 3 ∷ pos 3 ∷ pos 0 ∷ pos 10 ∷ pos 10 ∷ pos 0 ∷ pos 6 ∷ pos 5 ∷ neg 1 ∷ neg 9 ∷ neg 12 ∷ []) (pos 0 ∷ pos 2 ∷ pos 0 ∷ pos 1 ∷ pos 13 ∷ pos 12 ∷ neg 2 ∷ pos 0 ∷ pos 1 ∷ neg 3 ∷ neg 3 ∷ neg 1 ∷ neg 1 ∷ neg 9 ∷ neg 12 ∷ [])
    yields rules false true false
    ∷ []

pub hold3 : Holds rows3
unfolding rows3 asked said
hold3 = refl

unfoldable pub rows4 : List Case
unfolding text of_bits
rows4 =
    paired (pos 1 ∷ neg 3 ∷ neg 2 ∷ pos 3 ∷ neg 9 ∷ neg 6 ∷ pos 3 ∷ neg 9 ∷ neg 4 ∷ neg 1 ∷ pos 3 ∷ pos 6 ∷ neg 1 ∷ pos 3 ∷ pos 5 ∷ pos 0 ∷ pos 0 ∷ pos 2 ∷ []) (pos 1 ∷ neg 3 ∷ neg 1 ∷ pos 0 ∷ pos 0 ∷ pos 4 ∷ pos 1 ∷ neg 3 ∷ pos 2 ∷ pos 3 ∷ neg 9 ∷ neg 8 ∷ [])
    yields rules false true false
    ∷ paired (neg 7 ∷ neg 3 ∷ pos 15 ∷ pos 1 ∷ pos 2 ∷ neg 3 ∷ neg 3 ∷ neg 5 ∷ pos 3 ∷ neg 2 ∷ neg 1 ∷ pos 3 ∷ []) (neg 5 ∷ pos 1 ∷ pos 13 ∷ neg 3 ∷ neg 5 ∷ pos 3 ∷ neg 17 ∷ neg 3 ∷ pos 41 ∷ neg 7 ∷ neg 3 ∷ pos 15 ∷ [])
    yields rules false false false
    ∷ paired (pos 7 ∷ pos 4 ∷ pos 0 ∷ pos 1 ∷ pos 0 ∷ neg 3 ∷ neg 8 ∷ neg 7 ∷ neg 6 ∷ neg 2 ∷ neg 3 ∷ neg 3 ∷ []) (neg 2 ∷ neg 3 ∷ neg 3 ∷ pos 2 ∷ pos 0 ∷ neg 2 ∷ pos 7 ∷ pos 4 ∷ pos 0 ∷ pos 3 ∷ pos 1 ∷ neg 1 ∷ [])
    yields rules false false false
    ∷ []

pub hold4 : Holds rows4
unfolding rows4 asked said
hold4 = refl

unfoldable pub rows5 : List Case
unfolding text of_bits
rows5 =
    covering (pos 0 ∷ pos 2 ∷ pos 3 ∷ pos 0 ∷ pos 3 ∷ pos 3 ∷ neg 1 ∷ neg 1 ∷ pos 0 ∷ []) (pos 0 ∷ pos 1 ∷ neg 2 ∷ pos 0 ∷ neg 3 ∷ pos 1 ∷ pos 2 ∷ neg 1 ∷ pos 2 ∷ [])
    yields tests (false ∷ [])
    ∷ covering (neg 3 ∷ pos 4 ∷ pos 5 ∷ neg 1 ∷ pos 2 ∷ pos 0 ∷ pos 0 ∷ pos 0 ∷ pos 0 ∷ neg 1 ∷ pos 0 ∷ pos 5 ∷ []) (pos 3 ∷ pos 0 ∷ pos 5 ∷ pos 5 ∷ pos 2 ∷ pos 5 ∷ pos 3 ∷ pos 1 ∷ pos 0 ∷ pos 2 ∷ pos 0 ∷ pos 0 ∷ [])
    yields tests (false ∷ [])
    ∷ covering (pos 3 ∷ pos 2 ∷ pos 4 ∷ neg 1 ∷ neg 3 ∷ neg 5 ∷ pos 1 ∷ pos 4 ∷ pos 4 ∷ []) (pos 1 ∷ pos 4 ∷ pos 4 ∷ pos 3 ∷ pos 2 ∷ pos 4 ∷ pos 5 ∷ pos 0 ∷ pos 4 ∷ neg 1 ∷ neg 3 ∷ neg 5 ∷ [])
    yields tests (false ∷ [])
    ∷ []

pub hold5 : Holds rows5
unfolding rows5 asked said
hold5 = refl
