-- `desk_lines::put_decimal`: one digit, or the last behind those of a tenth of the number, which is less. Each need goes back to the
-- start and to the calls between.
use Prim.Native.Nat.{◌%◌, ◌<◌}
use native.Mathlib.Omega.{arith}
use borrow.Author.Rules.{rules}
use Rattle.desk_lines.specs.Put.{digit_text}
use Rattle.desk_lines.proofs.Putting.{fits_as, puts_as, fits-first, fits_next, puts_both}
use Rattle.desk_lines.proofs.Decimal.{decimal-one, decimal_more}
use Rattle.desk_lines.proofs.+put_decimal.Goals as goal

-- ---- the needs

pub put_digit-requires : goal.put_digit-requires
put_digit-requires t c =
    let h : c.args.n < 10 = omega arith in
    (h, fits_as (decimal-one c.args.n h) c.requires)

pub shape_of-room-then-n-lt10 : goal.shape_of-room-then-n-lt10
shape_of-room-then-n-lt10 t c = search rules

pub returns-then-n-lt10 : goal.returns-then-n-lt10
returns-then-n-lt10 t c =
    puts_as (decimal-one c.args.n (omega arith)) c.put_digit.ensures

pub put_decimal-last-requires : goal.put_decimal-last-requires
put_decimal-last-requires t c =
    let n = c.args.n in
    (omega arith, fits-first (digit_text (n % 10)) (fits_as (decimal_more n (omega arith) (omega arith)) c.requires))

pub put_digit-requires-2 : goal.put_digit-requires-2
put_digit-requires-2 t c =
    (omega arith, fits_next c.put_decimal-last.ensures (fits_as (decimal_more c.args.n (omega arith) (omega arith)) c.requires))

pub shape_of-room : goal.shape_of-room
shape_of-room t c = search rules

pub returns : goal.returns
returns t c =
    puts_as (decimal_more c.args.n (omega arith) (omega arith)) (puts_both c.put_decimal-last.ensures c.put_digit-2.ensures)
