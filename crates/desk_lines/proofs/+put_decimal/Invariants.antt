-- `desk_lines::put_decimal`: a tenth of the number is less.
use Rattle.desk_lines.proofs.+put_decimal.Given as goal

abbrev pub decreases-put_decimal : goal.decreases-put_decimal
decreases-put_decimal l = l.n
