-- `desk_lines::put_field`: the number is put behind its name. Each need goes back from its call to the one before and to the start.
use Rattle.paper.specs.Desk.{decimal}
use Rattle.desk_lines.proofs.Putting.{fits-first, fits_next, puts_both}
use Rattle.desk_lines.proofs.put_field.Goals as goal

pub put_text-next-requires : goal.put_text-next-requires
put_text-next-requires c = fits-first (decimal c.args.n) c.requires

pub put_decimal-requires : goal.put_decimal-requires
put_decimal-requires c = fits_next c.put_text-next.ensures c.requires

pub returns : goal.returns
returns c =
    puts_both c.put_text-next.ensures c.put_decimal.ensures
