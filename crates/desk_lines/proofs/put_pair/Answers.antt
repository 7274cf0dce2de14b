-- `desk_lines::put_pair`: the second field is put behind the first. Each need goes back from its call to the one before and to the
-- start.
use Rattle.desk_lines.specs.Put.{field_text}
use Rattle.desk_lines.proofs.Putting.{fits-first, fits_next, puts_both}
use Rattle.desk_lines.proofs.put_pair.Goals as goal

pub put_field-next-requires : goal.put_field-next-requires
put_field-next-requires c =
    fits-first (field_text c.args.other.now c.args.m) c.requires

pub put_field-requires : goal.put_field-requires
put_field-requires c = fits_next c.put_field-next.ensures c.requires

pub returns : goal.returns
returns c =
    puts_both c.put_field-next.ensures c.put_field.ensures
