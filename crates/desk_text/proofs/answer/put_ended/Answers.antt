-- `desk_text::answer::put_ended`: the last line is put behind the head. Each need goes back from its call to the one before and to the
-- start.
use Rattle.desk_lines.proofs.Putting.{fits-first, fits_next, puts_both}
use Rattle.desk_text.proofs.answer.put_ended.Goals as goal

pub put_head-at-requires : goal.put_head-at-requires
put_head-at-requires c = fits-first c.args.last.now c.requires

pub put_text-requires : goal.put_text-requires
put_text-requires c = fits_next c.put_head-at.ensures c.requires

pub returns : goal.returns
returns c = puts_both c.put_head-at.ensures c.put_text.ensures
