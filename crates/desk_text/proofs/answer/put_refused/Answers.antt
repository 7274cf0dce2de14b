-- `desk_text::answer::put_refused`: the line's end is put behind its fields. Each need goes back from its call to the one before and to the
-- start.
use Rattle.paper.specs.Desk.{text}
use Rattle.desk_lines.proofs.Putting.{fits-first, fits_next, puts_both}
use Rattle.desk_text.proofs.answer.put_refused.Goals as goal

pub put_pair-named-requires : goal.put_pair-named-requires
unfolding text
put_pair-named-requires c = rw c.from.ensures (fits-first (text "\n") c.requires)

pub put_text-requires : goal.put_text-requires
unfolding text
put_text-requires c = fits_next (rw c.from.ensures at c.put_pair-named.ensures) c.requires

pub returns : goal.returns
unfolding text
returns c = puts_both (rw c.from.ensures at c.put_pair-named.ensures) c.put_text.ensures
