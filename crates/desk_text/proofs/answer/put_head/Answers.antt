-- `desk_text::answer::put_head`: four parts are put behind one another. Each need goes back from its call to the ones before and to the
-- start.
use Rattle.paper.specs.Desk.{text}
use Rattle.desk_lines.specs.Put.{field_text, pair_text}
use Rattle.desk_lines.proofs.Putting.{fits-first, fits_next, puts_both}
use Rattle.desk_text.proofs.answer.put_head.Goals as goal

-- ---- the needs

pub put_pair-wired-requires : goal.put_pair-wired-requires
unfolding text
put_pair-wired-requires c =
    let h = c.args.h in
    fits-first (pair_text (text "\nloops ") h.loops (text " candidates ") h.candidates)
    (fits-first (field_text (text "\nwork ") h.work) (fits-first (text "\n") c.requires))

pub put_pair-counted-requires : goal.put_pair-counted-requires
unfolding text
put_pair-counted-requires c =
    fits_next c.put_pair-wired.ensures (fits-first (field_text (text "\nwork ") c.args.h.work) (fits-first (text "\n") c.requires))

pub put_field-worked-requires : goal.put_field-worked-requires
unfolding text
put_field-worked-requires c =
    fits_next (puts_both c.put_pair-wired.ensures c.put_pair-counted.ensures) (fits-first (text "\n") c.requires)

pub put_text-requires : goal.put_text-requires
unfolding text
put_text-requires c =
    fits_next (puts_both (puts_both c.put_pair-wired.ensures c.put_pair-counted.ensures) c.put_field-worked.ensures) c.requires

pub returns : goal.returns
unfolding text
returns c =
    puts_both (puts_both (puts_both c.put_pair-wired.ensures c.put_pair-counted.ensures) c.put_field-worked.ensures) c.put_text.ensures
