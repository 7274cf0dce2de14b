-- `desk_text::answer::put_report`: four parts are put behind one another. Each need goes back from its call to the ones before and to the
-- start.
use Rattle.paper.specs.Desk.{text, solids_text}
use Rattle.desk_lines.specs.Put.{field_text}
use Rattle.desk_lines.proofs.Putting.{fits-first, fits_next, puts_both}
use Rattle.desk_text.proofs.answer.put_report.Goals as goal

-- ---- the needs

pub put_head-at-requires : goal.put_head-at-requires
put_head-at-requires c =
    let n = c.args.n in
    fits-first (field_text (text "solids ") n)
    (fits-first (text "\n") (fits-first (solids_text 1 n c.args.words.now) c.requires.fits))

pub put_field-counted-requires : goal.put_field-counted-requires
unfolding text
put_field-counted-requires c =
    fits_next c.put_head-at.ensures (fits-first (text "\n") (fits-first (solids_text 1 c.args.n c.args.words.now) c.requires.fits))

pub put_text-ended-requires : goal.put_text-ended-requires
unfolding text
put_text-ended-requires c =
    fits_next (puts_both c.put_head-at.ensures c.put_field-counted.ensures)
    (fits-first (solids_text 1 c.args.n c.args.words.now) c.requires.fits)

pub put_solids-requires : goal.put_solids-requires
unfolding text
put_solids-requires c =
    record {
      words = c.requires.words;
      fits = fits_next (puts_both (puts_both c.put_head-at.ensures c.put_field-counted.ensures) c.put_text-ended.ensures) c.requires.fits;
    }

pub returns : goal.returns
unfolding text
returns c =
    puts_both (puts_both (puts_both c.put_head-at.ensures c.put_field-counted.ensures) c.put_text-ended.ensures) c.put_solids.ensures
