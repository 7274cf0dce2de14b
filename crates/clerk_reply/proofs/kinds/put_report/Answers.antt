-- `clerk_reply::kinds::put_report`: four parts are put behind one another. Each need goes back to the calls and to the start.
use Rattle.desk_lines.proofs.Putting.{fits-first, fits_next, puts_both}
use Rattle.clerk_words.specs.Words.{words_bytes}
use Rattle.clerk_reply.proofs.kinds.put_report.Goals as goal

pub put_words-told-requires : goal.put_words-told-requires
put_words-told-requires c =
    let a = c.args in
    fits-first (words_bytes a.shown.now) (fits-first a.faces.now (fits-first (words_bytes a.solids.now) c.requires))

pub put_words-read-requires : goal.put_words-read-requires
put_words-read-requires c =
    fits_next c.put_words-told.ensures (fits-first c.args.faces.now (fits-first (words_bytes c.args.solids.now) c.requires))

pub put_text-listed-requires : goal.put_text-listed-requires
put_text-listed-requires c =
    fits_next (puts_both c.put_words-told.ensures c.put_words-read.ensures) (fits-first (words_bytes c.args.solids.now) c.requires)

pub put_words-requires : goal.put_words-requires
put_words-requires c =
    fits_next (puts_both (puts_both c.put_words-told.ensures c.put_words-read.ensures) c.put_text-listed.ensures) c.requires

pub returns : goal.returns
returns c =
    puts_both (puts_both (puts_both c.put_words-told.ensures c.put_words-read.ensures) c.put_text-listed.ensures) c.put_words.ensures
