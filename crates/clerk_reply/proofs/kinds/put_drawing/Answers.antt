-- `clerk_reply::kinds::put_drawing`: three parts are put behind one another. Each need goes back to the calls and to the start.
use Rattle.desk_lines.proofs.Putting.{fits-first, fits_next, puts_both}
use Rattle.clerk_words.specs.Words.{numbers_bytes}
use Rattle.clerk_reply.proofs.kinds.put_drawing.Goals as goal

pub put_words-told-requires : goal.put_words-told-requires
put_words-told-requires c =
    fits-first (numbers_bytes c.args.xyz.now) (fits-first c.args.ends.now c.requires)

pub put_numbers-placed-requires : goal.put_numbers-placed-requires
put_numbers-placed-requires c =
    fits_next c.put_words-told.ensures (fits-first c.args.ends.now c.requires)

pub put_text-requires : goal.put_text-requires
put_text-requires c =
    fits_next (puts_both c.put_words-told.ensures c.put_numbers-placed.ensures) c.requires

pub returns : goal.returns
returns c =
    puts_both (puts_both c.put_words-told.ensures c.put_numbers-placed.ensures) c.put_text.ensures
