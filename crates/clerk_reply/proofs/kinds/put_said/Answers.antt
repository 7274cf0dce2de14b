-- `clerk_reply::kinds::put_said`: the bytes are put behind what is said. Each need goes back to the calls and to the start.
use Rattle.desk_lines.proofs.Putting.{fits-first, fits_next, puts_both}
use Rattle.clerk_reply.proofs.kinds.put_said.Goals as goal

pub put_words-next-requires : goal.put_words-next-requires
put_words-next-requires c = fits-first c.args.bytes.now c.requires

pub put_text-requires : goal.put_text-requires
put_text-requires c = fits_next c.put_words-next.ensures c.requires

pub returns : goal.returns
returns c =
    puts_both c.put_words-next.ensures c.put_text.ensures
