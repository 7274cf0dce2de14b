-- `clerk_words::put_word`: the bytes of the word are put as a text. Each need goes back to them and to the start.
use mathlib.Core.Path.{sym}
use Rattle.desk_lines.proofs.Putting.{fits_as, puts_as}
use Rattle.clerk_words.proofs.put_word.Goals as goal

pub put_text-requires : goal.put_text-requires
put_text-requires c = fits_as (sym c.word_bytes-bytes.ensures) c.requires

pub returns : goal.returns
returns c =
    puts_as (sym c.word_bytes-bytes.ensures) c.put_text.ensures
