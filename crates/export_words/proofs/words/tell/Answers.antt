-- `export_words::words::tell`: as many words are copied as there are, or as there is room for.
use Rattle.export_words.proofs.Telling.{tells_short, tells_whole}
use Rattle.export_words.proofs.words.tell.Goals as goal

pub returns-then-reach-count : goal.returns-then-reach-count
returns-then-reach-count c =
    λ s h. tells_short h c.args.room.now c.if-reach-count.true c.copy.ensures

pub returns : goal.returns
returns c =
    λ s h. tells_whole h c.args.room.now c.if-reach-count.false c.copy-2.ensures
