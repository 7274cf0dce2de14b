-- `desk_lines::put_text`: the text is copied to the room behind the place. Goes back to the start.
use Rattle.desk_lines.proofs.Putting.{text_put}
use Rattle.desk_lines.proofs.put_text.Goals as goal

pub returns : goal.returns
returns c =
    text_put c.args.at c.args.text.now c.args.room.now c.requires c.copy.ensures
