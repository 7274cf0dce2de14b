-- `desk_text::desk_text`: the text is copied where there is room for it. Each need goes back to where it was put, and to the start.
use mathlib.Core.Path.{ap, ◌∙◌}
use Rattle.paper.specs.Desk.{desk_text}
use Rattle.paper.specs.Reading.{written_says}
use native.Mathlib.Omega.{arith}
use Rattle.desk_lines.proofs.Putting.{puts_long}
use Rattle.desk_text.proofs.Desk.{desk_short}
use Rattle.desk_text.proofs.Written.{no_room, length_is, copied-leaves}
use Rattle.desk_text.proofs.desk_text.Goals as goal

pub returns-then-room-n : goal.returns-then-room-n
returns-then-room-n c =
    let a = c.args in
    let t = desk_text a.sheet.now in
    let p = no_room t a.room.now (omega (arith, length_is t a.room.now c.put_desk-n.ensures)) in
    record { answer = c.refused.ensures ∙ p.0; said = ap written_says c.refused.ensures ∙ p.1.0; kept = p.1.1 }

pub copy-requires : goal.copy-requires
copy-requires c =
    let a = c.args in
    let t = desk_text a.sheet.now in
    record {
      there = omega (arith, desk_short a.sheet.now, length_is t a.room.now c.put_desk-n.ensures, puts_long c.put_desk-n.ensures);
      fits = omega arith;
    }

pub returns : goal.returns
returns c =
    let a = c.args in
    let p = copied-leaves (desk_text a.sheet.now) a.room.now c.put_desk-n.ensures (desk_short a.sheet.now) (omega arith)
    c.copy.ensures in
    record { answer = p.0; said = p.1.0; kept = p.1.1 }
