-- `desk_text::put_desk`: the answer's text is the sheet's. Each need goes back to the conversion, to the counts and to the start.
use mathlib.Core.Path.{sym}
use native.Mathlib.Omega.{arith}
use Rattle.desk_lines.proofs.Putting.{puts_as}
use Rattle.desk_text.proofs.Desk.{text_is, answering}
use Rattle.desk_text.proofs.put_desk.Goals as goal

-- ---- the needs

pub put_answer-requires : goal.put_answer-requires
put_answer-requires c =
    answering c.args.sheet.now c.counted-counts.result c.counted-counts.ensures c.convert_sheet-answer.ensures.result (omega arith) c.requires

pub returns : goal.returns
returns c =
    puts_as (sym (text_is c.args.sheet.now c.counted-counts.result c.counted-counts.ensures c.convert_sheet-answer.ensures.result))
    c.put_answer.ensures
