-- `demanded_together::written_and_read`: the reader gets what the writer left in its room.
use mathlib.Core.Path.{sym}
use lib.Seq.{length-take-le}
use Rattle.demanded_together.proofs.Back.{written_fits, read_back, not_written}
use Rattle.demanded_together.proofs.written_and_read.Goals as goal

-- the bytes that the writer reports are in its room
pub slice_bounds-read_sheet-end : goal.slice_bounds-read_sheet-end
slice_bounds-read_sheet-end c =
    let a = c.args in
    written_fits a.xyz.now a.ends.now a.room.now c.write_sheet.ensures.kept c.in-Ok.ensures.answer

pub slice_bounds-read_sheet-end-in-Ok : goal.slice_bounds-read_sheet-end-in-Ok
slice_bounds-read_sheet-end-in-Ok c =
    let a = c.args in
    sym (length-take-le _ _ (written_fits a.xyz.now a.ends.now a.room.now c.write_sheet.ensures.kept c.in-Ok.ensures.answer))

pub returns-in-Ok : goal.returns-in-Ok
returns-in-Ok c =
    let a = c.args in
    read_back a.xyz.now a.ends.now a.room.now c.write_sheet.ensures.kept c.in-Ok.ensures.answer c.read_sheet.ensures.result

pub returns-in-Err : goal.returns-in-Err
returns-in-Err c =
    let a = c.args in
    not_written a.xyz.now a.ends.now a.room.now c.write_sheet.ensures.kept c.in-Err.ensures.answer
