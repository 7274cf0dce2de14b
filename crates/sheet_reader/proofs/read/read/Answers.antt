-- `sheet_reader::read::read`: a sheet that 3 to 7 refuse has no drawing, and any other is read.
use Rattle.std.proofs.lemmas.Result.{err_from_is_err_and}
use Rattle.sheet_reader.proofs.Drawn.{sheet_misshapen}
use Rattle.sheet_reader.proofs.read.read.Goals as goal

pub returns-in_err-shape : goal.returns-in_err-shape
returns-in_err-shape c =
    let p = err_from_is_err_and c.from_residual.result c.from_residual.ensures.1 in
    rw (p.1, p.2) (sheet_misshapen _ _ c.in_err-shape.ensures)

pub drawn-requires : goal.drawn-requires
drawn-requires c = record { fits = c.requires; passes = c.in_ok-shape.ensures }
