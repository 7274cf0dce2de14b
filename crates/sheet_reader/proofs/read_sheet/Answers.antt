-- `sheet_reader::read_sheet`: the reader, in the edition that the sheet says, which fits.
use mathlib.Core.Path.{◌∙◌, ap}
use Rattle.paper.specs.Format.{edition_of}
use Rattle.paper.specs.Reading.{answer_says}
use Rattle.paper.specs.Sheet.{sheet_of}
use Rattle.paper.specs.declared.Format.{Format}
use Rattle.paper.specs.Sheet.{Sheet}
use Rattle.sheet_laws.proofs.Said.{sheet-said}
use Rattle.sheet_shape.proofs.Sizes.{fits_of}
use Rattle.sheet_reader.proofs.read_sheet.Goals as goal

pub read-requires : goal.read-requires
read-requires c = rw c.edition_of.ensures (fits_of _)

pub returns : goal.returns
returns c =
    let s = c.args.sheet.now in
    let is = c.read.ensures ∙ ap (λ (f : Format). sheet_of f s) c.edition_of.ensures in
    record { result = is; said = ap (λ (r : Sheet). answer_says r.answer) is ∙ sheet-said (edition_of s) s }
