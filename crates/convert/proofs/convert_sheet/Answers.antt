-- `convert::convert_sheet`: 1 and 2, then the checks of the sheet, then what is behind them, of the lists that it holds.
use mathlib.Core.Path.{refl, ap}
use Rattle.paper.specs.Format.{coordinates_in, ends_in, edition_of}
use Rattle.paper.specs.Sheet.{Sheet, sheet_checks, sheet_of}
use Rattle.paper.specs.Drawing.{wire}
use Rattle.paper.specs.Conversion.{convert_sheet}
use Rattle.convert.proofs.Converting.{stopped, stopped_at-form, gone_behind, roomy_enough}
use Rattle.convert.proofs.Sheets.{sheet-at, sheet_converts}
use Rattle.convert.proofs.convert_sheet.Goals as goal

pub returns-in-Err : goal.returns-in-Err
unfolding convert_sheet
returns-in-Err c =
    let a = c.args in
    let s = a.sheet.now in
    let d = wire (coordinates_in (edition_of s) s) (ends_in (edition_of s) s) in
    let p = stopped (sheet_checks (edition_of s) s) d a.limit a.faces.now a.solids.now (c.in-Err.ensures a.faces.now a.solids.now refl refl) in
    record { result = p.0; said = p.1 }

pub returns-in-Err-read_sheet : goal.returns-in-Err-read_sheet
unfolding convert_sheet sheet_of
returns-in-Err-read_sheet c =
    let a = c.args in
    let s = a.sheet.now in
    let d = wire (coordinates_in (edition_of s) s) (ends_in (edition_of s) s) in
    let p = stopped_at-form (sheet_checks (edition_of s) s) d a.limit a.faces.now a.solids.now
    (c.in_default.ensures a.faces.now a.solids.now refl refl) (ap (λ (r : Sheet). r.answer) c.in-Err-read_sheet.ensures.result) in
    record { result = p.0; said = p.1 }

pub drawing_converted-requires : goal.drawing_converted-requires
unfolding sheet_of
drawing_converted-requires c =
    let a = c.args in
    let room = roomy_enough a.limit a.faces.now a.solids.now (c.in_default.ensures a.faces.now a.solids.now refl refl) in
    let read = c.in-Ok.ensures.result in
    sheet-at a.sheet.now read (ap (λ (r : Sheet). r.answer) read) room.0 room.1

pub returns-in-Ok : goal.returns-in-Ok
unfolding convert_sheet sheet_of
returns-in-Ok c =
    let a = c.args in
    let s = a.sheet.now in
    let d = wire (coordinates_in (edition_of s) s) (ends_in (edition_of s) s) in
    let read = c.in-Ok.ensures.result in
    let ok = ap (λ (r : Sheet). r.answer) read in
    let p = gone_behind (sheet_checks (edition_of s) s) d a.limit a.faces.now a.solids.now
    (c.in_default.ensures a.faces.now a.solids.now refl refl) ok
    (sheet_converts s read ok a.limit a.faces.now a.solids.now c.drawing_converted.ensures) in
    record { result = p.0; said = p.1 }
