-- `convert::convert`: 1 and 2, then the checks of the lent lists, then what is behind them.
use mathlib.Core.Path.{refl}
use Rattle.paper.specs.Sheet.{lent_checks}
use Rattle.paper.specs.Drawing.{wire}
use Rattle.paper.specs.Conversion.{convert_lists}
use Rattle.convert.proofs.Converting.{stopped, stopped_at-form, gone_behind, roomy_enough}
use Rattle.convert.proofs.convert.Goals as goal

pub returns-in-Err : goal.returns-in-Err
unfolding convert_lists
returns-in-Err c =
    let a = c.args in
    let p = stopped (lent_checks a.xyz.now a.ends.now) (wire a.xyz.now a.ends.now) a.limit a.faces.now a.solids.now
    (c.in-Err.ensures a.faces.now a.solids.now refl refl) in
    record { result = p.0; said = p.1 }

pub returns-in-Err-lent : goal.returns-in-Err-lent
unfolding convert_lists
returns-in-Err-lent c =
    let a = c.args in
    let p = stopped_at-form (lent_checks a.xyz.now a.ends.now) (wire a.xyz.now a.ends.now) a.limit a.faces.now a.solids.now
    (c.in_default.ensures a.faces.now a.solids.now refl refl) c.in-Err-lent.ensures in
    record { result = p.0; said = p.1 }

pub converted-requires : goal.converted-requires
converted-requires c =
    let a = c.args in
    let room = roomy_enough a.limit a.faces.now a.solids.now (c.in_default.ensures a.faces.now a.solids.now refl refl) in
    record { passed = c.in_default-lent.ensures; faces_fit = room.0; solids_fit = room.1 }

pub returns : goal.returns
unfolding convert_lists
returns c =
    let a = c.args in
    let p = gone_behind (lent_checks a.xyz.now a.ends.now) (wire a.xyz.now a.ends.now) a.limit a.faces.now a.solids.now
    (c.in_default.ensures a.faces.now a.solids.now refl refl) c.in_default-lent.ensures c.converted.ensures in
    record { result = p.0; said = p.1 }
