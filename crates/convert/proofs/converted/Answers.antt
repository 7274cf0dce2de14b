-- `convert::converted`: what refuses the drawing, or what is said of its walk.
use mathlib.Core.Path.{refl}
use Rattle.paper.specs.Drawing.{wire}
use Rattle.convert.proofs.Walking.{rows_whole}
use Rattle.convert.proofs.Converting.{refuses, concludes}
use Rattle.convert.proofs.converted.Goals as goal

pub concluded-requires : goal.concluded-requires
concluded-requires c =
    let d = c.in-Ok.ensures in
    let p = c.requires in
    record {
      few = d.few;
      roomy = d.roomy;
      rows_long = rows_whole d refl;
      faces_fit = p.faces_fit;
      solids_fit = p.solids_fit;
    }

pub returns-in-Err : goal.returns-in-Err
returns-in-Err c = refuses _ c.in-Err.r _ _ _ c.in-Err.ensures

pub returns-in-Ok : goal.returns-in-Ok
returns-in-Ok c =
    let a = c.args in
    concludes (wire a.xyz.now a.ends.now) a.limit a.faces.now a.solids.now c.in-Ok.ensures c.concluded.ensures
