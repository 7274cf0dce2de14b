-- `report::room::write_report`: the two copies are the report.
use Rattle.report.proofs.room.write_report.Goals as goal

pub returns : goal.returns
returns c =
    record { faces_are = c.copy.ensures; solids_are = c.copy-2.ensures }
