-- `report::reported`: each way out is one of the laws, once the report is written.
use native.Mathlib.Omega.{arith}
use Rattle.report.proofs.Reporting.{says_no_solid, says_one, says_several}
use Rattle.report.proofs.reported.Goals as goal

-- ---- the needs

pub returns-then-found-eq0 : goal.returns-then-found-eq0
returns-then-found-eq0 c = says_no_solid c.if-found-eq0.true

pub returns-then-found-eq1 : goal.returns-then-found-eq1
returns-then-found-eq1 c = says_one c.requires c.write_report.ensures c.if-found-eq1.true

pub returns : goal.returns
returns c = says_several c.requires c.write_report.ensures (omega arith)
