-- `verdict::check`: the checks of the lent lists, then what is behind them.
use mathlib.Core.Path.{ap}
use Rattle.std.proofs.lemmas.Result.{err_from_is_err_and}
use Rattle.paper.specs.Sheet.{lent_checks}
use Rattle.paper.specs.Drawing.{wire}
use Rattle.paper.specs.Verdict.{verdict_lists}
use Rattle.paper.specs.Reading.{verdict_says}
use Rattle.verdict.proofs.Deciding.{form_stops, rest_decides}
use Rattle.verdict.proofs.check.Goals as goal

pub returns-in_err-lent : goal.returns-in_err-lent
unfolding verdict_lists
returns-in_err-lent c =
    let a = c.args in
    let p = err_from_is_err_and c.from_residual.result c.from_residual.ensures.1 in
    let e = form_stops (wire a.xyz.now a.ends.now) a.list.now (lent_checks a.xyz.now a.ends.now) c.in_err-lent.ensures in
    rw (p.1, p.2) (record { result = e; said = ap verdict_says e })

pub checked-requires : goal.checked-requires
checked-requires c = c.in_ok-lent.ensures

pub returns : goal.returns
unfolding verdict_lists
returns c =
    let a = c.args in
    let e = rest_decides (wire a.xyz.now a.ends.now) a.list.now (lent_checks a.xyz.now a.ends.now) c.in_ok-lent.ensures c.checked.ensures in
    record { result = e; said = ap verdict_says e }
