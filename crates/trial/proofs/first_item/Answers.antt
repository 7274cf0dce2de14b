-- `trial::first_item`: the book begins with a length, and with the item behind it where that is whole.
use Rattle.std.proofs.Common.{◌+◌, ◌*◌}
use Rattle.trial.proofs.Book.{items-none, items-one, items-first}
use Rattle.trial.proofs.first_item.Goals as goal

pub returns-in_err-high-clause-first : goal.returns-in_err-high-clause-first
returns-in_err-high-clause-first c =
    rw c.from_residual.ensures (items-none _ c.in_err-high.ensures.cases)

pub returns-in_err-low-clause-first : goal.returns-in_err-low-clause-first
returns-in_err-low-clause-first c =
    rw c.from_residual-in_err-low.ensures (items-one c.in_ok-high.ensures.cases.0 c.in_err-low.ensures.cases)

pub returns-clause-first : goal.returns-clause-first
returns-clause-first c =
    items-first c.in_ok-high.ensures.cases.0 c.in_ok-low.ensures.cases.0 (λ i. 256 * c.from.ensures i + c.from-2.ensures i)
    (λ p. p.0.now) (λ p. p.1.now) c.split_at_checked.result c.split_at_checked.ensures.cases
