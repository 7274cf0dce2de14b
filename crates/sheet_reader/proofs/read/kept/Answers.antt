-- `sheet_reader::read::kept`: what is returned follows the answer of the lists' checks.
use mathlib.Core.Path.{sym, ap}
use native.Mathlib.Omega.{arith}
use lib.Seq.{length-take-le}
use Rattle.std.proofs.lemmas.Result.{err_from_is_err_and}
use Rattle.paper.specs.Refusals.{Answer}
use Rattle.sheet_reader.specs.Kept.{kept_for, kept_of}
use Rattle.sheet_reader.proofs.read.kept.Goals as goal

pub slice_bounds-content-end : goal.slice_bounds-content-end
slice_bounds-content-end c = sym (length-take-le _ _ (omega arith))

pub slice_bounds-content-end-2 : goal.slice_bounds-content-end-2
slice_bounds-content-end-2 c = sym (length-take-le _ _ (omega arith))

pub returns-in_err-content : goal.returns-in_err-content
unfolding kept_of
returns-in_err-content c =
    let s = c.args in
    let p = err_from_is_err_and c.from_residual.result c.from_residual.ensures.1 in
    rw (p.1, p.2) (ap (λ (a : Answer). kept_for a s.v s.e s.xyz s.ends) c.in_err-content.ensures)

pub returns : goal.returns
unfolding kept_of
returns c =
    let s = c.args in
    ap (λ (a : Answer). kept_for a s.v s.e s.xyz s.ends) c.in_ok-content.ensures
