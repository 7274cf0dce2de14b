-- `verdict_tests::tested`: each way out is one of the laws (`Testing`); that the checks before it are passed is known there.
use Rattle.std.proofs.Common.{rules}
use Rattle.std.proofs.lemmas.Result.{err_from_is_err_and}
use Rattle.verdict_tests.proofs.Testing.{refused_23, refused_24, refused_25, refused_26, last_27}
use Rattle.verdict_tests.proofs.tested.Goals as goal

pub returns-in_err-edge_count : goal.returns-in_err-edge_count
returns-in_err-edge_count c =
    let p = err_from_is_err_and c.from_residual.result c.from_residual.ensures.1 in
    rw (p.1, p.2) (refused_23 _ _ _ _ _ _ c.in_err-edge_count.ensures)

pub returns-in_err-direction : goal.returns-in_err-direction
returns-in_err-direction c =
    let f = c.from_residual-in_err-direction in
    let p = err_from_is_err_and f.result f.ensures.1 in
    rw (p.1, p.2) (refused_24 _ _ _ _ _ _ (search rules) c.in_err-direction.ensures)

pub returns-in_err-pieces : goal.returns-in_err-pieces
returns-in_err-pieces c =
    let f = c.from_residual-in_err-pieces in
    let p = err_from_is_err_and f.result f.ensures.1 in
    rw (p.1, p.2) (refused_25 _ _ _ _ _ _ (search rules) (search rules) c.in_err-pieces.ensures)

pub returns-in_err-inward : goal.returns-in_err-inward
returns-in_err-inward c =
    let f = c.from_residual-in_err-inward in
    let p = err_from_is_err_and f.result f.ensures.1 in
    rw (p.1, p.2) (refused_26 _ _ _ _ _ _ (search rules) (search rules) (search rules) c.in_err-inward.ensures)

pub returns : goal.returns
returns c = last_27 _ _ _ _ _ _ (search rules) (search rules) (search rules) (search rules) c.clash.ensures
