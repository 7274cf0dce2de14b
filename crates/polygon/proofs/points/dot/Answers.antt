-- `polygon::points::dot`: each product and each sum of them fits an `i64`, and the last is read back as it is.
use Rattle.exact.proofs.Machine.{asked, reads}
use Rattle.exact.proofs.Ring.{◌⊕◌, ◌⊗◌, var}
use Rattle.paper.specs.Points.{dot}
use Rattle.polygon.proofs.Pairs.{both}
use Rattle.polygon.proofs.points.dot.Goals as goal

-- ---- the needs

pub overflow_mul-result : goal.overflow_mul-result
overflow_mul-result c = asked (both c.requires) (var 0 ⊗ var 3) tt

pub overflow_mul-result-2 : goal.overflow_mul-result-2
overflow_mul-result-2 c = asked (both c.requires) (var 1 ⊗ var 4) tt

pub overflow_add-result : goal.overflow_add-result
overflow_add-result c = asked (both c.requires) (var 0 ⊗ var 3 ⊕ var 1 ⊗ var 4) tt

pub overflow_mul-result-3 : goal.overflow_mul-result-3
overflow_mul-result-3 c = asked (both c.requires) (var 2 ⊗ var 5) tt

pub overflow_add-result-2 : goal.overflow_add-result-2
overflow_add-result-2 c = asked (both c.requires) (var 0 ⊗ var 3 ⊕ var 1 ⊗ var 4 ⊕ var 2 ⊗ var 5) tt

pub returns : goal.returns
unfolding dot
returns c = reads (both c.requires) (var 0 ⊗ var 3 ⊕ var 1 ⊗ var 4 ⊕ var 2 ⊗ var 5) tt
