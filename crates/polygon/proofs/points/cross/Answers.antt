-- `polygon::points::cross`: each product and each difference of two fits an `i64`, and the differences are read back as they are.
use Rattle.exact.proofs.Machine.{asked, reads}
use Rattle.exact.proofs.Ring.{◌⊖◌, ◌⊗◌, var}
use Rattle.paper.specs.Points.{cross}
use Rattle.polygon.proofs.Pairs.{both}
use Rattle.polygon.proofs.points.cross.Goals as goal

-- ---- the needs

pub overflow_mul-result : goal.overflow_mul-result
overflow_mul-result c = asked (both c.requires) (var 1 ⊗ var 5) tt

pub overflow_mul-result-2 : goal.overflow_mul-result-2
overflow_mul-result-2 c = asked (both c.requires) (var 2 ⊗ var 4) tt

pub overflow_sub-result : goal.overflow_sub-result
overflow_sub-result c = asked (both c.requires) (var 1 ⊗ var 5 ⊖ var 2 ⊗ var 4) tt

pub overflow_mul-result-3 : goal.overflow_mul-result-3
overflow_mul-result-3 c = asked (both c.requires) (var 2 ⊗ var 3) tt

pub overflow_mul-result-4 : goal.overflow_mul-result-4
overflow_mul-result-4 c = asked (both c.requires) (var 0 ⊗ var 5) tt

pub overflow_sub-result-2 : goal.overflow_sub-result-2
overflow_sub-result-2 c = asked (both c.requires) (var 2 ⊗ var 3 ⊖ var 0 ⊗ var 5) tt

pub overflow_mul-result-5 : goal.overflow_mul-result-5
overflow_mul-result-5 c = asked (both c.requires) (var 0 ⊗ var 4) tt

pub overflow_mul-result-6 : goal.overflow_mul-result-6
overflow_mul-result-6 c = asked (both c.requires) (var 1 ⊗ var 3) tt

pub overflow_sub-result-3 : goal.overflow_sub-result-3
overflow_sub-result-3 c = asked (both c.requires) (var 0 ⊗ var 4 ⊖ var 1 ⊗ var 3) tt

pub returns : goal.returns
unfolding cross
returns c =
    let s = both c.requires in
    λ i. record {
      x = reads s (var 1 ⊗ var 5 ⊖ var 2 ⊗ var 4) tt i;
      y = reads s (var 2 ⊗ var 3 ⊖ var 0 ⊗ var 5) tt i;
      z = reads s (var 0 ⊗ var 4 ⊖ var 1 ⊗ var 3) tt i;
    }
