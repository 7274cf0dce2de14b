-- `polygon::points::minus`: each difference of two coordinates fits an `i64`, and is read back as it is.
use Rattle.exact.proofs.Machine.{asked, reads}
use Rattle.exact.proofs.Ring.{◌⊖◌, var}
use Rattle.paper.specs.Points.{minus}
use Rattle.polygon.proofs.Pairs.{both}
use Rattle.polygon.proofs.points.minus.Goals as goal

-- ---- the needs

pub overflow_sub-result : goal.overflow_sub-result
overflow_sub-result c = asked (both c.requires) (var 0 ⊖ var 3) tt

pub overflow_sub-result-2 : goal.overflow_sub-result-2
overflow_sub-result-2 c = asked (both c.requires) (var 1 ⊖ var 4) tt

pub overflow_sub-result-3 : goal.overflow_sub-result-3
overflow_sub-result-3 c = asked (both c.requires) (var 2 ⊖ var 5) tt

pub returns : goal.returns
unfolding minus
returns c =
    let s = both c.requires in
    λ i. record {
      x = reads s (var 0 ⊖ var 3) tt i;
      y = reads s (var 1 ⊖ var 4) tt i;
      z = reads s (var 2 ⊖ var 5) tt i;
    }
