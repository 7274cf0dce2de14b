-- `inside::under`: d times a coordinate fits an `i64`, and is read back as it is.
use lib.Signed.{le_z}
use Rattle.exact.proofs.Machine.{◌▸◌, asked, done, reads}
use Rattle.exact.proofs.Ring.{◌⊗◌, var}
use Rattle.paper.specs.Polygon.{under}
use Rattle.polygon.proofs.Zeros.{reads_back}
use Rattle.inside.proofs.under.Goals as goal

pub overflow_mul-result : goal.overflow_mul-result
overflow_mul-result c =
    let h = c.requires in
    asked (h.d_in ▸ h.a_in.v_in ▸ done) (var 0 ⊗ var 1) tt

pub returns : goal.returns
unfolding under
returns c =
    let da = reads (c.requires.d_in ▸ c.requires.a_in.v_in ▸ done) (var 0 ⊗ var 1) tt in
    λ i. le_z (da i) (reads_back c.args.p.v c.struct_told-2-1.given.1.0.1 i)
