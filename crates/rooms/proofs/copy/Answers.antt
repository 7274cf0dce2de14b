-- `rooms::copy`: the loop keeps that the first i entries are copied.
use Rattle.rooms.proofs.Copying.{copying_start, copying_more, copying_end}
use Rattle.rooms.proofs.copy.Goals as goal

pub loop-i-init : goal.loop-i-init
loop-i-init g c = copying_start

pub loop-i-preserved : goal.loop-i-preserved
loop-i-preserved g c =
    let x = c.index-from-i.result in
    rw c.index-from-i.is (copying_more c.loop-i.invariant x c.requires c.loop-i-test.true)

pub returns : goal.returns
returns g c = copying_end c.loop-i.invariant c.loop-i-test.false
