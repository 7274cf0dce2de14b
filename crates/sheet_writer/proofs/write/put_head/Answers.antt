-- `sheet_writer::write::put_head`: three fields one behind the other, each written to what the one before it left.
use Rattle.pack.specs.Bits.{run}
use Rattle.sheet_laws.proofs.Encoded.{head_put}
use Rattle.sheet_writer.proofs.write.put_head.Goals as goal

-- ---- the needs

pub returns : goal.returns
returns c =
    let a = c.args in
    head_put a.f a.v a.e (run 8 a.room.now) c.put.ensures c.put-2.ensures c.put-3.ensures
