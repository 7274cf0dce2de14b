-- `demanded_together::reported_and_checked`: a reported solid has its words in the room, and is accepted as sent.
use Prim.Native.Nat.{◌*◌, ◌≤◌, ◌<◌}
use native.Mathlib.Omega.{arith}
use lib.ListN.{length}
use Rattle.means_report.specs.Report.{solid_count}
use Rattle.demands.specs.Input.{lent}
use Rattle.demanded_together.proofs.Agreeing.{in_room, accepted}
use Rattle.demanded_together.proofs.reported_and_checked.Goals as goal

-- solid i is reported, and its words are in the room
there : (c : goal.Else-solids_in-i) → c.args.i < solid_count c.convert-said.result
there c = omega (arith, c.if-solids_in-i.false, c.solids_in.ensures)

held : (c : goal.Else-solids_in-i) → ((c.args.i < 8) × (3 * c.args.i ≤ length c.convert-said.new.solids))
held c =
    let a = c.args in
    in_room (lent a.xyz.now a.ends.now) a.limit a.faces.now a.solids.now c.convert-said.ensures.result a.i (there c)

there-2 : (c : goal.After-sent_and_checked) → c.args.i < solid_count c.convert-said.result
there-2 c = omega (arith, c.if-solids_in-i.false, c.solids_in.ensures)

pub sent_and_checked-requires : goal.sent_and_checked-requires
sent_and_checked-requires c = (held c).1

pub returns : goal.returns
returns c =
    let a = c.args in
    accepted (lent a.xyz.now a.ends.now) a.limit a.faces.now a.solids.now c.convert-said.ensures.result a.i (there-2 c)
    c.sent_and_checked.ensures
