-- `clerk_reply::reply`: each arm puts the reply of its kind, and a byte that stands for none has no reply.
use mathlib.Core.Path.{refl}
use native.Mathlib.Omega.{arith}
use Rattle.clerk_reply.specs.Requests.{reply_to, replies}
use Rattle.clerk_reply.proofs.Lent.{kind_is, unknown, no_kind}
use Rattle.clerk_reply.proofs.reply.Goals as goal

pub returns-in_err-request : goal.returns-in_err-request
returns-in_err-request c =
    let above = unknown c.args.kind _ c.try_from.ensures c.in_err-request.ensures.value in
    rw c.from_residual.ensures (no_kind c.args.kind c.args.limit c.args.first.now c.args.second.now above, refl)

pub returns-in-Hello : goal.returns-in-Hello
unfolding reply_to replies
returns-in-Hello c = rw (kind_is c.args.kind _ c.try_from.ensures c.in_ok-request.ensures.value c.in-Hello.is) (omega (arith, c.put_hello.ensures.sized), c.put_hello.ensures)

pub returns-in-Read : goal.returns-in-Read
unfolding reply_to replies
returns-in-Read c = rw (kind_is c.args.kind _ c.try_from.ensures c.in_ok-request.ensures.value c.in-Read.is) (omega (arith, c.put_read.ensures.sized), c.put_read.ensures)

pub returns-in-Converted : goal.returns-in-Converted
unfolding reply_to replies
returns-in-Converted c = rw (kind_is c.args.kind _ c.try_from.ensures c.in_ok-request.ensures.value c.in-Converted.is) (omega (arith, c.put_converted.ensures.sized), c.put_converted.ensures)

pub returns-in-Checked : goal.returns-in-Checked
unfolding reply_to replies
returns-in-Checked c = rw (kind_is c.args.kind _ c.try_from.ensures c.in_ok-request.ensures.value c.in-Checked.is) (omega (arith, c.put_checked.ensures.sized), c.put_checked.ensures)

pub returns-in-Written : goal.returns-in-Written
unfolding reply_to replies
returns-in-Written c = rw (kind_is c.args.kind _ c.try_from.ensures c.in_ok-request.ensures.value c.in-Written.is) c.put_sheet.ensures

pub returns-in-Faces : goal.returns-in-Faces
unfolding reply_to replies
returns-in-Faces c = rw (kind_is c.args.kind _ c.try_from.ensures c.in_ok-request.ensures.value c.in-Faces.is) c.put_faces.ensures

pub returns-in-Text : goal.returns-in-Text
unfolding reply_to replies
returns-in-Text c = rw (kind_is c.args.kind _ c.try_from.ensures c.in_ok-request.ensures.value c.in-Text.is) (omega (arith, c.put_desk.ensures.sized), c.put_desk.ensures)
