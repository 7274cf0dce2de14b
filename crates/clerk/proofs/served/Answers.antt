-- clerk/proofs/served/Answers.antt
-- `clerk::served`: one request was taken, and the reply to it written.
use Rattle.std.proofs.Common.{◌≤◌, arith, take, length, subst}
use Rattle.std.specs.Io.KnownBytes.{Appends}
use Rattle.clerk_reply.specs.Requests.{kind_in, answer_to}
use Rattle.clerk_reply.proofs.Lent.{reply_within}
use Rattle.clerk.proofs.Taken.{Appends-kept, put_front}
use Rattle.clerk.proofs.served.Goals as goal

pub returns-in_ok-flush-in-Some-answer-clause-serves : goal.returns-in_ok-flush-in-Some-answer-clause-serves
returns-in_ok-flush-in-Some-answer-clause-serves g c = λ e.
    let stands = rw c.in-Some.is at c.in_ok-end.ensures.read in
    let q = take c.in-Some.end c.read_request.new.room in
    let a = c.in-Some-answer.ensures.1 in
    let within = reply_within (kind_in q) a c.requires.long in
    let fits : length (answer_to q) ≤ length c.args.room.now = omega (arith, within, a.puts.next_is, c.answer.auto.room) in
    let front = put_front (answer_to q) c.args.room.now c.answer.new.room c.in-Some-answer.n a.puts.room_is a.puts.next_is fits in
    record {
      request = q;
      whole = stands.whole;
      takes = rw c.in-Some.is at c.in_ok-end.ensures.taken;
      tells =
          subst (Appends _ _) front
          (Appends-kept _ _ _ _ c.in_ok-write_all-in-Some-answer.ensures.bytes c.in_ok-flush-in-Some-answer.ensures.bytes);
    }
