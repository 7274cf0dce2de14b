-- clerk/proofs/read_request/Answers.antt
-- `clerk::read_request`: the items are as long as the head says, the head stays, and both are what was taken.
use Rattle.std.proofs.Common.{◌≡◌, ◌∙◌, List, ℕ, ◌+◌, ◌-◌, ◌++◌, ◌≤◌, arith, drop, length, length-append, length-take, length-drop}
use borrow.Rule.Slice.PartMut.{put_mid}
use Rattle.clerk_reply.specs.Requests.{head_bytes}
use Rattle.clerk.proofs.Standing.{stands, ends}
use Rattle.clerk.proofs.Taken.{both_taken}
use Rattle.clerk.proofs.read_request.Goals as goal

-- the room once the head was read
abbrev room : List ℕ → List ℕ → List ℕ
room head before = head ++ drop 13 before

-- the lengths of the head, of the room, and of the room once the items were read
module _ (g : _) (c : goal.Else-not-branch-2 g) where
  head_long : length c.filled.new.room ≡ 13
  head_long = omega (arith, c.filled.auto.room, length-take 13 c.args.room.now, c.requires.roomy)

  room_long : head_bytes ≤ length (room c.filled.new.room c.args.room.now)
  room_long = omega (arith, head_long, length-append {A = ℕ})

  items_long : length c.filled-2.new.room ≡ c.two_at-first.result + c.two_at-second.result
  items_long = c.filled-2.auto.room ∙ simp (length-append, length-take, length-drop) (omega (arith, head_long, c.requires.roomy))

  within : head_bytes + c.two_at-first.result + c.two_at-second.result
      ≤ length (put_mid head_bytes (head_bytes + c.two_at-first.result + c.two_at-second.result - head_bytes)
      (room c.filled.new.room c.args.room.now) c.filled-2.new.room)
  within = simp (length-append, length-take, length-drop) (omega (arith, head_long, items_long))

pub returns-clause-read : goal.returns-clause-read
returns-clause-read g c =
    stands (room c.filled.new.room c.args.room.now) c.filled-2.new.room c.two_at-first.result c.two_at-second.result (room_long g c)
    (within g c) c.two_at-first.ensures.0 c.two_at-second.ensures.0 (omega arith) (omega arith)

pub returns-clause-taken : goal.returns-clause-taken
returns-clause-taken g c = record {
  taken = both_taken _ _ _ c.filled.new.room (drop 13 c.args.room.now) c.filled-2.new.room 13 _ _
      (c.in_ok-filled.ensures c.if-not-branch.false) (c.in_ok-filled-2.ensures c.if-not-branch-2.false) (head_long g c)
      (omega (arith, items_long g c));
  ends = ends (room c.filled.new.room c.args.room.now) c.filled-2.new.room c.two_at-first.result c.two_at-second.result (room_long g c)
      (within g c) c.two_at-first.ensures.0 c.two_at-second.ensures.0;
}
