-- A request that was read stands at the start of its room, and is all that was taken of the input.
use Rattle.std.specs.Prelude.{List, Option, ◌≡◌, ℕ, ◌+◌, ◌*◌, ◌≤◌, length, take}
use Rattle.std.specs.Io.KnownBytes.{Consumes, Appends}
use Rattle.clerk_reply.specs.Replies.{LongEnough}
use Rattle.clerk_reply.specs.Requests.{head_bytes, first_length, second_length, most_item, answer_to, WholeRequest}

-- room for a head and two items
abbrev pub request_room : ℕ
request_room = head_bytes + 2 * most_item

pub record RoomyRequest (room : List ℕ) : Type 0 where
  pub roomy : request_room ≤ length room

-- the same, and room for any reply
pub record RequestRooms (request room : List ℕ) : Type 0 where
  pub roomy : RoomyRequest request
  pub long : LongEnough room

-- n bytes of the room are a whole request, with no item that is too long
pub record RequestStands (room : List ℕ) (n : ℕ) : Type 0 where
  pub within : n ≤ length room
  pub whole : WholeRequest (take n room)
  pub second_short : second_length (take n room) ≤ most_item

-- a request was taken of the input, and nothing of the next
pub record TakesOne (old new : Option (List ℕ)) (q : List ℕ) : Type 0 where
  pub taken : Consumes old new q
  pub ends : head_bytes + first_length q + second_length q ≡ length q

-- the same, and the reply to it was added to the output
pub record Serves (input₀ input output₀ output : Option (List ℕ)) : Type 0 where
  pub request : List ℕ
  pub whole : WholeRequest request
  pub takes : TakesOne input₀ input request
  pub tells : Appends output₀ output (answer_to request)
