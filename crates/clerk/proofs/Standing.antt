-- A request whose head stands in a room, once its items were read behind it: the head is as it was, and nothing of the next was taken.
use mathlib.Core.List.{List, ◌++◌}
use mathlib.Core.Path.{◌≡◌, ◌∙◌}
use Prim.Native.Nat.{ℕ, ◌+◌, ◌-◌, ◌≤◌, ◌<◌}
use native.Mathlib.Omega.{arith}
use borrow.Rule.Slice.PartMut.{post_of, put_mid}
use lib.ListN.{length, get_or, take, get_or-append}
use lib.Seq.{length-take-le, get_or-take}
use Rattle.clerk_words.specs.Words.{two_at}
use Rattle.clerk_reply.specs.Requests.{head_bytes, first_length, second_length, most_item}
use Rattle.clerk.specs.Read.{RequestStands}

module _ (room items : List ℕ) (m n : ℕ) (head : head_bytes ≤ length room) where
  abbrev end : ℕ
  end = head_bytes + m + n

  abbrev after : List ℕ
  after = put_mid head_bytes (end - head_bytes) room items

  byte_is : (i : ℕ) → i < head_bytes → get_or (take end after) i 0 ≡ get_or room i 0
  byte_is i h =
      get_or-take end after i 0 (omega arith)
      ∙ get_or-append (take head_bytes room) (items ++ post_of head_bytes (end - head_bytes) room) 0 i
      (omega (arith, length-take-le head_bytes room head))
      ∙ get_or-take head_bytes room i 0 h

  pub stands : end ≤ length after → m ≡ two_at room 9 → n ≡ two_at room 11 → m ≤ most_item → n ≤ most_item → RequestStands after end
  stands w e f s t =
      let long = length-take-le end after w in
      let a = byte_is 9 (omega arith) in
      let b = byte_is 10 (omega arith) in
      let c = byte_is 11 (omega arith) in
      let d = byte_is 12 (omega arith) in
      record {
        within = w;
        whole = record {
          head = omega (arith, long);
          items = omega (arith, long, a, b, c, d);
          first_short = omega (arith, a, b);
        };
        second_short = omega (arith, c, d);
      }

  pub ends : end ≤ length after → m ≡ two_at room 9 → n ≡ two_at room 11
      → head_bytes + first_length (take end after) + second_length (take end after) ≡ length (take end after)
  ends w e f =
      let long = length-take-le end after w in
      let a = byte_is 9 (omega arith) in
      let b = byte_is 10 (omega arith) in
      let c = byte_is 11 (omega arith) in
      let d = byte_is 12 (omega arith) in
      omega (arith, long, a, b, c, d)
