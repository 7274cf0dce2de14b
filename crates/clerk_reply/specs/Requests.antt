-- docs/PIPE.md, "A request": its parts, and the reply by its kind.
use Rattle.std.specs.Prelude.{cond, List, [], ◌∷◌, ℕ, ◌+◌, ◌*◌, ◌/◌, ◌%◌, ◌≤◌, eqb, length, get_or, take, drop}
use Rattle.clerk_words.specs.Words.{word_size, two_at, word_at, numbers_in}
use Rattle.clerk_reply.specs.Replies.{hello_reply, read_reply, converted_reply, checked_reply, written_reply, sent_reply, text_reply}
use Rattle.clerk_reply.specs.Replies.{hello_length, read_length, converted_length, said_length, written_length, sent_length, text_length}
use Rattle.clerk_reply.specs.Replies.{LongEnough}

-- ---- the reply by the kind; where a request can't be understood there is none, which is one of no bytes

-- "coordinates that are not whole words"
unfoldable pub sheet_reply : List ℕ → List ℕ → List ℕ
sheet_reply first second = cond (eqb (length first % word_size) 0) (written_reply (numbers_in (length first / word_size) first) second) []

-- "a solid of other than two words"
unfoldable pub faces_reply : List ℕ → List ℕ → List ℕ
faces_reply first second = cond (eqb (length second) (word_size * 2)) (sent_reply first (word_at second 0) (word_at second word_size)) []

-- kinds 0 to 6
unfoldable pub replies : ℕ → List ℕ → List ℕ → List (List ℕ)
replies limit first second =
    hello_reply
    ∷ read_reply first
    ∷ converted_reply first limit
    ∷ checked_reply first second
    ∷ sheet_reply first second
    ∷ faces_reply first second
    ∷ text_reply first
    ∷ []

-- "Its length goes by the kind alone."
abbrev pub lengths : List ℕ
lengths = hello_length ∷ read_length ∷ converted_length ∷ said_length ∷ written_length ∷ sent_length ∷ text_length ∷ []

-- "an unknown kind" has none
unfoldable pub reply_to : ℕ → ℕ → List ℕ → List ℕ → List ℕ
reply_to kind limit first second = get_or (replies limit first second) kind []

abbrev pub length_of : ℕ → ℕ
length_of kind = get_or lengths kind 0

-- ---- a request as bytes: its kind, the work limit, two lengths, the first item, the second

abbrev pub head_bytes : ℕ
head_bytes = 13

abbrev pub kind_in : List ℕ → ℕ
kind_in q = get_or q 0 0

abbrev pub limit_in : List ℕ → ℕ
limit_in q = word_at q 1

abbrev pub first_length : List ℕ → ℕ
first_length q = two_at q 9

abbrev pub second_length : List ℕ → ℕ
second_length q = two_at q 11

abbrev pub first_item : List ℕ → List ℕ
first_item q = take (first_length q) (drop head_bytes q)

abbrev pub second_item : List ℕ → List ℕ
second_item q = take (second_length q) (drop (head_bytes + first_length q) q)

unfoldable pub answer_to : List ℕ → List ℕ
answer_to q = reply_to (kind_in q) (limit_in q) (first_item q) (second_item q)

-- ---- what is asked

abbrev pub most_item : ℕ
most_item = 1024

-- a first item that is not too long, and room for any reply
pub record Lends (first room : List ℕ) : Type 0 where
  pub short : length first ≤ most_item
  pub long : LongEnough room

-- a request that is all there
pub record WholeRequest (q : List ℕ) : Type 0 where
  pub head : head_bytes ≤ length q
  pub items : head_bytes + first_length q + second_length q ≤ length q
  pub first_short : first_length q ≤ most_item

-- the same of a request
pub record Asks (q room : List ℕ) : Type 0 where
  pub whole : WholeRequest q
  pub long : LongEnough room
