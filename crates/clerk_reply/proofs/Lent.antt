-- What the functions leave in rooms of zeros are the parts of each reply.
use mathlib.Core.Bool.{Bool, cond}
use mathlib.Core.List.{List, [], ◌∷◌, ◌++◌}
use mathlib.Core.Path.{◌≡◌, sym, ap, ◌∙◌}
use Prim.Native.Nat.{ℕ, zero, suc, ◌+◌, ◌-◌, ◌*◌, ◌/◌, ◌%◌, ◌≤◌, ◌<◌}
use native.Mathlib.Omega.{arith}
use borrow.Author.Tests.{eq-eqb, ne_eqb}
use lib.Dec.{lit≤}
use lib.IntN.{ℤ, pos}
use lib.ListN.{length, take, drop, replicate, get_or-eq_default}
use lib.Seq.{take_all, take_at}
use Rattle.std.specs.Prelude.{Result, Ok, Err, None, Some}
use Rattle.std.specs.Result.{result_ok}
use Rattle.rooms.specs.Rooms.{copied}
use Rattle.lists.proofs.Places.{made_length}
use Rattle.paper.specs.Numbers.{most_vertices, most_edges, face_room, solid_room}
use Rattle.paper.specs.Format.{sheet_room, edition_for, lent_edition}
use Rattle.paper.specs.Sheet.{room_of}
use Rattle.paper.specs.FaceList.{list_room, sent_room}
use Rattle.paper.specs.Conversion.{convert_sheet}
use Rattle.paper.specs.Verdict.{verdict_sheet}
use Rattle.paper.specs.Reading.{conversion_says, verdict_says, written_says, written_said, sent_said}
use Rattle.paper.specs.Reading as Paper
use Rattle.paper.specs.Desk.{desk_text}
use Rattle.paper.specs.declared.Conversion.{Conversion}
use Rattle.paper.specs.Refusals.{Written}
use Rattle.convert.specs.Converts.{at_exit}
use Rattle.faces_writer.specs.Send.{of_solid}
use Rattle.desk_lines.proofs.Putting.{puts_long}
use Rattle.desk_text.specs.Written.{text_said, text_room}
use Rattle.desk_text.specs.Texts.{text_room_size}
use Rattle.export_words.specs.Words.{most_said, Tells, WritesAs, SaidIs}
use Rattle.export_words.specs.Lists.{read_into, ReadsAs}
use Rattle.export_words.specs.declared.words.Said.{Said}
use Rattle.clerk_words.specs.Words.{word_size, words_bytes, numbers_bytes, word_at, number_from, numbers_in}
use Rattle.clerk_reply.specs.Replies.{reply_room, zeros, said_words, said_bytes, reading_words, conversion_bytes, LongEnough, Replies}
use Rattle.clerk_reply.specs.Replies.{read_reply, converted_reply, checked_reply, written_reply, sent_reply, text_reply}
use Rattle.clerk_reply.specs.Requests.{sheet_reply, faces_reply, replies, reply_to, length_of}
use Rattle.clerk_reply.specs.Requests.{head_bytes, kind_in, limit_in, first_length, second_length, answer_to}
use Rattle.clerk_reply.specs.Codes.{code_of, Decodes}
use Rattle.clerk_reply.specs.declared.request.Request.{Request}
use Rattle.clerk_reply.specs.declared.request.UnknownKind.{UnknownKind}
use Rattle.clerk_reply.specs.Held.{SaidAs}

pub read_is : (sheet : List ℕ) {r : ℕ} {xyz : List ℤ} {ends said : List ℕ}
    → ReadsAs (read_into sheet (replicate (3 * most_vertices) (pos 0)) (zeros (2 * most_edges))) r xyz ends (zeros most_said) said
    → read_reply sheet ≡ words_bytes said ++ numbers_bytes xyz ++ ends
unfolding read_reply
read_is sheet h = λ i. words_bytes (sym h.tells.words_are i) ++ numbers_bytes (sym h.xyz_are i) ++ sym h.ends_are i

pub converted_is : (sheet : List ℕ) (limit : ℕ) {a : Conversion} {x : Said} {faces solids said shown : List ℕ}
    → at_exit a faces solids ≡ convert_sheet sheet limit (zeros face_room) (zeros solid_room) → SaidAs x said → SaidIs x (conversion_says a)
    → shown ≡ reading_words a
    → converted_reply sheet limit ≡ words_bytes said ++ words_bytes shown ++ faces ++ words_bytes solids
unfolding converted_reply
converted_is sheet limit {a} {faces = faces} {solids = solids} e told h s =
    ap conversion_bytes (sym e)
    ∙ (λ i. words_bytes (sym (told (conversion_says a) h) i) ++ words_bytes (sym s i) ++ faces ++ words_bytes solids)

pub checked_is : (sheet list : List ℕ) {r : ℕ} {said : List ℕ} → Tells (verdict_says (verdict_sheet sheet list)) r (zeros most_said) said
    → checked_reply sheet list ≡ words_bytes said
unfolding checked_reply
checked_is sheet list h = ap words_bytes (sym h.words_are)

-- what is said, and a room
room_is : {s : Paper.Said} {after room said : List ℕ} {r : ℕ} → WritesAs s after r room (zeros most_said) said
    → said_bytes s ++ after ≡ words_bytes said ++ room
room_is h = λ i. words_bytes (sym h.tells.words_are i) ++ sym h.room_is i

pub written_is : (xyz : List ℤ) (ends : List ℕ) {r : ℕ} {room said : List ℕ}
    → WritesAs (written_said (lent_edition xyz ends) xyz ends (zeros sheet_room)) (room_of (lent_edition xyz ends) xyz ends (zeros sheet_room)) r room
    (zeros most_said) said
    → written_reply xyz ends ≡ words_bytes said ++ room
unfolding written_reply
written_is xyz ends h = room_is h

pub sent_is : (rows : List ℕ) (taken turned : ℕ) {r : ℕ} {room said : List ℕ}
    → WritesAs (of_solid (sent_said (edition_for 0 0)) rows (taken ∷ turned ∷ []) (zeros list_room))
    (of_solid (sent_room (edition_for 0 0)) rows (taken ∷ turned ∷ []) (zeros list_room)) r room (zeros most_said) said
    → sent_reply rows taken turned ≡ words_bytes said ++ room
unfolding sent_reply
sent_is rows taken turned h = room_is h

pub text_is : (sheet : List ℕ) (w : Written) {x : Said} {room said : List ℕ}
    → written_says w ≡ text_said (desk_text sheet) (zeros text_room_size) → room ≡ text_room (desk_text sheet) (zeros text_room_size)
    → SaidAs x said → SaidIs x (written_says w) → text_reply sheet ≡ words_bytes said ++ room
unfolding text_reply
text_is sheet w e k told h =
    λ i. words_bytes ((ap said_words (sym e) ∙ sym (told (written_says w) h)) i) ++ sym k i

-- ---- whether there is one

module _ (first second : List ℕ) where
  pub sheet-none : (length first % word_size ≡ 0 → ⊥) → sheet_reply first second ≡ []
  unfolding sheet_reply
  sheet-none h =
      ap (λ (b : Bool). cond b (written_reply (numbers_in (length first / word_size) first) second) []) (ne_eqb (length first % word_size) 0 h)

  pub sheet_is : length first % word_size ≡ 0 → sheet_reply first second ≡ written_reply (numbers_in (length first / word_size) first) second
  unfolding sheet_reply
  sheet_is h =
      ap (λ (b : Bool). cond b (written_reply (numbers_in (length first / word_size) first) second) []) (eq-eqb (length first % word_size) 0 h)

  pub faces-none : (length second ≡ word_size * 2 → ⊥) → faces_reply first second ≡ []
  unfolding faces_reply
  faces-none h =
      ap (λ (b : Bool). cond b (sent_reply first (word_at second 0) (word_at second word_size)) []) (ne_eqb (length second) (word_size * 2) h)

  pub faces_are : length second ≡ word_size * 2 → faces_reply first second ≡ sent_reply first (word_at second 0) (word_at second word_size)
  unfolding faces_reply
  faces_are h =
      ap (λ (b : Bool). cond b (sent_reply first (word_at second 0) (word_at second word_size)) []) (eq-eqb (length second) (word_size * 2) h)

-- the numbers in front of a room that they were copied to
pub numbers_are : (n : ℕ) (bytes : List ℕ) (room₀ : List ℤ) {room : List ℤ} → room ≡ copied n (numbers_in n bytes) room₀
    → take n room ≡ numbers_in n bytes
unfolding numbers_in
numbers_are n bytes room₀ e =
    let long = made_length (number_from bytes) n in
    let all : take n (numbers_in n bytes) ≡ numbers_in n bytes = take_all n (numbers_in n bytes) (omega (arith, long)) in
    ap (take n) (e ∙ ap (λ (l : List ℤ). l ++ drop n room₀) all) ∙ take_at (numbers_in n bytes) (drop n room₀) n long

-- ---- by the kind

-- of a kind that a code stands for, or of a code that stands for none
pub kind_is : (code : ℕ) (r : Result Request UnknownKind) {kind asked : Request} → Decodes code r → Some kind ≡ result_ok r → kind ≡ asked
    → code ≡ code_of asked
kind_is code (Ok k) {kind} {asked} d e s = let same : k ≡ asked = cc in sym d ∙ ap code_of same
kind_is code (Err u) d e s = cc

pub unknown : (code : ℕ) (r : Result Request UnknownKind) → Decodes code r → None ≡ result_ok r → 6 < code
unknown code (Ok k) d e = cc
unknown code (Err u) d e = d.1

pub no_kind : (kind limit : ℕ) (first second : List ℕ) → 6 < kind → reply_to kind limit first second ≡ []
unfolding reply_to replies
no_kind kind limit first second h = get_or-eq_default (replies limit first second) [] {n = kind} h

-- no reply is longer than the room for any
most : (kind : ℕ) → length_of kind ≤ reply_room
most zero = lit≤ tt
most (suc zero) = lit≤ tt
most (suc (suc zero)) = lit≤ tt
most (suc (suc (suc zero))) = lit≤ tt
most (suc (suc (suc (suc zero)))) = lit≤ tt
most (suc (suc (suc (suc (suc zero))))) = lit≤ tt
most (suc (suc (suc (suc (suc (suc zero)))))) = lit≤ tt
most (suc (suc (suc (suc (suc (suc (suc k))))))) = lit≤ tt

pub reply_within : (kind : ℕ) {bytes room₀ room : List ℕ} {r : ℕ} → Replies bytes (length_of kind) room₀ room r → LongEnough room₀
    → r ≤ length room
reply_within kind h l = let same = puts_long h.puts in omega (arith, h.sized, most kind, same, l.long)

-- ---- of a whole request

pub answer_is : (q : List ℕ) {limit m n : ℕ} → limit ≡ limit_in q → m ≡ first_length q → n ≡ second_length q
    → let middle = head_bytes + m in
    answer_to q ≡ reply_to (kind_in q) limit (take (middle - head_bytes) (drop head_bytes q)) (take (middle + n - middle) (drop middle q))
unfolding answer_to
answer_is q {limit} {m} {n} l e f =
    let a : first_length q ≡ head_bytes + m - head_bytes = omega arith in
    let b : second_length q ≡ head_bytes + m + n - (head_bytes + m) = omega arith in
    λ i. reply_to (kind_in q) (sym l i) (take (a i) (drop head_bytes q)) (take (b i) (drop (head_bytes + sym e i) q))
