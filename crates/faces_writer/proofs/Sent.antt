-- A face list's bytes, the writer's answer and its room, for each way out.
use mathlib.Core.Path.{◌≡◌, refl, sym, ap, ◌∙◌}
use mathlib.Core.Bool.{Bool, true, false, not, ◌||◌}
use mathlib.Core.List.{List, ◌++◌}
use Prim.Native.Nat.{ℕ, ◌+◌, ◌*◌, ◌-◌, ◌^◌, ◌≤◌, ◌<◌, zero-le}
use native.Mathlib.Omega.{arith}
use borrow.Author.Tests.{lt-ltb, le-ltb}
use lib.ListN.{length, drop}
use Rattle.pack.specs.Bits.{bits, run, overwrite, Under}
use Rattle.pack.proofs.Laws.{length_bits}
use Rattle.pack.proofs.Overwrite.{overwrite-next}
use Rattle.paper_laws.proofs.Checks.{holds, fails, clear}
use Rattle.lists.specs.Lists.{all}
use Rattle.paper.specs.declared.Number.{Number}
use Rattle.paper.specs.Refusals as No
use Rattle.paper.specs.Numbers.{least_faces}
use Rattle.paper.specs.Refusals.{first_of, Answer, Written}
use Rattle.paper.specs.Format.{edition_bits, outside, bytes_for, filled}
use Rattle.paper.specs.Loops.{Loop}
use Rattle.paper.specs.FaceList.{list_bits, encode_faces, bits_of, send_checks, sent_for, sent_room_for, sent_of, sent_room}
use Rattle.paper.specs.declared.Format.{Format}
use Rattle.std.specs.Prelude.{Ok, Err}
use Rattle.sheet_laws.proofs.Encoded.{filled_is}
use Rattle.faces_writer.specs.Send.{fits, faces_bits, list_head, list_in}
use Rattle.faces_writer.specs.Asked.{SendsList}
use Rattle.faces_laws.proofs.Packed.{length_head, size_is, length_list, under_list}

module _ (f : Format) (fs : List Loop) where
  -- ---- the list's bytes

  -- the zero bits behind the first n, up to the end of the byte
  abbrev fill : ℕ → List ℕ
  fill n = bits (bytes_for n * 8 - n) 0

  -- the four stretches of a list, one behind the other: the edition, the count, the faces, the fill
  list_put : (d : List ℕ) {r1 r2 r3 r4 : List ℕ} {n b : ℕ} → n ≡ length fs → b ≡ bits_of f fs
      → r1 ≡ overwrite d 0 (bits edition_bits f.edition) → r2 ≡ overwrite r1 edition_bits (bits f.face_count_bits n)
      → r3 ≡ overwrite r2 (list_head f) (faces_bits f fs) → r4 ≡ overwrite r3 b (fill b)
      → r4 ≡ overwrite d 0 (list_bits f fs ++ fill (bits_of f fs))
  unfolding list_bits
  list_put d {r1} {r2} {r3} {r4} {n} {b} hn hb p1 p2 p3 p4 =
      let x = bits edition_bits f.edition in
      let y = bits f.face_count_bits (length fs) in
      let z = faces_bits f fs in
      let t = bits_of f fs in
      let lx : edition_bits ≡ 0 + length x = omega (arith, length_bits edition_bits f.edition) in
      let ly : list_head f ≡ 0 + length (x ++ y) = omega (arith, length_head f fs) in
      let lz : t ≡ 0 + length (x ++ y ++ z) = omega (arith, length_list f fs) in
      let q2 : r2 ≡ overwrite r1 edition_bits y = p2 ∙ ap (λ (m : ℕ). overwrite r1 edition_bits (bits f.face_count_bits m)) hn in
      let q4 : r4 ≡ overwrite r3 t (fill t) = p4 ∙ ap (λ (m : ℕ). overwrite r3 m (fill m)) hb in
      let e1 : r2 ≡ overwrite d 0 (x ++ y) = overwrite-next d 0 x edition_bits y r1 r2 zero-le lx p1 q2 in
      let e2 : r3 ≡ overwrite d 0 (x ++ y ++ z) = overwrite-next d 0 (x ++ y) (list_head f) z r2 r3 zero-le ly e1 p3 in
      overwrite-next d 0 (x ++ y ++ z) t (fill t) r3 r4 zero-le lz e2 q4

  -- the list and then the room's bytes
  pub listed : (room last : List ℕ) {r1 r2 r3 : List ℕ} {n b : ℕ} → SendsList f fs room n b → length last ≡ length room
      → Under (2 ^ 8) room → Under (2 ^ 8) last
      → r1 ≡ overwrite (run 8 room) 0 (bits edition_bits f.edition)
      → r2 ≡ overwrite r1 edition_bits (bits f.face_count_bits n)
      → r3 ≡ overwrite r2 (list_head f) (faces_bits f fs)
      → run 8 last ≡ overwrite r3 (list_head f + b) (fill (list_head f + b))
      → last ≡ list_in f fs room
  unfolding encode_faces
  listed room last g l ur ul p1 p2 p3 p4 =
      let put = list_put (run 8 room) g.weighed.count_is (size_is f fs g.weighed.span_is) p1 p2 p3 p4 in
      filled_is (bits_of f fs) (list_bits f fs) room last (under_list f fs) (length_list f fs) g.roomy l ur ul put
      ∙ ap (λ (m : ℕ). filled m (list_bits f fs) ++ drop (bytes_for (bits_of f fs)) room) (sym (length_list f fs))

  -- ---- the answer

  -- refused with a number of the table, at place 0
  abbrev refusal : Number → Written
  refusal n = Err (record { number = n; place = 0 })

  -- too few faces or too many
  abbrev miscounted : Bool
  miscounted = outside least_faces f.most_faces (length fs)

  module _ (room : List ℕ) where
    abbrev pub Result : Written → List ℕ → Type 0
    Result w r = (w ≡ sent_of f fs room) × (r ≡ sent_room f fs room)

    from : {a : Answer} → a ≡ first_of (send_checks f fs (length room)) → Result (sent_for f fs a) (sent_room_for f fs a room)
    unfolding sent_of sent_room
    from e = (ap (sent_for f fs) e, ap (λ (a : Answer). sent_room_for f fs a room) e)

    either : (a : Bool) {b : Bool} → b ≡ false → (a || not b) ≡ true
    either true e = refl
    either false e = rw e refl

    pub result_misfit : all (fits f) fs ≡ false → Result (refusal No.ShellShape) room
    unfolding send_checks
    result_misfit e = from (holds _ _ _ (either miscounted e))

    pub result_count : miscounted ≡ true → Result (refusal No.ShellShape) room
    unfolding send_checks
    result_count e = from (holds _ _ _ (ap (λ (b : Bool). b || not (all (fits f) fs)) e))

    module _ (o : miscounted ≡ false) (e : all (fits f) fs ≡ true) where
      neither : (miscounted || not (all (fits f) fs)) ≡ false
      neither = rw (o, e) refl

      pub result_short : length room < bytes_for (bits_of f fs) → Result (refusal No.NoRoom) room
      unfolding send_checks
      result_short h = from (holds _ _ _ (lt-ltb _ _ h) ∙ fails _ _ _ neither)

      pub result_fine : bytes_for (bits_of f fs) ≤ length room → Result (Ok (bytes_for (bits_of f fs))) (list_in f fs room)
      unfolding send_checks
      result_fine h = from (clear ∙ fails _ _ _ (le-ltb _ _ h) ∙ fails _ _ _ neither)
