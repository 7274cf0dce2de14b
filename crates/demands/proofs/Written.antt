-- Sheets and face lists, read and written: 3 to 10, 20 and 1 are the lines of the table, and a refusal leaves the room.
use mathlib.Core.Path.{◌≡◌, refl, sym, ap, subst}
use mathlib.Core.Bool.{Bool, true, false, cond}
use mathlib.Core.Logic.{inl}
use mathlib.Core.List.{List, []}
use Prim.Native.Nat.{ℕ, ◌/◌, ◌<◌}
use native.Mathlib.Omega.{arith}
use lib.Dec.{ltb}
use lib.IntN.{ℤ}
use lib.ListN.{length}
use Rattle.paper.specs.Format.{edition_one, total, bytes_for, vertices_in, edges_in, edition_of, lent_edition}
use Rattle.paper.specs.Format.{coordinates_in, ends_in}
use Rattle.paper.specs.Refusals.{first_of, Answer, Fine}
use Rattle.paper.specs.FaceList.{count_in, bits_of, faces_in, faces_of, no_faces, well_shaped, send_checks, sent_for, sent_room_for, sent_of}
use Rattle.paper.specs.FaceList.{sent_room}
use Rattle.paper.specs.Sheet.{sheet_checks, lent_checks, writer_checks, written_for, room_for, blank, held, drawn_for, sheet_of, read_sheet}
use Rattle.paper.specs.Sheet.{written_of, room_of}
use Rattle.paper.specs.Loops.{Loop}
use Rattle.paper.specs.declared.Format.{Format}
use Rattle.paper.specs.Refusals as No
use Rattle.paper.specs.declared.Refusal.{Refusal}
use Rattle.std.specs.Prelude.{Ok, Err}
use Rattle.paper.specs.FaceList.{Faces}
use Rattle.means_sheets.specs.FaceLists.{returned}
use Rattle.demands.specs.Input.{lent, sheet}
use Rattle.demands.specs.Table.{end, one, forms, of_written}
use Rattle.demands.specs.Shells.{Shape, NoList}
use Rattle.paper_laws.proofs.Editions.{one_of}
use Rattle.paper_laws.proofs.Tests.{Is, is_lt, is_off}
use Rattle.demands.proofs.Table.{done, also_one, behind, ends}
use Rattle.demands.proofs.Shape.{is_shape, is_no_list}
use Rattle.demands.proofs.Lines.{form_says}

-- ---- sheets

pub read_says : (s : List ℕ) → forms (sheet s) end (read_sheet s).answer
unfolding sheet_of
read_says s = ends (forms (sheet s)) (sheet_checks (edition_of s) s) (form_says (sheet s))

pub read-blank : (s : List ℕ) (r : Refusal) → (read_sheet s).answer ≡ Err r → (read_sheet s).drawing ≡ blank
unfolding sheet_of
read-blank s r e =
    ap
    (λ (a : Answer). drawn_for a
    (held (vertices_in (edition_of s) s) (edges_in (edition_of s) s) (coordinates_in (edition_of s) s) (ends_in (edition_of s) s)))
    e

pub faces_say : (v : ℕ) (list : List ℕ) → one 20 (Shape (edition_of list) v list → ⊥) end (faces_of (edition_of list) v list).answer
unfolding faces_of
faces_say v list = go (well_shaped (edition_of list) v list) (is_shape (one_of list) v list)
  where
    read : Faces
    read = record { answer = Fine; count = count_in (edition_of list) list; rows = (returned (faces_in (edition_of list) list)).rows }

    go : (b : Bool) → Is b (Shape (edition_of list) v list) → one 20 (Shape (edition_of list) v list → ⊥) end (cond b read no_faces).answer
    go true i = (λ k h q. q (i.0 refl), tt)
    go false i = inl (refl, (omega arith, is_off i refl, λ k h q. omega arith))

module _ (xyz : List ℤ) (ns room : List ℕ) (r : Refusal) where
  written_refused : (a : Answer) → written_for (lent_edition xyz ns) xyz ns a ≡ Err r → a ≡ Err r
  written_refused (Ok _) e = let z : ◌≡◌ {A = ℕ} 0 1 = cc in absurd (omega arith)
  written_refused (Err q) e = let z : q ≡ r = cc in ap Err z

  refuses : written_of (lent_edition xyz ns) xyz ns room ≡ Err r
      → first_of (writer_checks (lent_edition xyz ns) xyz ns (length room)) ≡ Err r
  unfolding written_of
  refuses e = written_refused (first_of (writer_checks (lent_edition xyz ns) xyz ns (length room))) e

  pub write_keeps : written_of (lent_edition xyz ns) xyz ns room ≡ Err r → room_of (lent_edition xyz ns) xyz ns room ≡ room
  unfolding room_of
  write_keeps e = ap (λ (a : Answer). room_for (lent_edition xyz ns) xyz ns a room) (refuses e)

-- a face list written from a report
module _ (f : Format) (fs : List Loop) (room : List ℕ) (r : Refusal) where
  sent-refused : (a : Answer) → sent_for f fs a ≡ Err r → a ≡ Err r
  sent-refused (Ok _) e = let z : ◌≡◌ {A = ℕ} 0 1 = cc in absurd (omega arith)
  sent-refused (Err q) e = let z : q ≡ r = cc in ap Err z

  sending : sent_of f fs room ≡ Err r → first_of (send_checks f fs (length room)) ≡ Err r
  unfolding sent_of
  sending e = sent-refused (first_of (send_checks f fs (length room))) e

  pub send_keeps : sent_of f fs room ≡ Err r → sent_room f fs room ≡ room
  unfolding sent_room
  send_keeps e = ap (λ (a : Answer). sent_room_for f fs a room) (sending e)

pub write_says : (xyz : List ℤ) (ns room : List ℕ)
    → forms (lent xyz ns) (one 1 (length room < bytes_for (total (lent_edition xyz ns) (length xyz / 3) (length ns / 2))) end)
    (of_written (written_of (lent_edition xyz ns) xyz ns room))
unfolding written_of writer_checks
write_says xyz ns room =
    let n = bytes_for (total (lent_edition xyz ns) (length xyz / 3) (length ns / 2)) in
    subst (forms (lent xyz ns) (one 1 (length room < n) end)) (sym (of_written_lem (first_of (writer_checks (lent_edition xyz ns) xyz ns (length room)))))
    (ends (λ below. forms (lent xyz ns) (one 1 (length room < n) below)) (writer_checks (lent_edition xyz ns) xyz ns (length room))
    (behind (forms (lent xyz ns)) (one 1 (length room < n)) (lent_checks xyz ns) _ (form_says (lent xyz ns)) (λ e.
    also_one No.NoRoom (length room < n) (ltb (length room) n) (is_lt (length room) n) (λ below. below) [] (λ e. done))))
  where
    of_written_lem : (a : Answer) → of_written (written_for (lent_edition xyz ns) xyz ns a) ≡ a
    of_written_lem (Ok _) = refl
    of_written_lem (Err r) = refl

pub send_says : {f : Format} → f ≡ edition_one → (fs : List Loop) (room : List ℕ)
    → one 20 (NoList fs) (one 1 (length room < bytes_for (bits_of f fs)) end) (of_written (sent_of f fs room))
unfolding sent_of send_checks
send_says {f} one_is fs room =
    let n = bytes_for (bits_of f fs) in
    subst (one 20 (NoList fs) (one 1 (length room < n) end)) (sym (of_sent (first_of (send_checks f fs (length room)))))
    (ends (λ below. one 20 (NoList fs) (one 1 (length room < n) below)) (send_checks f fs (length room))
    (also_one No.ShellShape (NoList fs) _ (is_no_list one_is fs) _ _ (λ e.
    also_one No.NoRoom (length room < n) (ltb (length room) n) (is_lt (length room) n) (λ below. below) [] (λ e. done))))
  where
    of_sent : (a : Answer) → of_written (sent_for f fs a) ≡ a
    of_sent (Ok _) = refl
    of_sent (Err r) = refl
