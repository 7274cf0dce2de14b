-- What the writer of face lists leaves in its room, where it writes.
use mathlib.Core.Path.{◌≡◌, refl, sym, ap, ap₂, ◌∙◌}
use mathlib.Core.Bool.{false, not, ◌||◌}
use mathlib.Core.List.{List, ◌++◌}
use Prim.Native.Nat.{ℕ, ◌≤◌}
use native.Mathlib.Nat.{le_trans, le_of_eq, lt_of_lt_of_le}
use borrow.Author.Tests.{le-ltb, not-false}
use lib.ListN.{length, take, drop}
use lib.Seq.{take_at}
use Rattle.lists.specs.Lists.{all}
use Rattle.lists.proofs.Truth.{or-none}
use Rattle.paper_laws.proofs.Checks.{clear, fails, passed}
use Rattle.paper_laws.proofs.Limits.{outside_false, not_outside}
use Rattle.paper.specs.Numbers.{least_faces}
use Rattle.paper.specs.Refusals.{first_of}
use Rattle.paper.specs.Format.{outside, bytes_for}
use Rattle.paper.specs.Loops.{Loop}
use Rattle.paper.specs.FaceList.{list_bits, encode_faces, bits_of, face_fits, send_checks, sent_for, sent_room_for, sent_of, sent_room}
use Rattle.paper.specs.declared.Format.{Format}
use Rattle.std.specs.Prelude.{Ok}
use Rattle.paper.specs.Refusals.{Answer, Fine}
use Rattle.faces_laws.proofs.Packed.{length_list}
use Rattle.means_sheets.specs.FaceLists.{Sendable}
use Rattle.means_sheets.proofs.Filled.{length-filled}
use Rattle.means_sheets.proofs.FaceLists.Shape.{sendable_fits, sendable_is}
use Rattle.means_sheets.proofs.Writers.{wrote}

module _ (f : Format) (fs : List Loop) (room : List ℕ) where
  -- the list's length
  abbrev size : ℕ
  size = bytes_for (bits_of f fs)

  pub length_encoded : length (encode_faces f fs) ≡ size
  unfolding encode_faces
  length_encoded = length-filled (length (list_bits f fs)) (list_bits f fs) ∙ ap bytes_for (length_list f fs)

  -- ---- where it writes

  module _ (n : ℕ) (e : sent_of f fs room ≡ Ok n) where
    fine : (Fine ≡ first_of (send_checks f fs (length room))) × (n ≡ size)
    unfolding sent_of
    fine = wrote (sent_for f fs) size refl (λ r. refl) n (first_of (send_checks f fs (length room))) e

    pub sent_sendable : Sendable f f.most_vertices fs
    unfolding send_checks
    sent_sendable =
        let p = passed _ _ _ fine.0 in
        let q = or-none (outside least_faces f.most_faces (length fs)) (not (all (face_fits f f.most_vertices) fs)) p.0 in
        let o = outside_false least_faces f.most_faces (length fs) q.0 in
        sendable_is f f.most_vertices fs o.0 o.1 (not-false (all (face_fits f f.most_vertices) fs) q.1)

    pub sent-room : take n (sent_room f fs room) ≡ encode_faces f fs
    unfolding sent_room
    sent-room =
        ap (λ (a : Answer). take n (sent_room_for f fs a room)) (sym fine.0)
        ∙ take_at (encode_faces f fs) (drop size room) n (length_encoded ∙ sym fine.1)

  -- ---- faces that it takes, in room for their list

  module _ (g : Sendable f f.most_vertices fs) where
    neither : (outside least_faces f.most_faces (length fs) || not (all (face_fits f f.most_vertices) fs)) ≡ false
    neither =
        rw (not_outside least_faces f.most_faces (length fs) g.least g.most, sendable_fits f f.most_vertices fs g) refl

    pub sends : (s : List ℕ) → encode_faces f fs ≡ s → length s ≤ length room
        → (sent_of f fs room ≡ Ok (length s)) × (sent_room f fs room ≡ s ++ drop (length s) room)
    unfolding sent_of sent_room send_checks
    sends s e l =
        let m : size ≡ length s = sym length_encoded ∙ ap length e in
        let c : Fine ≡ first_of (send_checks f fs (length room)) =
        clear ∙ fails _ _ _ (le-ltb (length room) size (le_trans (le_of_eq m) l)) ∙ fails _ _ _ neither in (
          ap (sent_for f fs) (sym c) ∙ ap Ok m,
          ap (λ (a : Answer). sent_room_for f fs a room) (sym c) ∙ ap₂ (λ (t : List ℕ) (k : ℕ). t ++ drop k room) e m,
        )

-- faces of a drawing of v vertices, where a list has numbers for more
pub sendable_more : (f : Format) (v w : ℕ) (fs : List Loop) → v ≤ w → Sendable f v fs → Sendable f w fs
sendable_more f v w fs h g = record {
  least = g.least;
  most = g.most;
  few = g.few;
  many = g.many;
  numbers = λ i j l m. lt_of_lt_of_le (g.numbers i j l m) h;
}
