-- What the writer leaves in its room, where it writes.
use mathlib.Core.Path.{◌≡◌, refl, sym, ap, ap₂, ◌∙◌}
use mathlib.Core.List.{List, ◌++◌, map}
use Prim.Native.Nat.{ℕ, ◌/◌, ◌≤◌}
use native.Mathlib.Nat.{le_trans, le_of_eq}
use lib.IntN.{ℤ}
use lib.ListN.{length, take, drop}
use lib.Seq.{take_at}
use Rattle.pack.specs.Bits.{run}
use Rattle.paper_laws.proofs.Checks.{first-both}
use Rattle.paper.specs.Refusals.{first_of, Answer, Fine}
use Rattle.paper.specs.Format.{coordinate_bits, head_bits, total, bytes_for, on_sheet, encode}
use Rattle.paper.specs.Sheet.{lent_checks, writer_checks, written_for, room_for, written_of, room_of}
use Rattle.paper.specs.declared.Format.{Format}
use Rattle.std.specs.Prelude.{Ok}
use Rattle.sheet_laws.proofs.Written.{result_fine}
use Rattle.means_sheets.proofs.Filled.{length-filled}
use Rattle.means_sheets.proofs.Writers.{wrote}

-- the sheet's length
pub length_sheet : (f : Format) (xyz : List ℤ) (ends : List ℕ)
    → length (encode f xyz ends) ≡ bytes_for (total f (length xyz / 3) (length ends / 2))
unfolding encode
length_sheet f xyz ends =
    length-filled (total f (length xyz / 3) (length ends / 2))
    (head_bits f (length xyz / 3) (length ends / 2) ++ run coordinate_bits (map on_sheet xyz) ++ run f.vertex_number_bits ends)

module _ (f : Format) (xyz : List ℤ) (ends room : List ℕ) (n : ℕ) (e : written_of f xyz ends room ≡ Ok n) where
  abbrev size : ℕ
  size = bytes_for (total f (length xyz / 3) (length ends / 2))

  fine : (Fine ≡ first_of (writer_checks f xyz ends (length room))) × (n ≡ size)
  unfolding written_of
  fine = wrote (written_for f xyz ends) size refl (λ r. refl) n (first_of (writer_checks f xyz ends (length room))) e

  pub written_lent : Fine ≡ first_of (lent_checks xyz ends)
  unfolding writer_checks
  written_lent = (first-both (lent_checks xyz ends) _ fine.0).0

  pub written_room : take n (room_of f xyz ends room) ≡ encode f xyz ends
  unfolding room_of
  written_room =
      ap (λ (a : Answer). take n (room_for f xyz ends a room)) (sym fine.0)
      ∙ take_at (encode f xyz ends) (drop size room) n (length_sheet f xyz ends ∙ sym fine.1)

-- lists that the writer takes, in room for their sheet
pub writes : (f : Format) (xyz : List ℤ) (ends s room : List ℕ) → Fine ≡ first_of (lent_checks xyz ends)
    → encode f xyz ends ≡ s → length s ≤ length room
    → (written_of f xyz ends room ≡ Ok (length s)) × (room_of f xyz ends room ≡ s ++ drop (length s) room)
writes f xyz ends s room h e l =
    let m : bytes_for (total f (length xyz / 3) (length ends / 2)) ≡ length s = sym (length_sheet f xyz ends) ∙ ap length e in
    let r = result_fine f xyz ends room h (le_trans (le_of_eq m) l) in
    (sym r.0 ∙ ap Ok m, sym r.1 ∙ ap₂ (λ (t : List ℕ) (k : ℕ). t ++ drop k room) e m)
