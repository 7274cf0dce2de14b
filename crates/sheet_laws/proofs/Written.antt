-- The writer's answer and its room, for each way out.
use mathlib.Core.Path.{◌≡◌, ap, ◌∙◌}
use mathlib.Core.List.{List, ◌++◌}
use Prim.Native.Nat.{ℕ, ◌≤◌, ◌<◌, ◌/◌}
use borrow.Author.Tests.{lt-ltb, le-ltb}
use lib.IntN.{ℤ}
use lib.ListN.{length, drop}
use Rattle.paper_laws.proofs.Checks.{holds, fails, clear, first_stops, first_passes}
use Rattle.paper.specs.Refusals as No
use Rattle.paper.specs.Refusals.{first_of, Answer, Fine, Written}
use Rattle.paper.specs.Format.{total, bytes_for, encode}
use Rattle.paper.specs.Sheet.{lent_checks, writer_checks, written_for, room_for, written_of, room_of}
use Rattle.paper.specs.declared.Format.{Format}
use Rattle.paper.specs.declared.Refusal.{Refusal}
use Rattle.std.specs.Prelude.{Ok, Err}

module _ (f : Format) (xyz : List ℤ) (ends room : List ℕ) where
  -- the sheet's length
  abbrev size : ℕ
  size = bytes_for (total f (length xyz / 3) (length ends / 2))

  abbrev pub Result : Written → List ℕ → Type 0
  Result w r = (w ≡ written_of f xyz ends room) × (r ≡ room_of f xyz ends room)

  from : {a : Answer} → a ≡ first_of (writer_checks f xyz ends (length room)) → Result (written_for f xyz ends a) (room_for f xyz ends a room)
  unfolding written_of room_of
  from e = (ap (written_for f xyz ends) e, ap (λ (a : Answer). room_for f xyz ends a room) e)

  pub result_refused : {r : Refusal} → Err r ≡ first_of (lent_checks xyz ends) → Result (Err r) room
  unfolding writer_checks
  result_refused e = from (first_stops (lent_checks xyz ends) _ e)

  module _ (e : Fine ≡ first_of (lent_checks xyz ends)) where
    pub result_short : length room < size → Result (Err (record { number = No.NoRoom; place = 0 })) room
    unfolding writer_checks
    result_short h = from (holds _ _ _ (lt-ltb _ _ h) ∙ first_passes (lent_checks xyz ends) _ e)

    pub result_fine : size ≤ length room → Result (Ok size) (encode f xyz ends ++ drop size room)
    unfolding writer_checks
    result_fine h = from (clear ∙ fails _ _ _ (le-ltb _ _ h) ∙ first_passes (lent_checks xyz ends) _ e)
