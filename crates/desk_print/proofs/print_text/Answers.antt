-- desk_print/proofs/print_text/Answers.antt
-- `desk_print::print_text`: the room is enough for any text, and its start is the text.
use Rattle.std.proofs.Common.{◌≡◌, ℕ, ◌≤◌, List, ◌++◌, arith, length, length-append, take, drop, sym, ap, subst, ◌∙◌, take_at, length-take-le}
use Rattle.std.proofs.Math.ListN.{replicate, length-replicate}
use Rattle.std.specs.Prelude.{OnOk, Ok, Err}
use Rattle.std.specs.Io.KnownBytes.{Appends}
use Rattle.paper.specs.declared.Refusal.{Refusal}
use Rattle.paper.specs.Desk.{desk_text}
use Rattle.desk_text.specs.Texts.{text_room_size, RoomForText}
use Rattle.desk_text.specs.Written.{written_text, text_room}
use Rattle.desk_text.proofs.Written.{roomy}
use Rattle.desk_text.proofs.Desk.{desk_short, enough}
use Rattle.desk_print.proofs.print_text.Goals as goal

-- ---- what is written to a room of zeros

abbrev zeros : List ℕ
zeros = replicate text_room_size 0

zeros_roomy : RoomForText zeros
zeros_roomy = omega (arith, length-replicate {A = ℕ} text_room_size 0)

module _ (s : List ℕ) where
  is_written : {r : Refusal} → Err r ≡ written_text (desk_text s) zeros → ⊥
  is_written e =
      let r = e ∙ sym (enough s zeros zeros_roomy) in
      let z : ◌≡◌ {A = ℕ} 0 1 = cc in
      absurd (omega arith)

  module _ {n : ℕ} {room : List ℕ} (e : Ok n ≡ written_text (desk_text s) zeros) (k : room ≡ text_room (desk_text s) zeros) where
    length_is : n ≡ length (desk_text s)
    length_is = let r = e ∙ sym (enough s zeros zeros_roomy) in cc

    left : room ≡ desk_text s ++ drop (length (desk_text s)) zeros
    left = k ∙ sym (roomy (desk_text s) zeros (omega (arith, desk_short s, zeros_roomy))).1.1

    front : take n room ≡ desk_text s
    front = ap (take n) left ∙ take_at (desk_text s) (drop (length (desk_text s)) zeros) n (sym length_is)

    within : n ≤ length room
    within = omega (arith, ap length left, length_is, length-append (desk_text s) (drop (length (desk_text s)) zeros))

-- ---- the goals

pub slice_bounds-text-end : goal.slice_bounds-text-end
slice_bounds-text-end g c = let k = c.in-Ok.ensures in within c.args.sheet.now k.answer k.kept

pub slice_bounds-print_all-end : goal.slice_bounds-print_all-end
slice_bounds-print_all-end g c = let k = c.in-Ok.ensures in sym (length-take-le _ _ (within c.args.sheet.now k.answer k.kept))

pub returns-in-Ok : goal.returns-in-Ok
returns-in-Ok g c =
    let k = c.in-Ok.ensures in
    subst (λ (text : List ℕ). OnOk c.print_all.result (Appends (g.W.Write.contents c.args.out.now) (g.W.Write.contents c.print_all.new.out) text))
    (front c.args.sheet.now k.answer k.kept) c.print_all.ensures

pub returns-in-Err : goal.returns-in-Err
returns-in-Err g c = absurd (is_written c.args.sheet.now c.in-Err.ensures.answer)
