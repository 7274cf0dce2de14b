-- The desk's text of a sheet is that of the conversion's answer, and no longer than the room for any.
use mathlib.Core.List.{List}
use mathlib.Core.Path.{◌≡◌, refl, sym, ap, ◌∙◌}
use Prim.Native.Nat.{ℕ, ◌≤◌, ◌<◌}
use native.Mathlib.Decide.{dec_lt}
use native.Mathlib.Omega.{arith}
use borrow.Author.Tests.{lt-ltb}
use lib.ListN.{length, replicate}
use Rattle.paper.specs.Numbers.{most_work, most_solids, face_room, solid_room}
use Rattle.paper.specs.Refusals as No
use Rattle.paper.specs.Refusals.{first_of, refuse, Fine}
use Rattle.paper.specs.Format.{vertices_in, edges_in, coordinates_in, ends_in, edition_of}
use Rattle.paper.specs.Sheet.{open_checks, shape_checks, sheet_checks}
use Rattle.paper.specs.Drawing.{Wire, wire}
use Rattle.paper.specs.Conversion.{Converted, entry_checks, convert_sheet}
use Rattle.paper.specs.Desk.{answer_text, desk_text}
use Rattle.std.specs.Prelude.{Ok}
use Rattle.paper.specs.declared.Conversion.{Conversion}
use Rattle.paper.specs.declared.Refusal.{Refusal}
use Rattle.means_report.proofs.Demand.{kind, says_several}
use Rattle.means_report.proofs.Converted.{the_walk, sheet_unrefused}
use Rattle.convert.specs.Converts.{at_exit}
use Rattle.convert.proofs.Converting.{stops_at-form}
use Rattle.desk_text.specs.declared.answer.SheetCounts.{SheetCounts}
use Rattle.desk_text.specs.Texts.{SheetCounted, text_room_size, RoomForText, Answering}
use Rattle.desk_text.specs.Written.{written_text}
use Rattle.desk_text.proofs.Written.{roomy}
use Rattle.desk_text.proofs.Short.{answer_short}

-- a refusal's text has no counts
any_counts : (v e v' e' : ℕ) (x : Refusal) (ws : List ℕ) → answer_text v e (Conversion.Refused x) ws ≡ answer_text v' e' (Conversion.Refused x) ws
unfolding answer_text
any_counts v e v' e' x ws = refl

module _ (s : List ℕ) where
  abbrev faces : List ℕ
  faces = replicate face_room 0

  abbrev solids : List ℕ
  solids = replicate solid_room 0

  abbrev pub made : Converted
  made = convert_sheet s most_work faces solids

  abbrev drawing : Wire
  drawing = wire (coordinates_in (edition_of s) s) (ends_in (edition_of s) s)

  several_few : (l c w n : ℕ) → made.answer ≡ Conversion.Several l c w n → n ≤ most_solids
  several_few l c w n e =
      (says_several drawing (the_walk drawing) most_work faces solids made
      (sheet_unrefused s most_work faces solids (λ x r. omega (arith, ap kind (sym r ∙ e)))) e).eight

  -- a sheet too short for counts is refused for that
  entry-fine : Fine ≡ first_of (entry_checks most_work faces solids)
  unfolding entry_checks first_of
  entry-fine = refl

  short_first : length s < 3 → refuse No.SheetShort 0 ≡ first_of (sheet_checks (edition_of s) s)
  unfolding sheet_checks shape_checks open_checks first_of
  short_first h = rw (lt-ltb (length s) 3 h)

  short_refused : length s < 3 → made.answer ≡ Conversion.Refused (record { number = No.SheetShort; place = 0 })
  unfolding convert_sheet
  short_refused h =
      sym (ap (λ (c : Converted). c.answer) (stops_at-form (sheet_checks (edition_of s) s) drawing most_work faces solids entry-fine (short_first h)))

  module _ (k : SheetCounts) (n : SheetCounted s k) where
    made-text : answer_text k.vertices k.edges made.answer made.solids ≡ desk_text s
    unfolding desk_text
    made-text = go (dec_lt (length s) 3)
      where
        go : Dec (length s < 3)
            → answer_text k.vertices k.edges made.answer made.solids
            ≡ answer_text (vertices_in (edition_of s) s) (edges_in (edition_of s) s) made.answer made.solids
        go (yes h) =
            let e = short_refused h in
            ap (λ (a : Conversion). answer_text k.vertices k.edges a made.solids) e
            ∙ any_counts k.vertices k.edges (vertices_in (edition_of s) s) (edges_in (edition_of s) s)
            (record { number = No.SheetShort; place = 0 }) made.solids
            ∙ sym (ap (λ (a : Conversion). answer_text (vertices_in (edition_of s) s) (edges_in (edition_of s) s) a made.solids) e)
        go (no h) =
            let m = n (omega (arith, h)) in
            λ i. answer_text (m.0 i) (m.1 i) made.answer made.solids

    module _ {r : Conversion} {f ws : List ℕ} (e : at_exit r f ws ≡ made) where
      pub text_is : answer_text k.vertices k.edges r ws ≡ desk_text s
      text_is = ap (λ (c : Converted). answer_text k.vertices k.edges c.answer c.solids) e ∙ made-text

      pub answering : {room : List ℕ} → solid_room ≤ length ws → RoomForText room → Answering k r ws room
      answering h g =
          let a : r ≡ made.answer = ap (λ (c : Converted). c.answer) e in
          let few : (l c w n : ℕ) → r ≡ Conversion.Several l c w n → n ≤ most_solids = λ l c w n p. several_few l c w n (sym a ∙ p) in
          record {
            words = h;
            few = few;
            fits = record { fits = omega (arith, answer_short k.vertices k.edges r ws few) };
          }

  -- no text is longer than the room for any
  pub desk_short : length (desk_text s) ≤ text_room_size
  unfolding desk_text
  desk_short = answer_short (vertices_in (edition_of s) s) (edges_in (edition_of s) s) made.answer made.solids several_few

  -- so in that room it is always written
  pub enough : (room : List ℕ) → RoomForText room → Ok (length (desk_text s)) ≡ written_text (desk_text s) room
  enough room h = (roomy (desk_text s) room (omega (arith, desk_short))).0
