-- A conversion goes by its checks: the first that applies, or what the walk came to.
use mathlib.Core.List.{List, ◌++◌, append_assoc}
use mathlib.Core.Path.{◌≡◌, sym, ap, ◌∙◌}
use Prim.Native.Nat.{ℕ, ◌≤◌, ◌<◌}
use native.Mathlib.Omega.{arith}
use borrow.Author.Tests.{lt-ltb, le-ltb, ltb-false}
use lib.Dec.{ltb}
use lib.ListN.{length}
use Rattle.paper.specs.Numbers.{most_work, face_room, solid_room, documented}
use Rattle.paper.specs.Refusals as No
use Rattle.paper.specs.Refusals.{Check, first_of, refuse, Answer, Fine}
use Rattle.paper.specs.Drawing.{Wire, drawing_checks}
use Rattle.paper.specs.Loops.{loops, candidates, loop_checks}
use Rattle.paper.specs.Conversion.{Converted, entry_checks, or_convert, concluded, conversion}
use Rattle.paper.specs.Reading.{conversion_says}
use Rattle.std.specs.Prelude.{Err}
use Rattle.paper.specs.declared.Conversion.{Conversion}
use Rattle.paper.specs.declared.Conversion.TheVariants as Conversion
use Rattle.paper.specs.declared.Refusal.{Refusal}
use Rattle.paper_laws.proofs.Checks.{clear, holds, fails, passed, first_stops, first_passes}
use Rattle.loop_table.proofs.Loops.{candidates_of_lem}
use Rattle.loop_table.proofs.Rows.{rows_held}
use Rattle.report.specs.Concluded.{Concluded}
use Rattle.walk_input.specs.Tables.{checks_of}
use Rattle.walk_input.specs.declared.rows.Counts.{Counts}
use Rattle.walk.specs.declared.tally.Tally.{Tally}
use Rattle.convert.specs.Walked.{tables_in, log_of, Done}
use Rattle.convert.specs.Converts.{at_exit, Entered, behind}

-- ---- 1 and 2

module _ (limit f s : ℕ) where
  pub no_faces_lem : f < face_room → {r : Answer} → r ≡ refuse No.NoRoom 0 → Entered limit f s r
  unfolding entry_checks
  no_faces_lem h e faces solids p q = e ∙ holds No.NoRoom 0 _ (lt-ltb (length faces) face_room (omega (arith, h, p)))

  module _ (h : face_room ≤ f) where
    pub no_solids : s < solid_room → {r : Answer} → r ≡ refuse No.NoRoom 1 → Entered limit f s r
    unfolding entry_checks
    no_solids g e faces solids p q =
        e ∙ holds No.NoRoom 1 _ (lt-ltb (length solids) solid_room (omega (arith, g, q)))
        ∙ fails No.NoRoom 0 _ (le-ltb (length faces) face_room (omega (arith, h, p)))

    module _ (g : solid_room ≤ s) where
      pub no_limit : most_work < limit → {r : Answer} → r ≡ refuse No.BadLimit 0 → Entered limit f s r
      unfolding entry_checks
      no_limit l e faces solids p q =
          e ∙ holds No.BadLimit 0 _ (lt-ltb most_work limit l)
          ∙ fails No.NoRoom 1 _ (le-ltb (length solids) solid_room (omega (arith, g, q)))
          ∙ fails No.NoRoom 0 _ (le-ltb (length faces) face_room (omega (arith, h, p)))

      pub enters : limit ≤ most_work → Entered limit f s Fine
      unfolding entry_checks
      enters l faces solids p q =
          clear ∙ fails No.BadLimit 0 _ (le-ltb most_work limit l)
          ∙ fails No.NoRoom 1 _ (le-ltb (length solids) solid_room (omega (arith, g, q)))
          ∙ fails No.NoRoom 0 _ (le-ltb (length faces) face_room (omega (arith, h, p)))

-- ---- 11 to 19, or a report

-- a refusal leaves the rooms as they came
pub refuses : (a : Answer) (r : Refusal) (faces solids : List ℕ) (c : Converted) → Err r ≡ a
    → at_exit (Conversion.Refused r) faces solids ≡ or_convert a faces solids c
refuses a r faces solids c e = ap (λ (x : Answer). or_convert x faces solids c) e

module _ (d : Wire) (limit : ℕ) (faces₀ solids₀ : List ℕ) where
  pub concludes : {rows₀ rows out₀ out : List ℕ} {c : Counts} {t : Tally} {r : Conversion} {faces solids : List ℕ}
      → Done d limit rows₀ rows out₀ out c t → Concluded c.loops c.candidates rows t out faces₀ faces solids₀ solids r
      → at_exit r faces solids ≡ behind d limit faces₀ solids₀
  concludes {rows₀} {rows} {out₀} {out} {c} {t} w k =
      let cs = candidates d in
      sym (k.same cs (tables_in d) (log_of d limit) out₀ (sym w.candidates_are)
      (rows_held cs (candidates_of_lem d).short rows rows₀ w.rows_are) w.stored)
      ∙ ap (λ (l : ℕ). concluded l cs (tables_in d) (log_of d limit) faces₀ solids₀) w.loops_are
      ∙ ap (λ (a : Answer). or_convert a faces₀ solids₀ (concluded (length (loops d)) cs (tables_in d) (log_of d limit) faces₀ solids₀))
      w.fine

-- ---- all of it, of a drawing with checks of its own form

module _ (form : List Check) (d : Wire) (limit : ℕ) (faces solids : List ℕ) where
  abbrev entry : List Check
  entry = entry_checks limit faces solids

  in_order : entry ++ (form ++ checks_of d) ≡ entry ++ form ++ drawing_checks d ++ loop_checks documented (loops d) (candidates d)
  in_order =
      sym (append_assoc entry form (checks_of d)) ∙ sym (append_assoc (entry ++ form) (drawing_checks d) (loop_checks documented (loops d) (candidates d)))

  -- the answer to all checks decides
  decides : {a : Answer} → a ≡ first_of (entry ++ (form ++ checks_of d))
      → or_convert a faces solids (concluded (length (loops d)) (candidates d) (tables_in d) (log_of d limit) faces solids)
      ≡ conversion documented form d limit faces solids
  unfolding conversion candidates
  decides e =
      ap (λ (a : Answer). or_convert a faces solids (concluded (length (loops d)) (candidates d) (tables_in d) (log_of d limit) faces solids))
      (e ∙ ap first_of in_order)

  pub stops_at-entry : {r : Refusal} → Err r ≡ first_of entry
      → at_exit (Conversion.Refused r) faces solids ≡ conversion documented form d limit faces solids
  stops_at-entry e = decides (first_stops entry _ e)

  module _ (ok : Fine ≡ first_of entry) where
    pub stops_at-form : {r : Refusal} → Err r ≡ first_of form
        → at_exit (Conversion.Refused r) faces solids ≡ conversion documented form d limit faces solids
    stops_at-form e = decides (first_stops form _ e ∙ first_passes entry _ ok)

    pub goes_behind : Fine ≡ first_of form → behind d limit faces solids ≡ conversion documented form d limit faces solids
    goes_behind e = decides (first_passes form (checks_of d) e ∙ first_passes entry _ ok)

-- ---- what 1 and 2 let through has room

pub roomy_enough : (limit : ℕ) (faces solids : List ℕ) → Fine ≡ first_of (entry_checks limit faces solids)
    → (face_room ≤ length faces) × (solid_room ≤ length solids)
unfolding entry_checks
roomy_enough limit faces solids ok =
    let f = passed No.NoRoom 0 {b = ltb (length faces) face_room} _ ok in
    let s = passed No.NoRoom 1 {b = ltb (length solids) solid_room} _ f.1 in
    (ltb-false (length faces) face_room f.0, ltb-false (length solids) solid_room s.0)

-- ---- what is left in the rooms, and what is said

module _ (form : List Check) (d : Wire) (limit : ℕ) (faces₀ solids₀ : List ℕ) where
  abbrev pub Left : Conversion → List ℕ → List ℕ → Type 0
  Left r faces solids =
      (at_exit r faces solids ≡ conversion documented form d limit faces₀ solids₀)
      × (conversion_says r ≡ conversion_says (conversion documented form d limit faces₀ solids₀).answer)

  says : {r : Conversion} {faces solids : List ℕ} → at_exit r faces solids ≡ conversion documented form d limit faces₀ solids₀
      → Left r faces solids
  says e = (e, ap (λ (x : Converted). conversion_says x.answer) e)

  pub stopped : {r : Refusal} → Err r ≡ first_of (entry_checks limit faces₀ solids₀) → Left (Conversion.Refused r) faces₀ solids₀
  stopped e = says (stops_at-entry form d limit faces₀ solids₀ e)

  module _ (ok : Fine ≡ first_of (entry_checks limit faces₀ solids₀)) where
    pub stopped_at-form : {r : Refusal} → Err r ≡ first_of form → Left (Conversion.Refused r) faces₀ solids₀
    stopped_at-form e = says (stops_at-form form d limit faces₀ solids₀ ok e)

    pub gone_behind : {r : Conversion} {faces solids : List ℕ} → Fine ≡ first_of form
        → at_exit r faces solids ≡ behind d limit faces₀ solids₀ → Left r faces solids
    gone_behind e w = says (w ∙ goes_behind form d limit faces₀ solids₀ ok e)
