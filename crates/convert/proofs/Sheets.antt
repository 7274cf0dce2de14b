-- The lists that an accepted sheet holds are converted as those of the drawing that is read.
use mathlib.Core.List.{List}
use mathlib.Core.Path.{◌≡◌}
use Prim.Native.Nat.{ℕ, ◌≤◌}
use lib.IntN.{ℤ}
use lib.ListN.{length}
use Rattle.paper.specs.Numbers.{face_room, solid_room}
use Rattle.paper.specs.Refusals.{first_of, Fine}
use Rattle.paper.specs.Format.{coordinates_in, ends_in, edition_of}
use Rattle.paper.specs.Sheet.{sheet_checks, read_sheet}
use Rattle.paper.specs.Drawing.{wire}
use Rattle.paper.specs.declared.Conversion.{Conversion}
use Rattle.paper.specs.Sheet.{Sheet}
use Rattle.walk_input.specs.Given.{coordinates_of, links_of}
use Rattle.walk_input.proofs.Given.{sheet_given, sheet-lists}
use Rattle.convert.specs.Converts.{at_exit, behind, ConvertsLists, DrawingAt}

module _ (s : List ℕ) {r : Sheet} (e : r ≡ read_sheet s) (ok : Fine ≡ first_of (sheet_checks (edition_of s) s)) where
  pub sheet-at : {faces solids : List ℕ} → face_room ≤ length faces → solid_room ≤ length solids → DrawingAt r.drawing faces solids
  sheet-at f g =
      let given = sheet_given s e ok in
      record { held = given.held; lists = record { passed = given.passed; faces_fit = f; solids_fit = g } }

  pub sheet_converts : (limit : ℕ) (faces₀ solids₀ : List ℕ) {faces solids : List ℕ} {a : Conversion}
      → ConvertsLists (coordinates_of r.drawing) (links_of r.drawing) limit faces₀ faces solids₀ solids a
      → at_exit a faces solids ≡ behind (wire (coordinates_in (edition_of s) s) (ends_in (edition_of s) s)) limit faces₀ solids₀
  sheet_converts limit faces₀ solids₀ {faces} {solids} {a} w =
      sheet-lists s e ok (λ (xyz : List ℤ) (ends : List ℕ). ConvertsLists xyz ends limit faces₀ faces solids₀ solids a) w
