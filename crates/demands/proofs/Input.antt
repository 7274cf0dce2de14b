-- Both ways in which a drawing comes are one conversion and one check.
use mathlib.Core.Path.{◌≡◌, refl, ◌∙◌}
use mathlib.Core.List.{List, ◌++◌}
use Prim.Native.Nat.{ℕ}
use borrow.Author.Tests.{le-ltb}
use lib.ListN.{length}
use Rattle.paper.specs.Numbers.{documented}
use Rattle.paper.specs.Refusals.{first_of, Fine}
use Rattle.paper.specs.Format.{coordinates_in, ends_in, edition_of}
use Rattle.paper.specs.Drawing.{drawing_checks}
use Rattle.paper.specs.Loops.{loops, candidates, loop_checks}
use Rattle.paper.specs.Conversion.{entry_checks, conversion, convert_lists, convert_sheet}
use Rattle.paper.specs.Verdict.{verdict, verdict_lists, verdict_sheet}
use Rattle.paper_laws.proofs.Editions.{limited_of}
use Rattle.paper_laws.proofs.Checks.{clear, fails, first-both, both_first}
use Rattle.means_sheets.proofs.Sheets.Read.{accepted-lent}
use Rattle.means_drawing.specs.Drawings.{Rising}
use Rattle.means_drawing.proofs.Drawings.Lists.{lent_rising}
use Rattle.means_check.proofs.Drawn.{InCounts, lent_small, sheet_small}
use Rattle.demands.specs.Input.{Input, lent, sheet, drawing, form, Passes, converted, checked}
use Rattle.demands.specs.Walk.{Allowed}

pub converted_is : (x : Input) (limit : ℕ) (room solids : List ℕ)
    → converted x limit room solids ≡ conversion documented (form x) (drawing x) limit room solids
unfolding convert_lists convert_sheet
converted_is (lent xyz ends) limit room solids = refl
converted_is (sheet s) limit room solids = refl

pub checked_is : (x : Input) (list : List ℕ) → checked x list ≡ verdict (form x) (drawing x) list
unfolding verdict_lists verdict_sheet
checked_is (lent xyz ends) list = refl
checked_is (sheet s) list = refl

-- the parts of the rules
module _ (x : Input) (p : Passes x) where
  pub form-fine : Fine ≡ first_of (form x)
  form-fine =
      (first-both (form x) (drawing_checks (drawing x))
      (first-both (form x ++ drawing_checks (drawing x)) (loop_checks documented (loops (drawing x)) (candidates (drawing x))) p).0).0

  pub drawing-fine : Fine ≡ first_of (drawing_checks (drawing x))
  drawing-fine =
      (first-both (form x) (drawing_checks (drawing x))
      (first-both (form x ++ drawing_checks (drawing x)) (loop_checks documented (loops (drawing x)) (candidates (drawing x))) p).0).1

  pub loops-fine : Fine ≡ first_of (loop_checks documented (loops (drawing x)) (candidates (drawing x)))
  loops-fine = (first-both (form x ++ drawing_checks (drawing x)) (loop_checks documented (loops (drawing x)) (candidates (drawing x))) p).1

-- room and a limit that are allowed pass 1 and 2
entry-fine : (limit : ℕ) (room solids : List ℕ) → Allowed limit room solids → Fine ≡ first_of (entry_checks limit room solids)
unfolding entry_checks
entry-fine limit room solids a =
    clear ∙ fails _ _ _ (le-ltb 1000000 limit a.2) ∙ fails _ _ _ (le-ltb (length solids) 24 a.1)
    ∙ fails _ _ _ (le-ltb (length room) 832 a.0)

-- and with a drawing that passes its own, 1 to 16 pass
pub unrefused : (x : Input) → Passes x → (limit : ℕ) (room solids : List ℕ) → Allowed limit room solids
    → Fine ≡ first_of (entry_checks limit room solids ++ form x ++ drawing_checks (drawing x)
    ++ loop_checks documented (loops (drawing x)) (candidates (drawing x)))
unrefused x p limit room solids a =
    let E = entry_checks limit room solids in
    both_first (E ++ form x ++ drawing_checks (drawing x)) (loop_checks documented (loops (drawing x)) (candidates (drawing x)))
    (both_first (E ++ form x) (drawing_checks (drawing x)) (both_first E (form x) (entry-fine limit room solids a) (form-fine x p))
    (drawing-fine x p)) (loops-fine x p)

-- the ends of edges rise where 9 finds nothing
pub rising : (x : Input) → Fine ≡ first_of (form x) → Rising (drawing x)
rising (lent xyz ends) e = lent_rising xyz ends e
rising (sheet s) e = lent_rising (coordinates_in (edition_of s) s) (ends_in (edition_of s) s) (accepted-lent (edition_of s) (limited_of s) s e)

-- "4 to 32 vertices; 6 to 64 edges"
pub small : (x : Input) → Fine ≡ first_of (form x) → InCounts (drawing x)
small (lent xyz ends) e = lent_small xyz ends e
small (sheet s) e = sheet_small s e
