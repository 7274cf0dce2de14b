-- The first check that applies to a drawing with its list.
use mathlib.Core.List.{List, ◌++◌, append_assoc}
use mathlib.Core.Path.{◌≡◌, refl, sym, ap, ◌∙◌}
use Prim.Native.Nat.{ℕ}
use lib.ListN.{length}
use Rattle.paper.specs.Numbers.{documented}
use Rattle.paper.specs.Refusals.{Check, first_of, Answer, Fine, Verdict}
use Rattle.paper.specs.Drawing.{Wire, drawing_checks}
use Rattle.paper.specs.Loops.{loops, candidates, loop_checks}
use Rattle.paper.specs.Solids.{tables_of}
use Rattle.paper.specs.Verdict.{list_edition, verdict_for, verdict}
use Rattle.std.specs.Prelude.{Ok, Err}
use Rattle.paper.specs.declared.Refusal.{Refusal}
use Rattle.paper_laws.proofs.Checks.{first_stops, first_passes}
use Rattle.walk_input.specs.Tables.{checks_of}
use Rattle.verdict.specs.Checked.{list_checks, rest_checks}

-- an answer is the verdict of it
pub same_verdict : (a : Answer) → a ≡ verdict_for a
same_verdict (Ok _) = refl
same_verdict (Err r) = refl

-- what is refused is refused
pub refused_so : {r : Refusal} {a : Answer} → Err r ≡ a → Err r ≡ verdict_for a
refused_so e = ap verdict_for e

-- ---- behind 3 to 10

module _ (d : Wire) (list : List ℕ) where
  abbrev mine : List Check
  mine = list_checks (list_edition d) (length d.vertices) (candidates d) (tables_of d (candidates d)) list

  pub drawing_stops : {r : Refusal} → Err r ≡ first_of (checks_of d) → Err r ≡ verdict_for (first_of (rest_checks d list))
  drawing_stops e = refused_so (first_stops (checks_of d) mine e)

  pub list_decides : {r : Verdict} → Fine ≡ first_of (checks_of d) → r ≡ verdict_for (first_of mine) → r ≡ verdict_for (first_of (rest_checks d list))
  list_decides ok e = e ∙ ap verdict_for (first_passes (checks_of d) mine ok)

  -- ---- all of it, of a drawing with checks of its own form

  module _ (form : List Check) where
    in_order : verdict_for (first_of (form ++ rest_checks d list)) ≡ verdict form d list
    unfolding verdict candidates
    in_order =
        ap (λ (cs : List Check). verdict_for (first_of cs))
        (sym (append_assoc form (checks_of d) mine) ∙ ap (λ (cs : List Check). cs ++ mine)
        (sym (append_assoc form (drawing_checks d) (loop_checks documented (loops d) (candidates d)))))

    pub form_stops : {r : Refusal} → Err r ≡ first_of form → Err r ≡ verdict form d list
    form_stops e = refused_so (first_stops form (rest_checks d list) e) ∙ in_order

    pub rest_decides : {r : Verdict} → Fine ≡ first_of form → r ≡ verdict_for (first_of (rest_checks d list)) → r ≡ verdict form d list
    rest_decides ok e = e ∙ ap verdict_for (first_passes form (rest_checks d list) ok) ∙ in_order
