-- The checks of a conversion, 1 to 16, one group behind the other.
use mathlib.Core.Path.{◌≡◌, ap, ◌∙◌}
use mathlib.Core.List.{List, ◌++◌}
use Prim.Native.Nat.{ℕ}
use Rattle.paper.specs.Numbers.{Limits}
use Rattle.paper.specs.Refusals.{Check, first_of, Answer, Fine}
use Rattle.paper.specs.Drawing.{Wire, drawing_checks}
use Rattle.paper.specs.Loops.{loops, uncovering, loop_checks}
use Rattle.paper.specs.Conversion.{entry_checks}
use Rattle.paper_laws.proofs.Behind.{or_else, first_append}
use Rattle.paper_laws.proofs.Checks.{first-both}

module _ (most : Limits) (limit : ℕ) (faces solids : List ℕ) where
  -- 1 to 16
  abbrev pub checks_of : List Check → Wire → List Check
  checks_of form d = entry_checks limit faces solids ++ form ++ drawing_checks d ++ loop_checks most (loops d) (uncovering d (loops d))

  pub parts : (form : List Check) (d : Wire)
      → first_of (checks_of form d)
      ≡ or_else (or_else (or_else (first_of (entry_checks limit faces solids)) (first_of form)) (first_of (drawing_checks d)))
      (first_of (loop_checks most (loops d) (uncovering d (loops d))))
  parts form d =
      first_append (entry_checks limit faces solids ++ form ++ drawing_checks d) (loop_checks most (loops d) (uncovering d (loops d)))
      ∙ ap (λ (a : Answer). or_else a (first_of (loop_checks most (loops d) (uncovering d (loops d)))))
      (first_append (entry_checks limit faces solids ++ form) (drawing_checks d)
      ∙ ap (λ (a : Answer). or_else a (first_of (drawing_checks d))) (first_append (entry_checks limit faces solids) form))

  -- what passes them all
  pub fine-form : (form : List Check) (d : Wire) → Fine ≡ first_of (checks_of form d) → Fine ≡ first_of form
  fine-form form d p =
      (first-both (entry_checks limit faces solids) form
      (first-both (entry_checks limit faces solids ++ form) (drawing_checks d)
      (first-both (entry_checks limit faces solids ++ form ++ drawing_checks d) (loop_checks most (loops d) (uncovering d (loops d))) p).0).0).1

  pub fine-drawing : (form : List Check) (d : Wire) → Fine ≡ first_of (checks_of form d) → Fine ≡ first_of (drawing_checks d)
  fine-drawing form d p =
      (first-both (entry_checks limit faces solids ++ form) (drawing_checks d)
      (first-both (entry_checks limit faces solids ++ form ++ drawing_checks d) (loop_checks most (loops d) (uncovering d (loops d))) p).0).1
