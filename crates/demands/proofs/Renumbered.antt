-- Drawings with new numbers: the same rule, and the same solids.
use mathlib.Core.Path.{◌≡◌, refl, sym, ap, ◌∙◌, subst}
use mathlib.Core.Option.{none}
use mathlib.Core.List.{List, ◌++◌}
use Prim.Native.Nat.{ℕ}
use native.Mathlib.Omega.{arith}
use lib.ListN.{length}
use Rattle.paper.specs.Numbers.{documented}
use Rattle.paper.specs.Refusals.{first_of, Answer, Fine}
use Rattle.paper.specs.Format.{edition_of}
use Rattle.paper.specs.Drawing.{same_place, drawing_checks}
use Rattle.paper.specs.Loops.{loops, uncovering, candidates, loop_checks}
use Rattle.paper.specs.Conversion.{Converted, entry_checks, conversion}
use Rattle.std.specs.Prelude.{Ok, Err}
use Rattle.paper.specs.declared.Conversion.TheVariants as Conversion
use Rattle.paper.specs.declared.Refusal.{Refusal}
use Rattle.means_report.specs.Listed.{Entry}
use Rattle.means_report.specs.Report.{solid_count}
use Rattle.means_report.proofs.Counted.{counted}
use Rattle.paper_laws.proofs.Editions.{limited_of}
use Rattle.paper_laws.proofs.Checks.{first_stops, first-both, both_first}
use Rattle.means_check.proofs.Demand.{drawing_places}
use Rattle.means_moves.specs.Renumbered.{NewNumbers}
use Rattle.means_moves.specs.Reports.{NotCut, TellsAll, SameReport}
use Rattle.means_moves.proofs.Lent.{rising_below}
use Rattle.means_moves.proofs.Refused.{Sorted, rule_of, same_rule, same_refusal}
use Rattle.means_moves.proofs.Sorted.{lent_sorted, sheet_sorted}
use Rattle.means_moves.proofs.Undone.{renumbers}
use Rattle.means_moves.proofs.Told.{same_report}
use Rattle.demands.specs.Input.{Input, lent, sheet, drawing, form, candidates_of, Passes, converted}
use Rattle.demands.specs.Solid.{Solid}
use Rattle.demands.specs.Walk.{Allowed}
use Rattle.demands.proofs.Input.{converted_is, drawing-fine, loops-fine, unrefused}
use Rattle.demands.proofs.Solid.{of_words, in_words, every-words}
use Rattle.demands.specs.Renumbered.{SameSolid, Given, SolidsKept, ListsAll, OneToOne, Renumbers}

sorted : (x : Input) → Fine ≡ first_of (form x) → Sorted (drawing x)
sorted (lent xyz ends) e = lent_sorted xyz ends e
sorted (sheet s) e = sheet_sorted (edition_of s) (limited_of s) s e

-- a refusal of 1 and 2 is no matter of the drawing
module _ (x : Input) (limit : ℕ) (faces solids : List ℕ) where
  entry_stops : (r : Refusal) → Err r ≡ first_of (entry_checks limit faces solids) → (converted x limit faces solids).answer ≡
      Conversion.Refused r
  unfolding conversion
  entry_stops r e =
      let E = entry_checks limit faces solids in
      let a = first_stops E (form x) e in
      let b = first_stops (E ++ form x) (drawing_checks (drawing x)) a in
      let c : Err r ≡ first_of (E ++ form x ++ drawing_checks (drawing x) ++ loop_checks documented (loops (drawing x))
      (uncovering (drawing x) (loops (drawing x))))
      = first_stops (E ++ form x ++ drawing_checks (drawing x)) _ b in
      ap (λ (q : Converted). q.answer) (converted_is x limit faces solids) ∙ rw (← c)

module _ (new : ℕ → ℕ) (x y : Input) (g : Given new x y) where
  sx : Sorted (drawing x)
  sx = sorted x g.good

  sy : Sorted (drawing y)
  sy = sorted y g.good_too

  numbers : NewNumbers new (drawing x) (drawing y)
  numbers = record {
    numbers = g.numbers;
    ends = rising_below (drawing x) sx.rising;
    ends_too = rising_below (drawing y) sy.rising;
  }

  number : (limit : ℕ) (faces solids : List ℕ) (r : Refusal) → (converted x limit faces solids).answer ≡ Conversion.Refused r
      → (q : Refusal) × ((converted y limit faces solids).answer ≡ Conversion.Refused q) × (q.number ≡ r.number)
  number limit faces solids r e = go (first_of (entry_checks limit faces solids)) refl
    where
      go : (a : Answer) → a ≡ first_of (entry_checks limit faces solids)
          → (q : Refusal) × ((converted y limit faces solids).answer ≡ Conversion.Refused q) × (q.number ≡ r.number)
      go (Ok _) p =
          let w = same_refusal numbers sx sy documented (form x) (form y) g.good g.good_too limit limit faces faces solids solids p
          p r
          (ap (λ (c : Converted). c.answer) (sym (converted_is x limit faces solids)) ∙ e) in
          (w.0, ap (λ (c : Converted). c.answer) (converted_is y limit faces solids) ∙ w.1, w.2)
      go (Err q) p =
          let z = entry_stops x limit faces solids q p in
          (q, entry_stops y limit faces solids q p, (let t : q ≡ r = cc in ap (λ (k : Refusal). k.number) t))

  passes : Passes x → Passes y
  passes p =
      go (first_of (drawing_checks (drawing y) ++ loop_checks documented (loops (drawing y)) (candidates (drawing y)))) refl
      (same_rule documented numbers sx sy
      ∙ ap rule_of (sym (both_first (drawing_checks (drawing x)) (loop_checks documented (loops (drawing x)) (candidates (drawing x)))
      (drawing-fine x p) (loops-fine x p))))
    where
      go : (a : Answer) → a ≡ first_of (drawing_checks (drawing y) ++ loop_checks documented (loops (drawing y)) (candidates (drawing y)))
          → rule_of a ≡ none → Passes y
      go (Ok _) q z =
          let w = first-both (drawing_checks (drawing y)) (loop_checks documented (loops (drawing y)) (candidates (drawing y))) q in
          both_first (form y ++ drawing_checks (drawing y)) (loop_checks documented (loops (drawing y)) (candidates (drawing y)))
          (both_first (form y) (drawing_checks (drawing y)) g.good_too w.0) w.1
      go (Err r) q z = let t : ◌≡◌ {A = ℕ} 0 1 = cc in absurd (omega arith)

  places : Passes x → same_place (drawing x) ≡ none
  places p = drawing_places (drawing x) (drawing-fine x p)

  solids : Passes x → (s : Entry) → Solid (drawing x) (candidates_of x) s.taken s.turned s.six
      → (t : Entry) × Solid (drawing y) (candidates_of y) t.taken t.turned t.six × SameSolid new x y s t
  solids p s h =
      let w = (renumbers numbers (places p)).solids s.taken s.turned s.six (of_words (drawing x) h) in (
        record { taken = w.taken_there; turned = w.turned_there; six = s.six },
        in_words (drawing y) w.solid,
        record { body = w.body; six = refl },
      )

  report : (z : Input) (u : List ℕ) (r : Converted) → TellsAll (drawing z) u r → ListsAll z u r
  report z u r t = record {
    es = t.es;
    count = sym (ap solid_count t.answer ∙ counted (length (loops (drawing z))) (length (candidates (drawing z))) t.work t.es);
    words = t.words;
    every = every-words (drawing z) t.es t.listed;
  }

  reports : Passes x → (a b : ℕ) (f h u v : List ℕ) → Allowed a f u → Allowed b h v → NotCut (converted x a f u).answer
      → NotCut (converted y b h v).answer
      → (p : ListsAll x u (converted x a f u)) × (q : ListsAll y v (converted y b h v)) × OneToOne new x y p.es q.es
  unfolding report
  reports p a b f h u v ax ay wx wy =
      let cx = converted_is x a f u in
      let cy = converted_is y b h v in
      let s : SameReport new (drawing x) (drawing y) u v (converted x a f u) (converted y b h v) = subst
      (λ (c : Converted). SameReport new (drawing x) (drawing y) u v c (converted y b h v)) (sym cx)
      (subst (SameReport new (drawing x) (drawing y) u v (conversion documented (form x) (drawing x) a f u)) (sym cy)
      (same_report numbers (form x) (form y) a b f h u v (unrefused x p a f u ax) (unrefused y (passes p) b h v ay)
      (subst (λ (c : Converted). NotCut c.answer) cx wx) (subst (λ (c : Converted). NotCut c.answer) cy wy))) in (
        report x u (converted x a f u) s.here,
        report y v (converted y b h v) s.there,
        record {
          as_many = s.as_many;
          to = s.to;
          low = s.low;
          apart = s.apart;
          same = λ i l. record { body = s.body i l; six = s.six i l };
        },
      )

  kept : SolidsKept new x y
  kept = record {
    number = number;
    passes = passes;
    loops_too = λ h. (renumbers numbers h).loops_too;
    candidates_too = λ h. (renumbers numbers h).candidates_too;
    solids = solids;
    reports = reports;
  }

pub renumbering : Renumbers
renumbering new x y g = kept new x y g
