-- The same rule of 11 to 16 refuses a drawing and the same under new numbers, or none does.
use mathlib.Core.Path.{◌≡◌, refl, sym, ap, ap₂, ◌∙◌}
use mathlib.Core.Bool.{Bool, true, false, cond}
use mathlib.Core.Option.{Option, none, some}
use mathlib.Core.List.{List, [], ◌∷◌, ◌++◌}
use Prim.Native.Nat.{ℕ}
use native.Mathlib.Omega.{arith}
use lib.Dec.{eqb, ltb}
use lib.ListN.{length}
use Rattle.paper.specs.Refusals as No
use Rattle.paper.specs.Numbers.{Limits}
use Rattle.paper.specs.Refusals.{value_of, Check, check, first_of, offends, Answer, Fine}
use Rattle.paper.specs.Drawing.{Wire, same_place, loose_vertex, edge_meets, apart, drawing_checks}
use Rattle.paper.specs.Loops.{Loop, loops, uncovering, candidates, loop_checks}
use Rattle.paper.specs.Solids.{Tables, tables_of}
use Rattle.paper.specs.Walk.{Status, Log, search}
use Rattle.paper.specs.Conversion.{accepted, reported, concluded, entry_checks, or_convert, conversion}
use Rattle.std.specs.Prelude.{Ok, Err}
use Rattle.paper.specs.declared.Conversion.TheVariants as Conversion
use Rattle.paper.specs.declared.Number.{Number}
use Rattle.paper.specs.declared.Refusal.{Refusal}
use Rattle.means_drawing.specs.Drawings.{Rising}
use Rattle.means_moves.specs.Renumbered.{BothWays, NewNumbers}
use Rattle.means_moves.proofs.Renamed.{renumbered_back}
use Rattle.means_moves.proofs.Undone.{renumbered, places_over}
use Rattle.means_moves.proofs.Kept.{kept}
use Rattle.paper_laws.proofs.Behind.{or_else, first_append}
use Rattle.means_moves.proofs.Checks.{checks_of, parts}
use Rattle.means_moves.proofs.Rules.{Once, loose_over, meets-over, apart-over}

-- the number of the rule that refuses, if one does
abbrev pub rule_of : Answer → Option Number
rule_of (Ok _) = none
rule_of (Err r) = some r.number

-- what 9 and 10 leave: the ends of every edge rise, and no edge stands twice
pub record Sorted (d : Wire) : Type 0 where
  pub rising : Rising d
  pub once : Once d

-- two checks that pass together
record Both (a b : Option ℕ) : Type 0 where
  there : a ≡ none → b ≡ none
  back : b ≡ none → a ≡ none

none-some : {A B : Type 0} {p : B} → ◌≡◌ {A = Option B} (some p) none → A
none-some {p = p} e = let z : ◌≡◌ {A = ℕ} 0 1 = cc in absurd (omega arith)

step : (n : Number) (a b : Option ℕ) (xs ys : List Check) → Both a b → (a ≡ none → rule_of (first_of ys) ≡ rule_of (first_of xs))
    → rule_of (first_of (check n b ∷ ys)) ≡ rule_of (first_of (check n a ∷ xs))
unfolding first_of
step n none none xs ys w h = h refl
step n none (some q) xs ys w h = none-some (w.there refl)
step n (some p) none xs ys w h = none-some (w.back refl)
step n (some p) (some q) xs ys w h = refl

module _ (most : Limits) {new old : ℕ → ℕ} {d e : Wire} (r : BothWays new old d e) (s : Sorted d) (t : Sorted e) where
  back_r : BothWays old new e d
  back_r = renumbered_back r

  -- 15 and 16 go by the counts
  loops-same : same_place d ≡ none → loop_checks most (loops e) (candidates e) ≡ loop_checks most (loops d) (candidates d)
  unfolding loop_checks
  loops-same h =
      let k = kept r h (places_over r h) in
      ap₂ (λ (m n : ℕ). check No.ManyLoops (offends (ltb most.loops m) 0) ∷ check No.ManyCandidates (offends (ltb most.candidates n) 0) ∷ [])
      k.loops_too k.candidates_too

  pub rule_same : rule_of (first_of (drawing_checks e ++ loop_checks most (loops e) (candidates e)))
      ≡ rule_of (first_of (drawing_checks d ++ loop_checks most (loops d) (candidates d)))
  unfolding drawing_checks
  rule_same =
      step No.SamePlace (same_place d) (same_place e) _ _ (record { there = places_over r; back = places_over back_r })
      (λ h.
      step No.LooseVertex (loose_vertex d) (loose_vertex e) _ _ (record { there = loose_over r; back = loose_over back_r })
      (λ i.
      step No.EdgeMeets (edge_meets d) (edge_meets e) _ _
      (record {
        there = meets-over r s.rising t.rising t.once h;
        back = meets-over back_r t.rising s.rising s.once (places_over r h);
      })
      (λ j.
      step No.Apart (apart d) (apart e) _ _ (record { there = apart-over r; back = apart-over back_r })
      (λ k. ap (λ (cs : List Check). rule_of (first_of cs)) (loops-same h)))))

pub same_rule : (most : Limits) {new : ℕ → ℕ} {d e : Wire} → NewNumbers new d e → Sorted d → Sorted e
    → rule_of (first_of (drawing_checks e ++ loop_checks most (loops e) (candidates e)))
    ≡ rule_of (first_of (drawing_checks d ++ loop_checks most (loops d) (candidates d)))
same_rule most r s t = rule_same most (renumbered r) s t

-- ---- conversion

-- past 1 to 16 nothing is refused
unrefused : (l : ℕ) (cs : List Loop) (t : Tables) (log : Log) (faces solids : List ℕ) (r : Refusal)
    → (concluded l cs t log faces solids).answer ≡ Conversion.Refused r → ⊥
unfolding concluded reported
unrefused l cs t log faces solids r = go (eqb log.ended (value_of No.Many)) (eqb log.ended (value_of No.TooLong)) log.found
  where
    go : (a b : Bool) (found : List (List Status))
        → (cond a (record { answer = Conversion.Many l (length cs) log.work; faces = faces; solids = solids })
        (cond b (record { answer = Conversion.TooLong l (length cs) log.work; faces = faces; solids = solids })
        (reported l cs t log.work found faces solids))).answer ≡ Conversion.Refused r → ⊥
    go true b found e = let z : ◌≡◌ {A = ℕ} 0 1 = cc in omega arith
    go false true found e = let z : ◌≡◌ {A = ℕ} 0 1 = cc in omega arith
    go false false [] e = let z : ◌≡◌ {A = ℕ} 0 1 = cc in omega arith
    go false false (x ∷ []) e = let z : ◌≡◌ {A = ℕ} 0 1 = cc in omega arith
    go false false (x ∷ (y ∷ found)) e = let z : ◌≡◌ {A = ℕ} 0 1 = cc in omega arith

module _ (most : Limits) (limit : ℕ) (faces solids : List ℕ) (form : List Check) (d : Wire)
    (entry : Fine ≡ first_of (entry_checks limit faces solids)) (good : Fine ≡ first_of form) where
  -- where 1 to 10 pass, 11 to 16 answer
  only : first_of (checks_of most limit faces solids form d) ≡ first_of (drawing_checks d ++ loop_checks most (loops d) (candidates d))
  unfolding candidates
  only =
      parts most limit faces solids form d
      ∙ ap₂ (λ (a b : Answer). or_else (or_else (or_else a b) (first_of (drawing_checks d))) (first_of (loop_checks most (loops d) (candidates d))))
      (sym entry) (sym good)
      ∙ sym (first_append (drawing_checks d) (loop_checks most (loops d) (candidates d)))

  refusal_from : (r : Refusal) → (conversion most form d limit faces solids).answer ≡ Conversion.Refused r
      → Err r ≡ first_of (drawing_checks d ++ loop_checks most (loops d) (candidates d))
  unfolding conversion
  refusal_from r e = go (first_of (checks_of most limit faces solids form d)) only e
    where
      go : (a : Answer) → a ≡ first_of (drawing_checks d ++ loop_checks most (loops d) (candidates d))
          → (or_convert a faces solids (concluded (length (loops d)) (uncovering d (loops d)) (tables_of d (uncovering d (loops d)))
          (search most.solids (accepted (tables_of d (uncovering d (loops d)))) limit (length (uncovering d (loops d)))
          (tables_of d (uncovering d (loops d))).masks) faces solids)).answer ≡ Conversion.Refused r
          → Err r ≡ first_of (drawing_checks d ++ loop_checks most (loops d) (candidates d))
      go (Ok _) p e = absurd (unrefused _ _ _ _ faces solids r e)
      go (Err x) p e = let same : r ≡ x = cc in ap Err same ∙ p

  refusal_to : (r : Refusal) → Err r ≡ first_of (drawing_checks d ++ loop_checks most (loops d) (candidates d))
      → (conversion most form d limit faces solids).answer ≡ Conversion.Refused r
  unfolding conversion
  refusal_to r e = rw (only ∙ sym e)

-- "the same rule refuses both, at a place of its own"
pub same_refusal : {new : ℕ → ℕ} {d e : Wire} → NewNumbers new d e → Sorted d → Sorted e
    → (most : Limits) (form form' : List Check) → Fine ≡ first_of form → Fine ≡ first_of form'
    → (a b : ℕ) (f g u v : List ℕ) → Fine ≡ first_of (entry_checks a f u) → Fine ≡ first_of (entry_checks b g v)
    → (r : Refusal) → (conversion most form d a f u).answer ≡ Conversion.Refused r
    → (q : Refusal) × ((conversion most form' e b g v).answer ≡ Conversion.Refused q) × (q.number ≡ r.number)
same_refusal {d = d} {e = e} n s t most form form' good good' a b f g u v entry entry' r h =
    go (first_of (drawing_checks e ++ loop_checks most (loops e) (candidates e))) refl
    (same_rule most n s t ∙ ap rule_of (sym (refusal_from most a f u form d entry good r h)))
  where
    go : (x : Answer) → x ≡ first_of (drawing_checks e ++ loop_checks most (loops e) (candidates e)) → rule_of x ≡ some r.number
        → (q : Refusal) × ((conversion most form' e b g v).answer ≡ Conversion.Refused q) × (q.number ≡ r.number)
    go (Ok _) p z = none-some (sym z)
    go (Err q) p z = (q, refusal_to most b g v form' e entry' good' q p, (cc))
