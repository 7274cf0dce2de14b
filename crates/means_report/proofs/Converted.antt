-- Conversion, of lists and of sheets: a refusal, or what is told of the solids; no second answer; higher limits.
use mathlib.Core.Bool.{Bool}
use mathlib.Core.List.{List, [], ◌++◌}
use mathlib.Core.Logic.{◌⊎◌, inl, inr}
use mathlib.Core.Path.{◌≡◌, refl, sym, ap, ◌∙◌, subst}
use Prim.Native.Nat.{ℕ, ◌≤◌, ◌<◌}
use native.Mathlib.Omega.{arith}
use lib.ListN.{length, replicate, length-map}
use lib.IntN.{ℤ}
use Rattle.lists.specs.Lists.{filter}
use Rattle.paper.specs.Numbers.{most_solids, documented}
use Rattle.paper.specs.Refusals as No
use Rattle.paper.specs.Refusals.{value_of, Check, first_of, Answer, Fine}
use Rattle.paper.specs.Format.{coordinates_in, ends_in, edition_of}
use Rattle.paper.specs.Sheet.{sheet_checks, lent_checks}
use Rattle.paper.specs.Drawing.{Wire, wire, drawing_checks}
use Rattle.paper.specs.Loops.{loops, candidates, loop_checks}
use Rattle.paper.specs.Solids.{tables_of}
use Rattle.paper.specs.Walk.{Undecided, Log, search}
use Rattle.paper.specs.Conversion.{Converted, accepted, concluded, entry_checks, conversion, convert_lists, convert_sheet}
use Rattle.std.specs.Prelude.{Ok, Err}
use Rattle.paper.specs.declared.Refusal.{Refusal}
use Rattle.paper.specs.declared.Conversion.{Conversion}
use Rattle.means_walk.specs.Tree.{assumptions, leaves, steps}
use Rattle.means_walk.proofs.Grown.{tree}
use Rattle.means_walk.proofs.Follow.{up_least}
use Rattle.means_walk.proofs.Ends.{whole_cap, ended_long, higher_limit}
use Rattle.means_walk.proofs.Steps.{made-steps}
use Rattle.means_solid.specs.Solid.{IsSolid}
use Rattle.means_report.specs.Listed.{entry_of, WalkTree, walked}
use Rattle.means_report.specs.Report.{answered, work_to_ninth, Reported, TooMany, TooFar}
use Rattle.means_report.proofs.Listed.{walked-lists}
use Rattle.means_report.proofs.Searched.{listed-none}
use Rattle.means_report.proofs.Report.{Tells, Unrefused, Sound, conversion_sound}

-- every drawing has its walk
pub the_walk : (d : Wire) → WalkTree d (candidates d)
the_walk d = tree (tables_of d (candidates d)).masks (replicate (length (candidates d)) Undecided)

module _ (d : Wire) (t : WalkTree d (candidates d)) where
  -- where there is no ninth solid, the walk to it is the whole walk
  pub no_ninth : length (walked d (candidates d) t) ≤ most_solids → work_to_ninth d t ≡ assumptions t
  unfolding walked
  no_ninth h =
      let f : length (filter (accepted (tables_of d (candidates d))) (leaves t)) ≤ most_solids = omega
      (arith, length-map (filter (accepted (tables_of d (candidates d))) (leaves t)) (entry_of (tables_of d (candidates d)))) in
      whole_cap (accepted (tables_of d (candidates d))) (length (candidates d)) (tables_of d (candidates d)).masks t most_solids 0 f

  -- and it is never more than that
  pub ninth_least : work_to_ninth d t ≤ assumptions t
  ninth_least =
      subst (λ (m : ℕ). work_to_ninth d t ≤ m) (made-steps t)
      (up_least most_solids (accepted (tables_of d (candidates d))) 0 (steps t) most_solids)

  module _ (limit : ℕ) (faces solids : List ℕ) where
    -- the answer goes by the solids and the assumptions
    pub tells_few : (r : Converted) → Tells d t limit faces solids r → length (walked d (candidates d) t) ≤ most_solids
        → assumptions t ≤ limit → Reported d t limit faces solids r
    tells_few r (inl x) f s = x
    tells_few r (inr (inl x)) f s = absurd (omega (arith, x.nine))
    tells_few r (inr (inr x)) f s = absurd (omega (arith, x.far, no_ninth f))

    pub tells_many : (r : Converted) → Tells d t limit faces solids r → most_solids < length (walked d (candidates d) t)
        → work_to_ninth d t ≤ limit → TooMany d t limit faces solids r
    tells_many r (inl x) f s = absurd (omega (arith, x.few))
    tells_many r (inr (inl x)) f s = x
    tells_many r (inr (inr x)) f s = absurd (omega (arith, x.far))

    pub tells_long : (r : Converted) → Tells d t limit faces solids r → limit < work_to_ninth d t → TooFar d t limit faces solids r
    tells_long r (inl x) s = absurd (omega (arith, x.short, no_ninth x.few))
    tells_long r (inr (inl x)) s = absurd (omega (arith, x.short))
    tells_long r (inr (inr x)) s = x

    -- "says 'no solid' exactly when there is none", where the limit lets the walk end
    pub none_says : (r : Converted) → Sound d t limit faces solids r
        → ((taken turned : List Bool) (six : ℕ) → IsSolid d (candidates d) taken turned six → ⊥) → assumptions t ≤ limit
        → r.answer ≡ Conversion.NoSolid (length (loops d)) (length (candidates d)) (assumptions t)
    none_says r sound n s =
        let e : walked d (candidates d) t ≡ [] = listed-none d (candidates d) (walked d (candidates d) t)
        (walked-lists d (candidates d) sound.fair t) n in
        let x = tells_few r sound.tells (omega (arith, ap length e)) s in
        x.answer ∙ ap (answered (length (loops d)) (length (candidates d)) (assumptions t)) e

    -- there is no second answer
    pub record Alike (r q : Converted) : Type 0 where
      pub answers : r.answer ≡ q.answer
      pub faces_same : r.faces ≡ q.faces
      pub solids_same : r.solids ≡ q.solids

    pub tells_one : (r q : Converted) → Tells d t limit faces solids r → Tells d t limit faces solids q → Alike r q
    tells_one r q (inl x) u =
        let y = tells_few q u x.few x.short in
        record {
          answers = x.answer ∙ sym y.answer;
          faces_same = x.faces_left ∙ sym y.faces_left;
          solids_same = x.solids_left
              ∙ sym y.solids_left;
        }
    tells_one r q (inr (inl x)) u =
        let y = tells_many q u x.nine x.short in
        record {
          answers = x.answer ∙ sym y.answer;
          faces_same = x.faces_left ∙ sym y.faces_left;
          solids_same = x.solids_left
              ∙ sym y.solids_left;
        }
    tells_one r q (inr (inr x)) u =
        let y = tells_long q u x.far in
        record {
          answers = x.answer ∙ sym y.answer;
          faces_same = x.faces_left ∙ sym y.faces_left;
          solids_same = x.solids_left
              ∙ sym y.solids_left;
        }

-- ---- conversion: a refusal 1 to 16 that leaves the rooms as they were, or what is told
module _ (d : Wire) (t : WalkTree d (candidates d)) (form : List Check) (limit : ℕ) (faces solids : List ℕ) where
  abbrev checks : List Check
  checks = entry_checks limit faces solids ++ form ++ drawing_checks d ++ loop_checks documented (loops d) (candidates d)

  pub conversion_refuses : (x : Refusal) → Err x ≡ first_of checks
      → conversion documented form d limit faces solids ≡ record { answer = Conversion.Refused x; faces = faces; solids = solids }
  unfolding conversion candidates
  conversion_refuses x e = rw (← e)

  abbrev pub Cases : Type 0
  Cases =
      ((x : Refusal) × (Err x ≡ first_of checks)
      × (conversion documented form d limit faces solids ≡ record { answer = Conversion.Refused x; faces = faces; solids = solids }))
      ⊎ ((Fine ≡ first_of checks) × Sound d t limit faces solids (conversion documented form d limit faces solids))

  pub conversion_says_lem : Cases
  conversion_says_lem = go (first_of checks) refl
    where
      go : (a : Answer) → a ≡ first_of checks → Cases
      go (Ok _) e = inr (e, conversion_sound d t limit faces solids form e)
      go (Err x) e = inl (x, e, conversion_refuses x e)

-- two lists of numbers; a sheet
pub lists_tell : (xyz : List ℤ) (ends : List ℕ) (limit : ℕ) (faces solids : List ℕ)
    (t : WalkTree (wire xyz ends) (candidates (wire xyz ends)))
    → Unrefused (wire xyz ends) t limit faces solids (lent_checks xyz ends)
    → Sound (wire xyz ends) t limit faces solids (convert_lists xyz ends limit faces solids)
unfolding convert_lists
lists_tell xyz ends limit faces solids t h = conversion_sound (wire xyz ends) t limit faces solids (lent_checks xyz ends) h

pub sheet_tells : (s : List ℕ) (limit : ℕ) (faces solids : List ℕ)
    (t : WalkTree (wire (coordinates_in (edition_of s) s) (ends_in (edition_of s) s))
    (candidates (wire (coordinates_in (edition_of s) s) (ends_in (edition_of s) s))))
    → Unrefused (wire (coordinates_in (edition_of s) s) (ends_in (edition_of s) s)) t limit faces solids (sheet_checks (edition_of s) s)
    → Sound (wire (coordinates_in (edition_of s) s) (ends_in (edition_of s) s)) t limit faces solids (convert_sheet s limit faces solids)
unfolding convert_sheet
sheet_tells s limit faces solids t h =
    conversion_sound (wire (coordinates_in (edition_of s) s) (ends_in (edition_of s) s)) t limit faces solids (sheet_checks (edition_of s) s) h

-- a higher limit changes no answer but 19: where neither limit is refused and the lower did not cut the walk
pub higher_converts : (d : Wire) (t : WalkTree d (candidates d)) (form : List Check) (a b : ℕ) (faces solids : List ℕ) → a ≤ b
    → Unrefused d t a faces solids form → Unrefused d t b faces solids form
    → work_to_ninth d t ≤ a
    → conversion documented form d b faces solids ≡ conversion documented form d a faces solids
unfolding conversion candidates
higher_converts d t form a b faces solids h ua ub w =
    rw (← ua, ← ub) (ap (λ (log : Log). concluded (length (loops d)) (candidates d) (tables_of d (candidates d)) log faces solids)
    (higher_limit most_solids (accepted (tables_of d (candidates d))) a b h (length (candidates d)) (tables_of d (candidates d)).masks
    (λ e. not_long e)))
  where
    not_long : (search most_solids (accepted (tables_of d (candidates d))) a (length (candidates d))
        (tables_of d (candidates d)).masks).ended ≡ value_of No.TooLong → ⊥
    not_long e =
        omega (
          arith,
          (ended_long (accepted (tables_of d (candidates d))) (length (candidates d)) (tables_of d (candidates d)).masks t
              most_solids a e).long,
        )

-- ---- an answer that is no refusal is told
module _ (d : Wire) (t : WalkTree d (candidates d)) (form : List Check) (limit : ℕ) (faces solids : List ℕ) where
  pub conversion_unrefused : ((x : Refusal) → (conversion documented form d limit faces solids).answer ≡ Conversion.Refused x → ⊥)
      → Sound d t limit faces solids (conversion documented form d limit faces solids)
  conversion_unrefused f = go (conversion_says_lem d t form limit faces solids)
    where
      go : Cases d t form limit faces solids → Sound d t limit faces solids (conversion documented form d limit faces solids)
      go (inl p) = absurd (f p.0 (ap (λ (c : Converted). c.answer) p.2))
      go (inr p) = p.1

pub lists_unrefused : (xyz : List ℤ) (ends : List ℕ) (limit : ℕ) (faces solids : List ℕ)
    → ((x : Refusal) → (convert_lists xyz ends limit faces solids).answer ≡ Conversion.Refused x → ⊥)
    → Sound (wire xyz ends) (the_walk (wire xyz ends)) limit faces solids (convert_lists xyz ends limit faces solids)
unfolding convert_lists
lists_unrefused xyz ends limit faces solids f =
    conversion_unrefused (wire xyz ends) (the_walk (wire xyz ends)) (lent_checks xyz ends) limit faces solids f

pub sheet_unrefused : (s : List ℕ) (limit : ℕ) (faces solids : List ℕ)
    → ((x : Refusal) → (convert_sheet s limit faces solids).answer ≡ Conversion.Refused x → ⊥)
    → Sound (wire (coordinates_in (edition_of s) s) (ends_in (edition_of s) s)) (the_walk (wire (coordinates_in (edition_of s) s) (ends_in (edition_of s) s)))
    limit faces solids (convert_sheet s limit faces solids)
unfolding convert_sheet
sheet_unrefused s limit faces solids f =
    conversion_unrefused (wire (coordinates_in (edition_of s) s) (ends_in (edition_of s) s))
    (the_walk (wire (coordinates_in (edition_of s) s) (ends_in (edition_of s) s))) (sheet_checks (edition_of s) s) limit faces solids f
