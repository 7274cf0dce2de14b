-- Demand 2: conversion says what the report is to say.
use mathlib.Core.List.{List, [], ◌∷◌, ◌++◌, map, flat_map}
use mathlib.Core.Option.{none}
use mathlib.Core.Logic.{◌⊎◌, inl, inr}
use mathlib.Core.Path.{◌≡◌, refl, sym, ap, ap₂, ◌∙◌}
use Prim.Native.Nat.{ℕ, ◌*◌}
use native.Mathlib.Omega.{arith}
use lib.ListN.{length, drop, length-map}
use Rattle.lists.specs.Lists.{filter}
use Rattle.paper.specs.Numbers.{most_solids, solid_words, documented}
use Rattle.paper.specs.Refusals as No
use Rattle.paper.specs.Refusals.{value_of, Check, first_of, Fine}
use Rattle.paper.specs.Drawing.{Wire, same_place, drawing_checks}
use Rattle.paper.specs.Loops.{Loop, loops, candidates, loop_checks}
use Rattle.paper.specs.Solids.{Tables, tables_of}
use Rattle.paper.specs.Walk.{Status, Log, search}
use Rattle.paper.specs.Conversion.{Converted, accepted, words, solids_after, reported, concluded, entry_checks, conversion}
use Rattle.paper.specs.declared.Conversion.{Conversion}
use Rattle.paper_laws.proofs.Checks.{found_none, first-both}
use Rattle.means_walk.specs.Tree.{leaves}
use Rattle.means_walk.proofs.Ends.{ends, ended_whole, ended_many, ended_long}
use Rattle.means_report.specs.Fair.{Fair}
use Rattle.means_report.specs.Listed.{Entry, words_of, entry_of, WalkTree, walked}
use Rattle.means_loops.proofs.Listing.{candidates_proper}
use Rattle.means_loops.proofs.OwnPlane.{candidates-flat}
use Rattle.means_report.specs.Report.{answered, faces_for, solids_for, Reported, TooMany, TooFar}

-- ---- a report
flat-words : (t : Tables) (l : List (List Status)) → flat_map (words t) l ≡ flat_map words_of (map (entry_of t) l)
unfolding flat_map words
flat-words t [] = refl
flat-words t (x ∷ l) = ap (λ (r : List ℕ). word_row x ++ r) (flat-words t l)
  where
    word_row : List Status → List ℕ
    word_row x = words_of (entry_of t x)

pub solids_told : (t : Tables) (l : List (List Status)) (solids : List ℕ) → solids_after t l solids ≡ solids_for solids (map (entry_of t) l)
unfolding solids_after solids_for
solids_told t l solids = ap₂ (λ (a : List ℕ) (n : ℕ). a ++ drop (solid_words * n) solids) (flat-words t l) (sym (length-map l (entry_of t)))

module _ (l : ℕ) (cs : List Loop) (t : Tables) (work : ℕ) (faces solids : List ℕ) where
  reported-answer : (found : List (List Status)) → (reported l cs t work found faces solids).answer ≡ answered l (length cs) work
      (map (entry_of t) found)
  unfolding reported
  reported-answer [] = refl
  reported-answer (x ∷ []) = refl
  reported-answer (x ∷ (y ∷ found)) =
      let n : length (x ∷ (y ∷ found)) ≡ length (map (entry_of t) (x ∷ (y ∷ found))) = sym (length-map (x ∷ (y ∷ found)) (entry_of t)) in
      ap (Conversion.Several l (length cs) work) n

  reported-faces : (found : List (List Status)) → (reported l cs t work found faces solids).faces ≡ faces_for cs faces (map (entry_of t) found)
  unfolding reported
  reported-faces [] = refl
  reported-faces (x ∷ []) = refl
  reported-faces (x ∷ (y ∷ found)) = refl

  reported_solids : (found : List (List Status))
      → (reported l cs t work found faces solids).solids ≡ solids_for solids (map (entry_of t) found)
  unfolding reported solids_for flat_map
  reported_solids [] = refl
  reported_solids (x ∷ []) = solids_told t (x ∷ []) solids
  reported_solids (x ∷ (y ∷ found)) = solids_told t (x ∷ (y ∷ found)) solids

-- ---- the three ends
module _ (l : ℕ) (cs : List Loop) (t : Tables) (log : Log) (faces solids : List ℕ) where
  concluded_zero : log.ended ≡ 0 → concluded l cs t log faces solids ≡ reported l cs t log.work log.found faces solids
  unfolding concluded
  concluded_zero e = rw e

  concluded_many : log.ended ≡ value_of No.Many
      → concluded l cs t log faces solids ≡ record { answer = Conversion.Many l (length cs) log.work; faces = faces; solids = solids }
  unfolding concluded
  concluded_many e = rw e

  concluded_long : log.ended ≡ value_of No.TooLong
      → concluded l cs t log faces solids ≡ record {
        answer = Conversion.TooLong l (length cs) log.work;
        faces = faces;
        solids = solids;
      }
  unfolding concluded
  concluded_long e = rw e

-- ---- a drawing that no check refuses
module _ (d : Wire) (t : WalkTree d (candidates d)) (limit : ℕ) (faces solids : List ℕ) where
  abbrev tb : Tables
  tb = tables_of d (candidates d)

  abbrev log : Log
  log = search most_solids (accepted (tables_of d (candidates d))) limit (length (candidates d)) (tables_of d (candidates d)).masks

  abbrev done : Converted
  done = concluded (length (loops d)) (candidates d) (tables_of d (candidates d)) log faces solids

  -- what comes back is one of the three
  abbrev pub Tells : Converted → Type 0
  Tells r = Reported d t limit faces solids r ⊎ (TooMany d t limit faces solids r ⊎ TooFar d t limit faces solids r)

  done_whole : log.ended ≡ 0 → Reported d t limit faces solids done
  unfolding walked
  done_whole e =
      let w = ended_whole (accepted tb) (length (candidates d)) tb.masks t most_solids limit e in
      let c = concluded_zero (length (loops d)) (candidates d) tb log faces solids e in
      let f : map (entry_of tb) log.found ≡ map (entry_of tb) (filter (accepted tb) (leaves t)) = ap (map (entry_of tb)) w.found in
      record {
        few = omega (arith, w.few, length-map (filter (accepted tb) (leaves t)) (entry_of tb));
        short = w.short;
        answer =
            ap (λ (r : Converted). r.answer) c ∙ reported-answer (length (loops d)) (candidates d) tb log.work faces solids
            log.found
            ∙ ap₂ (λ (n : ℕ) (es : List Entry). answered (length (loops d)) (length (candidates d)) n es) w.work f;
        faces_left =
            ap (λ (r : Converted). r.faces) c ∙ reported-faces (length (loops d)) (candidates d) tb log.work faces solids log.found
            ∙ ap (faces_for (candidates d) faces) f;
        solids_left =
            ap (λ (r : Converted). r.solids) c ∙ reported_solids (length (loops d)) (candidates d) tb log.work faces solids
            log.found
            ∙ ap (solids_for solids) f;
      }

  done_many : log.ended ≡ value_of No.Many → TooMany d t limit faces solids done
  unfolding walked
  done_many e =
      let w = ended_many (accepted tb) (length (candidates d)) tb.masks t most_solids limit e in
      let c = concluded_many (length (loops d)) (candidates d) tb log faces solids e in
      record {
        nine = omega (arith, w.many, length-map (filter (accepted tb) (leaves t)) (entry_of tb));
        short = w.short;
        answer = ap (λ (r : Converted). r.answer) c ∙ ap (Conversion.Many (length (loops d)) (length (candidates d))) w.work;
        faces_left = ap (λ (r : Converted). r.faces) c;
        solids_left = ap (λ (r : Converted). r.solids) c;
      }

  done_long : log.ended ≡ value_of No.TooLong → TooFar d t limit faces solids done
  done_long e =
      let w = ended_long (accepted tb) (length (candidates d)) tb.masks t most_solids limit e in
      let c = concluded_long (length (loops d)) (candidates d) tb log faces solids e in
      record {
        far = w.long;
        answer = ap (λ (r : Converted). r.answer) c ∙ ap (Conversion.TooLong (length (loops d)) (length (candidates d))) w.work;
        faces_left = ap (λ (r : Converted). r.faces) c;
        solids_left = ap (λ (r : Converted). r.solids) c;
      }

  done_tells : Tells done
  done_tells = go (ends (accepted tb) (length (candidates d)) tb.masks t most_solids limit)
    where
      go : (log.ended ≡ 0) ⊎ ((log.ended ≡ value_of No.Many) ⊎ (log.ended ≡ value_of No.TooLong)) → Tells done
      go (inl e) = inl (done_whole e)
      go (inr (inl e)) = inr (inl (done_many e))
      go (inr (inr e)) = inr (inr (done_long e))

  -- a drawing with no refusal 1 to 16
  abbrev pub Unrefused : List Check → Type 0
  Unrefused form =
      Fine ≡ first_of (entry_checks limit faces solids ++ form ++ drawing_checks d ++ loop_checks documented (loops d) (candidates d))

  pub conversion_tells : (form : List Check) → Unrefused form → Tells (conversion documented form d limit faces solids)
  unfolding conversion candidates
  conversion_tells form h = rw (← h) done_tells

  -- a drawing that isn't refused: its candidates are fair, and what is told of it
  pub record Sound (r : Converted) : Type 0 where
    pub fair : Fair d (candidates d)
    pub tells : Tells r

  pub unrefused_apart : (form : List Check) → Unrefused form → same_place d ≡ none
  unfolding drawing_checks
  unrefused_apart form h =
      let before = entry_checks limit faces solids ++ form in
      let drawn = (first-both (before ++ drawing_checks d) (loop_checks documented (loops d) (candidates d)) h).0 in
      (found_none _ _ (first-both before (drawing_checks d) drawn).1).0

  pub conversion_sound : (form : List Check) → Unrefused form → Sound (conversion documented form d limit faces solids)
  conversion_sound form h = record {
    fair = record { proper = candidates_proper d; flat = candidates-flat d (unrefused_apart form h) };
    tells = conversion_tells form h;
  }
