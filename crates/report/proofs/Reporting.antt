-- Each way out of `reported` is the document's: no solid, one, or more.
use mathlib.Core.List.{List, [], ◌∷◌, ◌++◌, flat_map, append-nil}
use mathlib.Core.Path.{◌≡◌, refl, sym, ap, ◌∙◌}
use Prim.Native.Nat.{ℕ, ◌*◌, ◌<◌}
use native.Mathlib.Omega.{arith}
use lib.ListN.{length, get_or, drop, length-append, length-drop}
use lib.Seq.{take_at}
use Rattle.lists.specs.After.{after}
use Rattle.lists.proofs.After.{each_long}
use Rattle.paper.specs.Numbers.{row_bytes, solid_words}
use Rattle.paper.specs.Loops.{Loop, row}
use Rattle.paper.specs.Record.{six_in}
use Rattle.paper.specs.Solids.{Tables, judged}
use Rattle.paper.specs.Walk.{Status, Log}
use Rattle.paper.specs.Conversion.{takens, turned_of, six_of, words, faces_after, solids_after, reported}
use Rattle.paper.specs.declared.Conversion.TheVariants as Conversion
use Rattle.paper_laws.proofs.Record.{six_in_lem, words_length}
use Rattle.loop_table.specs.Tables.{HoldsRows}
use Rattle.walk.specs.Tally.{Stored}
use Rattle.walk.specs.declared.tally.Tally.{Tally}
use Rattle.rooms.specs.Rooms.{copied}
use Rattle.report.specs.Room.{Wrote}
use Rattle.report.specs.Concluded.{Concluding, ReportedAs}

-- six volumes of a solid that is the only one
six_told : (tables : Tables) (st : List Status) (lent : List ℕ)
    → six_in (solids_after tables (st ∷ []) lent) ≡ six_of (judged tables (takens st))
unfolding solids_after words flat_map
six_told tables st lent =
    let j = judged tables (takens st) in
    let rest = drop (solid_words * 1) lent in
    ap (λ (ws : List ℕ). six_in (ws ++ rest)) (append-nil (words tables st))
    ∙ six_in_lem (takens st) (turned_of j) (six_of j) rest

-- ---- the definition, by the number of solids
module _ (loops : ℕ) (cs : List Loop) (tables : Tables) (work : ℕ) (faces solids : List ℕ) where
  none_found : (found : List (List Status)) → length found ≡ 0
      → reported loops cs tables work found faces solids
      ≡ record { answer = Conversion.NoSolid loops (length cs) work; faces = faces; solids = solids }
  unfolding reported
  none_found [] e = refl
  none_found (st ∷ found) e = absurd (omega (arith, e))

  -- six volumes is in the record
  one_found : (found : List (List Status)) (lent : List ℕ) → length found ≡ 1
      → reported loops cs tables work found faces solids
      ≡ record {
        answer = Conversion.One loops (length cs) work (six_in (solids_after tables found lent));
        faces = faces_after cs faces;
        solids = solids_after tables found solids;
      }
  unfolding reported
  one_found [] lent e = absurd (omega (arith, e))
  one_found (st ∷ []) lent e =
      ap
      (λ (six : ℕ). record {
        answer = Conversion.One loops (length cs) work six;
        faces = faces_after cs faces;
        solids = solids_after tables (st ∷ []) solids;
      })
      (sym (six_told tables st lent))
  one_found (st ∷ (st' ∷ found)) lent e = absurd (omega (arith, e))

  several_found : (found : List (List Status)) → 1 < length found
      → reported loops cs tables work found faces solids
      ≡ record {
        answer = Conversion.Several loops (length cs) work (length found);
        faces = faces_after cs faces;
        solids = solids_after tables found solids;
      }
  unfolding reported
  several_found [] h = absurd (omega (arith, h))
  several_found (st ∷ []) h = absurd (omega (arith, h))
  several_found (st ∷ (st' ∷ found)) h = refl

-- ---- what is copied of a room is what was written to it
copied-after : {A : Type 0} (f : A → List ℕ) (k : ℕ) (xs : List A) (lent from room : List ℕ) → length (flat_map f xs) ≡ k * length xs
    → from ≡ after f k xs lent → copied (k * length xs) from room ≡ after f k xs room
copied-after f k xs lent from room n e =
    let m = k * length xs in
    ap (λ (l : List ℕ). copied m l room) e ∙ ap (λ (l : List ℕ). l ++ drop m room) (take_at (flat_map f xs) (drop m lent) m n)

module _ {n : ℕ} {rows : List ℕ} {t : Tally} {out faces₀ faces solids₀ solids : List ℕ}
    (p : Concluding n rows t out faces₀ solids₀) (w : Wrote rows n out t.found faces₀ faces solids₀ solids) where
  faces_is : (cs : List Loop) → length cs ≡ n → HoldsRows rows cs → faces_after cs faces₀ ≡ faces
  unfolding faces_after
  faces_is cs k held =
      let m = row_bytes * length cs in
      let long : length (flat_map row cs) ≡ m
      = omega (arith, ap length held ∙ length-append (flat_map row cs) (drop m rows), length-drop m rows, p.rows_long, p.few, k) in
      sym (copied-after row row_bytes cs rows rows faces₀ long held)
      ∙ ap (λ (i : ℕ). copied (row_bytes * i) rows faces₀) k
      ∙ sym w.faces_are

  solids_is : (tables : Tables) (log : Log) (lent : List ℕ) → Stored tables lent t out log
      → solids_after tables log.found solids₀ ≡ solids
  unfolding solids_after
  solids_is tables log lent s =
      let found = log.found in
      let long = each_long (words tables) solid_words [] found (λ i h. words_length tables (get_or found i [])) in
      sym (copied-after (words tables) solid_words log.found lent out solids₀ long s.words_are)
      ∙ ap (λ (i : ℕ). copied (solid_words * i) out solids₀) (sym s.counts.found_is)
      ∙ sym w.solids_are

-- ---- the ways out
module _ {loops n : ℕ} {rows : List ℕ} {t : Tally} {out faces₀ solids₀ : List ℕ} where
  pub says_no_solid : t.found ≡ 0
      → ReportedAs loops n rows t out faces₀ faces₀ solids₀ solids₀ (Conversion.NoSolid loops n t.work)
  says_no_solid z = record {
    same = λ cs tables log lent k held s.
        none_found loops cs tables log.work faces₀ solids₀ log.found (sym s.counts.found_is ∙ z)
        ∙ (λ i. record { answer = Conversion.NoSolid loops (k i) (sym s.counts.work_is i); faces = faces₀; solids = solids₀ });
  }

  module _ {faces solids : List ℕ} (p : Concluding n rows t out faces₀ solids₀)
      (w : Wrote rows n out t.found faces₀ faces solids₀ solids) where
    pub says_one : t.found ≡ 1
        → ReportedAs loops n rows t out faces₀ faces solids₀ solids (Conversion.One loops n t.work (six_in out))
    says_one e = record {
      same = λ cs tables log lent k held s.
          one_found loops cs tables log.work faces₀ solids₀ log.found lent (sym s.counts.found_is ∙ e)
          ∙ (λ i. record {
            answer = Conversion.One loops (k i) (sym s.counts.work_is i) (six_in (sym s.words_are i));
            faces = faces_is p w cs k held i;
            solids = solids_is p w tables log lent s i;
          });
    }

    pub says_several : 1 < t.found
        → ReportedAs loops n rows t out faces₀ faces solids₀ solids (Conversion.Several loops n t.work t.found)
    says_several h = record {
      same = λ cs tables log lent k held s.
          several_found loops cs tables log.work faces₀ solids₀ log.found (omega (arith, s.counts.found_is))
          ∙ (λ i. record {
            answer = Conversion.Several loops (k i) (sym s.counts.work_is i) (sym s.counts.found_is i);
            faces = faces_is p w cs k held i;
            solids = solids_is p w tables log lent s i;
          });
    }
