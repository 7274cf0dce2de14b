-- The ways out at a leaf: no solid, a solid for which there is no room, a solid that is stored.
use Rattle.std.specs.Prelude.{None, Option, Some}
use mathlib.Core.Bool.{true, false}
use mathlib.Core.List.{List, [], ◌∷◌}
use mathlib.Core.Path.{◌≡◌, refl, sym, ap, ap₂, ◌∙◌, subst}
use Prim.Native.Nat.{ℕ, ◌+◌, ◌*◌, ◌≤◌, ◌<◌}
use native.Mathlib.Omega.{arith}
use lib.ListN.{length, set, length-append, length-map}
use borrow.Author.Tests.{lt-ltb, le-ltb}
use Rattle.sets.specs.Sets.{Is}
use Rattle.sets.specs.declared.Set.{Set}
use Rattle.sets.proofs.Sets.{word_is}
use Rattle.paper.specs.Numbers.{most_solids, solid_room, solid_words}
use Rattle.paper.specs.Refusals.{value_of}
use Rattle.paper.specs.Refusals as No
use Rattle.paper.specs.Solids.{Tables, Judgement, Fails, Solid, judged}
use Rattle.paper.specs.Walk.{Status, leaf, is_taken}
use Rattle.paper.specs.Conversion.{takens, is_solid, turned_of, six_of, accepted, words, solids_after}
use Rattle.paper_laws.proofs.Record.{same-entry, three-words}
use Rattle.means_walk.specs.Complete.{exact}
use Rattle.fast_leaf.specs.Faces.{judged_by_faces}
use Rattle.fast_leaf.proofs.Judged.{Reports, reports_by_faces}
use Rattle.fast_leaf.proofs.Leaf.{exact_two}
use Rattle.walk_tables.specs.Words.{WalkTables, Lent}
use Rattle.walk_leaf.specs.Tests.{LeafIs, Judges}
use Rattle.walk_leaf.specs.declared.Judged.{Judged}
use Rattle.walk.specs.Tally.{Roomy}
use Rattle.walk.specs.Leaf.{KeepsSolid}
use Rattle.walk.specs.declared.tally.Tally.{Tally}
use Rattle.walk.proofs.Tallies.{three_long, stored_more}

-- ---- what the code's verdict says of the document's

fails_not : (j : Judgement) → LeafIs None j → is_solid j ≡ false
fails_not Fails h = refl
fails_not (Solid s v) h = absurd h

record IsSolid (d : Judged) (j : Judgement) : Type 0 where
  solid : is_solid j ≡ true
  turned_is : Is d.turned (turned_of j)
  six_is : d.six ≡ six_of j

solid_is : {d : Judged} (j : Judgement) → LeafIs (Some d) j → IsSolid d j
solid_is Fails h = absurd h
solid_is (Solid s v) h = record { solid = refl; turned_is = h.turned_is; six_is = h.six_is }

module _ {tables : WalkTables} {m : ℕ} {taken : Set} where
  module _ {n : ℕ} {t : Tables} (st : List Status) (lent : Lent tables m n t) (long : length st ≡ n)
      (i : Is taken (takens st)) (two : exact t.masks st ≡ true) where
    reports : Reports (judged_by_faces t (takens st)) (judged t (takens st))
    reports = reports_by_faces t (takens st) (lent.masks_are ∙ sym lent.ups_are) (exact_two t.masks st two)

    judges : (v : Option Judged) → Judges tables m taken v → LeafIs v (judged_by_faces t (takens st))
    judges v j =
        let many : length (takens st) ≡ n = length-map st is_taken ∙ long in
        j t (takens st) lent.held
        (record {
          masks_are = lent.masks_are;
          ups_are = lent.ups_are;
          in_clashes = omega (arith, many, lent.clashes_are);
          in_sixes = omega (arith, many, lent.sixes_are);
        })
        i

    not_accepted : Judges tables m taken None → accepted t st ≡ false
    unfolding accepted
    not_accepted j = sym reports.same_solid ∙ fails_not (judged_by_faces t (takens st)) (judges None j)

    module _ (d : Judged) (j : Judges tables m taken (Some d)) where
      its : IsSolid d (judged_by_faces t (takens st))
      its = solid_is (judged_by_faces t (takens st)) (judges (Some d) j)

      is_accepted : accepted t st ≡ true
      unfolding accepted
      is_accepted = sym reports.same_solid ∙ its.solid

      its_words : words t st ≡ taken.word ∷ d.turned.word ∷ d.six ∷ []
      unfolding words
      its_words =
          let ways = turned_of (judged_by_faces t (takens st)) in
          same-entry (takens st) (turned_of (judged t (takens st))) ways (six_of (judged t (takens st))) (λ k. sym (reports.same_ways k))
          ∙ three-words (takens st) ways (six_of (judged t (takens st))) i.short its.turned_is.short
          ∙ sym (λ k. word_is i k ∷ word_is its.turned_is k ∷ (its.six_is ∙ reports.same_six) k ∷ [])

  -- ---- the ways out

  module _ {x : Tally} {out : List ℕ} (roomy : Roomy x out) where
    pub kept_not : Judges tables m taken None → KeepsSolid tables m taken x out x out
    unfolding leaf
    kept_not j = record {
      roomy = roomy;
      same = λ n t st lent long i two log room h. rw (not_accepted st lent long i two j) h;
    }

    module _ (d : Judged) (j : Judges tables m taken (Some d)) where
      pub kept_full : most_solids ≤ x.found
          → KeepsSolid tables m taken x out (record { work = x.work; found = x.found; ended = value_of No.Many }) out
      unfolding leaf
      kept_full f = record {
        roomy = record { few = roomy.few; whole = roomy.whole };
        same = λ n t st lent long i two log room h.
            let c = h.counts in
            rw (is_accepted st lent long i two d j, le-ltb (length log.found) most_solids (subst (λ (k : ℕ). most_solids ≤ k) c.found_is f))
            (record {
              counts = record { work_is = c.work_is; found_is = c.found_is; ended_is = refl };
              words_are = h.words_are;
            });
      }

      pub kept_more : x.found < most_solids
          → KeepsSolid tables m taken x out (record { work = x.work; found = x.found + 1; ended = x.ended })
          (set (set (set out (solid_words * x.found) taken.word) (solid_words * x.found + 1) d.turned.word) (solid_words * x.found + 2)
          d.six)
      unfolding leaf
      kept_more f = record {
        roomy = record {
          few = omega arith;
          whole =
              three_long out (solid_words * x.found) (solid_words * x.found + 1) (solid_words * x.found + 2) taken.word d.turned.word d.six
              ∙ roomy.whole;
        };
        same = λ n t st lent long i two log room h.
            let c = h.counts in
            let k = length log.found in
            let whole : length (solids_after t log.found room) ≡ solid_room = sym (ap length h.words_are) ∙ roomy.whole in
            rw (is_accepted st lent long i two d j, lt-ltb k most_solids (subst (λ (k : ℕ). k < most_solids) c.found_is f))
            (record {
              counts = record {
                work_is = c.work_is;
                found_is = ap (λ (k : ℕ). k + 1) c.found_is ∙ sym (length-append log.found (st ∷ []));
                ended_is = c.ended_is;
              };
              words_are =
                  ap₂
                  (λ (l : List ℕ) (k : ℕ). set (set (set l (solid_words * k) taken.word) (solid_words * k + 1) d.turned.word)
                  (solid_words * k + 2) d.six)
                  h.words_are c.found_is
                  ∙ stored_more t log.found st room taken.word d.turned.word d.six (its_words st lent long i two d j)
                  (omega (arith, whole, c.found_is, f));
            });
      }
