-- Loops that are kept one by one: those kept so far, and those that are still to come.
use mathlib.Core.Bool.{Bool, true, false, not}
use mathlib.Core.List.{List, [], ◌∷◌, ◌++◌, append-nil}
use mathlib.Core.Path.{◌≡◌, refl, sym, ap, ◌∙◌}
use Prim.Native.Nat.{ℕ, suc, ◌+◌, ◌*◌, ◌≤◌, ◌<◌, min}
use native.Mathlib.Omega.{arith}
use lib.IntN.{ℤ}
use lib.ListN.{length, get_or, set, take, length-append}
use lib.Seq.{paste, append_snoc, take_all, take_at}
use Rattle.lists.specs.Lists.{keep}
use Rattle.lists.proofs.After.{after_none}
use Rattle.lists.proofs.Kept.{kept_from, kept_start, kept_next, kept_end}
use Rattle.paper.specs.Numbers.{most_candidates, row_bytes, face_room}
use Rattle.paper.specs.Drawing.{Wire, wire}
use Rattle.paper.specs.Loops.{Loop, loop_at, row, loops, covers_other, uncovering, candidates}
use Rattle.paper_laws.proofs.Rows.{Short}
use Rattle.fast_tables.specs.Hits.{corner_mask, side_mask}
use Rattle.loop_table.specs.Tables.{rows_after, mask_word, words_after}
use Rattle.loop_table.proofs.Rows.{rows_room, rows-kept, row_more, bytes_are, short_more}
use Rattle.loop_table.proofs.Words.{word_more, word_is}
use Rattle.loop_table.proofs.Loops.{loops_of}
use Rattle.loop_cover.specs.Known.{Known}
use Rattle.candidates.specs.Keeps.{row_in, Kept}

-- ---- what is written where there is room for m
module _ {A : Type 0} (m : ℕ) (all done rest : List A) (e : all ≡ done ++ rest) where
  all_long : length all ≡ length done + length rest
  all_long = ap length e ∙ length-append done rest

  -- nothing comes any more
  end_whole : rest ≡ [] → length done ≤ m → done ≡ take m all
  end_whole z h =
      let s : done ≡ all = sym (e ∙ ap (λ (t : List A). done ++ t) z ∙ append-nil done) in
      s ∙ sym (take_all m all (omega (arith, ap length s)))

  end-count : rest ≡ [] → length done ≤ m → length done ≡ min (suc m) (length all)
  end-count z h = omega (arith, all_long, ap length z)

  -- one more comes where there is no room
  full_whole : length done ≡ m → done ≡ take m all
  full_whole h = sym (ap (take m) e ∙ take_at done rest m h)

  full_count : length done ≡ m → 0 < length rest → suc m ≡ min (suc m) (length all)
  full_count h p = omega (arith, all_long)

module _ {xyz : List ℤ} {ends table : List ℕ} {n : ℕ} {corners sides planes : List ℕ}
    (q : Known xyz ends table n corners sides planes) where
  abbrev d : Wire
  d = wire xyz ends

  abbrev ls : List Loop
  ls = loops (wire xyz ends)

  abbrev passes : ℕ → Bool
  passes k = not (covers_other d ls k)

  -- the candidates from loop k on
  abbrev later : ℕ → List Loop
  later k = kept_from (loop_at ls) passes (length ls) k

  -- what the loop keeps: those among the loops before k are written
  pub record Keeping (rows₀ rows corners₀ corners' sides₀ sides' : List ℕ) (c k : ℕ) : Type 0 where
    pub done : List Loop
    pub short : Short done
    pub whole : candidates d ≡ done ++ later k
    pub count : c ≡ length done
    pub few : c ≤ most_candidates
    pub rows_are : rows ≡ rows_after done rows₀
    pub corners_are : corners' ≡ words_after (corner_mask d) done corners₀
    pub sides_are : sides' ≡ words_after (side_mask d) done sides₀

  pub keeping_start : (rows corners' sides' : List ℕ) → Keeping rows rows corners' corners' sides' sides' 0 0
  unfolding candidates uncovering
  keeping_start rows corners' sides' = record {
    done = [];
    short = λ k h. absurd (omega arith);
    whole = kept_start (loop_at ls) passes (length ls);
    count = refl;
    few = omega arith;
    rows_are = after_none row row_bytes rows;
    corners_are = after_none (mask_word (corner_mask d)) 1 corners';
    sides_are = after_none (mask_word (side_mask d)) 1 sides';
  }

  -- row k is in the table
  pub row_there : {k : ℕ} → k < n → row_bytes * k + row_bytes ≤ length table
  row_there h = omega (arith, rows_room table ls q.rows (loops_of d).short, q.count)

  module _ {rows₀ rows corners₀ corners' sides₀ sides' : List ℕ} {c k : ℕ} (s : Keeping rows₀ rows corners₀ corners' sides₀ sides' c k) where
    -- the table of rows is as long as it was
    pub keeping_room : length rows₀ ≡ face_room → length rows ≡ face_room
    keeping_room h = rows-kept s.done s.short rows rows₀ (omega (arith, s.count, s.few)) s.rows_are ∙ h

    -- the same by other names
    pub keeping_as : {rows' corners'' sides'' : List ℕ} {c' : ℕ} → rows' ≡ rows → corners'' ≡ corners' → sides'' ≡ sides' → c' ≡ c
        → Keeping rows₀ rows' corners₀ corners'' sides₀ sides'' c' k
    keeping_as er ec es e = record {
      done = s.done;
      short = s.short;
      whole = s.whole;
      count = e ∙ s.count;
      few = omega (arith, e, s.few);
      rows_are = er ∙ s.rows_are;
      corners_are = ec ∙ s.corners_are;
      sides_are = es ∙ s.sides_are;
    }

    -- ---- loop k
    module _ (h : k < n) where
      there : k < length ls
      there = omega (arith, q.count)

      next : {b : Bool} → covers_other d ls k ≡ b → candidates d ≡ s.done ++ keep (not b) (loop_at ls k) (later (k + 1))
      next e =
          s.whole ∙ ap (λ (t : List Loop). s.done ++ t) (kept_next (loop_at ls) passes (length ls) k there)
          ∙ ap (λ (b : Bool). s.done ++ keep (not b) (loop_at ls k) (later (k + 1))) e

      -- it covers another
      pub keeping_skip : covers_other d ls k ≡ true → Keeping rows₀ rows corners₀ corners' sides₀ sides' c (k + 1)
      unfolding keep
      keeping_skip e = record {
        done = s.done;
        short = s.short;
        whole = next e;
        count = s.count;
        few = s.few;
        rows_are = s.rows_are;
        corners_are = s.corners_are;
        sides_are = s.sides_are;
      }

      module _ (e : covers_other d ls k ≡ false) where
        comes : candidates d ≡ s.done ++ loop_at ls k ∷ later (k + 1)
        unfolding keep
        comes = next e

        -- it is the next, and there is room
        pub keeping_more : c < most_candidates → length corners₀ ≡ most_candidates → length sides₀ ≡ most_candidates
            → Keeping rows₀ (paste rows (row_bytes * c) (row_in table k) row_bytes) corners₀ (set corners' c (get_or corners k 0)) sides₀
            (set sides' c (get_or sides k 0)) (c + 1) (k + 1)
        keeping_more room x y =
            let l = loop_at ls k in
            let most = (loops_of d).short k there in
            let bytes = bytes_are table ls q.rows (loops_of d).short k there in
            record {
              done = s.done ++ l ∷ [];
              short = short_more s.done s.short l most;
              whole = comes ∙ sym (append_snoc s.done l (later (k + 1)));
              count = omega (arith, s.count, length-append s.done (l ∷ []));
              few = omega arith;
              rows_are =
                  (λ i. paste rows (row_bytes * s.count i) (bytes i) row_bytes)
                  ∙ row_more s.done s.short l most rows rows₀ s.rows_are;
              corners_are =
                  (λ i. set corners' (s.count i) (word_is (corner_mask d) corners ls q.corners_are k there i))
                  ∙ word_more (corner_mask d) s.done l corners' corners₀ (omega (arith, s.count)) s.corners_are;
              sides_are =
                  (λ i. set sides' (s.count i) (word_is (side_mask d) sides ls q.sides_are k there i))
                  ∙ word_more (side_mask d) s.done l sides' sides₀ (omega (arith, s.count)) s.sides_are;
            }

        -- it is one too many
        pub keeping_full : most_candidates ≤ c → Kept d (suc most_candidates) rows₀ rows corners₀ corners' sides₀ sides'
        keeping_full over =
            let f : length s.done ≡ most_candidates = omega (arith, s.count, s.few) in
            let all = full_whole most_candidates (candidates d) s.done (loop_at ls k ∷ later (k + 1)) comes f in
            record {
              count = full_count most_candidates (candidates d) s.done (loop_at ls k ∷ later (k + 1)) comes f (omega arith);
              rows_are = s.rows_are ∙ ap (λ (t : List Loop). rows_after t rows₀) all;
              corners_are = s.corners_are ∙ ap (λ (t : List Loop). words_after (corner_mask d) t corners₀) all;
              sides_are = s.sides_are ∙ ap (λ (t : List Loop). words_after (side_mask d) t sides₀) all;
            }

    -- ---- no loop is left
    pub keeping_end : n ≤ k → Kept d c rows₀ rows corners₀ corners' sides₀ sides'
    keeping_end h =
        let z : later k ≡ [] = kept_end (loop_at ls) passes (length ls) k (omega (arith, q.count)) in
        let f : length s.done ≤ most_candidates = omega (arith, s.count, s.few) in
        let all = end_whole most_candidates (candidates d) s.done (later k) s.whole z f in
        record {
          count = s.count ∙ end-count most_candidates (candidates d) s.done (later k) s.whole z f;
          rows_are = s.rows_are ∙ ap (λ (t : List Loop). rows_after t rows₀) all;
          corners_are = s.corners_are ∙ ap (λ (t : List Loop). words_after (corner_mask d) t corners₀) all;
          sides_are = s.sides_are ∙ ap (λ (t : List Loop). words_after (side_mask d) t sides₀) all;
        }
