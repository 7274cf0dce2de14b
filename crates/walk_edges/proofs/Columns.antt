-- The words of edges, of the first candidates and of all; and the words of candidates, which are the columns.
use mathlib.Core.Path.{◌≡◌, refl, sym, ap, ◌∙◌}
use mathlib.Core.Bool.{Bool, true, false, ◌&&◌, ◌||◌}
use mathlib.Core.List.{List, [], ◌∷◌, map}
use Prim.Native.Nat.{ℕ, zero, suc, ◌+◌, ◌≤◌, ◌<◌}
use native.Mathlib.Omega.{arith}
use borrow.Author.Tests.{le-ltb, ltb-true, ltb-false}
use lib.Dec.{eqb, ltb}
use lib.ListN.{length, get_or, length-map}
use Rattle.lists.proofs.Truth.{never_true}
use Rattle.lists.proofs.Places.{map_at}
use Rattle.sets.specs.Word.{word, dig, digit}
use Rattle.sets.specs.Sets.{packed_set, wides}
use Rattle.sets.proofs.Ones.{dig_lt}
use Rattle.sets.proofs.Numbers.{digit_zero, by_digits}
use Rattle.paper.specs.Numbers.{most_edges}
use Rattle.paper.specs.Drawing.{Wire, Edge}
use Rattle.paper.specs.Loops.{Loop, loop_at}
use Rattle.paper.specs.Solids.{has, tables_of}
use Rattle.fast_sweeps.specs.Worklist.{edges_with}
use Rattle.fast_tables.specs.Hits.{side_mask}
use Rattle.loop_table.specs.Tables.{HoldsWords}
use Rattle.loop_table.proofs.Words.{word_is}
use Rattle.walk_tables.specs.Words.{Masks, Sides}
use Rattle.walk_edges.specs.Marks.{Marked}
use Rattle.walk_edges.proofs.Firsts.{before_next, at_next, spread}

module _ (mask : Loop → List Bool) (cs : List Loop) where
  -- the words of edges have those of the first k candidates whose mask has the edge
  abbrev pub Columns : List ℕ → ℕ → Type 0
  Columns words k = (e u : ℕ) → digit (get_or words e 0) u ≡ (ltb u k && dig (mask (loop_at cs u)) e)

  pub columns_none : (words : List ℕ) → ((e : ℕ) → get_or words e 0 ≡ 0) → Columns words 0
  columns_none words z e u =
      ap (λ (w : ℕ). digit w u) (z e) ∙ digit_zero u ∙ ap (λ (b : Bool). b && dig (mask (loop_at cs u)) e) (sym (le-ltb u 0 (omega arith)))

  -- candidate k too
  pub columns_more : (words after : List ℕ) (k : ℕ) → Marked (mask (loop_at cs k)) k words after → Columns words k → Columns after (k + 1)
  columns_more words after k m s e u =
      let test : ℕ → Bool = λ v. dig (mask (loop_at cs v)) e in
      m e u ∙ (λ i. s e u i || at_next test u k i) ∙ spread false (ltb u k) (eqb u k) (test u)
      ∙ ap (λ (b : Bool). b && test u) (sym (before_next u k))

-- past the last digit none is set
past_end : (a : List Bool) (k : ℕ) → length a ≤ k → dig a k ≡ false
past_end a k h = never_true (dig a k) (λ t. let s = dig_lt a k t in omega (arith, s))

module _ {A : Type 0} (z : A) (f : A → Loop → Bool) (es : List A) (cs : List Loop) where
  -- all candidates: the words are those of a table with a mask for each edge, or for each of other things that candidates have
  pub columns_all : (words : List ℕ) (n : ℕ) → n ≡ length cs → n ≤ wides.room → length es ≤ wides.room
      → Columns (λ l. map (λ e. f e l) es) cs words n
      → Masks words (map (λ e. map (f e) cs) es)
  unfolding packed_set
  columns_all words n q most few s =
      record {
        few = omega (arith, length-map es (λ e. map (f e) cs));
        at = λ e h. at e
            (omega (arith, h, length-map es (λ e. map (f e) cs)));
      }
    where
      digits_are : (e : ℕ) → e < length es → (u : ℕ) (b : Bool) → ltb u n ≡ b
          → digit (get_or words e 0) u ≡ dig (map (f (get_or es e z)) cs) u
      digits_are e h u true p =
          let m : u < length cs = omega (arith, ltb-true u n p, q) in
          s e u ∙ ap (λ (b : Bool). b && dig (map (λ g. f g (loop_at cs u)) es) e) p
          ∙ map_at (λ g. f g (loop_at cs u)) es e z false h
          ∙ sym (map_at (f (get_or es e z)) cs u [] false m)
      digits_are e h u false p =
          s e u ∙ ap (λ (b : Bool). b && dig (map (λ g. f g (loop_at cs u)) es) e) p
          ∙ sym
          (past_end (map (f (get_or es e z)) cs) u
          (omega (arith, ltb-false u n p, q, length-map cs (f (get_or es e z)))))

      at : (e : ℕ) → e < length es → wides.Is (wides.at words e) (get_or (map (λ e. map (f e) cs) es) e [])
      at e h =
          let m : get_or (map (λ e. map (f e) cs) es) e [] ≡ map (f (get_or es e z)) cs
          = map_at (λ e. map (f e) cs) es e z [] h in
          let w = by_digits (get_or words e 0) (map (f (get_or es e z)) cs) (λ u. digits_are e h u (ltb u n) refl) in
          let is : wides.Is (wides.at words e) (map (f (get_or es e z)) cs)
          = record { short = omega (arith, q, length-map cs (f (get_or es e z))); words = λ i. record { word = w i } } in
          rw m is

-- ---- the edges of a candidate are a column, and past the last candidate it is empty
module _ (f : Edge → Loop → Bool) (cs : List Loop) where
  column_length : (k : ℕ) (es : List Edge) → length (edges_with (map (λ e. map (f e) cs) es) k) ≡ length es
  unfolding edges_with
  column_length k [] = refl
  column_length k (e ∷ es) = ap suc (column_length k es)

  column_is : (k : ℕ) → k < length cs → (es : List Edge) → edges_with (map (λ e. map (f e) cs) es) k ≡ map (λ e. f e (loop_at cs k)) es
  unfolding edges_with
  column_is k h [] = refl
  column_is k h (e ∷ es) = λ i. map_at (f e) cs k [] false h i ∷ column_is k h es i

  column_none : (k : ℕ) → length cs ≤ k → (es : List Edge) (j : ℕ) → dig (edges_with (map (λ e. map (f e) cs) es) k) j ≡ false
  unfolding edges_with
  column_none k h [] j = refl
  column_none k h (e ∷ es) zero = past_end (map (f e) cs) k (omega (arith, length-map cs (f e)))
  column_none k h (e ∷ es) (suc j) = column_none k h es j

-- the words of candidates' sides, and no word behind them
pub sides-held : (d : Wire) (cs : List Loop) (words : List ℕ) → length d.edges ≤ most_edges → HoldsWords (side_mask d) words cs
    → ((k : ℕ) → length cs ≤ k → get_or words k 0 ≡ 0) → Sides words (tables_of d cs).masks
unfolding tables_of packed_set side_mask
sides-held d cs words few held none =
    record {
      few = omega (arith, length-map d.edges (λ e. map (has e) cs));
      at = λ k h. record {
        short = omega
            (arith, column_length has cs k d.edges);
        words = λ i. record { word = go k (ltb k (length cs)) refl i };
      };
    }
  where
    go : (k : ℕ) (b : Bool) → ltb k (length cs) ≡ b → get_or words k 0 ≡ word (edges_with (map (λ e. map (has e) cs) d.edges) k)
    go k true p =
        let h = ltb-true k (length cs) p in
        word_is (λ l. map (λ e. has e l) d.edges) words cs held k h ∙ sym (ap word (column_is has cs k h d.edges))
    go k false p =
        let h = ltb-false k (length cs) p in
        none k h
        ∙ by_digits 0 (edges_with (map (λ e. map (has e) cs) d.edges) k) (λ j. digit_zero j ∙ sym (column_none has cs k h d.edges j))
