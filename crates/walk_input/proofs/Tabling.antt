-- What the counts of loops and candidates decide: 15, 16, or that none of 11 to 16 applies.
use mathlib.Core.Bool.{Bool, true, false}
use mathlib.Core.List.{List, [], ◌∷◌, map}
use mathlib.Core.Path.{◌≡◌, refl, sym, ap, subst, ◌∙◌}
use Prim.Native.Nat.{ℕ, suc, ◌≤◌, ◌<◌, ◌/◌, min}
use native.Mathlib.Omega.{arith}
use borrow.Author.Tests.{lt-ltb, le-ltb, ltb-true, ltb-false}
use lib.Dec.{ltb}
use lib.IntN.{ℤ, pos}
use lib.ListN.{length, get_or, take, length-map}
use lib.Seq.{take_all}
use Rattle.exact.specs.Size.{Within}
use Rattle.lists.specs.Lists.{upto}
use Rattle.lists.proofs.Places.{upto_length}
use Rattle.paper.specs.Numbers.{most_loops, most_candidates, documented}
use Rattle.paper.specs.Refusals as No
use Rattle.paper.specs.Refusals.{check, first_of, offends, refuse, Fine}
use Rattle.paper.specs.Drawing.{Wire, wire, drawing_checks}
use Rattle.paper.specs.Loops.{Loop, loops, candidates, polygon, loop_checks}
use Rattle.paper.specs.Solids.{has, runs_up, face_six, tables_of}
use Rattle.paper_laws.proofs.Checks.{clear, holds, fails, first_passes}
use Rattle.fast_tables.specs.Hits.{corner_mask, side_mask}
use Rattle.loop_table.specs.Tables.{rows_after, words_after}
use Rattle.loop_table.proofs.Loops.{candidates_of_lem, edges_are}
use Rattle.loop_table.proofs.Rows.{rows_held}
use Rattle.loop_table.proofs.Words.{words-held, words_later}
use Rattle.loop_known.specs.Known.{DrawnBy}
use Rattle.candidates.specs.Keeps.{Kept}
use Rattle.walk_tables.specs.Words.{most_part, SmallSixes, WalkTables, Lent}
use Rattle.walk_edges.proofs.Columns.{sides-held}
use Rattle.walk_input.specs.Words.{CandidatesListed, WordsMade}
use Rattle.walk_input.specs.Tables.{checks_of}

-- ---- a count that stops one above the most

over : {most n r : ℕ} → r ≡ min (suc most) n → most < r → most < n
over e h = omega (arith, e)

pub within : {most n r : ℕ} → r ≡ min (suc most) n → r ≤ most → r ≡ n
within e h = omega (arith, e)

module _ (d : Wire) (ruled : Fine ≡ first_of (drawing_checks d)) {l : ℕ} (counted : l ≡ min (suc most_loops) (length (loops d))) where
  -- what is left is the answer of 15 and 16
  left : first_of (loop_checks documented (loops d) (candidates d)) ≡ first_of (checks_of d)
  left = first_passes (drawing_checks d) (loop_checks documented (loops d) (candidates d)) ruled

  pub many_loops : most_loops < l → refuse No.ManyLoops 0 ≡ first_of (checks_of d)
  unfolding loop_checks
  many_loops h = holds No.ManyLoops 0 _ (lt-ltb most_loops (length (loops d)) (over counted h)) ∙ left

  module _ (few : l ≤ most_loops) {c : ℕ} (kept : c ≡ min (suc most_candidates) (length (candidates d))) where
    pub loops_are : l ≡ length (loops d)
    loops_are = within counted few

    not_many : first_of (check No.ManyCandidates (offends (ltb most_candidates (length (candidates d))) 0) ∷ []) ≡ first_of (checks_of d)
    unfolding loop_checks
    not_many = fails No.ManyLoops 0 _ (le-ltb most_loops (length (loops d)) (omega (arith, loops_are, few))) ∙ left

    pub many_candidates : most_candidates < c → refuse No.ManyCandidates 0 ≡ first_of (checks_of d)
    many_candidates h = holds No.ManyCandidates 0 [] (lt-ltb most_candidates (length (candidates d)) (over kept h)) ∙ not_many

    module _ (h : c ≤ most_candidates) where
      pub candidates_are : c ≡ length (candidates d)
      candidates_are = within kept h

      pub none_applies : Fine ≡ first_of (checks_of d)
      none_applies =
          clear ∙ fails No.ManyCandidates 0 [] (le-ltb most_candidates (length (candidates d)) (omega (arith, candidates_are, h)))
          ∙ not_many

-- ---- the candidates that were kept are all of them

module _ {xyz : List ℤ} {ends near number : List ℕ} (drawn : DrawnBy xyz ends near number) {c : ℕ}
    {rows₀ rows corners₀ corners sides₀ sides : List ℕ} (kept : Kept (wire xyz ends) c rows₀ rows corners₀ corners sides₀ sides)
    (few : c ≤ most_candidates) where
  abbrev pub d : Wire
  d = wire xyz ends

  abbrev pub cs : List Loop
  cs = candidates d

  pub all_kept : take most_candidates cs ≡ cs
  all_kept = take_all most_candidates cs (omega (arith, within kept.count few))

  pub rows-kept : rows ≡ rows_after cs rows₀
  rows-kept = kept.rows_are ∙ ap (λ (l : List Loop). rows_after l rows₀) all_kept

  pub words_kept : (mask : Loop → List Bool) (words₀ words : List ℕ) → words ≡ words_after mask (take most_candidates cs) words₀
      → words ≡ words_after mask cs words₀
  words_kept mask words₀ words e = e ∙ ap (λ (l : List Loop). words_after mask l words₀) all_kept

  pub sides_kept : sides ≡ words_after (side_mask d) cs sides₀
  sides_kept = words_kept (side_mask d) sides₀ sides kept.sides_are

  abbrev pub listed : CandidatesListed xyz rows c near number corners sides
  listed = record {
    ends = ends;
    drawn = drawn;
    count = within kept.count few;
    most = few;
    held = rows_held cs (candidates_of_lem d).short rows rows₀ rows-kept;
    corners_are = words-held (corner_mask d) cs corners corners₀ (words_kept (corner_mask d) corners₀ corners kept.corners_are);
    sides_are = words-held (side_mask d) cs sides sides₀ sides_kept;
  }

-- ---- and the words that were made of them are what the walk is lent

module _ {xyz : List ℤ} {ends near number : List ℕ} (drawn : DrawnBy xyz ends near number) {c : ℕ}
    {rows₀ rows corners₀ corners sides₀ : List ℕ} {tables : WalkTables}
    (kept : Kept (wire xyz ends) c rows₀ rows corners₀ corners sides₀ tables.sides) (few : c ≤ most_candidates) {sixes₀ : List ℤ}
    (made : WordsMade (listed drawn kept few) sixes₀ tables) (none : (k : ℕ) → get_or sides₀ k 0 ≡ 0) where
  pub lent : Lent tables (length ends / 2) c (tables_of (wire xyz ends) (candidates (wire xyz ends)))
  unfolding tables_of
  lent =
      let d = wire xyz ends in
      let cs = candidates d in
      let count : c ≡ length cs = within kept.count few in
      let range = drawn.passed.range in
      let edges : length d.edges ≡ length ends / 2 = omega (arith, edges_are range, range.links.whole) in
      record {
        held = record {
          on_are = made.on_are;
          up_are = made.up_are;
          sides_are =
              sides-held d cs tables.sides (omega (arith, edges_are range, range.links.most)) (listed drawn kept few).sides_are
              (λ k h. words_later (side_mask d) cs tables.sides sides₀ (sides_kept drawn kept few) k h ∙ none k);
          clashes_are = made.clashes_are;
          sixes_are = made.sixes_are;
        };
        masks_are = length-map d.edges (λ e. map (has e) cs) ∙ edges;
        ups_are = length-map d.edges (λ e. map (runs_up e) cs) ∙ edges;
        clashes_are = length-map (upto (length cs)) _ ∙ upto_length (length cs) ∙ sym count;
        sixes_are = length-map (map (polygon d) cs) face_six ∙ length-map cs (polygon d) ∙ sym count;
      }

  pub small_sixes : SmallSixes sixes₀ → SmallSixes tables.sixes
  unfolding tables_of
  small_sixes before = record { small = λ k h. go k h (ltb k c) refl }
    where
      go : (k : ℕ) → k < most_candidates → (b : Bool) → ltb k c ≡ b → Within most_part (get_or tables.sixes k (pos 0))
      go k h true e =
          subst (Within most_part) (sym (made.sixes_are.at k (omega (arith, lent.sixes_are, ltb-true k c e)))) (made.sixes_are.small k)
      go k h false e = subst (Within most_part) (sym (made.later k (ltb-false k c e))) (before.small k h)
