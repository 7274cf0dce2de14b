-- `walk_input::tables`: each stage asks for what those before it found; the counts of loops and candidates decide 15 and 16.
use mathlib.Core.Path.{◌≡◌, refl}
use mathlib.Core.List.{List}
use Prim.Native.Nat.{ℕ, ◌/◌}
use lib.IntN.{ℤ}
use lib.ListN.{length}
use Rattle.std.proofs.lemmas.Result.{err_from_is_err_and}
use Rattle.paper.specs.Refusals.{first_of, Fine}
use Rattle.paper.specs.Drawing.{wire, drawing_checks, edges_of}
use Rattle.paper_laws.specs.InRange.{PassedLists}
use Rattle.paper_laws.proofs.Checks.{first_stops}
use Rattle.drawing_lists.proofs.Range.{lent_range}
use Rattle.drawing_links.specs.Neighbours.{neighbour_words}
use Rattle.drawing_links.proofs.Range.{few_ends}
use Rattle.loop_words.specs.Numbered.{EdgesNumbered}
use Rattle.loop_known.specs.Known.{DrawnBy}
use Rattle.loop_known.proofs.Passed.{has-passed, rising_ends}
use Rattle.candidates.proofs.Roomy.{rows_long}
use Rattle.walk_tables.specs.Words.{WalkTables, walk_tables}
use Rattle.walk_input.proofs.Tabling.{many_loops, loops_are, many_candidates, candidates_are, none_applies, rows-kept, listed, lent}
use Rattle.walk_input.proofs.Tabling.{small_sixes}
use Rattle.walk_input.proofs.tables.Goals as goal

-- what the rules let through has passed 3 to 14
drawn : {xyz : List ℤ} {ends near number : List ℕ} → PassedLists xyz ends → Fine ≡ first_of (drawing_checks (wire xyz ends))
    → near ≡ neighbour_words (edges_of ends) (length xyz / 3) → EdgesNumbered number (edges_of ends) → DrawnBy xyz ends near number
drawn p e n k = record { passed = has-passed _ _ p e; near_are = n; numbered = k }

-- the tables as they were left: the words of sides with the rows, the others by the makers of words
abbrev left : goal.After-put_words → WalkTables
left c =
    let sides = c.candidate_rows-c.new.sides in
    let l = c.put_words.new in
    walk_tables l.on l.up sides l.clashes l.sixes

-- ---- the needs

pub neighbours-near-requires : goal.neighbours-near-requires
neighbours-near-requires c = few_ends (lent_range _ _ c.requires.passed)

pub drawing_rules-requires : goal.drawing_rules-requires
drawing_rules-requires c = record { range = lent_range _ _ c.requires.passed; near_are = c.neighbours-near.ensures }

pub returns-in_err-drawing_rules : goal.returns-in_err-drawing_rules
returns-in_err-drawing_rules c =
    let p = err_from_is_err_and c.from_residual.result c.from_residual.ensures.1 in
    rw (p.1, p.2) (first_stops _ _ c.in_err-drawing_rules.ensures)

pub number_edges-number-requires : goal.number_edges-number-requires
number_edges-number-requires c = rising_ends (has-passed _ _ c.requires.passed c.in_ok-drawing_rules.ensures)

pub candidate_rows-c-requires : goal.candidate_rows-c-requires
candidate_rows-c-requires c =
    let p = c.requires in
    record {
      drawn = drawn p.passed c.in_ok-drawing_rules.ensures c.neighbours-near.ensures c.number_edges-number.ensures;
      row_room = p.row_room;
      corner_room = refl;
      side_room = p.side_room;
    }

pub returns-then-c-gt-MOST_LOOPS : goal.returns-then-c-gt-MOST_LOOPS
returns-then-c-gt-MOST_LOOPS c =
    rw c.refused.ensures
    (many_loops _ c.in_ok-drawing_rules.ensures c.candidate_rows-c.ensures.loops_are c.if-c-gt-MOST_LOOPS.true)

pub returns-then-n-gt-MOST_CANDIDATES : goal.returns-then-n-gt-MOST_CANDIDATES
returns-then-n-gt-MOST_CANDIDATES c =
    let f = c.candidate_rows-c.ensures in
    let few = c.if-c-gt-MOST_LOOPS.false in
    rw c.refused-then-n-gt-MOST_CANDIDATES.ensures
    (many_candidates _ c.in_ok-drawing_rules.ensures f.loops_are few (f.kept few).count c.if-n-gt-MOST_CANDIDATES.true)

pub put_words-requires : goal.put_words-requires
put_words-requires c =
    let k = c.candidate_rows-c.ensures.kept c.if-c-gt-MOST_LOOPS.false in
    let p = c.requires in
    let empty = p.rooms in
    let d = drawn p.passed c.in_ok-drawing_rules.ensures c.neighbours-near.ensures c.number_edges-number.ensures in
    record {
      all = listed d k c.if-n-gt-MOST_CANDIDATES.false;
      row_room = rows_long k p.row_room;
      rooms = record {
        on_clear = empty.on_clear;
        up_clear = empty.up_clear;
        clash_room = empty.clash_room;
        no_clash = empty.no_clash;
        six_room = empty.six_room;
      };
    }

pub returns : goal.returns
returns c =
    let f = c.candidate_rows-c.ensures in
    let i = c.if-c-gt-MOST_LOOPS.false in
    let few = c.if-n-gt-MOST_CANDIDATES.false in
    let k = f.kept i in
    let p = c.requires in
    let ruled = c.in_ok-drawing_rules.ensures in
    let d = drawn p.passed ruled c.neighbours-near.ensures c.number_edges-number.ensures in
    let w = c.put_words.ensures (listed d k few) in
    record {
      fine = none_applies _ ruled f.loops_are i k.count few;
      loops_are = loops_are _ ruled f.loops_are i k.count;
      candidates_are = candidates_are _ ruled f.loops_are i k.count few;
      few = few;
      rows_are = rows-kept d k few;
      small = small_sixes d {tables = left c} k few w p.no_side p.small;
      lent = lent d {tables = left c} k few w p.no_side;
    }
