-- `loop_search::rooms::take_in`: the row and the plane go behind those that are there, or the loop is one too many.
use native.Mathlib.Omega.{arith}
use Rattle.loop_search.proofs.Takes.{taken_over, taken_more}
use Rattle.loop_search.proofs.rooms.take_in.Goals as goal

pub returns-then-count-ge-MOST_LOOPS : goal.returns-then-count-ge-MOST_LOOPS
returns-then-count-ge-MOST_LOOPS c = taken_over c.requires c.args.plane (omega arith)

pub put_row-requires : goal.put_row-requires
put_row-requires c =
    record { table_long = c.requires.sized.table_long; roomy = omega arith; path_at = c.requires.path_at }

pub put-requires : goal.put-requires
put-requires c = let p = c.requires in omega (arith, p.sized.planes_long)

pub returns : goal.returns
returns c =
    taken_more c.requires c.args.plane c.put_row.new.table c.put.new.words (omega arith) c.put_row.ensures c.put.ensures
