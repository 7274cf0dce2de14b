-- `convert::walked::walk_drawing`: rooms with nothing in them are lent to the tables, and the tables to the walk.
use Rattle.std.proofs.lemmas.Result.{err_from_is_err_and}
use Rattle.walk_input.proofs.Given.{clear-rooms}
use Rattle.convert.proofs.Walking.{searching, done}
use Rattle.convert.proofs.walked.walk_drawing.Goals as goal

pub tables-requires : goal.tables-requires
tables-requires c = let p = c.requires in clear-rooms p.passed p.row_room

pub returns-in_err-c : goal.returns-in_err-c
returns-in_err-c c =
    let p = err_from_is_err_and c.from_residual.result c.from_residual.ensures.1 in
    rw (p.1, p.2) c.in_err-c.ensures

pub search-t-requires : goal.search-t-requires
search-t-requires c = let p = c.requires in searching c.in_ok-c.ensures p.passed p.word_room

pub returns : goal.returns
returns c = done c.in_ok-c.ensures c.search-t.ensures
