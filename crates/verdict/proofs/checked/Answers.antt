-- `verdict::checked`: rooms with nothing in them are lent to the tables, and the tables to the list's check.
use mathlib.Core.Path.{◌≡◌, refl, transport}
use Rattle.std.proofs.lemmas.Result.{err_from_is_err_and}
use Rattle.paper.specs.Format.{edition_for}
use Rattle.paper.specs.Refusals.{first_of}
use Rattle.paper.specs.Verdict.{verdict_for}
use Rattle.paper.specs.Drawing.{wire}
use Rattle.paper.specs.Loops.{candidates}
use Rattle.paper.specs.Solids.{tables_of}
use Rattle.walk_input.proofs.Given.{clear-rooms}
use Rattle.verdict.specs.Checked.{list_checks}
use Rattle.verdict.proofs.Deciding.{drawing_stops, list_decides}
use Rattle.verdict.proofs.Tabled.{list_at, vertices_are, edges_are, rows_hold}
use Rattle.verdict.proofs.checked.Goals as goal

pub tables-requires : goal.tables-requires
tables-requires c = clear-rooms c.requires refl

pub returns-in_err-c : goal.returns-in_err-c
returns-in_err-c c =
    let a = c.args in
    let p = err_from_is_err_and c.from_residual.result c.from_residual.ensures.1 in
    rw (p.1, p.2) (drawing_stops (wire a.xyz.now a.ends.now) a.list.now c.in_err-c.ensures)

pub faces_checked-requires : goal.faces_checked-requires
faces_checked-requires c = list_at c.in_ok-c.ensures c.requires refl

pub returns : goal.returns
returns c =
    let a = c.args in
    let d = wire a.xyz.now a.ends.now in
    let r = c.in_ok-c.ensures in
    let v = vertices_are a.xyz.now a.ends.now c.requires in
    let e = edges_are a.xyz.now a.ends.now in
    let cs = candidates d in
    list_decides d a.list.now r.fine
    (transport (λ i. c.faces_checked.result ≡ verdict_for (first_of (list_checks (edition_for (v i) (e i)) (v i) cs (tables_of d cs) a.list.now)))
    (c.faces_checked.ensures cs (tables_of d cs) (rows_hold r) r.lent))
