-- `reading::reading`: each arm knows which answer it has, and at that answer the paper's reading computes.
use Rattle.std.proofs.Common.{sym, ap, ◌∙◌}
use Rattle.paper.specs.Reading.{reading_of}
use Rattle.std.specs.Prelude.{Ok}
use Rattle.reading.proofs.Promised.{promised}
use Rattle.reading.proofs.reading.Goals as goal

pub returns-in-One : goal.returns-in-One
unfolding reading_of
returns-in-One c =
    let p = promised c.args.c _ (ap Ok c.cubic_metres.ensures ∙ sym (ap reading_of c.in-One.is)) in
    record { result = p.0; said = p.1; exact = p.2 }

pub returns-in-Several : goal.returns-in-Several
unfolding reading_of
returns-in-Several c =
    let p = promised c.args.c _ (sym (ap reading_of c.in-Several.is)) in
    record { result = p.0; said = p.1; exact = p.2 }

pub returns-in-NoSolid : goal.returns-in-NoSolid
unfolding reading_of
returns-in-NoSolid c =
    let p = promised c.args.c _ (sym (ap reading_of c.in-NoSolid.is)) in
    record { result = p.0; said = p.1; exact = p.2 }

pub returns-in-Many : goal.returns-in-Many
unfolding reading_of
returns-in-Many c =
    let p = promised c.args.c _ (sym (ap reading_of c.in-Many.is)) in
    record { result = p.0; said = p.1; exact = p.2 }

pub returns-in-TooLong : goal.returns-in-TooLong
unfolding reading_of
returns-in-TooLong c =
    let p = promised c.args.c _ (sym (ap reading_of c.in-TooLong.is)) in
    record { result = p.0; said = p.1; exact = p.2 }

pub returns-in-Refused : goal.returns-in-Refused
unfolding reading_of
returns-in-Refused c =
    let p = promised c.args.c _ (sym (ap reading_of c.in-Refused.is)) in
    record { result = p.0; said = p.1; exact = p.2 }
