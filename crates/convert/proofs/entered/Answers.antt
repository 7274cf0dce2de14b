-- `convert::entered`: each way out is one of the laws.
use Rattle.convert.proofs.Converting.{no_faces_lem, no_solids, no_limit, enters}
use Rattle.convert.proofs.entered.Goals as goal

pub returns-then-faces-lt-FACE_ROOM : goal.returns-then-faces-lt-FACE_ROOM
returns-then-faces-lt-FACE_ROOM c =
    let a = c.args in
    no_faces_lem a.limit a.faces a.solids c.if-faces-lt-FACE_ROOM.true c.refused.ensures

pub returns-then-solids-lt-SOLID_ROOM : goal.returns-then-solids-lt-SOLID_ROOM
returns-then-solids-lt-SOLID_ROOM c =
    let a = c.args in
    no_solids a.limit a.faces a.solids c.if-faces-lt-FACE_ROOM.false c.if-solids-lt-SOLID_ROOM.true c.refused-then-solids-lt-SOLID_ROOM.ensures

pub returns-then-limit-gt-MOST_WORK : goal.returns-then-limit-gt-MOST_WORK
returns-then-limit-gt-MOST_WORK c =
    let a = c.args in
    no_limit a.limit a.faces a.solids c.if-faces-lt-FACE_ROOM.false c.if-solids-lt-SOLID_ROOM.false c.if-limit-gt-MOST_WORK.true c.refused-then-limit-gt-MOST_WORK.ensures

pub returns : goal.returns
returns c =
    let a = c.args in
    enters a.limit a.faces a.solids c.if-faces-lt-FACE_ROOM.false c.if-solids-lt-SOLID_ROOM.false c.if-limit-gt-MOST_WORK.false
