-- `walk_leaf::faces::at_edge`: if one of the others is reached already nothing changes, else all of them are reached.
use native.Mathlib.Omega.{arith}
use Rattle.sets.specs.Sets.{wides}
use Rattle.sets.proofs.Sets.{wides_laws}
use Rattle.walk_state.proofs.Lowest.{is_none, is_some}
use Rattle.walk_leaf.proofs.Steps.{edge_stays, edge_goes}
use Rattle.walk_leaf.proofs.faces.at_edge.Goals as goal

reached-fits : (c : goal.Then-not-is_empty) → wides_laws.Fits c.args.g.reached
reached-fits c = omega arith

reached-fits-2 : (c : goal.After-turned_at) → wides_laws.Fits c.args.g.reached
reached-fits-2 c = omega arith

waiting-fits : (c : goal.After-turned_at) → wides_laws.Fits c.args.g.waiting
waiting-fits c = omega arith

taken-fits : (c : goal.After-turned_at) → wides_laws.Fits c.args.taken
taken-fits c = omega arith

-- all are words
mask_fits : (c : goal.After-turned_at) → wides_laws.Fits c.args.mask
mask_fits c = omega arith

-- ---- the needs

pub returns-then-not-is_empty : goal.returns-then-not-is_empty
returns-then-not-is_empty c =
    let a = c.args in
    edge_stays a.mask a.up a.taken a.f a.g c.and.ensures c.without-other.ensures c.and-2.ensures
    (reached-fits c) (is_some wides c.and-2.result c.is_empty.ensures (c.if-not-is_empty.true))

pub returns : goal.returns
returns c =
    let a = c.args in
    let z = is_none wides c.and-2.result c.is_empty.ensures
    (c.if-not-is_empty.false) in
    edge_goes a.mask a.up a.taken a.f a.g c.and.ensures c.without-other.ensures c.and-2.ensures
    z c.or.ensures c.or-2.ensures c.turned_at.ensures
    (mask_fits c) (taken-fits c) (reached-fits-2 c) (waiting-fits c)
