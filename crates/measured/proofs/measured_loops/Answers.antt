-- `measured::measured_loops`: the edges are numbered as 10 leaves them, and the drawing is the lent one.
use Rattle.loop_known.specs.Known.{DrawnBy}
use Rattle.measured.proofs.measured_loops.Goals as goal

-- the drawing by its points, its neighbour words and its edges' numbers
drawn : (c : goal.After-known_loops-arg-4-1) → let a = c.args in
    DrawnBy a.xyz.now a.ends.now a.near.now c.number_edges-number.result
drawn c =
    let p = c.requires in
    record { passed = p.passed; near_are = p.near_are; numbered = c.number_edges-number.ensures }

drawn-2 : (c : goal.After-known_loops) → let a = c.args in
    DrawnBy a.xyz.now a.ends.now a.near.now c.number_edges-number.result
drawn-2 c =
    let p = c.requires in
    record { passed = p.passed; near_are = p.near_are; numbered = c.number_edges-number.ensures }

pub known_loops-requires : goal.known_loops-requires
known_loops-requires c =
    record { ends = c.args.ends.now; drawn = drawn c; roomy = c.requires.roomy }

pub returns : goal.returns
returns c =
    c.known_loops.ensures c.args.ends.now (drawn-2 c)
