-- `drawing_segments::span_of`: each coordinate is read as it is, and its lesser or greater taken.
use Rattle.fast_meets.specs.Boxes.{lesser, greater, low_corner, high_corner}
use Rattle.drawing_segments.proofs.Bits.{of_two}
use Rattle.drawing_segments.proofs.span_of.Goals as goal

-- ---- the needs

pub returns : goal.returns
unfolding low_corner high_corner
returns c =
    let p = c.args.a in
    let q = c.args.b in
    let a = c.struct_told-1.given in
    let b = c.struct_told-2-1.given in
    λ i.
    record {
      low = record {
        x = of_two lesser p.x q.x c.lower.result a.0.1 b.0.1 c.lower.type_inv c.lower.ensures i;
        y = of_two lesser p.y q.y c.lower-2.result a.1.0.1 b.1.0.1 c.lower-2.type_inv c.lower-2.ensures i;
        z = of_two lesser p.z q.z c.lower-3.result a.1.1.0.1 b.1.1.0.1 c.lower-3.type_inv c.lower-3.ensures i;
      };
      high = record {
        x = of_two greater p.x q.x c.higher.result a.0.1 b.0.1 c.higher.type_inv c.higher.ensures i;
        y = of_two greater p.y q.y c.higher-2.result a.1.0.1 b.1.0.1 c.higher-2.type_inv c.higher-2.ensures i;
        z = of_two greater p.z q.z c.higher-3.result a.1.1.0.1 b.1.1.0.1 c.higher-3.type_inv c.higher-3.ensures i;
      };
    }
