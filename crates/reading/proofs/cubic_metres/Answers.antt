-- `reading::cubic_metres`: on both ways the double of six volumes is divided once, as the paper's volume is.
use Rattle.std.proofs.Common.{pos, refl, ap, le→leb}
use lib.Ieee.{Float, binary64, div, of_int, in_float}
use Rattle.paper.specs.Reading.{volume}
use Rattle.reading.specs.Exact.{six_per_cubic_metre, most_exact}
use Rattle.reading.proofs.cubic_metres.Goals as goal

pub int_to_float-metre : goal.int_to_float-metre
unfolding in_float
int_to_float-metre c = tt

pub returns-then-six-gt-MOST_EXACT : goal.returns-then-six-gt-MOST_EXACT
unfolding volume
returns-then-six-gt-MOST_EXACT c = ap (λ (x : Float). div binary64 x (of_int binary64 (pos six_per_cubic_metre))) c.nearest_u64_to_f64.ensures

pub int_to_float-result : goal.int_to_float-result
unfolding in_float
int_to_float-result c = le→leb c.args.six most_exact c.if-six-gt-MOST_EXACT.false

pub returns : goal.returns
unfolding volume
returns c = refl
