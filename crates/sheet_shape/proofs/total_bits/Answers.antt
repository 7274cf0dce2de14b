-- `sheet_shape::total_bits`: no sum wraps, since the vertex numbers of a narrow layout have few bits.
use Rattle.sheet_shape.proofs.Sizes.{numbers_small}
use native.Mathlib.Omega.{arith}
use Rattle.sheet_shape.proofs.total_bits.Goals as goal

pub overflow_mul-result-3 : goal.overflow_mul-result-3
overflow_mul-result-3 c = omega (arith, numbers_small c.requires)

pub overflow_add-result-4 : goal.overflow_add-result-4
overflow_add-result-4 c = omega (arith, c.requires.narrow, numbers_small c.requires)
