-- T-13, of two calls: two drawings converted, each in rooms of its own.
use Rattle.std.specs.Prelude.{List, ℕ}
use Rattle.demands.specs.Input.{Input}
use Rattle.demands.specs.Twice.{Twice}
use Rattle.demanded.specs.Demanded.{Converts}
use Rattle.demanded_together.specs.declared.Pair.{Pair}

pub record ConvertsTwice (x y : Input) (a b : ℕ) (f u g v : List ℕ) (faces solids faces' solids' : List ℕ) (r : Pair) : Type 0 where
  pub converts : Converts x a f u r.first faces solids
  pub converts_other : Converts y b g v r.second faces' solids'
  -- shifted, mirrored, renumbered, with a higher limit
  pub twice : Twice x y a b f u g v (record { answer = r.first; faces = faces; solids = solids })
      (record { answer = r.second; faces = faces'; solids = solids' })
