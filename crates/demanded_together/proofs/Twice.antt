-- Two drawings converted: the demands' sentences are of what the two calls leave.
use mathlib.Core.Path.{◌≡◌, sym, subst}
use mathlib.Core.List.{List}
use Prim.Native.Nat.{ℕ}
use Rattle.paper.specs.Conversion.{Converted}
use Rattle.paper.specs.declared.Conversion.{Conversion}
use Rattle.convert.specs.Converts.{at_exit}
use Rattle.demands.specs.Input.{Input, converted}
use Rattle.demands.specs.Twice.{Twice}
use Rattle.demands.proofs.Twice as Demand
use Rattle.demanded.proofs.Demanding as Demanding
use Rattle.demanded_together.specs.Twice.{ConvertsTwice}

pub converts_twice : (x y : Input) (a b : ℕ) (f u g v : List ℕ) {r q : Conversion} {faces solids faces' solids' : List ℕ}
    → at_exit r faces solids ≡ converted x a f u → at_exit q faces' solids' ≡ converted y b g v
    → ConvertsTwice x y a b f u g v faces solids faces' solids' (record { first = r; second = q })
converts_twice x y a b f u g v {q = q} {faces' = faces'} {solids' = solids'} e h = record {
  converts = Demanding.converts x a f u e;
  converts_other = Demanding.converts y b g v h;
  twice = subst (λ (c : Converted). Twice x y a b f u g v c (at_exit q faces' solids')) (sym e)
      (subst (Twice x y a b f u g v (converted x a f u)) (sym h) (Demand.twice x y a b f u g v));
}
