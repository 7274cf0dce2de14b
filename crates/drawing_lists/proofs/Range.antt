-- Lists that pass 5 and 8 to 10 are a drawing in range.
use mathlib.Core.Path.{◌≡◌}
use mathlib.Core.List.{List}
use Prim.Native.Nat.{ℕ, ◌*◌, ◌/◌, ◌≤◌}
use native.Mathlib.Omega.{arith}
use lib.IntN.{ℤ, pos}
use lib.ListN.{length, get_or}
use Rattle.paper.specs.Numbers.{least_edges, most_edges}
use Rattle.paper.specs.Refusals.{first_of, Fine}
use Rattle.paper.specs.Sheet.{content_checks, lent_checks}
use Rattle.paper_laws.proofs.Coordinate.{in_reach}
use Rattle.paper_laws.specs.InRange.{Points, Ends, InRange}
use Rattle.sheet_laws.proofs.Lent.{contents, lent}

-- v vertices and e edges in number, whose contents pass
module _ (xyz : List ℤ) (ends : List ℕ) (v e : ℕ) (three : length xyz ≡ 3 * v) (two : length ends ≡ 2 * e)
    (h : Fine ≡ first_of (content_checks v xyz ends)) where
  pub points_are : Points xyz v
  points_are =
      let c = contents v xyz ends h in
      record { whole = three; near = λ k. record { within = in_reach (get_or xyz k (pos 0)) (c.near k) } }

  pub ends_are : least_edges ≤ e → e ≤ most_edges → Ends ends v
  ends_are least most =
      let c = contents v xyz ends h in
      record {
        edges = e;
        whole = two;
        least = least;
        most = most;
        known = λ k u. c.below k (omega arith);
        rising = λ k u. c.rising k (omega arith);
      }

pub lent_range : (xyz : List ℤ) (ends : List ℕ) → Fine ≡ first_of (lent_checks xyz ends) → InRange xyz ends
lent_range xyz ends h =
    let g = lent xyz ends h in
    let v = length xyz / 3 in
    let e = length ends / 2 in
    record {
      vertices = v;
      least = g.v_least;
      most = g.v_most;
      points = points_are xyz ends v e g.v_whole g.e_whole g.fine;
      links = ends_are xyz ends v e g.v_whole g.e_whole g.fine g.e_least g.e_most;
    }
