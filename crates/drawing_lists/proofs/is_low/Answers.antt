-- `drawing_lists::is_low`: the edge before edge e is e - 1, and edge 0 has none.
use mathlib.Core.Path.{◌≡◌, refl, ◌∙◌, ap}
use mathlib.Core.Bool.{not, Bool}
use mathlib.Core.List.{List}
use Prim.Native.Nat.{ℕ, zero, suc, ◌+◌, ◌*◌, ◌-◌}
use lib.ListN.{get_or}
use Rattle.paper.specs.Sheet.{edge_above, low_at}
use native.Mathlib.Omega.{arith}
use Rattle.drawing_lists.proofs.is_low.Goals as goal

-- whether edge b + 1 is not above edge b
abbrev notAbove : List ℕ → ℕ → Bool
notAbove ends b =
    not (edge_above (get_or ends (2 * b) 0) (get_or ends (2 * b + 1) 0) (get_or ends (2 * b + 2) 0) (get_or ends (2 * b + 3) 0))

low-is : (ends : List ℕ) (e : ℕ) → (e ≡ 0 → ⊥) → notAbove ends (e - 1) ≡ low_at ends e
unfolding low_at
low-is ends zero h = absurd (h refl)
low-is ends (suc e) h = let d : suc e - 1 ≡ e = omega arith in rw d refl

pub returns-then-e-eq0 : goal.returns-then-e-eq0
unfolding low_at
returns-then-e-eq0 c = rw c.if-e-eq0.true refl

pub returns : goal.returns
returns c =
    let a = c.args in
    ap not c.is_edge_above.ensures ∙ low-is a.ends.now a.e c.if-e-eq0.false
