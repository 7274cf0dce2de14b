-- `drawing_links::apart`: the loop keeps that what is left to search holds the whole answer.
use mathlib.Core.List.{[]}
use mathlib.Core.Bool.{Bool, not}
use mathlib.Core.Path.{◌∙◌, ◌≡◌, ap, sym}
use Prim.Native.Nat.{ℕ}
use native.Mathlib.Omega.{arith}
use lib.ListN.{length}
use Rattle.sets.proofs.Numbers.{digit-bits}
use Rattle.lists.proofs.Search.{lowest-end, lowest_hit, lowest_miss, lowest_start}
use Rattle.lists.specs.Lists.{lowest}
use Rattle.paper_laws.proofs.Checks.{clear, stops, passes}
use Rattle.paper.specs.Drawing.{Wire, apart}
use Rattle.paper.specs.Refusals.{Apart}
use Rattle.drawing_links.specs.Neighbours.{Links}
use Rattle.drawing_links.proofs.apart.Invariants.{Missing}
use Rattle.drawing_links.proofs.apart.Goals as goal

-- the answer, by the count of vertices
answer : (d : Wire) {v : ℕ} → length d.vertices ≡ v → lowest (Missing d v) v ≡ apart d
unfolding apart
answer d e = ap (λ (n : ℕ). lowest (Missing d n) n) (sym e)

-- the code's test of vertex w
here : (c : goal.After-refused) {b : Bool} → not c.is_set.result ≡ b
    → let a = c.args in
    (d : Wire) → Links a.near.now a.v d → Missing d a.v c.loop-w.w ≡ b
here c e d k =
    let reached = c.vertices_reached-set.ensures d k c.loop-w.w (omega arith) in
    ap not (sym (c.is_set.ensures ∙ digit-bits 64 _ _ (omega arith) ∙ reached)) ∙ e

here-2 : (c : goal.Else-not-is_set) {b : Bool} → not c.is_set.result ≡ b
    → let a = c.args in
    (d : Wire) → Links a.near.now a.v d → Missing d a.v c.loop-w.w ≡ b
here-2 c e d k =
    let reached = c.vertices_reached-set.ensures d k c.loop-w.w (omega arith) in
    ap not (sym (c.is_set.ensures ∙ digit-bits 64 _ _ (omega arith) ∙ reached)) ∙ e

-- ---- the needs

pub loop-w-init : goal.loop-w-init
loop-w-init c = (omega arith, λ d k. lowest_start (Missing d _) _)

pub returns-then-not-is_set : goal.returns-then-not-is_set
returns-then-not-is_set c =
    let v = c.args.v in
    λ d k.
    let missing = here c (ap not c.if-not-is_set.true) d k in
    let hit = lowest_hit (Missing d v) v c.loop-w.w (omega arith) (c.loop-w.invariant.1 d k) missing in
    c.refused.ensures ∙ stops Apart [] (sym (sym (answer d k.count) ∙ hit))

pub loop-w-preserved : goal.loop-w-preserved
loop-w-preserved c =
    let v = c.args.v in
    (omega arith, λ d k. lowest_miss (Missing d v) v c.loop-w.w (omega arith) (c.loop-w.invariant.1 d k) (here-2 c (ap not c.if-not-is_set.false) d k))

pub returns : goal.returns
returns c =
    let v = c.args.v in
    λ d k.
    let none = lowest-end (Missing d v) v c.loop-w.w (omega arith) (c.loop-w.invariant.1 d k) in
    clear ∙ passes Apart [] (sym (sym (answer d k.count) ∙ none))
