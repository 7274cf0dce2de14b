-- `drawing_rules::places::same_place`: the loop keeps that what is left to search holds the whole answer.
use mathlib.Core.List.{[]}
use mathlib.Core.Bool.{Bool}
use mathlib.Core.Path.{◌∙◌, ◌≡◌, ap, sym}
use native.Mathlib.Omega.{arith}
use Rattle.lists.proofs.Search.{lowest-end, lowest_hit, lowest_miss, lowest_start}
use Rattle.lists.specs.Lists.{lowest}
use Rattle.paper_laws.proofs.Checks.{clear, stops, passes}
use Rattle.paper.specs.Drawing.{Wire, points_of}
use Rattle.paper.specs.Refusals.{SamePlace}
use Rattle.fast_meets.specs.Theorems.{later_at}
use Rattle.fast_meets.proofs.Later.{later_tell}
use Rattle.drawing_rules.proofs.Sharing.{drawn_count, shared_is}
use Rattle.drawing_rules.proofs.places.same_place.Goals as goal

-- the code's test of vertex u
here : (c : goal.After-refused) {b : Bool} → c.shares.result ≡ b
    → (d : Wire) → d.vertices ≡ points_of c.args.xyz.now → later_at d c.loop-u.u ≡ b
here c e d k =
    sym (c.shares.ensures ∙ shared_is c.requires d k c.loop-u.u (omega arith)) ∙ e

here-2 : (c : goal.Else-shares) {b : Bool} → c.shares.result ≡ b
    → (d : Wire) → d.vertices ≡ points_of c.args.xyz.now → later_at d c.loop-u.u ≡ b
here-2 c e d k =
    sym (c.shares.ensures ∙ shared_is c.requires d k c.loop-u.u (omega arith)) ∙ e

-- ---- the needs

pub loop-u-init : goal.loop-u-init
loop-u-init c = (omega arith, λ d k. lowest_start (later_at d) _)

pub shares-requires : goal.shares-requires
shares-requires c = record { points = c.requires; u_in = omega arith }

pub returns-then-shares : goal.returns-then-shares
returns-then-shares c =
    λ d k.
    let same = here c c.if-shares.true d k in
    let hit = lowest_hit (later_at d) c.args.v c.loop-u.u (omega arith) (c.loop-u.invariant.1 d k) same in
    c.refused.ensures ∙ stops SamePlace [] (sym (later_tell d ∙ ap (lowest (later_at d)) (drawn_count c.requires d k) ∙ hit))

pub loop-u-preserved : goal.loop-u-preserved
loop-u-preserved c =
    let v = c.args.v in
    (omega arith, λ d k. lowest_miss (later_at d) v c.loop-u.u (omega arith) (c.loop-u.invariant.1 d k) (here-2 c c.if-shares.false d k))

pub returns : goal.returns
returns c =
    let l = c.loop-u in
    λ d k.
    let none = lowest-end (later_at d) c.args.v l.u (omega arith) (l.invariant.1 d k) in
    clear ∙ passes SamePlace [] (sym (later_tell d ∙ ap (lowest (later_at d)) (drawn_count c.requires d k) ∙ none))
