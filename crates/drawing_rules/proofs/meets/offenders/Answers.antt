-- `drawing_rules::meets::offenders`: the loop keeps that what is left to mark makes the whole of what is marked.
use mathlib.Core.List.{[]}
use mathlib.Core.Path.{◌∙◌, subst, sym}
use native.Mathlib.Omega.{arith}
use Rattle.sets.specs.Sets.{wides}
use Rattle.paper.specs.Drawing.{wire}
use Rattle.fast_meets.specs.Pairs.{later_marked}
use Rattle.fast_meets.proofs.Steps.{pairs_end, pairs_start, pairs_turn}
use Rattle.drawing_links.proofs.Edges.{edge_count, half_count}
use Rattle.drawing_rules.proofs.meets.offenders.Goals as goal

-- ---- the needs

pub loop-e-init : goal.loop-e-init
unfolding wire
loop-e-init c =
    let q = c.requires.lists.links in
    let d = wire c.args.xyz.now c.args.ends.now in
    record { not_past = omega arith; whole = half_count q ∙ sym (edge_count q); left = ([], c.none-hit.ensures, pairs_start d) }

pub meets-hit-requires : goal.meets-hit-requires
meets-hit-requires c = record { edges = c.requires; e_in = omega arith }

pub loop-e-preserved : goal.loop-e-preserved
loop-e-preserved c =
    let a = c.args in
    let d = wire a.xyz.now a.ends.now in
    let r = c.loop-e.invariant.left in
    record {
      not_past = omega arith;
      whole = c.loop-e.invariant.whole;
      left =
          (later_marked d c.loop-e.e r.0, c.meets-hit.ensures r.0 r.1, r.2 ∙ pairs_turn d c.loop-e.e r.0 (omega (arith, c.loop-e.invariant.whole)));
    }

pub returns : goal.returns
returns c =
    let l = c.loop-e in
    let a = c.args in
    let d = wire a.xyz.now a.ends.now in
    let r = l.invariant.left in
    subst (wides.Is l.hit) (sym (r.2 ∙ pairs_end d l.e r.0 (omega (arith, l.invariant.whole)))) r.1
