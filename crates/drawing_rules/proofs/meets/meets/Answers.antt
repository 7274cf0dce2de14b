-- `drawing_rules::meets::meets`: the loop keeps that what is left to mark makes the whole of what is marked.
use mathlib.Core.Path.{◌∙◌, ap, subst, sym}
use native.Mathlib.Omega.{arith}
use Rattle.sets.specs.Sets.{wides}
use Rattle.paper.specs.Drawing.{wire}
use Rattle.drawing_segments.specs.declared.Both.{Both}
use Rattle.fast_meets.specs.Pairs.{mark, meet_at, pair_marked}
use Rattle.fast_meets.proofs.Steps.{rest_end, rest_start, rest_turn}
use Rattle.drawing_links.proofs.Edges.{edge_count, half_count}
use Rattle.drawing_rules.proofs.meets.meets.Goals as goal

-- ---- the needs

pub loop-f-init : goal.loop-f-init
unfolding wire
loop-f-init c =
    let q = c.requires.edges.lists.links in
    let d = wire c.args.xyz.now c.args.ends.now in
    record {
      not_past = omega (arith, c.requires.e_in);
      whole = half_count q ∙ sym (edge_count q);
      left = λ w i. (w, i, rest_start d c.args.e w);
    }

pub pair-requires : goal.pair-requires
pair-requires c =
    let p = c.requires in
    record { edges = p.edges; pair = record { e_in = p.e_in; f_in = omega arith } }

pub mark_both-met-requires : goal.mark_both-met-requires
mark_both-met-requires c =
    let p = c.requires in
    record {
      e_low = omega (arith, p.e_in, p.edges.lists.links.whole, p.edges.lists.links.most);
      f_low = omega (arith, p.edges.lists.links.whole, p.edges.lists.links.most);
    }

pub loop-f-preserved : goal.loop-f-preserved
unfolding pair_marked
loop-f-preserved c =
    let a = c.args in
    let d = wire a.xyz.now a.ends.now in
    record {
      not_past = omega arith;
      whole = c.loop-f.invariant.whole;
      left = λ w i.
          let r = c.loop-f.invariant.left w i in
          let u = r.0 in
          let marked = ap (λ (b : Both). mark b.second c.loop-f.f (mark b.first a.e u)) c.pair.ensures in (
            pair_marked (meet_at d) a.e c.loop-f.f u,
            subst (wides.Is c.mark_both-met.result) marked (c.mark_both-met.ensures u r.1),
            r.2 ∙ rest_turn d a.e c.loop-f.f u (omega (arith, c.loop-f.invariant.whole)),
          );
    }

pub returns : goal.returns
returns c = λ w i.
    let l = c.loop-f in
    let d = wire c.args.xyz.now c.args.ends.now in
    let r = l.invariant.left w i in
    subst (wides.Is l.met) (sym (r.2 ∙ rest_end d c.args.e l.f r.0 (omega (arith, l.invariant.whole)))) r.1
