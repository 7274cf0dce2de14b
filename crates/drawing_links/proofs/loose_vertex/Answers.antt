-- `drawing_links::loose_vertex`: the loop keeps that what is left to search holds the whole answer.
use mathlib.Core.List.{[]}
use mathlib.Core.Path.{◌∙◌, ap, sym}
use native.Mathlib.Omega.{arith}
use borrow.Author.Tests.{eq-eqb, ne_eqb}
use Rattle.lists.proofs.Search.{lowest-end, lowest_hit, lowest_miss, lowest_start}
use Rattle.lists.specs.Lists.{lowest}
use Rattle.paper_laws.proofs.Checks.{clear, stops, passes}
use Rattle.paper.specs.Drawing.{loose_vertex}
use Rattle.paper.specs.Refusals.{LooseVertex}
use Rattle.drawing_links.proofs.Words.{loose_is}
use Rattle.drawing_links.proofs.loose_vertex.Invariants.{Loose}
use Rattle.drawing_links.proofs.loose_vertex.Goals as goal

pub loop-u-init : goal.loop-u-init
loop-u-init c = (omega arith, λ d k. lowest_start (Loose d) _)

pub returns-then-near-u-eq0 : goal.returns-then-near-u-eq0
unfolding loose_vertex
returns-then-near-u-eq0 c =
    let v = c.args.v in
    λ d k.
    let loose = sym (loose_is k c.loop-u.u (omega arith)) ∙ eq-eqb _ 0 c.if-near-u-eq0.true in
    let hit = lowest_hit (Loose d) v c.loop-u.u (omega arith) (c.loop-u.invariant.1 d k) loose in
    c.refused.ensures ∙ stops LooseVertex [] (sym (ap (lowest (Loose d)) k.count ∙ hit))

pub loop-u-preserved : goal.loop-u-preserved
loop-u-preserved c =
    let v = c.args.v in (
      omega arith,
      λ d k.
          let linked = sym (loose_is k c.loop-u.u (omega arith)) ∙ ne_eqb _ 0 c.if-near-u-eq0.false in
          lowest_miss (Loose d) v c.loop-u.u (omega arith) (c.loop-u.invariant.1 d k) linked,
    )

pub returns : goal.returns
unfolding loose_vertex
returns c =
    let l = c.loop-u in
    let v = c.args.v in
    λ d k.
    let none = lowest-end (Loose d) v l.u (omega arith) (l.invariant.1 d k) in
    clear ∙ passes LooseVertex [] (sym (ap (lowest (Loose d)) k.count ∙ none))
