-- `drawing_links::vertices_reached`: the loop keeps that the set is what k steps reach, and a step that adds nothing ends them all.
use Rattle.drawing_links.specs.Reach.{Grown}
use mathlib.Core.Bool.{false}
use mathlib.Core.Path.{◌∙◌, ◌≡◌, ap, sym}
use Prim.Native.Nat.{ℕ}
use native.Mathlib.Numerals.{add-one}
use native.Mathlib.Omega.{arith}
use lib.ListN.{get_or}
use Rattle.paper.specs.Drawing.{vertices_reached}
use Rattle.sets.specs.Word.{digit}
use Rattle.drawing_links.proofs.Reach.{reach_more, reach_rest, reach_start}
use Rattle.drawing_links.proofs.vertices_reached.Goals as goal

pub loop-k-init : goal.loop-k-init
loop-k-init c = (omega arith, λ d l. reach_start d _ l.count)

pub returns-then-more-set : goal.returns-then-more-set
returns-then-more-set c =
    let v = c.args.v in
    λ d l.
    let still : Grown c.loop-k.set v d c.loop-k.set =
    λ w. ap (λ (m : ℕ). digit m w) (sym c.if-more-set.true) ∙ c.further-more.ensures d l w in
    reach_rest d v l.count c.loop-k.set c.loop-k.k (omega arith) (c.loop-k.invariant.1 d l) still

pub loop-k-preserved : goal.loop-k-preserved
unfolding vertices_reached
loop-k-preserved c =
    let f = c.further-more in
    let v = c.args.v in (
      omega arith,
      λ d l w h.
          let one = reach_more d v l.count c.loop-k.set f.result (vertices_reached d c.loop-k.k) (c.loop-k.invariant.1 d l) (f.ensures d l) in
          one w h ∙ ap (λ (n : ℕ). get_or (vertices_reached d n) w false) (sym (add-one c.loop-k.k)),
    )

pub returns : goal.returns
returns c =
    let p = c.loop-k in
    let e : p.k ≡ c.args.v = omega arith in
    λ d l w h. p.invariant.1 d l w h ∙ ap (λ (n : ℕ). get_or (vertices_reached d n) w false) e
