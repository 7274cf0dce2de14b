-- `loop_cover::covers_other`: the loop keeps that what the loops from j on say is the answer.
use mathlib.Core.Path.{subst, sym, ◌∙◌}
use Prim.Native.Nat.{◌+◌, ◌<◌}
use native.Mathlib.Omega.{arith}
use Rattle.loop_cover.specs.declared.Asked.{Asked}
use Rattle.loop_cover.proofs.Covering.{row, side_set, fits_is, asks}
use Rattle.loop_cover.proofs.Covering.{Searching, searching_start, searching_skip, searching_hit, searching_miss, searching_end}
use Rattle.loop_cover.proofs.covers_other.Goals as goal
use Rattle.loop_cover.proofs.covers_other.Goals.{then-fits+else-t, else-fits}

-- ---- the needs

pub normal-m-requires : goal.normal-m-requires
normal-m-requires c = row c.requires

pub at-plane-requires : goal.at-plane-requires
at-plane-requires c = let p = c.requires in omega (arith, p.there, p.loops_known.most)

pub at-own-requires : goal.at-own-requires
at-own-requires c = let p = c.requires in omega (arith, p.there, p.loops_known.most)

pub loop-j-init : goal.loop-j-init
loop-j-init c = (omega arith, λ q. searching_start q (side_set q _ q.there c.at-own.ensures).is c.none.ensures)

pub fits-requires : goal.fits-requires
fits-requires c = let p = c.requires in omega (arith, p.loops_known.most)

pub at-edges-requires : goal.at-edges-requires
at-edges-requires c = let p = c.requires in omega (arith, p.loops_known.most)

pub try_edges-t-requires : goal.try_edges-t-requires
try_edges-t-requires c =
    let p = c.requires in
    asks p c.loop-j.j (omega arith) (c.loop-j.invariant.1 p) _ c.normal-m.ensures c.at-edges.ensures

pub returns-then-t : goal.returns-then-t
returns-then-t c =
    let p = c.requires in
    let j = c.loop-j.j in
    let h : j < c.args.n = omega arith in
    let fit = sym (fits_is p j h c.at-plane.ensures c.fits.ensures) ∙ c.if-fits.true in
    searching_hit p j h (c.loop-j.invariant.1 p) fit c.at-edges.ensures c.try_edges-t.ensures c.if-t.true

pub loop-j-preserved : goal.loop-j-preserved
loop-j-preserved c =
    let j = c.loop-j.j in
    let h : j < c.args.n = omega arith in (
      omega arith,
      λ q.
          let test = sym (fits_is q j h c.at-plane.ensures c.fits.ensures) in
          let s = c.loop-j.invariant.1 q in
          elim c.if-fits.branch [
            | then-fits+else-t t ↦
                subst (λ (f : Asked). Searching q f (j + 1)) (sym t.f-is)
                (searching_miss q j h s (test ∙ t.if-fits.true) t.at-edges.ensures t.try_edges-t.ensures t.if-t.false)
            | else-fits t ↦ subst (λ (f : Asked). Searching q f (j + 1)) (sym t.f-is) (searching_skip q j h s (test ∙ t.if-fits.false))
          ],
    )

pub returns : goal.returns
returns c =
    let p = c.requires in
    searching_end p c.loop-j.j (omega arith) (c.loop-j.invariant.1 p)
