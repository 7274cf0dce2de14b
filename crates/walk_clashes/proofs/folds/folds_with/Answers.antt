-- `walk_clashes::folds::folds_with`: each of the three tests, and rule C where all pass.
use native.Mathlib.Omega.{arith}
use Rattle.walk_clashes.proofs.Rows.{row-at}
use Rattle.walk_clashes.proofs.Sharing.{face-read, first_low, share_less, three-less, folds_are}
use Rattle.walk_clashes.proofs.folds.folds_with.Goals as goal

-- ---- the needs

pub returns-then-not-may_fold : goal.returns-then-not-may_fold
returns-then-not-may_fold c w =
    share_less w c.at.ensures c.at-2.ensures c.and-shared.ensures
    c.at-3.ensures
    c.at-4.ensures c.and-common.ensures c.may_fold.ensures (c.if-not-may_fold.true)

pub count-requires : goal.count-requires
count-requires c = let p = c.requires in (row-at p.lent.faces _ p.there).room

pub returns-then-count-le-LEAST_CORNERS : goal.returns-then-count-le-LEAST_CORNERS
returns-then-count-le-LEAST_CORNERS c w = three-less w (omega (arith, c.count.ensures, c.if-count-le-LEAST_CORNERS.true))

pub point_at-requires : goal.point_at-requires
point_at-requires c =
    let p = c.requires in
    omega (arith, first_low p, p.lent.faces.most, p.lent.normals_are.whole)

pub point_at-requires-2 : goal.point_at-requires-2
point_at-requires-2 c =
    let p = c.requires in
    omega (arith, p.there, p.lent.faces.most, p.lent.normals_are.whole)

pub folds-requires : goal.folds-requires
folds-requires c =
    let p = c.requires in
    record {
      f_face = face-read p.lent _ (first_low p) c.point_at.ensures;
      g_face = face-read p.lent _ p.there
          c.point_at-2.ensures;
    }

pub returns : goal.returns
returns c w =
    folds_are w c.at.ensures c.at-2.ensures c.and-shared.ensures
    c.at-3.ensures
    c.at-4.ensures c.and-common.ensures c.may_fold.ensures (c.if-not-may_fold.false)
    (omega (arith, c.count.ensures, c.if-count-le-LEAST_CORNERS.false))
    c.folds.ensures
