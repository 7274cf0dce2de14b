-- `walk_clashes::folds::fold_set`: the loop keeps that the set has those before j that pass.
use mathlib.Core.Path.{◌≡◌, subst}
use Prim.Native.Nat.{ℕ, ◌<◌}
use native.Mathlib.Omega.{arith}
use Rattle.walk_clashes.specs.Sorted.{Upto}
use Rattle.walk_clashes.specs.Folds.{FoldLent, PairLent}
use Rattle.walk_clashes.proofs.Rows.{row-at}
use Rattle.walk_clashes.proofs.Sharing.{Passes, pass-start, pass-none, pass_all}
use Rattle.walk_clashes.proofs.folds.fold_set.Goals as goal

-- candidates g and j, of what may be lent
abbrev FoldAt : goal.In-loop-j → Type 0
FoldAt c =
    let a = c.args in
    FoldLent a.xyz.now a.rows.now a.corners.now a.sides.now a.normals.now a.n

pair : (c : goal.In-loop-j) → FoldAt c → c.args.g < c.loop-j.j
    → let a = c.args in
    PairLent a.xyz.now a.rows.now a.corners.now a.sides.now a.normals.now a.g c.loop-j.j
pair c w h =
    record {
      n = c.args.n;
      lent = w;
      after = h;
      there = c.loop-j-test.true;
      long = omega (arith, c.count.ensures, c.if-count-le-LEAST_CORNERS.false);
    }

abbrev FoldAt-2 : goal.After-join_fold-found → Type 0
FoldAt-2 c =
    let a = c.args in
    FoldLent a.xyz.now a.rows.now a.corners.now a.sides.now a.normals.now a.n

pair-2 : (c : goal.After-join_fold-found) → FoldAt-2 c → c.args.g < c.loop-j.j
    → let a = c.args in
    PairLent a.xyz.now a.rows.now a.corners.now a.sides.now a.normals.now a.g c.loop-j.j
pair-2 c w h =
    record {
      n = c.args.n;
      lent = w;
      after = h;
      there = c.loop-j-test.true;
      long = omega (arith, c.count.ensures, c.if-count-le-LEAST_CORNERS.false);
    }

-- ---- the needs

pub count-requires : goal.count-requires
count-requires c = let p = c.requires in (row-at p.lent.faces _ p.there).room

pub returns-then-count-le-LEAST_CORNERS : goal.returns-then-count-le-LEAST_CORNERS
returns-then-count-le-LEAST_CORNERS c w s i =
    let p = c.requires in
    pass_all w c.args.g s (pass-none w _ s p.there (omega (arith, c.count.ensures, c.if-count-le-LEAST_CORNERS.true)) c.none-found.ensures)

pub loop-j-init : goal.loop-j-init
loop-j-init c w =
    record {
      after = omega arith;
      not_past = omega (arith, c.requires.there);
      passed = λ s i. pass-start w c.args.g s c.none-found.ensures;
    }

pub join_fold-found-requires : goal.join_fold-found-requires
join_fold-found-requires c = let w = c.requires.lent in pair c w (c.loop-j.invariant w).after

pub loop-j-preserved : goal.loop-j-preserved
unfolding pair-2
loop-j-preserved c w =
    let o = c.loop-j.invariant w in
    record {
      after = omega (arith, o.after);
      not_past = omega arith;
      passed = λ s i. c.join_fold-found.ensures (pair-2 c w o.after) s i (o.passed s i);
    }

pub returns : goal.returns
returns c w s i =
    let l = c.loop-j in
    let o = l.invariant w in
    let a = c.args in
    let e : l.j ≡ a.n = omega (arith, o.not_past, c.loop-j-test.false) in
    pass_all w a.g s (subst (λ (k : ℕ). Upto (Passes w a.g s) k l.found) e (o.passed s i))
