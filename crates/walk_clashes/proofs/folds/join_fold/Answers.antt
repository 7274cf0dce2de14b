-- `walk_clashes::folds::join_fold`: j passes or fails.
use mathlib.Core.Bool.{Bool, not, ◌&&◌, and-false}
use mathlib.Core.Path.{sym, ap, ◌∙◌}
use native.Mathlib.Omega.{arith}
use Rattle.sets.specs.Word.{dig}
use Rattle.walk_clashes.specs.Faces.{drawing_of}
use Rattle.walk_clashes.specs.Folds.{folds_after}
use Rattle.walk_clashes.proofs.Sorting.{upto_with, upto-same}
use Rattle.walk_clashes.proofs.folds.join_fold.Goals as goal

pub has-requires : goal.has-requires
has-requires c = let p = c.requires in omega (arith, p.there, p.lent.faces.most)

pub returns-then-has : goal.returns-then-has
returns-then-has c w s i =
    let a = c.args in
    let t = folds_after (drawing_of w.lent.faces) w.lent.faces.loops a.g a.j in
    upto-same _ a.j (ap (λ (b : Bool). t && not b) (sym (c.has.ensures s i) ∙ c.if-has.true) ∙ and-false t)

pub returns-then-not-folds_with : goal.returns-then-not-folds_with
returns-then-not-folds_with c w s i =
    let a = c.args in
    let e = sym (c.folds_with.ensures w) ∙ c.if-not-folds_with.true in
    upto-same _ a.j (ap (λ (b : Bool). b && not (dig s a.j)) e)

pub with-requires : goal.with-requires
with-requires c = let p = c.requires in omega (arith, p.there, p.lent.faces.most)

pub returns : goal.returns
returns c w s i =
    let a = c.args in
    let x = sym (c.folds_with.ensures w) ∙ c.if-not-folds_with.false in
    let y = sym (c.has.ensures s i) ∙ c.if-has.false in
    upto_with _ a.j (λ t. x t && not (y t)) c.with.ensures
