-- `walk_clashes::marks::mark_all`: the loop keeps that the words of those that went out are marked.
use Rattle.walk_clashes.proofs.Marking.{marking_start, marking_low, marking_next, marking_end}
use Rattle.walk_clashes.proofs.marks.mark_all.Goals as goal

pub loop-j-init : goal.loop-j-init
loop-j-init c = let a = c.args in marking_start a.set a.k a.words.now

pub mark-requires : goal.mark-requires
mark-requires c =
    let a = c.args in
    (marking_low a.set a.k a.words.now c.loop-j.invariant c.in-Some.ensures c.requires, c.requires.few)

pub loop-j-preserved : goal.loop-j-preserved
loop-j-preserved c =
    let a = c.args in
    marking_next a.set a.k a.words.now c.loop-j.invariant c.in-Some.ensures c.mark.auto.words c.mark.ensures

pub shape_of-words : goal.shape_of-words
shape_of-words c = c.loop-j.invariant.long

pub returns : goal.returns
returns c = let a = c.args in marking_end a.set a.k a.words.now c.loop-j.invariant c.in_default.ensures.0
