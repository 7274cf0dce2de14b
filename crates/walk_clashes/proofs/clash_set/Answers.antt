-- `walk_clashes::clash_set`: rules A and B, and rule C of those that are left.
use Rattle.walk_clashes.proofs.Clashing.{hit_lent, fold_lent}
use Rattle.walk_clashes.proofs.clash_set.Goals as goal

pub hit_set-through-requires : goal.hit_set-through-requires
hit_set-through-requires c = let p = c.requires in hit_lent p.lent _ p.there

pub fold_set-folding-requires : goal.fold_set-folding-requires
fold_set-folding-requires c = let p = c.requires in record { lent = fold_lent p.lent; there = p.there }

pub returns : goal.returns
returns c w s i =
    let through = c.hit_set-through.ensures (hit_lent w _ c.requires.there) in
    c.or-2.ensures _ _ through (c.fold_set-folding.ensures (fold_lent w) _ (c.or.ensures _ _ i through))
