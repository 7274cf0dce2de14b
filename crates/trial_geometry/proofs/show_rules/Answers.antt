-- trial_geometry/proofs/show_rules/Answers.antt
-- `trial_geometry::show_rules`: lists that pass 3 to 10 and then 11 to 14 have passed.
use Rattle.drawing_lists.proofs.Range.{lent_range}
use Rattle.drawing_links.proofs.Range.{few_ends}
use Rattle.loop_known.proofs.Passed.{has-passed, rising_ends}
use Rattle.trial_geometry.proofs.show_rules.Goals as goal

pub neighbours-near-requires : goal.neighbours-near-requires
neighbours-near-requires c = few_ends (lent_range _ _ c.requires)

pub drawing_rules-requires : goal.drawing_rules-requires
drawing_rules-requires c = record { range = lent_range _ _ c.requires; near_are = c.neighbours-near.ensures }

pub number_edges-number-requires : goal.number_edges-number-requires
number_edges-number-requires c = rising_ends (has-passed _ _ c.requires c.in-Ok.ensures)

pub show_covers-requires : goal.show_covers-requires
show_covers-requires c = record {
  passed = has-passed _ _ c.requires c.in-Ok.ensures;
  near_are = c.neighbours-near.ensures;
  numbered = c.number_edges-number.ensures;
}
