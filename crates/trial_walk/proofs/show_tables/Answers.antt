-- trial_walk/proofs/show_tables/Answers.antt
-- `trial_walk::show_tables`: the rooms are empty.
use Rattle.std.proofs.Common.{refl}
use Rattle.walk_input.proofs.Given.{clear-rooms}
use Rattle.trial_walk.proofs.show_tables.Goals as goal

pub tables-tabled-requires : goal.tables-tabled-requires
tables-tabled-requires c = clear-rooms c.requires refl
