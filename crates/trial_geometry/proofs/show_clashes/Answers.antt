-- trial_geometry/proofs/show_clashes/Answers.antt
-- `trial_geometry::show_clashes`: the rooms are empty.
use Rattle.std.proofs.Common.{refl}
use Rattle.walk_input.proofs.Given.{clear-rooms}
use Rattle.trial_geometry.proofs.show_clashes.Goals as goal

pub tables-tabled-requires : goal.tables-tabled-requires
tables-tabled-requires c = clear-rooms c.requires refl
