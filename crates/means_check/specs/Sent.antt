-- A solid's faces, as they are sent in a face list.
use Rattle.std.specs.Prelude.{Bool, List, map, length}
use Rattle.lists.specs.Lists.{filter, upto}
use Rattle.sets.specs.Word.{dig}
use Rattle.paper.specs.Drawing.{Wire}
use Rattle.paper.specs.Loops.{Loop}
use Rattle.means_solid.specs.Named.{directed}

-- a solid's faces in their directions, in candidate order and as their normal forms start
unfoldable pub face_list : Wire → List Loop → List Bool → List Bool → List Loop
face_list d cs taken turned = map (directed d cs taken turned) (filter (dig taken) (upto (length cs)))
