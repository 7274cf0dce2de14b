-- `walk_input::words::put_words`: each maker asks for what is known of the candidates and what the makers before it made.
use mathlib.Core.Path.{refl}
use Rattle.walk_input.proofs.Listing.{all_same, as_edges, as_corners, as_faces, as_clashes}
use Rattle.paper.specs.Numbers.{most_vertices}
use Rattle.walk_input.proofs.words.put_words.Goals as goal

-- ---- the needs

pub edge_words-requires : goal.edge_words-requires
edge_words-requires c =
    let p = c.requires in
    record { candidates = as_edges p.all; on_clear = p.rooms.on_clear; up_clear = p.rooms.up_clear }

pub vertex_words-requires : goal.vertex_words-requires
vertex_words-requires c = record { of = as_corners c.requires.all; whole = refl; none = all_same 0 most_vertices }

pub put_parts-requires : goal.put_parts-requires
put_parts-requires c =
    let p = c.requires in
    record { faces = as_faces p.all; normal_room = refl; six_room = p.rooms.six_room }

pub clash_words-requires : goal.clash_words-requires
clash_words-requires c =
    let p = c.requires in
    record {
      lent = as_clashes p.all c.edge_words.ensures c.vertex_words.ensures c.put_parts.ensures;
      whole = p.rooms.clash_room;
      none = p.rooms.no_clash;
    }

pub returns : goal.returns
returns c w =
    let e = c.edge_words.ensures in
    let p = c.put_parts.ensures (as_faces w) in
    record {
      on_are = (e (as_edges w)).on_are;
      up_are = (e (as_edges w)).up_are;
      clashes_are = c.clash_words.ensures (as_clashes w e c.vertex_words.ensures c.put_parts.ensures);
      sixes_are = p.sixes_are;
      later = p.later;
    }
