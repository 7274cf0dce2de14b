-- The room of the rows that a face list is read into.
use Rattle.std.specs.Prelude.{ℕ, ◌*◌}
use Rattle.paper.specs.Numbers.{most_faces, row_bytes}

-- the bytes of the rows that a face list by value has
abbrev pub all_rows : ℕ
all_rows = row_bytes * most_faces
