-- A place on a way, in the flat.
use Rattle.std.specs.Prelude.{ℤ, ◌+ℤ◌, ◌*ℤ◌}
use Rattle.paper.specs.declared.Flat.{Flat}

-- s / m of the direction w further than p, times m
abbrev pub ahead_by : Flat → Flat → ℤ → ℤ → Flat
ahead_by p w s m = record { u = m *ℤ p.u +ℤ s *ℤ w.u; v = m *ℤ p.v +ℤ s *ℤ w.v }
