-- `faces_writer::write::put_corners`: the loop keeps that the first j corners stand in their fields.
use mathlib.Core.Path.{◌≡◌}
use mathlib.Core.List.{List}
use Prim.Native.Nat.{ℕ, ◌≤◌}
use lib.ListN.{length, take}
use Rattle.pack.specs.Bits.{run, Put}
use Rattle.faces_writer.specs.Send.{corners_at, way}
use Rattle.faces_writer.proofs.write.put_corners.Given as goal

-- j of the corners vs are written: room has become last
pub record Filling (vs room : List ℕ) (b w c : ℕ) (last : List ℕ) (j : ℕ) : Type 0 where
  pub reached : j ≤ c
  pub put : Put room last b (run w (take j vs))
  pub kept : length last ≡ length room

abbrev pub invariant-loop-j : goal.invariant-loop-j
invariant-loop-j l = Filling (way l.back (corners_at l.rows l.i l.c)) l.initial.room l.b l.w l.c l.room l.j
