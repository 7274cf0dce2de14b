-- The rooms of the candidates keep their sizes.
use mathlib.Core.List.{List}
use mathlib.Core.Path.{◌≡◌, ◌∙◌}
use Prim.Native.Nat.{ℕ, ◌≤◌}
use native.Mathlib.Omega.{arith}
use lib.ListN.{length, take, length-take}
use Rattle.paper.specs.Numbers.{most_candidates, face_room}
use Rattle.paper.specs.Drawing.{Wire}
use Rattle.paper.specs.Loops.{Loop, candidates}
use Rattle.fast_tables.specs.Hits.{corner_mask, side_mask}
use Rattle.loop_table.proofs.Rows.{rows-kept, short_take}
use Rattle.loop_table.proofs.Words.{words_kept}
use Rattle.loop_table.proofs.Loops.{candidates_of_lem}
use Rattle.candidates.specs.Keeps.{Kept}

module _ {d : Wire} {r : ℕ} {rows₀ rows corners₀ corners sides₀ sides : List ℕ}
    (k : Kept d r rows₀ rows corners₀ corners sides₀ sides) where
  abbrev held : List Loop
  held = take most_candidates (candidates d)

  few : length held ≤ most_candidates
  few = omega (arith, length-take most_candidates (candidates d))

  pub rows_long : length rows₀ ≡ face_room → length rows ≡ face_room
  rows_long h =
      rows-kept held (short_take most_candidates (candidates d) (candidates_of_lem d).short) rows rows₀ (omega (arith, h, few)) k.rows_are ∙ h

  pub corners_long : length corners₀ ≡ most_candidates → length corners ≡ most_candidates
  corners_long h = words_kept (corner_mask d) held corners corners₀ (omega (arith, h, few)) k.corners_are ∙ h

  pub sides_long : length sides₀ ≡ most_candidates → length sides ≡ most_candidates
  sides_long h = words_kept (side_mask d) held sides sides₀ (omega (arith, h, few)) k.sides_are ∙ h
