-- From what the search and the words of loops ensure to what is known of the loops.
use mathlib.Core.Bool.{Bool}
use mathlib.Core.List.{List}
use mathlib.Core.Path.{◌≡◌, refl, ap, ◌∙◌}
use Prim.Native.Nat.{ℕ, ◌*◌, ◌/◌, ◌≤◌, ◌<◌}
use native.Mathlib.Omega.{arith}
use lib.IntN.{ℤ}
use lib.ListN.{length, take, length-take}
use lib.Seq.{take_all}
use Rattle.paper.specs.Numbers.{most_vertices, most_loops, row_bytes}
use Rattle.paper.specs.Drawing.{Wire, wire}
use Rattle.paper.specs.Loops.{Loop, loops}
use Rattle.paper_laws.specs.InRange.{Points}
use Rattle.fast_search.specs.Search.{plane_of}
use Rattle.fast_tables.specs.Hits.{corner_mask, side_mask}
use Rattle.loop_table.specs.Tables.{rows_after, words_after, HoldsRows}
use Rattle.loop_table.proofs.Rows.{rows_held, rows-kept, short_take}
use Rattle.loop_table.proofs.Words.{words-held, words_kept}
use Rattle.loop_table.proofs.Loops.{loops_of, vertices_are, edges_are}
use Rattle.loop_search.specs.Rooms.{Found}
use Rattle.loop_search.specs.Starts.{ClearDrawing}
use Rattle.loop_words.specs.Drawn.{DrawnTable, LoopWords}
use Rattle.loop_known.specs.Known.{DrawnBy, RoomyTables, LoopsKnown}

module _ {xyz : List ℤ} {ends near number : List ℕ} (a : DrawnBy xyz ends near number) where
  abbrev d : Wire
  d = wire xyz ends

  abbrev v : ℕ
  v = length xyz / 3

  vertices : a.passed.range.vertices ≡ v
  vertices = omega (arith, a.passed.range.points.whole)

  pub points_in_lem : Points xyz v
  points_in_lem = record { whole = omega (arith, a.passed.range.points.whole, vertices); near = a.passed.range.points.near }

  pub few_vertices_lem : v ≤ most_vertices
  few_vertices_lem = omega (arith, a.passed.range.most, vertices)

  -- the drawing as the search and the words ask for it
  pub clear : ClearDrawing d xyz v near
  unfolding wire
  clear = record { vertices_are = refl; words_are = a.near_are; places = a.passed.places; meets = a.passed.clear }

  module _ {table₀ planes₀ corners₀ sides₀ table planes : List ℕ} (room : RoomyTables table₀ planes₀ corners₀ sides₀) {r : ℕ}
      (f : Found d table₀ planes₀ table planes r) where
    -- what the search leaves of the rooms
    abbrev held : List Loop
    held = take most_loops (loops d)

    held_few : length held ≤ most_loops
    held_few = omega (arith, length-take most_loops (loops d))

    table_long : length table ≡ row_bytes * most_loops
    table_long =
        rows-kept held (short_take most_loops (loops d) (loops_of d).short) table table₀ (omega (arith, room.table_long, held_few)) f.table_is
        ∙ room.table_long

    planes_long : length planes ≡ most_loops
    planes_long = words_kept (plane_of d) held planes planes₀ (omega (arith, room.planes_long, held_few)) f.planes_is ∙ room.planes_long

    pub too_many : most_loops < r → LoopsKnown xyz ends r table planes corners₀ sides₀
    too_many h = record {
      count = f.count_is;
      roomy = record {
        table_long = table_long;
        planes_long = planes_long;
        corners_long = room.corners_long;
        sides_long = room.sides_long;
      };
      known = λ k. absurd (omega arith);
    }

    module _ (few : r ≤ most_loops) where
      all_held : take most_loops (loops d) ≡ loops d
      all_held = take_all most_loops (loops d) (omega (arith, f.count_is))

      rows : HoldsRows table (loops d)
      rows = rows_held (loops d) (loops_of d).short table table₀ (f.table_is ∙ ap (λ (ls : List Loop). rows_after ls table₀) all_held)

      pub drawn : DrawnTable table r number
      unfolding wire
      drawn = record {
        drawing = d;
        small = record {
          vertices = omega (arith, vertices_are a.passed.range, a.passed.range.most);
          edges = omega (arith, edges_are a.passed.range, a.passed.range.links.most);
          numbered = a.numbered;
        };
        loops = loops d;
        of = loops_of d;
        held = rows;
        count = omega (arith, f.count_is);
        most = few;
      }

      word_long : (mask : Loop → List Bool) (words₀ words : List ℕ) → length words₀ ≡ most_loops → words ≡ words_after mask (loops d) words₀
          → length words ≡ most_loops
      word_long mask words₀ words h e = words_kept mask (loops d) words words₀ (omega (arith, h, f.count_is)) e ∙ h

      pub all_known : (corners sides : List ℕ) → LoopWords drawn corners₀ corners sides₀ sides
          → LoopsKnown xyz ends r table planes corners sides
      unfolding wire drawn loops
      all_known corners sides w = record {
        count = f.count_is;
        roomy = record {
          table_long = table_long;
          planes_long = planes_long;
          corners_long = word_long (corner_mask d) corners₀ corners room.corners_long w.corners_are;
          sides_long = word_long (side_mask d) sides₀ sides room.sides_long w.sides_are;
        };
        known = λ k. record {
          passed = a.passed;
          count = omega (arith, f.count_is);
          most = few;
          rows = rows;
          corners_are = words-held (corner_mask d) (loops d) corners corners₀ w.corners_are;
          sides_are = words-held (side_mask d) (loops d) sides sides₀ w.sides_are;
          planes_are =
              words-held (plane_of d) (loops d) planes planes₀
              (f.planes_is ∙ ap (λ (ls : List Loop). words_after (plane_of d) ls planes₀) all_held);
        };
      }
