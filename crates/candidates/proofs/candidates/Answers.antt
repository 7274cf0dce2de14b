-- `candidates::candidates`: the loop keeps that the candidates among the loops before k are written.
use mathlib.Core.Path.{sym, ◌∙◌}
use Prim.Native.Nat.{◌<◌}
use native.Mathlib.Omega.{arith}
use Rattle.paper.specs.Numbers.{most_loops, most_candidates}
use Rattle.candidates.proofs.Keeping.{row_there, keeping_start, keeping_room, keeping_as, keeping_skip, keeping_more}
use Rattle.candidates.proofs.Keeping.{keeping_full, keeping_end}
use Rattle.candidates.proofs.candidates.Goals as goal
use Rattle.candidates.proofs.candidates.Goals.{then-not-covers_other+else-c-ge-MOST_CANDIDATES, else-not-covers_other}

-- ---- there is room: k is a loop, and c is below 64
in_room : (c : goal.After-copy_row-arg-1)
    → let l = c.loop-k in (l.k < most_loops) × (l.c < most_candidates)
in_room c = let q = c.requires.known in (omega (arith, q.most), omega (arith, c.if-c-ge-MOST_CANDIDATES.false))

in_room-2 : (c : goal.After-copy_row)
    → let l = c.loop-k in (l.k < most_loops) × (l.c < most_candidates)
in_room-2 c = let q = c.requires.known in (omega (arith, q.most), omega (arith, c.if-c-ge-MOST_CANDIDATES.false))

in_room-3 : (c : goal.After-way_told-1)
    → let l = c.loop-k in (l.k < most_loops) × (l.c < most_candidates)
in_room-3 c = let q = c.requires.known in (omega (arith, q.most), omega (arith, c.if-c-ge-MOST_CANDIDATES.false))

in_room-4 : (c : goal.After-kept_corners-1)
    → let l = c.loop-k in (l.k < most_loops) × (l.c < most_candidates)
in_room-4 c = let q = c.requires.known in (omega (arith, q.most), omega (arith, c.if-c-ge-MOST_CANDIDATES.false))

in_room-5 : (c : goal.After-way_told-then-not-covers_other-1)
    → let l = c.loop-k in (l.k < most_loops) × (l.c < most_candidates)
in_room-5 c = let q = c.requires.known in (omega (arith, q.most), omega (arith, c.if-c-ge-MOST_CANDIDATES.false))

in_room-6 : (c : goal.After-way_told-then-not-covers_other-2-1)
    → let l = c.loop-k in (l.k < most_loops) × (l.c < most_candidates)
in_room-6 c = let q = c.requires.known in (omega (arith, q.most), omega (arith, c.if-c-ge-MOST_CANDIDATES.false))

in_room-7 : (c : goal.After-kept_sides-1)
    → let l = c.loop-k in (l.k < most_loops) × (l.c < most_candidates)
in_room-7 c = let q = c.requires.known in (omega (arith, q.most), omega (arith, c.if-c-ge-MOST_CANDIDATES.false))

in_room-8 : (c : goal.After-way_told-then-not-covers_other-3-1)
    → let l = c.loop-k in (l.k < most_loops) × (l.c < most_candidates)
in_room-8 c = let q = c.requires.known in (omega (arith, q.most), omega (arith, c.if-c-ge-MOST_CANDIDATES.false))

-- ---- the needs

pub loop-k-init : goal.loop-k-init
loop-k-init c = (omega arith, λ q. keeping_start q _ _ _)

pub covers_other-requires : goal.covers_other-requires
covers_other-requires c = record { loops_known = c.requires.known; there = omega arith }

pub returns-then-c-ge-MOST_CANDIDATES : goal.returns-then-c-ge-MOST_CANDIDATES
returns-then-c-ge-MOST_CANDIDATES c =
    let q = c.requires.known in
    let not-covering = sym c.covers_other.ensures ∙ c.if-not-covers_other.true in
    keeping_full q (c.loop-k.invariant.1 q) (omega arith) not-covering (omega (arith, c.if-c-ge-MOST_CANDIDATES.true))

pub copy_row-requires : goal.copy_row-requires
copy_row-requires c =
    let p = c.requires in
    record {
      there = row_there p.known (omega arith);
      few = (in_room c).1;
      room = keeping_room p.known (c.loop-k.invariant.1 p.known) p.row_room;
    }

pub offset_bounds-corners-k : goal.offset_bounds-corners-k
offset_bounds-corners-k c = omega (arith, in_room-2 c)

pub bounds-corners-k : goal.bounds-corners-k
bounds-corners-k c = omega (arith, in_room-3 c)

pub offset_bounds-kept_corners-c : goal.offset_bounds-kept_corners-c
offset_bounds-kept_corners-c c = omega (arith, in_room-4 c)

pub bounds-kept_corners-c : goal.bounds-kept_corners-c
bounds-kept_corners-c c = omega (arith, in_room-5 c)

pub offset_bounds-sides-k : goal.offset_bounds-sides-k
offset_bounds-sides-k c = omega (arith, in_room-5 c)

pub bounds-sides-k : goal.bounds-sides-k
bounds-sides-k c = omega (arith, in_room-6 c)

pub offset_bounds-kept_sides-c : goal.offset_bounds-kept_sides-c
offset_bounds-kept_sides-c c = omega (arith, in_room-7 c)

pub bounds-kept_sides-c : goal.bounds-kept_sides-c
bounds-kept_sides-c c = omega (arith, in_room-8 c)

pub overflow_add-c : goal.overflow_add-c
overflow_add-c c = omega (arith, in_room-8 c)

pub loop-k-preserved : goal.loop-k-preserved
loop-k-preserved c =
    let p = c.requires in (
      omega arith,
      λ q.
          let s = c.loop-k.invariant.1 q in
          let said = sym c.covers_other.ensures in
          elim c.if-not-covers_other.branch [
            | then-not-covers_other+else-c-ge-MOST_CANDIDATES t ↦
                keeping_as q
                (keeping_more q s (omega arith) (said ∙ t.if-not-covers_other.true) (omega (arith, t.if-c-ge-MOST_CANDIDATES.false))
                p.corner_room p.side_room)
                (t.rows-is ∙ t.copy_row.ensures) t.kept_corners-is t.kept_sides-is t.c-is
            | else-not-covers_other t ↦
                keeping_as q (keeping_skip q s (omega arith) (said ∙ t.if-not-covers_other.false)) t.rows-is t.kept_corners-is t.kept_sides-is
                t.c-is
          ],
    )

pub returns : goal.returns
returns c =
    let q = c.requires.known in
    keeping_end q (c.loop-k.invariant.1 q) (omega arith)
