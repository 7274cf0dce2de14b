-- `faces_writer::write::are_under`: the loop keeps that the corners left decide for all, since those before are low.
use mathlib.Core.Path.{◌≡◌, refl, sym}
use Prim.Native.Nat.{ℕ, ◌≤◌, ◌<◌, ◌+◌}
use lib.Dec.{ltb}
use lib.ListN.{length, get_or}
use Rattle.lists.proofs.Search.{all-search, search-end}
use Rattle.lists.proofs.Below.{high_hit, high_miss}
use Rattle.faces_writer.specs.Send.{corners_at}
use Rattle.faces_writer.proofs.RowAt.{length_corners, corner-at}
use native.Mathlib.Omega.{arith}
use Rattle.faces_writer.proofs.write.are_under.Goals as goal

length_is : (c : goal.Then-v-rows) → length ((corners_at c.args.rows.now c.args.i c.args.c)) ≡ c.args.c
length_is c = length_corners c.args.rows.now c.args.i c.args.c c.requires

inside : (c : goal.Then-v-rows) → c.loop-j.j < length ((corners_at c.args.rows.now c.args.i c.args.c))
inside c = omega (arith, length_is c)

here : (c : goal.Then-v-rows) → get_or ((corners_at c.args.rows.now c.args.i c.args.c)) (c.loop-j.j) 0 ≡ get_or c.args.rows.now (c.args.i + c.loop-j.j) 0
here c = corner-at c.args.rows.now c.args.i c.args.c c.requires (c.loop-j.j) (omega arith)

length_is-2 : (c : goal.Else-v-rows) → length ((corners_at c.args.rows.now c.args.i c.args.c)) ≡ c.args.c
length_is-2 c = length_corners c.args.rows.now c.args.i c.args.c c.requires

inside-2 : (c : goal.Else-v-rows) → c.loop-j.j < length ((corners_at c.args.rows.now c.args.i c.args.c))
inside-2 c = omega (arith, length_is-2 c)

here-2 : (c : goal.Else-v-rows) → get_or ((corners_at c.args.rows.now c.args.i c.args.c)) (c.loop-j.j) 0 ≡ get_or c.args.rows.now (c.args.i + c.loop-j.j) 0
here-2 c = corner-at c.args.rows.now c.args.i c.args.c c.requires (c.loop-j.j) (omega arith)

length_is-3 : (c : goal.After-loop-j) → length ((corners_at c.args.rows.now c.args.i c.args.c)) ≡ c.args.c
length_is-3 c = length_corners c.args.rows.now c.args.i c.args.c c.requires

-- ---- the needs

pub loop-j-init : goal.loop-j-init
loop-j-init c = (omega arith, refl)

pub overflow_cast-rows : goal.overflow_cast-rows
overflow_cast-rows c = omega (arith, c.type_inv.rows (c.args.i + c.loop-j.j))

pub returns-then-v-rows : goal.returns-then-v-rows
returns-then-v-rows c =
    high_hit c.args.v ((corners_at c.args.rows.now c.args.i c.args.c)) (c.loop-j.j) (inside c) c.loop-j.invariant.1 (here c) c.if-v-rows.true

pub loop-j-preserved : goal.loop-j-preserved
loop-j-preserved c =
    let low = high_miss c.args.v ((corners_at c.args.rows.now c.args.i c.args.c)) (c.loop-j.j) (inside-2 c) c.loop-j.invariant.1 (here-2 c) c.if-v-rows.false in
    (omega arith, low)

pub returns : goal.returns
returns c =
    let behind : length ((corners_at c.args.rows.now c.args.i c.args.c)) ≤ c.loop-j.j = omega (arith, length_is-3 c) in
    sym (search-end (all-search (λ (x : ℕ). ltb x c.args.v)) ((corners_at c.args.rows.now c.args.i c.args.c)) c.loop-j.j behind c.loop-j.invariant.1)
