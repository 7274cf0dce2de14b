-- The rows of a table that holds loops, read as the code reads them, and one row more.
use mathlib.Core.Path.{◌≡◌, sym, ap, ◌∙◌}
use mathlib.Core.List.{List, [], ◌∷◌, ◌++◌, flat_map}
use Prim.Native.Nat.{ℕ, zero, suc, ◌+◌, ◌*◌, ◌≤◌, ◌<◌}
use native.Mathlib.Omega.{arith}
use lib.ListN.{length, get_or, take, drop, length-append, length-drop, length-take}
use lib.Seq.{paste, ext_get_or, get_or-take, get_or-drop, length-take-le}
use Rattle.lists.proofs.After.{after_long, after_more, after-again, after-at}
use Rattle.paper.specs.Numbers.{most_corners, row_bytes}
use Rattle.paper.specs.Loops.{Loop, loop_at, row}
use Rattle.paper_laws.proofs.Rows.{Short, rows_wide, rows_long, row_first, row-corner, row_length}
use Rattle.polygon.specs.Rings.{corner_count, vertex_in, loop_in}
use Rattle.loop_table.specs.Tables.{rows_after, HoldsRows}

-- ---- one loop more is short too
pub short_more : (ls : List Loop) → Short ls → (l : Loop) → length l ≤ most_corners → Short (ls ++ l ∷ [])
short_more [] short l most zero h = most
short_more [] short l most (suc k) h = absurd (omega arith)
short_more (x ∷ ls) short l most zero h = short 0 (omega arith)
short_more (x ∷ ls) short l most (suc k) h = short_more ls (λ i m. short (suc i) (omega arith)) l most k (omega arith)

-- ---- a table that rows were written to holds them
pub rows_held : (ls : List Loop) → Short ls → (table before : List ℕ) → table ≡ rows_after ls before → HoldsRows table ls
rows_held ls short table before e = e ∙ sym (ap (rows_after ls) e ∙ after-again row row_bytes [] ls (rows_wide ls short) before)

-- the first of loops with few corners
pub short_take : (n : ℕ) (ls : List Loop) → Short ls → Short (take n ls)
short_take n ls short k h =
    let m : k < n = omega (arith, length-take n ls) in
    let b : k < length ls = omega (arith, length-take n ls) in
    let e : get_or (take n ls) k [] ≡ get_or ls k [] = get_or-take n ls k [] m in
    rw e (short k b)

-- it is as long as it was
pub rows-kept : (ls : List Loop) → Short ls → (table before : List ℕ) → row_bytes * length ls ≤ length before → table ≡ rows_after ls before
    → length table ≡ length before
rows-kept ls short table before h e = ap length e ∙ after_long row row_bytes [] ls (rows_wide ls short) before h

-- one row more
pub row_more : (ls : List Loop) → Short ls → (l : Loop) → length l ≤ most_corners → (table before : List ℕ) → table ≡ rows_after ls before
    → paste table (row_bytes * length ls) (row l) row_bytes ≡ rows_after (ls ++ l ∷ []) before
row_more ls short l most table before e =
    ap (λ (t : List ℕ). paste t (row_bytes * length ls) (row l) row_bytes) e
    ∙ after_more row row_bytes [] ls (rows_wide ls short) before l (row_length l most)

-- ---- its rows
module _ (table : List ℕ) (ls : List Loop) (held : HoldsRows table ls) (short : Short ls) where
  pub rows_room : row_bytes * length ls ≤ length table
  rows_room =
      omega (
        arith,
        ap length held ∙ length-append (flat_map row ls) (drop (row_bytes * length ls) table),
        rows_long ls short,
        length-drop (row_bytes * length ls) table,
      )

  module _ (k : ℕ) (h : k < length ls) where
    -- cell j of row k
    pub cell_is : (j : ℕ) → j < row_bytes → get_or table (row_bytes * k + j) 0 ≡ get_or (row (loop_at ls k)) j 0
    cell_is j m =
        ap (λ (t : List ℕ). get_or t (row_bytes * k + j) 0) held
        ∙ after-at row row_bytes [] ls (rows_wide ls short) table k j 0 h m (omega arith)

    pub count_is : corner_count table k ≡ length (loop_at ls k)
    count_is =
        let e : row_bytes * k ≡ row_bytes * k + 0 = omega arith in
        ap (λ (i : ℕ). get_or table i 0) e ∙ cell_is 0 (omega arith) ∙ row_first (loop_at ls k)

    pub vertex_is : (i : ℕ) → i < length (loop_at ls k) → vertex_in table k i ≡ get_or (loop_at ls k) i 0
    vertex_is i m =
        let e : row_bytes * k + 1 + i ≡ row_bytes * k + suc i = omega arith in
        ap (λ (t : ℕ). get_or table t 0) e ∙ cell_is (suc i) (omega (arith, short k h)) ∙ row-corner (loop_at ls k) i m

    pub loop_is : loop_in table k ≡ loop_at ls k
    unfolding loop_in
    loop_is =
        let l = loop_at ls k in
        let rest = drop (row_bytes * k + 1) table in
        let long : length (take (corner_count table k) rest) ≡ length l
        = length-take-le (corner_count table k) rest
        (omega (arith, count_is, short k h, rows_room, length-drop (row_bytes * k + 1) table)) ∙ count_is in
        ext_get_or 0 (take (corner_count table k) rest) l long
        (λ i m.
        let n : i < length l = omega (arith, long) in
        get_or-take (corner_count table k) rest i 0 (omega (arith, count_is)) ∙ get_or-drop (row_bytes * k + 1) table i 0 ∙ vertex_is i n)

    -- the bytes of the row
    pub bytes_are : take row_bytes (drop (row_bytes * k) table) ≡ row (loop_at ls k)
    bytes_are =
        let rest = drop (row_bytes * k) table in
        let long : length (take row_bytes rest) ≡ row_bytes
        = length-take-le row_bytes rest (omega (arith, rows_room, length-drop (row_bytes * k) table)) in
        ext_get_or 0 (take row_bytes rest) (row (loop_at ls k)) (long ∙ sym (row_length (loop_at ls k) (short k h)))
        (λ i m.
        let n : i < row_bytes = omega (arith, long) in
        get_or-take row_bytes rest i 0 n ∙ get_or-drop (row_bytes * k) table i 0 ∙ cell_is i n)
