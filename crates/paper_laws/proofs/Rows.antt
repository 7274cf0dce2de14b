-- A loop's row of 13 bytes, cell by cell, and rows one behind the other.
use mathlib.Core.Path.{◌≡◌, refl, sym, ap, ◌∙◌}
use mathlib.Core.List.{List, [], ◌++◌, flat_map}
use Prim.Native.Nat.{ℕ, suc, ◌+◌, ◌*◌, ◌-◌, ◌≤◌, ◌<◌}
use native.Mathlib.Nat.{add-sub_of_le}
use native.Mathlib.Omega.{arith}
use lib.ListN.{length, get_or, replicate, length-append, length-replicate, get_or-replicate, get_or-append}
use lib.Seq.{get_or-append-add}
use Rattle.lists.proofs.After.{Wide, each_long, each_at}
use Rattle.paper.specs.Numbers.{most_corners, row_bytes}
use Rattle.paper.specs.Loops.{Loop, row}

pub row_first : (q : Loop) → get_or (row q) 0 0 ≡ length q
unfolding row
row_first q = refl

pub row-corner : (q : Loop) (i : ℕ) → i < length q → get_or (row q) (suc i) 0 ≡ get_or q i 0
unfolding row
row-corner q i h = get_or-append q (replicate (12 - length q) 255) 0 i h

pub row_fill : (q : Loop) (i : ℕ) → length q ≤ i → i < 12 → get_or (row q) (suc i) 0 ≡ 255
unfolding row
row_fill q i h k =
    ap (λ (n : ℕ). get_or (q ++ replicate (12 - length q) 255) n 0) (sym (add-sub_of_le h))
    ∙ get_or-append-add q (replicate (12 - length q) 255) (i - length q) 0
    ∙ get_or-replicate (12 - length q) (i - length q) 255 0 (omega arith)

pub row_length : (q : Loop) → length q ≤ 12 → length (row q) ≡ 13
unfolding row
row_length q h = simp (length-append, length-replicate) (omega arith)

-- ---- the rows of loops of at most 12 corners each

abbrev pub Short : List Loop → Type 0
Short fs = (k : ℕ) → k < length fs → length (get_or fs k []) ≤ most_corners

pub rows_wide : (fs : List Loop) → Short fs → Wide row row_bytes [] fs
rows_wide fs h i m = row_length (get_or fs i []) (h i m)

pub rows_long : (fs : List Loop) → Short fs → length (flat_map row fs) ≡ row_bytes * length fs
rows_long fs h = each_long row row_bytes [] fs (rows_wide fs h)

-- cell j of row k
pub rows_at : (fs : List Loop) → Short fs → (k j : ℕ) → k < length fs → j < row_bytes
    → get_or (flat_map row fs) (row_bytes * k + j) 0 ≡ get_or (row (get_or fs k [])) j 0
rows_at fs h k j a b = each_at row row_bytes [] fs (rows_wide fs h) k j 0 a b
