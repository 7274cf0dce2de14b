-- `candidates::copy_row`: the loop keeps that the first i bytes of the row are pasted.
use mathlib.Core.List.{List}
use mathlib.Core.Path.{◌≡◌, ap, subst, sym, ◌∙◌}
use Prim.Native.Nat.{◌*◌, ◌+◌, ◌<◌, ◌≤◌, ℕ}
use native.Mathlib.Numerals.{add-one}
use native.Mathlib.Omega.{arith}
use lib.ListN.{drop, get_or, length, length-drop, set}
use lib.Seq.{get_or-drop, get_or-take, length-take-le, paste, paste-suc, paste-zero}
use Rattle.paper.specs.Numbers.{row_bytes}
use Rattle.candidates.specs.Keeps.{row_in}
use Rattle.candidates.proofs.copy_row.Goals as goal

-- ---- the bytes of the row
module _ (table : List ℕ) (k : ℕ) (h : row_bytes * k + row_bytes ≤ length table) where
  bytes-long : length (row_in table k) ≡ row_bytes
  bytes-long = length-take-le row_bytes (drop (row_bytes * k) table) (omega (arith, length-drop (row_bytes * k) table))

  byte_is : (i : ℕ) → i < row_bytes → get_or table (row_bytes * k + i) 0 ≡ get_or (row_in table k) i 0
  byte_is i m = sym (get_or-take row_bytes (drop (row_bytes * k) table) i 0 m ∙ get_or-drop (row_bytes * k) table i 0)

-- ---- the needs

pub loop-i-init : goal.loop-i-init
loop-i-init c = let a = c.args in (omega arith, paste-zero a.rows.now (row_bytes * a.c) (row_in a.table.now a.k))

pub overflow_mul-rows : goal.overflow_mul-rows
overflow_mul-rows c = omega (arith, c.requires.there)

pub overflow_add-rows : goal.overflow_add-rows
overflow_add-rows c = omega (arith, c.requires.there)

pub bounds-table-k : goal.bounds-table-k
bounds-table-k c = omega (arith, c.requires.there)

pub overflow_mul-rows-in-loop-i : goal.overflow_mul-rows-in-loop-i
overflow_mul-rows-in-loop-i c = omega (arith, c.requires.few)

pub overflow_add-rows-in-loop-i : goal.overflow_add-rows-in-loop-i
overflow_add-rows-in-loop-i c = omega (arith, c.requires.few)

pub bounds-rows-c : goal.bounds-rows-c
bounds-rows-c c = omega (arith, c.requires.few)

pub loop-i-preserved : goal.loop-i-preserved
loop-i-preserved c =
    let l = c.loop-i in
    let p = c.requires in
    let a = c.args in
    let q = row_in a.table.now a.k in
    let x = byte_is a.table.now a.k p.there l.i (omega arith) in (
      omega arith,
      (λ s. set (l.invariant.1 s) (row_bytes * a.c + l.i) (x s))
          ∙ paste-suc a.rows.now (row_bytes * a.c) q l.i 0 (omega (arith, p.few, p.room))
          (omega (arith, bytes-long a.table.now a.k p.there))
          ∙ ap (paste a.rows.now (row_bytes * a.c) q) (sym (add-one l.i)),
    )

pub returns : goal.returns
returns c =
    let l = c.loop-i in
    let a = c.args in
    let e : l.i ≡ row_bytes = omega arith in
    subst (λ (n : ℕ). l.rows ≡ paste a.rows.now (row_bytes * a.c) (row_in a.table.now a.k) n) e l.invariant.1
