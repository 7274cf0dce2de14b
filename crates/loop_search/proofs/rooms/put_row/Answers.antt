-- `loop_search::rooms::put_row`: behind the corner count, the loop keeps that the first i cells of the path are pasted.
use mathlib.Core.List.{List}
use mathlib.Core.Path.{◌≡◌, sym, ap, subst, ◌∙◌}
use Prim.Native.Nat.{ℕ, ◌+◌, ◌*◌}
use native.Mathlib.Numerals.{add-one}
use native.Mathlib.Omega.{arith}
use lib.ListN.{length, get_or, set, length-set}
use lib.Seq.{paste, paste-zero, paste-suc}
use Rattle.paper.specs.Numbers.{most_corners, most_loops, row_bytes}
use Rattle.loop_search.proofs.Way.{path_row, paste_behind}
use Rattle.loop_search.proofs.rooms.put_row.Goals as goal

-- ---- the needs

pub overflow_cast-table : goal.overflow_cast-table
overflow_cast-table c = omega (arith, c.requires.path_at.most)

pub bounds-table-at : goal.bounds-table-at
bounds-table-at c = omega (arith, c.requires.roomy)

pub loop-i-init : goal.loop-i-init
loop-i-init c =
    let a = c.args in
    record { reached = omega arith; pasted = paste-zero (set a.table.now a.at a.len) (a.at + 1) a.path.now }

pub overflow_add-table : goal.overflow_add-table
overflow_add-table c = omega (arith, c.requires.roomy)

pub overflow_add-table-in-loop-i : goal.overflow_add-table-in-loop-i
overflow_add-table-in-loop-i c = omega (arith, c.requires.roomy)

pub bounds-table-at-in-loop-i : goal.bounds-table-at-in-loop-i
bounds-table-at-in-loop-i c = omega (arith, c.requires.roomy)

pub loop-i-preserved : goal.loop-i-preserved
loop-i-preserved c =
    let l = c.loop-i in
    let a = c.args in
    let t = set a.table.now a.at a.len in
    let q = a.path.now in
    let n : length t ≡ row_bytes * most_loops = length-set a.table.now a.at a.len ∙ c.requires.table_long in
    record {
      reached = omega arith;
      pasted = ap (λ (x : List ℕ). set x (a.at + 1 + l.i) (get_or q l.i 0)) l.invariant.pasted
          ∙ paste-suc t (a.at + 1) q l.i 0 (omega (arith, n, c.requires.roomy)) (omega (arith, c.requires.path_at.long))
          ∙ ap (λ (k : ℕ). paste t (a.at + 1) q k) (sym (add-one l.i));
    }

pub returns : goal.returns
returns c =
    let l = c.loop-i in
    let a = c.args in
    let e : l.i ≡ most_corners = omega arith in
    subst (λ (n : ℕ). l.table ≡ paste (set a.table.now a.at a.len) (a.at + 1) a.path.now n) e l.invariant.pasted
    ∙ paste_behind a.table.now a.at a.len a.path.now most_corners (omega (arith, c.requires.table_long, c.requires.roomy))
    ∙ ap (λ (q : List ℕ). paste a.table.now a.at q row_bytes) (sym (path_row c.requires.path_at))
