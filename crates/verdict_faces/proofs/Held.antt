-- Rows that hold faces or candidates, read as the code reads them; the rows of faces by value are such.
use mathlib.Core.Path.{◌≡◌, refl, sym, ap, ◌∙◌}
use mathlib.Core.List.{List, [], ◌++◌, flat_map}
use Prim.Native.Nat.{ℕ, ◌-◌, ◌*◌, ◌≤◌, ◌<◌}
use native.Mathlib.Omega.{arith}
use lib.ListN.{length, drop, replicate}
use lib.Seq.{ext_get_or, drop_at}
use Rattle.pack.specs.Fill.{padded}
use Rattle.lists.proofs.Places.{made_length, made_at}
use Rattle.paper.specs.Numbers.{least_corners, row_bytes}
use Rattle.paper.specs.Loops.{Loop, loop_at, row}
use Rattle.paper.specs.FaceList.{row_at}
use Rattle.paper_laws.proofs.Rows.{Short, rows_long}
use Rattle.faces_laws.proofs.Reported.{row_loop}
use Rattle.loop_table.proofs.Rows.{rows_room, count_is}
use Rattle.verdict_faces.specs.Form.{rows_in, FaceIn}
use Rattle.verdict_faces.specs.Named.{HoldsTable}

module _ {table : List ℕ} {n : ℕ} {ls : List Loop} (h : HoldsTable table n ls) where
  row-held : (k : ℕ) → k < length ls → row_at table k ≡ loop_at ls k
  row-held k m = ap (λ (t : List ℕ). row_at t k) h.rows ∙ row_loop ls h.short (drop (row_bytes * length ls) table) k m

  pub rows_held : rows_in table n ≡ ls
  rows_held =
      let l = made_length (row_at table) n in
      ext_get_or [] (rows_in table n) ls (l ∙ sym h.count)
      (λ k m. made_at (row_at table) n k [] (omega (arith, l)) ∙ row-held k (omega (arith, l, h.count)))

  -- those of three corners or more are faces
  pub face-held : (k : ℕ) → k < n → least_corners ≤ length (loop_at ls k) → FaceIn table k
  face-held k m least =
      let l : k < length ls = omega (arith, h.count) in
      let c = count_is table ls h.rows h.short k l in
      record {
        room = omega (arith, rows_room table ls h.rows h.short);
        least = omega (arith, c);
        most = omega (arith, c, h.short k l);
      }

-- the rows of faces by value
pub padded-held : (fs : List Loop) → Short fs → (m : ℕ) → HoldsTable (padded (flat_map row fs) m 0) (length fs) fs
unfolding padded
padded-held fs short m =
    let xs = flat_map row fs in
    let rest : List ℕ = replicate (m - length xs) 0 in
    record {
      rows = ap (λ (t : List ℕ). xs ++ t) (sym (drop_at xs rest (row_bytes * length fs) (rows_long fs short)));
      count = refl;
      short = short;
    }
