-- A path that is taken in: with room for it, without, and only where it is closed.
use mathlib.Core.Bool.{Bool, true, false}
use mathlib.Core.List.{List, [], ◌∷◌}
use mathlib.Core.Path.{◌≡◌, sym, ap, ◌∙◌, subst}
use Prim.Native.Nat.{ℕ, ◌+◌, ◌*◌, ◌-◌, ◌≤◌, ◌<◌}
use native.Mathlib.Omega.{arith}
use lib.ListN.{length, get_or, take, set, length-set}
use lib.Seq.{paste, length-paste}
use Rattle.sets.specs.Word.{dig}
use Rattle.sets.specs.Sets.{Is, with_set}
use Rattle.sets.specs.declared.Set.{Set}
use Rattle.sets.proofs.Sets.{word_is}
use Rattle.paper.specs.Numbers.{most_corners, most_loops, row_bytes}
use Rattle.paper.specs.Loops.{row, final}
use Rattle.paper_laws.proofs.Rows.{row_length}
use Rattle.fast_search.specs.Search.{InItsPlane}
use Rattle.fast_search.proofs.Turns.{path_last, own_yes, own_no}
use Rattle.loop_search.specs.Rooms.{Rooms, rooms, Adds}
use Rattle.loop_search.specs.Paths.{RoomsAndPath, Taken, Ended}
use Rattle.loop_search.proofs.Filling.{adds_none, adds_more, adds_over}
use Rattle.loop_search.proofs.Way.{path_length}

module _ {r : Rooms} {path : List ℕ} {len : ℕ} (p : RoomsAndPath r path len) where
  few_corners : length (take len path) ≤ most_corners
  few_corners = omega (arith, path_length p.path_at, p.path_at.most)

  module _ (plane : Set) where
    pub taken_over : most_loops ≤ r.count → Taken r (rooms r.table r.planes (most_loops + 1)) path len plane
    taken_over many = record {
      sized = record { table_long = p.sized.table_long; planes_long = p.sized.planes_long; most = omega arith };
      adds = λ pl i. adds_over r (record { loop = take len path; plane = pl }) few_corners many;
    }

    pub taken_more : (table planes : List ℕ) → r.count < most_loops
        → table ≡ paste r.table (row_bytes * r.count) (row (take len path)) row_bytes
        → planes ≡ with_set r.planes r.count plane → Taken r (rooms table planes (r.count + 1)) path len plane
    taken_more table planes few e f =
        let long : length (row (take len path)) ≡ row_bytes = row_length (take len path) few_corners in
        record {
          sized = record {
            table_long = ap length e ∙ length-paste r.table (row_bytes * r.count) (row (take len path)) row_bytes
                (omega (arith, p.sized.table_long)) (omega (arith, long)) ∙ p.sized.table_long;
            planes_long = ap length f ∙ length-set r.planes r.count plane.word ∙ p.sized.planes_long;
            most = omega arith;
          };
          adds = λ pl i.
              let x : InItsPlane = record { loop = take len path; plane = pl } in
              subst (λ (s : Rooms). Adds r s (x ∷ []))
              (λ k. rooms (sym e k) ((ap (set r.planes r.count) (sym (word_is i)) ∙ sym f) k) (r.count + 1))
              (adds_more r x few_corners few p.sized.planes_long);
        }

  -- ---- v is the last vertex, and b says whether a loop may end there
  module _ (closing plane : Set) (v : ℕ) (b : Bool) (at_v : v ≡ get_or path (len - 1) 0)
      (has : (a : List Bool) → Is closing a → b ≡ dig a v) where
    last_v : final (take len path) ≡ v
    last_v = path_last path len (omega (arith, p.path_at.some)) (omega (arith, p.path_at.most, p.path_at.long)) ∙ sym at_v

    pub ended_yes : {r' : Rooms} → b ≡ true → Taken r r' path len plane → Ended r r' path len closing plane
    ended_yes {r'} e t = record {
      sized = t.sized;
      adds = λ cl pl i j.
          subst (Adds r r') (sym (own_yes cl (take len path) pl (ap (dig cl) last_v ∙ sym (has cl i) ∙ e))) (t.adds pl j);
    }

    pub ended_no : b ≡ false → Ended r r path len closing plane
    ended_no e = record {
      sized = p.sized;
      adds = λ cl pl i j. subst (Adds r r) (sym (own_no cl (take len path) pl (ap (dig cl) last_v ∙ sym (has cl i) ∙ e))) adds_none;
    }
