-- The rooms of the search as loops are met: one more, none, some and then others, or more than are held.
use mathlib.Core.List.{List, [], ◌∷◌, ◌++◌, append-nil, append_assoc}
use mathlib.Core.Path.{◌≡◌, refl, sym, ap, ◌∙◌, subst}
use Prim.Native.Nat.{ℕ, suc, ◌+◌, ◌*◌, ◌≤◌, ◌<◌, min}
use native.Mathlib.Omega.{arith}
use native.Mathlib.Decide.{dec_lt}
use lib.ListN.{length, get_or, take, set, length-append, get_or-append}
use lib.Seq.{paste, paste-zero, paste-suc, take_all, take-append-le, get_or-append-add}
use Rattle.lists.specs.After.{after}
use Rattle.lists.proofs.After.{Wide, after_more}
use Rattle.sets.specs.Word.{word}
use Rattle.paper.specs.Numbers.{most_corners, most_loops, row_bytes}
use Rattle.paper_laws.proofs.Rows.{row_length}
use Rattle.fast_search.specs.Search.{InItsPlane}
use Rattle.loop_search.specs.Rooms.{Rooms, loop_row, plane_word, nowhere, Short, HoldsLoops, Adds}

-- ---- composing

pub adds_none : {r : Rooms} → Adds r r []
adds_none {r} r₀ z ls h = subst (HoldsLoops r₀ r) (sym (append-nil ls)) h

pub adds_then : {r r' r'' : Rooms} (a b : List InItsPlane) → Adds r r' a → Adds r' r'' b → Adds r r'' (a ++ b)
adds_then {r} {r'} {r''} a b f g r₀ z ls h = subst (HoldsLoops r₀ r'') (append_assoc ls a b) (g r₀ z (ls ++ a) (f r₀ z ls h))

-- ---- more are short, too
short_more : (ls : List InItsPlane) (x : InItsPlane) → Short ls → length x.loop ≤ most_corners → Short (ls ++ x ∷ [])
short_more ls x f h i b m = go (dec_lt i (length ls))
  where
    go : Dec (i < length ls) → length (get_or (ls ++ x ∷ []) i nowhere).loop ≤ most_corners
    go (yes c) =
        let e : get_or (ls ++ x ∷ []) i nowhere ≡ get_or ls i nowhere = get_or-append ls (x ∷ []) nowhere i c in
        rw e (f i c m)
    go (no c) =
        let n : length ls + 0 ≡ i = omega (arith, c, length-append ls (x ∷ [])) in
        let e : get_or (ls ++ x ∷ []) i nowhere ≡ x = ap (λ (j : ℕ). get_or (ls ++ x ∷ []) j nowhere) (sym n)
        ∙ get_or-append-add ls (x ∷ []) 0 nowhere in
        rw e h

short_full : (ls more : List InItsPlane) → Short ls → most_loops ≤ length ls → Short (ls ++ more)
short_full ls more f full i b m =
    let c : i < length ls = omega arith in
    let e : get_or (ls ++ more) i nowhere ≡ get_or ls i nowhere = get_or-append ls more nowhere i c in
    rw e (f i c m)

-- ---- one entry is one write
one_write : (l : List ℕ) (n w : ℕ) → n < length l → paste l (1 * n) (w ∷ []) 1 ≡ set l n w
one_write l n w h =
    let e : 1 * n ≡ n = omega arith in
    let z : 1 * n + 0 ≡ n = omega arith in
    sym (paste-suc l (1 * n) (w ∷ []) 0 0 (omega arith) (omega arith))
    ∙ (λ i. set (sym (paste-zero l (1 * n) (w ∷ [])) i) (z i) w)

-- ---- one more is met
module _ (r : Rooms) (x : InItsPlane) (short : length x.loop ≤ most_corners) where
  -- there is room for it
  module _ (few : r.count < most_loops) (ls : List InItsPlane) (count_is : r.count ≡ min (suc most_loops) (length ls)) where
    held_more : (f : InItsPlane → List ℕ) (k : ℕ) → Wide f k nowhere ls → length (f x) ≡ k → (l l₀ : List ℕ)
        → l ≡ after f k (take most_loops ls) l₀
        → paste l (k * r.count) (f x) k ≡ after f k (take most_loops (ls ++ x ∷ [])) l₀
    held_more f k wide one l l₀ e =
        let n : r.count ≡ length ls = omega (arith, count_is) in
        let all : take most_loops ls ≡ ls = take_all most_loops ls (omega arith) in
        let most : take most_loops (ls ++ x ∷ []) ≡ ls ++ x ∷ []
        = take_all most_loops (ls ++ x ∷ []) (omega (arith, length-append ls (x ∷ []))) in
        (λ i. paste ((e ∙ ap (λ (m : List InItsPlane). after f k m l₀) all) i) (k * n i) (f x) k)
        ∙ after_more f k nowhere ls wide l₀ x one ∙ ap (λ (m : List InItsPlane). after f k m l₀) (sym most)

  pub adds_more : r.count < most_loops → length r.planes ≡ most_loops
      → Adds r (record {
        table = paste r.table (row_bytes * r.count) (loop_row x) row_bytes;
        planes = set r.planes r.count (word x.plane);
        count = r.count + 1;
      }) (x ∷ [])
  adds_more few long r₀ z ls h =
      let wide : Wide loop_row row_bytes nowhere ls = λ i b. row_length (get_or ls i nowhere).loop (h.short i b (omega (arith, h.count_is))) in
      record {
        short = short_more ls x h.short short;
        table_is = held_more few ls h.count_is loop_row row_bytes wide (row_length x.loop short) r.table r₀.table h.table_is;
        planes_is = sym (one_write r.planes r.count (word x.plane) (omega arith))
            ∙ held_more few ls h.count_is plane_word 1 (λ i b. refl) refl r.planes r₀.planes h.planes_is;
        count_is = omega (arith, length-append ls (x ∷ []), h.count_is);
      }

-- ---- more than are held
module _ (r : Rooms) (ls more : List InItsPlane) (full : most_loops ≤ length ls) where
  held_full : (f : InItsPlane → List ℕ) (k : ℕ) (l l₀ : List ℕ) → l ≡ after f k (take most_loops ls) l₀
      → l ≡ after f k (take most_loops (ls ++ more)) l₀
  held_full f k l l₀ e = e ∙ ap (λ (m : List InItsPlane). after f k m l₀) (sym (take-append-le most_loops ls more full))

-- one more than are held is counted alone
pub adds_over : (r : Rooms) (x : InItsPlane) → length x.loop ≤ most_corners → most_loops ≤ r.count
    → Adds r (record { table = r.table; planes = r.planes; count = most_loops + 1 }) (x ∷ [])
adds_over r x short many r₀ z ls h =
    let full : most_loops ≤ length ls = omega (arith, h.count_is) in
    record {
      short = short_more ls x h.short short;
      table_is = held_full r ls (x ∷ []) full loop_row row_bytes r.table r₀.table h.table_is;
      planes_is = held_full r ls (x ∷ []) full plane_word 1 r.planes r₀.planes h.planes_is;
      count_is = omega (arith, length-append ls (x ∷ []), h.count_is);
    }

-- those that follow are not even counted
pub adds_full : (r : Rooms) (more : List InItsPlane) → most_loops < r.count → Adds r r more
adds_full r more many r₀ z ls h =
    let full : most_loops < length ls = omega (arith, h.count_is) in
    record {
      short = short_full ls more h.short (omega arith);
      table_is = held_full r ls more (omega arith) loop_row row_bytes r.table r₀.table h.table_is;
      planes_is = held_full r ls more (omega arith) plane_word 1 r.planes r₀.planes h.planes_is;
      count_is = omega (arith, length-append ls more, h.count_is);
    }
