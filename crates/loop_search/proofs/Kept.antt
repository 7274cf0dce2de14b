-- A `while` over the vertices of a set, the lowest first, that adds to the rooms what f finds from each: what it keeps.
use mathlib.Core.Bool.{Bool}
use mathlib.Core.List.{List, [], ◌++◌}
use mathlib.Core.Path.{◌≡◌, refl, subst}
use Prim.Native.Nat.{ℕ, ◌<◌}
use native.Mathlib.Omega.{arith}
use borrow.Author.Tests.{eq-eqb}
use Rattle.sets.specs.Word.{count, first, less, only}
use Rattle.sets.specs.Kinds.{First}
use Rattle.sets.specs.Sets.{Is, size, one_word}
use Rattle.sets.specs.declared.Set.{Set}
use Rattle.sets.proofs.Sets.{size_is}
use Rattle.paper.specs.Numbers.{most_loops}
use Rattle.fast_search.specs.Rows.{each_of}
use Rattle.fast_search.specs.Search.{InItsPlane}
use Rattle.fast_search.proofs.Cut.{Whole, whole-next, whole-end}
use Rattle.loop_search.specs.Rooms.{Rooms, Adds}
use Rattle.loop_search.proofs.Filling.{adds_none, adds_then, adds_full}

module _ (f : ℕ → List Bool → List InItsPlane) (every : List Bool) (r : Rooms) where
  -- the set `left` is still to be gone through; those found from the others are in the rooms r'
  pub record Kept (r' : Rooms) (left : Set) : Type 0 where
    pub digits : List Bool
    pub left_is : Is left digits
    pub met : List InItsPlane
    pub adds : Adds r r' met
    pub whole : Whole f met digits (each_of f 0 every)

  pub kept_start : (left : Set) → Is left every → Kept r left
  kept_start left i = record { digits = every; left_is = i; met = []; adds = adds_none; whole = refl }

  -- one turn: v is the lowest
  pub kept_next : {r' r'' : Rooms} {left left' : Set} {v : ℕ} (k : Kept r' left) → First one_word left left' v
      → Adds r' r'' (f v (less k.digits (only v))) → Kept r'' left'
  kept_next {r'} {r''} k p a =
      let op = k.digits in
      let more : List InItsPlane = f (first op) (less op (only (first op))) in
      let a' : Adds r' r'' more = subst (λ (j : ℕ). Adds r' r'' (f j (less op (only j)))) (p.lowest.same op k.left_is) a in
      record {
        digits = less op (only (first op));
        left_is = p.rest.same op k.left_is;
        met = k.met ++ more;
        adds = adds_then k.met more k.adds a';
        whole = whole-next f k.met op (each_of f 0 every) (λ z. absurd (omega (arith, z, p.some, size_is k.left_is))) k.whole;
      }

  -- the set is empty, or the table is full
  pub kept_end : {r' : Rooms} {left : Set} → Kept r' left → size left ≡ 0 → Adds r r' (each_of f 0 every)
  kept_end {r'} k none =
      let z : count k.digits ≡ 0 = omega (arith, none, size_is k.left_is) in
      subst (Adds r r') (whole-end f k.met k.digits (each_of f 0 every) (eq-eqb (count k.digits) 0 z) k.whole) k.adds

  pub kept_full : {r' : Rooms} {left : Set} → Kept r' left → most_loops < r'.count → Adds r r' (each_of f 0 every)
  kept_full {r'} k full =
      let rest = each_of f 0 k.digits in
      subst (Adds r r') k.whole (adds_then k.met rest k.adds (adds_full r' rest full))
