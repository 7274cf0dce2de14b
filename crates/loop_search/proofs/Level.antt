-- The vertices of a plane: whether one of a set is among them, and all of them as a set.
use mathlib.Core.Bool.{Bool, true, false, ◌||◌}
use mathlib.Core.List.{List, [], ◌∷◌, ◌++◌, map, map-append}
use mathlib.Core.Path.{◌≡◌, refl, sym, ap, ◌∙◌, subst}
use Prim.Native.Nat.{ℕ, zero, suc, ◌+◌, ◌^◌, ◌<◌}
use native.Mathlib.Omega.{arith}
use borrow.Author.Tests.{eq-eqb}
use lib.IntN.{ℤ}
use lib.Signed.{mag}
use mir.Syntax.{w64}
use mir.Val.{of_z, to_z, hbits}
use lib.ListN.{length, length-map}
use Rattle.lists.specs.Lists.{from, upto}
use Rattle.lists.proofs.Places.{upto_length}
use Rattle.sets.specs.Word.{count, first, either, less, only}
use Rattle.sets.specs.Kinds.{First}
use Rattle.sets.specs.Sets.{Is, size, one_word}
use Rattle.sets.specs.declared.Set.{Set}
use Rattle.sets.proofs.Sets.{size_is, is_more}
use Rattle.paper.specs.Numbers.{most_vertices}
use Rattle.paper.specs.Points.{minus, dot, is_zero}
use Rattle.paper.specs.declared.Point.{Point}
use Rattle.polygon.specs.Sizes.{PlaneWithin}
use Rattle.polygon.specs.Rings.{point_of}
use Rattle.polygon.proofs.Rows.{point_small}
use Rattle.polygon.proofs.Zeros.{reads_back}
use Rattle.fast_search.specs.Rows.{some_of}
use Rattle.fast_search.proofs.Rows.{some_next, some_end}
use Rattle.loop_search.specs.Lines.{level_in, PlaneIn, PlaneAndSet}
use Rattle.loop_search.proofs.Deeper.{below_dropped}

from_more : (j n : ℕ) → from j (suc n) ≡ from j n ++ (j + n) ∷ []
unfolding from
from_more j zero = let e : j ≡ j + 0 = omega arith in ap (λ (k : ℕ). k ∷ []) e
from_more j (suc n) =
    let e : suc j + n ≡ j + suc n = omega arith in
    ap (λ (l : List ℕ). j ∷ l) (from_more (suc j) n ∙ ap (λ (k : ℕ). from (suc j) n ++ k ∷ []) e)

module _ (xyz : List ℤ) (s m : Point) where
  abbrev level : ℕ → Bool
  level = level_in xyz s m

  -- ---- what the loop over a set keeps: no vertex gone through is in the plane
  pub record Asking (set left : Set) : Type 0 where
    pub asked : PlaneAndSet xyz s m left
    pub same : (a : List Bool) → Is set a → (b : List Bool) × Is left b × (some_of level 0 b ≡ some_of level 0 a)

  pub asking_start : {set : Set} → PlaneAndSet xyz s m set → Asking set set
  asking_start p = record { asked = p; same = λ a i. (a, i, refl) }

  module _ {set left : Set} (k : Asking set left) where
    module _ {left' : Set} {v : ℕ} (p : First one_word left left' v) where
      next : (b : List Bool) → Is left b → some_of level 0 b ≡ (level v || some_of level 0 (less b (only v)))
      next b i =
          let e : first b ≡ v = sym (p.lowest.same b i) in
          some_next level b (λ z. absurd (omega (arith, z, p.some, size_is i)))
          ∙ ap (λ (j : ℕ). level j || some_of level 0 (less b (only j))) e

      pub asking_next : level v ≡ false → Asking set left'
      asking_next e = record {
        asked = record { vertices = k.asked.vertices; plane = k.asked.plane; below = below_dropped k.asked.below p.dropped };
        same = λ a i.
            let b = k.same a i in (
              less b.0 (only v),
              p.dropped.same b.0 b.1,
              sym
                  (next b.0 b.1 ∙ ap (λ (x : Bool). x || some_of level 0 (less b.0 (only v))) e) ∙ b.2,
            );
      }

      pub asking_met : level v ≡ true → (a : List Bool) → Is set a → true ≡ some_of level 0 a
      asking_met e a i =
          let b = k.same a i in
          sym (next b.0 b.1 ∙ ap (λ (x : Bool). x || some_of level 0 (less b.0 (only v))) e) ∙ b.2

    pub asking_end : size left ≡ 0 → (a : List Bool) → Is set a → false ≡ some_of level 0 a
    asking_end z a i =
        let b = k.same a i in
        let c : count b.0 ≡ 0 = omega (arith, z, size_is b.1) in
        sym (some_end level b.0 (eq-eqb (count b.0) 0 c)) ∙ b.2

  -- ---- the set of all of them, vertex by vertex
  upto_more : (w : ℕ) → map level (upto (w + 1)) ≡ map level (upto w) ++ level w ∷ []
  unfolding upto
  upto_more w =
      let e : w + 1 ≡ suc w = omega arith in
      let z : 0 + w ≡ w = omega arith in
      ap (λ (n : ℕ). map level (upto n)) e ∙ ap (map level) (from_more 0 w ∙ ap (λ (k : ℕ). from 0 w ++ k ∷ []) z)
      ∙ map-append level (from 0 w) (w ∷ [])

  behind : (a : List Bool) → either a (only (length a)) ≡ a ++ true ∷ []
  unfolding either only
  behind [] = refl
  behind (true ∷ a) = ap (λ (l : List Bool). true ∷ l) (behind a)
  behind (false ∷ a) = ap (λ (l : List Bool). false ∷ l) (behind a)

  pub level_yes : {plane plane' : Set} (w : ℕ) → w < most_vertices → Is plane (map level (upto w)) → level w ≡ true
      → ((a : List Bool) → Is plane a → Is plane' (either a (only w))) → Is plane' (map level (upto (w + 1)))
  level_yes {plane} {plane'} w h i e f =
      let a = map level (upto w) in
      let n : length a ≡ w = length-map (upto w) level ∙ upto_length w in
      subst (Is plane') (ap (λ (k : ℕ). either a (only k)) (sym n) ∙ behind a ∙ ap (λ (b : Bool). a ++ b ∷ []) (sym e)
      ∙ sym (upto_more w)) (f a i)

  pub level_no : {plane : Set} (w : ℕ) → w < most_vertices → Is plane (map level (upto w)) → level w ≡ false
      → Is plane (map level (upto (w + 1)))
  level_no {plane} w h i e =
      let a = map level (upto w) in
      let n : length a ≡ w = length-map (upto w) level ∙ upto_length w in
      subst (Is plane) (ap (λ (b : Bool). a ++ b ∷ []) (sym e) ∙ sym (upto_more w)) (is_more a (omega (arith, n)) i)

-- what the code made of the vertex w: its place q, its side z of the plane, and whether that is 0
module _ {xyz : List ℤ} {v : ℕ} {s m : Point} (p : PlaneIn xyz v s m) where
  pub plane_small : (w : ℕ) (q : Point) → q ≡ point_of xyz w → PlaneWithin m s q
  plane_small w q e = record { m_in = p.m_in; o_in = p.s_in; p_in = rw e (point_small xyz p.points.near w) }

  pub level_is : (w : ℕ) {q : Point} {z : ℤ} {b : Bool} → q ≡ point_of xyz w → z ≡ dot m (minus q s) → mag z < 2 ^ hbits w64
      → b ≡ is_zero (to_z w64 (of_z w64 z)) → level_in xyz s m w ≡ b
  level_is w {z = z} e f h i = sym (i ∙ ap is_zero (reads_back z h ∙ f ∙ ap (λ (x : Point). dot m (minus x s)) e))
