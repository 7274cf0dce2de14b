-- Sums over the faces of a solid, each in its direction: they go face by face, and of what is along one direction they are along it.
use mathlib.Core.Path.{◌≡◌, refl, sym, ap, ap₂, ◌∙◌}
use mathlib.Core.Bool.{Bool, true, false, cond}
use mathlib.Core.List.{List, [], ◌∷◌}
use Prim.Native.Nat.{ℕ, suc, ◌+◌, ◌<◌}
use native.Mathlib.Omega.{arith}
use lib.IntN.{ℤ, pos, neg_ℤ, ◌+ℤ◌, ◌*ℤ◌}
use lib.ListN.{length}
use Rattle.sets.specs.Word.{dig}
use Rattle.exact.proofs.Ring.{var, con, ◌⊕◌, ◌⊖◌, ◌⊗◌, neg, ring}
use Rattle.paper.specs.Points.{pt, origin, minus, dot}
use Rattle.paper.specs.Loops.{Loop, loop_at}
use Rattle.paper.specs.Solids.{part}
use Rattle.paper.specs.declared.Point.{Point}
use Rattle.paper_laws.proofs.Vectors.{vec, k as con-s, o, v, negs, ◌+s◌, ◌·◌, ◌+v◌, ◌-v◌, vring}
use Rattle.means_solid.specs.Solid.{face_sum}
use Rattle.means_check.proofs.Sums.{sum_to, sum_same}

-- a direction of a face, where it is one, in the way that it is run
abbrev pub in_way : Bool → Bool → Point → Point
in_way b t n = cond b (cond t (minus origin n) n) origin

-- a number as a point along the first axis, so that sums of points serve
abbrev pub first : Point
first = pt (pos 1) (pos 0) (pos 0)

abbrev pub wide : ℤ → Point
wide z = pt z (pos 0) (pos 0)

pub wide_minus : (z : ℤ) → wide (neg_ℤ z) ≡ minus origin (wide z)
unfolding minus
wide_minus z = ap wide (ring (z ∷ []) (neg (var 0)) (con (pos 0) ⊖ var 0) tt)

pub along-first : (z : ℤ) → z ≡ dot first (wide z)
unfolding dot
along-first z = ring (z ∷ []) (var 0) (con (pos 1) ⊗ var 0 ⊕ con (pos 0) ⊗ con (pos 0) ⊕ con (pos 0) ⊗ con (pos 0)) tt

module _ (cs : List Loop) (taken turned : List Bool) where
  -- ls are the candidates from k on
  abbrev From : ℕ → List Loop → Type 0
  From k ls = (i : ℕ) → i < length ls → loop_at ls i ≡ loop_at cs (k + i)

  here : (k : ℕ) (l : Loop) (ls : List Loop) → From k (l ∷ ls) → l ≡ loop_at cs k
  here k l ls h = h 0 (omega arith) ∙ ap (loop_at cs) (plus_zero k)
    where
      plus_zero : (k : ℕ) → k + 0 ≡ k
      plus_zero k = omega arith

  plus_suc : (k i : ℕ) → k + suc i ≡ suc k + i
  plus_suc k i = omega arith

  next : (k : ℕ) (l : Loop) (ls : List Loop) → From k (l ∷ ls) → From (suc k) ls
  next k l ls h i m = h (suc i) (omega arith) ∙ ap (loop_at cs) (plus_suc k i)

  all : From 0 cs
  all i h = ap (loop_at cs) (zero_plus i)
    where
      zero_plus : (i : ℕ) → i ≡ 0 + i
      zero_plus i = omega arith

  -- ---- face by face

  part_same : (b t : Bool) (y z : ℤ) → (b ≡ true → y ≡ z) → part b t y ≡ part b t z
  part_same false t y z h = refl
  part_same true false y z h = h refl
  part_same true true y z h = ap neg_ℤ (h refl)

  module _ (f g : Loop → ℤ) (same : (k : ℕ) → dig taken k ≡ true → f (loop_at cs k) ≡ g (loop_at cs k)) where
    from-same : (k : ℕ) (ls : List Loop) → From k ls → face_sum taken turned f k ls ≡ face_sum taken turned g k ls
    unfolding face_sum
    from-same k [] h = refl
    from-same k (l ∷ ls) h =
        let e = here k l ls h in
        ap₂ ◌+ℤ◌ (part_same (dig taken k) (dig turned k) (f l) (g l) (λ t. ap f e ∙ same k t ∙ ap g (sym e))) (from-same (suc k) ls
        (next k l ls h))

    pub faces_same : face_sum taken turned f 0 cs ≡ face_sum taken turned g 0 cs
    faces_same = from-same 0 cs all

  -- ---- sums of sums, and multiples

  part-plus : (b t : Bool) (y z : ℤ)
      → part b t (y +ℤ z) ≡ part b t y +ℤ part b t z
  part-plus false t y z = refl
  part-plus true false y z = refl
  part-plus true true y z = ring (y ∷ z ∷ []) (neg (var 0 ⊕ var 1)) (neg (var 0) ⊕ neg (var 1)) tt

  pub faces-plus : (f g : Loop → ℤ) (k : ℕ) (ls : List Loop)
      → face_sum taken turned (λ l. f l +ℤ g l) k ls ≡ face_sum taken turned f k ls +ℤ face_sum taken turned g k ls
  unfolding face_sum
  faces-plus f g k [] = refl
  faces-plus f g k (l ∷ ls) =
      ap₂ ◌+ℤ◌ (part-plus (dig taken k) (dig turned k) (f l) (g l)) (faces-plus f g (suc k) ls)
      ∙ ring
      (part (dig taken k) (dig turned k) (f l) ∷ part (dig taken k) (dig turned k) (g l)
      ∷ face_sum taken turned f (suc k) ls ∷ face_sum taken turned g (suc k) ls ∷ [])
      ((var 0 ⊕ var 1) ⊕ (var 2 ⊕ var 3)) ((var 0 ⊕ var 2) ⊕ (var 1 ⊕ var 3)) tt

  part-times : (b t : Bool) (m z : ℤ) → part b t (m *ℤ z) ≡ m *ℤ part b t z
  part-times false t m z = ring (m ∷ []) (con (pos 0)) (var 0 ⊗ con (pos 0)) tt
  part-times true false m z = refl
  part-times true true m z = ring (m ∷ z ∷ []) (neg (var 0 ⊗ var 1)) (var 0 ⊗ neg (var 1)) tt

  pub faces-times : (m : ℤ) (f : Loop → ℤ) (k : ℕ) (ls : List Loop)
      → face_sum taken turned (λ l. m *ℤ f l) k ls ≡ m *ℤ face_sum taken turned f k ls
  unfolding face_sum
  faces-times m f k [] = ring (m ∷ []) (con (pos 0)) (var 0 ⊗ con (pos 0)) tt
  faces-times m f k (l ∷ ls) =
      ap₂ ◌+ℤ◌ (part-times (dig taken k) (dig turned k) m (f l)) (faces-times m f (suc k) ls)
      ∙ ring (m ∷ part (dig taken k) (dig turned k) (f l) ∷ face_sum taken turned f (suc k) ls ∷ [])
      (var 0 ⊗ var 1 ⊕ var 0 ⊗ var 2) (var 0 ⊗ (var 1 ⊕ var 2)) tt

  -- ---- along one direction

  module _ (w : Point) (n : Loop → Point) where
    abbrev facing : ℕ → Point
    facing k = in_way (dig taken k) (dig turned k) (n (loop_at cs k))

    part-dot : (b t : Bool) (q : Point) → part b t (dot w q) ≡ dot w (in_way b t q)
    part-dot false t q = sym (vring (vec w ∷ []) (v 0 · o) (con-s (pos 0)) tt)
    part-dot true false q = refl
    part-dot true true q = vring (vec w ∷ vec q ∷ []) (negs (v 0 · v 1)) (v 0 · (o -v v 1)) tt

    from-dot : (k : ℕ) (ls : List Loop) → From k ls
        → face_sum taken turned (λ l. dot w (n l)) k ls ≡ dot w (sum_to (length ls) (λ i. facing (k + i)))
    unfolding face_sum sum_to
    from-dot k [] h = sym (vring (vec w ∷ []) (v 0 · o) (con-s (pos 0)) tt)
    from-dot k (l ∷ ls) h =
        let z : k ≡ k + 0 = omega arith in
        ap₂ ◌+ℤ◌
        (part-dot (dig taken k) (dig turned k) (n l)
        ∙ ap₂ (λ (j : ℕ) (q : Loop). dot w (in_way (dig taken j) (dig turned j) (n q))) z (h 0 (omega arith)))
        (from-dot (suc k) ls (next k l ls h)
        ∙ ap (dot w) (sum_same (length ls) (λ i. facing (suc k + i)) (λ i. facing (k + suc i)) (λ i m. ap facing (sym (plus_suc k i)))))
        ∙ vring (vec w ∷ vec (facing (k + 0)) ∷ vec (sum_to (length ls) (λ i. facing (k + suc i))) ∷ []) ((v 0 · v 1) +s (v 0 · v 2))
        (v 0 · (v 1 +v v 2)) tt

    pub faces-dot : face_sum taken turned (λ l. dot w (n l)) 0 cs ≡ dot w (sum_to (length cs) facing)
    faces-dot =
        from-dot 0 cs all ∙ ap (dot w) (sum_same (length cs) (λ i. facing (0 + i)) facing (λ i h. ap facing (sym (zero_plus i))))
      where
        zero_plus : (i : ℕ) → i ≡ 0 + i
        zero_plus i = omega arith

  pub faces_wide : (f : Loop → ℤ)
      → face_sum taken turned f 0 cs
      ≡ dot first (sum_to (length cs) (λ k. in_way (dig taken k) (dig turned k) (wide (f (loop_at cs k)))))
  faces_wide f =
      (λ i. face_sum taken turned (λ l. along-first (f l) i) 0 cs) ∙ faces-dot first (λ l. wide (f l))
