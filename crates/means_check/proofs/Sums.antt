-- Sums of points over numbers: the order does not matter, and what cancels in pairs is (0,0,0).
use mathlib.Core.Path.{◌≡◌, refl, sym, ap, ap₂, ◌∙◌}
use mathlib.Core.List.{List, [], ◌∷◌}
use Prim.Native.Nat.{ℕ, zero, suc, ◌≤◌, ◌<◌}
use native.Mathlib.Omega.{arith}
use lib.IntN.{pos}
use lib.ListN.{length, get_or}
use Rattle.paper.specs.Points.{origin, plus, minus, sum}
use Rattle.paper.specs.declared.Point.{Point}
use Rattle.paper_laws.proofs.Vectors.{vec, k, o, v, ◌+v◌, ◌-v◌, ◌*v◌, vring}
use Rattle.paper_laws.proofs.Points.{scale_zero}

unfoldable pub sum_to : ℕ → (ℕ → Point) → Point
sum_to zero f = origin
sum_to (suc n) f = plus (f 0) (sum_to n (λ i. f (suc i)))

plus_none : plus origin origin ≡ origin
plus_none = vring [] (o +v o) o tt

pub sum-zero : (n : ℕ) (f : ℕ → Point) → ((i : ℕ) → i < n → f i ≡ origin) → sum_to n f ≡ origin
unfolding sum_to
sum-zero zero f h = refl
sum-zero (suc n) f h = ap₂ plus (h 0 (omega arith)) (sum-zero n (λ i. f (suc i)) (λ i l. h (suc i) (omega arith))) ∙ plus_none

pub sum_same : (n : ℕ) (f g : ℕ → Point) → ((i : ℕ) → i < n → f i ≡ g i) → sum_to n f ≡ sum_to n g
unfolding sum_to
sum_same zero f g h = refl
sum_same (suc n) f g h = ap₂ plus (h 0 (omega arith)) (sum_same n (λ i. f (suc i)) (λ i. g (suc i)) (λ i l. h (suc i) (omega arith)))

pub sum-single : (n : ℕ) (f : ℕ → Point) (t : ℕ) → t < n → ((i : ℕ) → i < n → (i ≡ t → ⊥) → f i ≡ origin) → sum_to n f ≡ f t
unfolding sum_to
sum-single zero f t l h = absurd (omega arith)
sum-single (suc n) f zero l h =
    ap (plus (f 0)) (sum-zero n (λ i. f (suc i)) (λ i k. h (suc i) (omega arith) (λ e. absurd (omega arith))))
    ∙ vring (vec (f 0) ∷ []) (v 0 +v o) (v 0) tt
sum-single (suc n) f (suc t) l h =
    ap₂ plus (h 0 (omega arith) (λ e. absurd (omega arith)))
    (sum-single n (λ i. f (suc i)) t (omega arith) (λ i k e. h (suc i) (omega arith) (λ z. e (omega arith))))
    ∙ vring (vec (f (suc t)) ∷ []) (o +v v 0) (v 0) tt

pub sum-plus : (n : ℕ) (f g : ℕ → Point) → sum_to n (λ i. plus (f i) (g i)) ≡ plus (sum_to n f) (sum_to n g)
unfolding sum_to
sum-plus zero f g = sym plus_none
sum-plus (suc n) f g =
    ap (plus (plus (f 0) (g 0))) (sum-plus n (λ i. f (suc i)) (λ i. g (suc i)))
    ∙ vring (vec (f 0) ∷ vec (g 0) ∷ vec (sum_to n (λ i. f (suc i))) ∷ vec (sum_to n (λ i. g (suc i))) ∷ []) ((v 0 +v v 1) +v (v 2 +v v 3))
    ((v 0 +v v 2) +v (v 1 +v v 3)) tt

pub sum-minus : (n : ℕ) (f : ℕ → Point) → sum_to n (λ i. minus origin (f i)) ≡ minus origin (sum_to n f)
unfolding sum_to
sum-minus zero f = vring [] o (o -v o) tt
sum-minus (suc n) f =
    ap (plus (minus origin (f 0))) (sum-minus n (λ i. f (suc i)))
    ∙ vring (vec (f 0) ∷ vec (sum_to n (λ i. f (suc i))) ∷ []) ((o -v v 0) +v (o -v v 1)) (o -v (v 0 +v v 1)) tt

pub sum_swap : (n m : ℕ) (f : ℕ → ℕ → Point) → sum_to n (λ i. sum_to m (λ j. f i j)) ≡ sum_to m (λ j. sum_to n (λ i. f i j))
unfolding sum_to
sum_swap zero m f = sym (sum-zero m (λ j. origin) (λ j l. refl))
sum_swap (suc n) m f =
    ap (plus (sum_to m (λ j. f 0 j))) (sum_swap n m (λ i j. f (suc i) j)) ∙ sym (sum-plus m (λ j. f 0 j) (λ j. sum_to n (λ i. f (suc i) j)))

-- more places, where nothing stands
pub sum_more : (n m : ℕ) (f : ℕ → Point) → n ≤ m → ((i : ℕ) → n ≤ i → f i ≡ origin) → sum_to m f ≡ sum_to n f
unfolding sum_to
sum_more zero m f l h = sum-zero m f (λ i k. h i (omega arith))
sum_more (suc n) zero f l h = absurd (omega arith)
sum_more (suc n) (suc m) f l h = ap (plus (f 0)) (sum_more n m (λ i. f (suc i)) (omega arith) (λ i k. h (suc i) (omega arith)))

pub sum_list : (ps : List Point) → sum ps ≡ sum_to (length ps) (λ i. get_or ps i origin)
unfolding sum sum_to
sum_list [] = refl
sum_list (p ∷ ps) = ap (plus p) (sum_list ps)

-- ---- over pairs

module _ (n m : ℕ) where
  abbrev pub sum2 : (ℕ → ℕ → Point) → Point
  sum2 f = sum_to n (λ i. sum_to m (λ j. f i j))

  pub sum2_same : (f g : ℕ → ℕ → Point) → ((i j : ℕ) → i < n → j < m → f i j ≡ g i j) → sum2 f ≡ sum2 g
  sum2_same f g h =
      sum_same n (λ i. sum_to m (λ j. f i j)) (λ i. sum_to m (λ j. g i j)) (λ i l. sum_same m (λ j. f i j) (λ j. g i j) (λ j r. h i j l r))

  pub sum2_zero : (f : ℕ → ℕ → Point) → ((i j : ℕ) → i < n → j < m → f i j ≡ origin) → sum2 f ≡ origin
  sum2_zero f h = sum-zero n (λ i. sum_to m (λ j. f i j)) (λ i l. sum-zero m (λ j. f i j) (λ j r. h i j l r))

  pub sum2_single : (f : ℕ → ℕ → Point) (t s : ℕ) → t < n → s < m → ((i j : ℕ) → i < n → j < m → (i ≡ t → j ≡ s → ⊥) → f i j ≡ origin)
      → sum2 f ≡ f t s
  sum2_single f t s ht hs h =
      sum-single n (λ i. sum_to m (λ j. f i j)) t ht (λ i l e. sum-zero m (λ j. f i j) (λ j r. h i j l r (λ p q. e p)))
      ∙ sum-single m (λ j. f t j) s hs (λ j r e. h t j ht r (λ p q. e q))

  sum2_minus : (f : ℕ → ℕ → Point) → sum2 (λ i j. minus origin (f i j)) ≡ minus origin (sum2 f)
  sum2_minus f =
      sum_same n (λ i. sum_to m (λ j. minus origin (f i j))) (λ i. minus origin (sum_to m (λ j. f i j))) (λ i l. sum-minus m (λ j. f i j))
      ∙ sum-minus n (λ i. sum_to m (λ j. f i j))

  sum2_swap : (f : ℕ → ℕ → ℕ → ℕ → Point) → sum2 (λ i j. sum2 (λ p q. f i j p q)) ≡ sum2 (λ p q. sum2 (λ i j. f i j p q))
  sum2_swap f =
      sum_same n (λ i. sum_to m (λ j. sum_to n (λ p. sum_to m (λ q. f i j p q))))
      (λ i. sum_to n (λ p. sum_to m (λ j. sum_to m (λ q. f i j p q))))
      (λ i l. sum_swap m n (λ j p. sum_to m (λ q. f i j p q)))
      ∙ sum_swap n n (λ i p. sum_to m (λ j. sum_to m (λ q. f i j p q)))
      ∙ sum_same n (λ p. sum_to n (λ i. sum_to m (λ j. sum_to m (λ q. f i j p q))))
      (λ p. sum_to m (λ q. sum_to n (λ i. sum_to m (λ j. f i j p q))))
      (λ p l. sum_same n (λ i. sum_to m (λ j. sum_to m (λ q. f i j p q))) (λ i. sum_to m (λ q. sum_to m (λ j. f i j p q)))
      (λ i r. sum_swap m m (λ j q. f i j p q))
      ∙ sum_swap n m (λ i q. sum_to m (λ j. f i j p q)))

  -- each has its opposite, and only one
  pub cancels : (g : ℕ → ℕ → Point) (f : ℕ → ℕ → ℕ → ℕ → Point) → ((i j p q : ℕ) → f i j p q ≡ minus origin (f p q i j))
      → ((i j : ℕ) → i < n → j < m → sum2 (f i j) ≡ g i j) → sum2 g ≡ origin
  cancels g f anti one =
      let a : sum2 (λ i j. sum2 (f i j)) ≡ minus origin (sum2 (λ i j. sum2 (f i j)))
      = sum2_swap f ∙ sum2_same (λ p q. sum2 (λ i j. f i j p q)) (λ p q. minus origin (sum2 (f p q)))
      (λ p q l r. sum2_same (λ i j. f i j p q) (λ i j. minus origin (f p q i j)) (λ i j a b. anti i j p q) ∙ sum2_minus (f p q))
      ∙ sum2_minus (λ p q. sum2 (f p q)) in
      sym (sum2_same (λ i j. sum2 (f i j)) g one) ∙ half (sum2 (λ i j. sum2 (f i j))) a
    where
      two_not : pos 2 ≡ pos 0 → ⊥
      two_not e = let z : ◌≡◌ {A = ℕ} 2 0 = cc in omega arith

      half : (t : Point) → t ≡ minus origin t → t ≡ origin
      half t e =
          scale_zero (pos 2) t two_not (vring (vec t ∷ []) (k (pos 2) *v v 0) (v 0 +v v 0) tt ∙ ap (plus t) e
          ∙ vring (vec t ∷ []) (v 0 +v (o -v v 0)) o tt)
