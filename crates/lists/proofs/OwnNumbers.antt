-- Numbers below m that each have a number of their own below n: m is at most n; and where m is n, each number is had.
use mathlib.Core.Path.{◌≡◌, sym, ◌∙◌, subst}
use mathlib.Core.Logic.{◌⊎◌, inl, inr}
use Prim.Native.Nat.{ℕ, zero, suc, ◌≤◌, ◌<◌}
use native.Mathlib.Omega.{arith}
use native.Mathlib.Decide.{dec_lt, ℕ_discrete}

-- each of the first n has a number of its own
abbrev pub OwnNumbers : ℕ → (ℕ → ℕ) → Type 0
OwnNumbers n f = (i j : ℕ) → i < n → j < n → f i ≡ f j → i ≡ j

lesser : (a b : ℕ) → a < suc b → (a ≡ b → ⊥) → a < b
lesser a b h e = go (dec_lt a b)
  where
    go : Dec (a < b) → a < b
    go (yes l) = l
    go (no l) = absurd (e (omega arith))

-- the number n is taken out: whoever had it gets what the last one had
out : (f : ℕ → ℕ) (n last i : ℕ) → Dec (f i ≡ n) → ℕ
out f n last i (yes e) = f last
out f n last i (no e) = f i

-- m different ones among n
pub at_most : (m n : ℕ) (f : ℕ → ℕ) → ((i : ℕ) → i < m → f i < n) → OwnNumbers m f → m ≤ n
unfolding out
at_most zero n f h u = omega arith
at_most (suc m) zero f h u = absurd (omega (arith, h 0 (omega arith)))
at_most (suc m) (suc n) f h u =
    let r = at_most m n (λ i. out f n m i (ℕ_discrete (f i) n)) (λ i l. low i l (ℕ_discrete (f i) n))
    (λ i j li lj e. one i j li lj (ℕ_discrete (f i) n) (ℕ_discrete (f j) n) e) in
    omega arith
  where
    low : (i : ℕ) → i < m → (d : Dec (f i ≡ n)) → out f n m i d < n
    low i l (yes e) = go (ℕ_discrete (f m) n)
      where
        go : Dec (f m ≡ n) → f m < n
        go (yes q) = absurd (omega (arith, u i m (omega arith) (omega arith) (e ∙ sym q)))
        go (no q) = lesser (f m) n (h m (omega arith)) q
    low i l (no e) = lesser (f i) n (h i (omega arith)) e

    one : (i j : ℕ) → i < m → j < m → (d : Dec (f i ≡ n)) (c : Dec (f j ≡ n)) → out f n m i d ≡ out f n m j c → i ≡ j
    one i j li lj (yes a) (yes b) e = u i j (omega arith) (omega arith) (a ∙ sym b)
    one i j li lj (yes a) (no b) e = absurd (omega (arith, u m j (omega arith) (omega arith) e))
    one i j li lj (no a) (yes b) e = absurd (omega (arith, u i m (omega arith) (omega arith) e))
    one i j li lj (no a) (no b) e = u i j (omega arith) (omega arith) e

-- m with a partner each among n, no two with the same: m is at most n
pub partners : (m n : ℕ) (R : ℕ → ℕ → Type 0) → ((i : ℕ) → i < m → (j : ℕ) × (j < n) × R i j)
    → ((i j k : ℕ) → i < m → j < m → R i k → R j k → i ≡ j) → m ≤ n
partners m n R f u = at_most m n (λ i. to i (dec_lt i m)) (λ i l. low i l (dec_lt i m))
    (λ i j li lj e. u i j (to i (dec_lt i m)) li lj (has i li (dec_lt i m)) (subst (λ (k : ℕ). R j k) (sym e) (has j lj (dec_lt j m))))
  where
    to : (i : ℕ) → Dec (i < m) → ℕ
    to i (yes h) = (f i h).0
    to i (no h) = 0

    low : (i : ℕ) → i < m → (d : Dec (i < m)) → to i d < n
    low i l (yes h) = (f i h).1
    low i l (no h) = absurd (h l)

    has : (i : ℕ) → i < m → (d : Dec (i < m)) → R i (to i d)
    has i l (yes h) = (f i h).2
    has i l (no h) = absurd (h l)

-- who has the number u, or that nobody below n does
found : (f : ℕ → ℕ) (u n : ℕ) → ((v : ℕ) × (v < n) × (f v ≡ u)) ⊎ ((v : ℕ) → v < n → f v ≡ u → ⊥)
found f u zero = inr (λ v h e. absurd (omega arith))
found f u (suc n) = go (ℕ_discrete (f n) u) (found f u n)
  where
    go : Dec (f n ≡ u) → ((v : ℕ) × (v < n) × (f v ≡ u)) ⊎ ((v : ℕ) → v < n → f v ≡ u → ⊥)
        → ((v : ℕ) × (v < suc n) × (f v ≡ u)) ⊎ ((v : ℕ) → v < suc n → f v ≡ u → ⊥)
    go (yes e) r = inl (n, omega arith, e)
    go (no e) (inl w) = inl (w.0, omega (arith, w.1), w.2)
    go (no e) (inr none) = inr (λ v h p. none v (lesser v n h (λ q. e (subst (λ (k : ℕ). f k ≡ u) q p))) p)

-- each is had: one that nobody has could be given to one more
pub onto : (n : ℕ) (f : ℕ → ℕ) → ((v : ℕ) → v < n → f v < n) → OwnNumbers n f → (u : ℕ) → u < n → (v : ℕ) × (v < n) × (f v ≡ u)
onto n f low one u h = go (found f u n)
  where
    more : (v : ℕ) → Dec (v < n) → ℕ
    more v (yes l) = f v
    more v (no l) = u

    go : ((v : ℕ) × (v < n) × (f v ≡ u)) ⊎ ((v : ℕ) → v < n → f v ≡ u → ⊥) → (v : ℕ) × (v < n) × (f v ≡ u)
    go (inl w) = w
    go (inr none) =
        absurd (omega (
          arith,
          at_most (suc n) n (λ v. more v (dec_lt v n)) (λ v l. below v (dec_lt v n))
              (λ i j li lj e. apart i j li lj (dec_lt i n) (dec_lt j n) e),
        ))
      where
        below : (v : ℕ) (d : Dec (v < n)) → more v d < n
        below v (yes l) = low v l
        below v (no l) = h

        apart : (i j : ℕ) → i < suc n → j < suc n → (d : Dec (i < n)) (c : Dec (j < n)) → more i d ≡ more j c → i ≡ j
        apart i j hi hj (yes a) (yes b) e = one i j a b e
        apart i j hi hj (yes a) (no b) e = absurd (none i a e)
        apart i j hi hj (no a) (yes b) e = absurd (none j b (sym e))
        apart i j hi hj (no a) (no b) e = omega arith
