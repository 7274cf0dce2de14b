-- A kind of sets, by the lists of digits that its sets stand for. Contracts say what holds of every such list: once, whatever the width.
use Rattle.std.specs.Prelude.{Bool, true, List, ◌≡◌, ℕ, suc, ◌≤◌, ◌<◌, Option, Some, None}
use Rattle.sets.specs.Word.{dig, less, only, first}

-- sets of numbers below `room`: x has the digits bs; how many are in x; the set at place k of a list of words
pub record Kind : Type 1 where
  pub Of : Type 0
  pub room : ℕ
  pub Is : Of → List Bool → Type 0
  pub size : Of → ℕ
  pub at : List ℕ → ℕ → Of

module _ (K : Kind) where
  -- k is in it
  abbrev pub Has : K.Of → ℕ → Type 0
  Has x k = (a : List Bool) → K.Is x a → dig a k ≡ true

  -- r has the digits that f makes of those of x and y
  abbrev pub Joint : K.Of → K.Of → K.Of → (List Bool → List Bool → List Bool) → Type 0
  Joint x y r f = (a b : List Bool) → K.Is x a → K.Is y b → K.Is r (f a b)

  pub record Minus (x y r : K.Of) : Type 0 where
    pub fewer : K.size r ≤ K.size x
    pub same : Joint x y r less

  pub record Counted (x : K.Of) (r : ℕ) : Type 0 where
    pub size_is : r ≡ K.size x
    pub under : r ≤ K.room

  pub record Lowest (x : K.Of) (r : ℕ) : Type 0 where
    pub narrow : r < K.room
    pub there : Has x r
    pub same : (a : List Bool) → K.Is x a → r ≡ first a

  pub record Dropped (x : K.Of) (k : ℕ) (r : K.Of) : Type 0 where
    pub fewer : Has x k → K.size r < K.size x
    pub same : (a : List Bool) → K.Is x a → K.Is r (less a (only k))

  -- r is x without its lowest
  pub record Rest (x r : K.Of) : Type 0 where
    pub one_fewer : suc (K.size r) ≡ K.size x
    pub same : (a : List Bool) → K.Is x a → K.Is r (less a (only (first a)))

  -- k was the lowest of x, and y is what is left
  pub record First (x y : K.Of) (k : ℕ) : Type 0 where
    pub some : 0 < K.size x
    pub lowest : Lowest x k
    pub dropped : Dropped x k y
    pub rest : Rest x y

  -- the lowest of x is taken out, if there is one
  abbrev pub Pops : K.Of → K.Of → Option ℕ → Type 0
  Pops x y None = (K.size x ≡ 0) × (y ≡ x)
  Pops x y (Some k) = First x y k

  -- r is the set at place k of the words, and some list's
  pub record SetAt (words : List ℕ) (k : ℕ) (r : K.Of) : Type 0 where
    pub is : r ≡ K.at words k
    pub some : (a : List Bool) × K.Is r a
