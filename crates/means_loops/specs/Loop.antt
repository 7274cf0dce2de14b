-- What a loop and a candidate are, and the order of loops: no search, no fuel.
use Rattle.std.specs.Prelude.{◌≡◌, Bool, true, false, ◌⊎◌, ℕ, suc, ◌-◌, ◌≤◌, ◌<◌, length, get_or, take}
use mathlib.Core.List.{List, [], ◌∷◌, Memᴰ}
use Rattle.paper.specs.Drawing.{Wire, joined}
use Rattle.paper.specs.Polygon.{covers}
use Rattle.paper.specs.Loops.{Loop, level, polygon}
use Rattle.means_solid.specs.Proper.{Different}

-- a closed path of 3 to 12 different ones of n vertices, each linked to the next, in normal form; each stays level with those before it
module _ (n : ℕ) (linked : ℕ → ℕ → Bool) (flat : List ℕ → ℕ → Bool) where
  pub record Closed (q : Loop) : Type 0 where
    pub three : 3 ≤ length q
    pub twelve : length q ≤ 12
    pub inside : (i : ℕ) → i < length q → get_or q i 0 < n
    pub different : Different q
    pub edges : (i : ℕ) → suc i < length q → linked (get_or q i 0) (get_or q (suc i) 0) ≡ true
    pub closed : linked (get_or q (length q - 1) 0) (get_or q 0 0) ≡ true
    pub lowest : (i : ℕ) → 0 < i → i < length q → get_or q 0 0 < get_or q i 0
    pub direction : get_or q 1 0 < get_or q (length q - 1) 0
    pub plane : (i : ℕ) → 0 < i → i < length q → flat (take i q) (get_or q i 0) ≡ true

-- a loop of a drawing, in normal form
abbrev pub IsLoop : Wire → Loop → Type 0
IsLoop d q = Closed (length d.vertices) (joined d) (level d) q

-- "Candidates are the loops that cover no other loop"
pub record IsCandidate (d : Wire) (q : Loop) : Type 0 where
  pub loop : IsLoop d q
  pub bare : (r : Loop) → IsLoop d r → (r ≡ q → ⊥) → covers (polygon d q) (polygon d r) ≡ false

-- a comes before b: "comparing these lists number by number; a list that is the beginning of another comes first"
unfoldable pub Before : Loop → Loop → Type 0
Before [] [] = ⊥
Before [] (y ∷ b) = Unit {0}
Before (x ∷ a) [] = ⊥
Before (x ∷ a) (y ∷ b) = (x < y) ⊎ ((x ≡ y) × Before a b)

-- each comes before all that follow
unfoldable pub Ascending : List Loop → Type 0
Ascending [] = Unit {0}
Ascending (a ∷ l) = ((b : Loop) → Memᴰ b l → Before a b) × Ascending l
