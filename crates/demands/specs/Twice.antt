-- Two conversions side by side: what T-13's sentences say of the two answers and all four rooms.
use Rattle.std.specs.Prelude.{◌≡◌, List, ℕ, ◌≤◌, ◌<◌, pos}
use Rattle.paper.specs.Numbers.{most_work}
use Rattle.paper.specs.Points.{times}
use Rattle.paper.specs.Conversion.{Converted}
use Rattle.paper.specs.declared.Conversion.TheVariants as Conversion
use Rattle.paper.specs.declared.Point.{Point}
use Rattle.paper.specs.declared.Refusal.{Refusal}
use Rattle.means_moves.specs.Moves.{shift, mirror, Step, laid, oddly}
use Rattle.means_moves.specs.Turned.{Mirrored, Scaled}
use Rattle.means_moves.specs.Reports.{NotCut}
use Rattle.demands.specs.Input.{Input, Passes}
use Rattle.demands.specs.Walk.{Allowed}
use Rattle.demands.specs.Moved.{Made, Laid}
use Rattle.demands.specs.Renumbered.{Given, ListsAll, OneToOne}

-- x with the limit a gave r in the rooms f and u, and y with the limit b gave q in the rooms g and v
module _ (x y : Input) (a b : ℕ) (f u g v : List ℕ) where
  -- one limit, and rooms that came with the same contents
  pub record SameTerms : Type 0 where
    pub limits : b ≡ a
    pub faces : g ≡ f
    pub solids : v ≡ u

  pub record Twice (r q : Converted) : Type 0 where
    -- "shifted by whole centimetres within the range": "the same answer, work, bit sets and volumes"
    pub shifted : SameTerms → (w : Point) → Made (shift w) x y → q ≡ r
    -- "Mirrored in x": the same "with every taken face's direction bit flipped"
    pub mirrored : SameTerms → Made mirror x y → Mirrored u r q
    -- "With vertices renumbered and edges sorted again": the same rule refuses both, and "the solids are the same sets of faces under the
    -- new numbers, provided neither conversion ends in Many or TooLong", with any limits and rooms that are allowed
    pub refused : SameTerms → (new : ℕ → ℕ) → Given new x y → (n : Refusal) → r.answer ≡ Conversion.Refused n
        → (k : Refusal) × (q.answer ≡ Conversion.Refused k) × (k.number ≡ n.number)
    pub renumbered : (new : ℕ → ℕ) → Given new x y → Passes x → Allowed a f u → Allowed b g v → NotCut r.answer → NotCut q.answer
        → (s : ListsAll x u r) × (t : ListsAll y v q) × OneToOne new x y s.es t.es
    -- "a higher allowed work limit changes no answer but TooLong"
    pub higher : y ≡ x → g ≡ f → v ≡ u → a ≤ b → b ≤ most_work → ((l c w : ℕ) → r.answer ≡ Conversion.TooLong l c w → ⊥) → q ≡ r
    -- and beyond the request: laid along the axes in another way, and enlarged
    pub laid_too : SameTerms → (ss : List Step) → Made (laid ss) x y → Laid (oddly ss) u r q
    pub enlarged : SameTerms → (k : ℕ) → 0 < k → Made (times (pos k)) x y → Scaled k u r q
