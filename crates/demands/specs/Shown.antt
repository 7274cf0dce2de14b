-- What is read and what the desk prints of a drawing that was shifted or mirrored, or with a higher limit.
use Rattle.std.specs.Prelude.{◌≡◌, cond, List, map, ℕ, ◌≤◌, eqb, ℤ}
use Rattle.paper.specs.Numbers.{most_work}
use Rattle.paper.specs.Reading.{reading_of}
use Rattle.paper.specs.Desk.{desk_text}
use Rattle.paper.specs.declared.Conversion.TheVariants as Conversion
use Rattle.paper.specs.declared.Point.{Point}
use Rattle.paper.specs.Refusals.{Reading}
use Rattle.means_moves.specs.Moves.{shift, mirror}
use Rattle.means_moves.specs.Lists.{each_vertex, WithinRange}
use Rattle.demands.specs.Input.{Input, lent, sheet, converted}
use Rattle.demands.specs.Moved.{Made}

-- the reading of what conversion says
abbrev pub reading_for : Input → ℕ → List ℕ → List ℕ → Reading
reading_for x limit faces solids = reading_of (converted x limit faces solids).answer

-- a byte of a text, with plus (43) and minus (45) exchanged
unfoldable pub other_sign : ℕ → ℕ
other_sign b = cond (eqb b 43) 45 (cond (eqb b 45) 43 b)

pub record ShownAlike : Type 0 where
  -- "a drawing shifted by whole centimetres within the range gives the same answer, work, bit sets and volumes": so the same reading,
  -- also of lent lists with any other fault, and of a sheet the same text to the byte
  pub shift_lists : (w : Point) (xyz : List ℤ) (ends : List ℕ) → WithinRange xyz → WithinRange (each_vertex (shift w) xyz)
      → (limit : ℕ) (faces solids : List ℕ)
      → reading_for (lent (each_vertex (shift w) xyz) ends) limit faces solids ≡ reading_for (lent xyz ends) limit faces solids
  pub shift_both : (w : Point) (x y : Input) → Made (shift w) x y → (limit : ℕ) (faces solids : List ℕ)
      → reading_for y limit faces solids ≡ reading_for x limit faces solids
  pub shift_desk : (w : Point) (s t : List ℕ) → Made (shift w) (sheet s) (sheet t) → desk_text t ≡ desk_text s
  -- "Mirrored in x, it gives the same answer, work, taken sets and volumes, with every taken face's direction bit flipped": the text has
  -- minus for plus, plus for minus, and is otherwise the same
  pub mirror_lists : (xyz : List ℤ) (ends : List ℕ) (limit : ℕ) (faces solids : List ℕ)
      → reading_for (lent (each_vertex mirror xyz) ends) limit faces solids ≡ reading_for (lent xyz ends) limit faces solids
  pub mirror_both : (x y : Input) → Made mirror x y → (limit : ℕ) (faces solids : List ℕ)
      → reading_for y limit faces solids ≡ reading_for x limit faces solids
  pub mirror_desk : (s t : List ℕ) → Made mirror (sheet s) (sheet t) → desk_text t ≡ map other_sign (desk_text s)
  -- "And a higher allowed work limit changes no answer but TooLong": of readings; the desk has one limit always, the highest
  pub higher : (x : Input) (a b : ℕ) → a ≤ b → b ≤ most_work → (faces solids : List ℕ)
      → ((l c w : ℕ) → (converted x a faces solids).answer ≡ Conversion.TooLong l c w → ⊥)
      → reading_for x b faces solids ≡ reading_for x a faces solids
