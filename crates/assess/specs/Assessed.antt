-- The reading of a conversion whose rooms are large enough, whatever they hold.
use Rattle.std.specs.Prelude.{List, ◌≡◌, ℕ, ◌≤◌, length}
use Rattle.paper.specs.Numbers.{face_room, solid_room}
use Rattle.paper.specs.Conversion.{Converted}
use Rattle.paper.specs.Reading.{conversion_says, reading_of, reading_says}
use Rattle.paper.specs.declared.Conversion.{Conversion}
use Rattle.paper.specs.declared.Conversion.TheVariants as Conversion
use Rattle.paper.specs.Refusals.{Reading}
use Rattle.reading.specs.Exact.{Exactly}
use Rattle.reading.specs.Shown.{shown_of}

-- the reading of an answer, by its number and value too; a volume is six volumes divided once, both held exactly
pub record ReadsConversion (c : Conversion) (r : Reading) : Type 0 where
  pub is : r ≡ reading_of c
  pub said : reading_says r ≡ shown_of (conversion_says c)
  pub exact : (l k w six : ℕ) → c ≡ Conversion.One l k w six → Exactly six r

pub record Assessed (conversion : List ℕ → List ℕ → Converted) (r : Reading) : Type 0 where
  pub reads : (faces solids : List ℕ) → face_room ≤ length faces → solid_room ≤ length solids → ReadsConversion (conversion faces solids).answer r
