-- A value that equals the paper's reading keeps all that the contract promises.
use Rattle.std.proofs.Common.{◌≡◌, sym, refl, ap, ◌∙◌, subst}
use Rattle.paper.specs.Reading.{conversion_says, reading_of, reading_says}
use Rattle.paper.specs.declared.Conversion.{Conversion}
use Rattle.paper.specs.Refusals.{Reading}
use Rattle.reading.specs.Exact.{ExactVolume}
use Rattle.reading.specs.Shown.{shown_of}
use Rattle.reading.proofs.Exact.{exact-volume}

pub as_said : (c : Conversion) → reading_says (reading_of c) ≡ shown_of (conversion_says c)
unfolding reading_of
as_said (Conversion.One l c w six) = refl
as_said (Conversion.Several l c w n) = refl
as_said (Conversion.NoSolid l c w) = refl
as_said (Conversion.Many l c w) = refl
as_said (Conversion.TooLong l c w) = refl
as_said (Conversion.Refused r) = refl

pub promised : (c : Conversion) (r : Reading) → r ≡ reading_of c
    → (r ≡ reading_of c) × (reading_says r ≡ shown_of (conversion_says c)) × ExactVolume c r
promised c r is = (is, ap reading_says is ∙ as_said c, subst (ExactVolume c) (sym is) (exact-volume c))
