-- A reading shown in a lent double, as far as one was lent.
use mathlib.Core.List.{List, [], ◌∷◌, ◌++◌}
use mathlib.Core.Path.{◌≡◌, refl, sym, ap, subst}
use Prim.Native.Nat.{ℕ, ◌≤◌, ◌<◌}
use native.Mathlib.Omega.{arith}
use lib.Ieee.{Float}
use lib.ListN.{length, set}
use lib.Seq.{take-nil}
use Rattle.paper.specs.Reading.{Shown, reading_of, reading_says}
use Rattle.paper.specs.Conversion.{Converted}
use Rattle.std.specs.Prelude.{Ok, Err}
use Rattle.paper.specs.Refusals.{value_of, Reading}
use Rattle.paper.specs.declared.Number.{Number}
use Rattle.assess.specs.Assessed.{Assessed}
use Rattle.export_words.specs.Volume.{Shows, AssessesAs}

-- of one that is known to be another
shows_as : {r q : Reading} {n : ℕ} {volume₀ volume : List Float} → r ≡ q → Shows (reading_says q) n volume₀ volume
    → Shows (reading_says r) n volume₀ volume
shows_as {r} {q} {n} {volume₀} {volume} e h = subst (λ (s : Shown). Shows s n volume₀ volume) (sym (ap reading_says e)) h

pub volume_shown : {r : Reading} (v : Float) (volume₀ : List Float) → 0 < length volume₀ → r ≡ Ok v
    → Shows (reading_says r) 0 volume₀ (set volume₀ 0 v)
volume_shown v [] h e = absurd (omega (arith, h))
volume_shown v (x ∷ xs) h e =
    shows_as e (record { number_is = refl; volume_is = ap (λ (l : List Float). v ∷ (l ++ xs)) (sym (take-nil (length xs))) })

pub none_lent : {r : Reading} (v : Float) (volume₀ : List Float) → length volume₀ ≤ 0 → r ≡ Ok v
    → Shows (reading_says r) 0 volume₀ volume₀
none_lent v [] h e = shows_as e (record { number_is = refl; volume_is = refl })
none_lent v (x ∷ xs) h e = absurd (omega (arith, h))

pub none_shown : {r : Reading} (n : Number) (volume₀ : List Float) → r ≡ Err n → Shows (reading_says r) (value_of n) volume₀ volume₀
none_shown n volume₀ e =
    shows_as e (record { number_is = refl; volume_is = ap (λ (l : List Float). l ++ volume₀) (sym (take-nil (length volume₀))) })

-- the reading of any rooms that are large enough
pub assesses : {conversion : List ℕ → List ℕ → Converted} {r : Reading} {n : ℕ} {volume₀ volume : List Float} → Assessed conversion r
    → Shows (reading_says r) n volume₀ volume → AssessesAs conversion n volume₀ volume
assesses {n = n} {volume₀ = volume₀} {volume = volume} a h faces solids f s =
    subst (λ (x : Reading). Shows (reading_says x) n volume₀ volume) (a.reads faces solids f s).is h
