-- What the numbers and values of an answer tell: the first check that applies, and which case of the enum it is.
use mathlib.Core.Path.{◌≡◌, refl, sym, ap, ◌∙◌}
use mathlib.Core.Bool.{cond}
use mathlib.Core.List.{List, [], ◌∷◌}
use mathlib.Core.Option.{Option, none, some}
use Prim.Native.Nat.{ℕ, ◌<◌}
use native.Mathlib.Omega.{arith}
use lib.Dec.{eqb}
use lib.Ieee.{Float}
use Rattle.paper.specs.Refusals as No
use Rattle.paper.specs.Refusals.{value_of, Check, check, first_of, Answer, Fine, Reading, Verdict, Written}
use Rattle.paper.specs.Reading.{Said, Shown, first_said, answer_says, written_says, conversion_says, verdict_says, reading_says}
use Rattle.paper.specs.declared.Number.{Number}
use Rattle.paper.specs.declared.Refusal.{Refusal}
use Rattle.paper.specs.declared.Drawing.{Drawing}
use Rattle.paper.specs.declared.FaceRows.{FaceRows}
use Rattle.paper.specs.Sheet.{sheet_as}
use Rattle.paper.specs.FaceList.{faces_as}
use Rattle.paper_laws.proofs.Values.{number_of, number-back, value_told}
use Rattle.std.specs.Prelude.{Result, Ok, Err}
use Rattle.paper.specs.declared.Conversion.{Conversion}

-- ---- the first check, as it is said

pub answer-said : (cs : List Check) → answer_says (first_of cs) ≡ first_said cs []
unfolding first_of first_said
answer-said [] = refl
answer-said (check n none ∷ cs) = answer-said cs
answer-said (check n (some p) ∷ cs) = refl

-- a writer: `to` is what it says for each answer of its checks
pub written-said : (to : Answer → Written) (size : ℕ) → to Fine ≡ Ok size
    → ((r : Refusal) → to (Err r) ≡ Err r)
    → (cs : List Check) → written_says (to (first_of cs)) ≡ first_said cs (size ∷ [])
unfolding first_of first_said
written-said to size p q [] = λ i. written_says (p i)
written-said to size p q (check n none ∷ cs) = written-said to size p q cs
written-said to size p q (check n (some k) ∷ cs) = λ i. written_says (q (record { number = n; place = k }) i)

-- ---- number, place and values tell which answer it is

said-number : {a b : Said} → a ≡ b → a.number ≡ b.number
said-number e = λ i. (e i).number

-- of answers whose refusals have a number above 0
pub answer-told : (a b : Answer) → ((r : Refusal) → a ≡ Err r → 0 < value_of r.number)
    → ((r : Refusal) → b ≡ Err r → 0 < value_of r.number)
    → answer_says a ≡ answer_says b → a ≡ b
answer-told (Ok _) (Ok _) f g e = refl
answer-told (Ok _) (Err r) f g e = absurd (omega (arith, g r refl, said-number e))
answer-told (Err r) (Ok _) f g e = absurd (omega (arith, f r refl, said-number e))
answer-told (Err r) (Err s) f g e = λ i. Err (record { number = value_told r.number s.number (said-number e) i; place = (e i).place })

pub verdict-told : (a b : Verdict) → ((r : Refusal) → a ≡ Err r → 0 < value_of r.number)
    → ((r : Refusal) → b ≡ Err r → 0 < value_of r.number)
    → verdict_says a ≡ verdict_says b → a ≡ b
verdict-told (Ok _) (Ok _) f g e = refl
verdict-told (Ok _) (Err r) f g e = absurd (omega (arith, g r refl, said-number e))
verdict-told (Err r) (Ok _) f g e = absurd (omega (arith, f r refl, said-number e))
verdict-told (Err r) (Err s) f g e = λ i. Err (record { number = value_told r.number s.number (said-number e) i; place = (e i).place })

-- The others can be told from what is said alone: each is read back from it

writtenBack : Said → Written
writtenBack s = go s.values
  where
    go : List ℕ → Written
    go [] = Err (record { number = number_of s.number; place = s.place })
    go (n ∷ vs) = Ok n

written_back : (a : Written) → writtenBack (written_says a) ≡ a
unfolding writtenBack
written_back (Ok n) = refl
written_back (Err r) = ap (λ (n : Number). Err (record { number = n; place = r.place })) (number-back r.number)

pub written-told : (a b : Written) → written_says a ≡ written_says b → a ≡ b
written-told a b e = sym (written_back a) ∙ ap writtenBack e ∙ written_back b

conversionBack : Said → Conversion
conversionBack s = go s.values
  where
    ended : ℕ → ℕ → Conversion
    ended l c =
        cond (eqb s.number (value_of No.NoSolid)) (Conversion.NoSolid l c s.place)
        (cond (eqb s.number (value_of No.Many)) (Conversion.Many l c s.place) (Conversion.TooLong l c s.place))

    go : List ℕ → Conversion
    go [] = Conversion.Refused (record { number = number_of s.number; place = s.place })
    go (l ∷ []) = ended l 0
    go (l ∷ (c ∷ [])) = ended l c
    go (l ∷ (c ∷ (w ∷ []))) = ended l c
    go (l ∷ (c ∷ (w ∷ (n ∷ [])))) = Conversion.Several l c w n
    go (l ∷ (c ∷ (w ∷ (n ∷ (six ∷ vs))))) = Conversion.One l c w six

conversion-back : (a : Conversion) → conversionBack (conversion_says a) ≡ a
unfolding conversionBack
conversion-back (Conversion.One l c w six) = refl
conversion-back (Conversion.Several l c w n) = refl
conversion-back (Conversion.NoSolid l c w) = refl
conversion-back (Conversion.Many l c w) = refl
conversion-back (Conversion.TooLong l c w) = refl
conversion-back (Conversion.Refused r) =
    ap (λ (n : Number). Conversion.Refused (record { number = n; place = r.place })) (number-back r.number)

pub conversion-told : (a b : Conversion) → conversion_says a ≡ conversion_says b → a ≡ b
conversion-told a b e = sym (conversion-back a) ∙ ap conversionBack e ∙ conversion-back b

readingBack : Shown → Reading
readingBack s = go s.shown
  where
    go : Option Float → Reading
    go none = Err (number_of s.number)
    go (some v) = Ok v

reading-back : (a : Reading) → readingBack (reading_says a) ≡ a
unfolding readingBack
reading-back (Ok v) = refl
reading-back (Err n) = ap (λ (m : Number). Err m) (number-back n)

pub reading-told : (a b : Reading) → reading_says a ≡ reading_says b → a ≡ b
reading-told a b e = sym (reading-back a) ∙ ap readingBack e ∙ reading-back b

-- ---- the document's record of what a reader answers tells the answer

fine-refused : {A : Type 0} (r : Refusal) → Fine ≡ Err r → A
fine-refused r e = let z : ◌≡◌ {A = ℕ} 0 1 = cc in absurd (omega arith)

abbrev refusal : Answer → Refusal → Refusal
refusal (Ok _) r = r
refusal (Err s) r = s

pub sheet-told : (a b : Result Drawing Refusal) → sheet_as a ≡ sheet_as b → a ≡ b
sheet-told (Ok d) (Ok c) e = λ i. Ok (e i).drawing
sheet-told (Ok d) (Err r) e = fine-refused r (λ i. (e i).answer)
sheet-told (Err r) (Ok d) e = fine-refused r (λ i. (sym e i).answer)
sheet-told (Err r) (Err s) e = λ i. Err (refusal (e i).answer r)

pub faces-told : (a b : Result FaceRows Refusal) → faces_as a ≡ faces_as b → a ≡ b
faces-told (Ok f) (Ok g) e = λ i. Ok (record { count = (e i).count; rows = (e i).rows })
faces-told (Ok f) (Err r) e = fine-refused r (λ i. (e i).answer)
faces-told (Err r) (Ok f) e = fine-refused r (λ i. (sym e i).answer)
faces-told (Err r) (Err s) e = λ i. Err (refusal (e i).answer r)
