-- A volume is a number, since what is divided by is one and not 0: so it has bits.
use mathlib.Core.Bool.{Bool, true, false, not, cond}
use mathlib.Core.Path.{◌≡◌, refl, sym, ap, ◌∙◌, subst}
use Prim.Native.Nat.{ℕ, zero, suc, ◌+◌, ◌-◌, ◌*◌, ◌/◌, ◌%◌, ◌^◌, compare}
use lib.Dec.{T, ltb}
use lib.IntN.{pos}
use lib.Ieee.{Float, nan, inf, fin, Format, binary64, prec, emax, low, unlike, up, down, size, nearest}
use lib.Ieee.{is_nan, odd, units, round, div, of_int}
use Rattle.paper.specs.Reading.{volume, reading_of, reading_says}
use Rattle.paper.specs.declared.Conversion.{Conversion}
use Rattle.std.specs.Prelude.{Ok, Err}
use Rattle.paper.specs.Refusals.{Reading}
use Rattle.paper.specs.declared.Number.{Number}
use Rattle.clerk_reply.specs.Replies.{shown_words, reading_words}

-- ---- what is rounded is a number or an infinity

odd_number : (d : ℕ) (s : Bool) (q k l : ℕ) → is_nan (odd d s q k l) ≡ false
unfolding odd is_nan
odd_number d s zero k l = refl
odd_number d s (suc q) k l = refl

either_number : (b s : Bool) (x : Float) → is_nan x ≡ false → is_nan (cond b x (inf s)) ≡ false
unfolding is_nan
either_number true s x h = h
either_number false s x h = refl

units_number : (f : Format) (s : Bool) (q k : ℕ) → is_nan (units f s q k) ≡ false
unfolding units
units_number f s q k =
    either_number (ltb (q * 2 ^ k) (2 ^ (low f + suc (emax f)))) s (odd (suc (prec f)) s q k (low f))
    (odd_number (suc (prec f)) s q k (low f))

round_number : (f : Format) (s : Bool) (a b : ℕ) → is_nan (round f s a b) ≡ false
unfolding round
round_number f s a b =
    let n = a * 2 ^ low f in
    let k = size (n / b) - prec f in
    let u = b * 2 ^ k in
    units_number f s (nearest (n / u) (compare (n % u * 2) u)) k

-- 6,000,000 is 46,875 * 2 ^ 7
divided : (x : Float) → is_nan x ≡ false → is_nan (div binary64 x (fin false 46875 (pos 7))) ≡ false
unfolding div is_nan
divided nan h = h
divided (inf s) h = refl
divided (fin s m e) h = round_number binary64 (unlike s false) (m * up e * down (pos 7)) (46875 * up (pos 7) * down e)

volume-number : (six : ℕ) → is_nan (volume six) ≡ false
unfolding volume of_int
volume-number six = divided (of_int binary64 (pos six)) (round_number binary64 false six 1)

-- ---- of a reading

same : {x v : Float} → ◌≡◌ {A = Reading} (Ok x) (Ok v) → x ≡ v
same e = cc

never : {n : Number} {v : Float} → ◌≡◌ {A = Reading} (Err n) (Ok v) → ⊥
never e = cc

pub volume-has-bits : (c : Conversion) (v : Float) → ◌≡◌ {A = Reading} (reading_of c) (Ok v) → T (not (is_nan v))
unfolding reading_of
volume-has-bits (Conversion.One l k w six) v e =
    subst (λ (b : Bool). T (not b)) (sym (volume-number six) ∙ ap is_nan (same e)) tt
volume-has-bits (Conversion.Several l k w n) v e = absurd (never e)
volume-has-bits (Conversion.NoSolid l k w) v e = absurd (never e)
volume-has-bits (Conversion.Many l k w) v e = absurd (never e)
volume-has-bits (Conversion.TooLong l k w) v e = absurd (never e)
volume-has-bits (Conversion.Refused r) v e = absurd (never e)

pub words_are : (c : Conversion) {r : Reading} → reading_of c ≡ r → shown_words (reading_says r) ≡ reading_words c
words_are c e = sym (ap (λ (r : Reading). shown_words (reading_says r)) e)
