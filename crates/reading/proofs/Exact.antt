-- Up to 2^53 the double of a whole number is that number, and the quotient of two such doubles is rounded once.
use Rattle.std.proofs.Common.{◌≡◌, ℕ, zero, suc, ◌*◌, ◌<◌, ◌≤◌, true, false, cond, not, T, eqb, pos, sym, ap, ◌∙◌, subst, true≢false, lt_irrefl, zero-lt-suc, mul_assoc, mul_comm, mul-pos, zero-mul, mul-one, lit<, lit≤, eqb→eq}
use lib.Dec.{not_T}
use lib.Ieee.{Float, nan, inf, fin, Format, binary64, up, down, round, div, of_int}
use lib.Ieee.Back.{round_whole}
use lib.Ieee.Bits.{cond_no}
use lib.Ieee.Exact.{HasValue}
use lib.Ieee.Fits.{up_pos, down_pos}
use lib.Ieee.Scale.{round_same}
use Rattle.paper.specs.Reading.{reading_of, volume}
use Rattle.paper.specs.declared.Conversion.{Conversion}
use Rattle.std.specs.Prelude.{Ok}
use Rattle.reading.specs.Exact.{six_per_cubic_metre, most_exact, HeldExactly, ExactVolume}

-- "both held exactly"
pub held : (n : ℕ) → n ≤ most_exact → HeldExactly n
unfolding of_int
held n h = round_whole binary64 false n h

-- x / p = a and y / q = b, so x * q / (y * p) = a / b
cross : (x p y q a b : ℕ) → x * 1 ≡ a * p → y * 1 ≡ b * q → x * q * b ≡ a * (y * p)
cross x p y q a b h k =
    let m : x ≡ a * p = sym (mul-one x) ∙ h in
    let n : b * q ≡ y = sym k ∙ mul-one y in
    mul_assoc x q b
    ∙ ap (λ (z : ℕ). x * z) (mul_comm q b ∙ n)
    ∙ ap (λ (z : ℕ). z * y) m
    ∙ mul_assoc a p y
    ∙ ap (λ (z : ℕ). a * z) (mul_comm p y)

-- what is divided by is not 0
not-zero : (n u b d : ℕ) → n * u * 1 ≡ b * d → 0 < b → 0 < d → T (not (eqb n 0))
not-zero n u b d h B D = not_T (eqb n 0) (λ z. lt_irrefl 0 (subst (λ (x : ℕ). 0 < x) (sym h ∙ none (eqb→eq n 0 z)) (mul-pos B D)))
  where
    none : n ≡ 0 → n * u * 1 ≡ 0
    none z = mul-one (n * u) ∙ ap (λ (x : ℕ). x * u) z ∙ zero-mul u

-- "rounded once": the quotient of two doubles that are whole numbers is the quotient of these numbers, rounded
pub quotient : (f : Format) (x y : Float) (a b : ℕ) → 0 < b → HasValue x false a 1 → HasValue y false b 1 → div f x y ≡ round f false a b
unfolding div
quotient f nan y a b B h k = absurd h
quotient f (inf s) y a b B h k = absurd h
quotient f (fin s m e) nan a b B h k = absurd k
quotient f (fin s m e) (inf t) a b B h k = absurd k
quotient f (fin true m e) (fin t n d) a b B h k = absurd (true≢false h.0)
quotient f (fin false m e) (fin true n d) a b B h k = absurd (true≢false k.0)
quotient f (fin false m e) (fin false n d) a b B h k =
    let above = not-zero n (up d) b (down d) k.1 B (down_pos d) in
    cond_no (eqb n 0) (cond (eqb m 0) nan (inf false)) (round f false (m * up e * down d) (n * up d * down e)) above
    ∙ round_same f false (m * up e * down d) (n * up d * down e) a b (mul-pos (mul-pos (positive n above) (up_pos d)) (down_pos e)) B
    (cross (m * up e) (down e) (n * up d) (down d) a b h.1 k.1)
  where
    positive : (n : ℕ) → T (not (eqb n 0)) → 0 < n
    positive zero p = absurd p
    positive (suc n) p = zero-lt-suc n

-- the double nearest to the quotient of six volumes and 6,000,000
pub volume_once : (six : ℕ) → six ≤ most_exact → volume six ≡ round binary64 false six six_per_cubic_metre
unfolding volume
volume_once six h =
    quotient binary64 (of_int binary64 (pos six)) (of_int binary64 (pos six_per_cubic_metre)) six six_per_cubic_metre (lit< tt) (held six h)
    (held six_per_cubic_metre (lit≤ tt))

pub exact-volume : (c : Conversion) → ExactVolume c (reading_of c)
unfolding reading_of
exact-volume c l k w six one h = record {
  dividend = held six h;
  divisor = held six_per_cubic_metre (lit≤ tt);
  once = ap reading_of one ∙ ap Ok (volume_once six h);
}
