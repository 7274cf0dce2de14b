-- How long the desk's text is at most: a number has at most 20 digits, a candidate's number at most 2.
use mathlib.Core.Bool.{Bool, true, false, cond}
use mathlib.Core.List.{List, [], ◌∷◌, ◌++◌}
use mathlib.Core.Path.{◌≡◌, refl, ap}
use Prim.Native.Nat.{ℕ, zero, suc, ◌+◌, ◌*◌, ◌/◌, ◌%◌, ◌≤◌, ◌<◌}
use native.Mathlib.Decide.{dec_lt}
use native.Mathlib.Omega.{arith}
use lib.Dec.{ltb}
use lib.ListN.{length, drop, length-append}
use Rattle.sets.specs.Word.{dig}
use Rattle.paper.specs.Numbers.{most_solids, set_words, solid_words}
use Rattle.paper.specs.Record.{taken_in, turned_in, six_in}
use Rattle.paper.specs.Desk.{text, decimal_in, decimal, signed, faces_text, solid_text, solids_text, head_text, answer_text}
use Rattle.paper.specs.declared.Conversion.{Conversion}
use Rattle.paper_laws.proofs.Record.{digits_length}
use Rattle.desk_lines.specs.Put.{digit_text}
use Rattle.desk_lines.proofs.Decimal.{decimal-one, decimal_more}
use Rattle.paper.specs.Refusals.{value_of}
use Rattle.desk_text.specs.Texts.{text_room_size, digit_room, head_room, line_room}

-- ---- numbers

in_places : (k n : ℕ) → length (decimal_in k n) ≤ k
unfolding decimal_in
in_places zero n = omega arith
in_places (suc k) n = go (ltb n 10) (in_places k (n / 10))
  where
    go : (b : Bool) → length (decimal_in k (n / 10)) ≤ k
        → length (cond b ((48 + n) ∷ []) (decimal_in k (n / 10) ++ ((48 + n % 10) ∷ []))) ≤ suc k
    go true h = omega arith
    go false h = omega (arith, length-append (decimal_in k (n / 10)) ((48 + n % 10) ∷ []))

number_short : (n : ℕ) → length (decimal n) ≤ digit_room
unfolding decimal
number_short n = in_places digit_room n

two_digits : (n : ℕ) → n < 100 → length (decimal n) ≤ 2
two_digits n h = go (dec_lt n 10)
  where
    go : Dec (n < 10) → length (decimal n) ≤ 2
    go (yes s) = omega (arith, ap length (decimal-one n s))
    go (no s) =
        let t : 10 ≤ n = omega (arith, s) in
        omega (
          arith,
          ap length (decimal_more n (omega arith) t),
          length-append (decimal (n / 10)) (digit_text (n % 10)),
          ap length (decimal-one (n / 10) (omega arith)),
        )

-- ---- lines

sign_short : (b : Bool) → length (signed b) ≡ 2
unfolding signed text
sign_short true = refl
sign_short false = refl

faces_short : (k : ℕ) (ts us : List Bool) → k + length ts ≤ 100 → length (faces_text k ts us) ≤ 4 * length ts
unfolding faces_text
faces_short k [] us h = omega arith
faces_short k (true ∷ ts) us h =
    omega (
      arith,
      sign_short (dig us k),
      two_digits k (omega arith),
      faces_short (suc k) ts us (omega arith),
      length-append (signed (dig us k) ++ decimal k) (faces_text (suc k) ts us),
      length-append (signed (dig us k)) (decimal k),
    )
faces_short k (false ∷ ts) us h = omega (arith, faces_short (suc k) ts us (omega arith))

solid_short : (i : ℕ) (ws : List ℕ) → length (solid_text i ws) ≤ line_room
unfolding solid_text text
solid_short i ws =
    let n = digits_length set_words 0 ws in
    let faces = faces_short 0 (taken_in ws) (turned_in ws) (omega (arith, n)) in
    simp length-append (omega (arith, number_short i, number_short (six_in ws), n, faces))

solids_short : (i n : ℕ) (ws : List ℕ) → length (solids_text i n ws) ≤ line_room * n
unfolding solids_text
solids_short i zero ws = omega arith
solids_short i (suc n) ws =
    omega (
      arith,
      solid_short i ws,
      solids_short (suc i) n (drop solid_words ws),
      length-append (solid_text i ws) (solids_text (suc i) n (drop solid_words ws)),
    )

head_short : (v e l c w : ℕ) → length (head_text v e l c w) ≤ head_room
unfolding head_text text
head_short v e l c w =
    simp length-append (omega (arith, number_short v, number_short e, number_short l, number_short c, number_short w))

-- ---- the text

pub answer_short : (v e : ℕ) (a : Conversion) (ws : List ℕ) → ((l c w n : ℕ) → a ≡ Conversion.Several l c w n → n ≤ most_solids)
    → length (answer_text v e a ws) ≤ text_room_size
unfolding answer_text text
answer_short v e (Conversion.One l c w six) ws f = simp length-append (omega (arith, head_short v e l c w, solids_short 1 1 ws))
answer_short v e (Conversion.Several l c w n) ws f =
    simp length-append (omega (arith, head_short v e l c w, number_short n, solids_short 1 n ws, f l c w n refl))
answer_short v e (Conversion.NoSolid l c w) ws f = simp length-append (omega (arith, head_short v e l c w))
answer_short v e (Conversion.Many l c w) ws f = simp length-append (omega (arith, head_short v e l c w))
answer_short v e (Conversion.TooLong l c w) ws f = simp length-append (omega (arith, head_short v e l c w))
answer_short v e (Conversion.Refused r) ws f = simp length-append (omega (arith, number_short (value_of r.number), number_short r.place))
