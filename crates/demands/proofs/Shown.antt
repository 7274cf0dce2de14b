-- Readings and the desk's text follow the conversion. In a mirrored drawing's text only the faces' signs differ: each candidate that is
-- printed is a taken one, and no other byte is a plus or a minus.
use mathlib.Core.Path.{◌≡◌, refl, sym, ap, ◌∙◌, subst, transport}
use mathlib.Core.Bool.{Bool, true, false, not, ◌&&◌, cond}
use mathlib.Core.List.{List, [], ◌∷◌, ◌++◌, map, map-append, flat_map, append_assoc}
use Prim.Native.String.{String}
use Prim.Native.Nat.{ℕ, zero, suc, ◌+◌, ◌*◌, ◌/◌, ◌%◌, ◌<◌}
use native.Mathlib.Omega.{arith}
use native.Mathlib.Decide.{dec_lt}
use borrow.Author.Tests.{ne_eqb}
use lib.Dec.{ltb}
use lib.ListN.{length, get_or, drop, replicate, get_or-replicate, length-replicate, get_or-eq_default, length-map}
use lib.Seq.{get_or-drop, ext_get_or, drop_at}
use Rattle.sets.specs.Word.{dig, less}
use Rattle.sets.proofs.Digits.{never, dig-less}
use Rattle.paper.specs.Record.{taken_in, turned_in, six_in}
use Rattle.paper.specs.Numbers.{most_work, face_room, solid_room, solid_words, set_words, word_bits}
use Rattle.paper.specs.Format.{vertices_in, edges_in, coordinates_in, edition_of}
use Rattle.paper.specs.Conversion.{Converted, convert_sheet}
use Rattle.paper.specs.Reading.{reading_of}
use Rattle.paper.specs.Desk.{text, decimal_in, decimal, signed, faces_text, solid_text, solids_text, head_text, answer_text, desk_text}
use Rattle.paper.specs.declared.Conversion.{Conversion}
use Rattle.paper.specs.declared.Point.{Point}
use Rattle.paper.specs.Refusals.{value_of, Reading}
use Rattle.paper_laws.proofs.Record.{digits_length, past_digit, zero_digit, entry_length, taken_in_lem, turned_in_lem, six_in_lem}
use Rattle.sheet_laws.proofs.Accepted.{length_coordinates, length-ends}
use Rattle.means_report.specs.Listed.{Entry, words_of}
use Rattle.means_report.specs.Report.{solids_for}
use Rattle.means_moves.specs.Moves.{shift, mirror}
use Rattle.means_moves.proofs.Lent.{long_each}
use Rattle.means_moves.specs.Turned.{flip}
use Rattle.demands.specs.Input.{sheet}
use Rattle.demands.specs.Moved.{Made}
use Rattle.demands.specs.Shown.{other_sign, ShownAlike}
use Rattle.demands.proofs.Moved.{shifts, mirrors, higher}

-- ---- two sheets with as many coordinates and ends have the same counts

-- the desk's rooms, of n zeros each
abbrev blank : ℕ → List ℕ
blank n = replicate n 0

module _ (by : Point → Point) (s t : List ℕ) (m : Made by (sheet s) (sheet t)) where
  vertices_same : vertices_in (edition_of t) t ≡ vertices_in (edition_of s) s
  vertices_same =
      omega (
        arith,
        length_coordinates (edition_of s) s,
        length_coordinates (edition_of t) t,
        ap length m.points,
        long_each by
            (coordinates_in (edition_of s) s),
      )

  edges_same : edges_in (edition_of t) t ≡ edges_in (edition_of s) s
  edges_same = omega (arith, length-ends (edition_of s) s, length-ends (edition_of t) t, ap length m.edges)

  -- so the text goes by what conversion says
  text_by : desk_text t
      ≡ answer_text (vertices_in (edition_of s) s) (edges_in (edition_of s) s)
      (convert_sheet t most_work (blank face_room) (blank solid_room)).answer
      (convert_sheet t most_work (blank face_room) (blank solid_room)).solids
  unfolding desk_text
  text_by i =
      let c = convert_sheet t most_work (blank face_room) (blank solid_room) in
      answer_text (vertices_same i) (edges_same i) c.answer c.solids

shift_desk : (w : Point) (s t : List ℕ) → Made (shift w) (sheet s) (sheet t) → desk_text t ≡ desk_text s
unfolding desk_text
shift_desk w s t m =
    text_by (shift w) s t m
    ∙ ap (λ (c : Converted). answer_text (vertices_in (edition_of s) s) (edges_in (edition_of s) s) c.answer c.solids)
    (shifts.both w (sheet s) (sheet t) m most_work (blank face_room) (blank solid_room))

-- ---- m is the text l with the signs exchanged: part by part

record Other (l m : List ℕ) : Type 0 where
  same : m ≡ map other_sign l

infixl 65 ◌&◌
◌&◌ : {a b c d : List ℕ} → Other a b → Other c d → Other (a ++ c) (b ++ d)
◌&◌ {a} {b} {c} {d} p q = record { same = (λ i. p.same i ++ q.same i) ∙ sym (map-append other_sign a c) }

-- words and numbers have neither sign
words : (s : String) → text s ≡ map other_sign (text s) → Other (text s) (text s)
words s e = record { same = e }

one-digit : (n : ℕ) → Other ((48 + n) ∷ []) ((48 + n) ∷ [])
unfolding other_sign
one-digit n = record { same = rw (ne_eqb (48 + n) 43 (λ e. omega arith), ne_eqb (48 + n) 45 (λ e. omega arith)) }

in_digits : (k n : ℕ) → Other (decimal_in k n) (decimal_in k n)
unfolding decimal_in
in_digits zero n = record { same = refl }
in_digits (suc k) n = go (ltb n 10) (in_digits k (n / 10))
  where
    go : (b : Bool) {l : List ℕ} → Other l l
        → Other (cond b ((48 + n) ∷ []) (l ++ ((48 + n % 10) ∷ []))) (cond b ((48 + n) ∷ []) (l ++ ((48 + n % 10) ∷ [])))
    go true p = one-digit n
    go false p = p & one-digit (n % 10)

number : (n : ℕ) → Other (decimal n) (decimal n)
unfolding decimal
number n = in_digits 20 n

-- ---- the faces: each that is printed has the other sign

sign : (b c : Bool) → c ≡ not b → Other (signed b) (signed c)
unfolding signed text other_sign
sign true c e = record { same = ap signed e }
sign false c e = record { same = ap signed e }

-- digit j of the taken ones is candidate k + j
faces : (k : ℕ) (taken ts us : List Bool) → ((j m : ℕ) → m ≡ k + j → dig taken j ≡ true → dig us m ≡ not (dig ts m))
    → Other (faces_text k taken ts) (faces_text k taken us)
unfolding faces_text
faces k [] ts us h = record { same = refl }
faces k (b ∷ taken) ts us h =
    go b (h 0 k (omega arith)) (faces (suc k) taken ts us (λ j m z e. h (suc j) m (omega arith) e))
  where
    go : (b : Bool) → (b ≡ true → dig us k ≡ not (dig ts k)) → Other (faces_text (suc k) taken ts) (faces_text (suc k) taken us)
        → Other (faces_text k (b ∷ taken) ts) (faces_text k (b ∷ taken) us)
    go false f r = unfold faces_text in r
    go true f r = unfold faces_text in sign (dig ts k) (dig us k) (f refl) & number k & r

-- ---- the solids: of each the taken faces and six volumes are the same, and each taken face is the other way round

solid : (i : ℕ) (ws vs : List ℕ) → taken_in vs ≡ taken_in ws → six_in vs ≡ six_in ws
    → ((k : ℕ) → dig (taken_in ws) k ≡ true → dig (turned_in vs) k ≡ not (dig (turned_in ws) k)) → Other (solid_text i ws) (solid_text i vs)
unfolding solid_text text other_sign
solid i ws vs taken six h =
    subst (λ (l : List Bool). Other (solid_text i ws) (with l (six_in vs))) (sym taken)
    (subst (λ (n : ℕ). Other (solid_text i ws) (with (taken_in ws) n)) (sym six)
    (words "solid " refl & number i & words " sixvolumes " refl & number (six_in ws) & words " faces" refl
    & faces 0 (taken_in ws) (turned_in ws) (turned_in vs) turns & words "\n" refl))
  where
    with : List Bool → ℕ → List ℕ
    with l n = text "solid " ++ decimal i ++ text " sixvolumes " ++ decimal n ++ text " faces" ++ faces_text 0 l (turned_in vs) ++ text "\n"

    turns : (j m : ℕ) → m ≡ 0 + j → dig (taken_in ws) j ≡ true → dig (turned_in vs) m ≡ not (dig (turned_in ws) m)
    turns j m z e = let q : m ≡ j = omega arith in h m (ap (dig (taken_in ws)) q ∙ e)

-- a solid and the same with its taken faces turned, whatever comes behind
module _ (e : Entry) (more : List ℕ) (more' : List ℕ) where
  abbrev ws : List ℕ
  ws = words_of e ++ more

  abbrev vs : List ℕ
  vs = words_of (flip e) ++ more'

  abbrev other : List Bool
  other = less e.taken e.turned

  same_taken : taken_in vs ≡ taken_in ws
  same_taken =
      ext_get_or false (taken_in vs) (taken_in ws) (digits_length set_words 0 vs ∙ sym (digits_length set_words 0 ws))
      (λ k l. let n : k < word_bits * set_words = omega (arith, l, digits_length set_words 0 vs) in
      taken_in_lem e.taken other e.six more' k n ∙ sym (taken_in_lem e.taken e.turned e.six more k n))

  turned_over : (k : ℕ) → dig (taken_in ws) k ≡ true → dig (turned_in vs) k ≡ not (dig (turned_in ws) k)
  turned_over k t = go (dec_lt k (word_bits * set_words))
    where
      go : Dec (k < word_bits * set_words) → dig (turned_in vs) k ≡ not (dig (turned_in ws) k)
      go (yes l) =
          turned_in_lem e.taken other e.six more' k l ∙ dig-less e.taken e.turned k
          ∙ ap (λ (b : Bool). b && not (dig e.turned k)) (sym (taken_in_lem e.taken e.turned e.six more k l) ∙ t)
          ∙ sym (ap not (turned_in_lem e.taken e.turned e.six more k l))
      go (no l) = never (sym t ∙ past_digit set_words 0 ws k (omega arith))

  turned_solid : (i : ℕ) → Other (solid_text i ws) (solid_text i vs)
  turned_solid i =
      solid i ws vs same_taken (six_in_lem e.taken other e.six more' ∙ sym (six_in_lem e.taken e.turned e.six more)) turned_over

-- n of them from the words of es and, behind these, zeros
solids : (i n : ℕ) (es : List Entry) (z : List ℕ) → ((k : ℕ) → get_or z k 0 ≡ 0)
    → Other (solids_text i n (flat_map words_of es ++ z)) (solids_text i n (flat_map words_of (map flip es) ++ z))
unfolding solids_text flat_map
solids i zero es z o = record { same = refl }
solids i (suc n) [] z o =
    solid i z z refl refl (λ k e. never (sym e ∙ zero_digit set_words 0 z o k))
    & solids (suc i) n [] (drop solid_words z) (λ k. get_or-drop solid_words z k 0 ∙ o (solid_words + k))
solids i (suc n) (e ∷ es) z o =
    let a = flat_map words_of es ++ z in
    let b = flat_map words_of (map flip es) ++ z in
    transport (λ j. Other (solids_text i (suc n) (sym (append_assoc (words_of e) (flat_map words_of es) z) j))
    (solids_text i (suc n) (sym (append_assoc (words_of (flip e)) (flat_map words_of (map flip es)) z) j)))
    (turned_solid e a b i & transport (λ j. Other (solids_text (suc i) n (sym (behind e a) j)) (solids_text (suc i) n (sym (behind (flip e) b) j)))
    (solids (suc i) n es z o))
  where
    behind : (e : Entry) (more : List ℕ) → drop solid_words (words_of e ++ more) ≡ more
    behind e more = drop_at (words_of e) more solid_words (entry_length e.taken e.turned e.six)

-- ---- the whole text, of any answer

head : (v e l c w : ℕ) → Other (head_text v e l c w) (head_text v e l c w)
unfolding head_text text other_sign
head v e l c w =
    words "wire " refl & number v & words " " refl & number e & words "\nloops " refl & number l & words " candidates " refl & number c
    & words "\nwork " refl & number w & words "\n" refl

whole : (v e : ℕ) (a : Conversion) (es : List Entry) (z : List ℕ) → ((k : ℕ) → get_or z k 0 ≡ 0)
    → Other (answer_text v e a (flat_map words_of es ++ z)) (answer_text v e a (flat_map words_of (map flip es) ++ z))
unfolding answer_text text other_sign
whole v e (Conversion.One l c w six) es z o = head v e l c w & words "solids 1\n" refl & solids 1 1 es z o
whole v e (Conversion.Several l c w n) es z o =
    head v e l c w & words "solids " refl & number n & words "\n" refl & solids 1 n es z o
whole v e (Conversion.NoSolid l c w) es z o = head v e l c w & words "no solid\n" refl
whole v e (Conversion.Many l c w) es z o = head v e l c w & words "many\n" refl
whole v e (Conversion.TooLong l c w) es z o = head v e l c w & words "too long\n" refl
whole v e (Conversion.Refused r) es z o =
    words "refused " refl & number (value_of r.number) & words " " refl & number r.place & words "\n" refl

-- of the desk's room, which is all zeros, and of what is left of it
zeros : (n j k : ℕ) → get_or (drop j (blank n)) k 0 ≡ 0
zeros n j k = get_or-drop j (blank n) k 0 ∙ go (dec_lt (j + k) n)
  where
    go : Dec (j + k < n) → get_or (blank n) (j + k) 0 ≡ 0
    go (yes h) = get_or-replicate n (j + k) 0 0 h
    go (no h) = get_or-eq_default (blank n) 0 (simp length-replicate (omega arith))

mirror_desk : (s t : List ℕ) → Made mirror (sheet s) (sheet t) → desk_text t ≡ map other_sign (desk_text s)
unfolding desk_text solids_for
mirror_desk s t m =
    let v = vertices_in (edition_of s) s in
    let e = edges_in (edition_of s) s in
    let room = blank solid_room in
    let c = mirrors.both (sheet s) (sheet t) m most_work (blank face_room) room in
    let a = (convert_sheet s most_work (blank face_room) room).answer in
    text_by mirror s t m
    ∙ (λ i. answer_text v e (c.answers i) (c.flipped i))
    ∙ ap (λ (n : ℕ). answer_text v e a (flat_map words_of (map flip c.es) ++ drop (solid_words * n) room)) (length-map c.es flip)
    ∙ (whole v e a c.es (drop (solid_words * length c.es) room) (zeros solid_room (solid_words * length c.es))).same
    ∙ ap (λ (ws : List ℕ). map other_sign (answer_text v e a ws)) (sym c.words)

-- ---- all of it

pub shown_alike : ShownAlike
shown_alike = record {
  shift_lists = λ w xyz ends a b limit faces solids. ap read (shifts.lists w xyz ends a b limit faces solids);
  shift_both = λ w x y m limit faces solids. ap read (shifts.both w x y m limit faces solids);
  shift_desk = shift_desk;
  mirror_lists = λ xyz ends limit faces solids. ap reading_of (mirrors.lists xyz ends limit faces solids).answers;
  mirror_both = λ x y m limit faces solids. ap reading_of (mirrors.both x y m limit faces solids).answers;
  mirror_desk = mirror_desk;
  higher = λ x a b h q faces solids n. ap read (higher x a b h q faces solids n);
}
  where
    read : Converted → Reading
    read c = reading_of c.answer
