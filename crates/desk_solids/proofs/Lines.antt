-- The faces one by one, and the solids one by one: what is left of their text.
use mathlib.Core.Bool.{Bool, true, false}
use mathlib.Core.List.{List, [], ◌∷◌, ◌++◌, append_assoc}
use mathlib.Core.Path.{◌≡◌, refl, sym, ap, ◌∙◌}
use Prim.Native.Nat.{ℕ, suc, ◌+◌, ◌*◌, ◌-◌, ◌≤◌, ◌<◌}
use native.Mathlib.Numerals.{add-one}
use native.Mathlib.Omega.{arith}
use lib.ListN.{length, take, drop, length-drop, drop_of_length-le}
use lib.Seq.{take_all, drop-cons, drop-drop}
use Rattle.sets.specs.Word.{dig}
use Rattle.paper.specs.Numbers.{set_words, word_bits, solid_words}
use Rattle.paper.specs.Record.{taken_in, turned_in, six_in}
use Rattle.paper.specs.Desk.{text, decimal, faces_text, solid_text, solids_text}
use Rattle.paper_laws.proofs.Record.{digits_length}
use Rattle.desk_solids.specs.Solids.{face_if, face_text, words_text, line_text}

-- ---- a face, once it is known whether it is taken and turned

pub face_is : (k : ℕ) (ws : List ℕ) {a b : Bool} → dig (taken_in ws) k ≡ a → dig (turned_in ws) k ≡ b → face_text k ws ≡ face_if a b k
face_is k ws p q i = face_if (p i) (q i) k

-- ---- the faces from candidate k on

module _ (ws : List ℕ) where
  pub faces_from : ℕ → List ℕ
  faces_from k = faces_text k (drop k (taken_in ws)) (turned_in ws)

  pub faces-start : words_text ws ≡ faces_from 0
  unfolding faces_from
  faces-start = refl

  face-next : (b : Bool) (k : ℕ) (ts us : List Bool) → faces_text k (b ∷ ts) us ≡ face_if b (dig us k) k ++ faces_text (suc k) ts us
  unfolding faces_text
  face-next true k ts us = refl
  face-next false k ts us = refl

  pub faces_more : (k : ℕ) → k < word_bits * set_words → faces_from k ≡ face_text k ws ++ faces_from (k + 1)
  unfolding faces_from
  faces_more k h =
      let ts = taken_in ws in
      let us = turned_in ws in
      let n : k < length ts = omega (arith, digits_length set_words 0 ws) in
      ap (λ (l : List Bool). faces_text k l us) (drop-cons ts k false n)
      ∙ face-next (dig ts k) k (drop (suc k) ts) us
      ∙ ap (λ (m : ℕ). face_text k ws ++ faces_text m (drop m ts) us) (sym (add-one k))

  pub faces-end : (k : ℕ) → word_bits * set_words ≤ k → faces_from k ≡ []
  unfolding faces_from faces_text
  faces-end k h =
      let ts = taken_in ws in
      let n : length ts ≤ k = omega (arith, digits_length set_words 0 ws) in
      ap (λ (l : List Bool). faces_text k l (turned_in ws)) (drop_of_length-le ts n)

-- ---- the solids from the i-th on, of n

line_is : (i : ℕ) (ws : List ℕ) → solid_text i ws ≡ line_text i ws
unfolding solid_text
line_is i ws =
    ap (λ (l : List ℕ). l ++ text " faces" ++ words_text ws ++ text "\n")
    (append_assoc (text "solid " ++ decimal i) (text " sixvolumes ") (decimal (six_in ws)))

module _ (n : ℕ) (ws : List ℕ) where
  pub solids_from : ℕ → List ℕ
  solids_from i = solids_text (i + 1) (n - i) (drop (solid_words * i) ws)

  pub solids_start : solids_text 1 n ws ≡ solids_from 0
  unfolding solids_from
  solids_start = let z : n ≡ n - 0 = omega arith in ap (λ (m : ℕ). solids_text 1 m ws) z

  solid-next : (i m : ℕ) (vs : List ℕ) → solids_text i (suc m) vs ≡ solid_text i vs ++ solids_text (suc i) m (drop solid_words vs)
  unfolding solids_text
  solid-next i m vs = refl

  -- the words of the solids from the i-th on, as they are lent
  abbrev pub words_from : ℕ → List ℕ
  words_from i = take (length ws - solid_words * i) (drop (solid_words * i) ws)

  words_are : (i : ℕ) → drop (solid_words * i) ws ≡ words_from i
  words_are i = sym (take_all (length ws - solid_words * i) (drop (solid_words * i) ws) (omega (arith, length-drop (solid_words * i) ws)))

  pub solids_more : (i : ℕ) → i < n → solids_from i ≡ line_text (i + 1) (words_from i) ++ solids_from (i + 1)
  unfolding solids_from
  solids_more i h =
      let vs = drop (solid_words * i) ws in
      let m : n - i ≡ suc (n - (i + 1)) = omega arith in
      let k : suc (i + 1) ≡ i + 1 + 1 = omega arith in
      let d : solid_words * i + solid_words ≡ solid_words * (i + 1) = omega arith in
      ap (λ (j : ℕ). solids_text (i + 1) j vs) m
      ∙ solid-next (i + 1) (n - (i + 1)) vs
      ∙ ap (λ (l : List ℕ). l ++ solids_text (suc (i + 1)) (n - (i + 1)) (drop solid_words vs)) (line_is (i + 1) vs)
      ∙ ap (λ (l : List ℕ). line_text (i + 1) vs ++ solids_text (suc (i + 1)) (n - (i + 1)) l)
      (drop-drop solid_words (solid_words * i) ws ∙ ap (λ (j : ℕ). drop j ws) d)
      ∙ ap (λ (j : ℕ). line_text (i + 1) vs ++ solids_text j (n - (i + 1)) (drop (solid_words * (i + 1)) ws)) k
      ∙ ap (λ (l : List ℕ). line_text (i + 1) l ++ solids_text (i + 1 + 1) (n - (i + 1)) (drop (solid_words * (i + 1)) ws)) (words_are i)

  pub solids_end : (i : ℕ) → n ≤ i → solids_from i ≡ []
  unfolding solids_from solids_text
  solids_end i h = let z : n - i ≡ 0 = omega arith in ap (λ (m : ℕ). solids_text (i + 1) m (drop (solid_words * i) ws)) z
