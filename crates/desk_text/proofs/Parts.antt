-- The text of an answer is made of the parts in which it is put.
use mathlib.Core.List.{List, ◌++◌, append_assoc}
use mathlib.Core.Path.{◌≡◌, refl, sym, ap, ◌∙◌}
use Prim.Native.Nat.{ℕ}
use Rattle.paper.specs.Desk.{text, decimal, decimal_in, head_text, solids_text, answer_text}
use Rattle.paper.specs.declared.Conversion.{Conversion}
use Rattle.paper.specs.declared.Refusal.{Refusal}
use Rattle.desk_text.specs.declared.answer.Head.{Head}
use Rattle.desk_text.specs.declared.answer.SheetCounts.{SheetCounts}
use Rattle.paper.specs.Refusals.{value_of}
use Rattle.desk_text.specs.Texts.{head_for, head_of, ended_of, report_of, refused_of}

one_counted : text "solids 1\n" ≡ text "solids " ++ decimal 1 ++ text "\n"
unfolding text decimal decimal_in
one_counted = refl

regroup : (a b c d : List ℕ) → a ++ (b ++ c ++ d) ≡ a ++ b ++ c ++ d
regroup a b c d = simp append_assoc

module _ (s : SheetCounts) (l c w : ℕ) where
  head_is : head_text s.vertices s.edges l c w ≡ head_of (head_for s l c w)
  unfolding head_text
  head_is = simp append_assoc

  module _ (ws : List ℕ) where
    report_is : (n : ℕ) → head_text s.vertices s.edges l c w ++ text "solids " ++ decimal n ++ text "\n" ++ solids_text 1 n ws
        ≡ report_of (head_for s l c w) n ws
    report_is n =
        ap (λ (h : List ℕ). h ++ text "solids " ++ decimal n ++ text "\n" ++ solids_text 1 n ws) head_is
        ∙ ap (λ (h : List ℕ). h ++ text "\n" ++ solids_text 1 n ws) (append_assoc (head_of (head_for s l c w)) (text "solids ") (decimal n))

    several_is : (n : ℕ) → answer_text s.vertices s.edges (Conversion.Several l c w n) ws ≡ report_of (head_for s l c w) n ws
    unfolding answer_text
    several_is n = report_is n

    one_is : (six : ℕ) → answer_text s.vertices s.edges (Conversion.One l c w six) ws ≡ report_of (head_for s l c w) 1 ws
    unfolding answer_text
    one_is six =
        let h = head_text s.vertices s.edges l c w in
        ap (λ (m : List ℕ). h ++ m ++ solids_text 1 1 ws) one_counted
        ∙ ap (λ (m : List ℕ). m ++ solids_text 1 1 ws) (regroup h (text "solids ") (decimal 1) (text "\n"))
        ∙ report_is 1

    none_is : answer_text s.vertices s.edges (Conversion.NoSolid l c w) ws ≡ ended_of (head_for s l c w) (text "no solid\n")
    unfolding answer_text
    none_is = ap (λ (h : List ℕ). h ++ text "no solid\n") head_is

    many_is : answer_text s.vertices s.edges (Conversion.Many l c w) ws ≡ ended_of (head_for s l c w) (text "many\n")
    unfolding answer_text
    many_is = ap (λ (h : List ℕ). h ++ text "many\n") head_is

    long_is : answer_text s.vertices s.edges (Conversion.TooLong l c w) ws ≡ ended_of (head_for s l c w) (text "too long\n")
    unfolding answer_text
    long_is = ap (λ (h : List ℕ). h ++ text "too long\n") head_is

refused_is : (s : SheetCounts) (r : Refusal) (ws : List ℕ)
    → answer_text s.vertices s.edges (Conversion.Refused r) ws ≡ refused_of r
unfolding answer_text
refused_is s r ws =
    ap (λ (h : List ℕ). h ++ text "\n") (append_assoc (text "refused " ++ decimal (value_of r.number)) (text " ") (decimal r.place))

-- ---- the same of an answer and a head, once it is known which they are

module _ (s : SheetCounts) (ws : List ℕ) where
  abbrev text_of : Conversion → List ℕ
  text_of a = answer_text s.vertices s.edges a ws

  told : {a b : Conversion} → a ≡ b → text_of a ≡ text_of b
  told e = ap (λ (x : Conversion). answer_text s.vertices s.edges x ws) e

  pub refused-text : {a : Conversion} {r : Refusal} → a ≡ Conversion.Refused r → text_of a ≡ refused_of r
  refused-text {r} e = told e ∙ refused_is s r ws

  module _ {a : Conversion} {l c w : ℕ} {h : Head} where
    pub one-text : {six : ℕ} → a ≡ Conversion.One l c w six → h ≡ head_for s l c w → text_of a ≡ report_of h 1 ws
    one-text {six} e q = told e ∙ one_is s l c w ws six ∙ ap (λ (x : Head). report_of x 1 ws) (sym q)

    pub several_text : {n : ℕ} → a ≡ Conversion.Several l c w n → h ≡ head_for s l c w → text_of a ≡ report_of h n ws
    several_text {n} e q = told e ∙ several_is s l c w ws n ∙ ap (λ (x : Head). report_of x n ws) (sym q)

    pub none-text : a ≡ Conversion.NoSolid l c w → h ≡ head_for s l c w → text_of a ≡ ended_of h (text "no solid\n")
    none-text e q = told e ∙ none_is s l c w ws ∙ ap (λ (x : Head). ended_of x (text "no solid\n")) (sym q)

    pub many_text : a ≡ Conversion.Many l c w → h ≡ head_for s l c w → text_of a ≡ ended_of h (text "many\n")
    many_text e q = told e ∙ many_is s l c w ws ∙ ap (λ (x : Head). ended_of x (text "many\n")) (sym q)

    pub long_text : a ≡ Conversion.TooLong l c w → h ≡ head_for s l c w → text_of a ≡ ended_of h (text "too long\n")
    long_text e q = told e ∙ long_is s l c w ws ∙ ap (λ (x : Head). ended_of x (text "too long\n")) (sym q)
