-- Entries written to the start of a room as far as it reaches, and answers told so.
use mathlib.Core.List.{List, ◌∷◌, ◌++◌}
use mathlib.Core.Path.{◌≡◌, sym, ap, ◌∙◌, subst}
use Prim.Native.Nat.{ℕ, suc, ◌≤◌, ◌<◌}
use native.Mathlib.Omega.{arith}
use lib.ListN.{length, get_or, take, drop, drop_of_length-le}
use lib.Seq.{length-take-le, take_all, drop-length, take-take, get_or-take}
use Rattle.paper.specs.Conversion.{Converted}
use Rattle.paper.specs.Reading.{conversion_says}
use Rattle.paper.specs.Reading as Paper
use Rattle.paper.specs.declared.Conversion.{Conversion}
use Rattle.rooms.specs.Rooms.{copied}
use Rattle.convert.specs.Converts.{at_exit}
use Rattle.export_words.specs.Words.{onto, Tells, ConvertsAs, SaidIs, ToldBy}
use Rattle.export_words.specs.declared.words.Said.{Said}

-- ---- the first `count` of `from` are the entries

module _ {A : Type 0} (from : List A) (count : ℕ) {entries : List A} (there : count ≤ length from) (are : take count from ≡ entries) where
  as_many : length entries ≡ count
  as_many = sym (ap length are) ∙ length-take-le count from there

  module _ (room : List A) where
    -- where the room is shorter, as many are copied as it has places
    pub onto_short : length room < count → copied (length room) from room ≡ onto entries room
    onto_short h =
        let front : take (length room) from ≡ take (length room) entries =
        sym (take-take (length room) count from (omega (arith, h))) ∙ ap (take (length room)) are in
        let back : drop (length room) room ≡ drop (length entries) room =
        drop-length room ∙ sym (drop_of_length-le room {i = length entries} (omega (arith, h, as_many))) in
        λ i. front i ++ back i

    pub onto-whole : count ≤ length room → copied count from room ≡ onto entries room
    onto-whole h =
        let front : take count from ≡ take (length room) entries = are ∙ sym (take_all (length room) entries (omega (arith, h, as_many))) in
        let back : drop count room ≡ drop (length entries) room = ap (λ (n : ℕ). drop n room) (sym as_many) in
        λ i. front i ++ back i

-- ---- what the code holds of an answer, told

module _ {x : Said} {s : Paper.Said} (h : SaidIs x s) where
  there : x.count ≤ length x.words
  there = omega (arith, h.telling.few, h.telling.long)

  -- the first word is the number
  first-is : get_or x.words 0 0 ≡ s.number
  first-is =
      sym (get_or-take x.count x.words 0 0 (omega (arith, as_many x.words x.count there h.are)))
      ∙ ap (λ (ws : List ℕ). get_or ws 0 0) h.are

  pub tells_short : (room : List ℕ) {words : List ℕ} → length room < x.count → words ≡ copied (length room) x.words room
      → Tells s (get_or x.words 0 0) room words
  tells_short room l e = record { number_is = first-is; words_are = e ∙ onto_short x.words x.count there h.are room l }

  pub tells_whole : (room : List ℕ) {words : List ℕ} → x.count ≤ length room → words ≡ copied x.count x.words room
      → Tells s (get_or x.words 0 0) room words
  tells_whole room l e = record { number_is = first-is; words_are = e ∙ onto-whole x.words x.count there h.are room l }

-- ---- of an answer that is known to be another, or to say the same

pub said_as : {A : Type 0} (says : A → Paper.Said) {x : Said} {a b : A} → a ≡ b → SaidIs x (says b) → SaidIs x (says a)
said_as says {x} e h = subst (λ (s : Paper.Said). SaidIs x s) (sym (ap says e)) h

pub told_as : {x : Said} {r : ℕ} {words₀ words : List ℕ} {s t : Paper.Said} → ToldBy x r words₀ words → SaidIs x s → s ≡ t
    → Tells t r words₀ words
told_as {x} {r} {words₀} {words} {s} told h e = subst (λ (t : Paper.Said). Tells t r words₀ words) e (told s h)

pub converts_as : {x : Said} {r : ℕ} {faces solids words₀ words : List ℕ} {a : Conversion} {c : Converted} → ToldBy x r words₀ words
    → SaidIs x (conversion_says a) → at_exit a faces solids ≡ c → ConvertsAs c r faces solids words₀ words
converts_as told h e = record {
  faces_are = ap (λ (c : Converted). c.faces) e;
  solids_are = ap (λ (c : Converted). c.solids) e;
  tells = told_as told h (ap (λ (c : Converted). conversion_says c.answer) e);
}
