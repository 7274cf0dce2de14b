-- A solid's record, word by word and digit by digit, whatever comes behind it.
use mathlib.Core.Path.{◌≡◌, refl, sym, ap, ap₂, ◌∙◌}
use mathlib.Core.Bool.{Bool, false}
use mathlib.Core.List.{List, [], ◌∷◌, ◌++◌, append_assoc}
use Prim.Native.Nat.{ℕ, zero, suc, ◌+◌, ◌*◌, ◌-◌, ◌/◌, ◌%◌, ◌≤◌, ◌<◌}
use native.Mathlib.Decide.{dec_lt}
use native.Mathlib.Nat.{mul-suc, min-le_left}
use native.Mathlib.Omega.{arith}
use lib.ListN.{length, get_or, take, drop, length-append, length-take, get_or-append, get_or-eq_default}
use lib.Seq.{take_all, get_or-take, get_or-drop, get_or-append-add}
use Rattle.sets.specs.Word.{dig, word, digits}
use Rattle.sets.proofs.Numbers.{digit-word, digit-bits, same_word}
use Rattle.sets.proofs.Word.{length_digits}
use Rattle.paper.specs.Numbers.{set_words, word_bits, solid_words}
use Rattle.paper.specs.Solids.{Tables, judged}
use Rattle.paper.specs.Walk.{Status}
use Rattle.paper.specs.Conversion.{takens, turned_of, six_of, words}
use Rattle.paper.specs.Record.{set_of, digits_at, entry, taken_in, turned_in, six_in}

-- ---- a set of n words

pub set_length : (n : ℕ) (bs : List Bool) → length (set_of n bs) ≡ n
unfolding set_of
set_length zero bs = refl
set_length (suc n) bs = ap suc (set_length n (drop word_bits bs))

pub digits_length : (n i : ℕ) (ws : List ℕ) → length (digits_at n i ws) ≡ word_bits * n
unfolding digits_at
digits_length zero i ws = refl
digits_length (suc n) i ws =
    length-append (digits word_bits (get_or ws i 0)) (digits_at n (suc i) ws)
    ∙ omega (arith, length_digits word_bits (get_or ws i 0), digits_length n (suc i) ws)

-- its digits are those of its words, and past them there is none
pub word-digit : (n i : ℕ) (ws : List ℕ) (k : ℕ) → k / word_bits < n
    → dig (digits_at n i ws) k ≡ dig (digits word_bits (get_or ws (i + k / word_bits) 0)) (k % word_bits)
unfolding digits_at
word-digit zero i ws k l = absurd (omega arith)
word-digit (suc n) i ws k l = go (word-digit n (suc i) ws (k - word_bits)) (dec_lt k word_bits)
  where
    low : List Bool
    low = digits word_bits (get_or ws i 0)

    long : length low ≡ word_bits
    long = length_digits word_bits (get_or ws i 0)

    at : ℕ → ℕ → Bool
    at j m = dig (digits word_bits (get_or ws j 0)) m

    go : ((k - word_bits) / word_bits < n
        → dig (digits_at n (suc i) ws) (k - word_bits) ≡ at (suc i + (k - word_bits) / word_bits) ((k - word_bits) % word_bits))
        → Dec (k < word_bits) → dig (low ++ digits_at n (suc i) ws) k ≡ at (i + k / word_bits) (k % word_bits)
    go r (yes m) =
        let e : i ≡ i + k / word_bits = omega arith in
        let f : k ≡ k % word_bits = omega arith in
        get_or-append low (digits_at n (suc i) ws) false k (omega (arith, long)) ∙ (λ t. at (e t) (f t))
    go r (no m) =
        let e : k ≡ length low + (k - word_bits) = omega (arith, long) in
        let f : suc i + (k - word_bits) / word_bits ≡ i + k / word_bits = omega arith in
        let g : (k - word_bits) % word_bits ≡ k % word_bits = omega arith in
        ap (λ (t : ℕ). dig (low ++ digits_at n (suc i) ws) t) e
        ∙ get_or-append-add low (digits_at n (suc i) ws) (k - word_bits) false
        ∙ r (omega arith)
        ∙ (λ t. at (f t) (g t))

pub past_digit : (n i : ℕ) (ws : List ℕ) (k : ℕ) → n ≤ k / word_bits → dig (digits_at n i ws) k ≡ false
past_digit n i ws k l = get_or-eq_default (digits_at n i ws) false (omega (arith, digits_length n i ws))

-- the words of the set stand in ws from word i on
abbrev pub SetFrom : ℕ → ℕ → List ℕ → List Bool → Type 0
SetFrom n i ws bs = (j : ℕ) → j < n → get_or ws (i + j) 0 ≡ get_or (set_of n bs) j 0

-- then its digits are read there
pub set_digit : (n i : ℕ) (ws : List ℕ) (bs : List Bool) → SetFrom n i ws bs → (k : ℕ) → k < word_bits * n
    → dig (digits_at n i ws) k ≡ dig bs k
unfolding set_of digits_at
set_digit zero i ws bs h k l = absurd (omega arith)
set_digit (suc n) i ws bs h k l = go (set_digit n (suc i) ws (drop word_bits bs) later) (dec_lt k word_bits)
  where
    low : List Bool
    low = digits word_bits (get_or ws i 0)

    long : length low ≡ word_bits
    long = length_digits word_bits (get_or ws i 0)

    later : (j : ℕ) → j < n → get_or ws (suc i + j) 0 ≡ get_or (set_of n (drop word_bits bs)) j 0
    later j m =
        let e : suc i + j ≡ i + suc j = omega arith in
        ap (λ (t : ℕ). get_or ws t 0) e ∙ h (suc j) (omega arith)

    first : get_or ws i 0 ≡ word (take word_bits bs)
    first = let e : i ≡ i + 0 = omega arith in ap (λ (t : ℕ). get_or ws t 0) e ∙ h 0 (omega arith)

    go : ((t : ℕ) → t < word_bits * n → dig (digits_at n (suc i) ws) t ≡ dig (drop word_bits bs) t) → Dec (k < word_bits)
        → dig (low ++ digits_at n (suc i) ws) k ≡ dig bs k
    go r (yes m) =
        get_or-append low (digits_at n (suc i) ws) false k (omega (arith, long))
        ∙ ap (λ (w : ℕ). dig (digits word_bits w) k) first
        ∙ digit-bits word_bits (word (take word_bits bs)) k m
        ∙ digit-word (take word_bits bs) k
        ∙ get_or-take word_bits bs k false m
    go r (no m) =
        let e : k ≡ length low + (k - word_bits) = omega (arith, long) in
        let f : word_bits + (k - word_bits) ≡ k = omega arith in
        ap (λ (t : ℕ). dig (low ++ digits_at n (suc i) ws) t) e
        ∙ get_or-append-add low (digits_at n (suc i) ws) (k - word_bits) false
        ∙ r (k - word_bits) (omega (arith, mul-suc word_bits n))
        ∙ get_or-drop word_bits bs (k - word_bits) false
        ∙ ap (dig bs) f

-- of words that are 0
pub zero_digit : (n i : ℕ) (ws : List ℕ) → ((k : ℕ) → get_or ws k 0 ≡ 0) → (k : ℕ) → dig (digits_at n i ws) k ≡ false
unfolding set_of word
zero_digit n i ws o k = go (dec_lt k (word_bits * n))
  where
    empty : (m j : ℕ) → get_or (set_of m []) j 0 ≡ 0
    empty zero j = refl
    empty (suc m) zero = refl
    empty (suc m) (suc j) = empty m j

    go : Dec (k < word_bits * n) → dig (digits_at n i ws) k ≡ false
    go (yes l) = set_digit n i ws [] (λ j h. o (i + j) ∙ sym (empty n j)) k l
    go (no l) = past_digit n i ws k (omega arith)

-- lists of the same digits are one set
same_low : (m : ℕ) (a b : List Bool) → ((k : ℕ) → dig a k ≡ dig b k) → (k : ℕ) → dig (take m a) k ≡ dig (take m b) k
same_low m a b h k = go (dec_lt k m)
  where
    none : (c : List Bool) → m ≤ k → dig (take m c) k ≡ false
    none c n =
        get_or-eq_default (take m c) false
        (omega (arith, length-take m c, min-le_left m (length c)))

    go : Dec (k < m) → dig (take m a) k ≡ dig (take m b) k
    go (yes l) = get_or-take m a k false l ∙ h k ∙ sym (get_or-take m b k false l)
    go (no l) = none a (omega arith) ∙ sym (none b (omega arith))

pub same_set : (n : ℕ) (a b : List Bool) → ((k : ℕ) → dig a k ≡ dig b k) → set_of n a ≡ set_of n b
unfolding set_of
same_set zero a b h = refl
same_set (suc n) a b h =
    ap₂ ◌∷◌ (same_word (take word_bits a) (take word_bits b) (same_low word_bits a b h))
    (same_set n (drop word_bits a) (drop word_bits b)
    (λ k. get_or-drop word_bits a k false ∙ h (word_bits + k) ∙ sym (get_or-drop word_bits b k false)))

-- a set of one word
pub one_word : (bs : List Bool) → length bs ≤ word_bits → set_of 1 bs ≡ word bs ∷ []
unfolding set_of
one_word bs h = ap (λ (l : List Bool). word l ∷ []) (take_all word_bits bs h)

-- ---- a record, and what comes behind it

-- turned faces of the same digits make one record
pub same-entry : (taken a b : List Bool) (six : ℕ) → ((k : ℕ) → dig a k ≡ dig b k) → entry taken a six ≡ entry taken b six
unfolding entry
same-entry taken a b six h = ap (λ (l : List ℕ). (set_of set_words taken ++ l) ++ six ∷ []) (same_set set_words a b h)

module _ (taken turned : List Bool) (six : ℕ) where
  pub entry_length : length (entry taken turned six) ≡ solid_words
  unfolding entry
  entry_length =
      let a : List ℕ = set_of set_words taken in
      let b : List ℕ = set_of set_words turned in
      length-append (a ++ b) (six ∷ []) ∙ omega (arith, length-append a b, set_length set_words taken, set_length set_words turned)

  -- today's three words
  pub three-words : length taken ≤ word_bits → length turned ≤ word_bits → entry taken turned six ≡ word taken ∷ word turned ∷ six ∷ []
  unfolding entry
  three-words a b = ap₂ (λ (l m : List ℕ). (l ++ m) ++ six ∷ []) (one_word taken a) (one_word turned b)

  module _ (more : List ℕ) where
    abbrev there : List ℕ
    there = entry taken turned six ++ more

    behind_taken : there ≡ set_of set_words taken ++ (set_of set_words turned ++ (six ∷ more))
    unfolding entry
    behind_taken =
        append_assoc (set_of set_words taken ++ set_of set_words turned) (six ∷ []) more
        ∙ append_assoc (set_of set_words taken) (set_of set_words turned) (six ∷ more)

    -- entry j of what stands behind the taken ones
    past_taken : (j : ℕ) → get_or there (set_words + j) 0 ≡ get_or (set_of set_words turned ++ (six ∷ more)) j 0
    past_taken j =
        let a : List ℕ = set_of set_words taken in
        let e : set_words + j ≡ length a + j = omega (arith, set_length set_words taken) in
        ap (λ (l : List ℕ). get_or l (set_words + j) 0) behind_taken
        ∙ ap (λ (t : ℕ). get_or (a ++ (set_of set_words turned ++ (six ∷ more))) t 0) e
        ∙ get_or-append-add a (set_of set_words turned ++ (six ∷ more)) j 0

    pub taken_at : SetFrom set_words 0 there taken
    taken_at j h =
        let e : 0 + j ≡ j = omega arith in
        ap (λ (t : ℕ). get_or there t 0) e
        ∙ ap (λ (l : List ℕ). get_or l j 0) behind_taken
        ∙ get_or-append (set_of set_words taken) (set_of set_words turned ++ (six ∷ more)) 0 j (omega (arith, set_length set_words taken))

    pub turned_at : SetFrom set_words set_words there turned
    turned_at j h =
        past_taken j
        ∙ get_or-append (set_of set_words turned) (six ∷ more) 0 j (omega (arith, set_length set_words turned))

    pub taken_in_lem : (k : ℕ) → k < word_bits * set_words → dig (taken_in there) k ≡ dig taken k
    taken_in_lem = set_digit set_words 0 there taken taken_at

    pub turned_in_lem : (k : ℕ) → k < word_bits * set_words → dig (turned_in there) k ≡ dig turned k
    turned_in_lem = set_digit set_words set_words there turned turned_at

    pub six_in_lem : six_in there ≡ six
    six_in_lem =
        let b : List ℕ = set_of set_words turned in
        let e : 2 * set_words ≡ set_words + set_words = omega arith in
        let f : set_words ≡ length b + 0 = omega (arith, set_length set_words turned) in
        ap (λ (t : ℕ). get_or there t 0) e
        ∙ past_taken set_words
        ∙ ap (λ (t : ℕ). get_or (b ++ (six ∷ more)) t 0) f
        ∙ get_or-append-add b (six ∷ more) 0 0

-- of a solid that the walk finds
pub words_length : (t : Tables) (st : List Status) → length (words t st) ≡ solid_words
unfolding words
words_length t st = let j = judged t (takens st) in entry_length (takens st) (turned_of j) (six_of j)
