-- Any two lists of all solids are as long, as long as is reported, and no two solids of one have the same word of faces.
use mathlib.Core.Bool.{Bool}
use mathlib.Core.List.{List, [], ◌∷◌}
use mathlib.Core.Path.{◌≡◌, refl, sym, ap, ap₂, ◌∙◌}
use Prim.Native.Nat.{ℕ, suc, ◌≤◌, ◌<◌}
use native.Mathlib.Omega.{arith}
use lib.ListN.{length}
use Rattle.lists.proofs.OwnNumbers.{partners}
use Rattle.sets.specs.Word.{digit, word}
use Rattle.sets.proofs.Numbers.{digit-word}
use Rattle.paper.specs.Drawing.{Wire}
use Rattle.paper.specs.Loops.{Loop}
use Rattle.means_report.specs.Fair.{Same}
use Rattle.means_report.specs.Listed.{Entry, entry_at, EverySolidOnce}
use Rattle.means_report.specs.Report.{answered, solid_count}

module _ (d : Wire) (cs : List Loop) where
  no_more : (es fs : List Entry) → EverySolidOnce d cs es → EverySolidOnce d cs fs → length es ≤ length fs
  no_more es fs l m =
      partners (length es) (length fs) (λ i j. (entry_at fs j).taken ≡ (entry_at es i).taken)
      (λ i h. let r = m.there (l.each i h) in (r.0, r.1, r.2))
      (λ i k j hi hk p q. l.once i k hi hk (sym p ∙ q))

  -- the number of solids
  pub as_many : (es fs : List Entry) → EverySolidOnce d cs es → EverySolidOnce d cs fs → length es ≡ length fs
  as_many es fs l m = omega (arith, no_more es fs l m, no_more fs es m l)

-- ---- how many a report says
pub counted : (l c w : ℕ) (es : List Entry) → solid_count (answered l c w es) ≡ length es
counted l c w [] = refl
counted l c w (e ∷ []) = refl
counted l c w (e ∷ (f ∷ es)) = refl

-- ---- a mask of yes and no is told by its word and its length; directions by their word
pub word_same : (a b : List Bool) → word a ≡ word b → Same a b
word_same a b e k = sym (digit-word a k) ∙ ap (λ (w : ℕ). digit w k) e ∙ digit-word b k

same_list_lem : (a b : List Bool) → length a ≡ length b → Same a b → a ≡ b
same_list_lem [] [] n s = refl
same_list_lem [] (y ∷ b) n s = absurd (omega arith)
same_list_lem (x ∷ a) [] n s = absurd (omega arith)
same_list_lem (x ∷ a) (y ∷ b) n s = ap₂ (λ (u : Bool) (v : List Bool). u ∷ v) (s 0) (same_list_lem a b (omega arith) (λ k. s (suc k)))

pub word_row : (a b : List Bool) → length a ≡ length b → word a ≡ word b → a ≡ b
word_row a b n e = same_list_lem a b n (word_same a b e)

pub words_differ : (d : Wire) (cs : List Loop) (es : List Entry) → EverySolidOnce d cs es → (i j : ℕ) → i < length es → j < length es
    → word (entry_at es i).taken ≡ word (entry_at es j).taken → i ≡ j
words_differ d cs es l i j hi hj e =
    l.once i j hi hj (word_row (entry_at es i).taken (entry_at es j).taken ((l.each i hi).some ∙ sym (l.each j hj).some) e)
