-- One more assumption, and three more words stored.
use mathlib.Core.Bool.{Bool, true, false, cond}
use mathlib.Core.List.{List, [], ◌∷◌, ◌++◌}
use mathlib.Core.Path.{◌≡◌, refl, sym, ap, ◌∙◌, subst}
use Prim.Native.Nat.{ℕ, ◌+◌, ◌*◌, ◌≤◌, ◌<◌}
use native.Mathlib.Nat.{add-zero}
use native.Mathlib.Omega.{arith}
use lib.Dec.{eqb, ltb}
use lib.ListN.{length, get_or, set, length-set}
use lib.Seq.{paste, paste-zero, paste-suc}
use borrow.Author.Tests.{eq-eqb, ne_eqb, lt-ltb, le-ltb}
use Rattle.lists.proofs.After.{after_more}
use Rattle.paper.specs.Numbers.{solid_words}
use Rattle.paper.specs.Refusals.{value_of}
use Rattle.paper.specs.Refusals as No
use Rattle.paper.specs.Solids.{Tables}
use Rattle.paper.specs.Walk.{Status, Log, assume}
use Rattle.paper.specs.Conversion.{words, solids_after}
use Rattle.paper_laws.proofs.Record.{words_length}
use Rattle.walk.specs.Tally.{Assumed, Follows}
use Rattle.walk.specs.declared.tally.Tally.{Tally}

-- ---- an assumption

module _ {x : Tally} (limit : ℕ) where
  pub assumed_ended : (x.ended ≡ 0 → ⊥) → Assumed limit x x
  unfolding assume
  assumed_ended n = record { no_more = refl; same = λ log c. rw (ne_eqb log.ended 0 (λ e. n (c.ended_is ∙ e))) c }

  module _ (z : x.ended ≡ 0) where
    pub assumed_more : x.work < limit → Assumed limit x (record { work = x.work + 1; found = x.found; ended = 0 })
    unfolding assume
    assumed_more h = record {
      no_more = refl;
      same = λ log c.
          rw (eq-eqb log.ended 0 (sym c.ended_is ∙ z), lt-ltb log.work limit (subst (λ (n : ℕ). n < limit) c.work_is h))
          (record { work_is = ap (λ (n : ℕ). n + 1) c.work_is; found_is = c.found_is; ended_is = refl });
    }

    pub assumed_none : limit ≤ x.work → Assumed limit x (record { work = x.work; found = x.found; ended = value_of No.TooLong })
    unfolding assume
    assumed_none h = record {
      no_more = refl;
      same = λ log c.
          rw (eq-eqb log.ended 0 (sym c.ended_is ∙ z), le-ltb log.work limit (subst (λ (n : ℕ). limit ≤ n) c.work_is h))
          (record { work_is = c.work_is; found_is = c.found_is; ended_is = refl });
    }

-- it adds no solid, so the words stay
found-assume : (limit : ℕ) (log : Log) → (assume limit log).found ≡ log.found
unfolding assume
found-assume limit log = go (eqb log.ended 0) (ltb log.work limit)
  where
    go : (a b : Bool)
        → (cond a
        (cond b
        (record { work = log.work + 1; found = log.found; ended = 0 })
        (record { work = log.work; found = log.found; ended = value_of No.TooLong }))
        log).found ≡ log.found
    go true true = refl
    go true false = refl
    go false b = refl

pub assumed_follows : {limit : ℕ} {x r : Tally} → Assumed limit x r → (t : Tables) (out : List ℕ) → Follows t (assume limit) x out r out
assumed_follows {limit} a t out log lent h = record {
  counts = a.same log h.counts;
  words_are = h.words_are ∙ sym (ap (λ (f : List (List Status)). solids_after t f lent) (found-assume limit log));
}

-- ---- three words more

pub three_long : (l : List ℕ) (i j k u v w : ℕ) → length (set (set (set l i u) j v) k w) ≡ length l
three_long l i j k u v w = length-set (set (set l i u) j v) k w ∙ length-set (set l i u) j v ∙ length-set l i u

three_sets : (l : List ℕ) (at u v w : ℕ) → at + 2 < length l
    → set (set (set l at u) (at + 1) v) (at + 2) w ≡ paste l at (u ∷ v ∷ w ∷ []) 3
three_sets l at u v w h =
    let s = u ∷ v ∷ w ∷ [] in
    ap (λ (k : List ℕ). set (set (set k at u) (at + 1) v) (at + 2) w) (paste-zero l at s)
    ∙ ap (λ (n : ℕ). set (set (set (paste l at s 0) n u) (at + 1) v) (at + 2) w) (sym (add-zero at))
    ∙ ap (λ (k : List ℕ). set (set k (at + 1) v) (at + 2) w) (paste-suc l at s 0 0 (omega arith) (omega arith))
    ∙ ap (λ (k : List ℕ). set k (at + 2) w) (paste-suc l at s 1 0 (omega arith) (omega arith))
    ∙ paste-suc l at s 2 0 (omega arith) (omega arith)

pub stored_more : (t : Tables) (found : List (List Status)) (st : List Status) (lent : List ℕ) (u v w : ℕ) → words t st ≡ u ∷ v ∷ w ∷ []
    → solid_words * length found + 2 < length (solids_after t found lent)
    → set (set (set (solids_after t found lent) (solid_words * length found) u) (solid_words * length found + 1) v)
    (solid_words * length found + 2) w
    ≡ solids_after t (found ++ (st ∷ [])) lent
unfolding solids_after
stored_more t found st lent u v w e h =
    three_sets (solids_after t found lent) (solid_words * length found) u v w h
    ∙ ap (λ (s : List ℕ). paste (solids_after t found lent) (solid_words * length found) s solid_words) (sym e)
    ∙ after_more (words t) solid_words [] found (λ i k. words_length t (get_or found i [])) lent st (words_length t st)
