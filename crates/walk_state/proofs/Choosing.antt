-- The lowest edge with an undecided candidate. While none is found, the answer is that of the search from the next edge on.
use mathlib.Core.Bool.{Bool}
use mathlib.Core.List.{List, []}
use mathlib.Core.Path.{◌≡◌, sym, subst, ◌∙◌}
use Prim.Native.Nat.{ℕ, ◌+◌, ◌≤◌, ◌<◌}
use native.Mathlib.Omega.{arith}
use lib.ListN.{length, get_or}
use Rattle.lists.proofs.Truth.{and_right}
use Rattle.sets.specs.Word.{dig, both}
use Rattle.sets.specs.Kinds.{Has, Joint, SetAt}
use Rattle.sets.specs.Sets.{wides, Wide}
use Rattle.sets.proofs.Digits.{dig-both}
use Rattle.sets.proofs.Sets.{wides_laws}
use Rattle.paper.specs.Walk.{Status, open_on}
use Rattle.means_walk.specs.Lowest.{opens}
use Rattle.means_walk.proofs.Status.{count-opens}
use Rattle.fast_sweeps.specs.Worklist.{open_from}
use Rattle.fast_sweeps.proofs.Choice.{open-here, open_skip, open_end, lowest_here, lowest-none}
use Rattle.walk_tables.specs.Words.{Masks}
use Rattle.walk_state.specs.Choice.{Opened}
use Rattle.walk_state.proofs.Lowest.{some_in, none_in}

abbrev pub Looking : List ℕ → ℕ → Wide → ℕ → ℕ → Type 0
Looking on m u from e =
    (masks : List (List Bool)) (st : List Status) → Masks on masks → length masks ≡ m → wides.Is u (opens st)
    → open_from masks st from ≡ open_from masks st e

module _ (on : List ℕ) (m : ℕ) (u : Wide) (from e : ℕ) (g : Looking on m u from e) where
  module _ (h : e < m) {mask free : Wide} (edge : SetAt wides on e mask) (j : Joint wides mask u free both) where
    free_is : (masks : List (List Bool)) (st : List Status) → Masks on masks → length masks ≡ m → wides.Is u (opens st)
        → wides.Is free (both (get_or masks e []) (opens st))
    free_is masks st i l w =
        let here : wides.Is mask (get_or masks e []) = subst (λ (x : Wide). wides.Is x (get_or masks e [])) (sym edge.is)
        (i.at e (omega arith)) in
        j (get_or masks e []) (opens st) here w

    in_both : (k : ℕ) → Has wides free k → Has wides u k
    in_both k f a i =
        let b = edge.some.0 in
        and_right (dig b k) (dig a k) (sym (dig-both b a k) ∙ f (both b a) (j b a edge.some.1 i))

    pub open_found : 0 < wides.size free → Opened on m u from (record { edge = e; free = free })
    open_found p = record {
      within = omega arith;
      some = λ q. p;
      there = in_both;
      same = λ masks st i l w.
          let low : e < length masks = omega arith in
          let v = free_is masks st i l w in
          let z : open_on (get_or masks e []) st ≡ 0 → ⊥ = λ q. some_in wides_laws v p (count-opens (get_or masks e []) st ∙ q) in
          record {
            edge_is = sym (g masks st i l w ∙ open-here masks st e low z);
            digits = both (get_or masks e []) (opens st);
            free_is = v;
            lowest_is = lowest_here masks st e low;
          };
    }

    pub open_next : wides.size free ≡ 0 → Looking on m u from (e + 1)
    open_next z masks st i l w =
        g masks st i l w
        ∙ open_skip masks st e (omega arith) (sym (count-opens (get_or masks e []) st) ∙ none_in wides_laws (free_is masks st i l w) z)

  pub open_last : e ≡ m → Opened on m u from (record { edge = m; free = u })
  open_last h = record {
    within = omega arith;
    some = λ q. q;
    there = λ k f. f;
    same = λ masks st i l w.
        let past : length masks ≤ m = omega arith in
        record {
          edge_is = sym (g masks st i l w ∙ open_end masks st e (omega arith) ∙ h);
          digits = opens st;
          free_is = w;
          lowest_is = lowest-none masks st m past;
        };
  }
