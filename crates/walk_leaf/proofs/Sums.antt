-- (v) and (iv) over the faces taken, from the lowest on: what is left gives the whole answer.
use mathlib.Core.Bool.{Bool, true, false, cond}
use mathlib.Core.List.{List, []}
use mathlib.Core.Path.{◌≡◌, refl, sym, ap, ap₂, ◌∙◌, subst}
use Prim.Native.Nat.{ℕ, ◌-◌, ◌*◌, ◌≤◌, ◌<◌}
use native.Mathlib.Omega.{arith}
use lib.Dec.{eqb}
use lib.IntN.{ℤ, pos, neg_ℤ, ◌+ℤ◌, +ℤ_assoc, +ℤ_idl, +ℤ_idr}
use lib.ListN.{length, get_or}
use borrow.Author.Tests.{eq-eqb, ne_eqb}
use mir.Syntax.{w64}
use mir.Val.{of_z}
use Rattle.exact.specs.Size.{Within}
use Rattle.exact.proofs.Size.{within_add, within_le, within_lit, within_neg}
use Rattle.sets.specs.Word.{dig, count, first, both}
use Rattle.sets.specs.Kinds.{Joint, First, SetAt}
use Rattle.sets.specs.Sets.{wides, Wide}
use Rattle.sets.proofs.Sets.{wides_laws}
use Rattle.paper.specs.Numbers.{most_candidates}
use Rattle.paper.specs.Solids.{part}
use Rattle.fast_sweeps.specs.Worklist.{without_lowest}
use Rattle.fast_sweeps.proofs.Marks.{length_after}
use Rattle.fast_leaf.specs.Faces.{clear_on, six_on}
use Rattle.fast_leaf.proofs.Sums.{clear_none, clear_more, six_none, six_more}
use Rattle.walk_tables.specs.Words.{Masks, most_part, Sixes}
use Rattle.walk_state.proofs.Lowest.{drops, some_in, none_in}
use Rattle.walk_leaf.specs.Tests.{ClearIs, PartIs, Weighs}
use Rattle.walk_leaf.proofs.Rounds.{mask_at, lowest_in}

-- ---- (v)

pub record Clearing (cs : List (List Bool)) (t : List Bool) (left : Wide) : Type 0 where
  pub rest : List Bool
  pub short : length rest ≤ length cs
  pub left_is : wides.Is left rest
  pub whole : clear_on (count t) cs t t ≡ clear_on (count rest) cs rest t

abbrev pub Clear : List ℕ → Wide → Wide → Type 0
Clear clashes taken left =
    (cs : List (List Bool)) (t : List Bool) → Masks clashes cs → length t ≤ length cs → wides.Is taken t → Clearing cs t left

module _ (clashes : List ℕ) (taken : Wide) where
  pub clear-start : Clear clashes taken taken
  clear-start cs t m h i = record { rest = t; short = h; left_is = i; whole = refl }

  module _ {left : Wide} (a : Clear clashes taken left) where
    module _ {k : ℕ} {left' : Wide} (p : First wides left left' k) {mask clashing : Wide} (e : SetAt wides clashes k mask)
        (j : Joint wides mask taken clashing both) where
      met : {cs : List (List Bool)} {t : List Bool} → Masks clashes cs → wides.Is taken t → (w : Clearing cs t left)
          → wides.Is clashing (both (get_or cs (first w.rest) []) t)
      met {cs} {t} m i w =
          let f : ℕ = first w.rest in
          j (get_or cs f []) t (mask_at m e (p.lowest.same w.rest w.left_is) (lowest_in w.left_is p.some w.short)) i

      here : {cs : List (List Bool)} {t : List Bool} (w : Clearing cs t left) → clear_on (count t) cs t t
          ≡ cond (eqb (count (both (get_or cs (first w.rest) []) t)) 0)
          (clear_on (count (without_lowest w.rest)) cs (without_lowest w.rest) t) false
      here {cs} {t} w = w.whole ∙ clear_more t cs w.rest (some_in wides_laws w.left_is p.some)

      pub clear_not : 0 < wides.size clashing → ClearIs clashes taken false
      clear_not n cs t m h i =
          let w = a cs t m h i in
          let z = ne_eqb (count (both (get_or cs (first w.rest) []) t)) 0 (some_in wides_laws (met m i w) n) in
          sym (here w ∙ ap (λ (b : Bool). cond b (clear_on (count (without_lowest w.rest)) cs (without_lowest w.rest) t) false) z)

      pub clear_next : wides.size clashing ≡ 0 → Clear clashes taken left'
      clear_next n cs t m h i =
          let w = a cs t m h i in
          let z = eq-eqb (count (both (get_or cs (first w.rest) []) t)) 0 (none_in wides_laws (met m i w) n) in
          record {
            rest = without_lowest w.rest;
            short = omega (arith, length_after w.rest, w.short);
            left_is = drops p.lowest p.dropped w.rest w.left_is;
            whole = here w ∙ ap (λ (b : Bool). cond b (clear_on (count (without_lowest w.rest)) cs (without_lowest w.rest) t) false) z;
          }

    pub clear-end : wides.size left ≡ 0 → ClearIs clashes taken true
    clear-end z cs t m h i =
        let w = a cs t m h i in
        sym (w.whole ∙ clear_none t cs w.rest (none_in wides_laws w.left_is z))

-- ---- (iv): the sum so far and what is left make the whole sum

pub record Summing (zs : List ℤ) (t s : List Bool) (done : ℤ) (left : Wide) : Type 0 where
  pub rest : List Bool
  pub short : length rest ≤ length zs
  pub left_is : wides.Is left rest
  pub whole : done +ℤ six_on (count rest) zs rest s ≡ six_on (count t) zs t s

pub record Weighing (sixes : List ℤ) (taken turned : Wide) (sum : ℕ) (left : Wide) : Type 0 where
  pub done : ℤ
  pub sum_is : sum ≡ of_z w64 done
  pub few : wides.size left ≤ most_candidates
  pub small : Within ((most_candidates - wides.size left) * most_part) done
  pub same : (zs : List ℤ) (t s : List Bool) → Sixes sixes zs → length t ≤ length zs → wides.Is taken t → wides.Is turned s
      → Summing zs t s done left

-- a face's part
pub part_turned : {sixes : List ℤ} {k : ℕ} {b : Bool} {r : ℤ} → Within most_part (get_or sixes k (pos 0)) → b ≡ true
    → r ≡ neg_ℤ (get_or sixes k (pos 0)) → PartIs sixes k b r
part_turned {sixes} {k} w e f = record {
  is = f ∙ ap (λ (x : Bool). part true x (get_or sixes k (pos 0))) (sym e);
  small = subst (λ (z : ℤ). Within most_part z) (sym f) (within_neg w);
}

pub part_plain : {sixes : List ℤ} {k : ℕ} {b : Bool} {r : ℤ} → Within most_part (get_or sixes k (pos 0)) → b ≡ false
    → r ≡ get_or sixes k (pos 0) → PartIs sixes k b r
part_plain {sixes} {k} w e f = record {
  is = f ∙ ap (λ (x : Bool). part true x (get_or sixes k (pos 0))) (sym e);
  small = subst (λ (z : ℤ). Within most_part z) (sym f) w;
}

module _ (sixes : List ℤ) (taken turned : Wide) where
  pub weighing_start : wides.size taken ≤ most_candidates → {sum : ℕ} → sum ≡ of_z w64 (pos 0) → Weighing sixes taken turned sum taken
  weighing_start h e = record {
    done = pos 0;
    sum_is = e;
    few = h;
    small = within_le (omega arith) (within_lit {n = 0} tt);
    same = λ zs t s m l i j. record { rest = t; short = l; left_is = i; whole = +ℤ_idl (six_on (count t) zs t s) };
  }

  module _ {sum : ℕ} {left : Wide} (w : Weighing sixes taken turned sum left) where
    module _ {k : ℕ} {left' : Wide} (p : First wides left left' k) {b : Bool}
        (h : (a : List Bool) → wides.Is turned a → b ≡ dig a k) {z : ℤ}
        (q : PartIs sixes k b z) where
      one : {zs : List ℤ} {t s : List Bool} → Sixes sixes zs → wides.Is turned s → (v : Summing zs t s w.done left)
          → z ≡ part true (dig s (first v.rest)) (get_or zs (first v.rest) (pos 0))
      one {zs} {t} {s} m j v =
          let c : k ≡ first v.rest = p.lowest.same v.rest v.left_is in
          let n : k < length zs = omega (arith, lowest_in v.left_is p.some v.short) in
          q.is ∙ ap₂ (λ (x : Bool) (y : ℤ). part true x y) (h s j) (m.at k n)
          ∙ ap (λ (f : ℕ). part true (dig s f) (get_or zs f (pos 0))) c

      pub weighing_next : {sum' : ℕ} → sum' ≡ of_z w64 (w.done +ℤ z) → Weighing sixes taken turned sum' left'
      weighing_next e = record {
        done = w.done +ℤ z;
        sum_is = e;
        few = omega (arith, w.few, p.rest.one_fewer);
        small = within_le (omega (arith, w.few, p.rest.one_fewer)) (within_add w.small q.small);
        same = λ zs t s m l i j.
            let v = w.same zs t s m l i j in
            let r : List Bool = without_lowest v.rest in
            record {
              rest = r;
              short = omega (arith, length_after v.rest, v.short);
              left_is = drops p.lowest p.dropped v.rest v.left_is;
              whole =
                  +ℤ_assoc w.done z (six_on (count r) zs r s)
                  ∙ ap (λ (y : ℤ). w.done +ℤ y)
                  (ap (λ (y : ℤ). y +ℤ six_on (count r) zs r s) (one m j v)
                  ∙ sym (six_more s zs v.rest (some_in wides_laws v.left_is p.some)))
                  ∙ v.whole;
            };
      }

    pub all_small : Within (most_candidates * most_part) w.done
    all_small = within_le (omega arith) w.small

    pub weighing_end : wides.size left ≡ 0 → {v : ℤ} → v ≡ w.done → Weighs sixes taken turned v
    weighing_end z {v} e = record {
      small = subst (λ (y : ℤ). Within (most_candidates * most_part) y) (sym e) all_small;
      same = λ zs t s m l i j.
          let u = w.same zs t s m l i j in
          let n = six_none s zs u.rest (none_in wides_laws u.left_is z) in
          e ∙ sym (+ℤ_idr w.done) ∙ ap (λ (y : ℤ). w.done +ℤ y) (sym n) ∙ u.whole;
    }
