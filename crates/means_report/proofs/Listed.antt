-- The walk lists every solid once.
use mathlib.Core.Bool.{Bool, true, false, ◌&&◌, cond, true≢false}
use mathlib.Core.List.{List, [], ◌∷◌}
use mathlib.Core.Logic.{inl, inr, ◌↔◌}
use mathlib.Core.Path.{◌≡◌, refl, sym, ap, ap₂, ◌∙◌, subst}
use Prim.Native.Nat.{ℕ, ◌≤◌, ◌<◌}
use native.Mathlib.Omega.{arith}
use lib.Dec.{eqb}
use lib.ListN.{length, get_or, replicate, length-map}
use borrow.Author.Tests.{eq-eqb, eqb-true}
use Rattle.lists.specs.Lists.{filter}
use Rattle.lists.proofs.Truth.{and_left, and_right}
use Rattle.lists.proofs.Places.{map_at}
use Rattle.sets.specs.Word.{bit, dig, count, both}
use Rattle.paper.specs.Drawing.{Wire}
use Rattle.paper.specs.Loops.{Loop}
use Rattle.paper.specs.Solids.{tables_of, Judgement, Fails, Solid, judged}
use Rattle.paper.specs.Walk.{Status, Undecided, taken_on}
use Rattle.paper.specs.Conversion.{takens, is_solid, turned_of, six_of, accepted}
use Rattle.means_leaf.specs.Meaning as Masks
use Rattle.means_walk.specs.Complete.{agrees, exact, times_in}
use Rattle.means_walk.specs.Tree.{leaves}
use Rattle.means_walk.proofs.Status.{count-takens}
use Rattle.means_walk.proofs.Ends.{leaves_all, leaves_once}
use Rattle.means_walk.proofs.Times.{times-at, at-times, times-one, state_of, takens_state, state_agrees, agrees_state}
use Rattle.means_masks.proofs.Tables.{Even, flat_even, two_masks, masks_two}
use Rattle.means_masks.proofs.Judged.{judged_is, is_judged}
use Rattle.means_solid.specs.Solid.{IsSolid}
use Rattle.means_report.specs.Fair.{Fair, Same}
use Rattle.means_report.specs.Listed.{Entry, entry_at, EverySolidOnce, entry_of, WalkTree, walked}

-- (i) of a selection
exact_two : (masks : List (List Bool)) (x : List Status) → exact masks x ≡ true → Masks.MaskInTwo masks (takens x)
unfolding exact
exact_two [] x e mask i = absurd i
exact_two (r ∷ masks) x e mask (inl q) =
    ap (λ (l : List Bool). count (both l (takens x))) q ∙ count-takens r x
    ∙ eqb-true (taken_on r x) 2 (and_left (eqb (taken_on r x) 2) (exact masks x) e)
exact_two (r ∷ masks) x e mask (inr i) = exact_two masks x (and_right (eqb (taken_on r x) 2) (exact masks x) e) mask i

two_exact : (masks : List (List Bool)) (x : List Status) → Masks.MaskInTwo masks (takens x) → exact masks x ≡ true
unfolding exact
two_exact [] x h = refl
two_exact (r ∷ masks) x h =
    ap₂ ◌&&◌ (eq-eqb (taken_on r x) 2 (sym (count-takens r x) ∙ h r (inl refl))) (two_exact masks x (λ mask i. h mask (inr i)))

solid_of : (j : Judgement) → is_solid j ≡ true → j ≡ Solid (turned_of j) (six_of j)
solid_of Fails e = absurd (true≢false (sym e))
solid_of (Solid t n) e = refl

module _ (d : Wire) (cs : List Loop) (ok : Fair d cs) (t : WalkTree d cs) where
  even : Even d cs
  even = flat_even d cs ok.flat

  abbrev found : List (List Status)
  found = filter (accepted (tables_of d cs)) (leaves t)

  how_often : (x : List Status)
      → times_in x found ≡ cond (accepted (tables_of d cs) x)
      (bit (agrees (replicate (length cs) Undecided) x && exact (tables_of d cs).masks x)) 0
  how_often x = leaves_once (accepted (tables_of d cs)) (length cs) (tables_of d cs).masks t x

  -- what is found passes
  pub record Passes (x : List Status) : Type 0 where
    pub accepts : accepted (tables_of d cs) x ≡ true
    pub whole : agrees (replicate (length cs) Undecided) x ≡ true
    pub two : exact (tables_of d cs).masks x ≡ true

  found_passes : (x : List Status) → 0 < times_in x found → Passes x
  found_passes x h =
      go (accepted (tables_of d cs) x) refl (agrees (replicate (length cs) Undecided) x) refl (exact (tables_of d cs).masks x) refl
      (subst (λ (m : ℕ). 0 < m) (how_often x) h)
    where
      go : (a : Bool) → accepted (tables_of d cs) x ≡ a → (b : Bool) → agrees (replicate (length cs) Undecided) x ≡ b → (c : Bool)
          → exact (tables_of d cs).masks x ≡ c → 0 < cond a (bit (b && c)) 0 → Passes x
      go true p true q true r h = record { accepts = p; whole = q; two = r }
      go true p true q false r h = absurd (omega arith)
      go true p false q c r h = absurd (omega arith)
      go false p b q c r h = absurd (omega arith)

  passes_found : (x : List Status) → Passes x → times_in x found ≡ 1
  passes_found x p = how_often x ∙ (λ i. cond (p.accepts i) (bit (p.whole i && p.two i)) 0)

  at_most_once : (x : List Status) → times_in x found ≤ 1
  at_most_once x =
      subst (λ (m : ℕ). m ≤ 1) (sym (how_often x))
      (low (accepted (tables_of d cs) x) (agrees (replicate (length cs) Undecided) x && exact (tables_of d cs).masks x))
    where
      low : (a b : Bool) → cond a (bit b) 0 ≤ 1
      low true true = omega arith
      low true false = omega arith
      low false b = omega arith

  -- a selection that passes is a solid
  passes_solid : (x : List Status) → Passes x
      → IsSolid d cs (takens x) (turned_of (judged (tables_of d cs) (takens x))) (six_of (judged (tables_of d cs) (takens x)))
  unfolding accepted
  passes_solid x p =
      judged_is d cs ok.proper even (takens x) (agrees_state (length cs) x p.whole).1
      (masks_two d cs (takens x) (turned_of (judged (tables_of d cs) (takens x))) (exact_two (tables_of d cs).masks x p.two))
      (solid_of (judged (tables_of d cs) (takens x)) p.accepts)

  -- a solid is a selection that passes
  solid_passes : {taken turned : List Bool} {six : ℕ} → IsSolid d cs taken turned six → Passes (state_of taken)
  unfolding accepted
  solid_passes {taken} {turned} {six} s =
      let j = is_judged d cs ok.proper even taken s.some s in
      record {
        accepts = ap (λ (b : List Bool). is_solid (judged (tables_of d cs) b)) (takens_state taken) ∙ ap is_solid j.1;
        whole = subst (λ (m : ℕ). agrees (replicate m Undecided) (state_of taken) ≡ true) s.some (state_agrees taken);
        two =
            two_exact (tables_of d cs).masks (state_of taken)
            (subst (λ (b : List Bool). Masks.MaskInTwo (tables_of d cs).masks b) (sym (takens_state taken))
            (two_masks d cs taken turned s.i));
      }

  -- of the selections that the walk comes to, those are accepted that are solids
  pub leaf-solid : (i : ℕ) → i < length (leaves t)
      → (accepted (tables_of d cs) (get_or (leaves t) i []) ≡ true)
      ↔ ((turned : List Bool) × (six : ℕ) × IsSolid d cs (takens (get_or (leaves t) i [])) turned six)
  unfolding accepted
  leaf-solid i h = (
    λ a. (
      turned_of (judged (tables_of d cs) (takens (get_or (leaves t) i []))),
      six_of (judged (tables_of d cs) (takens (get_or (leaves t) i []))),
      passes_solid (get_or (leaves t) i []) (record { accepts = a; whole = both_true.0; two = both_true.1 }),
    ),
    λ s. ap is_solid (is_judged d cs ok.proper even (takens (get_or (leaves t) i [])) s.2.some s.2).1,
  )
    where
      both_true : (agrees (replicate (length cs) Undecided) (get_or (leaves t) i []) ≡ true)
          × (exact (tables_of d cs).masks (get_or (leaves t) i []) ≡ true)
      both_true =
          split (agrees (replicate (length cs) Undecided) (get_or (leaves t) i [])) (exact (tables_of d cs).masks (get_or (leaves t) i []))
          (subst (λ (m : ℕ). 0 < m) (leaves_all (accepted (tables_of d cs)) (length cs) (tables_of d cs).masks t (get_or (leaves t) i []))
          (at-times (leaves t) (get_or (leaves t) i []) i h refl))
        where
          split : (x y : Bool) → 0 < bit (x && y) → (x ≡ true) × (y ≡ true)
          split true true p = (refl, refl)
          split true false p = absurd (omega arith)
          split false y p = absurd (omega arith)

  length_walked : length (walked d cs t) ≡ length found
  unfolding walked
  length_walked = length-map found (entry_of (tables_of d cs))

  at-walked : (i : ℕ) → i < length found → entry_at (walked d cs t) i ≡ entry_of (tables_of d cs) (get_or found i [])
  unfolding walked
  at-walked i h = map_at (entry_of (tables_of d cs)) found i [] (record { taken = []; turned = []; six = 0 }) h

  passes_at : (i : ℕ) → i < length found → Passes (get_or found i [])
  passes_at i h = found_passes (get_or found i []) (at-times found (get_or found i []) i h refl)

  -- every solid once, in walk order
  pub walked-lists : EverySolidOnce d cs (walked d cs t)
  walked-lists = record {
    each = λ i h.
        let l : i < length found = omega (arith, length_walked) in
        subst (λ (e : Entry). IsSolid d cs e.taken e.turned e.six) (sym (at-walked i l))
        (passes_solid (get_or found i []) (passes_at i l));
    there = λ {taken} {turned} {six} s. here taken turned six s;
    once = λ i j hi hj e.
        let li : i < length found = omega (arith, length_walked) in
        let lj : j < length found = omega (arith, length_walked) in
        let p : takens (get_or found i []) ≡ takens (get_or found j []) = sym (ap (λ (x : Entry). x.taken) (at-walked i li)) ∙ e
        ∙ ap (λ (x : Entry). x.taken) (at-walked j lj) in
        let q : get_or found j [] ≡ get_or found i [] =
        (agrees_state (length cs) (get_or found j []) (passes_at j lj).whole).0 ∙ sym (ap state_of p)
        ∙ sym (agrees_state (length cs) (get_or found i []) (passes_at i li).whole).0 in
        times-one found (get_or found i []) (at_most_once (get_or found i [])) i j li lj refl q;
  }
    where
      here : (taken turned : List Bool) (six : ℕ) → IsSolid d cs taken turned six
          → (i : ℕ) × (i < length (walked d cs t)) × ((entry_at (walked d cs t) i).taken ≡ taken) × Same (entry_at (walked d cs t) i).turned
          turned × ((entry_at (walked d cs t) i).six ≡ six)
      here taken turned six s =
          let j = is_judged d cs ok.proper even taken s.some s in
          let r = times-at (state_of taken) found (omega (arith, passes_found (state_of taken) (solid_passes s))) in
          let l = r.1 in
          let m : r.0 < length (walked d cs t) = omega (arith, length_walked) in
          let q : takens (get_or found r.0 []) ≡ taken = ap takens r.2 ∙ takens_state taken in
          let w : judged (tables_of d cs) (takens (get_or found r.0 [])) ≡ Solid j.0 six = ap (judged (tables_of d cs)) q ∙ j.1 in (
            r.0,
            m,
            ap (λ (e : Entry). e.taken) (at-walked r.0 l) ∙ q,
            λ k. ap (λ (e : Entry). dig e.turned k) (at-walked r.0 l) ∙ ap (λ (x : Judgement). dig (turned_of x) k) w ∙ sym (j.2 k),
            ap (λ (e : Entry). e.six) (at-walked r.0 l) ∙ ap six_of w,
          )
