-- A selection that has (i) is judged face by face as it is by passes over all edges.
use mathlib.Core.Bool.{Bool, true, false, not, ◌&&◌, cond, and-false}
use mathlib.Core.List.{List}
use mathlib.Core.Path.{◌≡◌, refl, sym, ap, ◌∙◌, subst}
use Prim.Native.Nat.{ℕ, zero, suc}
use lib.Dec.{eqb}
use lib.IntN.{ℤ, pos, negsuc}
use lib.ListN.{length}
use borrow.Author.Tests.{eqb-true, eqb-false}
use Rattle.lists.proofs.Truth.{and_both, same_truth, never_true}
use Rattle.sets.specs.Word.{dig, Sub, count, less, first}
use Rattle.sets.proofs.Digits.{never, dig-less, count_none, count_same, first_in}
use Rattle.paper.specs.Solids.{faces_from, connected, oriented, six_from, clear_from, weighed, Tables, Judgement, Fails, judged}
use Rattle.paper.specs.Conversion.{is_solid, turned_of, six_of}
use Rattle.means_leaf.specs.Meaning.{faces, MaskInTwo, SameTurned}
use Rattle.means_leaf.proofs.Forced.{oriented_alike, oriented-opposite, all_reached}
use Rattle.means_leaf.proofs.Within.{turned_taken}
use Rattle.means_leaf.proofs.Solids.{six_alike, turned_opposite}
use Rattle.means_leaf.proofs.Directions.{faces-right}
use Rattle.fast_leaf.specs.Faces.{from_lowest_face, clear_on, six_on, judged_by_faces, SameJudgement, fails, solid}
use Rattle.fast_leaf.proofs.Edge.{Fair}
use Rattle.fast_leaf.proofs.Around.{face_fair, same_reached}
use Rattle.fast_leaf.proofs.Sums.{clear_on_lem, six_on_lem}

-- ---- ways

module _ (masks ups : List (List Bool)) (taken : List Bool) (same : length masks ≡ length ups) (two : MaskInTwo masks taken)
    (some : count taken ≡ 0 → ⊥) where
  fair : Fair masks ups taken (first taken) (from_lowest_face masks ups taken)
  fair = face_fair masks ups taken (first taken) same two (first_in taken some)

  -- (ii)
  missed : eqb (count (less taken (from_lowest_face masks ups taken).reached)) 0 ≡ true → Sub taken (from_lowest_face masks ups taken).reached
  missed e k h = go (dig (from_lowest_face masks ups taken).reached k) refl
    where
      go : (b : Bool) → dig (from_lowest_face masks ups taken).reached k ≡ b → b ≡ true
      go true p = refl
      go false p =
          absurd
          (count_none (less taken (from_lowest_face masks ups taken).reached)
          (eqb-true (count (less taken (from_lowest_face masks ups taken).reached)) 0 e) k
          (dig-less taken (from_lowest_face masks ups taken).reached k ∙ and_both h (ap not p)))

  pub same-connected : eqb (count (less taken (from_lowest_face masks ups taken).reached)) 0 ≡ connected taken (faces masks ups taken)
  unfolding connected faces
  same-connected =
      let r = (from_lowest_face masks ups taken).reached in
      let q = (faces masks ups taken).reached in
      ap (λ (n : ℕ). eqb n 0)
      (count_same (less taken r) (less taken q) (λ k. dig-less taken r k
      ∙ ap (λ (x : Bool). dig taken k && not x) (same_reached masks ups taken (first taken) same two (first_in taken some) k)
      ∙ sym (dig-less taken q k)))

  -- (iii)
  module _ (c : connected taken (faces masks ups taken) ≡ true) where
    all_found : Sub taken (from_lowest_face masks ups taken).reached
    all_found = missed (same-connected ∙ c)

    -- directions that do with the lowest face not turned are those found
    found_alike : (ts : List Bool) → oriented masks ups taken ts ≡ true → dig ts (first taken) ≡ false
        → SameTurned taken (from_lowest_face masks ups taken).turned ts
    found_alike ts o e k h = fair.right ts o e k (all_found k h)

    pub same_turned : oriented masks ups taken (from_lowest_face masks ups taken).turned ≡ true
        → SameTurned taken (from_lowest_face masks ups taken).turned (faces masks ups taken).turned
    same_turned o k h =
        sym
        ((faces-right masks ups taken (from_lowest_face masks ups taken).turned o fair.low_turned).right k
        (all_reached taken (faces masks ups taken) c k h))

    found-oriented : (ts : List Bool) → oriented masks ups taken ts ≡ true
        → oriented masks ups taken (from_lowest_face masks ups taken).turned ≡ true
    found-oriented ts o = go (dig ts (first taken)) refl
      where
        go : (b : Bool) → dig ts (first taken) ≡ b → oriented masks ups taken (from_lowest_face masks ups taken).turned ≡ true
        go false e = oriented_alike taken (from_lowest_face masks ups taken).turned ts (found_alike ts o e) masks ups ∙ o
        go true e =
            let p : oriented masks ups taken (less taken ts) ≡ true = oriented-opposite taken (less taken ts) ts
            (turned_opposite taken ts) masks ups ∙ o in
            let z : dig (less taken ts) (first taken) ≡ false
            = dig-less taken ts (first taken) ∙ ap (λ (x : Bool). dig taken (first taken) && not x) e
            ∙ and-false (dig taken (first taken)) in
            oriented_alike taken (from_lowest_face masks ups taken).turned (less taken ts) (found_alike (less taken ts) p z) masks ups ∙ p

    pub same-oriented : oriented masks ups taken (from_lowest_face masks ups taken).turned ≡ oriented masks ups taken
        (faces masks ups taken).turned
    same-oriented =
        same_truth (oriented masks ups taken (from_lowest_face masks ups taken).turned)
        (oriented masks ups taken (faces masks ups taken).turned)
        (λ o. sym (oriented_alike taken (from_lowest_face masks ups taken).turned (faces masks ups taken).turned (same_turned o) masks ups)
        ∙ o)
        (found-oriented (faces masks ups taken).turned)

    -- where there are directions, all digits of them are the same
    pub same_digits : oriented masks ups taken (faces masks ups taken).turned ≡ true → (k : ℕ)
        → dig (from_lowest_face masks ups taken).turned k ≡ dig (faces masks ups taken).turned k
    same_digits o k = go (dig taken k) refl
      where
        go : (b : Bool) → dig taken k ≡ b → dig (from_lowest_face masks ups taken).turned k ≡ dig (faces masks ups taken).turned k
        go true h = same_turned (same-oriented ∙ o) k h
        go false h =
            never_true (dig (from_lowest_face masks ups taken).turned k) (λ p. never (sym (fair.in_taken k (fair.turned_in_lem k p)) ∙ h))
            ∙ sym (never_true (dig (faces masks ups taken).turned k) (λ p. never (sym (turned_taken masks ups taken some k p) ∙ h)))

-- ---- the judgement
weighs : (taken s t : List Bool) → ((k : ℕ) → dig s k ≡ dig t k) → (z : ℤ) → SameJudgement (weighed taken s z) (weighed taken t z)
weighs taken s t h (pos zero) = fails
weighs taken s t h (pos (suc v)) = solid (suc v) h
weighs taken s t h (negsuc v) =
    solid (suc v) (λ k. dig-less taken s k ∙ ap (λ (x : Bool). dig taken k && not x) (h k) ∙ sym (dig-less taken t k))

judges : (a b₁ b₂ c₁ c₂ d₁ d₂ : Bool) (v w : Judgement) → (a ≡ false → b₁ ≡ b₂) → (a ≡ false → b₂ ≡ true → c₁ ≡ c₂) → d₁ ≡ d₂
    → (a ≡ false → b₂ ≡ true → c₂ ≡ true → SameJudgement v w)
    → SameJudgement (cond a Fails (cond b₁ (cond c₁ (cond d₁ v Fails) Fails) Fails))
    (cond a Fails (cond b₂ (cond c₂ (cond d₂ w Fails) Fails) Fails))
judges true b₁ b₂ c₁ c₂ d₁ d₂ v w p q r s = fails
judges false true false c₁ c₂ d₁ d₂ v w p q r s = never (p refl)
judges false false true c₁ c₂ d₁ d₂ v w p q r s = never (sym (p refl))
judges false false false c₁ c₂ d₁ d₂ v w p q r s = fails
judges false true true true false d₁ d₂ v w p q r s = never (q refl refl)
judges false true true false true d₁ d₂ v w p q r s = never (sym (q refl refl))
judges false true true false false d₁ d₂ v w p q r s = fails
judges false true true true true true false v w p q r s = never r
judges false true true true true false true v w p q r s = never (sym r)
judges false true true true true false false v w p q r s = fails
judges false true true true true true true v w p q r s = s refl refl refl

pub judged_by_faces_lem : (t : Tables) (taken : List Bool) → length t.masks ≡ length t.ups → MaskInTwo t.masks taken
    → SameJudgement (judged_by_faces t taken) (judged t taken)
unfolding judged_by_faces judged faces_from faces
judged_by_faces_lem t taken same two =
    judges (eqb (count taken) 0)
    (eqb (count (less taken (from_lowest_face t.masks t.ups taken).reached)) 0) (connected taken (faces t.masks t.ups taken))
    (oriented t.masks t.ups taken (from_lowest_face t.masks t.ups taken).turned)
    (oriented t.masks t.ups taken (faces t.masks t.ups taken).turned)
    (clear_on (count taken) t.clashes taken taken) (clear_from 0 t.clashes taken)
    (weighed taken (from_lowest_face t.masks t.ups taken).turned
    (six_on (count taken) t.sixes taken (from_lowest_face t.masks t.ups taken).turned))
    (weighed taken (faces t.masks t.ups taken).turned (six_from 0 t.sixes taken (faces t.masks t.ups taken).turned))
    (λ n. same-connected t.masks t.ups taken same two (eqb-false (count taken) 0 n))
    (λ n c. same-oriented t.masks t.ups taken same two (eqb-false (count taken) 0 n) c)
    (clear_on_lem taken t.clashes)
    (λ n c o.
    let h : (k : ℕ) → dig (from_lowest_face t.masks t.ups taken).turned k ≡ dig (faces t.masks t.ups taken).turned k
    = same_digits t.masks t.ups taken same two (eqb-false (count taken) 0 n) c o in
    let z : six_on (count taken) t.sixes taken (from_lowest_face t.masks t.ups taken).turned ≡ six_from 0 t.sixes taken
    (faces t.masks t.ups taken).turned
    = six_on_lem (from_lowest_face t.masks t.ups taken).turned (count taken) t.sixes taken refl
    ∙ six_alike taken (from_lowest_face t.masks t.ups taken).turned (faces t.masks t.ups taken).turned (λ k p. h k) 0
    t.sixes in
    subst
    (λ (x : ℤ). SameJudgement (weighed taken (from_lowest_face t.masks t.ups taken).turned x)
    (weighed taken (faces t.masks t.ups taken).turned (six_from 0 t.sixes taken (faces t.masks t.ups taken).turned)))
    (sym z)
    (weighs taken (from_lowest_face t.masks t.ups taken).turned (faces t.masks t.ups taken).turned h
    (six_from 0 t.sixes taken (faces t.masks t.ups taken).turned)))

-- ---- what a report says of a judgement is the same
pub record Reports (i j : Judgement) : Type 0 where
  pub same_solid : is_solid i ≡ is_solid j
  pub same_ways : (k : ℕ) → dig (turned_of i) k ≡ dig (turned_of j) k
  pub same_six : six_of i ≡ six_of j

pub agrees_reports : {i j : Judgement} → SameJudgement i j → Reports i j
agrees_reports fails = record { same_solid = refl; same_ways = λ k. refl; same_six = refl }
agrees_reports (solid {s} {t} v h) = record { same_solid = refl; same_ways = h; same_six = refl }

pub reports_by_faces : (t : Tables) (taken : List Bool) → length t.masks ≡ length t.ups → MaskInTwo t.masks taken
    → Reports (judged_by_faces t taken) (judged t taken)
reports_by_faces t taken same two = agrees_reports (judged_by_faces_lem t taken same two)
