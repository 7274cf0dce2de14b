-- Demand 2, answer by answer.
use mathlib.Core.Bool.{Bool}
use mathlib.Core.List.{List, [], ◌∷◌, ◌++◌, flat_map, append-nil}
use mathlib.Core.Logic.{inl, inr}
use mathlib.Core.Path.{◌≡◌, refl, sym, ap, ◌∙◌, subst}
use Prim.Native.Nat.{ℕ, ◌*◌, ◌≤◌, ◌<◌}
use native.Mathlib.Omega.{arith}
use lib.ListN.{length, drop}
use Rattle.paper.specs.Numbers.{solid_words}
use Rattle.paper.specs.Record.{entry}
use Rattle.paper.specs.Drawing.{Wire}
use Rattle.paper.specs.Loops.{loops, candidates}
use Rattle.paper.specs.Conversion.{Converted}
use Rattle.paper.specs.declared.Conversion.{Conversion}
use Rattle.means_walk.specs.Tree.{assumptions}
use Rattle.means_solid.specs.Solid.{IsSolid}
use Rattle.means_report.specs.Listed.{Entry, entry_at, words_of, EverySolidOnce, WalkTree, walked}
use Rattle.means_report.specs.Report.{answered, faces_for, solids_for, work_to_ninth}
use Rattle.means_report.specs.Demand.{SaysNone, SaysOne, SaysSeveral, SaysMany, SaysLong}
use Rattle.means_report.proofs.Listed.{walked-lists}
use Rattle.means_report.proofs.Searched.{none-listed}
use Rattle.means_report.proofs.Report.{Tells, Sound}

-- an answer by its number
abbrev pub kind : Conversion → ℕ
kind (Conversion.One l c w s) = 1
kind (Conversion.Several l c w n) = 2
kind (Conversion.NoSolid l c w) = 3
kind (Conversion.Many l c w) = 4
kind (Conversion.TooLong l c w) = 5
kind (Conversion.Refused r) = 6

-- what is said of a list of solids
module _ (L C W : ℕ) where
  answered-none : (es : List Entry) {l c w : ℕ} → answered L C W es ≡ Conversion.NoSolid l c w → (es ≡ []) × (l ≡ L) × (c ≡ C) × (w ≡ W)
  answered-none [] {l} {c} {w} e =
      let a : l ≡ L = cc in
      let b : c ≡ C = cc in
      let x : w ≡ W = cc in
      (refl, a, b, x)
  answered-none (x ∷ []) e = absurd (omega (arith, ap kind e))
  answered-none (x ∷ (y ∷ es)) e = absurd (omega (arith, ap kind e))

  answered-one : (es : List Entry) {l c w s : ℕ} → answered L C W es ≡ Conversion.One l c w s → (x : Entry) × (es ≡ x ∷ []) × (s ≡ x.six)
      × (l ≡ L) × (c ≡ C) × (w ≡ W)
  answered-one [] e = absurd (omega (arith, ap kind e))
  answered-one (x ∷ []) {l} {c} {w} {s} e =
      let a : l ≡ L = cc in
      let b : c ≡ C = cc in
      let y : w ≡ W = cc in
      let z : s ≡ x.six = cc in
      (x, refl, z, a, b, y)
  answered-one (x ∷ (y ∷ es)) e = absurd (omega (arith, ap kind e))

  answered_several : (es : List Entry) {l c w n : ℕ} → answered L C W es ≡ Conversion.Several l c w n
      → (length es ≡ n) × (2 ≤ n) × ((x : Entry) × (ys : List Entry) × (es ≡ x ∷ ys)) × (l ≡ L) × (c ≡ C) × (w ≡ W)
  answered_several [] e = absurd (omega (arith, ap kind e))
  answered_several (x ∷ []) e = absurd (omega (arith, ap kind e))
  answered_several (x ∷ (y ∷ es)) {l} {c} {w} {n} e =
      let a : l ≡ L = cc in
      let b : c ≡ C = cc in
      let z : w ≡ W = cc in
      let m : length (x ∷ (y ∷ es)) ≡ n = cc in
      (m, omega arith, (x, y ∷ es, refl), a, b, z)

  answered_many : (es : List Entry) {l c w : ℕ} {A : Type 0} → answered L C W es ≡ Conversion.Many l c w → A
  answered_many [] e = absurd (omega (arith, ap kind e))
  answered_many (x ∷ []) e = absurd (omega (arith, ap kind e))
  answered_many (x ∷ (y ∷ es)) e = absurd (omega (arith, ap kind e))

  answered_long : (es : List Entry) {l c w : ℕ} {A : Type 0} → answered L C W es ≡ Conversion.TooLong l c w → A
  answered_long [] e = absurd (omega (arith, ap kind e))
  answered_long (x ∷ []) e = absurd (omega (arith, ap kind e))
  answered_long (x ∷ (y ∷ es)) e = absurd (omega (arith, ap kind e))

module _ (d : Wire) (t : WalkTree d (candidates d)) (limit : ℕ) (faces solids : List ℕ) (r : Converted)
    (sound : Sound d t limit faces solids r) where
  pub all_listed : EverySolidOnce d (candidates d) (walked d (candidates d) t)
  all_listed = walked-lists d (candidates d) sound.fair t

  pub says_none : {l c w : ℕ} → r.answer ≡ Conversion.NoSolid l c w → SaysNone d t limit faces solids r l c w
  unfolding solids_for flat_map
  says_none {l} {c} {w} e = go sound.tells
    where
      go : Tells d t limit faces solids r → SaysNone d t limit faces solids r l c w
      go (inl x) =
          let q = answered-none (length (loops d)) (length (candidates d)) (assumptions t) (walked d (candidates d) t)
          (sym x.answer ∙ e) in
          record {
            none = none-listed d (candidates d) (walked d (candidates d) t) all_listed q.0;
            counts = (q.1, q.2);
            works = q.3;
            within = omega (arith, q.3, x.short);
            kept = (x.faces_left ∙ ap (faces_for (candidates d) faces) q.0, x.solids_left ∙ ap (solids_for solids) q.0);
          }
      go (inr (inl x)) = absurd (omega (arith, ap kind (sym x.answer ∙ e)))
      go (inr (inr x)) = absurd (omega (arith, ap kind (sym x.answer ∙ e)))

  pub says_one : {l c w six : ℕ} → r.answer ≡ Conversion.One l c w six → SaysOne d t limit faces solids r l c w six
  unfolding solids_for flat_map
  says_one {l} {c} {w} {six} e = go sound.tells
    where
      go : Tells d t limit faces solids r → SaysOne d t limit faces solids r l c w six
      go (inl x) =
          let q = answered-one (length (loops d)) (length (candidates d)) (assumptions t) (walked d (candidates d) t)
          (sym x.answer ∙ e) in
          let one : EverySolidOnce d (candidates d) (q.0 ∷ []) = subst (EverySolidOnce d (candidates d)) q.1 all_listed in
          record {
            taken = q.0.taken;
            turned = q.0.turned;
            is = subst (λ (n : ℕ). IsSolid d (candidates d) q.0.taken q.0.turned n) (sym q.2) (one.each 0 (omega arith));
            only = λ {taken'} {turned'} {six'} s. alone q.0 taken' (one.there s).0 (one.there s).1 (one.there s).2;
            counts = (q.3, q.4);
            works = q.5;
            within = omega (arith, q.5, x.short);
            faces_left = x.faces_left ∙ ap (faces_for (candidates d) faces) q.1;
            solids_left =
                x.solids_left ∙ ap (solids_for solids) q.1
                ∙ ap (λ (ws : List ℕ). ws ++ drop solid_words solids) (append-nil (words_of q.0))
                ∙ ap (λ (n : ℕ). entry q.0.taken q.0.turned n ++ drop solid_words solids) (sym q.2);
          }
        where
          alone : (x : Entry) (taken' : List Bool) (i : ℕ) → i < length (x ∷ []) → (entry_at (x ∷ []) i).taken ≡ taken' → taken' ≡ x.taken
          alone x taken' i h p = let z : i ≡ 0 = omega arith in sym p ∙ ap (λ (j : ℕ). (entry_at (x ∷ []) j).taken) z
      go (inr (inl x)) = absurd (omega (arith, ap kind (sym x.answer ∙ e)))
      go (inr (inr x)) = absurd (omega (arith, ap kind (sym x.answer ∙ e)))

  pub says_several : {l c w n : ℕ} → r.answer ≡ Conversion.Several l c w n → SaysSeveral d t limit faces solids r l c w n
  unfolding solids_for
  says_several {l} {c} {w} {n} e = go sound.tells
    where
      go : Tells d t limit faces solids r → SaysSeveral d t limit faces solids r l c w n
      go (inl x) =
          let q = answered_several (length (loops d)) (length (candidates d)) (assumptions t) (walked d (candidates d) t)
          (sym x.answer ∙ e) in
          record {
            listed = all_listed;
            how_many = q.0;
            two = q.1;
            eight = omega (arith, q.0, x.few);
            counts = (q.3, q.4);
            works = q.5;
            within = omega (arith, q.5, x.short);
            faces_left = x.faces_left ∙ ap (faces_for (candidates d) faces) q.2.2;
            solids_left = x.solids_left ∙ ap (λ (m : ℕ). flat_map words_of (walked d (candidates d) t) ++ drop (solid_words * m) solids) q.0;
          }
      go (inr (inl x)) = absurd (omega (arith, ap kind (sym x.answer ∙ e)))
      go (inr (inr x)) = absurd (omega (arith, ap kind (sym x.answer ∙ e)))

  pub says_many : {l c w : ℕ} → r.answer ≡ Conversion.Many l c w → SaysMany d t limit faces solids r l c w
  says_many {l} {c} {w} e = go sound.tells
    where
      go : Tells d t limit faces solids r → SaysMany d t limit faces solids r l c w
      go (inl x) =
          answered_many (length (loops d)) (length (candidates d)) (assumptions t) (walked d (candidates d) t) (sym x.answer ∙ e)
      go (inr (inl x)) =
          let p : Conversion.Many l c w ≡ Conversion.Many (length (loops d)) (length (candidates d)) (work_to_ninth d t) = sym e
          ∙ x.answer in
          let a : l ≡ length (loops d) = cc in
          let b : c ≡ length (candidates d) = cc in
          let z : w ≡ work_to_ninth d t = cc in
          record {
            listed = all_listed;
            nine = x.nine;
            counts = (a, b);
            works = z;
            within = omega (arith, x.short);
            kept = (x.faces_left, x.solids_left);
          }
      go (inr (inr x)) = absurd (omega (arith, ap kind (sym x.answer ∙ e)))

  pub says_long : {l c w : ℕ} → r.answer ≡ Conversion.TooLong l c w → SaysLong d t limit faces solids r l c w
  says_long {l} {c} {w} e = go sound.tells
    where
      go : Tells d t limit faces solids r → SaysLong d t limit faces solids r l c w
      go (inl x) =
          answered_long (length (loops d)) (length (candidates d)) (assumptions t) (walked d (candidates d) t) (sym x.answer ∙ e)
      go (inr (inl x)) = absurd (omega (arith, ap kind (sym x.answer ∙ e)))
      go (inr (inr x)) =
          let p : Conversion.TooLong l c w ≡ Conversion.TooLong (length (loops d)) (length (candidates d)) limit = sym e ∙ x.answer in
          let a : l ≡ length (loops d) = cc in
          let b : c ≡ length (candidates d) = cc in
          let z : w ≡ limit = cc in
          record { long = x.far; counts = (a, b); works = z; kept = (x.faces_left, x.solids_left) }
