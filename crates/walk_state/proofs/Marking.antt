-- The marks after an edge is passed: edges above it are still ahead in this sweep, those below wait for the next.
use mathlib.Core.Bool.{Bool, true, false, ◌&&◌, and-true}
use mathlib.Core.List.{List, [], ◌∷◌}
use mathlib.Core.Path.{◌≡◌, refl, ap, ap₂, ◌∙◌, subst}
use Prim.Native.Nat.{ℕ, zero, suc, ◌+◌, ◌*◌, ◌≤◌, ◌<◌}
use native.Mathlib.Omega.{arith}
use lib.Dec.{eqb}
use lib.ListN.{length, replicate}
use borrow.Author.Tests.{eq-eqb, ne_eqb}
use Rattle.sets.specs.Word.{word, count, first, both, either, less, only}
use Rattle.sets.specs.Kinds.{Joint, Minus, Lowest, Dropped}
use Rattle.sets.specs.Sets.{wides, Wide}
use Rattle.sets.proofs.Digits.{length_both, length_either, length_less}
use Rattle.sets.proofs.Laws.{fits-room}
use Rattle.sets.proofs.Sets.{wides_laws}
use Rattle.fast_sweeps.specs.Worklist.{without_lowest, passed, touched, next_ahead, next_later, turn_ahead, turn_later}
use Rattle.fast_sweeps.proofs.Marks.{length_after, length_touched}
use Rattle.fast_sweeps.proofs.Words.{ahead_word, later_word}
use Rattle.walk_tables.specs.Words.{Sides}
use Rattle.walk_state.specs.Sweeps.{Gathered, MarksTurned, EdgePassed}
use Rattle.walk_state.specs.declared.Marks.{Marks}
use Rattle.walk_state.proofs.Lowest.{drops, some_in, none_in}

-- ---- "if ahead == 0 { ahead = later; later = 0; }"

module _ (ahead later : Wide) where
  pub turned_over : wides.size ahead ≡ 0 → {none : Wide} → wides.Is none []
      → MarksTurned ahead later (record { ahead = later; later = none })
  unfolding turn_ahead turn_later count
  turned_over z n = record {
    sum = omega (arith, wides_laws.size_is n);
    same = λ a l i j.
        let e : eqb (count a) 0 ≡ true = eq-eqb (count a) 0 (none_in wides_laws i z) in
        record { ahead_is = rw e j; later_is = rw e n };
  }

  pub turned_on : 0 < wides.size ahead → MarksTurned ahead later (record { ahead = ahead; later = later })
  unfolding turn_ahead turn_later
  turned_on p = record {
    sum = refl;
    same = λ a l i j.
        let e : eqb (count a) 0 ≡ false = ne_eqb (count a) 0 (some_in wides_laws i p) in
        record { ahead_is = rw e i; later_is = rw e j };
  }

-- ---- up to the lowest

passed_is : (a : List Bool) → (count a ≡ 0 → ⊥) → replicate (suc (first a)) true ≡ passed a
unfolding count first passed
passed_is [] n = absurd (n refl)
passed_is (true ∷ a) n = refl
passed_is (false ∷ a) n = ap (λ (x : List Bool). true ∷ x) (passed_is a (λ z. n (omega arith)))

-- those above e, as the code takes them: not below e, and not e
above_is : (t : List Bool) (e : ℕ) → less (less t (replicate e true)) (only e) ≡ less t (replicate (suc e) true)
unfolding less only
above_is [] e = refl
above_is (x ∷ t) zero = refl
above_is (x ∷ t) (suc e) = ap₂ (λ (b : Bool) (y : List Bool). b ∷ y) (and-true (x && false)) (above_is t e)

-- those below e: the same word
below_word : (t : List Bool) (e : ℕ) → word (both t (replicate e true)) ≡ word (less (both t (replicate (suc e) true)) (only e))
unfolding word both less only
below_word [] e = refl
below_word (true ∷ []) zero = refl
below_word (true ∷ y ∷ t) zero = refl
below_word (false ∷ []) zero = refl
below_word (false ∷ y ∷ t) zero = refl
below_word (true ∷ t) (suc e) = ap (λ (w : ℕ). w * 2 + 1) (below_word t e)
below_word (false ∷ t) (suc e) = ap (λ (w : ℕ). w * 2 + 0) (below_word t e)

-- ---- the next marks

module _ (sides : List ℕ) (m : Marks) (p : 0 < wides.size m.ahead) {e : ℕ} (low : Lowest wides m.ahead e) {gone : Wide}
    (d : Dropped wides m.ahead e gone) where
  short_ahead : (masks : List (List Bool)) (x a : List Bool) → Sides sides masks → length a ≤ wides.room
      → length (next_ahead masks x a) ≤ wides.room
  unfolding next_ahead
  short_ahead masks x a s h =
      length_either wides.room (without_lowest a) (less (touched masks x) (passed a)) (omega (arith, length_after a))
      (omega (arith, length_less (touched masks x) (passed a), length_touched masks x, s.few))

  short_later : (masks : List (List Bool)) (x a l : List Bool) → Sides sides masks → length l ≤ wides.room
      → length (next_later masks x a l) ≤ wides.room
  unfolding next_later
  short_later masks x a l s h =
      length_either wides.room l (less (both (touched masks x) (passed a)) (only (first a))) h
      (omega (
        arith,
        length_less (both (touched masks x) (passed a)) (only (first a)),
        length_both (touched masks x) (passed a),
        length_touched masks x,
        s.few,
      ))

  -- none was decided
  pub marked-none : wides_laws.Fits m.ahead → wides_laws.Fits m.later → (decided : Wide) → wides.size decided ≡ 0 → {r : Marks}
      → MarksTurned gone m.later r → EdgePassed sides m decided r
  marked-none ha hl decided z t = record {
    few = omega (arith, t.sum, d.fewer low.there, fits-room wides_laws m.ahead ha, fits-room wides_laws m.later hl);
    fewer = λ q. omega (arith, t.sum, d.fewer low.there);
    same = λ masks x a l s i k.
        let c : count x ≡ 0 = none_in wides_laws i z in
        let f = k.ahead_is in
        t.same (next_ahead masks x a) (next_later masks x a l)
        (wides_laws.other_digits (next_ahead masks x a) (drops low d a f) (short_ahead masks x a s (wides_laws.short f))
        (ahead_word masks x a c))
        (wides_laws.other_digits (next_later masks x a l) k.later_is (short_later masks x a l s (wides_laws.short k.later_is))
        (later_word masks x a l c));
  }

  -- some were: of their edges, those below the one passed wait
  pub marked-some : (decided : Wide) → 0 < wides.size decided → {x low_ones most above ahead below later : Wide} → Gathered sides decided x
      → wides.Is low_ones (replicate e true) → Minus wides x low_ones most → Dropped wides most e above
      → Joint wides gone above ahead either
      → Joint wides x low_ones below both → Joint wides m.later below later either → wides_laws.Fits ahead → wides_laws.Fits later
      → {r : Marks}
      → MarksTurned ahead later r → EdgePassed sides m decided r
  unfolding next_ahead next_later
  marked-some decided n {x} {low_ones} {most} {above} {ahead} {below} {later} g w up drop ja down jl ha hl t = record {
    few = omega (arith, t.sum, fits-room wides_laws ahead ha, fits-room wides_laws later hl);
    fewer = λ z. absurd (omega arith);
    same = λ masks y a l s i k.
        let f = k.ahead_is in
        let o = touched masks y in
        let u = g masks y s i in
        let q : replicate (suc e) true ≡ passed a
        = ap (λ (j : ℕ). replicate (suc j) true) (low.same a f) ∙ passed_is a (some_in wides_laws f p) in
        let v : wides.Is above (less o (passed a))
        = subst (wides.Is above) (above_is o e ∙ ap (less o) q)
        (drop.same (less o (replicate e true)) (up.same o (replicate e true) u w)) in
        let b = less (both o (passed a)) (only (first a)) in
        let c : word (both o (replicate e true)) ≡ word b
        = below_word o e ∙ ap₂ (λ (z : List Bool) (j : ℕ). word (less (both o z) (only j))) q (low.same a f) in
        let h : length b ≤ wides.room
        = omega (arith, length_less (both o (passed a)) (only (first a)), length_both o (passed a), length_touched masks y, s.few) in
        t.same (either (without_lowest a) (less o (passed a))) (either l b) (ja (without_lowest a) (less o (passed a)) (drops low d a f) v)
        (jl l b k.later_is (wides_laws.other_digits b (down o (replicate e true) u w) h c));
  }
