-- What a loop over marked edges keeps: where it starts, one edge passed, the next sweep, and the end.
use mathlib.Core.Bool.{Bool, true, false, ◌&&◌, not, cond}
use mathlib.Core.List.{List, []}
use mathlib.Core.Logic.{◌⊎◌, inl, inr}
use mathlib.Core.Path.{◌≡◌, refl, sym, ap, ◌∙◌, subst}
use Prim.Native.Nat.{ℕ, zero, suc, ◌+◌, ◌≤◌, ◌<◌}
use native.Mathlib.Omega.{arith}
use native.Mathlib.Decide.{ℕ_discrete}
use lib.ListN.{length, get_or, drop, set, replicate, length-replicate}
use Rattle.lists.proofs.Truth.{not-true, or-none, or_cases, and_left, and_right}
use Rattle.lists.proofs.Truth as Truth
use Rattle.sets.specs.Word.{dig, count, first, both, either, less, only}
use Rattle.sets.proofs.Digits.{never, dig-both, dig-either, dig-less, dig-only, first_in}
use Rattle.sets.proofs.Ones.{dig_lt, dig-none, first_low}
use Rattle.paper.specs.Walk.{Status, settle, contradicts, Outcome, Broken, Stands}
use Rattle.fast_sweeps.specs.Worklist.{without_lowest, passed, edges_with, touched, decided_on, next_ahead, next_later, Settled}
use Rattle.fast_sweeps.specs.Worklist.{afterwards, Remains}
use Rattle.fast_sweeps.proofs.Edge.{settle-same, settled_same, settle_settled, set_same}
use Rattle.fast_sweeps.proofs.Marks.{after_in, after_out, passed_in, passed_out, dig-sides}
use Rattle.fast_sweeps.proofs.Marks.{length_sides, dig-touched, length_touched}
use Rattle.fast_sweeps.proofs.Skips.{all_sweeps, stable_still, one-edge, skip_to, at-start, skip_all, sweep_settled, stable_settled}

module _ (masks : List (List Bool)) where
  -- it starts where every edge that is not marked is settled
  pub start : (st : List Status) (marked none : List Bool) → length marked ≤ length masks → count none ≡ 0
      → ((j : ℕ) → j < length masks → dig marked j ≡ false → Settled (get_or masks j []) st) → Remains masks (all_sweeps masks st) st marked none
  start st marked none h z s = record {
    edge = 0;
    within = omega arith;
    left = at-start masks st;
    on = λ j e. (omega arith, let l = dig_lt marked j e in omega arith);
    off = λ j e. never (sym e ∙ dig-none none z j);
    settled = λ j l e f. s j l e;
  }

  dig-all : (n j : ℕ) → j < n → dig (replicate n true) j ≡ true
  dig-all zero j h = absurd (omega arith)
  dig-all (suc n) zero h = refl
  dig-all (suc n) (suc j) h = dig-all n j (omega arith)

  pub start-all : (st : List Status) (none : List Bool) → count none ≡ 0
      → Remains masks (all_sweeps masks st) st (replicate (length masks) true) none
  start-all st none z =
      start st (replicate (length masks) true) none (omega (arith, length-replicate (length masks) true)) z
      (λ j h e. never (sym (dig-all (length masks) j h) ∙ e))

  pub start_chosen : (st s : List Status) → all_sweeps masks st ≡ Stands s → (k : ℕ) (v : Status) (none : List Bool) → count none ≡ 0
      → Remains masks (all_sweeps masks (set s k v)) (set s k v) (edges_with masks k) none
  start_chosen st s w k v none z =
      start (set s k v) (edges_with masks k) none (omega (arith, length_sides masks k)) z
      (λ j h e. settled_same (set_same (get_or masks j []) s k v (sym (dig-sides masks k j) ∙ e)) (stable_settled masks st s w j h))

  module _ {o : Outcome} {st : List Status} {ahead later : List Bool} (i : Remains masks o st ahead later) where
    -- nothing is marked: the end
    pub finish : count ahead ≡ 0 → count later ≡ 0 → o ≡ Stands st
    finish a l =
        let s : (j : ℕ) → j < length masks
        → Settled (get_or masks j []) st = λ j h. i.settled j h (dig-none ahead a j) (dig-none later l j) in
        sym i.left ∙ skip_all masks st i.edge i.within (λ j h k. s j k) ∙ stable_still masks st (sweep_settled masks masks st s)

    -- nothing is ahead: the next sweep
    pub turn : (none : List Bool) → count ahead ≡ 0 → count none ≡ 0 → Remains masks o st later none
    turn none a z = record {
      edge = 0;
      within = omega arith;
      left = at-start masks st ∙ sym (skip_all masks st i.edge i.within (λ j h k. i.settled j k (dig-none ahead a j) (low j h))) ∙ i.left;
      on = λ j e. (omega arith, let l = i.off j e in omega (arith, i.within));
      off = λ j e. never (sym e ∙ dig-none none z j);
      settled = λ j h e f. i.settled j h (dig-none ahead a j) e;
    }
      where
        low : (j : ℕ) → i.edge ≤ j → dig later j ≡ false
        low j h = Truth.never_true (dig later j) (λ e. omega (arith, i.off j e))

    -- one edge
    module _ (n : count ahead ≡ 0 → ⊥) where
      abbrev here : ℕ
      here = first ahead

      abbrev mask : List Bool
      mask = get_or masks (first ahead) []

      pub here_lt : first ahead < length masks
      here_lt = (i.on (first ahead) (first_in ahead n)).1

      to_here : afterwards masks (drop i.edge masks) st ≡ afterwards masks (drop here masks) st
      to_here =
          let b = i.on here (first_in ahead n) in
          skip_to masks st i.edge here b.0 (omega (arith, here_lt))
          (λ j h k. i.settled j (omega (arith, here_lt)) (first_low ahead j k)
          (Truth.never_true (dig later j) (λ e. omega (arith, i.off j e))))

      passes : o ≡ cond (contradicts mask st) Broken (afterwards masks (drop (here + 1) masks) (settle mask st))
      passes = sym i.left ∙ to_here ∙ one-edge masks st here here_lt

      pub breaks_off : contradicts mask st ≡ true → o ≡ Broken
      breaks_off c = passes ∙ ap (λ (b : Bool). cond b Broken (afterwards masks (drop (here + 1) masks) (settle mask st))) c

      module _ (c : contradicts mask st ≡ false) where
        -- with any marks that leave out settled edges only
        pub pass : (a l : List Bool) → ((j : ℕ) → dig a j ≡ true → (here < j) × (j < length masks))
            → ((j : ℕ) → dig l j ≡ true → j ≤ here)
            → ((j : ℕ) → j < length masks → dig a j ≡ false → dig l j ≡ false → Settled (get_or masks j []) (settle mask st))
            → Remains masks o (settle mask st) a l
        pass a l p q s = record {
          edge = here + 1;
          within = omega (arith, here_lt);
          left = sym (passes ∙ ap (λ (b : Bool). cond b Broken (afterwards masks (drop (here + 1) masks) (settle mask st))) c);
          on = λ j e. let w = p j e in (omega (arith, w.0), w.1);
          off = λ j e. omega (arith, q j e);
          settled = s;
        }

        off_here : (j : ℕ) → dig later j ≡ true → j ≤ here
        off_here j e = let b = i.on here (first_in ahead n) in omega (arith, i.off j e, b.0)

        abbrev t : List Bool
        t = touched masks (decided_on mask st)

        -- those decided mark their edges
        pub pass_decided : Remains masks o (settle mask st) (next_ahead masks (decided_on mask st) ahead)
            (next_later masks (decided_on mask st) ahead later)
        unfolding next_ahead next_later
        pass_decided =
            pass (either (without_lowest ahead) (less t (passed ahead))) (either later (less (both t (passed ahead)) (only here)))
            (λ j e. on j
            (or_cases (dig (without_lowest ahead) j) (dig (less t (passed ahead)) j) (sym (dig-either (without_lowest ahead) (less t (passed ahead)) j)
            ∙ e)))
            (λ j e. off j
            (or_cases (dig later j) (dig (less (both t (passed ahead)) (only here)) j)
            (sym (dig-either later (less (both t (passed ahead)) (only here)) j) ∙ e)))
            (λ j h e f.
            let p = or-none (dig (without_lowest ahead) j) (dig (less t (passed ahead)) j)
            (sym (dig-either (without_lowest ahead) (less t (passed ahead)) j) ∙ e) in
            let q = or-none (dig later j) (dig (less (both t (passed ahead)) (only here)) j)
            (sym (dig-either later (less (both t (passed ahead)) (only here)) j) ∙ f) in
            go j h p.0 q.0 (sym (dig-less t (passed ahead) j) ∙ p.1) (sym (dig-less (both t (passed ahead)) (only here) j) ∙ q.1)
            (ℕ_discrete j here))
          where
            neither : (a b : Bool) → (a && not b) ≡ false → (a && b) ≡ false → a ≡ false
            neither false b p q = refl
            neither true true p q = q
            neither true false p q = p

            left_off : (a b : Bool) → b ≡ false → (a && not b) ≡ false → a ≡ false
            left_off false b p q = refl
            left_off true true p q = never p
            left_off true false p q = q

            on : (j : ℕ) → (dig (without_lowest ahead) j ≡ true) ⊎ (dig (less t (passed ahead)) j ≡ true) → (here < j) × (j < length masks)
            on j (inl e) = let w = after_in ahead j e in (w.0, (i.on j w.1).1)
            on j (inr e) =
                let e' : (dig t j && not (dig (passed ahead) j)) ≡ true = sym (dig-less t (passed ahead) j) ∙ e in
                let l = dig_lt t j (and_left (dig t j) (not (dig (passed ahead) j)) e') in (
                  passed_out ahead j n (not-true (dig (passed ahead) j) (and_right (dig t j) (not (dig (passed ahead) j)) e')),
                  omega
                      (arith, length_touched masks (decided_on mask st)),
                )

            off : (j : ℕ) → (dig later j ≡ true) ⊎ (dig (less (both t (passed ahead)) (only here)) j ≡ true) → j ≤ here
            off j (inl e) = off_here j e
            off j (inr e) =
                let b : dig (both t (passed ahead)) j ≡ true = and_left (dig (both t (passed ahead)) j) (not (dig (only here) j))
                (sym (dig-less (both t (passed ahead)) (only here) j) ∙ e) in
                passed_in ahead j (and_right (dig t j) (dig (passed ahead) j) (sym (dig-both t (passed ahead) j) ∙ b))

            go : (j : ℕ) → j < length masks → dig (without_lowest ahead) j ≡ false → dig later j ≡ false
                → (dig t j && not (dig (passed ahead) j)) ≡ false → (dig (both t (passed ahead)) j && not (dig (only here) j)) ≡ false
                → Dec (j ≡ here) → Settled (get_or masks j []) (settle mask st)
            go j h e f a b (yes p) =
                subst (λ (x : ℕ). Settled (get_or masks x []) (settle mask st)) (sym p) (settle_settled mask st c)
            go j h e f a b (no p) =
                let w : dig (both t (passed ahead)) j ≡ false = left_off (dig (both t (passed ahead)) j) (dig (only here) j)
                (Truth.never_true (dig (only here) j) (λ e. p (dig-only here j e))) b in
                let m : dig t j ≡ false = neither (dig t j) (dig (passed ahead) j) a (sym (dig-both t (passed ahead) j) ∙ w) in
                settled_same (settle-same (get_or masks j []) mask st (sym (dig-touched masks (decided_on mask st) j) ∙ m))
                (i.settled j h (after_out ahead j e p) f)
