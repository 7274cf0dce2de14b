-- The walk goes along the steps of the tree, and how it ends.
use mathlib.Core.Bool.{Bool, true, false, cond}
use mathlib.Core.List.{List, [], ◌∷◌, ◌++◌}
use mathlib.Core.Logic.{◌⊎◌, inl, inr}
use mathlib.Core.Path.{◌≡◌, refl, sym, ap, ◌∙◌, subst}
use Prim.Native.Nat.{ℕ, zero, suc, ◌+◌, ◌≤◌, ◌<◌}
use native.Mathlib.Omega.{arith}
use native.Mathlib.Decide.{dec_lt}
use native.Mathlib.Nat.{zero-add}
use lib.ListN.{length, length-append}
use Rattle.lists.specs.Lists.{filter, keep}
use Rattle.paper.specs.Refusals.{value_of}
use Rattle.paper.specs.Refusals as No
use Rattle.paper.specs.Walk.{Status, Log}
use Rattle.means_walk.specs.Tree.{WalkStep, assumes, comes, made, sought, up_to}
use Rattle.means_walk.specs.Tree.{Exhausted, OneMore, SweepPassed}
use Rattle.means_walk.proofs.Steps.{follow, follow_ended, assume-one, assume-end, come_more, come_full, come_not, follow_assumes}
use Rattle.means_walk.proofs.Steps.{follow_comes, follow_full}

module _ (cap : ℕ) (accept : List Status → Bool) (limit : ℕ) where
  -- ---- one selection more than the cap allows
  abbrev Over : ℕ → List WalkStep → Log → Log → Type 0
  Over c ss log r = (r.ended ≡ value_of No.Many) × (r.work ≡ log.work + made (up_to accept c ss))

  follow_over : (ss : List WalkStep) (log : Log) (c : ℕ) → log.ended ≡ 0 → length log.found + c ≡ cap
      → c < length (filter accept (sought ss)) → log.work + made (up_to accept c ss) ≤ limit
      → Over c ss log (follow cap accept limit ss log)
  unfolding follow made sought filter keep up_to
  follow_over [] log c e n m h = absurd (omega arith)
  follow_over (assumes ∷ ss) log c e n m h =
      let r = follow_over ss (record { work = log.work + 1; found = log.found; ended = 0 }) c refl n m (omega arith) in
      let r₁ = r.1 in
      let q = follow_assumes cap accept limit ss log (record { work = log.work + 1; found = log.found; ended = 0 })
      (assume-one cap accept limit log e (omega arith)) in
      subst (λ (x : Log). Over c (assumes ∷ ss) log x) (sym q) (r.0, omega arith)
  follow_over (comes st ∷ ss) log zero e n m h = go (accept st) refl m h (follow_over ss log zero e n)
    where
      go : (b : Bool) → accept st ≡ b → 0 < length (keep b st (filter accept (sought ss)))
          → log.work + made (cond b [] (comes st ∷ up_to accept 0 ss)) ≤ limit
          → (0 < length (filter accept (sought ss)) → log.work + made (up_to accept 0 ss) ≤ limit
          → Over 0 ss log (follow cap accept limit ss log))
          → Over 0 (comes st ∷ ss) log (follow cap accept limit (comes st ∷ ss) log)
      go true a m h ih =
          let next : Log = record { work = log.work; found = log.found; ended = value_of No.Many } in
          let q = follow_comes cap accept limit st ss log next (come_full cap accept limit st log e a (omega arith))
          ∙ follow_ended cap accept limit ss next refl in
          subst (λ (x : Log). Over 0 (comes st ∷ ss) log x) (sym q) (refl, rw a (omega arith))
      go false a m h ih =
          let r = ih m h in
          let q = follow_comes cap accept limit st ss log log (come_not cap accept limit st log e a) in
          subst (λ (x : Log). Over 0 (comes st ∷ ss) log x) (sym q) (r.0, rw a r.1)
  follow_over (comes st ∷ ss) log (suc c) e n m h = go (accept st) refl m h (follow_over ss)
    where
      IH : Type 0
      IH =
          (log : Log) (c : ℕ) → log.ended ≡ 0 → length log.found + c ≡ cap → c < length (filter accept (sought ss))
          → log.work + made (up_to accept c ss) ≤ limit → Over c ss log (follow cap accept limit ss log)

      go : (b : Bool) → accept st ≡ b → suc c < length (keep b st (filter accept (sought ss)))
          → log.work + made (cond b (up_to accept c ss) (up_to accept (suc c) ss)) ≤ limit
          → IH → Over (suc c) (comes st ∷ ss) log (follow cap accept limit (comes st ∷ ss) log)
      go true a m h ih =
          let next : Log = record { work = log.work; found = log.found ++ (st ∷ []); ended = log.ended } in
          let r = ih next c e (omega (arith, length-append log.found (st ∷ []))) (omega arith) h in
          let q = follow_comes cap accept limit st ss log next (come_more cap accept limit st log e a (omega arith)) in
          subst (λ (x : Log). Over (suc c) (comes st ∷ ss) log x) (sym q) (r.0, rw a r.1)
      go false a m h ih =
          let r = ih log (suc c) e n m h in
          let q = follow_comes cap accept limit st ss log log (come_not cap accept limit st log e a) in
          subst (λ (x : Log). Over (suc c) (comes st ∷ ss) log x) (sym q) (r.0, rw a r.1)

  -- ---- one assumption more than the limit allows
  abbrev Late : Log → Type 0
  Late r = (r.ended ≡ value_of No.TooLong) × (r.work ≡ limit)

  follow_late : (ss : List WalkStep) (log : Log) (c : ℕ) → log.ended ≡ 0 → log.work ≤ limit → length log.found + c ≡ cap
      → limit < log.work + made (up_to accept c ss) → Late (follow cap accept limit ss log)
  unfolding follow made up_to
  follow_late [] log c e w n h = absurd (omega arith)
  follow_late (assumes ∷ ss) log c e w n h = go (dec_lt log.work limit) (follow_late ss)
    where
      IH : Type 0
      IH =
          (log : Log) (c : ℕ) → log.ended ≡ 0 → log.work ≤ limit → length log.found + c ≡ cap
          → limit < log.work + made (up_to accept c ss) → Late (follow cap accept limit ss log)

      go : Dec (log.work < limit) → IH → Late (follow cap accept limit (assumes ∷ ss) log)
      go (yes l) ih =
          let next : Log = record { work = log.work + 1; found = log.found; ended = 0 } in
          let q = follow_assumes cap accept limit ss log next (assume-one cap accept limit log e l) in
          subst Late (sym q) (ih next c refl (omega arith) n (omega arith))
      go (no l) ih =
          let next : Log = record { work = log.work; found = log.found; ended = value_of No.TooLong } in
          let q = follow_assumes cap accept limit ss log next (assume-end cap accept limit log e (omega (arith, l)))
          ∙ follow_ended cap accept limit ss next refl in
          subst Late (sym q) (refl, omega (arith, l))
  follow_late (comes st ∷ ss) log zero e w n h = go (accept st) refl h (follow_late ss log zero e w n)
    where
      go : (b : Bool) → accept st ≡ b → limit < log.work + made (cond b [] (comes st ∷ up_to accept 0 ss))
          → (limit < log.work + made (up_to accept 0 ss) → Late (follow cap accept limit ss log))
          → Late (follow cap accept limit (comes st ∷ ss) log)
      go true a h ih = absurd (omega arith)
      go false a h ih = subst Late (sym (follow_comes cap accept limit st ss log log (come_not cap accept limit st log e a))) (ih h)
  follow_late (comes st ∷ ss) log (suc c) e w n h = go (accept st) refl h (follow_late ss)
    where
      IH : Type 0
      IH =
          (log : Log) (c : ℕ) → log.ended ≡ 0 → log.work ≤ limit → length log.found + c ≡ cap
          → limit < log.work + made (up_to accept c ss) → Late (follow cap accept limit ss log)

      go : (b : Bool) → accept st ≡ b → limit < log.work + made (cond b (up_to accept c ss) (up_to accept (suc c) ss)) → IH
          → Late (follow cap accept limit (comes st ∷ ss) log)
      go true a h ih =
          let next : Log = record { work = log.work; found = log.found ++ (st ∷ []); ended = log.ended } in
          subst Late (sym (follow_comes cap accept limit st ss log next (come_more cap accept limit st log e a (omega arith))))
          (ih next c e w (omega (arith, length-append log.found (st ∷ []))) h)
      go false a h ih =
          subst Late (sym (follow_comes cap accept limit st ss log log (come_not cap accept limit st log e a))) (ih log (suc c) e w n h)

  -- steps that come to no more than c accepted selections are not cut
  up_all : (ss : List WalkStep) (c : ℕ) → length (filter accept (sought ss)) ≤ c → made (up_to accept c ss) ≡ made ss
  unfolding made sought filter keep up_to
  up_all [] c h = refl
  up_all (assumes ∷ ss) c h = ap suc (up_all ss c h)
  up_all (comes st ∷ ss) zero h = go (accept st) h (up_all ss zero)
    where
      go : (b : Bool) → length (keep b st (filter accept (sought ss))) ≤ 0
          → (length (filter accept (sought ss)) ≤ 0 → made (up_to accept 0 ss) ≡ made ss)
          → made (cond b [] (comes st ∷ up_to accept 0 ss)) ≡ made ss
      go true h ih = absurd (omega arith)
      go false h ih = ih h
  up_all (comes st ∷ ss) (suc c) h = go (accept st) h (up_all ss)
    where
      go : (b : Bool) → length (keep b st (filter accept (sought ss))) ≤ suc c
          → ((c : ℕ) → length (filter accept (sought ss)) ≤ c → made (up_to accept c ss) ≡ made ss)
          → made (cond b (up_to accept c ss) (up_to accept (suc c) ss)) ≡ made ss
      go true h ih = ih c (omega arith)
      go false h ih = ih (suc c) h

  -- and cut steps make no more assumptions
  pub up_least : (ss : List WalkStep) (c : ℕ) → made (up_to accept c ss) ≤ made ss
  unfolding made up_to
  up_least [] c = omega arith
  up_least (assumes ∷ ss) c = omega (arith, up_least ss c)
  up_least (comes st ∷ ss) zero = go (accept st) (up_least ss zero)
    where
      go : (b : Bool) → made (up_to accept 0 ss) ≤ made ss → made (cond b [] (comes st ∷ up_to accept 0 ss)) ≤ made ss
      go true h = omega arith
      go false h = h
  up_least (comes st ∷ ss) (suc c) = go (accept st) (up_least ss c) (up_least ss (suc c))
    where
      go : (b : Bool) → made (up_to accept c ss) ≤ made ss → made (up_to accept (suc c) ss) ≤ made ss
          → made (cond b (up_to accept c ss) (up_to accept (suc c) ss)) ≤ made ss
      go true h k = h
      go false h k = k

  pub up_whole : (ss : List WalkStep) → length (filter accept (sought ss)) ≤ cap → made (up_to accept cap ss) ≡ made ss
  up_whole ss h = up_all ss cap h

  -- ---- the three ends of a walk from nothing
  abbrev none : Log
  none = record { work = 0; found = []; ended = 0 }

  pub follow_ends : (ss : List WalkStep) → Exhausted accept cap limit ss (follow cap accept limit ss none)
      ⊎ (OneMore accept cap limit ss (follow cap accept limit ss none) ⊎ SweepPassed accept cap limit ss (follow cap accept limit ss none))
  follow_ends ss = go (dec_lt limit (made (up_to accept cap ss))) (dec_lt cap (length (filter accept (sought ss))))
    where
      go : Dec (limit < made (up_to accept cap ss)) → Dec (cap < length (filter accept (sought ss)))
          → Exhausted accept cap limit ss (follow cap accept limit ss none)
          ⊎ (OneMore accept cap limit ss (follow cap accept limit ss none) ⊎ SweepPassed accept cap limit ss (follow cap accept limit ss none))
      go (yes l) d =
          let r = follow_late ss none cap refl (omega arith) (zero-add cap) (omega arith) in
          inr (inr (record { ended = r.0; long = l; work = r.1 }))
      go (no l) (yes m) =
          let r = follow_over ss none cap refl (zero-add cap) m (omega (arith, l)) in
          inr (inl (record { ended = r.0; many = m; short = omega (arith, l); work = r.1 ∙ zero-add (made (up_to accept cap ss)) }))
      go (no l) (no m) =
          let s : length (filter accept (sought ss)) ≤ cap = omega (arith, m) in
          let w : made ss ≤ limit = omega (arith, l, up_all ss cap s) in
          let r = follow_full cap accept limit ss none refl (omega arith) (omega arith) in
          inl (record { ended = r.0; few = s; short = w; work = r.1 ∙ zero-add (made ss); found = r.2 })
