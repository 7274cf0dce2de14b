-- The walk goes along the steps of the tree, one by one, as long as neither cap nor limit ends it.
use mathlib.Core.Bool.{Bool, true, false, cond}
use mathlib.Core.List.{List, [], ◌∷◌, ◌++◌, append_assoc, append-nil}
use mathlib.Core.Path.{◌≡◌, refl, sym, ap, ap₂, ◌∙◌, subst}
use Prim.Native.Nat.{ℕ, zero, suc, ◌+◌, ◌≤◌, ◌<◌}
use native.Mathlib.Omega.{arith}
use lib.ListN.{length, set, length-append}
use lib.Dec.{eqb}
use borrow.Author.Tests.{eq-eqb, ne_eqb, lt-ltb, le-ltb}
use Rattle.lists.specs.Lists.{filter, keep}
use Rattle.paper.specs.Refusals.{value_of}
use Rattle.paper.specs.Refusals as No
use Rattle.paper.specs.Walk.{Status, Taken, Rejected, open_count, choose, Log, assume, leaf, walk}
use Rattle.means_walk.specs.Tree.{Tree, broken, branch, assumptions, leaves, WalkStep, assumes, comes, steps, made, sought}
use Rattle.means_walk.proofs.Grown.{sweeps_stable, sweeps_fewer, chosen_fewer}

-- ---- the steps of a tree: its assumptions and its leaves
made_append : (a b : List WalkStep) → made (a ++ b) ≡ made a + made b
unfolding made
made_append [] b = omega arith
made_append (assumes ∷ a) b = omega (arith, made_append a b)
made_append (comes s ∷ a) b = made_append a b

sought_append : (a b : List WalkStep) → sought (a ++ b) ≡ sought a ++ sought b
unfolding sought
sought_append [] b = refl
sought_append (assumes ∷ a) b = sought_append a b
sought_append (comes s ∷ a) b = ap (λ (l : List (List Status)). s ∷ l) (sought_append a b)

pub made-steps : {masks : List (List Bool)} {st : List Status} (t : Tree masks st) → made (steps t) ≡ assumptions t
unfolding made steps assumptions
made-steps (broken w) = refl
made-steps (Tree.leaf s w z) = refl
made-steps (branch s w n a b) = omega (arith, made_append (steps a) (assumes ∷ steps b), made-steps a, made-steps b)

pub sought-steps : {masks : List (List Bool)} {st : List Status} (t : Tree masks st) → sought (steps t) ≡ leaves t
unfolding sought steps leaves
sought-steps (broken w) = refl
sought-steps (Tree.leaf s w z) = refl
sought-steps (branch s w n a b) = sought_append (steps a) (assumes ∷ steps b) ∙ ap₂ ◌++◌ (sought-steps a) (sought-steps b)

module _ (cap : ℕ) (accept : List Status → Bool) (limit : ℕ) where
  -- ---- the log along some steps
  unfoldable pub follow : List WalkStep → Log → Log
  follow [] log = log
  follow (assumes ∷ ss) log = follow ss (assume limit log)
  follow (comes st ∷ ss) log = follow ss (cond (eqb log.ended 0) (leaf cap accept st log) log)

  follow_append : (a b : List WalkStep) (log : Log) → follow (a ++ b) log ≡ follow b (follow a log)
  unfolding follow
  follow_append [] b log = refl
  follow_append (assumes ∷ a) b log = follow_append a b (assume limit log)
  follow_append (comes s ∷ a) b log = follow_append a b (cond (eqb log.ended 0) (leaf cap accept s log) log)

  pub follow_ended : (ss : List WalkStep) (log : Log) → eqb log.ended 0 ≡ false → follow ss log ≡ log
  unfolding follow assume
  follow_ended [] log e = refl
  follow_ended (assumes ∷ ss) log e = rw e (follow_ended ss log e)
  follow_ended (comes s ∷ ss) log e = rw e (follow_ended ss log e)

  follow_leaf : (s : List Status) (log : Log) → eqb log.ended 0 ≡ true → leaf cap accept s log ≡ follow (comes s ∷ []) log
  unfolding follow
  follow_leaf s log e = rw e

  follow_branch : (a b : List WalkStep) (log : Log)
      → follow b (assume limit (follow a (assume limit log))) ≡ follow (assumes ∷ (a ++ (assumes ∷ b))) log
  unfolding follow
  follow_branch a b log = sym (follow_append a (assumes ∷ b) (assume limit log))

  follow_none : (log : Log) → log ≡ follow [] log
  unfolding follow
  follow_none log = refl

  pub walk-follows : {masks : List (List Bool)} {st : List Status} (t : Tree masks st) (f : ℕ) → open_count st < f → (log : Log)
      → walk f cap accept limit masks st log ≡ follow (steps t) log
  unfolding walk steps
  walk-follows (broken w) zero h log = absurd (omega arith)
  walk-follows {masks} (broken {st} w) (suc f) h log = go (eqb log.ended 0) refl
    where
      go : (c : Bool) → eqb log.ended 0 ≡ c → walk (suc f) cap accept limit masks st log ≡ follow [] log
      go true e = rw (e, sweeps_stable masks w (suc (open_count st)) (omega arith)) (follow_none log)
      go false e = rw e (sym (follow_ended [] log e))
  walk-follows (Tree.leaf s w z) zero h log = absurd (omega arith)
  walk-follows {masks} (Tree.leaf {st} s w z) (suc f) h log = go (eqb log.ended 0) refl
    where
      go : (c : Bool) → eqb log.ended 0 ≡ c → walk (suc f) cap accept limit masks st log ≡ follow (comes s ∷ []) log
      go true e = rw (e, sweeps_stable masks w (suc (open_count st)) (omega arith), eq-eqb (open_count s) 0 z) (follow_leaf s log e)
      go false e = rw e (sym (follow_ended (comes s ∷ []) log e))
  walk-follows (branch s w n a b) zero h log = absurd (omega arith)
  walk-follows {masks} (branch {st} s w n a b) (suc f) h log =
      let l = sweeps_fewer masks w in
      let m = chosen_fewer masks s n in
      let m₀ = m.0 in
      let m₁ = m.1 in
      go (eqb log.ended 0) refl (walk-follows a f (omega arith)) (walk-follows b f (omega arith))
    where
      go : (c : Bool) → eqb log.ended 0 ≡ c
          → ((l : Log) → walk f cap accept limit masks (set s (choose masks s) Taken) l ≡ follow (steps a) l)
          → ((l : Log) → walk f cap accept limit masks (set s (choose masks s) Rejected) l ≡ follow (steps b) l)
          → walk (suc f) cap accept limit masks st log ≡ follow (assumes ∷ (steps a ++ (assumes ∷ steps b))) log
      go true e p q =
          rw (e, sweeps_stable masks w (suc (open_count st)) (omega arith), ne_eqb (open_count s) 0 n)
          (q (assume limit (walk f cap accept limit masks (set s (choose masks s) Taken) (assume limit log)))
          ∙ ap (λ (l : Log). follow (steps b) (assume limit l)) (p (assume limit log)) ∙ follow_branch (steps a) (steps b) log)
      go false e p q = rw e (sym (follow_ended (assumes ∷ (steps a ++ (assumes ∷ steps b))) log e))

  -- ---- one step
  pub assume-one : (log : Log) → log.ended ≡ 0 → log.work < limit
      → assume limit log ≡ record { work = log.work + 1; found = log.found; ended = 0 }
  unfolding assume
  assume-one log e h = rw (eq-eqb log.ended 0 e, lt-ltb log.work limit h)

  pub assume-end : (log : Log) → log.ended ≡ 0 → limit ≤ log.work
      → assume limit log ≡ record { work = log.work; found = log.found; ended = value_of No.TooLong }
  unfolding assume
  assume-end log e h = rw (eq-eqb log.ended 0 e, le-ltb log.work limit h)

  pub come : List Status → Log → Log
  come st log = cond (eqb log.ended 0) (leaf cap accept st log) log

  pub come_more : (st : List Status) (log : Log) → log.ended ≡ 0 → accept st ≡ true → length log.found < cap
      → come st log ≡ record { work = log.work; found = log.found ++ (st ∷ []); ended = log.ended }
  unfolding come leaf
  come_more st log e a h = rw (eq-eqb log.ended 0 e, a, lt-ltb (length log.found) cap h)

  pub come_full : (st : List Status) (log : Log) → log.ended ≡ 0 → accept st ≡ true → cap ≤ length log.found
      → come st log ≡ record { work = log.work; found = log.found; ended = value_of No.Many }
  unfolding come leaf
  come_full st log e a h = rw (eq-eqb log.ended 0 e, a, le-ltb (length log.found) cap h)

  pub come_not : (st : List Status) (log : Log) → log.ended ≡ 0 → accept st ≡ false → come st log ≡ log
  unfolding come leaf
  come_not st log e a = rw (eq-eqb log.ended 0 e, a)

  pub follow_assumes : (ss : List WalkStep) (log log' : Log) → assume limit log ≡ log' → follow (assumes ∷ ss) log ≡ follow ss log'
  unfolding follow
  follow_assumes ss log log' e = ap (follow ss) e

  pub follow_comes : (st : List Status) (ss : List WalkStep) (log log' : Log) → come st log ≡ log'
      → follow (comes st ∷ ss) log ≡ follow ss log'
  unfolding follow come
  follow_comes st ss log log' e = ap (follow ss) e

  -- ---- all steps are gone
  abbrev Full : List WalkStep → Log → Log → Type 0
  Full ss log r = (r.ended ≡ 0) × (r.work ≡ log.work + made ss) × (r.found ≡ log.found ++ filter accept (sought ss))

  pub follow_full : (ss : List WalkStep) (log : Log) → log.ended ≡ 0 → log.work + made ss ≤ limit
      → length log.found + length (filter accept (sought ss)) ≤ cap
      → Full ss log (follow ss log)
  unfolding follow made sought filter keep
  follow_full [] log e h l = (e, omega arith, sym (append-nil log.found))
  follow_full (assumes ∷ ss) log e h l =
      let r = follow_full ss (record { work = log.work + 1; found = log.found; ended = 0 }) refl (omega arith) l in
      let r₁ = r.1 in
      let q = follow_assumes ss log (record { work = log.work + 1; found = log.found; ended = 0 }) (assume-one log e (omega arith)) in
      subst (λ (x : Log). Full (assumes ∷ ss) log x) (sym q) (r.0, omega arith, r.2)
  follow_full (comes st ∷ ss) log e h l = go (accept st) refl l (follow_full ss)
    where
      IH : Type 0
      IH =
          (log : Log) → log.ended ≡ 0 → log.work + made ss ≤ limit → length log.found + length (filter accept (sought ss)) ≤ cap
          → Full ss log (follow ss log)

      go : (b : Bool) → accept st ≡ b → length log.found + length (keep b st (filter accept (sought ss))) ≤ cap → IH
          → Full (comes st ∷ ss) log (follow (comes st ∷ ss) log)
      go true a l ih =
          let next : Log = record { work = log.work; found = log.found ++ (st ∷ []); ended = log.ended } in
          let r = ih next e h (omega (arith, length-append log.found (st ∷ []))) in
          let q = follow_comes st ss log next (come_more st log e a (omega arith)) in
          subst (λ (x : Log). Full (comes st ∷ ss) log x) (sym q)
          (r.0, r.1, rw a (r.2 ∙ append_assoc log.found (st ∷ []) (filter accept (sought ss))))
      go false a l ih =
          let r = ih log e h l in
          let q = follow_comes st ss log log (come_not st log e a) in
          subst (λ (x : Log). Full (comes st ∷ ss) log x) (sym q) (r.0, r.1, rw a r.2)
