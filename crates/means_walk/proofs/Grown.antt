-- Every state has its tree, and the fuel of `stable` is enough.
use mathlib.Core.Bool.{Bool, true, false, cond}
use mathlib.Core.List.{List, [], ◌∷◌, ◌++◌}
use mathlib.Core.Path.{◌≡◌, refl, sym, ap, ap₂, ◌∙◌}
use Prim.Native.Nat.{ℕ, zero, suc, ◌≤◌, ◌<◌}
use native.Mathlib.Omega.{arith}
use native.Mathlib.Decide.{ℕ_discrete}
use lib.ListN.{get_or, set}
use lib.Dec.{eqb}
use borrow.Author.Tests.{eq-eqb, ne_eqb}
use Rattle.paper.specs.Walk.{Status, Taken, Rejected, open_count, Outcome, Broken, Stands, on_stands, sweep, stable, choose}
use Rattle.means_walk.specs.Complete.{solutions}
use Rattle.means_walk.specs.Tree.{Sweeps, breaks, rests, again, Tree, broken, leaf, branch, leaves, WalkStep, assumes, comes, steps}
use Rattle.means_walk.specs.Lowest.{opens}
use Rattle.means_walk.proofs.Status.{count_set}
use Rattle.means_walk.proofs.Complete.{choose_open}
use Rattle.means_walk.proofs.Settled.{sweep_fewer, sweep_still, stable_rest}

module _ (masks : List (List Bool)) where
  -- the sweeps end as `stable` says, with any fuel above the undecided
  pub sweeps_stable : {st : List Status} {o : Outcome} → Sweeps masks st o → (f : ℕ) → open_count st < f → stable f masks st ≡ o
  unfolding stable
  sweeps_stable (breaks e) zero h = absurd (omega arith)
  sweeps_stable (breaks e) (suc f) h = rw e
  sweeps_stable (rests e) zero h = absurd (omega arith)
  sweeps_stable (rests {st} e) (suc f) h = rw (e, eq-eqb (open_count st) (open_count st) refl)
  sweeps_stable (again e n w) zero h = absurd (omega arith)
  sweeps_stable (again {st} {st'} e n w) (suc f) h =
      let l : open_count st' ≤ open_count st = sweep_fewer masks st st' e in
      let m : open_count st' ≡ open_count st → ⊥ = λ q. n (sweep_still masks st st' e (omega arith)).0 in
      rw (e, ne_eqb (open_count st') (open_count st) m) (sweeps_stable w f (omega (arith, m)))

  pub sweeps : (f : ℕ) (st : List Status) → open_count st < f → (o : Outcome) × Sweeps masks st o
  sweeps zero st h = absurd (omega arith)
  sweeps (suc f) st h = go (sweep masks st) refl (sweeps f)
    where
      next : (s : List Status) → sweep masks st ≡ Stands s → ((s : List Status) → open_count s < f → (o : Outcome) × Sweeps masks s o)
          → Dec (open_count s ≡ open_count st) → (o : Outcome) × Sweeps masks st o
      next s e ih (yes q) = let p : s ≡ st = (sweep_still masks st s e (omega arith)).0 in (Stands st, rests (e ∙ ap Stands p))
      next s e ih (no q) =
          let l : open_count s ≤ open_count st = sweep_fewer masks st s e in
          let r = ih s (omega (arith, q)) in
          (r.0, again e (λ p. q (ap open_count p)) r.1)

      go : (o : Outcome) → sweep masks st ≡ o → ((s : List Status) → open_count s < f → (o : Outcome) × Sweeps masks s o)
          → (o : Outcome) × Sweeps masks st o
      go Broken e ih = (Broken, breaks e)
      go (Stands s) e ih = next s e ih (ℕ_discrete (open_count s) (open_count st))

  -- what is left has no more undecided, and after an assumption it has fewer
  pub sweeps_fewer : {st s : List Status} → Sweeps masks st (Stands s) → open_count s ≤ open_count st
  sweeps_fewer {st} {s} w =
      (stable_rest (suc (open_count st)) masks st s (omega arith) (sweeps_stable w (suc (open_count st)) (omega arith))).0

  pub chosen_fewer : (s : List Status) → (open_count s ≡ 0 → ⊥)
      → (suc (open_count (set s (choose masks s) Taken)) ≡ open_count s) × (suc (open_count (set s (choose masks s) Rejected)) ≡ open_count s)
  chosen_fewer s n =
      let o : get_or (opens s) (choose masks s) false ≡ true = choose_open masks s n in
      (count_set Taken refl s (choose masks s) o, count_set Rejected refl s (choose masks s) o)

  grow : (f : ℕ) (st : List Status) → open_count st < f → Tree masks st
  grow zero st h = absurd (omega arith)
  grow (suc f) st h = go (sweeps (suc (open_count st)) st (omega arith)) (grow f)
    where
      next : (s : List Status) → Sweeps masks st (Stands s) → ((s : List Status) → open_count s < f → Tree masks s) → Dec (open_count s ≡ 0)
          → Tree masks st
      next s w ih (yes q) = leaf s w q
      next s w ih (no q) =
          let l = sweeps_fewer w in
          let m = chosen_fewer s q in
          let m₀ = m.0 in
          let m₁ = m.1 in
          branch s w q (ih (set s (choose masks s) Taken) (omega arith)) (ih (set s (choose masks s) Rejected) (omega arith))

      by : (o : Outcome) → Sweeps masks st o → ((s : List Status) → open_count s < f → Tree masks s) → Tree masks st
      by Broken w ih = broken w
      by (Stands s) w ih = next s w ih (ℕ_discrete (open_count s) 0)

      go : (o : Outcome) × Sweeps masks st o → ((s : List Status) → open_count s < f → Tree masks s) → Tree masks st
      go r ih = by r.0 r.1 ih

  pub tree : (st : List Status) → Tree masks st
  tree st = grow (suc (open_count st)) st (omega arith)

  -- the leaves are the selections that the walk comes to
  pub tree_leaves : {st : List Status} (t : Tree masks st) (f : ℕ) → open_count st < f → solutions f masks st ≡ leaves t
  unfolding solutions leaves
  tree_leaves (broken w) zero h = absurd (omega arith)
  tree_leaves (broken {st} w) (suc f) h = rw (sweeps_stable w (suc (open_count st)) (omega arith))
  tree_leaves (leaf s w z) zero h = absurd (omega arith)
  tree_leaves (leaf {st} s w z) (suc f) h = rw (sweeps_stable w (suc (open_count st)) (omega arith), eq-eqb (open_count s) 0 z)
  tree_leaves (branch s w n a b) zero h = absurd (omega arith)
  tree_leaves (branch {st} s w n a b) (suc f) h =
      let l = sweeps_fewer w in
      let m = chosen_fewer s n in
      let m₀ = m.0 in
      let m₁ = m.1 in
      rw (sweeps_stable w (suc (open_count st)) (omega arith), ne_eqb (open_count s) 0 n)
      (ap₂ ◌++◌ (tree_leaves a f (omega arith)) (tree_leaves b f (omega arith)))

  -- the steps are those of any other tree of the state: there is one walk
  steps_of : ℕ → List Status → List WalkStep
  steps_of zero st = []
  steps_of (suc f) st =
      on_stands (stable (suc (open_count st)) masks st) []
      (λ s. cond (eqb (open_count s) 0) (comes s ∷ [])
      (assumes ∷ (steps_of f (set s (choose masks s) Taken) ++ (assumes ∷ steps_of f (set s (choose masks s) Rejected)))))

  tree_steps : {st : List Status} (t : Tree masks st) (f : ℕ) → open_count st < f → steps_of f st ≡ steps t
  unfolding steps_of steps
  tree_steps (broken w) zero h = absurd (omega arith)
  tree_steps (broken {st} w) (suc f) h = rw (sweeps_stable w (suc (open_count st)) (omega arith))
  tree_steps (leaf s w z) zero h = absurd (omega arith)
  tree_steps (leaf {st} s w z) (suc f) h = rw (sweeps_stable w (suc (open_count st)) (omega arith), eq-eqb (open_count s) 0 z)
  tree_steps (branch s w n a b) zero h = absurd (omega arith)
  tree_steps (branch {st} s w n a b) (suc f) h =
      let l = sweeps_fewer w in
      let m = chosen_fewer s n in
      let m₀ = m.0 in
      let m₁ = m.1 in
      rw (sweeps_stable w (suc (open_count st)) (omega arith), ne_eqb (open_count s) 0 n)
      (ap₂ (λ (x y : List WalkStep). assumes ∷ (x ++ (assumes ∷ y))) (tree_steps a f (omega arith)) (tree_steps b f (omega arith)))

  pub one-walk : {st : List Status} (t u : Tree masks st) → steps t ≡ steps u
  one-walk {st} t u = sym (tree_steps t (suc (open_count st)) (omega arith)) ∙ tree_steps u (suc (open_count st)) (omega arith)
