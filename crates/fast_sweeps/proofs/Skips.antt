-- What is left of the whole sweeps, edge by edge: passing over a settled edge changes nothing.
use mathlib.Core.Bool.{Bool, true, false, cond}
use mathlib.Core.List.{List, [], ◌∷◌}
use mathlib.Core.Path.{◌≡◌, refl, sym, ap, ap₂, ◌∙◌, subst}
use Prim.Native.Nat.{ℕ, zero, suc, ◌+◌, ◌-◌, ◌≤◌, ◌<◌}
use native.Mathlib.Omega.{arith}
use native.Mathlib.Decide.{ℕ_discrete}
use lib.Dec.{eqb}
use lib.ListN.{length, get_or, drop, drop_of_length-le}
use borrow.Author.Tests.{eq-eqb, ne_eqb}
use Rattle.lists.proofs.Places.{drop_more}
use Rattle.paper.specs.Walk.{Status, open_count, settle, contradicts, Outcome, Broken, Stands, on_stands, sweep, stable}
use Rattle.means_walk.specs.Tree.{Sweeps, breaks, rests, again}
use Rattle.means_walk.proofs.Grown.{sweeps, sweeps_stable}
use Rattle.means_walk.proofs.Ends.{stable_fuel}
use Rattle.means_walk.proofs.Settled.{sweep_fewer, sweep_still, not_broken}
use Rattle.fast_sweeps.specs.Worklist.{Settled, afterwards}
use Rattle.fast_sweeps.proofs.Edge.{settle_still}

module _ (masks : List (List Bool)) where
  -- all sweeps from a state
  abbrev pub all_sweeps : List Status → Outcome
  all_sweeps st = stable (suc (open_count st)) masks st

  -- where a sweep changes nothing, that is the end
  pub stable_still : (st : List Status) → sweep masks st ≡ Stands st → all_sweeps st ≡ Stands st
  unfolding stable
  stable_still st e = rw (e, eq-eqb (open_count st) (open_count st) refl)

  -- the sweeps from a state: one sweep, and the sweeps from what it leaves
  pub stable_more : (st : List Status) → all_sweeps st ≡ afterwards masks masks st
  unfolding stable afterwards
  stable_more st = go (sweep masks st) refl
    where
      next : (s : List Status) → sweep masks st ≡ Stands s → Dec (open_count s ≡ open_count st)
          → cond (eqb (open_count s) (open_count st)) (Stands s) (stable (open_count st) masks s) ≡ stable (suc (open_count s)) masks s
      next s e (yes q) =
          let p : s ≡ st = (sweep_still masks st s e (omega arith)).0 in
          rw (eq-eqb (open_count s) (open_count st) q)
          (sym (stable_still s (subst (λ (x : List Status). sweep masks x ≡ Stands s) (sym p) e)))
      next s e (no q) =
          let l : open_count s ≤ open_count st = sweep_fewer masks st s e in
          rw (ne_eqb (open_count s) (open_count st) q) (stable_fuel masks s (open_count st) (omega (arith, q)))

      go : (o : Outcome) → sweep masks st ≡ o
          → on_stands o Broken (λ s. cond (eqb (open_count s) (open_count st)) (Stands s) (stable (open_count st) masks s)) ≡ on_stands o
          Broken (λ s. stable (suc (open_count s)) masks s)
      go Broken e = refl
      go (Stands s) e = next s e (ℕ_discrete (open_count s) (open_count st))

  module _ (st : List Status) where
    pub one-edge : (e : ℕ) → e < length masks
        → afterwards masks (drop e masks) st ≡ cond (contradicts (get_or masks e []) st) Broken
        (afterwards masks (drop (e + 1) masks) (settle (get_or masks e []) st))
    unfolding afterwards sweep
    one-edge e h = ap (λ (l : List (List Bool)). afterwards masks l st) (drop_more masks e [] h) ∙ go (contradicts (get_or masks e []) st)
      where
        go : (b : Bool) → on_stands (cond b Broken (sweep (drop (e + 1) masks) (settle (get_or masks e []) st))) Broken
            (λ s. stable (suc (open_count s)) masks s)
            ≡ cond b Broken
            (on_stands (sweep (drop (e + 1) masks) (settle (get_or masks e []) st)) Broken (λ s. stable (suc (open_count s)) masks s))
        go true = refl
        go false = refl

    one_settled : (e : ℕ) → e < length masks → Settled (get_or masks e []) st
        → afterwards masks (drop e masks) st ≡ afterwards masks (drop (e + 1) masks) st
    one_settled e h s =
        one-edge e h ∙ ap₂ (λ (b : Bool) (x : List Status). cond b Broken (afterwards masks (drop (e + 1) masks) x)) s.calm s.still

    -- edges that are settled are skipped
    skip : (d e : ℕ) → e + d ≤ length masks → ((j : ℕ) → e ≤ j → j < e + d → Settled (get_or masks j []) st)
        → afterwards masks (drop e masks) st ≡ afterwards masks (drop (e + d) masks) st
    skip zero e h s = let p : e ≡ e + 0 = omega arith in ap (λ (x : ℕ). afterwards masks (drop x masks) st) p
    skip (suc d) e h s =
        let p : (e + 1) + d ≡ e + suc d = omega arith in
        one_settled e (omega arith) (s e (omega arith) (omega arith))
        ∙ skip d (e + 1) (omega arith) (λ j a b. s j (omega arith) (omega arith))
        ∙ ap (λ (x : ℕ). afterwards masks (drop x masks) st) p

    pub skip_to : (e g : ℕ) → e ≤ g → g ≤ length masks → ((j : ℕ) → e ≤ j → j < g → Settled (get_or masks j []) st)
        → afterwards masks (drop e masks) st ≡ afterwards masks (drop g masks) st
    skip_to e g h k s =
        let p : e + (g - e) ≡ g = omega arith in
        skip (g - e) e (omega arith) (λ j a b. s j a (omega arith)) ∙ ap (λ (x : ℕ). afterwards masks (drop x masks) st) p

    at-end : afterwards masks (drop (length masks) masks) st ≡ all_sweeps st
    unfolding afterwards sweep
    at-end =
        let h : length masks ≤ length masks = omega arith in
        ap (λ (l : List (List Bool)). on_stands (sweep l st) Broken (λ s. stable (suc (open_count s)) masks s)) (drop_of_length-le masks h)

    pub at-start : afterwards masks (drop 0 masks) st ≡ all_sweeps st
    at-start = sym (stable_more st)

    pub skip_all : (e : ℕ) → e ≤ length masks → ((j : ℕ) → e ≤ j → j < length masks → Settled (get_or masks j []) st)
        → afterwards masks (drop e masks) st ≡ all_sweeps st
    skip_all e h s = skip_to e (length masks) h (omega arith) s ∙ at-end

  -- ---- all edges are settled
  pub sweep_settled : (l : List (List Bool)) (st : List Status) → ((j : ℕ) → j < length l → Settled (get_or l j []) st) → sweep l st ≡ Stands st
  unfolding sweep
  sweep_settled [] st s = refl
  sweep_settled (mask ∷ l) st s =
      ap₂ (λ (b : Bool) (x : List Status). cond b Broken (sweep l x)) (s 0 (omega arith)).calm (s 0 (omega arith)).still
      ∙ sweep_settled l st (λ j h. s (suc j) (omega arith))

  pub settled_sweep : (l : List (List Bool)) (st : List Status) → sweep l st ≡ Stands st → (j : ℕ) → j < length l
      → Settled (get_or l j []) st
  unfolding sweep
  settled_sweep [] st e j h = absurd (omega arith)
  settled_sweep (mask ∷ l) st e j h = go (contradicts mask st) refl e (settled_sweep l st) j h
    where
      go : (b : Bool) → contradicts mask st ≡ b → cond b Broken (sweep l (settle mask st)) ≡ Stands st
          → (sweep l st ≡ Stands st → (j : ℕ) → j < length l → Settled (get_or l j []) st)
          → (j : ℕ) → j < length (mask ∷ l) → Settled (get_or (mask ∷ l) j []) st
      go true c q ih j h = not_broken q
      go false c q ih zero h = record { calm = c; still = settle_still mask st c (sweep_fewer l (settle mask st) st q) }
      go false c q ih (suc j) h =
          ih (subst (λ (x : List Status). sweep l x ≡ Stands st) (settle_still mask st c (sweep_fewer l (settle mask st) st q)) q) j
          (omega arith)

  -- what all sweeps leave is left as it is by one more
  sweeps_still : {st s : List Status} (o : Outcome) → Sweeps masks st o → o ≡ Stands s → sweep masks s ≡ Stands s
  sweeps_still {st} {s} o (breaks e) q = not_broken q
  sweeps_still {st} {s} o (rests {st = x} e) q = let p : x ≡ s = cc in subst (λ (y : List Status). sweep masks y ≡ Stands y) p e
  sweeps_still {st} {s} o (again e n w) q = sweeps_still o w q

  pub stable_settled : (st s : List Status) → all_sweeps st ≡ Stands s → (j : ℕ) → j < length masks → Settled (get_or masks j []) s
  stable_settled st s e =
      let r = sweeps masks (suc (open_count st)) st (omega arith) in
      settled_sweep masks s (sweeps_still r.0 r.1 (sym (sweeps_stable masks r.1 (suc (open_count st)) (omega arith)) ∙ e))
