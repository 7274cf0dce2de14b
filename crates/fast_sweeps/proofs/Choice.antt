-- The lowest edge with an undecided candidate, looked for from an edge below which there is none; and that there is none stays so.
use mathlib.Core.Bool.{Bool, true, false, ◌&&◌, cond}
use mathlib.Core.List.{List, [], ◌∷◌, map}
use mathlib.Core.Path.{◌≡◌, refl, sym, ap, ◌∙◌}
use Prim.Native.Nat.{ℕ, zero, suc, ◌+◌, ◌≤◌, ◌<◌}
use native.Mathlib.Omega.{arith}
use lib.Dec.{eqb}
use lib.ListN.{length, get_or, drop, set, drop_of_length-le}
use borrow.Author.Tests.{eq-eqb, ne_eqb, eqb-true}
use Rattle.lists.proofs.Places.{drop_more}
use Rattle.sets.specs.Word.{bit, first, both}
use Rattle.paper.specs.Walk.{Status, Taken, Rejected, Undecided, is_open, taken_on, open_on, open_count, decide_one, decide, settle}
use Rattle.paper.specs.Walk.{contradicts, Outcome, Broken, Stands, sweep, stable, choose}
use Rattle.means_walk.specs.Tree.{Sweeps, breaks, rests, again}
use Rattle.means_walk.proofs.Grown.{sweeps, sweeps_stable}
use Rattle.means_walk.proofs.Settled.{not_broken}
use Rattle.fast_sweeps.specs.Worklist.{open_edge, open_from, lowest_on, Shut}

-- ---- the choice by its edge
both_self : (a : List Bool) → both a a ≡ a
unfolding both
both_self [] = refl
both_self (true ∷ a) = ap (λ (x : List Bool). true ∷ x) (both_self a)
both_self (false ∷ a) = ap (λ (x : List Bool). false ∷ x) (both_self a)

pub choose-edge : (masks : List (List Bool)) (st : List Status) → choose masks st ≡ lowest_on masks st (open_edge masks st)
unfolding choose lowest_on open_edge
choose-edge [] st = ap first (sym (both_self (map is_open st)))
choose-edge (mask ∷ masks) st = go (eqb (open_on mask st) 0) (choose-edge masks st)
  where
    go : (b : Bool) → choose masks st ≡ first (both (get_or masks (open_edge masks st) (map is_open st)) (map is_open st))
        → cond b (choose masks st) (first (both mask (map is_open st))) ≡ first
        (both (get_or (mask ∷ masks) (cond b (suc (open_edge masks st)) 0) (map is_open st)) (map is_open st))
    go true ih = ih
    go false ih = refl

-- looked for from e on
pub open-from : (masks : List (List Bool)) (st : List Status) (e : ℕ) → e ≤ length masks → Shut masks e st
    → open_from masks st e ≡ open_edge masks st
unfolding open_from open_edge
open-from masks st zero h s = omega arith
open-from [] st (suc e) h s = absurd (omega arith)
open-from (mask ∷ masks) st (suc e) h s =
    let i : e + open_edge (drop e masks) st ≡ open_edge masks st = open-from masks st e (omega arith) (λ j l. s (suc j) (omega arith)) in
    let p : suc e + open_edge (drop e masks) st ≡ suc (open_edge masks st) = omega arith in
    p ∙ ap (λ (b : Bool). cond b (suc (open_edge masks st)) 0) (sym (eq-eqb (open_on mask st) 0 (s 0 (omega arith))))

pub choose-from : (masks : List (List Bool)) (st : List Status) (e : ℕ) → e ≤ length masks → Shut masks e st
    → choose masks st ≡ lowest_on masks st (open_from masks st e)
choose-from masks st e h s = choose-edge masks st ∙ ap (lowest_on masks st) (sym (open-from masks st e h s))

-- below the edge found there is none
pub edge_within : (masks : List (List Bool)) (st : List Status) → open_edge masks st ≤ length masks
unfolding open_edge
edge_within [] st = omega arith
edge_within (mask ∷ masks) st = go (eqb (open_on mask st) 0) (edge_within masks st)
  where
    go : (b : Bool) → open_edge masks st ≤ length masks → cond b (suc (open_edge masks st)) 0 ≤ length (mask ∷ masks)
    go true h = omega arith
    go false h = omega arith

pub edge_shut : (masks : List (List Bool)) (st : List Status) → Shut masks (open_edge masks st) st
unfolding open_edge
edge_shut [] st = λ j h. absurd (omega arith)
edge_shut (mask ∷ masks) st = go (eqb (open_on mask st) 0) refl (edge_shut masks st)
  where
    go : (b : Bool) → eqb (open_on mask st) 0 ≡ b → Shut masks (open_edge masks st) st
        → Shut (mask ∷ masks) (cond b (suc (open_edge masks st)) 0) st
    go true e ih zero h = eqb-true (open_on mask st) 0 e
    go true e ih (suc j) h = ih j (omega arith)
    go false e ih j h = absurd (omega arith)

-- ---- the loop that looks for it
pub open_skip : (masks : List (List Bool)) (st : List Status) (e : ℕ) → e < length masks → open_on (get_or masks e []) st ≡ 0
    → open_from masks st e ≡ open_from masks st (e + 1)
unfolding open_from open_edge
open_skip masks st e h z =
    let p : open_edge (drop e masks) st ≡ suc (open_edge (drop (e + 1) masks) st)
    = ap (λ (l : List (List Bool)). open_edge l st) (drop_more masks e [] h)
    ∙ ap (λ (b : Bool). cond b (suc (open_edge (drop (e + 1) masks) st)) 0) (eq-eqb (open_on (get_or masks e []) st) 0 z) in
    omega arith

pub open-here : (masks : List (List Bool)) (st : List Status) (e : ℕ) → e < length masks → (open_on (get_or masks e []) st ≡ 0 → ⊥)
    → open_from masks st e ≡ e
unfolding open_from open_edge
open-here masks st e h n =
    let p : open_edge (drop e masks) st ≡ 0
    = ap (λ (l : List (List Bool)). open_edge l st) (drop_more masks e [] h)
    ∙ ap (λ (b : Bool). cond b (suc (open_edge (drop (e + 1) masks) st)) 0) (ne_eqb (open_on (get_or masks e []) st) 0 n) in
    omega arith

pub open_end : (masks : List (List Bool)) (st : List Status) (e : ℕ) → length masks ≤ e → open_from masks st e ≡ e
unfolding open_from open_edge
open_end masks st e h =
    let p : open_edge (drop e masks) st ≡ 0 = ap (λ (l : List (List Bool)). open_edge l st) (drop_of_length-le masks h) in
    omega arith

-- and the candidate on it
at-any : (masks : List (List Bool)) (e : ℕ) (c d : List Bool) → e < length masks → get_or masks e c ≡ get_or masks e d
at-any [] e c d h = absurd (omega arith)
at-any (mask ∷ masks) zero c d h = refl
at-any (mask ∷ masks) (suc e) c d h = at-any masks e c d (omega arith)

at_none : (masks : List (List Bool)) (e : ℕ) (d : List Bool) → length masks ≤ e → get_or masks e d ≡ d
at_none [] e d h = refl
at_none (mask ∷ masks) zero d h = absurd (omega arith)
at_none (mask ∷ masks) (suc e) d h = at_none masks e d (omega arith)

pub lowest_here : (masks : List (List Bool)) (st : List Status) (e : ℕ) → e < length masks
    → first (both (get_or masks e []) (map is_open st)) ≡ lowest_on masks st e
unfolding lowest_on
lowest_here masks st e h = ap (λ (r : List Bool). first (both r (map is_open st))) (at-any masks e [] (map is_open st) h)

pub lowest-none : (masks : List (List Bool)) (st : List Status) (e : ℕ) → length masks ≤ e → first (map is_open st) ≡ lowest_on masks st e
unfolding lowest_on
lowest-none masks st e h =
    ap first (sym (ap (λ (r : List Bool). both r (map is_open st)) (at_none masks e (map is_open st) h) ∙ both_self (map is_open st)))

-- ---- no edge gets a new undecided candidate
one_open : (v : Status) → is_open v ≡ false → (a b : Bool) (s : Status) → bit (a && is_open (decide_one v b s)) ≤ bit (a && is_open s)
one_open v o false b s = omega arith
one_open v o true false s = omega arith
one_open v o true true Taken = omega arith
one_open v o true true Rejected = omega arith
one_open v o true true Undecided = rw o (omega arith)

decide_open : (v : Status) → is_open v ≡ false → (r mask : List Bool) (st : List Status) → open_on r (decide v mask st) ≤ open_on r st
unfolding open_on decide
decide_open v o [] mask st = omega arith
decide_open v o (a ∷ r) [] st = omega arith
decide_open v o (a ∷ r) (b ∷ mask) [] = omega arith
decide_open v o (a ∷ r) (b ∷ mask) (s ∷ st) = omega (arith, one_open v o a b s, decide_open v o r mask st)

pub settle_open : (r mask : List Bool) (st : List Status) → open_on r (settle mask st) ≤ open_on r st
unfolding settle
settle_open r mask st = go (eqb (taken_on mask st) 2) (eqb (taken_on mask st + open_on mask st) 2)
  where
    go : (a b : Bool) → open_on r (cond a (decide Rejected mask st) (cond b (decide Taken mask st) st)) ≤ open_on r st
    go true b = decide_open Rejected refl r mask st
    go false true = decide_open Taken refl r mask st
    go false false = omega arith

pub sweep_open : (r : List Bool) (masks : List (List Bool)) (st s : List Status) → sweep masks st ≡ Stands s → open_on r s ≤ open_on r st
unfolding sweep
sweep_open r [] st s e = let p : st ≡ s = cc in omega (arith, ap (open_on r) p)
sweep_open r (mask ∷ masks) st s e = go (sweep_open r masks (settle mask st) s) (contradicts mask st) e
  where
    go : (sweep masks (settle mask st) ≡ Stands s → open_on r s ≤ open_on r (settle mask st)) → (b : Bool)
        → cond b Broken (sweep masks (settle mask st)) ≡ Stands s → open_on r s ≤ open_on r st
    go ih true q = not_broken q
    go ih false q = omega (arith, ih q, settle_open r mask st)

sweeps_open : (r : List Bool) {masks : List (List Bool)} {st s : List Status} (o : Outcome) → Sweeps masks st o → o ≡ Stands s
    → open_on r s ≤ open_on r st
sweeps_open r {masks} {st} {s} o (breaks e) q = not_broken q
sweeps_open r {masks} {st} {s} o (rests {st = x} e) q = let p : x ≡ s = cc in omega (arith, ap (open_on r) p)
sweeps_open r {masks} {st} {s} o (again {st = x} {st' = y} e n w) q = omega (arith, sweeps_open r o w q, sweep_open r masks x y e)

pub stable_open : (r : List Bool) (masks : List (List Bool)) (st s : List Status) → stable (suc (open_count st)) masks st ≡ Stands s
    → open_on r s ≤ open_on r st
stable_open r masks st s e =
    let w = sweeps masks (suc (open_count st)) st (omega arith) in
    sweeps_open r w.0 w.1 (sym (sweeps_stable masks w.1 (suc (open_count st)) (omega arith)) ∙ e)

pub set_open : (r : List Bool) (st : List Status) (k : ℕ) (v : Status) → is_open v ≡ false → open_on r (set st k v) ≤ open_on r st
unfolding open_on
set_open [] st k v o = omega arith
set_open (a ∷ r) [] k v o = omega arith
set_open (true ∷ r) (s ∷ st) zero v o = rw o (omega arith)
set_open (false ∷ r) (s ∷ st) zero v o = omega arith
set_open (a ∷ r) (s ∷ st) (suc k) v o = omega (arith, set_open r st k v o)

pub shut_stable : (masks : List (List Bool)) (e : ℕ) (st s : List Status) → Shut masks e st
    → stable (suc (open_count st)) masks st ≡ Stands s → Shut masks e s
shut_stable masks e st s h w j l = omega (arith, h j l, stable_open (get_or masks j []) masks st s w)

pub shut_set : (masks : List (List Bool)) (e : ℕ) (st : List Status) (k : ℕ) (v : Status) → is_open v ≡ false → Shut masks e st
    → Shut masks e (set st k v)
shut_set masks e st k v o h j l = omega (arith, h j l, set_open (get_or masks j []) st k v o)
