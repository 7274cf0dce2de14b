-- An edge settled, and sweeps: they allow what a state allowed, and leave no contradiction.
use mathlib.Core.Bool.{Bool, true, false, ◌&&◌, cond, true≢false}
use mathlib.Core.List.{List, [], ◌∷◌}
use mathlib.Core.Path.{◌≡◌, refl, sym, ap, ap₂, ◌∙◌, subst}
use mathlib.Core.Logic.{◌⊎◌, inl, inr}
use Prim.Native.Nat.{ℕ, zero, suc, ◌+◌, ◌≤◌, ◌<◌}
use native.Mathlib.Omega.{arith}
use lib.Dec.{eqb, ltb}
use borrow.Author.Tests.{eqb-true, eqb-false, ltb-true}
use Rattle.lists.proofs.Truth.{same_truth, or_cases, and_split, and_both}
use Rattle.sets.specs.Word.{bit}
use Rattle.paper.specs.Walk.{Status, Taken, Rejected, Undecided, is_taken, is_open, taken_on, open_on, open_count, decide_one, decide, settle}
use Rattle.paper.specs.Walk.{contradicts, Outcome, Broken, Stands, on_stands, sweep, stable}
use Rattle.means_walk.specs.Complete.{allows, agrees, exact}

-- ---- Bools
-- ---- a final list that a state allows: how many it has taken on an edge
one_low : (b : Bool) (s v : Status) → allows s v ≡ true → bit (b && is_taken s) ≤ bit (b && is_taken v)
one_low false s v e = omega arith
one_low true Taken Taken e = omega arith
one_low true Taken Rejected e = absurd (true≢false (sym e))
one_low true Taken Undecided e = absurd (true≢false (sym e))
one_low true Rejected v e = omega arith
one_low true Undecided v e = omega arith

one_high : (b : Bool) (s v : Status) → allows s v ≡ true → bit (b && is_taken v) ≤ bit (b && is_taken s) + bit (b && is_open s)
one_high false s v e = omega arith
one_high true Taken Taken e = omega arith
one_high true Taken Rejected e = omega arith
one_high true Taken Undecided e = omega arith
one_high true Rejected Taken e = absurd (true≢false (sym e))
one_high true Rejected Rejected e = omega arith
one_high true Rejected Undecided e = omega arith
one_high true Undecided Taken e = omega arith
one_high true Undecided Rejected e = omega arith
one_high true Undecided Undecided e = omega arith

low : (mask : List Bool) (st x : List Status) → agrees st x ≡ true → taken_on mask st ≤ taken_on mask x
unfolding taken_on agrees
low [] st x e = omega arith
low (b ∷ mask) [] x e = omega arith
low (b ∷ mask) (s ∷ st) [] e = absurd (true≢false (sym e))
low (b ∷ mask) (s ∷ st) (v ∷ x) e =
    let p = and_split (allows s v) (agrees st x) e in
    omega (arith, one_low b s v p.0, low mask st x p.1)

high : (mask : List Bool) (st x : List Status) → agrees st x ≡ true → taken_on mask x ≤ taken_on mask st + open_on mask st
unfolding taken_on open_on agrees
high [] st x e = omega arith
high (b ∷ mask) [] [] e = omega arith
high (b ∷ mask) [] (v ∷ x) e = absurd (true≢false (sym e))
high (b ∷ mask) (s ∷ st) [] e = omega arith
high (b ∷ mask) (s ∷ st) (v ∷ x) e =
    let p = and_split (allows s v) (agrees st x) e in
    omega (arith, one_high b s v p.0, high mask st x p.1)

-- ---- an edge settled
one_rejected : (b : Bool) (s v : Status) → allows s v ≡ true → bit (b && is_taken s) ≡ bit (b && is_taken v)
    → allows (decide_one Rejected b s) v ≡ true
one_rejected false s v e q = e
one_rejected true Taken v e q = e
one_rejected true Rejected v e q = e
one_rejected true Undecided Taken e q = absurd (omega arith)
one_rejected true Undecided Rejected e q = refl
one_rejected true Undecided Undecided e q = absurd (true≢false (sym e))

rejected_agrees : (mask : List Bool) (st x : List Status) → agrees st x ≡ true → taken_on mask st ≡ taken_on mask x
    → agrees (decide Rejected mask st) x ≡ true
unfolding taken_on agrees decide
rejected_agrees [] st x e q = e
rejected_agrees (b ∷ mask) [] x e q = e
rejected_agrees (b ∷ mask) (s ∷ st) [] e q = e
rejected_agrees (b ∷ mask) (s ∷ st) (v ∷ x) e q =
    let p = and_split (allows s v) (agrees st x) e in
    and_both (one_rejected b s v p.0 (omega (arith, one_low b s v p.0, low mask st x p.1)))
    (rejected_agrees mask st x p.1 (omega (arith, one_low b s v p.0, low mask st x p.1)))

one_taken : (b : Bool) (s v : Status) → allows s v ≡ true → bit (b && is_taken v) ≡ bit (b && is_taken s) + bit (b && is_open s)
    → allows (decide_one Taken b s) v ≡ true
one_taken false s v e q = e
one_taken true Taken v e q = e
one_taken true Rejected v e q = e
one_taken true Undecided Taken e q = refl
one_taken true Undecided Rejected e q = absurd (omega arith)
one_taken true Undecided Undecided e q = absurd (true≢false (sym e))

taken_agrees : (mask : List Bool) (st x : List Status) → agrees st x ≡ true → taken_on mask x ≡ taken_on mask st + open_on mask st
    → agrees (decide Taken mask st) x ≡ true
unfolding taken_on open_on agrees decide
taken_agrees [] st x e q = e
taken_agrees (b ∷ mask) [] x e q = e
taken_agrees (b ∷ mask) (s ∷ st) [] e q = e
taken_agrees (b ∷ mask) (s ∷ st) (v ∷ x) e q =
    let p = and_split (allows s v) (agrees st x) e in
    and_both (one_taken b s v p.0 (omega (arith, one_high b s v p.0, high mask st x p.1)))
    (taken_agrees mask st x p.1 (omega (arith, one_high b s v p.0, high mask st x p.1)))

one_back : (d : Status) → is_open d ≡ false → (b : Bool) (s v : Status) → allows (decide_one d b s) v ≡ true → allows s v ≡ true
one_back d o false s v e = e
one_back d o true Taken v e = e
one_back d o true Rejected v e = e
one_back d o true Undecided Taken e = refl
one_back d o true Undecided Rejected e = refl
one_back Taken o true Undecided Undecided e = absurd (true≢false (sym e))
one_back Rejected o true Undecided Undecided e = absurd (true≢false (sym e))
one_back Undecided o true Undecided Undecided e = absurd (true≢false o)

decided_back : (d : Status) → is_open d ≡ false → (mask : List Bool) (st x : List Status) → agrees (decide d mask st) x ≡ true
    → agrees st x ≡ true
unfolding agrees decide
decided_back d o [] st x e = e
decided_back d o (b ∷ mask) [] x e = e
decided_back d o (b ∷ mask) (s ∷ st) [] e = e
decided_back d o (b ∷ mask) (s ∷ st) (v ∷ x) e =
    let p = and_split (allows (decide_one d b s) v) (agrees (decide d mask st) x) e in
    and_both (one_back d o b s v p.0) (decided_back d o mask st x p.1)

-- settling an edge on which x has two taken allows x as before
pub settle-agrees : (mask : List Bool) (st x : List Status) → taken_on mask x ≡ 2 → agrees (settle mask st) x ≡ agrees st x
unfolding settle
settle-agrees mask st x h = go (eqb (taken_on mask st) 2) refl (eqb (taken_on mask st + open_on mask st) 2) refl
  where
    go : (b : Bool) → eqb (taken_on mask st) 2 ≡ b → (c : Bool) → eqb (taken_on mask st + open_on mask st) 2 ≡ c
        → agrees (cond b (decide Rejected mask st) (cond c (decide Taken mask st) st)) x ≡ agrees st x
    go true p c q =
        same_truth (agrees (decide Rejected mask st) x) (agrees st x) (decided_back Rejected refl mask st x)
        (λ e. rejected_agrees mask st x e (eqb-true (taken_on mask st) 2 p ∙ sym h))
    go false p true q =
        same_truth (agrees (decide Taken mask st) x) (agrees st x) (decided_back Taken refl mask st x)
        (λ e. taken_agrees mask st x e (h ∙ sym (eqb-true (taken_on mask st + open_on mask st) 2 q)))
    go false p false q = refl

-- a contradiction allows no x with two taken on the edge
pub contradicts-agrees : (mask : List Bool) (st x : List Status) → taken_on mask x ≡ 2 → contradicts mask st ≡ true → agrees st x ≡ false
unfolding contradicts
contradicts-agrees mask st x h e = go (agrees st x) refl (or_cases (ltb 2 (taken_on mask st)) (ltb (taken_on mask st + open_on mask st) 2) e)
  where
    go : (b : Bool) → agrees st x ≡ b → (ltb 2 (taken_on mask st) ≡ true) ⊎ (ltb (taken_on mask st + open_on mask st) 2 ≡ true) → b ≡ false
    go false a w = refl
    go true a (inl w) = absurd (omega (arith, ltb-true 2 (taken_on mask st) w, low mask st x a))
    go true a (inr w) = absurd (omega (arith, ltb-true (taken_on mask st + open_on mask st) 2 w, high mask st x a))

-- ---- sweeps allow x as before, where x has two taken on each edge
sweep-agrees : (masks : List (List Bool)) (x : List Status) → exact masks x ≡ true → (st : List Status)
    → on_stands (sweep masks st) false (λ st'. agrees st' x) ≡ agrees st x
unfolding sweep exact
sweep-agrees [] x e st = refl
sweep-agrees (mask ∷ masks) x e st =
    go (sweep-agrees masks x (and_split (eqb (taken_on mask x) 2) (exact masks x) e).1) (contradicts mask st) refl
  where
    two : taken_on mask x ≡ 2
    two = eqb-true (taken_on mask x) 2 (and_split (eqb (taken_on mask x) 2) (exact masks x) e).0

    go : ((s : List Status) → on_stands (sweep masks s) false (λ st'. agrees st' x) ≡ agrees s x) → (b : Bool) → contradicts mask st ≡ b
        → on_stands (cond b Broken (sweep masks (settle mask st))) false (λ st'. agrees st' x) ≡ agrees st x
    go ih true c = sym (contradicts-agrees mask st x two c)
    go ih false c = ih (settle mask st) ∙ settle-agrees mask st x two

pub stable-agrees : (f : ℕ) (masks : List (List Bool)) (x : List Status) → exact masks x ≡ true → (st : List Status)
    → on_stands (stable f masks st) false (λ st'. agrees st' x) ≡ agrees st x
unfolding stable
stable-agrees zero masks x e st = refl
stable-agrees (suc f) masks x e st = go (stable-agrees f masks x e) (sweep masks st) (sweep-agrees masks x e st)
  where
    next : ((s : List Status) → on_stands (stable f masks s) false (λ st'. agrees st' x) ≡ agrees s x) → (s : List Status) (b : Bool)
        → on_stands (cond b (Stands s) (stable f masks s)) false (λ st'. agrees st' x) ≡ agrees s x
    next ih s true = refl
    next ih s false = ih s

    go : ((s : List Status) → on_stands (stable f masks s) false (λ st'. agrees st' x) ≡ agrees s x) → (o : Outcome)
        → on_stands o false (λ st'. agrees st' x) ≡ agrees st x
        → on_stands (on_stands o Broken (λ s. cond (eqb (open_count s) (open_count st)) (Stands s) (stable f masks s))) false
        (λ st'. agrees st' x) ≡ agrees st x
    go ih Broken a = a
    go ih (Stands s) a = next ih s (eqb (open_count s) (open_count st)) ∙ a

-- ---- the undecided never grow, and where they stay as many, nothing changed
one_fewer : (d : Status) → is_open d ≡ false → (b : Bool) (s : Status) → bit (is_open (decide_one d b s)) ≤ bit (is_open s)
one_fewer d o false s = omega arith
one_fewer d o true Taken = omega arith
one_fewer d o true Rejected = omega arith
one_fewer d o true Undecided = rw o (omega arith)

decide_fewer : (d : Status) → is_open d ≡ false → (mask : List Bool) (st : List Status) → open_count (decide d mask st) ≤ open_count st
unfolding decide open_count
decide_fewer d o [] st = omega arith
decide_fewer d o (b ∷ mask) [] = omega arith
decide_fewer d o (b ∷ mask) (s ∷ st) = omega (arith, one_fewer d o b s, decide_fewer d o mask st)

one_still : (d : Status) → is_open d ≡ false → (b : Bool) (s : Status) → bit (is_open s) ≤ bit (is_open (decide_one d b s))
    → decide_one d b s ≡ s
one_still d o false s h = refl
one_still d o true Taken h = refl
one_still d o true Rejected h = refl
one_still d o true Undecided h = absurd (omega (arith, ap bit o))

decide_still : (d : Status) → is_open d ≡ false → (mask : List Bool) (st : List Status) → open_count st ≤ open_count (decide d mask st)
    → decide d mask st ≡ st
unfolding decide open_count
decide_still d o [] st h = refl
decide_still d o (b ∷ mask) [] h = refl
decide_still d o (b ∷ mask) (s ∷ st) h =
    ap₂ (λ (x : Status) (y : List Status). x ∷ y)
    (one_still d o b s (omega (arith, one_fewer d o b s, decide_fewer d o mask st)))
    (decide_still d o mask st (omega (arith, one_fewer d o b s, decide_fewer d o mask st)))

pub cond_is : {A : Type 0} (P : A → Type 0) (b : Bool) {x y : A} → P x → P y → P (cond b x y)
cond_is P true p q = p
cond_is P false p q = q

settle_fewer : (mask : List Bool) (st : List Status) → open_count (settle mask st) ≤ open_count st
unfolding settle
settle_fewer mask st =
    let P : List Status → Type 0 = λ x. open_count x ≤ open_count st in
    cond_is P (eqb (taken_on mask st) 2) (decide_fewer Rejected refl mask st)
    (cond_is P (eqb (taken_on mask st + open_on mask st) 2) (decide_fewer Taken refl mask st) (omega arith))

settle_still : (mask : List Bool) (st : List Status) → open_count st ≤ open_count (settle mask st) → settle mask st ≡ st
unfolding settle
settle_still mask st =
    let P : List Status → Type 0 = λ x. open_count st ≤ open_count x → x ≡ st in
    cond_is P (eqb (taken_on mask st) 2) (decide_still Rejected refl mask st)
    (cond_is P (eqb (taken_on mask st + open_on mask st) 2) (decide_still Taken refl mask st) (λ h. refl))

-- no edge has a contradiction
abbrev pub Calm : List (List Bool) → List Status → Type 0
Calm [] st = Unit {0}
Calm (mask ∷ masks) st = (contradicts mask st ≡ false) × Calm masks st

pub not_broken : {A : Type 0} {st : List Status} → Broken ≡ Stands st → A
not_broken e = let z : ◌≡◌ {A = ℕ} 0 1 = cc in absurd (omega arith)

pub sweep_fewer : (masks : List (List Bool)) (st st' : List Status) → sweep masks st ≡ Stands st' → open_count st' ≤ open_count st
unfolding sweep
sweep_fewer [] st st' e = let p : st ≡ st' = cc in omega (arith, ap open_count p)
sweep_fewer (mask ∷ masks) st st' e = go (sweep_fewer masks (settle mask st) st') (contradicts mask st) e
  where
    go : (sweep masks (settle mask st) ≡ Stands st' → open_count st' ≤ open_count (settle mask st)) → (b : Bool)
        → cond b Broken (sweep masks (settle mask st)) ≡ Stands st' → open_count st' ≤ open_count st
    go ih true q = not_broken q
    go ih false q = omega (arith, ih q, settle_fewer mask st)

pub sweep_still : (masks : List (List Bool)) (st st' : List Status) → sweep masks st ≡ Stands st' → open_count st ≤ open_count st'
    → (st' ≡ st) × Calm masks st
unfolding sweep
sweep_still [] st st' e h = (let p : st' ≡ st = cc in p, tt)
sweep_still (mask ∷ masks) st st' e h = go (sweep_still masks st st') (contradicts mask st) refl e
  where
    go : (sweep masks st ≡ Stands st' → open_count st ≤ open_count st' → (st' ≡ st) × Calm masks st) → (b : Bool) → contradicts mask st ≡ b
        → cond b Broken (sweep masks (settle mask st)) ≡ Stands st' → (st' ≡ st) × ((contradicts mask st ≡ false) × Calm masks st)
    go ih true c q = not_broken q
    go ih false c q =
        let s : settle mask st ≡ st = settle_still mask st (omega (arith, sweep_fewer masks (settle mask st) st' q)) in
        let r = ih (subst (λ (y : List Status). sweep masks y ≡ Stands st') s q) h in
        (r.0, (c, r.1))

-- what sweeping until nothing changes leaves
pub stable_rest : (f : ℕ) (masks : List (List Bool)) (st st' : List Status) → open_count st < f → stable f masks st ≡ Stands st'
    → (open_count st' ≤ open_count st) × Calm masks st'
unfolding stable
stable_rest zero masks st st' h e = absurd (omega arith)
stable_rest (suc f) masks st st' h e = go (λ s. stable_rest f masks s st') (sweep masks st) refl e
  where
    IH : Type 0
    IH = (s : List Status) → open_count s < f → stable f masks s ≡ Stands st' → (open_count st' ≤ open_count s) × Calm masks st'

    next : IH → (s : List Status) → sweep masks st ≡ Stands s → (b : Bool) → eqb (open_count s) (open_count st) ≡ b
        → cond b (Stands s) (stable f masks s) ≡ Stands st' → (open_count st' ≤ open_count st) × Calm masks st'
    next ih s q true c r =
        let n : open_count s ≡ open_count st = eqb-true (open_count s) (open_count st) c in
        let p : s ≡ st' = cc in
        let w = sweep_still masks st s q (omega arith) in
        (omega (arith, ap open_count p), subst (Calm masks) (sym w.0 ∙ p) w.1)
    next ih s q false c r =
        let l : open_count s ≤ open_count st = sweep_fewer masks st s q in
        let n : open_count s ≡ open_count st → ⊥ = eqb-false (open_count s) (open_count st) c in
        let w = ih s (omega (arith, n)) r in
        (omega (arith, w.0), w.1)

    go : IH → (o : Outcome) → sweep masks st ≡ o
        → on_stands o Broken (λ s. cond (eqb (open_count s) (open_count st)) (Stands s) (stable f masks s)) ≡ Stands st'
        → (open_count st' ≤ open_count st) × Calm masks st'
    go ih Broken q r = not_broken r
    go ih (Stands s) q r = next ih s q (eqb (open_count s) (open_count st)) refl r
