-- One edge: what settling it decides, what that leaves of the other edges, and its two counts.
use mathlib.Core.Bool.{Bool, true, false, ◌&&◌, ◌||◌, cond, true≢false}
use mathlib.Core.List.{List, [], ◌∷◌, map}
use mathlib.Core.Path.{◌≡◌, refl, sym, ap, ap₂, ◌∙◌}
use Prim.Native.Nat.{ℕ, zero, suc, ◌+◌, ◌≤◌}
use native.Mathlib.Omega.{arith}
use lib.ListN.{set}
use lib.Dec.{eqb, ltb}
use borrow.Author.Tests.{eqb-true}
use Rattle.lists.proofs.Truth.{or-none}
use Rattle.sets.specs.Word.{bit, dig, count, both}
use Rattle.paper.specs.Walk.{Status, Taken, Rejected, Undecided, is_taken, is_open, taken_on, open_on, open_count, decide_one, decide, settle}
use Rattle.paper.specs.Walk.{contradicts, Stands, sweep}
use Rattle.means_walk.proofs.Status.{count-opens}
use Rattle.means_walk.proofs.Settled.{sweep_still}
use Rattle.fast_sweeps.specs.Worklist.{meets, decided_on, Settled}

-- ---- the undecided of an edge decided
one_shut : (v : Status) → is_open v ≡ false → (b : Bool) (s : Status) → bit (b && is_open (decide_one v b s)) ≡ 0
one_shut v o false s = refl
one_shut v o true Taken = refl
one_shut v o true Rejected = refl
one_shut v o true Undecided = ap bit o

-- none is left undecided
decide_shut : (v : Status) → is_open v ≡ false → (mask : List Bool) (st : List Status) → open_on mask (decide v mask st) ≡ 0
unfolding open_on decide
decide_shut v o [] st = refl
decide_shut v o (b ∷ mask) [] = refl
decide_shut v o (b ∷ mask) (s ∷ st) = omega (arith, one_shut v o b s, decide_shut v o mask st)

-- where there was none, nothing changes
decide-none : (v : Status) (mask : List Bool) (st : List Status) → open_on mask st ≡ 0 → decide v mask st ≡ st
unfolding open_on decide
decide-none v [] st z = refl
decide-none v (b ∷ mask) [] z = refl
decide-none v (false ∷ mask) (s ∷ st) z = ap (λ (x : List Status). s ∷ x) (decide-none v mask st (omega arith))
decide-none v (true ∷ mask) (Taken ∷ st) z = ap (λ (x : List Status). Taken ∷ x) (decide-none v mask st (omega arith))
decide-none v (true ∷ mask) (Rejected ∷ st) z = ap (λ (x : List Status). Rejected ∷ x) (decide-none v mask st (omega arith))
decide-none v (true ∷ mask) (Undecided ∷ st) z = absurd (omega arith)

-- ---- another edge r that has none of those decided

one_taken : (v : Status) (a b : Bool) (s : Status) → (a && (b && is_open s)) ≡ false
    → bit (a && is_taken (decide_one v b s)) ≡ bit (a && is_taken s)
one_taken v false b s e = refl
one_taken v true false s e = refl
one_taken v true true Taken e = refl
one_taken v true true Rejected e = refl
one_taken v true true Undecided e = absurd (true≢false e)

one_open : (v : Status) (a b : Bool) (s : Status) → (a && (b && is_open s)) ≡ false
    → bit (a && is_open (decide_one v b s)) ≡ bit (a && is_open s)
one_open v false b s e = refl
one_open v true false s e = refl
one_open v true true Taken e = refl
one_open v true true Rejected e = refl
one_open v true true Undecided e = absurd (true≢false e)

-- the counts of an edge in two states are the same
pub record Same (r : List Bool) (s st : List Status) : Type 0 where
  pub taken : taken_on r s ≡ taken_on r st
  pub undecided : open_on r s ≡ open_on r st

decide-same : (v : Status) (r mask : List Bool) (st : List Status) → meets r (both mask (map is_open st)) ≡ false
    → Same r (decide v mask st) st
unfolding taken_on open_on decide both meets
decide-same v [] mask st e = record { taken = refl; undecided = refl }
decide-same v (a ∷ r) [] st e = record { taken = refl; undecided = refl }
decide-same v (a ∷ r) (b ∷ mask) [] e = record { taken = refl; undecided = refl }
decide-same v (a ∷ r) (b ∷ mask) (s ∷ st) e =
    let p = or-none (a && (b && is_open s)) (meets r (both mask (map is_open st))) e in
    let w = decide-same v r mask st p.1 in
    record { taken = ap₂ ◌+◌ (one_taken v a b s p.0) w.taken; undecided = ap₂ ◌+◌ (one_open v a b s p.0) w.undecided }

-- settling an edge leaves the counts of each edge that has none of those decided
pub settle-same : (r mask : List Bool) (st : List Status) → meets r (decided_on mask st) ≡ false → Same r (settle mask st) st
unfolding settle decided_on
settle-same r mask st = go (eqb (taken_on mask st) 2) (eqb (taken_on mask st + open_on mask st) 2)
  where
    go : (a b : Bool) → meets r (cond a (both mask (map is_open st)) (cond b (both mask (map is_open st)) [])) ≡ false
        → Same r (cond a (decide Rejected mask st) (cond b (decide Taken mask st) st)) st
    go true b e = decide-same Rejected r mask st e
    go false true e = decide-same Taken r mask st e
    go false false e = record { taken = refl; undecided = refl }

-- where none is decided, nothing changes
pub settle-none : (mask : List Bool) (st : List Status) → count (decided_on mask st) ≡ 0 → settle mask st ≡ st
unfolding settle decided_on
settle-none mask st = go (eqb (taken_on mask st) 2) (eqb (taken_on mask st + open_on mask st) 2)
  where
    go : (a b : Bool) → count (cond a (both mask (map is_open st)) (cond b (both mask (map is_open st)) [])) ≡ 0
        → cond a (decide Rejected mask st) (cond b (decide Taken mask st) st) ≡ st
    go true b e = decide-none Rejected mask st (sym (count-opens mask st) ∙ e)
    go false true e = decide-none Taken mask st (sym (count-opens mask st) ∙ e)
    go false false e = refl

-- and where nothing changes, none is decided
pub none-settle : (mask : List Bool) (st : List Status) → settle mask st ≡ st → count (decided_on mask st) ≡ 0
unfolding settle decided_on count
none-settle mask st = go (eqb (taken_on mask st) 2) (eqb (taken_on mask st + open_on mask st) 2)
  where
    go : (a b : Bool) → cond a (decide Rejected mask st) (cond b (decide Taken mask st) st) ≡ st
        → count (cond a (both mask (map is_open st)) (cond b (both mask (map is_open st)) [])) ≡ 0
    go true b e = count-opens mask st ∙ sym (ap (open_on mask) e) ∙ decide_shut Rejected refl mask st
    go false true e = count-opens mask st ∙ sym (ap (open_on mask) e) ∙ decide_shut Taken refl mask st
    go false false e = refl

-- how many are decided
pub count_decided : (mask : List Bool) (st : List Status)
    → count (decided_on mask st) ≡ cond (eqb (taken_on mask st) 2) (open_on mask st)
    (cond (eqb (taken_on mask st + open_on mask st) 2) (open_on mask st) 0)
unfolding decided_on count
count_decided mask st = go (eqb (taken_on mask st) 2) (eqb (taken_on mask st + open_on mask st) 2)
  where
    go : (a b : Bool) → count (cond a (both mask (map is_open st)) (cond b (both mask (map is_open st)) [])) ≡ cond a (open_on mask st)
        (cond b (open_on mask st) 0)
    go true b = count-opens mask st
    go false true = count-opens mask st
    go false false = refl

-- ---- settled edges

-- a settled edge stays so where its counts stay
pub settled_same : {r : List Bool} {s st : List Status} → Same r s st → Settled r st → Settled r s
unfolding contradicts
settled_same {r} {s} {st} w t = record {
  calm = ap₂ (λ (m l : ℕ). ltb 2 m || ltb (m + l) 2) w.taken w.undecided ∙ t.calm;
  still = settle-none r s (zero_same ∙ none-settle r st t.still);
}
  where
    zero_same : count (decided_on r s) ≡ count (decided_on r st)
    zero_same =
        count_decided r s ∙ ap₂ (λ (m l : ℕ). cond (eqb m 2) l (cond (eqb (m + l) 2) l 0)) w.taken w.undecided
        ∙ sym (count_decided r st)

-- two taken and none undecided
two_settled : (mask : List Bool) (s : List Status) → taken_on mask s ≡ 2 → open_on mask s ≡ 0 → Settled mask s
unfolding contradicts
two_settled mask s m l = record {
  calm = ap₂ (λ (m l : ℕ). ltb 2 m || ltb (m + l) 2) m l;
  still = settle-none mask s (count_decided mask s ∙ ap₂ (λ (m l : ℕ). cond (eqb m 2) l (cond (eqb (m + l) 2) l 0)) m l);
}

one_rejected : (b : Bool) (s : Status) → bit (b && is_taken (decide_one Rejected b s)) ≡ bit (b && is_taken s)
one_rejected false s = refl
one_rejected true Taken = refl
one_rejected true Rejected = refl
one_rejected true Undecided = refl

rejected_taken : (mask : List Bool) (st : List Status) → taken_on mask (decide Rejected mask st) ≡ taken_on mask st
unfolding taken_on decide
rejected_taken [] st = refl
rejected_taken (b ∷ mask) [] = refl
rejected_taken (b ∷ mask) (s ∷ st) = ap₂ ◌+◌ (one_rejected b s) (rejected_taken mask st)

one-accepted : (b : Bool) (s : Status) → bit (b && is_taken (decide_one Taken b s)) ≡ bit (b && is_taken s) + bit (b && is_open s)
one-accepted false s = refl
one-accepted true Taken = refl
one-accepted true Rejected = refl
one-accepted true Undecided = refl

taken_taken : (mask : List Bool) (st : List Status) → taken_on mask (decide Taken mask st) ≡ taken_on mask st + open_on mask st
unfolding taken_on open_on decide
taken_taken [] st = refl
taken_taken (b ∷ mask) [] = refl
taken_taken (b ∷ mask) (s ∷ st) = omega (arith, one-accepted b s, taken_taken mask st)

-- an edge that was just settled is settled
pub settle_settled : (mask : List Bool) (st : List Status) → contradicts mask st ≡ false → Settled mask (settle mask st)
unfolding settle
settle_settled mask st c = go (eqb (taken_on mask st) 2) refl (eqb (taken_on mask st + open_on mask st) 2) refl
  where
    go : (a : Bool) → eqb (taken_on mask st) 2 ≡ a → (b : Bool) → eqb (taken_on mask st + open_on mask st) 2 ≡ b
        → Settled mask (cond a (decide Rejected mask st) (cond b (decide Taken mask st) st))
    go true p b q =
        two_settled mask (decide Rejected mask st) (rejected_taken mask st ∙ eqb-true (taken_on mask st) 2 p)
        (decide_shut Rejected refl mask st)
    go false p true q =
        two_settled mask (decide Taken mask st) (taken_taken mask st ∙ eqb-true (taken_on mask st + open_on mask st) 2 q)
        (decide_shut Taken refl mask st)
    go false p false q =
        record { calm = c; still = ap₂ (λ (a b : Bool). cond a (decide Rejected mask st) (cond b (decide Taken mask st) st)) p q }

-- settling an edge without a contradiction changes nothing where it leaves as many undecided
sweep-one : (mask : List Bool) (st : List Status) → contradicts mask st ≡ false → sweep (mask ∷ []) st ≡ Stands (settle mask st)
unfolding sweep
sweep-one mask st c = rw c

pub settle_still : (mask : List Bool) (st : List Status) → contradicts mask st ≡ false → open_count st ≤ open_count (settle mask st)
    → settle mask st ≡ st
settle_still mask st c h = (sweep_still (mask ∷ []) st (settle mask st) (sweep-one mask st c) h).0

-- ---- one candidate given a status: the counts of the edges that do not have it stay
pub set_same : (r : List Bool) (st : List Status) (k : ℕ) (v : Status) → dig r k ≡ false → Same r (set st k v) st
unfolding taken_on open_on
set_same [] st k v e = record { taken = refl; undecided = refl }
set_same (a ∷ r) [] k v e = record { taken = refl; undecided = refl }
set_same (true ∷ r) (s ∷ st) zero v e = absurd (true≢false e)
set_same (false ∷ r) (s ∷ st) zero v e = record { taken = refl; undecided = refl }
set_same (a ∷ r) (s ∷ st) (suc k) v e =
    let w = set_same r st k v e in
    record {
      taken = ap (λ (n : ℕ). bit (a && is_taken s) + n) w.taken;
      undecided = ap (λ (n : ℕ). bit (a && is_open s) + n) w.undecided;
    }
