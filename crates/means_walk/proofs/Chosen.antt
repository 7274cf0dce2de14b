-- The walk chooses the lowest undecided candidate of the lowest edge that has one, where every candidate is on an edge.
use mathlib.Core.Bool.{Bool, true, false, ◌&&◌, cond}
use mathlib.Core.List.{List, [], ◌∷◌}
use mathlib.Core.Path.{◌≡◌, refl, sym, ap, ◌∙◌, subst}
use Prim.Native.Nat.{ℕ, zero, suc, ◌+◌, ◌<◌}
use native.Mathlib.Omega.{arith}
use lib.Dec.{eqb}
use lib.ListN.{length, length-set}
use borrow.Author.Tests.{eqb-true, eqb-false}
use Rattle.sets.proofs.Ones.{first_least}
use Rattle.lists.proofs.Truth.{and_left, and_right, and_both}
use Rattle.sets.specs.Word.{dig, count, both, first}
use Rattle.sets.proofs.Digits.{dig-both, count_none, first_in}
use Rattle.paper.specs.Walk.{Status, Taken, Rejected, taken_on, open_on, open_count, decide, settle, contradicts, Outcome, Broken}
use Rattle.paper.specs.Walk.{Stands, sweep, stable, choose}
use Rattle.means_walk.specs.Tree.{Sweeps, breaks, rests, again, Tree, broken, leaf, branch}
use Rattle.means_walk.specs.Lowest.{opens, Undecided, CandidateOn, LowestChoice, Chooses}
use Rattle.means_walk.proofs.Status.{count_open, count-opens, open_lt}
use Rattle.means_walk.proofs.Grown.{sweeps_stable, sweeps}

-- every undecided candidate is on an edge
abbrev pub Covered : List (List Bool) → List Status → Type 0
Covered masks st = (k : ℕ) → Undecided st k → (e : ℕ) × (e < length masks) × CandidateOn masks e k

none_open : (mask : List Bool) (st : List Status) → open_on mask st ≡ 0 → (j : ℕ) → dig mask j ≡ true → Undecided st j → ⊥
none_open mask st z j h u =
    count_none (both mask (opens st)) (count-opens mask st ∙ z) j (dig-both mask (opens st) j ∙ and_both h u)

pub choose-lowest : (masks : List (List Bool)) (st : List Status) → Covered masks st → (k : ℕ) → Undecided st k
    → LowestChoice masks st (choose masks st)
unfolding choose
choose-lowest [] st c k u = absurd (let r = c k u in omega (arith, r.1))
choose-lowest (mask ∷ masks) st c k u = go (eqb (open_on mask st) 0) refl (choose-lowest masks st)
  where
    go : (b : Bool) → eqb (open_on mask st) 0 ≡ b → (Covered masks st → (k : ℕ) → Undecided st k → LowestChoice masks st (choose masks st))
        → LowestChoice (mask ∷ masks) st (cond b (choose masks st) (first (both mask (opens st))))
    go true e ih =
        let z : open_on mask st ≡ 0 = eqb-true (open_on mask st) 0 e in
        let r = ih (λ j w. rest z j w (c j w)) k u in
        record {
          edge = suc r.edge;
          here = omega (arith, r.here);
          on = r.on;
          undecided = r.undecided;
          lower_edge = λ f j h o w. below z r f j h o w;
          lower = r.lower;
        }
      where
        rest : open_on mask st ≡ 0 → (j : ℕ) → Undecided st j → (f : ℕ) × (f < length (mask ∷ masks)) × CandidateOn (mask ∷ masks) f j
            → (f : ℕ) × (f < length masks) × CandidateOn masks f j
        rest z j w (zero, h, o) = absurd (none_open mask st z j o w)
        rest z j w (suc f, h, o) = (f, omega arith, o)

        below : open_on mask st ≡ 0 → (r : LowestChoice masks st (choose masks st)) → (f j : ℕ) → f < suc r.edge → CandidateOn (mask ∷ masks) f j
            → Undecided st j → ⊥
        below z r zero j h o w = none_open mask st z j o w
        below z r (suc f) j h o w = r.lower_edge f j (omega arith) o w
    go false e ih =
        let n : count (both mask (opens st)) ≡ 0 → ⊥ = λ z. eqb-false (open_on mask st) 0 e (sym (count-opens mask st) ∙ z) in
        let m : (dig mask (first (both mask (opens st))) && dig (opens st) (first (both mask (opens st)))) ≡ true
        = sym (dig-both mask (opens st) (first (both mask (opens st)))) ∙ first_in (both mask (opens st)) n in
        record {
          edge = 0;
          here = omega arith;
          on = and_left (dig mask (first (both mask (opens st)))) (dig (opens st) (first (both mask (opens st)))) m;
          undecided =
              and_right (dig mask (first (both mask (opens st)))) (dig (opens st) (first (both mask (opens st)))) m;
          lower_edge = λ f j h o w. omega arith;
          lower = λ j h o w. omega (arith, first_least (both mask (opens st)) j (dig-both mask (opens st) j ∙ and_both o w));
        }

-- ---- the states of a tree are as long as the first
decide_length : (v : Status) (mask : List Bool) (st : List Status) → length (decide v mask st) ≡ length st
unfolding decide
decide_length v [] st = refl
decide_length v (b ∷ mask) [] = refl
decide_length v (b ∷ mask) (s ∷ st) = ap suc (decide_length v mask st)

settle_length : (mask : List Bool) (st : List Status) → length (settle mask st) ≡ length st
unfolding settle
settle_length mask st = go (eqb (taken_on mask st) 2) (eqb (taken_on mask st + open_on mask st) 2)
  where
    go : (a b : Bool) → length (cond a (decide Rejected mask st) (cond b (decide Taken mask st) st)) ≡ length st
    go true b = decide_length Rejected mask st
    go false true = decide_length Taken mask st
    go false false = refl

sweep_length : (masks : List (List Bool)) (st s : List Status) → sweep masks st ≡ Stands s → length s ≡ length st
unfolding sweep
sweep_length [] st s e = let p : st ≡ s = cc in sym (ap length p)
sweep_length (mask ∷ masks) st s e = go (sweep_length masks (settle mask st) s) (contradicts mask st) e
  where
    go : (sweep masks (settle mask st) ≡ Stands s → length s ≡ length (settle mask st)) → (b : Bool)
        → cond b Broken (sweep masks (settle mask st)) ≡ Stands s → length s ≡ length st
    go ih true q = let z : ◌≡◌ {A = ℕ} 0 1 = cc in absurd (omega arith)
    go ih false q = ih q ∙ settle_length mask st

abbrev Long : ℕ → Outcome → Type 0
Long n Broken = Unit {0}
Long n (Stands s) = length s ≡ n

sweeps_long : {masks : List (List Bool)} {st : List Status} {o : Outcome} → Sweeps masks st o → Long (length st) o
sweeps_long (breaks e) = tt
sweeps_long (rests e) = refl
sweeps_long {masks} (again {st} {st'} {o} e n w) = subst (λ (m : ℕ). Long m o) (sweep_length masks st st' e) (sweeps_long w)

pub stable_long : (masks : List (List Bool)) (st s : List Status) → stable (suc (open_count st)) masks st ≡ Stands s → length s ≡ length st
stable_long masks st s e =
    let w = sweeps masks (suc (open_count st)) st (omega arith) in
    subst (Long (length st)) (sym (sweeps_stable masks w.1 (suc (open_count st)) (omega arith)) ∙ e) (sweeps_long w.1)

some_open : (st : List Status) → (open_count st ≡ 0 → ⊥) → Undecided st (first (opens st))
some_open st n = first_in (opens st) (λ e. n (sym (count_open st) ∙ e))

pub tree_chooses : {masks : List (List Bool)} {st : List Status} (n : ℕ) → length st ≡ n
    → ((k : ℕ) → k < n → (e : ℕ) × (e < length masks) × CandidateOn masks e k) → (t : Tree masks st) → Chooses t
unfolding Chooses
tree_chooses n l c (broken w) = tt
tree_chooses n l c (leaf s w z) = tt
tree_chooses {masks} n l c (branch s w z a b) =
    let m : length s ≡ n = sweeps_long w ∙ l in (
      choose-lowest masks s (λ k u. c k (subst (λ (x : ℕ). k < x) m (open_lt s k u))) (first (opens s)) (some_open s z),
      tree_chooses n (length-set s (choose masks s) Taken ∙ m) c a,
      tree_chooses n (length-set s (choose masks s) Rejected ∙ m) c b,
    )
