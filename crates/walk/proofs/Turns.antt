-- The turns of the document's walk, one equation for each way that it goes on.
use mathlib.Core.Bool.{Bool}
use mathlib.Core.List.{List}
use mathlib.Core.Path.{◌≡◌, refl}
use Prim.Native.Nat.{ℕ, zero, suc, ◌≤◌, ◌<◌}
use native.Mathlib.Omega.{arith}
use lib.ListN.{set}
use borrow.Author.Tests.{eq-eqb, ne_eqb}
use Rattle.paper.specs.Walk.{Status, Taken, Rejected, open_count, Broken, Stands, stable, choose, Log, assume, leaf, walk}

module _ (cap : ℕ) (accept : List Status → Bool) (limit : ℕ) (masks : List (List Bool)) (st : List Status) where
  abbrev rest : ℕ → Log → Log
  rest depth = walk depth cap accept limit masks st

  pub turn_ended : (depth : ℕ) (log : Log) → (log.ended ≡ 0 → ⊥) → rest depth log ≡ log
  unfolding walk
  turn_ended zero log n = refl
  turn_ended (suc depth) log n = rw (ne_eqb log.ended 0 n)

  pub turn-broken : (depth : ℕ) (log : Log) → log.ended ≡ 0 → stable (suc (open_count st)) masks st ≡ Broken → rest depth log ≡ log
  unfolding walk
  turn-broken zero log z q = refl
  turn-broken (suc depth) log z q = rw (eq-eqb log.ended 0 z, q)

  module _ (st' : List Status) (q : stable (suc (open_count st)) masks st ≡ Stands st') where
    pub turn-leaf : (depth : ℕ) → open_count st < depth → (log : Log) → log.ended ≡ 0 → open_count st' ≡ 0
        → rest depth log ≡ leaf cap accept st' log
    unfolding walk
    turn-leaf zero h log z none = absurd (omega arith)
    turn-leaf (suc depth) h log z none = rw (eq-eqb log.ended 0 z, q, eq-eqb (open_count st') 0 none)

    -- the branches, from a depth that is still enough
    pub turn-both : (depth : ℕ) → open_count st < depth → (log : Log) → log.ended ≡ 0 → (open_count st' ≡ 0 → ⊥)
        → (d : ℕ) × (open_count st ≤ d)
        × (rest depth log
        ≡ walk d cap accept limit masks (set st' (choose masks st') Rejected)
        (assume limit (walk d cap accept limit masks (set st' (choose masks st') Taken) (assume limit log))))
    unfolding walk
    turn-both zero h log z some = absurd (omega arith)
    turn-both (suc depth) h log z some = (depth, omega arith, rw (eq-eqb log.ended 0 z, q, ne_eqb (open_count st') 0 some))
