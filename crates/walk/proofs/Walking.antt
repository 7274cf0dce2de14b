-- The ways out of the walk: it had ended, a contradiction, a leaf, both branches; and the start of it.
use Rattle.std.specs.Prelude.{Some, None, Option}
use mathlib.Core.Bool.{Bool, false}
use mathlib.Core.List.{List}
use mathlib.Core.Path.{◌≡◌, refl, sym, ◌∙◌, subst}
use Prim.Native.Nat.{ℕ, suc, ◌≤◌, ◌<◌}
use native.Mathlib.Omega.{arith}
use lib.ListN.{length, set, length-set}
use Rattle.sets.specs.Sets.{wides}
use Rattle.sets.proofs.Sets.{wides_laws}
use Rattle.paper.specs.Numbers.{most_solids}
use Rattle.paper.specs.Solids.{Tables}
use Rattle.paper.specs.Walk.{Status, Taken, Rejected, is_open, open_count, Outcome, Broken, Stands, stable, choose, Log, assume, walk}
use Rattle.paper.specs.Conversion.{accepted}
use Rattle.means_walk.proofs.Status.{count_open}
use Rattle.means_walk.proofs.Settled.{stable_rest}
use Rattle.means_walk.proofs.Complete.{calm_exact}
use Rattle.means_walk.proofs.Chosen.{stable_long}
use Rattle.fast_sweeps.specs.Worklist.{edges_with, open_from, lowest_on, Call}
use Rattle.fast_sweeps.proofs.Walk.{call_next, call_choice}
use Rattle.walk_tables.specs.Words.{WalkTables, Lent}
use Rattle.walk_state.specs.State.{StateIs}
use Rattle.walk_state.specs.Sweeps.{SweptIs, SweptOut}
use Rattle.walk_state.specs.declared.State.{State}
use Rattle.walk.specs.Tally.{Roomy, Assumed, Stored, Follows}
use Rattle.walk.specs.Leaf.{KeepsSolid}
use Rattle.walk.specs.Branch.{BranchIs, Assumes, Branches}
use Rattle.walk.specs.Walk.{Walked}
use Rattle.walk.specs.declared.tally.Tally.{Tally}
use Rattle.walk.specs.declared.branch.Branch.{Branch}
use Rattle.walk.specs.declared.branch.Both.{Both}
use Rattle.walk.proofs.Tallies.{assumed_follows}
use Rattle.walk.proofs.Turns.{turn_ended, turn-broken, turn-leaf, turn-both}

-- ---- what the sweeps left

left-broken : (o : Outcome) → SweptIs o None → o ≡ Broken
left-broken Broken h = refl
left-broken (Stands st) h = absurd h

left_stands : (s : State) (o : Outcome) → SweptIs o (Some s) → (st : List Status) × (o ≡ Stands st) × StateIs s st
left_stands s Broken h = absurd h
left_stands s (Stands st) h = (st, refl, h)

-- as many are undecided as the set has
open_size : {s : State} {st : List Status} → StateIs s st → wides.size s.undecided ≡ open_count st
open_size {s} {st} h = wides_laws.size_is h.leaves ∙ count_open st

-- the same log, told another way
told : {t : Tables} {lent : List ℕ} {x : Tally} {out : List ℕ} {log log' : Log} → log ≡ log' → Stored t lent x out log'
    → Stored t lent x out log
told {t} {lent} {x} {out} q h = subst (Stored t lent x out) (sym q) h

module _ {tables : WalkTables} {m : ℕ} {b : Branch} where
  -- what sweeping from the branch's state leaves
  swept : {w : Option State} → SweptOut tables.on tables.sides b.state b.changed w
      → {n : ℕ} {t : Tables} {st : List Status} {marked : List Bool} {e : ℕ} → Lent tables m n t
      → BranchIs b st marked e → Call t.masks st marked e
      → SweptIs (stable (suc (open_count st)) t.masks st) w
  swept o {n} {t} {st} {marked} lent is call =
      o.same t.masks _ st marked lent.held.on_are lent.held.sides_are is.holds is.marked_is call.loop

  module _ (limit : ℕ) {x : Tally} {out₀ : List ℕ} where
    pub walked_ended : Roomy x out₀ → (x.ended ≡ 0 → ⊥) → Walked tables m b limit x out₀ x out₀
    walked_ended roomy z = record {
      roomy = roomy;
      same = λ n t st marked e depth lent long is call few log room h.
          told (turn_ended most_solids (accepted t) limit t.masks st depth log (λ q. z (h.counts.ended_is ∙ q))) h;
    }

    module _ (z : x.ended ≡ 0) where
      pub walked-broken : Roomy x out₀ → SweptOut tables.on tables.sides b.state b.changed None
          → Walked tables m b limit x out₀ x out₀
      walked-broken roomy o = record {
        roomy = roomy;
        same = λ n t st marked e depth lent long is call few log room h.
            told
            (turn-broken most_solids (accepted t) limit t.masks st depth log (sym h.counts.ended_is ∙ z)
            (left-broken (stable (suc (open_count st)) t.masks st) (swept o lent is call)))
            h;
      }

      module _ {s : State} (o : SweptOut tables.on tables.sides b.state b.changed (Some s)) {r : Tally}
          {out : List ℕ} where
        pub walked-leaf : wides.size s.undecided ≡ 0 → KeepsSolid tables m s.taken x out₀ r out
            → Walked tables m b limit x out₀ r out
        walked-leaf none k = record {
          roomy = k.roomy;
          same = λ n t st marked e depth lent long is call few log room h.
              let masks = t.masks in
              let l = left_stands s (stable (suc (open_count st)) masks st) (swept o lent is call) in
              let shut : open_count l.0 ≡ 0 = sym (open_size l.2) ∙ none in
              let calm = (stable_rest (suc (open_count st)) masks st l.0 (omega arith) l.1).1 in
              told
              (turn-leaf most_solids (accepted t) limit masks st l.0 l.1 depth few log (sym h.counts.ended_is ∙ z) shut)
              (k.same n t l.0 lent (stable_long masks st l.0 l.1 ∙ long) l.2.takes (calm_exact masks l.0 shut calm)
              log room h);
        }

  -- one branch from where the sweeps left the walk
  module _ {limit : ℕ} {s : State} {n : ℕ} {t : Tables} (st st' : List Status) {marked : List Bool} {e : ℕ}
      (lent : Lent tables m n t) (long : length st ≡ n) (is : BranchIs b st marked e)
      (call : Call t.masks st marked e) (q : stable (suc (open_count st)) t.masks st ≡ Stands st') (holds : StateIs s st') where
    branched : (v : Status) → is_open v ≡ false → {c : Branch} {y r : Tally} {out₁ out : List ℕ}
        → Assumes tables.on m tables.sides s b.edge v c → Walked tables m c limit y out₁ r out
        → (depth : ℕ) → open_count st' ≤ depth
        → Follows t (walk depth most_solids (accepted t) limit t.masks (set st' (choose t.masks st') v)) y out₁ r out
    branched v shut {c} {y} {r} {out₁} {out} a w depth few =
        let masks = t.masks in
        let g = open_from masks st' b.edge in
        let k = lowest_on masks st' g in
        let i = a.same masks st' lent.held.on_are lent.held.sides_are lent.masks_are holds in
        let here : Call masks st marked b.edge = subst (Call masks st marked) (sym is.edge_is) call in
        subst (λ (k : ℕ). Follows t (walk depth most_solids (accepted t) limit masks (set st' k v)) y out₁ r out)
        (call_choice masks st st' marked b.edge here q)
        (w.same n t (set st' k v) (edges_with masks k) g depth lent (length-set st' k v ∙ stable_long masks st st' q ∙ long) i
        (call_next masks st st' marked b.edge here q k v shut)
        (omega (arith, a.fewer, open_size i.holds, open_size holds, few)))

  module _ {limit : ℕ} {x : Tally} {out₀ : List ℕ} (z : x.ended ≡ 0) {s : State}
      (o : SweptOut tables.on tables.sides b.state b.changed (Some s)) {r : Tally} {out : List ℕ} where
    pub walked_both : {next : Both} {a d c : Tally} {out₁ : List ℕ} → 0 < wides.size s.undecided
        → Branches tables.on m tables.sides s b.edge next → Assumed limit x a → Walked tables m next.take limit a out₀ d out₁
        → Assumed limit d c → Walked tables m next.reject limit c out₁ r out
        → Walked tables m b limit x out₀ r out
    walked_both {next} {a} {d} {c} {out₁} some two a₁ w₁ a₂ w₂ = record {
      roomy = w₂.roomy;
      same = λ n t st marked e depth lent long is call few log room h.
          let masks = t.masks in
          let l = left_stands s (stable (suc (open_count st)) masks st) (swept o lent is call) in
          let fewer = (stable_rest (suc (open_count st)) masks st l.0 (omega arith) l.1).0 in
          let turn = turn-both most_solids (accepted t) limit masks st l.0 l.1 depth few log (sym h.counts.ended_is ∙ z)
          (λ none. omega (arith, open_size l.2, some, none)) in
          let first = branched st l.0 lent long is call l.1 l.2 Taken refl two.takes w₁ turn.0
          (omega (arith, fewer, turn.1)) (assume limit log) room (assumed_follows a₁ t out₀ log room h) in
          told turn.2
          (branched st l.0 lent long is call l.1 l.2 Rejected refl two.rejects w₂ turn.0 (omega (arith, fewer, turn.1)) _
          room (assumed_follows a₂ t out₁ _ room first));
    }
