-- What each call of the walk keeps holds at the first call and at the next ones; and its choice, looked for from the edge of the last, is
-- that of document 01.
use mathlib.Core.Bool.{Bool, true, false}
use mathlib.Core.List.{List}
use mathlib.Core.Path.{◌≡◌, sym, subst}
use Prim.Native.Nat.{ℕ, suc, ◌≤◌}
use native.Mathlib.Omega.{arith}
use lib.ListN.{length, set, replicate}
use Rattle.paper.specs.Walk.{Status, is_open, open_count, Stands, stable, choose}
use Rattle.fast_sweeps.specs.Worklist.{edges_with, open_edge, open_from, lowest_on, Shut, Call}
use Rattle.fast_sweeps.proofs.Work.{loop_all, loop_chosen}
use Rattle.fast_sweeps.proofs.Choice.{open-from, choose-from, edge_within, edge_shut, shut_stable, shut_set}

module _ (masks : List (List Bool)) where
  -- at the first call, with all edges marked
  pub call_first : (st : List Status) → Call masks st (replicate (length masks) true) 0
  call_first st = record { loop = loop_all masks st; within = omega arith; shut = λ j h. absurd (omega arith) }

  -- at the next calls, with candidate k decided
  pub call_next : (st s : List Status) (marked : List Bool) (e : ℕ) → Call masks st marked e
      → stable (suc (open_count st)) masks st ≡ Stands s → (k : ℕ) (v : Status) → is_open v ≡ false
      → Call masks (set s k v) (edges_with masks k) (open_from masks s e)
  call_next st s marked e c w k v o =
      let p : open_from masks s e ≡ open_edge masks s = open-from masks s e c.within (shut_stable masks e st s c.shut w) in
      record {
        loop = loop_chosen masks st s w k v;
        within = subst (λ (g : ℕ). g ≤ length masks) (sym p) (edge_within masks s);
        shut = shut_set masks (open_from masks s e) s k v o (subst (λ (g : ℕ). Shut masks g s) (sym p) (edge_shut masks s));
      }

  pub call_choice : (st s : List Status) (marked : List Bool) (e : ℕ) → Call masks st marked e
      → stable (suc (open_count st)) masks st ≡ Stands s → lowest_on masks s (open_from masks s e) ≡ choose masks s
  call_choice st s marked e c w = sym (choose-from masks s e c.within (shut_stable masks e st s c.shut w))
