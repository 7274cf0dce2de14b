-- A search that was not cut found every solid once, in walk order; one that ended at a ninth has nine.
use mathlib.Core.List.{List, [], ◌∷◌, map}
use mathlib.Core.Bool.{Bool}
use mathlib.Core.Logic.{◌↔◌}
use mathlib.Core.Path.{◌≡◌, refl, sym, ap, subst}
use Prim.Native.Nat.{ℕ, ◌<◌}
use native.Mathlib.Omega.{arith}
use lib.ListN.{length, length-map}
use Rattle.lists.specs.Lists.{filter}
use Rattle.paper.specs.Numbers.{most_solids}
use Rattle.paper.specs.Refusals.{value_of}
use Rattle.paper.specs.Refusals as No
use Rattle.paper.specs.Drawing.{Wire}
use Rattle.paper.specs.Loops.{Loop}
use Rattle.paper.specs.Solids.{tables_of}
use Rattle.paper.specs.Walk.{Status, search}
use Rattle.paper.specs.Conversion.{accepted}
use Rattle.means_walk.specs.Tree.{leaves}
use Rattle.means_walk.proofs.Grown.{tree}
use Rattle.means_walk.proofs.Ends.{ended_whole, ended_many}
use Rattle.means_solid.specs.Solid.{IsSolid}
use Rattle.means_report.specs.Fair.{Fair}
use Rattle.means_report.specs.Listed.{Entry, EverySolidOnce, entry_of, WalkTree, walked}
use Rattle.means_report.proofs.Listed.{walked-lists}

-- a list of all solids is empty just where there is none
pub none-listed : (d : Wire) (cs : List Loop) (es : List Entry) → EverySolidOnce d cs es → es ≡ [] → (taken turned : List Bool) (six : ℕ)
    → IsSolid d cs taken turned six → ⊥
none-listed d cs es l e taken turned six s = let r = l.there s in omega (arith, r.1, ap length e)

pub listed-none : (d : Wire) (cs : List Loop) (es : List Entry) → EverySolidOnce d cs es
    → ((taken turned : List Bool) (six : ℕ) → IsSolid d cs taken turned six → ⊥) → es ≡ []
listed-none d cs [] l n = refl
listed-none d cs (e ∷ es) l n = absurd (n e.taken e.turned e.six (l.each 0 (omega arith)))

module _ (d : Wire) (cs : List Loop) (ok : Fair d cs) (limit : ℕ) where
  pub uncut_walked : (search most_solids (accepted (tables_of d cs)) limit (length cs) (tables_of d cs).masks).ended ≡ 0
      → (t : WalkTree d cs)
      → map (entry_of (tables_of d cs)) (search most_solids (accepted (tables_of d cs)) limit (length cs) (tables_of d cs).masks).found
      ≡ walked d cs t
  unfolding walked
  uncut_walked e t =
      ap (map (entry_of (tables_of d cs)))
      (ended_whole (accepted (tables_of d cs)) (length cs) (tables_of d cs).masks t most_solids limit e).found

  -- found: every solid once
  pub uncut_lists : (search most_solids (accepted (tables_of d cs)) limit (length cs) (tables_of d cs).masks).ended ≡ 0
      → EverySolidOnce d cs
      (map (entry_of (tables_of d cs)) (search most_solids (accepted (tables_of d cs)) limit (length cs) (tables_of d cs).masks).found)
  uncut_lists e =
      let t : WalkTree d cs = tree (tables_of d cs).masks _ in
      subst (EverySolidOnce d cs) (sym (uncut_walked e t)) (walked-lists d cs ok t)

  -- nothing is found just where there is no solid
  pub none_found : (search most_solids (accepted (tables_of d cs)) limit (length cs) (tables_of d cs).masks).ended ≡ 0
      → ((search most_solids (accepted (tables_of d cs)) limit (length cs) (tables_of d cs).masks).found ≡ [])
      ↔ ((taken turned : List Bool) (six : ℕ) → IsSolid d cs taken turned six → ⊥)
  none_found e = (
    λ q. none-listed d cs
        (map (entry_of (tables_of d cs)) (search most_solids (accepted (tables_of d cs)) limit (length cs) (tables_of d cs).masks).found)
        (uncut_lists e) (ap (map (entry_of (tables_of d cs))) q),
    λ n. empty (search most_solids (accepted (tables_of d cs)) limit (length cs) (tables_of d cs).masks).found
        (listed-none d cs
        (map (entry_of (tables_of d cs)) (search most_solids (accepted (tables_of d cs)) limit (length cs) (tables_of d cs).masks).found)
        (uncut_lists e) n),
  )
    where
      empty : (l : List (List Status)) → map (entry_of (tables_of d cs)) l ≡ [] → l ≡ []
      empty [] q = refl
      empty (x ∷ l) q = absurd (omega (arith, ap length q))

  -- at least nine different solids: all solids are listed once, and there are more than eight
  pub many_lists : (search most_solids (accepted (tables_of d cs)) limit (length cs) (tables_of d cs).masks).ended ≡ value_of No.Many
      → (es : List Entry) × EverySolidOnce d cs es × (most_solids < length es)
  unfolding walked
  many_lists e =
      let t : WalkTree d cs = tree (tables_of d cs).masks _ in
      let m = (ended_many (accepted (tables_of d cs)) (length cs) (tables_of d cs).masks t most_solids limit e).many in (
        walked d cs t,
        walked-lists d cs ok t,
        omega
            (arith, length-map (filter (accepted (tables_of d cs)) (leaves t)) (entry_of (tables_of d cs))),
      )
