-- A drawing that passes 11 to 14, moved: the same candidates, the same tables but for the parts of six volumes, and so the same solids,
-- with six volumes as many times as large as the sides of planes become.
use mathlib.Core.Path.{◌≡◌, sym, ap, ◌∙◌, subst}
use mathlib.Core.Bool.{Bool, true}
use mathlib.Core.Option.{none}
use mathlib.Core.List.{List, [], map}
use Prim.Native.Nat.{ℕ, ◌<◌}
use native.Mathlib.Omega.{arith}
use lib.IntN.{nat_abs, ◌*ℤ◌}
use lib.ListN.{length, get_or}
use Rattle.paper.specs.Refusals.{first_of, Fine}
use Rattle.paper.specs.Drawing.{Wire, edge_meets, drawing_checks}
use Rattle.paper.specs.Loops.{Loop, loop_at, loops, uncovering, candidates}
use Rattle.paper.specs.Solids.{once_each_way, six_from, tables_of, judged}
use Rattle.paper_laws.proofs.Checks.{found_none}
use Rattle.means_loops.specs.Path.{ClosedPath}
use Rattle.means_loops.proofs.Listing.{candidates_are, candidates_proper}
use Rattle.means_loops.proofs.Paths.{loop_path}
use Rattle.means_leaf.proofs.Each.{oriented_each}
use Rattle.means_masks.proofs.Tables.{masks_length, as_many, ways_at}
use Rattle.means_check.proofs.Demand.{drawing_places}
use Rattle.means_moves.specs.Moves.{Move}
use Rattle.means_moves.specs.Alike.{Alike, AllBelow, EndsBelow}
use Rattle.means_moves.specs.Turned.{turns_by, Judged}
use Rattle.means_moves.proofs.Alike.{
  bare_plane,
  loops_plane,
  checks_same,
  loops-same,
  loops-below,
  uncovering-same,
  uncovering-below,
  masks_same,
  ups_same,
  clashes-same,
}
use Rattle.means_moves.proofs.Moved.{moved_alike}
use Rattle.means_moves.proofs.Judged.{turned_by, judged-times}
use Rattle.means_moves.proofs.Closed.{six_closed}

drawing-meets : (d : Wire) → Fine ≡ first_of (drawing_checks d) → edge_meets d ≡ none
unfolding drawing_checks
drawing-meets d e =
    let a = found_none _ _ e in
    let b = found_none _ _ a.1 in
    (found_none _ _ b.1).0

module _ (m : Move) (d e : Wire) (points : e.vertices ≡ map m.to d.vertices) (edges : e.edges ≡ d.edges) (ok : EndsBelow d)
    (pass : Fine ≡ first_of (drawing_checks d)) where
  abbrev alike : Alike d e
  alike = moved_alike m d e points edges

  abbrev cs : List Loop
  cs = uncovering d (loops d)

  -- ---- candidates and tables

  below : AllBelow (length d.vertices) cs
  below = uncovering-below d e alike (loops d) (loops-below d e alike)

  pub bare_same : uncovering e (loops e) ≡ cs
  bare_same =
      ap (uncovering e) (loops-same d e alike)
      ∙ uncovering-same d e alike (loops d) (loops-below d e alike) (loops_plane d (drawing_places d pass) (drawing-meets d pass))

  pub masks : (tables_of e cs).masks ≡ (tables_of d cs).masks
  masks = masks_same d e alike cs

  pub ups : (tables_of e cs).ups ≡ (tables_of d cs).ups
  ups = ups_same d e alike cs

  pub clashes : (tables_of e cs).clashes ≡ (tables_of d cs).clashes
  clashes = clashes-same d e alike cs below (bare_plane d (drawing_places d pass) (drawing-meets d pass))

  -- ---- six volumes

  passes_too : Fine ≡ first_of (drawing_checks e)
  passes_too = pass ∙ ap first_of (sym (checks_same d e alike ok))

  paths_too : (k : ℕ) → k < length (candidates e) → ClosedPath e (loop_at (candidates e) k)
  paths_too k h = loop_path e (drawing_places e passes_too) (loop_at (candidates e) k) (candidates_are e k h).loop

  paths : (k : ℕ) → k < length cs → ClosedPath e (loop_at cs k)
  unfolding candidates
  paths = subst (λ (ks : List Loop). (k : ℕ) → k < length ks → ClosedPath e (loop_at ks k)) bare_same paths_too

  pub six_kept : (taken turned : List Bool)
      → ((j : ℕ) → j < length (tables_of d cs).masks
      → once_each_way (get_or (tables_of d cs).masks j []) (get_or (tables_of d cs).ups j []) taken turned ≡ true)
      → six_from 0 (tables_of e cs).sixes taken turned ≡ m.sides_by *ℤ six_from 0 (tables_of d cs).sixes taken turned
  unfolding candidates
  six_kept taken turned each =
      six_closed m d e points edges cs below paths taken turned
      (λ j h. ways_at e cs taken turned (candidates_proper d) j h
      ((λ i. once_each_way (get_or (masks i) j []) (get_or (ups i) j []) taken turned)
      ∙ each j (omega (arith, masks_length e cs, ap length masks))))

  -- ---- of every selection

  pub judges : (taken : List Bool) → Judged (turns_by m.sides_by) (nat_abs m.sides_by) taken (judged (tables_of d cs) taken)
      (judged (tables_of e cs) taken)
  judges taken =
      judged-times (tables_of d cs) (tables_of e cs) masks ups clashes taken m.sides_by m.sides_real
      (λ o. six_kept taken (turned_by (tables_of d cs) taken)
      (oriented_each taken (turned_by (tables_of d cs) taken) (tables_of d cs).masks (tables_of d cs).ups (as_many d cs) o))
