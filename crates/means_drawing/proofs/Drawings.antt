-- The table's 11 to 14: each finds the lowest that offends, and finds none exactly when none does.
-- 11: two vertices are at one point. 12: a vertex is on no edge. 13: an edge shares a point with a vertex or edge other than at its own
-- end vertices. 14: a vertex is not reachable from vertex 0.
pub mod Vertices
pub mod Edges
pub mod Rows
pub mod Lists
pub use Vertices.{same_place_finds, same_place_means, loose_vertex_finds, loose_vertex_means}
-- where the ends of every edge are at two points, as they are where 9 and 11 find nothing
pub use Edges.{edge_meets_finds, edge_meets_means, long_edges}
pub use Rows.{reached_means, apart_finds, apart_means}
use mathlib.Core.Path.{◌≡◌, refl, subst}
use mathlib.Core.Logic.{inl, inr}
use mathlib.Core.Option.{Option, none, some}
use mathlib.Core.List.{List, [], ◌∷◌}
use Prim.Native.Nat.{ℕ}
use lib.IntN.{ℤ}
use lib.ListN.{length}
use Rattle.paper.specs.Refusals as No
use Rattle.paper.specs.Refusals.{check, first_of, Fine}
use Rattle.paper.specs.Format.{coordinates_in, ends_in}
use Rattle.paper.specs.Sheet.{lent_checks, sheet_checks}
use Rattle.paper.specs.Drawing.{Wire, wire, same_place, loose_vertex, edge_meets, apart, drawing_checks}
use Rattle.paper.specs.declared.Format.{Format}
use Rattle.means_drawing.specs.Drawings.{Finds, Doubled, Loose, Meets, Reachable, Rising, Long}
use Rattle.means_drawing.specs.Rules.{RulesSay}
use Rattle.means_sheets.proofs.Sheets.Read.{accepted-lent}
use Rattle.means_drawing.proofs.Drawings.Lists.{lent_rising}
use Rattle.paper_laws.specs.Editions.{Limited}

-- ---- the four in order, where 9 finds nothing

pub rules_say : (d : Wire) → Rising d → RulesSay d (first_of (drawing_checks d))
unfolding drawing_checks first_of
rules_say d rising = go (same_place d) (loose_vertex d) (edge_meets d) (apart d) refl refl refl refl
  where
    go : (a b c e : Option ℕ) → same_place d ≡ a → loose_vertex d ≡ b → edge_meets d ≡ c → apart d ≡ e
        → RulesSay d (first_of (check No.SamePlace a ∷ check No.LooseVertex b ∷ check No.EdgeMeets c ∷ check No.Apart e ∷ []))
    go (some p) b c e pa pb pc pe = inl (refl, subst (Finds (Doubled d) (length d.vertices)) pa (same_place_finds d))
    go none (some p) c e pa pb pc pe =
        inr (inl (refl, (same_place_means d).0 pa, subst (Finds (Loose d) (length d.vertices)) pb (loose_vertex_finds d)))
    go none none (some p) e pa pb pc pe =
        inr (inr (inl (
          refl,
          (same_place_means d).0 pa,
          (loose_vertex_means d).0 pb,
          subst (Finds (Meets d) (length d.edges)) pc (edge_meets_finds d (long_edges d rising pa)),
        )))
    go none none none (some p) pa pb pc pe =
        inr (inr (inr (
          refl,
          (same_place_means d).0 pa,
          (loose_vertex_means d).0 pb,
          (edge_meets_means d (long_edges d rising pa)).0 pc,
          subst (Finds (λ v. Reachable d v → ⊥) (length d.vertices)) pe (apart_finds d),
        )))
    go none none none none pa pb pc pe =
        ((same_place_means d).0 pa, (loose_vertex_means d).0 pb, (edge_meets_means d (long_edges d rising pa)).0 pc, (apart_means d).0 pe)

-- ---- of lists that are lent, and of a sheet that is accepted: 9 comes before 11

pub lent_long : (xyz : List ℤ) (ends : List ℕ) → Fine ≡ first_of (lent_checks xyz ends)
    → same_place (wire xyz ends) ≡ none → Long (wire xyz ends)
lent_long xyz ends h = long_edges (wire xyz ends) (lent_rising xyz ends h)

pub lent-rules : (xyz : List ℤ) (ends : List ℕ) → Fine ≡ first_of (lent_checks xyz ends)
    → RulesSay (wire xyz ends) (first_of (drawing_checks (wire xyz ends)))
lent-rules xyz ends h = rules_say (wire xyz ends) (lent_rising xyz ends h)

pub sheet-rules : (f : Format) → Limited f → (s : List ℕ) → Fine ≡ first_of (sheet_checks f s)
    → RulesSay (wire (coordinates_in f s) (ends_in f s)) (first_of (drawing_checks (wire (coordinates_in f s) (ends_in f s))))
sheet-rules f held s h = lent-rules (coordinates_in f s) (ends_in f s) (accepted-lent f held s h)
