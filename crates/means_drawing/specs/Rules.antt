-- What the table's 11 to 14 answer, in plain mathematics.
use Rattle.std.specs.Prelude.{◌≡◌, true, false, ◌↔◌, ◌⊎◌, ℕ, length, get_or, Ok, Err}
use Rattle.std.proofs.Math.Option.{some}
use Rattle.paper.specs.Refusals as No
use Rattle.paper.specs.Drawing.{Wire, at, vertices_reached}
use Rattle.paper.specs.Refusals.{Answer}
use Rattle.means_drawing.specs.Drawings.{Finds, Vertex, HasEdge, EndOf, Doubled, Loose, Meets, Reachable}

module _ (d : Wire) where
  -- 11: no two vertices at one point. 12: every vertex is on an edge. 13: no edge meets anything but at its ends. 14: every vertex is
  -- reachable from vertex 0
  abbrev pub Passes11 : Type 0
  Passes11 = (u w : ℕ) → Vertex d u → Vertex d w → at d u ≡ at d w → u ≡ w

  abbrev pub Passes12 : Type 0
  Passes12 = (v : ℕ) → Vertex d v → (e : ℕ) × HasEdge d e × EndOf d e v

  abbrev pub Passes13 : Type 0
  Passes13 = (e : ℕ) → HasEdge d e → Meets d e → ⊥

  abbrev pub Passes14 : Type 0
  Passes14 = (v : ℕ) → Vertex d v → Reachable d v

  -- the place is the lowest vertex, or the lowest edge, of which P holds
  abbrev pub LowestVertex : (ℕ → Type 0) → ℕ → Type 0
  LowestVertex P p = Finds P (length d.vertices) (some p)

  abbrev pub LowestEdge : (ℕ → Type 0) → ℕ → Type 0
  LowestEdge P p = Finds P (length d.edges) (some p)

  -- "Checks run in number order; the first that applies is the answer. Places are the lowest that offend"
  abbrev pub RulesSay : Answer → Type 0
  RulesSay (Ok _) = Passes11 × Passes12 × Passes13 × Passes14
  RulesSay (Err r) =
      ((r.number ≡ No.SamePlace) × LowestVertex (Doubled d) r.place)
      ⊎ (((r.number ≡ No.LooseVertex) × Passes11 × LowestVertex (Loose d) r.place)
      ⊎ (((r.number ≡ No.EdgeMeets) × Passes11 × Passes12 × LowestEdge (Meets d) r.place)
      ⊎ ((r.number ≡ No.Apart) × Passes11 × Passes12 × Passes13 × LowestVertex (λ v. Reachable d v → ⊥) r.place)))

  -- as many rounds as vertices reach what is reachable
  abbrev pub RoundsReach : Type 0
  RoundsReach = (v : ℕ) → Vertex d v → (get_or (vertices_reached d (length d.vertices)) v false ≡ true) ↔ Reachable d v
