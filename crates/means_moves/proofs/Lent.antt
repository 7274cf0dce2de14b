-- Conversion and check of two lists of numbers, or of a sheet, moved vertex by vertex.
use mathlib.Core.Path.{◌≡◌, refl, sym, ap, ◌∙◌}
use mathlib.Core.Bool.{Bool, true, false, ◌||◌, or-false}
use mathlib.Core.Option.{Option}
use mathlib.Core.List.{List, [], ◌∷◌, map}
use Prim.Native.Nat.{ℕ, zero, suc, ◌/◌, ◌<◌}
use native.Mathlib.Omega.{arith}
use borrow.Author.Tests.{lt-ltb, le-ltb, ltb-true}
use lib.IntN.{ℤ, pos, negsuc, neg_ℤ, nat_abs}
use lib.Dec.{ltb}
use lib.ListN.{length, get_or}
use Rattle.lists.specs.Lists.{lowest}
use Rattle.lists.proofs.Truth.{same_truth}
use Rattle.lists.proofs.Agreeing.{lowest-same}
use Rattle.exact.specs.Size.{Within}
use Rattle.paper.specs.Numbers.{least_vertices, least_edges, farthest, Limits, most_vertices, most_edges}
use Rattle.paper.specs.Refusals as No
use Rattle.paper.specs.Refusals.{Check, check, first_of, offends, Fine}
use Rattle.paper.specs.Points.{pt}
use Rattle.paper.specs.FaceList.{faces_in, well_shaped}
use Rattle.paper.specs.Sheet.{far, far_at, bad_count, edge_checks, content_checks, lent_checks}
use Rattle.paper.specs.Drawing.{Wire, Edge, edge, edge_at, points_of, edges_of, wire}
use Rattle.paper.specs.Conversion.{conversion}
use Rattle.paper.specs.Verdict.{verdict, list_edition}
use Rattle.paper.specs.declared.Point.{Point}
use Rattle.means_drawing.specs.Drawings.{Rising, start, stop}
use Rattle.means_moves.specs.Moves.{mirror, Move}
use Rattle.means_moves.specs.Alike.{EdgeBelow, EndsBelow}
use Rattle.means_moves.specs.Lists.{each_vertex, WithinRange}
use Rattle.means_moves.specs.Turned.{turns_by, FollowsMoved}
use Rattle.means_moves.specs.TurnedRound.{AllTurned}
use Rattle.means_moves.proofs.Followed.{conversion_moved}
use Rattle.means_moves.proofs.Checked.{verdict_kept, verdict-round}

-- ---- points and counts

points_each : (f : Point → Point) (l : List ℤ) → points_of (each_vertex f l) ≡ map f (points_of l)
unfolding points_of each_vertex
points_each f [] = refl
points_each f (x ∷ []) = refl
points_each f (x ∷ (y ∷ [])) = refl
points_each f (x ∷ (y ∷ (z ∷ l))) = ap (λ (ps : List Point). f (pt x y z) ∷ ps) (points_each f l)

pub long_each : (f : Point → Point) (l : List ℤ) → length (each_vertex f l) ≡ length l
unfolding each_vertex
long_each f [] = refl
long_each f (x ∷ []) = refl
long_each f (x ∷ (y ∷ [])) = refl
long_each f (x ∷ (y ∷ (z ∷ l))) = ap (λ (n : ℕ). suc (suc (suc n))) (long_each f l)

-- ---- 8

near-far : (z : ℤ) → Within farthest z → far z ≡ false
near-far (pos n) h = le-ltb 1000 n h.within
near-far (negsuc n) h = ap (λ (b : Bool). b || false) (le-ltb 999 n (omega (arith, h.within)))

far_low : (n : ℕ) → far (negsuc n) ≡ ltb farthest (suc n)
far_low n =
    or-false (ltb 999 n)
    ∙ same_truth (ltb 999 n) (ltb farthest (suc n)) (λ e. lt-ltb farthest (suc n) (omega (arith, ltb-true 999 n e)))
    (λ e. lt-ltb 999 n (omega (arith, ltb-true farthest (suc n) e)))

far-neg : (z : ℤ) → far (neg_ℤ z) ≡ far z
far-neg (pos zero) = refl
far-neg (pos (suc n)) = far_low n
far-neg (negsuc n) = sym (far_low n)

far-mirror : (l : List ℤ) (k : ℕ) → far (get_or (each_vertex mirror l) k (pos 0)) ≡ far (get_or l k (pos 0))
unfolding each_vertex
far-mirror [] k = refl
far-mirror (x ∷ []) k = refl
far-mirror (x ∷ (y ∷ [])) k = refl
far-mirror (x ∷ (y ∷ (z ∷ l))) zero = far-neg x
far-mirror (x ∷ (y ∷ (z ∷ l))) (suc zero) = refl
far-mirror (x ∷ (y ∷ (z ∷ l))) (suc (suc zero)) = refl
far-mirror (x ∷ (y ∷ (z ∷ l))) (suc (suc (suc k))) = far-mirror l k

-- 3 to 10 of two lists as long, of which 8 says the same
checks_lent : (xyz xyz' : List ℤ) (ends : List ℕ) → length xyz' ≡ length xyz
    → lowest (far_at xyz') (length xyz) ≡ lowest (far_at xyz) (length xyz) → lent_checks xyz' ends ≡ lent_checks xyz ends
unfolding lent_checks content_checks
checks_lent xyz xyz' ends e h =
    ap (λ (n : ℕ). check No.BadCount (offends (bad_count 3 least_vertices most_vertices n) 0)
    ∷ check No.BadCount (offends (bad_count 2 least_edges most_edges (length ends)) 1)
    ∷ check No.BadCoordinate (lowest (far_at xyz') n) ∷ edge_checks (n / 3) ends) e
    ∙ ap (λ (o : Option ℕ). check No.BadCount (offends (bad_count 3 least_vertices most_vertices (length xyz)) 0)
    ∷ check No.BadCount (offends (bad_count 2 least_edges most_edges (length ends)) 1)
    ∷ check No.BadCoordinate o ∷ edge_checks (length xyz / 3) ends) h

pub forms-near : (f : Point → Point) (xyz : List ℤ) (ends : List ℕ) → WithinRange xyz → WithinRange (each_vertex f xyz)
    → first_of (lent_checks (each_vertex f xyz) ends) ≡ first_of (lent_checks xyz ends)
unfolding far_at
forms-near f xyz ends a b =
    ap first_of (checks_lent xyz (each_vertex f xyz) ends (long_each f xyz)
    (lowest-same (far_at (each_vertex f xyz)) (far_at xyz) (length xyz)
    (λ k h. near-far (get_or (each_vertex f xyz) k (pos 0)) (b k (omega (arith, long_each f xyz))) ∙ sym
    (near-far (get_or xyz k (pos 0)) (a k h)))))

pub forms-mirror : (xyz : List ℤ) (ends : List ℕ)
    → first_of (lent_checks (each_vertex mirror xyz) ends) ≡ first_of (lent_checks xyz ends)
unfolding far_at
forms-mirror xyz ends =
    ap first_of (checks_lent xyz (each_vertex mirror xyz) ends (long_each mirror xyz)
    (lowest-same (far_at (each_vertex mirror xyz)) (far_at xyz) (length xyz) (λ k h. far-mirror xyz k)))

-- ---- 9

pub rising_below : (d : Wire) → Rising d → EndsBelow d
rising_below d r k h = go (edge_at d k) (r k h)
  where
    go : (x : Edge) → (start x < stop x) × (stop x < length d.vertices) → EdgeBelow (length d.vertices) x
    go (edge a b) p = (omega (arith, p.0, p.1), p.1)

-- ---- drawings of which 3 to 10 say the same, each in its own form

module _ (m : Move) (form form' : List Check) (forms : first_of form' ≡ first_of form) (xyz xyz' : List ℤ) (ends ends' : List ℕ)
    (rising : Fine ≡ first_of form → Rising (wire xyz ends)) (edges : ends' ≡ ends) (points : xyz' ≡ each_vertex m.to xyz) where
  abbrev d : Wire
  d = wire xyz ends

  abbrev e : Wire
  e = wire xyz' ends'

  vertices : e.vertices ≡ map m.to d.vertices
  unfolding wire
  vertices = ap points_of points ∙ points_each m.to xyz

  links : e.edges ≡ d.edges
  unfolding wire
  links = ap edges_of edges

  below : Fine ≡ first_of form → EndsBelow d
  below p = rising_below d (rising p)

  pub either-follows : (most : Limits) (limit : ℕ) (faces solids : List ℕ)
      → FollowsMoved (turns_by m.sides_by) (nat_abs m.sides_by) solids (conversion most form d limit faces solids)
      (conversion most form' e limit faces solids)
  either-follows most limit faces solids = conversion_moved m d e vertices links most limit faces solids form form' forms below

  pub either_kept : turns_by m.sides_by ≡ false → (list : List ℕ) → verdict form' e list ≡ verdict form d list
  either_kept t list = verdict_kept m d e vertices links form form' forms below list list t refl

  pub either-round : turns_by m.sides_by ≡ true → (list list' : List ℕ)
      → well_shaped (list_edition d) (length d.vertices) list' ≡ well_shaped (list_edition d) (length d.vertices) list
      → AllTurned (faces_in (list_edition d) list) (faces_in (list_edition d) list') → verdict form' e list' ≡ verdict form d list
  either-round t list list' = verdict-round m d e vertices links form form' forms below list list' t
