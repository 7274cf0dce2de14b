-- Document 01, "Solids": the tests (i) to (v). A selection is a mask: for each candidate, whether it is taken.
use Rattle.std.specs.Prelude.{Bool, true, false, not, ◌&&◌, ◌||◌, cond, List, [], ◌∷◌, map, ℕ, zero, suc, eqb, ltb, length, get_or, ℤ, pos, negsuc, neg_ℤ, ◌+ℤ◌}
use Rattle.lists.specs.Lists.{sides, any_true, upto}
use Rattle.sets.specs.Word.{count, both, either, less, only, first}
use Rattle.paper.specs.Points.{det}
use Rattle.paper.specs.Polygon.{Polygon}
use Rattle.paper.specs.Drawing.{Wire, Edge, edge}
use Rattle.paper.specs.Loops.{Loop, polygon}
use Rattle.paper.specs.Clash.{clash}
use Rattle.paper.specs.declared.Point.{Point}

-- ---- what a drawing's candidates give: of each edge the mask of those that have it, and of those whose normal form runs it from its
-- lower to its higher vertex; of each candidate the mask of those that clash with it, and its part of six volumes

-- the loop goes from a to b by one of its edges; it has the edge, one way or the other
unfoldable pub runs : ℕ → ℕ → Loop → Bool
unfolding any_true sides
runs a b l = any_true (sides (λ x y. eqb a x && eqb b y) l)

unfoldable pub runs_up : Edge → Loop → Bool
runs_up (edge a b) l = runs a b l

unfoldable pub has : Edge → Loop → Bool
has (edge a b) l = runs a b l || runs b a l

-- "Six volumes is the sum, over faces a1..an .., of the determinant of the position rows": the fan of one face round its first corner
unfoldable pub fan : Point → List Point → ℤ
unfolding det
fan a [] = pos 0
fan a (b ∷ []) = pos 0
fan a (b ∷ (c ∷ r)) = det a b c +ℤ fan a (c ∷ r)

unfoldable pub face_six : Polygon → ℤ
unfolding fan
face_six [] = pos 0
face_six (a ∷ r) = fan a r

-- faces i and j clash; the rules go either way round, so each pair is asked once
unfoldable pub clashing : List Polygon → ℕ → ℕ → Bool
clashing gs i j = cond (ltb i j) (clash (get_or gs i []) (get_or gs j [])) (ltb j i && clash (get_or gs j []) (get_or gs i []))

-- all of it
pub record Tables : Type 0 where
  pub masks : List (List Bool)
  pub ups : List (List Bool)
  pub clashes : List (List Bool)
  pub sixes : List ℤ

unfoldable pub tables_of : Wire → List Loop → Tables
tables_of d cs =
    let gs = map (polygon d) cs in
    let ns = upto (length cs) in
    record {
      masks = map (λ e. map (has e) cs) d.edges;
      ups = map (λ e. map (runs_up e) cs) d.edges;
      clashes = map (λ i. map (clashing gs i) ns) ns;
      sixes = map face_six gs;
    }

-- ---- (i) "every edge of the drawing is in exactly two"

unfoldable pub in_two : List Bool → List Bool → Bool
in_two mask taken = eqb (count (both mask taken)) 2

-- ---- (ii) "one can go from any face to any other across shared edges". On the way each face gets the direction that (iii) asks.

-- the faces that are reached, and those of them that are turned against their normal form
pub record Reach : Type 0 where
  pub reached : List Bool
  pub turned : List Bool

-- digit by digit: in one and not in the other
unfoldable pub unlike : List Bool → List Bool → List Bool
unlike a b = either (less a b) (less b a)

-- of the faces on an edge, those not yet reached and those reached; and whether the one that is reached runs the edge down
unfoldable pub fresh : List Bool → List Bool → Reach → List Bool
fresh mask taken r = less (both mask taken) r.reached

unfoldable pub reached_on : List Bool → List Bool → Reach → List Bool
reached_on mask taken r = both (both mask taken) r.reached

unfoldable pub runs_down : List Bool → List Bool → List Bool → Reach → Bool
runs_down mask up taken r = eqb (count (both (reached_on mask taken r) up)) (count (both (reached_on mask taken r) r.turned))

-- over an edge of which one face is reached: the other is reached too, and is to run it the other way
unfoldable pub across_edge : List Bool → List Bool → List Bool → Reach → Reach
across_edge mask up taken r =
    cond (eqb (count (reached_on mask taken r)) 1)
    (record {
      reached = either r.reached (fresh mask taken r);
      turned = either r.turned (cond (runs_down mask up taken r) (less (fresh mask taken r) up) (both (fresh mask taken r) up));
    })
    r

-- over all edges, in order
unfoldable pub pass : List (List Bool) → List (List Bool) → List Bool → Reach → Reach
pass [] ups taken r = r
pass (mask ∷ masks) [] taken r = r
pass (mask ∷ masks) (up ∷ ups) taken r = pass masks ups taken (across_edge mask up taken r)

-- again and again until nothing more is reached, at most n times: enough for n faces
unfoldable pub spread : ℕ → List (List Bool) → List (List Bool) → List Bool → Reach → Reach
spread zero masks ups taken r = r
spread (suc n) masks ups taken r =
    let next = pass masks ups taken r in
    cond (eqb (count next.reached) (count r.reached)) next (spread n masks ups taken next)

-- from face k on
unfoldable pub faces_from : ℕ → Tables → List Bool → Reach
faces_from k t taken = spread (count taken) t.masks t.ups taken (record { reached = only k; turned = [] })

unfoldable pub connected : List Bool → Reach → Bool
connected taken r = eqb (count (less taken r.reached)) 0

-- ---- (iii) "faces can be given directions so that each edge is run once each way"

unfoldable pub once_each_way : List Bool → List Bool → List Bool → List Bool → Bool
once_each_way mask up taken turned =
    eqb (count (both (both mask taken) (unlike up turned))) 1 && eqb (count (less (both mask taken) (unlike up turned))) 1

unfoldable pub oriented : List (List Bool) → List (List Bool) → List Bool → List Bool → Bool
oriented [] ups taken turned = true
oriented (mask ∷ masks) [] taken turned = true
oriented (mask ∷ masks) (up ∷ ups) taken turned = cond (once_each_way mask up taken turned) (oriented masks ups taken turned) false

-- ---- (iv) "with one of the two such choices six times the signed volume is above zero, and that choice is taken"

-- a face's part is counted, the other way round where it is turned
abbrev pub part : Bool → Bool → ℤ → ℤ
part false t z = pos 0
part true false z = z
part true true z = neg_ℤ z

-- the parts are of the candidates from k on
unfoldable pub six_from : ℕ → List ℤ → List Bool → List Bool → ℤ
six_from k [] taken turned = pos 0
six_from k (z ∷ zs) taken turned = part (get_or taken k false) (get_or turned k false) z +ℤ six_from (suc k) zs taken turned

-- ---- (v) "no two faces clash"

abbrev pub peaceful : Bool → ℕ → Bool
peaceful taken n = not taken || eqb n 0

-- the masks are of the candidates from k on
unfoldable pub clear_from : ℕ → List (List Bool) → List Bool → Bool
clear_from k [] taken = true
clear_from k (c ∷ cs) taken = cond (peaceful (get_or taken k false) (count (both c taken))) (clear_from (suc k) cs taken) false

-- ---- what a selection that has (i) is: those of its faces that are run against their normal form, and its six volumes

pub data Judgement : Type 0 where
  Fails : Judgement
  Solid : (turned : List Bool) → (six : ℕ) → Judgement

-- six volumes is above zero with the directions found, or with all of them turned
abbrev pub weighed : List Bool → List Bool → ℤ → Judgement
weighed taken turned (pos zero) = Fails
weighed taken turned (pos (suc v)) = Solid turned (suc v)
weighed taken turned (negsuc v) = Solid (less taken turned) (suc v)

unfoldable pub judged : Tables → List Bool → Judgement
judged t taken =
    let r = faces_from (first taken) t taken in
    cond (eqb (count taken) 0) Fails
    (cond (connected taken r)
    (cond (oriented t.masks t.ups taken r.turned)
    (cond (clear_from 0 t.clashes taken) (weighed taken r.turned (six_from 0 t.sixes taken r.turned)) Fails)
    Fails)
    Fails)
