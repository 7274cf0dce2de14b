-- The candidates of a drawing that passes 11 and 13.
use mathlib.Core.Path.{◌≡◌, sym, ap, ap₂, ◌∙◌, subst}
use mathlib.Core.Bool.{Bool, true, false, not}
use mathlib.Core.Logic.{◌⊎◌, inl, inr}
use mathlib.Core.Option.{none}
use mathlib.Core.List.{[], map}
use Prim.Native.Nat.{ℕ, zero, suc, ◌+◌, ◌-◌, ◌<◌}
use native.Mathlib.Numerals.{add-one}
use native.Mathlib.Omega.{arith}
use lib.ListN.{length, get_or, length-map}
use Rattle.lists.specs.Lists.{keep, filter, from, upto}
use Rattle.lists.specs.Around.{wrap, around}
use Rattle.lists.proofs.Places.{map_at}
use Rattle.lists.proofs.Sides.{around_low}
use Rattle.paper.specs.Drawing.{Wire, joined, same_place, edge_meets}
use Rattle.paper.specs.Loops.{Loop, loops, loop_at, covers_other, uncovering, candidates}
use Rattle.paper.specs.Solids.{tables_of}
use Rattle.means_drawing.proofs.Drawings.{same_place_means}
use Rattle.means_solid.proofs.Goes.{wrap-next, around-at}
use Rattle.means_loops.specs.Loop.{IsLoop}
use Rattle.means_loops.proofs.Listing.{loops_are}
use Rattle.means_area.proofs.Loops.{plane_holds}
use Rattle.fast_tables.specs.Paths.{PointsApart, Path, LevelLoop}
use Rattle.fast_tables.specs.Hits.{hits}
use Rattle.fast_tables.specs.Asked.{covers_by_answers}
use Rattle.fast_tables.proofs.Rows.{table-clashes}
use Rattle.fast_tables.proofs.Candidates.{uncovering-found}

-- ---- the loops
pub loop_path : (d : Wire) (i : ℕ) → i < length (loops d) → Path d (loop_at (loops d) i)
loop_path d i h = path (loop_at (loops d) i) (loops_are d i h)
  where
    path : (l : Loop) → IsLoop d l → Path d l
    path l c = record {
      long = c.three;
      below = c.inside;
      along = (λ i h. ap (λ (k : ℕ). joined d (around l i 0) (around l k 0)) (add-one i) ∙ go i h (wrap-next (length l) i h));
      differ = c.different;
    }
      where
        to : (i j : ℕ) → i < length l → wrap (length l) (suc i) ≡ j
            → joined d (around l i 0) (around l (suc i) 0) ≡ joined d (get_or l i 0) (get_or l j 0)
        to i j h e = ap₂ (joined d) (around_low l i 0 h) (around-at l (suc i) ∙ ap (λ (k : ℕ). get_or l k 0) e)

        go : (i : ℕ) → i < length l → ((suc i < length l) × (wrap (length l) (suc i) ≡ suc i))
            ⊎ ((suc i ≡ length l) × (wrap (length l) (suc i) ≡ 0)) → joined d (around l i 0) (around l (suc i) 0) ≡ true
        go i h (inl (u, e)) = to i (suc i) h e ∙ c.edges i u
        go i h (inr (u, e)) =
            let k : i ≡ length l - 1 = omega arith in
            to i 0 h e ∙ ap (λ (j : ℕ). joined d (get_or l j 0) (get_or l 0 0)) k ∙ c.closed

pub drawing-apart : (d : Wire) → same_place d ≡ none → PointsApart d
drawing-apart d r11 u w hu hw e = (same_place_means d).0 r11 u w hu hw e

-- ---- the candidates are loops
filter-below : (p : ℕ → Bool) (n j k : ℕ) → k < length (filter p (from j n)) → get_or (filter p (from j n)) k 0 < j + n
unfolding filter from keep
filter-below p zero j k h = absurd (omega arith)
filter-below p (suc n) j k h = go (p j) k h (λ m g. filter-below p n (suc j) m g)
  where
    go : (b : Bool) (k : ℕ) → k < length (keep b j (filter p (from (suc j) n)))
        → ((m : ℕ) → m < length (filter p (from (suc j) n)) → get_or (filter p (from (suc j) n)) m 0 < suc j + n)
        → get_or (keep b j (filter p (from (suc j) n))) k 0 < j + suc n
    go false k h ih = let r = ih k h in omega (arith, r)
    go true zero h ih = omega arith
    go true (suc k) h ih = let r = ih k (omega (arith, h)) in omega (arith, r)

pub candidate_of : (d : Wire) (k : ℕ) → k < length (candidates d)
    → (i : ℕ) × (i < length (loops d)) × (loop_at (loops d) i ≡ loop_at (candidates d) k)
unfolding candidates uncovering upto
candidate_of d k h =
    let ls = loops d in
    let p : ℕ → Bool = λ i. not (covers_other d ls i) in
    let ks = filter p (from 0 (length ls)) in
    let s : k < length ks = omega (arith, h, length-map ks (loop_at ls)) in
    let b = filter-below p (length ls) 0 k s in
    (get_or ks k 0, omega (arith, b), sym (map_at (loop_at ls) ks k 0 [] s))

-- the candidates of any drawing
pub candidates-found : (d : Wire)
    → candidates d ≡ map (loop_at (loops d)) (filter (λ i. not (covers_by_answers d (loops d) i)) (upto (length (loops d))))
unfolding candidates
candidates-found d = uncovering-found d (loops d) (loop_path d)

pub candidate_path : (d : Wire) (k : ℕ) → k < length (candidates d) → Path d (loop_at (candidates d) k)
candidate_path d k h = let r = candidate_of d k h in subst (Path d) r.2 (loop_path d r.0 r.1)

module _ (d : Wire) (r11 : same_place d ≡ none) (r13 : edge_meets d ≡ none) where
  pub candidate_level : (k : ℕ) → k < length (candidates d) → LevelLoop d (loop_at (candidates d) k)
  candidate_level k h = let r = candidate_of d k h in subst (LevelLoop d) r.2 (plane_holds d r11 r13 r.0 r.1)

  -- the clash masks of the drawing's tables
  pub candidates-clashes : (tables_of d (candidates d)).clashes ≡ map (λ i. map (hits d (candidates d) i) (upto (length (candidates d))))
      (upto (length (candidates d)))
  candidates-clashes = table-clashes d (drawing-apart d r11) (candidates d) (candidate_path d) candidate_level
