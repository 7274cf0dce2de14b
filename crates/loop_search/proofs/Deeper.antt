-- The search from a path whose plane is fixed: where it stops, one law for each return, and what its loop keeps.
use mathlib.Core.Bool.{Bool, true, false}
use mathlib.Core.List.{List, [], ◌∷◌, ◌++◌}
use mathlib.Core.Path.{◌≡◌, refl, sym, ap, ◌∙◌, subst}
use Prim.Native.Nat.{ℕ, suc, ◌+◌, ◌-◌, ◌≤◌, ◌<◌}
use native.Mathlib.Omega.{arith}
use lib.Dec.{eqb}
use lib.ListN.{get_or, take, set}
use lib.Seq.{set-set, set-get_or}
use Rattle.sets.specs.Word.{empty, both, less, only}
use Rattle.sets.specs.Kinds.{Joint, Dropped, First, SetAt}
use Rattle.sets.specs.Sets.{Is, size, one_word}
use Rattle.sets.specs.declared.Set.{Set}
use Rattle.sets.proofs.Digits.{length_both_last, length_less, first-lt}
use Rattle.sets.proofs.Sets.{size_is}
use Rattle.paper.specs.Numbers.{most_corners, most_loops, fill_byte, most_vertices}
use Rattle.paper.specs.Drawing.{Wire}
use Rattle.paper.specs.Loops.{final}
use Rattle.fast_search.specs.Rows.{each_of}
use Rattle.fast_search.specs.Search.{InItsPlane, own, near, in_plane}
use Rattle.fast_search.proofs.Turns.{path_last, path_more, plane_last, plane_stop, plane_start}
use Rattle.loop_search.specs.Rooms.{Rooms, Sized, Adds}
use Rattle.loop_search.specs.Paths.{PathAt, VerticesBelow, NearWords, Onward, Ended, OnPath, PlaneSearched}
use Rattle.loop_search.proofs.Filling.{adds_then}
use Rattle.loop_search.proofs.Kept.{Kept, kept_start, kept_next, kept_end, kept_full}
use Rattle.loop_search.proofs.Way.{path_next}

-- ---- sets of vertices
pub below_dropped : {x x' : Set} {n v : ℕ} → VerticesBelow x n → Dropped one_word x v x' → VerticesBelow x' n
below_dropped {x} {x'} {n} {v} b d = record {
  digits = less b.digits (only v);
  is = d.same b.digits b.is;
  few = omega (arith, length_less b.digits (only v), b.few);
}

pub first_below : {x x' : Set} {n v : ℕ} → VerticesBelow x n → First one_word x x' v → v < n
first_below b p =
    let f = first-lt b.digits (λ z. absurd (omega (arith, z, p.some, size_is b.is))) in
    omega (arith, f, p.lowest.same b.digits b.is, b.few)

pub below_both : {x y r : Set} {n : ℕ} (a : List Bool) → Is x a → VerticesBelow y n → Joint one_word x y r both → VerticesBelow r n
below_both {x} {y} {r} {n} a i b j = record {
  digits = both a b.digits;
  is = j a b.digits i b.is;
  few = omega (arith, length_both_last a b.digits, b.few);
}

-- ---- v is the last vertex
module _ (words path : List ℕ) (len : ℕ) {free all r : Set} {v : ℕ} (p : PathAt path len most_vertices)
    (at_v : v ≡ get_or path (len - 1) 0) where
  pub onward_is : SetAt one_word words v all → Joint one_word all free r both → Onward words path len free r
  onward_is e j = record {
    below = λ n b. below_both e.some.0 e.some.1 b j;
    same = λ d n fr i.
        let l : final (take len path) ≡ v = path_last path len (omega (arith, p.some)) (omega (arith, p.most, p.long)) ∙ sym at_v in
        let h : v < most_vertices = let low = p.low (len - 1) (omega (arith, p.some)) in omega (arith, low, at_v) in
        subst (λ (m : ℕ). Is r (both (near d m) fr)) (sym l)
        (j (near d v) fr (subst (λ (x : Set). Is x (near d v)) (sym e.is) (n v h)) i);
  }

-- ---- the path is not gone on with: it is as long as a loop can be; no free vertex closes it
module _ {words path : List ℕ} {len : ℕ} {free closing plane : Set} {r r' : Rooms} (e : Ended r r' path len closing plane) where
  pub at_most : most_corners ≤ len → PlaneSearched words path len free closing plane r r' path
  at_most h = record {
    sized = e.sized;
    path_is = refl;
    adds = λ d n fr cl pl i j k.
        let z : 0 ≡ most_corners - len = omega arith in
        subst (Adds r r') (sym (plane_last d (take len path) fr cl pl) ∙ ap (λ (m : ℕ). in_plane d m (take len path) fr cl pl) z)
        (e.adds cl pl j k);
  }

  pub none-closes : {ends : Set} → Joint one_word closing free ends both → true ≡ eqb (size ends) 0
      → PlaneSearched words path len free closing plane r r' path
  none-closes j z = record {
    sized = e.sized;
    path_is = refl;
    adds = λ d n fr cl pl a b k.
        let none : empty (both cl fr) ≡ true = ap (λ (n : ℕ). eqb n 0) (sym (size_is (j cl fr b a))) ∙ sym z in
        subst (Adds r r') (sym (plane_stop d (take len path) fr cl pl (most_corners - len) none)) (e.adds cl pl b k);
  }

-- ---- the loop over the free neighbours: r₁ are the rooms where it starts
module _ (words path : List ℕ) (len : ℕ) (free closing plane : Set) (r₁ : Rooms) where
  -- what is found by way of w
  abbrev pub deeper : Wire → List Bool → List Bool → List Bool → ℕ → List Bool → List InItsPlane
  deeper d fr cl pl w rest = in_plane d (most_corners - suc len) (take len path ++ w ∷ []) (less fr (only w)) cl pl

  pub record Turning (path' : List ℕ) (r' : Rooms) (left : Set) : Type 0 where
    pub sized : Sized r'
    pub path_is : path' ≡ path
    pub below : VerticesBelow left most_vertices
    pub kept : (d : Wire) → NearWords d words → (fr cl pl : List Bool) → Is free fr → Is closing cl → Is plane pl
        → Kept (deeper d fr cl pl) (both (near d (final (take len path))) fr) r₁ r' left

  pub turning_start : {left : Set} → Sized r₁ → VerticesBelow free most_vertices → Onward words path len free left → Turning path r₁ left
  turning_start {left} s b o = record {
    sized = s;
    path_is = refl;
    below = o.below most_vertices b;
    kept = λ d n fr cl pl i j k.
        kept_start (deeper d fr cl pl) (both (near d (final (take len path))) fr) r₁ left (o.same d n fr i);
  }

  module _ (p : PathAt path len most_vertices) (h : len < most_corners) where
    -- one turn: the path goes on to v
    pub turning_at : {path' : List ℕ} {r' : Rooms} {left left' rest : Set} {v : ℕ} → Turning path' r' left → First one_word left left' v
        → VerticesBelow free most_vertices → Dropped one_word free v rest → OnPath r' (set path' len v) (len + 1) rest
    turning_at {v = v} t q b drop = record {
      sized = t.sized;
      path_at = path_next (subst (λ (l : List ℕ). PathAt l len most_vertices) (sym t.path_is) p) v h (first_below t.below q);
      free_below = below_dropped b drop;
    }

    pub turning_next : {path' path'' : List ℕ} {r' r'' : Rooms} {left left' rest : Set} {v : ℕ} → Turning path' r' left
        → First one_word left left' v → Dropped one_word free v rest
        → PlaneSearched words (set path' len v) (len + 1) rest closing plane r' r'' path'' → Turning (set path'' len fill_byte) r'' left'
    turning_next {path'} {path''} {r'} {r''} {left} {left'} {rest} {v} t q drop s = record {
      sized = s.sized;
      path_is = ap (λ (l : List ℕ). set l len fill_byte) (s.path_is ∙ ap (λ (l : List ℕ). set l len v) t.path_is)
          ∙ set-set path len v fill_byte ∙ ap (set path len) (sym (p.fill len (omega arith) h)) ∙ set-get_or path len 0;
      below = below_dropped t.below q.dropped;
      kept = λ d n fr cl pl i j k.
          let one : in_plane d (most_corners - (len + 1)) (take (len + 1) (set path' len v)) (less fr (only v)) cl pl
          ≡ in_plane d (most_corners - suc len) (take len path ++ v ∷ []) (less fr (only v)) cl pl
          = deeper_is d (less fr (only v)) cl pl path' v t.path_is in
          kept_next (deeper d fr cl pl) (both (near d (final (take len path))) fr) r₁ (t.kept d n fr cl pl i j k) q
          (subst (Adds r' r'') one (s.adds d n (less fr (only v)) cl pl (drop.same fr i) j k));
    }
      where
        deeper_is : (d : Wire) (fr cl pl : List Bool) (path' : List ℕ) (v : ℕ) → path' ≡ path
            → in_plane d (most_corners - (len + 1)) (take (len + 1) (set path' len v)) fr cl pl
            ≡ in_plane d (most_corners - suc len) (take len path ++ v ∷ []) fr cl pl
        deeper_is d fr cl pl path' v e =
            let z : most_corners - (len + 1) ≡ most_corners - suc len = omega arith in
            let y : len + 1 ≡ suc len = omega arith in
            let grown : take (len + 1) (set path' len v) ≡ take len path ++ v ∷ []
            = (λ i. take (y i) (set (e i) len v)) ∙ path_more path len v (omega (arith, p.long)) in
            λ i. in_plane d (z i) (grown i) fr cl pl

    -- it has gone through all, or the table is full
    module _ {r : Rooms} {ends : Set} (e : Ended r r₁ path len closing plane) (j : Joint one_word closing free ends both)
        (some : false ≡ eqb (size ends) 0) where
      whole : (d : Wire) (fr cl pl : List Bool) → Is free fr → Is closing cl
          → own cl (take len path) pl ++ each_of (deeper d fr cl pl) 0 (both (near d (final (take len path))) fr)
          ≡ in_plane d (most_corners - len) (take len path) fr cl pl
      whole d fr cl pl a b =
          let full : empty (both cl fr) ≡ false = ap (λ (n : ℕ). eqb n 0) (sym (size_is (j cl fr b a))) ∙ sym some in
          let z : suc (most_corners - suc len) ≡ most_corners - len = omega arith in
          plane_start d (take len path) fr cl pl (most_corners - suc len) [] full
          ∙ ap (λ (m : ℕ). in_plane d m (take len path) fr cl pl) z

      module _ {path' : List ℕ} {r' : Rooms} {left : Set} (t : Turning path' r' left) where
        turned : ((f : ℕ → List Bool → List InItsPlane) (every : List Bool) → Kept f every r₁ r' left → Adds r₁ r' (each_of f 0 every))
            → PlaneSearched words path len free closing plane r r' path'
        turned ends_so = record {
          sized = t.sized;
          path_is = t.path_is;
          adds = λ d n fr cl pl a b k.
              let every = both (near d (final (take len path))) fr in
              subst (Adds r r') (whole d fr cl pl a b)
              (adds_then (own cl (take len path) pl) (each_of (deeper d fr cl pl) 0 every) (e.adds cl pl b k)
              (ends_so (deeper d fr cl pl) every (t.kept d n fr cl pl a b k)));
        }

        pub turning_end : size left ≡ 0 → PlaneSearched words path len free closing plane r r' path'
        turning_end z = turned (λ f every k. kept_end f every r₁ k z)

        pub turning_full : most_loops < r'.count → PlaneSearched words path len free closing plane r r' path'
        turning_full full = turned (λ f every k. kept_full f every r₁ k full)
