-- The search from a path in one line: where it stops, one law for each return, and what its loop keeps.
use mathlib.Core.Bool.{Bool, true, false}
use mathlib.Core.List.{List, []}
use mathlib.Core.Path.{◌≡◌, refl, sym, ap, ◌∙◌, subst}
use Prim.Native.Nat.{ℕ, suc, ◌+◌, ◌-◌, ◌≤◌, ◌<◌}
use native.Mathlib.Omega.{arith}
use lib.Dec.{eqb}
use lib.IntN.{ℤ}
use lib.ListN.{length, get_or, take, set}
use lib.Seq.{set-set, set-get_or, take-set-le, get_or-set_same}
use Rattle.sets.specs.Word.{empty, both}
use Rattle.sets.specs.Kinds.{Joint, First}
use Rattle.sets.specs.Sets.{Is, size, one_word}
use Rattle.sets.specs.declared.Set.{Set}
use Rattle.sets.proofs.Sets.{size_is}
use Rattle.paper.specs.Numbers.{most_corners, most_loops, fill_byte}
use Rattle.paper.specs.Drawing.{Wire}
use Rattle.paper.specs.Loops.{final}
use Rattle.fast_search.specs.Rows.{each_of}
use Rattle.fast_search.specs.Search.{InItsPlane, near, line_step}
use Rattle.fast_search.specs.Bare.{bare_line}
use Rattle.fast_search.proofs.Turns.{bare_last, bare_turns, bare_stop, bare_start}
use Rattle.loop_search.specs.Rooms.{Rooms, Sized, Adds}
use Rattle.loop_search.specs.Paths.{PathAt, VerticesBelow, Onward}
use Rattle.loop_search.specs.Lines.{DrawnWith, OnLineAt, OnLine, StepAt, Stepped}
use Rattle.loop_search.proofs.Filling.{adds_none}
use Rattle.loop_search.proofs.Kept.{Kept, kept_start, kept_next, kept_end, kept_full}
use Rattle.loop_search.proofs.Deeper.{below_dropped, first_below}
use Rattle.loop_search.proofs.Way.{path_next}

-- ---- the path is not gone on with: it is as long as a loop can be; no free vertex closes it
module _ {xyz : List ℤ} {words path : List ℕ} {len : ℕ} {free closing : Set} {r : Rooms} (z : Sized r) where
  pub line_most : most_corners ≤ len → OnLine xyz words path len free closing r r path
  line_most h = record {
    sized = z;
    path_is = refl;
    adds = λ d n fr cl i j.
        let e : 0 ≡ most_corners - len = omega arith in
        subst (Adds r r) (sym (bare_last d (take len path) fr cl) ∙ ap (λ (m : ℕ). bare_line d m (take len path) fr cl) e) adds_none;
  }

  pub line-none : {ends : Set} → Joint one_word closing free ends both → true ≡ eqb (size ends) 0 → OnLine xyz words path len free closing r r path
  line-none k e = record {
    sized = z;
    path_is = refl;
    adds = λ d n fr cl i j.
        let none : empty (both cl fr) ≡ true = ap (λ (n : ℕ). eqb n 0) (sym (size_is (k cl fr j i))) ∙ sym e in
        subst (Adds r r) (sym (bare_stop d (take len path) fr cl (most_corners - len) none)) adds_none;
  }

-- ---- the loop over the free neighbours
module _ (xyz : List ℤ) (words path : List ℕ) (len : ℕ) (free closing : Set) (v : ℕ) (r : Rooms) where
  -- what is found by way of a vertex
  abbrev pub onwards : Wire → List Bool → List Bool → ℕ → List Bool → List InItsPlane
  onwards d fr cl = bare_turns d (take len path) fr cl (most_corners - suc len)

  pub record Passing (path' : List ℕ) (r' : Rooms) (left : Set) : Type 0 where
    pub sized : Sized r'
    pub path_is : path' ≡ path
    pub below : VerticesBelow left v
    pub kept : (d : Wire) → DrawnWith d xyz words → (fr cl : List Bool) → Is free fr → Is closing cl
        → Kept (onwards d fr cl) (both (near d (final (take len path))) fr) r r' left

  pub passing-start : {left : Set} → Sized r → VerticesBelow free v → Onward words path len free left → Passing path r left
  passing-start {left} s b o = record {
    sized = s;
    path_is = refl;
    below = o.below v b;
    kept = λ d n fr cl i j.
        kept_start (onwards d fr cl) (both (near d (final (take len path))) fr) r left (o.same d n.near_are fr i);
  }

  module _ (p : PathAt path len v) (h : len < most_corners) where
    step_is : (d : Wire) (fr cl : List Bool) (path' : List ℕ) (w : ℕ) → path' ≡ path
        → line_step d (λ q f. bare_line d (most_corners - (len + 1)) q f cl) (most_corners - (len + 1)) (take len (set path' len w)) fr cl
        (get_or (set path' len w) len 0)
        ≡ onwards d fr cl w []
    step_is d fr cl path' w e =
        let z : most_corners - (len + 1) ≡ most_corners - suc len = omega arith in
        let q : take len (set path' len w) ≡ take len path = take-set-le len path' len w (omega arith) ∙ ap (take len) e in
        let u : get_or (set path' len w) len 0 ≡ w = get_or-set_same path' len w 0 (omega (arith, ap length e, p.long)) in
        λ i. line_step d (λ q f. bare_line d (z i) q f cl) (z i) (q i) fr cl (u i)

    -- one turn: w is the next vertex
    pub passing_at : {r₀ : Rooms} → OnLineAt r₀ xyz v path len free closing → {path' : List ℕ} {r' : Rooms} {left left' : Set} {w : ℕ}
        → Passing path' r' left → First one_word left left' w → StepAt r' xyz v (set path' len w) len free closing
    passing_at g {w = w} t q = record {
      sized = t.sized;
      points = g.points;
      few = g.few;
      path_at = path_next (subst (λ (l : List ℕ). PathAt l len v) (sym t.path_is) p) w h (first_below t.below q);
      two = g.two;
      free_below = g.free_below;
      closing_below = g.closing_below;
    }

    pub passing-next : {path' path'' : List ℕ} {r' r'' : Rooms} {left left' : Set} {w : ℕ} → Passing path' r' left
        → First one_word left left' w → Stepped xyz words (set path' len w) len free closing r' r'' path''
        → Passing (set path'' len fill_byte) r'' left'
    passing-next {path'} {path''} {r'} {r''} {left} {left'} {w} t q s = record {
      sized = s.sized;
      path_is = ap (λ (l : List ℕ). set l len fill_byte) (s.path_is ∙ ap (λ (l : List ℕ). set l len w) t.path_is)
          ∙ set-set path len w fill_byte ∙ ap (set path len) (sym (p.fill len (omega arith) h)) ∙ set-get_or path len 0;
      below = below_dropped t.below q.dropped;
      kept = λ d n fr cl i j.
          kept_next (onwards d fr cl) (both (near d (final (take len path))) fr) r (t.kept d n fr cl i j) q
          (subst (Adds r' r'') (step_is d fr cl path' w t.path_is) (s.adds d n fr cl i j));
    }

    -- it has gone through all, or the table is full
    module _ {ends : Set} (j : Joint one_word closing free ends both) (some : false ≡ eqb (size ends) 0) where
      whole : (d : Wire) (fr cl : List Bool) → Is free fr → Is closing cl
          → each_of (onwards d fr cl) 0 (both (near d (final (take len path))) fr) ≡ bare_line d (most_corners - len) (take len path) fr cl
      whole d fr cl a b =
          let full : empty (both cl fr) ≡ false = ap (λ (n : ℕ). eqb n 0) (sym (size_is (j cl fr b a))) ∙ sym some in
          let z : suc (most_corners - suc len) ≡ most_corners - len = omega arith in
          bare_start d (take len path) fr cl (most_corners - suc len) [] full ∙ ap (λ (m : ℕ). bare_line d m (take len path) fr cl) z

      module _ {path' : List ℕ} {r' : Rooms} {left : Set} (t : Passing path' r' left) where
        passed : ((f : ℕ → List Bool → List InItsPlane) (every : List Bool) → Kept f every r r' left → Adds r r' (each_of f 0 every))
            → OnLine xyz words path len free closing r r' path'
        passed ends_so = record {
          sized = t.sized;
          path_is = t.path_is;
          adds = λ d n fr cl a b.
              subst (Adds r r') (whole d fr cl a b)
              (ends_so (onwards d fr cl) (both (near d (final (take len path))) fr) (t.kept d n fr cl a b));
        }

        pub passing-end : size left ≡ 0 → OnLine xyz words path len free closing r r' path'
        passing-end z = passed (λ f every k. kept_end f every r k z)

        pub passing_full : most_loops < r'.count → OnLine xyz words path len free closing r r' path'
        passing_full full = passed (λ f every k. kept_full f every r k full)
