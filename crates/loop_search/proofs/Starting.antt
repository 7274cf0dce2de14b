-- The loops that start at one vertex: what the loop over its higher neighbours keeps.
use mathlib.Core.Bool.{Bool, true}
use mathlib.Core.List.{List, [], ◌∷◌}
use mathlib.Core.Path.{◌≡◌, refl, sym, ap, ◌∙◌, subst}
use Prim.Native.Nat.{ℕ, suc, ◌+◌, ◌<◌}
use native.Mathlib.Omega.{arith}
use lib.IntN.{ℤ}
use lib.ListN.{length, get_or, take, set, replicate, length-set, length-replicate, get_or-replicate}
use lib.Seq.{set-set, set-get_or, get_or-set_same, get_or-set_other}
use Rattle.sets.specs.Word.{both, less, only}
use Rattle.sets.specs.Kinds.{Joint, Minus, Dropped, First, SetAt}
use Rattle.sets.specs.Sets.{Is, size, one_word}
use Rattle.sets.specs.declared.Set.{Set}
use Rattle.sets.proofs.Digits.{length_less}
use Rattle.paper.specs.Numbers.{most_corners, fill_byte}
use Rattle.paper.specs.Drawing.{Wire}
use Rattle.fast_search.specs.Rows.{each_of}
use Rattle.fast_search.specs.Search.{InItsPlane, near, higher}
use Rattle.fast_search.specs.Bare.{bare_line, bare_seconds}
use Rattle.fast_search.proofs.Turns.{bare_seconds-start}
use Rattle.loop_search.specs.Rooms.{Rooms, Sized, Adds}
use Rattle.loop_search.specs.Paths.{PathAt, VerticesBelow}
use Rattle.loop_search.specs.Lines.{DrawnWith, OnLineAt, OnLine}
use Rattle.loop_search.specs.Starts.{StartAt, Started}
use Rattle.loop_search.proofs.Kept.{Kept, kept_start, kept_next, kept_end}
use Rattle.loop_search.proofs.Deeper.{below_both, below_dropped, first_below}
use Rattle.loop_search.proofs.Drawn.{vertices_length}
use Rattle.loop_search.proofs.Way.{path_next}

-- ---- what the loop keeps
module _ (s : ℕ) (d : Wire) where
  abbrev seconds : ℕ → List Bool → List InItsPlane
  seconds w rest = bare_line d 10 (s ∷ w ∷ []) (less (higher d s) (only w)) rest

  abbrev every : List Bool
  every = both (near d s) (higher d s)

pub record Starting (xyz : List ℤ) (words : List ℕ) (v s : ℕ) (begun : List ℕ) (r : Rooms) (path : List ℕ) (r' : Rooms) (later : Set)
    : Type 0 where
  pub sized : Sized r'
  pub path_is : path ≡ begun
  pub below : VerticesBelow later v
  pub kept : (d : Wire) → DrawnWith d xyz words → Kept (seconds s d) (every s d) r r' later

module _ {xyz : List ℤ} (words : List ℕ) {v s : ℕ} {path : List ℕ} {r : Rooms} (g : StartAt r xyz v path s) where
  -- ---- the path with its first vertex
  abbrev begun : List ℕ
  begun = set path 0 s

  path_long : length path ≡ most_corners
  path_long = ap length g.empty ∙ length-replicate most_corners fill_byte

  path_fill : (i : ℕ) → i < most_corners → get_or path i 0 ≡ fill_byte
  path_fill i h = ap (λ (l : List ℕ). get_or l i 0) g.empty ∙ get_or-replicate most_corners i fill_byte 0 h

  begun_at : PathAt begun 1 v
  begun_at = record {
    long = length-set path 0 s ∙ path_long;
    some = omega arith;
    most = omega arith;
    low = λ i h.
        let z : i ≡ 0 = omega arith in
        let e : get_or begun i 0 ≡ s = ap (λ (j : ℕ). get_or begun j 0) z ∙ get_or-set_same path 0 s 0 (omega (arith, path_long)) in
        rw e g.s_in;
    fill = λ i h k. get_or-set_other path 0 i s 0 (λ e. absurd (omega (arith, e))) ∙ path_fill i k;
  }

  -- ---- the higher vertices
  module _ {all low up : Set} (all_is : Is all (replicate v true)) (low-is : Is low (replicate (s + 1) true))
      (m : Minus one_word all low up) where
    up_is : (d : Wire) → DrawnWith d xyz words → Is up (higher d s)
    unfolding higher
    up_is d n =
        let e : v ≡ length d.vertices = sym (vertices_length g.points d n.vertices_are) in
        let z : s + 1 ≡ suc s = omega arith in
        subst (Is up) (λ i. less (replicate (e i) true) (replicate (z i) true))
        (m.same (replicate v true) (replicate (s + 1) true) all_is low-is)

    up_below : VerticesBelow up v
    up_below = record {
      digits = less (replicate v true) (replicate (s + 1) true);
      is = m.same (replicate v true) (replicate (s + 1) true) all_is low-is;
      few = omega (arith, length_less (replicate v true) (replicate (s + 1) true), length-replicate v true);
    }

    -- ---- the loop
    pub starting_start : {row later : Set} → SetAt one_word words s row → Joint one_word row up later both
        → Starting xyz words v s begun r begun r later
    starting_start {row} {later} e j = record {
      sized = g.sized;
      path_is = refl;
      below = below_both e.some.0 e.some.1 up_below j;
      kept = λ d n.
          let i : Is row (near d s) = subst (λ (x : Set). Is x (near d s)) (sym e.is) (n.near_are s (omega (arith, g.s_in, g.few))) in
          kept_start (seconds s d) (every s d) r later (j (near d s) (higher d s) i (up_is d n));
    }

    module _ {path' : List ℕ} {r' : Rooms} {later : Set} (t : Starting xyz words v s begun r path' r' later) where
      module _ {w : ℕ} {later' rest : Set} (p : First one_word later later' w) (drop : Dropped one_word up w rest) where
        pub second_at : OnLineAt r' xyz v (set path' 1 w) 2 rest later'
        second_at = record {
          sized = t.sized;
          points = g.points;
          few = g.few;
          path_at = subst (λ (q : List ℕ). PathAt (set q 1 w) 2 v) (sym t.path_is)
              (path_next begun_at w (omega arith) (first_below t.below p));
          two = omega arith;
          free_below = below_dropped up_below drop;
          closing_below = below_dropped t.below p.dropped;
        }

        pub starting_next : {path'' : List ℕ} {r'' : Rooms} → OnLine xyz words (set path' 1 w) 2 rest later' r' r'' path''
            → Starting xyz words v s begun r (set path'' 1 fill_byte) r'' later'
        starting_next {path''} {r''} o = record {
          sized = o.sized;
          path_is = ap (λ (l : List ℕ). set l 1 fill_byte) (o.path_is ∙ ap (λ (l : List ℕ). set l 1 w) t.path_is)
              ∙ set-set begun 1 w fill_byte ∙ ap (set begun 1) (sym (begun_at.fill 1 (omega arith) (omega arith))) ∙ set-get_or begun 1 0;
          below = below_dropped t.below p.dropped;
          kept = λ d n.
              let k = t.kept d n in
              let two : take 2 (set path' 1 w) ≡ s ∷ w ∷ [] = ap (λ (l : List ℕ). take 2 (set l 1 w)) t.path_is
              ∙ ap (λ (l : List ℕ). take 2 (set (set l 0 s) 1 w)) g.empty in
              kept_next (seconds s d) (every s d) r k p
              (subst (λ (q : List ℕ). Adds r' r'' (bare_line d 10 q (less (higher d s) (only w)) (less k.digits (only w)))) two
              (o.adds d n (less (higher d s) (only w)) (less k.digits (only w)) (drop.same (higher d s) (up_is d n))
              (p.dropped.same k.digits k.left_is)));
        }

      pub starting_end : size later ≡ 0 → Started xyz words s r r' path (set path' 0 fill_byte)
      starting_end z = record {
        sized = t.sized;
        path_is = ap (λ (l : List ℕ). set l 0 fill_byte) t.path_is ∙ set-set path 0 s fill_byte
            ∙ ap (set path 0) (sym (path_fill 0 (omega arith))) ∙ set-get_or path 0 0;
        adds = λ d n. found d (kept_end (seconds s d) (every s d) r (t.kept d n) z);
      }
        where
          found : (d : Wire) → Adds r r' (each_of (seconds s d) 0 (every s d)) → Adds r r' (bare_seconds d s)
          found d a = subst (Adds r r') (bare_seconds-start d s []) a
