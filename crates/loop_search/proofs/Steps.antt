-- One step from a path in one line: the path stays in line, nothing can close it, or a plane is fixed.
use mathlib.Core.Bool.{Bool}
use mathlib.Core.List.{List, [], ◌∷◌, ◌++◌, map}
use mathlib.Core.Path.{◌≡◌, refl, sym, ap, ◌∙◌, subst}
use Prim.Native.Nat.{ℕ, suc, ◌+◌, ◌-◌, ◌≤◌}
use native.Mathlib.Omega.{arith}
use lib.IntN.{ℤ}
use lib.ListN.{length, get_or, take, length-map}
use lib.Seq.{take-suc}
use Rattle.lists.specs.Lists.{upto}
use Rattle.lists.proofs.Places.{upto_length}
use Rattle.sets.specs.Word.{both, less, only}
use Rattle.sets.specs.Kinds.{Joint, Dropped}
use Rattle.sets.specs.Sets.{Is, one_word}
use Rattle.sets.specs.declared.Set.{Set}
use Rattle.paper.specs.Numbers.{most_corners, most_vertices}
use Rattle.paper.specs.Points.{is_origin}
use Rattle.paper.specs.Drawing.{Wire, at}
use Rattle.fast_search.specs.Rows.{some_of}
use Rattle.fast_search.specs.Search.{InItsPlane, across_line, on_plane, plane_mask, in_plane, line_step}
use Rattle.fast_search.specs.Bare.{bare_line}
use Rattle.fast_search.proofs.Turns.{turn-line, turn-none, turn_plane}
use Rattle.loop_search.specs.declared.planes.Turn.{Turn}
use Rattle.loop_search.specs.Rooms.{Rooms, Adds}
use Rattle.loop_search.specs.Paths.{OnPath, PlaneSearched}
use Rattle.loop_search.specs.Lines.{turn_in, in_fixed, TurnIs, TurnAt, StepAt, DrawnWith, OnLineAt, OnLine, Stepped}
use Rattle.loop_search.proofs.Filling.{adds_none}
use Rattle.loop_search.proofs.Deeper.{below_dropped, below_both}
use Rattle.loop_search.proofs.Drawn.{turn_is, in_fixed_lem, fixed_mask}
use Rattle.loop_search.proofs.Way.{path_up}

module _ {xyz : List ℤ} {v : ℕ} (words : List ℕ) {path : List ℕ} {len : ℕ} {free closing : Set} {r : Rooms}
    (g : StepAt r xyz v path len free closing) (w : ℕ) (at-w : w ≡ get_or path len 0) where
  abbrev rest : ℕ
  rest = most_corners - (len + 1)

  abbrev p : List ℕ
  p = take len path

  longer : p ++ w ∷ [] ≡ take (len + 1) path
  longer =
      let e : suc len ≡ len + 1 = omega arith in
      ap (λ (u : ℕ). p ++ u ∷ []) at-w ∙ sym (take-suc path len 0 (omega (arith, g.path_at.long, g.path_at.most)))
      ∙ ap (λ (k : ℕ). take k path) e

  -- what `turned` asks for
  pub turn_at_lem : {ends : Set} → Joint one_word closing free ends both → TurnAt xyz v path w ends
  turn_at_lem j = record {
    points = g.points;
    few = g.few;
    first_in = g.path_at.low 0 (omega (arith, g.two));
    second_in = g.path_at.low 1 (omega (arith, g.two));
    w_in = rw at-w (g.path_at.low len (omega arith));
    ends_below = below_both g.closing_below.digits g.closing_below.is g.free_below j;
  }

  -- what `on_line` asks for
  pub line_at : {less-w : Set} → Dropped one_word free w less-w → OnLineAt r xyz v path (len + 1) less-w closing
  line_at d = record {
    sized = g.sized;
    points = g.points;
    few = g.few;
    path_at = g.path_at;
    two = omega (arith, g.two);
    free_below = below_dropped g.free_below d;
    closing_below = g.closing_below;
  }

  -- what `in_plane` asks for
  pub plane_at : {ends : Set} → Joint one_word closing free ends both → {less-w : Set} → Dropped one_word free w less-w
      → {plane free' : Set} → ((a : List Bool) → Is ends a → TurnIs xyz v path w a (Turn.Plane plane))
      → Joint one_word less-w plane free' both → OnPath r path (len + 1) free'
  plane_at k d t j =
      let mask = map (in_fixed xyz path w) (upto v) in
      let b = (turn_at_lem k).ends_below in
      let rest_below = below_dropped g.free_below d in
      let few : length mask ≤ most_vertices = omega (arith, length-map (upto v) (in_fixed xyz path w), upto_length v, g.few) in
      record {
        sized = g.sized;
        path_at = path_up g.path_at g.few;
        free_below = below_both rest_below.digits rest_below.is (record { digits = mask; is = (t b.digits b.is).2; few = few }) j;
      }

  -- what the turn says of the drawing
  module _ (d : Wire) (n : DrawnWith d xyz words) where
    abbrev line : List Bool → List ℕ → List Bool → List InItsPlane
    line cl q f = bare_line d rest q f cl

    -- the step is by way of w
    by_way : (r' : Rooms) (fr cl : List Bool) → Adds r r' (line_step d (line cl) rest p fr cl w)
        → Adds r r' (line_step d (line cl) rest p fr cl (get_or path len 0))
    by_way r' fr cl f = subst (λ (u : ℕ). Adds r r' (line_step d (line cl) rest p fr cl u)) at-w f

    origin_is : {b : Bool} → is_origin (turn_in xyz path w) ≡ b → is_origin (across_line d p w) ≡ b
    origin_is e = ap is_origin (sym (turn_is g.points d n.vertices_are path len g.two w)) ∙ e

    some_is : {b : Bool} (a : List Bool) → some_of (in_fixed xyz path w) 0 a ≡ b
        → some_of (on_plane d (at d (get_or p 0 0)) (across_line d p w)) 0 a ≡ b
    some_is a e = ap (λ (t : ℕ → Bool). some_of t 0 a) (sym (in_fixed_lem g.points d n.vertices_are path len g.two w)) ∙ e

    mask_is : {plane : Set} → Is plane (map (in_fixed xyz path w) (upto v)) → Is plane (plane_mask d (at d (get_or p 0 0)) (across_line d p w))
    mask_is {plane} i = subst (Is plane) (fixed_mask g.points d n.vertices_are path len g.two w) i

  module _ {ends : Set} (ends_are : Joint one_word closing free ends both) where
    pub stepped_dead : ((a : List Bool) → Is ends a → TurnIs xyz v path w a Turn.Dead) → Stepped xyz words path len free closing r r path
    stepped_dead t = record {
      sized = g.sized;
      path_is = refl;
      adds = λ d n fr cl i j.
          let u = t (both cl fr) (ends_are cl fr j i) in
          by_way d n r fr cl (subst (Adds r r)
          (sym (turn-none d p fr cl (line d n cl) rest w (origin_is d n u.0) (some_is d n (both cl fr) u.1))) adds_none);
    }

    module _ {less-w : Set} (dropped : Dropped one_word free w less-w) {r' : Rooms} {path' : List ℕ} where
      pub stepped_line : ((a : List Bool) → Is ends a → TurnIs xyz v path w a Turn.Line)
          → OnLine xyz words path (len + 1) less-w closing r r' path' → Stepped xyz words path len free closing r r' path'
      stepped_line t s = record {
        sized = s.sized;
        path_is = s.path_is;
        adds = λ d n fr cl i j.
            by_way d n r' fr cl (subst (Adds r r')
            (ap (λ (q : List ℕ). bare_line d rest q (less fr (only w)) cl) (sym longer)
            ∙ sym (turn-line d p fr cl (line d n cl) rest w (origin_is d n (t (both cl fr) (ends_are cl fr j i)))))
            (s.adds d n (less fr (only w)) cl (dropped.same fr i) j));
      }

      pub stepped_plane : {plane free' : Set} → ((a : List Bool) → Is ends a → TurnIs xyz v path w a (Turn.Plane plane))
          → Joint one_word less-w plane free' both → PlaneSearched words path (len + 1) free' closing plane r r' path'
          → Stepped xyz words path len free closing r r' path'
      stepped_plane {plane} {free'} t k s = record {
        sized = s.sized;
        path_is = s.path_is;
        adds = λ d n fr cl i j.
            let u = t (both cl fr) (ends_are cl fr j i) in
            let m = plane_mask d (at d (get_or p 0 0)) (across_line d p w) in
            let a : Is plane m = mask_is d n u.2 in
            by_way d n r' fr cl (subst (Adds r r')
            (ap (λ (q : List ℕ). in_plane d rest q (both (less fr (only w)) m) cl m) (sym longer)
            ∙ sym (turn_plane d p fr cl (line d n cl) rest w (origin_is d n u.0) (some_is d n (both cl fr) u.1)))
            (s.adds d n.near_are (both (less fr (only w)) m) cl m (k (less fr (only w)) m (dropped.same fr i) a) j a));
      }
