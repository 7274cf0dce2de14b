-- What each return and each turn of the search's code is of the search's definition.
use mathlib.Core.Bool.{Bool, true, false, not, cond}
use mathlib.Core.List.{List, [], ◌∷◌, ◌++◌, append-nil, append_assoc}
use mathlib.Core.Path.{◌≡◌, refl, sym, ap, ◌∙◌}
use Prim.Native.Nat.{ℕ, zero, suc, ◌-◌, ◌≤◌, ◌<◌}
use native.Mathlib.Omega.{arith}
use lib.ListN.{length, take, set, get_or}
use lib.Seq.{get_or-take, take-suc-set, length-take-le}
use Rattle.sets.specs.Word.{dig, both, less, only, empty}
use Rattle.paper.specs.Points.{is_origin}
use Rattle.paper.specs.Drawing.{Wire, at}
use Rattle.paper.specs.Loops.{final}
use Rattle.fast_search.specs.Rows.{when, each_of, some_of}
use Rattle.fast_search.specs.Search.{InItsPlane, own, near, higher, on_plane, plane_mask, across_line, in_plane, line_step}
use Rattle.fast_search.specs.Bare.{bare_line, bare_seconds, bare_starts}
use Rattle.fast_search.proofs.Cut.{Whole}

-- ---- the path, as the code holds it: the first len of an array
module _ (path : List ℕ) (len : ℕ) where
  pub path_last : 0 < len → len ≤ length path → final (take len path) ≡ get_or path (len - 1) 0
  path_last p h =
      let e : length (take len path) - 1 ≡ len - 1 = ap (λ (k : ℕ). k - 1) (length-take-le len path h) in
      ap (λ (k : ℕ). get_or (take len path) k 0) e ∙ get_or-take len path (len - 1) 0 (omega arith)

  pub path_at : (i : ℕ) → i < len → get_or (take len path) i 0 ≡ get_or path i 0
  path_at i h = get_or-take len path i 0 h

  pub path_more : (w : ℕ) → len < length path → take (suc len) (set path len w) ≡ take len path ++ w ∷ []
  path_more w h = take-suc-set path len w h

-- the path itself: its last vertex is one to end at, or is not
pub own_yes : (closing : List Bool) (p : List ℕ) (plane : List Bool) → dig closing (final p) ≡ true
    → own closing p plane ≡ record { loop = p; plane = plane } ∷ []
unfolding own when
own_yes closing p plane e = ap (λ (b : Bool). when b (record { loop = p; plane = plane } ∷ [])) e

pub own_no : (closing : List Bool) (p : List ℕ) (plane : List Bool) → dig closing (final p) ≡ false → own closing p plane ≡ []
unfolding own when
own_no closing p plane e = ap (λ (b : Bool). when b (record { loop = p; plane = plane } ∷ [])) e

module _ (d : Wire) where
  -- ---- the plane is fixed: no vertex more; nothing free can close; the loop starts
  module _ (p : List ℕ) (free closing plane : List Bool) where
    pub plane_last : in_plane d 0 p free closing plane ≡ own closing p plane
    unfolding in_plane
    plane_last = refl

    pub plane_stop : (k : ℕ) → empty (both closing free) ≡ true → in_plane d k p free closing plane ≡ own closing p plane
    unfolding in_plane when
    plane_stop zero e = refl
    plane_stop (suc k) e =
        ap
        (λ (b : Bool). own closing p plane ++ when (not b)
        (each_of (λ w rest. in_plane d k (p ++ w ∷ []) (less free (only w)) closing plane) 0 (both (near d (final p)) free))) e
        ∙ append-nil (own closing p plane)

    pub plane_start : (k : ℕ) (now : List InItsPlane) → empty (both closing free) ≡ false
        → Whole (λ w rest. in_plane d k (p ++ w ∷ []) (less free (only w)) closing plane) (now ++ own closing p plane)
        (both (near d (final p)) free) (now ++ in_plane d (suc k) p free closing plane)
    unfolding in_plane when
    plane_start k now e =
        append_assoc now (own closing p plane)
        (each_of (λ w rest. in_plane d k (p ++ w ∷ []) (less free (only w)) closing plane) 0 (both (near d (final p)) free))
        ∙ ap
        (λ (b : Bool).
        now ++ (own closing p plane ++ when (not b)
        (each_of (λ w rest. in_plane d k (p ++ w ∷ []) (less free (only w)) closing plane) 0 (both (near d (final p)) free)))) (sym e)

  -- ---- on the line
  module _ (p : List ℕ) (free closing : List Bool) where
    -- a path in one line is never recorded
    pub bare_last : bare_line d 0 p free closing ≡ []
    unfolding bare_line
    bare_last = refl

    abbrev pub bare_turns : ℕ → ℕ → List Bool → List InItsPlane
    bare_turns k w rest = line_step d (λ q f. bare_line d k q f closing) k p free closing w

    pub bare_stop : (k : ℕ) → empty (both closing free) ≡ true → bare_line d k p free closing ≡ []
    unfolding bare_line when
    bare_stop zero e = refl
    bare_stop (suc k) e = ap (λ (b : Bool). when (not b) (each_of (bare_turns k) 0 (both (near d (final p)) free))) e

    pub bare_start : (k : ℕ) (now : List InItsPlane) → empty (both closing free) ≡ false
        → Whole (bare_turns k) now (both (near d (final p)) free) (now ++ bare_line d (suc k) p free closing)
    unfolding bare_line when
    bare_start k now e = ap (λ (b : Bool). now ++ when (not b) (each_of (bare_turns k) 0 (both (near d (final p)) free))) (sym e)

    -- ---- one turn of either: w is in line; or it fixes a plane in which none can close; or one that the search goes into
    module _ (line : List ℕ → List Bool → List InItsPlane) (k w : ℕ) where
      pub turn-line : is_origin (across_line d p w) ≡ true → line_step d line k p free closing w ≡ line (p ++ w ∷ []) (less free (only w))
      unfolding line_step
      turn-line e =
          ap (λ (b : Bool). cond b (line (p ++ w ∷ []) (less free (only w)))
          (when (some_of (on_plane d (at d (get_or p 0 0)) (across_line d p w)) 0 (both closing free))
          (in_plane d k (p ++ w ∷ []) (both (less free (only w)) (plane_mask d (at d (get_or p 0 0)) (across_line d p w))) closing
          (plane_mask d (at d (get_or p 0 0)) (across_line d p w))))) e

      turn_off : (b : Bool) → is_origin (across_line d p w) ≡ false
          → some_of (on_plane d (at d (get_or p 0 0)) (across_line d p w)) 0 (both closing free) ≡ b
          → line_step d line k p free closing w
          ≡ when b
          (in_plane d k (p ++ w ∷ []) (both (less free (only w)) (plane_mask d (at d (get_or p 0 0)) (across_line d p w))) closing
          (plane_mask d (at d (get_or p 0 0)) (across_line d p w)))
      unfolding line_step
      turn_off b e s =
          λ i. cond (e i) (line (p ++ w ∷ []) (less free (only w)))
          (when (s i)
          (in_plane d k (p ++ w ∷ []) (both (less free (only w)) (plane_mask d (at d (get_or p 0 0)) (across_line d p w))) closing
          (plane_mask d (at d (get_or p 0 0)) (across_line d p w))))

      pub turn-none : is_origin (across_line d p w) ≡ false → some_of (on_plane d (at d (get_or p 0 0)) (across_line d p w)) 0 (both closing free) ≡ false
          → line_step d line k p free closing w ≡ []
      unfolding when
      turn-none e s = turn_off false e s

      pub turn_plane : is_origin (across_line d p w) ≡ false → some_of (on_plane d (at d (get_or p 0 0)) (across_line d p w)) 0 (both closing free) ≡ true
          → line_step d line k p free closing w
          ≡ in_plane d k (p ++ w ∷ []) (both (less free (only w)) (plane_mask d (at d (get_or p 0 0)) (across_line d p w))) closing
          (plane_mask d (at d (get_or p 0 0)) (across_line d p w))
      unfolding when
      turn_plane e s = turn_off true e s

  -- ---- the second vertices of a start, and the starts
  pub bare_seconds-start : (s : ℕ) (now : List InItsPlane)
      → Whole (λ w rest. bare_line d 10 (s ∷ w ∷ []) (less (higher d s) (only w)) rest) now (both (near d s) (higher d s))
      (now ++ bare_seconds d s)
  unfolding bare_seconds
  bare_seconds-start s now = refl

  pub bare_starts-next : (i : ℕ) (now all : List InItsPlane) → i < length d.vertices
      → now ++ bare_starts d i (length d.vertices - i) ≡ all
      → (now ++ bare_seconds d i) ++ bare_starts d (suc i) (length d.vertices - suc i) ≡ all
  unfolding bare_starts
  bare_starts-next i now all h e =
      let z : suc (length d.vertices - suc i) ≡ length d.vertices - i = omega arith in
      append_assoc now (bare_seconds d i) (bare_starts d (suc i) (length d.vertices - suc i)) ∙ ap (λ (k : ℕ). now ++ bare_starts d i k) z
      ∙ e

  pub bare_starts-end : (i : ℕ) (now all : List InItsPlane) → length d.vertices ≤ i
      → now ++ bare_starts d i (length d.vertices - i) ≡ all → now ≡ all
  unfolding bare_starts
  bare_starts-end i now all h e =
      let z : 0 ≡ length d.vertices - i = omega arith in
      sym (append-nil now) ∙ ap (λ (k : ℕ). now ++ bare_starts d i k) z ∙ e
