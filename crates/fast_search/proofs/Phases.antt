-- A path in one line has no plane yet, and every vertex is level with it; the first vertex off the line fixes the plane, and it stays.
use mathlib.Core.Bool.{Bool, true, false}
use mathlib.Core.List.{List, [], ◌∷◌, ◌++◌}
use mathlib.Core.Path.{◌≡◌, refl, sym, ap, ◌∙◌}
use Prim.Native.Nat.{ℕ, ◌<◌}
use lib.IntN.{pos}
use native.Mathlib.Omega.{arith}
use lib.ListN.{length, get_or, length-replicate, get_or-replicate}
use lib.Seq.{ext_get_or}
use Rattle.paper_laws.proofs.Points.{origin_yes, dot-origin, zero_is}
use Rattle.lists.proofs.Places.{made_length, made_at}
use Rattle.exact.proofs.Ring.{con, ring}
use Rattle.sets.specs.Word.{dig}
use Rattle.paper.specs.Points.{pt, origin, minus, dot, cross, is_zero, is_origin}
use Rattle.paper.specs.Drawing.{Wire, at}
use Rattle.paper.specs.Loops.{tilt, tilted, across, level}
use Rattle.paper.specs.declared.Point.{Point}
use Rattle.paper_laws.proofs.Tilted.{tilt-found, tilt-none, across_more}
use Rattle.means_clash.proofs.Combine.{vars, minus_e, cross_e}
use Rattle.means_clash.proofs.Level.{own_zero}
use Rattle.fast_search.specs.Search.{on_plane, plane_mask, plane_of, across_line, every}

-- ---- no plane yet: one vertex, or two
none-start : (e s : Point) → cross e (minus s s) ≡ origin
unfolding cross minus
none-start e s =
    let r = e.x ∷ e.y ∷ e.z ∷ s.x ∷ s.y ∷ s.z ∷ [] in
    let c = cross_e (vars 0 1 2) (minus_e (vars 3 4 5) (vars 3 4 5)) in
    let x = ring r c.ex (con (pos 0)) tt in
    let y = ring r c.ey (con (pos 0)) tt in
    let z = ring r c.ez (con (pos 0)) tt in
    λ i. pt (x i) (y i) (z i)

pub none_self : (e : Point) → cross e e ≡ origin
unfolding cross
none_self e =
    let r = e.x ∷ e.y ∷ e.z ∷ [] in
    let c = cross_e (vars 0 1 2) (vars 0 1 2) in
    let x = ring r c.ex (con (pos 0)) tt in
    let y = ring r c.ey (con (pos 0)) tt in
    let z = ring r c.ez (con (pos 0)) tt in
    λ i. pt (x i) (y i) (z i)

origin_is : is_origin origin ≡ true
unfolding is_origin is_zero
origin_is = refl

tilt-start : (s b : Point) → tilt s b origin s ≡ origin
tilt-start s b = tilt-none s b origin s origin_is ∙ none-start (minus b s) s

module _ (d : Wire) where
  pub one_line : (x : ℕ) → is_origin (across d (x ∷ [])) ≡ true
  unfolding across tilted
  one_line x = ap is_origin (tilt-start (at d x) (at d 0)) ∙ origin_is

  pub two_line : (x y : ℕ) → is_origin (across d (x ∷ (y ∷ []))) ≡ true
  unfolding across tilted
  two_line x y =
      ap is_origin (ap (λ (n : Point). tilt (at d x) (at d y) n (at d y)) (tilt-start (at d x) (at d y))
      ∙ tilt-none (at d x) (at d y) origin (at d y) origin_is ∙ none_self (minus (at d y) (at d x))) ∙ origin_is

  -- ---- one vertex more
  -- the plane stays
  pub across-found : (x y : ℕ) (r : List ℕ) (v : ℕ) → is_origin (across d (x ∷ (y ∷ r))) ≡ false
      → across d (x ∷ (y ∷ (r ++ v ∷ []))) ≡ across d (x ∷ (y ∷ r))
  across-found x y r v e = across_more d x y r v ∙ tilt-found (at d x) (at d y) (across d (x ∷ (y ∷ r))) (at d v) e

  -- while there is none, the next vertex fixes it, unless it is in line too
  pub across-turn : (x y : ℕ) (r : List ℕ) (v : ℕ) → is_origin (across d (x ∷ (y ∷ r))) ≡ true
      → across d (x ∷ (y ∷ (r ++ v ∷ []))) ≡ across_line d (x ∷ (y ∷ r)) v
  unfolding across_line
  across-turn x y r v e = across_more d x y r v ∙ tilt-none (at d x) (at d y) (across d (x ∷ (y ∷ r))) (at d v) e

  -- ---- who is level
  pub level-line : (p : List ℕ) → is_origin (across d p) ≡ true → (w : ℕ) → level d p w ≡ true
  unfolding level
  level-line p e w =
      let q = minus (at d w) (at d (get_or p 0 0)) in
      zero_is (ap (λ (n : Point). dot n q) (origin_yes (across d p) e) ∙ dot-origin q)

  pub level_is : (p : List ℕ) (w : ℕ) → level d p w ≡ on_plane d (at d (get_or p 0 0)) (across d p) w
  unfolding level on_plane
  level_is p w = refl

  pub level-found : (x y : ℕ) (r : List ℕ) (v : ℕ) → is_origin (across d (x ∷ (y ∷ r))) ≡ false → (w : ℕ)
      → level d (x ∷ (y ∷ (r ++ v ∷ []))) w ≡ level d (x ∷ (y ∷ r)) w
  level-found x y r v e w =
      level_is (x ∷ (y ∷ (r ++ v ∷ []))) w ∙ ap (λ (n : Point). on_plane d (at d x) n w) (across-found x y r v e)
      ∙ sym (level_is (x ∷ (y ∷ r)) w)

  pub level-turn : (x y : ℕ) (r : List ℕ) (v : ℕ) → is_origin (across d (x ∷ (y ∷ r))) ≡ true → (w : ℕ)
      → level d (x ∷ (y ∷ (r ++ v ∷ []))) w ≡ on_plane d (at d x) (across_line d (x ∷ (y ∷ r)) v) w
  level-turn x y r v e w = level_is (x ∷ (y ∷ (r ++ v ∷ []))) w ∙ ap (λ (n : Point). on_plane d (at d x) n w) (across-turn x y r v e)

  -- a vertex added never makes another level
  pub level_back : (x y : ℕ) (r : List ℕ) (v w : ℕ) → level d (x ∷ (y ∷ (r ++ v ∷ []))) w ≡ true → level d (x ∷ (y ∷ r)) w ≡ true
  level_back x y r v w h = go (is_origin (across d (x ∷ (y ∷ r)))) refl
    where
      go : (b : Bool) → is_origin (across d (x ∷ (y ∷ r))) ≡ b → level d (x ∷ (y ∷ r)) w ≡ true
      go true e = level-line (x ∷ (y ∷ r)) e w
      go false e = sym (level-found x y r v e w) ∙ h

  -- the vertex that fixes the plane is in it
  pub turn_inside : (x y : ℕ) (r : List ℕ) (v : ℕ) → on_plane d (at d x) (across_line d (x ∷ (y ∷ r)) v) v ≡ true
  unfolding on_plane across_line
  turn_inside x y r v =
      let e = minus (at d y) (at d x) in
      let q = minus (at d v) (at d x) in
      zero_is (own_zero e q)

  -- ---- the digits of those in the plane
  pub plane_at : (s m : Point) (w : ℕ) → w < length d.vertices → dig (plane_mask d s m) w ≡ on_plane d s m w
  unfolding plane_mask
  plane_at s m w h = made_at (on_plane d s m) (length d.vertices) w false h

  pub plane_of-at : (p : List ℕ) (w : ℕ) → w < length d.vertices → dig (plane_of d p) w ≡ level d p w
  unfolding plane_of
  plane_of-at p w h = plane_at (at d (get_or p 0 0)) (across d p) w h ∙ sym (level_is p w)

  pub plane_length : (s m : Point) → length (plane_mask d s m) ≡ length d.vertices
  unfolding plane_mask
  plane_length s m = made_length (on_plane d s m) (length d.vertices)

  pub plane_of-found : (x y : ℕ) (r : List ℕ) (v : ℕ) → is_origin (across d (x ∷ (y ∷ r))) ≡ false
      → plane_of d (x ∷ (y ∷ (r ++ v ∷ []))) ≡ plane_of d (x ∷ (y ∷ r))
  unfolding plane_of
  plane_of-found x y r v e = ap (plane_mask d (at d x)) (across-found x y r v e)

  pub plane_of-turn : (x y : ℕ) (r : List ℕ) (v : ℕ) → is_origin (across d (x ∷ (y ∷ r))) ≡ true
      → plane_of d (x ∷ (y ∷ (r ++ v ∷ []))) ≡ plane_mask d (at d x) (across_line d (x ∷ (y ∷ r)) v)
  unfolding plane_of
  plane_of-turn x y r v e = ap (plane_mask d (at d x)) (across-turn x y r v e)

  -- on a line all are
  pub plane_of-line : (p : List ℕ) → is_origin (across d p) ≡ true → plane_of d p ≡ every d
  unfolding plane_of
  plane_of-line p e =
      ext_get_or false (plane_of d p) (every d) (plane_length (at d (get_or p 0 0)) (across d p)
      ∙ sym (length-replicate (length d.vertices) true))
      (λ i h.
      let k : i < length d.vertices = omega (arith, plane_length (at d (get_or p 0 0)) (across d p)) in
      plane_of-at p i k ∙ level-line p e i ∙ sym (get_or-replicate (length d.vertices) i true false k))
