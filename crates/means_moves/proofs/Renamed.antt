-- Rings of a drawing under new numbers: the same polygon, and a closed path where there was one.
use mathlib.Core.Path.{◌≡◌, refl, sym, ap, ◌∙◌, subst}
use mathlib.Core.Logic.{inl, inr}
use mathlib.Core.List.{List, [], ◌∷◌, map, map-append}
use Prim.Native.Nat.{ℕ, suc, ◌<◌}
use native.Mathlib.Omega.{arith}
use lib.ListN.{length, get_or, length-map}
use Rattle.lists.specs.Around.{wrap, around}
use Rattle.lists.proofs.Places.{map_at}
use Rattle.lists.proofs.Sides.{wrap-below}
use Rattle.paper.specs.Drawing.{Wire, at}
use Rattle.paper.specs.Loops.{Loop, flipped, polygon}
use Rattle.paper_laws.specs.Planes.{InOwnPlane}
use Rattle.means_solid.specs.Solid.{Goes}
use Rattle.means_solid.specs.Named.{SameRing}
use Rattle.means_solid.proofs.Goes.{around-at}
use Rattle.means_loops.specs.Path.{EdgeOf, ClosedPath}
use Rattle.means_loops.specs.Plane.{InPlane}
use Rattle.means_loops.proofs.Rings.{parts, same_parts}
use Rattle.means_loops.proofs.OwnPlane.{own_plane}
use Rattle.means_moves.specs.Alike.{Below, EdgeBelow}
use Rattle.means_moves.specs.Rings.{backward}
use Rattle.means_moves.specs.Renumbered.{BothWays}
use Rattle.means_moves.proofs.Starts.{map_backward}

-- ---- lists under any map

module _ (new : ℕ → ℕ) where
  pub same_map : {f g : List ℕ} → SameRing f g → SameRing (map new f) (map new g)
  same_map {f} {g} s =
      let p = parts s in
      same_parts (record {
        front = map new p.front;
        back = map new p.back;
        before = ap (map new) p.before ∙ map-append new p.front p.back;
        after = ap (map new) p.after ∙ map-append new p.back p.front;
      })

  pub flip_map : (f : List ℕ) → flipped (map new f) ≡ map new (flipped f)
  unfolding flipped backward
  flip_map [] = refl
  flip_map (x ∷ l) = sym (map_backward new (x ∷ l))

  around_map : (f : List ℕ) (i : ℕ) → wrap (length f) i < length f → around (map new f) i 0 ≡ new (around f i 0)
  around_map f i h =
      around-at (map new f) i ∙ ap (λ (n : ℕ). get_or (map new f) (wrap n i) 0) (length-map f new)
      ∙ map_at new f (wrap (length f) i) 0 0 h ∙ ap new (sym (around-at f i))

  pub goes_over : (f : List ℕ) (a b : ℕ) → Goes f a b → Goes (map new f) (new a) (new b)
  goes_over f a b g = record {
    at = g.at;
    here = omega (arith, g.here, length-map f new);
    from = ap new g.from ∙ sym (around_map f g.at (wrap-below (length f) g.at (omega (arith, g.here))));
    to = ap new g.to ∙ sym (around_map f (suc g.at) (wrap-below (length f) (suc g.at) (omega (arith, g.here))));
  }

  pub goes_from : (f : List ℕ) (x y : ℕ) → Goes (map new f) x y → (a : ℕ) × (b : ℕ) × Goes f a b × (x ≡ new a) × (y ≡ new b)
  goes_from f x y g =
      let h : g.at < length f = omega (arith, g.here, length-map f new) in (
        around f g.at 0,
        around f (suc g.at) 0,
        record { at = g.at; here = h; from = refl; to = refl },
        g.from ∙ around_map f g.at (wrap-below (length f) g.at (omega arith)),
        g.to ∙ around_map f (suc g.at) (wrap-below (length f) (suc g.at) (omega arith)),
      )

pub inside_below : (n : ℕ) (f : List ℕ) → ((i : ℕ) → i < length f → get_or f i 0 < n) → Below n f
inside_below n [] h = tt
inside_below n (x ∷ f) h = (h 0 (omega arith), inside_below n f (λ i l. h (suc i) (omega arith)))

pub path_own : (d : Wire) (f : Loop) → ClosedPath d f → InOwnPlane (polygon d f)
unfolding polygon
path_own d f c = own_plane (polygon d f) c.plane (omega (arith, c.three, length-map f (at d)))

-- ---- the other way

module _ {new old : ℕ → ℕ} {d e : Wire} (r : BothWays new old d e) where
  pub edge_low : (a b : ℕ) → EdgeOf d a b → (a < length d.vertices) × (b < length d.vertices)
  edge_low a b (i, h, inl p) = subst (EdgeBelow (length d.vertices)) p (r.ends i h)
  edge_low a b (i, h, inr p) = let q = subst (EdgeBelow (length d.vertices)) p (r.ends i h) in (q.1, q.0)

  pub edge_high : (x y : ℕ) → EdgeOf e x y → (x < length d.vertices) × (y < length d.vertices)
  edge_high x y (i, h, inl p) =
      let q = subst (EdgeBelow (length e.vertices)) p (r.ends_too i h) in (omega (arith, q.0, r.as_many), omega (arith, q.1, r.as_many))
  edge_high x y (i, h, inr p) =
      let q = subst (EdgeBelow (length e.vertices)) p (r.ends_too i h) in (omega (arith, q.1, r.as_many), omega (arith, q.0, r.as_many))

  pub edge-over : (a b : ℕ) → EdgeOf d a b → EdgeOf e (new a) (new b)
  edge-over a b h = let l = edge_low a b h in (r.edges a b l.0 l.1).0 h

  pub edge-under : (x y : ℕ) → EdgeOf e x y → EdgeOf d (old x) (old y)
  edge-under x y h =
      let l = edge_high x y h in
      (r.edges (old x) (old y) (r.old_below x l.0) (r.old_below y l.1)).1
      (subst (λ (a : ℕ). EdgeOf e a (new (old y))) (sym (r.new_old x l.0)) (subst (EdgeOf e x) (sym (r.new_old y l.1)) h))

  pub renumbered_back : BothWays old new e d
  renumbered_back = record {
    as_many = sym r.as_many;
    new_below = λ v h. omega (arith, r.old_below v (omega (arith, r.as_many)), r.as_many);
    old_below = λ v h. omega (arith, r.new_below v (omega (arith, r.as_many)), r.as_many);
    old_new = λ v h. r.new_old v (omega (arith, r.as_many));
    new_old = λ v h. r.old_new v (omega (arith, r.as_many));
    place = λ v h.
        let l : v < length d.vertices = omega (arith, r.as_many) in
        sym (r.place (old v) (r.old_below v l)) ∙ ap (at e) (r.new_old v l);
    edges = λ x y hx hy. (
      edge-under x y,
      λ w.
          let lx : x < length d.vertices = omega (arith, r.as_many) in
          let ly : y < length d.vertices = omega (arith, r.as_many) in
          subst (λ (a : ℕ). EdgeOf e a y) (r.new_old x lx) (subst (EdgeOf e (new (old x))) (r.new_old y ly)
          (edge-over (old x) (old y) w)),
    );
    ends = r.ends_too;
    ends_too = r.ends;
  }

  -- ---- rings

  pub back_again : (f : List ℕ) → Below (length d.vertices) f → map old (map new f) ≡ f
  back_again [] b = refl
  back_again (x ∷ f) b = λ i. r.old_new x b.0 i ∷ back_again f b.1 i

  pub polygon-over : (f : Loop) → Below (length d.vertices) f → polygon e (map new f) ≡ polygon d f
  unfolding polygon
  polygon-over [] b = refl
  polygon-over (x ∷ f) b = λ i. r.place x b.0 i ∷ polygon-over f b.1 i

  pub path_below : (f : Loop) → ClosedPath d f → Below (length d.vertices) f
  path_below f c = inside_below (length d.vertices) f c.inside

  pub path_over : (f : Loop) → ClosedPath d f → ClosedPath e (map new f)
  path_over f c = record {
    three = omega (arith, c.three, length-map f new);
    twelve = omega (arith, c.twelve, length-map f new);
    inside = λ i h.
        let l : i < length f = omega (arith, length-map f new) in
        omega (arith, ap {A = ℕ} (λ k. k) (map_at new f i 0 0 l), r.new_below (get_or f i 0) (c.inside i l), r.as_many);
    different = λ i j hi hj p.
        let li : i < length f = omega (arith, length-map f new) in
        let lj : j < length f = omega (arith, length-map f new) in
        c.different i j li lj
        (sym (r.old_new (get_or f i 0) (c.inside i li)) ∙ ap old (sym (map_at new f i 0 0 li) ∙ p ∙ map_at new f j 0 0 lj)
        ∙ r.old_new (get_or f j 0) (c.inside j lj));
    along = λ x y g.
        let w = goes_from new f x y g in
        subst (λ (a : ℕ). EdgeOf e a y) (sym w.3) (subst (EdgeOf e (new w.0)) (sym w.4)
        (edge-over w.0 w.1 (c.along w.0 w.1 w.2)));
    plane = subst InPlane (sym (polygon-over f (path_below f c))) c.plane;
  }
