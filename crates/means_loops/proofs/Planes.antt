-- The plane test of the loop search in plain words: it lets the vertices of a path pass just if they all lie in one plane.
use mathlib.Core.Path.{◌≡◌, refl, sym, ap, ap₂, subst, ◌∙◌}
use mathlib.Core.Bool.{Bool, true, false, not, ◌&&◌, true≢false}
use mathlib.Core.Option.{none}
use mathlib.Core.List.{List, [], ◌∷◌, map}
use Prim.Native.Nat.{ℕ, zero, suc, ◌<◌}
use native.Mathlib.Omega.{arith}
use lib.Dec.{eqb}
use lib.IntN.{pos, neg_ℤ}
use lib.ListN.{length, get_or, take, length-map}
use borrow.Author.Tests.{ne_eqb}
use Rattle.lists.specs.Lists.{any, upto}
use Rattle.lists.proofs.Truth.{and_both}
use Rattle.lists.proofs.Passing.{some_is}
use Rattle.lists.proofs.Places.{map_at}
use Rattle.lists.proofs.Lowest.{lowest-none}
use Rattle.paper.specs.Points.{pt, origin, minus, times, dot, cross, is_zero, is_origin, same_point}
use Rattle.paper.specs.Drawing.{Wire, at, same_place}
use Rattle.paper.specs.Loops.{Loop, tilt, tilted, across, level, polygon}
use Rattle.paper.specs.declared.Point.{Point}
use Rattle.paper_laws.proofs.Vectors.{num, vec, k, x, ◌+s◌, ◌*s◌, negs, ◌·◌, o, v, ◌-v◌, ◌*v◌, ◌×v◌, vring}
use Rattle.paper_laws.proofs.Points.{zero_yes, zero_is, origin_yes, origin_is, origin_no, differ, dot_comm, zero_no, across_too, dot-less, dot_even}
use Rattle.paper_laws.proofs.Tilted.{tilt-found}
use Rattle.means_loops.specs.Loop.{IsLoop}
use Rattle.means_loops.specs.Plane.{InPlane}

-- directions n and m in one line: what is at right angles to the one is so to the other
record Upright (p : Point) : Type 0 where
  to : Point
  real : to ≡ origin → ⊥
  right : dot to p ≡ pos 0

one_not : pos 1 ≡ pos 0 → ⊥
one_not e = let z : ◌≡◌ {A = ℕ} 1 0 = cc in omega arith

-- every direction has one at right angles to it
upright : (p : Point) → Upright p
unfolding dot
upright p = go (is_zero p.x) refl
  where
    go : (t : Bool) → is_zero p.x ≡ t → Upright p
    go true e = record {
      to = pt (pos 1) (pos 0) (pos 0);
      real = λ h. one_not (ap (λ (q : Point). q.x) h);
      right =
          vring (num p.x ∷ num p.y ∷ num p.z ∷ []) (k (pos 1) *s x 0 +s k (pos 0) *s x 1 +s k (pos 0) *s x 2) (x 0) tt
          ∙ zero_yes p.x e;
    }
    go false e = record {
      to = pt (neg_ℤ p.y) p.x (pos 0);
      real = λ h. zero_no e (ap (λ (q : Point). q.y) h);
      right = vring (num p.x ∷ num p.y ∷ num p.z ∷ []) (negs (x 1) *s x 0 +s x 0 *s x 1 +s k (pos 0) *s x 2) (k (pos 0)) tt;
    }

-- ---- the test, step by step, on the rest of a path from s by b

module _ (s b : Point) where
  abbrev StepsLevel : Point → List Point → Type 0
  StepsLevel n [] = Unit {0}
  StepsLevel n (w ∷ ws) = (dot n (minus w s) ≡ pos 0) × StepsLevel (tilt s b n w) ws

  abbrev AllLevel : Point → List Point → Type 0
  AllLevel n [] = Unit {0}
  AllLevel n (w ∷ ws) = (dot n (minus w s) ≡ pos 0) × AllLevel n ws

  begins : (w : Point) → tilt s b origin w ≡ cross (minus b s) (minus w s)
  unfolding tilt is_origin is_zero
  begins w = refl

  fixed : (n : Point) → is_origin n ≡ false → (ws : List Point) → StepsLevel n ws → AllLevel n ws
  fixed n i [] l = tt
  fixed n i (w ∷ ws) l = (l.0, fixed n i ws (subst (λ (m : Point). StepsLevel m ws) (tilt-found s b n w i) l.1))

  fixed_back : (n : Point) → is_origin n ≡ false → (ws : List Point) → AllLevel n ws → StepsLevel n ws
  fixed_back n i [] l = tt
  fixed_back n i (w ∷ ws) l = (l.0, subst (λ (m : Point). StepsLevel m ws) (sym (tilt-found s b n w i)) (fixed_back n i ws l.1))

  record Across (ws : List Point) : Type 0 where
    n : Point
    real : n ≡ origin → ⊥
    right : dot n (minus b s) ≡ pos 0
    flat : AllLevel n ws

  found : (minus b s ≡ origin → ⊥) → (ws : List Point) → StepsLevel origin ws → Across ws
  found ne [] l = let u = upright (minus b s) in record { n = u.to; real = u.real; right = u.right; flat = tt }
  found ne (w ∷ ws) l =
      go (is_origin (cross (minus b s) (minus w s))) refl (subst (λ (m : Point). StepsLevel m ws) (begins w) l.1) (found ne ws)
    where
      go : (t : Bool) → is_origin (cross (minus b s) (minus w s)) ≡ t → StepsLevel (cross (minus b s) (minus w s)) ws
          → (StepsLevel origin ws → Across ws) → Across (w ∷ ws)
      go true e h f =
          let z = origin_yes (cross (minus b s) (minus w s)) e in
          let r = f (subst (λ (m : Point). StepsLevel m ws) z h) in
          record {
            n = r.n;
            real = r.real;
            right = r.right;
            flat = (
              dot_comm r.n (minus w s) ∙ across_too (minus b s) (minus w s) r.n ne z (dot_comm (minus b s) r.n ∙ r.right),
              r.flat,
            );
          }
      go false e h f = record {
        n = cross (minus b s) (minus w s);
        real = origin_no e;
        right = vring (vec (minus b s) ∷ vec (minus w s) ∷ []) ((v 0 ×v v 1) · v 0) (k (pos 0)) tt;
        flat = (
          vring (vec (minus b s) ∷ vec (minus w s) ∷ []) ((v 0 ×v v 1) · v 1) (k (pos 0)) tt,
          fixed (cross (minus b s) (minus w s)) e ws
              h,
        );
      }

  flat_by : (n m : Point) → (n ≡ origin → ⊥) → cross n m ≡ origin → (ws : List Point) → AllLevel n ws → AllLevel m ws
  flat_by n m h e [] f = tt
  flat_by n m h e (w ∷ ws) f = (across_too n m (minus w s) h e f.0, flat_by n m h e ws f.1)

  passes : (n : Point) → (n ≡ origin → ⊥) → dot n (minus b s) ≡ pos 0 → (ws : List Point) → AllLevel n ws → StepsLevel origin ws
  passes n h z [] f = tt
  passes n h z (w ∷ ws) f = (
    vring (vec (minus w s) ∷ []) (o · v 0) (k (pos 0)) tt,
    subst (λ (m : Point). StepsLevel m ws) (sym (begins w)) (go (is_origin (cross (minus b s) (minus w s))) refl (passes n h z ws f.1)),
  )
    where
      go : (t : Bool) → is_origin (cross (minus b s) (minus w s)) ≡ t → StepsLevel origin ws → StepsLevel (cross (minus b s) (minus w s)) ws
      go true e l = subst (λ (m : Point). StepsLevel m ws) (sym (origin_yes (cross (minus b s) (minus w s)) e)) l
      go false e l =
          fixed_back (cross (minus b s) (minus w s)) e ws
          (flat_by n (cross (minus b s) (minus w s)) h
          (vring (vec n ∷ vec (minus b s) ∷ vec (minus w s) ∷ []) (v 0 ×v (v 1 ×v v 2)) ((v 0 · v 2) *v v 1 -v (v 0 · v 1) *v v 2) tt
          ∙ (λ i. minus (times (f.0 i) (minus b s)) (times (z i) (minus w s)))
          ∙ vring (vec (minus b s) ∷ vec (minus w s) ∷ []) (k (pos 0) *v v 0 -v k (pos 0) *v v 1) o tt)
          ws f.1)

  -- by the places of the rest
  level-from : (n : Point) (ws : List Point)
      → ((j : ℕ) → j < length ws → dot (tilted s b n (take j ws)) (minus (get_or ws j origin) s) ≡ pos 0) → StepsLevel n ws
  unfolding tilted
  level-from n [] f = tt
  level-from n (w ∷ ws) f = (f 0 (omega arith), level-from (tilt s b n w) ws (λ j h. f (suc j) (omega arith)))

  level-at : (n : Point) (ws : List Point) → StepsLevel n ws → (j : ℕ) → j < length ws
      → dot (tilted s b n (take j ws)) (minus (get_or ws j origin) s) ≡ pos 0
  unfolding tilted
  level-at n [] l j h = absurd (omega arith)
  level-at n (w ∷ ws) l zero h = l.0
  level-at n (w ∷ ws) l (suc j) h = level-at (tilt s b n w) ws l.1 j (omega arith)

  flat-at : (n : Point) (ws : List Point) → AllLevel n ws → (j : ℕ) → j < length ws → dot n (minus (get_or ws j origin) s) ≡ pos 0
  flat-at n [] f j h = absurd (omega arith)
  flat-at n (w ∷ ws) f zero h = f.0
  flat-at n (w ∷ ws) f (suc j) h = flat-at n ws f.1 j (omega arith)

  flat-from : (n : Point) (ws : List Point) → ((j : ℕ) → j < length ws → dot n (minus (get_or ws j origin) s) ≡ pos 0) → AllLevel n ws
  flat-from n [] f = tt
  flat-from n (w ∷ ws) f = (f 0 (omega arith), flat-from n ws (λ j h. f (suc j) (omega arith)))

  -- the first two vertices tilt nothing
  start-tilt : (ws : List Point) → tilted s b origin (s ∷ b ∷ ws) ≡ tilted s b origin ws
  unfolding tilted
  start-tilt ws =
      ap (λ (n : Point). tilted s b n ws)
      (ap (λ (n : Point). tilt s b n b) (begins s ∙ vring (vec s ∷ vec b ∷ []) ((v 1 -v v 0) ×v (v 0 -v v 0)) o tt)
      ∙ begins b ∙ vring (vec s ∷ vec b ∷ []) ((v 1 -v v 0) ×v (v 1 -v v 0)) o tt)

-- ---- a path of a drawing

module _ (d : Wire) (a b : ℕ) (t : List ℕ) (ne : at d a ≡ at d b → ⊥) where
  across-at : (j : ℕ) → j < length t
      → (level d (take (suc (suc j)) (a ∷ b ∷ t)) (get_or t j 0) ≡ is_zero
      (dot (tilted (at d a) (at d b) origin (take j (map (at d) t))) (minus (get_or (map (at d) t) j origin) (at d a))))
  unfolding level across
  across-at j h =
      ap₂ (λ (n p : Point). is_zero (dot n (minus p (at d a)))) (start-tilt (at d a) (at d b) (map (at d) (take j t))
      ∙ ap (tilted (at d a) (at d b) origin) (map-take j t)) (sym (map_at (at d) t j 0 origin h))
    where
      map-take : (j : ℕ) (l : List ℕ) → map (at d) (take j l) ≡ take j (map (at d) l)
      map-take zero l = refl
      map-take (suc j) [] = refl
      map-take (suc j) (u ∷ l) = ap (λ (r : List Point). at d u ∷ r) (map-take j l)

  pub level_plane : ((j : ℕ) → j < length t → level d (take (suc (suc j)) (a ∷ b ∷ t)) (get_or t j 0) ≡ true)
      → InPlane (polygon d (a ∷ b ∷ t))
  unfolding polygon
  level_plane f =
      let l = level-from (at d a) (at d b) origin (map (at d) t) (λ j h.
      let h' : j < length t = omega (arith, length-map t (at d)) in
      zero_yes (dot (tilted (at d a) (at d b) origin (take j (map (at d) t))) (minus (get_or (map (at d) t) j origin) (at d a)))
      (sym (across-at j h') ∙ f j h')) in
      let w = found (at d a) (at d b) (differ ne) (map (at d) t) l in
      record { across = w.n; height = dot w.n (at d a); real = w.real; every = λ i h. go w i h }
    where
      go : (w : Across (at d a) (at d b) (map (at d) t)) (i : ℕ) → i < length (map (at d) (a ∷ b ∷ t))
          → dot w.n (get_or (map (at d) (a ∷ b ∷ t)) i origin) ≡ dot w.n (at d a)
      go w zero h = refl
      go w (suc zero) h = dot-less w.n (at d b) (at d a) w.right
      go w (suc (suc i)) h =
          dot-less w.n (get_or (map (at d) t) i origin) (at d a)
          (flat-at (at d a) (at d b) w.n (map (at d) t) w.flat i (omega arith))

  pub plane_level : InPlane (polygon d (a ∷ b ∷ t)) → (j : ℕ) → j < length t
      → level d (take (suc (suc j)) (a ∷ b ∷ t)) (get_or t j 0) ≡ true
  unfolding polygon
  plane_level y j h =
      let s : dot y.across (at d a) ≡ y.height = y.every 0 (omega arith) in
      let z = dot_even y.across (at d b) (at d a) (y.every 1 (omega arith) ∙ sym s) in
      let f = flat-from (at d a) (at d b) y.across (map (at d) t)
      (λ i k. dot_even y.across (get_or (map (at d) t) i origin) (at d a) (y.every (suc (suc i)) (omega arith) ∙ sym s)) in
      let l = passes (at d a) (at d b) y.across y.real z (map (at d) t) f in
      across-at j h ∙ zero_is (level-at (at d a) (at d b) origin (map (at d) t) l j (omega (arith, length-map t (at d))))

-- the second vertex is let pass in any case
pub first-level : (d : Wire) (a b : ℕ) → level d (a ∷ []) b ≡ true
unfolding level across tilted
first-level d a b =
    zero_is
    (ap (λ (n : Point). dot n (minus (at d b) (at d a)))
    (begins (at d a) (at d 0) (at d a) ∙ vring (vec (at d a) ∷ vec (at d 0) ∷ []) ((v 1 -v v 0) ×v (v 0 -v v 0)) o tt)
    ∙ vring (vec (minus (at d b) (at d a)) ∷ []) (o · v 0) (k (pos 0)) tt)

-- ---- 11: no two vertices are at one point

pub places_differ : (d : Wire) → same_place d ≡ none → (u w : ℕ) → u < length d.vertices → w < length d.vertices → (u ≡ w → ⊥)
    → at d u ≡ at d w → ⊥
unfolding same_place same_point
places_differ d e u w hu hw n q =
    true≢false
    (sym (some_is (λ v. not (eqb u v) && same_point (at d u) (at d v)) (length d.vertices) w hw
    (and_both (ap not (ne_eqb u w n)) (origin_is (ap (λ (p : Point). minus p (at d w)) q ∙ vring (vec (at d w) ∷ []) (v 0 -v v 0) o tt))))
    ∙ lowest-none (λ u. any (λ v. not (eqb u v) && same_point (at d u) (at d v)) (upto (length d.vertices))) (length d.vertices) e u
    hu)

-- a loop lies in one plane
pub loop_plane_lem : (d : Wire) → same_place d ≡ none → (q : Loop) → IsLoop d q → InPlane (polygon d q)
loop_plane_lem d e q l = go q l
  where
    go : (q : Loop) → IsLoop d q → InPlane (polygon d q)
    go [] l = absurd (let z = l.three in omega arith)
    go (a ∷ []) l = absurd (let z = l.three in omega arith)
    go (a ∷ (b ∷ t)) l =
        level_plane d a b t
        (places_differ d e a b (l.inside 0 (omega arith)) (l.inside 1 (omega arith))
        (λ z. absurd (omega (arith, l.different 0 1 (omega arith) (omega arith) z))))
        (λ j h. l.plane (suc (suc j)) (omega arith) (omega arith))
