-- Rule A by the edges that go down through a face's plane.
use mathlib.Core.Path.{◌≡◌, refl, ap, ap₂, ◌∙◌}
use mathlib.Core.Bool.{Bool, true, ◌&&◌, and_comm}
use mathlib.Core.Logic.{◌⊎◌, inl, inr}
use Prim.Native.Nat.{ℕ, ◌<◌}
use borrow.Author.Tests.{eq-eqb}
use lib.Dec.{eqb}
use lib.ListN.{length, get_or}
use Rattle.lists.specs.Lists.{any, upto}
use Rattle.lists.proofs.Truth.{and_left, and_right, and_both, or_left, or_right, same_truth}
use Rattle.lists.proofs.Passing.{any_yes, any_is, some_yes, some_is}
use Rattle.paper.specs.Points.{above, below}
use Rattle.paper.specs.Polygon.{plane_side}
use Rattle.paper.specs.Drawing.{Wire, Edge, edge, at, joins, joined}
use Rattle.paper.specs.Loops.{Loop, polygon}
use Rattle.paper.specs.Solids.{has}
use Rattle.paper_laws.proofs.Turned.{pierced_turned}
use Rattle.fast_tables.specs.Paths.{Path}
use Rattle.fast_tables.specs.Hits.{edge_pierces, pierced_by, pierced_down}
use Rattle.fast_tables.proofs.Rounds.{joins-same, has-turn, has-ends, below_n}
use Rattle.fast_tables.proofs.Pierce.{pierced-sides}

pub edge_turned : (d : Wire) (l : Loop) (a b : ℕ) → edge_pierces d l (edge a b) ≡ edge_pierces d l (edge b a)
unfolding edge_pierces
edge_turned d l a b = pierced_turned (polygon d l) (at d a) (at d b) (plane_side (polygon d l) (at d a)) (plane_side (polygon d l) (at d b))

pub joined_is : (d : Wire) (i : ℕ) → i < length d.edges → (a b : ℕ) → get_or d.edges i (edge 0 0) ≡ edge a b
    → (joined d a b ≡ true) × (joined d b a ≡ true)
unfolding joined joins
joined_is d i h a b e = (
  any_is (joins a b) (edge 0 0) d.edges i h
      (ap (joins a b) e ∙ or_left (eqb a a && eqb b b) (eqb a b && eqb b a) (and_both (eq-eqb a a refl) (eq-eqb b b refl))),
  any_is (joins b a) (edge 0 0) d.edges i h
      (ap (joins b a) e ∙ or_right (eqb b a && eqb a b) (eqb b b && eqb a a) (and_both (eq-eqb b b refl) (eq-eqb a a refl))),
)

module _ (d : Wire) (l k : Loop) (path : Path d k) where
  abbrev up : ℕ → Bool
  up a = above (plane_side (polygon d l) (at d a))

  abbrev down : ℕ → Bool
  down b = below (plane_side (polygon d l) (at d b))

  abbrev last : ℕ → ℕ → Bool
  last a b = edge_pierces d l (edge a b) && has (edge a b) k

  both_is : (a b : ℕ) → a < length d.vertices → b < length d.vertices → up a ≡ true → down b ≡ true → joined d a b ≡ true
      → last a b ≡ true → pierced_down d l k ≡ true
  unfolding pierced_down
  both_is a b ha hb u w j t =
      some_is (λ a. up a && any (λ b. down b && (joined d a b && last a b)) (upto (length d.vertices))) (length d.vertices) a ha
      (and_both u (some_is (λ b. down b && (joined d a b && last a b)) (length d.vertices) b hb (and_both w (and_both j t))))

  forth : pierced_by d l k ≡ true → pierced_down d l k ≡ true
  unfolding pierced_by edge_pierces
  forth t =
      let r = any_yes (λ e. has e k && edge_pierces d l e) (edge 0 0) d.edges t in
      each r.0 r.1 (get_or d.edges r.0 (edge 0 0)) refl r.2
    where
      each : (i : ℕ) → i < length d.edges → (e : Edge) → get_or d.edges i (edge 0 0) ≡ e → (has e k && edge_pierces d l e) ≡ true
          → pierced_down d l k ≡ true
      each i h (edge a b) q s =
          go (pierced-sides (polygon d l) (at d a) (at d b) (plane_side (polygon d l) (at d a)) (plane_side (polygon d l) (at d b)) p)
        where
          y : has (edge a b) k ≡ true
          y = and_left (has (edge a b) k) (edge_pierces d l (edge a b)) s

          p : edge_pierces d l (edge a b) ≡ true
          p = and_right (has (edge a b) k) (edge_pierces d l (edge a b)) s

          ha : a < length d.vertices
          ha = below_n d k path a (has-ends a b k y).0

          hb : b < length d.vertices
          hb = below_n d k path b (has-ends a b k y).1

          go : ((down a ≡ true) × (up b ≡ true)) ⊎ ((up a ≡ true) × (down b ≡ true)) → pierced_down d l k ≡ true
          go (inl w) =
              both_is b a hb ha w.1 w.0 (joined_is d i h a b q).1 (and_both (edge_turned d l b a ∙ p) (has-turn b a k ∙ y))
          go (inr w) = both_is a b ha hb w.0 w.1 (joined_is d i h a b q).0 (and_both p y)

  back : pierced_down d l k ≡ true → pierced_by d l k ≡ true
  unfolding pierced_down pierced_by joined
  back t =
      let n = length d.vertices in
      let r = some_yes (λ a. up a && any (λ b. down b && (joined d a b && last a b)) (upto n)) n t in
      let a = r.0 in
      let s = some_yes (λ b. down b && (joined d a b && last a b)) n
      (and_right (up a) (any (λ b. down b && (joined d a b && last a b)) (upto n)) r.2) in
      let b = s.0 in
      let w = and_right (down b) (joined d a b && last a b) s.2 in
      let q = any_yes (joins a b) (edge 0 0) d.edges (and_left (joined d a b) (last a b) w) in
      any_is (λ e. has e k && edge_pierces d l e) (edge 0 0) d.edges q.0 q.1
      (each a b (get_or d.edges q.0 (edge 0 0)) q.2 (and_right (joined d a b) (last a b) w))
    where
      each : (a b : ℕ) (e : Edge) → joins a b e ≡ true → last a b ≡ true → (has e k && edge_pierces d l e) ≡ true
      each a b e j s =
          joins-same (λ e. has e k && edge_pierces d l e) (λ x y. ap₂ ◌&&◌ (has-turn x y k) (edge_turned d l x y)) a b e j
          ∙ and_comm (has (edge a b) k) (edge_pierces d l (edge a b)) ∙ s

  pub pierced_down_lem : pierced_by d l k ≡ pierced_down d l k
  pierced_down_lem = same_truth _ _ forth back
