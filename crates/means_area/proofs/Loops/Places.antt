-- A closed path of a drawing, which `means_loops` has by places, by its vertices and neighbours.
use mathlib.Core.Path.{◌≡◌, sym, ap, subst}
use mathlib.Core.Logic.{◌⊎◌, inl, inr}
use mathlib.Core.List.{List, [], ◌∷◌}
use Prim.Native.Nat.{ℕ, suc, ◌-◌, ◌<◌}
use native.Mathlib.Omega.{arith}
use lib.ListN.{length, get_or}
use Rattle.paper.specs.Drawing.{Wire}
use Rattle.paper.specs.Loops.{Loop}
use Rattle.means_drawing.specs.Drawings.{start, stop, Joined}
use Rattle.means_solid.specs.Solid.{Goes}
use Rattle.means_solid.proofs.Goes.{goes_next, goes_last}
use Rattle.means_loops.specs.Path.{EdgeOf, ClosedPath}
use Rattle.means_area.specs.Rings.{Of, TheTwo, Chain, Link}

module _ {A : Type 0} (z : A) where
  -- what is of a list has a place in it
  pub of_place : (y : A) (l : List A) → Of y l → (i : ℕ) × (i < length l) × (get_or l i z ≡ y)
  of_place y [] o = absurd o
  of_place y (x ∷ l) (inl e) = (0, omega arith, sym e)
  of_place y (x ∷ l) (inr o) = let r = of_place y l o in (suc r.0, (let h = r.1 in omega arith), r.2)

  -- neighbours on a way follow each other, or are its last and its end
  chain_place : (x : A) (l : List A) (e p q : A) → Chain x l e p q
      → ((i : ℕ) × (i < length l) × TheTwo (get_or (x ∷ l) i z) (get_or l i z) p q) ⊎ TheTwo (get_or (x ∷ l) (length l) z) e p q
  chain_place x [] e p q c = inr c
  chain_place x (y ∷ l) e p q (inl c) = inl (0, omega arith, c)
  chain_place x (y ∷ l) e p q (inr c) = step (chain_place y l e p q c)
    where
      step : ((i : ℕ) × (i < length l) × TheTwo (get_or (y ∷ l) i z) (get_or l i z) p q) ⊎ TheTwo (get_or (y ∷ l) (length l) z) e p q
          → ((i : ℕ) × (i < length (y ∷ l)) × TheTwo (get_or (x ∷ y ∷ l) i z) (get_or (y ∷ l) i z) p q)
          ⊎ TheTwo (get_or (x ∷ y ∷ l) (length (y ∷ l)) z) e p q
      step (inl (i, h, t)) = inl (suc i, omega arith, t)
      step (inr t) = inr t

module _ (d : Wire) where
  pub below : (l : Loop) → ClosedPath d l → (u : ℕ) → Of u l → u < length d.vertices
  below l c u o = let r = of_place 0 u l o in subst (λ (w : ℕ). w < length d.vertices) r.2 (c.inside r.0 r.1)

  -- two vertices that an edge joins
  pub record Side (u w : ℕ) : Type 0 where
    pub two : u ≡ w → ⊥
    pub edge : Joined d u w

  pub by_edge : (a b : ℕ) → EdgeOf d a b → Joined d a b
  by_edge a b (e, h, inl p) = (e, h, inl (sym (ap start p), sym (ap stop p)))
  by_edge a b (e, h, inr p) = (e, h, inr (sym (ap stop p), sym (ap start p)))

  by_pair : (a b u w : ℕ) → Side a b → TheTwo a b u w → Side u w
  by_pair a b u w s (inl (p, q)) = subst (λ (x : ℕ). Side x w) (sym p) (subst (λ (x : ℕ). Side a x) (sym q) s)
  by_pair a b u w s (inr (p, q)) =
      subst (λ (x : ℕ). Side x w) (sym p)
      (subst (λ (x : ℕ). Side b x) (sym q) (record { two = (λ e. s.two (sym e)); edge = back s.edge }))
    where
      back : Joined d a b → Joined d b a
      back (e, h, inl (t, r)) = (e, h, inr (r, t))
      back (e, h, inr (t, r)) = (e, h, inl (r, t))

  -- neighbours of a closed path are so
  pub side : (l : Loop) → ClosedPath d l → (u w : ℕ) → Link l u w → Side u w
  side [] c u w k = absurd k
  side (x ∷ r) c u w k = go (chain_place 0 x r x u w k)
    where
      at : (i j : ℕ) → i < length (x ∷ r) → j < length (x ∷ r) → (i ≡ j → ⊥) → Goes (x ∷ r) (get_or (x ∷ r) i 0) (get_or (x ∷ r) j 0)
          → Side (get_or (x ∷ r) i 0) (get_or (x ∷ r) j 0)
      at i j hi hj n g = record {
        two = (λ e. n (c.different i j hi hj e));
        edge = by_edge (get_or (x ∷ r) i 0) (get_or (x ∷ r) j 0) (c.along (get_or (x ∷ r) i 0) (get_or (x ∷ r) j 0) g);
      }

      last : Goes (x ∷ r) (get_or (x ∷ r) (length r) 0) x
      last =
          let e : length (x ∷ r) - 1 ≡ length r = omega arith in
          subst (λ (i : ℕ). Goes (x ∷ r) (get_or (x ∷ r) i 0) x) e (goes_last (x ∷ r) (omega arith))

      go : ((i : ℕ) × (i < length r) × TheTwo (get_or (x ∷ r) i 0) (get_or r i 0) u w) ⊎ TheTwo (get_or (x ∷ r) (length r) 0) x u w → Side u w
      go (inl (i, h, t)) =
          by_pair (get_or (x ∷ r) i 0) (get_or r i 0) u w
          (at i (suc i) (omega arith) (omega arith) (λ e. omega arith) (goes_next (x ∷ r) i (omega arith))) t
      go (inr t) =
          by_pair (get_or (x ∷ r) (length r) 0) x u w
          (at (length r) 0 (omega arith) (omega arith) (λ e. let h = c.three in omega arith) last) t
