-- Joined vertices, and the places of a ring from another start and the other way round.
use mathlib.Core.Path.{◌≡◌, refl, sym, ap, subst, ◌∙◌}
use mathlib.Core.Bool.{true, ◌&&◌}
use mathlib.Core.Logic.{◌⊎◌, inl, inr}
use mathlib.Core.List.{List, ◌++◌}
use Prim.Native.Nat.{ℕ, zero, suc, ◌+◌, ◌-◌, ◌≤◌, ◌<◌}
use native.Mathlib.Omega.{arith}
use lib.Dec.{eqb}
use lib.ListN.{length, get_or, length-append, get_or-append}
use lib.Seq.{get_or-append-add}
use borrow.Author.Tests.{eq-eqb}
use Rattle.lists.specs.Around.{wrap, around}
use Rattle.lists.proofs.Truth.{and_both, or_left, or_right}
use Rattle.lists.proofs.Passing.{any_is}
use Rattle.lists.proofs.Sides.{wrap_low, wrap_high, wrap_cases, wrap-below}
use Rattle.paper.specs.Drawing.{Wire, Edge, edge, edge_at, joins, joined}
use Rattle.paper.specs.Loops.{flipped}
use Rattle.means_solid.specs.Solid.{Goes}
use Rattle.means_loops.specs.Path.{EdgeOf}
use Rattle.means_solid.specs.Named.{SameRing}
use Rattle.means_loops.proofs.Rings.{parts, flip_length, flip-first, flip-at}
use Rattle.means_solid.proofs.Goes.{wrap-next, around-at}

-- ---- joined vertices

pub edge-joined : (d : Wire) (a b : ℕ) → EdgeOf d a b → joined d a b ≡ true
unfolding joined edge_at joins
edge-joined d a b (e, h, w) = any_is (joins a b) (edge 0 0) d.edges e h (go (edge_at d e) w)
  where
    go : (x : Edge) → (x ≡ edge a b) ⊎ (x ≡ edge b a) → joins a b x ≡ true
    go x (inl p) = ap (joins a b) p ∙ or_left (eqb a a && eqb b b) (eqb a b && eqb b a) (and_both (eq-eqb a a refl) (eq-eqb b b refl))
    go x (inr p) = ap (joins a b) p ∙ or_right (eqb a b && eqb b a) (eqb a a && eqb b b) (and_both (eq-eqb a a refl) (eq-eqb b b refl))

pub edge_back : (d : Wire) (a b : ℕ) → EdgeOf d a b → EdgeOf d b a
edge_back d a b (e, h, inl p) = (e, h, inr p)
edge_back d a b (e, h, inr p) = (e, h, inl p)

-- ---- places of a ring from another start, and the other way round

split_at : (u w : List ℕ) (i : ℕ) → i < length w + length u
    → get_or (w ++ u) i 0 ≡ get_or (u ++ w) (wrap (length w + length u) (length u + i)) 0
split_at u w i h = go (wrap_cases (length w + length u) (length u + i))
  where
    go : ((length u + i < length w + length u) × (wrap (length w + length u) (length u + i) ≡ length u + i))
        ⊎ ((length w + length u ≤ length u + i) × (wrap (length w + length u) (length u + i) ≡ length u + i - (length w + length u)))
        → get_or (w ++ u) i 0 ≡ get_or (u ++ w) (wrap (length w + length u) (length u + i)) 0
    go (inl (p, e)) = get_or-append w u 0 i (omega arith) ∙ sym (ap (λ (m : ℕ). get_or (u ++ w) m 0) e ∙ get_or-append-add u w i 0)
    go (inr (p, e)) =
        let q : i ≡ length w + (i - length w) = omega arith in
        let z : length u + i - (length w + length u) ≡ i - length w = omega arith in
        ap (λ (m : ℕ). get_or (w ++ u) m 0) q ∙ get_or-append-add w u (i - length w) 0
        ∙ sym (ap (λ (m : ℕ). get_or (u ++ w) m 0) (e ∙ z) ∙ get_or-append u w 0 (i - length w) (omega arith))

wrap_step : (n k i : ℕ) → k ≤ n → i < n → wrap n (k + wrap n (suc i)) ≡ wrap n (suc (wrap n (k + i)))
wrap_step n k i hk hi = go (wrap_cases n (suc i)) (wrap_cases n (k + i)) (wrap_cases n (k + wrap n (suc i))) (wrap_cases n (suc (wrap n (k + i))))
  where
    go : ((suc i < n) × (wrap n (suc i) ≡ suc i)) ⊎ ((n ≤ suc i) × (wrap n (suc i) ≡ suc i - n))
        → ((k + i < n) × (wrap n (k + i) ≡ k + i))
        ⊎ ((n ≤ k + i) × (wrap n (k + i) ≡ k + i - n))
        → ((k + wrap n (suc i) < n) × (wrap n (k + wrap n (suc i)) ≡ k + wrap n (suc i)))
        ⊎ ((n ≤ k + wrap n (suc i)) × (wrap n (k + wrap n (suc i)) ≡ k + wrap n (suc i) - n))
        → ((suc (wrap n (k + i)) < n) × (wrap n (suc (wrap n (k + i))) ≡ suc (wrap n (k + i))))
        ⊎ ((n ≤ suc (wrap n (k + i))) × (wrap n (suc (wrap n (k + i))) ≡ suc (wrap n (k + i)) - n))
        → wrap n (k + wrap n (suc i)) ≡ wrap n (suc (wrap n (k + i)))
    go (inl (a, a')) (inl (b, b')) (inl (c, c')) (inl (e, e')) = omega arith
    go (inl (a, a')) (inl (b, b')) (inl (c, c')) (inr (e, e')) = omega arith
    go (inl (a, a')) (inl (b, b')) (inr (c, c')) (inl (e, e')) = omega arith
    go (inl (a, a')) (inl (b, b')) (inr (c, c')) (inr (e, e')) = omega arith
    go (inl (a, a')) (inr (b, b')) (inl (c, c')) (inl (e, e')) = omega arith
    go (inl (a, a')) (inr (b, b')) (inl (c, c')) (inr (e, e')) = omega arith
    go (inl (a, a')) (inr (b, b')) (inr (c, c')) (inl (e, e')) = omega arith
    go (inl (a, a')) (inr (b, b')) (inr (c, c')) (inr (e, e')) = omega arith
    go (inr (a, a')) (inl (b, b')) (inl (c, c')) (inl (e, e')) = omega arith
    go (inr (a, a')) (inl (b, b')) (inl (c, c')) (inr (e, e')) = omega arith
    go (inr (a, a')) (inl (b, b')) (inr (c, c')) (inl (e, e')) = omega arith
    go (inr (a, a')) (inl (b, b')) (inr (c, c')) (inr (e, e')) = omega arith
    go (inr (a, a')) (inr (b, b')) (inl (c, c')) (inl (e, e')) = omega arith
    go (inr (a, a')) (inr (b, b')) (inl (c, c')) (inr (e, e')) = omega arith
    go (inr (a, a')) (inr (b, b')) (inr (c, c')) (inl (e, e')) = omega arith
    go (inr (a, a')) (inr (b, b')) (inr (c, c')) (inr (e, e')) = omega arith

-- place i of g is a place of f, and the one after it the one after that
pub record Turned (f g : List ℕ) : Type 0 where
  pub to : ℕ → ℕ
  pub low : (i : ℕ) → i < length g → to i < length f
  pub same : (i : ℕ) → i < length g → get_or g i 0 ≡ get_or f (to i) 0
  pub next : (i : ℕ) → i < length g → to (wrap (length g) (suc i)) ≡ wrap (length f) (suc (to i))

pub turned : {f g : List ℕ} → SameRing f g → Turned f g
turned {f} {g} s = let p = parts s in go f g p.front p.back p.before p.after
  where
    go : (f g u w : List ℕ) → f ≡ u ++ w → g ≡ w ++ u → Turned f g
    go f g u w e q =
        subst (λ (x : List ℕ). Turned x g) (sym e)
        (subst (λ (y : List ℕ). Turned (u ++ w) y) (sym q) (by (length-append u w) (length-append w u)))
      where
        by : length (u ++ w) ≡ length u + length w → length (w ++ u) ≡ length w + length u → Turned (u ++ w) (w ++ u)
        by l m = record {
          to = λ i. wrap (length w + length u) (length u + i);
          low = λ i h. let z = wrap-below (length w + length u) (length u + i) (omega arith) in omega arith;
          same = λ i h. split_at u w i (omega arith);
          next = λ i h.
              let a : wrap (length w + length u) (length u + wrap (length w + length u) (suc i)) ≡ wrap (length w + length u)
              (suc (wrap (length w + length u) (length u + i)))
              = wrap_step (length w + length u) (length u) i (omega arith) (omega arith) in
              let n : length (u ++ w) ≡ length w + length u = omega arith in
              ap (λ (x : ℕ). wrap (length w + length u) (length u + wrap x (suc i))) m ∙ a
              ∙ ap (λ (x : ℕ). wrap x (suc (wrap (length w + length u) (length u + i)))) (sym n);
        }

pub goes_from : {f g : List ℕ} → SameRing f g → (a b : ℕ) → Goes g a b → Goes f a b
goes_from {f} {g} s a b h =
    let t = turned s in
    let w = wrap_low (length g) h.at h.here in
    let l = t.low h.at h.here in
    let m : wrap (length g) (suc h.at) < length g = wrap-below (length g) (suc h.at) (let z = h.here in omega arith) in
    record {
      at = t.to h.at;
      here = l;
      from =
          h.from ∙ around-at g h.at ∙ ap (λ (i : ℕ). get_or g i 0) w ∙ t.same h.at h.here
          ∙ sym (around-at f (t.to h.at) ∙ ap (λ (i : ℕ). get_or f i 0) (wrap_low (length f) (t.to h.at) l));
      to =
          h.to ∙ around-at g (suc h.at) ∙ t.same (wrap (length g) (suc h.at)) m
          ∙ ap (λ (i : ℕ). get_or f i 0) (t.next h.at h.here) ∙ sym (around-at f (suc (t.to h.at)));
    }

-- a corner of the reverse is a corner
pub flip_place : (f : List ℕ) (i : ℕ) → i < length (flipped f) → (j : ℕ) × (j < length f) × (get_or (flipped f) i 0 ≡ get_or f j 0)
flip_place f zero h = (0, omega (arith, flip_length f), flip-first f)
flip_place f (suc i) h = (length f - suc i, omega (arith, flip_length f), flip-at f (suc i) (omega arith) (omega (arith, flip_length f)))

pub goes_back : (f : List ℕ) (a b : ℕ) → 2 ≤ length f → Goes (flipped f) a b → Goes f b a
goes_back f a b two h = go h.at h.here h.from h.to
  where
    n : length (flipped f) ≡ length f
    n = flip_length f

    near : (m i : ℕ) → i < m → m - suc i < m
    near m i h = omega arith

    -- the corner that comes next in the reverse comes before in the ring
    after : (i : ℕ) → i < length f → around (flipped f) (suc i) 0 ≡ get_or f (length f - suc i) 0
    after i l = around-at (flipped f) (suc i) ∙ by (wrap-next (length (flipped f)) i (omega (arith, n)))
      where
        by : ((suc i < length (flipped f)) × (wrap (length (flipped f)) (suc i) ≡ suc i))
            ⊎ ((suc i ≡ length (flipped f)) × (wrap (length (flipped f)) (suc i) ≡ 0))
            → get_or (flipped f) (wrap (length (flipped f)) (suc i)) 0 ≡ get_or f (length f - suc i) 0
        by (inl (p, e)) = ap (λ (j : ℕ). get_or (flipped f) j 0) e ∙ flip-at f (suc i) (omega arith) (omega (arith, n))
        by (inr (p, e)) =
            let z : length f - suc i ≡ 0 = omega (arith, n) in
            ap (λ (j : ℕ). get_or (flipped f) j 0) e ∙ flip-first f ∙ sym (ap (λ (j : ℕ). get_or f j 0) z)

    here : (i : ℕ) → i < length f → around (flipped f) i 0 ≡ around f (suc (length f - suc i)) 0
    here zero l =
        let z : suc (length f - 1) ≡ length f = omega arith in
        let w : wrap (length f) (suc (length f - 1)) ≡ 0 = wrap_high (length f) (suc (length f - 1)) (omega arith) ∙ omega arith in
        around-at (flipped f) 0 ∙ ap (λ (j : ℕ). get_or (flipped f) j 0) (wrap_low (length (flipped f)) 0 (omega (arith, n))) ∙ flip-first f
        ∙ sym (around-at f (suc (length f - 1)) ∙ ap (λ (j : ℕ). get_or f j 0) w)
    here (suc i) l =
        let w : wrap (length f) (suc (length f - suc (suc i))) ≡ length f - suc i = wrap_low (length f) (suc (length f - suc (suc i)))
        (omega arith) ∙ omega arith in
        around-at (flipped f) (suc i) ∙ ap (λ (j : ℕ). get_or (flipped f) j 0) (wrap_low (length (flipped f)) (suc i) (omega (arith, n)))
        ∙ flip-at f (suc i) (omega arith) l
        ∙ sym (around-at f (suc (length f - suc (suc i))) ∙ ap (λ (j : ℕ). get_or f j 0) w)

    go : (i : ℕ) → i < length (flipped f) → a ≡ around (flipped f) i 0 → b ≡ around (flipped f) (suc i) 0 → Goes f b a
    go i l p q =
        let l' : i < length f = omega (arith, n) in
        let m : length f - suc i < length f = near (length f) i l' in
        record {
          at = length f - suc i;
          here = m;
          from =
              q ∙ after i l'
              ∙ sym (around-at f (length f - suc i) ∙ ap (λ (j : ℕ). get_or f j 0) (wrap_low (length f) (length f - suc i) m));
          to = p ∙ here i l';
        }
