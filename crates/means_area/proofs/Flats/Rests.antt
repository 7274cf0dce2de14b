-- The step of the second claim: what is left of a ring without its lowest corner u, by the place of the lowest but u.
use mathlib.Core.Path.{◌≡◌, refl, sym, ◌∙◌, ap, subst}
use mathlib.Core.Logic.{◌⊎◌, inl, inr}
use mathlib.Core.List.{List, [], ◌∷◌, ◌++◌}
use Prim.Native.Nat.{ℕ, suc, ◌+◌, ◌≤◌}
use native.Mathlib.Omega.{arith}
use lib.ListN.{length, length-append}
use lib.IntN.{ℤ, neg_ℤ}
use lib.Signed.{◌<ℤ◌, <ℤ_irrefl}
use Rattle.exact.proofs.Order.{lt_chain}
use Rattle.paper.specs.declared.Flat.{Flat}
use Rattle.means_area.specs.Rings.{Of, Link}
use Rattle.means_area.specs.Flats.{twice_area, height, Simple, Least, area, SameSign, lst}
use Rattle.means_area.proofs.Flats.Signs.{same_trans, same_is, same_is2, same_ne, same-neg}
use Rattle.means_area.proofs.Flats.Turns.{flip_last, flat-second}
use Rattle.means_area.proofs.Flats.Choice.{Hit, Choice, whole, cut, near}
use Rattle.means_area.proofs.Flats.Rings.{area_turned}
use Rattle.means_area.proofs.Flats.Lowest.{of_split, of_prefix, both-empty, Found, lowest}
use Rattle.means_area.proofs.Flats.First.{Free, ends-apart, first_link, last_link, choice, ear_simple, Area, Rest}
use Rattle.means_area.proofs.Flats.Around.{Second, OneTurn, u_v, at_v, from_v, x_is, square, without}
use Rattle.means_area.proofs.Flats.Chords.{Chord, cut-behind, cut_before}
use Rattle.means_area.proofs.Flats.Chains.{lst_append, lst_of, chain_left, chain-last, of_append, turned, ok_turned}

module _ (m : ℤ) (n : ℕ) (A : Area m n) (R : Rest m n) where
  abbrev h : Flat → ℤ
  h = height m

  -- ---- the lowest but u is no neighbour of u
  middle : (u c : Flat) (X : List Flat) (v y : Flat) (Y : List Flat) → length (X ++ v ∷ y ∷ Y) ≤ suc n → Second m u c X v y Y
      → OneTurn u c X v y Y
  middle u c X v y Y b q =
      go (choice m v y (Y ++ u ∷ c ∷ X) (let e = length-append Y (u ∷ c ∷ X) in omega (arith, e)) s (q.low_y y (inl refl))
      (subst (λ (z : Flat). h v <ℤ h z) (sym xi) (q.low_c (lst c X) (lst_of c X))))
    where
      s : Simple m (v ∷ y ∷ (Y ++ u ∷ c ∷ X))
      s = from_v m n A R u c X v y Y b q

      xi : lst y (Y ++ u ∷ c ∷ X) ≡ lst c X
      xi = x_is m n A R u c X v y Y b q

      go : Choice m (Link (v ∷ y ∷ (Y ++ u ∷ c ∷ X))) (v ∷ y ∷ (Y ++ u ∷ c ∷ X)) s.net v y (lst y (Y ++ u ∷ c ∷ X))
          → OneTurn u c X v y Y
      go (whole e' ok) = pick (both-empty X Y)
        where
          pick : (1 ≤ length X + length Y) ⊎ ((X ≡ []) × (Y ≡ [])) → OneTurn u c X v y Y
          pick (inl j) = without m n A R u c X v y Y b q e' ok j
          pick (inr j) = square m n A R u c X v y Y b q j.0 j.1
      go (cut w (inl e) ok hw s1 s2) = absurd (<ℤ_irrefl (subst (λ (z : Flat). h v <ℤ h z) e hw))
      go (cut w (inr (inl e)) ok hw s1 s2) = absurd (same_ne s1 (ap (twice_area v y) e ∙ flat-second v y))
      go (cut w (inr (inr i)) ok hw s1 s2) = place (of_append w Y (u ∷ c ∷ X) i)
        where
          chord : Chord m u c X v y Y w
          chord = ok_turned m u (c ∷ X) v (y ∷ Y) v w ok

          t1 : SameSign (twice_area v y w) (twice_area v y (lst c X))
          t1 = same_is2 (ap (twice_area v y) xi) s1

          t2 : SameSign (twice_area v w (lst c X)) (twice_area v y (lst c X))
          t2 = same_is2 (ap (twice_area v y) xi) (same_is (ap (twice_area v w) xi) s2)

          place : Of w Y ⊎ Of w (u ∷ c ∷ X) → OneTurn u c X v y Y
          place (inl p) = cut-behind m n A R u c X v y Y w (of_split w Y p) b q chord t2
          place (inr (inl e)) = absurd (<ℤ_irrefl (subst (λ (z : Flat). h u <ℤ h z) e (lt_chain (u_v m n A R u c X v y Y b q) hw)))
          place (inr (inr p)) = cut_before m n A R u c X v y Y w (of_prefix w c X p) b q chord t1 t2

  -- ---- it is the next corner
  rest_next : (u c d : Flat) (l : List Flat) → length (d ∷ l) ≤ suc n → 2 ≤ length (d ∷ l) → Simple m (u ∷ c ∷ d ∷ l)
      → Least m u (c ∷ d ∷ l) → Free u c (lst d l) (u ∷ c ∷ d ∷ l) → Least m c (d ∷ l)
      → SameSign (area (c ∷ d ∷ l)) (twice_area u c (lst d l))
  rest_next u c d l b j s low e lc =
      let a = lst d l in
      let g = u ∷ c ∷ d ∷ l in
      let hc = low c (inl refl) in
      let ha = low a (inr (lst_of d l)) in
      let ne = ends-apart m u c (d ∷ l) (omega arith) s.apart in
      let i = ear_simple m u c (d ∷ l) (omega arith) s hc ha e in
      let t : SameSign (area (c ∷ d ∷ l)) (twice_area c d a) = A c d l (omega arith) (omega arith) i lc in
      let t' : SameSign (neg_ℤ (area (c ∷ d ∷ l))) (twice_area c a d) = same_is2 (sym (flip_last c a d)) (same-neg t) in
      let r = near m (Link g) g s.net u a c (last_link m u c (d ∷ l)) (first_link m u c (d ∷ l)) ha hc (λ z o j. e z o (swap z j))
      (λ q. ne (sym q)) (lc a (lst_of d l)) d (inr (inl (inr (refl, refl))))
      (lc d (inl refl)) t' in
      same_trans t (same_is (sym (flip_last c d a)) (same_is2 (sym (flip_last u c a)) (same-neg r)))
    where
      swap : (z : Flat) → Hit u (lst d l) c z → Hit u c (lst d l) z
      swap z (inl j) = inr j
      swap z (inr j) = inl j

  -- ---- it is the last corner
  rest_last : (u c : Flat) (X : List Flat) (v : Flat) → length (X ++ v ∷ []) ≤ suc n → 2 ≤ length (X ++ v ∷ [])
      → Simple m (u ∷ c ∷ (X ++ v ∷ [])) → Least m u (c ∷ (X ++ v ∷ []))
      → Free u c (lst c (X ++ v ∷ [])) (u ∷ c ∷ (X ++ v ∷ [])) → Least m v (c ∷ X)
      → SameSign (area (c ∷ (X ++ v ∷ []))) (twice_area u c (lst c (X ++ v ∷ [])))
  rest_last u c X v b j s low e lv =
      let l = X ++ v ∷ [] in
      let g = u ∷ c ∷ l in
      let q = length-append X (v ∷ []) in
      let vi : lst c l ≡ v = lst_append c X v [] in
      let hc = low c (inl refl) in
      let ha = low (lst c l) (lst_of c l) in
      let one : 1 ≤ length l = omega (arith, j) in
      let i = ear_simple m u c l one s hc ha e in
      let t = A v c X (omega (arith, q)) (omega (arith, q)) (turned m c X v [] i) lv in
      let r = near m (Link g) g s.net u c v (first_link m u c l) (subst (λ (z : Flat). Link g u z) vi (last_link m u c l)) hc
      (subst (λ (z : Flat). h u <ℤ h z) vi ha)
      (subst (λ (z : Flat). Free u c z g) vi e) (λ p. ends-apart m u c l one s.apart (p ∙ ap h (sym vi))) (lv c (inl refl)) (lst c X)
      (chain_left u (c ∷ X) v [] u (lst c X) v (chain-last u (c ∷ X) v)) (lv (lst c X) (lst_of c X)) t in
      same_is (sym (area_turned c X v [])) (same_is2 (ap (twice_area u c) (sym vi)) (same_trans t r))

  -- ---- the three places
  found : (u c : Flat) (X : List Flat) (v : Flat) (Y : List Flat) → length (X ++ v ∷ Y) ≤ suc n → 2 ≤ length (X ++ v ∷ Y)
      → Simple m (u ∷ c ∷ (X ++ v ∷ Y)) → Least m u (c ∷ (X ++ v ∷ Y))
      → Free u c (lst c (X ++ v ∷ Y)) (u ∷ c ∷ (X ++ v ∷ Y)) → Least m v (c ∷ X) → Least m v Y
      → SameSign (area (c ∷ (X ++ v ∷ Y))) (twice_area u c (lst c (X ++ v ∷ Y)))
  found u c X v [] b j s low e lc ly = rest_last u c X v b j s low e lc
  found u c X v (y ∷ Y) b j s low e lc ly =
      let li = lst_append c X v (y ∷ Y) in
      let q : Second m u c X v y Y = record
      { simple = s; low = low; empty = subst (λ (a : Flat). Free u c a (u ∷ c ∷ (X ++ v ∷ y ∷ Y))) li e; low_c = lc; low_y = ly } in
      same_is2 (ap (twice_area u c) (sym li)) (same_trans (at_v m n A R u c X v y Y b q) (middle u c X v y Y b q))

  pub rest_step : Rest m (suc n)
  rest_step u c [] b j s low e = absurd (omega arith)
  rest_step u c (d ∷ l) b j s low e = go (lowest m c (d ∷ l) s.apart.1)
    where
      go : Least m c (d ∷ l) ⊎ Found m c (d ∷ l) → SameSign (area (c ∷ d ∷ l)) (twice_area u c (lst d l))
      go (inl lc) = rest_next u c d l b j s low e lc
      go (inr f) =
          subst (λ (r : List Flat). length r ≤ suc n → 2 ≤ length r → Simple m (u ∷ c ∷ r) → Least m u (c ∷ r)
          → Free u c (lst c r) (u ∷ c ∷ r) → SameSign (area (c ∷ r)) (twice_area u c (lst c r)))
          (sym f.is) (λ b j s low e. found u c f.before f.v f.after b j s low e f.low f.low') b j s low e
