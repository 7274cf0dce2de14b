-- What is gathered over the pairs is what some other edge makes offend.
use mathlib.Core.Path.{◌≡◌, refl, sym, ◌∙◌, subst}
use mathlib.Core.Bool.{Bool, true, false, true≢false}
use mathlib.Core.Logic.{⊎_elim, ◌↔◌}
use mathlib.Core.List.{List, []}
use Prim.Native.Nat.{ℕ, zero, suc, ◌+◌, ◌≤◌, ◌<◌}
use native.Mathlib.Decide.{dec_le, ℕ_discrete}
use native.Mathlib.Omega.{arith}
use lib.ListN.{length}
use Rattle.lists.proofs.Truth.{or_left, or_right, or_cases}
use Rattle.sets.specs.Word.{dig, only}
use Rattle.sets.proofs.Digits.{dig-either, dig-only, dig_self}
use Rattle.paper.specs.Drawing.{Wire}
use Rattle.fast_meets.specs.Pairs.{meet_at, mark, pair_marked, with_rest, pairs_from, offenders}
use Rattle.fast_meets.specs.Theorems.{PairsTell}
use Rattle.fast_meets.proofs.Vertices.{by_others}

-- ---- one mark

mark_keeps : (b : Bool) (j : ℕ) (w : List Bool) (k : ℕ) → dig w k ≡ true → dig (mark b j w) k ≡ true
unfolding mark
mark_keeps true j w k e = dig-either w (only j) k ∙ or_left (dig w k) (dig (only j) k) e
mark_keeps false j w k e = e

mark_sets : (b : Bool) (j : ℕ) (w : List Bool) → b ≡ true → dig (mark b j w) j ≡ true
unfolding mark
mark_sets true j w e = dig-either w (only j) j ∙ or_right (dig w j) (dig (only j) j) (dig_self j)
mark_sets false j w e = absurd (true≢false (sym e))

-- only what has P is marked
abbrev Sound : (ℕ → Type 0) → List Bool → Type 0
Sound P w = (k : ℕ) → dig w k ≡ true → P k

mark_sound : (P : ℕ → Type 0) (b : Bool) (j : ℕ) (w : List Bool) → Sound P w → (b ≡ true → P j) → Sound P (mark b j w)
unfolding mark
mark_sound P true j w s h k e =
    ⊎_elim (s k) (λ q. subst P (sym (dig-only j k q)) (h refl)) (or_cases (dig w k) (dig (only j) k) (sym (dig-either w (only j) k) ∙ e))
mark_sound P false j w s h k e = s k e

module _ (meet : ℕ → ℕ → Bool) where
  -- ---- whatever the pairs, marks are kept

  pair_keeps : (e f : ℕ) (w : List Bool) (k : ℕ) → dig w k ≡ true → dig (pair_marked meet e f w) k ≡ true
  unfolding pair_marked
  pair_keeps e f w k h = mark_keeps (meet f e) f (mark (meet e f) e w) k (mark_keeps (meet e f) e w k h)

  rest_keeps : (e f m : ℕ) (w : List Bool) (k : ℕ) → dig w k ≡ true → dig (with_rest meet e f m w) k ≡ true
  unfolding with_rest
  rest_keeps e f zero w k h = h
  rest_keeps e f (suc m) w k h = rest_keeps e (suc f) m (pair_marked meet e f w) k (pair_keeps e f w k h)

  pairs_keep : (e m : ℕ) (w : List Bool) (k : ℕ) → dig w k ≡ true → dig (pairs_from meet e m w) k ≡ true
  unfolding pairs_from
  pairs_keep e zero w k h = h
  pairs_keep e (suc m) w k h = pairs_keep (suc e) m (with_rest meet e (suc e) m w) k (rest_keeps e (suc e) m w k h)

  -- ---- each pair marks those of the two that offend

  abbrev Marked : ℕ → ℕ → List Bool → Type 0
  Marked e f w = (meet e f ≡ true → dig w e ≡ true) × (meet f e ≡ true → dig w f ≡ true)

  pair_sets : (e f : ℕ) (w : List Bool) → Marked e f (pair_marked meet e f w)
  unfolding pair_marked
  pair_sets e f w = (
    (λ h. mark_keeps (meet f e) f (mark (meet e f) e w) e (mark_sets (meet e f) e w h)),
    (λ h. mark_sets (meet f e) f (mark (meet e f) e w) h),
  )

  rest_sets : (e f m g : ℕ) (w : List Bool) → f ≤ g → g < f + m → Marked e g (with_rest meet e f m w)
  unfolding with_rest
  rest_sets e f zero g w h l = absurd (omega arith)
  rest_sets e f (suc m) g w h l = go (ℕ_discrete f g) (λ q. rest_sets e (suc f) m g (pair_marked meet e f w) q (omega arith))
    where
      go : Dec (f ≡ g) → (suc f ≤ g → Marked e g (with_rest meet e (suc f) m (pair_marked meet e f w)))
          → Marked e g (with_rest meet e (suc f) m (pair_marked meet e f w))
      go (yes q) ih =
          let s = pair_sets e f w in
          subst (λ (g : ℕ). Marked e g (with_rest meet e (suc f) m (pair_marked meet e f w))) q (
            (λ h. rest_keeps e (suc f) m (pair_marked meet e f w) e (s.0 h)),
            (λ h. rest_keeps e (suc f) m (pair_marked meet e f w) f (s.1 h)),
          )
      go (no q) ih = ih (omega (arith, q))

  pairs_set : (e m i j : ℕ) (w : List Bool) → e ≤ i → i < j → j < e + m → Marked i j (pairs_from meet e m w)
  unfolding pairs_from
  pairs_set e zero i j w h l t = absurd (omega arith)
  pairs_set e (suc m) i j w h l t =
      go (ℕ_discrete e i) (λ q. pairs_set (suc e) m i j (with_rest meet e (suc e) m w) q l (omega arith))
    where
      go : Dec (e ≡ i) → (suc e ≤ i → Marked i j (pairs_from meet (suc e) m (with_rest meet e (suc e) m w)))
          → Marked i j (pairs_from meet (suc e) m (with_rest meet e (suc e) m w))
      go (yes q) ih =
          let r = with_rest meet e (suc e) m w in
          let s = rest_sets e (suc e) m j w (omega (arith, q)) (omega arith) in
          subst (λ (i : ℕ). Marked i j (pairs_from meet (suc e) m r)) q (
            (λ h. pairs_keep (suc e) m r e (s.0 h)),
            (λ h. pairs_keep (suc e) m r j (s.1 h)),
          )
      go (no q) ih = ih (omega (arith, q))

  -- ---- nothing else is marked

  module _ (n : ℕ) where
    -- k is an edge, and another edge makes it offend
    abbrev Offends : ℕ → Type 0
    Offends k = (k < n) × ((f : ℕ) × (f < n) × (k ≡ f → ⊥) × (meet k f ≡ true))

    pair_sound : (e f : ℕ) (w : List Bool) → e < f → f < n → Sound Offends w → Sound Offends (pair_marked meet e f w)
    unfolding pair_marked
    pair_sound e f w h l s =
        mark_sound Offends (meet f e) f (mark (meet e f) e w)
        (mark_sound Offends (meet e f) e w s (λ q. (omega arith, (f, l, (λ z. omega (arith, z)), q))))
        (λ q. (l, (e, omega arith, (λ z. omega (arith, z)), q)))

    rest_sound : (e f m : ℕ) (w : List Bool) → e < f → f + m ≤ n → Sound Offends w → Sound Offends (with_rest meet e f m w)
    unfolding with_rest
    rest_sound e f zero w h l s = s
    rest_sound e f (suc m) w h l s =
        rest_sound e (suc f) m (pair_marked meet e f w) (omega arith) (omega arith) (pair_sound e f w h (omega arith) s)

    pairs_sound : (e m : ℕ) (w : List Bool) → e + m ≤ n → Sound Offends w → Sound Offends (pairs_from meet e m w)
    unfolding pairs_from
    pairs_sound e zero w l s = s
    pairs_sound e (suc m) w l s =
        pairs_sound (suc e) m (with_rest meet e (suc e) m w) (omega arith) (rest_sound e (suc e) m w (omega arith) (omega arith) s)

    all_sound : Sound Offends (pairs_from meet 0 n [])
    all_sound = pairs_sound 0 n [] (omega arith) (λ j q. absurd (true≢false (sym q)))

    all_mean : (k : ℕ) → k < n → (dig (pairs_from meet 0 n []) k ≡ true) ↔ ((f : ℕ) × (f < n) × (k ≡ f → ⊥) × (meet k f ≡ true))
    all_mean k h = ((λ q. (all_sound k q).1), of)
      where
        of : (f : ℕ) × (f < n) × (k ≡ f → ⊥) × (meet k f ≡ true) → dig (pairs_from meet 0 n []) k ≡ true
        of (f, l, ne, q) = go (dec_le k f)
          where
            go : Dec (k ≤ f) → dig (pairs_from meet 0 n []) k ≡ true
            go (yes t) = (pairs_set 0 n k f [] (omega arith) (omega (arith, ne)) (omega arith)).0 q
            go (no t) = (pairs_set 0 n f k [] (omega arith) (omega arith) (omega arith)).1 q

-- ---- of a drawing

module _ (d : Wire) where
  pub offenders-below : (k : ℕ) → dig (offenders d) k ≡ true → k < length d.edges
  unfolding offenders
  offenders-below k q = (all_sound (meet_at d) (length d.edges) k q).0

  pub pairs_tell : PairsTell d
  unfolding offenders
  pairs_tell t = by_others d t (dig (offenders d)) (all_mean (meet_at d) (length d.edges))
