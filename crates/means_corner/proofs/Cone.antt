-- The closed angle at a point, counterclockwise from one direction to another, by signs of turns. A third direction parts it in two.
use mathlib.Core.Path.{◌≡◌, refl, sym, ◌∙◌, ap}
use mathlib.Core.Bool.{Bool, true, not, ◌&&◌, ◌||◌, cond}
use mathlib.Core.Logic.{◌⊎◌, inl, inr}
use mathlib.Core.List.{List, [], ◌∷◌}
use lib.IntN.{ℤ, pos, neg_ℤ, ◌+ℤ◌, ◌-ℤ◌, ◌*ℤ◌}
use lib.ListN.{get_or}
use Rattle.lists.proofs.Truth.{not-true, implied, or_cases, and_left, and_right, and_both}
use Rattle.exact.specs.Signs.{Sign3, level, sign, negated_sign}
use Rattle.exact.proofs.Ring.{con, ◌⊕◌, ◌⊖◌, ◌⊗◌, neg, ring}
use Rattle.exact.proofs.Signs.{sign-neg, sign_above}
use Rattle.paper.specs.declared.Flat.{Flat}
use Rattle.means_area.specs.Flats.{Up, Nn, twice_area}
use Rattle.means_area.proofs.Flats.Turns.{env, tE, flip_last}
use Rattle.means_inside.specs.Convex.{Hand, lefts, rights, handed as by}
use Rattle.means_corner.proofs.Signs.{up, down, may, three, not_down, every3, tried3}

-- from b to a, with c in between: b a, b c and c a are the turns at the point. Below 180 degrees c is to the left of b and to the right of
-- a; otherwise one of the two
abbrev pub cone : Sign3 → Sign3 → Sign3 → Bool
cone ba bc ca = cond (up ba) (not (down bc) && not (down ca)) (not (down bc) || not (down ca))

abbrev test : List Sign3 → Bool
test s =
    let ba = get_or s 0 level in let bx = get_or s 1 level in let bc = get_or s 2 level in
    let xa = get_or s 3 level in let ca = get_or s 4 level in let xc = get_or s 5 level in
    not (may ba xc bc xa bx ca && cone ba bc ca) || (cone bx bc (negated_sign xc) || cone xa xc ca)

all_tried : every3 6 test ≡ true
all_tried = refl

module _ (h : Hand) (v : Flat) where
  abbrev pub t : Flat → Flat → ℤ
  t x y = by h (twice_area v x y)

  abbrev pub Cone : Flat → Flat → Flat → Type 0
  Cone b a c = cone (sign (t b a)) (sign (t b c)) (sign (t c a)) ≡ true

module _ (v : Flat) where
  pub hand_back : (h : Hand) (x y : Flat) → t h v x y ≡ neg_ℤ (t h v y x)
  hand_back lefts x y = flip_last v x y
  hand_back rights x y = ap neg_ℤ (flip_last v x y)

  four : (h : Hand) (b a x c : Flat) → t h v b a *ℤ t h v x c -ℤ t h v b c *ℤ t h v x a +ℤ t h v b x *ℤ t h v c a ≡ pos 0
  unfolding twice_area
  four lefts b a x c =
      ring (env (pos 0) (v ∷ b ∷ a ∷ x ∷ c ∷ [])) (tE 0 1 2 ⊗ tE 0 3 4 ⊖ tE 0 1 4 ⊗ tE 0 3 2 ⊕ tE 0 1 3 ⊗ tE 0 4 2) (con (pos 0)) tt
  four rights b a x c =
      ring (env (pos 0) (v ∷ b ∷ a ∷ x ∷ c ∷ []))
      (neg (tE 0 1 2) ⊗ neg (tE 0 3 4) ⊖ neg (tE 0 1 4) ⊗ neg (tE 0 3 2) ⊕ neg (tE 0 1 3) ⊗ neg (tE 0 4 2)) (con (pos 0)) tt

  -- parted by x
  pub parted : (h : Hand) (b a x c : Flat) → Cone h v b a c → Cone h v b x c ⊎ Cone h v x a c
  parted h b a x c k =
      go (or_cases (cone (s b x) (s b c) (negated_sign (s x c))) (cone (s x a) (s x c) (s c a))
      (implied (may (s b a) (s x c) (s b c) (s x a) (s b x) (s c a) && cone (s b a) (s b c) (s c a))
      (cone (s b x) (s b c) (negated_sign (s x c)) || cone (s x a) (s x c) (s c a))
      (tried3 6 test all_tried (s b a ∷ s b x ∷ s b c ∷ s x a ∷ s c a ∷ s x c ∷ []) refl)
      (and_both (three (t h v b a) (t h v x c) (t h v b c) (t h v x a) (t h v b x) (t h v c a)
      (four h b a x c)) k)))
    where
      s : Flat → Flat → Sign3
      s y z = sign (t h v y z)

      go : (cone (sign (t h v b x)) (sign (t h v b c)) (negated_sign (sign (t h v x c))) ≡ true)
          ⊎ (cone (sign (t h v x a)) (sign (t h v x c)) (sign (t h v c a)) ≡ true) → Cone h v b x c ⊎ Cone h v x a c
      go (inl q) =
          inl ((λ i. cone (sign (t h v b x)) (sign (t h v b c)) ((ap sign (hand_back h c x) ∙ sign-neg (t h v x c)) i)) ∙ q)
      go (inr q) = inr q

-- below 180 degrees
pub narrow : (h : Hand) (v b a c : Flat) → Up (t h v b a) → Cone h v b a c → Nn (t h v b c) × Nn (t h v c a)
narrow h v b a c u k =
    let bc = sign (t h v b c) in
    let ca = sign (t h v c a) in
    let q : (not (down bc) && not (down ca)) ≡ true = (λ i. cone (sym (sign_above u) i) bc ca) ∙ k in (
      not_down (t h v b c) (not-true (down bc) (and_left (not (down bc)) (not (down ca)) q)),
      not_down (t h v c a) (not-true (down ca) (and_right (not (down bc)) (not (down ca)) q)),
    )
