-- Segments whose boxes are apart have no common point.
use mathlib.Core.Path.{◌≡◌, refl, sym, ◌∙◌, ap}
use mathlib.Core.Bool.{Bool, true, false, cond, ◌||◌, or_comm, true≢false}
use mathlib.Core.Logic.{◌⊎◌, inl, inr, ⊎_elim}
use mathlib.Core.List.{[], ◌∷◌}
use lib.IntN.{ℤ, pos, ◌+ℤ◌, ◌-ℤ◌, ◌*ℤ◌}
use lib.Signed.{le_z, lt_z, ◌≤ℤ◌, ◌<ℤ◌, ≤ℤ_refl, <ℤ-≤ℤ_trans, clash_ℤ}
use Rattle.exact.proofs.Ring.{var, ◌⊕◌, ◌⊖◌, ◌⊗◌, ring}
use Rattle.exact.proofs.Signs.{lt_yes, lt-or-ge, le_yes, le_is, <ℤ-≤ℤ, le_subst}
use Rattle.exact.proofs.Order.{mul-le, mul-lt, add_le, sub_nonneg, lt_chain}
use Rattle.lists.proofs.Truth.{or_cases, never_true}
use Rattle.paper.specs.Points.{plus, minus, times}
use Rattle.paper.specs.Drawing.{open_meets}
use Rattle.paper.specs.declared.Point.{Point}
use Rattle.means_drawing.specs.Segments.{Inner, Whole, Common}
use Rattle.means_drawing.proofs.Segments.{open_meets_means}
use Rattle.fast_meets.specs.Boxes.{lesser, greater, low_corner, high_corner, clear, boxes_apart, are_apart}
use Rattle.fast_meets.specs.Theorems.{BoxesTell}

-- ---- the lesser and the greater of two numbers

module _ (a b : ℤ) where
  which : (a ≤ℤ b) ⊎ (b <ℤ a)
  which = ⊎_elim inr inl (lt-or-ge b a)

  lesser_le : (lesser a b ≤ℤ a) × (lesser a b ≤ℤ b)
  unfolding lesser
  lesser_le = go (le_z a b) refl
    where
      go : (t : Bool) → le_z a b ≡ t → (cond t a b ≤ℤ a) × (cond t a b ≤ℤ b)
      go true e = (≤ℤ_refl a, le_yes e)
      go false e = (⊎_elim (λ h. absurd (true≢false (sym (le_is h) ∙ e))) (λ h. <ℤ-≤ℤ h) which, ≤ℤ_refl b)

  greater_ge : (a ≤ℤ greater a b) × (b ≤ℤ greater a b)
  unfolding greater
  greater_ge = go (le_z a b) refl
    where
      go : (t : Bool) → le_z a b ≡ t → (a ≤ℤ cond t b a) × (b ≤ℤ cond t b a)
      go true e = (le_yes e, ≤ℤ_refl b)
      go false e = (≤ℤ_refl a, ⊎_elim (λ h. absurd (true≢false (sym (le_is h) ∙ e))) (λ h. <ℤ-≤ℤ h) which)

-- ---- a place of the way from a to b is between them, along an axis

module _ (D P a b : ℤ) (least : pos 0 ≤ℤ P) (most : P ≤ℤ D) where
  mean : (D -ℤ P) *ℤ a +ℤ P *ℤ b ≡ D *ℤ a +ℤ P *ℤ (b -ℤ a)
  mean =
      ring (D ∷ P ∷ a ∷ b ∷ []) ((var 0 ⊖ var 1) ⊗ var 2 ⊕ var 1 ⊗ var 3) (var 0 ⊗ var 2 ⊕ var 1 ⊗ (var 3 ⊖ var 2)) tt

  level : (k : ℤ) → (D -ℤ P) *ℤ k +ℤ P *ℤ k ≡ D *ℤ k
  level k = ring (D ∷ P ∷ k ∷ []) ((var 0 ⊖ var 1) ⊗ var 2 ⊕ var 1 ⊗ var 2) (var 0 ⊗ var 2) tt

  below_high : (D *ℤ a +ℤ P *ℤ (b -ℤ a)) ≤ℤ (D *ℤ greater a b)
  below_high =
      let h = greater_ge a b in
      le_subst mean (level (greater a b)) (add_le (mul-le (D -ℤ P) (sub_nonneg most) h.0) (mul-le P least h.1))

  above_low : (D *ℤ lesser a b) ≤ℤ (D *ℤ a +ℤ P *ℤ (b -ℤ a))
  above_low =
      let h = lesser_le a b in
      le_subst (level (lesser a b)) mean (add_le (mul-le (D -ℤ P) (sub_nonneg most) h.0) (mul-le P least h.1))

-- ---- two places at one number: the spans are not clear of each other

module _ (D P E S a b c d : ℤ) (h : pos 0 ≤ℤ P) (l : P ≤ℤ D) (m : pos 0 ≤ℤ S) (k : S ≤ℤ E) (Dp : pos 0 <ℤ D) (Ep : pos 0 <ℤ E) where
  -- the one's span does not end before the other's begins
  not-before : E *ℤ (D *ℤ a +ℤ P *ℤ (b -ℤ a)) ≡ D *ℤ (E *ℤ c +ℤ S *ℤ (d -ℤ c)) → greater a b <ℤ lesser c d → ⊥
  not-before e t =
      let one = mul-le E (<ℤ-≤ℤ Ep) (below_high D P a b h l) in
      let other = mul-le D (<ℤ-≤ℤ Dp) (above_low E S c d m k) in
      let swap = ring (D ∷ E ∷ lesser c d ∷ []) (var 0 ⊗ (var 1 ⊗ var 2)) (var 1 ⊗ (var 0 ⊗ var 2)) tt in
      clash_ℤ (<ℤ-≤ℤ_trans (mul-lt E Ep (mul-lt D Dp t)) (le_subst swap (sym e) other)) one

module _ {a b c d : Point} (y : Common a b c d) where
  abbrev D : ℤ
  D = y.here.scale

  abbrev P : ℤ
  P = y.here.place

  abbrev E : ℤ
  E = y.there.scale

  abbrev S : ℤ
  S = y.there.place

  -- along one axis
  never_clear : (a b c d : ℤ) → E *ℤ (D *ℤ a +ℤ P *ℤ (b -ℤ a)) ≡ D *ℤ (E *ℤ c +ℤ S *ℤ (d -ℤ c))
      → clear (lesser a b) (greater a b) (lesser c d) (greater c d) ≡ true → ⊥
  unfolding clear
  never_clear a b c d e t = go (or_cases (lt_z (greater c d) (lesser a b)) (lt_z (greater a b) (lesser c d)) t)
    where
      i : Inner
      i = y.here

      w : Whole
      w = y.there

      Dp : pos 0 <ℤ D
      Dp = lt_chain i.after i.before

      go : (lt_z (greater c d) (lesser a b) ≡ true) ⊎ (lt_z (greater a b) (lesser c d) ≡ true) → ⊥
      go (inl q) =
          not-before E S D P c d a b w.least w.most (<ℤ-≤ℤ i.after) (<ℤ-≤ℤ i.before) w.some Dp (sym e) (lt_yes q)
      go (inr q) =
          not-before D P E S a b c d (<ℤ-≤ℤ i.after) (<ℤ-≤ℤ i.before) w.least w.most Dp w.some e (lt_yes q)

  pub boxes_touch : are_apart a b c d ≡ true → ⊥
  unfolding boxes_apart low_corner high_corner plus minus times
  boxes_touch t =
      let cx = clear (lesser a.x b.x) (greater a.x b.x) (lesser c.x d.x) (greater c.x d.x) in
      let cy = clear (lesser a.y b.y) (greater a.y b.y) (lesser c.y d.y) (greater c.y d.y) in
      let cz = clear (lesser a.z b.z) (greater a.z b.z) (lesser c.z d.z) (greater c.z d.z) in
      ⊎_elim
      (λ (q : cx || cy ≡ true).
      ⊎_elim
      (never_clear a.x b.x c.x d.x (ap (λ (p : Point). p.x) y.is))
      (never_clear a.y b.y c.y d.y (ap (λ (p : Point). p.y) y.is))
      (or_cases cx cy q))
      (never_clear a.z b.z c.z d.z (ap (λ (p : Point). p.z) y.is))
      (or_cases (cx || cy) cz t)

-- ---- the theorem

clear_swap : (low high l h : ℤ) → clear low high l h ≡ clear l h low high
unfolding clear
clear_swap low high l h = or_comm (lt_z h low) (lt_z high l)

boxes_swap : (a b c d : Point) → are_apart a b c d ≡ are_apart c d a b
unfolding boxes_apart
boxes_swap a b c d =
    let low = low_corner a b in
    let high = high_corner a b in
    let l = low_corner c d in
    let h = high_corner c d in
    λ i.
    clear_swap low.x high.x l.x h.x i || clear_swap low.y high.y l.y h.y i
    || clear_swap low.z high.z l.z h.z i

pub boxes_tell : (a b c d : Point) → BoxesTell a b c d
boxes_tell a b c d long t = record {
  first = never_true (open_meets a b c d) (λ e. boxes_touch ((open_meets_means a b c d long.ab).0 e) t);
  second =
      never_true (open_meets c d a b) (λ e. boxes_touch ((open_meets_means c d a b long.cd).0 e) (sym (boxes_swap a b c d) ∙ t));
}
