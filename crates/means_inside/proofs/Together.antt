-- Two rings that are apart: a part of one, both together, and fewer links of both.
use mathlib.Core.Path.{◌≡◌, refl, sym, ap, subst}
use mathlib.Core.Bool.{true, false}
use mathlib.Core.Logic.{◌⊎◌, inl, inr}
use mathlib.Core.List.{List, [], ◌∷◌, ◌++◌, map}
use Prim.Native.Nat.{ℕ, ◌+◌, ◌≤◌}
use lib.ListN.{length}
use lib.IntN.{ℤ}
use lib.Signed.{◌<ℤ◌}
use Rattle.exact.proofs.Signs.{<ℤ-ne}
use Rattle.paper.specs.declared.Flat.{Flat}
use Rattle.means_area.specs.Rings.{Of, TheTwo, Link}
use Rattle.means_area.specs.Flats.{Cross, height, WithinSegment, Net, Simple, lst}
use Rattle.means_area.proofs.Flats.Choice.{compare}
use Rattle.means_area.proofs.Flats.Chains.{link_back, link_of, of_append, of_left}
use Rattle.means_area.proofs.Flats.Chains.{of_right, cross_turned, cross_back}
use Rattle.means_inside.specs.Beams.{Off, OffEverySide, odd}
use Rattle.means_inside.proofs.Ears.{off_back}
use Rattle.means_inside.proofs.Beside.{Apart}

pub map_app : (f : Flat → Flat) (l r : List Flat) → map f (l ++ r) ≡ map f l ++ map f r
map_app f [] r = refl
map_app f (x ∷ l) r = ap (λ (t : List Flat). f x ∷ t) (map_app f l r)

pub lst_map : (f : Flat → Flat) (c : Flat) (l : List Flat) → lst (f c) (map f l) ≡ f (lst c l)
lst_map f c [] = refl
lst_map f c (x ∷ l) = lst_map f x l

pub eqd : (a b : ℤ) → (a ≡ b) ⊎ (a ≡ b → ⊥)
eqd a b = go (compare a b)
  where
    go : (a <ℤ b) ⊎ ((a ≡ b) ⊎ (b <ℤ a)) → (a ≡ b) ⊎ (a ≡ b → ⊥)
    go (inl k) = inr (λ e. <ℤ-ne k e)
    go (inr (inl e)) = inl e
    go (inr (inr k)) = inr (λ e. <ℤ-ne k (sym e))

-- a point off a ring and off a chord is off what they make
pub clear_with : (p : Flat) (P K : List Flat) (c d : Flat) → OffEverySide p P → Off p c d
    → ((a b : Flat) → Link K a b → Link P a b ⊎ TheTwo c d a b) → OffEverySide p K
clear_with p P K c d k o f a b l = go (f a b l)
  where
    go : Link P a b ⊎ TheTwo c d a b → Off p a b
    go (inl t) = k a b t
    go (inr (inl e)) = subst (λ (z : Flat). Off p z b) (sym e.0) (subst (λ (z : Flat). Off p c z) (sym e.1) o)
    go (inr (inr e)) = subst (λ (z : Flat). Off p z b) (sym e.0) (subst (λ (z : Flat). Off p d z) (sym e.1) (off_back p c d o))

module _ (m : ℤ) where
  abbrev pub h : Flat → ℤ
  h = height m

  abbrev pub Disjoint : ℕ → Type 0
  Disjoint n =
      (P R : List Flat) → length P + length R ≤ n → Apart m P R → (p : Flat) → OffEverySide p P → OffEverySide p R → odd p P ≡ true → odd p R ≡ true → ⊥

  -- a part of P, with a chord from c to d
  pub sub_apart : (P K R : List Flat) (c d : Flat) → Apart m P R → Simple m K → 3 ≤ length K
      → ((a b : Flat) → Link K a b → Link P a b ⊎ TheTwo c d a b) → ((z : Flat) → Of z K → Of z P)
      → ((a b : Flat) → Link P a b → Of a K → Of b K → Link K a b)
      → ((a b : Flat) → Link R a b → Cross c d a b → ⊥) → ((r : Flat) → Of r R → WithinSegment m c d r → ⊥) → ((r : Flat) → Of r R → WithinSegment m d c r → ⊥)
      → ((z : Flat) → Of z R → (Of z K → ⊥) → odd z K ≡ false) → Apart m K R
  sub_apart P K R c d t s n f i k uncut bare bare' out = record {
    sp = s;
    sr = t.sr;
    np = n;
    nr = t.nr;
    clear = (λ p q r s l j x. cl p q r s (f p q l) j x);
    free_p = (λ p q r l j x. fr p q r (f p q l) j x);
    free_r = (λ p q r l j x. t.free_r p q r l (i r j) x);
    one = (λ p r j j' e. t.one p r (i p j) j' e);
    out_p = out;
    out_r = (λ z j n. t.out_r z (i z j) n);
    link = (λ a b oa ob ka kb n. let q = t.link a b (i a oa) (i b ob) ka kb n in (k a b q.0 oa ob, q.1));
    share = (λ a b c x y z x' y' z'. t.share a b c (i a x) (i b y) (i c z) x' y' z');
  }
    where
      cl : (p q r s : Flat) → Link P p q ⊎ TheTwo c d p q → Link R r s → Cross p q r s → ⊥
      cl p q r s (inl l) j x = t.clear p q r s l j x
      cl p q r s (inr (inl e)) j x =
          uncut r s j (subst (λ (z : Flat). Cross z d r s) e.0 (subst (λ (z : Flat). Cross p z r s) e.1 x))
      cl p q r s (inr (inr e)) j x =
          uncut s r (link_back R r s j)
          (cross_back m (subst (λ (z : Flat). Cross z c r s) e.0 (subst (λ (z : Flat). Cross p z r s) e.1 x)))

      fr : (p q r : Flat) → Link P p q ⊎ TheTwo c d p q → Of r R → WithinSegment m p q r → ⊥
      fr p q r (inl l) j x = t.free_p p q r l j x
      fr p q r (inr (inl e)) j x = bare r j (subst (λ (z : Flat). WithinSegment m z d r) e.0 (subst (λ (z : Flat). WithinSegment m p z r) e.1 x))
      fr p q r (inr (inr e)) j x = bare' r j (subst (λ (z : Flat). WithinSegment m z c r) e.0 (subst (λ (z : Flat). WithinSegment m p z r) e.1 x))

  -- both rings together
  pub together : (P R : List Flat) → Apart m P R → Net m (λ a b. Link P a b ⊎ Link R a b) (λ z. Of z (P ++ R))
  together P R t =
      record {
        back = (λ {p} {q} l. bk p q l);
        end = (λ {p} {q} l. en p q l);
        clear = (λ {p} {q} {r} {s} l k c. cl p q r s l k c);
        free = (λ {p} {q} {r} l o c. fr p q r l (of_append r P R o) c);
      }
    where
      bk : (p q : Flat) → Link P p q ⊎ Link R p q → Link P q p ⊎ Link R q p
      bk p q (inl l) = inl (link_back P p q l)
      bk p q (inr l) = inr (link_back R p q l)

      en : (p q : Flat) → Link P p q ⊎ Link R p q → Of p (P ++ R)
      en p q (inl l) = of_left p P R (link_of P p q l)
      en p q (inr l) = of_right p P R (link_of R p q l)

      cl : (p q r s : Flat) → Link P p q ⊎ Link R p q → Link P r s ⊎ Link R r s → Cross p q r s → ⊥
      cl p q r s (inl l) (inl k) c = t.sp.net.clear l k c
      cl p q r s (inl l) (inr k) c = t.clear p q r s l k c
      cl p q r s (inr l) (inl k) c = t.clear r s q p k (link_back R p q l) (cross_turned m c)
      cl p q r s (inr l) (inr k) c = t.sr.net.clear l k c

      fr : (p q r : Flat) → Link P p q ⊎ Link R p q → Of r P ⊎ Of r R → WithinSegment m p q r → ⊥
      fr p q r (inl l) (inl o) c = t.sp.net.free l o c
      fr p q r (inl l) (inr o) c = t.free_p p q r l o c
      fr p q r (inr l) (inl o) c = t.free_r p q r l o c
      fr p q r (inr l) (inr o) c = t.sr.net.free l o c

  pub fewer : (L K : Flat → Flat → Type 0) (C : Flat → Type 0) → Net m L C → ((a b : Flat) → K a b → L a b)
      → ((a b : Flat) → K a b → K b a)
      → Net m K C
  fewer L K C n f b =
      record {
        back = (λ {p} {q} l. b p q l);
        end = (λ {p} {q} l. n.end (f p q l));
        clear = (λ {p} {q} {r} {s} l k c. n.clear (f p q l) (f r s k) c);
        free = (λ {p} {q} {r} l o c. n.free (f p q l) o c);
      }
