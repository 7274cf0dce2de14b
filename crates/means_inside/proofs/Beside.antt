-- Two rings that do not cross, with the corners of each outside of the other or common.
use mathlib.Core.Path.{◌≡◌, refl, sym, ◌∙◌, ap, subst}
use mathlib.Core.Bool.{false}
use mathlib.Core.Logic.{◌⊎◌, inl, inr}
use mathlib.Core.List.{List, [], ◌∷◌}
use Prim.Native.Nat.{◌≤◌}
use native.Mathlib.Omega.{arith}
use lib.ListN.{length}
use lib.IntN.{ℤ}
use lib.Signed.{◌<ℤ◌}
use Rattle.exact.proofs.Signs.{<ℤ-ne}
use Rattle.paper.specs.declared.Flat.{Flat}
use Rattle.means_area.specs.Rings.{Of, TheTwo, Chain, Link}
use Rattle.means_area.specs.Flats.{twice_area, Cross, height, WithinSegment, Net, Distinct, Simple, SameSign, both, none, lst}
use Rattle.means_area.proofs.Flats.Signs.{up_is, up_nn}
use Rattle.means_area.proofs.Flats.Turns.{flip}
use Rattle.means_area.proofs.Flats.Net.{Ok}
use Rattle.means_area.proofs.Flats.Choice.{compare}
use Rattle.means_area.proofs.Flats.Chains.{link_back, link_of, cross_turned, chord-clear, chord-free}
use Rattle.means_inside.specs.Beams.{right, OffEverySide, odd}
use Rattle.means_inside.proofs.Beams.{low-is, low_no}
use Rattle.means_inside.proofs.Segment.{off_link, along}

module _ (m : ℤ) where
  abbrev pub h : Flat → ℤ
  h = height m

  pub record Apart (P R : List Flat) : Type 0 where
    pub sp : Simple m P
    pub sr : Simple m R
    pub np : 3 ≤ length P
    pub nr : 3 ≤ length R
    pub clear : (p q r s : Flat) → Link P p q → Link R r s → Cross p q r s → ⊥
    pub free_p : (p q r : Flat) → Link P p q → Of r R → WithinSegment m p q r → ⊥
    pub free_r : (p q r : Flat) → Link R p q → Of r P → WithinSegment m p q r → ⊥
    pub one : (p r : Flat) → Of p P → Of r R → h p ≡ h r → p ≡ r
    pub out_p : (z : Flat) → Of z R → (Of z P → ⊥) → odd z P ≡ false
    pub out_r : (z : Flat) → Of z P → (Of z R → ⊥) → odd z R ≡ false
    pub link : (a b : Flat) → Of a P → Of b P → Of a R → Of b R → (h a ≡ h b → ⊥) → Link P a b × Link R a b
    pub share : (a b c : Flat) → Of a P → Of b P → Of c P → Of a R → Of b R → Of c R → (h a ≡ h b → ⊥) → (h b ≡ h c → ⊥) → (h a ≡ h c → ⊥)
        → ⊥

  pub swap : (P R : List Flat) → Apart P R → Apart R P
  swap P R t = record {
    sp = t.sr;
    sr = t.sp;
    np = t.nr;
    nr = t.np;
    clear = (λ p q r s l k c. t.clear r s q p k (link_back R p q l) (cross_turned m c));
    free_p = t.free_r;
    free_r = t.free_p;
    one = (λ p r o k e. sym (t.one r p k o (sym e)));
    out_p = t.out_r;
    out_r = t.out_p;
    link = (λ a b oa ob ka kb n. let q = t.link a b ka kb oa ob n in (q.1, q.0));
    share = (λ a b c x y z x' y' z'. t.share a b c x' y' z' x y z);
  }

  -- a corner of the one that is not one of the other is on none of its sides
  pub clear_out : (P R : List Flat) → Apart P R → (z : Flat) → Of z R → (Of z P → ⊥) → OffEverySide z P
  clear_out P R t z o n p q l =
      off_link m z p q (λ e. n (subst (λ (y : Flat). Of y P) (t.one p z (link_of P p q l) o e) (link_of P p q l)))
      (λ e. n (subst (λ (y : Flat). Of y P) (t.one q z (link_of P q p (link_back P p q l)) o e) (link_of P q p (link_back P p q l))))
      (λ c. t.free_p p q z l o c) (λ c. t.free_p q p z (link_back P p q l) o c)

  -- at the height of z
  pub has : (z : Flat) (l : List Flat) → ((y : Flat) × Of y l × (h y ≡ h z)) ⊎ ((y : Flat) → Of y l → h y ≡ h z → ⊥)
  has z [] = inr (λ y o e. o)
  has z (x ∷ l) = go (compare (h x) (h z)) (has z l)
    where
      no : (h x ≡ h z → ⊥) → ((y : Flat) → Of y l → h y ≡ h z → ⊥) → (y : Flat) → Of y (x ∷ l) → h y ≡ h z → ⊥
      no n f y (inl q) e = n (sym (ap h q) ∙ e)
      no n f y (inr o) e = f y o e

      rest : (h x ≡ h z → ⊥) → ((y : Flat) × Of y l × (h y ≡ h z)) ⊎ ((y : Flat) → Of y l → h y ≡ h z → ⊥)
          → ((y : Flat) × Of y (x ∷ l) × (h y ≡ h z)) ⊎ ((y : Flat) → Of y (x ∷ l) → h y ≡ h z → ⊥)
      rest n (inl t) = inl (t.0, inr t.1, t.2)
      rest n (inr f) = inr (no n f)

      go : (h x <ℤ h z) ⊎ ((h x ≡ h z) ⊎ (h z <ℤ h x)) → ((y : Flat) × Of y l × (h y ≡ h z)) ⊎ ((y : Flat) → Of y l → h y ≡ h z → ⊥)
          → ((y : Flat) × Of y (x ∷ l) × (h y ≡ h z)) ⊎ ((y : Flat) → Of y (x ∷ l) → h y ≡ h z → ⊥)
      go (inl k) r = rest (<ℤ-ne k) r
      go (inr (inl e)) r = inl (x, inl refl, e)
      go (inr (inr k)) r = rest (λ e. <ℤ-ne k (sym e)) r

  pub member : (P R : List Flat) → Apart P R → (z : Flat) → Of z R → Of z P ⊎ (Of z P → ⊥)
  member P R t z o = go (has z P)
    where
      go : ((y : Flat) × Of y P × (h y ≡ h z)) ⊎ ((y : Flat) → Of y P → h y ≡ h z → ⊥) → Of z P ⊎ (Of z P → ⊥)
      go (inl q) = inl (subst (λ (y : Flat). Of y P) (t.one q.0 z q.1 o q.2) q.1)
      go (inr f) = inr (λ k. f z k refl)

  -- the same ring in another form
  pub change : (P K R : List Flat) → Simple m K → length K ≡ length P → ((p q : Flat) → Link K p q → Link P p q)
      → ((p q : Flat) → Link P p q → Link K p q) → ((z : Flat) → Of z K → Of z P) → ((z : Flat) → Of z P → Of z K)
      → ((z : Flat) → odd z K ≡ odd z P)
      → Apart P R → Apart K R
  change P K R s e f f' o o' d t = record {
    sp = s;
    sr = t.sr;
    np = let n = t.np in omega (arith, e, n);
    nr = t.nr;
    clear = (λ p q r s l k c. t.clear p q r s (f p q l) k c);
    free_p = (λ p q r l k c. t.free_p p q r (f p q l) k c);
    free_r = (λ p q r l k c. t.free_r p q r l (o r k) c);
    one = (λ p r k k' e. t.one p r (o p k) k' e);
    out_p = (λ z k n. d z ∙ t.out_p z k (λ q. n (o' z q)));
    out_r = (λ z k n. t.out_r z (o z k) n);
    link = (λ a b oa ob ka kb n. let q = t.link a b (o a oa) (o b ob) ka kb n in (f' a b q.0, q.1));
    share = (λ a b c x y z x' y' z'. t.share a b c (o a x) (o b y) (o c z) x' y' z');
  }

  -- one corner at a height
  pub one_at : (g : List Flat) → Distinct m g → (p r : Flat) → Of p g → Of r g → h p ≡ h r → p ≡ r
  one_at [] d p r o k e = absurd o
  one_at (x ∷ l) d p r (inl a) (inl b) e = a ∙ sym b
  one_at (x ∷ l) d p r (inl a) (inr k) e = absurd (d.0 r k (sym e ∙ ap h a))
  one_at (x ∷ l) d p r (inr o) (inl b) e = absurd (d.0 p o (e ∙ ap h b))
  one_at (x ∷ l) d p r (inr o) (inr k) e = one_at l d.1 p r o k e

  -- to one side
  pub same-right : (p v a b : Flat) → SameSign (twice_area v p a) (twice_area v p b) → right p v a ≡ right p v b
  unfolding right
  same-right p v a b (both x y) =
      low-is (twice_area p v a) (up_nn (up_is (flip v p a ∙ refl) x)) ∙ sym (low-is (twice_area p v b) (up_nn (up_is (flip v p b ∙ refl) y)))
  same-right p v a b (none x y) =
      low_no (twice_area p v a) (up_is (sym (flip p v a)) x) ∙ sym (low_no (twice_area p v b) (up_is (sym (flip p v b)) y))

  -- ---- along links that a ring does not touch
  module _ (L : Flat → Flat → Type 0) (C : Flat → Type 0) (net : Net m L C) (R : List Flat) (fR : (p q : Flat) → Link R p q → L p q)
      (cR : (z : Flat) → Of z R → C z) where
    step : (z z' : Flat) → L z z' → (h z ≡ h z' → ⊥) → OffEverySide z R → OffEverySide z' R → odd z R ≡ odd z' R
    step z z' l ne c c' =
        along m z z' ne R c c' (λ a b k x. net.clear l (fR a b k) x) (λ a b k x. net.free l (cR a (link_of R a b k)) x)
        (λ a b k x. net.free (net.back l) (cR a (link_of R a b k)) x)

    pub onward : (x : Flat) (l : List Flat) (e : Flat) → Distinct m (x ∷ l) → ((p q : Flat) → Chain x l e p q → L p q)
        → ((z : Flat) → Of z (x ∷ l) → OffEverySide z R) → odd x R ≡ false → (z : Flat) → Of z (x ∷ l) → odd z R ≡ false
    onward x [] e d f c s z (inl q) = ap (λ (y : Flat). odd y R) q ∙ s
    onward x [] e d f c s z (inr o) = absurd o
    onward x (y ∷ l) e d f c s z (inl q) = ap (λ (y : Flat). odd y R) q ∙ s
    onward x (y ∷ l) e d f c s z (inr o) =
        onward y l e d.1 (λ p q k. f p q (inr k)) (λ t k. c t (inr k))
        (sym (step x y (f x y (inl (inl (refl, refl)))) (λ q. d.0 y (inl refl) (sym q)) (c x (inl refl)) (c y (inr (inl refl)))) ∙ s) z o

    pub backward : (x : Flat) (l : List Flat) (e : Flat) → Distinct m (x ∷ l) → ((p q : Flat) → Chain x l e p q → L p q)
        → ((z : Flat) → Of z (x ∷ l) → OffEverySide z R) → odd (lst x l) R ≡ false → (z : Flat) → Of z (x ∷ l) → odd z R ≡ false
    backward x [] e d f c s z (inl q) = ap (λ (y : Flat). odd y R) q ∙ s
    backward x [] e d f c s z (inr o) = absurd o
    backward x (y ∷ l) e d f c s z (inr o) = backward y l e d.1 (λ p q k. f p q (inr k)) (λ t k. c t (inr k)) s z o
    backward x (y ∷ l) e d f c s z (inl q) =
        ap (λ (y : Flat). odd y R) q ∙ step x y (f x y (inl (inl (refl, refl)))) (λ q. d.0 y (inl refl) (sym q)) (c x (inl refl))
        (c y (inr (inl refl)))
        ∙ backward y l e d.1 (λ p q k. f p q (inr k)) (λ t k. c t (inr k)) s y (inl refl)

  -- ---- a ring and a chord
  pub joint : (g : List Flat) (x y : Flat) → Simple m g → Ok m (Link g) (λ z. Of z g) x y → Of x g → Of y g
      → Net m (λ p q. Link g p q ⊎ TheTwo x y p q) (λ z. Of z g)
  joint g x y s ok ox oy = record {
    back = (λ {p} {q} l. bk p q l);
    end = (λ {p} {q} l. en p q l);
    clear = (λ {p} {q} {r} {s = t} l n c. chord-clear m g x y s ok p q r t l n c);
    free = (λ {p} {q} {r} l n c. chord-free m g x y s ok p q r l n c);
  }
    where
      bk : (p q : Flat) → Link g p q ⊎ TheTwo x y p q → Link g q p ⊎ TheTwo x y q p
      bk p q (inl l) = inl (link_back g p q l)
      bk p q (inr (inl e)) = inr (inr (e.1, e.0))
      bk p q (inr (inr e)) = inr (inl (e.1, e.0))

      en : (p q : Flat) → Link g p q ⊎ TheTwo x y p q → Of p g
      en p q (inl l) = link_of g p q l
      en p q (inr (inl e)) = subst (λ (z : Flat). Of z g) (sym e.0) ox
      en p q (inr (inr e)) = subst (λ (z : Flat). Of z g) (sym e.0) oy
