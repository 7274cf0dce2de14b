-- Rings: their links, their corners, another start, what a chord cuts off.
use mathlib.Core.Path.{◌≡◌, refl, sym, ◌∙◌, ap, subst}
use mathlib.Core.Logic.{◌⊎◌, inl, inr}
use mathlib.Core.List.{List, [], ◌∷◌, ◌++◌}
use lib.IntN.{ℤ}
use Rattle.paper.specs.declared.Flat.{Flat}
use Rattle.means_area.specs.Rings.{Of, TheTwo, Chain, Link}
use Rattle.means_area.specs.Flats.{twice_area, Cross, height, WithinSegment, Distinct, Simple, lst}
use Rattle.means_area.proofs.Flats.Signs.{zero_off}
use Rattle.means_area.proofs.Flats.Turns.{flat-first, flat-second}
use Rattle.means_area.proofs.Flats.Net.{Ok}

module _ {A : Type 0} where
  pub lst_append : (x : A) (l : List A) (y : A) (r : List A) → lst x (l ++ y ∷ r) ≡ lst y r
  lst_append x [] y r = refl
  lst_append x (z ∷ l) y r = lst_append z l y r

  pub lst_of : (x : A) (l : List A) → Of (lst x l) (x ∷ l)
  lst_of x [] = inl refl
  lst_of x (y ∷ l) = inr (lst_of y l)

  pair_back : (x y p q : A) → TheTwo x y p q → TheTwo x y q p
  pair_back x y p q (inl t) = inr (t.1, t.0)
  pair_back x y p q (inr t) = inl (t.1, t.0)

  pub chain_back : (x : A) (l : List A) (e p q : A) → Chain x l e p q → Chain x l e q p
  chain_back x [] e p q c = pair_back x e p q c
  chain_back x (y ∷ l) e p q (inl c) = inl (pair_back x y p q c)
  chain_back x (y ∷ l) e p q (inr c) = inr (chain_back y l e p q c)

  pub link_back : (g : List A) (p q : A) → Link g p q → Link g q p
  link_back [] p q l = l
  link_back (x ∷ l) p q c = chain_back x l x p q c

  pub chain_split : (x : A) (l : List A) (y : A) (r : List A) (e p q : A) → Chain x (l ++ y ∷ r) e p q → Chain x l y p q ⊎ Chain y r e p q
  chain_split x [] y r e p q c = c
  chain_split x (z ∷ l) y r e p q (inl c) = inl (inl c)
  chain_split x (z ∷ l) y r e p q (inr c) = go (chain_split z l y r e p q c)
    where
      go : Chain z l y p q ⊎ Chain y r e p q → Chain x (z ∷ l) y p q ⊎ Chain y r e p q
      go (inl d) = inl (inr d)
      go (inr d) = inr d

  pub chain_left : (x : A) (l : List A) (y : A) (r : List A) (e p q : A) → Chain x l y p q → Chain x (l ++ y ∷ r) e p q
  chain_left x [] y r e p q c = inl c
  chain_left x (z ∷ l) y r e p q (inl c) = inl c
  chain_left x (z ∷ l) y r e p q (inr c) = inr (chain_left z l y r e p q c)

  pub chain_right : (x : A) (l : List A) (y : A) (r : List A) (e p q : A) → Chain y r e p q → Chain x (l ++ y ∷ r) e p q
  chain_right x [] y r e p q c = inr c
  chain_right x (z ∷ l) y r e p q c = inr (chain_right z l y r e p q c)

  -- the last link
  pub chain-last : (x : A) (l : List A) (e : A) → Chain x l e (lst x l) e
  chain-last x [] e = inl (refl, refl)
  chain-last x (y ∷ l) e = inr (chain-last y l e)

  -- all links but the last go on where the way goes on
  pub chain_cut : (x : A) (l : List A) (e : A) (y : A) (r : List A) (f p q : A) → Chain x l e p q
      → Chain x (l ++ y ∷ r) f p q ⊎ TheTwo (lst x l) e p q
  chain_cut x [] e y r f p q c = inr c
  chain_cut x (z ∷ l) e y r f p q (inl c) = inl (inl c)
  chain_cut x (z ∷ l) e y r f p q (inr c) = go (chain_cut z l e y r f p q c)
    where
      go : Chain z (l ++ y ∷ r) f p q ⊎ TheTwo (lst z l) e p q → Chain x (z ∷ (l ++ y ∷ r)) f p q ⊎ TheTwo (lst z l) e p q
      go (inl d) = inl (inr d)
      go (inr d) = inr d

  -- another end
  pub chain_end : (x : A) (l : List A) (e f p q : A) → Chain x l e p q → Chain x l f p q ⊎ TheTwo (lst x l) e p q
  chain_end x [] e f p q c = inr c
  chain_end x (z ∷ l) e f p q (inl c) = inl (inl c)
  chain_end x (z ∷ l) e f p q (inr c) = go (chain_end z l e f p q c)
    where
      go : Chain z l f p q ⊎ TheTwo (lst z l) e p q → Chain x (z ∷ l) f p q ⊎ TheTwo (lst z l) e p q
      go (inl d) = inl (inr d)
      go (inr d) = inr d

  -- an end of a link is a corner
  pub chain_of : (x : A) (l : List A) (e p q : A) → Chain x l e p q → Of p (x ∷ l) ⊎ (p ≡ e)
  chain_of x [] e p q (inl t) = inl (inl t.0)
  chain_of x [] e p q (inr t) = inr t.0
  chain_of x (y ∷ l) e p q (inl (inl t)) = inl (inl t.0)
  chain_of x (y ∷ l) e p q (inl (inr t)) = inl (inr (inl t.0))
  chain_of x (y ∷ l) e p q (inr c) = go (chain_of y l e p q c)
    where
      go : Of p (y ∷ l) ⊎ (p ≡ e) → Of p (x ∷ y ∷ l) ⊎ (p ≡ e)
      go (inl o) = inl (inr o)
      go (inr o) = inr o

  pub link_of : (g : List A) (p q : A) → Link g p q → Of p g
  link_of [] p q l = l
  link_of (x ∷ l) p q c = go (chain_of x l x p q c)
    where
      go : Of p (x ∷ l) ⊎ (p ≡ x) → Of p (x ∷ l)
      go (inl o) = o
      go (inr e) = inl e

-- ---- corners left out

pub data Sub : List Flat → List Flat → Type 0 where
  done : Sub [] []
  keep : {x : Flat} {l r : List Flat} → Sub l r → Sub (x ∷ l) (x ∷ r)
  skip : {x : Flat} {l r : List Flat} → Sub l r → Sub l (x ∷ r)

pub sub_all : (l : List Flat) → Sub l l
sub_all [] = done
sub_all (x ∷ l) = keep (sub_all l)

pub sub_none : (l : List Flat) → Sub [] l
sub_none [] = done
sub_none (x ∷ l) = skip (sub_none l)

pub sub_left : (l r : List Flat) → Sub l (l ++ r)
sub_left [] r = sub_none r
sub_left (x ∷ l) r = keep (sub_left l r)

pub sub_append : {l r l' r' : List Flat} → Sub l r → Sub l' r' → Sub (l ++ l') (r ++ r')
sub_append done t = t
sub_append (keep s) t = keep (sub_append s t)
sub_append (skip s) t = skip (sub_append s t)

pub sub_of : (z : Flat) {l r : List Flat} → Sub l r → Of z l → Of z r
sub_of z done o = o
sub_of z (keep s) (inl e) = inl e
sub_of z (keep s) (inr o) = inr (sub_of z s o)
sub_of z (skip s) o = inr (sub_of z s o)

module _ {A : Type 0} where
  pub of_append : (z : A) (l r : List A) → Of z (l ++ r) → Of z l ⊎ Of z r
  of_append z [] r o = inr o
  of_append z (x ∷ l) r (inl e) = inl (inl e)
  of_append z (x ∷ l) r (inr o) = go (of_append z l r o)
    where
      go : Of z l ⊎ Of z r → Of z (x ∷ l) ⊎ Of z r
      go (inl p) = inl (inr p)
      go (inr p) = inr p

  pub of_left : (z : A) (l r : List A) → Of z l → Of z (l ++ r)
  of_left z (x ∷ l) r (inl e) = inl e
  of_left z (x ∷ l) r (inr o) = inr (of_left z l r o)
  of_left z [] r o = absurd o

  pub of_right : (z : A) (l r : List A) → Of z r → Of z (l ++ r)
  of_right z [] r o = o
  of_right z (x ∷ l) r o = inr (of_right z l r o)

  pub of_swap : (z : A) (l r : List A) → Of z (l ++ r) → Of z (r ++ l)
  of_swap z l r o = go (of_append z l r o)
    where
      go : Of z l ⊎ Of z r → Of z (r ++ l)
      go (inl p) = of_right z r l p
      go (inr p) = of_left z r l p

module _ (m : ℤ) where
  abbrev h : Flat → ℤ
  h = height m

  pub sub_distinct : {l r : List Flat} → Sub l r → Distinct m r → Distinct m l
  sub_distinct done d = d
  sub_distinct (keep s) d = ((λ z o e. d.0 z (sub_of z s o) e), sub_distinct s d.1)
  sub_distinct (skip s) d = sub_distinct s d.1

  distinct_both : (l r : List Flat) → Distinct m l → Distinct m r → ((z w : Flat) → Of z l → Of w r → h z ≡ h w → ⊥) → Distinct m (l ++ r)
  distinct_both [] r d e f = e
  distinct_both (x ∷ l) r d e f = (go, distinct_both l r d.1 e (λ z w o p. f z w (inr o) p))
    where
      go : (z : Flat) → Of z (l ++ r) → h z ≡ h x → ⊥
      go z o q = pick (of_append z l r o)
        where
          pick : Of z l ⊎ Of z r → ⊥
          pick (inl p) = d.0 z p q
          pick (inr p) = f x z (inl refl) p (sym q)

  pub distinct_across : (l r : List Flat) → Distinct m (l ++ r) → (z w : Flat) → Of z l → Of w r → h z ≡ h w → ⊥
  distinct_across (x ∷ l) r d z w (inl e) p q = d.0 w (of_right w l r p) (sym q ∙ ap h e)
  distinct_across (x ∷ l) r d z w (inr o) p q = distinct_across l r d.1 z w o p q
  distinct_across [] r d z w o p q = absurd o

  pub distinct_swap : (l r : List Flat) → Distinct m (l ++ r) → Distinct m (r ++ l)
  distinct_swap l r d =
      distinct_both r l (sub_distinct (sub_right l r) d) (sub_distinct (sub_left l r) d)
      (λ z w o p q. distinct_across l r d w z p o (sym q))
    where
      sub_right : (l r : List Flat) → Sub r (l ++ r)
      sub_right [] r = sub_all r
      sub_right (x ∷ l) r = skip (sub_right l r)

  -- ---- simple rings
  pub cross_turned : {p q r s : Flat} → Cross p q r s → Cross r s q p
  cross_turned c = record { left = c.ahead; right = c.behind; ahead = c.right; behind = c.left }

  pub cross_back : {p q r s : Flat} → Cross p q r s → Cross q p s r
  cross_back c = record { left = c.right; right = c.left; ahead = c.behind; behind = c.ahead }

  -- a ring with a chord that may be added: no two of its links cross, and no corner is within one
  module _ (g : List Flat) (x y : Flat) (s : Simple m g) (ok : Ok m (Link g) (λ z. Of z g) x y) where
    chord : (p q r t : Flat) → TheTwo x y p q → Link g r t → Cross p q r t → ⊥
    chord p q r t (inl e) l c = ok.uncut l (subst (λ (z : Flat). Cross z y r t) e.0 (subst (λ (z : Flat). Cross p z r t) e.1 c))
    chord p q r t (inr e) l c =
        ok.uncut (link_back g r t l)
        (cross_back (subst (λ (z : Flat). Cross z x r t) e.0 (subst (λ (z : Flat). Cross p z r t) e.1 c)))

    twice : (p q r t : Flat) → TheTwo x y p q → TheTwo x y r t → Cross p q r t → ⊥
    twice p q r t (inl e) (inl f) c = zero_off (ap (twice_area p q) (f.0 ∙ sym e.0) ∙ flat-first p q) c.left
    twice p q r t (inl e) (inr f) c = zero_off (ap (twice_area p q) (f.0 ∙ sym e.1) ∙ flat-second p q) c.left
    twice p q r t (inr e) (inl f) c = zero_off (ap (twice_area p q) (f.0 ∙ sym e.1) ∙ flat-second p q) c.left
    twice p q r t (inr e) (inr f) c = zero_off (ap (twice_area p q) (f.0 ∙ sym e.0) ∙ flat-first p q) c.left

    pub chord-clear : (p q r t : Flat) → Link g p q ⊎ TheTwo x y p q → Link g r t ⊎ TheTwo x y r t → Cross p q r t → ⊥
    chord-clear p q r t (inl l) (inl n) c = s.net.clear l n c
    chord-clear p q r t (inl l) (inr n) c = chord r t q p n (link_back g p q l) (cross_turned c)
    chord-clear p q r t (inr l) (inl n) c = chord p q r t l n c
    chord-clear p q r t (inr l) (inr n) c = twice p q r t l n c

    pub chord-free : (p q r : Flat) → Link g p q ⊎ TheTwo x y p q → Of r g → WithinSegment m p q r → ⊥
    chord-free p q r (inl l) n c = s.net.free l n c
    chord-free p q r (inr (inl e)) n c =
        ok.bare n (subst (λ (z : Flat). WithinSegment m z y r) e.0 (subst (λ (z : Flat). WithinSegment m p z r) e.1 c))
    chord-free p q r (inr (inr e)) n c =
        ok.bare_back n (subst (λ (z : Flat). WithinSegment m z x r) e.0 (subst (λ (z : Flat). WithinSegment m p z r) e.1 c))

  -- some links are left out, and the chord x y may be new
  pub narrow : (g k : List Flat) (x y : Flat) → Simple m g → ((p q : Flat) → Link k p q → Link g p q ⊎ TheTwo x y p q)
      → ((z : Flat) → Of z k → Of z g) → Distinct m k
      → Ok m (Link g) (λ z. Of z g) x y → Simple m k
  narrow g k x y s f o d ok = record {
    apart = d;
    net = record {
      back = (λ {p} {q} l. link_back k p q l);
      end = (λ {p} {q} l. link_of k p q l);
      clear = (λ {p} {q} {r} {s = t} l n c. chord-clear g x y s ok p q r t (f p q l) (f r t n) c);
      free = (λ {p} {q} {r} l n c. chord-free g x y s ok p q r (f p q l) (o r n) c);
    };
  }

  -- another start
  pub turned : (x : Flat) (l : List Flat) (y : Flat) (r : List Flat) → Simple m (x ∷ (l ++ y ∷ r)) → Simple m (y ∷ (r ++ x ∷ l))
  turned x l y r s = record {
    apart = distinct_swap (x ∷ l) (y ∷ r) s.apart;
    net = record {
      back = (λ {p} {q} l. link_back k p q l);
      end = (λ {p} {q} l. link_of k p q l);
      clear = (λ {p} {q} {r = a} {s = b} l n c. s.net.clear (f p q l) (f a b n) c);
      free = (λ {p} {q} {r = a} j n c. s.net.free (f p q j) (of_swap a (y ∷ r) (x ∷ l) n) c);
    };
  }
    where
      k : List Flat
      k = y ∷ (r ++ x ∷ l)

      f : (p q : Flat) → Link k p q → Link (x ∷ (l ++ y ∷ r)) p q
      f p q c = go (chain_split y r x l y p q c)
        where
          go : Chain y r x p q ⊎ Chain x l y p q → Link (x ∷ (l ++ y ∷ r)) p q
          go (inl d) = chain_right x l y r x p q d
          go (inr d) = chain_left x l y r x p q d

  pub ok_turned : (x : Flat) (l : List Flat) (y : Flat) (r : List Flat) (s t : Flat)
      → Ok m (Link (y ∷ (r ++ x ∷ l))) (λ z. Of z (y ∷ (r ++ x ∷ l))) s t
      → Ok m (Link (x ∷ (l ++ y ∷ r))) (λ z. Of z (x ∷ (l ++ y ∷ r))) s t
  ok_turned x l y r s t ok = record {
    uncut = (λ {p} {q} n c. ok.uncut (f p q (chain_split x l y r x p q n)) c);
    bare = (λ {r = z} n c. ok.bare (of_swap z (x ∷ l) (y ∷ r) n) c);
    bare_back = (λ {r = z} n c. ok.bare_back (of_swap z (x ∷ l) (y ∷ r) n) c);
  }
    where
      f : (p q : Flat) → Chain x l y p q ⊎ Chain y r x p q → Link (y ∷ (r ++ x ∷ l)) p q
      f p q (inl d) = chain_right y r x l y p q d
      f p q (inr d) = chain_left y r x l y p q d
