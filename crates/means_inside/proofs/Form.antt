-- A ring from its lowest corner on: the same links, and a point is odd in it from either start.
use mathlib.Core.Path.{◌≡◌, refl, sym, ◌∙◌, ap, subst}
use mathlib.Core.Logic.{◌⊎◌, inl, inr}
use mathlib.Core.List.{List, [], ◌∷◌, ◌++◌, map}
use Prim.Native.Nat.{◌+◌, ◌≤◌}
use native.Mathlib.Omega.{arith}
use lib.ListN.{length, length-append}
use lib.IntN.{ℤ}
use lib.Signed.{◌<ℤ◌}
use Rattle.paper.specs.declared.Flat.{Flat}
use Rattle.means_area.specs.Rings.{Of, Chain, Link}
use Rattle.means_area.specs.Flats.{Simple, Least}
use Rattle.means_area.proofs.Flats.Lowest.{Found, lowest}
use Rattle.means_area.proofs.Flats.Chains.{chain_split, chain_left, chain_right, of_append, of_swap}
use Rattle.means_area.proofs.Flats.Chains.{turned}
use Rattle.means_inside.specs.Beams.{beam, odd, east}
use Rattle.means_inside.proofs.Parity.{round_turned}
use Rattle.means_inside.proofs.Beside.{Apart, change}
use Rattle.means_inside.proofs.Together.{map_app, h}

-- a ring, and the same from another start
pub data Started : List Flat → List Flat → Type 0 where
  here : (g : List Flat) → Started g g
  there : (a : Flat) (l : List Flat) (b : Flat) (r : List Flat) → Started (a ∷ (l ++ b ∷ r)) (b ∷ (r ++ a ∷ l))

module _ (m : ℤ) where
  -- ---- from the lowest corner
  pub record Form (P : List Flat) : Type 0 where
    pub v : Flat
    pub x : Flat
    pub l : List Flat
    pub simple : Simple m (v ∷ x ∷ l)
    pub low : Least m v (x ∷ l)
    pub size : length (v ∷ x ∷ l) ≡ length P
    pub to : (p q : Flat) → Link (v ∷ x ∷ l) p q → Link P p q
    pub from : (p q : Flat) → Link P p q → Link (v ∷ x ∷ l) p q
    pub in_to : (z : Flat) → Of z (v ∷ x ∷ l) → Of z P
    pub in_from : (z : Flat) → Of z P → Of z (v ∷ x ∷ l)
    pub odds : (z : Flat) → odd z (v ∷ x ∷ l) ≡ odd z P
    pub start : Started P (v ∷ x ∷ l)

  pub turn_link : (x : Flat) (l : List Flat) (y : Flat) (r : List Flat) (p q : Flat) → Link (x ∷ (l ++ y ∷ r)) p q
      → Link (y ∷ (r ++ x ∷ l)) p q
  turn_link x l y r p q k = go (chain_split x l y r x p q k)
    where
      go : Chain x l y p q ⊎ Chain y r x p q → Link (y ∷ (r ++ x ∷ l)) p q
      go (inl d) = chain_right y r x l y p q d
      go (inr d) = chain_left y r x l y p q d

  pub odd_turned : (f : Flat → Flat) (z : Flat) (x : Flat) (l : List Flat) (y : Flat) (r : List Flat)
      → odd z (map f (y ∷ (r ++ x ∷ l))) ≡ odd z (map f (x ∷ (l ++ y ∷ r)))
  odd_turned f z x l y r =
      ap (λ (t : List Flat). odd z (f y ∷ t)) (map_app f r (x ∷ l)) ∙ sym (round_turned (beam z (east z)) (f x) (map f l) (f y) (map f r))
      ∙ ap (λ (t : List Flat). odd z (f x ∷ t)) (sym (map_app f l (y ∷ r)))

  pub link_turned : (f : Flat → Flat) (x : Flat) (l : List Flat) (y : Flat) (r : List Flat) (p q : Flat)
      → Link (map f (y ∷ (r ++ x ∷ l))) p q → Link (map f (x ∷ (l ++ y ∷ r))) p q
  link_turned f x l y r p q j =
      subst (λ (t : List Flat). Link (f x ∷ t) p q) (sym (map_app f l (y ∷ r)))
      (turn_link (f y) (map f r) (f x) (map f l) p q (subst (λ (t : List Flat). Link (f y ∷ t) p q) (map_app f r (x ∷ l)) j))

  pub form : (P : List Flat) → Simple m P → 3 ≤ length P → Form P
  form [] s k = absurd (omega (arith, k))
  form (a ∷ []) s k = absurd (omega (arith, k))
  form (a ∷ (b ∷ r)) s k = go (lowest m a (b ∷ r) s.apart)
    where
      from1 : (X : List Flat) (v : Flat) (Y : List Flat) → Simple m (a ∷ (X ++ v ∷ Y)) → Least m v (a ∷ X) → Least m v Y
          → Form (a ∷ (X ++ v ∷ Y))
      from1 X v [] t lx ly = record {
        v = v;
        x = a;
        l = X;
        simple = turned m a X v [] t;
        low = lx;
        size = let e = length-append X (v ∷ []) in omega (arith, e);
        to = (λ p q j. turn_link v [] a X p q j);
        from = (λ p q j. turn_link a X v [] p q j);
        in_to = (λ z o. of_swap z (v ∷ []) (a ∷ X) o);
        in_from = (λ z o. of_swap z (a ∷ X) (v ∷ []) o);
        odds = (λ z. sym (round_turned (beam z (east z)) a X v []));
        start = there a X v [];
      }
      from1 X v (y ∷ Y) t lx ly = record {
        v = v;
        x = y;
        l = Y ++ a ∷ X;
        simple = turned m a X v (y ∷ Y) t;
        low = low1;
        size = let e = length-append X (v ∷ y ∷ Y) in let e' = length-append Y (a ∷ X) in omega (arith, e, e');
        to = (λ p q j. turn_link v (y ∷ Y) a X p q j);
        from = (λ p q j. turn_link a X v (y ∷ Y) p q j);
        in_to = (λ z o. of_swap z (v ∷ y ∷ Y) (a ∷ X) o);
        in_from = (λ z o. of_swap z (a ∷ X) (v ∷ y ∷ Y) o);
        odds = (λ z. sym (round_turned (beam z (east z)) a X v (y ∷ Y)));
        start = there a X v (y ∷ Y);
      }
        where
          low1 : (z : Flat) → Of z (y ∷ (Y ++ a ∷ X)) → h m v <ℤ (h m) z
          low1 z o = pick (of_append z (y ∷ Y) (a ∷ X) o)
            where
              pick : Of z (y ∷ Y) ⊎ Of z (a ∷ X) → h m v <ℤ (h m) z
              pick (inl p) = ly z p
              pick (inr p) = lx z p

      go : Least m a (b ∷ r) ⊎ Found m a (b ∷ r) → Form (a ∷ b ∷ r)
      go (inl low) =
          record {
            v = a;
            x = b;
            l = r;
            simple = s;
            low = low;
            size = refl;
            to = (λ p q j. j);
            from = (λ p q j. j);
            in_to = (λ z o. o);
            in_from = (λ z o. o);
            odds = (λ z. refl);
            start = here (a ∷ b ∷ r);
          }
      go (inr f) =
          subst (λ (z : List Flat). Simple m (a ∷ z) → Form (a ∷ z)) (sym f.is)
          (λ t. from1 f.before f.v f.after t f.low f.low') s

  pub formed : (P R : List Flat) → Apart m P R → (f : Form P) → Apart m (f.v ∷ f.x ∷ f.l) R
  formed P R t f = change m P (f.v ∷ f.x ∷ f.l) R f.simple f.size f.to f.from f.in_to f.in_from f.odds t
