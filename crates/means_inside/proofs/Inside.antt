-- The theorems: where a point lies in a simple polygon, by its triangles; for every ray; from every start; along a segment that touches
-- no side.
use mathlib.Core.Path.{◌≡◌, refl, sym, ◌∙◌, ap}
use mathlib.Core.Bool.{Bool, true, false, true≢false}
use mathlib.Core.Logic.{◌⊎◌, inl, inr}
use mathlib.Core.List.{List, [], ◌∷◌, ◌++◌, map}
use Prim.Native.Nat.{ℕ}
use native.Mathlib.Omega.{arith}
use lib.IntN.{ℤ, pos, neg_ℤ}
use Rattle.lists.specs.Lists.{sides, any_true, odd_true}
use Rattle.paper.specs.Polygon.{touches, crosses, placed, where_flat}
use Rattle.paper.specs.declared.Flat.{Flat}
use Rattle.paper.specs.declared.Where.{Where}
use Rattle.paper.specs.declared.Where.TheVariants.{Outside, Border, Inside}
use Rattle.means_area.specs.Rings.{Of}
use Rattle.means_area.specs.Flats.{Up, Nn, twice_area}
use Rattle.means_area.proofs.Flats.Chains.{link_of, link_back}
use Rattle.means_inside.specs.Beams.{round, beam, facing, Off, OffEverySide, odd}
use Rattle.means_inside.specs.Regions.{Cut, At, cut_hits}
use Rattle.means_inside.specs.Touch.{Touch}
use Rattle.means_inside.specs.Means.{big}
use Rattle.means_inside.proofs.Parity.{odd-round}
use Rattle.means_inside.proofs.Triangle.{by_ray, out, left_off}
use Rattle.means_inside.proofs.Ears.{off_or}
use Rattle.means_inside.proofs.Triangles.{hits_are}
use Rattle.means_inside.proofs.Parts.{cover_at}
use Rattle.means_inside.proofs.One.{Whole, whole}
use Rattle.means_inside.proofs.Scale.{crosses_back, odd_is, any-clear, any_touch, touch_not}
use Rattle.means_inside.specs.Theorems.{WhereMeans}
use Rattle.means_inside.proofs.Form.{odd_turned, link_turned}

code : Where → ℕ
code Outside = 0
code Border = 1
code Inside = 2

bo : Border ≡ Outside → ⊥
unfolding code
bo e = let z : ◌≡◌ {A = ℕ} 1 0 = ap code e in absurd (omega (arith, z))

bi : Border ≡ Inside → ⊥
unfolding code
bi e = let z : ◌≡◌ {A = ℕ} 1 2 = ap code e in absurd (omega (arith, z))

pub io : Inside ≡ Outside → ⊥
unfolding code
io e = let z : ◌≡◌ {A = ℕ} 2 0 = ap code e in absurd (omega (arith, z))

module _ (m d : ℤ) (k : Up d) (g : List Flat) (p : Flat) where
  abbrev G : List Flat
  G = map (big d) g

  -- the definition, by the two tests
  by_tests : (x y : Bool) → any_true (sides (touches p d) g) ≡ x → odd p G ≡ y → where_flat p d g ≡ placed x y
  unfolding where_flat
  by_tests x y e f = λ i. placed (e i) ((odd_is p d k g ∙ f) i)

  -- the three ways
  pub data Ways : Type 0 where
    at_border : Touch p G → where_flat p d g ≡ Border → Ways
    at_inside : OffEverySide p G → odd p G ≡ true → where_flat p d g ≡ Inside → Ways
    at-outside : OffEverySide p G → odd p G ≡ false → where_flat p d g ≡ Outside → Ways

  pub ways : Ways
  unfolding placed
  ways = go (any_true (sides (touches p d) g)) (odd p G) refl refl
    where
      go : (x y : Bool) → any_true (sides (touches p d) g) ≡ x → odd p G ≡ y → Ways
      go true y e f = at_border (any_touch p d k g e) (by_tests true y e f)
      go false true e f = at_inside (any-clear p d k g e) f (by_tests false true e f)
      go false false e f = at-outside (any-clear p d k g e) f (by_tests false false e f)

-- on a side, or not
pub touch_border : (d : ℤ) → Up d → (g : List Flat) (p : Flat) → Touch p (map (big d) g) → where_flat p d g ≡ Border
touch_border d k g p t = go (ways (pos 0) d k g p)
  where
    go : Ways (pos 0) d k g p → where_flat p d g ≡ Border
    go (at_border u e) = e
    go (at_inside c o e) = absurd (touch_not p d k g c t)
    go (at-outside c o e) = absurd (touch_not p d k g c t)

pub inside_off : (d : ℤ) → Up d → (g : List Flat) (p : Flat) → where_flat p d g ≡ Inside → Touch p (map (big d) g) → ⊥
inside_off d k g p e t = bi (sym (touch_border d k g p t) ∙ e)

clear_of : (p : Flat) (g : List Flat) → (Touch p g → ⊥) → OffEverySide p g
clear_of p g n a b l = go (off_or p a b)
  where
    go : Off p a b ⊎ ((twice_area a b p ≡ pos 0) × Nn (neg_ℤ (facing p a b))) → Off p a b
    go (inl o) = o
    go (inr t) = absurd (n (record { a = a; b = b; side = l; line = t.0; mid = t.1 }))

-- two rings with the same sides at p and the same parity give the same answer, also for two points
pub agree : (d : ℤ) → Up d → (p q : Flat) (g h : List Flat) → (Touch p (map (big d) g) → Touch q (map (big d) h))
    → (Touch q (map (big d) h) → Touch p (map (big d) g))
    → (OffEverySide p (map (big d) g) → OffEverySide q (map (big d) h) → odd p (map (big d) g) ≡ odd q (map (big d) h))
    → where_flat p d g ≡ where_flat q d h
agree d k p q g h to from o = go (ways (pos 0) d k g p) (ways (pos 0) d k h q)
  where
    go : Ways (pos 0) d k g p → Ways (pos 0) d k h q → where_flat p d g ≡ where_flat q d h
    go (at_border t e) (at_border u f) = e ∙ sym f
    go (at_border t e) (at_inside c y f) = e ∙ sym (touch_border d k h q (to t))
    go (at_border t e) (at-outside c y f) = e ∙ sym (touch_border d k h q (to t))
    go (at_inside c x e) (at_border u f) = touch_border d k g p (from u) ∙ sym f
    go (at-outside c x e) (at_border u f) = touch_border d k g p (from u) ∙ sym f
    go (at_inside c x e) (at_inside c' y f) = e ∙ sym f
    go (at-outside c x e) (at-outside c' y f) = e ∙ sym f
    go (at_inside c x e) (at-outside c' y f) = absurd (true≢false (sym x ∙ o c c' ∙ y))
    go (at-outside c x e) (at_inside c' y f) = absurd (true≢false (sym y ∙ sym (o c c') ∙ x))

-- whatever ray is asked, not only the one in the first coordinate's direction
pub every_ray_says : (d : ℤ) → Up d → (g : List Flat) (p q : Flat) → Up (facing p q q) → (Touch p (map (big d) g) → ⊥)
    → (round (beam p q) (map (big d) g) ≡ true → where_flat p d g ≡ Inside)
    × (round (beam p q) (map (big d) g) ≡ false → where_flat p d g ≡ Outside)
every_ray_says d k g p q h n = go (ways (pos 0) d k g p)
  where
    go : Ways (pos 0) d k g p → (round (beam p q) (map (big d) g) ≡ true → where_flat p d g ≡ Inside)
        × (round (beam p q) (map (big d) g) ≡ false → where_flat p d g ≡ Outside)
    go (at_border t e) = absurd (n t)
    go (at_inside c o e) = ((λ r. e), (λ r. absurd (true≢false (sym o ∙ by_ray p q (map (big d) g) c h ∙ r))))
    go (at-outside c o e) = ((λ r. absurd (true≢false (sym r ∙ sym (by_ray p q (map (big d) g) c h) ∙ o))), (λ r. e))

-- the number of sides met is odd where the number of triangles with an odd number of sides met is, for every triangulation and every
-- point
pub any_triangles : (m d : ℤ) → Up d → (g : List Flat) (t : Cut m g) (p : Flat) → odd_true (sides (crosses p d) g) ≡ cut_hits (crosses p d) t
any_triangles m d k g t p = odd-round (crosses p d) g ∙ hits_are m (crosses p d) (crosses_back p d k) g t

-- every triangulation covers the inside and the border
pub any_cover : (m d : ℤ) → Up d → (g : List Flat) (t : Cut m g) (p : Flat) → (where_flat p d g ≡ Outside → ⊥) → At (big d) t p
any_cover m d k g t p n = go (ways m d k g p)
  where
    go : Ways m d k g p → At (big d) t p
    go (at_border h e) = cover_at m d k p g t (inr h)
    go (at_inside c o e) = cover_at m d k p g t (inl o)
    go (at-outside c o e) = absurd (n e)

-- the meaning
pub means : WhereMeans
means m g n s = record {
  cut = r.cut;
  border = (λ d k p e. border d k p e (ways m d k g p));
  on_border = (λ d k p t. touch_border d k g p t);
  inside = (λ d k p e. inside d k p e (ways m d k g p));
  is_inside_lem = (λ d k p a t. is_inside_lem d k p a t (ways m d k g p));
  outside = (λ d k p e a. outside d k p e a (ways m d k g p));
  is_outside = (λ d k p a. is_outside d k p a (ways m d k g p));
  one_way = r.way;
  no_overlap = (λ d k p n o. r.single d k p (clear_of p (map (big d) g) n) o);
}
  where
    r : Whole m g
    r = whole m g n s

    border : (d : ℤ) (k : Up d) (p : Flat) → where_flat p d g ≡ Border → Ways m d k g p → Touch p (map (big d) g)
    border d k p e (at_border t f) = t
    border d k p e (at_inside c o f) = absurd (bi (sym e ∙ f))
    border d k p e (at-outside c o f) = absurd (bo (sym e ∙ f))

    inside : (d : ℤ) (k : Up d) (p : Flat) → where_flat p d g ≡ Inside → Ways m d k g p
        → At (big d) r.cut p × (Touch p (map (big d) g) → ⊥)
    inside d k p e (at_border t f) = absurd (bi (sym f ∙ e))
    inside d k p e (at_inside c o f) = (cover_at m d k p g r.cut (inl o), touch_not p d k g c)
    inside d k p e (at-outside c o f) = absurd (io (sym e ∙ f))

    is_inside_lem : (d : ℤ) (k : Up d) (p : Flat) → At (big d) r.cut p → (Touch p (map (big d) g) → ⊥) → Ways m d k g p
        → where_flat p d g ≡ Inside
    is_inside_lem d k p a n (at_border t f) = absurd (n t)
    is_inside_lem d k p a n (at_inside c o f) = f
    is_inside_lem d k p a n (at-outside c o f) = absurd (true≢false (sym (r.inside d k p c a) ∙ o))

    outside : (d : ℤ) (k : Up d) (p : Flat) → where_flat p d g ≡ Outside → At (big d) r.cut p → Ways m d k g p → ⊥
    outside d k p e a (at_border t f) = bo (sym f ∙ e)
    outside d k p e a (at_inside c o f) = io (sym f ∙ e)
    outside d k p e a (at-outside c o f) = true≢false (sym (r.inside d k p c a) ∙ o)

    is_outside : (d : ℤ) (k : Up d) (p : Flat) → (At (big d) r.cut p → ⊥) → Ways m d k g p → where_flat p d g ≡ Outside
    is_outside d k p a (at_border t f) = absurd (a (cover_at m d k p g r.cut (inr t)))
    is_outside d k p a (at_inside c o f) = absurd (a (cover_at m d k p g r.cut (inl o)))
    is_outside d k p a (at-outside c o f) = f

-- from every start: of any ring
pub any_start : (d : ℤ) → Up d → (x : Flat) (l : List Flat) (y : Flat) (r : List Flat) (p : Flat)
    → where_flat p d (x ∷ (l ++ y ∷ r)) ≡ where_flat p d (y ∷ (r ++ x ∷ l))
any_start d k x l y r p =
    agree d k p p (x ∷ (l ++ y ∷ r)) (y ∷ (r ++ x ∷ l)) (touch x l y r) (touch y r x l)
    (λ c c'. sym (odd_turned (pos 0) (big d) p x l y r))
  where
    touch : (a : Flat) (u : List Flat) (b : Flat) (v : List Flat) → Touch p (map (big d) (a ∷ (u ++ b ∷ v)))
        → Touch p (map (big d) (b ∷ (v ++ a ∷ u)))
    touch a u b v t =
        record { a = t.a; b = t.b; side = link_turned (pos 0) (big d) b v a u t.a t.b t.side; line = t.line; mid = t.mid }

-- a point that has a line to one side of which all corners are is outside
pub one_sided : (d : ℤ) → Up d → (g : List Flat) (p q : Flat) → ((z : Flat) → Of z (map (big d) g) → Up (twice_area p q z))
    → where_flat p d g ≡ Outside
one_sided d k [] p q h = go (ways (pos 0) d k [] p)
  where
    go : Ways (pos 0) d k [] p → where_flat p d [] ≡ Outside
    go (at_border t e) = absurd t.side
    go (at_inside c o e) = absurd (true≢false (sym o))
    go (at-outside c o e) = e
one_sided d k (x ∷ l) p q h = go (ways (pos 0) d k (x ∷ l) p)
  where
    go : Ways (pos 0) d k (x ∷ l) p → where_flat p d (x ∷ l) ≡ Outside
    go (at_border t e) =
        absurd
        (left_off p q t.a t.b (h t.a (link_of (map (big d) (x ∷ l)) t.a t.b t.side))
        (h t.b (link_of (map (big d) (x ∷ l)) t.b t.a (link_back (map (big d) (x ∷ l)) t.a t.b t.side))) t.line
        t.mid)
    go (at_inside c o e) = absurd (true≢false (sym o ∙ out p q (big d x) (map (big d) (x ∷ l)) c (h (big d x) (inl refl)) h))
    go (at-outside c o e) = e
