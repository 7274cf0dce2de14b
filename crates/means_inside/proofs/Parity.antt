-- Parities around a ring: of a ring that is cut, and of two that differ by a potential.
use mathlib.Core.Path.{◌≡◌, refl, sym, ◌∙◌, ap}
use mathlib.Core.Bool.{Bool, true, false, xor}
use mathlib.Core.Logic.{inl, inr}
use mathlib.Core.List.{List, [], ◌∷◌, ◌++◌}
use Rattle.lists.specs.Lists.{sides, sides_from, odd_true}
use Rattle.lists.proofs.Truth.{xor_assoc, xor-false, false_xor, xor_same}
use Rattle.paper.specs.declared.Flat.{Flat}
use Rattle.means_area.specs.Rings.{Of, Chain, Link}
use Rattle.means_area.specs.Flats.{lst}
use Rattle.means_inside.specs.Beams.{odd_along, round}

pub xor_self : (a : Bool) → xor a a ≡ false
unfolding xor
xor_self true = refl
xor_self false = refl

pub xor_comm : (a b : Bool) → xor a b ≡ xor b a
unfolding xor
xor_comm true true = refl
xor_comm true false = refl
xor_comm false true = refl
xor_comm false false = refl

-- four that add up in another order
pub swap4 : (a b c d : Bool) → xor (xor a b) (xor c d) ≡ xor (xor a c) (xor b d)
swap4 a b c d =
    xor_assoc a b (xor c d) ∙ ap (xor a) (sym (xor_assoc b c d) ∙ ap (λ (z : Bool). xor z d) (xor_comm b c) ∙ xor_assoc c b d)
    ∙ sym (xor_assoc a c (xor b d))

-- the middle one twice
pub mid : (a b c : Bool) → xor (xor a b) (xor b c) ≡ xor a c
mid a b c = xor_assoc a b (xor b c) ∙ ap (xor a) (sym (xor_assoc b b c) ∙ ap (λ (z : Bool). xor z c) (xor_self b) ∙ false_xor c)

pub walk_split : (f : Flat → Flat → Bool) (x : Flat) (l : List Flat) (y : Flat) (r : List Flat) (e : Flat)
    → odd_along f x (l ++ y ∷ r) e ≡ xor (odd_along f x l y) (odd_along f y r e)
walk_split f x [] y r e = refl
walk_split f x (z ∷ l) y r e = ap (xor (f x z)) (walk_split f z l y r e) ∙ sym (xor_assoc (f x z) (odd_along f z l y) (odd_along f y r e))

-- another start
pub round_turned : (f : Flat → Flat → Bool) (x : Flat) (l : List Flat) (y : Flat) (r : List Flat)
    → round f (x ∷ (l ++ y ∷ r)) ≡ round f (y ∷ (r ++ x ∷ l))
round_turned f x l y r = walk_split f x l y r x ∙ xor_comm (odd_along f x l y) (odd_along f y r x) ∙ sym (walk_split f y r x l y)

-- a chord from the first corner
pub round-cut : (f : Flat → Flat → Bool) (u : Flat) (l : List Flat) (w : Flat) (r : List Flat) → f w u ≡ f u w
    → round f (u ∷ (l ++ w ∷ r)) ≡ xor (round f (u ∷ (l ++ w ∷ []))) (round f (u ∷ w ∷ r))
round-cut f u l w r e =
    walk_split f u l w r u
    ∙ sym (mid (odd_along f u l w) (f w u) (odd_along f w r u))
    ∙ (λ i. xor (sym (walk_split f u l w [] u) i) (xor (e i) (odd_along f w r u)))

-- the first corner off
walk_end : (f : Flat → Flat → Bool) (x : Flat) (l : List Flat) (e g : Flat)
    → odd_along f x l e ≡ xor (xor (f (lst x l) e) (f (lst x l) g)) (odd_along f x l g)
walk_end f x [] e g = sym (xor_assoc (f x e) (f x g) (f x g) ∙ ap (xor (f x e)) (xor_self (f x g)) ∙ xor-false (f x e))
walk_end f x (y ∷ l) e g =
    ap (xor (f x y)) (walk_end f y l e g)
    ∙ sym (xor_assoc (f x y) (xor (f (lst y l) e) (f (lst y l) g)) (odd_along f y l g))
    ∙ ap (λ (z : Bool). xor z (odd_along f y l g)) (xor_comm (f x y) (xor (f (lst y l) e) (f (lst y l) g)))
    ∙ xor_assoc (xor (f (lst y l) e) (f (lst y l) g)) (f x y) (odd_along f y l g)

pub round-ear : (f : Flat → Flat → Bool) (u c : Flat) (l : List Flat) → f (lst c l) c ≡ f c (lst c l)
    → round f (u ∷ c ∷ l) ≡ xor (round f (u ∷ c ∷ lst c l ∷ [])) (round f (c ∷ l))
round-ear f u c l e =
    let a = lst c l in
    ap (xor (f u c))
    (walk_end f c l u c ∙ ap (λ (z : Bool). xor z (odd_along f c l c)) (xor_comm (f a u) (f a c) ∙ ap (λ (z : Bool). xor z (f a u)) e))
    ∙ sym (xor_assoc (f u c) (xor (f c a) (f a u)) (odd_along f c l c))

-- two that differ at each side by what a potential changes
pub tele : (f k : Flat → Flat → Bool) (s : Flat → Bool) (x : Flat) (l : List Flat) (e : Flat)
    → ((a b : Flat) → Chain x l e a b → xor (f a b) (k a b) ≡ xor (s a) (s b))
    → xor (odd_along f x l e) (odd_along k x l e) ≡ xor (s x) (s e)
tele f k s x [] e h = h x e (inl (refl, refl))
tele f k s x (y ∷ l) e h =
    swap4 (f x y) (odd_along f y l e) (k x y) (odd_along k y l e)
    ∙ (λ i. xor (h x y (inl (inl (refl, refl))) i) (tele f k s y l e (λ a b c. h a b (inr c)) i))
    ∙ mid (s x) (s y) (s e)

pub potential : (f k : Flat → Flat → Bool) (s : Flat → Bool) (g : List Flat)
    → ((a b : Flat) → Link g a b → xor (f a b) (k a b) ≡ xor (s a) (s b)) → round f g ≡ round k g
potential f k s [] h = refl
potential f k s (x ∷ l) h = xor_same (odd_along f x l x) (odd_along k x l x) (tele f k s x l x h ∙ xor_self (s x))

-- only the last side counts
pub quiet : (f : Flat → Flat → Bool) (x : Flat) (l : List Flat) (e : Flat)
    → ((a b : Flat) → Of a (x ∷ l) → Of b (x ∷ l) → Chain x l e a b → f a b ≡ false) → odd_along f x l e ≡ f (lst x l) e
quiet f x [] e h = refl
quiet f x (y ∷ l) e h =
    ap (λ (z : Bool). xor z (odd_along f y l e)) (h x y (inl refl) (inr (inl refl)) (inl (inl (refl, refl)))) ∙ false_xor (odd_along f y l e)
    ∙ quiet f y l e (λ a b o q c. h a b (inr o) (inr q) (inr c))

-- none counts
pub silent : (f : Flat → Flat → Bool) (x : Flat) (l : List Flat) (e : Flat) → ((a b : Flat) → Chain x l e a b → f a b ≡ false)
    → odd_along f x l e ≡ false
unfolding xor
silent f x [] e h = h x e (inl (refl, refl))
silent f x (y ∷ l) e h = (λ i. xor (h x y (inl (inl (refl, refl))) i) (silent f y l e (λ a b c. h a b (inr c)) i))

-- two that agree at the sides
pub walk_same : (f k : Flat → Flat → Bool) (x : Flat) (l : List Flat) (e : Flat) → ((a b : Flat) → f a b ≡ k a b)
    → odd_along f x l e ≡ odd_along k x l e
walk_same f k x [] e h = h x e
walk_same f k x (y ∷ l) e h = λ i. xor (h x y i) (walk_same f k y l e h i)

-- the definition's sides
from-walk : (f : Flat → Flat → Bool) (a x : Flat) (l : List Flat) → odd_true (sides_from f a x l) ≡ odd_along f x l a
unfolding odd_true sides_from
from-walk f a x [] = xor-false (f x a)
from-walk f a x (y ∷ l) = ap (xor (f x y)) (from-walk f a y l)

pub odd-round : (f : Flat → Flat → Bool) (g : List Flat) → odd_true (sides f g) ≡ round f g
unfolding odd_true sides
odd-round f [] = refl
odd-round f (x ∷ l) = from-walk f x x l
