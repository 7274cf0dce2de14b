-- A polynomial identity of points and numbers by one call, of `vring`.
-- `vring ρ a b tt` says that the terms a and b have one value where the list ρ has the values of their variables; tt says that antt
-- finds one normal form for the coordinates of both:
--     vring (vec p ∷ vec q ∷ []) (v 0 · (v 0 ×v v 1)) (k (pos 0)) tt : dot p (cross p q) ≡ pos 0
use mathlib.Core.Path.{◌≡◌, refl, sym, ◌∙◌}
use mathlib.Core.Bool.{Bool, ◌&&◌}
use mathlib.Core.List.{List, [], ◌∷◌}
use Prim.Native.Nat.{ℕ, zero, suc}
use lib.Dec.{T}
use lib.ListN.{get_or}
use lib.IntN.{ℤ, pos, neg_ℤ, ◌+ℤ◌, ◌-ℤ◌, ◌*ℤ◌}
use Rattle.lists.proofs.Truth.{three}
use Rattle.exact.proofs.Ring.{Expr, var, con, ◌⊕◌, ◌⊖◌, ◌⊗◌, neg, eval, norm, all_z, ring}
use Rattle.paper.specs.Points.{pt, origin, plus, minus, times, dot, cross, det}
use Rattle.paper.specs.declared.Point.{Point}

pub data Val : Type 0 where
  num : ℤ → Val
  vec : Point → Val

pub data Sort : Type 0 where
  scalar vector : Sort

infixl 6 ◌+s◌ ◌-s◌ ◌+v◌ ◌-v◌
infixl 7 ◌*s◌ ◌*v◌ ◌·◌ ◌×v◌
pub data Term : Sort → Type 0 where
  k : ℤ → Term scalar
  x : ℕ → Term scalar
  ◌+s◌ : Term scalar → Term scalar → Term scalar
  ◌-s◌ : Term scalar → Term scalar → Term scalar
  ◌*s◌ : Term scalar → Term scalar → Term scalar
  negs : Term scalar → Term scalar
  ◌·◌ : Term vector → Term vector → Term scalar
  dets : Term vector → Term vector → Term vector → Term scalar
  o : Term vector
  v : ℕ → Term vector
  ◌+v◌ : Term vector → Term vector → Term vector
  ◌-v◌ : Term vector → Term vector → Term vector
  ◌*v◌ : Term scalar → Term vector → Term vector
  ◌×v◌ : Term vector → Term vector → Term vector

abbrev pub Den : Sort → Type 0
Den scalar = ℤ
Den vector = Point

abbrev pub num_of : Val → ℤ
num_of (num z) = z
num_of (vec p) = p.x

abbrev pub vec_of : Val → Point
vec_of (num z) = pt z (pos 0) (pos 0)
vec_of (vec p) = p

abbrev pub value : {s : Sort} → List Val → Term s → Den s
value ρ (k c) = c
value ρ (x n) = num_of (get_or ρ n (num (pos 0)))
value ρ (a +s b) = value ρ a +ℤ value ρ b
value ρ (a -s b) = value ρ a -ℤ value ρ b
value ρ (a *s b) = value ρ a *ℤ value ρ b
value ρ (negs a) = neg_ℤ (value ρ a)
value ρ (a · b) = dot (value ρ a) (value ρ b)
value ρ (dets a b c) = det (value ρ a) (value ρ b) (value ρ c)
value ρ o = origin
value ρ (v n) = vec_of (get_or ρ n (num (pos 0)))
value ρ (a +v b) = plus (value ρ a) (value ρ b)
value ρ (a -v b) = minus (value ρ a) (value ρ b)
value ρ (a *v b) = times (value ρ a) (value ρ b)
value ρ (a ×v b) = cross (value ρ a) (value ρ b)

-- ---- the coordinates

pub record E3 : Type 0 where
  pub ex : Expr
  pub ey : Expr
  pub ez : Expr

abbrev pub Coord : Sort → Type 0
Coord scalar = Expr
Coord vector = E3

abbrev pub triple : ℕ → ℕ
triple zero = zero
triple (suc n) = suc (suc (suc (triple n)))

abbrev pub dot_e : E3 → E3 → Expr
dot_e a b = a.ex ⊗ b.ex ⊕ a.ey ⊗ b.ey ⊕ a.ez ⊗ b.ez

abbrev pub cross_e : E3 → E3 → E3
cross_e a b = record { ex = a.ey ⊗ b.ez ⊖ a.ez ⊗ b.ey; ey = a.ez ⊗ b.ex ⊖ a.ex ⊗ b.ez; ez = a.ex ⊗ b.ey ⊖ a.ey ⊗ b.ex }

abbrev pub coords : {s : Sort} → Term s → Coord s
coords (k c) = con c
coords (x n) = var (triple n)
coords (a +s b) = coords a ⊕ coords b
coords (a -s b) = coords a ⊖ coords b
coords (a *s b) = coords a ⊗ coords b
coords (negs a) = neg (coords a)
coords (a · b) = dot_e (coords a) (coords b)
coords (dets a b c) = dot_e (coords a) (cross_e (coords b) (coords c))
coords o = record { ex = con (pos 0); ey = con (pos 0); ez = con (pos 0) }
coords (v n) = record { ex = var (triple n); ey = var (suc (triple n)); ez = var (suc (suc (triple n))) }
coords (a +v b) = record { ex = (coords a).ex ⊕ (coords b).ex; ey = (coords a).ey ⊕ (coords b).ey; ez = (coords a).ez ⊕ (coords b).ez }
coords (a -v b) = record { ex = (coords a).ex ⊖ (coords b).ex; ey = (coords a).ey ⊖ (coords b).ey; ez = (coords a).ez ⊖ (coords b).ez }
coords (a *v b) = record { ex = coords a ⊗ (coords b).ex; ey = coords a ⊗ (coords b).ey; ez = coords a ⊗ (coords b).ez }
coords (a ×v b) = cross_e (coords a) (coords b)

abbrev pub flat_of : Val → List ℤ → List ℤ
flat_of (num z) r = z ∷ pos 0 ∷ pos 0 ∷ r
flat_of (vec p) r = p.x ∷ p.y ∷ p.z ∷ r

abbrev pub flat : List Val → List ℤ
flat [] = []
flat (a ∷ ρ) = flat_of a (flat ρ)

abbrev pub at3 : List ℤ → E3 → Point
at3 ρ e = pt (eval ρ e.ex) (eval ρ e.ey) (eval ρ e.ez)

num_at : (ρ : List Val) (n : ℕ) → num_of (get_or ρ n (num (pos 0))) ≡ get_or (flat ρ) (triple n) (pos 0)
num_at [] n = refl
num_at (num z ∷ ρ) zero = refl
num_at (vec p ∷ ρ) zero = refl
num_at (num z ∷ ρ) (suc n) = num_at ρ n
num_at (vec p ∷ ρ) (suc n) = num_at ρ n

vec_at : (ρ : List Val) (n : ℕ)
    → vec_of (get_or ρ n (num (pos 0))) ≡ pt (get_or (flat ρ) (triple n) (pos 0)) (get_or (flat ρ) (suc (triple n)) (pos 0))
    (get_or (flat ρ) (suc (suc (triple n))) (pos 0))
vec_at [] n = refl
vec_at (num z ∷ ρ) zero = refl
vec_at (vec p ∷ ρ) zero = refl
vec_at (num z ∷ ρ) (suc n) = vec_at ρ n
vec_at (vec p ∷ ρ) (suc n) = vec_at ρ n

abbrev pub Same : (s : Sort) → List Val → Den s → Coord s → Type 0
Same scalar ρ z e = z ≡ eval (flat ρ) e
Same vector ρ p e = p ≡ at3 (flat ρ) e

sound : {s : Sort} (ρ : List Val) (t : Term s) → Same s ρ (value ρ t) (coords t)
unfolding dot cross det plus minus times
sound ρ (k c) = refl
sound ρ (x n) = num_at ρ n
sound ρ (a +s b) = λ i. sound ρ a i +ℤ sound ρ b i
sound ρ (a -s b) = λ i. sound ρ a i -ℤ sound ρ b i
sound ρ (a *s b) = λ i. sound ρ a i *ℤ sound ρ b i
sound ρ (negs a) = λ i. neg_ℤ (sound ρ a i)
sound ρ (a · b) = λ i. dot (sound ρ a i) (sound ρ b i)
sound ρ (dets a b c) = λ i. det (sound ρ a i) (sound ρ b i) (sound ρ c i)
sound ρ o = refl
sound ρ (v n) = vec_at ρ n
sound ρ (a +v b) = λ i. plus (sound ρ a i) (sound ρ b i)
sound ρ (a -v b) = λ i. minus (sound ρ a i) (sound ρ b i)
sound ρ (a *v b) = λ i. times (sound ρ a i) (sound ρ b i)
sound ρ (a ×v b) = λ i. cross (sound ρ a i) (sound ρ b i)

abbrev pub agree : (s : Sort) → Coord s → Coord s → Bool
agree scalar a b = all_z (norm (a ⊖ b))
agree vector a b = all_z (norm (a.ex ⊖ b.ex)) && (all_z (norm (a.ey ⊖ b.ey)) && all_z (norm (a.ez ⊖ b.ez)))

at_coords : (s : Sort) (ρ : List Val) (a b : Den s) (e f : Coord s) → Same s ρ a e → Same s ρ b f → T (agree s e f) → a ≡ b
at_coords scalar ρ a b e f p q t = p ∙ ring (flat ρ) e f t ∙ sym q
at_coords vector ρ a b e f p q t =
    let h = three (all_z (norm (e.ex ⊖ f.ex))) (all_z (norm (e.ey ⊖ f.ey))) (all_z (norm (e.ez ⊖ f.ez))) t in
    p
    ∙ (λ i. pt (ring (flat ρ) e.ex f.ex h.0 i) (ring (flat ρ) e.ey f.ey h.1 i) (ring (flat ρ) e.ez f.ez h.2 i))
    ∙ sym q

pub vring : {s : Sort} (ρ : List Val) (a b : Term s) → T (agree s (coords a) (coords b)) → value ρ a ≡ value ρ b
vring {s} ρ a b t = at_coords s ρ (value ρ a) (value ρ b) (coords a) (coords b) (sound ρ a) (sound ρ b) t
