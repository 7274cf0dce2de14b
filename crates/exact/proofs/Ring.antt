-- A polynomial identity over ℤ by one call, of `ring`.
-- `Expr` is a polynomial expression over variables that are numbered from 0, `eval ρ e` its value where the list ρ has the variables'
-- values, and `norm` its normal
-- form, a sorted list of terms, each a sorted list of variables with a coefficient. antt computes `norm`, and `ring` says that two
-- expressions whose difference has no
-- coefficient but 0 have one value:
--     ring (a ∷ b ∷ []) ((var 0 ⊕ var 1) ⊗ (var 0 ⊖ var 1)) (var 0 ⊗ var 0 ⊖ var 1 ⊗ var 1) tt : (a +ℤ b) *ℤ (a -ℤ b) ≡ a *ℤ a -ℤ b *ℤ b
use mathlib.Core.Path.{◌≡◌, refl, sym, ◌∙◌, ap}
use mathlib.Core.Bool.{Bool, true, false, ◌&&◌}
use mathlib.Core.List.{List, [], ◌∷◌}
use Prim.Native.Nat.{ℕ, zero, suc, compare, Ordering}
use lib.Dec.{T, leb, compare_is_eq, eqb→eq}
use lib.ListN.{get_or}
use lib.IntN.{ℤ, pos, negsuc, neg_ℤ, ◌+ℤ◌, ◌-ℤ◌, ◌*ℤ◌, +ℤ_idl, +ℤ_idr, +ℤ_assoc, +ℤ_comm, neg_ℤ-+ℤ, zero-*ℤ, *ℤ-zero}
use Rattle.exact.proofs.Laws.{add_mulℤ, mul_addℤ, neg_mulℤ, *ℤ-assoc, mul_swap_mid, mul_left_commℤ, one_*ℤ, *ℤ-1, eq_of_sub}

infixl 6 ◌⊕◌ ◌⊖◌
infixl 7 ◌⊗◌
pub data Expr : Type 0 where
  var : ℕ → Expr
  con : ℤ → Expr
  ◌⊕◌ : Expr → Expr → Expr
  ◌⊖◌ : Expr → Expr → Expr
  ◌⊗◌ : Expr → Expr → Expr
  neg : Expr → Expr

abbrev pub eval : List ℤ → Expr → ℤ
eval ρ (var v) = get_or ρ v (pos 0)
eval ρ (con c) = c
eval ρ (a ⊕ b) = eval ρ a +ℤ eval ρ b
eval ρ (a ⊖ b) = eval ρ a -ℤ eval ρ b
eval ρ (a ⊗ b) = eval ρ a *ℤ eval ρ b
eval ρ (neg a) = neg_ℤ (eval ρ a)

-- ---- a product of variables, sorted

abbrev eval_m : List ℤ → List ℕ → ℤ
eval_m ρ [] = pos 1
eval_m ρ (v ∷ m) = get_or ρ v (pos 0) *ℤ eval_m ρ m

abbrev pub put_pick : Bool → ℕ → ℕ → List ℕ → List ℕ → List ℕ
put_pick true v w m r = v ∷ w ∷ m
put_pick false v w m r = w ∷ r

-- what `let` binds is not computed where the test does not ask for it
abbrev pub put : ℕ → List ℕ → List ℕ
put v [] = v ∷ []
put v (w ∷ m) = let r = put v m in put_pick (leb v w) v w m r

abbrev pub times : List ℕ → List ℕ → List ℕ
times [] b = b
times (v ∷ a) b = put v (times a b)

abbrev pub first_of : Ordering → Ordering → Ordering
first_of Ordering.lt o = Ordering.lt
first_of Ordering.eq o = o
first_of Ordering.gt o = Ordering.gt

abbrev pub cmp_m : List ℕ → List ℕ → Ordering
cmp_m [] [] = Ordering.eq
cmp_m [] (w ∷ b) = Ordering.lt
cmp_m (v ∷ a) [] = Ordering.gt
cmp_m (v ∷ a) (w ∷ b) = let r = cmp_m a b in first_of (compare v w) r

put_pick_sound : (ρ : List ℤ) (t : Bool) (v w : ℕ) (m r : List ℕ) → eval_m ρ r ≡ get_or ρ v (pos 0) *ℤ eval_m ρ m
    → eval_m ρ (put_pick t v w m r) ≡ get_or ρ v (pos 0) *ℤ (get_or ρ w (pos 0) *ℤ eval_m ρ m)
put_pick_sound ρ true v w m r h = refl
put_pick_sound ρ false v w m r h =
    ap (λ (x : ℤ). get_or ρ w (pos 0) *ℤ x) h ∙ mul_left_commℤ (get_or ρ w (pos 0)) (get_or ρ v (pos 0)) (eval_m ρ m)

put_sound : (ρ : List ℤ) (v : ℕ) (m : List ℕ) → eval_m ρ (put v m) ≡ get_or ρ v (pos 0) *ℤ eval_m ρ m
put_sound ρ v [] = refl
put_sound ρ v (w ∷ m) = put_pick_sound ρ (leb v w) v w m (put v m) (put_sound ρ v m)

times_sound : (ρ : List ℤ) (a b : List ℕ) → eval_m ρ (times a b) ≡ eval_m ρ a *ℤ eval_m ρ b
times_sound ρ [] b = sym (one_*ℤ (eval_m ρ b))
times_sound ρ (v ∷ a) b =
    put_sound ρ v (times a b) ∙ ap (λ (x : ℤ). get_or ρ v (pos 0) *ℤ x) (times_sound ρ a b)
    ∙ sym (*ℤ-assoc (get_or ρ v (pos 0)) (eval_m ρ a) (eval_m ρ b))

first_eq : (o p : Ordering) → T (compare_is_eq (first_of o p)) → T (compare_is_eq o) × T (compare_is_eq p)
first_eq Ordering.lt p t = absurd t
first_eq Ordering.eq p t = (tt, t)
first_eq Ordering.gt p t = absurd t

cmp_eq : (a b : List ℕ) → T (compare_is_eq (cmp_m a b)) → a ≡ b
cmp_eq [] [] t = refl
cmp_eq [] (w ∷ b) t = absurd t
cmp_eq (v ∷ a) [] t = absurd t
cmp_eq (v ∷ a) (w ∷ b) t =
    let p = first_eq (compare v w) (cmp_m a b) t in
    λ i. eqb→eq v w p.0 i ∷ cmp_eq a b p.1 i

-- ---- a sum of terms, sorted

pub data Poly : Type 0 where
  nil : Poly
  term : List ℕ → ℤ → Poly → Poly

abbrev eval_p : List ℤ → Poly → ℤ
eval_p ρ nil = pos 0
eval_p ρ (term m c p) = c *ℤ eval_m ρ m +ℤ eval_p ρ p

abbrev pub join_pick : Ordering → List ℕ → ℤ → List ℕ → ℤ → Poly → Poly → Poly
join_pick Ordering.lt m c n d p r = term m c (term n d p)
join_pick Ordering.eq m c n d p r = term n (c +ℤ d) p
join_pick Ordering.gt m c n d p r = term n d r

abbrev pub join : List ℕ → ℤ → Poly → Poly
join m c nil = term m c nil
join m c (term n d p) = let r = join m c p in join_pick (cmp_m m n) m c n d p r

abbrev pub add_p : Poly → Poly → Poly
add_p nil q = q
add_p (term m c p) q = join m c (add_p p q)

abbrev pub neg_p : Poly → Poly
neg_p nil = nil
neg_p (term m c p) = term m (neg_ℤ c) (neg_p p)

-- q times one term, added to r
abbrev pub mul_t : List ℕ → ℤ → Poly → Poly → Poly
mul_t m c nil r = r
mul_t m c (term n d q) r = join (times m n) (c *ℤ d) (mul_t m c q r)

abbrev pub mul_p : Poly → Poly → Poly
mul_p nil q = nil
mul_p (term m c p) q = mul_t m c q (mul_p p q)

abbrev pub norm : Expr → Poly
norm (var v) = term (v ∷ []) (pos 1) nil
norm (con c) = term [] c nil
norm (a ⊕ b) = add_p (norm a) (norm b)
norm (a ⊖ b) = add_p (neg_p (norm b)) (norm a)
norm (a ⊗ b) = mul_p (norm a) (norm b)
norm (neg a) = neg_p (norm a)

abbrev pub is_z : ℤ → Bool
is_z (pos zero) = true
is_z (pos (suc n)) = false
is_z (negsuc n) = false

abbrev pub all_z : Poly → Bool
all_z nil = true
all_z (term m c p) = is_z c && all_z p

module _ (ρ : List ℤ) where
  join_pick_sound : (o : Ordering) (m : List ℕ) (c : ℤ) (n : List ℕ) (d : ℤ) (p r : Poly) → (T (compare_is_eq o) → m ≡ n)
      → eval_p ρ r ≡ c *ℤ eval_m ρ m +ℤ eval_p ρ p → eval_p ρ (join_pick o m c n d p r) ≡ c *ℤ eval_m ρ m +ℤ (d *ℤ eval_m ρ n +ℤ eval_p ρ p)
  join_pick_sound Ordering.lt m c n d p r e h = refl
  join_pick_sound Ordering.eq m c n d p r e h =
      ap (λ (x : ℤ). x +ℤ eval_p ρ p) (add_mulℤ c d (eval_m ρ n)) ∙ +ℤ_assoc (c *ℤ eval_m ρ n) (d *ℤ eval_m ρ n) (eval_p ρ p)
      ∙ ap (λ (k : List ℕ). c *ℤ eval_m ρ k +ℤ (d *ℤ eval_m ρ n +ℤ eval_p ρ p)) (sym (e tt))
  join_pick_sound Ordering.gt m c n d p r e h =
      ap (λ (x : ℤ). d *ℤ eval_m ρ n +ℤ x) h ∙ sym (+ℤ_assoc (d *ℤ eval_m ρ n) (c *ℤ eval_m ρ m) (eval_p ρ p))
      ∙ ap (λ (x : ℤ). x +ℤ eval_p ρ p) (+ℤ_comm (d *ℤ eval_m ρ n) (c *ℤ eval_m ρ m))
      ∙ +ℤ_assoc (c *ℤ eval_m ρ m) (d *ℤ eval_m ρ n) (eval_p ρ p)

  join_sound : (m : List ℕ) (c : ℤ) (p : Poly) → eval_p ρ (join m c p) ≡ c *ℤ eval_m ρ m +ℤ eval_p ρ p
  join_sound m c nil = refl
  join_sound m c (term n d p) = join_pick_sound (cmp_m m n) m c n d p (join m c p) (cmp_eq m n) (join_sound m c p)

  add_sound : (p q : Poly) → eval_p ρ (add_p p q) ≡ eval_p ρ p +ℤ eval_p ρ q
  add_sound nil q = sym (+ℤ_idl (eval_p ρ q))
  add_sound (term m c p) q =
      join_sound m c (add_p p q) ∙ ap (λ (x : ℤ). c *ℤ eval_m ρ m +ℤ x) (add_sound p q)
      ∙ sym (+ℤ_assoc (c *ℤ eval_m ρ m) (eval_p ρ p) (eval_p ρ q))

  neg_sound : (p : Poly) → eval_p ρ (neg_p p) ≡ neg_ℤ (eval_p ρ p)
  neg_sound nil = refl
  neg_sound (term m c p) = (λ i. neg_mulℤ c (eval_m ρ m) i +ℤ neg_sound p i) ∙ sym (neg_ℤ-+ℤ (c *ℤ eval_m ρ m) (eval_p ρ p))

  mul_t_sound : (m : List ℕ) (c : ℤ) (q r : Poly) → eval_p ρ (mul_t m c q r) ≡ (c *ℤ eval_m ρ m) *ℤ eval_p ρ q +ℤ eval_p ρ r
  mul_t_sound m c nil r = sym (+ℤ_idl (eval_p ρ r)) ∙ ap (λ (x : ℤ). x +ℤ eval_p ρ r) (sym (*ℤ-zero (c *ℤ eval_m ρ m)))
  mul_t_sound m c (term n d q) r =
      join_sound (times m n) (c *ℤ d) (mul_t m c q r)
      ∙ (λ i. (ap (λ (x : ℤ). (c *ℤ d) *ℤ x) (times_sound ρ m n) ∙ mul_swap_mid c d (eval_m ρ m) (eval_m ρ n)) i +ℤ mul_t_sound m c q r i)
      ∙ sym (+ℤ_assoc ((c *ℤ eval_m ρ m) *ℤ (d *ℤ eval_m ρ n)) ((c *ℤ eval_m ρ m) *ℤ eval_p ρ q) (eval_p ρ r))
      ∙ ap (λ (x : ℤ). x +ℤ eval_p ρ r) (sym (mul_addℤ (c *ℤ eval_m ρ m) (d *ℤ eval_m ρ n) (eval_p ρ q)))

  mul_sound : (p q : Poly) → eval_p ρ (mul_p p q) ≡ eval_p ρ p *ℤ eval_p ρ q
  mul_sound nil q = sym (zero-*ℤ (eval_p ρ q))
  mul_sound (term m c p) q =
      mul_t_sound m c q (mul_p p q) ∙ ap (λ (x : ℤ). (c *ℤ eval_m ρ m) *ℤ eval_p ρ q +ℤ x) (mul_sound p q)
      ∙ sym (add_mulℤ (c *ℤ eval_m ρ m) (eval_p ρ p) (eval_p ρ q))

  norm_sound : (e : Expr) → eval_p ρ (norm e) ≡ eval ρ e
  norm_sound (var v) = +ℤ_idr (pos 1 *ℤ (get_or ρ v (pos 0) *ℤ pos 1)) ∙ one_*ℤ (get_or ρ v (pos 0) *ℤ pos 1) ∙ *ℤ-1 (get_or ρ v (pos 0))
  norm_sound (con c) = +ℤ_idr (c *ℤ pos 1) ∙ *ℤ-1 c
  norm_sound (a ⊕ b) = add_sound (norm a) (norm b) ∙ (λ i. norm_sound a i +ℤ norm_sound b i)
  norm_sound (a ⊖ b) =
      add_sound (neg_p (norm b)) (norm a) ∙ +ℤ_comm (eval_p ρ (neg_p (norm b))) (eval_p ρ (norm a))
      ∙ (λ i. norm_sound a i +ℤ (neg_sound (norm b) ∙ ap neg_ℤ (norm_sound b)) i)
  norm_sound (a ⊗ b) = mul_sound (norm a) (norm b) ∙ (λ i. norm_sound a i *ℤ norm_sound b i)
  norm_sound (neg a) = neg_sound (norm a) ∙ ap neg_ℤ (norm_sound a)

  all_z_sound : (p : Poly) → T (all_z p) → eval_p ρ p ≡ pos 0
  all_z_sound nil t = refl
  all_z_sound (term m (pos zero) p) t = ap (λ (x : ℤ). x +ℤ eval_p ρ p) (zero-*ℤ (eval_m ρ m)) ∙ +ℤ_idl (eval_p ρ p) ∙ all_z_sound p t
  all_z_sound (term m (pos (suc c)) p) t = absurd t
  all_z_sound (term m (negsuc c) p) t = absurd t

-- two expressions whose difference has no coefficient but 0 have one value
pub ring : (ρ : List ℤ) (a b : Expr) → T (all_z (norm (a ⊖ b))) → eval ρ a ≡ eval ρ b
ring ρ a b t = eq_of_sub (eval ρ a) (eval ρ b) (sym (norm_sound ρ (a ⊖ b)) ∙ all_z_sound ρ (norm (a ⊖ b)) t)
