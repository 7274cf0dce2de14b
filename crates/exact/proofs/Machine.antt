-- What an expression of i64s asks and gives on the machine, from the expression alone.
-- The variables of an expression are numbers that the code holds in locals: parameters, results of calls, elements of a slice, a loop's
-- variables. `bits κ e` is what the
-- machine computes for e where the variables' locals hold the bits κ, `bound ns e` a bound on e's size where the variables have the
-- bounds ns, and `small ns e` the test
-- that each bound on the way is below 2 ^ 63.
--     asked env e tt    answers a need `add-..`, `sub-..`, `mul-..`, where e is the whole operation: that it does not overflow
--     reads env e tt    is what the machine reads back of e's bits: the value of e. It answers `returns`
--     held env e tt     is that e's bits are those of its value. It answers a loop's invariant `x ≡ of_z w64 value`
--     sized env e       is |e| ≤ bound
--     fits env e tt     is SFits w64 of e's value
--     lt_taken, lt_left, eq_taken, eq_left   turn a branch's test into the fact about the two numbers
-- `env` has an entry for each variable, in order: `h ▸ ..` with h : Within n z, where the local holds the bits of z, and `raw q h (..)`
-- where q : k ≡ of_z w64 z says so of k.
-- `-x` in the code is `neg x`.
use mathlib.Core.Path.{◌≡◌, refl, sym, ◌∙◌, ap, subst}
use mathlib.Core.Bool.{Bool, true, false, not, ◌&&◌}
use mathlib.Core.List.{List, [], ◌∷◌}
use Prim.Native.Nat.{ℕ, zero, suc, ◌+◌, ◌*◌, ◌^◌, ◌≤◌}
use native.Mathlib.Nat.{le_refl, le_trans, lt_trans, lt_of_le_of_lt}
use lib.Dec.{T, leb, ltb, leb→le, le→leb, lt→ltb, ltb→lt, lit<}
use lib.ListN.{get_or}
use lib.IntN.{ℤ, pos, negsuc, neg_ℤ, nat_abs, ◌+ℤ◌, ◌-ℤ◌, ◌*ℤ◌, +ℤ_idl}
use lib.Signed.{lt_z, non_neg, ◌<ℤ◌, ◌≤ℤ◌, lt_z_yes, lt_z_no, yes_non_neg}
use lib.Ieee.{binary64, in_float}
use mir.Syntax.{w64}
use mir.Val.{Fits, SFits, to_z, of_z}
use mir.ValLaws.{to_z-of_z}
use Rattle.lists.proofs.Truth.{three}
use Rattle.exact.specs.Size.{Within}
use Rattle.exact.proofs.Ring.{Expr, var, con, ◌⊕◌, ◌⊖◌, ◌⊗◌, neg, eval}
use Rattle.exact.proofs.Size.{within_add, within_sub, within_mul, within_neg, within_lit, within_up, fits_within}

infixr 5 ◌▸◌
-- each local holds its number's bits, and the number is within its bound
pub data Env : List ℕ → List ℕ → List ℤ → Type 0 where
  done : Env [] [] []
  ◌▸◌ : {n : ℕ} {z : ℤ} {ns κ : List ℕ} {ρ : List ℤ} → Within n z → Env ns κ ρ → Env (n ∷ ns) (of_z w64 z ∷ κ) (z ∷ ρ)
  raw : {n k : ℕ} {z : ℤ} {ns κ : List ℕ} {ρ : List ℤ} → k ≡ of_z w64 z → Within n z → Env ns κ ρ → Env (n ∷ ns) (k ∷ κ) (z ∷ ρ)

-- for a signature: all locals hold the bits of their numbers; one bound for all
abbrev pub bits_of : List ℤ → List ℕ
bits_of [] = []
bits_of (z ∷ ρ) = of_z w64 z ∷ bits_of ρ

abbrev pub same : ℕ → List ℤ → List ℕ
same n [] = []
same n (z ∷ ρ) = n ∷ same n ρ

abbrev pub Plain : List ℕ → List ℤ → Type 0
Plain ns ρ = Env ns (bits_of ρ) ρ

abbrev pub Every : ℕ → List ℤ → Type 0
Every n ρ = Env (same n ρ) (bits_of ρ) ρ

abbrev pub machine : List ℕ → Expr → ℕ
machine κ (var v) = get_or κ v 0
machine κ (con c) = of_z w64 c
machine κ (a ⊕ b) = of_z w64 (to_z w64 (machine κ a) +ℤ to_z w64 (machine κ b))
machine κ (a ⊖ b) = of_z w64 (to_z w64 (machine κ a) -ℤ to_z w64 (machine κ b))
machine κ (a ⊗ b) = of_z w64 (to_z w64 (machine κ a) *ℤ to_z w64 (machine κ b))
machine κ (neg a) = of_z w64 (pos 0 -ℤ to_z w64 (machine κ a))

abbrev pub bound : List ℕ → Expr → ℕ
bound ns (var v) = get_or ns v 0
bound ns (con c) = nat_abs c
bound ns (a ⊕ b) = bound ns a + bound ns b
bound ns (a ⊖ b) = bound ns a + bound ns b
bound ns (a ⊗ b) = bound ns a * bound ns b
bound ns (neg a) = bound ns a

abbrev pub fitting : ℕ → Bool
fitting n = ltb n (2 ^ 63)

abbrev pub small : List ℕ → Expr → Bool
small ns (var v) = fitting (get_or ns v 0)
small ns (con c) = fitting (nat_abs c)
small ns (a ⊕ b) = fitting (bound ns a + bound ns b) && (small ns a && small ns b)
small ns (a ⊖ b) = fitting (bound ns a + bound ns b) && (small ns a && small ns b)
small ns (a ⊗ b) = fitting (bound ns a * bound ns b) && (small ns a && small ns b)
small ns (neg a) = fitting (bound ns a) && small ns a

both : (a b : Bool) → T (a && b) → T a × T b
both true b t = (tt, t)
both false b t = absurd t

-- what the operation at the top of e asks
abbrev pub Asked : List ℕ → Expr → Type 0
Asked κ (var v) = SFits w64 (to_z w64 (get_or κ v 0))
Asked κ (con c) = SFits w64 c
Asked κ (a ⊕ b) = SFits w64 (to_z w64 (machine κ a) +ℤ to_z w64 (machine κ b))
Asked κ (a ⊖ b) = SFits w64 (to_z w64 (machine κ a) -ℤ to_z w64 (machine κ b))
Asked κ (a ⊗ b) = SFits w64 (to_z w64 (machine κ a) *ℤ to_z w64 (machine κ b))
Asked κ (neg a) = SFits w64 (pos 0 -ℤ to_z w64 (machine κ a))

at : {ns κ : List ℕ} {ρ : List ℤ} → Env ns κ ρ → (v : ℕ) → Within (get_or ns v 0) (get_or ρ v (pos 0))
at done v = within_lit tt
at (h ▸ env) zero = h
at (h ▸ env) (suc v) = at env v
at (raw q h env) zero = h
at (raw q h env) (suc v) = at env v

held_at : {ns κ : List ℕ} {ρ : List ℤ} → Env ns κ ρ → (v : ℕ) → get_or κ v 0 ≡ of_z w64 (get_or ρ v (pos 0))
held_at done v = refl
held_at (h ▸ env) zero = refl
held_at (h ▸ env) (suc v) = held_at env v
held_at (raw q h env) zero = q
held_at (raw q h env) (suc v) = held_at env v

pub sized : {ns κ : List ℕ} {ρ : List ℤ} → Env ns κ ρ → (e : Expr) → Within (bound ns e) (eval ρ e)
sized env (var v) = at env v
sized env (con c) = record { within = le_refl (nat_abs c) }
sized env (a ⊕ b) = within_add (sized env a) (sized env b)
sized env (a ⊖ b) = within_sub (sized env a) (sized env b)
sized env (a ⊗ b) = within_mul (sized env a) (sized env b)
sized env (neg a) = within_neg (sized env a)

-- the test at the top of e
top : (ns : List ℕ) (e : Expr) → T (small ns e) → T (fitting (bound ns e))
top ns (var v) t = t
top ns (con c) t = t
top ns (a ⊕ b) t = (three (fitting (bound ns a + bound ns b)) (small ns a) (small ns b) t).0
top ns (a ⊖ b) t = (three (fitting (bound ns a + bound ns b)) (small ns a) (small ns b) t).0
top ns (a ⊗ b) t = (three (fitting (bound ns a * bound ns b)) (small ns a) (small ns b) t).0
top ns (neg a) t = (both (fitting (bound ns a)) (small ns a) t).0

pub fits : {ns κ : List ℕ} {ρ : List ℤ} → Env ns κ ρ → (e : Expr) → T (small ns e) → SFits w64 (eval ρ e)
fits {ns} env e t = fits_within (top ns e t) (sized env e)

-- bits that are a number's read back as the number
back : {k : ℕ} {z : ℤ} → k ≡ of_z w64 z → SFits w64 z → to_z w64 k ≡ z
back {k} {z} e h = ap (λ (n : ℕ). to_z w64 n) e ∙ to_z-of_z w64 z h

pub held : {ns κ : List ℕ} {ρ : List ℤ} → Env ns κ ρ → (e : Expr) → T (small ns e) → machine κ e ≡ of_z w64 (eval ρ e)
held env (var v) t = held_at env v
held env (con c) t = refl
held {ns} env (a ⊕ b) t =
    let s = three (fitting (bound ns a + bound ns b)) (small ns a) (small ns b) t in
    λ i. of_z w64 (back (held env a s.1) (fits env a s.1) i +ℤ back (held env b s.2) (fits env b s.2) i)
held {ns} env (a ⊖ b) t =
    let s = three (fitting (bound ns a + bound ns b)) (small ns a) (small ns b) t in
    λ i. of_z w64 (back (held env a s.1) (fits env a s.1) i -ℤ back (held env b s.2) (fits env b s.2) i)
held {ns} env (a ⊗ b) t =
    let s = three (fitting (bound ns a * bound ns b)) (small ns a) (small ns b) t in
    λ i. of_z w64 (back (held env a s.1) (fits env a s.1) i *ℤ back (held env b s.2) (fits env b s.2) i)
held {ns} {ρ} env (neg a) t =
    let s = both (fitting (bound ns a)) (small ns a) t in
    ap (of_z w64) (ap (λ (z : ℤ). pos 0 -ℤ z) (back (held env a s.1) (fits env a s.1)) ∙ +ℤ_idl (neg_ℤ (eval ρ a)))

pub reads : {ns κ : List ℕ} {ρ : List ℤ} → Env ns κ ρ → (e : Expr) → T (small ns e) → to_z w64 (machine κ e) ≡ eval ρ e
reads env e t = back (held env e t) (fits env e t)

-- what fits, at an equal number
carry : {a b : ℤ} → a ≡ b → SFits w64 b → SFits w64 a
carry e h = subst (λ (z : ℤ). SFits w64 z) (sym e) h

pub asked : {ns κ : List ℕ} {ρ : List ℤ} → Env ns κ ρ → (e : Expr) → T (small ns e) → Asked κ e
asked env (var v) t = carry (reads env (var v) t) (fits env (var v) t)
asked env (con c) t = fits env (con c) t
asked {ns} env (a ⊕ b) t =
    let s = three (fitting (bound ns a + bound ns b)) (small ns a) (small ns b) t in
    carry (λ i. reads env a s.1 i +ℤ reads env b s.2 i) (fits env (a ⊕ b) t)
asked {ns} env (a ⊖ b) t =
    let s = three (fitting (bound ns a + bound ns b)) (small ns a) (small ns b) t in
    carry (λ i. reads env a s.1 i -ℤ reads env b s.2 i) (fits env (a ⊖ b) t)
asked {ns} env (a ⊗ b) t =
    let s = three (fitting (bound ns a * bound ns b)) (small ns a) (small ns b) t in
    carry (λ i. reads env a s.1 i *ℤ reads env b s.2 i) (fits env (a ⊗ b) t)
asked {ns} {ρ} env (neg a) t =
    let s = both (fitting (bound ns a)) (small ns a) t in
    carry (ap (λ (z : ℤ). pos 0 -ℤ z) (reads env a s.1) ∙ +ℤ_idl (neg_ℤ (eval ρ a))) (fits env (neg a) t)

-- ---- a test of two expressions, as a branch leaves it: an equation of the flag

holds : {b : Bool} → b ≡ true → T b
holds e = subst T (sym e) tt

fails : {b : Bool} → b ≡ false → T (not b)
fails e = subst (λ (b : Bool). T (not b)) (sym e) tt

-- the bits k read as z. A record, so that both can be inferred from a proof
pub record Reads (k : ℕ) (z : ℤ) : Type 0 where
  pub reading : to_z w64 k ≡ z

-- of a number z whose local holds its bits: `c.fits.x` of a parameter, `record { sfits = c.g.ok }` of a call's result
pub plain : {z : ℤ} → SFits w64 z → Reads (of_z w64 z) z
plain {z} h = record { reading = to_z-of_z w64 z h }

-- of a literal
pub lit : (z : ℤ) → T (fitting (nat_abs z)) → Reads (of_z w64 z) z
lit z t = plain (fits_within t (record { within = le_refl (nat_abs z) }))

-- of an expression
pub value : {ns κ : List ℕ} {ρ : List ℤ} → Env ns κ ρ → (e : Expr) → T (small ns e) → Reads (machine κ e) (eval ρ e)
value env e t = record { reading = reads env e t }

module _ {j k : ℕ} {a b : ℤ} (p : Reads j a) (q : Reads k b) where
  pub lt_taken : lt_z (to_z w64 j) (to_z w64 k) ≡ true → a <ℤ b
  lt_taken e = subst (λ (z : ℤ). z <ℤ b) p.reading (subst (λ (z : ℤ). to_z w64 j <ℤ z) q.reading (lt_z_yes (holds e)))

  pub lt_left : lt_z (to_z w64 j) (to_z w64 k) ≡ false → b ≤ℤ a
  lt_left e = subst (λ (z : ℤ). b ≤ℤ z) p.reading (subst (λ (z : ℤ). z ≤ℤ to_z w64 j) q.reading (lt_z_no (fails e)))

  -- `==` compares the bits, and its fact is the equation of the bits
  pub eq_taken : j ≡ k → a ≡ b
  eq_taken e = sym p.reading ∙ ap (λ (n : ℕ). to_z w64 n) e ∙ q.reading

-- `==` that failed, of two numbers whose locals hold their bits
pub eq_left : (a b : ℤ) → (of_z w64 a ≡ of_z w64 b → ⊥) → a ≡ b → ⊥
eq_left a b h e = h (ap (of_z w64) e)

-- ---- a call: a callee is handed what the machine reads back of each argument's bits

-- the callee's bound on an argument
pub handed : {ns κ : List ℕ} {ρ : List ℤ} (n : ℕ) → Env ns κ ρ → (e : Expr) → T (small ns e) → T (leb (bound ns e) n)
    → Within n (to_z w64 (machine κ e))
handed n env e t u = subst (λ (z : ℤ). Within n z) (sym (reads env e t)) (within_up u (sized env e))

-- ---- casts

-- `x as u64`, of a number that is not negative
pub to_u64 : {k n : ℕ} {z : ℤ} → Reads k z → T (fitting n) → Within n z → pos 0 ≤ℤ z
    → T (non_neg (to_z w64 k)) × Fits w64 (nat_abs (to_z w64 k))
to_u64 {k} {n} {z} r t h p =
    subst (λ (y : ℤ). T (non_neg y) × Fits w64 (nat_abs y)) (sym r.reading)
    (yes_non_neg p, record { fits = lt_trans (lt_of_le_of_lt h.within (ltb→lt n (2 ^ 63) t)) (lit< tt) })

-- `x as f64`: a double holds every whole number up to 2 ^ 53 in size
in_double : {n : ℕ} (z : ℤ) → n ≤ 2 ^ 53 → Within n z → T (in_float binary64 z)
unfolding in_float
in_double (pos k) h p = le→leb k (2 ^ 53) (le_trans p.within h)
in_double (negsuc k) h p = lt→ltb k (2 ^ 53) (le_trans p.within h)

pub to_f64 : {k n : ℕ} {z : ℤ} → Reads k z → T (leb n (2 ^ 53)) → Within n z → T (in_float binary64 (to_z w64 k))
to_f64 {k} {n} {z} r t h = subst (λ (y : ℤ). T (in_float binary64 y)) (sym r.reading) (in_double z (leb→le n (2 ^ 53) t) h)
