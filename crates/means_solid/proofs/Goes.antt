-- A loop that `runs` from a to b goes so by one of its sides, and a proper one not both ways; and what an edge's mask of candidates is,
-- digit by digit.
use mathlib.Core.Bool.{Bool, true, false, not, ◌&&◌, ◌||◌, cond, xor, true≢false}
use mathlib.Core.List.{List, [], ◌∷◌, map}
use mathlib.Core.Logic.{◌⊎◌, inl, inr}
use mathlib.Core.Path.{◌≡◌, refl, sym, ap, ◌∙◌}
use Prim.Native.Nat.{ℕ, zero, suc, ◌+◌, ◌-◌, ◌≤◌, ◌<◌}
use native.Mathlib.Numerals.{add-one}
use native.Mathlib.Omega.{arith}
use native.Mathlib.Decide.{dec_lt}
use lib.Dec.{eqb}
use lib.ListN.{length, get_or}
use borrow.Author.Tests.{eqb-true, eq-eqb}
use Rattle.lists.specs.Lists.{sides, any_true}
use Rattle.lists.specs.Around.{wrap, around}
use Rattle.lists.proofs.Truth.{and_left, and_right, and_both, or_left, or_right, or_cases}
use Rattle.lists.proofs.Sides.{sides_length, sides-at, wrap_low, wrap_high, around_low}
use Rattle.sets.specs.Word.{dig}
use Rattle.paper.specs.Drawing.{Edge, edge}
use Rattle.paper.specs.Loops.{Loop, loop_at}
use Rattle.paper.specs.Solids.{runs, runs_up, has}
use Rattle.means_solid.specs.Proper.{Proper}
use Rattle.means_solid.specs.Solid.{Goes}

-- ---- a list of tests, one of which is true

true_yes : (bs : List Bool) → any_true bs ≡ true → (i : ℕ) × (i < length bs) × (get_or bs i false ≡ true)
unfolding any_true
true_yes [] e = absurd (true≢false (sym e))
true_yes (true ∷ bs) e = (0, omega arith, refl)
true_yes (false ∷ bs) e = let r = true_yes bs e in (suc r.0, (let l = r.1 in omega arith), r.2)

true_is : (bs : List Bool) (i : ℕ) → get_or bs i false ≡ true → any_true bs ≡ true
unfolding any_true
true_is [] i e = absurd (true≢false (sym e))
true_is (b ∷ bs) zero e = or_left b (any_true bs) e
true_is (b ∷ bs) (suc i) e = or_right b (any_true bs) (true_is bs i e)

-- ---- a loop goes from a to b

abbrev is_side : ℕ → ℕ → ℕ → ℕ → Bool
is_side a b x y = eqb a x && eqb b y

pub runs_goes : (a b : ℕ) (l : Loop) → runs a b l ≡ true → Goes l a b
unfolding runs
runs_goes a b l e =
    let r = true_yes (sides (is_side a b) l) e in
    let h : r.0 < length l = omega (arith, r.1, sides_length (is_side a b) l) in
    let s : is_side a b (around l r.0 0) (around l (r.0 + 1) 0) ≡ true = sym (sides-at (is_side a b) l r.0 false 0 h) ∙ r.2 in
    record {
      at = r.0;
      here = h;
      from = eqb-true a (around l r.0 0) (and_left (eqb a (around l r.0 0)) (eqb b (around l (r.0 + 1) 0)) s);
      to =
          eqb-true b (around l (r.0 + 1) 0) (and_right (eqb a (around l r.0 0)) (eqb b (around l (r.0 + 1) 0)) s)
          ∙ ap (λ (k : ℕ). around l k 0) (add-one r.0);
    }

pub goes_runs : (a b : ℕ) (l : Loop) → Goes l a b → runs a b l ≡ true
unfolding runs
goes_runs a b l g =
    true_is (sides (is_side a b) l) g.at
    (sides-at (is_side a b) l g.at false 0 g.here
    ∙ and_both (eq-eqb a (around l g.at 0) g.from)
    (eq-eqb b (around l (g.at + 1) 0) (g.to ∙ ap (λ (k : ℕ). around l k 0) (sym (add-one g.at)))))

-- ---- an edge and a loop: either way

pub has_cases : (a b : ℕ) (l : Loop) → has (edge a b) l ≡ true → Goes l a b ⊎ Goes l b a
unfolding has
has_cases a b l e = go (or_cases (runs a b l) (runs b a l) e)
  where
    go : (runs a b l ≡ true) ⊎ (runs b a l ≡ true) → Goes l a b ⊎ Goes l b a
    go (inl q) = inl (runs_goes a b l q)
    go (inr q) = inr (runs_goes b a l q)

pub cases_has : (a b : ℕ) (l : Loop) → Goes l a b ⊎ Goes l b a → has (edge a b) l ≡ true
unfolding has
cases_has a b l (inl g) = or_left (runs a b l) (runs b a l) (goes_runs a b l g)
cases_has a b l (inr g) = or_right (runs a b l) (runs b a l) (goes_runs b a l g)

-- ---- from corner to corner

pub wrap-next : (n i : ℕ) → i < n → ((suc i < n) × (wrap n (suc i) ≡ suc i)) ⊎ ((suc i ≡ n) × (wrap n (suc i) ≡ 0))
wrap-next n i h = go (dec_lt (suc i) n)
  where
    go : Dec (suc i < n) → ((suc i < n) × (wrap n (suc i) ≡ suc i)) ⊎ ((suc i ≡ n) × (wrap n (suc i) ≡ 0))
    go (yes l) = inl (l, wrap_low n (suc i) l)
    go (no l) = let w = wrap_high n (suc i) (omega arith) in inr (omega arith, omega arith)

pub around-at : (l : Loop) (m : ℕ) → around l m 0 ≡ get_or l (wrap (length l) m) 0
unfolding around
around-at l m = refl

pub goes_next : (q : Loop) (i : ℕ) → suc i < length q → Goes q (get_or q i 0) (get_or q (suc i) 0)
goes_next q i h = record {
  at = i;
  here = omega arith;
  from = sym (around-at q i ∙ ap (λ (j : ℕ). get_or q j 0) (wrap_low (length q) i (omega arith)));
  to = sym (around-at q (suc i) ∙ ap (λ (j : ℕ). get_or q j 0) (wrap_low (length q) (suc i) h));
}

pub goes_last : (q : Loop) → 0 < length q → Goes q (get_or q (length q - 1) 0) (get_or q 0 0)
goes_last q h = record {
  at = length q - 1;
  here = omega arith;
  from = sym (around-at q (length q - 1) ∙ ap (λ (j : ℕ). get_or q j 0) (wrap_low (length q) (length q - 1) (omega arith)));
  to =
      sym
      (around-at q (suc (length q - 1))
      ∙ ap (λ (j : ℕ). get_or q j 0) (wrap_high (length q) (suc (length q - 1)) (omega arith) ∙ omega arith));
}

-- ---- a proper loop does not go by one edge both ways

pub one_way : (a b : ℕ) (l : Loop) → Proper l → Goes l a b → Goes l b a → ⊥
one_way a b l p g h = ends g.at h.at (wrap-next (length l) g.at g.here) (wrap-next (length l) h.at h.here)
    (next g h) (next h g) p.three
  where
    -- the end of one is the start of the other, and that corner stands at one place
    next : {a b : ℕ} → (g : Goes l a b) → (h : Goes l b a) → wrap (length l) (suc g.at) ≡ h.at
    next g h = p.different (wrap (length l) (suc g.at)) h.at (below (wrap-next (length l) g.at g.here)) h.here
        (sym (around-at l (suc g.at)) ∙ sym g.to ∙ h.from ∙ around_low l h.at 0 h.here)
      where
        below : ((suc g.at < length l) × (wrap (length l) (suc g.at) ≡ suc g.at))
            ⊎ ((suc g.at ≡ length l) × (wrap (length l) (suc g.at) ≡ 0)) → wrap (length l) (suc g.at) < length l
        below (inl (u, w)) = omega arith
        below (inr (u, w)) = omega arith

    ends : {n x y : ℕ} (i j : ℕ) → ((suc i < n) × (x ≡ suc i)) ⊎ ((suc i ≡ n) × (x ≡ 0))
        → ((suc j < n) × (y ≡ suc j)) ⊎ ((suc j ≡ n) × (y ≡ 0))
        → x ≡ j → y ≡ i → 3 ≤ n → ⊥
    ends i j (inl (u, w)) (inl (v, z)) p q t = omega arith
    ends i j (inl (u, w)) (inr (v, z)) p q t = omega arith
    ends i j (inr (u, w)) (inl (v, z)) p q t = omega arith
    ends i j (inr (u, w)) (inr (v, z)) p q t = omega arith

-- ---- no candidate stands past the last

pub has_nil : (e : Edge) → has e [] ≡ false
unfolding has runs any_true sides
has_nil (edge a b) = refl

pub up_nil : (e : Edge) → runs_up e [] ≡ false
unfolding runs_up runs any_true sides
up_nil (edge a b) = refl

pub runs_nil : (a b : ℕ) → runs a b [] ≡ false
unfolding runs any_true sides
runs_nil a b = refl

pub dig_map : (f : Loop → Bool) → f [] ≡ false → (cs : List Loop) (k : ℕ) → dig (map f cs) k ≡ f (loop_at cs k)
dig_map f e [] k = sym e
dig_map f e (c ∷ cs) zero = refl
dig_map f e (c ∷ cs) (suc k) = dig_map f e cs k

-- ---- of the faces on an edge, those that run it one way: r and q are whether the normal form runs it from a to b and from b to a, t
-- whether the face is turned

pub ahead_one : (r q t taken : Bool) → (r ≡ true → q ≡ true → ⊥) → (((r || q) && taken) && xor r t) ≡ (taken && cond t q r)
unfolding xor
ahead_one true true t taken n = absurd (n refl refl)
ahead_one true false true true n = refl
ahead_one true false true false n = refl
ahead_one true false false true n = refl
ahead_one true false false false n = refl
ahead_one false true true true n = refl
ahead_one false true true false n = refl
ahead_one false true false true n = refl
ahead_one false true false false n = refl
ahead_one false false true true n = refl
ahead_one false false true false n = refl
ahead_one false false false true n = refl
ahead_one false false false false n = refl

pub back_one : (r q t taken : Bool) → (r ≡ true → q ≡ true → ⊥) → (((r || q) && taken) && not (xor r t)) ≡ (taken && cond t r q)
unfolding xor
back_one true true t taken n = absurd (n refl refl)
back_one true false true true n = refl
back_one true false true false n = refl
back_one true false false true n = refl
back_one true false false false n = refl
back_one false true true true n = refl
back_one false true true false n = refl
back_one false true false true n = refl
back_one false true false false n = refl
back_one false false true true n = refl
back_one false false true false n = refl
back_one false false false true n = refl
back_one false false false false n = refl
