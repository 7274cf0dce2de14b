-- Two faces of a solid that share an edge, and the next edge round a corner that they do not share.
use mathlib.Core.Path.{◌≡◌, refl, sym, ap, subst, ◌∙◌}
use mathlib.Core.Bool.{Bool, true, false}
use mathlib.Core.Logic.{◌⊎◌, inl, inr}
use mathlib.Core.List.{List}
use Prim.Native.Nat.{ℕ, zero, suc, ◌+◌, ◌-◌, ◌≤◌, ◌<◌}
use native.Mathlib.Omega.{arith}
use native.Mathlib.Decide.{dec_lt, ℕ_discrete}
use native.Mathlib.Nat.{add-zero}
use lib.ListN.{length, get_or}
use Rattle.lists.specs.Around.{wrap, around}
use Rattle.lists.proofs.Sides.{wrap_low, wrap_high}
use Rattle.sets.specs.Word.{dig}
use Rattle.sets.proofs.Digits.{never}
use Rattle.sets.proofs.Ones.{dig-below}
use Rattle.lists.proofs.Places.{one_later}
use Rattle.paper.specs.Drawing.{Wire, Edge, edge}
use Rattle.paper.specs.Loops.{Loop, loop_at}
use Rattle.means_solid.specs.Solid.{Goes, HasSide, InTwo, IsSolid}
use Rattle.means_loops.specs.Path.{EdgeOf, ClosedPath}
use Rattle.means_solid.proofs.Goes.{around-at, wrap-next}

-- ---- round a ring, from where a test passes to where it does not

module _ (p : ℕ → Bool) where
  scan : (m i : ℕ) → p i ≡ true → p (i + m) ≡ false → (j : ℕ) × (i ≤ j) × (j < i + m) × (p j ≡ true) × (p (suc j) ≡ false)
  scan zero i e f = never (sym e ∙ ap p (sym (add-zero i)) ∙ f)
  scan (suc m) i e f = go (p (suc i)) refl (scan m (suc i))
    where
      go : (b : Bool) → p (suc i) ≡ b
          → (p (suc i) ≡ true → p (suc i + m) ≡ false → (j : ℕ) × (suc i ≤ j) × (j < suc i + m) × (p j ≡ true) × (p (suc j) ≡ false))
          → (j : ℕ) × (i ≤ j) × (j < i + suc m) × (p j ≡ true) × (p (suc j) ≡ false)
      go false q r = (i, omega arith, omega arith, e, q)
      go true q r = let w = r q (ap p (one_later i m) ∙ f) in (w.0, omega (arith, w.1), omega (arith, w.2), w.3, w.4)

  pub turn : (n i j : ℕ) → i < n → j < n → p i ≡ true → p j ≡ false → (k : ℕ) × (k < n) × (p k ≡ true) × (p (wrap n (suc k)) ≡ false)
  turn n i j hi hj e f = go (dec_lt i j)
    where
      up : (i j : ℕ) → i < j → j < n → p i ≡ true → p j ≡ false → (k : ℕ) × (k < n) × (p k ≡ true) × (p (wrap n (suc k)) ≡ false)
      up i j l hj e f =
          let z : i + (j - i) ≡ j = omega arith in
          let r = scan (j - i) i e (ap p z ∙ f) in
          (r.0, omega (arith, r.2), r.3, ap p (wrap_low n (suc r.0) (omega (arith, r.2))) ∙ r.4)

      -- from i to the last, then from the first to j
      last : (b : Bool) → p (n - 1) ≡ b → i < n - 1 ⊎ (i ≡ n - 1) → (k : ℕ) × (k < n) × (p k ≡ true) × (p (wrap n (suc k)) ≡ false)
      last false q (inl l) = up i (n - 1) l (omega arith) e q
      last false q (inr l) = never (sym e ∙ ap p l ∙ q)
      last true q w = begin (p 0) refl
        where
          begin : (b : Bool) → p 0 ≡ b → (k : ℕ) × (k < n) × (p k ≡ true) × (p (wrap n (suc k)) ≡ false)
          begin false z =
              let y : wrap n (suc (n - 1)) ≡ 0 = wrap_high n (suc (n - 1)) (omega arith) ∙ omega arith in
              (n - 1, omega arith, q, ap p y ∙ z)
          begin true z = first_up (ℕ_discrete j 0)
            where
              first_up : Dec (j ≡ 0) → (k : ℕ) × (k < n) × (p k ≡ true) × (p (wrap n (suc k)) ≡ false)
              first_up (yes y) = never (sym z ∙ ap p (sym y) ∙ f)
              first_up (no y) = up 0 j (omega arith) hj z f

      near : i < n → (i < n - 1) ⊎ (i ≡ n - 1)
      near h = by (dec_lt i (n - 1))
        where
          by : Dec (i < n - 1) → (i < n - 1) ⊎ (i ≡ n - 1)
          by (yes l) = inl l
          by (no l) = inr (omega arith)

      go : Dec (i < j) → (k : ℕ) × (k < n) × (p k ≡ true) × (p (wrap n (suc k)) ≡ false)
      go (yes l) = up i j l hj e f
      go (no l) = last (p (n - 1)) refl (near hi)

-- ---- a ring's sides and corners

goes_start : (l : Loop) (a b : ℕ) → Goes l a b → (i : ℕ) × (i < length l) × (get_or l i 0 ≡ a)
goes_start l a b g =
    (g.at, g.here, sym (g.from ∙ around-at l g.at ∙ ap (λ (i : ℕ). get_or l i 0) (wrap_low (length l) g.at g.here)))

goes_end : (l : Loop) (a b : ℕ) → Goes l a b → (i : ℕ) × (i < length l) × (get_or l i 0 ≡ b)
goes_end l a b g = (wrap (length l) (suc g.at), go (wrap-next (length l) g.at g.here), sym (g.to ∙ around-at l (suc g.at)))
  where
    go : ((suc g.at < length l) × (wrap (length l) (suc g.at) ≡ suc g.at))
        ⊎ ((suc g.at ≡ length l) × (wrap (length l) (suc g.at) ≡ 0)) → wrap (length l) (suc g.at) < length l
    go (inl (p, q)) = omega arith
    go (inr (p, q)) = let h = g.here in omega arith

module _ (d : Wire) (cs : List Loop) (taken turned : List Bool) (paths : (k : ℕ) → k < length cs → ClosedPath d (loop_at cs k)) {six : ℕ}
    (s : IsSolid d cs taken turned six) where
  -- face k has side i of face q
  abbrev pub Beside : ℕ → ℕ → ℕ → Type 0
  Beside q i k =
      Goes (loop_at cs k) (around (loop_at cs q) i 0) (around (loop_at cs q) (suc i) 0) ⊎ Goes (loop_at cs k) (around (loop_at cs q) (suc i) 0)
      (around (loop_at cs q) i 0)

  pub own : (q i : ℕ) → i < length (loop_at cs q) → Beside q i q
  own q i h = inl (record { at = i; here = h; from = refl; to = refl })

  pub beside_start : (q i k : ℕ) → Beside q i k
      → (j : ℕ) × (j < length (loop_at cs k)) × (get_or (loop_at cs k) j 0 ≡ around (loop_at cs q) i 0)
  beside_start q i k (inl g) = goes_start (loop_at cs k) (around (loop_at cs q) i 0) (around (loop_at cs q) (suc i) 0) g
  beside_start q i k (inr g) = goes_end (loop_at cs k) (around (loop_at cs q) (suc i) 0) (around (loop_at cs q) i 0) g

  pub beside_end : (q i k : ℕ) → Beside q i k
      → (j : ℕ) × (j < length (loop_at cs k)) × (get_or (loop_at cs k) j 0 ≡ around (loop_at cs q) (suc i) 0)
  beside_end q i k (inl g) = goes_end (loop_at cs k) (around (loop_at cs q) i 0) (around (loop_at cs q) (suc i) 0) g
  beside_end q i k (inr g) = goes_start (loop_at cs k) (around (loop_at cs q) (suc i) 0) (around (loop_at cs q) i 0) g

  -- a face's side is in one face more
  pub record Other (q i : ℕ) : Type 0 where
    pub face : ℕ
    pub taken_too : dig taken face ≡ true
    pub another : face ≡ q → ⊥
    pub beside : Beside q i face
    pub no_more : (k : ℕ) → dig taken k ≡ true → Beside q i k → (k ≡ q) ⊎ (k ≡ face)

  pub other : (q i : ℕ) → dig taken q ≡ true → i < length (loop_at cs q) → Other q i
  other q i f h =
      go
      ((paths q (dig-below taken s.some q f)).along (around (loop_at cs q) i 0) (around (loop_at cs q) (suc i) 0)
      (record { at = i; here = h; from = refl; to = refl }))
    where
      swap : (a b : ℕ) (l : Loop) → Goes l a b ⊎ Goes l b a → Goes l b a ⊎ Goes l a b
      swap a b l (inl g) = inr g
      swap a b l (inr g) = inl g

      by_two : (e : Edge) → InTwo d cs taken turned e → ((k : ℕ) → HasSide d cs taken turned k e → Beside q i k)
          → ((k : ℕ) → Beside q i k → HasSide d cs taken turned k e) → Other q i
      by_two e t out into = pick (t.only q f (into q (own q i h)))
        where
          pick : (q ≡ t.one) ⊎ (q ≡ t.two) → Other q i
          pick (inl z) = record {
            face = t.two;
            taken_too = t.faces.1;
            another = λ w. absurd (omega (arith, t.differ));
            beside = out t.two t.have.1;
            no_more = λ k g b. left k (t.only k g (into k b));
          }
            where
              left : (k : ℕ) → (k ≡ t.one) ⊎ (k ≡ t.two) → (k ≡ q) ⊎ (k ≡ t.two)
              left k (inl w) = inl (w ∙ sym z)
              left k (inr w) = inr w
          pick (inr z) = record {
            face = t.one;
            taken_too = t.faces.0;
            another = λ w. absurd (omega (arith, t.differ));
            beside = out t.one t.have.0;
            no_more = λ k g b. right k (t.only k g (into k b));
          }
            where
              right : (k : ℕ) → (k ≡ t.one) ⊎ (k ≡ t.two) → (k ≡ q) ⊎ (k ≡ t.one)
              right k (inl w) = inr w
              right k (inr w) = inl (w ∙ sym z)

      go : EdgeOf d (around (loop_at cs q) i 0) (around (loop_at cs q) (suc i) 0) → Other q i
      go (e, l, inl w) =
          by_two (edge (around (loop_at cs q) i 0) (around (loop_at cs q) (suc i) 0)) (subst (InTwo d cs taken turned) w (s.i e l))
          (λ k g. g) (λ k g. g)
      go (e, l, inr w) =
          by_two (edge (around (loop_at cs q) (suc i) 0) (around (loop_at cs q) i 0)) (subst (InTwo d cs taken turned) w (s.i e l))
          (λ k g. swap (around (loop_at cs q) (suc i) 0) (around (loop_at cs q) i 0) (loop_at cs k) g)
          (λ k g. swap (around (loop_at cs q) i 0) (around (loop_at cs q) (suc i) 0) (loop_at cs k) g)

  -- two faces that share an edge: one of the first one's sides is in the other
  pub shared : (e : Edge) (q k : ℕ) → HasSide d cs taken turned q e → HasSide d cs taken turned k e
      → (i : ℕ) × (i < length (loop_at cs q)) × Beside q i k
  shared (edge a b) q k (inl g) h = (g.at, g.here, to h)
    where
      to : Goes (loop_at cs k) a b ⊎ Goes (loop_at cs k) b a → Beside q g.at k
      to (inl y) =
          inl
          (subst (λ (u : ℕ). Goes (loop_at cs k) u (around (loop_at cs q) (suc g.at) 0)) g.from
          (subst (λ (w : ℕ). Goes (loop_at cs k) a w) g.to y))
      to (inr y) =
          inr
          (subst (λ (u : ℕ). Goes (loop_at cs k) (around (loop_at cs q) (suc g.at) 0) u) g.from
          (subst (λ (w : ℕ). Goes (loop_at cs k) w a) g.to y))
  shared (edge a b) q k (inr g) h = (g.at, g.here, to h)
    where
      to : Goes (loop_at cs k) a b ⊎ Goes (loop_at cs k) b a → Beside q g.at k
      to (inr y) =
          inl
          (subst (λ (u : ℕ). Goes (loop_at cs k) u (around (loop_at cs q) (suc g.at) 0)) g.from
          (subst (λ (w : ℕ). Goes (loop_at cs k) b w) g.to y))
      to (inl y) =
          inr
          (subst (λ (u : ℕ). Goes (loop_at cs k) (around (loop_at cs q) (suc g.at) 0) u) g.from
          (subst (λ (w : ℕ). Goes (loop_at cs k) w b) g.to y))
