-- The search finds exactly the loops.
use mathlib.Core.Path.{◌≡◌, refl, sym, ap, subst, ◌∙◌}
use mathlib.Core.Bool.{Bool, true, false, not, ◌&&◌, ◌||◌, cond, true≢false}
use mathlib.Core.Logic.{◌⊎◌, inl, inr, ⊎_elim}
use mathlib.Core.List.Memᴰ
use mathlib.Core.List.{List, [], ◌∷◌, ◌++◌, append_assoc, append-nil, Memᴰ}
use Prim.Native.Nat.{ℕ, zero, suc, ◌+◌, ◌-◌, ◌≤◌, ◌<◌}
use native.Mathlib.Omega.{arith}
use native.Mathlib.Nat.{not-suc-le-zero, le_of_suc-le-suc, le_of_lt}
use native.Mathlib.Decide.{dec_lt, ℕ_discrete}
use lib.Dec.{leb, ltb, eqb}
use lib.ListN.{length, get_or, take}
use lib.Seq.{length-take-le, get_or-take}
use borrow.Author.Tests.{ltb-true, leb-true, lt-ltb, le-leb, eq-eqb, ne_eqb, not-true}
use Rattle.lists.specs.Lists.{member}
use Rattle.lists.proofs.Truth.{and_left, and_right, and_both, or_left, or_right, never_true}
use Rattle.paper.specs.Numbers.{most_corners}
use Rattle.paper.specs.Loops.{Loop, follows, closes, branch, scan, ext, final}
use Rattle.means_loops.specs.Loop.{Closed}
use Rattle.means_loops.proofs.Kept.{member_yes, member_is}

module _ (n : ℕ) (linked : ℕ → ℕ → Bool) (flat : List ℕ → ℕ → Bool) where
  -- ---- what a vertex x brings after p, and what is in a scan

  module _ (deeper : List ℕ → List Loop) (p : List ℕ) where
    abbrev pub Brings : ℕ → Loop → Type 0
    Brings x q = ((q ≡ p ++ x ∷ []) × (closes n linked flat (p ++ x ∷ []) ≡ true)) ⊎ Memᴰ q (deeper (p ++ x ∷ []))

    abbrev pub Source : Loop → ℕ → ℕ → Type 0
    Source q v k = (x : ℕ) × (v ≤ x) × (x < v + k) × (follows n linked flat p x ≡ true) × Brings x q

    pub branch_in : (q : Loop) (x : ℕ) → Memᴰ q (branch n linked flat (follows n linked flat p x) deeper (p ++ x ∷ []))
        → (follows n linked flat p x ≡ true) × Brings x q
    unfolding branch
    branch_in q x = go (follows n linked flat p x)
      where
        here : (c : Bool) → closes n linked flat (p ++ x ∷ []) ≡ c
            → Memᴰ q (cond c ((p ++ x ∷ []) ∷ deeper (p ++ x ∷ [])) (deeper (p ++ x ∷ []))) → Brings x q
        here true e m = ⊎_elim (λ z. inl (z, e)) (λ z. inr z) (Memᴰ.cases_cons m)
        here false e m = inr m

        go : (b : Bool) → Memᴰ q (branch n linked flat b deeper (p ++ x ∷ [])) → (b ≡ true) × Brings x q
        go true m = (refl, here (closes n linked flat (p ++ x ∷ [])) refl m)
        go false m = absurd (Memᴰ.not-nil m)

    pub scan_in : (q : Loop) (v k : ℕ) → Memᴰ q (scan n linked flat deeper p v k) → Source q v k
    unfolding scan
    scan_in q v zero m = absurd (Memᴰ.not-nil m)
    scan_in q v (suc k) m = ⊎_elim
        (λ m'. let h = branch_in q v m' in (v, omega arith, omega arith, h.0, h.1))
        (λ m'. let s = scan_in q (suc v) k m' in (s.0, omega arith, omega arith, s.3, s.4))
        (Memᴰ.append_cases (branch n linked flat (follows n linked flat p v) deeper (p ++ v ∷ [])) m)

    into_branch : (q : Loop) (x : ℕ) → follows n linked flat p x ≡ true → Brings x q
        → Memᴰ q (branch n linked flat (follows n linked flat p x) deeper (p ++ x ∷ []))
    unfolding branch
    into_branch q x f b = rw f (go b)
      where
        more : (c : Bool) → Memᴰ q (deeper (p ++ x ∷ []))
            → Memᴰ q (cond c ((p ++ x ∷ []) ∷ deeper (p ++ x ∷ [])) (deeper (p ++ x ∷ [])))
        more true m = Memᴰ.tail m
        more false m = m

        go : Brings x q
            → Memᴰ q (cond (closes n linked flat (p ++ x ∷ [])) ((p ++ x ∷ []) ∷ deeper (p ++ x ∷ [])) (deeper (p ++ x ∷ [])))
        go (inl (e, c)) = rw c (Memᴰ.head e)
        go (inr m) = more (closes n linked flat (p ++ x ∷ [])) m

    into_scan : (q : Loop) (x v k : ℕ) → v ≤ x → x < v + k → follows n linked flat p x ≡ true → Brings x q
        → Memᴰ q (scan n linked flat deeper p v k)
    unfolding scan
    into_scan q x v zero a b f m = absurd (not-suc-le-zero (let z : suc x ≤ 0 = omega arith in z))
    into_scan q x v (suc k) a b f m = go (ℕ_discrete x v) (λ n. into_scan q x (suc v) k n (omega arith) f m)
      where
        go : Dec (x ≡ v) → (suc v ≤ x → Memᴰ q (scan n linked flat deeper p (suc v) k))
            → Memᴰ q (branch n linked flat (follows n linked flat p v) deeper (p ++ v ∷ []) ++ scan n linked flat deeper p (suc v) k)
        go (yes e) r = Memᴰ.append_left (scan n linked flat deeper p (suc v) k)
            (subst (λ (y : ℕ). Memᴰ q (branch n linked flat (follows n linked flat p y) deeper (p ++ y ∷ []))) e
            (into_branch q x f m))
        go (no u) r = Memᴰ.append_right (branch n linked flat (follows n linked flat p v) deeper (p ++ v ∷ [])) (r (omega arith))

  -- ---- a chain: each vertex of t may follow p and those of t before it

  unfoldable pub Chain : List ℕ → List ℕ → Type 0
  Chain p [] = Unit {0}
  Chain p (x ∷ t) = (x < n) × (follows n linked flat p x ≡ true) × Chain (p ++ x ∷ []) t

  -- a loop that the search finds from p is p with a chain of at most d vertices, the first at least v
  unfoldable pub Found : ℕ → List ℕ → ℕ → Loop → Type 0
  Found d p v q = (x : ℕ) × (t : List ℕ) × (q ≡ p ++ x ∷ t) × (v ≤ x) × (length t < d) × Chain p (x ∷ t) × (closes n linked flat q ≡ true)

  pub ext_in : (d : ℕ) (p : List ℕ) (v : ℕ) (q : Loop) → Memᴰ q (ext n linked flat d p v) → Found d p v q
  unfolding ext Found Chain
  ext_in zero p v q m = absurd (Memᴰ.not-nil m)
  ext_in (suc d) p v q m =
      let s = scan_in (λ (r : List ℕ). ext n linked flat d r 0) p q v (n - v) m in
      let x = s.0 in
      ⊎_elim
      (λ h. (
        x,
        [],
        h.0,
        s.1,
        omega arith,
        (omega arith, s.3, tt),
        subst (λ (r : List ℕ). closes n linked flat r ≡ true) (sym h.0)
            h.1,
      ))
      (λ m'. let f = ext_in d (p ++ x ∷ []) 0 q m' in
      (x, f.0 ∷ f.1, f.2 ∙ append_assoc p (x ∷ []) (f.0 ∷ f.1), s.1, omega arith, (omega arith, s.3, f.5), f.6))
      s.4

  pub into_ext : (d : ℕ) (p : List ℕ) (v x : ℕ) (t : List ℕ) → v ≤ x → length t < d → Chain p (x ∷ t)
      → closes n linked flat (p ++ x ∷ t) ≡ true → Memᴰ (p ++ x ∷ t) (ext n linked flat d p v)
  unfolding ext Chain
  into_ext zero p v x t a b h e = absurd (not-suc-le-zero b)
  into_ext (suc d) p v x [] a b h e =
      into_scan (λ (r : List ℕ). ext n linked flat d r 0) p (p ++ x ∷ []) x v (n - v) a (omega arith) h.1 (inl (refl, e))
  into_ext (suc d) p v x (y ∷ t) a b h e =
      let ass = append_assoc p (x ∷ []) (y ∷ t) in
      into_scan (λ (r : List ℕ). ext n linked flat d r 0) p (p ++ x ∷ y ∷ t) x v (n - v) a (omega arith) h.1
      (inr
      (Memᴰ.cast (sym ass)
      (into_ext d (p ++ x ∷ []) 0 y t (omega arith) (le_of_suc-le-suc b) h.2
      (subst (λ (r : List ℕ). closes n linked flat r ≡ true) (sym ass) e))))

  -- ---- what the tests say

  pub record FollowsBy (p : List ℕ) (v : ℕ) : Type 0 where
    pub above : get_or p 0 0 < v
    pub edge : linked (final p) v ≡ true
    pub fresh : member v p ≡ false
    pub plane : flat p v ≡ true

  follows_out : (p : List ℕ) (v : ℕ) → 0 < length p → follows n linked flat p v ≡ true → FollowsBy p v
  unfolding follows
  follows_out p v h e =
      let u : (ltb (get_or p 0 0) v && linked (final p) v && not (member v p) && flat p v) ≡ true = rw (ne_eqb (length p) 0 (omega arith))
      at
      e in
      let a = and_left (ltb (get_or p 0 0) v && linked (final p) v && not (member v p)) (flat p v) u in
      let b = and_left (ltb (get_or p 0 0) v && linked (final p) v) (not (member v p)) a in
      record {
        above = ltb-true (get_or p 0 0) v (and_left (ltb (get_or p 0 0) v) (linked (final p) v) b);
        edge = and_right (ltb (get_or p 0 0) v) (linked (final p) v) b;
        fresh = not-true (member v p) (and_right (ltb (get_or p 0 0) v && linked (final p) v) (not (member v p)) a);
        plane = and_right (ltb (get_or p 0 0) v && linked (final p) v && not (member v p)) (flat p v) u;
      }

  follows_in : (p : List ℕ) (v : ℕ) → (0 < length p → FollowsBy p v) → follows n linked flat p v ≡ true
  unfolding follows
  follows_in p v f = go (ℕ_discrete (length p) 0)
    where
      go : Dec (length p ≡ 0) → (eqb (length p) 0 || (ltb (get_or p 0 0) v && linked (final p) v && not (member v p) && flat p v)) ≡ true
      go (yes e) =
          or_left (eqb (length p) 0) (ltb (get_or p 0 0) v && linked (final p) v && not (member v p) && flat p v) (eq-eqb (length p) 0 e)
      go (no z) =
          let h = f (omega arith) in
          or_right (eqb (length p) 0) (ltb (get_or p 0 0) v && linked (final p) v && not (member v p) && flat p v)
          (and_both (and_both (and_both (lt-ltb (get_or p 0 0) v h.above) h.edge) (ap not h.fresh)) h.plane)

  pub record ClosesBy (p : List ℕ) : Type 0 where
    pub three : 3 ≤ length p
    pub direction : get_or p 1 0 < final p
    pub closed : linked (final p) (get_or p 0 0) ≡ true

  closes_out : (p : List ℕ) → closes n linked flat p ≡ true → ClosesBy p
  unfolding closes
  closes_out p e =
      let a = and_left (leb 3 (length p) && ltb (get_or p 1 0) (final p)) (linked (final p) (get_or p 0 0)) e in
      record {
        three = leb-true 3 (length p) (and_left (leb 3 (length p)) (ltb (get_or p 1 0) (final p)) a);
        direction = ltb-true (get_or p 1 0) (final p) (and_right (leb 3 (length p)) (ltb (get_or p 1 0) (final p)) a);
        closed = and_right (leb 3 (length p) && ltb (get_or p 1 0) (final p)) (linked (final p) (get_or p 0 0)) e;
      }

  closes_in : (p : List ℕ) → ClosesBy p → closes n linked flat p ≡ true
  unfolding closes
  closes_in p h = and_both (and_both (le-leb 3 (length p) h.three) (lt-ltb (get_or p 1 0) (final p) h.direction)) h.closed

  -- ---- a chain by its places

  abbrev At : List ℕ → List ℕ → ℕ → Type 0
  At p t i = (get_or t i 0 < n) × (follows n linked flat (p ++ take i t) (get_or t i 0) ≡ true)

  chain_at : (p t : List ℕ) → Chain p t → (i : ℕ) → i < length t → At p t i
  unfolding Chain
  chain_at p [] h i k = absurd (not-suc-le-zero k)
  chain_at p (x ∷ t) h zero k = (h.0, rw append-nil h.1)
  chain_at p (x ∷ t) h (suc i) k =
      let r = chain_at (p ++ x ∷ []) t h.2 i (le_of_suc-le-suc k) in
      (r.0, subst (λ (l : List ℕ). follows n linked flat l (get_or t i 0) ≡ true) (append_assoc p (x ∷ []) (take i t)) r.1)

  chain_from : (p t : List ℕ) → ((i : ℕ) → i < length t → At p t i) → Chain p t
  unfolding Chain
  chain_from p [] f = tt
  chain_from p (x ∷ t) f = (
    (f 0 (omega arith)).0,
    rw append-nil at (f 0 (omega arith)).1,
    chain_from (p ++ x ∷ []) t
        (λ i k. (
          (f (suc i) (omega arith)).0,
          subst (λ (l : List ℕ). follows n linked flat l (get_or t i 0) ≡ true)
              (sym (append_assoc p (x ∷ []) (take i t))) (f (suc i) (omega arith)).1,
        )),
  )

  -- ---- the search finds the loops

  chain_loop : (q : Loop) → Chain [] q → length q ≤ 12 → closes n linked flat q ≡ true → Closed n linked flat q
  chain_loop q h l e =
      let c = closes_out q e in
      record {
        three = c.three;
        twelve = l;
        inside = λ i k. (chain_at [] q h i k).0;
        different = λ i j hi hj x. by_order i j hi hj x (dec_lt i j) (dec_lt j i);
        edges = λ i k. subst (λ (y : ℕ). linked y (get_or q (suc i) 0) ≡ true) (last_of i k) (by (suc i) (omega arith) k).edge;
        closed = c.closed;
        lowest = λ i a b. subst (λ (y : ℕ). y < get_or q i 0) (get_or-take i q 0 0 a) (by i a b).above;
        direction = c.direction;
        plane = λ i a b. (by i a b).plane;
      }
    where
      by : (i : ℕ) → 0 < i → i < length q → FollowsBy (take i q) (get_or q i 0)
      by i a b = follows_out (take i q) (get_or q i 0) (rw (length-take-le i q (le_of_lt b)) a) (chain_at [] q h i b).1

      last_of : (i : ℕ) → suc i < length q → final (take (suc i) q) ≡ get_or q i 0
      last_of i k =
          rw (length-take-le (suc i) q (le_of_lt k)) (let z : suc i - 1 ≡ i = omega arith in rw z (get_or-take (suc i) q i 0 (omega arith)))

      apart : (i j : ℕ) → i < j → j < length q → get_or q i 0 ≡ get_or q j 0 → ⊥
      apart i j a b x =
          true≢false (sym (member_is (get_or q j 0) (take j q) i (rw (length-take-le j q (le_of_lt b)) a) (get_or-take j q i 0 a ∙ x))
          ∙ (by j (omega arith) b).fresh)

      by_order : (i j : ℕ) → i < length q → j < length q → get_or q i 0 ≡ get_or q j 0 → Dec (i < j) → Dec (j < i) → i ≡ j
      by_order i j hi hj x (yes a) b = absurd (apart i j a hj x)
      by_order i j hi hj x (no a) (yes b) = absurd (apart j i b hi (sym x))
      by_order i j hi hj x (no a) (no b) = omega arith

  loop_chain : (q : Loop) → Closed n linked flat q → Chain [] q
  loop_chain q h =
      chain_from [] q
      (λ i k. (h.inside i k, follows_in (take i q) (get_or q i 0) (λ z. by i (rw (length-take-le i q (le_of_lt k)) at z) k)))
    where
      by : (i : ℕ) → 0 < i → i < length q → FollowsBy (take i q) (get_or q i 0)
      by zero a b = absurd (not-suc-le-zero a)
      by (suc i) a b = record {
        above = rw (get_or-take (suc i) q 0 0 a) (h.lowest (suc i) a b);
        edge =
            rw (length-take-le (suc i) q (le_of_lt b)) (let z : suc i - 1 ≡ i = omega arith in
            rw (z, get_or-take (suc i) q i 0 (omega arith)) (h.edges i b));
        fresh = never_true (member (get_or q (suc i) 0) (take (suc i) q)) (λ m.
            let r = member_yes (get_or q (suc i) 0) (take (suc i) q) m in
            let w : r.0 < suc i = rw (length-take-le (suc i) q (le_of_lt b)) at r.1 in
            absurd (omega (arith, h.different r.0 (suc i) (omega arith) b (sym (get_or-take (suc i) q r.0 0 w) ∙ r.2))));
        plane = h.plane (suc i) a b;
      }

  -- every member of the executable list is a loop
  pub found_are : (q : Loop) → Memᴰ q (ext n linked flat most_corners [] 0) → Closed n linked flat q
  unfolding Found
  found_are q m =
      let f = ext_in 12 [] 0 q m in
      chain_loop q (subst (λ (r : List ℕ). Chain [] r) (sym f.2) f.5) (subst (λ (r : List ℕ). length r ≤ 12) (sym f.2) f.4)
      f.6

  -- every loop is a member
  pub found_all : (q : Loop) → Closed n linked flat q → Memᴰ q (ext n linked flat most_corners [] 0)
  found_all [] h = absurd (not-suc-le-zero h.three)
  found_all (x ∷ t) h =
      into_ext 12 [] 0 x t (omega arith) h.twelve (loop_chain (x ∷ t) h)
      (closes_in (x ∷ t) (record { three = h.three; direction = h.direction; closed = h.closed }))
