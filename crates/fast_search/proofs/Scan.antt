-- The search over all vertices in turn is one over the set digits of those that may follow.
use mathlib.Core.Bool.{Bool, true, false, ◌&&◌, cond}
use mathlib.Core.List.{List, [], ◌∷◌, ◌++◌, map, map-append}
use mathlib.Core.Path.{◌≡◌, refl, sym, ap, ◌∙◌}
use Prim.Native.Nat.{ℕ, zero, suc, ◌+◌, ◌-◌, ◌≤◌, ◌<◌}
use native.Mathlib.Omega.{arith}
use native.Mathlib.Decide.{dec_lt}
use lib.Dec.{ltb}
use lib.ListN.{replicate}
use borrow.Author.Tests.{lt-ltb, le-ltb}
use Rattle.sets.specs.Word.{dig}
use Rattle.sets.proofs.Ones.{nils_low, nils_high}
use Rattle.paper.specs.Loops.{Loop, follows, closes, branch, scan, ext}
use Rattle.fast_search.specs.Rows.{each_of}
use Rattle.fast_search.proofs.Rows.{each_none}

module _ (n : ℕ) (linked : ℕ → ℕ → Bool) (level : List ℕ → ℕ → Bool) where
  -- the digits of those that may come after p
  abbrev pub goes : List ℕ → ℕ → Bool
  goes p w = ltb w n && follows n linked level p w

  module _ {A : Type 0} (g : Loop → A) (f : ℕ → List Bool → List A) (deeper : List ℕ → List Loop) (p : List ℕ)
      (same : (w : ℕ) (rest : List Bool) → w < n → follows n linked level p w ≡ true → ((j : ℕ) → dig rest j ≡ (ltb w j && goes p j))
      → f w rest ≡ map g (branch n linked level true deeper (p ++ w ∷ []))) where
    branch-none : (b : Bool) → b ≡ false → (q : List ℕ) → branch n linked level b deeper q ≡ []
    unfolding branch
    branch-none b e q = rw e refl

    rest-is : (i : ℕ) (bs : List Bool) → ((j : ℕ) → dig bs j ≡ goes p (suc i + j)) → (j : ℕ)
        → dig (replicate (suc i) false ++ bs) j ≡ (ltb i j && goes p j)
    rest-is i bs h j = go (dec_lt i j)
      where
        go : Dec (i < j) → dig (replicate (suc i) false ++ bs) j ≡ (ltb i j && goes p j)
        go (no k) = nils_low (suc i) j bs (omega (arith, k)) ∙ sym (ap (λ (b : Bool). b && goes p j) (le-ltb i j (omega (arith, k))))
        go (yes k) =
            let e : j ≡ (j - suc i) + suc i = omega arith in
            let e' : suc i + (j - suc i) ≡ j = omega arith in
            ap (dig (replicate (suc i) false ++ bs)) e ∙ nils_high (suc i) (j - suc i) bs ∙ h (j - suc i) ∙ ap (goes p) e'
            ∙ sym (ap (λ (b : Bool). b && goes p j) (lt-ltb i j k))

    pub each_scan : (i k : ℕ) → i + k ≡ n → (row : List Bool) → ((j : ℕ) → dig row j ≡ goes p (i + j))
        → each_of f i row ≡ map g (scan n linked level deeper p i k)
    unfolding each_of scan
    each_scan i zero s row h = each_none f i row (λ j. h j ∙ past j)
      where
        past : (j : ℕ) → goes p (i + j) ≡ false
        past j = ap (λ (b : Bool). b && follows n linked level p (i + j)) (le-ltb (i + j) n (omega arith))
    each_scan i (suc k) s [] h =
        sym
        (map-append g (branch n linked level (follows n linked level p i) deeper (p ++ i ∷ [])) (scan n linked level deeper p (suc i) k)
        ∙ (λ t. map g (branch-none (follows n linked level p i) none (p ++ i ∷ []) t) ++ map g (scan n linked level deeper p (suc i) k))
        ∙ sym (each_scan (suc i) k (omega arith) [] later))
      where
        here : ltb i n ≡ true
        here = lt-ltb i n (omega arith)

        zero-add : i + 0 ≡ i
        zero-add = omega arith

        none : follows n linked level p i ≡ false
        none = sym (ap (λ (b : Bool). b && follows n linked level p i) here) ∙ ap (goes p) (sym zero-add) ∙ sym (h 0)

        later : (j : ℕ) → false ≡ goes p (suc i + j)
        later j =
            let e : i + suc j ≡ suc i + j = omega arith in
            h (suc j) ∙ ap (goes p) e
    each_scan i (suc k) s (b ∷ bs) h =
        go b refl (each_scan (suc i) k (omega arith) bs later)
        ∙ sym
        (map-append g (branch n linked level (follows n linked level p i) deeper (p ++ i ∷ [])) (scan n linked level deeper p (suc i) k))
      where
        here : ltb i n ≡ true
        here = lt-ltb i n (omega arith)

        zero-add : i + 0 ≡ i
        zero-add = omega arith

        first : b ≡ follows n linked level p i
        first = h 0 ∙ ap (goes p) zero-add ∙ ap (λ (t : Bool). t && follows n linked level p i) here

        later : (j : ℕ) → dig bs j ≡ goes p (suc i + j)
        later j =
            let e : i + suc j ≡ suc i + j = omega arith in
            h (suc j) ∙ ap (goes p) e

        go : (c : Bool) → b ≡ c → each_of f (suc i) bs ≡ map g (scan n linked level deeper p (suc i) k)
            → each_of f i (c ∷ bs) ≡ map g (branch n linked level (follows n linked level p i) deeper (p ++ i ∷ [])) ++ map g
            (scan n linked level deeper p (suc i) k)
        go true e r =
            let t : follows n linked level p i ≡ true = sym first ∙ e in
            let u : f i (replicate (suc i) false ++ bs) ≡ map g (branch n linked level true deeper (p ++ i ∷ [])) = same i
            (replicate (suc i) false ++ bs) (omega arith) t (rest-is i bs later) in
            λ x. (u ∙ ap (λ (c : Bool). map g (branch n linked level c deeper (p ++ i ∷ []))) (sym t)) x ++ r x
        go false e r =
            r ∙ ap (λ (l : List Loop). map g l ++ map g (scan n linked level deeper p (suc i) k))
            (sym (branch-none (follows n linked level p i) (sym first ∙ e) (p ++ i ∷ [])))

  -- ---- a path that nothing can close
  module _ (Dead : List ℕ → Type 0) (no_loop : (p : List ℕ) (v : ℕ) → v < n → Dead p → follows n linked level p v ≡ true
      → closes n linked level (p ++ v ∷ []) ≡ false)
      (dead_more : (p : List ℕ) (v : ℕ) → v < n → Dead p → follows n linked level p v ≡ true → Dead (p ++ v ∷ [])) where
    branch_dead : (b : Bool) (deeper : List ℕ → List Loop) (q : List ℕ) → (b ≡ true → closes n linked level q ≡ false)
        → (b ≡ true → deeper q ≡ []) → branch n linked level b deeper q ≡ []
    unfolding branch
    branch_dead false deeper q c e = refl
    branch_dead true deeper q c e = ap (λ (b : Bool). cond b (q ∷ deeper q) (deeper q)) (c refl) ∙ e refl

    scan_dead : (deeper : List ℕ → List Loop) → ((q : List ℕ) → Dead q → deeper q ≡ []) → (p : List ℕ) → Dead p → (v k : ℕ) → v + k ≤ n
        → scan n linked level deeper p v k ≡ []
    unfolding scan
    scan_dead deeper f p d v zero h = refl
    scan_dead deeper f p d v (suc k) h =
        λ t. branch_dead (follows n linked level p v) deeper (p ++ v ∷ []) (no_loop p v (omega arith) d)
        (λ e. f (p ++ v ∷ []) (dead_more p v (omega arith) d e)) t
        ++ scan_dead deeper f p d (suc v) k (omega arith) t

    pub ext_dead : (c : ℕ) (p : List ℕ) → Dead p → ext n linked level c p 0 ≡ []
    unfolding ext
    ext_dead zero p d = refl
    ext_dead (suc c) p d = scan_dead (λ q. ext n linked level c q 0) (λ q e. ext_dead c q e) p d 0 (n - 0) (omega arith)
