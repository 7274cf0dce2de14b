-- An edge by its two counts as the code takes them: M, the taken, and, only where M is below 2, L, the undecided; and what settling does to
-- the sets of those taken and those undecided. One law for each way through the code.
use mathlib.Core.Bool.{Bool, true, false, ◌&&◌, ◌||◌, cond, not}
use mathlib.Core.List.{List, [], ◌∷◌}
use mathlib.Core.Path.{◌≡◌, refl, sym, ap, ap₂, ◌∙◌}
use Prim.Native.Nat.{ℕ, ◌+◌, ◌<◌}
use native.Mathlib.Omega.{arith}
use lib.Dec.{eqb, ltb}
use borrow.Author.Tests.{eq-eqb, ne_eqb, lt-ltb, le-ltb}
use Rattle.sets.specs.Word.{bit, count, both, either, less}
use Rattle.sets.proofs.Ones.{nil_either}
use Rattle.sets.proofs.Digits.{less_nil}
use Rattle.paper.specs.Conversion.{takens}
use Rattle.paper.specs.Walk.{Status, Taken, Rejected, Undecided, is_taken, is_open, taken_on, open_on, decide_one, decide, settle, contradicts}
use Rattle.means_walk.specs.Lowest.{opens}
use Rattle.means_walk.proofs.Status.{count-opens, count-takens}
use Rattle.fast_sweeps.specs.Worklist.{decided_on}

-- ---- the sets of those taken and of those undecided
one_takes : (b : Bool) (s : Status) → is_taken (decide_one Taken b s) ≡ is_taken s || (b && is_open s)
one_takes false Taken = refl
one_takes false Rejected = refl
one_takes false Undecided = refl
one_takes true Taken = refl
one_takes true Rejected = refl
one_takes true Undecided = refl

-- t | mask & u
pub takens_taken : (mask : List Bool) (st : List Status) → takens (decide Taken mask st) ≡ either (takens st) (both mask (opens st))
unfolding decide either both
takens_taken [] st = sym (nil_either (takens st))
takens_taken (b ∷ mask) [] = refl
takens_taken (b ∷ mask) (s ∷ st) = ap₂ (λ (x : Bool) (y : List Bool). x ∷ y) (one_takes b s) (takens_taken mask st)

one_rejects : (b : Bool) (s : Status) → is_taken (decide_one Rejected b s) ≡ is_taken s
one_rejects false s = refl
one_rejects true Taken = refl
one_rejects true Rejected = refl
one_rejects true Undecided = refl

pub takens_rejected : (mask : List Bool) (st : List Status) → takens (decide Rejected mask st) ≡ takens st
unfolding decide
takens_rejected [] st = refl
takens_rejected (b ∷ mask) [] = refl
takens_rejected (b ∷ mask) (s ∷ st) = ap₂ (λ (x : Bool) (y : List Bool). x ∷ y) (one_rejects b s) (takens_rejected mask st)

one_decides : (v : Status) → is_open v ≡ false → (b : Bool) (s : Status) → is_open (decide_one v b s) ≡ is_open s && not (b && is_open s)
one_decides v o false Taken = refl
one_decides v o false Rejected = refl
one_decides v o false Undecided = refl
one_decides v o true Taken = refl
one_decides v o true Rejected = refl
one_decides v o true Undecided = o

-- u & !(mask & u)
pub opens_decided : (v : Status) → is_open v ≡ false → (mask : List Bool) (st : List Status)
    → opens (decide v mask st) ≡ less (opens st) (both mask (opens st))
unfolding decide less both
opens_decided v o [] st = sym (less_nil (opens st))
opens_decided v o (b ∷ mask) [] = refl
opens_decided v o (b ∷ mask) (s ∷ st) = ap₂ (λ (x : Bool) (y : List Bool). x ∷ y) (one_decides v o b s) (opens_decided v o mask st)

-- how many are left
bit_split : (x y : Bool) → bit (x && not (y && x)) + bit (y && x) ≡ bit x
bit_split true true = refl
bit_split true false = refl
bit_split false true = refl
bit_split false false = refl

pub count_split : (u mask : List Bool) → count (less u (both mask u)) + count (both mask u) ≡ count u
unfolding count less both
count_split [] [] = refl
count_split [] (y ∷ mask) = refl
count_split (x ∷ u) [] = omega arith
count_split (x ∷ u) (y ∷ mask) = omega (arith, bit_split x y, count_split u mask)

-- ---- the ways through
module _ (mask : List Bool) (st : List Status) where
  abbrev pub M : ℕ
  M = count (both mask (takens st))

  abbrev pub L : ℕ
  L = count (both mask (opens st))

  contradicts_by : (m l : ℕ) → taken_on mask st ≡ m → open_on mask st ≡ l → contradicts mask st ≡ (ltb 2 m || ltb (m + l) 2)
  unfolding contradicts
  contradicts_by m l p q = ap₂ (λ (x y : ℕ). ltb 2 x || ltb (x + y) 2) p q

  settle_by : (m l : ℕ) → taken_on mask st ≡ m → open_on mask st ≡ l
      → settle mask st ≡ cond (eqb m 2) (decide Rejected mask st) (cond (eqb (m + l) 2) (decide Taken mask st) st)
  unfolding settle
  settle_by m l p q = ap₂ (λ (x y : ℕ). cond (eqb x 2) (decide Rejected mask st) (cond (eqb (x + y) 2) (decide Taken mask st) st)) p q

  decided_by : (m l : ℕ) → taken_on mask st ≡ m → open_on mask st ≡ l
      → decided_on mask st ≡ cond (eqb m 2) (both mask (opens st)) (cond (eqb (m + l) 2) (both mask (opens st)) [])
  unfolding decided_on
  decided_by m l p q = ap₂ (λ (x y : ℕ). cond (eqb x 2) (both mask (opens st)) (cond (eqb (x + y) 2) (both mask (opens st)) [])) p q

  is_M : taken_on mask st ≡ M
  is_M = sym (count-takens mask st)

  is_L : open_on mask st ≡ L
  is_L = sym (count-opens mask st)

  -- "if 2 < m { return Broken }"
  pub many : 2 < M → contradicts mask st ≡ true
  many h = contradicts_by M L is_M is_L ∙ ap (λ (b : Bool). b || ltb (M + L) 2) (lt-ltb 2 M h)

  -- "if m + l < 2 { return Broken }"
  pub few : M + L < 2 → contradicts mask st ≡ true
  few h = contradicts_by M L is_M is_L ∙ ap₂ ◌||◌ (le-ltb 2 M (omega arith)) (lt-ltb (M + L) 2 h)

  -- m = 2: no contradiction, and the undecided are rejected
  pub record Rejects : Type 0 where
    pub calm : contradicts mask st ≡ false
    pub decided : decided_on mask st ≡ both mask (opens st)
    pub takes : takens (settle mask st) ≡ takens st
    pub leaves : opens (settle mask st) ≡ less (opens st) (both mask (opens st))

  pub two : M ≡ 2 → Rejects
  two h =
      let s : settle mask st ≡ decide Rejected mask st = settle_by M L is_M is_L
      ∙ ap (λ (b : Bool). cond b (decide Rejected mask st) (cond (eqb (M + L) 2) (decide Taken mask st) st)) (eq-eqb M 2 h) in
      record {
        calm = contradicts_by M L is_M is_L ∙ ap₂ ◌||◌ (le-ltb 2 M (omega arith)) (le-ltb (M + L) 2 (omega arith));
        decided =
            decided_by M L is_M is_L ∙ ap (λ (b : Bool). cond b (both mask (opens st)) (cond (eqb (M + L) 2) (both mask (opens st)) []))
            (eq-eqb M 2 h);
        takes = ap takens s ∙ takens_rejected mask st;
        leaves = ap opens s ∙ opens_decided Rejected refl mask st;
      }

  -- m < 2, m + l = 2: no contradiction, and the undecided are taken
  pub record Takes : Type 0 where
    pub calm : contradicts mask st ≡ false
    pub decided : decided_on mask st ≡ both mask (opens st)
    pub takes : takens (settle mask st) ≡ either (takens st) (both mask (opens st))
    pub leaves : opens (settle mask st) ≡ less (opens st) (both mask (opens st))

  pub exactly : M < 2 → M + L ≡ 2 → Takes
  exactly h k =
      let s : settle mask st ≡ decide Taken mask st = settle_by M L is_M is_L
      ∙ ap₂ (λ (a b : Bool). cond a (decide Rejected mask st) (cond b (decide Taken mask st) st)) (ne_eqb M 2 (λ e. omega arith))
      (eq-eqb (M + L) 2 k) in
      record {
        calm = contradicts_by M L is_M is_L ∙ ap₂ ◌||◌ (le-ltb 2 M (omega arith)) (le-ltb (M + L) 2 (omega arith));
        decided = decided_by M L is_M is_L
            ∙ ap₂ (λ (a b : Bool). cond a (both mask (opens st)) (cond b (both mask (opens st)) [])) (ne_eqb M 2 (λ e. omega arith))
            (eq-eqb (M + L) 2 k);
        takes = ap takens s ∙ takens_taken mask st;
        leaves = ap opens s ∙ opens_decided Taken refl mask st;
      }

  -- m < 2, 2 < m + l: no contradiction, and nothing changes
  pub record Leaves : Type 0 where
    pub calm : contradicts mask st ≡ false
    pub decided : decided_on mask st ≡ []
    pub still : settle mask st ≡ st

  pub more : M < 2 → 2 < M + L → Leaves
  more h k = record {
    calm = contradicts_by M L is_M is_L ∙ ap₂ ◌||◌ (le-ltb 2 M (omega arith)) (le-ltb (M + L) 2 (omega arith));
    decided = decided_by M L is_M is_L
        ∙ ap₂ (λ (a b : Bool). cond a (both mask (opens st)) (cond b (both mask (opens st)) [])) (ne_eqb M 2 (λ e. omega arith))
        (ne_eqb (M + L) 2 (λ e. omega arith));
    still = settle_by M L is_M is_L
        ∙ ap₂ (λ (a b : Bool). cond a (decide Rejected mask st) (cond b (decide Taken mask st) st)) (ne_eqb M 2 (λ e. omega arith))
        (ne_eqb (M + L) 2 (λ e. omega arith));
  }
