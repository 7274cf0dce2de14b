-- The lowest corner of a face, the face from a place on, and its normal form, corner by corner.
use mathlib.Core.Path.{◌≡◌, refl, sym, ap, ◌∙◌}
use mathlib.Core.Bool.{Bool, true, false, cond}
use mathlib.Core.List.{List, ◌++◌}
use Prim.Native.Nat.{ℕ, ◌+◌, ◌-◌, ◌*◌, ◌≤◌, ◌<◌}
use native.Mathlib.Numerals.{add-one}
use native.Mathlib.Omega.{arith}
use lib.Dec.{ltb}
use lib.ListN.{length, get_or, take, drop, length-drop, get_or-append}
use lib.Seq.{get_or-take, get_or-drop, get_or-append-add}
use borrow.Author.Tests.{lt-ltb, le-ltb}
use Rattle.paper.specs.Numbers.{row_bytes}
use Rattle.paper.specs.Loops.{flipped}
use Rattle.paper.specs.FaceList.{row_at}
use Rattle.paper.specs.Verdict.{lowest_at, from_place, from_lowest, onward, normal_form}
use Rattle.polygon.specs.Rings.{corner_count}
use Rattle.means_loops.proofs.Rings.{same_length, flip_length, flip-first, flip-at}
use Rattle.means_loops.proofs.Lowest.{lowest-below, same_low}
use Rattle.verdict_faces.specs.Form.{FaceIn, TurnedCorner}
use Rattle.verdict_faces.proofs.Rows.{row_long, corner-at}

-- ---- one corner more: the lowest so far

lowest_yes : (c : List ℕ) (k : ℕ) → get_or c k 0 < get_or c (lowest_at c k) 0 → lowest_at c (k + 1) ≡ k
unfolding lowest_at
lowest_yes c k h = rw (add-one, lt-ltb (get_or c k 0) (get_or c (lowest_at c k) 0) h)

lowest_no : (c : List ℕ) (k : ℕ) → get_or c (lowest_at c k) 0 ≤ get_or c k 0 → lowest_at c (k + 1) ≡ lowest_at c k
unfolding lowest_at
lowest_no c k h = rw (add-one, le-ltb (get_or c k 0) (get_or c (lowest_at c k) 0) h)

pub lowest_zero : (c : List ℕ) → 0 ≡ lowest_at c 0
unfolding lowest_at
lowest_zero c = refl

-- ---- from place m on, and past the last

module _ (c : List ℕ) (m i : ℕ) where
  pub place_before : m + i < length c → get_or (from_place c m) i 0 ≡ get_or c (m + i) 0
  unfolding from_place
  place_before h = get_or-append (drop m c) (take m c) 0 i (omega (arith, length-drop m c)) ∙ get_or-drop m c i 0

  pub place-past : m ≤ length c → i < length c → length c ≤ m + i → get_or (from_place c m) i 0 ≡ get_or c (m + i - length c) 0
  unfolding from_place
  place-past h k l =
      let d = length-drop m c in
      let e : i ≡ length (drop m c) + (m + i - length c) = omega arith in
      ap (λ (n : ℕ). get_or (drop m c ++ take m c) n 0) e
      ∙ get_or-append-add (drop m c) (take m c) (m + i - length c) 0
      ∙ get_or-take m c (m + i - length c) 0 (omega arith)

-- the same, read from the row
pub face_long : {table : List ℕ} {r : ℕ} → FaceIn table r → length (row_at table r) ≡ corner_count table r
face_long {table} {r} f = row_long table r f.room f.most

pub face-corner : {table : List ℕ} {r : ℕ} → FaceIn table r → (i : ℕ) → i < corner_count table r
    → get_or table (row_bytes * r + 1 + i) 0 ≡ get_or (row_at table r) i 0
face-corner {table} {r} f = corner-at table r f.room f.most

pub lowest_in : {table : List ℕ} {r m : ℕ} → FaceIn table r → m ≡ lowest_at (row_at table r) (length (row_at table r))
    → m < corner_count table r
lowest_in {table} {r} f e =
    let l = face_long f in
    omega (arith, f.least, e, lowest-below (row_at table r) (length (row_at table r)) (omega (arith, f.least)))

-- the lowest of the corners up to k, read from the row
module _ {table : List ℕ} {r : ℕ} (f : FaceIn table r) {m k : ℕ} (e : m ≡ lowest_at (row_at table r) k) (hm : m < corner_count table r)
    (hk : k < corner_count table r) where
  lowest_so_far : get_or table (row_bytes * r + 1 + m) 0 ≡ get_or (row_at table r) (lowest_at (row_at table r) k) 0
  lowest_so_far = face-corner f m hm ∙ ap (λ (i : ℕ). get_or (row_at table r) i 0) e

  pub lowest_new : get_or table (row_bytes * r + 1 + k) 0 < get_or table (row_bytes * r + 1 + m) 0 → k ≡ lowest_at (row_at table r) (k + 1)
  lowest_new h = sym (lowest_yes (row_at table r) k (omega (arith, lowest_so_far, face-corner f k hk)))

  pub lowest_kept : get_or table (row_bytes * r + 1 + m) 0 ≤ get_or table (row_bytes * r + 1 + k) 0 → m ≡ lowest_at (row_at table r) (k + 1)
  lowest_kept h = e ∙ sym (lowest_no (row_at table r) k (omega (arith, lowest_so_far, face-corner f k hk)))

module _ {table : List ℕ} {r m i : ℕ} (t : TurnedCorner table r m i) where
  abbrev face : List ℕ
  face = row_at table r

  module _ {n : ℕ} (e : n ≡ corner_count table r) where
    pub read_before : m + i < n → get_or table (row_bytes * r + 1 + (m + i)) 0 ≡ get_or (from_place face m) i 0
    read_before h = face-corner t.face (m + i) (omega arith) ∙ sym (place_before face m i (omega (arith, face_long t.face)))

    pub read_past : n ≤ m + i → get_or table (row_bytes * r + 1 + (m + i - n)) 0 ≡ get_or (from_place face m) i 0
    read_past h =
        let l : n ≡ length face = e ∙ sym (face_long t.face) in
        let s = t.start in
        let b = t.below in
        face-corner t.face (m + i - n) (omega arith) ∙ ap (λ (k : ℕ). get_or face (m + i - k) 0) l
        ∙ sym (place-past face m i (omega arith) (omega arith) (omega arith))

-- ---- the normal form

low_long : (f : List ℕ) → length (from_lowest f) ≡ length f
low_long f = same_length (same_low f)

module _ (f : List ℕ) where
  pub normal_long : length (normal_form f) ≡ length f
  unfolding normal_form
  normal_long = go (onward f)
    where
      go : (b : Bool) → length (cond b (from_lowest f) (flipped (from_lowest f))) ≡ length f
      go true = low_long f
      go false = flip_length (from_lowest f) ∙ low_long f

  module _ {m : ℕ} (e : m ≡ lowest_at f (length f)) where
    from_low : from_place f m ≡ from_lowest f
    unfolding from_lowest
    from_low = ap (from_place f) e

    -- the corners beside the lowest decide the direction
    pub onward_by : {n a z : ℕ} → n ≡ length f → a ≡ get_or (from_place f m) 1 0 → z ≡ get_or (from_place f m) (n - 1) 0
        → ltb a z ≡ onward f
    unfolding onward
    onward_by {n} {a} {z} l p q =
        (λ i. ltb (p i) (q i))
        ∙ (λ i. ltb (get_or (from_low i) 1 0) (get_or (from_low i) ((l ∙ sym (low_long f)) i - 1) 0))

    module _ (i : ℕ) where
      pub corner_on : onward f ≡ true → get_or (from_place f m) i 0 ≡ get_or (normal_form f) i 0
      unfolding normal_form
      corner_on o = rw (from_low, o)

      pub corner-first : onward f ≡ false → i ≡ 0 → get_or (from_place f m) 0 0 ≡ get_or (normal_form f) i 0
      unfolding normal_form
      corner-first o z = rw (from_low, o, z) (sym (flip-first (from_lowest f)))

      pub corner_back : onward f ≡ false → {n : ℕ} → n ≡ length f → 0 < i → i < n
          → get_or (from_place f m) (n - i) 0 ≡ get_or (normal_form f) i 0
      unfolding normal_form
      corner_back o {n} l p h =
          let w : length (from_lowest f) ≡ n = low_long f ∙ sym l in
          rw (from_low, o) (sym (flip-at (from_lowest f) i p (omega arith) ∙ ap (λ (k : ℕ). get_or (from_lowest f) (k - i) 0) w))
