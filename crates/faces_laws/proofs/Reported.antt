-- The faces of a solid, as they are read from rows of 13 bytes and the solid's record.
use mathlib.Core.Path.{◌≡◌, refl, sym, ap, ap₂, ◌∙◌}
use mathlib.Core.Bool.{Bool, true, false, ◌&&◌, cond}
use mathlib.Core.List.{List, [], ◌∷◌, ◌++◌, map, flat_map}
use Prim.Native.Nat.{ℕ, zero, suc, ◌+◌, ◌*◌, ◌-◌, ◌≤◌, ◌<◌}
use native.Mathlib.Omega.{arith}
use borrow.Author.Tests.{le-leb}
use lib.Dec.{leb}
use lib.ListN.{length, get_or, take, drop, replicate, get_or-replicate, length-append, length-drop, get_or-append, get_or-eq_default}
use lib.Seq.{ext_get_or, get_or-take, get_or-drop, length-take-le}
use Rattle.lists.specs.Lists.{keep, filter, from, upto}
use Rattle.lists.proofs.Places.{made_length, made_at}
use Rattle.sets.specs.Word.{dig}
use Rattle.sets.proofs.Digits.{never}
use Rattle.sets.proofs.Ones.{dig-below}
use Rattle.paper_laws.proofs.Record.{taken_in_lem, turned_in_lem}
use Rattle.paper_laws.proofs.Rows.{Short, row_first, row-corner, rows_long, rows_at}
use Rattle.paper.specs.Numbers.{most_corners, most_candidates, row_bytes}
use Rattle.paper.specs.Record.{entry, taken_in, turned_in}
use Rattle.paper.specs.Loops.{Loop, loop_at, flipped, row}
use Rattle.paper.specs.FaceList.{row_at, solid_faces}

-- ---- row k of some rows is loop k, whatever comes behind the rows

module _ (cs : List Loop) (short : Short cs) (rest : List ℕ) (k : ℕ) (h : k < length cs) where
  abbrev cells : List ℕ
  cells = flat_map row cs ++ rest

  -- how many corners it has, and how many bytes it takes there
  abbrev size : ℕ
  size = length (loop_at cs k)

  cell : (j : ℕ) → j < row_bytes → get_or cells (row_bytes * k + j) 0 ≡ get_or (row (loop_at cs k)) j 0
  cell j l =
      get_or-append (flat_map row cs) rest 0 (row_bytes * k + j) (omega (arith, rows_long cs short))
      ∙ rows_at cs short k j h l

  long : row_bytes * k + row_bytes ≤ length cells
  long = omega (arith, length-append (flat_map row cs) rest, rows_long cs short)

  corners : get_or cells (row_bytes * k) 0 ≡ size
  corners =
      let e : row_bytes * k ≡ row_bytes * k + 0 = omega arith in
      ap (λ (i : ℕ). get_or cells i 0) e ∙ cell 0 (omega arith) ∙ row_first (loop_at cs k)

  the_loop : take size (drop (row_bytes * k + 1) cells) ≡ loop_at cs k
  the_loop =
      let s : size ≤ most_corners = short k h in
      let behind : List ℕ = drop (row_bytes * k + 1) cells in
      let n : length (take size behind) ≡ size =
      length-take-le size behind (omega (arith, long, length-drop (row_bytes * k + 1) cells)) in
      ext_get_or 0 (take size behind) (loop_at cs k) n
      (λ i l.
      let m : i < size = omega arith in
      let e : row_bytes * k + 1 + i ≡ row_bytes * k + suc i = omega arith in
      get_or-take size behind i 0 m
      ∙ get_or-drop (row_bytes * k + 1) cells i 0
      ∙ ap (λ (j : ℕ). get_or cells j 0) e
      ∙ cell (suc i) (omega arith)
      ∙ row-corner (loop_at cs k) i m)

  pub row_loop : row_at cells k ≡ loop_at cs k
  unfolding row_at
  row_loop =
      let s : size ≤ most_corners = short k h in
      picked (leb (row_bytes * k + row_bytes) (length cells)) (leb (get_or cells (row_bytes * k) 0) most_corners)
      (le-leb (row_bytes * k + row_bytes) (length cells) long) (le-leb (get_or cells (row_bytes * k) 0) most_corners (omega (arith, corners)))
      ∙ ap (λ (c : ℕ). take c (drop (row_bytes * k + 1) cells)) corners
      ∙ the_loop
    where
      picked : {l : List ℕ} (a b : Bool) → a ≡ true → b ≡ true → cond (a && b) l [] ≡ l
      picked a b p q = rw (p, q)

-- ---- the numbers that pass, up to a bound past which none does

module _ {A : Type 0} (p q : ℕ → Bool) (f g : ℕ → A) where
  abbrev Same : ℕ → ℕ → Type 0
  Same i m = map f (filter p (from i m)) ≡ map g (filter q (from i m))

  pub kept_same : (m i : ℕ) → ((k : ℕ) → i ≤ k → k < i + m → p k ≡ q k)
      → ((k : ℕ) → i ≤ k → k < i + m → q k ≡ true → f k ≡ g k) → Same i m
  unfolding filter keep from
  kept_same zero i h e = refl
  kept_same (suc m) i h e =
      go (p i) (q i) (h i (omega arith) (omega arith)) (e i (omega arith) (omega arith))
      (kept_same m (suc i) (λ k a b. h k (omega arith) (omega arith)) (λ k a b. e k (omega arith) (omega arith)))
    where
      go : (x y : Bool) → x ≡ y → (y ≡ true → f i ≡ g i) → Same (suc i) m
          → map f (keep x i (filter p (from (suc i) m))) ≡ map g (keep y i (filter q (from (suc i) m)))
      go true true z e r = ap₂ ◌∷◌ (e refl) r
      go true false z e r = never z
      go false true z e r = never (sym z)
      go false false z e r = r

kept_none : (q : ℕ → Bool) (m i : ℕ) → ((k : ℕ) → i ≤ k → q k ≡ false) → filter q (from i m) ≡ []
unfolding filter keep from
kept_none q zero i h = refl
kept_none q (suc m) i h =
    ap (λ (b : Bool). keep b i (filter q (from (suc i) m))) (h i (omega arith)) ∙ kept_none q m (suc i) (λ k a. h k (omega arith))

kept_short : (q : ℕ → Bool) (n j i : ℕ) → ((k : ℕ) → i + n ≤ k → q k ≡ false) → filter q (from i (n + j)) ≡ filter q (from i n)
unfolding filter keep from
kept_short q zero j i h =
    let z : 0 + j ≡ j = omega arith in
    ap (λ (m : ℕ). filter q (from i m)) z ∙ kept_none q j i (λ k a. h k (omega arith))
kept_short q (suc n) j i h =
    let z : suc n + j ≡ suc (n + j) = omega arith in
    ap (λ (m : ℕ). filter q (from i m)) z ∙ ap (keep (q i) i) (kept_short q n j (suc i) (λ k a. h k (omega arith)))

-- ---- a solid's faces, from the rows and its record

-- the taken loops in order, turned ones the other way round
abbrev pub taken_faces : List Loop → List Bool → List Bool → List Loop
taken_faces cs taken turned = map (λ k. cond (dig turned k) (flipped (loop_at cs k)) (loop_at cs k)) (filter (dig taken) (upto (length cs)))

module _ (cs : List Loop) (short : Short cs) (few : length cs ≤ most_candidates) (rest : List ℕ)
    (taken turned : List Bool) (all : length taken ≡ length cs) (six : ℕ) (more : List ℕ) where
  past : (k : ℕ) → length cs ≤ k → dig taken k ≡ false
  past k h = get_or-eq_default taken false (omega arith)

  -- its record, and what comes behind it
  abbrev there : List ℕ
  there = entry taken turned six ++ more

  -- candidate k as its row and the turned ones give it
  abbrev read : ℕ → Loop
  read k = let l = row_at (flat_map row cs ++ rest) k in cond (dig (turned_in there) k) (flipped l) l

  abbrev face : ℕ → Loop
  face k = cond (dig turned k) (flipped (loop_at cs k)) (loop_at cs k)

  pub solid-faces : solid_faces (flat_map row cs ++ rest) there ≡ taken_faces cs taken turned
  unfolding solid_faces upto
  solid-faces =
      let e : most_candidates ≡ length cs + (most_candidates - length cs) = omega arith in
      kept_same (dig (taken_in there)) (dig taken) read face
      most_candidates 0 (λ k a b. taken_in_lem taken turned six more k (omega arith))
      (λ k a b y. ap₂ (λ (t : Bool) (l : Loop). cond t (flipped l) l) (turned_in_lem taken turned six more k (omega arith))
      (row_loop cs short rest k (dig-below taken all k y)))
      ∙ ap (λ (n : ℕ). map face (filter (dig taken) (from 0 n))) e
      ∙ ap (map face) (kept_short (dig taken) (length cs) (most_candidates - length cs) 0 (λ k a. past k (omega arith)))

-- ---- where every loop is taken and none is turned, the faces are the loops

kept_every : (xs : List ℕ) → filter (λ k. true) xs ≡ xs
unfolding filter keep
kept_every [] = refl
kept_every (x ∷ xs) = ap (λ (ys : List ℕ). x ∷ ys) (kept_every xs)

pub all_taken : (cs : List Loop) → taken_faces cs (replicate (length cs) true) [] ≡ cs
unfolding upto
all_taken cs =
    kept_same (dig (replicate (length cs) true)) (λ k. true) (loop_at cs) (loop_at cs) (length cs) 0
    (λ k a b. get_or-replicate (length cs) k true false (omega arith)) (λ k a b y. refl)
    ∙ ap (map (loop_at cs)) (kept_every (from 0 (length cs)))
    ∙ ext_get_or [] (map (loop_at cs) (from 0 (length cs))) cs (made_length (loop_at cs) (length cs))
    (λ i l. made_at (loop_at cs) (length cs) i [] (by l))
  where
    by : {i : ℕ} → i < length (map (loop_at cs) (from 0 (length cs))) → i < length cs
    by l = omega (arith, l, made_length (loop_at cs) (length cs))
