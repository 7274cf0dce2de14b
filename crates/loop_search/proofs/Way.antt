-- The search's path: its row, and the path with one vertex more.
use mathlib.Core.List.{List, [], ◌∷◌, ◌++◌, append_assoc}
use mathlib.Core.Path.{◌≡◌, sym, ap, ◌∙◌}
use Prim.Native.Nat.{ℕ, suc, ◌+◌, ◌-◌, ◌≤◌, ◌<◌}
use native.Mathlib.Omega.{arith}
use native.Mathlib.Decide.{dec_lt}
use lib.ListN.{length, get_or, take, drop, set, replicate, length-drop, length-set, length-replicate, take-append-drop, get_or-replicate}
use lib.Seq.{paste, length-take-le, get_or-drop, get_or-set_same, get_or-set_other, ext_get_or, take-suc-set, drop-set-lt}
use Rattle.paper.specs.Numbers.{most_corners, fill_byte}
use Rattle.paper.specs.Loops.{row}
use Rattle.loop_search.specs.Paths.{PathAt}

module _ {path : List ℕ} {len n : ℕ} (p : PathAt path len n) where
  pub path_length : length (take len path) ≡ len
  path_length = length-take-le len path (omega (arith, p.most, p.long))

  pub path_row : row (take len path) ≡ len ∷ path
  unfolding row
  path_row =
      let rest : drop len path ≡ replicate (most_corners - len) fill_byte
      = ext_get_or 0 (drop len path) (replicate (most_corners - len) fill_byte)
      (omega (arith, length-drop len path, length-replicate (most_corners - len) fill_byte, p.long)) each in
      let l : length (take len path) ≡ len = path_length in
      (λ i. l i ∷ (take len path ++ replicate (most_corners - l i) fill_byte))
      ∙ ap (λ (t : List ℕ). len ∷ t) (ap (λ (t : List ℕ). take len path ++ t) (sym rest) ∙ take-append-drop len path)
    where
      each : (i : ℕ) → i < length (drop len path) → get_or (drop len path) i 0 ≡ get_or (replicate (most_corners - len) fill_byte) i 0
      each i h =
          let m : i < most_corners - len = omega (arith, h, length-drop len path, p.long) in
          get_or-drop len path i 0 ∙ p.fill (len + i) (omega arith) (omega arith) ∙ sym (get_or-replicate (most_corners - len) i fill_byte 0 m)

  pub path_up : {m : ℕ} → n ≤ m → PathAt path len m
  path_up h = record {
    long = p.long;
    some = p.some;
    most = p.most;
    low = λ i b. let l = p.low i b in omega (arith, l);
    fill = p.fill;
  }

  -- one vertex more
  pub path_next : (v : ℕ) → len < most_corners → v < n → PathAt (set path len v) (len + 1) n
  path_next v h b = record {
    long = length-set path len v ∙ p.long;
    some = omega arith;
    most = omega arith;
    low = λ i m. go i m (dec_lt i len);
    fill = λ i m k. get_or-set_other path len i v 0 (λ e. absurd (omega (arith, e))) ∙ p.fill i (omega arith) k;
  }
    where
      go : (i : ℕ) → i < len + 1 → Dec (i < len) → get_or (set path len v) i 0 < n
      go i m (yes c) =
          let e : get_or (set path len v) i 0 ≡ get_or path i 0 = get_or-set_other path len i v 0 (λ e. absurd (omega (arith, e))) in
          rw e (p.low i c)
      go i m (no c) =
          let z : i ≡ len = omega (arith, c) in
          let e : get_or (set path len v) i 0 ≡ v = ap (λ (j : ℕ). get_or (set path len v) j 0) z
          ∙ get_or-set_same path len v 0 (omega (arith, p.long)) in
          rw e b

-- the first byte of a row is written before its other bytes
pub paste_behind : (t : List ℕ) (at x : ℕ) (l : List ℕ) (k : ℕ) → at < length t
    → paste (set t at x) (at + 1) l k ≡ paste t at (x ∷ l) (suc k)
paste_behind t at x l k h =
    let a : at + 1 ≡ suc at = omega arith in
    let front : take (at + 1) (set t at x) ≡ take at t ++ (x ∷ []) = ap (λ (i : ℕ). take i (set t at x)) a ∙ take-suc-set t at x h in
    let b : at + 1 + k ≡ at + suc k = omega arith in
    let back : drop (at + 1 + k) (set t at x) ≡ drop (at + suc k) t = drop-set-lt (at + 1 + k) t at x (omega arith)
    ∙ ap (λ (i : ℕ). drop i t) b in
    (λ i. front i ++ take k l ++ back i) ∙ ap (λ (s : List ℕ). s ++ drop (at + suc k) t) (append_assoc (take at t) (x ∷ []) (take k l))
