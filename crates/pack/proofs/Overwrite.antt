-- Writing packed fields over what stands there, one behind the other, and the parts of a run.
use mathlib.Core.Path.{◌≡◌, refl, sym, ap, ap₂, ◌∙◌}
use mathlib.Core.List.{List, [], ◌∷◌, ◌++◌, append_assoc, append-nil}
use Prim.Native.Nat.{ℕ, zero, suc, ◌+◌, ◌*◌, ◌^◌, ◌≤◌, ◌<◌}
use native.Mathlib.Nat.{add_assoc, add-zero, zero-mul, suc-mul, add_comm, zero-add, lt_of_lt_of_le, min-le_left, mul_comm}
use native.Mathlib.Numerals.{add-one}
use native.Mathlib.Omega.{arith}
use lib.Pow.{pow_mono, pow_pos}
use lib.ListN.{length, get_or, take, drop, length-append, length-drop, take-append-drop, length-take}
use lib.Seq.{take-nil, take-append-add, take_at, drop_at, drop-drop, length-take-le, take_all, drop-nil, take-suc}
use Rattle.pack.specs.Bits.{bits, run, cut, overwrite, Under}
use Rattle.pack.proofs.Laws.{length_bits, length_run, length_cut, cut-run, run-cut, val-lt, under_take, under_drop, under-append}
use Rattle.pack.proofs.Laws.{run-append}

pub overwrite-none : (d : List ℕ) (i : ℕ) → d ≡ overwrite d i []
unfolding overwrite
overwrite-none d i = sym (rw (append-nil, add-zero) (take-append-drop i d))

-- a second stretch right behind the first
overwrite-over : (d : List ℕ) (i : ℕ) (bs : List ℕ) (j : ℕ) (cs : List ℕ) → i ≤ length d → j ≡ i + length bs
    → overwrite (overwrite d i bs) j cs ≡ overwrite d i (bs ++ cs)
unfolding overwrite
overwrite-over d i bs j cs h e =
    let p : List ℕ = take i d ++ bs in
    let x : List ℕ = p ++ drop (i + length bs) d in
    let l : length p ≡ i + length bs = length-append (take i d) bs ∙ ap (λ (k : ℕ). k + length bs) (length-take-le i d h) in
    let t : take (i + length bs) x ≡ p = take_at p (drop (i + length bs) d) (i + length bs) l in
    let r : drop (i + length bs + length cs) x ≡ drop (i + length (bs ++ cs)) d =
    sym (drop-drop (length cs) (i + length bs) x)
    ∙ ap (drop (length cs)) (drop_at p (drop (i + length bs) d) (i + length bs) l)
    ∙ drop-drop (length cs) (i + length bs) d
    ∙ ap (λ (k : ℕ). drop k d) (add_assoc i (length bs) (length cs) ∙ ap (λ (k : ℕ). i + k) (sym (length-append bs cs))) in
    rw (e, t, r) (ap (λ (q : List ℕ). q ++ drop (i + length (bs ++ cs)) d) (append_assoc (take i d) bs cs))

-- the same of lists that are known to be such
pub overwrite-next : (d : List ℕ) (i : ℕ) (bs : List ℕ) (j : ℕ) (cs r s : List ℕ) → i ≤ length d → j ≡ i + length bs
    → r ≡ overwrite d i bs → s ≡ overwrite r j cs → s ≡ overwrite d i (bs ++ cs)
overwrite-next d i bs j cs r s h e p q = q ∙ ap (λ (t : List ℕ). overwrite t j cs) p ∙ overwrite-over d i bs j cs h e

-- a stretch as long as what stands there
pub overwrite-at : (a b c d : List ℕ) (i : ℕ) → length a ≡ i → length b ≡ length c → overwrite (a ++ (b ++ d)) i c ≡ a ++ (c ++ d)
unfolding overwrite
overwrite-at a b c d i l m =
    let t : take i (a ++ (b ++ d)) ≡ a = take_at a (b ++ d) i l in
    let r : drop (i + length c) (a ++ (b ++ d)) ≡ d =
    sym (drop-drop (length c) i (a ++ (b ++ d))) ∙ ap (drop (length c)) (drop_at a (b ++ d) i l) ∙ drop_at b d (length c) m in
    rw (t, r) (append_assoc a c d)

overwrite-start : (d bs : List ℕ) → overwrite d 0 bs ≡ bs ++ drop (length bs) d
unfolding overwrite
overwrite-start d bs = rw zero-add refl

pub run_none : (w : ℕ) → run w [] ≡ []
unfolding run
run_none w = refl

run_single : (w v : ℕ) → run w (v ∷ []) ≡ bits w v
unfolding run
run_single w v = append-nil (bits w v)

run_snoc : (w : ℕ) (vs : List ℕ) (v : ℕ) → run w (vs ++ (v ∷ [])) ≡ run w vs ++ bits w v
run_snoc w vs v = run-append w vs (v ∷ []) ∙ ap (λ (t : List ℕ). run w vs ++ t) (run_single w v)

pub run_take : (w n : ℕ) (vs : List ℕ) → run w (take n vs) ≡ take (n * w) (run w vs)
unfolding run
run_take w zero vs = rw zero-mul refl
run_take w (suc n) [] = sym (take-nil (suc n * w))
run_take w (suc n) (v ∷ vs) =
    let e : suc n * w ≡ length (bits w v) + n * w = omega (arith, suc-mul n w, length_bits w v) in
    rw (e, take-append-add, run_take w n vs) refl

run_drop : (w n : ℕ) (vs : List ℕ) → run w (drop n vs) ≡ drop (n * w) (run w vs)
unfolding run
run_drop w zero vs = rw zero-mul refl
run_drop w (suc n) [] = sym (drop-nil (suc n * w))
run_drop w (suc n) (v ∷ vs) =
    let e : suc n * w ≡ w + n * w = suc-mul n w ∙ add_comm (n * w) w in
    run_drop w n vs
    ∙ ap (drop (n * w)) (sym (drop_at (bits w v) (run w vs) w (length_bits w v)))
    ∙ drop-drop (n * w) w (bits w v ++ run w vs) ∙ ap (λ (k : ℕ). drop k (bits w v ++ run w vs)) (sym e)

-- numbers of one width are known by their bits
run_inj : (w : ℕ) (us vs : List ℕ) → length us ≡ length vs → Under (2 ^ w) us → Under (2 ^ w) vs → run w us ≡ run w vs → us ≡ vs
run_inj w us vs l hu hv e =
    sym (cut-run w us [] hu) ∙ ap₂ (λ (n : ℕ) (t : List ℕ). cut w n (t ++ [])) l e ∙ cut-run w vs [] hv

under-cut : (w n : ℕ) (bs : List ℕ) → Under 2 bs → Under (2 ^ w) (cut w n bs)
unfolding cut
under-cut w zero bs u i = pow_pos w
under-cut w (suc n) bs u zero =
    lt_of_lt_of_le (val-lt (take w bs) (under_take 2 w bs (omega arith) u)) (pow_mono (rw length-take (min-le_left w (length bs))))
under-cut w (suc n) bs u (suc i) = under-cut w n (drop w bs) (under_drop 2 w bs u) i

-- numbers of w bits whose bits are those of whole numbers, bs, and then what d had are these numbers and then what d had
pub overwrite_numbers : (w n : ℕ) (bs d e : List ℕ) → Under 2 bs → length bs ≡ n * w → length e ≡ length d → n ≤ length d
    → Under (2 ^ w) d → Under (2 ^ w) e → run w e ≡ overwrite (run w d) 0 bs → e ≡ cut w n bs ++ drop n d
overwrite_numbers w n bs d e u l m h hd he q =
    let k : length (cut w n bs ++ drop n d) ≡ length d =
    length-append (cut w n bs) (drop n d) ∙ omega (arith, length_cut w n bs, length-drop n d) in
    let c : run w (cut w n bs) ≡ bs = run-cut w n bs u (omega arith) ∙ take_all (n * w) bs (omega arith) in
    let r : run w (cut w n bs ++ drop n d) ≡ bs ++ drop (n * w) (run w d) =
    run-append w (cut w n bs) (drop n d) ∙ ap₂ (λ (x y : List ℕ). x ++ y) c (run_drop w n d) in
    run_inj w e (cut w n bs ++ drop n d) (m ∙ sym k) he
    (under-append (2 ^ w) (cut w n bs) (drop n d) (under-cut w n bs u) (under_drop (2 ^ w) n d hd))
    (q ∙ overwrite-start (run w d) bs ∙ ap (λ (j : ℕ). bs ++ drop j (run w d)) l ∙ sym r)

-- number k of vs written behind the numbers before it
pub put_next : (d : List ℕ) (i w : ℕ) (vs : List ℕ) (k z : ℕ) → i ≤ length d → k < length vs
    → overwrite (overwrite d i (run w (take k vs))) (i + w * k) (bits w (get_or vs k z)) ≡ overwrite d i (run w (take (k + 1) vs))
put_next d i w vs k z h l =
    let e : i + w * k ≡ i + length (run w (take k vs)) =
    omega (arith, length_run w (take k vs), ap (λ (n : ℕ). n * w) (length-take-le k vs (omega arith)), mul_comm w k) in
    overwrite-over d i (run w (take k vs)) (i + w * k) (bits w (get_or vs k z)) h e
    ∙ ap (overwrite d i) (sym (run_snoc w (take k vs) (get_or vs k z)) ∙ ap (run w) (sym (rw add-one (take-suc vs k z l))))
