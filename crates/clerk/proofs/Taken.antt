-- What was taken of the input, and what was added to the output.
use Rattle.std.proofs.Common.{◌≡◌, ℕ, ◌+◌, ◌≤◌, List, ◌++◌, None, Some, arith, length, take, drop, sym, ap, subst, ◌∙◌, take_at, length-append}
use Rattle.std.specs.Prelude.{Option}
use Rattle.std.specs.Io.KnownBytes.{Consumes, Appends, Keeps}
use Rattle.std.proofs.KnownBytes.{Consumes-trans}
use Rattle.std.proofs.lemmas.Slice.{take-put_mid}
use borrow.Rule.Slice.PartMut.{put_mid}
use lib.Seq.{sets, sets-eq}

-- a head of h bytes, and items behind it
pub both_taken : (a b c : Option (List ℕ)) (head rest items : List ℕ) (h k end : ℕ) → Consumes a b head → Consumes b c items
    → length head ≡ h → end ≡ h + length items → Consumes a c (take end (put_mid h k (head ++ rest) items))
both_taken a b c head rest items h k end p q l e =
    let whole = take-put_mid h k (head ++ rest) items end e (omega (arith, length-append head rest)) in
    let front = take_at head rest h l in
    subst (Consumes a c) (sym (whole ∙ ap (λ (l : List ℕ). l ++ items) front)) (Consumes-trans a b c head items p q)

pub Appends-kept : (a b c : Option (List ℕ)) (bs : List ℕ) → Appends a b bs → Keeps b c → Appends a c bs
Appends-kept None b c bs p q = tt
Appends-kept (Some x) None c bs p q = absurd p
Appends-kept (Some x) (Some y) None bs p q = absurd q
Appends-kept (Some x) (Some y) (Some z) bs p q = q ∙ p

-- what was put at a room's start stands there
pub put_front : (bytes room₀ room : List ℕ) (n : ℕ) → room ≡ sets room₀ 0 bytes → n ≡ 0 + length bytes → length bytes ≤ length room₀
    → take n room ≡ bytes
put_front bytes room₀ room n e f h =
    ap (take n) (e ∙ sets-eq bytes room₀ 0 (omega arith)) ∙ take_at bytes (drop (0 + length bytes) room₀) n (omega arith)
