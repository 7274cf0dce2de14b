-- A number between its limits.
use mathlib.Core.Path.{◌≡◌, refl}
use mathlib.Core.Bool.{Bool, true, false, true≢false}
use Prim.Native.Nat.{ℕ, ◌≤◌}
use borrow.Author.Tests.{le-ltb, ltb-false}
use lib.Dec.{ltb}
use Rattle.paper.specs.Format.{outside}

pub not_outside : (lo hi n : ℕ) → lo ≤ n → n ≤ hi → outside lo hi n ≡ false
not_outside lo hi n a b = rw (le-ltb n lo a) (le-ltb hi n b)

pub outside_false : (lo hi n : ℕ) → outside lo hi n ≡ false → (lo ≤ n) × (n ≤ hi)
outside_false lo hi n e = go (ltb n lo) refl
  where
    go : (b : Bool) → ltb n lo ≡ b → (lo ≤ n) × (n ≤ hi)
    go true t = absurd (true≢false (rw t at e))
    go false t = (ltb-false n lo t, ltb-false hi n (rw t at e))
