-- A writer that reports a length found nothing to refuse, and the length is the one that it gives then.
use mathlib.Core.Path.{◌≡◌, refl, sym, ◌∙◌}
use Prim.Native.Nat.{ℕ}
use native.Mathlib.Omega.{arith}
use Rattle.paper.specs.declared.Refusal.{Refusal}
use Rattle.std.specs.Prelude.{Ok, Err}
use Rattle.paper.specs.Refusals.{Answer, Fine, Written}

-- `to` is what the writer says for each answer of its checks
pub wrote : (to : Answer → Written) (size : ℕ) → to Fine ≡ Ok size
    → ((r : Refusal) → to (Err r) ≡ Err r)
    → (n : ℕ) (a : Answer) → to a ≡ Ok n → (Fine ≡ a) × (n ≡ size)
wrote to size p q n (Ok _) e = let z : Ok n ≡ Ok size = sym e ∙ p in (refl, cc)
wrote to size p q n (Err r) e =
    let z : Err r ≡ Ok n = sym (q r) ∙ e in
    let no : ◌≡◌ {A = ℕ} 0 1 = cc in absurd (omega arith)
