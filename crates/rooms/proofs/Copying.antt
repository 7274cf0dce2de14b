-- Entries copied one by one to the start of a room: what the loops keep, for entries of any type.
use mathlib.Core.List.{List, ◌++◌}
use mathlib.Core.Path.{◌≡◌, sym, ap, ◌∙◌}
use Prim.Native.Nat.{ℕ, ◌+◌, ◌≤◌, ◌<◌}
use native.Mathlib.Nat.{zero-add}
use native.Mathlib.Numerals.{add-one}
use native.Mathlib.Omega.{arith}
use lib.ListN.{get_or, set, take, drop}
use lib.Seq.{paste, paste-zero, paste-suc}
use Rattle.rooms.specs.Rooms.{copied, Copies}

-- the first i of m entries are copied
pub record Copying {A : Type 0} (m : ℕ) (from room₀ room : List A) (i : ℕ) : Type 0 where
  pub within : i ≤ m
  pub done : room ≡ paste room₀ 0 from i

module _ {A : Type 0} {m : ℕ} {from room₀ : List A} where
  pub copying_start : Copying m from room₀ room₀ 0
  copying_start = record { within = omega arith; done = paste-zero room₀ 0 from }

  module _ {room : List A} {i : ℕ} (s : Copying m from room₀ room i) where
    pub copying_more : (z : A) → Copies m from room₀ → i < m → Copying m from room₀ (set room i (get_or from i z)) (i + 1)
    copying_more z p h = record {
      within = omega arith;
      done =
          (λ k. set (s.done k) (sym (zero-add i) k) (get_or from i z))
          ∙ paste-suc room₀ 0 from i z (omega (arith, p.fits)) (omega (arith, p.there))
          ∙ ap (paste room₀ 0 from) (sym (add-one i));
    }

    pub copying_end : m ≤ i → room ≡ copied m from room₀
    copying_end h =
        let e : i ≡ m = omega (arith, s.within) in
        s.done ∙ ap (paste room₀ 0 from) e ∙ ap (λ (n : ℕ). take m from ++ drop n room₀) (zero-add m)
