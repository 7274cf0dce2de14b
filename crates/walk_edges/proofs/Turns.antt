-- One side more, of a loop that is marked on its edges.
use mathlib.Core.Bool.{true}
use mathlib.Core.List.{List}
use mathlib.Core.Path.{◌≡◌, refl, ap, sym, ◌∙◌}
use Prim.Native.Nat.{ℕ, ◌+◌, ◌<◌, ◌≤◌}
use native.Mathlib.Numerals.{add-one}
use native.Mathlib.Omega.{arith}
use borrow.Author.Tests.{lt-ltb, le-ltb}
use lib.Dec.{ltb}
use lib.ListN.{get_or, length}
use Rattle.sets.specs.Sets.{MarkedAt}
use Rattle.loop_words.proofs.Masks.{prior, side_number}
use Rattle.walk_edges.specs.Marks.{RowOf}
use Rattle.walk_edges.proofs.Stored.{Stored, stored_more, stored_same}
use Rattle.walk_edges.proofs.Ups.{rises}

-- k is marked on the sides to the first i corners, and a is the corner before
pub record Kept {rows : List ℕ} {k : ℕ} {number : List ℕ} (w : RowOf rows k number) (on₀ on up₀ up : List ℕ) (len a i : ℕ) : Type 0 where
  pub whole : len ≡ length w.drawn.loop
  pub not_past : i ≤ len
  pub last : a ≡ get_or w.drawn.loop (prior (length w.drawn.loop) i) 0
  pub on_in : Stored (λ j. true) (side_number number w.drawn.loop) (length w.drawn.loop) k on₀ on i
  pub up_in : Stored (rises w.drawn.loop) (side_number number w.drawn.loop) (length w.drawn.loop) k up₀ up i
  pub on_long : length on ≡ length on₀
  pub up_long : length up ≡ length up₀

-- on to corner b by the side e
module _ {rows : List ℕ} {k : ℕ} {number : List ℕ} (w : RowOf rows k number) {on₀ on up₀ up : List ℕ} {len a i : ℕ}
    (kept : Kept w on₀ on up₀ up len a i) where
  abbrev loop : List ℕ
  loop = w.drawn.loop

  abbrev side : ℕ → ℕ
  side = side_number number loop

  module _ {b e : ℕ} (h : i < length loop) (b_is : b ≡ get_or loop i 0) (e_is : e ≡ side i) (on' : List ℕ) (on-mark : MarkedAt on e k on')
      (on_same : length on' ≡ length on) where
    rises_is : ltb a b ≡ rises loop i
    rises_is = λ t. ltb (kept.last t) (b_is t)

    last_is : b ≡ get_or loop (prior (length loop) (i + 1)) 0
    last_is = b_is ∙ ap (λ (j : ℕ). get_or loop (prior (length loop) j) 0) (sym (add-one i))

    on_more : Stored (λ j. true) side (length loop) k on₀ on' (i + 1)
    on_more = stored_more (λ j. true) side (length loop) k on₀ on on' i e h e_is refl on-mark kept.on_in

    -- it goes up, or down
    pub turn_up : (up' : List ℕ) → MarkedAt up e k up' → length up' ≡ length up → a < b → Kept w on₀ on' up₀ up' len b (i + 1)
    turn_up up' up-mark up_same r =
        record {
          whole = kept.whole;
          not_past = omega (arith, kept.whole);
          last = last_is;
          on_in = on_more;
          up_in = stored_more (rises loop) side (length loop) k up₀ up up' i e h e_is (sym rises_is ∙ lt-ltb a b r) up-mark kept.up_in;
          on_long = on_same ∙ kept.on_long;
          up_long = up_same ∙ kept.up_long;
        }

    pub turn_down : b ≤ a → Kept w on₀ on' up₀ up len b (i + 1)
    turn_down r =
        record {
          whole = kept.whole;
          not_past = omega (arith, kept.whole);
          last = last_is;
          on_in = on_more;
          up_in = stored_same (rises loop) side (length loop) k up₀ up i h (sym rises_is ∙ le-ltb a b r) kept.up_in;
          on_long = on_same ∙ kept.on_long;
          up_long = kept.up_long;
        }
