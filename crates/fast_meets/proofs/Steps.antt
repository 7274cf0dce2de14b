-- The pairs as a loop passes them, one turn at a time.
use mathlib.Core.Path.{◌≡◌, refl}
use mathlib.Core.Bool.{Bool}
use mathlib.Core.List.{List, []}
use Prim.Native.Nat.{ℕ, suc, ◌+◌, ◌-◌, ◌≤◌, ◌<◌}
use native.Mathlib.Nat.{sub-zero}
use native.Mathlib.Numerals.{add-one}
use native.Mathlib.Omega.{arith}
use lib.ListN.{length}
use Rattle.paper.specs.Drawing.{Wire}
use Rattle.fast_meets.specs.Pairs.{meet_at, pair_marked, with_rest, pairs_from, later_marked, offenders}

module _ (d : Wire) where
  abbrev n : ℕ
  n = length d.edges

  -- what the pairs of e with the edges from f on make of w
  abbrev pub rest_of : ℕ → ℕ → List Bool → List Bool
  rest_of e f w = with_rest (meet_at d) e f (n - f) w

  pub rest_start : (e : ℕ) (w : List Bool) → later_marked d e w ≡ rest_of e (e + 1) w
  unfolding later_marked
  rest_start e w = rw add-one refl

  pub rest_turn : (e f : ℕ) (w : List Bool) → f < n → rest_of e f w ≡ rest_of e (f + 1) (pair_marked (meet_at d) e f w)
  unfolding with_rest
  rest_turn e f w h =
      let s : n - f ≡ suc (n - (f + 1)) = omega arith in
      rw (s, add-one) refl

  pub rest_end : (e f : ℕ) (w : List Bool) → n ≤ f → rest_of e f w ≡ w
  unfolding with_rest
  rest_end e f w h =
      let s : n - f ≡ 0 = omega arith in
      rw s refl

  -- what the pairs among the edges from e on make of w
  abbrev pub pairs_of : ℕ → List Bool → List Bool
  pairs_of e w = pairs_from (meet_at d) e (n - e) w

  pub pairs_start : offenders d ≡ pairs_of 0 []
  unfolding offenders
  pairs_start = rw sub-zero refl

  pub pairs_turn : (e : ℕ) (w : List Bool) → e < n → pairs_of e w ≡ pairs_of (e + 1) (later_marked d e w)
  unfolding pairs_from later_marked
  pairs_turn e w h =
      let s : n - e ≡ suc (n - suc e) = omega arith in
      rw (s, add-one) refl

  pub pairs_end : (e : ℕ) (w : List Bool) → n ≤ e → pairs_of e w ≡ w
  unfolding pairs_from
  pairs_end e w h =
      let s : n - e ≡ 0 = omega arith in
      rw s refl
