-- What is reached from vertex 0: a set of vertices by its digits, against a row of them; and that nothing is added once a step adds
-- nothing.
use Rattle.drawing_links.specs.Reach.{DigitsAre, Grown}
use mathlib.Core.Path.{◌≡◌, sym, ap, ◌∙◌}
use mathlib.Core.Bool.{Bool, false, ◌||◌, ◌&&◌}
use mathlib.Core.List.{List}
use Prim.Native.Nat.{ℕ, zero, suc, ◌+◌, ◌-◌, ◌≤◌, ◌<◌}
use native.Mathlib.Decide.{ℕ_discrete}
use native.Mathlib.Omega.{arith}
use borrow.Author.Tests.{eq-eqb, ne_eqb}
use lib.Dec.{eqb}
use lib.ListN.{length, get_or, length-map}
use lib.Seq.{ext_get_or}
use Rattle.lists.specs.Lists.{any, upto}
use Rattle.lists.proofs.Places.{map_at, upto_length, upto-at, any-below-same}
use Rattle.paper.specs.Drawing.{Wire, joined, further, vertices_reached}
use Rattle.sets.specs.Word.{digit}
use Rattle.sets.proofs.Numbers.{digit_power}

eqb_flip : (a b : ℕ) → eqb a b ≡ eqb b a
eqb_flip a b = go (ℕ_discrete a b)
  where
    go : Dec (a ≡ b) → eqb a b ≡ eqb b a
    go (yes e) = eq-eqb a b e ∙ sym (eq-eqb b a (sym e))
    go (no n) = ne_eqb a b n ∙ sym (ne_eqb b a (λ e. n (sym e)))

module _ (d : Wire) (v : ℕ) (n : length d.vertices ≡ v) where
  upto-count : length (upto (length d.vertices)) ≡ v
  upto-count = upto_length (length d.vertices) ∙ n

  -- vertex 0 alone
  pub reach_start : DigitsAre 1 v (vertices_reached d 0)
  unfolding vertices_reached
  reach_start w h =
      let m = length d.vertices in
      digit_power 0 w
      ∙ eqb_flip w 0
      ∙ sym (map_at (eqb 0) (upto m) w 0 false (omega (arith, upto-count)) ∙ ap (eqb 0) (upto-at m w (omega arith)))

  further-at : (row : List Bool) (w : ℕ) → w < v
      → get_or (further d row) w false ≡ (get_or row w false || any (λ u. get_or row u false && joined d u w) (upto v))
  unfolding further
  further-at row w h =
      let f : ℕ → Bool = λ k. get_or row k false || any (λ u. get_or row u false && joined d u k) (upto (length d.vertices)) in
      map_at f (upto (length d.vertices)) w 0 false (omega (arith, upto-count))
      ∙ ap f (upto-at (length d.vertices) w (omega arith))
      ∙ ap (λ (k : ℕ). get_or row w false || any (λ u. get_or row u false && joined d u w) (upto k)) n

  pub reach_more : (m k : ℕ) (row : List Bool) → DigitsAre m v row → Grown m v d k → DigitsAre k v (further d row)
  reach_more m k row s g w h =
      let all =
      any-below-same (λ u. digit m u && joined d u w) v (λ u. get_or row u false && joined d u w)
      (λ u l. ap (λ (t : Bool). t && joined d u w) (s u l)) in
      g w ∙ (λ i. s w h i || all i) ∙ sym (further-at row w h)

  -- ---- at rest

  reached_length : (k : ℕ) → length (vertices_reached d k) ≡ v
  unfolding vertices_reached further
  reached_length zero = length-map (upto (length d.vertices)) (eqb 0) ∙ upto-count
  reached_length (suc k) =
      let m = length d.vertices in
      let row = vertices_reached d k in
      length-map (upto m) (λ w. get_or row w false || any (λ u. get_or row u false && joined d u w) (upto m)) ∙ upto-count

  rests : (k j : ℕ) → further d (vertices_reached d k) ≡ vertices_reached d k → vertices_reached d (k + j) ≡ vertices_reached d k
  unfolding vertices_reached
  rests k zero e = let z : k + 0 ≡ k = omega arith in ap (vertices_reached d) z
  rests k (suc j) e =
      let z : k + suc j ≡ suc (k + j) = omega arith in
      ap (vertices_reached d) z ∙ ap (further d) (rests k j e) ∙ e

  pub reach_rest : (m k : ℕ) → k ≤ v → DigitsAre m v (vertices_reached d k) → Grown m v d m → DigitsAre m v (vertices_reached d v)
  unfolding vertices_reached
  reach_rest m k l s g w h =
      let row = vertices_reached d k in
      let longer = reached_length (suc k) in
      let still : further d row ≡ row =
      ext_get_or false (further d row) row (longer ∙ sym (reached_length k))
      (λ u q. sym (reach_more m m row s g u (omega (arith, longer))) ∙ s u (omega (arith, longer))) in
      let e : k + (v - k) ≡ v = omega arith in
      s w h ∙ ap (λ (row : List Bool). get_or row w false) (sym (rests k (v - k) still) ∙ ap (vertices_reached d) e)
