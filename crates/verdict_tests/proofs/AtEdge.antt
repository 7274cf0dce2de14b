-- 23 and 24 of one edge: the code's test of its words is the definition's of its masks.
use mathlib.Core.Bool.{Bool, not}
use mathlib.Core.List.{List, []}
use mathlib.Core.Path.{◌≡◌, refl, sym, ap, ◌∙◌}
use Prim.Native.Nat.{ℕ, ◌<◌}
use native.Mathlib.Omega.{arith}
use lib.ListN.{length, get_or}
use lib.Dec.{eqb}
use Rattle.lists.specs.Lists.{lowest}
use Rattle.sets.specs.Word.{count, both}
use Rattle.sets.specs.Kinds.{Joint, Counted, SetAt}
use Rattle.sets.specs.Sets.{wides, Wide}
use Rattle.sets.proofs.Sets.{wides_laws}
use Rattle.paper.specs.Solids.{Tables, in_two, once_each_way}
use Rattle.paper.specs.Verdict as Paper
use Rattle.paper.specs.Verdict.{Listed}
use Rattle.walk_leaf.specs.Tests.{WayIs}
use Rattle.walk_leaf.proofs.Rounds.{mask_at}
use Rattle.verdict_tests.specs.Tests.{edge_count_of, direction_of, Counting, Running}
use Rattle.verdict_tests.proofs.Searching.{Offends, Finds}

-- ---- the tests, as the definitions ask them

abbrev pub not_two : Tables → Listed → ℕ → Bool
not_two t l e = not (in_two (get_or t.masks e []) l.taken)

abbrev pub not_once : Tables → Listed → ℕ → Bool
not_once t l e = not (once_each_way (get_or t.masks e []) (get_or t.ups e []) l.taken l.turned)

module _ (on : List ℕ) (m : ℕ) (taken : Wide) where
  pub finds_23 : Finds (Counting on m taken) not_two m edge_count_of
  unfolding Paper.edge_count
  finds_23 t l w = ap (lowest (not_two t l)) w.as_many

  module _ (e : ℕ) (h : e < m) {mask mine : Wide} (o : SetAt wides on e mask) (j : Joint wides mask taken mine both) {k : ℕ}
      (c : Counted wides mine k)
    where
      counts : (t : Tables) (l : Listed) → Counting on m taken t l → k ≡ count (both (get_or t.masks e []) l.taken)
      counts t l w =
          let low : e < length t.masks = omega (arith, w.as_many) in
          c.size_is ∙ wides_laws.size_is (j (get_or t.masks e []) l.taken (mask_at w.on_are o refl low) w.taken_is)

      pub two_at : (b : Bool) → eqb k 2 ≡ b → Offends (Counting on m taken) not_two e (not b)
      unfolding in_two
      two_at b q t l w = ap not (ap (λ (x : ℕ). eqb x 2) (sym (counts t l w)) ∙ q)

module _ (on up : List ℕ) (m : ℕ) (taken turned : Wide) where
  pub finds_24 : Finds (Running on up m taken turned) not_once m direction_of
  unfolding Paper.direction
  finds_24 t l w = ap (lowest (not_once t l)) w.as_many

  module _ (e : ℕ) (h : e < m) {mask other : Wide} (o : SetAt wides on e mask) (u : SetAt wides up e other) {b : Bool}
      (s : WayIs mask other taken turned b) where
    pub way_at : {r : Bool} → not b ≡ r → Offends (Running on up m taken turned) not_once e r
    way_at q t l w =
        let low : e < length t.masks = omega (arith, w.as_many) in
        let low_up : e < length t.ups = omega (arith, w.edges_are.as_many) in
        ap not (sym (s (get_or t.masks e []) (get_or t.ups e []) l.taken l.turned (mask_at w.edges_are.on_are o refl low)
        (mask_at w.edges_are.up_are u refl low_up) w.taken_is w.turned_is)) ∙ q
