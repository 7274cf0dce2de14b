-- The tests of a selection on words.
use Rattle.std.specs.Prelude.{Bool, true, List, ◌≡◌, ℕ, ◌*◌, ◌≤◌, ◌<◌, ℤ, pos, length, get_or, Option, Some, None}
use Rattle.exact.specs.Size.{Within}
use Rattle.sets.specs.Word.{count}
use Rattle.sets.specs.Sets.{wides, Wide}
use Rattle.paper.specs.Numbers.{most_edges, most_candidates}
use Rattle.paper.specs.Solids as Paper
use Rattle.paper.specs.Solids.{Tables, once_each_way, Judgement, Fails, Solid}
use Rattle.fast_leaf.specs.Faces.{clear_on, six_on, judged_by_faces}
use Rattle.walk_tables.specs.Words.{Masks, most_part, Sixes, SmallSixes, WalkTables, HeldTables}
use Rattle.walk_leaf.specs.Faces.{Edges}
use Rattle.walk_leaf.specs.declared.Judged.{Judged}

-- ---- (iii)

abbrev pub WayIs : Wide → Wide → Wide → Wide → Bool → Type 0
WayIs mask up taken turned r =
    (m u t s : List Bool) → wides.Is mask m → wides.Is up u → wides.Is taken t → wides.Is turned s → r ≡ once_each_way m u t s

abbrev pub OrientedIs : List ℕ → List ℕ → ℕ → Wide → Wide → Bool → Type 0
OrientedIs on up m taken turned r =
    (masks ups : List (List Bool)) (t s : List Bool) → Edges on up masks ups → length masks ≡ m → wides.Is taken t → wides.Is turned s
    → r ≡ Paper.oriented masks ups t s

-- ---- (v)

abbrev pub ClearIs : List ℕ → Wide → Bool → Type 0
ClearIs clashes taken r =
    (cs : List (List Bool)) (t : List Bool) → Masks clashes cs → length t ≤ length cs → wides.Is taken t → r ≡ clear_on (count t) cs t t

-- ---- (iv)

pub record PartAt (sixes : List ℤ) (k : ℕ) : Type 0 where
  pub narrow : k < most_candidates
  pub all : SmallSixes sixes

pub record PartIs (sixes : List ℤ) (k : ℕ) (turned : Bool) (r : ℤ) : Type 0 where
  pub is : r ≡ Paper.part true turned (get_or sixes k (pos 0))
  pub small : Within most_part r

pub record Weighs (sixes : List ℤ) (taken turned : Wide) (r : ℤ) : Type 0 where
  pub small : Within (most_candidates * most_part) r
  pub same : (zs : List ℤ) (t s : List Bool) → Sixes sixes zs → length t ≤ length zs → wides.Is taken t → wides.Is turned s
      → r ≡ six_on (count t) zs t s

-- the same judgement: of a solid, the same faces turned and the same six volumes
pub record SolidIs (turned : Wide) (six : ℕ) (s : List Bool) (v : ℕ) : Type 0 where
  pub turned_is : wides.Is turned s
  pub six_is : six ≡ v

abbrev pub LeafIs : Option Judged → Judgement → Type 0
LeafIs None Fails = Unit {0}
LeafIs None (Solid s v) = ⊥
LeafIs (Some j) Fails = ⊥
LeafIs (Some j) (Solid s v) = SolidIs j.turned j.six s v

abbrev pub WeighedIs : List ℤ → Wide → Wide → Option Judged → Type 0
WeighedIs sixes taken turned r =
    (zs : List ℤ) (t s : List Bool) → Sixes sixes zs → length t ≤ length zs → wides.Is taken t → wides.Is turned s
    → LeafIs r (Paper.weighed t s (six_on (count t) zs t s))

-- ---- all of it: of m edges and of so many candidates that the selection is one of them
pub record Selects (t : Tables) (m : ℕ) (a : List Bool) : Type 0 where
  pub masks_are : length t.masks ≡ m
  pub ups_are : length t.ups ≡ m
  pub in_clashes : length a ≤ length t.clashes
  pub in_sixes : length a ≤ length t.sixes

pub record Judging (m : ℕ) (sixes : List ℤ) : Type 0 where
  pub few : m ≤ most_edges
  pub small : SmallSixes sixes

abbrev pub Judges : WalkTables → ℕ → Wide → Option Judged → Type 0
Judges tables m taken r =
    (t : Tables) (a : List Bool) → HeldTables tables t → Selects t m a → wides.Is taken a → LeafIs r (judged_by_faces t a)
