-- A list that has every solid once, with its directions and six volumes; and the list that the walk comes to.
use Rattle.std.specs.Prelude.{◌≡◌, Bool, List, [], map, ℕ, ◌<◌, length, get_or, replicate}
use Rattle.lists.specs.Lists.{filter}
use Rattle.paper.specs.Record.{entry}
use Rattle.paper.specs.Drawing.{Wire}
use Rattle.paper.specs.Loops.{Loop}
use Rattle.paper.specs.Solids.{Tables, tables_of, judged}
use Rattle.paper.specs.Walk.{Status, Undecided}
use Rattle.paper.specs.Conversion.{takens, turned_of, six_of, accepted}
use Rattle.means_walk.specs.Tree.{Tree, leaves}
use Rattle.means_solid.specs.Solid.{IsSolid}
use Rattle.means_report.specs.Fair.{Same}

pub record Entry : Type 0 where
  pub taken : List Bool
  pub turned : List Bool
  pub six : ℕ

abbrev pub entry_at : List Entry → ℕ → Entry
entry_at es i = get_or es i (record { taken = []; turned = []; six = 0 })

-- "every solid once": each entry is a solid, each solid is an entry, and no two entries are the same set of faces
pub record EverySolidOnce (d : Wire) (cs : List Loop) (es : List Entry) : Type 0 where
  pub each : (i : ℕ) → i < length es → IsSolid d cs (entry_at es i).taken (entry_at es i).turned (entry_at es i).six
  pub there : {taken turned : List Bool} {six : ℕ} → IsSolid d cs taken turned six
      → (i : ℕ) × (i < length es) × ((entry_at es i).taken ≡ taken) × Same (entry_at es i).turned turned × ((entry_at es i).six ≡ six)
  pub once : (i j : ℕ) → i < length es → j < length es → (entry_at es i).taken ≡ (entry_at es j).taken → i ≡ j

-- a solid's record
abbrev pub words_of : Entry → List ℕ
words_of e = entry e.taken e.turned e.six

-- "in walk order": the leaves of the walk's tree that pass, with their directions and volumes
abbrev pub entry_of : Tables → List Status → Entry
entry_of t st = record { taken = takens st; turned = turned_of (judged t (takens st)); six = six_of (judged t (takens st)) }

abbrev pub WalkTree : Wire → List Loop → Type 0
WalkTree d cs = Tree (tables_of d cs).masks (replicate (length cs) Undecided)

unfoldable pub walked : (d : Wire) (cs : List Loop) → WalkTree d cs → List Entry
walked d cs t = map (entry_of (tables_of d cs)) (filter (accepted (tables_of d cs)) (leaves t))
