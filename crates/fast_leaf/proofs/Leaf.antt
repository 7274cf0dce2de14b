-- The test (i) at a leaf of the walk: each edge is in just two of the faces taken.
use mathlib.Core.Bool.{Bool, true}
use mathlib.Core.List.{List, [], ◌∷◌}
use mathlib.Core.Logic.{inl, inr}
use mathlib.Core.Path.{◌≡◌, ap, ◌∙◌}
use lib.Dec.{eqb}
use borrow.Author.Tests.{eqb-true}
use Rattle.lists.proofs.Truth.{and_left, and_right}
use Rattle.sets.specs.Word.{count, both}
use Rattle.paper.specs.Walk.{Status, taken_on}
use Rattle.paper.specs.Conversion.{takens}
use Rattle.means_walk.specs.Complete.{exact}
use Rattle.means_walk.proofs.Status.{count-takens}
use Rattle.means_leaf.specs.Meaning.{MaskInTwo}

pub exact_two : (masks : List (List Bool)) (st : List Status) → exact masks st ≡ true → MaskInTwo masks (takens st)
unfolding exact
exact_two [] st e mask i = absurd i
exact_two (r ∷ masks) st e mask (inl q) =
    ap (λ (l : List Bool). count (both l (takens st))) q ∙ count-takens r st
    ∙ eqb-true (taken_on r st) 2 (and_left (eqb (taken_on r st) 2) (exact masks st) e)
exact_two (r ∷ masks) st e mask (inr i) = exact_two masks st (and_right (eqb (taken_on r st) 2) (exact masks st) e) mask i
