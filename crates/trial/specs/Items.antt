-- The items of a stored book: each stands behind its length in two bytes, high byte first, and they end at the first that is not whole.
use Rattle.std.specs.Prelude.{cond, List, [], ◌∷◌, ℕ, zero, suc, ◌+◌, ◌*◌, leb, length, take, drop}
use Rattle.trial.specs.declared.Items.{Items}

-- at most k of them
unfoldable pub items_within : ℕ → List ℕ → List (List ℕ)
items_within zero book = []
items_within (suc k) [] = []
items_within (suc k) (high ∷ []) = []
items_within (suc k) (high ∷ low ∷ behind) =
    let n = 256 * high + low in cond (leb n (length behind)) (take n behind ∷ items_within k (drop n behind)) []

-- all: each takes bytes of the book
abbrev pub items : List ℕ → List (List ℕ)
items book = items_within (length book) book

-- those that are still to come
abbrev pub items_left : Items → List (List ℕ)
items_left it = items it.rest.now
