-- Bytes put into a room from a place on: what is asked, and what is left.
use Rattle.std.specs.Prelude.{List, [], ◌∷◌, ◌++◌, ◌≡◌, ℕ, ◌+◌, ◌≤◌, length}
use Rattle.std.proofs.lemmas.List.Edits.{sets}
use Rattle.paper.specs.Desk.{decimal}

-- there is room for them
pub record Fits (at : ℕ) (bytes room : List ℕ) : Type 0 where
  pub fits : at + length bytes ≤ length room

-- they stand there, all else is as it was, and r is the place behind them
pub record Puts (room₀ : List ℕ) (at : ℕ) (bytes room : List ℕ) (r : ℕ) : Type 0 where
  pub room_is : room ≡ sets room₀ at bytes
  pub next_is : r ≡ at + length bytes

-- ---- the parts

abbrev pub digit_text : ℕ → List ℕ
digit_text d = (48 + d) ∷ []

abbrev pub field_text : List ℕ → ℕ → List ℕ
field_text name n = name ++ decimal n

abbrev pub pair_text : List ℕ → ℕ → List ℕ → ℕ → List ℕ
pair_text name n other m = field_text name n ++ field_text other m
