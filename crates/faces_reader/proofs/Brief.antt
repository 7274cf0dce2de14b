-- How large the numbers of a face list get.
use mathlib.Core.List.{List}
use Prim.Native.Nat.{ℕ, ◌≤◌, ◌*◌}
use native.Mathlib.Nat.{mul-le-mul}
use native.Mathlib.Omega.{arith}
use Rattle.paper.specs.Numbers.{most_corners}
use Rattle.paper.specs.Format.{edition_one, edition_of, edition_for}
use Rattle.faces_reader.specs.Face.{Brief}
use Rattle.paper_laws.proofs.Editions.{holds_of, holds_for}

one_brief : Brief edition_one
one_brief = record { slender = omega arith; f_held = omega arith; face_count_wide = omega arith }

pub brief_of : (s : List ℕ) → Brief (edition_of s)
brief_of = holds_of Brief one_brief

pub brief_for : (v e : ℕ) → Brief (edition_for v e)
brief_for = holds_for Brief one_brief

-- at most 12 fields of at most 8 bits
pub corners_small : {w c : ℕ} → w ≤ 8 → c ≤ most_corners → w * c ≤ 96
corners_small {w} {c} hw hc = mul-le-mul {n₁ = w} {m₁ = c} {n₂ = 8} {m₂ = most_corners} hw hc
