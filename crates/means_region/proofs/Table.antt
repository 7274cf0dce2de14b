-- From one apex to another, by the signs of ten determinants: all that the identities allow are tried.
use mathlib.Core.Path.{◌≡◌, refl}
use mathlib.Core.Bool.{Bool, true, false, not, ◌&&◌, ◌||◌}
use mathlib.Core.List.{List, [], ◌∷◌}
use lib.IntN.{ℤ, pos, ◌+ℤ◌, ◌-ℤ◌}
use lib.ListN.{get_or}
use Rattle.lists.proofs.Truth.{implied}
use Rattle.exact.specs.Signs.{Sign3, level, negated_sign}
use Rattle.paper.specs.Points.{is_zero}
use Rattle.paper_laws.proofs.Points.{zero_yes}
use Rattle.means_region.specs.Tetra.{alternate}
use Rattle.means_corner.proofs.Signs.{up, down, either, balanced, may, every, every3, tried, tried3}

-- Apexes o and q, a triangle a b c; `obc` is the sign of the determinant (o, b, c), and so on; sa that of (o, q, a), and so on.

-- a side x y as seen from both apexes, there and back
abbrev pub swing : Bool → Bool → Bool → Bool → ℤ
swing qxy oxy y x = alternate qxy oxy y x -ℤ alternate (not qxy) (not oxy) x y

-- twice what the triangle holds from o and not from q, less what its sides do
abbrev pub left : Bool → Bool → Bool → Bool → Bool → Bool → Bool → Bool → Bool → Bool → ℤ
left abc obc oac oab qbc qac qab sa sb sc =
    ((alternate abc obc oac oab -ℤ alternate abc qbc qac qab) +ℤ (alternate abc obc oac oab -ℤ alternate abc qbc qac qab))
    -ℤ (swing qab oab sb sa +ℤ (swing qbc obc sc sb +ℤ swing (not qac) (not oac) sa sc))

abbrev pub some : Sign3 → Bool
some s = up s || down s

-- what the identities allow: of a triangle that is seen, and of one that is flat
abbrev pub both : Sign3 → Sign3 → Sign3 → Sign3 → Sign3 → Sign3 → Sign3 → Sign3 → Sign3 → Bool
both obc oac oab qbc qac qab sa sb sc = may sa obc sb oac sc oab && may sa qbc sb qac sc qab

abbrev pub allowed : Sign3 → Sign3 → Sign3 → Sign3 → Sign3 → Sign3 → Sign3 → Sign3 → Sign3 → Sign3 → Bool
allowed abc obc oac oab qbc qac qab sa sb sc =
    (some sa || (some sb || some sc))
    && (both obc oac oab qbc qac qab sa sb sc && (may sa abc oab qac oac qab && may sb abc oab qbc obc qab))

abbrev pub in_line : Sign3 → Sign3 → Sign3 → Sign3 → Sign3 → Sign3 → Sign3 → Sign3 → Sign3 → Bool
in_line obc oac oab qbc qac qab sa sb sc =
    both obc oac oab qbc qac qab sa sb sc && (balanced obc (negated_sign oac) oab && balanced qbc (negated_sign qac) qab)

abbrev test : List Sign3 → List Bool → Bool
test s b =
    let sa = get_or s 0 level in let sb = get_or s 1 level in let sc = get_or s 2 level in
    let abc = get_or b 0 false in
    let obc = get_or b 1 false in let oac = get_or b 2 false in let oab = get_or b 3 false in
    let qbc = get_or b 4 false in let qac = get_or b 5 false in let qab = get_or b 6 false in
    not (allowed (either abc) (either obc) (either oac) (either oab) (either qbc) (either qac) (either qab) sa sb sc)
    || is_zero (left abc obc oac oab qbc qac qab (up sa) (up sb) (up sc))

abbrev flat : List Sign3 → List Bool → Bool
flat s b =
    let sa = get_or s 0 level in let sb = get_or s 1 level in let sc = get_or s 2 level in
    let obc = get_or b 0 false in let oac = get_or b 1 false in let oab = get_or b 2 false in
    let qbc = get_or b 3 false in let qac = get_or b 4 false in let qab = get_or b 5 false in
    not (in_line (either obc) (either oac) (either oab) (either qbc) (either qac) (either qab) sa sb sc)
    || is_zero (left false obc oac oab qbc qac qab (up sa) (up sb) (up sc))

all_seen : every3 3 (λ s. every 7 (test s)) ≡ true
unfolding alternate is_zero
all_seen = refl

all-flat : every3 3 (λ s. every 6 (flat s)) ≡ true
unfolding alternate is_zero
all-flat = refl

module _ (obc oac oab qbc qac qab : Bool) (sa sb sc : Sign3) where
  pub seen : (abc : Bool)
      → allowed (either abc) (either obc) (either oac) (either oab) (either qbc) (either qac) (either qab) sa sb sc ≡ true
      → left abc obc oac oab qbc qac qab (up sa) (up sb) (up sc) ≡ pos 0
  seen abc h =
      let s = sa ∷ sb ∷ sc ∷ [] in
      let b = abc ∷ obc ∷ oac ∷ oab ∷ qbc ∷ qac ∷ qab ∷ [] in
      zero_yes (left abc obc oac oab qbc qac qab (up sa) (up sb) (up sc))
      (implied (allowed (either abc) (either obc) (either oac) (either oab) (either qbc) (either qac) (either qab) sa sb sc)
      (is_zero (left abc obc oac oab qbc qac qab (up sa) (up sb) (up sc)))
      (tried 7 (test s) (tried3 3 (λ t. every 7 (test t)) all_seen s refl) b refl) h)

  pub in_line_lem : in_line (either obc) (either oac) (either oab) (either qbc) (either qac) (either qab) sa sb sc ≡ true
      → left false obc oac oab qbc qac qab (up sa) (up sb) (up sc) ≡ pos 0
  in_line_lem h =
      let s = sa ∷ sb ∷ sc ∷ [] in
      let b = obc ∷ oac ∷ oab ∷ qbc ∷ qac ∷ qab ∷ [] in
      zero_yes (left false obc oac oab qbc qac qab (up sa) (up sb) (up sc))
      (implied (in_line (either obc) (either oac) (either oab) (either qbc) (either qac) (either qab) sa sb sc)
      (is_zero (left false obc oac oab qbc qac qab (up sa) (up sb) (up sc)))
      (tried 6 (flat s) (tried3 3 (λ t. every 6 (flat t)) all-flat s refl) b refl) h)
