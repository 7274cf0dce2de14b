-- Document 01, the face-list check: "3 to 16, then 20 to 27".
use Rattle.std.specs.Prelude.{Bool, false, not, cond, List, [], ◌∷◌, ◌++◌, map, ℕ, zero, suc, ◌-◌, ltb, leb, eqb, length, get_or, take, drop, ℤ}
use Rattle.std.proofs.Math.Option.{Option}
use Rattle.sets.specs.Word.{count, both, first}
use Rattle.lists.specs.Lists.{filter, upto, lowest, member, same_list}
use Rattle.paper.specs.Numbers.{documented}
use Rattle.paper.specs.Refusals as No
use Rattle.paper.specs.Refusals.{Check, check, first_of, offends, ListAccepted, Answer, Verdict}
use Rattle.paper.specs.Format.{edition_of, edition_for, coordinates_in, ends_in}
use Rattle.paper.specs.Sheet.{sheet_checks, lent_checks}
use Rattle.paper.specs.Points.{above}
use Rattle.paper.specs.Drawing.{Wire, wire, drawing_checks}
use Rattle.paper.specs.Loops.{Loop, flipped, loops, uncovering, loop_checks}
use Rattle.paper.specs.Solids.{Tables, tables_of, in_two, faces_from, once_each_way, six_from}
use Rattle.paper.specs.FaceList.{faces_in, well_shaped}
use Rattle.paper.specs.declared.Format.{Format}
use Rattle.std.specs.Prelude.{Ok, Err}

-- ---- the candidate that a face is, "in any direction or start": "start at the lowest vertex, then go to the lower of its two
-- neighbours"

-- the place of the lowest of the first k corners
unfoldable pub lowest_at : List ℕ → ℕ → ℕ
lowest_at c zero = 0
lowest_at c (suc k) = cond (ltb (get_or c k 0) (get_or c (lowest_at c k) 0)) k (lowest_at c k)

-- c from its place m on
unfoldable pub from_place : List ℕ → ℕ → List ℕ
from_place c m = drop m c ++ take m c

-- from its lowest corner on
unfoldable pub from_lowest : List ℕ → List ℕ
from_lowest c = from_place c (lowest_at c (length c))

-- the face is run as its normal form is
unfoldable pub onward : List ℕ → Bool
onward c = let r = from_lowest c in ltb (get_or r 1 0) (get_or r (length r - 1) 0)

unfoldable pub normal_form : List ℕ → Loop
normal_form c = cond (onward c) (from_lowest c) (flipped (from_lowest c))

-- the number of that candidate; their count where the face is none
unfoldable pub number_in : List Loop → List ℕ → ℕ
number_in cs f = first (map (same_list (normal_form f)) cs)

-- ---- 21 to 27

-- a row of n candidates, from their numbers
unfoldable pub mask_of : ℕ → List ℕ → List Bool
mask_of n ks = map (λ k. member k ks) (upto n)

-- the faces by the numbers of their candidates, as the two rows of a solid
pub record Listed : Type 0 where
  pub numbers : List ℕ
  pub taken : List Bool
  pub turned : List Bool

unfoldable pub listed : List Loop → List (List ℕ) → Listed
listed cs fs =
    let ks = map (number_in cs) fs in
    record {
      numbers = ks;
      taken = mask_of (length cs) ks;
      turned = mask_of (length cs) (map (number_in cs) (filter (λ f. not (onward f)) fs));
    }

-- 21: no candidate. 22: equal to an earlier one
unfoldable pub not_candidate : ℕ → List ℕ → Option ℕ
not_candidate n ks = lowest (λ i. leb n (get_or ks i 0)) (length ks)

unfoldable pub face_twice : List ℕ → Option ℕ
face_twice ks = lowest (λ i. member (get_or ks i 0) (take i ks)) (length ks)

-- 23: "not two faces". 24: "both run one way"
unfoldable pub edge_count : Tables → List Bool → Option ℕ
edge_count t taken = lowest (λ e. not (in_two (get_or t.masks e []) taken)) (length t.masks)

unfoldable pub direction : Tables → List Bool → List Bool → Option ℕ
direction t taken turned =
    lowest (λ e. not (once_each_way (get_or t.masks e []) (get_or t.ups e []) taken turned)) (length t.masks)

-- 25: "not joined to face 0"
unfoldable pub pieces : Tables → List ℕ → List Bool → Option ℕ
pieces t ks taken =
    let r = faces_from (get_or ks 0 0) t taken in
    lowest (λ i. not (get_or r.reached (get_or ks i 0) false)) (length ks)

-- 26: "six volumes not above 0". 27: clashes with another
unfoldable pub inward : Tables → List Bool → List Bool → Option ℕ
inward t taken turned = offends (not (above (six_from 0 t.sixes taken turned))) 0

unfoldable pub clashes : Tables → List ℕ → List Bool → Option ℕ
clashes t ks taken = lowest (λ i. not (eqb (count (both (get_or t.clashes (get_or ks i 0) []) taken)) 0)) (length ks)

-- in the table's order
unfoldable pub face_checks : Tables → ℕ → Listed → List Check
face_checks t n l =
    check No.NotCandidate (not_candidate n l.numbers)
    ∷ check No.FaceTwice (face_twice l.numbers)
    ∷ check No.EdgeCount (edge_count t l.taken)
    ∷ check No.Direction (direction t l.taken l.turned)
    ∷ check No.Pieces (pieces t l.numbers l.taken)
    ∷ check No.Inward (inward t l.taken l.turned)
    ∷ check No.Clash (clashes t l.numbers l.taken)
    ∷ []

-- ---- the check, of a drawing whose own form is checked by `form`: 3 to 10

-- an accepted list has no number in the table
abbrev pub verdict_for : Answer → Verdict
verdict_for (Ok _) = ListAccepted
verdict_for (Err r) = Err r

-- a face list has the edition of its drawing
abbrev pub list_edition : Wire → Format
list_edition d = edition_for (length d.vertices) (length d.edges)

-- 11 to 16, 20, and then 21 to 27
unfoldable pub verdict : List Check → Wire → List ℕ → Verdict
verdict form d list =
    let ls = loops d in
    let cs = uncovering d ls in
    let f = list_edition d in
    verdict_for (first_of (form ++ drawing_checks d ++ loop_checks documented ls cs
    ++ (check No.ShellShape (offends (not (well_shaped f (length d.vertices) list)) 0)
    ∷ face_checks (tables_of d cs) (length cs) (listed cs (faces_in f list)))))

-- of a drawing lent as two lists; of a sheet
unfoldable pub verdict_lists : List ℤ → List ℕ → List ℕ → Verdict
verdict_lists xyz ends list = verdict (lent_checks xyz ends) (wire xyz ends) list

unfoldable pub verdict_sheet : List ℕ → List ℕ → Verdict
verdict_sheet s list = let f = edition_of s in verdict (sheet_checks f s) (wire (coordinates_in f s) (ends_in f s)) list
