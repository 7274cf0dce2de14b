-- The five checks in the table's order, each asked where those before it pass: the first that refuses is the answer.
use Rattle.std.specs.Prelude.{Err}
use mathlib.Core.List.{List, [], ◌∷◌}
use mathlib.Core.Path.{◌≡◌, refl, sym, ◌∙◌}
use mathlib.Core.Option.{Option}
use Prim.Native.Nat.{ℕ}
use native.Mathlib.Omega.{arith}
use Rattle.sets.specs.Sets.{Wide}
use Rattle.paper.specs.declared.Number.{Number}
use Rattle.paper.specs.Refusals as No
use Rattle.paper.specs.declared.Refusal.{Refusal}
use Rattle.paper.specs.Refusals.{Check, check, first_of, Answer, Fine}
use Rattle.paper.specs.Solids.{Tables}
use Rattle.paper.specs.Verdict.{Listed, not_candidate, face_twice, face_checks}
use Rattle.paper_laws.proofs.Checks.{first_passes, first_stops, found_none}
use Rattle.walk_tables.specs.Words.{WalkTables, Lent}
use Rattle.walk_leaf.specs.Faces.{Edges}
use Rattle.verdict_tests.specs.Tests.{ToldAt, Counting, Running, FacesNumbered, Joining, Weighing, Clashing, ListedIn, ListIs, Tested}
use Rattle.verdict_tests.specs.Tests.{edge_count_of, direction_of, pieces_of, inward_of, clash_of, test_checks}

-- ---- the checks of a face list, 21 to 27, end with these

pub last_five : (t : Tables) (n : ℕ) (l : Listed)
    → face_checks t n l
    ≡ check No.NotCandidate (not_candidate n l.numbers) ∷ check No.FaceTwice (face_twice l.numbers) ∷ test_checks t l
unfolding face_checks
last_five t n l = refl

-- the checks from a number on
abbrev from_27 : Tables → Listed → List Check
from_27 t l = check No.Clash (clash_of t l) ∷ []

abbrev from_26 : Tables → Listed → List Check
from_26 t l = check No.Inward (inward_of t l) ∷ from_27 t l

abbrev from_25 : Tables → Listed → List Check
from_25 t l = check No.Pieces (pieces_of t l) ∷ from_26 t l

abbrev from_24 : Tables → Listed → List Check
from_24 t l = check No.Direction (direction_of t l) ∷ from_25 t l

-- ---- all five

module _ (tables : WalkTables) (m : ℕ) (numbers : List ℕ) (count : ℕ) (taken turned : Wide) where
  module _ (n : ℕ) (t : Tables) (l : Listed) (h : Lent tables m n t) (d : ListedIn n l)
      (i : ListIs numbers count taken turned l) where
    edges : Edges tables.on tables.up t.masks t.ups
    edges = record { on_are = h.held.on_are; up_are = h.held.up_are; as_many = h.ups_are ∙ sym h.masks_are }

    faces : FacesNumbered numbers count taken l
    faces = record { numbers_are = i.numbers_are; each = d.each; taken_is = i.taken_is }

    counting : Counting tables.on m taken t l
    counting = record { on_are = h.held.on_are; as_many = h.masks_are; taken_is = i.taken_is }

    running : Running tables.on tables.up m taken turned t l
    running = record { edges_are = edges; as_many = h.masks_are; taken_is = i.taken_is; turned_is = i.turned_is }

    weighing : Weighing tables.sixes taken turned t l
    weighing = record {
      sixes_are = h.held.sixes_are;
      in_sixes = omega (arith, d.as_many, h.sixes_are);
      taken_is = i.taken_is;
      turned_is = i.turned_is;
    }

    clashing : Clashing tables.clashes numbers count taken t l
    clashing = record {
      clashes_are = h.held.clashes_are;
      in_clashes = omega (arith, d.as_many, h.clashes_are);
      faces_are = faces;
    }

  -- what holds of all that is meant; and that the answer of these checks is that of all five
  abbrev Meant : (Tables → Listed → Type 0) → Type 0
  Meant P = (n : ℕ) (t : Tables) (l : Listed) → Lent tables m n t → ListedIn n l → ListIs numbers count taken turned l → P t l

  abbrev Left : (Tables → Listed → List Check) → Type 0
  Left cs = Meant (λ t l. first_of (cs t l) ≡ first_of (test_checks t l))

  -- one check in front of these: its refusal is the answer, and where it is passed they are left
  module _ (P : Tables → Listed → Type 0) (number : Number) (place : Tables → Listed → Option ℕ) (cs : Tables → Listed → List Check)
      (meant : Meant P) (left : Left (λ t l. check number (place t l) ∷ cs t l)) where
    stops : {r : Refusal} → ToldAt P number place (Err r) → Tested tables m numbers count taken turned (Err r)
    stops told n t l h d i =
        first_stops (check number (place t l) ∷ []) (cs t l) (told t l (meant n t l h d i)) ∙ left n t l h d i

    passes : ToldAt P number place Fine → Left cs
    passes told n t l h d i =
        first_passes (check number (place t l) ∷ []) (cs t l) (told t l (meant n t l h d i)) ∙ left n t l h d i

  left_23 : Left test_checks
  left_23 n t l h d i = refl

  pub refused_23 : {r : Refusal} → ToldAt (Counting tables.on m taken) No.EdgeCount edge_count_of (Err r)
      → Tested tables m numbers count taken turned (Err r)
  refused_23 told = stops _ No.EdgeCount _ from_24 counting left_23 told

  module _ (t₂₃ : ToldAt (Counting tables.on m taken) No.EdgeCount edge_count_of Fine) where
    left_24 : Left from_24
    left_24 = passes _ No.EdgeCount _ from_24 counting left_23 t₂₃

    joining : Meant (Joining tables.on tables.up tables.sides numbers count taken)
    joining n t l h d i = record {
      edges_are = edges n t l h d i;
      sides_are = h.held.sides_are;
      faces_are = faces n t l h d i;
      two = (found_none No.EdgeCount [] (t₂₃ t l (counting n t l h d i))).0;
    }

    pub refused_24 : {r : Refusal} → ToldAt (Running tables.on tables.up m taken turned) No.Direction direction_of (Err r)
        → Tested tables m numbers count taken turned (Err r)
    refused_24 told = stops _ No.Direction _ from_25 running left_24 told

    module _ (t₂₄ : ToldAt (Running tables.on tables.up m taken turned) No.Direction direction_of Fine) where
      left_25 : Left from_25
      left_25 = passes _ No.Direction _ from_25 running left_24 t₂₄

      pub refused_25 : {r : Refusal}
          → ToldAt (Joining tables.on tables.up tables.sides numbers count taken) No.Pieces pieces_of (Err r)
          → Tested tables m numbers count taken turned (Err r)
      refused_25 told =
          stops _ No.Pieces _ from_26 joining left_25 told

      module _ (t₂₅ : ToldAt (Joining tables.on tables.up tables.sides numbers count taken) No.Pieces pieces_of Fine) where
        left_26 : Left from_26
        left_26 = passes _ No.Pieces _ from_26 joining left_25 t₂₅

        pub refused_26 : {r : Refusal} → ToldAt (Weighing tables.sixes taken turned) No.Inward inward_of (Err r)
            → Tested tables m numbers count taken turned (Err r)
        refused_26 told = stops _ No.Inward _ from_27 weighing left_26 told

        pub last_27 : ToldAt (Weighing tables.sixes taken turned) No.Inward inward_of Fine → {r : Answer}
            → ToldAt (Clashing tables.clashes numbers count taken) No.Clash clash_of r
            → Tested tables m numbers count taken turned r
        last_27 t₂₆ told n t l h d i =
            told t l (clashing n t l h d i)
            ∙ passes _ No.Inward _ from_27 weighing left_26 t₂₆ n t l h d i
