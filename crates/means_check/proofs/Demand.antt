-- Demand 3, of the whole check, with nothing assumed of the drawing.
use mathlib.Core.Path.{◌≡◌, sym, subst, ◌∙◌}
use mathlib.Core.Bool.{Bool, true}
use mathlib.Core.Option.{none}
use mathlib.Core.List.{List}
use Prim.Native.Nat.{ℕ, ◌≤◌, ◌<◌}
use native.Mathlib.Decide.{ℕ_discrete}
use lib.ListN.{length}
use Rattle.sets.specs.Word.{dig}
use Rattle.paper.specs.Numbers.{most_vertices, most_edges, documented}
use Rattle.paper.specs.Refusals.{Check, first_of, ListAccepted, Fine}
use Rattle.paper.specs.Drawing.{Wire, same_place, drawing_checks}
use Rattle.paper.specs.Loops.{Loop, loop_at, flipped, loops, candidates, loop_checks}
use Rattle.paper.specs.Solids.{tables_of}
use Rattle.paper.specs.FaceList.{encode_faces, faces_in, well_shaped}
use Rattle.paper.specs.Verdict.{list_edition, listed, face_checks, verdict}
use Rattle.paper_laws.proofs.Checks.{found_none}
use Rattle.means_solid.specs.Solid.{IsSolid}
use Rattle.means_check.specs.Candidates.{ProperCandidates}
use Rattle.means_solid.specs.Named.{SameRing, Names}
use Rattle.means_check.specs.Accepts.{NamesSolid, Accepts}
use Rattle.means_sheets.proofs.FaceLists.{sent-read_back}
use Rattle.means_check.specs.Sent.{face_list}
use Rattle.means_check.specs.Bodies.{AmongEither, Singly, SameBody, OneSolid}
use Rattle.means_check.proofs.Numbered.{names_taken, names_turned}
use Rattle.means_check.proofs.Few.{solid-sent}
use Rattle.means_masks.proofs.Tables.{flat_even}
use Rattle.means_loops.proofs.Listing.{loop_normal, candidates_are, candidates_once}
use Rattle.means_loops.proofs.OwnPlane.{candidates-flat}
use Rattle.means_check.proofs.Accepting.{fine_passes, verdict_accepts, accepts_verdict, names_accepted}
use Rattle.means_check.proofs.Bodies.{one_body, part_body, turned_refused, missing-refused, doubled_refused, names_again}
use Rattle.means_check.proofs.Bodies.{same_named}
use Rattle.means_check.proofs.Bodies.{face_list_names}

-- a drawing that passes 11 has no two vertices at one point, and candidates that fit
pub drawing_places : (d : Wire) → Fine ≡ first_of (drawing_checks d) → same_place d ≡ none
unfolding drawing_checks
drawing_places d e = (found_none _ _ e).0

pub drawing-fits : (d : Wire) → Fine ≡ first_of (drawing_checks d) → ProperCandidates d (candidates d)
drawing-fits d e = record {
  normal = λ k h. loop_normal d (loop_at (candidates d) k) (candidates_are d k h).loop;
  differ = candidates_once d;
  even = flat_even d (candidates d) (candidates-flat d (drawing_places d e));
}

module _ (form : List Check) (d : Wire) where
  -- the faces of a list that is sent for the drawing
  abbrev faces : List ℕ → List Loop
  faces = faces_in (list_edition d)

  -- "For a drawing that passes the drawing rules, the check accepts a list exactly when it names one solid of demand 2 with its
  -- directions, in any order of faces and from any starting corners."
  pub accepts_exactly : (list : List ℕ) → ((verdict form d list ≡ ListAccepted) → Accepts form d list)
      × (Accepts form d list → verdict form d list ≡ ListAccepted)
  accepts_exactly list = (
    λ e. verdict_accepts form d (drawing-fits d (fine_passes form d list e)) list e,
    λ a. accepts_verdict form d (drawing-fits d a.drawing_passes) list a,
  )

  module _ (list : List ℕ) (a : verdict form d list ≡ ListAccepted) where
    fits : ProperCandidates d (candidates d)
    fits = drawing-fits d (fine_passes form d list a)

    told : Accepts form d list
    told = (accepts_exactly list).0 a

    fair : Fine ≡ first_of (face_checks (tables_of d (candidates d)) (length (candidates d)) (listed (candidates d) (faces list)))
    fair = names_accepted d (candidates d) (faces list) fits told.named

    -- an accepted list, in another order of faces and from other starts, and of a good shape, is accepted
    pub again : (other : List ℕ) → well_shaped (list_edition d) (length d.vertices) other ≡ true
        → SameBody (faces list) (faces other) → Singly (faces other)
        → verdict form d other ≡ ListAccepted
    again other h b y =
        let w = told.named in
        (accepts_exactly other).1 (record {
          form_passes = told.form_passes;
          drawing_passes = told.drawing_passes;
          few = told.few;
          shape = h;
          named = record {
            taken = w.taken;
            turned = w.turned;
            six = w.six;
            solid = w.solid;
            names =
                names_again d (candidates d) fits w.taken w.turned (faces list) (faces other) w.names b
                y;
          };
        })

    -- no face of it stands twice: a list with a face doubled is refused
    pub not_doubled : (i j : ℕ) → i < length (faces list) → j < length (faces list) → (i ≡ j → ⊥)
        → SameRing (loop_at (faces list) i) (loop_at (faces list) j) → ⊥
    not_doubled i j hi hj n s = doubled_refused d (candidates d) fits (faces list) i j hi hj n s fair

    module _ (other : List ℕ) (b : verdict form d other ≡ ListAccepted) where
      fair_other : Fine ≡ first_of
          (face_checks (tables_of d (candidates d)) (length (candidates d)) (listed (candidates d) (faces other)))
      fair_other = names_accepted d (candidates d) (faces other) fits ((accepts_exactly other).0 b).named

      -- "with n = 1 any two accepted lists are the same body"
      pub one_same : OneSolid d (candidates d) → SameBody (faces list) (faces other)
      one_same u = one_body d (candidates d) fits u (faces list) (faces other) fair fair_other

      -- an accepted list of faces of another accepted list, one way or the other, is the same body: none is turned, none left out
      pub part_same : AmongEither (faces list) (faces other)
          → SameBody (faces list) (faces other)
      part_same m = part_body d (candidates d) fits (faces list) (faces other) fair fair_other m

      pub not_turned : AmongEither (faces list) (faces other) → (i j : ℕ)
          → i < length (faces other)
          → j < length (faces list)
          → SameRing (flipped (loop_at (faces list) j)) (loop_at (faces other) i) → ⊥
      not_turned m i j hi hj s =
          turned_refused d (candidates d) fits (faces list) (faces other) fair m i j hi hj s fair_other

      pub not_missing : AmongEither (faces list) (faces other) → (j : ℕ) → j < length (faces list)
          → ((i : ℕ) → i < length (faces other)
          → SameRing (loop_at (faces list) j) (loop_at (faces other) i) → ⊥) → ⊥
      not_missing m j hj n =
          missing-refused d (candidates d) fits (faces list) (faces other) fair m j hj n fair_other

  -- "where the report lists n solids, each of the n is accepted": any list of a good shape that names it
  pub each_accepted : Fine ≡ first_of form → Fine ≡ first_of (drawing_checks d) → Fine ≡ first_of (loop_checks documented (loops d) (candidates d))
      → (taken turned : List Bool) (six : ℕ) → IsSolid d (candidates d) taken turned six
      → (list : List ℕ) → well_shaped (list_edition d) (length d.vertices) list ≡ true
      → Names d (candidates d) taken turned (faces list) → verdict form d list ≡ ListAccepted
  each_accepted f r l taken turned six s list h n = (accepts_exactly list).1 (record {
    form_passes = f;
    drawing_passes = r;
    few = l;
    shape = h;
    named = record { taken = taken; turned = turned; six = six; solid = s; names = n };
  })

  -- each has such a list: its own faces in candidate order, packed
  pub each_sent : Fine ≡ first_of form → Fine ≡ first_of (drawing_checks d) → Fine ≡ first_of (loop_checks documented (loops d) (candidates d))
      → length d.vertices ≤ most_vertices → length d.edges ≤ most_edges
      → (taken turned : List Bool) (six : ℕ) → IsSolid d (candidates d) taken turned six
      → verdict form d (encode_faces (list_edition d) (face_list d (candidates d) taken turned)) ≡ ListAccepted
  each_sent f r l vertices edges taken turned six s =
      let fs : List Loop = face_list d (candidates d) taken turned in
      let b = sent-read_back (length d.vertices) (length d.edges) vertices edges fs
      (solid-sent d (drawing_places d r) vertices edges taken turned s) in
      each_accepted f r l taken turned six s (encode_faces (list_edition d) fs) b.shape
      (subst (Names d (candidates d) taken turned) (sym b.faces) (face_list_names d (candidates d) (drawing-fits d r) taken turned s))

  -- "names one solid": a list names no two
  pub one_named : Fine ≡ first_of (drawing_checks d) → (fs : List Loop) (w v : NamesSolid d (candidates d) fs)
      → ((k : ℕ) → dig w.taken k ≡ dig v.taken k) × ((k : ℕ) → dig w.turned k ≡ dig v.turned k)
  one_named r fs w v =
      let c = drawing-fits d r in (
        λ k. sym (names_taken d (candidates d) c fs w.taken w.turned w.solid.some w.solid.within w.names k)
            ∙ names_taken d (candidates d) c fs v.taken v.turned v.solid.some v.solid.within v.names k,
        λ k. sym (names_turned d (candidates d) c fs w.taken w.turned w.solid.some w.solid.within w.names k)
            ∙ names_turned d (candidates d) c fs v.taken v.turned v.solid.some v.solid.within v.names k,
      )

  -- "each of the n is accepted, no other body is": a list is accepted exactly when it is the body of a solid, with no face twice
  pub record BodyOfSolid (list : List ℕ) : Type 0 where
    pub taken : List Bool
    pub turned : List Bool
    pub six : ℕ
    pub solid : IsSolid d (candidates d) taken turned six
    pub body : SameBody (face_list d (candidates d) taken turned) (faces list)
    pub singly : Singly (faces list)

  pub accepted_body : (list : List ℕ) → verdict form d list ≡ ListAccepted → BodyOfSolid list
  accepted_body list a =
      let c = drawing-fits d (fine_passes form d list a) in
      let w = ((accepts_exactly list).0 a).named in
      record {
        taken = w.taken;
        turned = w.turned;
        six = w.six;
        solid = w.solid;
        body =
            same_named d (candidates d) c w.taken w.turned (face_list d (candidates d) w.taken w.turned)
            (faces list) (face_list_names d (candidates d) c w.taken w.turned w.solid) w.names;
        singly = λ i j hi hj s. pick i j (not_doubled list a i j hi hj) s (ℕ_discrete i j);
      }
    where
      pick : (i j : ℕ) → ((i ≡ j → ⊥) → SameRing (loop_at (faces list) i) (loop_at (faces list) j) → ⊥)
          → SameRing (loop_at (faces list) i) (loop_at (faces list) j) → Dec (i ≡ j) → i ≡ j
      pick i j f s (yes e) = e
      pick i j f s (no n) = absurd (f n s)

  pub body_accepted : Fine ≡ first_of form → Fine ≡ first_of (drawing_checks d) → Fine ≡ first_of (loop_checks documented (loops d) (candidates d))
      → (list : List ℕ) → well_shaped (list_edition d) (length d.vertices) list ≡ true → BodyOfSolid list → verdict form d list ≡ ListAccepted
  body_accepted f r l list h b =
      let c = drawing-fits d r in
      each_accepted f r l b.taken b.turned b.six b.solid list h
      (names_again d (candidates d) c b.taken b.turned (face_list d (candidates d) b.taken b.turned) (faces list)
      (face_list_names d (candidates d) c b.taken b.turned b.solid) b.body b.singly)
