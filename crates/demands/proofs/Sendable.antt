-- Faces that name a solid, in any order and from any starts, can be sent as a face list, in the room of the longest list.
use mathlib.Core.Path.{◌≡◌, sym, subst}
use mathlib.Core.Bool.{Bool}
use mathlib.Core.Option.{none}
use mathlib.Core.Logic.{inl, inr}
use mathlib.Core.List.{List, [], ◌∷◌}
use Prim.Native.Nat.{ℕ, suc, ◌+◌, ◌*◌, ◌≤◌, ◌<◌}
use native.Mathlib.Omega.{arith}
use lib.ListN.{length}
use Rattle.lists.proofs.OwnNumbers.{partners}
use Rattle.sets.specs.Word.{dig}
use Rattle.sets.proofs.Ones.{dig-below}
use Rattle.paper.specs.Numbers.{most_vertices, most_edges, most_corners}
use Rattle.paper.specs.Verdict.{list_edition}
use Rattle.paper.specs.Format.{edition_one, corner_bits, bytes_for}
use Rattle.paper.specs.FaceList.{span, bits_of, list_room}
use Rattle.paper.specs.Drawing.{Wire, same_place}
use Rattle.paper.specs.Loops.{Loop, loop_at, candidates}
use Rattle.means_solid.specs.Solid.{IsSolid}
use Rattle.means_solid.specs.Named.{SameRing, Names}
use Rattle.means_loops.specs.Path.{ClosedPath}
use Rattle.means_sheets.specs.FaceLists.{Sendable}
use Rattle.means_check.specs.Sent.{face_list}
use Rattle.means_check.specs.Candidates.{ProperCandidates}
use Rattle.means_check.specs.Bodies.{Singly, SameBody}
use Rattle.demands.specs.Shells.{NoList}
use Rattle.means_loops.proofs.Rings.{same_sym, same_trans}
use Rattle.means_loops.proofs.Paths.{path_same, path_turned, loop_path}
use Rattle.means_loops.proofs.Listing.{candidates_are}
use Rattle.means_check.proofs.Few.{solid-sent}
use Rattle.means_check.proofs.Bodies.{face_list_names, same_named, named_singly}
use Rattle.paper.specs.declared.Format.{Format}

pub body_least : (fs gs : List Loop) → SameBody fs gs → Singly gs → length gs ≤ length fs
body_least fs gs b y =
    partners (length gs) (length fs) (λ i j. SameRing (loop_at fs j) (loop_at gs i)) b.0
    (λ i j k hi hj p q. y i j hi hj (same_trans (same_sym p) q))

module _ (d : Wire) (c : ProperCandidates d (candidates d)) (apart : same_place d ≡ none)
    (few_vertices_lem : length d.vertices ≤ most_vertices) (few : length d.edges ≤ most_edges)
    (taken turned : List Bool) {six : ℕ} (s : IsSolid d (candidates d) taken turned six) where
  path : (fs : List Loop) → Names d (candidates d) taken turned fs → (i : ℕ) → i < length fs → ClosedPath d (loop_at fs i)
  path fs n i h =
      let r = n.each i h in
      path_same d r.2
      (path_turned d (dig turned r.0) (loop_at (candidates d) r.0)
      (loop_path d apart (loop_at (candidates d) r.0) (candidates_are d r.0 (dig-below taken s.some r.0 r.1)).loop))

  pub names_sent : (fs : List Loop) → Names d (candidates d) taken turned fs → Sendable (list_edition d) (length d.vertices) fs
  names_sent fs n =
      let gs = face_list d (candidates d) taken turned in
      let m = face_list_names d (candidates d) c taken turned s in
      let b = same_named d (candidates d) c taken turned fs gs n m in
      let q = solid-sent d apart few_vertices_lem few taken turned s in
      let u : length gs ≤ length fs = body_least fs gs b (named_singly d (candidates d) c taken turned gs m) in
      let v : length fs ≤ length gs = body_least gs fs (b.1, b.0) (named_singly d (candidates d) c taken turned fs n) in
      record {
        least = omega (arith, q.least);
        most = omega (arith, q.most);
        few = λ i h. (path fs n i h).three;
        many = λ i h. (path fs n i h).twelve;
        numbers = λ i j h l. (path fs n i h).inside j l;
      }

-- ---- what can be sent is taken by the writer: no face has more bits than one of the most corners

abbrev most_face_bits : ℕ
most_face_bits = corner_bits + edition_one.vertex_number_bits * most_corners

most_bits : (fs : List Loop) → ((i : ℕ) → i < length fs → length (loop_at fs i) ≤ most_corners)
    → span edition_one fs ≤ most_face_bits * length fs
unfolding span
most_bits [] h = omega arith
most_bits (l ∷ fs) h = omega (arith, h 0 (omega arith), most_bits fs (λ i p. h (suc i) (omega (arith, p))))

taken_one : {v : ℕ} → v ≤ most_vertices → (fs : List Loop) → Sendable edition_one v fs
    → (NoList fs → ⊥) × (bytes_for (bits_of edition_one fs) ≤ list_room)
unfolding bits_of
taken_one {v} low fs s = (taken, omega (arith, s.most, most_bits fs s.many))
  where
    taken : NoList fs → ⊥
    taken (inl (inl h)) = omega (arith, h, s.least)
    taken (inl (inr h)) = omega (arith, h, s.most)
    taken (inr h) = h (λ i p. (s.few i p, s.many i p, λ j q. omega (arith, s.numbers i j p q, low)))

pub sent_taken : {f : Format} → f ≡ edition_one → {v : ℕ} → v ≤ most_vertices → (fs : List Loop) → Sendable f v fs
    → (NoList fs → ⊥) × (bytes_for (bits_of f fs) ≤ list_room)
sent_taken e {v} low fs =
    subst (λ (f : Format). Sendable f v fs → (NoList fs → ⊥) × (bytes_for (bits_of f fs) ≤ list_room)) (sym e) (taken_one low fs)
