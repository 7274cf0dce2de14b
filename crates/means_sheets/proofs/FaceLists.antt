-- Demand 2: face lists read back and are written back the same. Over the layout.
pub mod Packed
pub mod Shape
pub mod Written
pub mod Read
pub mod Room
use mathlib.Core.Path.{◌≡◌, refl, sym, ap, ◌∙◌}
use mathlib.Core.Bool.{Bool, true, false, cond}
use mathlib.Core.List.{List, [], flat_map, append-nil}
use Prim.Native.Nat.{ℕ, ◌*◌, ◌-◌, ◌^◌, ◌≤◌}
use native.Mathlib.Nat.{le_trans}
use native.Mathlib.Omega.{arith}
use lib.ListN.{length, replicate, length-replicate}
use Rattle.pack.specs.Fill.{padded}
use Rattle.paper.specs.Format.{edition_for}
use Rattle.paper.specs.Numbers.{most_faces, most_candidates, row_bytes}
use Rattle.paper.specs.Record.{entry}
use Rattle.paper.specs.FaceList.{encode_faces, count_in, faces_in, well_shaped, faces_of, no_faces, solid_faces}
use Rattle.paper.specs.Loops.{Loop, row}
use Rattle.paper.specs.declared.Format.{Format}
use Rattle.paper.specs.FaceList.{Faces}
use Rattle.paper.specs.Refusals.{Fine}
use Rattle.faces_laws.proofs.FaceList.{length_in}
use Rattle.faces_laws.proofs.Shape.{shape_yes}
use Rattle.faces_laws.proofs.Reported.{solid-faces, all_taken}
use Rattle.means_sheets.specs.Sound.{Sound}
use Rattle.means_sheets.specs.FaceLists.{Sendable, returned, FacesReadBack, SentReadBack, SentIsSendable, AcceptedList}
use Rattle.means_sheets.specs.FaceLists.{FacesWriteBack, RowsGiveFaces, OneList}
use Rattle.means_sheets.proofs.Sheets.{sound_for}
use Rattle.means_sheets.proofs.FaceLists.Written.{faces-accepted, faces-read_back, rows_returned}
use Rattle.means_sheets.proofs.FaceLists.Read.{written_again, can_be_sent}
use Rattle.means_sheets.proofs.FaceLists.Room.{sent_sendable, sent-room, sends, sendable_more}
use Rattle.paper_laws.specs.Editions.{Limited}
use Rattle.paper_laws.proofs.Editions.{fits_for}

-- ---- faces that a face list can hold, for a drawing of v vertices

faces-read : (f : Format) → Sound f → (v : ℕ) → v ≤ 2 ^ f.vertex_number_bits → (fs : List Loop) → Sendable f v fs
    → FacesReadBack f v fs
faces-read f sound v fits fs g = record {
  shape = faces-accepted f sound v fits fs g;
  list = rows_returned f sound v fits fs g;
  faces = faces-read_back f sound v fits fs g;
  room = λ room n e. ap (faces_of f v) (sent-room f fs room n e) ∙ rows_returned f sound v fits fs g;
}

pub sent-read_back : SentReadBack
sent-read_back v e few_vertices_lem few_edges_lem =
    let sound = sound_for v e in
    faces-read (edition_for v e) sound v (le_trans (fits_for v e few_vertices_lem few_edges_lem).v_fits sound.numbers_fit)

pub sent_is_sendable : (f : Format) → SentIsSendable f
sent_is_sendable f fs room n e = sent_sendable f fs room n e

-- ---- a face list that is accepted

module _ (f : Format) (v : ℕ) (s : List ℕ) (a : AcceptedList f v s) where
  -- its shape is right, and what reading returns is its faces
  abbrev read : Faces
  read = record { answer = Fine; count = count_in f s; rows = (returned (faces_in f s)).rows }

  both : (well_shaped f v s ≡ true) × (faces_of f v s ≡ read)
  unfolding faces_of
  both = go (well_shaped f v s) a.1
    where
      go : (b : Bool) → Fine ≡ (cond b read no_faces).answer → (b ≡ true) × (cond b read no_faces ≡ read)
      go true e = (refl, refl)
      go false e = let z : ◌≡◌ {A = ℕ} 0 1 = cc in absurd (omega arith)

  pub faces_write : FacesWriteBack f v s
  faces_write =
      let g = shape_yes f v s both.0 in
      let again : encode_faces f (faces_in f s) ≡ s = written_again f v s g a.0 in
      let can : Sendable f v (faces_in f s) = can_be_sent f v s g in
      record {
        list = again;
        sendable = can;
        back = both.1 ∙ ap (λ (n : ℕ). record { answer = Fine; count = n; rows = (returned (faces_in f s)).rows }) (sym (length_in f s));
        room = λ h room l. sends f (faces_in f s) room (sendable_more f v f.most_vertices (faces_in f s) h can) s again l;
      }

pub one_list : (f : Format) (v : ℕ) → OneList f v
one_list f v s t hs ht e = sym (faces_write f v s hs).list ∙ ap (encode_faces f) e ∙ (faces_write f v t ht).list

-- the writer gives an accepted list back from the rows that reading returned
pub rows_give_faces : (f : Format) → Limited f → (v : ℕ) (s : List ℕ) → AcceptedList f v s → RowsGiveFaces f v s
unfolding padded
rows_give_faces f held v s a =
    let w = faces_write f v s a in
    let fs : List Loop = faces_in f s in
    let few : length fs ≤ most_candidates = omega (arith, w.sendable.most, held.faces_held) in
    let solid : List ℕ = entry (replicate (length fs) true) [] 0 in
    ap (λ (r : Faces). solid_faces r.rows (entry (replicate r.count true) [] 0)) w.back
    ∙ ap (solid_faces (returned fs).rows) (sym (append-nil solid))
    ∙ solid-faces fs w.sendable.many few (replicate (row_bytes * most_faces - length (flat_map row fs)) 0)
    (replicate (length fs) true) [] (length-replicate (length fs) true) 0 []
    ∙ all_taken fs
