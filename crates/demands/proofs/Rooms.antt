-- The faces of a solid, as they are read from the rows and words of a report.
use mathlib.Core.Path.{◌≡◌, ap₂, ◌∙◌}
use mathlib.Core.Bool.{Bool}
use mathlib.Core.List.{List, [], ◌∷◌, ◌++◌, flat_map, append_assoc}
use Prim.Native.Nat.{ℕ, zero, suc, ◌+◌, ◌*◌, ◌≤◌, ◌<◌}
use native.Mathlib.Omega.{arith}
use borrow.Author.Tests.{ltb-false}
use lib.Seq.{drop-append-add}
use lib.Dec.{ltb}
use lib.ListN.{length, drop}
use Rattle.paper.specs.Record.{entry}
use Rattle.paper.specs.Numbers.{documented, most_candidates, row_bytes, solid_words}
use Rattle.paper.specs.Refusals as No
use Rattle.paper.specs.Refusals.{first_of, Fine}
use Rattle.paper.specs.Drawing.{Wire}
use Rattle.paper.specs.Loops.{Loop, loops, candidates, loop_checks}
use Rattle.paper.specs.FaceList.{solid_faces}
use Rattle.paper.specs.Conversion.{faces_after}
use Rattle.paper_laws.proofs.Record.{entry_length}
use Rattle.paper_laws.proofs.Checks.{found_none, passed}
use Rattle.faces_laws.proofs.Reported.{solid-faces}
use Rattle.means_report.specs.Listed.{Entry, entry_at, words_of}
use Rattle.means_check.specs.Sent.{face_list}
use Rattle.means_loops.proofs.Listing.{candidates_are}

-- ---- a solid's faces, from the rows and its record

few_candidates : (ls cs : List Loop) → Fine ≡ first_of (loop_checks documented ls cs) → length cs ≤ most_candidates
unfolding loop_checks
few_candidates ls cs e =
    ltb-false most_candidates (length cs) (passed No.ManyCandidates 0 {b = ltb most_candidates (length cs)} [] (found_none _ _ e).1).0

module _ (d : Wire) (fine : Fine ≡ first_of (loop_checks documented (loops d) (candidates d))) (room more : List ℕ)
    (taken turned : List Bool) (some : length taken ≡ length (candidates d)) (six : ℕ) where
  pub faces-reported : solid_faces (faces_after (candidates d) room) (entry taken turned six ++ more)
      ≡ face_list d (candidates d) taken turned
  unfolding faces_after face_list
  faces-reported =
      solid-faces (candidates d) (λ i l. (candidates_are d i l).loop.twelve) (few_candidates (loops d) (candidates d) fine)
      (drop (row_bytes * length (candidates d)) room) taken turned some six more

-- the record of solid i, and what comes behind it
pub words-at : (es : List Entry) (rest : List ℕ) (i : ℕ) → i < length es
    → (more : List ℕ) × (drop (solid_words * i) (flat_map words_of es ++ rest) ≡ words_of (entry_at es i) ++ more)
unfolding flat_map
words-at [] rest i h = absurd (omega arith)
words-at (e ∷ es) rest zero h = (flat_map words_of es ++ rest, append_assoc (words_of e) (flat_map words_of es) rest)
words-at (e ∷ es) rest (suc i) h =
    let r = words-at es rest i (omega arith) in
    let n : solid_words * suc i ≡ length (words_of e) + solid_words * i = omega (arith, entry_length e.taken e.turned e.six) in (
      r.0,
      ap₂ (λ (k : ℕ) (ws : List ℕ). drop k ws) n (append_assoc (words_of e) (flat_map words_of es) rest)
          ∙ drop-append-add (words_of e) (flat_map words_of es ++ rest) (solid_words * i)
          ∙ r.1,
    )
