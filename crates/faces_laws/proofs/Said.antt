-- What is said of a face list that is read and of one that is written: the number and place of the first check.
use mathlib.Core.Path.{◌≡◌, refl}
use mathlib.Core.Bool.{Bool, true, false, not, cond}
use mathlib.Core.List.{List, [], ◌∷◌}
use Prim.Native.Nat.{ℕ}
use lib.ListN.{length}
use Rattle.paper_laws.proofs.Answers.{written-said}
use Rattle.paper.specs.Refusals as No
use Rattle.paper.specs.Refusals.{check, offends, Fine}
use Rattle.paper.specs.Format.{bytes_for}
use Rattle.paper.specs.Loops.{Loop}
use Rattle.paper.specs.FaceList.{bits_of, count_in, well_shaped, faces_of, no_faces, send_checks, sent_for, sent_of}
use Rattle.paper.specs.Reading.{first_said, answer_says, written_says, faces_said, sent_said}
use Rattle.paper.specs.declared.Format.{Format}

pub faces-said : (f : Format) (v : ℕ) (s : List ℕ) → answer_says (faces_of f v s).answer ≡ faces_said f v s
unfolding faces_of faces_said first_said
faces-said f v s = go (well_shaped f v s) _
  where
    go : (b : Bool) (rows : List ℕ)
        → answer_says (cond b (record { answer = Fine; count = count_in f s; rows = rows }) no_faces).answer
        ≡ first_said (check No.ShellShape (offends (not b) 0) ∷ []) []
    go true rows = refl
    go false rows = refl

pub sent-said : (f : Format) (fs : List Loop) (room : List ℕ) → written_says (sent_of f fs room) ≡ sent_said f fs room
unfolding sent_of sent_said
sent-said f fs room = written-said (sent_for f fs) (bytes_for (bits_of f fs)) refl (λ r. refl) (send_checks f fs (length room))
