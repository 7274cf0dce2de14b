-- The walk in words: an edge of a sweep, the choice, and the selections that pass.
use mathlib.Core.Path.{◌≡◌, refl}
use mathlib.Core.Bool.{Bool}
use mathlib.Core.List.{List, [], ◌∷◌}
use Prim.Native.Nat.{ℕ, zero, suc, ◌+◌, ◌<◌}
use native.Mathlib.Omega.{arith}
use borrow.Author.Tests.{eq-eqb, ne_eqb}
use lib.Dec.{ltb}
use lib.ListN.{length, get_or}
use Rattle.sets.specs.Word.{dig}
use Rattle.paper.specs.Loops.{candidates}
use Rattle.paper.specs.Walk.{Status, taken_on, open_on, decide_one, decide, contradicts, settle, sweep}
use Rattle.means_loops.proofs.Listing.{candidates_proper}
use Rattle.means_loops.proofs.OwnPlane.{candidates-flat}
use Rattle.means_report.specs.Fair.{Fair}
use Rattle.means_report.specs.Listed.{WalkTree}
use Rattle.means_report.proofs.Listed.{leaf-solid}
use Rattle.means_report.proofs.Chosen.{walk_chooses}
use Rattle.means_check.proofs.Demand.{drawing_places}
use Rattle.demands.specs.Input.{Input, drawing, candidates_of, Passes}
use Rattle.demands.specs.Walk.{OneEdge, WalkWords}
use Rattle.demands.proofs.Input.{drawing-fine}
use Rattle.paper_laws.proofs.Tests.{is_lt, is_or}
use Rattle.demands.proofs.Solid.{in_words, of_words}

-- the undecided on the edge are decided, and nothing else
decide-at : (v s : Status) (mask : List Bool) (st : List Status) (k : ℕ) → k < length st
    → get_or (decide v mask st) k s ≡ decide_one v (dig mask k) (get_or st k s)
unfolding decide
decide-at v s [] st k h = refl
decide-at v s (b ∷ mask) [] k h = absurd (omega arith)
decide-at v s (b ∷ mask) (a ∷ st) zero h = refl
decide-at v s (b ∷ mask) (a ∷ st) (suc k) h = decide-at v s mask st k (omega arith)

one-edge : (mask : List Bool) (st : List Status) → OneEdge mask st
unfolding contradicts settle sweep
one-edge mask st = record {
  contradiction =
      is_or (ltb 2 (taken_on mask st)) (ltb (taken_on mask st + open_on mask st) 2) (is_lt 2 (taken_on mask st))
      (is_lt (taken_on mask st + open_on mask st) 2);
  reject = λ e. rw (eq-eqb (taken_on mask st) 2 e);
  take = λ n e. rw (ne_eqb (taken_on mask st) 2 n, eq-eqb (taken_on mask st + open_on mask st) 2 e);
  keep = λ n m. rw (ne_eqb (taken_on mask st) 2 n, ne_eqb (taken_on mask st + open_on mask st) 2 m);
  decided = λ v s k h. decide-at v s mask st k h;
  ends = λ masks e. rw e;
  goes_on = λ masks e. rw e;
}

pub fair : (x : Input) → Passes x → Fair (drawing x) (candidates (drawing x))
fair x p =
    record { proper = candidates_proper (drawing x); flat = candidates-flat (drawing x) (drawing_places (drawing x) (drawing-fine x p)) }

pub walk-words : (x : Input) → Passes x → (t : WalkTree (drawing x) (candidates_of x)) → WalkWords x t
walk-words x p t = record {
  edges = one-edge;
  chooses = walk_chooses (drawing x) t;
  passes = λ i h.
      let r = leaf-solid (drawing x) (candidates (drawing x)) (fair x p) t i h in (
        λ e. let s = r.0 e in (s.0, s.1, in_words (drawing x) s.2),
        λ s. r.1 (s.0, s.1, of_words (drawing x) s.2),
      );
}
