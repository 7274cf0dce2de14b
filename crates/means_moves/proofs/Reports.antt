-- Two lists that have every solid once, of a drawing and of the same under new numbers: as many, and one to one.
use mathlib.Core.Path.{◌≡◌, sym, ap, ◌∙◌, subst}
use mathlib.Core.Bool.{Bool, false, cond}
use mathlib.Core.Option.{none}
use mathlib.Core.List.{List, map}
use Prim.Native.Nat.{ℕ, ◌<◌}
use native.Mathlib.Omega.{arith}
use native.Mathlib.Decide.{dec_lt}
use lib.ListN.{length}
use lib.Seq.{ext_get_or}
use Rattle.lists.specs.Lists.{filter, upto}
use Rattle.sets.specs.Word.{dig}
use Rattle.paper.specs.Drawing.{Wire, same_place}
use Rattle.paper.specs.Loops.{Loop, loop_at, candidates, flipped}
use Rattle.means_report.specs.Fair.{Same}
use Rattle.means_report.specs.Listed.{Entry, entry_at, EverySolidOnce}
use Rattle.means_check.specs.Bodies.{SameBody}
use Rattle.means_check.specs.Sent.{face_list}
use Rattle.means_moves.specs.Renumbered.{BothWays}
use Rattle.means_moves.proofs.Renamed.{renumbered_back}
use Rattle.means_moves.proofs.Sums.{Match, as_many}
use Rattle.means_moves.proofs.Carried.{new_taken, new_turned, new_long, taken_at, taken_to}
use Rattle.means_moves.proofs.Renewed.{solid-over}
use Rattle.means_moves.proofs.Kept.{body_over}

-- a list of faces goes by the digits of its masks
faces_same : (d : Wire) (cs : List Loop) (taken t u : List Bool) → Same t u → face_list d cs taken t ≡ face_list d cs taken u
unfolding face_list
faces_same d cs taken t u h = λ i. map (λ k. cond (h k i) (flipped (loop_at cs k)) (loop_at cs k)) (filter (dig taken) (upto (length cs)))

module _ {new old : ℕ → ℕ} {d e : Wire} (r : BothWays new old d e) (one : same_place d ≡ none) (two : same_place e ≡ none) where
  -- carried over and back
  again : (taken turned us : List Bool) → length taken ≡ length (candidates d)
      → new_taken (renumbered_back r) two one (new_taken r one two taken turned) us ≡ taken
  again taken turned us h =
      let n = new_long (renumbered_back r) two one (new_taken r one two taken turned) us in
      ext_get_or false (new_taken (renumbered_back r) two one (new_taken r one two taken turned) us) taken (n ∙ sym h)
      (λ k l.
      let m : k < length (candidates d) = omega arith in
      taken_at (renumbered_back r) two one (new_taken r one two taken turned) us k m ∙ taken_to r one two taken turned k m)

  module _ (es ts : List Entry) (le : EverySolidOnce d (candidates d) es) (lt : EverySolidOnce e (candidates e) ts) where
    -- entry i's twin is entry j of the other list
    pub record Pair (i j : ℕ) : Type 0 where
      pub low : j < length ts
      pub taken : (entry_at ts j).taken ≡ new_taken r one two (entry_at es i).taken (entry_at es i).turned
      pub six : (entry_at ts j).six ≡ (entry_at es i).six
      pub body : SameBody (map (map new) (face_list d (candidates d) (entry_at es i).taken (entry_at es i).turned))
          (face_list e (candidates e) (entry_at ts j).taken (entry_at ts j).turned)

    pair : (i : ℕ) → i < length es → (j : ℕ) × Pair i j
    pair i h =
        let s = le.each i h in
        let a = (entry_at es i).taken in
        let b = (entry_at es i).turned in
        let w = lt.there (solid-over r one two a b s) in (
          w.0,
          record {
            low = w.1;
            taken = w.2;
            six = w.4;
            body = subst (SameBody (map (map new) (face_list d (candidates d) a b)))
                (ap (λ (x : List Bool). face_list e (candidates e) x (new_turned r one two a b)) (sym w.2)
                ∙ sym (faces_same e (candidates e) (entry_at ts w.0).taken (entry_at ts w.0).turned (new_turned r one two a b) w.3))
                (body_over r one two a b s);
          },
        )

    -- its number
    pub place : (i : ℕ) → Dec (i < length es) → ℕ
    place i (yes h) = (pair i h).0
    place i (no h) = 0

    abbrev pub place_of : ℕ → ℕ
    place_of i = place i (dec_lt i (length es))

    pub placed : (i : ℕ) → i < length es → Pair i (place_of i)
    unfolding place
    placed i h = go (dec_lt i (length es))
      where
        go : (t : Dec (i < length es)) → Pair i (place i t)
        go (yes k) = (pair i k).1
        go (no k) = absurd (k h)

-- there and back, by a renumbering and any that undoes it
module _ {new old : ℕ → ℕ} {d e : Wire} (r : BothWays new old d e) (q : BothWays old new e d) (one : same_place d ≡ none)
    (two : same_place e ≡ none) (es ts : List Entry) (le : EverySolidOnce d (candidates d) es) (lt : EverySolidOnce e (candidates e) ts) where
  abbrev to : ℕ → ℕ
  to = place_of r one two es ts le lt

  abbrev of : ℕ → ℕ
  of = place_of q two one ts es lt le

  of_to : (i : ℕ) → i < length es → of (to i) ≡ i
  of_to i h =
      let p = placed r one two es ts le lt i h in
      let w = placed q two one ts es lt le (to i) p.low in
      le.once (of (to i)) i w.low h
      (w.taken
      ∙ ap (λ (x : List Bool). new_taken q two one x (entry_at ts (to i)).turned) p.taken
      ∙ again r one two (entry_at es i).taken (entry_at es i).turned (entry_at ts (to i)).turned (le.each i h).some)

module _ {new old : ℕ → ℕ} {d e : Wire} (r : BothWays new old d e) (one : same_place d ≡ none) (two : same_place e ≡ none)
    (es ts : List Entry)
    (le : EverySolidOnce d (candidates d) es) (lt : EverySolidOnce e (candidates e) ts) where
  pub solids_match : Match (length es) (length ts) (place_of r one two es ts le lt) (place_of (renumbered_back r) two one ts es lt le)
  solids_match = record {
    to_low = λ i h. (placed r one two es ts le lt i h).low;
    of_low = λ j h. (placed (renumbered_back r) two one ts es lt le j h).low;
    of_to = of_to r (renumbered_back r) one two es ts le lt;
    to_of = of_to (renumbered_back r) r two one ts es lt le;
  }

  -- as many solids
  pub same_count : length ts ≡ length es
  same_count = as_many solids_match
