-- Under new numbers there are as many loops and candidates, and every solid has its twin.
use mathlib.Core.Path.{◌≡◌, sym, ap, ◌∙◌, subst}
use mathlib.Core.Bool.{Bool, true}
use mathlib.Core.Option.{none}
use mathlib.Core.List.{List, [], map}
use Prim.Native.Nat.{ℕ, ◌<◌}
use native.Mathlib.Omega.{arith}
use lib.ListN.{length, length-map}
use Rattle.lists.proofs.Places.{map_at}
use Rattle.sets.specs.Word.{dig}
use Rattle.sets.proofs.Ones.{dig-below}
use Rattle.paper.specs.Drawing.{Wire, same_place}
use Rattle.paper.specs.Loops.{Loop, loop_at, loops, candidates}
use Rattle.paper.specs.Verdict.{normal_form, number_in}
use Rattle.means_solid.specs.Solid.{IsSolid}
use Rattle.means_solid.specs.Named.{SameRing, directed, Names}
use Rattle.means_loops.proofs.Rings.{same_sym, same_trans}
use Rattle.means_loops.proofs.Listing.{loops_are, loops-all, loops_once, candidates_are, candidates_once, loop_normal}
use Rattle.means_loops.proofs.OwnPlane.{candidates-flat}
use Rattle.means_masks.proofs.Tables.{flat_even}
use Rattle.means_check.specs.Candidates.{ProperCandidates}
use Rattle.means_check.specs.Bodies.{Among, SameBody}
use Rattle.means_check.specs.Sent.{face_list}
use Rattle.means_check.proofs.Numbers.{number_at, number_in_lem}
use Rattle.means_check.proofs.Bodies.{face_list_names}
use Rattle.means_moves.specs.Renumbered.{BothWays}
use Rattle.means_moves.specs.Kept.{Twin, KeptSolids}
use Rattle.means_moves.proofs.Renamed.{same_map, renumbered_back}
use Rattle.means_moves.proofs.Matched.{loop_over, over_back, fwd, back, back_fwd}
use Rattle.means_moves.proofs.Sums.{Match, as_many}
use Rattle.means_moves.proofs.Carried.{matched, new_taken, new_turned, new_low, taken_at, taken_to, ring-over}
use Rattle.means_moves.proofs.Renewed.{solid-over}

-- ---- loops

module _ {new old : ℕ → ℕ} {d e : Wire} (r : BothWays new old d e) (one : same_place d ≡ none) (two : same_place e ≡ none) where
  abbrev loop_to : ℕ → ℕ
  loop_to k = number_in (loops e) (map new (loop_at (loops d) k))

  loop_in_lem : (k : ℕ) → k < length (loops d) → loop_to k < length (loops e)
  loop_in_lem k h =
      let w = loops-all e (normal_form (map new (loop_at (loops d) k))) (loop_over r one two (loop_at (loops d) k) (loops_are d k h)) in
      number_in_lem (loops e) (map new (loop_at (loops d) k)) w.0 w.1 (sym w.2)

  loop_at_lem : (k : ℕ) → k < length (loops d) → loop_at (loops e) (loop_to k) ≡ normal_form (map new (loop_at (loops d) k))
  loop_at_lem k h = sym (number_at (loops e) (map new (loop_at (loops d) k)) (loop_in_lem k h))

module _ {new old : ℕ → ℕ} {d e : Wire} (r : BothWays new old d e) (one : same_place d ≡ none) (two : same_place e ≡ none) where
  loop_back : (k : ℕ) → k < length (loops d) → loop_to (renumbered_back r) two one (loop_to r one two k) ≡ k
  loop_back k h =
      let j = loop_to r one two k in
      let l : j < length (loops e) = loop_in_lem r one two k h in
      loops_once d (loop_to (renumbered_back r) two one j) k (loop_in_lem (renumbered_back r) two one j l) h
      (loop_at_lem (renumbered_back r) two one j l ∙ ap (λ (q : Loop). normal_form (map old q)) (loop_at_lem r one two k h)
      ∙ over_back r one two (loop_at (loops d) k) (loops_are d k h))

module _ {new old : ℕ → ℕ} {d e : Wire} (r : BothWays new old d e) (one : same_place d ≡ none) (two : same_place e ≡ none) where
  loops_match : Match (length (loops d)) (length (loops e)) (loop_to r one two) (loop_to (renumbered_back r) two one)
  loops_match = record {
    to_low = loop_in_lem r one two;
    of_low = loop_in_lem (renumbered_back r) two one;
    of_to = loop_back r one two;
    to_of = loop_back (renumbered_back r) two one;
  }

-- ---- the same body

pub fit : (d : Wire) → same_place d ≡ none → ProperCandidates d (candidates d)
fit d e = record {
  normal = λ k h. loop_normal d (loop_at (candidates d) k) (candidates_are d k h).loop;
  differ = candidates_once d;
  even = flat_even d (candidates d) (candidates-flat d e);
}

module _ {new old : ℕ → ℕ} {d e : Wire} (r : BothWays new old d e) (one : same_place d ≡ none) (two : same_place e ≡ none)
    (taken turned : List Bool) {six : ℕ} (s : IsSolid d (candidates d) taken turned six) where
  abbrev nt : List Bool
  nt = new_taken r one two taken turned

  abbrev nu : List Bool
  nu = new_turned r one two taken turned

  abbrev fs : List Loop
  fs = face_list d (candidates d) taken turned

  abbrev gs : List Loop
  gs = face_list e (candidates e) nt nu

  here : Names d (candidates d) taken turned fs
  here = face_list_names d (candidates d) (fit d one) taken turned s

  there : Names e (candidates e) nt nu gs
  there = face_list_names e (candidates e) (fit e two) nt nu (solid-over r one two taken turned s)

  ring : (k : ℕ) → dig taken k ≡ true
      → SameRing (directed e (candidates e) nt nu (fwd r one two k)) (map new (directed d (candidates d) taken turned k))
  ring k f = ring-over r one two taken turned k (dig-below taken s.some k f) f

  new_at : (i : ℕ) → i < length fs → loop_at (map (map new) fs) i ≡ map new (loop_at fs i)
  new_at i h = map_at (map new) fs i [] [] h

  over : Among (map (map new) fs) gs
  over i h =
      let w = there.each i h in
      let l = new_low r one two taken turned w.0 w.1 in
      let f : dig taken (back r one two w.0) ≡ true = sym (taken_at r one two taken turned w.0 l) ∙ w.1 in
      let q = here.there (back r one two w.0) f in
      let z : fwd r one two (back r one two w.0) ≡ w.0 = back_fwd (renumbered_back r) two one w.0 l in
      let t : SameRing (directed e (candidates e) nt nu w.0) (map new
      (directed d (candidates d) taken turned (back r one two w.0))) = subst
      (λ (j : ℕ). SameRing (directed e (candidates e) nt nu j) (map new (directed d (candidates d) taken turned (back r one two w.0)))) z
      (ring (back r one two w.0) f) in (
        q.0,
        omega (arith, q.1, length-map fs (map new)),
        subst (λ (x : Loop). SameRing x (loop_at gs i)) (sym (new_at q.0 q.1))
            (same_trans (same_sym (same_map new q.2)) (same_trans (same_sym t) w.2)),
      )

  under : Among gs (map (map new) fs)
  under i h =
      let l : i < length fs = omega (arith, length-map fs (map new)) in
      let w = here.each i l in
      let q = there.there (fwd r one two w.0) (taken_to r one two taken turned w.0
      (dig-below taken s.some w.0 w.1) ∙ w.1) in (
        q.0,
        q.1,
        subst (SameRing (loop_at gs q.0)) (sym (new_at i l))
            (same_trans (same_sym q.2) (same_trans (ring w.0 w.1) (same_map new w.2))),
      )

  pub body_over : SameBody (map (map new) (face_list d (candidates d) taken turned))
      (face_list e (candidates e) (new_taken r one two taken turned) (new_turned r one two taken turned))
  body_over = (over, under)

  twin : Twin new d e taken turned six
  twin = record { taken_there = nt; turned_there = nu; solid = solid-over r one two taken turned s; body = body_over }

pub kept : {new old : ℕ → ℕ} {d e : Wire} → BothWays new old d e → same_place d ≡ none → same_place e ≡ none → KeptSolids new d e
kept r one two = record {
  loops_too = as_many (loops_match r one two);
  candidates_too = as_many (matched r one two);
  solids = λ taken turned six s. twin r one two taken turned s;
}
