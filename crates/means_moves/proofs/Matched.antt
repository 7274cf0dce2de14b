-- Loops and candidates of a drawing with new numbers: each has its own over there, and no two have the same.
use mathlib.Core.Path.{◌≡◌, refl, sym, ap, ◌∙◌, subst}
use mathlib.Core.Bool.{Bool, true, false, cond}
use mathlib.Core.Option.{none}
use mathlib.Core.List.{map}
use Prim.Native.Nat.{ℕ, ◌<◌}
use lib.IntN.{neg_ℤ}
use lib.ListN.{length}
use Rattle.paper.specs.Polygon.{Polygon, covers}
use Rattle.paper.specs.Drawing.{Wire, same_place}
use Rattle.paper.specs.Loops.{Loop, loop_at, flipped, polygon, candidates}
use Rattle.paper.specs.Solids.{face_six}
use Rattle.paper.specs.Verdict.{normal_form, number_in}
use Rattle.paper.specs.Verdict.{onward as forward}
use Rattle.paper_laws.specs.Planes.{InOwnPlane}
use Rattle.means_solid.specs.Named.{SameRing}
use Rattle.means_loops.specs.Loop.{IsLoop, IsCandidate}
use Rattle.means_loops.specs.Path.{ClosedPath}
use Rattle.means_loops.proofs.Rings.{same_refl, same_sym, flip-flip, flip-same}
use Rattle.means_loops.proofs.Forms.{same-form, flip-same-form}
use Rattle.means_loops.proofs.Lowest.{normal_on, normal_back, on_normal}
use Rattle.means_loops.proofs.Listing.{candidates_are, candidates-all, candidates_once, loop_normal}
use Rattle.means_loops.proofs.Paths.{normal_loop, loop_path}
use Rattle.means_check.proofs.Numbers.{number_at, number_in_lem}
use Rattle.means_moves.specs.Rings.{OneRing}
use Rattle.means_moves.specs.Renumbered.{BothWays}
use Rattle.means_moves.proofs.OneRing.{covers-ring, ring_then, own_plane, start-ring, flip-ring, flip_six}
use Rattle.means_moves.proofs.Renamed.{same_map, flip_map, path_own, renumbered_back, back_again, polygon-over, path_below, path_over}

-- ---- a closed path and its normal form

-- its direction in the normal form
pub form-ring : (c : Loop) → SameRing (cond (forward c) (normal_form c) (flipped (normal_form c))) c
form-ring c = go (forward c) refl
  where
    go : (b : Bool) → forward c ≡ b → SameRing (cond b (normal_form c) (flipped (normal_form c))) c
    go true e = normal_on c e
    go false e = normal_back c e

module _ (d : Wire) (c : Loop) (own : InOwnPlane (polygon d c)) where
  form_back : SameRing (flipped (normal_form c)) c → SameRing (flipped c) (normal_form c)
  form_back s = same_sym (subst (λ (l : Loop). SameRing l (flipped c)) (flip-flip (normal_form c)) (flip-same s))

  pub form-one : OneRing (polygon d c) (polygon d (normal_form c))
  form-one = go (forward c) (form-ring c)
    where
      go : (b : Bool) → SameRing (cond b (normal_form c) (flipped (normal_form c))) c → OneRing (polygon d c) (polygon d (normal_form c))
      go true s = (start-ring d (same_sym s) own).ring
      go false s = ring_then (flip-ring d c) (start-ring d (form_back s) (own_plane (flip-ring d c) own)).ring

  pub form_six : face_six (polygon d (normal_form c)) ≡ cond (forward c) (face_six (polygon d c)) (neg_ℤ (face_six (polygon d c)))
  form_six = go (forward c) (form-ring c)
    where
      go : (b : Bool) → SameRing (cond b (normal_form c) (flipped (normal_form c))) c
          → face_six (polygon d (normal_form c)) ≡ cond b (face_six (polygon d c)) (neg_ℤ (face_six (polygon d c)))
      go true s = (start-ring d (same_sym s) own).six
      go false s = (start-ring d (form_back s) (own_plane (flip-ring d c) own)).six ∙ flip_six d c

-- ---- loops

module _ {new old : ℕ → ℕ} {d e : Wire} (r : BothWays new old d e) (one : same_place d ≡ none) (two : same_place e ≡ none) where
  -- a loop under its new numbers, in normal form
  abbrev pub over : Loop → Loop
  over q = normal_form (map new q)

  module _ (q : Loop) (l : IsLoop d q) where
    pub path : ClosedPath d q
    path = loop_path d one q l

    pub path_new : ClosedPath e (map new q)
    path_new = path_over r q path

    pub loop_over : IsLoop e (over q)
    loop_over = normal_loop e two (map new q) path_new

    -- the same polygon, up to start and direction
    pub one-over : OneRing (polygon d q) (polygon e (over q))
    one-over =
        subst (λ (g : Polygon). OneRing g (polygon e (over q))) (polygon-over r q (path_below r q path))
        (form-one e (map new q) (path_own e (map new q) path_new))

    pub six_over : face_six (polygon e (over q)) ≡ cond (forward (map new q)) (face_six (polygon d q)) (neg_ℤ (face_six (polygon d q)))
    six_over =
        form_six e (map new q) (path_own e (map new q) path_new)
        ∙ ap (λ (g : Polygon). cond (forward (map new q)) (face_six g) (neg_ℤ (face_six g))) (polygon-over r q (path_below r q path))

    -- and back
    pub over_back : normal_form (map old (over q)) ≡ q
    over_back = go (forward (map new q)) (form-ring (map new q))
      where
        again : map old (map new q) ≡ q
        again = back_again r q (path_below r q path)

        here : ClosedPath d (map old (over q))
        here = path_over (renumbered_back r) (over q) (loop_path e two (over q) loop_over)

        own : normal_form q ≡ q
        own = on_normal q (loop_normal d q l) q (same_refl q)

        go : (b : Bool) → SameRing (cond b (over q) (flipped (over q))) (map new q) → normal_form (map old (over q)) ≡ q
        go true s =
            same-form (map old (over q)) q here.different (subst (SameRing (map old (over q))) again (same_map old s)) ∙ own
        go false s =
            flip-same-form (map old (over q)) q here.different
            (subst (λ (f : Loop). SameRing f q) (sym (flip_map old (over q)))
            (subst (SameRing (map old (flipped (over q)))) again (same_map old s)))
            ∙ own

  pub covers-over : (q p : Loop) → IsLoop d q → IsLoop d p → covers (polygon e (over q)) (polygon e (over p)) ≡ covers (polygon d q)
      (polygon d p)
  covers-over q p l m = covers-ring (one-over q l) (one-over p m)

-- ---- candidates

module _ {new old : ℕ → ℕ} {d e : Wire} (r : BothWays new old d e) (one : same_place d ≡ none) (two : same_place e ≡ none) where
  pub candidate_over : (q : Loop) → IsCandidate d q → IsCandidate e (over r one two q)
  candidate_over q c = record {
    loop = loop_over r one two q c.loop;
    bare = λ p m n.
        let l : IsLoop d (normal_form (map old p)) = loop_over (renumbered_back r) two one p m in
        let z : normal_form (map new (normal_form (map old p))) ≡ p = over_back (renumbered_back r) two one p m in
        subst (λ (x : Loop). covers (polygon e (over r one two q)) (polygon e x) ≡ false) z
        (covers-over r one two q (normal_form (map old p)) c.loop l
        ∙ c.bare (normal_form (map old p)) l (λ h. n (sym z ∙ ap (λ (x : Loop). normal_form (map new x)) h)));
  }

  -- the number over there of candidate k
  abbrev pub fwd : ℕ → ℕ
  fwd k = number_in (candidates e) (map new (loop_at (candidates d) k))

  module _ (k : ℕ) (h : k < length (candidates d)) where
    pub fwd_in : fwd k < length (candidates e)
    fwd_in =
        let w = candidates-all e (over r one two (loop_at (candidates d) k))
        (candidate_over (loop_at (candidates d) k) (candidates_are d k h)) in
        number_in_lem (candidates e) (map new (loop_at (candidates d) k)) w.0 w.1 (sym w.2)

    pub fwd_at : loop_at (candidates e) (fwd k) ≡ normal_form (map new (loop_at (candidates d) k))
    fwd_at = sym (number_at (candidates e) (map new (loop_at (candidates d) k)) fwd_in)

module _ {new old : ℕ → ℕ} {d e : Wire} (r : BothWays new old d e) (one : same_place d ≡ none) (two : same_place e ≡ none) where
  abbrev pub back : ℕ → ℕ
  back = fwd (renumbered_back r) two one

  pub back_fwd : (k : ℕ) → k < length (candidates d) → back (fwd r one two k) ≡ k
  back_fwd k h =
      let j = fwd r one two k in
      let l : j < length (candidates e) = fwd_in r one two k h in
      candidates_once d (back j) k (fwd_in (renumbered_back r) two one j l) h
      (fwd_at (renumbered_back r) two one j l ∙ ap (λ (q : Loop). normal_form (map old q)) (fwd_at r one two k h)
      ∙ over_back r one two (loop_at (candidates d) k) (candidates_are d k h).loop)
