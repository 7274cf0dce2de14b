-- A selection with its directions, carried over to a drawing with new numbers: its directed rings are the same.
use mathlib.Core.Path.{◌≡◌, refl, sym, ap, ◌∙◌, subst}
use mathlib.Core.Bool.{Bool, true, false, not, ◌&&◌, cond, xor}
use mathlib.Core.Logic.{◌⊎◌, inl, inr}
use mathlib.Core.Option.{none}
use mathlib.Core.List.{List, map}
use Prim.Native.Nat.{ℕ, ◌≤◌, ◌<◌}
use native.Mathlib.Omega.{arith}
use lib.IntN.{ℤ, neg_ℤ, neg_ℤ-neg_ℤ}
use lib.ListN.{length}
use Rattle.lists.specs.Lists.{upto}
use Rattle.lists.proofs.Places.{made_at, made_length}
use Rattle.lists.proofs.Truth.{and_left}
use Rattle.sets.specs.Word.{dig}
use Rattle.sets.proofs.Ones.{dig_lt, dig-below}
use Rattle.paper.specs.Drawing.{Wire, edge, same_place}
use Rattle.paper.specs.Loops.{Loop, loop_at, flipped, polygon, candidates}
use Rattle.paper.specs.Solids.{face_six, part}
use Rattle.paper.specs.Verdict.{normal_form}
use Rattle.paper.specs.Verdict.{onward as forward}
use Rattle.means_solid.specs.Solid.{Goes, Runs, HasSide}
use Rattle.means_solid.specs.Named.{SameRing, directed}
use Rattle.means_loops.specs.Path.{ClosedPath}
use Rattle.means_loops.proofs.Rings.{same_sym, flip-flip, flip_length, flip-same}
use Rattle.means_loops.proofs.Places as Places
use Rattle.means_loops.proofs.Listing.{candidates_are}
use Rattle.means_loops.proofs.Paths.{loop_path}
use Rattle.means_moves.specs.Renumbered.{BothWays}
use Rattle.means_moves.proofs.Renamed.{goes_over, goes_from, flip_map, renumbered_back, edge_low}
use Rattle.means_moves.proofs.Matched.{form-ring, fwd, fwd_in, fwd_at, back, back_fwd, six_over}
use Rattle.means_moves.proofs.Sums.{Match, term}

-- ---- runs of a directed ring

module _ (d : Wire) (cs : List Loop) (taken turned : List Bool) (k : ℕ) (two : 2 ≤ length (loop_at cs k)) where
  pub runs-ring : (a b : ℕ) → Runs d cs taken turned k a b → Goes (directed d cs taken turned k) a b
  runs-ring a b = go (dig turned k)
    where
      go : (t : Bool) → cond t (Goes (loop_at cs k) b a) (Goes (loop_at cs k) a b) → Goes (cond t (flipped (loop_at cs k)) (loop_at cs k)) a b
      go true g =
          Places.goes_back (flipped (loop_at cs k)) b a (omega (arith, flip_length (loop_at cs k)))
          (subst (λ (l : Loop). Goes l b a) (sym (flip-flip (loop_at cs k))) g)
      go false g = g

  pub ring-runs : (a b : ℕ) → Goes (directed d cs taken turned k) a b → Runs d cs taken turned k a b
  ring-runs a b = go (dig turned k)
    where
      go : (t : Bool) → Goes (cond t (flipped (loop_at cs k)) (loop_at cs k)) a b → cond t (Goes (loop_at cs k) b a) (Goes (loop_at cs k) a b)
      go true g = Places.goes_back (loop_at cs k) a b two g
      go false g = g

-- an edge, by either direction
module _ (d : Wire) (cs : List Loop) (taken turned : List Bool) (k a b : ℕ) where
  pub has-runs : HasSide d cs taken turned k (edge a b) → Runs d cs taken turned k a b ⊎ Runs d cs taken turned k b a
  has-runs = go (dig turned k)
    where
      go : (t : Bool) → Goes (loop_at cs k) a b ⊎ Goes (loop_at cs k) b a
          → cond t (Goes (loop_at cs k) b a) (Goes (loop_at cs k) a b) ⊎ cond t (Goes (loop_at cs k) a b) (Goes (loop_at cs k) b a)
      go true (inl g) = inr g
      go true (inr g) = inl g
      go false h = h

  pub runs-has : Runs d cs taken turned k a b ⊎ Runs d cs taken turned k b a → HasSide d cs taken turned k (edge a b)
  runs-has = go (dig turned k)
    where
      go : (t : Bool) → cond t (Goes (loop_at cs k) b a) (Goes (loop_at cs k) a b) ⊎ cond t (Goes (loop_at cs k) a b) (Goes (loop_at cs k) b a)
          → Goes (loop_at cs k) a b ⊎ Goes (loop_at cs k) b a
      go true (inl g) = inr g
      go true (inr g) = inl g
      go false h = h

-- ---- the selection over there

module _ {new old : ℕ → ℕ} {d e : Wire} (r : BothWays new old d e) (one : same_place d ≡ none) (two : same_place e ≡ none) where
  abbrev to : ℕ → ℕ
  to = fwd r one two

  pub matched : Match (length (candidates d)) (length (candidates e)) (fwd r one two) (back r one two)
  matched = record {
    to_low = fwd_in r one two;
    of_low = fwd_in (renumbered_back r) two one;
    of_to = back_fwd r one two;
    to_of = back_fwd (renumbered_back r) two one;
  }

  -- candidate k's normal form over there runs its ring the same way
  abbrev ahead : ℕ → Bool
  ahead k = forward (map new (loop_at (candidates d) k))

  module _ (taken turned : List Bool) where
    abbrev pub new_taken : List Bool
    new_taken = map (λ j. dig taken (back r one two j)) (upto (length (candidates e)))

    abbrev pub new_turned : List Bool
    new_turned =
        map (λ j. dig taken (back r one two j) && xor (dig turned (back r one two j)) (not (ahead (back r one two j))))
        (upto (length (candidates e)))

    pub new_long : length new_taken ≡ length (candidates e)
    new_long = made_length (λ j. dig taken (back r one two j)) (length (candidates e))

    pub new_low : (j : ℕ) → dig new_taken j ≡ true → j < length (candidates e)
    new_low j h = dig-below new_taken new_long j h

    pub taken_at : (j : ℕ) → j < length (candidates e) → dig new_taken j ≡ dig taken (back r one two j)
    taken_at j h = made_at (λ j. dig taken (back r one two j)) (length (candidates e)) j false h

    pub turned_at : (j : ℕ) → j < length (candidates e)
        → dig new_turned j ≡ (dig taken (back r one two j) && xor (dig turned (back r one two j)) (not (ahead (back r one two j))))
    turned_at j h =
        made_at (λ j. dig taken (back r one two j) && xor (dig turned (back r one two j)) (not (ahead (back r one two j))))
        (length (candidates e)) j
        false h

    pub new_within : (j : ℕ) → dig new_turned j ≡ true → dig new_taken j ≡ true
    new_within j h =
        let l : j < length (candidates e) = omega (
          arith,
          dig_lt new_turned j h,
          made_length (λ j. dig taken (back r one two j) && xor (dig turned (back r one two j)) (not (ahead (back r one two j))))
              (length (candidates e)),
        ) in
        taken_at j l
        ∙ and_left (dig taken (back r one two j)) (xor (dig turned (back r one two j)) (not (ahead (back r one two j))))
        (sym (turned_at j l) ∙ h)

    module _ (k : ℕ) (h : k < length (candidates d)) where
      path : ClosedPath d (loop_at (candidates d) k)
      path = loop_path d one (loop_at (candidates d) k) (candidates_are d k h).loop

      pub taken_to : dig new_taken (to k) ≡ dig taken k
      taken_to = taken_at (to k) (fwd_in r one two k h) ∙ ap (dig taken) (back_fwd r one two k h)

      pub turned_to : dig taken k ≡ true → dig new_turned (to k) ≡ xor (dig turned k) (not (ahead k))
      turned_to f =
          turned_at (to k) (fwd_in r one two k h)
          ∙ ap (λ (i : ℕ). dig taken i && xor (dig turned i) (not (ahead i))) (back_fwd r one two k h)
          ∙ ap (λ (b : Bool). b && xor (dig turned k) (not (ahead k))) f

      -- a face's directed ring
      pub ring-over : dig taken k ≡ true
          → SameRing (directed e (candidates e) new_taken new_turned (to k)) (map new (directed d (candidates d) taken turned k))
      ring-over f =
          subst (λ (b : Bool). SameRing (cond b (flipped (loop_at (candidates e) (to k))) (loop_at (candidates e) (to k))) there)
          (sym (turned_to f))
          (subst (λ (q : Loop). SameRing (cond (xor (dig turned k) (not (ahead k))) (flipped q) q) there) (sym (fwd_at r one two k h))
          (go (dig turned k) (ahead k) (form-ring c)))
        where
          c : Loop
          c = map new (loop_at (candidates d) k)

          there : Loop
          there = map new (directed d (candidates d) taken turned k)

          go : (t o : Bool) → SameRing (cond o (normal_form c) (flipped (normal_form c))) c
              → SameRing (cond (xor t (not o)) (flipped (normal_form c)) (normal_form c))
              (map new (cond t (flipped (loop_at (candidates d) k)) (loop_at (candidates d) k)))
          go false true s = unfold xor in s
          go false false s = unfold xor in s
          go true true s = unfold xor in subst (SameRing (flipped (normal_form c))) (flip_map new (loop_at (candidates d) k)) (flip-same s)
          go true false s =
              unfold xor in
              subst (SameRing (normal_form c)) (flip_map new (loop_at (candidates d) k))
              (subst (λ (l : Loop). SameRing l (flipped c)) (flip-flip (normal_form c)) (flip-same s))

      -- what it gives to six volumes
      pub term_over : term e (candidates e) new_taken new_turned (to k) ≡ term d (candidates d) taken turned k
      term_over = go (dig taken k) refl
        where
          z : ℤ
          z = face_six (polygon d (loop_at (candidates d) k))

          twist : (t o : Bool) → part true (xor t (not o)) (cond o z (neg_ℤ z)) ≡ part true t z
          twist false true = unfold xor in refl
          twist false false = unfold xor in neg_ℤ-neg_ℤ z
          twist true true = unfold xor in refl
          twist true false = unfold xor in refl

          six : face_six (polygon e (loop_at (candidates e) (to k))) ≡ cond (ahead k) z (neg_ℤ z)
          six =
              ap (λ (q : Loop). face_six (polygon e q)) (fwd_at r one two k h)
              ∙ six_over r one two (loop_at (candidates d) k) (candidates_are d k h).loop

          go : (b : Bool) → dig taken k ≡ b → term e (candidates e) new_taken new_turned (to k) ≡ part (dig taken k) (dig turned k) z
          go false f =
              ap (λ (b : Bool). part b (dig new_turned (to k)) (face_six (polygon e (loop_at (candidates e) (to k))))) (taken_to ∙ f)
              ∙ sym (ap (λ (b : Bool). part b (dig turned k) z) f)
          go true f =
              (λ i. part ((taken_to ∙ f) i) (turned_to f i) (six i)) ∙ twist (dig turned k) (ahead k)
              ∙ sym (ap (λ (b : Bool). part b (dig turned k) z) f)

      long : 2 ≤ length (loop_at (candidates d) k)
      long = omega (arith, path.three)

      long_to : 2 ≤ length (loop_at (candidates e) (to k))
      long_to = omega (arith, (candidates_are e (to k) (fwd_in r one two k h)).loop.three)

      pub runs-over : dig taken k ≡ true → (a b : ℕ) → Runs d (candidates d) taken turned k a b
          → Runs e (candidates e) new_taken new_turned (to k) (new a) (new b)
      runs-over f a b g =
          ring-runs e (candidates e) new_taken new_turned (to k) long_to (new a) (new b)
          (Places.goes_from (ring-over f) (new a) (new b)
          (goes_over new (directed d (candidates d) taken turned k) a b (runs-ring d (candidates d) taken turned k long a b g)))

      -- ends of a face's side are vertices
      run_low : (a b : ℕ) → Runs d (candidates d) taken turned k a b → (a < length d.vertices) × (b < length d.vertices)
      run_low a b g = go (dig turned k) g
        where
          go : (t : Bool) → cond t (Goes (loop_at (candidates d) k) b a) (Goes (loop_at (candidates d) k) a b)
              → (a < length d.vertices) × (b < length d.vertices)
          go true g = let w = edge_low r b a (path.along b a g) in (w.1, w.0)
          go false g = edge_low r a b (path.along a b g)

      pub runs-under : dig taken k ≡ true → (x y : ℕ) → Runs e (candidates e) new_taken new_turned (to k) x y
          → Runs d (candidates d) taken turned k (old x) (old y)
      runs-under f x y g =
          let w = goes_from new (directed d (candidates d) taken turned k) x y
          (Places.goes_from (same_sym (ring-over f)) x y (runs-ring e (candidates e) new_taken new_turned (to k) long_to x y g)) in
          let q = ring-runs d (candidates d) taken turned k long w.0 w.1 w.2 in
          let l = run_low w.0 w.1 q in
          subst (λ (a : ℕ). Runs d (candidates d) taken turned k a (old y)) (sym (r.old_new w.0 l.0) ∙ ap old (sym w.3))
          (subst (Runs d (candidates d) taken turned k w.0) (sym (r.old_new w.1 l.1) ∙ ap old (sym w.4)) q)
