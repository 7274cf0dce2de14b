-- What 23 to 27 speak of: a list that passes 21 and 22 names the candidates that its faces are, in its directions.
use mathlib.Core.Path.{◌≡◌, sym, subst, ◌∙◌}
use mathlib.Core.List.{List}
use Prim.Native.Nat.{ℕ, ◌<◌}
use native.Mathlib.Omega.{arith}
use native.Mathlib.Decide.{dec_lt}
use lib.ListN.{length}
use Rattle.paper.specs.Drawing.{Wire}
use Rattle.paper.specs.Loops.{Loop, loop_at}
use Rattle.paper.specs.Verdict.{number_in, listed}
use Rattle.means_solid.specs.Solid.{Face}
use Rattle.means_solid.specs.Named.{SameRing, directed, Names}
use Rattle.means_check.specs.Candidates.{ProperCandidates}
use Rattle.means_check.proofs.Numbers.{is_candidate}
use Rattle.means_check.proofs.Numbered.{Numbered, taken_of, turned_of, number_of_lem, taken_yes, either_number, ring-number, numbered_names}
use Rattle.means_check.proofs.Demand.{drawing-fits}
use Rattle.demands.specs.Input.{Input, drawing, candidates_of, Passes}
use Rattle.demands.specs.Shells.{Either, candidate_at, NoCandidate, AnEarlierFace, ListedOnce}
use Rattle.demands.proofs.Input.{drawing-fine}
use Rattle.demands.proofs.Shells.{either_trans, either_sym}

module _ (d : Wire) (cs fs : List Loop) (c : ProperCandidates d cs) where
  known : ((i : ℕ) → i < length fs → NoCandidate d cs fs i → ⊥) → (i : ℕ) → i < length fs → number_in cs (loop_at fs i) < length cs
  known p i h = go (dec_lt (number_in cs (loop_at fs i)) (length cs))
    where
      go : Dec (number_in cs (loop_at fs i) < length cs) → number_in cs (loop_at fs i) < length cs
      go (yes l) = l
      go (no l) = absurd (p i h (λ k m e. l (omega (arith, m, either_number d cs c k (loop_at fs i) m e))))

  -- faces of one number are one ring
  one-ring : (i j : ℕ) → number_in cs (loop_at fs i) < length cs → number_in cs (loop_at fs i) ≡ number_in cs (loop_at fs j)
      → Either (loop_at fs i) (loop_at fs j)
  one-ring i j h e =
      let r = is_candidate cs (loop_at fs i) h in
      let s = is_candidate cs (loop_at fs j) (omega (arith, h, e)) in
      let k : r.0 ≡ s.0 =
      sym (either_number d cs c r.0 (loop_at fs i) r.1 r.2) ∙ e ∙ either_number d cs c s.0 (loop_at fs j) s.1 s.2 in
      either_trans (either_sym r.2) (subst (λ (k : ℕ). Either (loop_at cs k) (loop_at fs j)) (sym k) s.2)

  numbered : ((i : ℕ) → i < length fs → NoCandidate d cs fs i → ⊥) → ((i : ℕ) → i < length fs → AnEarlierFace d cs fs i → ⊥) → Numbered cs fs
  numbered p q = record { known = known p; apart = λ i j hi hj e. go i j hi hj e (dec_lt i j) (dec_lt j i) }
    where
      go : (i j : ℕ) → i < length fs → j < length fs → number_in cs (loop_at fs i) ≡ number_in cs (loop_at fs j) → Dec (i < j) → Dec (j < i)
          → i ≡ j
      go i j hi hj e (yes l) b = absurd (q j hj (i, l, one-ring i j (known p i hi) e))
      go i j hi hj e (no l) (yes m) = absurd (q i hi (j, m, one-ring j i (known p j hj) (sym e)))
      go i j hi hj e (no l) (no m) = omega (arith, l, m)

  pub listed_once : ListedOnce d cs fs
  unfolding listed
  listed_once p q =
      let n = numbered p q in
      let names = numbered_names d cs c fs n in
      record { names = names; face = λ i h. (at i h names).0; ring = λ i h. (at i h names).1 }
    where
      -- the face that the list names at i is the candidate of its number
      at : (i : ℕ) → i < length fs → Names d cs (taken_of cs fs) (turned_of cs fs) fs
          → Face d cs (taken_of cs fs) (turned_of cs fs) (candidate_at d cs fs i)
          × SameRing (directed d cs (taken_of cs fs) (turned_of cs fs) (candidate_at d cs fs i)) (loop_at fs i)
      at i h n =
          let r = n.each i h in
          let e : r.0 ≡ candidate_at d cs fs i = sym (number_of_lem cs fs i h ∙ (ring-number d cs c (taken_of cs fs) (turned_of cs fs) r.0 (loop_at fs i)
          (taken_yes cs fs r.0 r.1).0 r.2).0) in
          subst (λ (k : ℕ). Face d cs (taken_of cs fs) (turned_of cs fs) k
          × SameRing (directed d cs (taken_of cs fs) (turned_of cs fs) k) (loop_at fs i)) e (r.1, r.2)

pub listed_names : (x : Input) → Passes x → (fs : List Loop) → ListedOnce (drawing x) (candidates_of x) fs
listed_names x p fs = listed_once (drawing x) (candidates_of x) fs (drawing-fits (drawing x) (drawing-fine x p))
