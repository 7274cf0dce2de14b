-- What the two passes answer, said of all faces and candidates that the rows hold: 21, then 22, or the selection.
use Rattle.std.specs.Prelude.{Ok, Err}
use mathlib.Core.Path.{◌≡◌, sym, ap, subst, ◌∙◌}
use mathlib.Core.List.{List, []}
use mathlib.Core.Option.{none}
use Prim.Native.Nat.{ℕ, ◌<◌}
use native.Mathlib.Omega.{arith}
use lib.Dec.{leb}
use lib.ListN.{length, get_or, take}
use lib.Seq.{get_or-take}
use borrow.Author.Tests.{leb-false}
use Rattle.lists.proofs.Lowest.{lowest-none}
use Rattle.sets.specs.Sets.{wides, Wide}
use Rattle.paper.specs.Refusals as No
use Rattle.paper.specs.Loops.{Loop}
use Rattle.paper.specs.Verdict.{mask_of, listed, not_candidate, face_twice}
use Rattle.paper_laws.proofs.Checks.{clear, stops, passes}
use Rattle.verdict_faces.specs.Form.{rows_in}
use Rattle.verdict_faces.specs.Named.{Naming, HoldsTable, NamedIs}
use Rattle.verdict_faces.specs.Passes.{numbers_of, turned_faces, AllNumbered, Numbering, Takes, TakenAs}
use Rattle.verdict_faces.proofs.Passing.{numbers_long}
use Rattle.verdict_faces.proofs.Held.{rows_held}

-- ---- what is said of the rows is said of what they hold

module _ {faces rows : List ℕ} {count n : ℕ} {fs cs : List Loop} (hf : HoldsTable faces count fs) (hc : HoldsTable rows n cs) where
  numbers-held : numbers_of (rows_in rows n) (rows_in faces count) ≡ (listed cs fs).numbers
  unfolding listed
  numbers-held = λ i. numbers_of (rows_held hc i) (rows_held hf i)

  unknown-held : not_candidate n (numbers_of (rows_in rows n) (rows_in faces count)) ≡ not_candidate (length cs) (listed cs fs).numbers
  unknown-held = λ i. not_candidate (sym hc.count i) (numbers-held i)

  taken-held : mask_of n (listed cs fs).numbers ≡ (listed cs fs).taken
  unfolding listed
  taken-held = ap (λ (m : ℕ). mask_of m (listed cs fs).numbers) (sym hc.count)

  turned-held : turned_faces n (rows_in rows n) (rows_in faces count) ≡ (listed cs fs).turned
  unfolding listed
  turned-held = λ i. turned_faces (sym hc.count i) (rows_held hc i) (rows_held hf i)

-- ---- the answers

module _ {faces rows numbers₀ numbers : List ℕ} {count n : ℕ} where
  -- some face is no candidate
  pub answer-21 : {i : ℕ} → Numbering faces count rows n numbers₀ numbers (Err i)
      → NamedIs faces count rows n numbers₀ numbers (Err (record { number = No.NotCandidate; place = i }))
  answer-21 p = record {
    long = p.long;
    same = λ fs cs hf hc. stops No.NotCandidate _ (sym p.said ∙ unknown-held hf hc);
  }

  -- all are
  module _ (q : Naming faces count rows n numbers₀) {turned : Wide} (p : Numbering faces count rows n numbers₀ numbers (Ok turned)) where
    all : AllNumbered (rows_in faces count) (rows_in rows n) count n numbers turned
    all = p.said

    below : (i : ℕ) → i < count → get_or numbers i 0 < n
    unfolding not_candidate
    below i h =
        let ks = numbers_of (rows_in rows n) (rows_in faces count) in
        let l = numbers_long faces count rows n in
        let u = lowest-none (λ j. leb n (get_or ks j 0)) (length ks) all.known i (omega arith) in
        omega (
          arith,
          leb-false n (get_or ks i 0) u,
          sym (get_or-take count numbers i 0 h) ∙ ap (λ (x : List ℕ). get_or x i 0) all.numbers_are,
        )

    pub all_taken : Takes numbers count
    all_taken = record {
      few = q.few;
      long = p.long ∙ q.numbers_long;
      below = λ i h. omega (arith, below i h, q.few_candidates);
    }

    module _ {fs cs : List Loop} (hf : HoldsTable faces count fs) (hc : HoldsTable rows n cs) where
      numbers_are : take count numbers ≡ (listed cs fs).numbers
      numbers_are = all.numbers_are ∙ numbers-held hf hc

      past-21 : none ≡ not_candidate (length cs) (listed cs fs).numbers
      past-21 = sym all.known ∙ unknown-held hf hc

    -- a face is there twice
    pub answer-22 : {i : ℕ} → TakenAs numbers count (Err i)
        → NamedIs faces count rows n numbers₀ numbers (Err (record { number = No.FaceTwice; place = i }))
    answer-22 t = record {
      long = p.long;
      same = λ fs cs hf hc.
          stops No.FaceTwice [] (sym t ∙ ap face_twice (numbers_are hf hc)) ∙ passes No.NotCandidate _ (past-21 hf hc);
    }

    -- none is
    pub answer-are : {taken : Wide} → TakenAs numbers count (Ok taken)
        → NamedIs faces count rows n numbers₀ numbers (Ok (record { taken = taken; turned = turned }))
    answer-are {taken} t = record {
      long = p.long;
      same = λ fs cs hf hc. record {
        fine =
            clear ∙ passes No.FaceTwice [] (sym t.once ∙ ap face_twice (numbers_are hf hc)) ∙ passes No.NotCandidate _ (past-21 hf hc);
        numbers_are = numbers_are hf hc;
        taken_is = subst (wides.Is taken) (ap (mask_of n) (numbers_are hf hc) ∙ taken-held hf hc) (t.taken_is n q.few_candidates below);
        turned_is = subst (wides.Is turned) (turned-held hf hc) all.turned_is;
      };
    }
