-- Demand 2 holds.
use mathlib.Core.Path.{◌≡◌, refl, sym, subst, ◌∙◌}
use mathlib.Core.List.{List}
use Prim.Native.Nat.{ℕ, ◌<◌}
use native.Mathlib.Omega.{arith}
use lib.ListN.{length}
use Rattle.paper.specs.Loops.{loop_at, loops, candidates}
use Rattle.paper.specs.Solids.{tables_of}
use Rattle.paper.specs.Conversion.{Converted}
use Rattle.paper.specs.Refusals.{Fine}
use Rattle.paper.specs.declared.Conversion.{Conversion}
use Rattle.paper.specs.declared.Conversion.TheVariants.{One, Several, NoSolid, Many, TooLong}
use Rattle.means_walk.specs.Tree.{assumptions}
use Rattle.means_walk.proofs.Grown.{one-walk}
use Rattle.means_report.specs.Listed.{WalkTree}
use Rattle.means_report.proofs.Report.{Sound, conversion_sound}
use Rattle.means_report.proofs.Demand.{all_listed, says_none, says_many, says_long}
use Rattle.means_report.proofs.Converted.{the_walk, no_ninth, tells_few, tells_many, tells_long, none_says}
use Rattle.means_loops.specs.Loop.{IsCandidate}
use Rattle.means_loops.proofs.Listing.{candidates_are, candidates-all, candidates_ascend}
use Rattle.means_report.specs.Report.{solid_count}
use Rattle.demands.specs.Input.{Input, drawing, candidates_of, form, Passes, converted}
use Rattle.demands.specs.Table.{end, rooms_and_limit, forms, drawings, of_conversion}
use Rattle.demands.specs.Faces.{Candidates}
use Rattle.demands.specs.Cover.{CandidateOf}
use Rattle.demands.specs.Walk.{solids_of, Allowed}
use Rattle.demands.specs.Demand2.{Demand2, Holds2}
use Rattle.means_check.proofs.Demand.{drawing_places}
use Rattle.demands.proofs.Solid.{in_words, of_words, every-words, candidate_words, words_candidate}
use Rattle.demands.proofs.Walk.{walk-words}
use Rattle.demands.proofs.Demand1.{demand1, passes}
use Rattle.demands.proofs.Input.{converted_is, drawing-fine, unrefused}

ap₃ : (f : ℕ → ℕ → ℕ → Conversion) {a b c a' b' c' : ℕ} → a ≡ a' → b ≡ b' → c ≡ c' → f a b c ≡ f a' b' c'
ap₃ f p q r = cc

module _ (x : Input) (p : Passes x) (t : WalkTree (drawing x) (candidates_of x)) (limit : ℕ) (room solids : List ℕ)
    (a : Allowed limit room solids) where
  told : (r : Converted) → Sound (drawing x) t limit room solids r → Demand2 x t limit room solids r
  told r s = record {
    every = every-words (drawing x) (solids_of x t) (all_listed (drawing x) t limit room solids r s);
    answer = λ u. (tells_few (drawing x) t limit room solids r s.tells u.1 u.0).answer;
    rows = λ u. (tells_few (drawing x) t limit room solids r s.tells u.1 u.0).faces_left;
    words = λ u. (tells_few (drawing x) t limit room solids r s.tells u.1 u.0).solids_left;
    none =
        λ w. (
          λ e taken turned six y. (says_none (drawing x) t limit room solids r s e.3).none taken turned six (of_words (drawing x) y),
          λ n. (
            length (loops (drawing x)),
            length (candidates_of x),
            assumptions t,
            none_says (drawing x) t limit room solids r s (λ taken turned six y. n taken turned six (in_words (drawing x) y)) w,
          ),
        );
    many =
        λ l c work. (
          λ e. let m = says_many (drawing x) t limit room solids r s e in (m.nine, omega (arith, m.within, m.works), m.counts, m.works),
          λ h. (tells_many (drawing x) t limit room solids r s.tells h.0 h.1).answer
              ∙ ap₃ Many (sym h.2.0) (sym h.2.1) (sym h.3),
        );
    long =
        λ l c work. (
          λ e. let m = says_long (drawing x) t limit room solids r s e in (m.long, m.counts, m.works),
          λ h. (tells_long (drawing x) t limit room solids r s.tells h.0).answer
              ∙ ap₃ TooLong (sym h.1.0) (sym h.1.1) (sym h.2),
        );
    whole = no_ninth (drawing x) t;
  }

  pub holds2 : Demand2 x t limit room solids (converted x limit room solids)
  holds2 =
      told (converted x limit room solids)
      (subst (Sound (drawing x) t limit room solids) (sym (converted_is x limit room solids))
      (conversion_sound (drawing x) t limit room solids (form x) (unrefused x p limit room solids a)))

pub faces : (x : Input) → Candidates x
faces x = record {
  in_words = λ p q.
      let apart = drawing_places (drawing x) (drawing-fine x p) in (
        λ c. candidates-all (drawing x) q (words_candidate (drawing x) apart q c),
        λ r. subst (CandidateOf (drawing x)) r.2
            (candidate_words (drawing x) apart (loop_at (candidates (drawing x)) r.0) (candidates_are (drawing x) r.0 r.1)),
      );
  candidates = λ q. (
    candidates-all (drawing x) q,
    λ r. subst (IsCandidate (drawing x)) r.2 (candidates_are (drawing x) r.0 r.1),
  );
  in_order = candidates_ascend (drawing x);
}

-- ---- what comes with a report

fine_report : (a : Conversion) → 0 < solid_count a → of_conversion a ≡ Fine
fine_report (One l c work six) h = refl
fine_report (Several l c work n) h = refl
fine_report (NoSolid l c work) h = refl
fine_report (Many l c work) h = refl
fine_report (TooLong l c work) h = refl
fine_report (Conversion.Refused r) h = absurd (omega (arith, h))

-- 1 and 2 don't offend
report_allowed : (x : Input) (limit : ℕ) (room solids : List ℕ) → 0 < solid_count (converted x limit room solids).answer
    → Allowed limit room solids
report_allowed x limit room solids h =
    let lines = subst (rooms_and_limit limit room solids (forms x (drawings (drawing x) end))) (fine_report (converted x limit room solids).answer h)
    (demand1.converts x limit room solids).1 in
    (omega (arith, lines.0 0 (omega arith)), omega (arith, lines.0 1 (omega arith)), omega (arith, lines.1.0 0 (omega arith)))

report_passes : (x : Input) (limit : ℕ) (room solids : List ℕ) → 0 < solid_count (converted x limit room solids).answer → Passes x
report_passes x limit room solids h =
    passes x limit room solids (subst (λ (c : Converted). 0 < solid_count c.answer) (converted_is x limit room solids) h)

pub demand2 : (x : Input) → Holds2 x
demand2 x = record {
  walk = the_walk (drawing x);
  no_other = one-walk (tables_of (drawing x) (candidates (drawing x))).masks;
  in_words = walk-words x;
  reports = λ limit room solids h. (report_passes x limit room solids h, report_allowed x limit room solids h);
  holds = λ p t limit room solids a. holds2 x p t limit room solids a;
}
