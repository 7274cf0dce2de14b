-- The check of a face list, of a drawing that was moved: the same verdict, and where the move mirrors, the same on a list with every face
-- turned round.
use mathlib.Core.Path.{◌≡◌, refl, sym, ap, ap₂, ◌∙◌}
use mathlib.Core.Bool.{Bool, true, false, not, true≢false}
use mathlib.Core.Option.{none}
use mathlib.Core.List.{List, [], ◌∷◌, ◌++◌, map}
use Prim.Native.Nat.{ℕ, zero, suc}
use native.Mathlib.Omega.{arith}
use borrow.Author.Tests.{not-false}
use lib.IntN.{ℤ, pos, negsuc, neg_ℤ, ◌*ℤ◌}
use lib.ListN.{length, get_or}
use Rattle.lists.proofs.Lowest.{lowest-none}
use Rattle.paper.specs.Refusals as No
use Rattle.paper.specs.Numbers.{documented}
use Rattle.paper.specs.Refusals.{Check, check, first_of, offends, Answer, Fine}
use Rattle.paper.specs.Points.{above}
use Rattle.paper.specs.Format.{edition_for}
use Rattle.paper.specs.FaceList.{faces_in, well_shaped}
use Rattle.paper.specs.Drawing.{Wire, drawing_checks}
use Rattle.paper.specs.Loops.{Loop, loops, uncovering, candidates, loop_checks}
use Rattle.paper.specs.Solids.{once_each_way, six_from, tables_of}
use Rattle.paper.specs.Verdict.{listed, mask_of, direction, face_checks, verdict_for, verdict, list_edition}
use Rattle.paper.specs.declared.Format.{Format}
use Rattle.means_area.specs.Flats.{Up}
use Rattle.means_leaf.proofs.Solids.{turned_opposite}
use Rattle.means_check.specs.Candidates.{ProperCandidates}
use Rattle.means_check.proofs.Numbered.{numbers_of, taken_of, turned_of, numbered}
use Rattle.means_check.proofs.Demand.{drawing-fits}
use Rattle.means_moves.specs.Moves.{Move}
use Rattle.means_moves.specs.Alike.{Alike, EndsBelow}
use Rattle.means_moves.specs.Turned.{turns_by}
use Rattle.means_moves.specs.TurnedRound.{AllTurned}
use Rattle.paper_laws.proofs.Behind.{or_else, first_append, else_same, first_fine, second-fine}
use Rattle.exact.proofs.Order.{whole_pos}
use Rattle.paper_laws.proofs.Factors.{above-times}
use Rattle.means_moves.proofs.Alike.{checks_same, loops-same}
use Rattle.means_moves.proofs.Moved.{moved_alike}
use Rattle.means_moves.proofs.Passed.{bare_same, masks, ups, clashes, six_kept}
use Rattle.means_moves.proofs.TurnedRound.{numbers_round, turned_round, faces-round, faces_kept, above_back}

module _ (m : Move) (d e : Wire) (points : e.vertices ≡ map m.to d.vertices) (edges : e.edges ≡ d.edges) (form form' : List Check)
    (forms : first_of form' ≡ first_of form) (ok : Fine ≡ first_of form → EndsBelow d) (list list' : List ℕ) where
  abbrev alike : Alike d e
  alike = moved_alike m d e points edges

  abbrev cs : List Loop
  cs = uncovering d (loops d)

  -- both drawings have face lists of one edition
  abbrev f : Format
  f = list_edition d

  edition_same : list_edition e ≡ f
  edition_same = ap₂ edition_for alike.as_many (ap length edges)

  -- 20 to 27
  abbrev last : Format → Wire → ℕ → List Loop → List ℕ → List Check
  last g x n ks l = check No.ShellShape (offends (not (well_shaped g n l)) 0) ∷ face_checks (tables_of x ks) (length ks) (listed ks (faces_in g l))

  parts : (g : Format) (own : List Check) (x : Wire) (n : ℕ) (ls ks : List Loop) (l : List ℕ)
      → first_of (own ++ drawing_checks x ++ loop_checks documented ls ks ++ last g x n ks l)
      ≡ or_else (or_else (or_else (first_of own) (first_of (drawing_checks x))) (first_of (loop_checks documented ls ks))) (first_of (last g x n ks l))
  parts g own x n ls ks l =
      first_append (own ++ drawing_checks x ++ loop_checks documented ls ks) (last g x n ks l)
      ∙ ap (λ (a : Answer). or_else a (first_of (last g x n ks l)))
      (first_append (own ++ drawing_checks x) (loop_checks documented ls ks)
      ∙ ap (λ (a : Answer). or_else a (first_of (loop_checks documented ls ks))) (first_append own (drawing_checks x)))

  -- it is enough that 20 to 27 say the same where 3 to 14 pass
  by_last : (EndsBelow d → Fine ≡ first_of (drawing_checks d)
      → first_of (last f e (length d.vertices) cs list') ≡ first_of (last f d (length d.vertices) cs list))
      → verdict form' e list' ≡ verdict form d list
  unfolding verdict
  by_last rest =
      ap verdict_for
      (parts (list_edition e) form' e (length e.vertices) (loops e) (uncovering e (loops e)) list'
      ∙ (λ i. or_else (or_else (or_else (forms i) D') L') T')
      ∙ ap (λ (a : Answer). or_else (or_else a L') T') (else_same F D' D (λ p. ap first_of (checks_same d e alike (ok p))))
      ∙ ap (λ (a : Answer). or_else a T')
      (else_same (or_else F D) L' L
      (λ p. ap₂ (λ (ls ks : List Loop). first_of (loop_checks documented ls ks)) (loops-same d e alike) (bare p)))
      ∙ else_same (or_else (or_else F D) L) T' T
      (λ p. let q = first_fine (or_else F D) L p in
      (λ i. first_of (last (edition_same i) e (alike.as_many i) (bare q i) list'))
      ∙ rest (ok (first_fine F D q)) (second-fine F D q))
      ∙ sym (parts f form d (length d.vertices) (loops d) cs list))
    where
      F : Answer
      F = first_of form

      D : Answer
      D = first_of (drawing_checks d)

      D' : Answer
      D' = first_of (drawing_checks e)

      L : Answer
      L = first_of (loop_checks documented (loops d) cs)

      L' : Answer
      L' = first_of (loop_checks documented (loops e) (uncovering e (loops e)))

      T : Answer
      T = first_of (last f d (length d.vertices) cs list)

      T' : Answer
      T' = first_of (last (list_edition e) e (length e.vertices) (uncovering e (loops e)) list')

      bare : Fine ≡ or_else F D → uncovering e (loops e) ≡ cs
      bare q = bare_same m d e points edges (ok (first_fine F D q)) (second-fine F D q)

  -- behind 20
  by_faces : well_shaped f (length d.vertices) list' ≡ well_shaped f (length d.vertices) list
      → first_of (face_checks (tables_of e cs) (length cs) (listed cs (faces_in f list')))
      ≡ first_of (face_checks (tables_of d cs) (length cs) (listed cs (faces_in f list)))
      → first_of (last f e (length d.vertices) cs list') ≡ first_of (last f d (length d.vertices) cs list)
  by_faces shape faces =
      first_append (check No.ShellShape (offends (not (well_shaped f (length d.vertices) list')) 0) ∷ [])
      (face_checks (tables_of e cs) (length cs) (listed cs (faces_in f list')))
      ∙ (λ i. or_else (first_of (check No.ShellShape (offends (not (shape i)) 0) ∷ [])) (faces i))
      ∙ sym (first_append (check No.ShellShape (offends (not (well_shaped f (length d.vertices) list)) 0) ∷ [])
      (face_checks (tables_of d cs) (length cs) (listed cs (faces_in f list))))

  module _ (ends : EndsBelow d) (pass : Fine ≡ first_of (drawing_checks d)) where
    -- where 24 passes, each edge is run once each way
    six_by : (taken turned : List Bool) → direction (tables_of d cs) taken turned ≡ none
        → six_from 0 (tables_of e cs).sixes taken turned ≡ m.sides_by *ℤ six_from 0 (tables_of d cs).sixes taken turned
    unfolding direction
    six_by taken turned q =
        six_kept m d e points edges ends pass taken turned
        (λ j h. not-false (once_each_way (get_or (tables_of d cs).masks j []) (get_or (tables_of d cs).ups j []) taken turned)
        (lowest-none (λ k. not (once_each_way (get_or (tables_of d cs).masks k []) (get_or (tables_of d cs).ups k []) taken turned))
        (length (tables_of d cs).masks) q j h))

  -- ---- a move that does not mirror

  pub verdict_kept : turns_by m.sides_by ≡ false → list' ≡ list → verdict form' e list' ≡ verdict form d list
  verdict_kept t same =
      by_last
      (λ ends pass. by_faces (ap (well_shaped f (length d.vertices)) same)
      (ap (λ (l : List ℕ). first_of (face_checks (tables_of e cs) (length cs) (listed cs (faces_in f l)))) same
      ∙ faces_kept (tables_of d cs) (tables_of e cs) (masks m d e points edges ends pass) (ups m d e points edges ends pass)
      (clashes m d e points edges ends pass) (length cs) (listed cs (faces_in f list))
      (λ q. ap above (six_by ends pass _ _ q) ∙ above-times m.sides_by (up m.sides_by t m.sides_real) _)))
    where
      up : (z : ℤ) → turns_by z ≡ false → (z ≡ pos 0 → ⊥) → Up z
      up (pos zero) t h = absurd (h refl)
      up (pos (suc n)) t h = whole_pos (suc n) (omega arith)
      up (negsuc n) t h = absurd (true≢false t)

  -- ---- a move that mirrors

  pub verdict-round : turns_by m.sides_by ≡ true
      → well_shaped f (length d.vertices) list' ≡ well_shaped f (length d.vertices) list
      → AllTurned (faces_in f list) (faces_in f list') → verdict form' e list' ≡ verdict form d list
  verdict-round t shape turned = by_last (λ ends pass. by_faces shape (faces ends pass))
    where
      fs : List Loop
      fs = faces_in f list

      gs : List Loop
      gs = faces_in f list'

      back : (c z y : ℤ) → turns_by c ≡ true → y ≡ c *ℤ z → above (neg_ℤ y) ≡ above z
      back (pos n) z y t p = absurd (true≢false (sym t))
      back (negsuc n) z y t p = ap (λ (x : ℤ). above (neg_ℤ x)) p ∙ above_back n z

      faces : EndsBelow d → Fine ≡ first_of (drawing_checks d)
          → first_of (face_checks (tables_of e cs) (length cs) (listed cs gs)) ≡ first_of
          (face_checks (tables_of d cs) (length cs) (listed cs fs))
      faces ends pass =
          unfold candidates listed in
          let c : ProperCandidates d cs = drawing-fits d pass in
          let numbers : numbers_of cs gs ≡ numbers_of cs fs = numbers_round d cs c fs gs turned in
          faces-round (tables_of d cs) (tables_of e cs) (masks m d e points edges ends pass) (ups m d e points edges ends pass)
          (clashes m d e points edges ends pass) (length cs) (listed cs fs) (listed cs gs) numbers (ap (mask_of (length cs)) numbers)
          (λ a b k h. turned_round d cs c fs gs turned (numbered cs fs a b) k ∙ turned_opposite (taken_of cs fs) (turned_of cs fs) k h)
          (λ q. back m.sides_by (six_from 0 (tables_of d cs).sixes (taken_of cs fs) (turned_of cs fs))
          (six_from 0 (tables_of e cs).sixes (taken_of cs fs) (turned_of cs fs)) t (six_by ends pass (taken_of cs fs) (turned_of cs fs) q))
