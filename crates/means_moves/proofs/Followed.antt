-- Conversion of a drawing that was moved: the same answer and faces, and the solids moved.
use mathlib.Core.Path.{◌≡◌, refl, sym, ap, ap₂, ◌∙◌, subst}
use mathlib.Core.Bool.{Bool, true, false, cond, true≢false}
use mathlib.Core.Logic.{◌⊎◌, inl, inr}
use mathlib.Core.List.{List, [], ◌∷◌, ◌++◌, map, flat_map}
use Prim.Native.Nat.{ℕ, ◌*◌}
use lib.IntN.{nat_abs}
use lib.ListN.{length, drop, replicate, length-map}
use Rattle.lists.specs.Lists.{filter, keep}
use Rattle.sets.specs.Word.{less}
use Rattle.paper.specs.Record.{set_of, entry}
use Rattle.paper.specs.Numbers.{solid_words, Limits, set_words}
use Rattle.paper.specs.Refusals as No
use Rattle.paper.specs.Refusals.{value_of, Check, first_of, Answer, Fine}
use Rattle.paper.specs.Drawing.{Wire, drawing_checks}
use Rattle.paper.specs.Loops.{Loop, loops, uncovering, loop_checks}
use Rattle.paper.specs.Solids.{Tables, Judgement, tables_of, judged}
use Rattle.paper.specs.Walk.{Status, Undecided, Log, search}
use Rattle.paper.specs.Conversion.{
  Converted,
  takens,
  is_solid,
  turned_of,
  six_of,
  accepted,
  words,
  solids_after,
  reported,
  concluded,
  entry_checks,
  or_convert,
  conversion,
}
use Rattle.std.specs.Prelude.{Ok, Err}
use Rattle.paper.specs.declared.Conversion.TheVariants as Conversion
use Rattle.means_walk.specs.Tree.{Tree, leaves}
use Rattle.means_walk.proofs.Grown.{tree}
use Rattle.means_walk.proofs.Ends.{ends, ended_whole}
use Rattle.means_report.specs.Listed.{words_of, entry_of}
use Rattle.means_report.specs.Report.{solids_for}
use Rattle.means_report.proofs.Report.{solids_told}
use Rattle.means_moves.specs.Moves.{Move}
use Rattle.means_moves.specs.Alike.{Alike, EndsBelow}
use Rattle.means_moves.specs.Turned.{turns_by, carried, Judged, fail, solid, FollowsMoved}
use Rattle.paper_laws.proofs.Record.{same_set}
use Rattle.paper_laws.proofs.Behind.{or_else, else_same, first_fine, second-fine}
use Rattle.means_moves.proofs.Alike.{checks_same, loops-same}
use Rattle.means_moves.proofs.Moved.{moved_alike}
use Rattle.means_moves.proofs.Passed.{bare_same, masks, judges}
use Rattle.means_moves.proofs.Checks.{checks_of, parts, fine-form, fine-drawing}

-- no solid at all: the rooms stay
none_for : (solids : List ℕ) → solids ≡ solids_for solids []
unfolding solids_for flat_map
none_for solids = refl

-- ---- what two tables make of one selection

module _ (turns : Bool) (by : ℕ) where
  judged-solid : {taken : List Bool} {j k : Judgement} → Judged turns by taken j k → is_solid k ≡ is_solid j
  judged-solid fail = refl
  judged-solid (solid ts us six h) = refl

  judged_six : {taken : List Bool} {j k : Judgement} → Judged turns by taken j k → is_solid j ≡ true → six_of k ≡ by * six_of j
  judged_six fail e = absurd (true≢false (sym e))
  judged_six (solid ts us six h) e = refl

  judged_set : {taken : List Bool} {j k : Judgement} → Judged turns by taken j k → is_solid j ≡ true
      → set_of set_words (turned_of k) ≡ set_of set_words (cond turns (less taken (turned_of j)) (turned_of j))
  judged_set fail e = absurd (true≢false (sym e))
  judged_set {taken} (solid ts us six h) e = same_set set_words us (cond turns (less taken ts) ts) h

  module _ (t u : Tables) (other : (taken : List Bool) → Judged turns by taken (judged t taken) (judged u taken)) where
    accepted-other : accepted u ≡ accepted t
    unfolding accepted
    accepted-other = λ i. λ st. judged-solid (other (takens st)) i

    -- every solid of a list is one
    abbrev Good : List (List Status) → Type 0
    Good [] = Unit {0}
    Good (st ∷ found) = (is_solid (judged t (takens st)) ≡ true) × Good found

    filter_good : (l : List (List Status)) → Good (filter (accepted t) l)
    unfolding filter
    filter_good [] = tt
    filter_good (st ∷ l) = go (accepted t st) refl (filter_good l)
      where
        go : (b : Bool) → accepted t st ≡ b → Good (filter (accepted t) l) → Good (keep b st (filter (accepted t) l))
        go true e r = unfold keep accepted in (e, r)
        go false e r = unfold keep in r

    rows_other : (l : List (List Status)) → Good l → flat_map (words u) l ≡ flat_map words_of (map (carried turns by) (map (entry_of t) l))
    unfolding flat_map words entry
    rows_other [] g = refl
    rows_other (st ∷ l) g =
        λ i. (set_of set_words (takens st) ++ judged_set (other (takens st)) g.0 i ++ (judged_six (other (takens st)) g.0 i ∷ []))
        ++ rows_other l g.1 i

    after-other : (l : List (List Status)) → Good l → (room : List ℕ)
        → solids_after u l room ≡ solids_for room (map (carried turns by) (map (entry_of t) l))
    unfolding solids_after solids_for
    after-other l g room =
        ap₂ (λ (a : List ℕ) (n : ℕ). a ++ drop (solid_words * n) room) (rows_other l g)
        (sym (length-map (map (entry_of t) l) (carried turns by) ∙ length-map l (entry_of t)))

    reported-other : (l : ℕ) (cs : List Loop) (work : ℕ) (found : List (List Status)) (faces solids : List ℕ) → Good found
        → FollowsMoved turns by solids (reported l cs t work found faces solids) (reported l cs u work found faces solids)
    unfolding reported
    reported-other l cs work [] faces solids g =
        record { answers = refl; rows = refl; es = []; count = refl; words = none_for solids; moved = none_for solids }
    reported-other l cs work (st ∷ []) faces solids g = record {
      answers = ap (Conversion.One l (length cs) work) (judged_six (other (takens st)) g.0);
      rows = refl;
      es = map (entry_of t) (st ∷ []);
      count = refl;
      words = solids_told t (st ∷ []) solids;
      moved = after-other (st ∷ []) g solids;
    }
    reported-other l cs work (st ∷ (st' ∷ found)) faces solids g = record {
      answers = refl;
      rows = refl;
      es = map (entry_of t) (st ∷ (st' ∷ found));
      count = length-map (st ∷ (st' ∷ found)) (entry_of t);
      words = solids_told t (st ∷ (st' ∷ found)) solids;
      moved = after-other (st ∷ (st' ∷ found)) g solids;
    }

    concluded-other : (l : ℕ) (cs : List Loop) (log : Log) (faces solids : List ℕ) → (log.ended ≡ 0 → Good log.found)
        → (log.ended ≡ 0) ⊎ ((log.ended ≡ value_of No.Many) ⊎ (log.ended ≡ value_of No.TooLong))
        → FollowsMoved turns by solids (concluded l cs t log faces solids) (concluded l cs u log faces solids)
    unfolding concluded
    concluded-other l cs log faces solids g (inl e) = rw e (reported-other l cs log.work log.found faces solids (g e))
    concluded-other l cs log faces solids g (inr (inl e)) =
        rw e (record { answers = refl; rows = refl; es = []; count = refl; words = none_for solids; moved = none_for solids })
    concluded-other l cs log faces solids g (inr (inr e)) =
        rw e (record { answers = refl; rows = refl; es = []; count = refl; words = none_for solids; moved = none_for solids })

  convert_other : (a : Answer) (faces solids : List ℕ) (x y : Converted) → (Fine ≡ a → FollowsMoved turns by solids x y)
      → FollowsMoved turns by solids (or_convert a faces solids x) (or_convert a faces solids y)
  convert_other (Ok _) faces solids x y h = h refl
  convert_other (Err r) faces solids x y h =
      record { answers = refl; rows = refl; es = []; count = refl; words = none_for solids; moved = none_for solids }

-- ---- a moved drawing

module _ (m : Move) (d e : Wire) (points : e.vertices ≡ map m.to d.vertices) (edges : e.edges ≡ d.edges) (most : Limits) (limit : ℕ)
    (faces solids : List ℕ) (form form' : List Check) (forms : first_of form' ≡ first_of form)
    (ok : Fine ≡ first_of form → EndsBelow d) where
  abbrev alike : Alike d e
  alike = moved_alike m d e points edges

  abbrev cs : List Loop
  cs = uncovering d (loops d)

  abbrev turns : Bool
  turns = turns_by m.sides_by

  abbrev by : ℕ
  by = nat_abs m.sides_by

  -- 3 to 10 answer alike; where they pass, 9 has seen to the ends of the edges, and where 11 to 14 pass, there are the same candidates
  answer-same : first_of (checks_of most limit faces solids form' e) ≡ first_of (checks_of most limit faces solids form d)
  answer-same =
      parts most limit faces solids form' e
      ∙ ap (λ (a : Answer). or_else (or_else (or_else entry a) (first_of (drawing_checks e)))
      (first_of (loop_checks most (loops e) (uncovering e (loops e))))) forms
      ∙ ap (λ (a : Answer). or_else a (first_of (loop_checks most (loops e) (uncovering e (loops e)))))
      (else_same (or_else entry (first_of form)) (first_of (drawing_checks e)) (first_of (drawing_checks d))
      (λ p. ap first_of (checks_same d e alike (ok (second-fine entry (first_of form) p)))))
      ∙ else_same (or_else (or_else entry (first_of form)) (first_of (drawing_checks d)))
      (first_of (loop_checks most (loops e) (uncovering e (loops e))))
      (first_of (loop_checks most (loops d) cs))
      (λ p. ap₂ (λ (ls ks : List Loop). first_of (loop_checks most ls ks)) (loops-same d e alike)
      (bare_same m d e points edges (ok (second-fine entry (first_of form)
      (first_fine (or_else entry (first_of form)) (first_of (drawing_checks d)) p)))
      (second-fine (or_else entry (first_of form)) (first_of (drawing_checks d)) p)))
      ∙ sym (parts most limit faces solids form d)
    where
      entry : Answer
      entry = first_of (entry_checks limit faces solids)

  abbrev under : Wire → List Loop → Converted
  under x ks =
      concluded (length (loops x)) ks (tables_of x ks) (search most.solids (accepted (tables_of x ks)) limit (length ks) (tables_of x ks).masks)
      faces solids

  module _ (ends-ok : EndsBelow d) (pass : Fine ≡ first_of (drawing_checks d)) where
    abbrev log : Log
    log = search most.solids (accepted (tables_of d cs)) limit (length cs) (tables_of d cs).masks

    abbrev other : (taken : List Bool) → Judged turns by taken (judged (tables_of d cs) taken) (judged (tables_of e cs) taken)
    other = judges m d e points edges ends-ok pass

    walked : Tree (tables_of d cs).masks (replicate (length cs) Undecided)
    walked = tree (tables_of d cs).masks (replicate (length cs) Undecided)

    by_tables : FollowsMoved turns by solids (under d cs) (concluded (length (loops d)) cs (tables_of e cs) log faces solids)
    by_tables =
        concluded-other turns by (tables_of d cs) (tables_of e cs) other (length (loops d)) cs log faces solids
        (λ z. subst (Good turns by (tables_of d cs) (tables_of e cs) other)
        (sym (ended_whole (accepted (tables_of d cs)) (length cs) (tables_of d cs).masks walked most.solids limit z).found)
        (filter_good turns by (tables_of d cs) (tables_of e cs) other (leaves walked)))
        (ends (accepted (tables_of d cs)) (length cs) (tables_of d cs).masks walked most.solids limit)

    -- with its own loops, candidates and tables
    own : under e (uncovering e (loops e)) ≡ concluded (length (loops d)) cs (tables_of e cs) log faces solids
    own =
        ap (under e) (bare_same m d e points edges ends-ok pass)
        ∙ (λ i. concluded (length (loops-same d e alike i)) cs (tables_of e cs)
        (search most.solids (accepted-other turns by (tables_of d cs) (tables_of e cs) other i) limit (length cs)
        (masks m d e points edges ends-ok pass i)) faces
        solids)

    followed : FollowsMoved turns by solids (under d cs) (under e (uncovering e (loops e)))
    followed = subst (FollowsMoved turns by solids (under d cs)) (sym own) by_tables

  pub conversion_moved : FollowsMoved turns by solids (conversion most form d limit faces solids) (conversion most form' e limit faces solids)
  unfolding conversion
  conversion_moved =
      subst (λ (a : Answer). FollowsMoved turns by solids (or_convert (first_of (checks_of most limit faces solids form d)) faces solids (under d cs))
      (or_convert a faces solids (under e (uncovering e (loops e))))) (sym answer-same)
      (convert_other turns by (first_of (checks_of most limit faces solids form d)) faces solids (under d cs) (under e (uncovering e (loops e)))
      (λ p. followed (ok (fine-form most limit faces solids form d p)) (fine-drawing most limit faces solids form d p)))
