-- What a conversion answers does not go by what its rooms hold, once they are large enough.
use mathlib.Core.Bool.{Bool, true, false, cond}
use mathlib.Core.List.{List, [], ◌∷◌, ◌++◌}
use mathlib.Core.Path.{◌≡◌, refl, sym, ap, ◌∙◌, subst}
use Prim.Native.Nat.{ℕ, ◌≤◌}
use borrow.Author.Tests.{le-ltb}
use lib.Dec.{eqb, ltb}
use lib.ListN.{length}
use Rattle.paper.specs.Numbers.{most_work, face_room, solid_room, Limits}
use Rattle.paper.specs.Refusals as No
use Rattle.paper.specs.Refusals.{value_of, Check, check, offends, first_of, Answer, Reading}
use Rattle.paper.specs.Drawing.{Wire, drawing_checks}
use Rattle.paper.specs.Loops.{Loop, loops, uncovering, loop_checks}
use Rattle.paper.specs.Solids.{Tables, tables_of}
use Rattle.paper.specs.Walk.{Status, Log, search}
use Rattle.paper.specs.Conversion.{Converted, accepted, reported, concluded, entry_checks, or_convert, conversion}
use Rattle.paper.specs.Reading.{conversion_says, reading_of, reading_says}
use Rattle.std.specs.Prelude.{Ok, Err}
use Rattle.paper.specs.declared.Conversion.{Conversion}
use Rattle.paper.specs.declared.Conversion.TheVariants as Conversion
use Rattle.reading.specs.Exact.{Exactly}
use Rattle.reading.specs.Shown.{shown_of}
use Rattle.means_volume.specs.Bound.{ReadExactly}
use Rattle.assess.specs.Assessed.{Assessed}

module _ (faces solids faces' solids' : List ℕ) where
  reported-same : (l : ℕ) (cs : List Loop) (t : Tables) (work : ℕ) (found : List (List Status))
      → (reported l cs t work found faces solids).answer ≡ (reported l cs t work found faces' solids').answer
  unfolding reported
  reported-same l cs t work [] = refl
  reported-same l cs t work (st ∷ []) = refl
  reported-same l cs t work (st ∷ (st' ∷ found)) = refl

  concluded-same : (l : ℕ) (cs : List Loop) (t : Tables) (log : Log)
      → (concluded l cs t log faces solids).answer ≡ (concluded l cs t log faces' solids').answer
  unfolding concluded
  concluded-same l cs t log = go (eqb log.ended (value_of No.Many)) (eqb log.ended (value_of No.TooLong))
    where
      go : (a b : Bool)
          → (cond a (record { answer = Conversion.Many l (length cs) log.work; faces = faces; solids = solids })
          (cond b (record { answer = Conversion.TooLong l (length cs) log.work; faces = faces; solids = solids })
          (reported l cs t log.work log.found faces solids))).answer
          ≡ (cond a (record { answer = Conversion.Many l (length cs) log.work; faces = faces'; solids = solids' })
          (cond b (record { answer = Conversion.TooLong l (length cs) log.work; faces = faces'; solids = solids' })
          (reported l cs t log.work log.found faces' solids'))).answer
      go true b = refl
      go false true = refl
      go false false = reported-same l cs t log.work log.found

  or_same : (a : Answer) (c c' : Converted) → c.answer ≡ c'.answer
      → (or_convert a faces solids c).answer ≡ (or_convert a faces' solids' c').answer
  or_same (Ok _) c c' e = e
  or_same (Err r) c c' e = refl

  module _ (f : face_room ≤ length faces) (s : solid_room ≤ length solids) (f' : face_room ≤ length faces') (s' : solid_room ≤ length solids') where
    entry-same : (limit : ℕ) → entry_checks limit faces solids ≡ entry_checks limit faces' solids'
    unfolding entry_checks
    entry-same limit =
        let p = le-ltb (length faces) face_room f ∙ sym (le-ltb (length faces') face_room f') in
        let q = le-ltb (length solids) solid_room s ∙ sym (le-ltb (length solids') solid_room s') in
        λ i. check No.NoRoom (offends (p i) 0) ∷ check No.NoRoom (offends (q i) 1)
        ∷ check No.BadLimit (offends (ltb most_work limit) 0) ∷ []

    pub answer-same : (most : Limits) (form : List Check) (d : Wire) (limit : ℕ)
        → (conversion most form d limit faces solids).answer ≡ (conversion most form d limit faces' solids').answer
    unfolding conversion
    answer-same most form d limit =
        let cs = uncovering d (loops d) in
        let t = tables_of d cs in
        let log = search most.solids (accepted t) limit (length cs) t.masks in
        let checks : List Check → List Check = λ e. e ++ form ++ drawing_checks d ++ loop_checks most (loops d) cs in
        let said : Converted = concluded (length (loops d)) cs t log faces solids in
        ap (λ (e : List Check). (or_convert (first_of (checks e)) faces solids said).answer) (entry-same limit)
        ∙ or_same (first_of (checks (entry_checks limit faces' solids'))) said (concluded (length (loops d)) cs t log faces' solids')
        (concluded-same (length (loops d)) cs t log)

-- ---- so the reading of the answer that one pair of rooms gave is that of all

module _ (convert : List ℕ → List ℕ → Converted)
    (same : (faces solids faces' solids' : List ℕ) → face_room ≤ length faces → solid_room ≤ length solids → face_room ≤ length faces'
    → solid_room ≤ length solids' → (convert faces solids).answer ≡ (convert faces' solids').answer)
    (exactly : (faces solids : List ℕ) → ReadExactly (convert faces solids)) where
  pub assessed : {c : Conversion} {r : Reading} (faces solids : List ℕ) → face_room ≤ length faces → solid_room ≤ length solids
      → c ≡ (convert faces solids).answer → r ≡ reading_of c → reading_says r ≡ shown_of (conversion_says c) → Assessed convert r
  assessed {c} {r} faces solids f s e is said = record {
    reads = λ faces' solids' f' s'.
        let q : c ≡ (convert faces' solids').answer = e ∙ same faces solids faces' solids' f s f' s' in
        let t : r ≡ reading_of (convert faces' solids').answer = is ∙ ap reading_of q in
        record {
          is = t;
          said = said ∙ ap (λ (x : Conversion). shown_of (conversion_says x)) q;
          exact = λ l k w six one. subst (Exactly six) (sym t) (exactly faces' solids' l k w six one);
        };
  }
