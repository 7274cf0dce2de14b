-- Each of the checks 23 to 27 finds none just where one of (i) to (v) holds of the selection.
use mathlib.Core.Path.{◌≡◌, refl, sym, ap, subst, ◌∙◌}
use mathlib.Core.Bool.{Bool, true, false, not}
use mathlib.Core.Option.{none}
use mathlib.Core.List.{List, []}
use Prim.Native.Nat.{ℕ, ◌<◌}
use native.Mathlib.Omega.{arith}
use lib.Dec.{eqb}
use lib.IntN.{ℤ, pos, negsuc}
use lib.Signed.{lt_z}
use lib.ListN.{length, get_or}
use borrow.Author.Tests.{eqb-true, eq-eqb, ltb-true, lt-ltb, not-false}
use Rattle.lists.proofs.Lowest.{lowest-none}
use Rattle.sets.specs.Word.{dig, count, both}
use Rattle.sets.proofs.Digits.{never}
use Rattle.paper.specs.Refusals.{offends}
use Rattle.paper.specs.Points.{above}
use Rattle.paper.specs.Drawing.{Wire, edge_at}
use Rattle.paper.specs.Loops.{Loop}
use Rattle.paper.specs.Solids.{tables_of, in_two, faces_from, once_each_way, six_from}
use Rattle.paper.specs.Verdict.{edge_count, direction, pieces, inward, clashes}
use Rattle.means_leaf.proofs.Each.{counted_two}
use Rattle.means_leaf.proofs.Spread.{place_in}
use Rattle.means_leaf.proofs.Reaches.{way_on, way_back, reached_ways, ways_reached}
use Rattle.means_leaf.specs.Meaning as Masks
use Rattle.means_solid.specs.Proper.{AllProper}
use Rattle.means_solid.specs.Solid.{Way, EachWay, six_of_faces}
use Rattle.means_masks.proofs.Tables.{Even, EachTwo, Apart, masks_length, as_many, two_masks, masks_two, way-through, through-way}
use Rattle.means_masks.proofs.Tables.{ways_at, at_ways, six_is, clear_apart, apart-clear}
use Rattle.means_check.specs.Candidates.{ProperCandidates}
use Rattle.means_check.proofs.Numbers.{none-lowest}

-- candidates are proper loops
pub all_proper : {d : Wire} {cs : List Loop} → ProperCandidates d cs → AllProper cs
all_proper c k h = record { three = (c.normal k h).three; different = (c.normal k h).different }

module _ (d : Wire) (cs : List Loop) (taken turned : List Bool) where
  -- ---- (i)

  abbrev not_two : ℕ → Bool
  not_two e = not (in_two (get_or (tables_of d cs).masks e []) taken)

  pub edges_two : edge_count (tables_of d cs) taken ≡ none → EachTwo d cs taken turned
  edges_two p = masks_two d cs taken turned (counted_two taken (tables_of d cs) p)

  pub two_edges : EachTwo d cs taken turned → edge_count (tables_of d cs) taken ≡ none
  unfolding edge_count in_two
  two_edges f = none-lowest not_two (length (tables_of d cs).masks) (λ e h.
      ap not (eq-eqb (count (both (get_or (tables_of d cs).masks e []) taken)) 2
      (two_masks d cs taken turned f (get_or (tables_of d cs).masks e []) (place_in (tables_of d cs).masks e h))))

  -- ---- (ii)

  -- the faces of a selection, by their numbers
  pub record Lists (ks : List ℕ) : Type 0 where
    pub each : (i : ℕ) → i < length ks → dig taken (get_or ks i 0) ≡ true
    pub there : (k : ℕ) → dig taken k ≡ true → (i : ℕ) × (i < length ks) × (get_or ks i 0 ≡ k)

  module _ (two : EachTwo d cs taken turned) (ks : List ℕ) (l : Lists ks) where
    abbrev unreached : ℕ → Bool
    unreached i = not (dig (faces_from (get_or ks 0 0) (tables_of d cs) taken).reached (get_or ks i 0))

    pub pieces_ways : pieces (tables_of d cs) ks taken ≡ none → (j k : ℕ) → dig taken j ≡ true → dig taken k ≡ true
        → Way d cs taken turned j k
    unfolding pieces faces_from
    pieces_ways p j k hj hk = way-through d cs taken turned hj (way_on (way_back (from j hj)) (from k hk))
      where
        from : (m : ℕ) → dig taken m ≡ true → Masks.MaskWay (tables_of d cs).masks taken (get_or ks 0 0) m
        from m h =
            let r = l.there m h in
            let w = not-false (dig (faces_from (get_or ks 0 0) (tables_of d cs) taken).reached (get_or ks r.0 0))
            (lowest-none unreached (length ks) p r.0 r.1) in
            reached_ways (tables_of d cs).masks (tables_of d cs).ups taken (get_or ks 0 0) m
            (subst (λ (x : ℕ). dig (faces_from (get_or ks 0 0) (tables_of d cs) taken).reached x ≡ true) r.2 w)

    pub ways_pieces : ((j k : ℕ) → dig taken j ≡ true → dig taken k ≡ true → Way d cs taken turned j k)
        → pieces (tables_of d cs) ks taken ≡ none
    unfolding pieces faces_from
    ways_pieces w = none-lowest unreached (length ks) (λ i h.
        let z = l.each 0 (omega arith) in
        ap not (ways_reached (tables_of d cs).masks (tables_of d cs).ups taken (as_many d cs) (two_masks d cs taken turned two) (get_or ks 0 0)
        z (get_or ks i 0) (through-way d cs taken turned (w (get_or ks 0 0) (get_or ks i 0) z (l.each i h)))))

  -- ---- (iii)

  abbrev EachWays : Type 0
  EachWays = (e : ℕ) → e < length d.edges → EachWay d cs taken turned (edge_at d e)

  abbrev not_once : ℕ → Bool
  not_once e = not (once_each_way (get_or (tables_of d cs).masks e []) (get_or (tables_of d cs).ups e []) taken turned)

  pub edges_ways : AllProper cs → direction (tables_of d cs) taken turned ≡ none → EachWays
  unfolding direction
  edges_ways ok p e h = ways_at d cs taken turned ok e h
      (not-false (once_each_way (get_or (tables_of d cs).masks e []) (get_or (tables_of d cs).ups e []) taken turned)
      (lowest-none not_once (length (tables_of d cs).masks) p e (omega (arith, masks_length d cs))))

  pub ways_edges : AllProper cs → EachWays → direction (tables_of d cs) taken turned ≡ none
  unfolding direction
  ways_edges ok f = none-lowest not_once (length (tables_of d cs).masks) (λ e h.
      let l : e < length d.edges = omega (arith, masks_length d cs) in
      ap not (at_ways d cs taken turned ok e l (f e l)))

  -- ---- (iv)

  above_yes : (z : ℤ) → above z ≡ true → (n : ℕ) × (z ≡ pos n) × (0 < n)
  unfolding above
  above_yes (pos n) e = (n, refl, ltb-true 0 n e)
  above_yes (negsuc n) e = never (sym e)

  above_is : (z : ℤ) (n : ℕ) → z ≡ pos n → 0 < n → above z ≡ true
  unfolding above
  above_is z n e h = ap (lt_z (pos 0)) e ∙ lt-ltb 0 n h

  pub inward_six : inward (tables_of d cs) taken turned ≡ none → (six : ℕ) × (six_of_faces d cs taken turned 0 cs ≡ pos six) × (0 < six)
  unfolding inward
  inward_six p =
      let r = above_yes (six_from 0 (tables_of d cs).sixes taken turned) (go (above (six_from 0 (tables_of d cs).sixes taken turned)) p) in
      (r.0, sym (six_is d cs taken turned) ∙ r.1, r.2)
    where
      go : (b : Bool) → offends (not b) 0 ≡ none → b ≡ true
      go true e = refl
      go false e = let z : ◌≡◌ {A = ℕ} 0 1 = cc in absurd (omega arith)

  pub six_inward : (six : ℕ) → six_of_faces d cs taken turned 0 cs ≡ pos six → 0 < six → inward (tables_of d cs) taken turned ≡ none
  unfolding inward
  six_inward n e h =
      ap (λ (b : Bool). offends (not b) 0) (above_is (six_from 0 (tables_of d cs).sixes taken turned) n (six_is d cs taken turned ∙ e) h)

  -- ---- (v)

  module _ (even : Even d cs) (some : length taken ≡ length cs) (ks : List ℕ) (l : Lists ks) where
    abbrev clashes_at : ℕ → ℕ
    clashes_at k = count (both (get_or (tables_of d cs).clashes k []) taken)

    pub clashes-apart : clashes (tables_of d cs) ks taken ≡ none → Apart d cs even taken some
    unfolding clashes
    clashes-apart p = clear_apart d cs even taken some (λ j hj.
        let r = l.there j hj in
        subst (λ (x : ℕ). clashes_at x ≡ 0) r.2
        (eqb-true (clashes_at (get_or ks r.0 0)) 0
        (not-false (eqb (clashes_at (get_or ks r.0 0)) 0)
        (lowest-none (λ i. not (eqb (clashes_at (get_or ks i 0)) 0)) (length ks) p r.0 r.1))))

    pub apart-clashes : Apart d cs even taken some → clashes (tables_of d cs) ks taken ≡ none
    unfolding clashes
    apart-clashes f = none-lowest (λ i. not (eqb (clashes_at (get_or ks i 0)) 0)) (length ks) (λ i h.
        ap not (eq-eqb (clashes_at (get_or ks i 0)) 0 (apart-clear d cs even taken some f (get_or ks i 0) (l.each i h))))
