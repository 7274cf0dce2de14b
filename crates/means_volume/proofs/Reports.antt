-- Every report's six volumes is at most 7.2 x 10^11, which a double holds exactly, and so its reading is exact.
use mathlib.Core.Path.{◌≡◌, sym, ap, ◌∙◌}
use mathlib.Core.Bool.{Bool}
use mathlib.Core.Logic.{inl, inr}
use mathlib.Core.List.{List, ◌++◌}
use mathlib.Core.Option.{none}
use Prim.Native.Nat.{ℕ, ◌≤◌, ◌<◌}
use native.Mathlib.Nat.{le_trans, mul-le-mul_right}
use native.Mathlib.Omega.{arith}
use lib.Dec.{lit≤}
use lib.IntN.{ℤ}
use lib.ListN.{length}
use Rattle.paper.specs.Numbers.{farthest, documented}
use Rattle.paper.specs.Refusals.{Check, first_of, Fine}
use Rattle.paper.specs.Format.{coordinates_in, ends_in, edition_of}
use Rattle.paper.specs.Sheet.{lent_checks, sheet_checks}
use Rattle.paper.specs.Drawing.{Wire, wire, at, same_place, drawing_checks}
use Rattle.paper.specs.Loops.{loop_at, loops, candidates, loop_checks}
use Rattle.paper.specs.Conversion.{Converted, conversion, convert_lists, convert_sheet, entry_checks}
use Rattle.paper.specs.declared.Conversion.TheVariants as Conversion
use Rattle.paper_laws.proofs.Checks.{first-both}
use Rattle.polygon.specs.Sizes.{PointWithin}
use Rattle.reading.proofs.Exact.{exact-volume}
use Rattle.means_solid.specs.Solid.{IsSolid}
use Rattle.means_loops.specs.Path.{ClosedPath}
use Rattle.means_loops.proofs.Paths.{loop_path}
use Rattle.means_loops.proofs.Listing.{candidates_are}
use Rattle.means_report.proofs.Report.{unrefused_apart}
use Rattle.means_report.proofs.Demand.{kind, says_one}
use Rattle.means_report.proofs.Converted.{Cases, the_walk, conversion_says_lem}
use Rattle.means_check.proofs.Drawn.{InCounts, lent_small, sheet_small}
use Rattle.means_check.proofs.Corners.{over}
use Rattle.means_check.proofs.Four.{four_faces}
use Rattle.means_volume.specs.Bound.{most_term, most_terms, most_six, ReadExactly, SmallEnough}
use Rattle.means_volume.proofs.Terms.{terms, by_terms}
use Rattle.means_volume.proofs.Counted.{terms_few}
use Rattle.means_volume.proofs.Near.{lent-near, sheet-near}

-- a drawing whose form passes
pub record Drawn (d : Wire) : Type 0 where
  pub near : (v : ℕ) → PointWithin farthest (at d v)
  pub counts : InCounts d

-- "By its terms it is at most 7.2 x 10^11 in size"
pub solid_small : (d : Wire) → Drawn d → same_place d ≡ none → (taken turned : List Bool) {six : ℕ}
    → IsSolid d (candidates d) taken turned six → six ≤ most_six
solid_small d w apart taken turned {six} s =
    let few : over taken terms (candidates d) ≤ most_terms = omega
    (arith, terms_few d (candidates d) taken turned paths s, four_faces d (candidates d) taken turned paths s, w.counts.1) in
    le_trans (by_terms d w.near (candidates d) taken turned six s.iv.0) (mul-le-mul_right most_term few)
  where
    paths : (k : ℕ) → k < length (candidates d) → ClosedPath d (loop_at (candidates d) k)
    paths k h = loop_path d apart (loop_at (candidates d) k) (candidates_are d k h).loop

-- ---- of a conversion

module _ (d : Wire) (form : List Check) (drawn : Fine ≡ first_of form → Drawn d) (limit : ℕ) (faces solids : List ℕ) where
  abbrev result : Converted
  result = conversion documented form d limit faces solids

  -- "One" comes only where nothing is refused
  one_small : (l k w six : ℕ) → result.answer ≡ Conversion.One l k w six → six ≤ most_six
  one_small l k w six one = go (conversion_says_lem d (the_walk d) form limit faces solids)
    where
      go : Cases d (the_walk d) form limit faces solids → six ≤ most_six
      go (inl p) = absurd (omega (arith, ap kind (sym one ∙ ap (λ (c : Converted). c.answer) p.2)))
      go (inr p) =
          let drawn-too = entry_checks limit faces solids ++ form ++ drawing_checks d in
          let rules = (first-both drawn-too (loop_checks documented (loops d) (candidates d)) p.0).0 in
          let opened = (first-both (entry_checks limit faces solids ++ form) (drawing_checks d) rules).0 in
          let says = says_one d (the_walk d) limit faces solids result p.1 one in
          solid_small d (drawn (first-both (entry_checks limit faces solids) form opened).1)
          (unrefused_apart d (the_walk d) limit faces solids form p.0) says.taken says.turned says.is

  -- 7.2 x 10^11 is below 2^53
  read-exactly : ReadExactly result
  read-exactly l k w six one = exact-volume result.answer l k w six one (le_trans (one_small l k w six one) (lit≤ tt))

-- ---- of the two ways in which a drawing comes

lent_drawn : (xyz : List ℤ) (ends : List ℕ) → Fine ≡ first_of (lent_checks xyz ends) → Drawn (wire xyz ends)
lent_drawn xyz ends e = record { near = lent-near xyz ends e; counts = lent_small xyz ends e }

sheet_drawn : (s : List ℕ) → Fine ≡ first_of (sheet_checks (edition_of s) s)
    → Drawn (wire (coordinates_in (edition_of s) s) (ends_in (edition_of s) s))
sheet_drawn s e = record { near = sheet-near s e; counts = sheet_small s e }

pub small_enough : SmallEnough
unfolding convert_lists convert_sheet
small_enough = record {
  lists = λ xyz ends f apart taken turned six s. solid_small (wire xyz ends) (lent_drawn xyz ends f) apart taken turned s;
  sheets =
      λ s f apart taken turned six i.
      solid_small (wire (coordinates_in (edition_of s) s) (ends_in (edition_of s) s)) (sheet_drawn s f) apart taken turned i;
  lists_read =
      λ xyz ends limit faces solids.
      read-exactly (wire xyz ends) (lent_checks xyz ends) (lent_drawn xyz ends) limit faces solids;
  sheets_read =
      λ s limit faces solids.
      read-exactly (wire (coordinates_in (edition_of s) s) (ends_in (edition_of s) s)) (sheet_checks (edition_of s) s) (sheet_drawn s) limit faces solids;
}
