-- `walk_clashes::clash_words`: the loop keeps that the first g candidates are marked both ways.
use mathlib.Core.Bool.{Bool, not, ◌&&◌, ◌||◌}
use mathlib.Core.List.{List}
use mathlib.Core.Path.{◌≡◌, refl, sym, ap, subst, ◌∙◌}
use Prim.Native.Nat.{ℕ, ◌<◌}
use native.Mathlib.Omega.{arith}
use lib.ListN.{get_or}
use Rattle.paper.specs.Numbers.{most_candidates}
use Rattle.sets.specs.Word.{dig, digit, either, less}
use Rattle.sets.specs.declared.Set.{Set}
use Rattle.fast_tables.specs.Words.{hit_mask}
use Rattle.walk_clashes.specs.Folds.{fold_mask}
use Rattle.walk_clashes.specs.Clashes.{ClashLent, wire_lent, all_lent}
use Rattle.walk_clashes.proofs.Marking.{digit_set}
use Rattle.walk_clashes.proofs.Ways.{Ways, ways_none, ways_fresh}
use Rattle.walk_clashes.proofs.Clashing.{through, folding, meets, fresh_is, clashes_are}
use Rattle.walk_clashes.proofs.clash_words.Goals as goal

low : (c : goal.After-at-arg-in-loop-g-1) → c.loop-g.g < most_candidates
low c = omega (arith, c.requires.lent.all.faces.most, c.loop-g-test.true)

abbrev LentAt : goal.After-mark_both-arg-1 → Type 0
LentAt c =
    let a = c.args in
    ClashLent a.xyz.now a.rows.now a.near.now a.number.now a.on.now a.at.now a.corners.now a.sides.now
    a.normals.now a.n

abbrev marks : (c : goal.After-mark_both-arg-1) → LentAt c → List Bool
marks c w =
    let g = c.loop-g.g in
    let hit = hit_mask (wire_lent w) (all_lent w) g in
    either hit (less (fold_mask (wire_lent w) (all_lent w) g) (either (c.at-known.ensures.some.0) hit))

low-2 : (c : goal.After-mark_both-arg-1) → c.loop-g.g < most_candidates
low-2 c = omega (arith, c.requires.lent.all.faces.most, c.loop-g-test.true)

-- a digit of those that are known is one of the word
known_at : (c : goal.After-mark_both) (j : ℕ)
    → let l = c.loop-g in dig (c.at-known.ensures.some.0) j ≡ digit (get_or l.words l.g 0) j
known_at c j = sym (digit_set (c.at-known.ensures.some.0) (c.at-known.ensures.some.1) j) ∙ ap (λ (x : Set). digit x.word j) c.at-known.ensures.is

abbrev LentAt-2 : goal.After-mark_both → Type 0
LentAt-2 c =
    let a = c.args in
    ClashLent a.xyz.now a.rows.now a.near.now a.number.now a.on.now a.at.now a.corners.now a.sides.now
    a.normals.now a.n

abbrev marks-2 : (c : goal.After-mark_both) → LentAt-2 c → List Bool
marks-2 c w =
    let g = c.loop-g.g in
    let hit = hit_mask (wire_lent w) (all_lent w) g in
    either hit (less (fold_mask (wire_lent w) (all_lent w) g) (either (c.at-known.ensures.some.0) hit))

-- ---- the needs

pub loop-g-init : goal.loop-g-init
loop-g-init c w =
    record {
      not_past = omega arith;
      marked = ways_none (meets w) c.args.words.now c.requires.none;
      long = refl;
    }

pub at-known-requires : goal.at-known-requires
at-known-requires c =
    let w = c.requires.lent in
    omega (arith, low c, (c.loop-g.invariant w).long, c.requires.whole)

pub clash_set-set-requires : goal.clash_set-set-requires
clash_set-set-requires c = record { lent = c.requires.lent; there = c.loop-g-test.true }

pub mark_both-requires : goal.mark_both-requires
mark_both-requires c =
    let w = c.requires.lent in
    record {
      mask = marks c w;
      mask_is = c.clash_set-set.ensures w (c.at-known.ensures.some.0) (c.at-known.ensures.some.1);
      whole = (c.loop-g.invariant w).long ∙ c.requires.whole;
      few = low-2 c;
    }

pub loop-g-preserved : goal.loop-g-preserved
loop-g-preserved c w =
    let o = c.loop-g.invariant w in
    let m = c.mark_both.ensures in
    record {
      not_past = omega arith;
      marked =
          ways_fresh (through w) (folding w) c.loop-g.words c.mark_both.new.words c.loop-g.g (dig (marks-2 c w))
          (λ j. fresh_is w c.loop-g.g (c.at-known.ensures.some.0) j
          ∙ ap (λ (b : Bool). through w c.loop-g.g j || (folding w c.loop-g.g j && not (b || through w c.loop-g.g j))) (known_at c j))
          (m.marked (marks-2 c w) (c.clash_set-set.ensures w (c.at-known.ensures.some.0) (c.at-known.ensures.some.1))) o.marked;
      long = m.long ∙ o.long;
    }

pub returns : goal.returns
returns c w =
    let l = c.loop-g in
    let o = l.invariant w in
    let e : l.g ≡ c.args.n = omega (arith, o.not_past, c.loop-g-test.false) in
    clashes_are w l.words (subst (λ (k : ℕ). Ways (meets w) k l.words) e o.marked)
