-- `walk_clashes::marks::mark_both`: the word of k takes the set, and then each of the set takes k.
use mathlib.Core.Bool.{Bool, ◌&&◌, ◌||◌}
use mathlib.Core.List.{List}
use mathlib.Core.Path.{ap, ◌∙◌}
use Prim.Native.Nat.{ℕ}
use native.Mathlib.Omega.{arith}
use lib.Dec.{eqb}
use lib.ListN.{get_or, set}
use Rattle.sets.specs.Word.{dig, digit}
use Rattle.sets.proofs.Ones.{dig_lt}
use Rattle.sets.proofs.Numbers.{digit-stored}
use Rattle.walk_clashes.proofs.Marking.{digit_set, joined_word}
use Rattle.walk_clashes.proofs.marks.mark_both.Goals as goal

-- ---- the needs

pub at-own-requires : goal.at-own-requires
at-own-requires c = let p = c.requires in omega (arith, p.few, p.whole)

pub put-requires : goal.put-requires
put-requires c = let p = c.requires in omega (arith, p.few, p.whole)

pub mark_all-requires : goal.mark_all-requires
mark_all-requires c =
    let p = c.requires in
    record {
      mask = p.mask;
      mask_is = p.mask_is;
      low = λ j t. omega (arith, dig_lt p.mask j t, p.mask_is.short, p.whole, c.put.auto.words);
      few = p.few;
    }

pub returns : goal.returns
returns c =
    let w = c.args.words.now in
    let k = c.args.k in
    let x = c.args.set in
    let m = c.mark_all.ensures in
    record {
      marked =
          λ mask i e u.
          m.marked mask i e u
          ∙ ap (λ (b : Bool). b || (dig mask e && eqb u k))
          (ap (λ (l : List ℕ). digit (get_or l e 0) u)
          (c.put.ensures ∙ ap (set w k) (joined_word w k mask c.at-own.ensures i c.or.ensures))
          ∙ digit-stored w k x.word e u (omega (arith, c.requires.few, c.requires.whole))
          ∙ ap (λ (b : Bool). digit (get_or w e 0) u || (eqb e k && b)) (digit_set mask i u));
      long = m.long ∙ c.put.auto.words;
    }
