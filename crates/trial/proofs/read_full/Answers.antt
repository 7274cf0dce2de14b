-- trial/proofs/read_full/Answers.antt
-- `trial::read_full`: what one more read put behind the front is what it took of the input.
use Rattle.std.proofs.Common.{◌≡◌, ℕ, ◌+◌, ◌≤◌, List, ◌++◌, rules, length, take, drop, sym, ap, subst, ◌∙◌, drop_at, length-take-le}
use Rattle.std.specs.Io.KnownBytes.{Consumes}
use Rattle.std.proofs.KnownBytes.{Consumes-trans}
use borrow.Rule.Slice.PartMut.{put_mid, post_of, take_put}
use lib.Seq.{take-add, take-append-le}
use Rattle.trial.proofs.read_full.Goals as goal

longer_front : (a k n : ℕ) (xs ys : List ℕ) → a ≤ length xs → n ≤ length ys → take a xs ++ take n ys ≡ take (a + n) (put_mid a k xs ys)
longer_front a k n xs ys within fits =
    let behind = drop_at (take a xs) (ys ++ post_of a k xs) a (length-take-le a xs within) in
    let added = ap (take n) behind ∙ take-append-le n ys (post_of a k xs) fits in
    sym (take-add a n (put_mid a k xs ys) ∙ ap (λ l. l ++ take n (drop a (put_mid a k xs ys))) (take_put a k xs ys within) ∙ ap (λ l. take a xs ++ l) added)

pub loop-at-preserved : goal.loop-at-preserved
loop-at-preserved g c =
    let front = longer_front c.loop-at.at _ c.in_ok-more.more c.loop-at.room c.read.new.buf c.loop-at.invariant.within c.in_ok-more.ensures.bound.0 in
    record {
      within = search rules;
      taken = subst (Consumes _ _) front (Consumes-trans _ _ _ _ _ c.loop-at.invariant.taken c.in_ok-more.ensures.bytes.0);
    }
