-- `clerk_words::take_numbers`: the loop keeps that the first i numbers are copied to the room. Each need goes back to the loop and to the
-- start.
use mathlib.Core.Path.{◌≡◌, sym, ap, ◌∙◌, subst⁻¹}
use Prim.Native.Nat.{◌+◌, ◌<◌}
use native.Mathlib.Omega.{arith}
use lib.IntN.{ℤ, pos}
use lib.ListN.{get_or, set}
use mir.Syntax.{w64}
use mir.Val.{of_z, to_z}
use Rattle.rooms.specs.Rooms.{Copies}
use Rattle.rooms.proofs.Copying.{Copying, copying_start, copying_more, copying_end}
use Rattle.lists.proofs.Places.{made_length, made_at}
use Rattle.clerk_words.specs.Words.{number_of, number_from, numbers_in}
use Rattle.clerk_words.proofs.Signed.{again_is}
use Rattle.clerk_words.proofs.take_numbers.Goals as goal

copies : (c : goal.After-number_of) → Copies c.args.n (numbers_in c.args.n c.args.bytes.now) c.args.room.now
unfolding numbers_in
copies c =
    let a = c.args in
    record { there = omega (arith, made_length (number_from a.bytes.now) a.n); fits = c.requires.fits }

number_is : (c : goal.After-number_of)
    → to_z w64 (of_z w64 c.number_of.result)
    ≡ get_or (numbers_in c.args.n c.args.bytes.now) c.loop-i.i (pos 0)
unfolding numbers_in
number_is c =
    let a = c.args in
    let h : c.loop-i.i < a.n = omega arith in
    again_is c.number_of.result (record { sfits = c.number_of.type_inv })
    ∙ c.number_of.ensures
    ∙ ap number_of c.word_at.ensures
    ∙ sym (made_at (number_from a.bytes.now) a.n c.loop-i.i (pos 0) h)

-- ---- the needs

pub loop-i-init : goal.loop-i-init
loop-i-init c = copying_start

pub overflow_mul-i : goal.overflow_mul-i
overflow_mul-i c = omega (arith, c.requires.there)

pub word_at-requires : goal.word_at-requires
word_at-requires c = record { stand = omega (arith, c.requires.there) }

pub number_of-requires : goal.number_of-requires
number_of-requires c = tt

pub loop-i-preserved : goal.loop-i-preserved
loop-i-preserved c =
    let a = c.args in
    let i = c.loop-i.i in
    subst⁻¹ (λ (z : ℤ). Copying a.n (numbers_in a.n a.bytes.now) a.room.now (set c.loop-i.room i z) (i + 1)) (number_is c)
    (copying_more c.loop-i.invariant (pos 0) (copies c) (omega arith))

pub returns : goal.returns
returns c = copying_end c.loop-i.invariant (omega arith)
