-- `loop_cover::fits`: no corner is outside the plane just where the set of those that are is empty.
use mathlib.Core.Bool.{Bool, not, ◌&&◌}
use mathlib.Core.Path.{◌≡◌, ap, sym, ◌∙◌}
use Prim.Native.Nat.{ℕ}
use native.Mathlib.Omega.{arith}
use borrow.Author.Tests.{eq-eqb, ne_eqb}
use lib.Dec.{eqb}
use Rattle.sets.specs.Word.{count, less}
use Rattle.sets.proofs.Laws.{at-is}
use Rattle.sets.proofs.Sets.{size_is}
use Rattle.loop_cover.proofs.fits.Goals as goal

pub returns-then-k-j : goal.returns-then-k-j
returns-then-k-j c =
    let a = c.args in
    let e : a.k ≡ a.j = omega (arith, c.if-k-j.true) in
    λ x y p q. ap (λ (t : Bool). not t && eqb (count (less x y)) 0) (sym (eq-eqb a.k a.j e))

pub returns : goal.returns
returns c =
    let a = c.args in
    let e : a.k ≡ a.j → ⊥ = λ z. omega (arith, c.if-k-j.false, z) in
    λ x y p q.
    c.is_empty.ensures
    ∙ ap (λ (n : ℕ). eqb n 0) (size_is (c.minus.ensures.same x y (at-is c.at-others.ensures x p) q))
    ∙ ap (λ (t : Bool). not t && eqb (count (less x y)) 0) (sym (ne_eqb a.k a.j e))
