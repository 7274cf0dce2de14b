-- `drawing_links::further`: the loop keeps that `more` has the set and what the first u vertices of it lead to.
use mathlib.Core.Bool.{Bool, ◌&&◌, ◌||◌, or_assoc, or-false}
use mathlib.Core.List.{List}
use mathlib.Core.Path.{◌∙◌, ◌≡◌, ap, sym}
use Prim.Native.Nat.{◌<◌, ℕ}
use native.Mathlib.Omega.{arith}
use lib.ListN.{get_or, length, take}
use lib.Seq.{take-length}
use Rattle.lists.proofs.Places.{any-below_more, upto_length}
use Rattle.lists.specs.Lists.{any, upto}
use Rattle.paper.specs.Drawing.{Wire, joined}
use Rattle.sets.specs.Word.{digit}
use Rattle.drawing_links.specs.Neighbours.{Links}
use Rattle.sets.proofs.Numbers.{digit_or, digit-bits}
use Rattle.drawing_links.proofs.further.Invariants.{Leads}
use Rattle.drawing_links.proofs.further.Goals as goal
use Rattle.drawing_links.proofs.further.Goals.{then-is_set, else-is_set}

-- the vertices before u that lead to w
abbrev before-u : goal.Joined-is_set → Wire → ℕ → Bool
before-u c d w = let a = c.args in any (Leads a.set d w) (take c.loop-u.u (upto a.v))

-- ---- the set before vertex u and after it, by the digit w

-- what `is_set` said of u
said : (c : goal.Joined-is_set) {b : Bool} → c.is_set.result ≡ b
    → digit c.args.set c.loop-u.u ≡ b
said c e =
    sym (c.is_set.ensures ∙ digit-bits 64 c.args.set c.loop-u.u (omega arith)) ∙ e

grows : (c : goal.Joined-is_set) (d : Wire)
    → let a = c.args in
    Links a.near.now a.v d → (w : ℕ)
    → digit c.if-is_set.more w ≡ (digit a.set w || (before-u c d w || Leads a.set d w c.loop-u.u))
grows c d k w =
    let a = c.args in
    let old = digit a.set w in
    let some = before-u c d w in
    let near = joined d c.loop-u.u w in
    let u< : c.loop-u.u < a.v = omega arith in
    elim c.if-is_set.branch [
      | then-is_set t ↦
          ap (λ (m : ℕ). digit m w) t.more-is
          ∙ digit_or c.loop-u.more (get_or a.near.now c.loop-u.u 0) w
          ∙ (λ i. c.loop-u.invariant.1 d k w i || k.joins c.loop-u.u u< w i)
          ∙ or_assoc old some near
          ∙ ap (λ (b : Bool). old || (some || (b && near))) (sym (said c t.if-is_set.true))
      | else-is_set t ↦
          ap (λ (m : ℕ). digit m w) t.more-is
          ∙ c.loop-u.invariant.1 d k w
          ∙ ap (λ (b : Bool). old || b) (sym (or-false some))
          ∙ ap (λ (b : Bool). old || (some || (b && near))) (sym (said c t.if-is_set.false))
    ]

-- ---- the needs

pub loop-u-init : goal.loop-u-init
unfolding any
loop-u-init c = (omega arith, λ d k w. sym (or-false (digit c.args.set w)))

pub loop-u-preserved : goal.loop-u-preserved
loop-u-preserved c =
    let u = c.loop-u.u in
    let a = c.args in (
      omega arith,
      λ d k w.
          let one = sym (any-below_more (Leads a.set d w) a.v u (omega arith)) in
          grows c d k w ∙ ap (λ (b : Bool). digit a.set w || b) one,
    )

pub returns : goal.returns
returns c =
    let l = c.loop-u in
    let a = c.args in
    let us = upto a.v in
    let e : l.u ≡ length us = omega (arith, upto_length a.v) in
    let all = ap (λ (n : ℕ). take n us) e ∙ take-length us in
    λ d k w. l.invariant.1 d k w ∙ ap (λ (l : List ℕ). digit a.set w || any (Leads a.set d w) l) all
