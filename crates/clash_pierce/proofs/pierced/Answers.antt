-- `clash_pierce::pierced`: the sizes of a and b are the weights of the piercing point, which stays small enough for the place test.
use Rattle.paper.specs.declared.Point.{Point}
use mathlib.Core.Bool.{Bool, ◌&&◌}
use mathlib.Core.List.{[], ◌∷◌}
use mathlib.Core.Path.{◌∙◌, ◌≡◌, ap, sym}
use Prim.Native.Nat.{◌+◌}
use lib.IntN.{◌+ℤ◌, nat_abs, pos, ℤ}
use mir.Syntax.{w64}
use mir.Val.{of_z, to_z}
use Rattle.exact.proofs.Machine.{Plain, ◌▸◌, asked, done, handed, plain, reads}
use Rattle.exact.proofs.Ring.{◌⊕◌, var}
use Rattle.paper.specs.Clash.{opposite, pierced}
use Rattle.paper.specs.Points.{plus, times}
use Rattle.paper.specs.Polygon.{Polygon, is_inside, lies, over}
use Rattle.polygon.specs.Rings.{ring}
use Rattle.polygon.specs.Sizes.{most_scale, most_plane_side}
use Rattle.polygon.proofs.Sizes.{plus_small, small_eq, small_up, times_small}
use Rattle.polygon.proofs.Zeros.{abs_within}
use Rattle.clash_pierce.proofs.pierced.Goals as goal

abbrev size_of : ℤ → ℤ
size_of z = pos (nat_abs z)

-- ---- what the calls said

sides_are : (c : goal.Then-not-opposite) {b : Bool} → c.opposite.result ≡ b → opposite c.args.a c.args.b ≡ b
sides_are c e =
    let a = sym (plain c.ranges.a).reading in
    let b = sym (plain c.ranges.b).reading in
    (λ i. opposite (a i) (b i)) ∙ sym c.opposite.ensures ∙ e

abbrev upper : goal.Then-not-opposite → Point
upper c = let a = c.args in plus (times (size_of a.b) a.p) (times (size_of a.a) a.q)

abbrev lower : goal.Then-not-opposite → ℤ
lower c = pos (nat_abs c.args.a + nat_abs c.args.b)

-- ---- the row, and the piercing point as a numerator and a denominator

abbrev G : goal.Then-not-opposite → Polygon
G c = ring c.args.xyz.now c.args.table.now c.args.g

abbrev inside : goal.Then-not-opposite → Bool
inside c = is_inside (lies (over (upper c) (lower c)) (G c))

-- the answer, by what `opposite` said
answer : (c : goal.Then-not-opposite) {b : Bool} → let a = c.args in opposite a.a a.b ≡ b
    → (b && inside c) ≡ pierced (G c) a.p a.q a.a a.b
unfolding pierced
answer c e = λ i. sym e i && inside c

size-b : (c : goal.After-size-t) → c.size-s.result ≡ size_of c.args.b
size-b c = c.size-s.ensures ∙ ap size_of (plain c.ranges.b).reading

size-a : (c : goal.After-size-t) → c.size-t.result ≡ size_of c.args.a
size-a c = c.size-t.ensures ∙ ap size_of (plain c.ranges.a).reading

env : (c : goal.After-size-t) → Plain (most_plane_side ∷ most_plane_side ∷ []) (c.size-s.result ∷ c.size-t.result ∷ [])
env c =
    let s = c.requires in
    abs_within (size-b c) s.b_in ▸ abs_within (size-a c) s.a_in ▸ done

size-b-2 : (c : goal.After-mix) → c.size-s.result ≡ size_of c.args.b
size-b-2 c = c.size-s.ensures ∙ ap size_of (plain c.ranges.b).reading

size-a-2 : (c : goal.After-mix) → c.size-t.result ≡ size_of c.args.a
size-a-2 c = c.size-t.ensures ∙ ap size_of (plain c.ranges.a).reading

env-2 : (c : goal.After-mix) → Plain (most_plane_side ∷ most_plane_side ∷ []) (c.size-s.result ∷ c.size-t.result ∷ [])
env-2 c =
    let s = c.requires in
    abs_within (size-b-2 c) s.b_in ▸ abs_within (size-a-2 c) s.a_in ▸ done

sides_are-2 : (c : goal.After-lies_inside) {b : Bool} → c.opposite.result ≡ b → opposite c.args.a c.args.b ≡ b
sides_are-2 c e =
    let a = sym (plain c.ranges.a).reading in
    let b = sym (plain c.ranges.b).reading in
    (λ i. opposite (a i) (b i)) ∙ sym c.opposite.ensures ∙ e

abbrev upper-2 : goal.After-lies_inside → Point
upper-2 c = let a = c.args in plus (times (size_of a.b) a.p) (times (size_of a.a) a.q)

size-b-3 : (c : goal.After-lies_inside) → c.size-s.result ≡ size_of c.args.b
size-b-3 c = c.size-s.ensures ∙ ap size_of (plain c.ranges.b).reading

size-a-3 : (c : goal.After-lies_inside) → c.size-t.result ≡ size_of c.args.a
size-a-3 c = c.size-t.ensures ∙ ap size_of (plain c.ranges.a).reading

env-3 : (c : goal.After-lies_inside) → Plain (most_plane_side ∷ most_plane_side ∷ []) (c.size-s.result ∷ c.size-t.result ∷ [])
env-3 c =
    let s = c.requires in
    abs_within (size-b-3 c) s.b_in ▸ abs_within (size-a-3 c) s.a_in ▸ done

upper_is : (c : goal.After-lies_inside) → c.mix.result ≡ upper-2 c
upper_is c =
    let e = env-3 c in
    let a = c.args in
    let sb = reads e (var 0) tt ∙ size-b-3 c in
    let sa = reads e (var 1) tt ∙ size-a-3 c in
    c.mix.ensures ∙ (λ i. plus (times (sb i) a.p) (times (sa i) a.q))

abbrev lower-2 : goal.After-lies_inside → ℤ
lower-2 c = pos (nat_abs c.args.a + nat_abs c.args.b)

lower-is : (c : goal.After-lies_inside)
    → to_z w64 (of_z w64 (to_z w64 (of_z w64 c.size-t.result) +ℤ to_z w64 (of_z w64 c.size-s.result)))
    ≡ lower-2 c
lower-is c = reads (env-3 c) (var 1 ⊕ var 0) tt ∙ (λ i. size-a-3 c i +ℤ size-b-3 c i)

abbrev G-2 : goal.After-lies_inside → Polygon
G-2 c = ring c.args.xyz.now c.args.table.now c.args.g

abbrev inside-2 : goal.After-lies_inside → Bool
inside-2 c = is_inside (lies (over (upper-2 c) (lower-2 c)) (G-2 c))

answer-2 : (c : goal.After-lies_inside) {b : Bool} → let a = c.args in opposite a.a a.b ≡ b
    → (b && inside-2 c) ≡ pierced (G-2 c) a.p a.q a.a a.b
unfolding pierced
answer-2 c e = λ i. sym e i && inside-2 c

-- ---- the needs

pub returns-then-not-opposite : goal.returns-then-not-opposite
returns-then-not-opposite c =
    answer c (sides_are c (c.if-not-opposite.true))

pub mix-requires : goal.mix-requires
mix-requires c =
    let s = c.requires in
    record {
      s_in = handed most_plane_side (env c) (var 0) tt tt;
      p_in = s.p_in;
      t_in = handed most_plane_side (env c) (var 1) tt tt;
      q_in = s.q_in;
    }

pub overflow_add-t : goal.overflow_add-t
overflow_add-t c = asked (env-2 c) (var 1 ⊕ var 0) tt

pub lies_inside-requires : goal.lies_inside-requires
lies_inside-requires c =
    let s = c.requires in
    let e = env-2 c in
    let b = times_small (handed most_plane_side e (var 0) tt tt) s.p_in in
    let a = times_small (handed most_plane_side e (var 1) tt tt) s.q_in in
    record {
      face = s.face;
      p_in = small_eq c.mix.ensures (small_up tt (plus_small b a));
      d_in = handed most_scale e (var 1 ⊕ var 0) tt tt;
    }

pub returns : goal.returns
returns c =
    c.lies_inside.ensures
    ∙ (λ i. is_inside (lies (over (upper_is c i) (lower-is c i)) (G-2 c)))
    ∙ answer-2 c (sides_are-2 c (c.if-not-opposite.false))
