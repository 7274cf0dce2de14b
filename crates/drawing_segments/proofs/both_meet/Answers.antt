-- `drawing_segments::both_meet`: segments of one direction are asked along their line; others with a common end are not asked, and the
-- rest across.
use mathlib.Core.Bool.{Bool}
use mathlib.Core.Path.{◌∙◌, ◌≡◌, ap, sym}
use Rattle.paper.specs.Points.{cross, is_origin}
use Rattle.polygon.specs.Sizes.{PointWithin, most_step}
use Rattle.polygon.proofs.Sizes.{cross_small, minus_small, small_eq, small_up}
use Rattle.drawing_segments.specs.Ways.{both_across}
use Rattle.drawing_segments.proofs.Answers.{N, by-direction, by-joined}
use Rattle.drawing_segments.proofs.both_meet.Goals as goal

-- ---- how large the steps are

p-small : (c : goal.After-minus-q) → PointWithin most_step c.minus-p.result
p-small c = let s = c.requires.segments in small_eq c.minus-p.ensures (minus_small s.b_in s.a_in)

q-small : (c : goal.After-minus-q) → PointWithin most_step c.minus-q.result
q-small c = let s = c.requires.segments in small_eq c.minus-q.ensures (minus_small s.d_in s.c_in)

-- ---- the normal, and what `is_origin` said of it

normal : (c : goal.After-along) → let a = c.args in c.cross-n.result ≡ N a.a a.b a.c a.d
normal c = c.cross-n.ensures ∙ (λ i. cross (c.minus-p.ensures i) (c.minus-q.ensures i))

direction : (c : goal.After-along) {t : Bool} → c.is_origin.result ≡ t
    → let a = c.args in is_origin (N a.a a.b a.c a.d) ≡ t
direction c e = ap is_origin (sym (normal c)) ∙ sym c.is_origin.ensures ∙ e

normal-2 : (c : goal.Then-joined) → let a = c.args in c.cross-n.result ≡ N a.a a.b a.c a.d
normal-2 c = c.cross-n.ensures ∙ (λ i. cross (c.minus-p.ensures i) (c.minus-q.ensures i))

direction-2 : (c : goal.Then-joined) {t : Bool} → c.is_origin.result ≡ t
    → let a = c.args in is_origin (N a.a a.b a.c a.d) ≡ t
direction-2 c e = ap is_origin (sym (normal-2 c)) ∙ sym c.is_origin.ensures ∙ e

p-small-2 : (c : goal.After-minus) → PointWithin most_step c.minus-p.result
p-small-2 c = let s = c.requires.segments in small_eq c.minus-p.ensures (minus_small s.b_in s.a_in)

q-small-2 : (c : goal.After-minus) → PointWithin most_step c.minus-q.result
q-small-2 c = let s = c.requires.segments in small_eq c.minus-q.ensures (minus_small s.d_in s.c_in)

normal-3 : (c : goal.After-across) → let a = c.args in c.cross-n.result ≡ N a.a a.b a.c a.d
normal-3 c = c.cross-n.ensures ∙ (λ i. cross (c.minus-p.ensures i) (c.minus-q.ensures i))

direction-3 : (c : goal.After-across) {t : Bool} → c.is_origin.result ≡ t
    → let a = c.args in is_origin (N a.a a.b a.c a.d) ≡ t
direction-3 c e = ap is_origin (sym (normal-3 c)) ∙ sym c.is_origin.ensures ∙ e

-- ---- the needs

pub cross-n-requires : goal.cross-n-requires
cross-n-requires c = record { a_in = p-small c; b_in = q-small c }

pub returns-then-is_origin : goal.returns-then-is_origin
returns-then-is_origin c =
    let a = c.args in
    c.along.ensures ∙ by-direction a.a a.b a.c a.d c.requires.long (direction c c.if-is_origin.true)

pub returns-then-joined : goal.returns-then-joined
returns-then-joined c =
    let a = c.args in
    by-joined a.a a.b a.c a.d (direction-2 c c.if-is_origin.false) (c.requires.shared c.if-joined.true)

pub across-requires : goal.across-requires
across-requires c =
    let s = c.requires.segments in
    record {
      p_in = p-small-2 c;
      q_in = q-small-2 c;
      r_in = small_eq c.minus.ensures (minus_small s.c_in s.a_in);
      n_in = small_eq c.cross-n.ensures (small_up tt (cross_small (p-small-2 c) (q-small-2 c)));
    }

pub returns : goal.returns
returns c =
    let a = c.args in
    let p = c.minus-p.ensures in
    let q = c.minus-q.ensures in
    let r = c.minus.ensures in
    c.across.ensures ∙ (λ i. both_across (p i) (q i) (r i) (normal-3 c i))
    ∙ by-direction a.a a.b a.c a.d c.requires.long (direction-3 c c.if-is_origin.false)
