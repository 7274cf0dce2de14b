-- `walk_clashes::hits::join_vertex`: the vertex is asked as a point over 1.
use mathlib.Core.Bool.{Bool, cond}
use mathlib.Core.List.{[], map}
use mathlib.Core.Path.{◌≡◌, subst, sym, ap, ◌∙◌}
use Prim.Native.Nat.{◌<◌}
use native.Mathlib.Omega.{arith}
use Rattle.paper.specs.Numbers.{most_vertices}
use Rattle.exact.proofs.Size.{within_lit}
use Rattle.lists.specs.Lists.{member}
use Rattle.sets.specs.Word.{either}
use Rattle.sets.specs.Sets.{Is}
use Rattle.sets.proofs.Laws as Laws
use Rattle.sets.proofs.Ones.{nil_either}
use Rattle.paper.specs.Polygon.{exactly, lies, is_inside}
use Rattle.paper.specs.Loops.{polygon}
use Rattle.polygon.proofs.Rows.{point_small}
use Rattle.polygon.proofs.Sizes.{small_eq, small_up}
use Rattle.walk_clashes.specs.Lent.{VertexLent, wire_of, all_of, known_loop, vertex_of}
use Rattle.walk_clashes.proofs.Crossed.{face_of_lem, polygon_of, vertex_in_lem, vertex_low, at-is}
use Rattle.walk_clashes.proofs.hits.join_vertex.Goals as goal

abbrev VertexAt : goal.Then-not-lies_inside → Type 0
VertexAt c = let a = c.args in VertexLent a.xyz.now a.rows.now a.at.now a.g a.m a.v

-- what the code's test says
inner : (c : goal.Then-not-lies_inside) (w : VertexAt c) {t : Bool} → c.lies_inside.result ≡ t
    → let k = w.lent.known in is_inside (lies (exactly (vertex_of k c.args.v)) (polygon (wire_of k) (known_loop k))) ≡ t
inner c w e =
    let k = w.lent.known in
    let p = c.point_at.ensures ∙ at-is k _ w.v_low in
    sym (c.lies_inside.ensures ∙ (λ i. is_inside (lies (exactly (p i)) (polygon_of k i)))) ∙ e

v_low : (c : goal.After-at-arg-1) → c.args.v < most_vertices
v_low c = let w = c.requires in vertex_low w.lent.known _ w.v_low

abbrev VertexAt-2 : goal.After-or → Type 0
VertexAt-2 c = let a = c.args in VertexLent a.xyz.now a.rows.now a.at.now a.g a.m a.v

inner-2 : (c : goal.After-or) (w : VertexAt-2 c) {t : Bool} → c.lies_inside.result ≡ t
    → let k = w.lent.known in is_inside (lies (exactly (vertex_of k c.args.v)) (polygon (wire_of k) (known_loop k))) ≡ t
inner-2 c w e =
    let k = w.lent.known in
    let p = c.point_at.ensures ∙ at-is k _ w.v_low in
    sym (c.lies_inside.ensures ∙ (λ i. is_inside (lies (exactly (p i)) (polygon_of k i)))) ∙ e

pub point_at-requires : goal.point_at-requires
point_at-requires c = let w = c.requires in vertex_in_lem w.lent.known _ w.v_low

pub lies_inside-requires : goal.lies_inside-requires
lies_inside-requires c =
    let w = c.requires in
    let f = face_of_lem w.lent.known in
    record {
      face = f;
      p_in = small_eq c.point_at.ensures (small_up tt (point_small _ f.row.near _));
      d_in = within_lit tt;
    }

pub returns-then-not-lies_inside : goal.returns-then-not-lies_inside
returns-then-not-lies_inside c w s i =
    let t = inner c w (c.if-not-lies_inside.true) in
    let a = c.args in
    subst (Is a.set) (sym (ap (λ (b : Bool). either s (cond b (map (member a.v) (all_of w.lent.known)) [])) t ∙ nil_either s)) i

pub at-faces-requires : goal.at-faces-requires
at-faces-requires c = omega (arith, v_low c)

pub returns : goal.returns
returns c w s i =
    let t = inner-2 c w (c.if-not-lies_inside.false) in
    let a = c.args in
    subst (Is c.or.result) (sym (ap (λ (b : Bool). either s (cond b (map (member a.v) (all_of w.lent.known)) [])) t))
    (c.or.ensures s _ i (Laws.at-is c.at-faces.ensures _ (w.lent.at_are _ w.v_low)))
