-- `walk_clashes::hits::join_edge`: the word of the edge's number is that of the candidates on it.
use mathlib.Core.Bool.{Bool, cond}
use mathlib.Core.List.{[], map}
use mathlib.Core.Path.{◌≡◌, subst, sym, ap, ◌∙◌}
use Prim.Native.Nat.{◌<◌}
use native.Mathlib.Omega.{arith}
use Rattle.paper.specs.Numbers.{most_vertices, most_edges}
use Rattle.sets.specs.Word.{either}
use Rattle.sets.specs.Sets.{Is}
use Rattle.sets.proofs.Laws as Laws
use Rattle.sets.proofs.Ones.{nil_either}
use Rattle.paper.specs.Drawing.{edge}
use Rattle.paper.specs.Solids.{has}
use Rattle.fast_tables.specs.Hits.{edge_pierces}
use Rattle.walk_clashes.specs.Lent.{EdgeLent, wire_of, all_of, known_loop}
use Rattle.walk_clashes.proofs.Crossed.{face_of_lem, vertex_in_lem, vertex_low, pierce_is, number_low, faces_on}
use Rattle.walk_clashes.proofs.hits.join_edge.Goals as goal

abbrev EdgeAt : goal.Then-not-crosses → Type 0
EdgeAt c = let a = c.args in EdgeLent a.xyz.now a.rows.now a.number.now a.on.now a.g a.m a.a a.b

-- what the code's test says
pierces : (c : goal.Then-not-crosses) (w : EdgeAt c) {t : Bool} → c.crosses.result ≡ t
    → edge_pierces (wire_of w.lent.known) (known_loop w.lent.known) (edge c.args.a c.args.b) ≡ t
pierces c w e = sym (c.crosses.ensures ∙ pierce_is w.lent _ _ w.a_low w.b_low) ∙ e

-- both vertices are in the table of pairs, and the number in that of words
low : (c : goal.Else-not-crosses) → (c.args.a < most_vertices) × (c.args.b < most_vertices)
low c = let w = c.requires in (vertex_low w.lent.known _ w.a_low, vertex_low w.lent.known _ w.b_low)

low-2 : (c : goal.After-way_told-1) → (c.args.a < most_vertices) × (c.args.b < most_vertices)
low-2 c = let w = c.requires in (vertex_low w.lent.known _ w.a_low, vertex_low w.lent.known _ w.b_low)

edge_low : (c : goal.After-at-arg-1) → c.wide-e.result < most_edges
edge_low c =
    let w = c.requires in
    number_low w.lent _ _ w.a_low w.b_low w.tied c.wide-e.result c.wide-e.ensures

abbrev EdgeAt-2 : goal.After-or → Type 0
EdgeAt-2 c = let a = c.args in EdgeLent a.xyz.now a.rows.now a.number.now a.on.now a.g a.m a.a a.b

pierces-2 : (c : goal.After-or) (w : EdgeAt-2 c) {t : Bool} → c.crosses.result ≡ t
    → edge_pierces (wire_of w.lent.known) (known_loop w.lent.known) (edge c.args.a c.args.b) ≡ t
pierces-2 c w e = sym (c.crosses.ensures ∙ pierce_is w.lent _ _ w.a_low w.b_low) ∙ e

pub crosses-requires : goal.crosses-requires
crosses-requires c =
    let w = c.requires in
    record {
      face = face_of_lem w.lent.known;
      a_in = vertex_in_lem w.lent.known _ w.a_low;
      b_in = vertex_in_lem w.lent.known _
          w.b_low;
    }

pub returns-then-not-crosses : goal.returns-then-not-crosses
returns-then-not-crosses c w s i =
    let t = pierces c w (c.if-not-crosses.true) in
    let a = c.args in
    subst (Is a.set)
    (sym (ap (λ (b : Bool). either s (cond b (map (has (edge a.a a.b)) (all_of w.lent.known)) [])) t ∙ nil_either s)) i

pub overflow_mul-a : goal.overflow_mul-a
overflow_mul-a c = omega (arith, low c)

pub overflow_add-a : goal.overflow_add-a
overflow_add-a c = omega (arith, low c)

pub bounds-number-a : goal.bounds-number-a
bounds-number-a c = omega (arith, low-2 c)

pub at-faces-requires : goal.at-faces-requires
at-faces-requires c = omega (arith, edge_low c)

pub returns : goal.returns
returns c w s i =
    let t = pierces-2 c w (c.if-not-crosses.false) in
    let a = c.args in
    let on_edge = faces_on w.lent _ _ w.a_low w.b_low w.tied c.wide-e.result c.wide-e.ensures in
    subst (Is c.or.result) (sym (ap (λ (b : Bool). either s (cond b (map (has (edge a.a a.b)) (all_of w.lent.known)) [])) t))
    (c.or.ensures s _ i (Laws.at-is c.at-faces.ensures _ on_edge))
