-- `verdict::faces::faces_checked`: the list is read, its faces are named, and they are tested; each step that refuses is the first check
-- that applies.
use mathlib.Core.Path.{refl, subst, ◌∙◌}
use lib.ListN.{length}
use native.Mathlib.Omega.{arith}
use Rattle.std.proofs.lemmas.Result.{err_from_is_err_and}
use Rattle.paper.specs.Format.{edition_for}
use Rattle.paper.specs.FaceList.{faces_in}
use Rattle.paper.specs.Verdict.{listed, face_checks}
use Rattle.verdict.specs.Checked.{ListChecked}
use Rattle.verdict.proofs.Read.{shape_stops, shape_passes, some_faces, few_faces, faces_held, cornered}
use Rattle.verdict.proofs.Naming.{naming_stops, numbers_narrow, list_tested}
use Rattle.verdict.proofs.Deciding.{refused_so}
use Rattle.paper_laws.proofs.Editions.{limited_for}
use Rattle.verdict.proofs.faces.faces_checked.Goals as goal

pub returns-in_err-faces : goal.returns-in_err-faces
returns-in_err-faces c =
    let a = c.args in
    let f = edition_for a.v a.m in
    let p = err_from_is_err_and c.from_residual.result c.from_residual.ensures.1 in
    λ cs t held lent.
    rw (p.1, p.2)
    (refused_so (shape_stops f a.v a.list.now c.in_err-faces.ensures (face_checks t (length cs) (listed cs (faces_in f a.list.now))) refl))

pub named-requires : goal.named-requires
named-requires c =
    let a = c.args in
    let f = edition_for a.v a.m in
    let p = c.requires in
    let read = c.in_ok-faces.ensures in
    record {
      few = few_faces f a.v a.list.now read refl (limited_for a.v a.m);
      few_candidates = p.few;
      cornered = cornered f a.v a.list.now read refl;
      rows_long = p.rows_long;
      numbers_long = refl;
    }

pub returns-in_err-s : goal.returns-in_err-s
returns-in_err-s c =
    let a = c.args in
    let f = edition_for a.v a.m in
    let r = c.from_residual-in_err-s in
    let p = err_from_is_err_and r.result r.ensures.1 in
    let read = c.in_ok-faces.ensures in
    λ cs t held lent.
    let fs = faces_in f a.list.now in
    let rest = face_checks t (length cs) (listed cs fs) in
    let named = c.in_err-s.ensures.same fs cs (faces_held f a.v a.list.now read refl) held in
    rw (p.1, p.2) (refused_so (naming_stops cs fs t named ∙ shape_passes f a.v a.list.now read refl rest))

pub tested-requires : goal.tested-requires
tested-requires c =
    let a = c.args in
    let f = edition_for a.v a.m in
    let p = c.requires in
    let read = c.in_ok-faces.ensures in
    let most = few_faces f a.v a.list.now read refl (limited_for a.v a.m) in
    let rows = faces_held f a.v a.list.now read refl in
    let h = c.in_ok-s.ensures.same (faces_in f a.list.now) p.loops rows p.held in
    record {
      edges = p.edges;
      small = p.small;
      faces = record {
        some = some_faces f a.v a.list.now read refl;
        few = most;
        held = omega (arith, most, c.in_ok-s.ensures.long);
        narrow = numbers_narrow p.loops (faces_in f a.list.now) h rows.count (omega (arith, p.held.count, p.few));
      };
    }

pub returns-in-Ok : goal.returns-in-Ok
returns-in-Ok c =
    let a = c.args in
    subst (ListChecked _ _ _ _ _ _) c.in-Ok.is (list_tested a.list.now a.v a.m c.in_ok-faces.ensures c.in_ok-s.ensures c.tested.ensures)

pub returns-in-Err : goal.returns-in-Err
returns-in-Err c =
    let a = c.args in
    subst (ListChecked _ _ _ _ _ _) c.in-Err.is (list_tested a.list.now a.v a.m c.in_ok-faces.ensures c.in_ok-s.ensures c.tested.ensures)
