-- `drawing_segments::cut`: both answers from one t, s and m, none of them too large.
use mathlib.Core.Path.{◌∙◌, ap}
use Rattle.paper.specs.Drawing.{cuts_open}
use Rattle.paper.specs.Points.{dot}
use Rattle.paper.specs.declared.Point.{Point}
use Rattle.polygon.proofs.Sizes.{cross_small, small_eq, small_up}
use Rattle.polygon.proofs.Zeros.{reads_back}
use Rattle.drawing_segments.specs.Ways.{answers}
use Rattle.drawing_segments.proofs.cut.Goals as goal

-- ---- the needs

pub dot-t-requires : goal.dot-t-requires
dot-t-requires c =
    let s = c.requires in
    record { a_in = small_eq c.cross.ensures (small_up tt (cross_small s.r_in s.q_in)); b_in = s.n_in }

pub dot-s-requires : goal.dot-s-requires
dot-s-requires c =
    let s = c.requires in
    record { a_in = small_eq c.cross-2.ensures (small_up tt (cross_small s.r_in s.p_in)); b_in = s.n_in }

pub returns : goal.returns
returns c =
    let n = c.args.n in
    let t = reads_back c.dot-t.result c.dot-t.type_inv ∙ c.dot-t.ensures ∙ ap (λ (w : Point). dot w n) c.cross.ensures in
    let s = reads_back c.dot-s.result c.dot-s.type_inv ∙ c.dot-s.ensures ∙ ap (λ (w : Point). dot w n) c.cross-2.ensures in
    let m = reads_back c.dot-m.result c.dot-m.type_inv ∙ c.dot-m.ensures in
    let one = c.cuts_open.ensures ∙ (λ i. cuts_open (t i) (s i) (m i)) in
    let other = c.cuts_open-2.ensures ∙ (λ i. cuts_open (s i) (t i) (m i)) in
    λ i. answers (one i) (other i)
