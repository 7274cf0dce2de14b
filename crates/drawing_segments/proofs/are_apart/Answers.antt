-- `drawing_segments::are_apart`: each coordinate is handed on as it is; an axis is asked where those before it don't part the boxes.
use mathlib.Core.Bool.{Bool, ◌||◌}
use mathlib.Core.Path.{◌≡◌, sym, ap, ◌∙◌}
use Rattle.fast_meets.specs.Boxes.{clear, boxes_apart}
use Rattle.drawing_segments.proofs.Bits.{clear-read}
use Rattle.drawing_segments.proofs.are_apart.Goals as goal

-- ---- what the code found of each axis is what the definition says of it

along-x : (c : goal.Then-clear)
    → let s = c.args.s in
    let t = c.args.t in
    c.clear.result ≡ clear s.low.x s.high.x t.low.x t.high.x
along-x c =
    let s = c.args.s in
    let t = c.args.t in
    let sg = c.struct_told-1.given in
    let tg = c.struct_told-4-1.given in
    c.clear.ensures
    ∙ clear-read s.low.x s.high.x t.low.x t.high.x sg.0.1.1.0.1 sg.1.0.1.1.0.1 tg.0.1.1.0.1
    tg.1.0.1.1.0.1

along-x-2 : (c : goal.Then-clear-2)
    → let s = c.args.s in
    let t = c.args.t in
    c.clear.result ≡ clear s.low.x s.high.x t.low.x t.high.x
along-x-2 c =
    let s = c.args.s in
    let t = c.args.t in
    let sg = c.struct_told-1.given in
    let tg = c.struct_told-4-1.given in
    c.clear.ensures
    ∙ clear-read s.low.x s.high.x t.low.x t.high.x sg.0.1.1.0.1 sg.1.0.1.1.0.1 tg.0.1.1.0.1
    tg.1.0.1.1.0.1

along-y : (c : goal.Then-clear-2)
    → let k = c.args in
    c.clear-2.result ≡ clear k.s.low.y k.s.high.y k.t.low.y k.t.high.y
along-y c =
    let s = c.args.s in
    let t = c.args.t in
    let sg = c.struct_told-1.given in
    let tg = c.struct_told-4-1.given in
    c.clear-2.ensures
    ∙ clear-read s.low.y s.high.y t.low.y t.high.y sg.0.1.1.1.0.1 sg.1.0.1.1.1.0.1 tg.0.1.1.1.0.1
    tg.1.0.1.1.1.0.1

along-x-3 : (c : goal.After-clear-3)
    → let s = c.args.s in
    let t = c.args.t in
    c.clear.result ≡ clear s.low.x s.high.x t.low.x t.high.x
along-x-3 c =
    let s = c.args.s in
    let t = c.args.t in
    let sg = c.struct_told-1.given in
    let tg = c.struct_told-4-1.given in
    c.clear.ensures
    ∙ clear-read s.low.x s.high.x t.low.x t.high.x sg.0.1.1.0.1 sg.1.0.1.1.0.1 tg.0.1.1.0.1
    tg.1.0.1.1.0.1

along-y-2 : (c : goal.After-clear-3)
    → let k = c.args in
    c.clear-2.result ≡ clear k.s.low.y k.s.high.y k.t.low.y k.t.high.y
along-y-2 c =
    let s = c.args.s in
    let t = c.args.t in
    let sg = c.struct_told-1.given in
    let tg = c.struct_told-4-1.given in
    c.clear-2.ensures
    ∙ clear-read s.low.y s.high.y t.low.y t.high.y sg.0.1.1.1.0.1 sg.1.0.1.1.1.0.1 tg.0.1.1.1.0.1
    tg.1.0.1.1.1.0.1

along-z : (c : goal.After-clear-3)
    → let k = c.args in
    c.clear-3.result ≡ clear k.s.low.z k.s.high.z k.t.low.z k.t.high.z
along-z c =
    let s = c.args.s in
    let t = c.args.t in
    let sg = c.struct_told-1.given in
    let tg = c.struct_told-4-1.given in
    c.clear-3.ensures
    ∙ clear-read s.low.z s.high.z t.low.z t.high.z sg.0.1.1.1.1.0.1 sg.1.0.1.1.1.1.0.1
    tg.0.1.1.1.1.0.1 tg.1.0.1.1.1.1.0.1

-- ---- the needs

pub returns-then-clear : goal.returns-then-clear
unfolding boxes_apart
returns-then-clear c =
    let a = c.args in
    let y = clear a.s.low.y a.s.high.y a.t.low.y a.t.high.y in
    let z = clear a.s.low.z a.s.high.z a.t.low.z a.t.high.z in
    ap (λ (b : Bool). b || y || z) (sym c.if-clear.true ∙ along-x c)

pub returns-then-clear-2 : goal.returns-then-clear-2
unfolding boxes_apart
returns-then-clear-2 c =
    let a = c.args in
    let z = clear a.s.low.z a.s.high.z a.t.low.z a.t.high.z in
    λ i. (sym c.if-clear.false ∙ along-x-2 c) i || (sym c.if-clear-2.true ∙ along-y c) i || z

pub returns : goal.returns
unfolding boxes_apart
returns c =
    λ i. (sym c.if-clear.false ∙ along-x-3 c) i || (sym c.if-clear-2.false ∙ along-y-2 c) i || along-z c i
