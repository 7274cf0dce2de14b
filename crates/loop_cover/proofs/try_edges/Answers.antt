-- `loop_cover::try_edges`: an edge that is known to be outside settles it, and else those that are left are asked.
use mathlib.Core.Bool.{Bool, true, false, ◌&&◌, cond}
use mathlib.Core.Path.{◌≡◌, ap, subst, sym, ◌∙◌}
use Rattle.fast_tables.specs.Asked.{free}
use Rattle.loop_cover.specs.Midpoints.{AskedIs, asked_now}
use Rattle.loop_cover.proofs.Asking.{free_is}
use Rattle.loop_cover.proofs.try_edges.Goals as goal

pub returns-then-not-is_empty : goal.returns-then-not-is_empty
returns-then-not-is_empty c mask g w s =
    let a = c.args in
    let after = asked_now a.xyz.now a.ends.now a.table.now a.k mask g in
    let known = free_is mask g c.is_empty.ensures (c.and.ensures mask g.outside w.is s.outside_is) in
    let no : free mask g ≡ false = sym known ∙ c.if-not-is_empty.true in
    record {
      asked_is = subst (λ (b : Bool). AskedIs a.f (cond b after g)) (sym no) s;
      covers_is = sym (ap (λ (b : Bool). b && free mask after) no);
    }

pub returns : goal.returns
returns c mask g w s =
    let a = c.args in
    let after = asked_now a.xyz.now a.ends.now a.table.now a.k mask g in
    let known = free_is mask g c.is_empty.ensures (c.and.ensures mask g.outside w.is s.outside_is) in
    let yes : free mask g ≡ true = sym known ∙ c.if-not-is_empty.false in
    let now = c.ask-g.ensures mask g w s in
    record {
      asked_is = subst (λ (b : Bool). AskedIs c.ask-g.result (cond b after g)) (sym yes) now;
      covers_is =
          free_is mask after c.is_empty-2.ensures (c.and-2.ensures mask after.outside w.is now.outside_is)
          ∙ sym (ap (λ (b : Bool). b && free mask after) yes);
    }
