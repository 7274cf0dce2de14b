-- `clash_fold::angle_holds`: the code asks a convex and a reflex corner at once.
use Rattle.clash_fold.proofs.Angles.{angle_is}
use Rattle.clash_fold.proofs.angle_holds.Goals as goal

pub returns : goal.returns
returns c = angle_is c.args.convex c.args.l c.args.r
