-- The faces of a solid go round a point: some apex sees them, all that do tell one number, and it is 0 far away.
use Prim.Native.Nat.{ℕ, ◌<◌}
use lib.ListN.{length}
use Rattle.paper.specs.Loops.{loop_at, candidates}
use Rattle.means_loops.specs.Path.{ClosedPath}
use Rattle.means_loops.proofs.Listing.{candidates_are}
use Rattle.means_loops.proofs.OwnPlane.{candidates-flat}
use Rattle.means_loops.proofs.Paths.{loop_path}
use Rattle.means_loops.proofs.Planes.{places_differ}
use Rattle.means_region.specs.Winding.{away, FacesWind}
use Rattle.means_region.proofs.Apex.{any}
use Rattle.means_region.proofs.Some.{some_apex_of}
use Rattle.means_region.proofs.Far.{far}

pub faces_wind : FacesWind
faces_wind d places taken turned s =
    let cs = candidates d in
    let paths : (k : ℕ) → k < length cs → ClosedPath d (loop_at cs k)
    = λ k h. loop_path d places (loop_at cs k) (candidates_are d k h).loop in
    let own = candidates-flat d places in
    record {
      some_apex = λ n up p off. let a = some_apex_of d cs taken turned n p paths own s off up (places_differ d places) in
          (a.0, record { planes = off; apart = a.1 });
      any_apex = λ n p a b sa sb. any d cs taken turned n p paths own s sa.planes (away n p a) (away n p b) sa.apart sb.apart;
      far_away = λ n p a sa m ahead. far d cs taken turned n p paths own s sa.planes m ahead (away n p a) sa.apart;
    }
