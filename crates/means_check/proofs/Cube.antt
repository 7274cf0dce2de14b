-- The cube of document 01 is a solid of its drawing, in plain mathematics: its list is accepted, by evaluation.
use mathlib.Core.Path.{◌≡◌, refl}
use Rattle.paper.specs.Sheet.{lent_checks}
use Rattle.paper.specs.Drawing.{wire}
use Rattle.paper.specs.FaceList.{encode_faces}
use Rattle.paper.specs.Verdict.{list_edition, verdict}
use Rattle.paper.specs.Questions.{reply}
use Rattle.paper.specs.Known.Drawings.{cube, outward}
use Rattle.paper.specs.Refusals.{ListAccepted}
use Rattle.means_check.proofs.Demand.{BodyOfSolid, accepted_body}

cube-accepted : verdict (lent_checks cube.xyz cube.ends) (wire cube.xyz cube.ends)
    (encode_faces (list_edition (wire cube.xyz cube.ends)) outward) ≡ ListAccepted
unfolding reply
cube-accepted = refl

pub cube-solid : BodyOfSolid (lent_checks cube.xyz cube.ends) (wire cube.xyz cube.ends)
    (encode_faces (list_edition (wire cube.xyz cube.ends)) outward)
cube-solid =
    accepted_body (lent_checks cube.xyz cube.ends) (wire cube.xyz cube.ends) (encode_faces (list_edition (wire cube.xyz cube.ends)) outward)
    cube-accepted
