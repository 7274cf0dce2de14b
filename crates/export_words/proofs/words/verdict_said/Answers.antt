-- `export_words::words::verdict_said`: each arm knows which verdict it has.
use mathlib.Core.Path.{refl}
use native.Mathlib.Omega.{arith}
use Rattle.paper.specs.Reading.{verdict_says}
use Rattle.export_words.proofs.Telling.{said_as}
use Rattle.export_words.proofs.words.verdict_said.Goals as goal

pub returns-in-Err : goal.returns-in-Err
returns-in-Err c = said_as verdict_says c.in-Err.is c.refusal_said.ensures

pub returns-in-Ok : goal.returns-in-Ok
returns-in-Ok c = said_as verdict_says c.in-Ok.is (record { telling = record { few = omega arith; long = refl }; are = refl })
