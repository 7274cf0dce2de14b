-- `export_words::words::written_said`: each arm knows which answer it has.
use Rattle.paper.specs.Reading.{written_says}
use mathlib.Core.Path.{refl}
use native.Mathlib.Omega.{arith}
use Rattle.export_words.proofs.Telling.{said_as}
use Rattle.export_words.proofs.words.written_said.Goals as goal

pub returns-in-Ok : goal.returns-in-Ok
returns-in-Ok c = said_as written_says c.in-Ok.is (record { telling = record { few = omega arith; long = refl }; are = refl })

pub returns-in-Err : goal.returns-in-Err
returns-in-Err c = said_as written_says c.in-Err.is c.refusal_said.ensures
