-- `export_words::words::conversion_said`: each arm knows which answer it has.
use Rattle.paper.specs.Reading.{conversion_says}
use mathlib.Core.Path.{refl}
use native.Mathlib.Omega.{arith}
use Rattle.export_words.proofs.Telling.{said_as}
use Rattle.export_words.proofs.words.conversion_said.Goals as goal

pub returns-in-One : goal.returns-in-One
returns-in-One c = said_as conversion_says c.in-One.is (record { telling = record { few = omega arith; long = refl }; are = refl })

pub returns-in-Several : goal.returns-in-Several
returns-in-Several c = said_as conversion_says c.in-Several.is (record { telling = record { few = omega arith; long = refl }; are = refl })

pub returns-in-NoSolid : goal.returns-in-NoSolid
returns-in-NoSolid c = said_as conversion_says c.in-NoSolid.is c.ended_said.ensures

pub returns-in-Many : goal.returns-in-Many
returns-in-Many c = said_as conversion_says c.in-Many.is c.ended_said-in-Many.ensures

pub returns-in-TooLong : goal.returns-in-TooLong
returns-in-TooLong c = said_as conversion_says c.in-TooLong.is c.ended_said-in-TooLong.ensures

pub returns-in-Refused : goal.returns-in-Refused
returns-in-Refused c = said_as conversion_says c.in-Refused.is c.refusal_said.ensures
