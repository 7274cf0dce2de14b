-- `desk_text::answer::put_answer`: each arm puts the text that its answer has. Each need goes back to where the arm's head was made, and to
-- the start.
use mathlib.Core.Path.{◌≡◌}
use native.Mathlib.Omega.{arith}
use Rattle.paper.specs.Desk.{text, answer_text}
use Rattle.desk_lines.proofs.Putting.{fits_as, puts_as}
use Rattle.desk_text.specs.Texts.{ended_of, report_of, refused_of}
use Rattle.desk_text.proofs.Parts.{one-text, several_text, none-text, many_text, long_text, refused-text}
use Rattle.desk_text.proofs.answer.put_answer.Goals as goal

one_is : (c : goal.After-put_report-arg-1) → (answer_text c.args.s.vertices c.args.s.edges c.args.answer c.args.words.now) ≡ report_of c.headed.result 1 c.args.words.now
one_is c = let a = c.args in one-text a.s a.words.now c.in-One.is c.headed.ensures

several_is : (c : goal.After-put_report-arg-in-Several-1) → (answer_text c.args.s.vertices c.args.s.edges c.args.answer c.args.words.now) ≡ report_of c.headed-in-Several.result (c.in-Several.solids) c.args.words.now
several_is c = let a = c.args in several_text a.s a.words.now c.in-Several.is c.headed-in-Several.ensures

none_is : (c : goal.After-put_ended-arg-in-NoSolid-2-1) → (answer_text c.args.s.vertices c.args.s.edges c.args.answer c.args.words.now) ≡ ended_of c.headed-in-NoSolid.result (text "no solid\n")
none_is c = let a = c.args in none-text a.s a.words.now c.in-NoSolid.is c.headed-in-NoSolid.ensures

many_is : (c : goal.After-put_ended-arg-in-Many-3-1) → (answer_text c.args.s.vertices c.args.s.edges c.args.answer c.args.words.now) ≡ ended_of c.headed-in-Many.result (text "many\n")
many_is c = let a = c.args in many_text a.s a.words.now c.in-Many.is c.headed-in-Many.ensures

long_is : (c : goal.After-put_ended-arg-in-TooLong-3-1) → (answer_text c.args.s.vertices c.args.s.edges c.args.answer c.args.words.now) ≡ ended_of c.headed-in-TooLong.result (text "too long\n")
long_is c = let a = c.args in long_text a.s a.words.now c.in-TooLong.is c.headed-in-TooLong.ensures

refused_is : (c : goal.After-put_refused-arg-1) → (answer_text c.args.s.vertices c.args.s.edges c.args.answer c.args.words.now) ≡ refused_of c.in-Refused.r
refused_is c = let a = c.args in refused-text a.s a.words.now c.in-Refused.is

one_is-2 : (c : goal.After-slice_known-in-One-1) → (answer_text c.args.s.vertices c.args.s.edges c.args.answer c.args.words.now) ≡ report_of c.headed.result 1 c.args.words.now
one_is-2 c = let a = c.args in one-text a.s a.words.now c.in-One.is c.headed.ensures

several_is-2 : (c : goal.After-slice_known-in-Several-1) → (answer_text c.args.s.vertices c.args.s.edges c.args.answer c.args.words.now) ≡ report_of c.headed-in-Several.result (c.in-Several.solids) c.args.words.now
several_is-2 c = let a = c.args in several_text a.s a.words.now c.in-Several.is c.headed-in-Several.ensures

none_is-2 : (c : goal.After-slice_known-in-NoSolid-1) → (answer_text c.args.s.vertices c.args.s.edges c.args.answer c.args.words.now) ≡ ended_of c.headed-in-NoSolid.result (text "no solid\n")
none_is-2 c = let a = c.args in none-text a.s a.words.now c.in-NoSolid.is c.headed-in-NoSolid.ensures

many_is-2 : (c : goal.After-slice_known-in-Many-1) → (answer_text c.args.s.vertices c.args.s.edges c.args.answer c.args.words.now) ≡ ended_of c.headed-in-Many.result (text "many\n")
many_is-2 c = let a = c.args in many_text a.s a.words.now c.in-Many.is c.headed-in-Many.ensures

long_is-2 : (c : goal.After-slice_known-in-TooLong-1) → (answer_text c.args.s.vertices c.args.s.edges c.args.answer c.args.words.now) ≡ ended_of c.headed-in-TooLong.result (text "too long\n")
long_is-2 c = let a = c.args in long_text a.s a.words.now c.in-TooLong.is c.headed-in-TooLong.ensures

refused_is-2 : (c : goal.After-slice_known-in-Refused-1) → (answer_text c.args.s.vertices c.args.s.edges c.args.answer c.args.words.now) ≡ refused_of c.in-Refused.r
refused_is-2 c = let a = c.args in refused-text a.s a.words.now c.in-Refused.is

-- ---- the needs

pub put_report-requires : goal.put_report-requires
put_report-requires c =
    let p = c.requires in
    record { words = omega (arith, p.words); fits = fits_as (one_is c) p.fits }

pub put_report-requires-in-Several : goal.put_report-requires-in-Several
put_report-requires-in-Several c =
    let p = c.requires in
    let n = p.few _ _ _ (c.in-Several.solids) c.in-Several.is in
    record { words = omega (arith, p.words, n); fits = fits_as (several_is c) p.fits }

pub put_ended-requires : goal.put_ended-requires
unfolding text
put_ended-requires c = fits_as (none_is c) c.requires.fits

pub put_ended-requires-in-Many : goal.put_ended-requires-in-Many
unfolding text
put_ended-requires-in-Many c = fits_as (many_is c) c.requires.fits

pub put_ended-requires-in-TooLong : goal.put_ended-requires-in-TooLong
unfolding text
put_ended-requires-in-TooLong c = fits_as (long_is c) c.requires.fits

pub put_refused-requires : goal.put_refused-requires
put_refused-requires c = fits_as (refused_is c) c.requires.fits

pub returns-in-One : goal.returns-in-One
returns-in-One c = puts_as (one_is-2 c) c.put_report.ensures

pub returns-in-Several : goal.returns-in-Several
returns-in-Several c = puts_as (several_is-2 c) c.put_report-in-Several.ensures

pub returns-in-NoSolid : goal.returns-in-NoSolid
unfolding text
returns-in-NoSolid c = puts_as (none_is-2 c) c.put_ended.ensures

pub returns-in-Many : goal.returns-in-Many
unfolding text
returns-in-Many c = puts_as (many_is-2 c) c.put_ended-in-Many.ensures

pub returns-in-TooLong : goal.returns-in-TooLong
unfolding text
returns-in-TooLong c = puts_as (long_is-2 c) c.put_ended-in-TooLong.ensures

pub returns-in-Refused : goal.returns-in-Refused
returns-in-Refused c = puts_as (refused_is-2 c) c.put_refused.ensures
