-- `clerk_reply::kinds::put_converted`: the answer is said and read, and the rooms are put behind. Each need goes back to the calls and to
-- the start.
use mathlib.Core.List.{List, ◌++◌}
use mathlib.Core.Path.{◌≡◌}
use Prim.Native.Nat.{ℕ}
use native.Mathlib.Omega.{arith}
use lib.Dec.{lit≤}
use lib.ListN.{length}
use Rattle.clerk_words.specs.Words.{words_bytes}
use Rattle.clerk_reply.specs.Replies.{converted_length}
use Rattle.clerk_reply.proofs.Replying.{report_long, fits-any, replied}
use Rattle.clerk_reply.proofs.Lent.{converted_is}
use Rattle.clerk_reply.proofs.kinds.put_converted.Goals as goal

-- ---- what is put: so many bytes

abbrev put : goal.After-put_report-arg-1 → List ℕ
put c =
    words_bytes c.said_words-said.result ++ words_bytes c.reading_words-shown.result ++ c.convert_sheet-c.new.faces ++ words_bytes c.convert_sheet-c.new.solids

long : (c : goal.After-put_report-arg-1) → length (put c) ≡ converted_length
long c =
    omega (arith, report_long c.said_words-said.result c.reading_words-shown.result c.convert_sheet-c.new.faces c.convert_sheet-c.new.solids)

abbrev put-2 : goal.After-slice_known-2-1 → List ℕ
put-2 c =
    words_bytes c.said_words-said.result ++ words_bytes c.reading_words-shown.result ++ c.convert_sheet-c.new.faces ++ words_bytes c.convert_sheet-c.new.solids

long-2 : (c : goal.After-slice_known-2-1) → length (put-2 c) ≡ converted_length
long-2 c =
    omega (arith, report_long c.said_words-said.result c.reading_words-shown.result c.convert_sheet-c.new.faces c.convert_sheet-c.new.solids)

-- ---- the needs

pub put_report-requires : goal.put_report-requires
put_report-requires c = fits-any (long c) (lit≤ tt) c.requires

pub returns : goal.returns
returns c =
    let a = c.args in
    replied
    (converted_is a.sheet.now a.limit c.convert_sheet-c.ensures.result c.said_words-said.ensures
    c.conversion_said.ensures c.reading_words-shown.ensures)
    (long-2 c) c.put_report.ensures
