-- What a report says after a move: the same faces, each taken one the other way round where the move mirrors, and six volumes as many
-- times as large as the move makes them.
use Rattle.std.specs.Prelude.{◌≡◌, Bool, true, false, cond, List, map, ℕ, ◌*◌, ℤ, pos, negsuc, length}
use Rattle.sets.specs.Word.{dig, less}
use Rattle.paper.specs.Solids.{Judgement, Fails, Solid}
use Rattle.paper.specs.Conversion.{Converted}
use Rattle.paper.specs.declared.Conversion.{Conversion}
use Rattle.means_report.specs.Listed.{Entry}
use Rattle.means_report.specs.Report.{solid_count, solids_for}

-- a factor below 0 exchanges the sides of every plane
abbrev pub turns_by : ℤ → Bool
turns_by (pos n) = false
turns_by (negsuc n) = true

-- a solid, moved; an answer, which tells six volumes where there is one solid
abbrev pub carried : Bool → ℕ → Entry → Entry
carried turns by e = record { taken = e.taken; turned = cond turns (less e.taken e.turned) e.turned; six = by * e.six }

abbrev pub grown : ℕ → Conversion → Conversion
grown by (Conversion.One l c w six) = Conversion.One l c w (by * six)
grown by (Conversion.Several l c w n) = Conversion.Several l c w n
grown by (Conversion.NoSolid l c w) = Conversion.NoSolid l c w
grown by (Conversion.Many l c w) = Conversion.Many l c w
grown by (Conversion.TooLong l c w) = Conversion.TooLong l c w
grown by (Conversion.Refused r) = Conversion.Refused r

-- what a selection is judged to be
pub data Judged (turns : Bool) (by : ℕ) (taken : List Bool) : Judgement → Judgement → Type 0 where
  fail : Judged turns by taken Fails Fails
  solid : (ts us : List Bool) (six : ℕ) → ((k : ℕ) → dig us k ≡ dig (cond turns (less taken ts) ts) k)
      → Judged turns by taken (Solid ts six) (Solid us (by * six))

-- two conversions: the solids of the one are `es`, as many as its answer says, and those of the other are these, moved
pub record FollowsMoved (turns : Bool) (by : ℕ) (solids : List ℕ) (r q : Converted) : Type 0 where
  pub answers : q.answer ≡ grown by r.answer
  pub rows : q.faces ≡ r.faces
  pub es : List Entry
  pub count : length es ≡ solid_count r.answer
  pub words : r.solids ≡ solids_for solids es
  pub moved : q.solids ≡ solids_for solids (map (carried turns by) es)

-- a solid "with every taken face's direction bit flipped"
abbrev pub flip : Entry → Entry
flip e = record { taken = e.taken; turned = less e.taken e.turned; six = e.six }

-- answer and faces are the same; the solids are `es`, and these turned
pub record Mirrored (solids : List ℕ) (r q : Converted) : Type 0 where
  pub answers : q.answer ≡ r.answer
  pub rows : q.faces ≡ r.faces
  pub es : List Entry
  pub count : length es ≡ solid_count r.answer
  pub words : r.solids ≡ solids_for solids es
  pub flipped : q.solids ≡ solids_for solids (map flip es)

-- a solid whose coordinates are k times as large; the answer and the solids, but for six volumes, are the same
abbrev pub enlarge : ℕ → Entry → Entry
enlarge k e = record { taken = e.taken; turned = e.turned; six = k * k * k * e.six }

pub record Scaled (k : ℕ) (solids : List ℕ) (r q : Converted) : Type 0 where
  pub answers : q.answer ≡ grown (k * k * k) r.answer
  pub rows : q.faces ≡ r.faces
  pub es : List Entry
  pub count : length es ≡ solid_count r.answer
  pub words : r.solids ≡ solids_for solids es
  pub enlarged : q.solids ≡ solids_for solids (map (enlarge k) es)
