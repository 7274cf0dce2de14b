-- The customer's demands of one call by a program in C or Rust: of the number that is returned, and of every word, double and list that was
-- lent.
use Rattle.std.specs.Prelude.{◌↔◌, Bool, List, [], ◌∷◌, ◌++◌, ◌≡◌, ℕ, ◌≤◌, ◌<◌, Float, ℤ, length, drop, Ok, Err}
use Rattle.paper.specs.Format.{vertices_in, edges_in, coordinates_in, ends_in, edition_of}
use Rattle.paper.specs.Conversion.{Converted}
use Rattle.paper.specs.Reading.{Said, fine, refused, conversion_says, verdict_says, written_says}
use Rattle.paper.specs.Reading as Paper
use Rattle.paper.specs.Refusals.{ListAccepted, Answer, Fine, Written}
use Rattle.paper.specs.declared.Conversion.{Conversion}
use Rattle.paper.specs.declared.Conversion.TheVariants as Conversion
use Rattle.paper.specs.declared.Refusal.{Refusal}
use Rattle.means_report.specs.Listed.{WalkTree}
use Rattle.export_words.specs.Words.{onto, Tells}
use Rattle.means_report.specs.Report.{solid_count}
use Rattle.demands.specs.Input.{Input, sheet, drawing, candidates_of, Passes}
use Rattle.demands.specs.Table.{line, end, forms, Two}
use Rattle.demands.specs.Shells.{GoodList, sent_faces}
use Rattle.demands.specs.Solid.{Solid, NamesOne}
use Rattle.demands.specs.Walk.{solids_of, work_of, work_to_nine, Allowed}
use Rattle.demands.specs.Sheets as Sheets
use Rattle.demanded.specs.Demanded.{Converts, Checks}

-- demand 1: there is an answer, of which the demands hold. Its number is returned, and the words begin with its number, place and values,
-- as far as they reach; the number is 0 exactly where nothing is refused
pub record Answers {A : Type 0} (says : A → Said) (Passed Demanded : A → Type 0) (r : ℕ) (words₀ words : List ℕ) : Type 0 where
  pub answer : A
  pub demanded : Demanded answer
  pub tells : Tells (says answer) r words₀ words
  pub zero : (r ≡ 0) ↔ Passed answer

-- ---- conversion

pub record EndsInWords (x : Input) (t : WalkTree (drawing x) (candidates_of x)) (limit r : ℕ) : Type 0 where
  pub none : work_of x t ≤ limit
      → (r ≡ 17) ↔ ((taken turned : List Bool) (six : ℕ) → Solid (drawing x) (candidates_of x) taken turned six → ⊥)
  pub many : (r ≡ 18) ↔ ((8 < length (solids_of x t)) × (work_to_nine x t ≤ limit))
  pub long : (r ≡ 19) ↔ (limit < work_to_nine x t)

pub record ConvertsInWords (x : Input) (limit : ℕ) (faces₀ solids₀ : List ℕ) (r : ℕ) (faces solids words₀ words : List ℕ) : Type 0 where
  pub answers : Answers conversion_says (λ a. 0 < solid_count a) (λ a. Converts x limit faces₀ solids₀ a faces solids) r words₀ words
  pub kept : (r ≡ 0 → ⊥) → (faces ≡ faces₀) × (solids ≡ solids₀)
  -- demand 2, of the number: 17 exactly where there is no solid, 18 where a ninth is met, 19 where the limit is passed
  pub ends : Passes x → (t : WalkTree (drawing x) (candidates_of x)) → Allowed limit faces₀ solids₀ → EndsInWords x t limit r

-- ---- the reading

-- a volume is shown exactly where there is one solid, and it is that solid's; 30 says exactly that there are several; a refusal says its
-- own number; and without a volume the double is as it came
pub record ShownAs (a : Conversion) (n : ℕ) (volume₀ volume : List Float) : Type 0 where
  pub one_solid : (n ≡ 0) ↔ ((l c work six : ℕ) × (a ≡ Conversion.One l c work six))
  pub shown : (l c work six : ℕ) → a ≡ Conversion.One l c work six → volume ≡ onto (Paper.volume six ∷ []) volume₀
  pub several : (n ≡ 30) ↔ ((l c work k : ℕ) × (a ≡ Conversion.Several l c work k))
  pub no_volume : 0 < (conversion_says a).number → n ≡ (conversion_says a).number
  pub kept : (n ≡ 0 → ⊥) → volume ≡ volume₀

pub record ShownIn (x : Input) (limit : ℕ) (faces₀ solids₀ : List ℕ) (n : ℕ) (volume₀ volume : List Float) : Type 0 where
  pub conversion : Converted
  pub converts : Converts x limit faces₀ solids₀ conversion.answer conversion.faces conversion.solids
  pub shows : ShownAs conversion.answer n volume₀ volume

-- whatever the rooms of a conversion are, if only they are large enough
abbrev pub AssessesInWords : Input → ℕ → ℕ → List Float → List Float → Type 0
AssessesInWords x limit n volume₀ volume =
    (faces₀ solids₀ : List ℕ) → 832 ≤ length faces₀ → 24 ≤ length solids₀ → ShownIn x limit faces₀ solids₀ n volume₀ volume

-- ---- the check

pub record ChecksInWords (x : Input) (list : List ℕ) (r : ℕ) (words₀ words : List ℕ) : Type 0 where
  pub answers : Answers verdict_says (λ v. v ≡ ListAccepted) (Checks x list) r words₀ words
  -- demand 3, of the number: it is 0 exactly where the list names one solid with its directions
  pub exactly : Passes x
      → (r ≡ 0) ↔ (GoodList (drawing x) list × NamesOne (drawing x) (candidates_of x) (sent_faces (drawing x) list))

-- ---- sheets and face lists that are written; a sheet that is read

pub record WritesInWords (Demanded : Written → Type 0) (room₀ : List ℕ) (r : ℕ) (room words₀ words : List ℕ) : Type 0 where
  pub answers : Answers written_says (λ w. (n : ℕ) × (w ≡ Ok n)) Demanded r words₀ words
  pub kept : (r ≡ 0 → ⊥) → room ≡ room₀

-- demand 1, of a sheet read into two lists: 3 to 10, and then 1 where the list for coordinates is too short, or that for ends, "0; 1"
pub record ReadsInto (s : List ℕ) (xyz₀ : List ℤ) (ends₀ : List ℕ) (a : Answer) (xyz : List ℤ) (ends : List ℕ) : Type 0 where
  pub first : forms (sheet s)
      (line 1 2 (Two (length xyz₀ < length (coordinates_in (edition_of s) s)) (length ends₀ < length (ends_in (edition_of s) s))) end)
      a
  pub kept : (f : Refusal) → a ≡ Err f → (xyz ≡ xyz₀) × (ends ≡ ends₀)
  pub lists : a ≡ Fine
      → (xyz ≡ coordinates_in (edition_of s) s ++ drop (length (coordinates_in (edition_of s) s)) xyz₀)
      × (ends ≡ ends_in (edition_of s) s ++ drop (length (ends_in (edition_of s) s)) ends₀)
  -- demand 2: written back, these lists are the same bytes
  pub again : a ≡ Fine → Sheets.Writes (coordinates_in (edition_of s) s) (ends_in (edition_of s) s) s

-- the values are the counts of vertices and edges
abbrev pub counts_said : List ℕ → Answer → Said
counts_said s (Ok _) = fine (vertices_in (edition_of s) s ∷ edges_in (edition_of s) s ∷ [])
counts_said s (Err f) = refused f

pub record ReadsInWords (s : List ℕ) (xyz₀ : List ℤ) (ends₀ : List ℕ) (r : ℕ) (xyz : List ℤ) (ends words₀ words : List ℕ) : Type 0 where
  pub answers : Answers (counts_said s) (λ a. a ≡ Fine) (λ a. ReadsInto s xyz₀ ends₀ a xyz ends) r words₀ words
  pub kept : (r ≡ 0 → ⊥) → (xyz ≡ xyz₀) × (ends ≡ ends₀)
