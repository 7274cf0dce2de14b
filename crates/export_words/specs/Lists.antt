-- A sheet read into two lent lists: "Reading a sheet applies refusals 3 to 10", and then 1 where a list is too short.
use Rattle.std.specs.Prelude.{List, [], ◌∷◌, ◌++◌, ◌≡◌, ℕ, ◌*◌, ltb, ℤ, length, take, drop, Ok, Err}
use Rattle.paper.specs.Refusals as No
use Rattle.paper.specs.Refusals.{Check, check, offends, first_of, Answer}
use Rattle.paper.specs.Format.{vertices_in, edges_in, coordinates_in, ends_in, edition_of}
use Rattle.paper.specs.Sheet.{sheet_checks}
use Rattle.paper.specs.Reading.{Said, fine, refused}
use Rattle.paper.specs.declared.Drawing.{Drawing}
use Rattle.export_words.specs.Words.{Tells}

-- what is said, and both lists at exit
pub record Read : Type 0 where
  pub said : Said
  pub xyz : List ℤ
  pub ends : List ℕ

-- 1: room for the coordinates; room for the ends
unfoldable pub room_checks : List ℤ → List ℕ → List ℤ → List ℕ → List Check
room_checks points links xyz ends =
    check No.NoRoom (offends (ltb (length xyz) (length points)) 0)
    ∷ check No.NoRoom (offends (ltb (length ends) (length links)) 1)
    ∷ []

-- by what the checks say, of v vertices and e edges: a refusal leaves the lists as they came, and later room keeps its contents
abbrev pub read_for : Answer → ℕ → ℕ → List ℤ → List ℕ → List ℤ → List ℕ → Read
read_for (Ok _) v e points links xyz ends = record {
  said = fine (v ∷ e ∷ []);
  xyz = points ++ drop (length points) xyz;
  ends = links ++ drop (length links) ends;
}
read_for (Err r) v e points links xyz ends = record { said = refused r; xyz = xyz; ends = ends }

unfoldable pub read_into : List ℕ → List ℤ → List ℕ → Read
read_into s xyz ends =
    let points = coordinates_in (edition_of s) s in
    let links = ends_in (edition_of s) s in
    read_for (first_of (sheet_checks (edition_of s) s ++ room_checks points links xyz ends)) (vertices_in (edition_of s) s)
    (edges_in (edition_of s) s) points links
    xyz ends

pub record ReadsAs (x : Read) (r : ℕ) (xyz : List ℤ) (ends words₀ words : List ℕ) : Type 0 where
  pub xyz_are : xyz ≡ x.xyz
  pub ends_are : ends ≡ x.ends
  pub tells : Tells x.said r words₀ words

-- ---- of a drawing by value: its lists stand in front of its arrays

abbrev pub Handed : Drawing → List ℤ → List ℕ → ℕ → List ℤ → List ℕ → List ℕ → List ℕ → Type 0
Handed d xyz₀ ends₀ r xyz ends words₀ words =
    let points = take (3 * d.vertices) d.xyz in
    let links = take (2 * d.edges) d.ends in
    ReadsAs (read_for (first_of (room_checks points links xyz₀ ends₀)) d.vertices d.edges points links xyz₀ ends₀) r xyz ends words₀ words
