-- Document 01's table, 20 to 27: what offends of a face list, and at which places.
use Rattle.std.specs.Prelude.{◌≡◌, Bool, ◌⊎◌, List, ℕ, ◌≤◌, ◌<◌, pos, length, get_or}
use Rattle.pack.specs.Bits.{field_at}
use Rattle.paper.specs.Format.{bytes_for, fill_after}
use Rattle.paper.specs.Drawing.{Wire, edge_at}
use Rattle.paper.specs.Loops.{Loop, loop_at, flipped, polygon}
use Rattle.paper.specs.FaceList.{count_in, faces_in, bits_of}
use Rattle.paper.specs.Verdict.{list_edition, listed}
use Rattle.paper.specs.declared.Format.{Format}
use Rattle.paper.specs.Refusals.{Answer}
use Rattle.means_solid.specs.Solid.{Face, InTwo, EachWay, Way, six_of_faces}
use Rattle.means_solid.specs.Named.{SameRing, directed, Names}
use Rattle.means_clash.specs.Clash.{ClashOf}
use Rattle.demands.specs.Table.{Outside, line, one}

-- a face of 3 to 12 corners, all below v; faces that a list can hold
abbrev pub Corners : ℕ → Loop → Type 0
Corners v l = (3 ≤ length l) × (length l ≤ 12) × ((j : ℕ) → j < length l → get_or l j 0 < v)

-- 20 ShellShape: "counts, length, fill, edition or corner number", of a list that is good for a drawing of v vertices, in edition f
pub record Shape (f : Format) (v : ℕ) (list : List ℕ) : Type 0 where
  pub edition : field_at list 0 4 ≡ 1
  pub count : (4 ≤ count_in f list) × (count_in f list ≤ 42)
  pub corners : (i : ℕ) → i < length (faces_in f list) → Corners v (loop_at (faces_in f list) i)
  pub size : length list ≡ bytes_for (bits_of f (faces_in f list))
  pub fill : fill_after (bits_of f (faces_in f list)) list ≡ 0

-- of one that is sent for a drawing: it is in the drawing's edition, and has these faces
abbrev pub GoodList : Wire → List ℕ → Type 0
GoodList d list = Shape (list_edition d) (length d.vertices) list

abbrev pub sent_faces : Wire → List ℕ → List Loop
sent_faces d list = faces_in (list_edition d) list

-- f and g are one ring of corners, "in any direction or start"
abbrev pub Either : Loop → Loop → Type 0
Either f g = SameRing f g ⊎ SameRing (flipped f) g

module _ (d : Wire) (cs fs : List Loop) where
  -- the candidates that the faces are, those of them that are run against their normal form, and the candidate of face i; `NamedByList` says
  -- so in words
  abbrev pub taken_by : List Bool
  taken_by = (listed cs fs).taken

  abbrev pub turned_by : List Bool
  turned_by = (listed cs fs).turned

  abbrev pub candidate_at : ℕ → ℕ
  candidate_at i = get_or (listed cs fs).numbers i 0

  -- 21, of a face: it is no candidate. 22, of a face: it is an earlier one
  abbrev pub NoCandidate : ℕ → Type 0
  NoCandidate i = (k : ℕ) → k < length cs → Either (loop_at cs k) (loop_at fs i) → ⊥

  abbrev pub AnEarlierFace : ℕ → Type 0
  AnEarlierFace i = (j : ℕ) × (j < i) × Either (loop_at fs j) (loop_at fs i)

  -- what 23 to 27 speak of, once 21 and 22 have passed: the list names these two sets, and face i is its candidate in that direction
  pub record NamedByList : Type 0 where
    pub names : Names d cs taken_by turned_by fs
    pub face : (i : ℕ) → i < length fs → Face d cs taken_by turned_by (candidate_at i)
    pub ring : (i : ℕ) → i < length fs → SameRing (directed d cs taken_by turned_by (candidate_at i)) (loop_at fs i)

  abbrev pub ListedOnce : Type 0
  ListedOnce = ((i : ℕ) → i < length fs → NoCandidate i → ⊥) → ((i : ℕ) → i < length fs → AnEarlierFace i → ⊥) → NamedByList

  -- 23, of an edge: "not two faces". 24, of an edge: not once each way
  abbrev pub NotTwoFaces : ℕ → Type 0
  NotTwoFaces e = InTwo d cs taken_by turned_by (edge_at d e) → ⊥

  abbrev pub NotOnceEachWay : ℕ → Type 0
  NotOnceEachWay e = EachWay d cs taken_by turned_by (edge_at d e) → ⊥

  -- 25, of a face: "not joined to face 0". 26: "six volumes not above 0". 27, of a face: it clashes with another
  abbrev pub NotJoined : ℕ → Type 0
  NotJoined i = Way d cs taken_by turned_by (candidate_at 0) (candidate_at i) → ⊥

  abbrev pub NoVolume : Type 0
  NoVolume = (six : ℕ) → six_of_faces d cs taken_by turned_by 0 cs ≡ pos six → 0 < six → ⊥

  abbrev pub ClashesWithAnother : ℕ → Type 0
  ClashesWithAnother i =
      (k : ℕ) × Face d cs taken_by turned_by k × (candidate_at i ≡ k → ⊥)
      × ClashOf (polygon d (loop_at cs (candidate_at i))) (polygon d (loop_at cs k))

  -- 20, 26: 0. 21, 22, 25, 27: "face". 23, 24: "edge"
  abbrev pub shells : (Answer → Type 0) → Answer → Type 0
  shells below =
      line 21 (length fs) NoCandidate
      (line 22 (length fs) AnEarlierFace
      (line 23 (length d.edges) NotTwoFaces
      (line 24 (length d.edges) NotOnceEachWay
      (line 25 (length fs) NotJoined (one 26 NoVolume (line 27 (length fs) ClashesWithAnother below))))))

-- what is sent as a face list: 20 where these are no faces of one, and then 1, "room shorter"
abbrev pub NoList : List Loop → Type 0
NoList fs = Outside 4 42 (length fs) ⊎ (((i : ℕ) → i < length fs → Corners 32 (loop_at fs i)) → ⊥)
