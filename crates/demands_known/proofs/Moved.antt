-- Known drawings shifted, mirrored, turned and enlarged, and with other limits: what the demands say of them, in numbers.
use mathlib.Core.Path.{◌≡◌, refl, sym, ap, ap₂, subst, ◌∙◌}
use mathlib.Core.Bool.{Bool, true, not, ◌&&◌}
use mathlib.Core.List.{List, [], ◌∷◌, ◌++◌, map, flat_map}
use Prim.Native.Nat.{ℕ, ◌*◌, suc, zero}
use native.Mathlib.Omega.{arith}
use borrow.Author.Tests.{leb-true}
use lib.Dec.{leb}
use lib.IntN.{ℤ, pos, nat_abs}
use lib.ListN.{length, get_or, take}
use Rattle.lists.specs.Lists.{all}
use Rattle.lists.proofs.Passing.{all_yes}
use Rattle.sets.specs.Word.{digits, less, word}
use Rattle.sets.proofs.Digits.{dig-less}
use Rattle.sets.proofs.Numbers.{same_word}
use Rattle.paper.specs.Record.{entry, set_of}
use Rattle.paper.specs.Numbers.{farthest, most_work, face_room, solid_room, word_bits}
use Rattle.paper.specs.Points.{pt, plus, times}
use Rattle.paper.specs.Questions.{Drawn, neg, reply, face_before, solid_before}
use Rattle.paper.specs.Known.Drawings.{cube, outward, inward_faces, octahedron}
use Rattle.paper.specs.Loops.{Loop}
use Rattle.paper.specs.Conversion.{Converted}
use Rattle.paper.specs.Desk.{text, desk_text}
use Rattle.paper.specs.declared.Conversion.{Conversion}
use Rattle.paper.specs.declared.Point.{Point}
use Rattle.paper.specs.Refusals.{ListAccepted}
use Rattle.means_report.specs.Listed.{Entry, words_of}
use Rattle.means_report.specs.Report.{solids_for}
use Rattle.means_report.proofs.Counted.{word_same}
use Rattle.means_moves.specs.Moves.{shift, mirror, XY, mirroring, exchanging, laid}
use Rattle.means_moves.specs.Lists.{each_vertex, WithinRange}
use Rattle.means_moves.specs.TurnedRound.{AllTurned}
use Rattle.means_moves.specs.Turned.{grown, flip, Mirrored, enlarge, Scaled}
use Rattle.demands.specs.Input.{converted, checked}
use Rattle.demands.specs.Moved.{Made, Round}
use Rattle.demands.specs.Shown.{other_sign}
use Rattle.demands.proofs.Moved.{shifts, mirrors, turns, scaled, higher}
use Rattle.demands.proofs.Shape.{is_shape}
use Rattle.demands.proofs.Shown.{shown_alike}
use Rattle.demands_known.proofs.Drawings.{of, bytes, on, result, Said, said, one, cube-said, octahedron-said, cube-one, octahedron-one}
use Rattle.demands_known.proofs.Samples.{packed, faces_for, cube_list, turned_at, outward-read, inward-read}
use Rattle.paper_laws.proofs.Editions.{one_for}

-- ---- what is evaluated of the drawings themselves

octahedron-text : desk_text (bytes octahedron)
    ≡ text "wire 6 12\nloops 11 candidates 11\nwork 4\nsolids 1\nsolid 1 sixvolumes 8000 faces +1 -2 -3 +4 -6 +7 +8 -9\n"
unfolding reply
octahedron-text = refl

-- a test of the range
abbrev close : List ℤ → Bool
close xyz = all (λ z. leb (nat_abs z) farthest) xyz

near : (xyz : List ℤ) → close xyz ≡ true → WithinRange xyz
near xyz e k h = record {
  within = leb-true (nat_abs (get_or xyz k (pos 0))) farthest (all_yes (λ z. leb (nat_abs z) farthest) (pos 0) xyz e k h);
}

-- ---- samples/octahedron_shifted.sheet: "moved by 990, -990 and 350 cm, to the edge of the range"

abbrev way : Point
way = pt (pos 990) (neg 990) (pos 350)

abbrev pub shifted : Drawn
shifted = record {
  xyz =
      pos 1000 ∷ neg 990 ∷ pos 350 ∷ pos 980 ∷ neg 990 ∷ pos 350 ∷ pos 990 ∷ neg 980 ∷ pos 350 ∷ pos 990 ∷ neg 1000 ∷ pos 350 ∷
      pos 990 ∷ neg 990 ∷ pos 360 ∷ pos 990 ∷ neg 990 ∷ pos 340 ∷ [];
  ends = octahedron.ends;
}

-- answer and both rooms
pub octahedron_shifted : result (of shifted) ≡ result (of octahedron)
unfolding all each_vertex plus
octahedron_shifted =
    shifts.lists way octahedron.xyz octahedron.ends (near octahedron.xyz refl) (near shifted.xyz refl) most_work
    (face_before face_room) (solid_before solid_room)

pub shifted_said : said (result (of shifted)) ≡ (Conversion.One 11 11 4 8000, one 990 588 8000)
shifted_said = ap said octahedron_shifted ∙ octahedron-said

on_shifted : Made (shift way) (on octahedron) (on shifted)
unfolding reply each_vertex
on_shifted = record { points = refl; edges = refl; forms = refl }

pub octahedron-sheet_shifted : result (on shifted) ≡ result (on octahedron)
octahedron-sheet_shifted =
    shifts.both way (on octahedron) (on shifted) on_shifted most_work (face_before face_room) (solid_before solid_room)

pub shifted_text : desk_text (bytes shifted)
    ≡ text "wire 6 12\nloops 11 candidates 11\nwork 4\nsolids 1\nsolid 1 sixvolumes 8000 faces +1 -2 -3 +4 -6 +7 +8 -9\n"
shifted_text = shown_alike.shift_desk way (bytes octahedron) (bytes shifted) on_shifted ∙ octahedron-text

-- ---- samples/octahedron_mirrored.sheet: "with each x negated"

abbrev pub mirrored : Drawn
mirrored = record {
  xyz =
      neg 10 ∷ pos 0 ∷ pos 0 ∷ pos 10 ∷ pos 0 ∷ pos 0 ∷ pos 0 ∷ pos 10 ∷ pos 0 ∷ pos 0 ∷ neg 10 ∷ pos 0 ∷ pos 0 ∷ pos 0 ∷
      pos 10 ∷ pos 0 ∷ pos 0 ∷ neg 10 ∷ [];
  ends = octahedron.ends;
}

-- a report of one solid with these words: where each solid is moved by f, that one, and the rest of the room as it was
module _ (f : Entry → Entry) (r q : Converted) (a b six : ℕ) where
  record First : Type 0 where
    solid : Entry
    taken_word : word (take word_bits solid.taken) ≡ a
    turned_word : word (take word_bits solid.turned) ≡ b
    six_volumes : solid.six ≡ six
    moved : q.solids ≡ words_of (f solid) ++ solid_before 21

  first-words : (es : List Entry) → length es ≡ 1 → r.solids ≡ solids_for (solid_before solid_room) es
      → q.solids ≡ solids_for (solid_before solid_room) (map f es) → r.solids ≡ one a b six → First
  unfolding solids_for flat_map entry set_of
  first-words [] n p m s = absurd (omega arith)
  first-words (e ∷ []) n p m s = record {
    solid = e;
    taken_word = ap (λ (l : List ℕ). get_or l 0 0) (sym p ∙ s);
    turned_word = ap (λ (l : List ℕ). get_or l 1 0) (sym p ∙ s);
    six_volumes = ap (λ (l : List ℕ). get_or l 2 0) (sym p ∙ s);
    moved = m;
  }
  first-words (e ∷ (e' ∷ es)) n p m s = absurd (omega arith)

-- a set is told by its word
take_less : (n : ℕ) (a b : List Bool) → take n (less a b) ≡ less (take n a) (take n b)
unfolding less
take_less zero a b = refl
take_less (suc n) [] b = refl
take_less (suc n) (x ∷ a) [] = refl
take_less (suc n) (x ∷ a) (y ∷ b) = ap (λ (l : List Bool). (x && not y) ∷ l) (take_less n a b)

less-words : (a b c d : List Bool) → word (take word_bits a) ≡ word c → word (take word_bits b) ≡ word d
    → word (take word_bits (less a b)) ≡ word (less c d)
less-words a b c d p q =
    let front = take word_bits a in
    let turned = take word_bits b in
    ap word (take_less word_bits a b)
    ∙ same_word (less front turned) (less c d)
    (λ k. dig-less front turned k ∙ ap₂ (λ (x y : Bool). x && not y) (word_same front c p k) (word_same turned d q k) ∙ sym (dig-less c d k))

pub octahedron_mirrored : Mirrored (solid_before solid_room) (result (of octahedron)) (result (of mirrored))
unfolding each_vertex
octahedron_mirrored = mirrors.lists octahedron.xyz octahedron.ends most_work (face_before face_room) (solid_before solid_room)

pub mirrored_answer : (result (of mirrored)).answer ≡ Conversion.One 11 11 4 8000
mirrored_answer = octahedron_mirrored.answers ∙ ap (λ (s : Said). s.0) octahedron-said

-- of the taken ones, 990, those that were turned are 588, and in the mirror the others, 402
pub mirrored_words : (result (of mirrored)).solids ≡ one 990 402 8000
unfolding word digits less entry set_of
mirrored_words =
    let m = octahedron_mirrored in
    let w = first-words flip (result (of octahedron)) (result (of mirrored)) 990 588 8000 m.es
    (m.count ∙ octahedron-one) m.words m.flipped (ap (λ (s : Said). s.1) octahedron-said) in
    let others : word (take word_bits (less w.solid.taken w.solid.turned)) ≡ 402 = less-words w.solid.taken w.solid.turned (digits 10 990)
    (digits 10 588) w.taken_word w.turned_word in
    w.moved ∙ (λ i. one (w.taken_word i) (others i) (w.six_volumes i))

on_mirrored : Made mirror (on octahedron) (on mirrored)
unfolding reply each_vertex
on_mirrored = record { points = refl; edges = refl; forms = refl }

pub octahedron-sheet_mirrored : Mirrored (solid_before solid_room) (result (on octahedron)) (result (on mirrored))
octahedron-sheet_mirrored =
    mirrors.both (on octahedron) (on mirrored) on_mirrored most_work (face_before face_room) (solid_before solid_room)

-- the text, "with every sign changed"
pub mirrored_text : desk_text (bytes mirrored)
    ≡ text "wire 6 12\nloops 11 candidates 11\nwork 4\nsolids 1\nsolid 1 sixvolumes 8000 faces -1 +2 +3 -4 +6 -7 -8 +9\n"
unfolding text other_sign
mirrored_text = shown_alike.mirror_desk (bytes octahedron) (bytes mirrored) on_mirrored ∙ ap (map other_sign) octahedron-text

-- ---- the cube

-- a quarter turn round the z axis: x and y exchanged, then mirrored
abbrev pub quarter : Drawn
quarter = record {
  xyz =
      pos 0 ∷ pos 0 ∷ pos 0 ∷ pos 0 ∷ pos 10 ∷ pos 0 ∷ neg 10 ∷ pos 0 ∷ pos 0 ∷ neg 10 ∷ pos 10 ∷ pos 0 ∷ pos 0 ∷ pos 0 ∷
      pos 10 ∷ pos 0 ∷ pos 10 ∷ pos 10 ∷ neg 10 ∷ pos 0 ∷ pos 10 ∷ neg 10 ∷ pos 10 ∷ pos 10 ∷ [];
  ends = cube.ends;
}

pub cube_quarter : result (of quarter) ≡ result (of cube)
unfolding all each_vertex
cube_quarter =
    turns.lists (exchanging XY ∷ mirroring ∷ []) cube.xyz cube.ends (near cube.xyz refl) (near quarter.xyz refl) most_work
    (face_before face_room) (solid_before solid_room)

pub quarter_said : said (result (of quarter)) ≡ (Conversion.One 6 6 0 6000, one 63 21 6000)
quarter_said = ap said cube_quarter ∙ cube-said

-- x and y exchanged, and nothing else: mirrored
abbrev pub exchanged : Drawn
exchanged = record {
  xyz =
      pos 0 ∷ pos 0 ∷ pos 0 ∷ pos 0 ∷ pos 10 ∷ pos 0 ∷ pos 10 ∷ pos 0 ∷ pos 0 ∷ pos 10 ∷ pos 10 ∷ pos 0 ∷ pos 0 ∷ pos 0 ∷
      pos 10 ∷ pos 0 ∷ pos 10 ∷ pos 10 ∷ pos 10 ∷ pos 0 ∷ pos 10 ∷ pos 10 ∷ pos 10 ∷ pos 10 ∷ [];
  ends = cube.ends;
}

pub cube_exchanged : Mirrored (solid_before solid_room) (result (of cube)) (result (of exchanged))
unfolding all each_vertex
cube_exchanged =
    turns.lists (exchanging XY ∷ []) cube.xyz cube.ends (near cube.xyz refl) (near exchanged.xyz refl) most_work
    (face_before face_room) (solid_before solid_room)

-- twice as large
abbrev pub double : Drawn
double = record {
  xyz =
      pos 0 ∷ pos 0 ∷ pos 0 ∷ pos 20 ∷ pos 0 ∷ pos 0 ∷ pos 0 ∷ pos 20 ∷ pos 0 ∷ pos 20 ∷ pos 20 ∷ pos 0 ∷ pos 0 ∷ pos 0 ∷
      pos 20 ∷ pos 20 ∷ pos 0 ∷ pos 20 ∷ pos 0 ∷ pos 20 ∷ pos 20 ∷ pos 20 ∷ pos 20 ∷ pos 20 ∷ [];
  ends = cube.ends;
}

pub cube_doubled : Scaled 2 (solid_before solid_room) (result (of cube)) (result (of double))
unfolding all each_vertex times
cube_doubled =
    scaled.lists 2 (omega arith) cube.xyz cube.ends (near cube.xyz refl) (near double.xyz refl) most_work
    (face_before face_room) (solid_before solid_room)

pub doubled_answer : (result (of double)).answer ≡ Conversion.One 6 6 0 48000
doubled_answer = cube_doubled.answers ∙ ap (λ (s : Said). grown 8 s.0) cube-said

pub doubled_words : (result (of double)).solids ≡ one 63 21 48000
unfolding entry set_of
doubled_words =
    let m = cube_doubled in
    let w = first-words (enlarge 2) (result (of cube)) (result (of double)) 63 21 6000 m.es
    (m.count ∙ cube-one) m.words m.enlarged (ap (λ (s : Said). s.1) cube-said) in
    w.moved ∙ (λ i. one (w.taken_word i) (w.turned_word i) (8 * w.six_volumes i))

-- the check: all faces of the list turned round, for the drawing with x and y exchanged; the list itself, for the quarter turn
of_exchanged : Made (laid (exchanging XY ∷ [])) (of cube) (of exchanged)
unfolding reply each_vertex
of_exchanged = record { points = refl; edges = refl; forms = refl }

of_quarter : Made (laid (exchanging XY ∷ mirroring ∷ [])) (of cube) (of quarter)
unfolding reply each_vertex
of_quarter = record { points = refl; edges = refl; forms = refl }

round : Round (of cube) (packed (of cube) outward) (packed (of cube) inward_faces)
unfolding reply
round = record {
  shape = (
    λ s. (is_shape (one_for 8 12) 8 (packed (of cube) inward_faces)).0 refl,
    λ s. (is_shape (one_for 8 12) 8 (packed (of cube) outward)).0 refl,
  );
  faces =
      subst (λ (fs : List Loop). AllTurned fs (faces_for (of cube) (packed (of cube) inward_faces))) (sym outward-read)
      (subst (AllTurned outward) (sym inward-read) (record { as_many = refl; each = turned_at }));
}

pub exchanged_list : checked (of exchanged) (packed (of cube) inward_faces) ≡ ListAccepted
exchanged_list =
    turns.check_round (exchanging XY ∷ []) refl (of cube) (of exchanged) of_exchanged (packed (of cube) outward)
    (packed (of cube) inward_faces) round
    ∙ cube_list

pub quarter_list : checked (of quarter) (packed (of cube) outward) ≡ ListAccepted
quarter_list =
    turns.check (exchanging XY ∷ mirroring ∷ []) refl (of cube) (of quarter) of_quarter (packed (of cube) outward) ∙ cube_list

-- ---- limits: the octahedron's work is 4

abbrev within : ℕ → Converted
within limit = converted (of octahedron) limit (face_before face_room) (solid_before solid_room)

pub four_said : said (within 4) ≡ (Conversion.One 11 11 4 8000, one 990 588 8000)
unfolding reply
four_said = refl

pub octahedron-higher : within 1000000 ≡ within 4
octahedron-higher =
    higher (of octahedron) 4 1000000 (omega arith) (omega arith) (face_before face_room) (solid_before solid_room)
    (λ l c w e. let z : ◌≡◌ {A = ℕ} 0 1 = cc (ap (λ (s : Said). s.0) four_said) in omega arith)
