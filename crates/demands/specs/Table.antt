-- Document 01's table, "What comes back", 1 to 16: what offends by each line, and at which places.
use Rattle.std.specs.Prelude.{◌≡◌, ◌⊎◌, List, ℕ, zero, suc, ◌+◌, ◌*◌, ◌/◌, ◌%◌, ◌≤◌, ◌<◌, ℤ, pos, negsuc, ◌<ℤ◌, length, get_or, Ok, Err}
use Rattle.std.proofs.Math.Option.{none, some}
use Rattle.pack.specs.Bits.{field_at}
use Rattle.paper.specs.Format.{bytes_for, fill_after, total, vertices_in, edges_in, coordinates_in, ends_in, edition_of}
use Rattle.paper.specs.Drawing.{Wire}
use Rattle.paper.specs.Loops.{loops, candidates}
use Rattle.paper.specs.Refusals.{value_of, Answer, Fine, Verdict, Written}
use Rattle.paper.specs.declared.Conversion.{Conversion}
use Rattle.means_drawing.specs.Drawings.{Finds, Doubled, Loose, Meets, Reachable}
use Rattle.demands.specs.Input.{Input, lent, sheet}

-- "Checks run in number order; the first that applies is the answer. Places are the lowest that offend." A line has a number n and k
-- places, counted from 0, and P says what offends at a place. An answer says of a line and the lines below it: nothing is refused, and
-- nothing offends; or it is this line's, with the lowest place that offends; or nothing offends by this line, and it is one below.
abbrev pub line : (n k : ℕ) → (ℕ → Type 0) → (Answer → Type 0) → Answer → Type 0
line n k P below (Ok _) = Finds P k none × below Fine
line n k P below (Err r) = ((value_of r.number ≡ n) × Finds P k (some r.place)) ⊎ (Finds P k none × below (Err r))

-- no lines are left
abbrev pub end : Answer → Type 0
end (Ok _) = Unit {0}
end (Err r) = ⊥

-- a line with the place 0 alone; and what offends by a line with the places 0 and 1
abbrev pub one : ℕ → Type 0 → (Answer → Type 0) → Answer → Type 0
one n A = line n 1 (λ p. A)

abbrev pub Two : Type 0 → Type 0 → ℕ → Type 0
Two A B zero = A
Two A B (suc p) = B

-- 1 NoRoom, "under 832 bytes for faces; under 24 words for solids", "0; 1". 2 BadLimit, "above 1,000,000"
abbrev pub rooms_and_limit : ℕ → List ℕ → List ℕ → (Answer → Type 0) → Answer → Type 0
rooms_and_limit limit room solids below = line 1 2 (Two (length room < 832) (length solids < 24)) (one 2 (1000000 < limit) below)

-- 5 BadCount: outside lo to hi; of a lent list of n numbers, k to a vertex or an edge, also "a lent list that isn't whole"
abbrev pub Outside : ℕ → ℕ → ℕ → Type 0
Outside lo hi n = (n < lo) ⊎ (hi < n)

abbrev pub CountOffends : ℕ → ℕ → ℕ → ℕ → Type 0
CountOffends k lo hi n = (n % k ≡ 0 → ⊥) ⊎ Outside lo hi (n / k)

-- 8 BadCoordinate: number i of the coordinate list is outside -1,000 to 1,000
abbrev pub Far : List ℤ → ℕ → Type 0
Far xyz i = (get_or xyz i (pos 0) <ℤ negsuc 999) ⊎ (pos 1000 <ℤ get_or xyz i (pos 0))

-- 9 BadEdge, of v vertices: "no such vertex, or ends not rising"
abbrev pub Wrong : ℕ → ℕ → ℕ → Type 0
Wrong v a b = (v ≤ a) ⊎ ((v ≤ b) ⊎ (b ≤ a))

abbrev pub EdgeOffends : ℕ → List ℕ → ℕ → Type 0
EdgeOffends v ends e = Wrong v (get_or ends (2 * e) 0) (get_or ends (2 * e + 1) 0)

-- 10 EdgeOrder: "not above the edge before", as pairs
abbrev pub Above : ℕ → ℕ → ℕ → ℕ → Type 0
Above a₀ b₀ a b = (a₀ < a) ⊎ ((a₀ ≡ a) × (b₀ < b))

abbrev pub OrderOffends : List ℕ → ℕ → Type 0
OrderOffends ends zero = ⊥
OrderOffends ends (suc e) =
    Above (get_or ends (2 * e) 0) (get_or ends (2 * e + 1) 0) (get_or ends (2 * e + 2) 0) (get_or ends (2 * e + 3) 0) → ⊥

-- 8, "place in the coordinate list"; 9 and 10, "edge"
abbrev pub lists : ℕ → List ℤ → List ℕ → (Answer → Type 0) → Answer → Type 0
lists v xyz ends below =
    line 8 (length xyz) (Far xyz) (line 9 (length ends / 2) (EdgeOffends v ends) (line 10 (length ends / 2) (OrderOffends ends) below))

-- 3 to 10. 3 SheetShort, "under 3 bytes"; 4 SheetEdition, "not 1"; 5, "0 vertices, 1 edges"; 6 SheetLength, "too short or long"; 7
-- SheetPad, "nonzero fill": of a sheet. Of lent lists "3, 4, 6 and 7 don't arise"
abbrev pub forms : Input → (Answer → Type 0) → Answer → Type 0
forms (lent xyz ends) below =
    line 5 2 (Two (CountOffends 3 4 32 (length xyz)) (CountOffends 2 6 64 (length ends))) (lists (length xyz / 3) xyz ends below)
forms (sheet s) below =
    let f = edition_of s in
    let v = vertices_in f s in
    let e = edges_in f s in
    one 3 (length s < 3)
    (one 4 (field_at s 0 4 ≡ 1 → ⊥)
    (line 5 2 (Two (Outside 4 32 v) (Outside 6 64 e))
    (one 6 (length s ≡ bytes_for (total f v e) → ⊥)
    (one 7 (fill_after (total f v e) s ≡ 0 → ⊥) (lists v (coordinates_in f s) (ends_in f s) below)))))

-- 11 SamePlace, 12 LooseVertex, 14 Apart: "vertex". 13 EdgeMeets: "edge". 15 ManyLoops, "over 128"; 16 ManyCandidates, "over 64"
abbrev pub drawings : Wire → (Answer → Type 0) → Answer → Type 0
drawings d below =
    line 11 (length d.vertices) (Doubled d)
    (line 12 (length d.vertices) (Loose d)
    (line 13 (length d.edges) (Meets d)
    (line 14 (length d.vertices) (λ v. Reachable d v → ⊥)
    (one 15 (128 < length (loops d)) (one 16 (64 < length (candidates d)) below)))))

-- what the answers of conversion, of a writer and of the check refuse: 17 to 19 come where nothing of 1 to 16 offends
abbrev pub of_conversion : Conversion → Answer
of_conversion (Conversion.One l c work six) = Fine
of_conversion (Conversion.Several l c work n) = Fine
of_conversion (Conversion.NoSolid l c work) = Fine
of_conversion (Conversion.Many l c work) = Fine
of_conversion (Conversion.TooLong l c work) = Fine
of_conversion (Conversion.Refused r) = Err r

abbrev pub of_written : Written → Answer
of_written (Ok n) = Fine
of_written (Err r) = Err r

abbrev pub of_verdict : Verdict → Answer
of_verdict (Ok _) = Fine
of_verdict (Err r) = Err r
