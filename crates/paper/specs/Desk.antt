-- Document 01, the desk program: "reads one sheet from standard input and converts it with limit 1,000,000". What it prints, as bytes.
use Rattle.std.specs.Prelude.{Bool, true, false, cond, List, [], ◌∷◌, ◌++◌, ℕ, zero, suc, ◌+◌, ◌/◌, ◌%◌, ltb, get_or, drop, replicate}
use Prim.Native.Char.{code}
use Prim.Native.String as Text
use Prim.Native.String.{String}
use Rattle.paper.specs.Numbers.{most_work, solid_words, face_room, solid_room}
use Rattle.paper.specs.Format.{edition_of, vertices_in, edges_in}
use Rattle.paper.specs.Record.{taken_in, turned_in, six_in}
use Rattle.paper.specs.Conversion.{convert_sheet}
use Rattle.paper.specs.Refusals.{value_of}
use Rattle.paper.specs.declared.Conversion.{Conversion}

-- the bytes of a text; a number in as many decimal digits as it needs, of which a word has at most 20
unfoldable pub text : String → List ℕ
text Text.[] = []
text (Text.◌∷◌ c s) = code c ∷ text s

unfoldable pub decimal_in : ℕ → ℕ → List ℕ
decimal_in zero n = []
decimal_in (suc k) n = cond (ltb n 10) ((48 + n) ∷ []) (decimal_in k (n / 10) ++ ((48 + n % 10) ∷ []))

unfoldable pub decimal : ℕ → List ℕ
decimal n = decimal_in 20 n

-- "minus for a face run against normal form"; the digits are of the candidates from k on
unfoldable pub signed : Bool → List ℕ
signed true = text " -"
signed false = text " +"

unfoldable pub faces_text : ℕ → List Bool → List Bool → List ℕ
faces_text k [] turned = []
faces_text k (true ∷ taken) turned = signed (get_or turned k false) ++ decimal k ++ faces_text (suc k) taken turned
faces_text k (false ∷ taken) turned = faces_text (suc k) taken turned

-- "then per solid its number, six volumes and faces", from its record; n solids from the number i on
unfoldable pub solid_text : ℕ → List ℕ → List ℕ
solid_text i ws =
    text "solid " ++ decimal i ++ text " sixvolumes " ++ decimal (six_in ws) ++ text " faces"
    ++ faces_text 0 (taken_in ws) (turned_in ws) ++ text "\n"

unfoldable pub solids_text : ℕ → ℕ → List ℕ → List ℕ
solids_text i zero ws = []
solids_text i (suc n) ws = solid_text i ws ++ solids_text (suc i) n (drop solid_words ws)

-- "Fields: vertices, edges; loops, candidates; assumptions"
unfoldable pub head_text : ℕ → ℕ → ℕ → ℕ → ℕ → List ℕ
head_text v e l c w =
    text "wire " ++ decimal v ++ text " " ++ decimal e ++ text "\nloops " ++ decimal l ++ text " candidates " ++ decimal c
    ++ text "\nwork " ++ decimal w ++ text "\n"

-- "For 17 to 19 the line after `work` is the last and reads `no solid`, `many` or `too long`; for another refusal the only line is
-- `refused`, number, place."
unfoldable pub answer_text : ℕ → ℕ → Conversion → List ℕ → List ℕ
answer_text v e (Conversion.One l c w six) ws = head_text v e l c w ++ text "solids 1\n" ++ solids_text 1 1 ws
answer_text v e (Conversion.Several l c w n) ws = head_text v e l c w ++ text "solids " ++ decimal n ++ text "\n" ++ solids_text 1 n ws
answer_text v e (Conversion.NoSolid l c w) ws = head_text v e l c w ++ text "no solid\n"
answer_text v e (Conversion.Many l c w) ws = head_text v e l c w ++ text "many\n"
answer_text v e (Conversion.TooLong l c w) ws = head_text v e l c w ++ text "too long\n"
answer_text v e (Conversion.Refused r) ws = text "refused " ++ decimal (value_of r.number) ++ text " " ++ decimal r.place ++ text "\n"

-- the vertices and edges are those of the sheet
unfoldable pub desk_text : List ℕ → List ℕ
desk_text s =
    let c = convert_sheet s most_work (replicate face_room 0) (replicate solid_room 0) in
    answer_text (vertices_in (edition_of s) s) (edges_in (edition_of s) s) c.answer c.solids
