-- `desk_solids::put_solid`: four parts are put behind one another. Each need goes back from its call to the ones before and to the start.
use mathlib.Core.List.{List, ◌++◌}
use mathlib.Core.Path.{◌≡◌, sym, ap}
use Prim.Native.Nat.{ℕ}
use Rattle.paper.specs.Desk.{text}
use Rattle.desk_lines.specs.Put.{Fits, pair_text}
use Rattle.desk_lines.proofs.Putting.{fits_as, puts_as, fits-first, fits_next, puts_both}
use Rattle.desk_solids.specs.Solids.{words_text, line_text}
use Rattle.desk_solids.proofs.put_solid.Goals as goal

-- ---- the line with the six volumes that are told

abbrev faces_at : goal.After-put_pair-arg-5-1 → List ℕ
faces_at c = words_text c.args.solid.now

abbrev line : goal.After-put_pair-arg-5-1 → List ℕ
line c = pair_text (text "solid ") c.args.i (text " sixvolumes ") c.six-volumes.result ++ text " faces" ++ faces_at c ++ text "\n"

line_is : (c : goal.After-put_pair-arg-5-1) → line_text c.args.i c.args.solid.now ≡ line c
line_is c =
    ap (λ (n : ℕ). pair_text (text "solid ") c.args.i (text " sixvolumes ") n ++ text " faces" ++ faces_at c ++ text "\n")
    (sym c.six-volumes.ensures)

fits : (c : goal.After-put_pair-arg-5-1) → Fits c.args.at (line c) c.args.room.now
fits c = fits_as (line_is c) c.requires

abbrev faces_at-2 : goal.After-put_text-arg-3-1 → List ℕ
faces_at-2 c = words_text c.args.solid.now

abbrev line-2 : goal.After-put_text-arg-3-1 → List ℕ
line-2 c = pair_text (text "solid ") c.args.i (text " sixvolumes ") c.six-volumes.result ++ text " faces" ++ faces_at-2 c ++ text "\n"

line_is-2 : (c : goal.After-put_text-arg-3-1) → line_text c.args.i c.args.solid.now ≡ line-2 c
line_is-2 c =
    ap (λ (n : ℕ). pair_text (text "solid ") c.args.i (text " sixvolumes ") n ++ text " faces" ++ faces_at-2 c ++ text "\n")
    (sym c.six-volumes.ensures)

fits-2 : (c : goal.After-put_text-arg-3-1) → Fits c.args.at (line-2 c) c.args.room.now
fits-2 c = fits_as (line_is-2 c) c.requires

abbrev faces_at-3 : goal.After-put_faces-arg-1 → List ℕ
faces_at-3 c = words_text c.args.solid.now

abbrev line-3 : goal.After-put_faces-arg-1 → List ℕ
line-3 c = pair_text (text "solid ") c.args.i (text " sixvolumes ") c.six-volumes.result ++ text " faces" ++ faces_at-3 c ++ text "\n"

line_is-3 : (c : goal.After-put_faces-arg-1) → line_text c.args.i c.args.solid.now ≡ line-3 c
line_is-3 c =
    ap (λ (n : ℕ). pair_text (text "solid ") c.args.i (text " sixvolumes ") n ++ text " faces" ++ faces_at-3 c ++ text "\n")
    (sym c.six-volumes.ensures)

fits-3 : (c : goal.After-put_faces-arg-1) → Fits c.args.at (line-3 c) c.args.room.now
fits-3 c = fits_as (line_is-3 c) c.requires

abbrev faces_at-4 : goal.After-put_text-arg-6-1 → List ℕ
faces_at-4 c = words_text c.args.solid.now

abbrev line-4 : goal.After-put_text-arg-6-1 → List ℕ
line-4 c = pair_text (text "solid ") c.args.i (text " sixvolumes ") c.six-volumes.result ++ text " faces" ++ faces_at-4 c ++ text "\n"

line_is-4 : (c : goal.After-put_text-arg-6-1) → line_text c.args.i c.args.solid.now ≡ line-4 c
line_is-4 c =
    ap (λ (n : ℕ). pair_text (text "solid ") c.args.i (text " sixvolumes ") n ++ text " faces" ++ faces_at-4 c ++ text "\n")
    (sym c.six-volumes.ensures)

fits-4 : (c : goal.After-put_text-arg-6-1) → Fits c.args.at (line-4 c) c.args.room.now
fits-4 c = fits_as (line_is-4 c) c.requires

abbrev faces_at-5 : goal.After-slice_known-5-1 → List ℕ
faces_at-5 c = words_text c.args.solid.now

abbrev line-5 : goal.After-slice_known-5-1 → List ℕ
line-5 c = pair_text (text "solid ") c.args.i (text " sixvolumes ") c.six-volumes.result ++ text " faces" ++ faces_at-5 c ++ text "\n"

line_is-5 : (c : goal.After-slice_known-5-1) → line_text c.args.i c.args.solid.now ≡ line-5 c
line_is-5 c =
    ap (λ (n : ℕ). pair_text (text "solid ") c.args.i (text " sixvolumes ") n ++ text " faces" ++ faces_at-5 c ++ text "\n")
    (sym c.six-volumes.ensures)

-- ---- the needs

pub put_pair-numbered-requires : goal.put_pair-numbered-requires
unfolding text
put_pair-numbered-requires c =
    fits-first (text " faces") (fits-first (faces_at c) (fits-first (text "\n") (fits c)))

pub put_text-named-requires : goal.put_text-named-requires
unfolding text
put_text-named-requires c =
    fits_next c.put_pair-numbered.ensures (fits-first (faces_at-2 c) (fits-first (text "\n") (fits-2 c)))

pub put_faces-faced-requires : goal.put_faces-faced-requires
unfolding text
put_faces-faced-requires c =
    fits_next (puts_both c.put_pair-numbered.ensures c.put_text-named.ensures) (fits-first (text "\n") (fits-3 c))

pub put_text-requires : goal.put_text-requires
unfolding text
put_text-requires c =
    fits_next (puts_both (puts_both c.put_pair-numbered.ensures c.put_text-named.ensures) c.put_faces-faced.ensures) (fits-4 c)

pub returns : goal.returns
unfolding text
returns c =
    puts_as (line_is-5 c)
    (puts_both (puts_both (puts_both c.put_pair-numbered.ensures c.put_text-named.ensures) c.put_faces-faced.ensures) c.put_text.ensures)
