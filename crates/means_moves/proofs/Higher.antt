-- "a higher allowed work limit changes no answer but TooLong": refusals and rooms too.
use mathlib.Core.Path.{◌≡◌, refl, sym, ap, ◌∙◌}
use mathlib.Core.Bool.{Bool}
use mathlib.Core.List.{List, [], ◌∷◌, ◌++◌}
use Prim.Native.Nat.{ℕ, ◌≤◌}
use native.Mathlib.Omega.{arith}
use borrow.Author.Tests.{le-ltb}
use lib.Dec.{ltb}
use lib.ListN.{length}
use Rattle.paper.specs.Numbers.{most_work, face_room, solid_room, Limits}
use Rattle.paper.specs.Refusals as No
use Rattle.paper.specs.Refusals.{value_of, Check, check, first_of, offends, Answer}
use Rattle.paper.specs.Drawing.{Wire, drawing_checks}
use Rattle.paper.specs.Loops.{Loop, loops, uncovering, loop_checks}
use Rattle.paper.specs.Solids.{Tables, tables_of}
use Rattle.paper.specs.Walk.{Log, search}
use Rattle.paper.specs.Conversion.{Converted, accepted, concluded, entry_checks, or_convert, conversion}
use Rattle.std.specs.Prelude.{Ok, Err}
use Rattle.paper.specs.declared.Conversion.{Conversion}
use Rattle.means_walk.proofs.Ends.{higher_limit}

-- the answer is not 19
abbrev pub Ended : Conversion → Type 0
Ended c = (l n w : ℕ) → c ≡ Conversion.TooLong l n w → ⊥

-- 1 and 2 say the same under two limits that 2 lets pass
entry-same : (a b : ℕ) (faces solids : List ℕ) → a ≤ most_work → b ≤ most_work → entry_checks b faces solids ≡ entry_checks a faces solids
unfolding entry_checks
entry-same a b faces solids p q =
    ap (λ (t : Bool). check No.NoRoom (offends (ltb (length faces) face_room) 0) ∷ check No.NoRoom
    (offends (ltb (length solids) solid_room) 1)
    ∷ check No.BadLimit (offends t 0) ∷ []) (le-ltb most_work b q ∙ sym (le-ltb most_work a p))

-- a walk that the limit cut is told so
long_told : (l : ℕ) (cs : List Loop) (t : Tables) (log : Log) (faces solids : List ℕ) → log.ended ≡ value_of No.TooLong
    → (concluded l cs t log faces solids).answer ≡ Conversion.TooLong l (length cs) log.work
unfolding concluded
long_told l cs t log faces solids e = rw e

pub conversion-higher : (most : Limits) (form : List Check) (d : Wire) (a b : ℕ) (faces solids : List ℕ) → a ≤ b → b ≤ most_work
    → Ended (conversion most form d a faces solids).answer
    → conversion most form d b faces solids ≡ conversion most form d a faces solids
unfolding conversion
conversion-higher most form d a b faces solids h q n =
    ap (λ (es : List Check). or_convert (first_of (es ++ form ++ drawing_checks d ++ loop_checks most (loops d) cs)) faces solids (under b))
    (entry-same a b faces solids (omega arith) q)
    ∙ go (first_of (entry_checks a faces solids ++ form ++ drawing_checks d ++ loop_checks most (loops d) cs)) n
  where
    cs : List Loop
    cs = uncovering d (loops d)

    walked : ℕ → Log
    walked limit = search most.solids (accepted (tables_of d cs)) limit (length cs) (tables_of d cs).masks

    under : ℕ → Converted
    under limit = concluded (length (loops d)) cs (tables_of d cs) (walked limit) faces solids

    go : (r : Answer) → Ended (or_convert r faces solids (under a)).answer → or_convert r faces solids (under b) ≡ or_convert r faces solids
        (under a)
    go (Ok _) n =
        ap (λ (log : Log). concluded (length (loops d)) cs (tables_of d cs) log faces solids)
        (higher_limit most.solids (accepted (tables_of d cs)) a b h (length cs) (tables_of d cs).masks
        (λ e. n (length (loops d)) (length cs) (walked a).work (long_told (length (loops d)) cs (tables_of d cs) (walked a) faces solids
        e)))
    go (Err r) n = refl
