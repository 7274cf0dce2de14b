-- The checks 1 to 16 are the lines of the table: each finds the lowest place that offends.
use mathlib.Core.Path.{◌≡◌, sym, subst}
use mathlib.Core.Bool.{not, ◌&&◌, ◌||◌}
use mathlib.Core.List.{List, [], ◌++◌, append_assoc}
use Prim.Native.Nat.{ℕ, zero, suc, ◌+◌, ◌*◌, ◌/◌, ◌%◌}
use lib.Dec.{ltb, leb, eqb}
use lib.IntN.{ℤ, pos, negsuc}
use lib.Signed.{lt_z}
use lib.ListN.{length, get_or}
use native.Mathlib.Omega.{arith}
use Rattle.lists.specs.Lists.{lowest}
use Rattle.paper.specs.Numbers.{documented}
use Rattle.paper.specs.Refusals as No
use Rattle.paper.specs.Format.{outside, total, bytes_for, fill_after, vertices_in, edges_in, edition_of}
use Rattle.paper.specs.Format.{coordinates_in, ends_in}
use Rattle.pack.specs.Bits.{field_at}
use Rattle.paper.specs.Sheet.{bad_count, far_at, wrong, wrong_at, edge_above, low_at, edge_checks, content_checks, count_checks, open_checks}
use Rattle.paper.specs.Sheet.{close_checks, shape_checks, sheet_checks, lent_checks}
use Rattle.paper.specs.Drawing.{Wire, same_place, loose_vertex, edge_meets, apart, drawing_checks}
use Rattle.paper.specs.Loops.{loops, candidates, loop_checks}
use Rattle.paper.specs.Conversion.{entry_checks}
use Rattle.means_drawing.specs.Drawings.{Doubled, Loose, Meets, Reachable, Rising}
use Rattle.means_drawing.proofs.Searches.{finds}
use Rattle.means_drawing.proofs.Drawings.{same_place_finds, loose_vertex_finds, edge_meets_finds, long_edges, apart_finds}
use Rattle.demands.specs.Input.{Input, lent, sheet, drawing, form, rules}
use Rattle.demands.specs.Table.{Outside, CountOffends, Far, Wrong, EdgeOffends, Above, OrderOffends, rooms_and_limit, lists, forms, drawings}
use Rattle.paper_laws.proofs.Tests.{Is, is_lt, is_le, is_eq, is_lt_z, is_not, is_or, is_and}
use Rattle.demands.proofs.Input.{rising}
use Rattle.demands.proofs.Table.{Says, done, also, also_one, also_two, behind}

-- ---- 1 and 2

pub entry_says : (limit : ℕ) (room solids : List ℕ) → Says (rooms_and_limit limit room solids) (entry_checks limit room solids)
unfolding entry_checks
entry_says limit room solids =
    also_two No.NoRoom _ _ _ _ (is_lt (length room) 832) (is_lt (length solids) 24) _ _
    (also_one No.BadLimit _ _ (is_lt 1000000 limit) (λ below. below) [] (λ e. done))

-- ---- 3 to 10

is_outside : (lo hi n : ℕ) → Is (outside lo hi n) (Outside lo hi n)
is_outside lo hi n = is_or (ltb n lo) (ltb hi n) (is_lt n lo) (is_lt hi n)

is_bad : (k lo hi n : ℕ) → Is (bad_count k lo hi n) (CountOffends k lo hi n)
is_bad k lo hi n =
    is_or (not (eqb (n % k) 0)) (outside lo hi (n / k)) (is_not (eqb (n % k) 0) (is_eq (n % k) 0)) (is_outside lo hi (n / k))

is_far : (xyz : List ℤ) (i : ℕ) → Is (far_at xyz i) (Far xyz i)
unfolding far_at
is_far xyz i =
    let z = get_or xyz i (pos 0) in
    is_or (lt_z z (negsuc 999)) (lt_z (pos 1000) z) (is_lt_z z (negsuc 999)) (is_lt_z (pos 1000) z)

is_wrong : (v a b : ℕ) → Is (wrong v a b) (Wrong v a b)
is_wrong v a b = is_or (leb v a) (leb v b || leb b a) (is_le v a) (is_or (leb v b) (leb b a) (is_le v b) (is_le b a))

is_bad_edge : (v : ℕ) (ns : List ℕ) (e : ℕ) → Is (wrong_at v ns e) (EdgeOffends v ns e)
unfolding wrong_at
is_bad_edge v ns e = is_wrong v (get_or ns (2 * e) 0) (get_or ns (2 * e + 1) 0)

is_above : (a b c d : ℕ) → Is (edge_above a b c d) (Above a b c d)
is_above a b c d = is_or (ltb a c) (eqb a c && ltb b d) (is_lt a c) (is_and (eqb a c) (ltb b d) (is_eq a c) (is_lt b d))

is_low : (ns : List ℕ) (e : ℕ) → Is (low_at ns e) (OrderOffends ns e)
unfolding low_at
is_low ns zero = (λ e. let z : ◌≡◌ {A = ℕ} 0 1 = cc in omega arith, λ h. absurd h)
is_low ns (suc e) =
    is_not (edge_above (get_or ns (2 * e) 0) (get_or ns (2 * e + 1) 0) (get_or ns (2 * e + 2) 0) (get_or ns (2 * e + 3) 0))
    (is_above (get_or ns (2 * e) 0) (get_or ns (2 * e + 1) 0) (get_or ns (2 * e + 2) 0) (get_or ns (2 * e + 3) 0))

content_says : (v : ℕ) (xyz : List ℤ) (ns : List ℕ) → Says (lists v xyz ns) (content_checks v xyz ns)
unfolding content_checks edge_checks
content_says v xyz ns =
    also No.BadCoordinate (length xyz) (Far xyz) (lowest (far_at xyz) (length xyz)) _ _ (finds (far_at xyz) (Far xyz) (length xyz) (λ k h. is_far xyz k))
    (λ e. also No.BadEdge (length ns / 2) (EdgeOffends v ns) (lowest (wrong_at v ns) (length ns / 2)) _ _
    (finds (wrong_at v ns) (EdgeOffends v ns) (length ns / 2) (λ k h. is_bad_edge v ns k))
    (λ e. also No.EdgeOrder (length ns / 2) (OrderOffends ns) (lowest (low_at ns) (length ns / 2)) (λ below. below) []
    (finds (low_at ns) (OrderOffends ns) (length ns / 2) (λ k h. is_low ns k)) (λ e. done)))

pub form_says : (x : Input) → Says (forms x) (form x)
unfolding edition_of lent_checks sheet_checks shape_checks open_checks count_checks close_checks
form_says (lent xyz ns) =
    also_two No.BadCount _ _ _ _ (is_bad 3 4 32 (length xyz)) (is_bad 2 6 64 (length ns)) _ _ (content_says (length xyz / 3) xyz ns)
form_says (sheet s) =
    let f = edition_of s in
    let v = vertices_in f s in
    let n = edges_in f s in
    also_one No.SheetShort _ _ (is_lt (length s) 3) _ _ (λ e.
    also_one No.SheetEdition _ _ (is_not (eqb (field_at s 0 4) 1) (is_eq (field_at s 0 4) 1)) _ _ (λ e.
    also_two No.BadCount _ _ _ _ (is_outside 4 32 v) (is_outside 6 64 n) _ _
    (also_one No.SheetLength _ _ (is_not (eqb (length s) (bytes_for (total f v n))) (is_eq (length s) (bytes_for (total f v n)))) _ _ (λ e.
    also_one No.SheetPad _ _ (is_not (eqb (fill_after (total f v n) s) 0) (is_eq (fill_after (total f v n) s) 0)) _ _ (λ e.
    content_says v (coordinates_in f s) (ends_in f s))))))

-- ---- 11 to 16: where 9 finds nothing the ends of edges rise

drawing_says : (d : Wire) → Rising d → Says (drawings d) (drawing_checks d ++ loop_checks documented (loops d) (candidates d))
unfolding drawing_checks loop_checks
drawing_says d r =
    also No.SamePlace (length d.vertices) (Doubled d) (same_place d) _ _ (same_place_finds d)
    (λ p. also No.LooseVertex (length d.vertices) (Loose d) (loose_vertex d) _ _ (loose_vertex_finds d)
    (λ e. also No.EdgeMeets (length d.edges) (Meets d) (edge_meets d) _ _ (edge_meets_finds d (long_edges d r p))
    (λ e. also No.Apart (length d.vertices) (λ v. Reachable d v → ⊥) (apart d) _ _ (apart_finds d)
    (λ e. also_one No.ManyLoops _ _ (is_lt 128 (length (loops d))) _ _
    (λ e. also_one No.ManyCandidates _ _ (is_lt 64 (length (candidates d))) (λ below. below) [] (λ e. done))))))

pub rules_say : (x : Input) → Says (λ below. forms x (drawings (drawing x) below)) (rules x)
rules_say x =
    let d = drawing x in
    subst (Says (λ below. forms x (drawings d below))) (sym (append_assoc (form x) (drawing_checks d) (loop_checks documented (loops d) (candidates d))))
    (behind (forms x) (drawings d) (form x) (drawing_checks d ++ loop_checks documented (loops d) (candidates d)) (form_says x)
    (λ e. drawing_says d (rising x e)))
