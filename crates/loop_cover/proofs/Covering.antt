-- The search for a loop that is covered, as the code goes through it: what is left of the loops has the whole answer.
use mathlib.Core.Bool.{Bool, true, false, not, ◌&&◌, cond}
use mathlib.Core.List.{List, [], ◌∷◌, map}
use mathlib.Core.Path.{◌≡◌, refl, sym, ap, ◌∙◌}
use Prim.Native.Nat.{ℕ, ◌+◌, ◌≤◌, ◌<◌}
use native.Mathlib.Omega.{arith}
use lib.Dec.{eqb}
use lib.IntN.{ℤ}
use lib.ListN.{length, drop, drop_of_length-le}
use Rattle.lists.specs.Lists.{upto}
use Rattle.lists.proofs.Places.{drop_more, made_length, upto_length, upto-at}
use Rattle.sets.specs.Word.{count, less}
use Rattle.sets.specs.Kinds.{SetAt}
use Rattle.sets.specs.Sets.{room, one_word, wides, Wide}
use Rattle.sets.specs.declared.Set.{Set}
use Rattle.sets.proofs.Laws.{at-is}
use Rattle.paper.specs.Polygon.{normal}
use Rattle.paper.specs.Drawing.{Wire, edge, wire, edge_at}
use Rattle.paper.specs.Loops.{Loop, loop_at, level, loops, covers_other}
use Rattle.paper.specs.Solids.{has}
use Rattle.paper.specs.declared.Point.{Point}
use Rattle.polygon.specs.Rings.{loop_in, ring, Row}
use Rattle.fast_search.specs.Search.{on_plane, plane_mask, plane_of}
use Rattle.fast_tables.specs.Hits.{corner_mask, side_mask}
use Rattle.fast_tables.specs.Covers.{middle_outside}
use Rattle.fast_tables.specs.Asked.{KnownEdges, free, asked_in_turn, unheld, searched, level_with, covers_by_answers}
use Rattle.fast_tables.proofs.Counts.{map_yes}
use Rattle.fast_tables.proofs.Drawings.{loop_path}
use Rattle.fast_tables.proofs.Candidates.{covers-found}
use Rattle.fast_tables.proofs.Planes.{level-search}
use Rattle.loop_table.proofs.Rows.{loop_is}
use Rattle.loop_table.proofs.Words.{mask_is}
use Rattle.loop_table.proofs.Loops.{loops_of, vertices_are, corners_short, sides_short, row_of}
use Rattle.loop_cover.specs.declared.Asked.{Asked}
use Rattle.loop_cover.specs.declared.Tried.{Tried}
use Rattle.loop_cover.specs.Midpoints.{outside_of, AskedIs, EdgesOf, AsksEdges, asked_now, Trial, TriedOf}
use Rattle.loop_cover.specs.Known.{Known, KnownLoop, FitsPlane}

-- ---- one turn of the search
module _ (m : ℕ) (out : ℕ → Bool) (fit : ℕ → Bool) (masks : ℕ → List Bool) (n : ℕ) where
  -- what the loops from j on say
  abbrev from_on : ℕ → KnownEdges → Bool
  from_on j g = searched m out fit masks (drop j (upto n)) g

  abbrev next : ℕ → KnownEdges → KnownEdges
  next j g = asked_in_turn out (unheld m (masks j) g) g

  module _ (j : ℕ) (h : j < n) (g : KnownEdges) where
    turn : from_on j g ≡ searched m out fit masks (j ∷ drop (j + 1) (upto n)) g
    turn =
        let e : drop j (upto n) ≡ j ∷ drop (j + 1) (upto n)
        = drop_more (upto n) j 0 (omega (arith, upto_length n)) ∙ ap (λ (x : ℕ). x ∷ drop (j + 1) (upto n)) (upto-at n j h) in
        ap (λ (js : List ℕ). searched m out fit masks js g) e

    skips : fit j ≡ false → from_on j g ≡ from_on (j + 1) g
    unfolding searched
    skips e =
        turn
        ∙ ap (λ (b : Bool). cond (b && free (masks j) g) (cond (free (masks j) (next j g)) true (from_on (j + 1) (next j g)))
        (from_on (j + 1) g)) e

    tries : fit j ≡ true
        → from_on j g ≡ cond (free (masks j) g && free (masks j) (next j g)) true (from_on (j + 1) (cond (free (masks j) g) (next j g) g))
    unfolding searched
    tries e =
        turn
        ∙ ap (λ (b : Bool). cond (b && free (masks j) g) (cond (free (masks j) (next j g)) true (from_on (j + 1) (next j g)))
        (from_on (j + 1) g)) e
        ∙ go (free (masks j) g)
      where
        go : (b : Bool) → cond b (cond (free (masks j) (next j g)) true (from_on (j + 1) (next j g))) (from_on (j + 1) g)
            ≡ cond (b && free (masks j) (next j g)) true (from_on (j + 1) (cond b (next j g) g))
        go true = refl
        go false = refl

  none_left : (j : ℕ) → n ≤ j → (g : KnownEdges) → from_on j g ≡ false
  unfolding searched
  none_left j h g =
      ap (λ (js : List ℕ). searched m out fit masks js g) (drop_of_length-le (upto n) {i = j} (omega (arith, upto_length n)))

-- ---- of a drawing
module _ {xyz : List ℤ} {ends table : List ℕ} {n : ℕ} {corners sides planes : List ℕ} {k : ℕ}
    (q : KnownLoop xyz ends table n corners sides planes k) where
  abbrev d : Wire
  d = wire xyz ends

  abbrev ls : List Loop
  ls = loops (wire xyz ends)

  abbrev known : Known xyz ends table n corners sides planes
  known = q.loops_known

  -- loop j is one of them
  there_in : (j : ℕ) → j < n → j < length ls
  there_in j h = omega (arith, known.count)

  pub row : Row xyz table k
  row = row_of known.passed.range table (loops_of d) known.rows k (there_in k q.there)

  -- ---- its words
  plane_level : (l : Loop) → plane_of d l ≡ map (level d l) (upto (length d.vertices))
  unfolding plane_of plane_mask on_plane level
  plane_level l = refl

  plane_short : (l : Loop) → length (plane_of d l) ≤ room
  plane_short l =
      let r = known.passed.range in
      omega (arith, ap length (plane_level l) ∙ made_length (level d l) (length d.vertices), vertices_are r, r.most)

  -- the sides of loop j, as a set of edges
  pub side_set : (j : ℕ) → j < n → {x : Wide} → SetAt wides sides j x → EdgesOf xyz ends x (side_mask d (loop_at ls j))
  unfolding side_mask
  side_set j h a =
      let l = loop_at ls j in
      record {
        is = at-is a (side_mask d l)
            (mask_is (side_mask d) sides ls known.sides_are j (there_in j h) (sides_short known.passed.range l));
        known = λ e t. (map_yes (λ e. has e l) (edge 0 0) d.edges e t).0;
      }

  -- ---- the search
  abbrev out : ℕ → Bool
  out e = outside_of xyz ends table k e

  abbrev fit : ℕ → Bool
  fit j = not (eqb k j) && level_with d (loop_at ls k) (loop_at ls j)

  abbrev masks : ℕ → List Bool
  masks j = side_mask d (loop_at ls j)

  -- its test of loop j is the code's
  pub fits_is : (j : ℕ) → j < n → {plane : Set} → SetAt one_word planes k plane → {r : Bool} → FitsPlane corners plane k j r → r ≡ fit j
  fits_is j h e f =
      let l = loop_at ls k in
      let i = loop_at ls j in
      let p = known.passed in
      let a = mask_is (corner_mask d) corners ls known.corners_are j (there_in j h) (corners_short known.passed.range i) in
      let b = at-is e (plane_of d l) (mask_is (plane_of d) planes ls known.planes_are k (there_in k q.there) (plane_short l)) in
      f (corner_mask d i) (plane_of d l) a b
      ∙ ap (λ (mask : List Bool). not (eqb k j) && eqb (count (less (corner_mask d i) mask)) 0) (plane_level l)
      ∙ ap (λ (b : Bool). not (eqb k j) && b) (sym (level-search d p.places p.clear k (there_in k q.there) i))

  -- loops from j on are left: what they say is the answer
  pub record Searching (f : Asked) (j : ℕ) : Type 0 where
    pub answers : KnownEdges
    pub stands : AskedIs f answers
    pub rest : covers_other d ls k ≡ searched (length d.edges) out fit masks (drop j (upto (length ls))) answers

  pub searching_start : {f : Asked} → wides.Is f.held (side_mask d (loop_at ls k)) → wides.Is f.outside [] → Searching f 0
  unfolding covers_by_answers
  searching_start a b =
      let l : loop_at ls k ≡ loop_in table k = sym (loop_is table ls known.rows (loops_of d).short k (there_in k q.there)) in
      let g : KnownEdges = record { held = side_mask d (loop_at ls k); outside = [] } in
      record {
        answers = g;
        stands = record { held_is = a; outside_is = b };
        rest =
            covers-found d ls (loop_path d) k
            ∙ ap (λ (x : Loop). searched (length d.edges) (λ e. middle_outside d x (edge_at d e)) fit masks (upto (length ls)) g) l;
      }

  module _ {f : Asked} (j : ℕ) (h : j < n) (s : Searching f j) where
    -- loop j is itself, or in another plane
    pub searching_skip : fit j ≡ false → Searching f (j + 1)
    searching_skip e = record {
      answers = s.answers;
      stands = s.stands;
      rest = s.rest ∙ skips (length d.edges) out fit masks (length ls) j (there_in j h) s.answers e;
    }

    module _ (e : fit j ≡ true) {x : Wide} (a : SetAt wides sides j x) {t : Tried} (o : TriedOf xyz ends table k x f t) where
      trial : Trial t (masks j) s.answers (asked_now xyz ends table k (masks j) s.answers)
      trial = o (masks j) s.answers (side_set j h a) s.stands

      -- its edges are asked
      asked-next : {b : Bool} → t.covers ≡ b → covers_other d ls k ≡ cond b true (searched (length d.edges) out fit masks
          (drop (j + 1) (upto (length ls)))
          (cond (free (masks j) s.answers) (asked_now xyz ends table k (masks j) s.answers) s.answers))
      asked-next c =
          s.rest ∙ tries (length d.edges) out fit masks (length ls) j (there_in j h) s.answers e
          ∙ ap (λ (b : Bool). cond b true (searched (length d.edges) out fit masks (drop (j + 1) (upto (length ls)))
          (cond (free (masks j) s.answers) (asked_now xyz ends table k (masks j) s.answers) s.answers)))
          (sym trial.covers_is ∙ c)

      pub searching_hit : t.covers ≡ true → true ≡ covers_other d ls k
      searching_hit c = sym (asked-next c)

      pub searching_miss : t.covers ≡ false → Searching t.asked (j + 1)
      searching_miss c = record {
        answers = cond (free (masks j) s.answers) (asked_now xyz ends table k (masks j) s.answers) s.answers;
        stands = trial.asked_is;
        rest = asked-next c;
      }

    -- what asking them takes
    pub asks : (m : Point) → m ≡ normal (ring xyz table k) → {x : Wide} → SetAt wides sides j x → AsksEdges xyz ends table k m x f
    asks m a e = record {
      range = known.passed.range;
      face = record { row = row; across = a };
      mask = masks j;
      mask_is = side_set j h e;
      answers = s.answers;
      stands = s.stands;
    }

  pub searching_end : {f : Asked} (j : ℕ) → n ≤ j → Searching f j → false ≡ covers_other d ls k
  searching_end j h s = sym (s.rest ∙ none_left (length d.edges) out fit masks (length ls) j (omega (arith, known.count)) s.answers)
