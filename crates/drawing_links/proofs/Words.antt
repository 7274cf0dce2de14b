-- The neighbour words: what they say of the edges, how they grow with each edge, and when one is zero.
use mathlib.Core.Path.{◌≡◌, refl, sym, ap, ◌∙◌}
use mathlib.Core.Bool.{Bool, true, false, not, ◌||◌, ◌&&◌, true≢false, or_assoc, and-true}
use mathlib.Core.List.{List, [], ◌∷◌, map}
use Prim.Native.Nat.{ℕ, ◌≤◌, ◌<◌}
use native.Mathlib.Decide.{dec_lt}
use native.Mathlib.Omega.{arith}
use borrow.Author.Tests.{eq-eqb, ne_eqb}
use lib.Dec.{eqb}
use lib.ListN.{length, get_or, replicate, length-map, length-replicate, get_or-replicate, get_or-eq_default}
use lib.Seq.{ext_get_or}
use Rattle.lists.specs.Lists.{any, upto}
use Rattle.lists.proofs.Truth.{or-none}
use Rattle.lists.proofs.Places.{map_at, upto_length, upto-at}
use Rattle.paper.specs.Numbers.{most_vertices}
use Rattle.paper.specs.Drawing.{Wire, Edge, edge, edges_of, ends, joins, joined}
use Rattle.paper_laws.specs.InRange.{Ends}
use Rattle.sets.specs.Word.{digit}
use Rattle.sets.specs.Sets.{MarkedAt}
use Rattle.drawing_links.specs.Neighbours.{neighbour_word, neighbour_words, Links}
use Rattle.sets.proofs.Numbers.{digit_zero, digit-word, by_digits, none-digits}
use Rattle.drawing_links.proofs.Edges.{unknown}

-- ---- the words by their digits

-- whether an edge joins u to each of the v vertices
abbrev row : List ℕ → ℕ → ℕ → List Bool
row es v u = map (λ k. any (joins u k) (edges_of es)) (upto v)

-- as many words as there may be vertices
abbrev most : ℕ
most = most_vertices

module _ {es : List ℕ} {v : ℕ} (p : Ends es v) where
  row-at : (u w : ℕ) → get_or (row es v u) w false ≡ any (joins u w) (edges_of es)
  row-at u w = go (dec_lt w v)
    where
      go : Dec (w < v) → get_or (row es v u) w false ≡ any (joins u w) (edges_of es)
      go (yes h) =
          map_at (λ k. any (joins u k) (edges_of es)) (upto v) w 0 false (omega (arith, upto_length v))
          ∙ ap (λ (k : ℕ). any (joins u k) (edges_of es)) (upto-at v w h)
      go (no h) =
          let n = length-map (upto v) (λ k. any (joins u k) (edges_of es)) in
          get_or-eq_default (row es v u) false (omega (arith, n, upto_length v)) ∙ sym (unknown p u w (omega arith))

  word_at : (u : ℕ) → u < most → get_or (neighbour_words (edges_of es) v) u 0 ≡ neighbour_word (edges_of es) v u
  unfolding neighbour_words
  word_at u h =
      map_at (neighbour_word (edges_of es) v) (upto most) u 0 0 (omega (arith, upto_length most))
      ∙ ap (neighbour_word (edges_of es) v) (upto-at most u h)

  -- digit w of word u says whether an edge joins the two
  pub neighbour_digit : (u w : ℕ) → u < most
      → digit (get_or (neighbour_words (edges_of es) v) u 0) w ≡ any (joins u w) (edges_of es)
  unfolding neighbour_word
  neighbour_digit u w h = ap (λ (m : ℕ). digit m w) (word_at u h) ∙ digit-word (row es v u) w ∙ row-at u w

  pub links_are : {d : Wire} → v ≤ most → length d.vertices ≡ v → d.edges ≡ edges_of es
      → Links (neighbour_words (edges_of es) v) v d
  unfolding joined
  links_are h n e = record {
    count = n;
    joins = λ u k w. neighbour_digit u w (omega arith) ∙ ap (any (joins u w)) (sym e);
  }

  -- words with these digits are the words
  pub words_are : (l : List ℕ) → length l ≡ most
      → ((u w : ℕ) → digit (get_or l u 0) w ≡ any (joins u w) (edges_of es))
      → l ≡ neighbour_words (edges_of es) v
  unfolding neighbour_word neighbour_words
  words_are l n h =
      let m : length (neighbour_words (edges_of es) v) ≡ most =
      length-map (upto most) (neighbour_word (edges_of es) v) ∙ upto_length most in
      ext_get_or 0 l (neighbour_words (edges_of es) v) (n ∙ sym m)
      (λ u k. by_digits (get_or l u 0) (row es v u) (λ w. h u w ∙ sym (row-at u w)) ∙ sym (word_at u (omega arith)))

-- ---- an edge more

pub no_marks : (n u w : ℕ) → digit (get_or (replicate n 0) u 0) w ≡ false
no_marks n u w = go (dec_lt u n)
  where
    go : Dec (u < n) → digit (get_or (replicate n 0) u 0) w ≡ false
    go (yes h) = ap (λ (m : ℕ). digit m w) (get_or-replicate n u 0 0 h) ∙ digit_zero w
    go (no h) =
        let none : List ℕ = replicate n 0 in
        let past : get_or none u 0 ≡ 0 = get_or-eq_default none 0 (omega (arith, length-replicate {A = ℕ} n 0)) in
        ap (λ (m : ℕ). digit m w) past ∙ digit_zero w

-- both marks of an edge
pub marked : (l l' l'' : List ℕ) (a b u w : ℕ) → MarkedAt l a b l' → MarkedAt l' b a l''
    → digit (get_or l'' u 0) w ≡ digit (get_or l u 0) w || joins u w (edge a b)
unfolding joins
marked l l' l'' a b u w m n =
    n u w ∙ ap (λ (t : Bool). t || eqb u b && eqb w a) (m u w)
    ∙ or_assoc (digit (get_or l u 0) w) (eqb u a && eqb w b) (eqb u b && eqb w a)

-- ---- a word is zero where the vertex is on no edge

module _ (u a b : ℕ) where
  end_none : joins u b (edge a b) ≡ false → joins u a (edge a b) ≡ false → ends u (edge a b) ≡ false
  unfolding joins ends
  end_none h k =
      let at_a : eqb u a && eqb b b ≡ false = (or-none (eqb u a && eqb b b) (eqb u b && eqb b a) h).0 in
      let at_b : eqb u b && eqb a a ≡ false = (or-none (eqb u a && eqb a b) (eqb u b && eqb a a) k).1 in
      λ i. (sym (and-true (eqb u a)) ∙ ap (λ (t : Bool). eqb u a && t) (sym (eq-eqb b b refl)) ∙ at_a) i
      || (sym (and-true (eqb u b)) ∙ ap (λ (t : Bool). eqb u b && t) (sym (eq-eqb a a refl)) ∙ at_b) i

  none_end : ends u (edge a b) ≡ false → (w : ℕ) → joins u w (edge a b) ≡ false
  unfolding joins ends
  none_end h w =
      let n = or-none (eqb u a) (eqb u b) h in
      λ i. n.0 i && eqb w b || n.1 i && eqb w a

ends-none : (es : List Edge) (u : ℕ) → ((w : ℕ) → any (joins u w) es ≡ false) → any (ends u) es ≡ false
unfolding any
ends-none [] u h = refl
ends-none (edge a b ∷ es) u h =
    let here : (w : ℕ) → joins u w (edge a b) ≡ false = λ w. (or-none (joins u w (edge a b)) (any (joins u w) es) (h w)).0 in
    let rest : any (ends u) es ≡ false = ends-none es u (λ w. (or-none (joins u w (edge a b)) (any (joins u w) es) (h w)).1) in
    λ i. end_none u a b (here b) (here a) i || rest i

none-ends : (es : List Edge) (u : ℕ) → any (ends u) es ≡ false → (w : ℕ) → any (joins u w) es ≡ false
unfolding any
none-ends [] u h w = refl
none-ends (edge a b ∷ es) u h w =
    let n = or-none (ends u (edge a b)) (any (ends u) es) h in
    λ i. none_end u a b n.0 w i || none-ends es u n.1 w i

pub loose_is : {words : List ℕ} {v : ℕ} {d : Wire} → Links words v d → (u : ℕ) → u < v
    → eqb (get_or words u 0) 0 ≡ not (any (ends u) d.edges)
unfolding joined
loose_is {words} {v} {d} l u h = go (any (ends u) d.edges) refl
  where
    go : (t : Bool) → any (ends u) d.edges ≡ t → eqb (get_or words u 0) 0 ≡ not t
    go false e =
        eq-eqb (get_or words u 0) 0 (none-digits (get_or words u 0) (λ w. l.joins u h w ∙ none-ends d.edges u e w))
    go true e =
        ne_eqb (get_or words u 0) 0
        (λ z.
        let none : (w : ℕ) → any (joins u w) d.edges ≡ false =
        λ w. sym (l.joins u h w) ∙ ap (λ (m : ℕ). digit m w) z ∙ digit_zero w in
        true≢false (sym e ∙ ends-none d.edges u none))
