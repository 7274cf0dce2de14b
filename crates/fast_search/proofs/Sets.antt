-- What the search's sets hold: the vertices that a path may go on to, and those that may close it.
use mathlib.Core.Bool.{Bool, true, false, not, ◌&&◌, ◌||◌, or-false, or_assoc, and-true, and-false, and_assoc}
use mathlib.Core.List.{List, [], ◌∷◌, ◌++◌, map}
use mathlib.Core.Path.{◌≡◌, refl, sym, ap, ◌∙◌}
use Prim.Native.Nat.{ℕ, ◌-◌, ◌≤◌, ◌<◌}
use native.Mathlib.Omega.{arith}
use native.Mathlib.Decide.{dec_lt}
use lib.Dec.{eqb, ltb, leb, eqb-suc-zero}
use lib.ListN.{length, get_or, length-append, get_or-eq_default}
use lib.Seq.{get_or_at}
use borrow.Author.Tests.{lt-ltb, le-ltb, le-leb}
use Rattle.lists.specs.Lists.{any, member, upto}
use Rattle.lists.proofs.Places.{made_length, made_at}
use Rattle.sets.specs.Word.{dig, both, less, only}
use Rattle.sets.proofs.Digits.{dig-both, dig-less}
use Rattle.sets.proofs.Ones.{only_is}
use Rattle.paper.specs.Points.{is_origin}
use Rattle.paper.specs.Drawing.{Wire, at, joined}
use Rattle.paper.specs.Loops.{Loop, final, follows, closes, branch, ext, across, level}
use Rattle.fast_search.specs.Search.{near, plane_mask, across_line}
use Rattle.fast_search.proofs.Scan.{goes}
use Rattle.fast_search.proofs.Phases.{level-line, level-turn}
use Rattle.fast_search.proofs.Phases.{plane_at}

-- ---- paths
pub member_more : (w : ℕ) (p : List ℕ) (v : ℕ) → member w (p ++ v ∷ []) ≡ (member w p || eqb w v)
unfolding member any
member_more w [] v = or-false (eqb w v)
member_more w (x ∷ p) v = ap (λ (b : Bool). eqb w x || b) (member_more w p v) ∙ sym (or_assoc (eqb w x) (member w p) (eqb w v))

pub final_more : (p : List ℕ) (v : ℕ) → final (p ++ v ∷ []) ≡ v
final_more p v = get_or_at p v [] 0 (length (p ++ v ∷ []) - 1) (omega (arith, length-append p (v ∷ [])))

-- an edge joins both ways
module _ (d : Wire) where
  -- v may be used after p, apart from being joined to its last vertex; a loop that begins as p does may end at v
  abbrev pub can : List ℕ → ℕ → Bool
  can p w = ltb (get_or p 0 0) w && not (member w p) && level d p w

  abbrev pub ends : List ℕ → ℕ → Bool
  ends p w = ltb (get_or p 1 0) w && joined d w (get_or p 0 0)

  abbrev pub size : ℕ
  size = length d.vertices

  abbrev pub follow : List ℕ → ℕ → Bool
  follow = follows size (joined d) (level d)

  abbrev pub deep : ℕ → List ℕ → List Loop
  deep k q = ext size (joined d) (level d) k q 0

  abbrev pub begun : ℕ → List ℕ → List Loop
  begun k p = branch size (joined d) (level d) true (deep k) p

  pub follow_can : (x : ℕ) (r : List ℕ) (w : ℕ) → follow (x ∷ r) w ≡ (joined d (final (x ∷ r)) w && can (x ∷ r) w)
  unfolding follows
  follow_can x r w =
      ap (λ (b : Bool). b || (ltb x w && joined d (final (x ∷ r)) w && not (member w (x ∷ r)) && level d (x ∷ r) w))
      (eqb-suc-zero (length r))
      ∙ order (ltb x w) (joined d (final (x ∷ r)) w) (not (member w (x ∷ r))) (level d (x ∷ r) w)
    where
      order : (a b c e : Bool) → (a && b && c && e) ≡ (b && (a && c && e))
      order true b c e = and_assoc b c e
      order false true c e = refl
      order false false c e = refl

  pub closes-ends : (x y : ℕ) (r : List ℕ) → closes size (joined d) (level d) (x ∷ (y ∷ r)) ≡ ends (x ∷ (y ∷ r)) (final (x ∷ (y ∷ r)))
  unfolding closes
  closes-ends x y [] =
      ap (λ (b : Bool). leb 3 2 && b && joined d y x) (le-ltb y y (omega arith))
      ∙ sym (ap (λ (b : Bool). b && joined d y x) (le-ltb y y (omega arith)))
  closes-ends x y (z ∷ r) =
      let p = x ∷ (y ∷ (z ∷ r)) in
      ap (λ (b : Bool). b && ltb y (final p) && joined d (final p) x) (le-leb 3 (length p) (omega arith))

  -- ---- what the sets hold
  unfoldable pub Free : List ℕ → List Bool → Type 0
  Free p free = (w : ℕ) → w < size → dig free w ≡ can p w

  unfoldable pub Closing : List ℕ → List Bool → Type 0
  Closing p closing = (w : ℕ) → w < size → dig closing w ≡ ends p w

  near-at : (u w : ℕ) → w < size → dig (near d u) w ≡ joined d u w
  unfolding near
  near-at u w h = made_at (joined d u) size w false h

  near_past : (u w : ℕ) → size ≤ w → dig (near d u) w ≡ false
  unfolding near
  near_past u w h = get_or-eq_default (map (joined d u) (upto size)) false (omega (arith, made_length (joined d u) size))

  -- the set that the search goes through
  pub row_is : (x : ℕ) (r : List ℕ) (free : List Bool) → Free (x ∷ r) free → (j : ℕ)
      → dig (both (near d (final (x ∷ r))) free) j ≡ goes size (joined d) (level d) (x ∷ r) j
  unfolding Free
  row_is x r free f j = dig-both (near d (final (x ∷ r))) free j ∙ go (dec_lt j size)
    where
      go : Dec (j < size) → (dig (near d (final (x ∷ r))) j && dig free j) ≡ (ltb j size && follow (x ∷ r) j)
      go (yes h) =
          (λ i. near-at (final (x ∷ r)) j h i && f j h i) ∙ sym (follow_can x r j)
          ∙ sym (ap (λ (b : Bool). b && follow (x ∷ r) j) (lt-ltb j size h))
      go (no h) =
          let k : size ≤ j = omega (arith, h) in
          ap (λ (b : Bool). b && dig free j) (near_past (final (x ∷ r)) j k)
          ∙ sym (ap (λ (b : Bool). b && follow (x ∷ r) j) (le-ltb j size k))

  -- one vertex more is no longer free
  dropped_at : (x : ℕ) (r : List ℕ) (v : ℕ) (free : List Bool) → Free (x ∷ r) free → (w : ℕ) → w < size
      → dig (less free (only v)) w ≡ (ltb x w && not (member w (x ∷ (r ++ v ∷ []))) && level d (x ∷ r) w)
  unfolding Free
  dropped_at x r v free f w h =
      dig-less free (only v) w ∙ (λ i. f w h i && not (only_is v w i)) ∙ order (ltb x w) (member w (x ∷ r)) (level d (x ∷ r) w) (eqb w v)
      ∙ (λ i. ltb x w && not (sym (member_more w (x ∷ r) v) i) && level d (x ∷ r) w)
    where
      order : (a m e b : Bool) → (a && not m && e && not b) ≡ (a && not (m || b) && e)
      order true true e b = refl
      order true false e true = and-false e
      order true false e false = and-true e
      order false m e b = refl

  pub free_more : (x : ℕ) (r : List ℕ) (v : ℕ) (free : List Bool) → ((w : ℕ) → level d (x ∷ (r ++ v ∷ [])) w ≡ level d (x ∷ r) w)
      → Free (x ∷ r) free → Free (x ∷ (r ++ v ∷ [])) (less free (only v))
  unfolding Free
  free_more x r v free l f w h =
      dropped_at x r v free f w h ∙ ap (λ (b : Bool). ltb x w && not (member w (x ∷ (r ++ v ∷ []))) && b) (sym (l w))

  -- and where it fixes the plane, only those in the plane are
  pub free-turn : (x y : ℕ) (r : List ℕ) (v : ℕ) (free : List Bool) → is_origin (across d (x ∷ (y ∷ r))) ≡ true → Free (x ∷ (y ∷ r)) free
      → Free (x ∷ (y ∷ (r ++ v ∷ []))) (both (less free (only v)) (plane_mask d (at d x) (across_line d (x ∷ (y ∷ r)) v)))
  unfolding Free
  free-turn x y r v free o f w h =
      let a = ltb x w && not (member w (x ∷ (y ∷ (r ++ v ∷ [])))) in
      let one : dig (less free (only v)) w ≡ a = dropped_at x (y ∷ r) v free f w h
      ∙ ap (λ (b : Bool). a && b) (level-line d (x ∷ (y ∷ r)) o w) ∙ and-true a in
      let two : dig (plane_mask d (at d x) (across_line d (x ∷ (y ∷ r)) v)) w ≡ level d (x ∷ (y ∷ (r ++ v ∷ []))) w = plane_at d (at d x)
      (across_line d (x ∷ (y ∷ r)) v) w h ∙ sym (level-turn d x y r v o w) in
      dig-both (less free (only v)) (plane_mask d (at d x) (across_line d (x ∷ (y ∷ r)) v)) w ∙ (λ i. one i && two i)
