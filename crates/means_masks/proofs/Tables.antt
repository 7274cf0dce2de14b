-- The tables of a drawing, edge by edge and face by face: what their masks and numbers say is (i) to (v).
use mathlib.Core.Bool.{Bool, true, false, ◌&&◌}
use mathlib.Core.List.{List, [], ◌∷◌, map}
use mathlib.Core.Path.{◌≡◌, refl, sym, ap, ap₂, subst, ◌∙◌}
use Prim.Native.Nat.{ℕ, suc, ◌≤◌, ◌<◌}
use native.Mathlib.Omega.{arith}
use native.Mathlib.Decide.{dec_lt, ℕ_discrete}
use lib.IntN.{ℤ, ◌+ℤ◌}
use lib.ListN.{length, get_or, length-map}
use borrow.Author.Tests.{lt-ltb, le-ltb}
use Rattle.lists.specs.Lists.{upto}
use Rattle.lists.proofs.Truth.{and_left, and_right, and_both, never_true}
use Rattle.lists.proofs.Places.{map_at, made_at}
use Rattle.sets.specs.Word.{dig, count, both}
use Rattle.sets.proofs.Digits.{never, dig-both, count_none, count-empty}
use Rattle.sets.proofs.Ones.{dig-below}
use Rattle.paper.specs.Drawing.{Wire, edge, edge_at}
use Rattle.paper.specs.Loops.{Loop, loop_at, polygon}
use Rattle.paper.specs.Clash.{clash}
use Rattle.paper.specs.Solids.{runs_up, has, face_six, clashing, tables_of, once_each_way, part, six_from}
use Rattle.paper_laws.specs.Planes.{InOwnPlane}
use Rattle.paper_laws.proofs.Wires.{polygon-at}
use Rattle.means_clash.proofs.Either.{clash-either}
use Rattle.means_leaf.specs.Meaning as Masks
use Rattle.means_leaf.specs.Meaning.{In, FaceOn}
use Rattle.means_leaf.proofs.Spread.{in_place, place_in}
use Rattle.means_solid.specs.Proper.{AllProper}
use Rattle.means_solid.specs.Solid.{Face, InTwo, Way, stay, cross, EachWay, face_sum, six_of_faces}
use Rattle.means_masks.proofs.Edges.{on_has, has_on, two_in, in_two_lem, once_ways, ways_once}

-- two candidates clash whichever is named first
abbrev pub Even : Wire → List Loop → Type 0
Even d cs =
    (j k : ℕ) → j < length cs → k < length cs
    → clash (polygon d (loop_at cs j)) (polygon d (loop_at cs k)) ≡ clash (polygon d (loop_at cs k)) (polygon d (loop_at cs j))

-- they do where each lies in its plane
pub flat_even : (d : Wire) (cs : List Loop) → ((k : ℕ) → k < length cs → InOwnPlane (polygon d (loop_at cs k))) → Even d cs
flat_even d cs flat j k hj hk = clash-either (polygon d (loop_at cs j)) (polygon d (loop_at cs k)) (flat j hj) (flat k hk)

module _ (d : Wire) (cs : List Loop) where
  -- ---- the masks of the edges

  pub masks_length : length (tables_of d cs).masks ≡ length d.edges
  unfolding tables_of
  masks_length = length-map d.edges (λ e. map (has e) cs)

  ups_length : length (tables_of d cs).ups ≡ length d.edges
  unfolding tables_of
  ups_length = length-map d.edges (λ e. map (runs_up e) cs)

  pub as_many : length (tables_of d cs).masks ≡ length (tables_of d cs).ups
  as_many = masks_length ∙ sym ups_length

  pub mask_at : (e : ℕ) → e < length d.edges → get_or (tables_of d cs).masks e [] ≡ map (has (edge_at d e)) cs
  unfolding tables_of edge_at
  mask_at e h = map_at (λ x. map (has x) cs) d.edges e (edge 0 0) [] h

  up_at : (e : ℕ) → e < length d.edges → get_or (tables_of d cs).ups e [] ≡ map (runs_up (edge_at d e)) cs
  unfolding tables_of edge_at
  up_at e h = map_at (λ x. map (runs_up x) cs) d.edges e (edge 0 0) [] h

  mask_in : (e : ℕ) → e < length d.edges → In (map (has (edge_at d e)) cs) (tables_of d cs).masks
  mask_in e h =
      subst (λ (m : List Bool). In m (tables_of d cs).masks) (mask_at e h) (place_in (tables_of d cs).masks e (omega (arith, masks_length)))

  in_mask : (mask : List Bool) → In mask (tables_of d cs).masks → (e : ℕ) × (e < length d.edges) × (mask ≡ map (has (edge_at d e)) cs)
  in_mask mask i =
      let r = in_place mask (tables_of d cs).masks i in
      let l : r.0 < length d.edges = omega (arith, r.1, masks_length) in
      (r.0, l, sym r.2 ∙ mask_at r.0 l)

  module _ (taken turned : List Bool) where
    -- ---- (i)

    abbrev pub EachTwo : Type 0
    EachTwo = (e : ℕ) → e < length d.edges → InTwo d cs taken turned (edge_at d e)

    pub two_masks : EachTwo → Masks.MaskInTwo (tables_of d cs).masks taken
    two_masks f mask i =
        let r = in_mask mask i in
        ap (λ (m : List Bool). count (both m taken)) r.2 ∙ in_two_lem d cs taken turned (edge_at d r.0) (f r.0 r.1)

    pub masks_two : Masks.MaskInTwo (tables_of d cs).masks taken → EachTwo
    masks_two f e h = two_in d cs taken turned (edge_at d e) (f (map (has (edge_at d e)) cs) (mask_in e h))

    -- ---- (ii)

    pub way-through : {j k : ℕ} → Face d cs taken turned j → Masks.MaskWay (tables_of d cs).masks taken j k → Way d cs taken turned j k
    way-through f Masks.stay = stay f
    way-through f (Masks.across mask g w i p q) = go (in_mask mask i) (way-through f w) p q
      where
        go : {j k : ℕ} → (e : ℕ) × (e < length d.edges) × (mask ≡ map (has (edge_at d e)) cs) → Way d cs taken turned j g
            → FaceOn mask taken g → FaceOn mask taken k → Way d cs taken turned j k
        go {k = k} r w p q =
            let a = on_has d cs taken turned (edge_at d r.0) g (subst (λ (m : List Bool). FaceOn m taken g) r.2 p) in
            let b = on_has d cs taken turned (edge_at d r.0) k (subst (λ (m : List Bool). FaceOn m taken k) r.2 q) in
            cross w r.0 r.1 a.1 b.0 b.1

    way_end : {j k : ℕ} → Way d cs taken turned j k → Face d cs taken turned k
    way_end (stay f) = f
    way_end (cross w e l h f g) = f

    pub through-way : {j k : ℕ} → Way d cs taken turned j k → Masks.MaskWay (tables_of d cs).masks taken j k
    through-way (stay f) = Masks.stay
    through-way (cross w e l h f g) =
        Masks.across (map (has (edge_at d e)) cs) _ (through-way w) (mask_in e l)
        (has_on d cs taken turned (edge_at d e) _ (way_end w) h) (has_on d cs taken turned (edge_at d e) _ f g)

    -- ---- (iii)

    abbrev pub OnceAt : ℕ → Type 0
    OnceAt e = once_each_way (get_or (tables_of d cs).masks e []) (get_or (tables_of d cs).ups e []) taken turned ≡ true

    pub ways_at : AllProper cs → (e : ℕ) → e < length d.edges → OnceAt e → EachWay d cs taken turned (edge_at d e)
    ways_at ok e h p =
        once_ways d cs taken turned ok (edge_at d e)
        (ap₂ (λ (m u : List Bool). once_each_way m u taken turned) (sym (mask_at e h)) (sym (up_at e h)) ∙ p)

    pub at_ways : AllProper cs → (e : ℕ) → e < length d.edges → EachWay d cs taken turned (edge_at d e) → OnceAt e
    at_ways ok e h w =
        ap₂ (λ (m u : List Bool). once_each_way m u taken turned) (mask_at e h) (up_at e h) ∙ ways_once d cs taken turned ok (edge_at d e) w

    -- ---- (iv)

    six_from_lem : (k : ℕ) (ls : List Loop) → six_from k (map face_six (map (polygon d) ls)) taken turned ≡ six_of_faces d cs taken turned k ls
    unfolding six_from face_sum
    six_from_lem k [] = refl
    six_from_lem k (l ∷ ls) = ap (λ (z : ℤ). part (dig taken k) (dig turned k) (face_six (polygon d l)) +ℤ z) (six_from_lem (suc k) ls)

    pub six_is : six_from 0 (tables_of d cs).sixes taken turned ≡ six_of_faces d cs taken turned 0 cs
    unfolding tables_of
    six_is = six_from_lem 0 cs

  -- ---- (v)

  module _ (even : Even d cs) (taken : List Bool) (some : length taken ≡ length cs) where
    pub clash-dig : (j k : ℕ) → j < length cs → k < length cs
        → dig (get_or (tables_of d cs).clashes j []) k ≡ clashing (map (polygon d) cs) j k
    unfolding tables_of
    clash-dig j k hj hk =
        ap (λ (m : List Bool). dig m k) (made_at (λ i. map (clashing (map (polygon d) cs) i) (upto (length cs))) (length cs) j [] hj)
        ∙ made_at (clashing (map (polygon d) cs) j) (length cs) k false hk

    pub clashing_is : (j k : ℕ) → j < length cs → k < length cs → (j ≡ k → ⊥)
        → clashing (map (polygon d) cs) j k ≡ clash (polygon d (loop_at cs j)) (polygon d (loop_at cs k))
    unfolding clashing
    clashing_is j k hj hk n = go (dec_lt j k)
      where
        go : Dec (j < k) → clashing (map (polygon d) cs) j k ≡ clash (polygon d (loop_at cs j)) (polygon d (loop_at cs k))
        go (yes h) = rw (lt-ltb j k h) (ap₂ clash (polygon-at d cs j hj) (polygon-at d cs k hk))
        go (no h) =
            rw (le-ltb j k (omega arith), lt-ltb k j (omega arith)) (ap₂ clash (polygon-at d cs k hk) (polygon-at d cs j hj) ∙ even k j hk hj)

    pub clashing_self : (j : ℕ) → clashing (map (polygon d) cs) j j ≡ false
    unfolding clashing
    clashing_self j = let z : j ≤ j = omega arith in rw (le-ltb j j z)

    -- no face clashes with another; no face's mask of clashes has a face
    abbrev pub Apart : Type 0
    Apart =
        (j k : ℕ) → dig taken j ≡ true → dig taken k ≡ true → (j ≡ k → ⊥)
        → clash (polygon d (loop_at cs j)) (polygon d (loop_at cs k)) ≡ false

    abbrev pub Clear : Type 0
    Clear = (j : ℕ) → dig taken j ≡ true → count (both (get_or (tables_of d cs).clashes j []) taken) ≡ 0

    pub clear_apart : Clear → Apart
    clear_apart f j k hj hk n =
        let lj = dig-below taken some j hj in
        let lk = dig-below taken some k hk in
        sym (clashing_is j k lj lk n)
        ∙ never_true (clashing (map (polygon d) cs) j k) (λ e.
        count_none (both (get_or (tables_of d cs).clashes j []) taken) (f j hj) k
        (dig-both (get_or (tables_of d cs).clashes j []) taken k ∙ and_both (clash-dig j k lj lk ∙ e) hk))

    pub apart-clear : Apart → Clear
    apart-clear f j hj =
        count-empty (both (get_or (tables_of d cs).clashes j []) taken) (λ k q.
        let b : (dig (get_or (tables_of d cs).clashes j []) k && dig taken k) ≡ true
        = sym (dig-both (get_or (tables_of d cs).clashes j []) taken k) ∙ q in
        let hk = and_right (dig (get_or (tables_of d cs).clashes j []) k) (dig taken k) b in
        differ k hk
        (sym (clash-dig j k (dig-below taken some j hj) (dig-below taken some k hk))
        ∙ and_left (dig (get_or (tables_of d cs).clashes j []) k) (dig taken k) b)
        (ℕ_discrete j k))
      where
        differ : (k : ℕ) → dig taken k ≡ true → clashing (map (polygon d) cs) j k ≡ true → Dec (j ≡ k) → ⊥
        differ k hk e (yes z) = never (sym (subst (λ (x : ℕ). clashing (map (polygon d) cs) j x ≡ true) (sym z) e) ∙ clashing_self j)
        differ k hk e (no z) = never (sym e ∙ clashing_is j k (dig-below taken some j hj) (dig-below taken some k hk) z ∙ f j k hj hk z)
