-- (i), (iii) and (v) go through the masks in order, and so ask the same of each place.
use mathlib.Core.Bool.{Bool, true, false, not, cond}
use mathlib.Core.List.{List, [], ◌∷◌}
use mathlib.Core.Option.{none}
use mathlib.Core.Path.{◌≡◌, refl, sym, ap, ◌∙◌, subst}
use Prim.Native.Nat.{ℕ, zero, suc, ◌+◌, ◌<◌}
use native.Mathlib.Omega.{arith}
use lib.ListN.{length, get_or}
use borrow.Author.Tests.{eqb-true, eq-eqb, not-false}
use Rattle.lists.proofs.Lowest.{lowest-none}
use Rattle.sets.specs.Word.{dig, count, both}
use Rattle.lists.proofs.Truth.{cond_passes}
use Rattle.lists.proofs.Places.{one_later}
use Rattle.paper.specs.Solids.{Tables, in_two, once_each_way, oriented, peaceful, clear_from}
use Rattle.paper.specs.Verdict.{edge_count}
use Rattle.means_leaf.specs.Meaning.{MaskInTwo}
use Rattle.means_leaf.proofs.Directions.{oriented_here}
use Rattle.means_leaf.proofs.Spread.{in_place}

module _ (taken : List Bool) where
  -- ---- (i), where 23 finds no edge

  pub counted_two : (t : Tables) → edge_count t taken ≡ none → MaskInTwo t.masks taken
  unfolding edge_count in_two
  counted_two t p mask i =
      let r = in_place mask t.masks i in
      let two = in_two (get_or t.masks r.0 []) taken in
      let q = lowest-none (λ e. not (in_two (get_or t.masks e []) taken)) (length t.masks) p r.0 r.1 in
      ap (λ (m : List Bool). count (both m taken)) (sym r.2)
      ∙ eqb-true (count (both (get_or t.masks r.0 []) taken)) 2 (not-false two q)

  -- ---- (iii)

  module _ (turned : List Bool) where
    pub oriented_each : (masks ups : List (List Bool)) → length masks ≡ length ups → oriented masks ups taken turned ≡ true
        → (e : ℕ) → e < length masks → once_each_way (get_or masks e []) (get_or ups e []) taken turned ≡ true
    oriented_each [] ups n o e h = absurd (omega arith)
    oriented_each (mask ∷ masks) [] n o e h = absurd (omega arith)
    oriented_each (mask ∷ masks) (up ∷ ups) n o zero h = (oriented_here mask up masks ups taken turned o).0
    oriented_each (mask ∷ masks) (up ∷ ups) n o (suc e) h =
        oriented_each masks ups (omega arith) (oriented_here mask up masks ups taken turned o).1 e (omega arith)

    pub each_oriented : (masks ups : List (List Bool))
        → ((e : ℕ) → e < length masks → once_each_way (get_or masks e []) (get_or ups e []) taken turned ≡ true)
        → oriented masks ups taken turned ≡ true
    unfolding oriented
    each_oriented [] ups f = refl
    each_oriented (mask ∷ masks) [] f = refl
    each_oriented (mask ∷ masks) (up ∷ ups) f = rw (f 0 (omega arith)) (each_oriented masks ups (λ e h. f (suc e) (omega arith)))

  -- ---- (v): one mask for each place from k on

  pub clear_each : (k : ℕ) (masks : List (List Bool)) → clear_from k masks taken ≡ true → (i : ℕ) → i < length masks
      → dig taken (k + i) ≡ true → count (both (get_or masks i []) taken) ≡ 0
  unfolding clear_from
  clear_each k [] e i h t = absurd (omega arith)
  clear_each k (mask ∷ masks) e zero h t =
      let z : k ≡ k + 0 = omega arith in
      eqb-true (count (both mask taken)) 0
      (subst (λ (b : Bool). peaceful b (count (both mask taken)) ≡ true) (ap (dig taken) z ∙ t)
      (cond_passes (peaceful (dig taken k) (count (both mask taken))) (clear_from (suc k) masks taken) e).0)
  clear_each k (mask ∷ masks) e (suc i) h t =
      clear_each (suc k) masks (cond_passes (peaceful (dig taken k) (count (both mask taken))) (clear_from (suc k) masks taken) e).1 i
      (omega arith) (ap (dig taken) (one_later k i) ∙ t)

  pub each_clear : (k : ℕ) (masks : List (List Bool))
      → ((i : ℕ) → i < length masks → dig taken (k + i) ≡ true → count (both (get_or masks i []) taken) ≡ 0)
      → clear_from k masks taken ≡ true
  unfolding clear_from
  each_clear k [] f = refl
  each_clear k (mask ∷ masks) f =
      go (dig taken k) refl (each_clear (suc k) masks (λ i h t. f (suc i) (omega arith) (ap (dig taken) (sym (one_later k i)) ∙ t)))
    where
      go : (b : Bool) → dig taken k ≡ b → clear_from (suc k) masks taken ≡ true
          → cond (peaceful b (count (both mask taken))) (clear_from (suc k) masks taken) false ≡ true
      go false p e = e
      go true p e =
          let z : k + 0 ≡ k = omega arith in
          rw (eq-eqb (count (both mask taken)) 0 (f 0 (omega arith) (ap (dig taken) z ∙ p))) e
