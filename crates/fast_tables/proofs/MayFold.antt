-- Rule C need not be asked of faces that share less.
use mathlib.Core.Path.{◌≡◌, refl, sym, ◌∙◌}
use mathlib.Core.Bool.{Bool, true, false, ◌&&◌, ◌||◌, true≢false}
use mathlib.Core.Logic.{◌⊎◌, inl, inr}
use Prim.Native.Nat.{ℕ, ◌+◌, ◌-◌, ◌≤◌, ◌<◌}
use native.Mathlib.Omega.{arith}
use borrow.Author.Tests.{eq-eqb, lt-ltb, ltb-false}
use lib.Dec.{eqb, ltb}
use lib.ListN.{length, get_or}
use Rattle.lists.specs.Lists.{member}
use Rattle.lists.specs.Around.{wrap}
use Rattle.lists.proofs.Truth.{never_true, and_left, and_right, and_both, same_truth}
use Rattle.lists.proofs.Places.{made_at}
use Rattle.sets.specs.Word.{dig, count, both}
use Rattle.sets.proofs.Digits.{dig-both, count-empty}
use Rattle.lists.proofs.Sides.{wrap_cases}
use Rattle.paper.specs.Drawing.{Wire, Edge, edge}
use Rattle.paper.specs.Loops.{Loop, polygon}
use Rattle.paper.specs.Clash.{folds}
use Rattle.paper.specs.Solids.{runs, has}
use Rattle.fast_tables.specs.Paths.{PointsApart, Path}
use Rattle.fast_tables.specs.Hits.{corner_mask, side_mask, share_enough, may_fold, folds_with}
use Rattle.fast_tables.proofs.Rounds.{runs_yes, has_cases, has-turn, has-ends, below_n}
use Rattle.fast_tables.proofs.Angles.{around_differ}
use Rattle.fast_tables.proofs.Folds.{Bent, folds_bent, bent_long}
use Rattle.fast_tables.proofs.Counts.{count_two, one_of_two, map_yes}

enough : (c m : ℕ) → 2 ≤ c → (c ≡ 2 → m ≡ 0) → share_enough c m ≡ true
unfolding share_enough
enough c m h f = go (ltb 2 c) refl
  where
    go : (b : Bool) → ltb 2 c ≡ b → (b || (eqb c 2 && eqb m 0)) ≡ true
    go true e = refl
    go false e =
        let l = ltb-false 2 c e in
        let q : c ≡ 2 = omega (arith, l) in
        and_both (eq-eqb c 2 q) (eq-eqb m 0 (f q))

module _ (d : Wire) (apart : PointsApart d) where
  -- the ends of a loop's side are two
  runs-apart : (l : Loop) → Path d l → (a b : ℕ) → runs a b l ≡ true → a ≡ b → ⊥
  runs-apart l path a b e q =
      let r = runs_yes a b l e in
      let h = r.1 in
      let t = path.long in
      let w : wrap (length l) r.0 ≡ wrap (length l) (r.0 + 1) = around_differ d apart l path r.0 (r.0 + 1) (omega (arith, h))
      (omega (arith, h, t)) (r.2 ∙ q ∙ sym r.3) in
      go r.0 h t w (wrap_cases (length l) r.0) (wrap_cases (length l) (r.0 + 1))
    where
      go : (k : ℕ) → k < length l → 3 ≤ length l → wrap (length l) k ≡ wrap (length l) (k + 1)
          → ((k < length l) × (wrap (length l) k ≡ k)) ⊎ ((length l ≤ k) × (wrap (length l) k ≡ k - length l))
          → ((k + 1 < length l) × (wrap (length l) (k + 1) ≡ k + 1)) ⊎ ((length l ≤ k + 1) × (wrap (length l) (k + 1) ≡ k + 1 - length l))
          → ⊥
      go k h t w (inl p) (inl s) = omega (arith, w, p.1, s.1)
      go k h t w (inl p) (inr s) = omega (arith, w, p.1, s.0, s.1)
      go k h t w (inr p) s = omega (arith, p.0)

  has-apart : (l : Loop) → Path d l → (a b : ℕ) → has (edge a b) l ≡ true → a ≡ b → ⊥
  has-apart l path a b e q = go (has_cases a b l e)
    where
      go : (runs a b l ≡ true) ⊎ (runs b a l ≡ true) → ⊥
      go (inl p) = runs-apart l path a b p q
      go (inr p) = runs-apart l path b a p (sym q)

  module _ (f g : Loop) (pf : Path d f) (pg : Path d g) where
    shared : (v : ℕ) → v < length d.vertices → member v f ≡ true → member v g ≡ true
        → dig (both (corner_mask d f) (corner_mask d g)) v ≡ true
    unfolding corner_mask
    shared v h p q =
        dig-both (corner_mask d f) (corner_mask d g) v
        ∙ and_both (made_at (λ v. member v f) (length d.vertices) v false h ∙ p)
        (made_at (λ v. member v g) (length d.vertices) v false h ∙ q)

    -- a common side of two loops that share the corners x and y alone is their side
    common : (b : Bent d f g) → count (both (corner_mask d f) (corner_mask d g)) ≡ 2 → (e : Edge) → has e f ≡ true → has e g ≡ true → ⊥
    common b c (edge s t) hf hg =
        go (third s ef.0 eg.0) (third t ef.1 eg.1)
      where
        ef : (member s f ≡ true) × (member t f ≡ true)
        ef = has-ends s t f hf

        eg : (member s g ≡ true) × (member t g ≡ true)
        eg = has-ends s t g hg

        third : (v : ℕ) → member v f ≡ true → member v g ≡ true → (v ≡ b.x) ⊎ (v ≡ b.y)
        third v p q =
            one_of_two (both (corner_mask d f) (corner_mask d g)) c b.x b.y (shared b.x b.x_below b.x_in_f b.x_in_g)
            (shared b.y b.y_below b.y_in_f b.y_in_g)
            (λ e. b.other (sym e)) v (shared v (below_n d f pf v p) p q)

        go : (s ≡ b.x) ⊎ (s ≡ b.y) → (t ≡ b.x) ⊎ (t ≡ b.y) → ⊥
        go (inl p) (inl q) = has-apart f pf s t hf (p ∙ sym q)
        go (inl p) (inr q) = true≢false (sym ((λ i. has (edge (sym p i) (sym q i)) f) ∙ hf) ∙ b.no_side_f)
        go (inr p) (inl q) = true≢false (sym ((λ i. has (edge (sym q i) (sym p i)) f) ∙ (has-turn t s f ∙ hf)) ∙ b.no_side_f)
        go (inr p) (inr q) = has-apart f pf s t hf (p ∙ sym q)

    bent_may : Bent d f g → may_fold d f g ≡ true
    unfolding may_fold side_mask
    bent_may b =
        let n = bent_long d f g pf pg b in
        and_both (and_both (lt-ltb 3 (length f) n.0) (lt-ltb 3 (length g) n.1))
        (enough (count (both (corner_mask d f) (corner_mask d g))) (count (both (side_mask d f) (side_mask d g)))
        (count_two (both (corner_mask d f) (corner_mask d g)) b.x b.y (shared b.x b.x_below b.x_in_f b.x_in_g)
        (shared b.y b.y_below b.y_in_f b.y_in_g) (λ e. b.other (sym e)))
        (λ c. count-empty (both (side_mask d f) (side_mask d g)) (λ k e. none b c k (sym (dig-both (side_mask d f) (side_mask d g) k) ∙ e))))
      where
        none : Bent d f g → count (both (corner_mask d f) (corner_mask d g)) ≡ 2 → (k : ℕ)
            → (dig (side_mask d f) k && dig (side_mask d g) k) ≡ true → ⊥
        none b c k e =
            let p = map_yes (λ e. has e f) (edge 0 0) d.edges k (and_left (dig (side_mask d f) k) (dig (side_mask d g) k) e) in
            let q = map_yes (λ e. has e g) (edge 0 0) d.edges k (and_right (dig (side_mask d f) k) (dig (side_mask d g) k) e) in
            common b c (get_or d.edges k (edge 0 0)) p.1 q.1

    pub folds_may : folds (polygon d f) (polygon d g) ≡ true → may_fold d f g ≡ true
    folds_may e = bent_may (folds_bent d apart f g pf pg e)

    pub folds_not : may_fold d f g ≡ false → folds (polygon d f) (polygon d g) ≡ false
    folds_not t = never_true (folds (polygon d f) (polygon d g)) (λ e. true≢false (sym (folds_may e) ∙ t))

    pub folds_with_lem : folds (polygon d f) (polygon d g) ≡ folds_with d f g
    unfolding folds_with
    folds_with_lem = same_truth _ _ (λ e. and_both (folds_may e) e) (λ e. and_right (may_fold d f g) (folds (polygon d f) (polygon d g)) e)
