-- The search is the tree's: how it ends, by the tree alone.
use mathlib.Core.Bool.{Bool, ◌&&◌, cond}
use mathlib.Core.List.{List, []}
use mathlib.Core.Logic.{◌⊎◌, inl, inr}
use mathlib.Core.Path.{◌≡◌, refl, sym, ap, ◌∙◌, subst}
use Prim.Native.Nat.{ℕ, zero, suc, ◌≤◌, ◌<◌}
use native.Mathlib.Omega.{arith}
use lib.ListN.{length, replicate}
use Rattle.lists.specs.Lists.{filter}
use Rattle.sets.specs.Word.{bit}
use Rattle.paper.specs.Refusals.{value_of}
use Rattle.paper.specs.Refusals as No
use Rattle.paper.specs.Walk.{Status, Undecided, open_count, stable, Log, nothing, walk, search}
use Rattle.means_walk.specs.Complete.{agrees, exact, times_in}
use Rattle.means_walk.specs.Tree.{Tree, assumptions, leaves, steps, made, up_to, Exhausted, OneMore, SweepPassed}
use Rattle.means_walk.proofs.Complete.{finds, times-filter}
use Rattle.means_walk.proofs.Limit.{walk-higher}
use Rattle.means_walk.proofs.Grown.{sweeps_stable, sweeps, tree, tree_leaves}
use Rattle.means_walk.proofs.Follow.{follow_ends, up_whole}
use Rattle.means_walk.proofs.Steps.{follow, walk-follows, made-steps, sought-steps}

pub open_blank : (n : ℕ) → open_count (replicate n Undecided) ≡ n
unfolding open_count
open_blank zero = refl
open_blank (suc n) = omega (arith, open_blank n)

module _ (accept : List Status → Bool) (n : ℕ) (masks : List (List Bool)) (t : Tree masks (replicate n Undecided)) where
  -- the leaves: each selection that has two taken on each edge, once, and no other
  pub leaves_all : (x : List Status) → times_in x (leaves t) ≡ bit (agrees (replicate n Undecided) x && exact masks x)
  leaves_all x =
      ap (times_in x) (sym (tree_leaves masks t (suc n) (omega (arith, open_blank n))))
      ∙ finds masks x (suc n) (replicate n Undecided) (omega (arith, open_blank n))

  -- the accepted leaves: each selection that has two taken on each edge and that the test accepts, once, and no other
  pub leaves_once : (x : List Status)
      → times_in x (filter accept (leaves t)) ≡ cond (accept x) (bit (agrees (replicate n Undecided) x && exact masks x)) 0
  leaves_once x =
      ap (λ (l : List (List Status)). times_in x (filter accept l)) (sym (tree_leaves masks t (suc n) (omega (arith, open_blank n))))
      ∙ times-filter accept x _
      ∙ ap (λ (m : ℕ). cond (accept x) m 0) (finds masks x (suc n) (replicate n Undecided) (omega (arith, open_blank n)))

  module _ (cap limit : ℕ) where
    search-follows : search cap accept limit n masks ≡ follow cap accept limit (steps t) (record { work = 0; found = []; ended = 0 })
    unfolding search
    search-follows = walk-follows cap accept limit t (suc n) (omega (arith, open_blank n)) nothing

    pub search-ends : Exhausted accept cap limit (steps t) (search cap accept limit n masks)
        ⊎ (OneMore accept cap limit (steps t) (search cap accept limit n masks)
        ⊎ SweepPassed accept cap limit (steps t) (search cap accept limit n masks))
    search-ends =
        subst
        (λ (l : Log). Exhausted accept cap limit (steps t) l
        ⊎ (OneMore accept cap limit (steps t) l ⊎ SweepPassed accept cap limit (steps t) l)) (sym search-follows)
        (follow_ends cap accept limit (steps t))

    -- the walk's assumptions up to one accepted leaf more than the cap
    abbrev pub up_to_cap : ℕ
    up_to_cap = made (up_to accept cap (steps t))

    abbrev pub accepted-leaves : List (List Status)
    accepted-leaves = filter accept (leaves t)

    -- exhausted, and just when
    pub record Whole : Type 0 where
      pub few : length accepted-leaves ≤ cap
      pub short : assumptions t ≤ limit
      pub work : (search cap accept limit n masks).work ≡ assumptions t
      pub found : (search cap accept limit n masks).found ≡ accepted-leaves

    zero_many : {A : Type 0} {x : ℕ} → x ≡ 0 → x ≡ value_of No.Many → A
    zero_many p q = absurd (omega arith)

    zero_long : {A : Type 0} {x : ℕ} → x ≡ 0 → x ≡ value_of No.TooLong → A
    zero_long p q = absurd (omega arith)

    many_long : {A : Type 0} {x : ℕ} → x ≡ value_of No.Many → x ≡ value_of No.TooLong → A
    many_long p q = absurd (omega arith)

    pub ended_whole : (search cap accept limit n masks).ended ≡ 0 → Whole
    ended_whole e = go search-ends
      where
        go : Exhausted accept cap limit (steps t) (search cap accept limit n masks)
            ⊎ (OneMore accept cap limit (steps t) (search cap accept limit n masks)
            ⊎ SweepPassed accept cap limit (steps t) (search cap accept limit n masks)) → Whole
        go (inl x) = record {
          few = subst (λ (l : List (List Status)). length (filter accept l) ≤ cap) (sought-steps t) x.few;
          short = subst (λ (m : ℕ). m ≤ limit) (made-steps t) x.short;
          work = x.work ∙ made-steps t;
          found = x.found ∙ ap (filter accept) (sought-steps t);
        }
        go (inr (inl x)) = zero_many e x.ended
        go (inr (inr x)) = zero_long e x.ended

    pub record Many : Type 0 where
      pub many : cap < length accepted-leaves
      pub short : up_to_cap ≤ limit
      pub work : (search cap accept limit n masks).work ≡ up_to_cap

    pub ended_many : (search cap accept limit n masks).ended ≡ value_of No.Many → Many
    ended_many e = go search-ends
      where
        go : Exhausted accept cap limit (steps t) (search cap accept limit n masks)
            ⊎ (OneMore accept cap limit (steps t) (search cap accept limit n masks)
            ⊎ SweepPassed accept cap limit (steps t) (search cap accept limit n masks)) → Many
        go (inl x) = zero_many x.ended e
        go (inr (inl x)) = record {
          many = subst (λ (l : List (List Status)). cap < length (filter accept l)) (sought-steps t) x.many;
          short = x.short;
          work = x.work;
        }
        go (inr (inr x)) = many_long e x.ended

    pub record Long : Type 0 where
      pub long : limit < up_to_cap
      pub work : (search cap accept limit n masks).work ≡ limit

    pub ended_long : (search cap accept limit n masks).ended ≡ value_of No.TooLong → Long
    ended_long e = go search-ends
      where
        go : Exhausted accept cap limit (steps t) (search cap accept limit n masks)
            ⊎ (OneMore accept cap limit (steps t) (search cap accept limit n masks)
            ⊎ SweepPassed accept cap limit (steps t) (search cap accept limit n masks)) → Long
        go (inl x) = zero_long x.ended e
        go (inr (inl x)) = many_long x.ended e
        go (inr (inr x)) = record { long = x.long; work = x.work }

    -- it ends in one of the three ways
    pub ends : ((search cap accept limit n masks).ended ≡ 0)
        ⊎ (((search cap accept limit n masks).ended ≡ value_of No.Many) ⊎ ((search cap accept limit n masks).ended ≡ value_of No.TooLong))
    ends = go search-ends
      where
        go : Exhausted accept cap limit (steps t) (search cap accept limit n masks)
            ⊎ (OneMore accept cap limit (steps t) (search cap accept limit n masks)
            ⊎ SweepPassed accept cap limit (steps t) (search cap accept limit n masks))
            → ((search cap accept limit n masks).ended ≡ 0)
            ⊎ (((search cap accept limit n masks).ended ≡ value_of No.Many) ⊎ ((search cap accept limit n masks).ended ≡ value_of No.TooLong))
        go (inl x) = inl x.ended
        go (inr (inl x)) = inr (inl x.ended)
        go (inr (inr x)) = inr (inr x.ended)

    -- the other way round
    pub whole_cap : length accepted-leaves ≤ cap → up_to_cap ≡ assumptions t
    whole_cap h =
        up_whole cap accept limit (steps t) (subst (λ (l : List (List Status)). length (filter accept l) ≤ cap) (sym (sought-steps t)) h)
        ∙ made-steps t

    pub whole_ended : length accepted-leaves ≤ cap → assumptions t ≤ limit → (search cap accept limit n masks).ended ≡ 0
    whole_ended f s = go ends
      where
        go : ((search cap accept limit n masks).ended ≡ 0)
            ⊎ (((search cap accept limit n masks).ended ≡ value_of No.Many) ⊎ ((search cap accept limit n masks).ended ≡ value_of No.TooLong))
            → (search cap accept limit n masks).ended ≡ 0
        go (inl e) = e
        go (inr (inl e)) = absurd (omega (arith, (ended_many e).many))
        go (inr (inr e)) = absurd (omega (arith, (ended_long e).long, whole_cap f))

    pub many_ended : cap < length accepted-leaves → up_to_cap ≤ limit → (search cap accept limit n masks).ended ≡ value_of No.Many
    many_ended m s = go ends
      where
        go : ((search cap accept limit n masks).ended ≡ 0)
            ⊎ (((search cap accept limit n masks).ended ≡ value_of No.Many) ⊎ ((search cap accept limit n masks).ended ≡ value_of No.TooLong))
            → (search cap accept limit n masks).ended ≡ value_of No.Many
        go (inl e) = absurd (omega (arith, (ended_whole e).few))
        go (inr (inl e)) = e
        go (inr (inr e)) = absurd (omega (arith, (ended_long e).long))

    pub long_ended : limit < up_to_cap → (search cap accept limit n masks).ended ≡ value_of No.TooLong
    long_ended l = go ends
      where
        go : ((search cap accept limit n masks).ended ≡ 0)
            ⊎ (((search cap accept limit n masks).ended ≡ value_of No.Many) ⊎ ((search cap accept limit n masks).ended ≡ value_of No.TooLong))
            → (search cap accept limit n masks).ended ≡ value_of No.TooLong
        go (inl e) = absurd (omega (arith, (ended_whole e).short, whole_cap (ended_whole e).few))
        go (inr (inl e)) = absurd (omega (arith, (ended_many e).short))
        go (inr (inr e)) = e

-- ---- the fuel that `stable` and `search` are given is enough: any more gives the same
pub stable_fuel : (masks : List (List Bool)) (st : List Status) (f : ℕ) → open_count st < f
    → stable f masks st ≡ stable (suc (open_count st)) masks st
stable_fuel masks st f h =
    let r = sweeps masks (suc (open_count st)) st (omega arith) in
    sweeps_stable masks r.1 f h ∙ sym (sweeps_stable masks r.1 (suc (open_count st)) (omega arith))

pub search_fuel : (cap : ℕ) (accept : List Status → Bool) (limit n : ℕ) (masks : List (List Bool)) (f : ℕ) → n < f
    → walk f cap accept limit masks (replicate n Undecided) nothing ≡ search cap accept limit n masks
unfolding search
search_fuel cap accept limit n masks f h =
    let t = tree masks (replicate n Undecided) in
    walk-follows cap accept limit t f (omega (arith, open_blank n)) nothing
    ∙ sym (walk-follows cap accept limit t (suc n) (omega (arith, open_blank n)) nothing)

-- a higher limit changes no answer but 19
pub higher_limit : (cap : ℕ) (accept : List Status → Bool) (a b : ℕ) → a ≤ b → (n : ℕ) (masks : List (List Bool))
    → ((search cap accept a n masks).ended ≡ value_of No.TooLong → ⊥) → search cap accept b n masks ≡ search cap accept a n masks
unfolding search
higher_limit cap accept a b h n masks m = walk-higher cap accept a b h masks (suc n) (replicate n Undecided) nothing m
