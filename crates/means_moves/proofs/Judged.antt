-- What a selection is judged to be, by tables that differ in the parts of six volumes alone.
use mathlib.Core.Path.{◌≡◌, refl, sym, ap, ap₂, ◌∙◌, subst}
use mathlib.Core.Bool.{Bool, true, false, not, ◌&&◌, cond, xor}
use mathlib.Core.List.{List}
use Prim.Native.Nat.{ℕ, zero, suc, ◌*◌}
use native.Mathlib.Omega.{arith}
use lib.Dec.{eqb}
use lib.IntN.{ℤ, pos, negsuc, nat_abs, ◌*ℤ◌, *ℤ-zero}
use Rattle.exact.proofs.Size.{abs_mul}
use Rattle.exact.proofs.Signs.{mul-zero}
use Rattle.sets.specs.Word.{dig, Sub, count, first, less}
use Rattle.sets.proofs.Digits.{dig-less}
use Rattle.paper.specs.Solids.{Tables, Reach, faces_from, connected, oriented, six_from, clear_from, weighed, Judgement, Fails, Solid, judged}
use Rattle.means_leaf.proofs.Solids.{judged_within}
use Rattle.means_moves.specs.Turned.{turns_by, Judged, fail, solid}
use Rattle.means_moves.proofs.Factors.{turns_times}

-- ---- six volumes that is c times as large

module _ (taken us : List Bool) where
  real_solid : (z : ℤ) → (z ≡ pos 0 → ⊥) → weighed taken us z ≡ Solid (cond (turns_by z) (less taken us) us) (nat_abs z)
  real_solid (pos zero) h = absurd (h refl)
  real_solid (pos (suc v)) h = refl
  real_solid (negsuc v) h = refl

  -- turned twice
  twice : Sub us taken → (k : ℕ) → dig us k ≡ dig (less taken (less taken us)) k
  twice s k =
      sym (dig-less taken (less taken us) k ∙ ap (λ (x : Bool). dig taken k && not x) (dig-less taken us k)
      ∙ off (dig taken k) (dig us k) (s k))
    where
      off : (a b : Bool) → (b ≡ true → a ≡ true) → (a && not (a && not b)) ≡ b
      off true true f = refl
      off true false f = refl
      off false true f = f refl
      off false false f = refl

  either : (b t : Bool) (by six : ℕ) (j : Judgement) → j ≡ Solid (cond (xor b t) (less taken us) us) (by * six)
      → ((ts : List Bool) (v : ℕ) → j ≡ Solid ts v → Sub ts taken) → Judged b by taken (Solid (cond t (less taken us) us) six) j
  unfolding xor
  either true true by six j q s =
      subst (Judged true by taken (Solid (less taken us) six)) (sym q) (solid (less taken us) us six (twice (s us (by * six) q)))
  either true false by six j q s = subst (Judged true by taken (Solid us six)) (sym q) (solid us (less taken us) six (λ k. refl))
  either false true by six j q s =
      subst (Judged false by taken (Solid (less taken us) six)) (sym q) (solid (less taken us) (less taken us) six (λ k. refl))
  either false false by six j q s = subst (Judged false by taken (Solid us six)) (sym q) (solid us us six (λ k. refl))

  module _ (c : ℤ) (real : c ≡ pos 0 → ⊥) where
    weigh_real : (z : ℤ) → (z ≡ pos 0 → ⊥) → (j : Judgement) → j ≡ weighed taken us (c *ℤ z)
        → ((ts : List Bool) (v : ℕ) → j ≡ Solid ts v → Sub ts taken) → Judged (turns_by c) (nat_abs c) taken (weighed taken us z) j
    weigh_real z h j p s =
        let n : c *ℤ z ≡ pos 0 → ⊥ = λ e. h (mul-zero c z real e) in
        subst (λ (i : Judgement). Judged (turns_by c) (nat_abs c) taken i j) (sym (real_solid z h))
        (either (turns_by c) (turns_by z) (nat_abs c) (nat_abs z) j
        (p ∙ real_solid (c *ℤ z) n ∙ ap₂ (λ (b : Bool) (v : ℕ). Solid (cond b (less taken us) us) v) (turns_times c z n) (abs_mul c z)) s)

    weigh : (z : ℤ) (j : Judgement) → j ≡ weighed taken us (c *ℤ z)
        → ((ts : List Bool) (v : ℕ) → j ≡ Solid ts v → Sub ts taken) → Judged (turns_by c) (nat_abs c) taken (weighed taken us z) j
    weigh (pos zero) j p s =
        subst (Judged (turns_by c) (nat_abs c) taken Fails) (sym (p ∙ ap (weighed taken us) (*ℤ-zero c))) fail
    weigh (pos (suc v)) j p s = weigh_real (pos (suc v)) (λ e. size-real e) j p s
      where
        size-real : pos (suc v) ≡ pos 0 → ⊥
        size-real e = let z : suc v ≡ 0 = ap nat_abs e in absurd (omega arith)
    weigh (negsuc v) j p s = weigh_real (negsuc v) (λ e. size-real e) j p s
      where
        size-real : negsuc v ≡ pos 0 → ⊥
        size-real e = let z : suc v ≡ 0 = ap nat_abs e in absurd (omega arith)

-- ---- all tests

-- the faces that are run against their normal form, as they are found; all but the volume
abbrev pub turned_by : Tables → List Bool → List Bool
turned_by t taken = (faces_from (first taken) t taken).turned

abbrev passes : Tables → List Bool → Judgement → Judgement
passes t taken j =
    cond (eqb (count taken) 0) Fails
    (cond (connected taken (faces_from (first taken) t taken))
    (cond (oriented t.masks t.ups taken (turned_by t taken)) (cond (clear_from 0 t.clashes taken) j Fails) Fails) Fails)

judged_by : (t : Tables) (taken : List Bool)
    → judged t taken ≡ passes t taken (weighed taken (turned_by t taken) (six_from 0 t.sixes taken (turned_by t taken)))
unfolding judged
judged_by t taken = refl

module _ (t u : Tables) (masks : u.masks ≡ t.masks) (ups : u.ups ≡ t.ups) (clashes : u.clashes ≡ t.clashes) (taken : List Bool) where
  -- with the parts of u, all else is t's
  but_sixes : judged u taken ≡ passes t taken (weighed taken (turned_by t taken) (six_from 0 u.sixes taken (turned_by t taken)))
  but_sixes =
      judged_by u taken
      ∙ (λ i.
      let w : Tables = record { masks = masks i; ups = ups i; clashes = clashes i; sixes = u.sixes } in
      passes w taken (weighed taken (turned_by w taken) (six_from 0 u.sixes taken (turned_by w taken))))
      ∙ whole
    where
      v : Tables
      v = record { masks = t.masks; ups = t.ups; clashes = t.clashes; sixes = u.sixes }

      faces : faces_from (first taken) v taken ≡ faces_from (first taken) t taken
      faces = unfold faces_from in refl

      whole : passes v taken (weighed taken (turned_by v taken) (six_from 0 u.sixes taken (turned_by v taken)))
          ≡ passes t taken (weighed taken (turned_by t taken) (six_from 0 u.sixes taken (turned_by t taken)))
      whole =
          ap (λ (r : Reach). cond (eqb (count taken) 0) Fails
          (cond (connected taken r)
          (cond (oriented t.masks t.ups taken r.turned)
          (cond (clear_from 0 t.clashes taken) (weighed taken r.turned (six_from 0 u.sixes taken r.turned)) Fails) Fails)
          Fails)) faces

  -- the sum over what has (iii) is c times as large
  pub judged-times : (c : ℤ) → (c ≡ pos 0 → ⊥)
      → (oriented t.masks t.ups taken (turned_by t taken) ≡ true
      → six_from 0 u.sixes taken (turned_by t taken) ≡ c *ℤ six_from 0 t.sixes taken (turned_by t taken))
      → Judged (turns_by c) (nat_abs c) taken (judged t taken) (judged u taken)
  judged-times c real h =
      subst (λ (j : Judgement). Judged (turns_by c) (nat_abs c) taken j (judged u taken)) (sym (judged_by t taken))
      (go (eqb (count taken) 0) (connected taken (faces_from (first taken) t taken)) (oriented t.masks t.ups taken us)
      (clear_from 0 t.clashes taken) refl (judged u taken) but_sixes (λ ts v e. judged_within u taken e))
    where
      us : List Bool
      us = turned_by t taken

      go : (a b o e : Bool) → oriented t.masks t.ups taken us ≡ o → (j : Judgement)
          → j ≡ cond a Fails (cond b (cond o (cond e (weighed taken us (six_from 0 u.sixes taken us)) Fails) Fails) Fails)
          → ((ts : List Bool) (v : ℕ) → j ≡ Solid ts v → Sub ts taken)
          → Judged (turns_by c) (nat_abs c) taken
          (cond a Fails (cond b (cond o (cond e (weighed taken us (six_from 0 t.sixes taken us)) Fails) Fails) Fails)) j
      go true b o e q j p s = subst (Judged (turns_by c) (nat_abs c) taken Fails) (sym p) fail
      go false false o e q j p s = subst (Judged (turns_by c) (nat_abs c) taken Fails) (sym p) fail
      go false true false e q j p s = subst (Judged (turns_by c) (nat_abs c) taken Fails) (sym p) fail
      go false true true false q j p s = subst (Judged (turns_by c) (nat_abs c) taken Fails) (sym p) fail
      go false true true true q j p s = weigh taken us c real (six_from 0 t.sixes taken us) j (p ∙ ap (weighed taken us) (h q)) s
