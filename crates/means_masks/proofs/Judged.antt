-- What is judged a solid is one, with these directions and this volume, and every solid is judged so; so it has no others.
use mathlib.Core.Bool.{Bool, true, false}
use mathlib.Core.List.{List, map}
use mathlib.Core.Logic.{◌↔◌}
use mathlib.Core.Path.{◌≡◌, refl, sym, ap, ◌∙◌}
use Prim.Native.Nat.{ℕ, ◌+◌, ◌<◌}
use native.Mathlib.Omega.{arith}
use lib.ListN.{length}
use Rattle.lists.specs.Lists.{upto}
use Rattle.lists.proofs.Places.{made_length}
use Rattle.sets.specs.Word.{dig}
use Rattle.sets.proofs.Ones.{dig_lt}
use Rattle.paper.specs.Drawing.{Wire}
use Rattle.paper.specs.Loops.{Loop, polygon}
use Rattle.paper.specs.Solids.{tables_of, clashing, clear_from, Solid, judged}
use Rattle.means_leaf.proofs.Each.{oriented_each, each_oriented, clear_each, each_clear}
use Rattle.means_leaf.proofs.Solids.{judged-solid, solid-judged, judged_within}
use Rattle.means_solid.specs.Proper.{AllProper}
use Rattle.means_solid.specs.Solid.{IsSolid}
use Rattle.means_solid.proofs.Alike.{solid-to}
use Rattle.means_masks.proofs.Tables.{Even, EachTwo, Clear, masks_length, as_many, two_masks, masks_two, way-through, through-way}
use Rattle.means_masks.proofs.Tables.{OnceAt, ways_at, at_ways, six_is, clear_apart, apart-clear}

module _ (d : Wire) (cs : List Loop) (ok : AllProper cs) (even : Even d cs) (taken : List Bool) (some : length taken ≡ length cs) where
  -- ---- (v) asks the same of each face
  clashes_length : length (tables_of d cs).clashes ≡ length cs
  unfolding tables_of
  clashes_length = made_length (λ i. map (clashing (map (polygon d) cs) i) (upto (length cs))) (length cs)

  clear-from : clear_from 0 (tables_of d cs).clashes taken ≡ true → Clear d cs even taken some
  clear-from e j h =
      let z : 0 + j ≡ j = omega arith in
      clear_each taken 0 (tables_of d cs).clashes e j (omega (arith, dig_lt taken j h, clashes_length)) (ap (dig taken) z ∙ h)

  from-clear : Clear d cs even taken some → clear_from 0 (tables_of d cs).clashes taken ≡ true
  from-clear f =
      each_clear taken 0 (tables_of d cs).clashes (λ i h t. let z : i ≡ 0 + i = omega arith in f i (ap (dig taken) z ∙ t))

  -- ---- what is judged a solid is one
  pub judged_is : {turned : List Bool} {six : ℕ} → EachTwo d cs taken turned → judged (tables_of d cs) taken ≡ Solid turned six
      → IsSolid d cs taken turned six
  judged_is {turned} {six} two e =
      let s = judged-solid (tables_of d cs) taken (as_many d cs) (two_masks d cs taken turned two) e in
      let each = oriented_each taken turned (tables_of d cs).masks (tables_of d cs).ups (as_many d cs) s.directed in
      record {
        some = some;
        within = judged_within (tables_of d cs) taken e;
        i = two;
        ii = λ j k hj hk. way-through d cs taken turned hj (s.joined j k hj hk);
        iii = λ e h. ways_at d cs taken turned ok e h (each e (omega (arith, masks_length d cs)));
        iv = (sym (six_is d cs taken turned) ∙ s.volume, s.above);
        v = clear_apart d cs even taken some (clear-from s.apart);
      }

  -- ---- a solid is judged one, with the same directions
  pub is_judged : {turned : List Bool} {six : ℕ} → IsSolid d cs taken turned six
      → (us : List Bool) × (judged (tables_of d cs) taken ≡ Solid us six) × ((k : ℕ) → dig turned k ≡ dig us k)
  is_judged {turned} {six} s =
      let r = solid-judged (tables_of d cs) taken (as_many d cs) (two_masks d cs taken turned s.i) (record {
        joined = λ j k hj hk. through-way d cs taken turned (s.ii j k hj hk);
        directed = each_oriented taken turned (tables_of d cs).masks (tables_of d cs).ups each;
        apart = from-clear (apart-clear d cs even taken some s.v);
        volume = six_is d cs taken turned ∙ s.iv.0;
        above = s.iv.1;
      }) in
      (r.0, r.1, λ k. alike r.0 k (dig taken k) refl (r.2 k) (s.within k) (judged_within (tables_of d cs) taken r.1 k))
    where
      each : (e : ℕ) → e < length (tables_of d cs).masks → OnceAt d cs taken turned e
      each e h = let l : e < length d.edges = omega (arith, masks_length d cs) in at_ways d cs taken turned ok e l (s.iii e l)

      off : (x : Bool) → (x ≡ true → ◌≡◌ {A = Bool} false true) → x ≡ false
      off true f = sym (f refl)
      off false f = refl

      alike : (us : List Bool) (k : ℕ) (b : Bool) → dig taken k ≡ b → (dig taken k ≡ true → dig turned k ≡ dig us k)
          → (dig turned k ≡ true → dig taken k ≡ true) → (dig us k ≡ true → dig taken k ≡ true)
          → dig turned k ≡ dig us k
      alike us k true p f g h = f p
      alike us k false p f g h = off (dig turned k) (λ e. sym p ∙ g e) ∙ sym (off (dig us k) (λ e. sym p ∙ h e))

  -- ---- just when: a selection is a solid with these directions and this volume where it has (i) and is judged so, up to the length of
  -- the list
  pub solid_iff : {turned : List Bool} {six : ℕ}
      → IsSolid d cs taken turned six
      ↔ (EachTwo d cs taken turned
      × ((us : List Bool) × (judged (tables_of d cs) taken ≡ Solid us six) × ((k : ℕ) → dig us k ≡ dig turned k)))
  solid_iff {turned} {six} = (
    λ s. let r = is_judged s in (s.i, (r.0, r.1, λ k. sym (r.2 k))),
    λ p.
        let two = masks_two d cs taken p.1.0 (two_masks d cs taken turned p.0) in
        solid-to d cs taken p.1.0 turned p.1.2 (judged_is two p.1.1),
  )

  -- ---- directions and volume are the only ones
  pub one_solid : {ts us : List Bool} {v w : ℕ} → IsSolid d cs taken ts v → IsSolid d cs taken us w
      → ((k : ℕ) → dig ts k ≡ dig us k) × (v ≡ w)
  one_solid {ts} {us} {v} {w} s t =
      let p = is_judged s in
      let q = is_judged t in
      let e = p.1 in
      let f = q.1 in
      let same : p.0 ≡ q.0 = cc in
      let six : v ≡ w = cc in
      (λ k. p.2 k ∙ ap (λ (x : List Bool). dig x k) same ∙ sym (q.2 k), six)
