-- The verdict is document 01's: a selection in which every edge is in exactly two is judged a solid just where it passes (ii) to (v), and
-- with the directions for which six volumes is above zero.
use mathlib.Core.Bool.{Bool, true, false, not, ◌&&◌, cond}
use mathlib.Core.List.{List, [], ◌∷◌}
use mathlib.Core.Logic.{◌⊎◌, inl, inr}
use mathlib.Core.Path.{◌≡◌, refl, sym, ap, ap₂, ◌∙◌}
use Prim.Native.Nat.{ℕ, zero, suc, ◌<◌}
use native.Mathlib.Omega.{arith}
use lib.ListN.{length}
use lib.IntN.{ℤ, pos, negsuc, neg_ℤ, ◌+ℤ◌, neg_ℤ-+ℤ, neg_ℤ-neg_ℤ}
use lib.Dec.{eqb}
use borrow.Author.Tests.{ne_eqb, eqb-false}
use Rattle.lists.proofs.Truth.{and_left}
use Rattle.sets.specs.Word.{dig, Sub, count, less}
use Rattle.paper.specs.Solids.{faces_from, connected, oriented, part, six_from, clear_from, weighed, Tables, Judgement, Fails, Solid, judged}
use Rattle.means_leaf.specs.Meaning.{faces, MaskInTwo, Connected, SameTurned, TurnedRound, MaskSolid}
use Rattle.sets.proofs.Digits.{dig-less, count_none}
use Rattle.means_leaf.proofs.Forced.{directions, oriented-opposite}
use Rattle.means_leaf.proofs.Reaches.{connected_ways, ways_connected}
use Rattle.means_leaf.proofs.Within.{turned_taken}

-- ---- six volumes: what counts are the directions of the taken, and all of them turned give its negative
module _ (taken s t : List Bool) where
  part_alike : (b x y : Bool) (z : ℤ) → (b ≡ true → x ≡ y) → part b x z ≡ part b y z
  part_alike true x y z h = ap (λ (w : Bool). part true w z) (h refl)
  part_alike false x y z h = refl

  pub six_alike : SameTurned taken s t → (k : ℕ) (zs : List ℤ) → six_from k zs taken s ≡ six_from k zs taken t
  unfolding six_from
  six_alike h k [] = refl
  six_alike h k (z ∷ zs) = ap₂ ◌+ℤ◌ (part_alike (dig taken k) (dig s k) (dig t k) z (h k)) (six_alike h (suc k) zs)

  part-opposite : (b x y : Bool) (z : ℤ) → (b ≡ true → x ≡ not y) → part b x z ≡ neg_ℤ (part b y z)
  part-opposite true x true z h = ap (λ (w : Bool). part true w z) (h refl) ∙ sym (neg_ℤ-neg_ℤ z)
  part-opposite true x false z h = ap (λ (w : Bool). part true w z) (h refl)
  part-opposite false x y z h = refl

  pub six_opposite : TurnedRound taken s t → (k : ℕ) (zs : List ℤ) → six_from k zs taken s ≡ neg_ℤ (six_from k zs taken t)
  unfolding six_from
  six_opposite h k [] = refl
  six_opposite h k (z ∷ zs) =
      ap₂ ◌+ℤ◌ (part-opposite (dig taken k) (dig s k) (dig t k) z (h k)) (six_opposite h (suc k) zs)
      ∙ sym (neg_ℤ-+ℤ (part (dig taken k) (dig t k) z) (six_from (suc k) zs taken t))

pub six_none : (taken t : List Bool) → ((k : ℕ) → dig taken k ≡ true → ⊥) → (k : ℕ) (zs : List ℤ) → six_from k zs taken t ≡ pos 0
unfolding six_from
six_none taken t h k [] = refl
six_none taken t h k (z ∷ zs) = ap₂ ◌+ℤ◌ (off (dig taken k) (h k)) (six_none taken t h (suc k) zs)
  where
    off : (b : Bool) → (b ≡ true → ⊥) → part b (dig t k) z ≡ pos 0
    off true n = absurd (n refl)
    off false n = refl

pub turned_opposite : (taken t : List Bool) → TurnedRound taken (less taken t) t
turned_opposite taken t k h = dig-less taken t k ∙ ap (λ (x : Bool). x && not (dig t k)) h

-- ---- the tests, one by one
picked : (a b c d : Bool) (v : Judgement) {ts : List Bool} {n : ℕ}
    → cond a Fails (cond b (cond c (cond d v Fails) Fails) Fails) ≡ Solid ts n
    → (a ≡ false) × (b ≡ true) × (c ≡ true) × (d ≡ true) × (v ≡ Solid ts n)
picked true b c d v e = let z : ◌≡◌ {A = ℕ} 0 1 = cc in absurd (omega arith)
picked false false c d v e = let z : ◌≡◌ {A = ℕ} 0 1 = cc in absurd (omega arith)
picked false true false d v e = let z : ◌≡◌ {A = ℕ} 0 1 = cc in absurd (omega arith)
picked false true true false v e = let z : ◌≡◌ {A = ℕ} 0 1 = cc in absurd (omega arith)
picked false true true true v e = (refl, refl, refl, refl, e)

module _ (t : Tables) (taken : List Bool) (same : length t.masks ≡ length t.ups) (two : MaskInTwo t.masks taken) where
  pub judged-solid : {ts : List Bool} {v : ℕ} → judged t taken ≡ Solid ts v → MaskSolid t taken ts v
  unfolding judged faces_from faces
  judged-solid {ts} {v} e =
      let q = picked (eqb (count taken) 0) (connected taken (faces t.masks t.ups taken))
      (oriented t.masks t.ups taken (faces t.masks t.ups taken).turned) (clear_from 0 t.clashes taken)
      (weighed taken (faces t.masks t.ups taken).turned (six_from 0 t.sixes taken (faces t.masks t.ups taken).turned))
      e in
      go (six_from 0 t.sixes taken (faces t.masks t.ups taken).turned) refl q.4
      (connected_ways t.masks t.ups taken same two (eqb-false (count taken) 0 q.0) q.1) q.2 q.3
    where
      go : (z : ℤ) → six_from 0 t.sixes taken (faces t.masks t.ups taken).turned ≡ z
          → weighed taken (faces t.masks t.ups taken).turned z ≡ Solid ts v
          → Connected t.masks taken → oriented t.masks t.ups taken (faces t.masks t.ups taken).turned ≡ true
          → clear_from 0 t.clashes taken ≡ true → MaskSolid t taken ts v
      go (pos zero) p w c o a = let z : ◌≡◌ {A = ℕ} 0 1 = cc in absurd (omega arith)
      go (pos (suc n)) p w c o a =
          let d : (faces t.masks t.ups taken).turned ≡ ts = cc in
          let m : suc n ≡ v = cc in
          record {
            joined = c;
            directed = ap (oriented t.masks t.ups taken) (sym d) ∙ o;
            apart = a;
            volume = ap (six_from 0 t.sixes taken) (sym d) ∙ p ∙ ap pos m;
            above = omega arith;
          }
      go (negsuc n) p w c o a =
          let d : less taken (faces t.masks t.ups taken).turned ≡ ts = cc in
          let m : suc n ≡ v = cc in
          let opp : TurnedRound taken (less taken (faces t.masks t.ups taken).turned)
          (faces t.masks t.ups taken).turned = turned_opposite taken (faces t.masks t.ups taken).turned in
          record {
            joined = c;
            directed = ap (oriented t.masks t.ups taken) (sym d)
                ∙ oriented-opposite taken (less taken (faces t.masks t.ups taken).turned) (faces t.masks t.ups taken).turned
                opp t.masks t.ups ∙ o;
            apart = a;
            volume = ap (six_from 0 t.sixes taken) (sym d)
                ∙ six_opposite taken (less taken (faces t.masks t.ups taken).turned) (faces t.masks t.ups taken).turned opp
                0
                t.sixes ∙ ap neg_ℤ p ∙ ap pos m;
            above = omega arith;
          }

  pub solid-judged : {ts : List Bool} {v : ℕ} → MaskSolid t taken ts v → (us : List Bool) × (judged t taken ≡ Solid us v)
      × SameTurned taken ts us
  unfolding judged faces_from faces
  solid-judged {ts} {v} s =
      let some : count taken ≡ 0 → ⊥ = λ e. zero_not (sym (six_none taken ts (count_none taken e) 0 t.sixes) ∙ s.volume) s.above in
      let c : connected taken (faces t.masks t.ups taken) ≡ true = ways_connected t.masks t.ups taken same two some
      s.joined in
      let d = directions t.masks t.ups taken c ts s.directed in
      rw (ne_eqb (count taken) 0 some, c, d.0, s.apart) (go v s.above s.volume d.1)
    where
      zero_not : pos 0 ≡ pos v → 0 < v → ⊥
      zero_not e h = let z : 0 ≡ v = cc in omega arith

      go : (n : ℕ) → 0 < n → six_from 0 t.sixes taken ts ≡ pos n → SameTurned taken ts (faces t.masks t.ups taken).turned
          ⊎ TurnedRound taken ts (faces t.masks t.ups taken).turned
          → (us : List Bool)
          × (weighed taken (faces t.masks t.ups taken).turned
          (six_from 0 t.sixes taken (faces t.masks t.ups taken).turned)
          ≡ Solid us n) × SameTurned taken ts us
      go zero h e d = absurd (omega arith)
      go (suc n) h e (inl a) = (
        (faces t.masks t.ups taken).turned,
        ap (weighed taken (faces t.masks t.ups taken).turned)
            (sym (six_alike taken ts (faces t.masks t.ups taken).turned a 0 t.sixes) ∙ e),
        a,
      )
      go (suc n) h e (inr a) = (
        less taken (faces t.masks t.ups taken).turned,
        ap (weighed taken (faces t.masks t.ups taken).turned)
            (sym (neg_ℤ-neg_ℤ (six_from 0 t.sixes taken (faces t.masks t.ups taken).turned))
            ∙ ap neg_ℤ (sym (six_opposite taken ts (faces t.masks t.ups taken).turned a 0 t.sixes) ∙ e)),
        λ k p. a k p ∙ sym (turned_opposite taken (faces t.masks t.ups taken).turned k p),
      )

-- only taken faces are turned
pub judged_within : (t : Tables) (taken : List Bool) {ts : List Bool} {v : ℕ} → judged t taken ≡ Solid ts v → Sub ts taken
unfolding judged faces_from faces
judged_within t taken {ts} {v} e =
    let q = picked (eqb (count taken) 0) (connected taken (faces t.masks t.ups taken))
    (oriented t.masks t.ups taken (faces t.masks t.ups taken).turned) (clear_from 0 t.clashes taken)
    (weighed taken (faces t.masks t.ups taken).turned (six_from 0 t.sixes taken (faces t.masks t.ups taken).turned)) e in
    go (six_from 0 t.sixes taken (faces t.masks t.ups taken).turned) q.4 (eqb-false (count taken) 0 q.0)
  where
    go : (z : ℤ) → weighed taken (faces t.masks t.ups taken).turned z ≡ Solid ts v → (count taken ≡ 0 → ⊥) → Sub ts taken
    go (pos zero) w s = let z : ◌≡◌ {A = ℕ} 0 1 = cc in absurd (omega arith)
    go (pos (suc n)) w s =
        let d : (faces t.masks t.ups taken).turned ≡ ts = cc in
        λ k h. turned_taken t.masks t.ups taken s k (ap (λ (x : List Bool). dig x k) d ∙ h)
    go (negsuc n) w s =
        let d : less taken (faces t.masks t.ups taken).turned ≡ ts = cc in
        λ k h. and_left (dig taken k) (not (dig (faces t.masks t.ups taken).turned k))
        (sym (dig-less taken (faces t.masks t.ups taken).turned k) ∙ ap (λ (x : List Bool). dig x k) d ∙ h)
