-- A text written to a lent room, or refusal 1: what is answered, said and left.
use mathlib.Core.List.{List, ◌++◌}
use mathlib.Core.Path.{◌≡◌, sym, ap, ◌∙◌, subst}
use Prim.Native.Nat.{ℕ, ◌+◌, ◌≤◌, ◌<◌}
use native.Mathlib.Nat.{zero-add}
use native.Mathlib.Decide.{dec_lt}
use native.Mathlib.Omega.{arith}
use borrow.Author.Tests.{lt-ltb, le-ltb}
use lib.ListN.{length, take, drop}
use lib.Seq.{sets-eq, take_at}
use Rattle.paper.specs.Refusals as No
use Rattle.paper.specs.Refusals.{first_of, Written}
use Rattle.paper.specs.Reading.{written_says, first_said}
use Rattle.std.specs.Prelude.{Ok, Err}
use Rattle.rooms.specs.Rooms.{copied}
use Rattle.desk_lines.specs.Put.{Puts}
use Rattle.desk_text.specs.Written.{text_checks, written_text, text_said, text_room}

module _ (t room₀ : List ℕ) where
  -- an answer and the room at exit
  abbrev pub Leaves : Written → List ℕ → Type 0
  Leaves r room = (r ≡ written_text t room₀) × ((written_says r ≡ text_said t room₀) × (room ≡ text_room t room₀))

  pub no_room : length room₀ < length t → Leaves (Err (record { number = No.NoRoom; place = 0 })) room₀
  unfolding written_text text_said text_room text_checks first_of first_said
  no_room h = let l = lt-ltb (length room₀) (length t) h in (rw l, (rw l, rw l))

  pub roomy : length t ≤ length room₀ → Leaves (Ok (length t)) (t ++ drop (length t) room₀)
  unfolding written_text text_said text_room text_checks first_of first_said
  roomy h = let l = le-ltb (length room₀) (length t) h in (rw l, (rw l, rw l))

  -- what is written lies in the room
  pub bytes_fit : {n : ℕ} → Ok n ≡ written_text t room₀ → n ≤ length room₀
  bytes_fit {n} e = go (dec_lt (length room₀) (length t))
    where
      go : Dec (length room₀ < length t) → n ≤ length room₀
      go (yes h) =
          let r : ◌≡◌ {A = Written} (Ok n) (Err (record { number = No.NoRoom; place = 0 })) = e ∙ sym (no_room h).0 in
          cc
      go (no h) =
          let g : length t ≤ length room₀ = omega (arith, h) in
          let r : ◌≡◌ {A = Written} (Ok n) (Ok (length t)) = e ∙ sym (roomy g).0 in
          let m : n ≡ length t = cc in
          omega arith

  -- copied from where it was put
  module _ {from₀ from : List ℕ} {n : ℕ} (p : Puts from₀ 0 t from n) where
    pub length_is : n ≡ length t
    length_is = p.next_is ∙ zero-add (length t)

    pub copied_is : length t ≤ length from₀ → copied n from room₀ ≡ t ++ drop (length t) room₀
    copied_is h =
        ap (λ (l : List ℕ). take n l ++ drop n room₀) (p.room_is ∙ sets-eq t from₀ 0 (omega arith))
        ∙ ap (λ (l : List ℕ). l ++ drop n room₀) (take_at t (drop (0 + length t) from₀) n (sym length_is))
        ∙ ap (λ (m : ℕ). t ++ drop m room₀) length_is

    pub copied-leaves : length t ≤ length from₀ → n ≤ length room₀ → {room : List ℕ} → room ≡ copied n from room₀
        → Leaves (Ok n) room
    copied-leaves h g {room} e =
        subst (λ (m : ℕ). Leaves (Ok m) room) (sym length_is)
        (subst (Leaves (Ok (length t))) (sym (e ∙ copied_is h)) (roomy (omega (arith, length_is))))
