-- The desk's text tells a conversion of which the demands hold, or there is 1 and the room as it came.
use mathlib.Core.List.{List, []}
use mathlib.Core.Path.{◌≡◌, refl, sym, ap, ◌∙◌, subst}
use Prim.Native.Nat.{ℕ, ◌≤◌, ◌<◌}
use native.Mathlib.Omega.{arith}
use lib.Dec.{ltb}
use lib.ListN.{length, replicate}
use Rattle.paper.specs.Refusals as No
use Rattle.paper.specs.Refusals.{first_of, Answer, Written}
use Rattle.paper.specs.Conversion.{Converted}
use Rattle.paper.specs.Desk.{desk_text}
use Rattle.std.specs.Prelude.{Ok, Err}
use Rattle.paper.specs.declared.Refusal.{Refusal}
use Rattle.desk_text.specs.Written.{text_checks, text_written, text_room_for, written_text, text_room}
use Rattle.desk_text.specs.Texts.{text_room_size}
use Rattle.desk_text.proofs.Desk.{desk_short}
use Rattle.demands.specs.Input.{sheet, converted}
use Rattle.demands.specs.Table.{one, end, of_written}
use Rattle.paper_laws.proofs.Tests.{is_lt}
use Rattle.demands.proofs.Table.{done, also_one, ends}
use Rattle.demanded.specs.Demanded.{Stands}
use Rattle.demanded.proofs.Demanding.{converts, stands}
use Rattle.demanded_words.specs.Text.{text_of, Prints}

-- ---- any text in any room

module _ (t room₀ : List ℕ) where
  first : one 1 (length room₀ < length t) end (of_written (written_text t room₀))
  unfolding written_text text_checks
  first =
      let short = ltb (length room₀) (length t) in
      subst (one 1 (length room₀ < length t) end) (sym (of_text (first_of (text_checks t (length room₀)))))
      (ends (one 1 (length room₀ < length t)) (text_checks t (length room₀))
      (also_one No.NoRoom (length room₀ < length t) short (is_lt (length room₀) (length t)) (λ below. below) [] (λ e. done)))
    where
      of_text : (a : Answer) → of_written (text_written t a) ≡ a
      of_text (Ok _) = refl
      of_text (Err f) = refl

  kept : (f : Refusal) → written_text t room₀ ≡ Err f → text_room t room₀ ≡ room₀
  unfolding written_text text_room
  kept f = go (first_of (text_checks t (length room₀)))
    where
      go : (a : Answer) → text_written t a ≡ Err f → text_room_for t a room₀ ≡ room₀
      go (Ok _) e = let z : ◌≡◌ {A = ℕ} 0 1 = cc in absurd (omega arith)
      go (Err g) e = refl

  printed : (n : ℕ) → written_text t room₀ ≡ Ok n → Stands t room₀ n (text_room t room₀)
  unfolding written_text text_room
  printed n = go (first_of (text_checks t (length room₀)))
    where
      go : (a : Answer) → text_written t a ≡ Ok n → Stands t room₀ n (text_room_for t a room₀)
      go (Ok _) e = stands e refl refl
      go (Err g) e = let z : ◌≡◌ {A = ℕ} 0 1 = cc in absurd (omega arith)

-- ---- the desk's

module _ (s : List ℕ) where
  abbrev told : Converted
  told = converted (sheet s) 1000000 (replicate 832 0) (replicate 24 0)

  text_is : desk_text s ≡ text_of s told
  unfolding desk_text
  text_is = refl

  pub prints : {r : Written} {room₀ room : List ℕ} → r ≡ written_text (desk_text s) room₀ → room ≡ text_room (desk_text s) room₀
      → Prints s room₀ r room
  prints {r} {room₀} {room} e p =
      let t = text_of s told in
      let written : r ≡ written_text t room₀ = e ∙ ap (λ (t : List ℕ). written_text t room₀) text_is in
      let left : room ≡ text_room t room₀ = p ∙ ap (λ (t : List ℕ). text_room t room₀) text_is in
      record {
        conversion = told;
        converts = converts (sheet s) 1000000 (replicate 832 0) (replicate 24 0) refl;
        first = subst (λ (w : Written). one 1 (length room₀ < length t) end (of_written w)) (sym written) (first t room₀);
        kept = λ f q. left ∙ kept t room₀ f (sym written ∙ q);
        printed = λ n q. subst (Stands t room₀ n) (sym left) (printed t room₀ n (sym written ∙ q));
        enough = subst (λ (t : List ℕ). length t ≤ text_room_size) text_is (desk_short s);
      }
