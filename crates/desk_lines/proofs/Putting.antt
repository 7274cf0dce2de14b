-- Bytes put behind one another are put at once.
use mathlib.Core.List.{List, [], ◌∷◌, ◌++◌, append-nil, append_assoc}
use mathlib.Core.Path.{◌≡◌, refl, sym, ap, ◌∙◌, subst, subst⁻¹}
use Prim.Native.Nat.{ℕ, suc, ◌+◌, ◌-◌}
use native.Mathlib.Nat.{add-zero, add-suc, suc-add}
use native.Mathlib.Omega.{arith}
use borrow.Rule.Slice.PartMut.{mid_of, post_of, put_mid}
use lib.ListN.{length, set, take, drop, length-append, length-drop, drop_of_length-le}
use lib.Seq.{sets, length-sets, sets-eq, take-length, take_all, drop-drop}
use Rattle.rooms.specs.Rooms.{copied}
use Rattle.desk_lines.specs.Put.{Fits, Puts}

-- one after the other
sets_append : (l : List ℕ) (i : ℕ) (xs ys : List ℕ) → sets l i (xs ++ ys) ≡ sets (sets l i xs) (i + length xs) ys
sets_append l i [] ys = ap (λ (k : ℕ). sets l k ys) (sym (add-zero i))
sets_append l i (x ∷ xs) ys =
    sets_append (set l i x) (suc i) xs ys
    ∙ ap (λ (k : ℕ). sets (sets (set l i x) (suc i) xs) k ys) (suc-add i (length xs) ∙ sym (add-suc i (length xs)))

-- the same bytes, by another name
module _ {at : ℕ} {xs ys room₀ : List ℕ} (e : xs ≡ ys) where
  pub fits_as : Fits at xs room₀ → Fits at ys room₀
  fits_as f = subst (λ (l : List ℕ). Fits at l room₀) e f

  pub puts_as : {room : List ℕ} {r : ℕ} → Puts room₀ at ys room r → Puts room₀ at xs room r
  puts_as {room} {r} p = subst⁻¹ (λ (l : List ℕ). Puts room₀ at l room r) e p

-- what fits in all fits in its first part
pub fits-first : {at : ℕ} {xs room₀ : List ℕ} (ys : List ℕ) → Fits at (xs ++ ys) room₀ → Fits at xs room₀
fits-first {at} {xs} ys f = record { fits = omega (arith, f.fits, length-append xs ys) }

module _ {at : ℕ} {xs room₀ room : List ℕ} {m : ℕ} (p : Puts room₀ at xs room m) where
  pub puts_long : length room ≡ length room₀
  puts_long = ap length p.room_is ∙ length-sets room₀ at xs

  module _ {ys : List ℕ} where
    -- and in the rest, behind the first part
    pub fits_next : Fits at (xs ++ ys) room₀ → Fits m ys room
    fits_next f = record { fits = omega (arith, f.fits, length-append xs ys, p.next_is, puts_long) }

    pub puts_both : {room' : List ℕ} {r : ℕ} → Puts room m ys room' r → Puts room₀ at (xs ++ ys) room' r
    puts_both q = record {
      room_is = q.room_is ∙ (λ k. sets (p.room_is k) (p.next_is k) ys) ∙ sym (sets_append room₀ at xs ys);
      next_is = omega (arith, q.next_is, p.next_is, length-append xs ys);
    }

-- a text copied to the room behind a place
module _ (at : ℕ) (text room₀ : List ℕ) (f : Fits at text room₀) where
  abbrev behind : ℕ
  behind = length room₀ - at

  mid_is : mid_of at behind room₀ ≡ drop at room₀
  mid_is = take_all behind (drop at room₀) (omega (arith, length-drop at room₀))

  post_none : post_of at behind room₀ ≡ []
  post_none = drop_of_length-le (drop at room₀) {i = behind} (omega (arith, length-drop at room₀))

  pub text_put : {part : List ℕ} → part ≡ copied (length text) text (mid_of at behind room₀)
      → Puts room₀ at text (put_mid at behind room₀ part) (at + length text)
  text_put e = record {
    room_is =
        ap (put_mid at behind room₀) (e ∙ ap (copied (length text) text) mid_is)
        ∙ ap (λ (l : List ℕ). take at room₀ ++ (copied (length text) text (drop at room₀) ++ l)) post_none
        ∙ ap (λ (l : List ℕ). take at room₀ ++ l) (append-nil (copied (length text) text (drop at room₀)))
        ∙ ap (λ (l : List ℕ). take at room₀ ++ (l ++ drop (length text) (drop at room₀))) (take-length text)
        ∙ ap (λ (l : List ℕ). take at room₀ ++ (text ++ l)) (drop-drop (length text) at room₀)
        ∙ sym (append_assoc (take at room₀) text (drop (at + length text) room₀))
        ∙ sym (sets-eq text room₀ at f.fits);
    next_is = refl;
  }

-- ---- a loop that puts the parts of a text: what is put and what is left are the whole

pub record Onward (whole left room₀ : List ℕ) (at₀ : ℕ) (room : List ℕ) (at : ℕ) : Type 0 where
  pub done : List ℕ
  pub puts : Puts room₀ at₀ done room at
  pub whole_is : whole ≡ done ++ left

pub onward-start : {whole left room₀ : List ℕ} {at : ℕ} → whole ≡ left → Onward whole left room₀ at room₀ at
onward-start {at = at} e = record { done = []; puts = record { room_is = refl; next_is = sym (add-zero at) }; whole_is = e }

module _ {whole left room₀ : List ℕ} {at₀ : ℕ} {room : List ℕ} {at : ℕ} (o : Onward whole left room₀ at₀ room at) where
  pub onward_long : length room ≡ length room₀
  onward_long = puts_long o.puts

  pub onward-fits : {xs : List ℕ} (ys : List ℕ) → left ≡ xs ++ ys → Fits at₀ whole room₀ → Fits at xs room
  onward-fits ys e f = fits-first ys (fits_as e (fits_next o.puts (fits_as o.whole_is f)))

  pub onward_more : {xs ys : List ℕ} → left ≡ xs ++ ys → {room' : List ℕ} {r : ℕ} → Puts room at xs room' r
      → Onward whole ys room₀ at₀ room' r
  onward_more {xs} {ys} e p = record {
    done = o.done ++ xs;
    puts = puts_both o.puts p;
    whole_is = o.whole_is ∙ ap (λ (l : List ℕ). o.done ++ l) e ∙ sym (append_assoc o.done xs ys);
  }

  pub onward-end : left ≡ [] → Puts room₀ at₀ whole room at
  onward-end e = puts_as (o.whole_is ∙ ap (λ (l : List ℕ). o.done ++ l) e ∙ append-nil o.done) o.puts
