-- One ring of corners from two starts, and a ring the other way round.
use mathlib.Core.Path.{◌≡◌, refl, sym, ap, ap₂, subst, ◌∙◌}
use mathlib.Core.List.{List, [], ◌∷◌, ◌++◌, reverse, reverse-cons, reverse-append, reverse-reverse, append_assoc, append-nil}
use Prim.Native.Nat.{ℕ, zero, suc, ◌-◌, ◌≤◌, ◌<◌}
use native.Mathlib.Omega.{arith}
use native.Mathlib.Decide.{dec_lt}
use lib.ListN.{length, get_or, take, drop, take-append-drop, length-append, length-reverse}
use lib.Seq.{drop-append_seam, take-append_seam}
use Rattle.paper.specs.Loops.{flipped}
use Rattle.lists.proofs.Backwards.{get_d_reverse}
use Rattle.means_solid.specs.Named.{SameRing}

-- ---- one ring from two starts

pub same_split : (a b : List ℕ) → SameRing (a ++ b) (b ++ a)
same_split a b = record { at = length a; turns = sym (ap₂ ◌++◌ (drop-append_seam a b) (take-append_seam a b)) }

-- its two parts
pub record Parts (f g : List ℕ) : Type 0 where
  pub front : List ℕ
  pub back : List ℕ
  pub before : f ≡ front ++ back
  pub after : g ≡ back ++ front

pub parts : {f g : List ℕ} → SameRing f g → Parts f g
parts {f} {g} s = record { front = take s.at f; back = drop s.at f; before = sym (take-append-drop s.at f); after = s.turns }

pub same_parts : {f g : List ℕ} → Parts f g → SameRing f g
same_parts {f} {g} p = go f g p.front p.back p.before p.after
  where
    go : (f g a b : List ℕ) → f ≡ a ++ b → g ≡ b ++ a → SameRing f g
    go f g a b e q = subst (λ (x : List ℕ). SameRing x g) (sym e) (subst (λ (y : List ℕ). SameRing (a ++ b) y) (sym q) (same_split a b))

pub same_refl : (f : List ℕ) → SameRing f f
same_refl f = same_parts (record { front = []; back = f; before = refl; after = sym (append-nil f) })

pub same_sym : {f g : List ℕ} → SameRing f g → SameRing g f
same_sym {f} {g} s = let p = parts s in same_parts (record { front = p.back; back = p.front; before = p.after; after = p.before })

-- two splits of one list
split : (b a c e : List ℕ) → b ++ a ≡ c ++ e → length c ≤ length b → (z : List ℕ) × (b ≡ c ++ z) × (e ≡ z ++ a)
split b a [] e q h = (b, refl, sym q)
split [] a (x ∷ c) e q h = absurd (omega arith)
split (y ∷ b) a (x ∷ c) e q h =
    let u : y ≡ x = cc in
    let w : b ++ a ≡ c ++ e = cc in
    let r = split b a c e w (omega arith) in
    (r.0, (let v : b ≡ c ++ r.0 = r.1 in cc), r.2)

pub same_trans : {f g h : List ℕ} → SameRing f g → SameRing g h → SameRing f h
same_trans {f} {g} {h} s t =
    let p = parts s in
    let q = parts t in
    go p.front p.back q.front q.back p.before (sym p.after ∙ q.before) q.after
  where
    go : (a b c e : List ℕ) → f ≡ a ++ b → b ++ a ≡ c ++ e → h ≡ e ++ c → SameRing f h
    go a b c e p q r = by (dec_lt (length b) (length c))
      where
        by : Dec (length b < length c) → SameRing f h
        by (no n) =
            let m = split b a c e q (omega arith) in
            let z = m.0 in
            same_parts (record {
              front = a ++ c;
              back = z;
              before = p ∙ ap (λ (x : List ℕ). a ++ x) m.1 ∙ sym (append_assoc a c z);
              after = r ∙ ap (λ (x : List ℕ). x ++ c) m.2 ∙ append_assoc z a c;
            })
        by (yes n) =
            let m = split c e b a (sym q) (omega arith) in
            let z = m.0 in
            same_parts (record {
              front = z;
              back = e ++ b;
              before = p ∙ ap (λ (x : List ℕ). x ++ b) m.2 ∙ append_assoc z e b;
              after = r ∙ ap (λ (x : List ℕ). e ++ x) m.1 ∙ sym (append_assoc e b z);
            })

pub same_length : {f g : List ℕ} → SameRing f g → length g ≡ length f
same_length {f} {g} s = let p = parts s in go p.front p.back p.before p.after
  where
    go : (a b : List ℕ) → f ≡ a ++ b → g ≡ b ++ a → length g ≡ length f
    go a b p q = omega (arith, ap length p, ap length q, length-append a b, length-append b a)

-- ---- the other way round

pub flip-flip : (l : List ℕ) → flipped (flipped l) ≡ l
unfolding flipped
flip-flip [] = refl
flip-flip (x ∷ l) = ap (λ (r : List ℕ). x ∷ r) (reverse-reverse l)

pub flip_length : (l : List ℕ) → length (flipped l) ≡ length l
unfolding flipped
flip_length [] = refl
flip_length (x ∷ l) = ap suc (length-reverse l)

pub flip-first : (r : List ℕ) → get_or (flipped r) 0 0 ≡ get_or r 0 0
unfolding flipped
flip-first [] = refl
flip-first (x ∷ t) = refl

pub flip-at : (r : List ℕ) (i : ℕ) → 0 < i → i < length r → get_or (flipped r) i 0 ≡ get_or r (length r - i) 0
unfolding flipped
flip-at [] i h k = absurd (omega arith)
flip-at (x ∷ t) zero h k = absurd (omega arith)
flip-at (x ∷ t) (suc i) h k =
    get_d_reverse 0 t i (omega arith) ∙ ap (λ (n : ℕ). get_or (x ∷ t) n 0) (place (length t) i (omega arith))
  where
    place : (n i : ℕ) → i < n → suc (n - suc i) ≡ suc n - suc i
    place n i h = omega arith

flip_split : (x y : ℕ) (a b : List ℕ) → flipped ((x ∷ a) ++ y ∷ b) ≡ (x ∷ reverse b) ++ y ∷ reverse a
unfolding flipped
flip_split x y a b =
    ap (λ (r : List ℕ). x ∷ r) (reverse-append a (y ∷ b) ∙ ap (λ (r : List ℕ). r ++ reverse a) (reverse-cons y b)
    ∙ append_assoc (reverse b) (y ∷ []) (reverse a))

flip_parts : (a b : List ℕ) → SameRing (flipped (a ++ b)) (flipped (b ++ a))
flip_parts [] b = subst (λ (r : List ℕ). SameRing (flipped b) (flipped r)) (sym (append-nil b)) (same_refl (flipped b))
flip_parts (x ∷ a) [] =
    subst (λ (r : List ℕ). SameRing (flipped r) (flipped (x ∷ a))) (sym (append-nil (x ∷ a))) (same_refl (flipped (x ∷ a)))
flip_parts (x ∷ a) (y ∷ b) =
    same_parts (record { front = x ∷ reverse b; back = y ∷ reverse a; before = flip_split x y a b; after = flip_split y x b a })

pub flip-same : {f g : List ℕ} → SameRing f g → SameRing (flipped f) (flipped g)
flip-same {f} {g} s = let p = parts s in go p.front p.back p.before p.after
  where
    go : (a b : List ℕ) → f ≡ a ++ b → g ≡ b ++ a → SameRing (flipped f) (flipped g)
    go a b p q =
        subst (λ (x : List ℕ). SameRing (flipped x) (flipped g)) (sym p)
        (subst (λ (y : List ℕ). SameRing (flipped (a ++ b)) (flipped y)) (sym q) (flip_parts a b))
