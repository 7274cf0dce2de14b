-- Polygons cut into triangles.
use Rattle.std.specs.Prelude.{Bool, ◌⊎◌, List, [], ◌∷◌, ◌++◌, ℤ, neg_ℤ}
use Rattle.std.specs.Bool.{xor}
use Rattle.paper.specs.declared.Flat.{Flat}
use Rattle.means_area.specs.Flats.{Nn, twice_area, Simple, SameSign, lst}
use Rattle.means_inside.specs.Beams.{round, Off}

-- a simple ring cut into triangles by chords: it is a triangle; a chord from its first corner u to the corner w cuts it in two; its first
-- corner is cut
-- off by the chord between its neighbours; or it is cut from another start. All parts are simple: no chord crosses a side, or has a
-- corner inside.
pub data Cut (m : ℤ) : List Flat → Type 0 where
  one : (a b c : Flat) → Simple m (a ∷ b ∷ c ∷ []) → Cut m (a ∷ b ∷ c ∷ [])
  chord : (u : Flat) (l : List Flat) (w : Flat) (r : List Flat) → Simple m (u ∷ (l ++ w ∷ r)) → Cut m (u ∷ (l ++ w ∷ []))
      → Cut m (u ∷ w ∷ r) → Cut m (u ∷ (l ++ w ∷ r))
  ear : (u c : Flat) (l : List Flat) → Simple m (u ∷ c ∷ l) → Simple m (u ∷ c ∷ lst c l ∷ []) → Cut m (c ∷ l) → Cut m (u ∷ c ∷ l)
  start : (x : Flat) (l : List Flat) (y : Flat) (r : List Flat) → Cut m (y ∷ (r ++ x ∷ l)) → Cut m (x ∷ (l ++ y ∷ r))

-- p is in the triangle a b c or on its border: the three turns are of one sign, or 0
pub data InTriangle (a b c p : Flat) : Type 0 where
  left : Nn (twice_area a b p) → Nn (twice_area b c p) → Nn (twice_area c a p) → InTriangle a b c p
  right : Nn (neg_ℤ (twice_area a b p)) → Nn (neg_ℤ (twice_area b c p)) → Nn (neg_ℤ (twice_area c a p)) → InTriangle a b c p

-- a test of the sides, summed up over the triangles
abbrev pub cut_hits : {m : ℤ} {g : List Flat} → (Flat → Flat → Bool) → Cut m g → Bool
cut_hits f (one a b c s) = round f (a ∷ b ∷ c ∷ [])
cut_hits f (chord u l w r s x y) = xor (cut_hits f x) (cut_hits f y)
cut_hits f (ear u c l s t x) = xor (round f (u ∷ c ∷ lst c l ∷ [])) (cut_hits f x)
cut_hits f (start x l y r t) = cut_hits f t

-- it is in one of the triangles, each corner a taken as f a: for a point p / d, f a is a, d times as large
abbrev pub At : {m : ℤ} {g : List Flat} → (Flat → Flat) → Cut m g → Flat → Type 0
At f (one a b c s) p = InTriangle (f a) (f b) (f c) p
At f (chord u l w r s x y) p = At f x p ⊎ At f y p
At f (ear u c l s t x) p = InTriangle (f u) (f c) (f (lst c l)) p ⊎ At f x p
At f (start x l y r t) p = At f t p

-- each of its triangles turns the way that z has its sign
abbrev pub OneWay : {m : ℤ} {g : List Flat} → ℤ → Cut m g → Type 0
OneWay z (one a b c s) = SameSign (twice_area a b c) z
OneWay z (chord u l w r s x y) = OneWay z x × OneWay z y
OneWay z (ear u c l s t x) = SameSign (twice_area u c (lst c l)) z × OneWay z x
OneWay z (start x l y r t) = OneWay z t

-- a point is on none of its chords; it is in at most one of its triangles
abbrev pub OffChords : {m : ℤ} {g : List Flat} → (Flat → Flat) → Cut m g → Flat → Type 0
OffChords f (one a b c s) p = Unit {0}
OffChords f (chord u l w r s x y) p = Off p (f u) (f w) × OffChords f x p × OffChords f y p
OffChords f (ear u c l s t x) p = Off p (f c) (f (lst c l)) × OffChords f x p
OffChords f (start x l y r t) p = OffChords f t p

abbrev pub AtMostOne : {m : ℤ} {g : List Flat} → (Flat → Flat) → Cut m g → Flat → Type 0
AtMostOne f (one a b c s) p = Unit {0}
AtMostOne f (chord u l w r s x y) p = (At f x p → At f y p → ⊥) × AtMostOne f x p × AtMostOne f y p
AtMostOne f (ear u c l s t x) p = (InTriangle (f u) (f c) (f (lst c l)) p → At f x p → ⊥) × AtMostOne f x p
AtMostOne f (start x l y r t) p = AtMostOne f t p
