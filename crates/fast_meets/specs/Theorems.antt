-- What lets rule 13 ask each pair of edges once, by boxes first, and no vertex.
use Rattle.std.specs.Prelude.{◌≡◌, Bool, true, false, not, ◌&&◌, cond, ◌⊎◌, ℕ, suc, ◌-◌, eqb, length}
use Rattle.std.proofs.Math.Option.{none}
use Rattle.lists.specs.Lists.{any, from, upto, lowest}
use Rattle.sets.specs.Word.{dig}
use Rattle.paper.specs.Points.{minus, dot, cross, is_zero, is_origin, same_point}
use Rattle.paper.specs.Drawing.{Wire, at, overlap, cuts_open, open_meets, same_place, loose_vertex, edge_meets}
use Rattle.paper.specs.declared.Point.{Point}
use Rattle.means_drawing.specs.Drawings.{Rising}
use Rattle.fast_meets.specs.Boxes.{are_apart}
use Rattle.fast_meets.specs.Pairs.{meet_at, offenders}

-- neither of the segments from a to b and from c to d without its ends has a point in common with the other
pub record NoneMet (a b c d : Point) : Type 0 where
  pub first : open_meets a b c d ≡ false
  pub second : open_meets c d a b ≡ false

-- no segment is a point
pub record Longs (a b c d : Point) : Type 0 where
  pub ab : a ≡ b → ⊥
  pub cd : c ≡ d → ⊥

-- a common end
abbrev pub EndShared : Point → Point → Point → Point → Type 0
EndShared a b c d = (a ≡ c) ⊎ ((a ≡ d) ⊎ ((b ≡ c) ⊎ (b ≡ d)))

-- for segments in one line: c and d are neither both at or before a nor both at or after b
unfoldable pub laps : Point → Point → Point → Point → Bool
unfolding minus dot overlap
laps a b c d = overlap (dot (minus b a) (minus c a)) (dot (minus b a) (minus d a)) (dot (minus b a) (minus b a))

-- the other's answer from the same steps: t and s change places
unfoldable pub second : Point → Point → Point → Point → Bool
unfolding is_origin cross minus dot laps cuts_open is_zero
second a b c d =
    let p = minus b a in
    let q = minus d c in
    let r = minus c a in
    let n = cross p q in
    cond (is_origin n) (is_origin (cross p r) && laps c d a b)
    (is_zero (dot r n) && cuts_open (dot (cross r p) n) (dot (cross r q) n) (dot n n))

module _ (a b c d : Point) where
  abbrev pub BoxesTell : Type 0
  BoxesTell = Longs a b c d → are_apart a b c d ≡ true → NoneMet a b c d

  abbrev pub OneGivesBoth : Type 0
  OneGivesBoth = Longs a b c d → open_meets c d a b ≡ second a b c d

  abbrev pub JoinedMeetNoMore : Type 0
  JoinedMeetNoMore = is_origin (cross (minus b a) (minus d c)) ≡ false → EndShared a b c d → NoneMet a b c d

-- ---- of any drawing: 11 need look only at the vertices after each

module _ (d : Wire) where
  abbrev pub later_at : ℕ → Bool
  later_at u = any (λ w. same_point (at d u) (at d w)) (from (suc u) (length d.vertices - suc u))

  abbrev pub LaterTell : Type 0
  LaterTell = same_place d ≡ lowest later_at (length d.vertices)

-- ---- of a drawing that has passed 9, 11 and 12

pub record Tied (d : Wire) : Type 0 where
  pub rising : Rising d
  pub places : same_place d ≡ none
  pub tied : loose_vertex d ≡ none

module _ (d : Wire) where
  -- edge e meets another edge
  abbrev pub met_at : ℕ → Bool
  met_at e = any (λ f. not (eqb e f) && meet_at d e f) (upto (length d.edges))

  -- no vertex needs a look of its own
  abbrev pub EdgesTell : Type 0
  EdgesTell = Tied d → edge_meets d ≡ lowest met_at (length d.edges)

  -- each pair is asked once
  abbrev pub PairsTell : Type 0
  PairsTell = Tied d → edge_meets d ≡ lowest (dig (offenders d)) (length d.edges)
