-- Every test of points and segments says the same of what was moved.
use mathlib.Core.Path.{◌≡◌, refl, sym, ap, ap₂, ◌∙◌}
use mathlib.Core.Bool.{Bool, true, false, ◌&&◌, cond}
use mathlib.Core.List.{List, [], ◌∷◌, map}
use lib.IntN.{ℤ, pos, ◌*ℤ◌, *ℤ-zero}
use Rattle.exact.proofs.Signs.{mul-zero, pos-ne}
use Rattle.lists.proofs.Truth.{same_truth}
use Rattle.paper.specs.Points.{origin, minus, dot, cross, det, is_zero, is_origin, above, below, same_point}
use Rattle.paper.specs.Drawing.{on_open, overlap, cuts_open, open_meets}
use Rattle.paper.specs.Loops.{tilt, tilted}
use Rattle.paper.specs.Clash.{in_angle, angle_holds}
use Rattle.paper.specs.declared.Point.{Point}
use Rattle.paper_laws.proofs.Points.{origin_yes, origin_is, self_zero, dot_comm}
use Rattle.means_area.specs.Flats.{Up}
use Rattle.means_moves.specs.Moves.{Move}
use Rattle.paper_laws.proofs.Factors.{zero_times, above-times, below-times}
use Rattle.means_moves.proofs.Factors.{overlap-times, cuts_times}

-- what changes products by a factor takes (0,0,0) to itself, and nothing else there
pub none_by : (f : Point → Point) (c : ℤ) → Up c → ((p q : Point) → dot (f p) (f q) ≡ c *ℤ dot p q) → (p : Point) → is_origin (f p) ≡
    is_origin p
none_by f c h products p =
    same_truth (is_origin (f p)) (is_origin p)
    (λ e. origin_is (self_zero p (mul-zero c (dot p p) (pos-ne h)
    (sym (products p p) ∙ ap (λ (q : Point). dot q q) (origin_yes (f p) e) ∙ origin_self))))
    (λ e. origin_is (self_zero (f p) (products p p ∙ ap (λ (q : Point). c *ℤ dot q q) (origin_yes p e) ∙ ap (λ (z : ℤ). c *ℤ z)
    origin_self ∙ *ℤ-zero c)))
  where
    origin_self : dot origin origin ≡ pos 0
    origin_self = unfold dot in refl

pub still_by : (f : Point → Point) (c : ℤ) → Up c → ((p q : Point) → dot (f p) (f q) ≡ c *ℤ dot p q) → f origin ≡ origin
still_by f c h products = origin_yes (f origin) (none_by f c h products origin ∙ origin_is refl)

module _ (m : Move) where
  pub along-none : (p : Point) → is_origin (m.along p) ≡ is_origin p
  along-none = none_by m.along m.dots_by m.dots_up m.dots

  pub across-none : (p : Point) → is_origin (m.across p) ≡ is_origin p
  across-none = none_by m.across m.crosses_by m.crosses_up m.cross_dots

  -- products of differences
  dots_to : (a b c d : Point) → dot (minus (m.to a) (m.to b)) (minus (m.to c) (m.to d)) ≡ m.dots_by *ℤ dot (minus a b) (minus c d)
  dots_to a b c d = (λ i. dot (m.differences a b i) (m.differences c d i)) ∙ m.dots (minus a b) (minus c d)

  cross-to : (a b c d : Point)
      → cross (minus (m.to a) (m.to b)) (minus (m.to c) (m.to d)) ≡ m.across (cross (minus a b) (minus c d))
  cross-to a b c d = (λ i. cross (m.differences a b i) (m.differences c d i)) ∙ m.crosses (minus a b) (minus c d)

  pub side_to : (n a b : Point) → dot (m.across n) (minus (m.to a) (m.to b)) ≡ m.sides_by *ℤ dot n (minus a b)
  side_to n a b = ap (dot (m.across n)) (m.differences a b) ∙ m.sides n (minus a b)

  -- 11
  pub same-to : (a b : Point) → same_point (m.to a) (m.to b) ≡ same_point a b
  unfolding same_point
  same-to a b = ap is_origin (m.differences a b) ∙ along-none (minus a b)

  -- 13
  pub on_to : (a b p : Point) → on_open (m.to a) (m.to b) (m.to p) ≡ on_open a b p
  unfolding on_open
  on_to a b p =
      ap₂ ◌&&◌ (ap is_origin (cross-to b a p a) ∙ across-none (cross (minus b a) (minus p a)))
      (ap below (dots_to p a p b) ∙ below-times m.dots_by m.dots_up (dot (minus p a) (minus p b)))

  pub meets-to : (a b c d : Point) → open_meets (m.to a) (m.to b) (m.to c) (m.to d) ≡ open_meets a b c d
  unfolding open_meets
  meets-to a b c d =
      λ i. cond (parallel i) (in_line_lem i && overlaps i) (level i && cuts i)
    where
      n : Point
      n = cross (minus b a) (minus d c)

      across_two : Point
      across_two = cross (minus (m.to b) (m.to a)) (minus (m.to d) (m.to c))

      parallel : is_origin (cross (minus (m.to b) (m.to a)) (minus (m.to d) (m.to c))) ≡ is_origin n
      parallel = ap is_origin (cross-to b a d c) ∙ across-none n

      in_line_lem : is_origin (cross (minus (m.to b) (m.to a)) (minus (m.to c) (m.to a))) ≡ is_origin (cross (minus b a) (minus c a))
      in_line_lem = ap is_origin (cross-to b a c a) ∙ across-none (cross (minus b a) (minus c a))

      level : is_zero (dot (minus (m.to c) (m.to a)) (cross (minus (m.to b) (m.to a)) (minus (m.to d) (m.to c))))
          ≡ is_zero (dot (minus c a) n)
      level =
          ap is_zero
          (dot_comm (minus (m.to c) (m.to a)) (cross (minus (m.to b) (m.to a)) (minus (m.to d) (m.to c)))
          ∙ ap (λ (q : Point). dot q (minus (m.to c) (m.to a))) (cross-to b a d c) ∙ side_to n c a)
          ∙ zero_times m.sides_by m.sides_real (dot n (minus c a)) ∙ ap is_zero (dot_comm n (minus c a))

      overlaps : overlap (dot (minus (m.to b) (m.to a)) (minus (m.to c) (m.to a)))
          (dot (minus (m.to b) (m.to a)) (minus (m.to d) (m.to a))) (dot (minus (m.to b) (m.to a)) (minus (m.to b) (m.to a)))
          ≡ overlap (dot (minus b a) (minus c a)) (dot (minus b a) (minus d a)) (dot (minus b a) (minus b a))
      overlaps =
          (λ i. overlap (dots_to b a c a i) (dots_to b a d a i) (dots_to b a b a i))
          ∙ overlap-times m.dots_by m.dots_up (dot (minus b a) (minus c a)) (dot (minus b a) (minus d a))
          (dot (minus b a) (minus b a))

      two : (p q r s : Point)
          → dot (cross (minus (m.to p) (m.to q)) (minus (m.to r) (m.to s)))
          (cross (minus (m.to b) (m.to a)) (minus (m.to d) (m.to c)))
          ≡ m.crosses_by *ℤ dot (cross (minus p q) (minus r s)) n
      two p q r s = ap₂ dot (cross-to p q r s) (cross-to b a d c) ∙ m.cross_dots (cross (minus p q) (minus r s)) n

      cuts : cuts_open (dot (cross (minus (m.to c) (m.to a)) (minus (m.to d) (m.to c))) across_two)
          (dot (cross (minus (m.to c) (m.to a)) (minus (m.to b) (m.to a))) across_two) (dot across_two across_two)
          ≡ cuts_open (dot (cross (minus c a) (minus d c)) n) (dot (cross (minus c a) (minus b a)) n) (dot n n)
      cuts =
          (λ i. cuts_open (two c a d c i) (two c a b a i) (two b a d c i))
          ∙ cuts_times m.crosses_by m.crosses_up (dot (cross (minus c a) (minus d c)) n) (dot (cross (minus c a) (minus b a)) n)
          (dot n n)

  -- "all in one plane": the plane of a path, and a point of it
  tilt-to : (s b n p : Point) → tilt (m.to s) (m.to b) (m.across n) (m.to p) ≡ m.across (tilt s b n p)
  unfolding tilt
  tilt-to s b n p =
      (λ i. cond (across-none n i) (cross-to b s p s i) (m.across n)) ∙ either (is_origin n)
    where
      either : (t : Bool) → cond t (m.across (cross (minus b s) (minus p s))) (m.across n) ≡ m.across
          (cond t (cross (minus b s) (minus p s)) n)
      either true = refl
      either false = refl

  pub tilted-to : (s b n : Point) (ps : List Point) → tilted (m.to s) (m.to b) (m.across n) (map m.to ps) ≡ m.across
      (tilted s b n ps)
  unfolding tilted
  tilted-to s b n [] = refl
  tilted-to s b n (p ∷ ps) =
      ap (λ (q : Point). tilted (m.to s) (m.to b) q (map m.to ps)) (tilt-to s b n p) ∙ tilted-to s b (tilt s b n p) ps

  pub level-to : (s b : Point) (ps : List Point) (p : Point)
      → is_zero (dot (tilted (m.to s) (m.to b) origin (map m.to ps)) (minus (m.to p) (m.to s)))
      ≡ is_zero (dot (tilted s b origin ps) (minus p s))
  level-to s b ps p =
      ap (λ (q : Point). is_zero (dot (tilted (m.to s) (m.to b) q (map m.to ps)) (minus (m.to p) (m.to s))))
      (sym (still_by m.across m.crosses_by m.crosses_up m.cross_dots))
      ∙ ap (λ (q : Point). is_zero (dot q (minus (m.to p) (m.to s)))) (tilted-to s b origin ps)
      ∙ ap is_zero (side_to (tilted s b origin ps) p s) ∙ zero_times m.sides_by m.sides_real (dot (tilted s b origin ps) (minus p s))

  -- C: n is across a polygon's plane
  above-to : (n p q : Point) → above (det (m.across n) (m.along p) (m.along q)) ≡ above (det n p q)
  unfolding det
  above-to n p q =
      ap above (ap (dot (m.across n)) (m.crosses p q) ∙ m.cross_dots n (cross p q))
      ∙ above-times m.crosses_by m.crosses_up (dot n (cross p q))

  pub angle_to : (n a u b w : Point) → in_angle (m.across n) (m.to a) (m.to u) (m.to b) (m.along w) ≡ in_angle n a u b w
  unfolding in_angle
  angle_to n a u b w =
      (λ i. angle_holds (above (det (m.across n) (m.differences b u i) (m.differences a u i)))
      (above (det (m.across n) (m.differences b u i) (m.along w))) (above (det (m.across n) (m.along w) (m.differences a u i))))
      ∙ (λ i. angle_holds (above-to n (minus b u) (minus a u) i) (above-to n (minus b u) w i) (above-to n w (minus a u) i))
