-- A moved drawing, lent or on a sheet, and higher limits: each of the demands' sentences is a case of one theorem over all moves.
use mathlib.Core.Path.{◌≡◌, refl, sym, ap, ◌∙◌, subst}
use mathlib.Core.Bool.{Bool, true, false, cond}
use mathlib.Core.Logic.{◌↔◌}
use mathlib.Core.List.{List}
use Prim.Native.Nat.{ℕ}
use lib.IntN.{ℤ, pos, negsuc, nat_abs}
use lib.ListN.{length}
use Rattle.lists.proofs.Truth.{same_truth}
use Rattle.paper.specs.Numbers.{documented}
use Rattle.paper.specs.Points.{times}
use Rattle.paper.specs.Refusals.{first_of, Fine}
use Rattle.paper.specs.FaceList.{well_shaped}
use Rattle.paper.specs.Drawing.{Wire, wire}
use Rattle.paper.specs.Conversion.{Converted, conversion}
use Rattle.paper.specs.Verdict.{verdict, list_edition}
use Rattle.paper.specs.declared.Point.{Point}
use Rattle.means_drawing.specs.Drawings.{Rising}
use Rattle.means_moves.specs.TurnedRound.{AllTurned}
use Rattle.means_moves.specs.Moves.{shift, mirror, Step, laid, oddly, Move}
use Rattle.means_moves.specs.Lists.{each_vertex, WithinRange}
use Rattle.means_moves.specs.Turned.{turns_by, FollowsMoved}
use Rattle.exact.proofs.Order.{whole_pos}
use Rattle.means_moves.proofs.Shift as Shift
use Rattle.means_moves.proofs.Mirror as Mirror
use Rattle.means_moves.proofs.Scale.{scales}
use Rattle.means_moves.proofs.Linear.{linear}
use Rattle.means_moves.proofs.Laid.{laying, laid-to, laid_turns}
use Rattle.means_moves.proofs.Turned.{follows_same, follows_mirrored, follows_scaled}
use Rattle.means_moves.proofs.Lent.{forms-near, forms-mirror, either-follows, either_kept, either-round}
use Rattle.means_moves.proofs.Higher.{conversion-higher}
use Rattle.demands.specs.Input.{Input, lent, sheet, drawing, form, converted, checked}
use Rattle.demands.specs.Shells.{GoodList, sent_faces}
use Rattle.demands.specs.Moved.{coordinates, links, Made, Round, Shifts, Mirrors, Laid, Turns, Scales}
use Rattle.demands.specs.Limits.{HigherLimit}
use Rattle.demands.proofs.Input.{converted_is, checked_is, rising}
use Rattle.demands.proofs.Shape.{is_shape}
use Rattle.paper_laws.proofs.Editions.{one_for}

-- ---- one form for both kinds of drawing

drawing_is : (x : Input) → drawing x ≡ wire (coordinates x) (links x)
drawing_is (lent xyz ends) = refl
drawing_is (sheet s) = refl

rises : (x : Input) → Fine ≡ first_of (form x) → Rising (wire (coordinates x) (links x))
rises x e = subst Rising (drawing_is x) (rising x e)

converted_as : (x : Input) (limit : ℕ) (faces solids : List ℕ)
    → converted x limit faces solids ≡ conversion documented (form x) (wire (coordinates x) (links x)) limit faces solids
converted_as x limit faces solids =
    converted_is x limit faces solids ∙ ap (λ (d : Wire). conversion documented (form x) d limit faces solids) (drawing_is x)

checked_as : (x : Input) (list : List ℕ) → checked x list ≡ verdict (form x) (wire (coordinates x) (links x)) list
checked_as x list = checked_is x list ∙ ap (λ (d : Wire). verdict (form x) d list) (drawing_is x)

-- the two lists are both of good shape, or neither
shapes_same : (d : Wire) (list other : List ℕ) → GoodList d list ↔ GoodList d other
    → let v = length d.vertices in well_shaped (list_edition d) v other ≡ well_shaped (list_edition d) v list
shapes_same d list other s =
    let v = length d.vertices in
    let is = is_shape (one_for v (length d.edges)) v in
    same_truth (well_shaped (list_edition d) v other) (well_shaped (list_edition d) v list)
    (λ e. (is list).1 (s.1 ((is other).0 e))) (λ e. (is other).1 (s.0 ((is list).0 e)))

-- ---- any move

module _ (m : Move) (x y : Input) (made : Made m.to x y) where
  follows : (limit : ℕ) (faces solids : List ℕ)
      → FollowsMoved (turns_by m.sides_by) (nat_abs m.sides_by) solids (converted x limit faces solids) (converted y limit faces solids)
  follows limit faces solids =
      subst (λ (r : Converted). FollowsMoved (turns_by m.sides_by) (nat_abs m.sides_by) solids r (converted y limit faces solids))
      (sym (converted_as x limit faces solids))
      (subst (FollowsMoved (turns_by m.sides_by) (nat_abs m.sides_by) solids
      (conversion documented (form x) (wire (coordinates x) (links x)) limit faces solids)) (sym (converted_as y limit faces solids))
      (either-follows m (form x) (form y) made.forms (coordinates x) (coordinates y) (links x) (links y) (rises x) made.edges
      made.points documented limit faces solids))

  kept : turns_by m.sides_by ≡ false → (list : List ℕ) → checked y list ≡ checked x list
  kept t list =
      checked_as y list
      ∙ either_kept m (form x) (form y) made.forms (coordinates x) (coordinates y) (links x) (links y) (rises x) made.edges
      made.points t list
      ∙ sym (checked_as x list)

  turned : turns_by m.sides_by ≡ true → (list other : List ℕ) → Round x list other → checked y other ≡ checked x list
  turned t list other round =
      checked_as y other
      ∙ either-round m (form x) (form y) made.forms (coordinates x) (coordinates y) (links x) (links y) (rises x) made.edges
      made.points t list other
      (subst (λ (d : Wire). well_shaped (list_edition d) (length d.vertices) other ≡ well_shaped (list_edition d) (length d.vertices) list)
      (drawing_is x) (shapes_same (drawing x) list other round.shape))
      (subst (λ (d : Wire). AllTurned (sent_faces d list) (sent_faces d other)) (drawing_is x) round.faces)
      ∙ sym (checked_as x list)

-- lent lists, with any fault that 8 does not tell
lent-made : (f : Point → Point) (xyz : List ℤ) (ends : List ℕ) → WithinRange xyz → WithinRange (each_vertex f xyz)
    → Made f (lent xyz ends) (lent (each_vertex f xyz) ends)
lent-made f xyz ends a b = record { points = refl; edges = refl; forms = forms-near f xyz ends a b }

-- ---- shifts

pub shifts : Shifts
unfolding Shift.shifts
shifts = record {
  lists = λ w xyz ends a b limit faces solids.
      follows_same (follows (Shift.shifts w) _ _ (lent-made (shift w) xyz ends a b) limit faces solids);
  both = λ w x y made limit faces solids. follows_same (follows (Shift.shifts w) x y made limit faces solids);
  check = λ w x y made list. kept (Shift.shifts w) x y made refl list;
}

-- ---- mirrors

pub mirrors : Mirrors
unfolding linear Mirror.mirrors
mirrors = record {
  lists = λ xyz ends limit faces solids.
      follows_mirrored (follows (linear Mirror.mirrors) (lent xyz ends) (lent (each_vertex mirror xyz) ends)
      (record { points = refl; edges = refl; forms = forms-mirror xyz ends }) limit faces solids);
  both = λ x y made limit faces solids. follows_mirrored (follows (linear Mirror.mirrors) x y made limit faces solids);
  check = λ x y made list other round. turned (linear Mirror.mirrors) x y made refl list other round;
}

-- ---- turns

module _ (ss : List Step) where
  laid-made : (x y : Input) → Made (laid ss) x y → Made (laying ss).to x y
  laid-made x y made = record {
    points = made.points ∙ sym (λ i. each_vertex (λ p. laid-to ss p i) (coordinates x));
    edges = made.edges;
    forms = made.forms;
  }

  -- an even number of steps has the factor 1, an odd number -1
  laid-follows : (solids : List ℕ) (r q : Converted) → FollowsMoved (turns_by (laying ss).sides_by) (nat_abs (laying ss).sides_by) solids r q
      → Laid (oddly ss) solids r q
  laid-follows solids r q f =
      go (oddly ss) (subst (λ (z : ℤ). FollowsMoved (turns_by z) (nat_abs z) solids r q) (laid_turns ss) f)
    where
      go : (b : Bool) → FollowsMoved (turns_by (cond b (negsuc 0) (pos 1))) (nat_abs (cond b (negsuc 0) (pos 1))) solids r q → Laid b solids r q
      go true f = follows_mirrored f
      go false f = follows_same f

  laid_turned : turns_by (laying ss).sides_by ≡ oddly ss
  laid_turned = ap turns_by (laid_turns ss) ∙ go (oddly ss)
    where
      go : (b : Bool) → turns_by (cond b (negsuc 0) (pos 1)) ≡ b
      go true = refl
      go false = refl

pub turns : Turns
turns = record {
  lists = λ ss xyz ends a b limit faces solids.
      laid-follows ss solids _ _ (follows (laying ss) _ _ (laid-made ss _ _ (lent-made (laid ss) xyz ends a b)) limit faces solids);
  both = λ ss x y made limit faces solids. laid-follows ss solids _ _ (follows (laying ss) x y (laid-made ss x y made) limit faces solids);
  check = λ ss even x y made list. kept (laying ss) x y (laid-made ss x y made) (laid_turned ss ∙ even) list;
  check_round = λ ss odd x y made list other round.
      turned (laying ss) x y (laid-made ss x y made) (laid_turned ss ∙ odd) list other round;
}

-- ---- enlarged

pub scaled : Scales
unfolding linear scales
scaled = record {
  lists = λ k h xyz ends a b limit faces solids.
      follows_scaled k (follows (linear (scales (pos k) (whole_pos k h))) _ _ (lent-made (times (pos k)) xyz ends a b) limit faces solids);
  both = λ k h x y made limit faces solids. follows_scaled k (follows (linear (scales (pos k) (whole_pos k h))) x y made limit faces solids);
  check = λ k h x y made list. kept (linear (scales (pos k) (whole_pos k h))) x y made refl list;
}

-- ---- limits

pub higher : HigherLimit
higher x a b h q faces solids n =
    converted_is x b faces solids
    ∙ conversion-higher documented (form x) (drawing x) a b faces solids h q
    (λ l c w e. n l c w (ap (λ (r : Converted). r.answer) (converted_is x a faces solids) ∙ e))
    ∙ sym (converted_is x a faces solids)
