-- New numbers that are one to one can be undone; and 11 passes both drawings or none.
use mathlib.Core.Path.{◌≡◌, sym, ap, ◌∙◌}
use mathlib.Core.Option.{none}
use Prim.Native.Nat.{ℕ, ◌<◌}
use native.Mathlib.Omega.{arith}
use native.Mathlib.Decide.{dec_lt}
use lib.ListN.{length}
use Rattle.lists.proofs.OwnNumbers.{onto}
use Rattle.paper.specs.Drawing.{Wire, at, same_place}
use Rattle.means_drawing.proofs.Drawings.{same_place_means}
use Rattle.means_moves.specs.Renumbered.{BothWays, NewNumbers}
use Rattle.means_moves.specs.Kept.{KeptSolids}
use Rattle.means_moves.proofs.Kept.{kept}

module _ {new : ℕ → ℕ} {d e : Wire} (r : NewNumbers new d e) where
  find : (u : ℕ) → Dec (u < length d.vertices) → ℕ
  find u (yes h) = (onto (length d.vertices) new r.numbers.below r.numbers.apart u h).0
  find u (no h) = 0

  pub undo : ℕ → ℕ
  undo u = find u (dec_lt u (length d.vertices))

  undone : (u : ℕ) → u < length d.vertices → (undo u < length d.vertices) × (new (undo u) ≡ u)
  unfolding undo find
  undone u h = go (dec_lt u (length d.vertices))
    where
      go : (t : Dec (u < length d.vertices)) → (find u t < length d.vertices) × (new (find u t) ≡ u)
      go (yes k) = let w = onto (length d.vertices) new r.numbers.below r.numbers.apart u k in (w.1, w.2)
      go (no k) = absurd (k h)

  pub renumbered : BothWays new undo d e
  renumbered = record {
    as_many = r.numbers.as_many;
    new_below = r.numbers.below;
    old_below = λ v h. (undone v h).0;
    old_new = λ v h. r.numbers.apart (undo (new v)) v (undone (new v) (r.numbers.below v h)).0 h
        (undone (new v) (r.numbers.below v h)).1;
    new_old = λ v h. (undone v h).1;
    place = r.numbers.place;
    edges = r.numbers.edges;
    ends = r.ends;
    ends_too = r.ends_too;
  }

-- 11
pub places_over : {new old : ℕ → ℕ} {d e : Wire} → BothWays new old d e → same_place d ≡ none → same_place e ≡ none
places_over {new} {old} {d} {e} r h =
    (same_place_means e).1 (λ u w hu hw q.
    let lu : u < length d.vertices = omega (arith, r.as_many) in
    let lw : w < length d.vertices = omega (arith, r.as_many) in
    let z : old u ≡ old w = (same_place_means d).0 h (old u) (old w) (r.old_below u lu) (r.old_below w lw)
    (sym (r.place (old u) (r.old_below u lu)) ∙ ap (at e) (r.new_old u lu) ∙ q ∙ sym (ap (at e) (r.new_old w lw))
    ∙ r.place (old w) (r.old_below w lw)) in
    sym (r.new_old u lu) ∙ ap new z ∙ r.new_old w lw)

-- "the solids are the same sets of faces under the new numbers"
pub renumbers : {new : ℕ → ℕ} {d e : Wire} → NewNumbers new d e → same_place d ≡ none → KeptSolids new d e
renumbers r h = kept (renumbered r) h (places_over (renumbered r) h)
