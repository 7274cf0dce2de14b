-- The editions that there are: what holds of each of them holds of that which a sheet says and of that of a drawing.
use mathlib.Core.Path.{◌≡◌, refl, ap₂}
use mathlib.Core.List.{List}
use Prim.Native.Nat.{ℕ, ◌≤◌}
use native.Mathlib.Omega.{arith}
use lib.IntN.{ℤ}
use Rattle.paper.specs.Verdict.{list_edition}
use Rattle.paper.specs.Drawing.{wire}
use Rattle.paper.specs.Numbers.{most_vertices, most_edges}
use Rattle.paper.specs.Format.{edition_one, edition_of, edition_for, lent_edition, vertices_in, edges_in, encode}
use Rattle.paper.specs.declared.Format.{Format}
use Rattle.paper_laws.specs.Editions.{Limited, HoldsFaces, FitsEdition}
use Rattle.paper_laws.proofs.Wires.{length_points, length_edges}

module _ (P : Format → Type 0) (one : P edition_one) where
  pub holds_of : (s : List ℕ) → P (edition_of s)
  unfolding edition_of
  holds_of s = one

  pub holds_for : (v e : ℕ) → P (edition_for v e)
  unfolding edition_for
  holds_for v e = one

-- there is one, in document 01
pub one_of : (s : List ℕ) → edition_of s ≡ edition_one
one_of = holds_of (λ f. f ≡ edition_one) refl

pub one_for : (v e : ℕ) → edition_for v e ≡ edition_one
one_for = holds_for (λ f. f ≡ edition_one) refl

one_limited : Limited edition_one
one_limited = record { v_held = omega arith; e_held = omega arith; faces_held = omega arith }

pub limited_of : (s : List ℕ) → Limited (edition_of s)
limited_of = holds_of Limited one_limited

pub limited_for : (v e : ℕ) → Limited (edition_for v e)
limited_for = holds_for Limited one_limited

pub roomy_for : (v e : ℕ) → HoldsFaces (edition_for v e)
roomy_for = holds_for HoldsFaces (omega arith)

-- the edition of a drawing has room for it
pub fits_for : (v e : ℕ) → v ≤ most_vertices → e ≤ most_edges → FitsEdition (edition_for v e) v e
unfolding edition_for
fits_for v e p q = record { v_fits = p; e_fits = q }

-- a sheet says the edition of the drawing on it, and a drawing's sheet says its edition
pub said_by : (s : List ℕ) → edition_for (vertices_in (edition_of s) s) (edges_in (edition_of s) s) ≡ edition_of s
unfolding edition_of edition_for
said_by s = refl

pub says : (xyz : List ℤ) (ends : List ℕ)
    → edition_of (encode (lent_edition xyz ends) xyz ends) ≡ lent_edition xyz ends
unfolding edition_of edition_for
says xyz ends = refl

-- two lists are a drawing of their own edition
pub wire_edition : (xyz : List ℤ) (ends : List ℕ) → list_edition (wire xyz ends) ≡ lent_edition xyz ends
unfolding wire
wire_edition xyz ends = ap₂ edition_for (length_points xyz) (length_edges ends)
