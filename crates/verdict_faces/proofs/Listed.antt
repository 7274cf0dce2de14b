-- A list of faces that passes 21 and 22: each is a candidate, and the mask of the taken ones is as long as the candidates. For the caller,
-- which goes on to 23.
use mathlib.Core.Path.{◌≡◌, refl, ap, ◌∙◌}
use mathlib.Core.List.{List, []}
use Prim.Native.Nat.{ℕ, ◌<◌}
use native.Mathlib.Omega.{arith}
use lib.ListN.{length, get_or}
use Rattle.paper.specs.Refusals as No
use Rattle.paper.specs.Refusals.{first_of, Fine}
use Rattle.paper.specs.Loops.{Loop}
use Rattle.paper.specs.Verdict.{mask_of, listed}
use Rattle.paper_laws.proofs.Checks.{found_none}
use Rattle.means_check.proofs.Numbers.{row_length}
use Rattle.means_check.proofs.Numbered.{Numbered, numbered, numbers_length, number_of_lem}
use Rattle.verdict_faces.specs.Named.{named_checks}

module _ (cs : List Loop) (fs : List (List ℕ)) where
  abbrev ks : List ℕ
  ks = (listed cs fs).numbers

  pub taken_mask : (listed cs fs).taken ≡ mask_of (length cs) ks
  unfolding listed
  taken_mask = refl

  pub taken_long : length (listed cs fs).taken ≡ length cs
  taken_long = ap length taken_mask ∙ row_length (length cs) ks

  pub listed_long : length ks ≡ length fs
  unfolding listed
  listed_long = numbers_length cs fs

  module _ (e : Fine ≡ first_of (named_checks cs fs)) where
    passed : Numbered cs fs
    unfolding listed
    passed =
        let p = found_none No.NotCandidate _ e in
        numbered cs fs p.0 (found_none No.FaceTwice [] p.1).0

    -- every face is a candidate
    pub named_below : (i : ℕ) → i < length fs → get_or ks i 0 < length cs
    unfolding listed
    named_below i h = omega (arith, number_of_lem cs fs i h, passed.known i h)
