-- A solid of a drawing that an edition has room for has no more faces than a face list of it, and so its faces can be sent as a list.
use mathlib.Core.Path.{◌≡◌, refl, sym, ap, subst, ◌∙◌}
use mathlib.Core.Bool.{Bool, true, false}
use mathlib.Core.Option.{none}
use mathlib.Core.List.{List, [], ◌∷◌, map}
use Prim.Native.Nat.{ℕ, suc, ◌+◌, ◌*◌, ◌≤◌, ◌<◌}
use native.Mathlib.Omega.{arith}
use native.Mathlib.Nat.{zero-add, add-zero}
use lib.ListN.{length, get_or, length-map}
use Rattle.lists.specs.Lists.{keep, filter, from, upto}
use Rattle.lists.proofs.Places.{map_at, upto_length, upto-at, one_later}
use Rattle.sets.specs.Word.{bit, dig, count}
use Rattle.sets.proofs.Digits.{never}
use Rattle.paper.specs.Numbers.{most_vertices, most_edges}
use Rattle.paper.specs.Drawing.{Wire, same_place}
use Rattle.paper.specs.Loops.{Loop, loop_at, candidates}
use Rattle.paper.specs.Verdict.{list_edition}
use Rattle.paper.specs.declared.Format.{Format}
use Rattle.paper_laws.specs.Editions.{HoldsFaces}
use Rattle.paper_laws.proofs.Editions.{roomy_for, fits_for}
use Rattle.means_solid.specs.Solid.{IsSolid}
use Rattle.means_loops.specs.Path.{ClosedPath}
use Rattle.means_solid.specs.Named.{directed}
use Rattle.means_sheets.specs.FaceLists.{Sendable}
use Rattle.means_check.specs.Sent.{face_list}
use Rattle.means_loops.proofs.Listing.{candidates_are}
use Rattle.means_loops.proofs.Paths.{loop_path, path_turned}
use Rattle.means_check.proofs.Four.{four_faces}
use Rattle.means_loops.proofs.Kept.{filter_yes}
use Rattle.means_check.proofs.Corners.{over, over_le, corners_few}

-- three for each face that is taken
over-three : (ts : List Bool) (ls : List Loop) → length ts ≡ length ls → over ts (λ l. 3) ls ≡ 3 * count ts
unfolding over count
over-three [] ls long = refl
over-three (t ∷ ts) [] long = absurd (omega arith)
over-three (true ∷ ts) (l ∷ ls) long = omega (arith, over-three ts ls (omega arith))
over-three (false ∷ ts) (l ∷ ls) long = omega (arith, over-three ts ls (omega arith))

-- the list of those that are taken is as long as they are many
kept_count : (p : ℕ → Bool) (bs : List Bool) (j : ℕ) → ((i : ℕ) → i < length bs → p (j + i) ≡ dig bs i)
    → length (filter p (from j (length bs))) ≡ count bs
unfolding filter keep from count
kept_count p [] j f = refl
kept_count p (b ∷ bs) j f =
    go (p j) b (ap p (sym (add-zero j)) ∙ f 0 (omega arith)) (kept_count p bs (suc j) (λ i h. ap p (one_later j i) ∙ f (suc i) (omega arith)))
  where
    go : (x y : Bool) → x ≡ y → length (filter p (from (suc j) (length bs))) ≡ count bs
        → length (keep x j (filter p (from (suc j) (length bs)))) ≡ bit y + count bs
    go true true e r = omega arith
    go true false e r = never e
    go false true e r = never (sym e)
    go false false e r = omega arith

module _ (d : Wire) (cs : List Loop) (taken turned : List Bool) (paths : (k : ℕ) → k < length cs → ClosedPath d (loop_at cs k)) {six : ℕ}
    (s : IsSolid d cs taken turned six) where
  -- three corners for each face, two for each edge
  pub faces_few : 3 * count taken ≤ 2 * length d.edges
  faces_few =
      let a = over-three taken cs s.some in
      let b = over_le taken (λ l. 3) length cs (λ i h. (paths i h).three) in
      omega (arith, a, b, corners_few d cs taken turned paths s)

  pub can_be_sent : (f : Format) → HoldsFaces f → length d.edges ≤ f.most_edges
      → Sendable f (length d.vertices) (face_list d cs taken turned)
  unfolding face_list upto
  can_be_sent f roomy few = record {
    least = omega (arith, long, four_faces d cs taken turned paths s);
    most = omega (arith, long, faces_few);
    few = λ i h. let c = face i h in c.three;
    many = λ i h. let c = face i h in c.twelve;
    numbers = λ i j h l. (face i h).inside j l;
  }
    where
      long : length (map (directed d cs taken turned) (filter (dig taken) (from 0 (length cs)))) ≡ count taken
      long =
          length-map (filter (dig taken) (from 0 (length cs))) (directed d cs taken turned)
          ∙ ap (λ (n : ℕ). length (filter (dig taken) (from 0 n))) (sym s.some)
          ∙ kept_count (dig taken) taken 0 (λ i h. ap (dig taken) (zero-add i))

      face : (i : ℕ) → i < length (map (directed d cs taken turned) (filter (dig taken) (from 0 (length cs))))
          → ClosedPath d (loop_at (map (directed d cs taken turned) (filter (dig taken) (from 0 (length cs)))) i)
      face i h =
          let l : i < length (filter (dig taken) (from 0 (length cs))) = omega
          (arith, length-map (filter (dig taken) (from 0 (length cs))) (directed d cs taken turned)) in
          let r = filter_yes 0 (dig taken) (upto (length cs)) i l in
          let b : r.0 < length cs = omega (arith, r.1, upto_length (length cs)) in
          let q : get_or (filter (dig taken) (from 0 (length cs))) i 0 ≡ r.0 = sym r.2 ∙ upto-at (length cs) r.0 b in
          subst (ClosedPath d) (sym (map_at (directed d cs taken turned) (filter (dig taken) (from 0 (length cs))) i 0 [] l))
          (subst (λ (k : ℕ). ClosedPath d (directed d cs taken turned k)) (sym q)
          (path_turned d (dig turned r.0) (loop_at cs r.0) (paths r.0 b)))

-- every solid of a drawing of so many vertices and edges as there may be can be sent as a list of its faces
pub solid-sent : (d : Wire) → same_place d ≡ none → length d.vertices ≤ most_vertices → length d.edges ≤ most_edges
    → (taken turned : List Bool) {six : ℕ} → IsSolid d (candidates d) taken turned six
    → Sendable (list_edition d) (length d.vertices) (face_list d (candidates d) taken turned)
solid-sent d e few_vertices_lem few_edges_lem taken turned s =
    let v = length d.vertices in
    let n = length d.edges in
    can_be_sent d (candidates d) taken turned (λ k h. loop_path d e (loop_at (candidates d) k) (candidates_are d k h).loop) s
    (list_edition d) (roomy_for v n) (fits_for v n few_vertices_lem few_edges_lem).e_fits
