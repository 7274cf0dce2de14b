-- A solid is one under new numbers too: the same directed rings, the same six volumes.
use mathlib.Core.Path.{◌≡◌, refl, sym, ap, ◌∙◌, subst}
use mathlib.Core.Bool.{Bool, true}
use mathlib.Core.Logic.{◌⊎◌, inl, inr, ⊎_swap}
use mathlib.Core.Option.{none}
use mathlib.Core.List.{List}
use Prim.Native.Nat.{ℕ, ◌<◌}
use native.Mathlib.Omega.{arith}
use native.Mathlib.Decide.{dec_lt}
use lib.ListN.{length}
use Rattle.sets.specs.Word.{dig}
use Rattle.sets.proofs.Ones.{dig-below}
use Rattle.paper.specs.Points.{dot}
use Rattle.paper.specs.Drawing.{Wire, Edge, edge, edge_at, same_place}
use Rattle.paper.specs.Loops.{Loop, loop_at, polygon, candidates}
use Rattle.paper.specs.Solids.{face_six}
use Rattle.means_solid.specs.Solid.{Runs, HasSide, InTwo, Way, stay, cross, RunOnce, EachWay, six_of_faces, IsSolid}
use Rattle.means_loops.specs.Path.{EdgeOf}
use Rattle.means_loops.proofs.Places.{edge_back}
use Rattle.means_loops.proofs.Listing.{candidates_are}
use Rattle.means_moves.specs.Rings.{OneRing}
use Rattle.means_moves.specs.Renumbered.{BothWays}
use Rattle.means_moves.proofs.OneRing.{clash-ring}
use Rattle.means_moves.proofs.Renamed.{edge-over, edge-under, edge_high, renumbered_back}
use Rattle.means_moves.proofs.Matched.{fwd, fwd_at, back, back_fwd, one-over}
use Rattle.means_moves.proofs.Sums.{sum_over, part_wide}
use Rattle.means_check.proofs.FaceSums.{first, wide, in_way, faces_wide}
use Rattle.means_moves.proofs.Carried.{
  has-runs,
  runs-has,
  matched,
  new_taken,
  new_turned,
  new_long,
  new_low,
  taken_at,
  new_within,
  taken_to,
  term_over,
  runs-over,
  runs-under,
}

-- ---- edges of a solid, by their ends in any order

module _ (d : Wire) (cs : List Loop) (taken turned : List Bool) {six : ℕ} (s : IsSolid d cs taken turned six) where
  has_back : (k a b : ℕ) → HasSide d cs taken turned k (edge a b) → HasSide d cs taken turned k (edge b a)
  has_back k a b (inl g) = inr g
  has_back k a b (inr g) = inl g

  two_back : (a b : ℕ) → InTwo d cs taken turned (edge a b) → InTwo d cs taken turned (edge b a)
  two_back a b t = record {
    one = t.one;
    two = t.two;
    differ = t.differ;
    faces = t.faces;
    have = (has_back t.one a b t.have.0, has_back t.two a b t.have.1);
    only = λ k f h. t.only k f (has_back k b a h);
  }

  two_of : (a b : ℕ) → EdgeOf d a b → InTwo d cs taken turned (edge a b)
  two_of a b (i, h, inl p) = subst (InTwo d cs taken turned) p (s.i i h)
  two_of a b (i, h, inr p) = two_back b a (subst (InTwo d cs taken turned) p (s.i i h))

  once_of : (a b : ℕ) → EdgeOf d a b → RunOnce d cs taken turned a b
  once_of a b (i, h, inl p) = (subst (EachWay d cs taken turned) p (s.iii i h)).0
  once_of a b (i, h, inr p) = (subst (EachWay d cs taken turned) p (s.iii i h)).1

-- ---- the solid over there

module _ {new old : ℕ → ℕ} {d e : Wire} (r : BothWays new old d e) (one : same_place d ≡ none) (two : same_place e ≡ none)
    (taken turned : List Bool) {six : ℕ} (s : IsSolid d (candidates d) taken turned six) where
  abbrev to : ℕ → ℕ
  to = fwd r one two

  abbrev of : ℕ → ℕ
  of = back r one two

  abbrev nt : List Bool
  nt = new_taken r one two taken turned

  abbrev nu : List Bool
  nu = new_turned r one two taken turned

  high : (j : ℕ) → dig nt j ≡ true → j < length (candidates e)
  high j f = new_low r one two taken turned j f

  to_of : (j : ℕ) → dig nt j ≡ true → to (of j) ≡ j
  to_of j f = back_fwd (renumbered_back r) two one j (high j f)

  face-to : (k : ℕ) → dig taken k ≡ true → dig nt (to k) ≡ true
  face-to k f = taken_to r one two taken turned k (dig-below taken s.some k f) ∙ f

  face_of_lem : (j : ℕ) → dig nt j ≡ true → dig taken (of j) ≡ true
  face_of_lem j f = sym (taken_at r one two taken turned j (high j f)) ∙ f

  over-run : (k : ℕ) → dig taken k ≡ true → (a b : ℕ) → Runs d (candidates d) taken turned k a b → Runs e (candidates e) nt nu (to k)
      (new a) (new b)
  over-run k f = runs-over r one two taken turned k (dig-below taken s.some k f) f

  under-run : (j : ℕ) → dig nt j ≡ true → (x y : ℕ) → Runs e (candidates e) nt nu j x y → Runs d (candidates d) taken turned (of j)
      (old x) (old y)
  under-run j f x y g =
      runs-under r one two taken turned (of j) (dig-below taken s.some (of j) (face_of_lem j f)) (face_of_lem j f) x y
      (subst (λ (i : ℕ). Runs e (candidates e) nt nu i x y) (sym (to_of j f)) g)

  over-has : (k : ℕ) → dig taken k ≡ true → (a b : ℕ) → HasSide d (candidates d) taken turned k (edge a b)
      → HasSide e (candidates e) nt nu (to k) (edge (new a) (new b))
  over-has k f a b h = runs-has e (candidates e) nt nu (to k) (new a) (new b) (go (has-runs d (candidates d) taken turned k a b h))
    where
      go : Runs d (candidates d) taken turned k a b ⊎ Runs d (candidates d) taken turned k b a
          → Runs e (candidates e) nt nu (to k) (new a) (new b) ⊎ Runs e (candidates e) nt nu (to k) (new b) (new a)
      go (inl g) = inl (over-run k f a b g)
      go (inr g) = inr (over-run k f b a g)

  under-has : (j : ℕ) → dig nt j ≡ true → (x y : ℕ) → HasSide e (candidates e) nt nu j (edge x y)
      → HasSide d (candidates d) taken turned (of j) (edge (old x) (old y))
  under-has j f x y h = runs-has d (candidates d) taken turned (of j) (old x) (old y) (go (has-runs e (candidates e) nt nu j x y h))
    where
      go : Runs e (candidates e) nt nu j x y ⊎ Runs e (candidates e) nt nu j y x
          → Runs d (candidates d) taken turned (of j) (old x) (old y) ⊎ Runs d (candidates d) taken turned (of j) (old y) (old x)
      go (inl g) = inl (under-run j f x y g)
      go (inr g) = inr (under-run j f y x g)

  -- an edge over there, with its ends' old numbers
  record Ends (x y : ℕ) : Type 0 where
    here : EdgeOf d (old x) (old y)
    first : new (old x) ≡ x
    second : new (old y) ≡ y

  ends : (x y : ℕ) → EdgeOf e x y → Ends x y
  ends x y h =
      let l = edge_high r x y h in
      record { here = edge-under r x y h; first = r.new_old x l.0; second = r.new_old y l.1 }

  -- a number over there that comes from k
  from : (j k : ℕ) → dig nt j ≡ true → of j ≡ k → j ≡ to k
  from j k f e = sym (to_of j f) ∙ ap to e

  -- (i)
  two_over : (x y : ℕ) → EdgeOf e x y → InTwo e (candidates e) nt nu (edge x y)
  two_over x y h = go (two_of d (candidates d) taken turned s (old x) (old y) w.here)
    where
      w : Ends x y
      w = ends x y h

      has : (k : ℕ) → dig taken k ≡ true → HasSide d (candidates d) taken turned k (edge (old x) (old y)) → HasSide e (candidates e) nt nu (to k)
          (edge x y)
      has k f g =
          subst (λ (a : ℕ). HasSide e (candidates e) nt nu (to k) (edge a y)) w.first
          (subst (λ (b : ℕ). HasSide e (candidates e) nt nu (to k) (edge (new (old x)) b)) w.second (over-has k f (old x) (old y) g))

      go : InTwo d (candidates d) taken turned (edge (old x) (old y)) → InTwo e (candidates e) nt nu (edge x y)
      go t = by (dec_lt (to t.one) (to t.two))
        where
          only : (j : ℕ) → dig nt j ≡ true → HasSide e (candidates e) nt nu j (edge x y) → (j ≡ to t.one) ⊎ (j ≡ to t.two)
          only j f g = pick (t.only (of j) (face_of_lem j f) (under-has j f x y g))
            where
              pick : (of j ≡ t.one) ⊎ (of j ≡ t.two) → (j ≡ to t.one) ⊎ (j ≡ to t.two)
              pick (inl q) = inl (from j t.one f q)
              pick (inr q) = inr (from j t.two f q)

          apart : to t.one ≡ to t.two → t.one ≡ t.two
          apart q =
              sym (back_fwd r one two t.one (dig-below taken s.some t.one t.faces.0)) ∙ ap of q ∙ back_fwd r one two t.two
              (dig-below taken s.some t.two t.faces.1)

          by : Dec (to t.one < to t.two) → InTwo e (candidates e) nt nu (edge x y)
          by (yes l) = record {
            one = to t.one;
            two = to t.two;
            differ = l;
            faces = (face-to t.one t.faces.0, face-to t.two t.faces.1);
            have = (has t.one t.faces.0 t.have.0, has t.two t.faces.1 t.have.1);
            only = only;
          }
          by (no l) = record {
            one = to t.two;
            two = to t.one;
            differ = less (to t.one) (to t.two) l (λ q. different (apart q));
            faces = (face-to t.two t.faces.1, face-to t.one t.faces.0);
            have = (has t.two t.faces.1 t.have.1, has t.one t.faces.0 t.have.0);
            only = λ j f g. ⊎_swap (only j f g);
          }
            where
              different : t.one ≡ t.two → ⊥
              different q = omega (arith, t.differ)

              less : (a b : ℕ) → (a < b → ⊥) → (a ≡ b → ⊥) → b < a
              less a b l n = strict (dec_lt b a)
                where
                  strict : Dec (b < a) → b < a
                  strict (yes h) = h
                  strict (no h) = absurd (n (omega arith))

  -- (iii)
  once_over : (x y : ℕ) → EdgeOf e x y → RunOnce e (candidates e) nt nu x y
  once_over x y h =
      let w = ends x y h in
      let t = once_of d (candidates d) taken turned s (old x) (old y) w.here in
      record {
        by = to t.by;
        face = face-to t.by t.face;
        runs = subst (λ (a : ℕ). Runs e (candidates e) nt nu (to t.by) a y) w.first
            (subst (Runs e (candidates e) nt nu (to t.by) (new (old x))) w.second
            (over-run t.by t.face (old x) (old y) t.runs));
        only = λ j f g. from j t.by f (t.only (of j) (face_of_lem j f) (under-run j f x y g));
      }

  -- (ii)
  way_end : {j k : ℕ} → Way d (candidates d) taken turned j k → dig taken k ≡ true
  way_end (stay f) = f
  way_end (cross w i h p f q) = f

  step_over : (j k l : ℕ) → Way e (candidates e) nt nu (to j) (to k) → dig taken k ≡ true → dig taken l ≡ true
      → (i : ℕ) → i < length d.edges → HasSide d (candidates d) taken turned k (edge_at d i) → HasSide d (candidates d) taken turned l
      (edge_at d i)
      → Way e (candidates e) nt nu (to j) (to l)
  step_over j k l w f g i h p q = go (edge_at d i) refl p q
    where
      turn : (k x y : ℕ) → HasSide e (candidates e) nt nu k (edge x y) → HasSide e (candidates e) nt nu k (edge y x)
      turn k x y (inl z) = inr z
      turn k x y (inr z) = inl z

      by : (a b : ℕ) → EdgeOf e (new a) (new b) → HasSide d (candidates d) taken turned k (edge a b) → HasSide d (candidates d) taken turned l
          (edge a b)
          → Way e (candidates e) nt nu (to j) (to l)
      by a b (n, m, inl z) p q =
          cross w n m (subst (HasSide e (candidates e) nt nu (to k)) (sym z) (over-has k f a b p)) (face-to l g)
          (subst (HasSide e (candidates e) nt nu (to l)) (sym z) (over-has l g a b q))
      by a b (n, m, inr z) p q =
          cross w n m (subst (HasSide e (candidates e) nt nu (to k)) (sym z) (turn (to k) (new a) (new b) (over-has k f a b p))) (face-to l g)
          (subst (HasSide e (candidates e) nt nu (to l)) (sym z) (turn (to l) (new a) (new b) (over-has l g a b q)))

      go : (x : Edge) → edge_at d i ≡ x → HasSide d (candidates d) taken turned k x → HasSide d (candidates d) taken turned l x
          → Way e (candidates e) nt nu (to j) (to l)
      go (edge a b) z p q = by a b (edge-over r a b (i, h, inl z)) p q

  way-over : {j k : ℕ} → Way d (candidates d) taken turned j k → Way e (candidates e) nt nu (to j) (to k)
  way-over {j} (stay f) = stay (face-to j f)
  way-over {j} (cross {k = k} {l = l} w i h p f q) = step_over j k l (way-over w) (way_end w) f i h p q

  -- (v)
  ring-at : (j : ℕ) → dig nt j ≡ true → OneRing (polygon d (loop_at (candidates d) (of j))) (polygon e (loop_at (candidates e) j))
  ring-at j f =
      let h = dig-below taken s.some (of j) (face_of_lem j f) in
      subst (λ (q : Loop). OneRing (polygon d (loop_at (candidates d) (of j))) (polygon e q))
      (sym (fwd_at r one two (of j) h) ∙ ap (loop_at (candidates e)) (to_of j f))
      (one-over r one two (loop_at (candidates d) (of j)) (candidates_are d (of j) h).loop)

  -- (iv)
  six_same : six_of_faces e (candidates e) nt nu 0 (candidates e) ≡ six_of_faces d (candidates d) taken turned 0 (candidates d)
  six_same =
      faces_wide (candidates e) nt nu (λ l. face_six (polygon e l))
      ∙ ap (dot first)
      (sum_over (matched r one two) (λ k. in_way (dig taken k) (dig turned k) (wide (face_six (polygon d (loop_at (candidates d) k)))))
      (λ j. in_way (dig nt j) (dig nu j) (wide (face_six (polygon e (loop_at (candidates e) j)))))
      (λ k h. part_wide (dig nt (to k)) (dig nu (to k)) (face_six (polygon e (loop_at (candidates e) (to k))))
      ∙ ap wide (term_over r one two taken turned k h)
      ∙ sym (part_wide (dig taken k) (dig turned k) (face_six (polygon d (loop_at (candidates d) k))))))
      ∙ sym (faces_wide (candidates d) taken turned (λ l. face_six (polygon d l)))

  edge_here : (i : ℕ) → i < length e.edges → (x y : ℕ) → edge_at e i ≡ edge x y → EdgeOf e x y
  edge_here i h x y p = (i, h, inl p)

  pub solid-over : IsSolid e (candidates e) nt nu six
  solid-over = record {
    some = new_long r one two taken turned;
    within = new_within r one two taken turned;
    i = λ i h. at_two i h (edge_at e i) refl;
    ii = λ j k f g.
        subst (λ (a : ℕ). Way e (candidates e) nt nu a k) (to_of j f)
        (subst (Way e (candidates e) nt nu (to (of j))) (to_of k g) (way-over (s.ii (of j) (of k) (face_of_lem j f) (face_of_lem k g))));
    iii = λ i h. at_ways i h (edge_at e i) refl;
    iv = (six_same ∙ s.iv.0, s.iv.1);
    v = λ j k f g n.
        clash-ring (ring-at j f) (ring-at k g)
        ∙ s.v (of j) (of k) (face_of_lem j f) (face_of_lem k g) (λ q. n (from j (of k) f q ∙ to_of k g));
  }
    where
      at_two : (i : ℕ) → i < length e.edges → (x : Edge) → edge_at e i ≡ x → InTwo e (candidates e) nt nu (edge_at e i)
      at_two i h (edge x y) p = subst (InTwo e (candidates e) nt nu) (sym p) (two_over x y (edge_here i h x y p))

      at_ways : (i : ℕ) → i < length e.edges → (x : Edge) → edge_at e i ≡ x → EachWay e (candidates e) nt nu (edge_at e i)
      at_ways i h (edge x y) p =
          subst (EachWay e (candidates e) nt nu) (sym p)
          (once_over x y (edge_here i h x y p), once_over y x (edge_back e x y (edge_here i h x y p)))
