-- A solid has at least four faces: with fewer, some vertex is on all of them, and there is no volume.
use mathlib.Core.Path.{◌≡◌, refl, sym, ap, subst, ◌∙◌}
use mathlib.Core.Bool.{Bool, true, false}
use mathlib.Core.Logic.{◌⊎◌, inl, inr}
use mathlib.Core.List.{List}
use Prim.Native.Nat.{ℕ, suc, ◌≤◌, ◌<◌}
use native.Mathlib.Omega.{arith}
use native.Mathlib.Decide.{dec_lt, ℕ_discrete}
use lib.ListN.{length, get_or}
use Rattle.lists.specs.Around.{wrap, around}
use Rattle.lists.proofs.Sides.{wrap_low}
use Rattle.sets.specs.Word.{dig, count, first, less, only}
use Rattle.sets.proofs.Digits.{never, count-only, count_none, first_in, left_in, left_out}
use Rattle.sets.proofs.Ones.{dig-below}
use Rattle.paper.specs.Drawing.{Wire, edge, edge_at}
use Rattle.paper.specs.Loops.{Loop, loop_at}
use Rattle.paper.specs.Solids.{has}
use Rattle.means_solid.specs.Solid.{HasSide, Way, stay, cross, IsSolid}
use Rattle.means_loops.specs.Path.{ClosedPath}
use Rattle.means_solid.proofs.Goes.{has_cases, cases_has, around-at, wrap-next}
use Rattle.means_check.proofs.Parts.{some_face}
use Rattle.means_check.proofs.Volume.{no_volume}
use Rattle.means_check.proofs.Shared.{turn, Beside, own, beside_start, beside_end, Other, other, shared}

module _ (d : Wire) (cs : List Loop) (taken turned : List Bool) (paths : (k : ℕ) → k < length cs → ClosedPath d (loop_at cs k)) {six : ℕ}
    (s : IsSolid d cs taken turned six) where
  -- ---- three faces: one of them shares edges with both others

  three : (q z c : ℕ) → dig taken q ≡ true → dig taken z ≡ true → dig taken c ≡ true → (z ≡ q → ⊥) → (z ≡ c → ⊥)
      → ((k : ℕ) → dig taken k ≡ true → (k ≡ q) ⊎ ((k ≡ z) ⊎ (k ≡ c)))
      → (i : ℕ) → i < length (loop_at cs q) → Beside d cs taken turned paths s q i z → (j : ℕ) → j < length (loop_at cs q)
      → Beside d cs taken turned paths s q j c → (c ≡ q → ⊥) → ⊥
  three q z c fq fz fc zq zc all i hi bi j hj bj cq = found (turn p (length (loop_at cs q)) i j hi hj (yes_at i bi) not_at)
    where
      p : ℕ → Bool
      p m = has (edge (around (loop_at cs q) m 0) (around (loop_at cs q) (suc m) 0)) (loop_at cs z)

      yes_at : (m : ℕ) → Beside d cs taken turned paths s q m z
          → has (edge (around (loop_at cs q) m 0) (around (loop_at cs q) (suc m) 0)) (loop_at cs z) ≡ true
      yes_at m b = cases_has (around (loop_at cs q) m 0) (around (loop_at cs q) (suc m) 0) (loop_at cs z) b

      at_yes : (m : ℕ) → has (edge (around (loop_at cs q) m 0) (around (loop_at cs q) (suc m) 0)) (loop_at cs z) ≡ true
          → Beside d cs taken turned paths s q m z
      at_yes m e = has_cases (around (loop_at cs q) m 0) (around (loop_at cs q) (suc m) 0) (loop_at cs z) e

      -- a side that c has is not z's
      not_at : has (edge (around (loop_at cs q) j 0) (around (loop_at cs q) (suc j) 0)) (loop_at cs z) ≡ false
      not_at = go (has (edge (around (loop_at cs q) j 0) (around (loop_at cs q) (suc j) 0)) (loop_at cs z)) refl
        where
          go : (b : Bool) → has (edge (around (loop_at cs q) j 0) (around (loop_at cs q) (suc j) 0)) (loop_at cs z) ≡ b → b ≡ false
          go false e = refl
          go true e = absurd (by (other d cs taken turned paths s q j fq hj))
            where
              by : Other d cs taken turned paths s q j → ⊥
              by o = pick (o.no_more z fz (at_yes j e)) (o.no_more c fc bj)
                where
                  pick : (z ≡ q) ⊎ (z ≡ o.face) → (c ≡ q) ⊎ (c ≡ o.face) → ⊥
                  pick (inl x) y = zq x
                  pick (inr x) (inl y) = cq y
                  pick (inr x) (inr y) = zc (x ∙ sym y)

      found : (k : ℕ) × (k < length (loop_at cs q))
          × (has (edge (around (loop_at cs q) k 0) (around (loop_at cs q) (suc k) 0)) (loop_at cs z) ≡ true)
          × (has
          (edge (around (loop_at cs q) (wrap (length (loop_at cs q)) (suc k)) 0)
          (around (loop_at cs q) (suc (wrap (length (loop_at cs q)) (suc k))) 0)) (loop_at cs z) ≡ false) → ⊥
      found (k, hk, yk, nk) = no_volume d cs taken turned paths s u (λ m f. on m (all m f))
        where
          low : wrap (length (loop_at cs q)) (suc k) < length (loop_at cs q)
          low = by (wrap-next (length (loop_at cs q)) k hk)
            where
              by : ((suc k < length (loop_at cs q)) × (wrap (length (loop_at cs q)) (suc k) ≡ suc k))
                  ⊎ ((suc k ≡ length (loop_at cs q)) × (wrap (length (loop_at cs q)) (suc k) ≡ 0))
                  → wrap (length (loop_at cs q)) (suc k) < length (loop_at cs q)
              by (inl (x, y)) = omega arith
              by (inr (x, y)) = omega arith

          u : ℕ
          u = around (loop_at cs q) (suc k) 0

          same : around (loop_at cs q) (wrap (length (loop_at cs q)) (suc k)) 0 ≡ around (loop_at cs q) (suc k) 0
          same =
              around-at (loop_at cs q) (wrap (length (loop_at cs q)) (suc k))
              ∙ ap (λ (m : ℕ). get_or (loop_at cs q) m 0) (wrap_low (length (loop_at cs q)) (wrap (length (loop_at cs q)) (suc k)) low)
              ∙ sym (around-at (loop_at cs q) (suc k))

          -- the next side is c's
          next_c : Beside d cs taken turned paths s q (wrap (length (loop_at cs q)) (suc k)) c
          next_c = by (other d cs taken turned paths s q (wrap (length (loop_at cs q)) (suc k)) fq low)
            where
              by : Other d cs taken turned paths s q (wrap (length (loop_at cs q)) (suc k))
                  → Beside d cs taken turned paths s q (wrap (length (loop_at cs q)) (suc k)) c
              by o = pick (all o.face o.taken_too)
                where
                  pick : (o.face ≡ q) ⊎ ((o.face ≡ z) ⊎ (o.face ≡ c))
                      → Beside d cs taken turned paths s q (wrap (length (loop_at cs q)) (suc k)) c
                  pick (inl x) = absurd (o.another x)
                  pick (inr (inl x)) =
                      never
                      (sym
                      (yes_at (wrap (length (loop_at cs q)) (suc k))
                      (subst (Beside d cs taken turned paths s q (wrap (length (loop_at cs q)) (suc k))) x o.beside))
                      ∙ nk)
                  pick (inr (inr x)) = subst (Beside d cs taken turned paths s q (wrap (length (loop_at cs q)) (suc k))) x o.beside

          on : (m : ℕ) → (m ≡ q) ⊎ ((m ≡ z) ⊎ (m ≡ c))
              → (n : ℕ) × (n < length (loop_at cs m)) × (get_or (loop_at cs m) n 0 ≡ around (loop_at cs q) (suc k) 0)
          on m (inl x) =
              subst (λ (y : ℕ). (n : ℕ) × (n < length (loop_at cs y)) × (get_or (loop_at cs y) n 0 ≡ around (loop_at cs q) (suc k) 0)) (sym x)
              (beside_end d cs taken turned paths s q k q (own d cs taken turned paths s q k hk))
          on m (inr (inl x)) =
              subst (λ (y : ℕ). (n : ℕ) × (n < length (loop_at cs y)) × (get_or (loop_at cs y) n 0 ≡ around (loop_at cs q) (suc k) 0)) (sym x)
              (beside_end d cs taken turned paths s q k z (at_yes k yk))
          on m (inr (inr x)) =
              let r = beside_start d cs taken turned paths s q (wrap (length (loop_at cs q)) (suc k)) c next_c in
              subst (λ (y : ℕ). (n : ℕ) × (n < length (loop_at cs y)) × (get_or (loop_at cs y) n 0 ≡ around (loop_at cs q) (suc k) 0)) (sym x)
              (r.0, r.1, r.2 ∙ same)

  -- ---- the faces, where there are fewer than four

  -- a way to c comes to it from another face
  enters : (a c : ℕ) → (a ≡ c → ⊥) → (k : ℕ) → Way d cs taken turned a k → k ≡ c → (g : ℕ) × (g ≡ c → ⊥) × (dig taken g ≡ true)
      × ((e : ℕ) × (e < length d.edges) × HasSide d cs taken turned g (edge_at d e) × HasSide d cs taken turned c (edge_at d e))
  enters a c n k (stay f) z = absurd (n z)
  enters a c n k (cross {k = g} w e h p f q) z = go (ℕ_discrete g c) (enters a c n g w)
    where
      face_of_lem : {j k : ℕ} → Way d cs taken turned j k → dig taken k ≡ true
      face_of_lem (stay f) = f
      face_of_lem (cross y e h p f q) = f

      go : Dec (g ≡ c)
          → (g ≡ c → (g : ℕ) × (g ≡ c → ⊥) × (dig taken g ≡ true)
          × ((e : ℕ) × (e < length d.edges) × HasSide d cs taken turned g (edge_at d e) × HasSide d cs taken turned c (edge_at d e)))
          → (g : ℕ) × (g ≡ c → ⊥) × (dig taken g ≡ true)
          × ((e : ℕ) × (e < length d.edges) × HasSide d cs taken turned g (edge_at d e) × HasSide d cs taken turned c (edge_at d e))
      go (yes y) r = r y
      go (no y) r = (g, y, face_of_lem w, (e, h, p, subst (λ (m : ℕ). HasSide d cs taken turned m (edge_at d e)) z q))

  pub four_faces : 4 ≤ count taken
  four_faces = go (dec_lt (count taken) 4)
    where
      fewer : count taken < 4 → ⊥
      fewer few =
          let f = some_face d cs taken turned s in
          let ha : 0 < length (loop_at cs f.0) = let t = (paths f.0 (dig-below taken s.some f.0 f.1)).three in
          omega arith in
          let o = other d cs taken turned paths s f.0 0 f.1 ha in
          third f.0 f.1 ha o.face o.taken_too o.another o.beside
          (ℕ_discrete (count (less (less taken (only f.0)) (only o.face))) 0)
        where
          third : (a : ℕ) → dig taken a ≡ true → 0 < length (loop_at cs a) → (b : ℕ) → dig taken b ≡ true → (b ≡ a → ⊥)
              → Beside d cs taken turned paths s a 0 b
              → Dec (count (less (less taken (only a)) (only b)) ≡ 0) → ⊥
          third a fa ha b fb n bs (yes e) =
              no_volume d cs taken turned paths s (around (loop_at cs a) 0 0)
              (λ k f. on k (only_two k f (ℕ_discrete k a) (ℕ_discrete k b)))
            where
              only_two : (k : ℕ) → dig taken k ≡ true → Dec (k ≡ a) → Dec (k ≡ b) → (k ≡ a) ⊎ (k ≡ b)
              only_two k f (yes x) y = inl x
              only_two k f (no x) (yes y) = inr y
              only_two k f (no x) (no y) =
                  absurd
                  (count_none (less (less taken (only a)) (only b)) e k (left_in (less taken (only a)) b k (left_in taken a k f x) y))

              on : (k : ℕ) → (k ≡ a) ⊎ (k ≡ b)
                  → (i : ℕ) × (i < length (loop_at cs k)) × (get_or (loop_at cs k) i 0 ≡ around (loop_at cs a) 0 0)
              on k (inl x) =
                  subst (λ (y : ℕ). (i : ℕ) × (i < length (loop_at cs y)) × (get_or (loop_at cs y) i 0 ≡ around (loop_at cs a) 0 0)) (sym x)
                  (beside_start d cs taken turned paths s a 0 a (own d cs taken turned paths s a 0 ha))
              on k (inr x) =
                  subst (λ (y : ℕ). (i : ℕ) × (i < length (loop_at cs y)) × (get_or (loop_at cs y) i 0 ≡ around (loop_at cs a) 0 0)) (sym x)
                  (beside_start d cs taken turned paths s a 0 b bs)
          third a fa ha b fb n bs (no e) =
              let hc = first_in (less (less taken (only a)) (only b)) e in
              let u = left_out (less taken (only a)) b (first (less (less taken (only a)) (only b))) hc in
              let w = left_out taken a (first (less (less taken (only a)) (only b))) u.0 in
              last (first (less (less taken (only a)) (only b))) w.0 w.1 u.1
              (λ k f. only-three (first (less (less taken (only a)) (only b))) hc k f (ℕ_discrete k a) (ℕ_discrete k b)
              (ℕ_discrete k (first (less (less taken (only a)) (only b)))))
            where
              only-three : (c : ℕ) → dig (less (less taken (only a)) (only b)) c ≡ true → (k : ℕ) → dig taken k ≡ true → Dec (k ≡ a)
                  → Dec (k ≡ b) → Dec (k ≡ c) → (k ≡ a) ⊎ ((k ≡ b) ⊎ (k ≡ c))
              only-three c hc k f (yes x) y z = inl x
              only-three c hc k f (no x) (yes y) z = inr (inl y)
              only-three c hc k f (no x) (no y) (yes z) = inr (inr z)
              only-three c hc k f (no x) (no y) (no z) =
                  let p1 = count-only taken a fa in
                  let hb = left_in taken a b fb n in
                  let p2 = count-only (less taken (only a)) b hb in
                  let p3 = count-only (less (less taken (only a)) (only b)) c hc in
                  let hk = left_in (less (less taken (only a)) (only b)) c k (left_in (less taken (only a)) b k (left_in taken a k f x) y)
                  z in
                  let p4 = count-only (less (less (less taken (only a)) (only b)) (only c)) k hk in
                  absurd (omega arith)

              last : (c : ℕ) → dig taken c ≡ true → (c ≡ a → ⊥) → (c ≡ b → ⊥)
                  → ((k : ℕ) → dig taken k ≡ true → (k ≡ a) ⊎ ((k ≡ b) ⊎ (k ≡ c))) → ⊥
              last c fc ca cb all =
                  let g = enters a c (λ x. ca (sym x)) c (s.ii a c fa fc) refl in
                  pick g.0 g.1 g.3 (all g.0 g.2)
                where
                  pick : (g : ℕ) → (g ≡ c → ⊥)
                      → ((e : ℕ) × (e < length d.edges) × HasSide d cs taken turned g (edge_at d e) × HasSide d cs taken turned c (edge_at d e))
                      → (g ≡ a) ⊎ ((g ≡ b) ⊎ (g ≡ c)) → ⊥
                  pick g gc (e, h, p, q) (inl x) =
                      let r = shared d cs taken turned paths s (edge_at d e) a c
                      (subst (λ (m : ℕ). HasSide d cs taken turned m (edge_at d e)) x p) q in
                      three a b c fa fb fc n (λ y. cb (sym y)) all 0 ha bs r.0 r.1 r.2 ca
                  pick g gc (e, h, p, q) (inr (inl x)) =
                      let r = shared d cs taken turned paths s (edge_at d e) b c
                      (subst (λ (m : ℕ). HasSide d cs taken turned m (edge_at d e)) x p) q in
                      let t = flip bs in
                      three b a c fb fa fc (λ y. n (sym y)) (λ y. ca (sym y)) (λ k f. turn-all (all k f)) t.0 t.1 t.2 r.0
                      r.1
                      r.2 cb
                    where
                      turn-all : {k : ℕ} → (k ≡ a) ⊎ ((k ≡ b) ⊎ (k ≡ c)) → (k ≡ b) ⊎ ((k ≡ a) ⊎ (k ≡ c))
                      turn-all (inl y) = inr (inl y)
                      turn-all (inr (inl y)) = inl y
                      turn-all (inr (inr y)) = inr (inr y)

                      flip : Beside d cs taken turned paths s a 0 b
                          → (i : ℕ) × (i < length (loop_at cs b)) × Beside d cs taken turned paths s b i a
                      flip w =
                          shared d cs taken turned paths s (edge (around (loop_at cs a) 0 0) (around (loop_at cs a) 1 0)) b a w
                          (own d cs taken turned paths s a 0 ha)
                  pick g gc w (inr (inr x)) = gc x

      go : Dec (count taken < 4) → 4 ≤ count taken
      go (yes l) = absurd (fewer l)
      go (no l) = omega arith
