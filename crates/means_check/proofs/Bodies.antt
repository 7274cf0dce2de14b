-- What follows of demand 3: each solid is accepted, in any order and from any starts; no body but a solid is; and a list made from an
-- accepted one by turning, leaving out or doubling faces is refused.
use mathlib.Core.Path.{◌≡◌, refl, sym, ap, subst, ◌∙◌}
use mathlib.Core.Bool.{Bool, true, false, cond}
use mathlib.Core.Logic.{◌⊎◌, inl, inr}
use mathlib.Core.List.{List, [], map}
use Prim.Native.Nat.{ℕ, ◌<◌}
use native.Mathlib.Omega.{arith}
use native.Mathlib.Decide.{dec_lt}
use lib.ListN.{length, get_or, length-map, get_or-eq_default}
use Rattle.lists.specs.Lists.{filter, upto}
use Rattle.lists.proofs.Places.{map_at, upto_length, upto-at}
use Rattle.sets.specs.Word.{dig}
use Rattle.sets.proofs.Ones.{dig-below}
use Rattle.lists.proofs.Truth.{same_truth}
use Rattle.paper.specs.Refusals.{first_of, Fine}
use Rattle.paper.specs.Drawing.{Wire}
use Rattle.paper.specs.Loops.{Loop, loop_at, flipped}
use Rattle.paper.specs.Solids.{tables_of}
use Rattle.paper.specs.Verdict.{listed, face_checks}
use Rattle.means_solid.specs.Solid.{IsSolid}
use Rattle.means_check.specs.Candidates.{ProperCandidates}
use Rattle.means_solid.specs.Named.{SameRing, directed, Names}
use Rattle.means_check.specs.Sent.{face_list}
use Rattle.means_check.specs.Bodies.{Among, AmongEither, Singly, SameBody, OneSolid}
use Rattle.means_loops.proofs.Rings.{same_refl, same_sym, same_trans, same_length, flip-flip, flip_length, flip-same}
use Rattle.means_check.proofs.Numbered.{ring-number, either_number, not_both}
use Rattle.means_solid.proofs.Alike.{names_to, row_same}
use Rattle.means_masks.proofs.Judged.{one_solid}
use Rattle.means_check.proofs.Parts.{no_part}
use Rattle.means_check.proofs.Tests.{all_proper}
use Rattle.means_check.proofs.Accepting.{accepted_names, names_accepted}
use Rattle.means_loops.proofs.Kept.{filter_yes, filter_is}
use Rattle.means_check.proofs.Picked.{kept_once}

module _ (d : Wire) (cs : List Loop) (c : ProperCandidates d cs) where
  -- the list passes 21 to 27
  abbrev pub Fair : List Loop → Type 0
  Fair fs = Fine ≡ first_of (face_checks (tables_of d cs) (length cs) (listed cs fs))

  -- ---- each solid is accepted

  size : (b : Bool) (l : Loop) → length (cond b (flipped l) l) ≡ length l
  size true l = flip_length l
  size false l = refl

  pub face_list_names : (taken turned : List Bool) {six : ℕ} → IsSolid d cs taken turned six
      → Names d cs taken turned (face_list d cs taken turned)
  unfolding face_list upto
  face_list_names taken turned s = record {
    each =
        λ i h. (
          get_or ks i 0,
          face i (low i h),
          subst (SameRing (directed d cs taken turned (get_or ks i 0))) (sym (at i (low i h)))
              (same_refl (directed d cs taken turned (get_or ks i 0))),
        );
    there = λ k f.
        let l = dig-below taken s.some k f in
        let r = filter_is 0 (dig taken) (upto (length cs)) k (omega (arith, upto_length (length cs)))
        (ap (dig taken) (upto-at (length cs) k l) ∙ f) in
        let e : get_or ks r.0 0 ≡ k = r.2 ∙ upto-at (length cs) k l in (
          r.0,
          omega (arith, r.1, long),
          subst (SameRing (directed d cs taken turned k)) (sym (at r.0 r.1 ∙ ap (directed d cs taken turned) e))
              (same_refl (directed d cs taken turned k)),
        );
    once =
        λ i j k hi hj p q. kept_once (dig taken) (length cs) 0 i j (low i hi) (low j hj)
        (number i k (low i hi) p ∙ sym (number j k (low j hj) q));
  }
    where
      ks : List ℕ
      ks = filter (dig taken) (upto (length cs))

      long : length (map (directed d cs taken turned) (filter (dig taken) (upto (length cs)))) ≡ length
          (filter (dig taken) (upto (length cs)))
      long = length-map (filter (dig taken) (upto (length cs))) (directed d cs taken turned)

      low : (i : ℕ) → i < length (map (directed d cs taken turned) (filter (dig taken) (upto (length cs))))
          → i < length (filter (dig taken) (upto (length cs)))
      low i h = omega (arith, long)

      at : (i : ℕ) → i < length (filter (dig taken) (upto (length cs)))
          → loop_at (map (directed d cs taken turned) (filter (dig taken) (upto (length cs)))) i ≡ directed d cs taken turned
          (get_or (filter (dig taken) (upto (length cs))) i 0)
      at i h = map_at (directed d cs taken turned) (filter (dig taken) (upto (length cs))) i 0 [] h

      face : (i : ℕ) → i < length (filter (dig taken) (upto (length cs)))
          → dig taken (get_or (filter (dig taken) (upto (length cs))) i 0) ≡ true
      face i h = let r = filter_yes 0 (dig taken) (upto (length cs)) i h in ap (dig taken) (sym r.2) ∙ r.3

      -- only its own candidate is face i's ring
      number : (i k : ℕ) → i < length (filter (dig taken) (upto (length cs)))
          → SameRing (directed d cs taken turned k) (loop_at (map (directed d cs taken turned) (filter (dig taken) (upto (length cs)))) i)
          → get_or (filter (dig taken) (upto (length cs))) i 0 ≡ k
      number i k h p = go (dec_lt k (length cs))
        where
          m : get_or (filter (dig taken) (upto (length cs))) i 0 < length cs
          m = dig-below taken s.some (get_or (filter (dig taken) (upto (length cs))) i 0) (face i h)

          q : SameRing (directed d cs taken turned k) (directed d cs taken turned (get_or (filter (dig taken) (upto (length cs))) i 0))
          q = subst (SameRing (directed d cs taken turned k)) (at i h) p

          go : Dec (k < length cs) → get_or (filter (dig taken) (upto (length cs))) i 0 ≡ k
          go (yes l) =
              sym
              (ring-number d cs c taken turned (get_or (filter (dig taken) (upto (length cs))) i 0)
              (directed d cs taken turned (get_or (filter (dig taken) (upto (length cs))) i 0)) m
              (same_refl (directed d cs taken turned (get_or (filter (dig taken) (upto (length cs))) i 0)))).0
              ∙ (ring-number d cs c taken turned k (directed d cs taken turned (get_or (filter (dig taken) (upto (length cs))) i 0)) l q).0
          go (no l) =
              let z : length (loop_at cs k) ≡ 0 = ap length (get_or-eq_default cs [] (omega arith)) in
              let w = (c.normal (get_or (filter (dig taken) (upto (length cs))) i 0) m).three in
              absurd
              (omega (
                arith,
                same_length q,
                size (dig turned k) (loop_at cs k),
                size (dig turned (get_or (filter (dig taken) (upto (length cs))) i 0))
                    (loop_at cs (get_or (filter (dig taken) (upto (length cs))) i 0)),
              ))

  pub solid-accepted : (taken turned : List Bool) (six : ℕ) → IsSolid d cs taken turned six → (fs : List Loop)
      → Names d cs taken turned fs
      → Fair fs
  solid-accepted taken turned six s fs n =
      names_accepted d cs fs c (record { taken = taken; turned = turned; six = six; solid = s; names = n })

  -- each solid has such a list
  pub each_solid : (taken turned : List Bool) (six : ℕ) → IsSolid d cs taken turned six → Fair (face_list d cs taken turned)
  each_solid taken turned six s = solid-accepted taken turned six s (face_list d cs taken turned) (face_list_names taken turned s)

  -- ---- lists that name the same solid are the same body, and the same body, with no face twice, names the same solid

  module _ (taken turned : List Bool) (fs gs : List Loop) (n : Names d cs taken turned fs) where
    among_named : Names d cs taken turned gs → Among fs gs
    among_named m i h =
        let r = m.each i h in
        let q = n.there r.0 r.1 in
        (q.0, q.1, same_trans (same_sym q.2) r.2)

    -- in any order of faces and from any starting corners
    pub names_again : SameBody fs gs → Singly gs → Names d cs taken turned gs
    names_again b y = record {
      each = λ i h. let r = b.0 i h in let q = n.each r.0 r.1 in (q.0, q.1, same_trans q.2 r.2);
      there = λ k f. let q = n.there k f in let r = b.1 q.0 q.1 in (r.0, r.1, same_trans q.2 (same_sym r.2));
      once = λ i j k hi hj p q. y i j hi hj (same_trans (same_sym p) q);
    }

  pub same_named : (taken turned : List Bool) (fs gs : List Loop) → Names d cs taken turned fs → Names d cs taken turned gs
      → SameBody fs gs
  same_named taken turned fs gs n m = (among_named taken turned fs gs n m, among_named taken turned gs fs m n)

  -- no face of an accepted list stands twice
  pub named_singly : (taken turned : List Bool) (fs : List Loop) → Names d cs taken turned fs → Singly fs
  named_singly taken turned fs n i j hi hj p = let r = n.each i hi in n.once i j r.0 hi hj r.2 (same_trans r.2 p)

  pub accepted_singly : (fs : List Loop) → Fair fs → Singly fs
  accepted_singly fs a = let w = accepted_names d cs fs c a in named_singly w.taken w.turned fs w.names

  -- an accepted list in another order and from other starts is accepted
  pub accepted-again : (fs gs : List Loop) → Fair fs → SameBody fs gs → Singly gs → Fair gs
  accepted-again fs gs a b y =
      let w = accepted_names d cs fs c a in
      solid-accepted w.taken w.turned w.six w.solid gs (names_again w.taken w.turned fs gs w.names b y)

  -- a solid's masks are told by their digits
  rows_named : (taken turned taken' turned' : List Bool) {six six' : ℕ} → IsSolid d cs taken turned six → IsSolid d cs taken' turned' six'
      → ((k : ℕ) → dig taken k ≡ dig taken' k) → ((k : ℕ) → dig turned k ≡ dig turned' k) → (gs : List Loop)
      → Names d cs taken' turned' gs
      → Names d cs taken turned gs
  rows_named taken turned taken' turned' s r a b gs m =
      let e : taken' ≡ taken = row_same taken' taken (r.some ∙ sym s.some) (λ k. sym (a k)) in
      names_to d cs taken turned' turned (λ k. sym (b k)) (subst (λ (x : List Bool). Names d cs x turned' gs) e m)

  -- "with n = 1 any two accepted lists are the same body"
  pub one_body : OneSolid d cs → (fs gs : List Loop) → Fair fs → Fair gs → SameBody fs gs
  one_body one fs gs a b =
      let w = accepted_names d cs fs c a in
      let v = accepted_names d cs gs c b in
      let e = one w.taken w.turned v.taken v.turned w.six v.six w.solid v.solid in
      same_named w.taken w.turned fs gs w.names
      (rows_named w.taken w.turned v.taken v.turned w.solid v.solid e.0 e.1 gs v.names)

  -- ---- turned, left out, doubled

  -- a candidate's ring in a direction, and the other way round
  one_way : (k : ℕ) (f : Loop) (b : Bool) → SameRing (cond b (flipped (loop_at cs k)) (loop_at cs k)) f
      → SameRing (loop_at cs k) f ⊎ SameRing (flipped (loop_at cs k)) f
  one_way k f true s = inr s
  one_way k f false s = inl s

  other_way : (k : ℕ) (f : Loop) (b : Bool) → SameRing (flipped (cond b (flipped (loop_at cs k)) (loop_at cs k))) f
      → SameRing (loop_at cs k) f ⊎ SameRing (flipped (loop_at cs k)) f
  other_way k f true s = inl (subst (λ (l : Loop). SameRing l f) (flip-flip (loop_at cs k)) s)
  other_way k f false s = inr s

  not_both_ways : (k : ℕ) (f : Loop) → k < length cs → (b : Bool) → SameRing (cond b (flipped (loop_at cs k)) (loop_at cs k)) f
      → SameRing (flipped (cond b (flipped (loop_at cs k)) (loop_at cs k))) f → ⊥
  not_both_ways k f h true p q = not_both d cs c k f h (subst (λ (l : Loop). SameRing l f) (flip-flip (loop_at cs k)) q) p
  not_both_ways k f h false p q = not_both d cs c k f h p q

  -- faces that are one ring, one way or the other, are one candidate
  one_number : (taken turned taken' turned' : List Bool) (f g : Loop) (j k : ℕ) → j < length cs → k < length cs
      → SameRing (directed d cs taken turned j) f → SameRing (directed d cs taken' turned' k) g
      → SameRing f g ⊎ SameRing (flipped f) g → j ≡ k
  one_number taken turned taken' turned' f g j k hj hk p q (inl s) =
      sym (either_number d cs c j g hj (one_way j g (dig turned j) (same_trans p s)))
      ∙ either_number d cs c k g hk (one_way k g (dig turned' k) q)
  one_number taken turned taken' turned' f g j k hj hk p q (inr s) =
      sym (either_number d cs c j g hj (other_way j g (dig turned j) (same_trans (flip-same p) s)))
      ∙ either_number d cs c k g hk (one_way k g (dig turned' k) q)

  -- an accepted list whose faces are all of another's, one way or the other, is the same body: so what comes of an accepted list by
  -- turning
  -- or leaving out faces is refused
  pub part_body : (fs gs : List Loop) → Fair fs → Fair gs → AmongEither fs gs → SameBody fs gs
  part_body fs gs a b m =
      let w = accepted_names d cs fs c a in
      let v = accepted_names d cs gs c b in
      go w.taken w.turned v.taken v.turned w.solid v.solid w.names v.names
    where
      go : (taken turned taken' turned' : List Bool) {six six' : ℕ} → IsSolid d cs taken turned six → IsSolid d cs taken' turned' six'
          → Names d cs taken turned fs → Names d cs taken' turned' gs → SameBody fs gs
      go taken turned taken' turned' {six} {six'} s r n o =
          let sub : (k : ℕ) → dig taken' k ≡ true → dig taken k ≡ true = λ k f.
          let q = o.there k f in
          let x = m q.0 q.1 in
          let y = n.each x.0 x.1 in
          let e : y.0 ≡ k = one_number taken turned taken' turned' (loop_at fs x.0) (loop_at gs q.0) y.0 k
          (dig-below taken s.some y.0 y.1) (dig-below taken' r.some k f) y.2 q.2 x.2 in
          subst (λ (z : ℕ). dig taken z ≡ true) e y.1 in
          let back = no_part d cs taken turned taken' turned' s r sub in
          let same : (k : ℕ) → dig taken k ≡ dig taken' k = λ k. same_truth (dig taken k) (dig taken' k) (back k) (sub k) in
          let e : taken' ≡ taken = row_same taken' taken (r.some ∙ sym s.some) (λ k. sym (same k)) in
          let t : IsSolid d cs taken turned' six' = subst (λ (x : List Bool). IsSolid d cs x turned' six') e r in
          same_named taken turned fs gs n
          (rows_named taken turned taken' turned' s r same (one_solid d cs (all_proper c) c.even taken s.some s t).0 gs o)

  -- a list with some face turned is refused
  pub turned_refused : (fs gs : List Loop) → Fair fs → AmongEither fs gs → (i j : ℕ) → i < length gs → j < length fs
      → SameRing (flipped (loop_at fs j)) (loop_at gs i) → Fair gs → ⊥
  turned_refused fs gs a m i j hi hj s b =
      let w = accepted_names d cs fs c a in
      let bd = part_body fs gs a b m in
      let x = bd.0 i hi in
      let n = w.names in
      let p = n.each j hj in
      let q = n.each x.0 x.1 in
      let pl = dig-below w.taken w.solid.some p.0 p.1 in
      let ql = dig-below w.taken w.solid.some q.0 q.1 in
      let e : p.0 ≡ q.0 = one_number w.taken w.turned w.taken w.turned (loop_at fs j) (loop_at gs i) p.0 q.0 pl ql
      p.2
      (same_trans q.2 x.2) (inr s) in
      -- so face j of fs is the ring of gs i as well as its reverse
      let y : SameRing (directed d cs w.taken w.turned p.0) (loop_at gs i) = subst
      (λ (k : ℕ). SameRing (directed d cs w.taken w.turned k) (loop_at gs i)) (sym e) (same_trans q.2 x.2) in
      not_both_ways p.0 (loop_at gs i) pl (dig w.turned p.0) y (same_trans (flip-same p.2) s)

  -- a list with a face left out is refused
  pub missing-refused : (fs gs : List Loop) → Fair fs → AmongEither fs gs → (j : ℕ) → j < length fs
      → ((i : ℕ) → i < length gs → SameRing (loop_at fs j) (loop_at gs i) → ⊥) → Fair gs → ⊥
  missing-refused fs gs a m j hj n b = let r = (part_body fs gs a b m).1 j hj in n r.0 r.1 (same_sym r.2)

  -- a list with a face doubled is refused
  pub doubled_refused : (gs : List Loop) (i j : ℕ) → i < length gs → j < length gs → (i ≡ j → ⊥) → SameRing (loop_at gs i) (loop_at gs j)
      → Fair gs → ⊥
  doubled_refused gs i j hi hj n s b = n (accepted_singly gs b i j hi hj s)
