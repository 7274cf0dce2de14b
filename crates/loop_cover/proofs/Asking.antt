-- Edges of a set that are asked in turn: what is left of the set has the whole answer.
use mathlib.Core.Bool.{Bool, true, false, not, cond}
use mathlib.Core.List.{List, ◌∷◌}
use mathlib.Core.Path.{◌≡◌, sym, ap, subst, ◌∙◌}
use Prim.Native.Nat.{ℕ, ◌<◌}
use native.Mathlib.Omega.{arith}
use lib.Dec.{eqb}
use lib.IntN.{ℤ}
use lib.ListN.{length}
use Rattle.lists.proofs.Truth.{and_left}
use Rattle.sets.specs.Word.{dig, count, both, either, less, only}
use Rattle.sets.specs.Kinds.{Minus, First}
use Rattle.sets.specs.Sets.{wides, Wide}
use Rattle.sets.proofs.Digits.{dig-less}
use Rattle.sets.proofs.Sets.{wides_laws}
use Rattle.paper.specs.Drawing.{wire}
use Rattle.fast_tables.specs.Asked.{KnownEdges, holding, missing, asked_in_turn, free}
use Rattle.fast_tables.specs.Words.{ones}
use Rattle.fast_tables.proofs.Ones.{ones_none, ones-first, unheld-ones}
use Rattle.loop_cover.specs.declared.Asked.{Asked}
use Rattle.loop_cover.specs.Midpoints.{outside_of, EdgesOf, AskedIs, AskedOf, asked_now}

-- what is known, with other edges held
abbrev held_with : KnownEdges → List Bool → KnownEdges
held_with g h = record { held = h; outside = g.outside }

-- the lowest of the edges is asked next
next : (m : ℕ) (out : ℕ → Bool) (g : KnownEdges) {e : ℕ} {rest rest' : Wide} → First wides rest rest' e → {a : List Bool}
    → wides.Is rest a → ((i : ℕ) → dig a i ≡ true → i < m)
    → asked_in_turn out (ones m a) g
    ≡ cond (out e) (missing g e) (asked_in_turn out (ones m (less a (only e))) (holding g e))
unfolding asked_in_turn
next m out g p {a} i known =
    let some : count a ≡ 0 → ⊥ = λ z. omega (arith, p.some, wides_laws.size_is i) in
    ap (λ (es : List ℕ). asked_in_turn out es g) (ones-first m a some known)
    ∙ ap (λ (k : ℕ). asked_in_turn out (k ∷ ones m (less a (only k))) g) (sym (p.lowest.same a i))

module _ (xyz : List ℤ) (ends table : List ℕ) (k : ℕ) where
  -- held and rest are the sets of the edges that are known to be held and of those left
  pub record Left (mask : List Bool) (g : KnownEdges) (held rest : Wide) : Type 0 where
    pub held_now : List Bool
    pub held_is : wides.Is held held_now
    pub rest_now : List Bool
    pub rest_is : EdgesOf xyz ends rest rest_now
    pub same : asked_in_turn (outside_of xyz ends table k) (ones (length (wire xyz ends).edges) rest_now) (held_with g held_now)
        ≡ asked_now xyz ends table k mask g

  module _ (edges : Wide) (f : Asked) where
    -- so whatever the edges and what was asked before stand for
    abbrev pub Asking : Wide → Wide → Type 0
    Asking held rest = (mask : List Bool) (g : KnownEdges) → EdgesOf xyz ends edges mask → AskedIs f g → Left mask g held rest

    pub asking_start : {rest : Wide} → Minus wides edges f.held rest → Asking f.held rest
    asking_start d mask g w s = record {
      held_now = g.held;
      held_is = s.held_is;
      rest_now = less mask g.held;
      rest_is = record {
        is = d.same mask g.held w.is s.held_is;
        known = λ e h. w.known e (and_left (dig mask e) (not (dig g.held e)) (sym (dig-less mask g.held e) ∙ h));
      };
      same =
          ap (λ (es : List ℕ). asked_in_turn (outside_of xyz ends table k) es g)
          (sym (unheld-ones (length (wire xyz ends).edges) mask g));
    }

    module _ {held rest : Wide} (a : Asking held rest) where
      module _ {e : ℕ} {rest' : Wide} (p : First wides rest rest' e) where
        pub asking_edge : {mask : List Bool} {g : KnownEdges} → EdgesOf xyz ends edges mask → AskedIs f g
            → e < length (wire xyz ends).edges
        asking_edge {mask} {g} w s = let l = a mask g w s in l.rest_is.known e (p.lowest.there l.rest_now l.rest_is.is)

        -- what its answer makes of the whole answer
        asked : {b : Bool} → b ≡ outside_of xyz ends table k e → {mask : List Bool} {g : KnownEdges} (l : Left mask g held rest)
            → cond b (missing (held_with g l.held_now) e)
            (asked_in_turn (outside_of xyz ends table k) (ones (length (wire xyz ends).edges) (less l.rest_now (only e)))
            (holding (held_with g l.held_now) e))
            ≡ asked_now xyz ends table k mask g
        asked o {mask} {g} l =
            let m : ℕ = length (wire xyz ends).edges in
            let out : ℕ → Bool = outside_of xyz ends table k in
            let h : KnownEdges = held_with g l.held_now in
            ap (λ (b : Bool). cond b (missing h e) (asked_in_turn out (ones m (less l.rest_now (only e))) (holding h e))) o
            ∙ sym (next m out h p l.rest_is.is l.rest_is.known)
            ∙ l.same

        pub asking_hit : true ≡ outside_of xyz ends table k e → {outside : Wide}
            → ((x : List Bool) → wides.Is f.outside x → wides.Is outside (either x (only e)))
            → AskedOf xyz ends table k edges f (record { held = held; outside = outside })
        asking_hit o out mask g w s =
            let l = a mask g w s in
            subst (AskedIs _) (asked o l) (record { held_is = l.held_is; outside_is = out g.outside s.outside_is })

        pub asking_miss : false ≡ outside_of xyz ends table k e → {held' : Wide}
            → ((x : List Bool) → wides.Is held x → wides.Is held' (either x (only e)))
            → Asking held' rest'
        asking_miss o with' mask g w s =
            let l = a mask g w s in
            record {
              held_now = either l.held_now (only e);
              held_is = with' l.held_now l.held_is;
              rest_now = less l.rest_now (only e);
              rest_is = record {
                is = p.dropped.same l.rest_now l.rest_is.is;
                known = λ i d.
                    l.rest_is.known i
                    (and_left (dig l.rest_now i) (not (dig (only e) i)) (sym (dig-less l.rest_now (only e) i) ∙ d));
              };
              same = asked o l;
            }

      -- none is left
      pub asking_end : wides.size rest ≡ 0 → AskedOf xyz ends table k edges f (record { held = held; outside = f.outside })
      unfolding asked_in_turn
      asking_end z mask g w s =
          let l = a mask g w s in
          let none = ones_none (length (wire xyz ends).edges) l.rest_now (sym (wides_laws.size_is l.rest_is.is) ∙ z) in
          let e = sym (ap (λ (es : List ℕ). asked_in_turn (outside_of xyz ends table k) es (held_with g l.held_now)) none) ∙ l.same in
          subst (AskedIs _) e (record { held_is = l.held_is; outside_is = s.outside_is })

-- ---- no edge of a mask is known to be outside, where the set of those that are is empty
pub free_is : (mask : List Bool) (g : KnownEdges) {edges : Wide} {r : Bool} → r ≡ eqb (wides.size edges) 0
    → wides.Is edges (both mask g.outside)
    → r ≡ free mask g
free_is mask g e i = e ∙ ap (λ (n : ℕ). eqb n 0) (wides_laws.size_is i)
