-- A solid and what names it depend on the digits of its masks alone.
use mathlib.Core.Path.{◌≡◌, refl, sym, ap, ap₂, subst, ◌∙◌}
use mathlib.Core.Bool.{Bool, false, cond}
use mathlib.Core.List.{List, [], ◌∷◌}
use Prim.Native.Nat.{ℕ, suc}
use lib.IntN.{ℤ, ◌+ℤ◌}
use lib.ListN.{length}
use lib.Seq.{ext_get_or}
use Rattle.sets.specs.Word.{dig}
use Rattle.paper.specs.Drawing.{Wire, Edge, edge, edge_at}
use Rattle.paper.specs.Loops.{Loop, loop_at, polygon, flipped}
use Rattle.paper.specs.Solids.{face_six, part}
use Rattle.means_solid.specs.Solid.{Goes, Runs, InTwo, Way, stay, cross, RunOnce, EachWay, face_sum, six_of_faces, IsSolid}
use Rattle.means_solid.specs.Named.{SameRing, directed, Names}

module _ (d : Wire) (cs : List Loop) (taken t u : List Bool) (same : (k : ℕ) → dig t k ≡ dig u k) where
  runs_to : (k a b : ℕ) → Runs d cs taken t k a b → Runs d cs taken u k a b
  runs_to k a b r = subst (λ (x : Bool). cond x (Goes (loop_at cs k) b a) (Goes (loop_at cs k) a b)) (same k) r

  runs-from : (k a b : ℕ) → Runs d cs taken u k a b → Runs d cs taken t k a b
  runs-from k a b r = subst (λ (x : Bool). cond x (Goes (loop_at cs k) b a) (Goes (loop_at cs k) a b)) (sym (same k)) r

  once_to : (a b : ℕ) → RunOnce d cs taken t a b → RunOnce d cs taken u a b
  once_to a b r =
      record { by = r.by; face = r.face; runs = runs_to r.by a b r.runs; only = λ k f g. r.only k f (runs-from k a b g) }

  each_to : (e : Edge) → EachWay d cs taken t e → EachWay d cs taken u e
  each_to (edge a b) w = (once_to a b w.0, once_to b a w.1)

  two_to : (e : Edge) → InTwo d cs taken t e → InTwo d cs taken u e
  two_to e i = record { one = i.one; two = i.two; differ = i.differ; faces = i.faces; have = i.have; only = i.only }

  way-to : (j k : ℕ) → Way d cs taken t j k → Way d cs taken u j k
  way-to j k (stay f) = stay f
  way-to j k (cross {k = g} w e h p f q) = cross (way-to j g w) e h p f q

  six_to : (k : ℕ) (ls : List Loop) → six_of_faces d cs taken t k ls ≡ six_of_faces d cs taken u k ls
  unfolding face_sum
  six_to k [] = refl
  six_to k (x ∷ ls) = ap₂ (λ (w : Bool) (z : ℤ). part (dig taken k) w (face_six (polygon d x)) +ℤ z) (same k) (six_to (suc k) ls)

  pub solid-to : {six : ℕ} → IsSolid d cs taken t six → IsSolid d cs taken u six
  solid-to s = record {
    some = s.some;
    within = λ k e. s.within k (same k ∙ e);
    i = λ e h. two_to (edge_at d e) (s.i e h);
    ii = λ j k f g. way-to j k (s.ii j k f g);
    iii = λ e h. each_to (edge_at d e) (s.iii e h);
    iv = (sym (six_to 0 cs) ∙ s.iv.0, s.iv.1);
    v = s.v;
  }

  directed-to : (k : ℕ) → directed d cs taken t k ≡ directed d cs taken u k
  directed-to k = ap (λ (x : Bool). cond x (flipped (loop_at cs k)) (loop_at cs k)) (same k)

  pub names_to : {fs : List (List ℕ)} → Names d cs taken t fs → Names d cs taken u fs
  names_to {fs} n = record {
    each = λ i h. let r = n.each i h in (r.0, r.1, subst (λ (l : List ℕ). SameRing l (loop_at fs i)) (directed-to r.0) r.2);
    there = λ k f. let r = n.there k f in (r.0, r.1, subst (λ (l : List ℕ). SameRing l (loop_at fs r.0)) (directed-to k) r.2);
    once =
        λ i j k hi hj p q. n.once i j k hi hj (subst (λ (l : List ℕ). SameRing l (loop_at fs i)) (sym (directed-to k)) p)
        (subst (λ (l : List ℕ). SameRing l (loop_at fs j)) (sym (directed-to k)) q);
  }

-- two masks of one length with the same digits are one
pub row_same : (a b : List Bool) → length a ≡ length b → ((k : ℕ) → dig a k ≡ dig b k) → a ≡ b
row_same a b l h = ext_get_or false a b l (λ k q. h k)
