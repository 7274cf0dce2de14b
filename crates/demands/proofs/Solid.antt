-- A solid, cover and candidates in words are those of the tests.
use mathlib.Core.Path.{◌≡◌, refl, sym, subst}
use mathlib.Core.Bool.{Bool, true, false, not, ◌&&◌}
use mathlib.Core.Logic.{◌⊎◌, inl, inr}
use mathlib.Core.Option.{none}
use mathlib.Core.List.{List}
use Prim.Native.Nat.{ℕ, ◌+◌, ◌<◌}
use native.Mathlib.Omega.{arith}
use lib.IntN.{pos}
use lib.ListN.{length}
use Rattle.lists.specs.Lists.{all, sides}
use Rattle.lists.proofs.Passing.{all_yes, all_is}
use Rattle.lists.proofs.Sides.{sides_length, sides-at}
use Rattle.lists.proofs.Truth.{never_true}
use Rattle.sets.specs.Word.{dig}
use Rattle.sets.proofs.Ones.{dig-below}
use Rattle.paper.specs.Points.{origin}
use Rattle.paper.specs.Polygon.{Polygon, Ratio, over, midpoint, one_plane, lies, is_outside, covers}
use Rattle.paper.specs.Drawing.{Wire, same_place}
use Rattle.paper.specs.Loops.{Loop, loop_at, polygon, candidates}
use Rattle.paper.specs.Clash.{clash}
use Rattle.paper.specs.declared.Where.{Where}
use Rattle.paper.specs.declared.Where.TheVariants.{Outside, Border, Inside}
use Rattle.means_solid.specs.Solid.{IsSolid}
use Rattle.means_solid.proofs.Alike.{names_to}
use Rattle.means_loops.specs.Loop.{IsLoop, IsCandidate}
use Rattle.means_loops.proofs.Listing.{candidates_proper, loop_normal}
use Rattle.means_loops.proofs.Paths.{normal_loop, loop_path}
use Rattle.means_loops.proofs.Lowest.{on_normal}
use Rattle.means_loops.proofs.Rings.{same_refl}
use Rattle.means_report.specs.Listed.{Entry, EverySolidOnce}
use Rattle.means_check.specs.Accepts.{NamesSolid}
use Rattle.means_clash.specs.Clash.{ClashOf, corner_at}
use Rattle.demands.specs.Cover.{LoopOf, Covers, CandidateOf}
use Rattle.demands.specs.Solid.{Solid, Every, NamesOne}
use Rattle.paper_laws.proofs.Tests.{Is, is_off, is_and, is_to}
use Rattle.means_clash.proofs.Words.{two_corners, is_clash, is_plane}

-- ---- solids

module _ (d : Wire) where
  is_at : (taken : List Bool) → length taken ≡ length (candidates d) → (j k : ℕ) → dig taken j ≡ true → dig taken k ≡ true
      → Is (clash (polygon d (loop_at (candidates d) j)) (polygon d (loop_at (candidates d) k)))
      (ClashOf (polygon d (loop_at (candidates d) j)) (polygon d (loop_at (candidates d) k)))
  is_at taken s j k hj hk =
      is_clash (polygon d (loop_at (candidates d) j)) (polygon d (loop_at (candidates d) k))
      (two_corners d (loop_at (candidates d) j) (candidates_proper d j (dig-below taken s j hj)).three)
      (two_corners d (loop_at (candidates d) k) (candidates_proper d k (dig-below taken s k hk)).three)

  module _ {taken turned : List Bool} {six : ℕ} where
    pub of_words : Solid d (candidates d) taken turned six → IsSolid d (candidates d) taken turned six
    of_words s = record {
      some = s.set;
      within = s.within;
      i = s.i;
      ii = s.ii;
      iii = s.iii;
      iv = s.iv;
      v = λ j k hj hk n. never_true (clash (polygon d (loop_at (candidates d) j)) (polygon d (loop_at (candidates d) k)))
          (λ e. s.v j k hj hk n ((is_at taken s.set j k hj hk).0 e));
    }

    pub in_words : IsSolid d (candidates d) taken turned six → Solid d (candidates d) taken turned six
    in_words s = record {
      set = s.some;
      within = s.within;
      i = s.i;
      ii = s.ii;
      iii = s.iii;
      iv = s.iv;
      v = λ j k hj hk n. is_off (is_at taken s.some j k hj hk) (s.v j k hj hk n);
    }

  pub every-words : (es : List Entry) → EverySolidOnce d (candidates d) es → Every d (candidates d) es
  every-words es l = record {
    each = λ i h. in_words (l.each i h);
    there = λ taken turned six s. l.there (of_words s);
    once = l.once;
  }

  pub words-every : (es : List Entry) → Every d (candidates d) es → EverySolidOnce d (candidates d) es
  words-every es l = record {
    each = λ i h. of_words (l.each i h);
    there = λ {taken} {turned} {six} s. l.there taken turned six (in_words s);
    once = l.once;
  }

  pub names_words : {fs : List Loop} → NamesSolid d (candidates d) fs → NamesOne d (candidates d) fs
  names_words w = record { taken = w.taken; turned = w.turned; six = w.six; solid = in_words w.solid; run = w.turned; names = w.names; directions = λ k. refl }

  abbrev pub words_names : {fs : List Loop} → NamesOne d (candidates d) fs → NamesSolid d (candidates d) fs
  words_names w = record { taken = w.taken; turned = w.turned; six = w.six; solid = of_words w.solid; names = names_to d (candidates d) w.taken w.run w.turned w.directions w.names }

-- ---- cover

is_not_outside : (w : Where) → Is (not (is_outside w)) ((w ≡ Inside) ⊎ (w ≡ Border))
unfolding is_outside
is_not_outside Outside = (λ e. let z : ◌≡◌ {A = ℕ} 0 1 = cc in absurd (omega arith), go)
  where
    go : (Outside ≡ Inside) ⊎ (Outside ≡ Border) → false ≡ true
    go (inl e) = let z : ◌≡◌ {A = ℕ} 0 1 = cc in absurd (omega arith)
    go (inr e) = let z : ◌≡◌ {A = ℕ} 0 1 = cc in absurd (omega arith)
is_not_outside Border = (λ e. inr refl, λ e. refl)
is_not_outside Inside = (λ e. inl refl, λ e. refl)

pub is_covers : (g h : Polygon) → Is (covers g h) (Covers g h)
unfolding covers
is_covers g h =
    is_to (one_plane g h && all fits (sides midpoint h)) (is_and (one_plane g h) (all fits (sides midpoint h)) (is_plane g h) is_middle)
    (λ p. record { plane = p.0; middle = p.1 }) (λ c. (c.plane, c.middle))
  where
    fits : Ratio → Bool
    fits m = not (is_outside (lies m g))

    one : Ratio
    one = over origin (pos 1)

    middle : ℕ → Ratio
    middle i = midpoint (corner_at h i) (corner_at h (i + 1))

    is_middle : Is (all fits (sides midpoint h)) ((i : ℕ) → i < length h → (lies (middle i) g ≡ Inside) ⊎ (lies (middle i) g ≡ Border))
    is_middle = (
      λ e i l.
          (is_not_outside (lies (middle i) g)).0
          (subst (λ (m : Ratio). fits m ≡ true) (sides-at midpoint h i one origin l)
          (all_yes fits one (sides midpoint h) e i (omega (arith, sides_length midpoint h)))),
      λ f. all_is fits one (sides midpoint h) (λ i l.
          let k : i < length h = omega (arith, sides_length midpoint h) in
          subst (λ (m : Ratio). fits m ≡ true) (sym (sides-at midpoint h i one origin k)) ((is_not_outside (lies (middle i) g)).1 (f i k))),
    )

-- ---- loops and candidates, of a drawing that passes 11

module _ (d : Wire) (apart : same_place d ≡ none) where
  pub loop_words : (q : Loop) → IsLoop d q → LoopOf d q
  loop_words q l = record { path = loop_path d apart q l; normal = loop_normal d q l }

  pub words_loop : (q : Loop) → LoopOf d q → IsLoop d q
  words_loop q l = subst (IsLoop d) (on_normal q l.normal q (same_refl q)) (normal_loop d apart q l.path)

  pub candidate_words : (q : Loop) → IsCandidate d q → CandidateOf d q
  candidate_words q c = record {
    loop = loop_words q c.loop;
    bare = λ r l n. is_off (is_covers (polygon d q) (polygon d r)) (c.bare r (words_loop r l) n);
  }

  pub words_candidate : (q : Loop) → CandidateOf d q → IsCandidate d q
  words_candidate q c = record {
    loop = words_loop q c.loop;
    bare =
        λ r l n. never_true (covers (polygon d q) (polygon d r))
        (λ e. c.bare r (loop_words r l) n ((is_covers (polygon d q) (polygon d r)).0 e));
  }
