-- One edge settled by how many are taken on it, M, and how many are undecided, L: one law for each way through the code.
use mathlib.Core.Bool.{Bool}
use mathlib.Core.List.{List, []}
use mathlib.Core.Path.{◌≡◌, sym, ap, ◌∙◌, subst}
use Prim.Native.Nat.{◌+◌, ◌<◌}
use native.Mathlib.Omega.{arith}
use Rattle.sets.specs.Word.{count, both, either}
use Rattle.sets.specs.Kinds.{Joint, Minus}
use Rattle.sets.specs.Sets.{wides, Wide}
use Rattle.sets.proofs.Digits.{less_nil}
use Rattle.sets.proofs.Sets.{wides_laws}
use Rattle.paper.specs.Conversion.{takens}
use Rattle.paper.specs.Walk.{Status}
use Rattle.means_walk.specs.Lowest.{opens}
use Rattle.fast_sweeps.proofs.Counts.{M, L, count_split, many, few, two, exactly, more}
use Rattle.walk_state.specs.State.{StateIs, DecidedAll, Fewer, SettledOn}
use Rattle.walk_state.specs.declared.State.{State}
use Rattle.walk_state.specs.declared.Change.{Change}
use Rattle.std.specs.Prelude.{Some, None}

-- those decided and those left are all that were undecided
module _ (s : State) (mask : Wide) (hm : wides_laws.Fits mask) (hu : wides_laws.Fits s.undecided) {free : Wide}
    (f : Joint wides mask s.undecided free both) {u : Wide} (d : Minus wides s.undecided free u) where
  split : wides.size u + wides.size free ≡ wides.size s.undecided
  split =
      let a = wides_laws.digits_of mask in
      let b = wides_laws.digits_of s.undecided in
      let j = wides_laws.is_digits s.undecided hu in
      let i = f a b (wides_laws.is_digits mask hm) j in
      omega (arith, wides_laws.size_is j, wides_laws.size_is i, wides_laws.size_is (d.same b (both a b) j i), count_split b a)

  pub fewer_by : (t : Wide) → Fewer (record { state = record { taken = t; undecided = u }; decided = free }) s.undecided
  fewer_by t = record { none = λ z. omega (arith, split); some = λ p. omega (arith, split) }

-- none is decided
module _ {x z u : Wide} (w : wides.Is z []) (d : Minus wides x z u) where
  same_left : (a : List Bool) → wides.Is x a → wides.Is u a
  same_left a i = subst (wides.Is u) (less_nil a) (d.same a [] i w)

  none_fewer : wides_laws.Fits x → wides.size u ≡ wides.size x
  none_fewer h = let i = wides_laws.is_digits x h in wides_laws.size_is (same_left (wides_laws.digits_of x) i)
      ∙ sym (wides_laws.size_is i)

-- `on` are those taken on the edge, `free` those undecided
module _ (s : State) (mask : Wide) {on free : Wide} (t : Joint wides mask s.taken on both)
    (f : Joint wides mask s.undecided free both) where
  module _ (a : List Bool) (st : List Status) (i : wides.Is mask a) (h : StateIs s st) where
    free_is : wides.Is free (both a (opens st))
    free_is = f a (opens st) i h.leaves

    is_m : wides.size on ≡ M a st
    is_m = wides_laws.size_is (t a (takens st) i h.takes)

    is_l : wides.size free ≡ L a st
    is_l = wides_laws.size_is free_is

  -- what holds of the change as the code makes it
  stays : {set taken : Wide} {c : Change} (d : DecidedAll s set taken c)
      → SettledOn s mask (Some (record { state = record { taken = taken; undecided = d.left }; decided = set }))
      → SettledOn s mask (Some c)
  stays d r = subst (λ (c : Change). SettledOn s mask (Some c)) (sym d.is) r

  pub edge_many : 2 < wides.size on → SettledOn s mask None
  edge_many p = record { fewer = tt; same = λ a st i h. many a st (omega (arith, is_m a st i h)) }

  pub edge_few : wides.size on + wides.size free < 2 → SettledOn s mask None
  edge_few p = record { fewer = tt; same = λ a st i h. few a st (omega (arith, is_m a st i h, is_l a st i h)) }

  pub edge_two : {c : Change} → DecidedAll s free s.taken c → wides.size on ≡ 2 → wides_laws.Fits mask
      → wides_laws.Fits s.undecided
      → SettledOn s mask (Some c)
  edge_two d e hm hu = stays d (record {
    fewer = fewer_by s mask hm hu f d.minus s.taken;
    same = λ a st i h.
        let q = two a st (sym (is_m a st i h) ∙ e) in
        let r = free_is a st i h in
        record {
          calm = q.calm;
          holds = record {
            takes = subst (wides.Is s.taken) (sym q.takes) h.takes;
            leaves = subst (wides.Is d.left) (sym q.leaves) (d.minus.same (opens st) (both a (opens st)) h.leaves r);
          };
          decides = subst (wides.Is free) (sym q.decided) r;
        };
  })

  pub edge-exactly : {t' : Wide} {c : Change} → Joint wides s.taken free t' either → DecidedAll s free t' c → wides.size on < 2
      → wides.size on + wides.size free ≡ 2 → wides_laws.Fits mask → wides_laws.Fits s.undecided → SettledOn s mask (Some c)
  edge-exactly {t'} j d p e hm hu = stays d (record {
    fewer = fewer_by s mask hm hu f d.minus t';
    same = λ a st i h.
        let q = exactly a st (omega (arith, is_m a st i h)) (omega (arith, is_m a st i h, is_l a st i h)) in
        let r = free_is a st i h in
        record {
          calm = q.calm;
          holds = record {
            takes = subst (wides.Is t') (sym q.takes) (j (takens st) (both a (opens st)) h.takes r);
            leaves = subst (wides.Is d.left) (sym q.leaves) (d.minus.same (opens st) (both a (opens st)) h.leaves r);
          };
          decides = subst (wides.Is free) (sym q.decided) r;
        };
  })

  pub edge_more : {z : Wide} {c : Change} → wides.Is z [] → DecidedAll s z s.taken c → wides.size on < 2
      → 2 < wides.size on + wides.size free
      → wides_laws.Fits s.undecided → SettledOn s mask (Some c)
  unfolding count
  edge_more {z} w d p e hu = stays d (record {
    fewer = record { none = λ q. none_fewer w d.minus hu; some = λ q. omega (arith, wides_laws.size_is w) };
    same = λ a st i h.
        let q = more a st (omega (arith, is_m a st i h)) (omega (arith, is_m a st i h, is_l a st i h)) in
        record {
          calm = q.calm;
          holds = record {
            takes = subst (wides.Is s.taken) (ap takens (sym q.still)) h.takes;
            leaves = subst (wides.Is d.left) (ap opens (sym q.still)) (same_left w d.minus (opens st) h.leaves);
          };
          decides = subst (wides.Is z) (sym q.decided) w;
        };
  })
