-- The sweeps over marked edges. After each edge the sets stand for a state and for marks from which what is left of the whole sweeps ends
-- as it did from the first; and each edge passed leaves fewer undecided, or as many and fewer marks.
use mathlib.Core.Bool.{Bool}
use mathlib.Core.List.{List, []}
use mathlib.Core.Path.{◌≡◌, sym, ap, subst, ◌∙◌}
use Prim.Native.Nat.{ℕ, ◌+◌, ◌*◌, ◌≤◌, ◌<◌}
use native.Mathlib.Decide.{ℕ_discrete}
use native.Mathlib.Omega.{arith}
use lib.ListN.{get_or}
use Rattle.sets.specs.Word.{first}
use Rattle.sets.specs.Kinds.{Lowest, SetAt}
use Rattle.sets.specs.Sets.{wides, Wide}
use Rattle.sets.proofs.Sets.{wides_laws}
use Rattle.paper.specs.Numbers.{most_edges}
use Rattle.paper.specs.Walk.{Status, settle, Outcome, Broken, Stands}
use Rattle.fast_sweeps.specs.Worklist.{decided_on, next_ahead, next_later, turn_ahead, turn_later, SweepKept}
use Rattle.fast_sweeps.proofs.Marks.{length_ahead, length_later}
use Rattle.fast_sweeps.proofs.Remain.{finish, breaks_off, pass_decided, here_lt}
use Rattle.fast_sweeps.proofs.Work.{turn_loop}
use Rattle.walk_tables.specs.Words.{Masks, Sides}
use Rattle.walk_state.specs.State.{StateIs, SettledOn}
use Rattle.walk_state.specs.Sweeps.{mark_count, MarksAre, EdgePassed, SweptIs, SweptOut}
use Rattle.walk_state.specs.declared.State.{State}
use Rattle.walk_state.specs.declared.Change.{Change}
use Rattle.std.specs.Prelude.{Some, None}
use Rattle.walk_state.specs.declared.Marks.{Marks}
use Rattle.walk_state.proofs.Lowest.{some_in, none_in}

-- what the state and the marks stand for in the midst of the sweeps that end as o
pub record Midst (masks : List (List Bool)) (o : Outcome) (v : State) (m : Marks) : Type 0 where
  pub st : List Status
  pub ahead : List Bool
  pub later : List Bool
  pub holds : StateIs v st
  pub marks_are : MarksAre m ahead later
  pub loop : SweepKept masks o st ahead later

pub record Sweeping (on sides : List ℕ) (s : State) (changed : Wide) (v : State) (m : Marks) : Type 0 where
  pub fewer : wides.size v.undecided ≤ wides.size s.undecided
  pub same : (masks : List (List Bool)) (o : Outcome) (st : List Status) (marks : List Bool) → Masks on masks → Sides sides masks
      → StateIs s st → wides.Is changed marks → SweepKept masks o st marks [] → Midst masks o v m

-- each edge passed makes this smaller: at most 128 edges are marked, so that one undecided outweighs all marks
abbrev pub togo : State → Marks → ℕ
togo v m = wides.size v.undecided * (2 * most_edges + 1) + mark_count m

module _ (on sides : List ℕ) (s : State) (changed : Wide) where
  pub sweeping_start : {none : Wide} → wides.Is none [] → Sweeping on sides s changed s (record { ahead = changed; later = none })
  sweeping_start n = record {
    fewer = omega arith;
    same = λ masks o st marks i j h w p.
        record { st = st; ahead = marks; later = []; holds = h; marks_are = record { ahead_is = w; later_is = n }; loop = p };
  }

  module _ {v : State} {m : Marks} (g : Sweeping on sides s changed v m) where
    pub sweeping_end : wides.size m.ahead ≡ 0 → SweptOut on sides s changed (Some v)
    sweeping_end z = record {
      fewer = g.fewer;
      same = λ masks o st marks i j h w p.
          let r = g.same masks o st marks i j h w p in
          let n = none_in wides_laws r.marks_are.ahead_is z in
          let e : o ≡ Stands r.st = finish masks r.loop.remains n (r.loop.turned n) in
          subst (λ (y : Outcome). SweptIs y (Some v)) (sym e) r.holds;
    }

    module _ (n : 0 < wides.size m.ahead) {e : ℕ} (low : Lowest wides m.ahead e) {mask : Wide} (edge : SetAt wides on e mask) where
      mask_is : {masks : List (List Bool)} {o : Outcome} → Masks on masks → (r : Midst masks o v m)
          → wides.Is mask (get_or masks (first r.ahead) [])
      mask_is {masks} i r =
          let a = r.marks_are.ahead_is in
          let f = first r.ahead in
          let h : wides.Is (wides.at on f) (get_or masks f []) = i.at f (here_lt masks r.loop.remains (some_in wides_laws a n)) in
          let q : mask ≡ wides.at on f = edge.is ∙ ap (λ (k : ℕ). wides.at on k) (low.same r.ahead a) in
          subst (λ (x : Wide). wides.Is x (get_or masks f [])) (sym q) h

      pub sweeping_broken : SettledOn v mask None → SweptOut on sides s changed None
      sweeping_broken d = record {
        fewer = tt;
        same = λ masks o st marks i j h w p.
            let r = g.same masks o st marks i j h w p in
            let c = some_in wides_laws r.marks_are.ahead_is n in
            let b : o ≡ Broken
            = breaks_off masks r.loop.remains c (d.same (get_or masks (first r.ahead) []) r.st (mask_is i r) r.holds) in
            subst (λ (y : Outcome). SweptIs y None) (sym b) tt;
      }

      module _ {c : Change} (d : SettledOn v mask (Some c)) {q : Marks} (t : EdgePassed sides m c.decided q) where
        no_more : wides.size c.state.undecided ≤ wides.size v.undecided
        no_more = go (ℕ_discrete (wides.size c.decided) 0)
          where
            go : Dec (wides.size c.decided ≡ 0) → wides.size c.state.undecided ≤ wides.size v.undecided
            go (yes z) = omega (arith, d.fewer.none z)
            go (no z) = omega (arith, d.fewer.some (omega (arith, z)))

        pub sweeping_less : togo c.state q < togo v m
        sweeping_less = go (ℕ_discrete (wides.size c.decided) 0)
          where
            go : Dec (wides.size c.decided ≡ 0) → togo c.state q < togo v m
            go (yes z) = omega (arith, d.fewer.none z, t.fewer z)
            go (no z) = omega (arith, d.fewer.some (omega (arith, z)), t.few)

        next : {masks : List (List Bool)} {o : Outcome} → Masks on masks → Sides sides masks → Midst masks o v m
            → Midst masks o c.state q
        next {masks} i j r =
            let b = some_in wides_laws r.marks_are.ahead_is n in
            let k : List Bool = get_or masks (first r.ahead) [] in
            let y = d.same k r.st (mask_is i r) r.holds in
            let f : List Bool = decided_on k r.st in
            let a : List Bool = next_ahead masks f r.ahead in
            let l : List Bool = next_later masks f r.ahead r.later in
            record {
              st = settle k r.st;
              ahead = turn_ahead a l;
              later = turn_later a l;
              holds = y.holds;
              marks_are = t.same masks f r.ahead r.later j y.decides r.marks_are;
              loop =
                  turn_loop masks a l (pass_decided masks r.loop.remains b y.calm)
                  (length_ahead masks f r.ahead r.loop.short_ahead)
                  (length_later masks f r.ahead r.later r.loop.short_later);
            }

        pub sweeping_more : Sweeping on sides s changed c.state q
        sweeping_more = record {
          fewer = omega (arith, g.fewer, no_more);
          same = λ masks o st marks i j h w p. next i j (g.same masks o st marks i j h w p);
        }
