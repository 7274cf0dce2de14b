-- The tests in order: the first that fails is the answer.
use mathlib.Core.Bool.{Bool, true, false}
use mathlib.Core.List.{List}
use mathlib.Core.Path.{◌≡◌, sym, ◌∙◌, subst}
use Prim.Native.Nat.{ℕ, ◌<◌}
use lib.Dec.{eqb}
use borrow.Author.Tests.{eq-eqb, ne_eqb}
use Rattle.sets.specs.Word.{count, less}
use Rattle.sets.specs.Kinds.{Lowest, Minus}
use Rattle.sets.specs.Sets.{wides, Wide}
use Rattle.sets.proofs.Sets.{wides_laws}
use Rattle.paper.specs.Solids.{Tables, oriented}
use Rattle.fast_leaf.specs.Faces.{from_face, from_lowest_face, clear_on, judged_by_faces}
use Rattle.walk_tables.specs.Words.{WalkTables, HeldTables}
use Rattle.walk_state.proofs.Lowest.{some_in, none_in}
use Rattle.walk_leaf.specs.Faces.{GoingIs, Edges, FromFace}
use Rattle.walk_leaf.specs.Tests.{OrientedIs, ClearIs, WeighedIs, Selects, Judges}
use Rattle.walk_leaf.specs.declared.faces.Going.{Going}
use Rattle.std.specs.Prelude.{None, Option}
use Rattle.walk_leaf.specs.declared.Judged.{Judged}

module _ (tables : WalkTables) (m : ℕ) (taken : Wide) where
  pub judge_none : wides.size taken ≡ 0 → Judges tables m taken None
  unfolding judged_by_faces
  judge_none z t a h s i = rw (eq-eqb (count a) 0 (none_in wides_laws i z)) tt

  module _ (p : 0 < wides.size taken) {start : ℕ} (low : Lowest wides taken start) {g : Going}
      (f : FromFace tables.on tables.up tables.sides taken start g) {far : Wide} (d : Minus wides taken g.reached far) where
    some : {a : List Bool} → wides.Is taken a → eqb (count a) 0 ≡ false
    some {a} i = ne_eqb (count a) 0 (some_in wides_laws i p)

    edges : {t : Tables} {a : List Bool} → HeldTables tables t → Selects t m a → Edges tables.on tables.up t.masks t.ups
    edges h s = record { on_are = h.on_are; up_are = h.up_are; as_many = s.ups_are ∙ sym s.masks_are }

    going : {t : Tables} {a : List Bool} → HeldTables tables t → Selects t m a → wides.Is taken a
        → GoingIs g (from_lowest_face t.masks t.ups a)
    going {t} {a} h s i =
        subst (λ (j : ℕ). GoingIs g (from_face t.masks t.ups a j)) (low.same a i)
        (f t.masks t.ups a (edges h s) h.sides_are i (low.there a i))

    far_is : {t : Tables} {a : List Bool} → HeldTables tables t → Selects t m a → wides.Is taken a
        → wides.Is far (less a (from_lowest_face t.masks t.ups a).reached)
    far_is {t} {a} h s i = d.same a (from_lowest_face t.masks t.ups a).reached i (going h s i).reached_is

    pub judge_apart : 0 < wides.size far → Judges tables m taken None
    unfolding judged_by_faces
    judge_apart q t a h s i =
        let r = (from_lowest_face t.masks t.ups a).reached in
        rw (some i, ne_eqb (count (less a r)) 0 (some_in wides_laws (far_is h s i) q)) tt

    module _ (z : wides.size far ≡ 0) {b : Bool} (o : OrientedIs tables.on tables.up m taken g.turned b) where
      all : {t : Tables} {a : List Bool} → HeldTables tables t → Selects t m a → wides.Is taken a
          → eqb (count (less a (from_lowest_face t.masks t.ups a).reached)) 0 ≡ true
      all {t} {a} h s i = eq-eqb (count (less a (from_lowest_face t.masks t.ups a).reached)) 0 (none_in wides_laws (far_is h s i) z)

      ways : {t : Tables} {a : List Bool} → HeldTables tables t → Selects t m a → wides.Is taken a
          → oriented t.masks t.ups a (from_lowest_face t.masks t.ups a).turned ≡ b
      ways {t} {a} h s i =
          sym (o t.masks t.ups a (from_lowest_face t.masks t.ups a).turned (edges h s) s.masks_are i (going h s i).turned_is)

      pub judge_ways : b ≡ false → Judges tables m taken None
      unfolding judged_by_faces
      judge_ways e t a h s i = rw (some i, all h s i, ways h s i ∙ e) tt

      module _ (e : b ≡ true) {c : Bool} (k : ClearIs tables.clashes taken c) where
        clears : {t : Tables} {a : List Bool} → HeldTables tables t → Selects t m a → wides.Is taken a
            → clear_on (count a) t.clashes a a ≡ c
        clears {t} {a} h s i = sym (k t.clashes a h.clashes_are s.in_clashes i)

        pub judge_clash : c ≡ false → Judges tables m taken None
        unfolding judged_by_faces
        judge_clash q t a h s i = rw (some i, all h s i, ways h s i ∙ e, clears h s i ∙ q) tt

        pub judge_weighed : c ≡ true → (r : Option Judged) → WeighedIs tables.sixes taken g.turned r → Judges tables m taken r
        unfolding judged_by_faces
        judge_weighed q r w t a h s i =
            rw (some i, all h s i, ways h s i ∙ e, clears h s i ∙ q)
            (w t.sixes a (from_lowest_face t.masks t.ups a).turned h.sixes_are s.in_sixes i (going h s i).turned_is)
