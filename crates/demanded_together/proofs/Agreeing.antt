-- Demand 3, of a report and the lists that are checked; and each reported solid, sent as a list, is accepted.
use mathlib.Core.Bool.{Bool, true}
use mathlib.Core.Logic.{inl, inr}
use mathlib.Core.List.{List, [], ◌∷◌, flat_map}
use mathlib.Core.Path.{◌≡◌, refl, sym, ap, ◌∙◌}
use Prim.Native.Nat.{ℕ, ◌+◌, ◌*◌, ◌≤◌, ◌<◌, ◌/◌}
use native.Mathlib.Omega.{arith}
use lib.IntN.{ℤ}
use lib.ListN.{length, take, drop, length-append}
use lib.Seq.{take_at}
use Rattle.paper.specs.Verdict.{list_edition}
use Rattle.paper.specs.Format.{bytes_for, edition_for, lent_edition}
use Rattle.paper.specs.Loops.{Loop}
use Rattle.paper.specs.FaceList.{bits_of, encode_faces, solid_faces, sent_of, sent_room, list_room}
use Rattle.paper.specs.declared.Format.{Format}
use Rattle.paper.specs.declared.Conversion.{Conversion}
use Rattle.paper.specs.declared.Conversion.TheVariants as Conversion
use Rattle.paper.specs.declared.Refusal.{Refusal}
use Rattle.std.specs.Prelude.{Ok, Err, is_ok}
use Rattle.paper.specs.Refusals.{ListAccepted, Verdict, Written}
use Rattle.convert.specs.Converts.{at_exit}
use Rattle.means_report.specs.Listed.{Entry, entry_at, words_of}
use Rattle.means_report.specs.Report.{solid_count}
use Rattle.demands.specs.Input.{Input, lent, drawing, converted, checked}
use Rattle.demands.specs.Demand1.{WithinLimit}
use Rattle.demands.specs.Demand3.{Report}
use Rattle.demands.specs.Shells.{NoList}
use Rattle.demands.specs.Table.{of_written}
use Rattle.demands.proofs.Demand3.{demand3}
use Rattle.means_sheets.proofs.FaceLists.Room.{length_encoded}
use Rattle.demanded.specs.Demanded.{Converts, by_sender, Stands, Sends}
use Rattle.demanded.proofs.Demanding as Demanding
use Rattle.demanded_together.specs.Together.{Lists, Agrees, AcceptedAsSent}
use Rattle.paper_laws.proofs.Record.{entry_length}
use Rattle.paper_laws.proofs.Editions.{wire_edition}

-- three words for each solid
words_long : (es : List Entry) → length (flat_map words_of es) ≡ 3 * length es
unfolding flat_map
words_long [] = refl
words_long (e ∷ es) =
    length-append (words_of e) (flat_map words_of es) ∙ omega (arith, words_long es, entry_length e.taken e.turned e.six)

module _ (x : Input) (limit : ℕ) (faces₀ solids₀ : List ℕ) {c : Conversion} {faces solids : List ℕ}
    (e : at_exit c faces solids ≡ converted x limit faces₀ solids₀) where
  made : Converts x limit faces₀ solids₀ c faces solids
  made = Demanding.converts x limit faces₀ solids₀ e

  -- ---- two lists

  module _ (list other : List ℕ) {v w : Verdict} (is : v ≡ checked x list) (is_other : w ≡ checked x other) where
    lists : 0 < solid_count c → Lists x limit faces₀ solids₀ list other faces solids (record { conversion = c; first = v; second = w })
    lists h =
        let r = made.reports h in
        let y = Demanding.checks x list is in
        let ok = (made.passed h).0 in
        record {
          es = r.es;
          n = r.n;
          all = r.all;
          words = r.words;
          exactly = (
            λ a. (((y.exactly ok).0 a).0, r.other list (sym is ∙ a)),
            λ p. (y.exactly ok).1 (
              p.0,
              record {
                taken = (entry_at r.es p.1.0).taken;
                turned = (entry_at r.es p.1.0).turned;
                six = (entry_at r.es p.1.0).six;
                solid = r.all.each p.1.0 p.1.1;
                run = (entry_at r.es p.1.0).turned;
                names = p.1.2;
                directions = λ k. refl;
              },
            ),
          );
          same = λ n a b. r.same n list other (sym is ∙ a) (sym is_other ∙ b);
        }

    pub agrees : Agrees x limit faces₀ solids₀ list other faces solids (record { conversion = c; first = v; second = w })
    agrees = record {
      converts = made;
      checks = Demanding.checks x list is;
      checks_other = Demanding.checks x other is_other;
      lists = lists;
      spoiled = λ ok a s. let q = (demand3 x ok).refused list other (sym is ∙ a) s in (q.0, is_other ∙ q.1);
    }

  -- ---- a solid of the report

  few : (a : Conversion) → WithinLimit limit a → solid_count a ≤ 8
  few (Conversion.One l n work six) w = omega arith
  few (Conversion.Several l n work k) w = w.2
  few (Conversion.NoSolid l n work) w = omega arith
  few (Conversion.Many l n work) w = omega arith
  few (Conversion.TooLong l n work) w = omega arith
  few (Conversion.Refused f) w = omega arith

  module _ (i : ℕ) (there : i < solid_count c) where
    report : Report x solids₀ (at_exit c faces solids)
    report = made.reports (omega (arith, there))

    -- its words are in the room
    pub in_room : (i < 8) × (3 * i ≤ length solids)
    in_room = (
      omega (arith, there, few c made.within),
      omega (
        arith,
        there,
        report.n,
        words_long report.es,
        ap length report.words,
        length-append (flat_map words_of report.es) (drop (3 * length report.es) solids₀),
      ),
    )

    abbrev fs : List Loop
    fs = solid_faces faces (drop (3 * i) solids)

    inside : i < length report.es
    inside = omega (arith, there, report.n)

    taken : (NoList fs → ⊥) × (bytes_for (bits_of (list_edition (drawing x)) fs) ≤ list_room)
    taken = report.sent i inside fs (report.some i inside)

    pub accepted : {b : Bool} → AcceptedAsSent x fs b → b ≡ true
    accepted h = h taken.0 taken.1 (report.each i inside fs (report.some i inside))

-- ---- faces that are sent in room for any list

pub sent-fits : (v e : ℕ) (fs : List Loop) (room₀ : List ℕ) {n : ℕ} → Ok n ≡ sent_of (edition_for v e) fs room₀
    → n ≤ length room₀
sent-fits v e fs room₀ {n} is = go (Demanding.sends v e fs room₀ is refl)
  where
    f : Format
    f = edition_for v e

    go : Sends f fs room₀ (Ok n) (sent_room f fs room₀) → n ≤ length room₀
    go h = omega (arith, h.first.1.0 0 (omega arith), (h.sent n refl).size, length_encoded f fs room₀)

module _ (xyz : List ℤ) (ends : List ℕ) (fs : List Loop) (room₀ : List ℕ) (long : length room₀ ≡ list_room) where
  abbrev x : Input
  x = lent xyz ends

  abbrev f : Format
  f = lent_edition xyz ends

  -- the drawing's own edition
  same : list_edition (drawing x) ≡ f
  same = wire_edition xyz ends

  -- what can be sent is not refused
  pub unsent : {r : Refusal} {b : Bool} → Err r ≡ sent_of f fs room₀ → AcceptedAsSent x fs b
  unsent {r} {b} q can fits ok = absurd (go (Demanding.sends (length xyz / 3) (length ends / 2) fs room₀ q refl).first)
    where
      go : by_sender f fs room₀ (of_written (Err r)) → ⊥
      go (inl p) = can p.1.1
      go (inr (p, inl q)) = omega (arith, q.1.1, fits, long, ap (λ (g : Format). bytes_for (bits_of g fs)) same)
      go (inr (p, inr q)) = q.1

  module _ {n : ℕ} {room : List ℕ} (q : Ok n ≡ sent_of f fs room₀) (p : room ≡ sent_room f fs room₀) where
    stands : Stands (encode_faces f fs) room₀ n room
    stands = (Demanding.sends (length xyz / 3) (length ends / 2) fs room₀ q p).sent n refl

    list_is : take n room ≡ encode_faces (list_edition (drawing x)) fs
    list_is =
        ap (take n) stands.there ∙ take_at (encode_faces f fs) (drop n room₀) n (sym stands.size)
        ∙ ap (λ (g : Format). encode_faces g fs) (sym same)

    -- and the check accepts what was sent, where it accepts the list of these faces
    pub sent_so : {v : Verdict} {b : Bool} → v ≡ checked x (take n room) → b ≡ is_ok v → AcceptedAsSent x fs b
    sent_so e i can fits ok = i ∙ ap (λ (v : Verdict). is_ok v) (e ∙ ap (checked x) list_is ∙ ok)
