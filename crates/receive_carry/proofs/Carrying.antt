-- Each line's verdict, performed, leaves what the rule says of that line.
use Rattle.std.specs.Prelude.{if◌then◌else◌, Some}
use Prim.Native.Nat.{ℕ, ◌+◌}
use mathlib.Core.Path.{◌≡◌, refl}
use mathlib.Core.Bool.{true}
use mathlib.Core.List.{List}
use lib.ListN.{length}
use Rattle.rules.specs.Records.{delivered, lost}
use Rattle.rules.specs.Places.{free_place}
use Rattle.rules.specs.Receiving.{longer, effect_of}
use Rattle.rules.specs.declared.Table.{Table}
use Rattle.rules.specs.declared.Part.TheVariants.{OfParameter, OfStore}
use Rattle.rules.specs.declared.Line.{Line}
use Rattle.rules.specs.declared.Line.TheVariants.{Unsegmented, Broken, Restart, Start, Final, Next}
use Rattle.rules.specs.declared.Decision.TheVariants.{Saved, Delivered, Lost}
use Rattle.receive_perform.specs.Performing.{Leads}
use Rattle.receive_perform.specs.declared.Verdict.{Verdict}
use Rattle.table.specs.Seeking.{place_in, open_in, is_found}
use Rattle.receive_carry.specs.declared.judged.Judged.{Judged}
use Rattle.receive_carry.specs.Carried.{held_if, Holds, carried_at, taken_to, saving_from, telling_of, begun_by}
use Rattle.receive_carry.proofs.Stepping.{places-answer, kept, open-there, freed, instruction-is}

module _ (t : Table) (j : Judged) (holds : Holds t j) (store report octets : List ℕ) where
  abbrev Leading : Line → Verdict → Type 0
  Leading line v = Leads (carried_at line t store report j octets) t (place_in j.search) j.key v octets store report

  pub as-unsegmented : Leading Unsegmented (telling_of delivered 0 j.fields.heading.instruction 1 (length octets) (taken_to j.fields.information j.held (Delivered (OfParameter j.fields.information (length octets)))))
  unfolding carried_at effect_of
  as-unsegmented = record { answered = places-answer t _ _ (kept _ _ _ holds.1); stored = refl; reported = refl; made = refl }

  pub as-broken : (cause : ℕ)
      → Leading (Broken cause)
      (telling_of lost cause (if is_found j.search then j.held.instruction else j.fields.heading.instruction) ((held_if (is_found j.search) j.held).segments + 1) ((held_if (is_found j.search) j.held).octets + length octets)
      (taken_to j.fields.information (if is_found j.search then free_place else j.held) (Lost cause (open_in j.search))))
  unfolding carried_at effect_of
  as-broken cause =
      record {
        answered = places-answer t _ _ (freed t.places j.search j.held holds.1);
        stored = refl;
        reported = rw (instruction-is j.search j.fields.heading.instruction j.held);
        made = rw (instruction-is j.search j.fields.heading.instruction j.held);
      }

  pub as-restart : is_found j.search ≡ true
      → Leading Restart (telling_of lost 3 j.held.instruction j.held.segments j.held.octets (saving_from 0 (taken_to j.fields.information (begun_by j (length octets)) (Lost 3 (Some (place_in j.search))))))
  unfolding carried_at effect_of
  as-restart o = rw (o, open-there j.search o) (record { answered = places-answer t _ _ (rw holds.0); stored = refl; reported = refl; made = refl })

  pub as-start : Leading Start (saving_from 0 (taken_to j.fields.information (begun_by j (length octets)) (Saved (place_in j.search))))
  unfolding carried_at effect_of
  as-start = record { answered = places-answer t _ _ (rw holds.0); stored = refl; reported = refl; made = refl }

  pub as-final : is_found j.search ≡ true
      → Leading Final
      (telling_of delivered 0 j.held.instruction (j.held.segments + 1) (j.held.octets + length octets)
      (saving_from j.held.octets (taken_to j.fields.information free_place (Delivered (OfStore (place_in j.search) (j.held.octets + length octets))))))
  unfolding carried_at effect_of
  as-final o = rw (o, open-there j.search o) (record { answered = refl; stored = refl; reported = refl; made = refl })

  pub as-next : is_found j.search ≡ true
      → Leading Next (saving_from j.held.octets (taken_to j.fields.information (longer j.held j.key j.fields.heading (length octets)) (Saved (place_in j.search))))
  unfolding carried_at effect_of
  as-next o = rw (o, open-there j.search o) (record { answered = refl; stored = refl; reported = refl; made = refl })
