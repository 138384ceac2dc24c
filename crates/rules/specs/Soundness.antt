-- Section 'Refusal numbers', the paragraph 'Sound means'.
use Rattle.std.specs.Prelude.{ℕ, ◌+◌, Bool, not, ◌&&◌, ◌||◌, List, eqb, leb, ltb, drop}
use Rattle.rules.specs.General.{every, every_two}
use Rattle.rules.specs.Numbers.{timer_in_range, reference_most, instruction_most, segments_most, data_most, address_most, elapsed}
use Rattle.rules.specs.Registry.{kind_of, registry_sound}
use Rattle.rules.specs.Places.{same_key, is_open, is_free}
use Rattle.rules.specs.declared.Address.{Address}
use Rattle.rules.specs.declared.Entry.{Entry}
use Rattle.rules.specs.declared.Place.{Place}
use Rattle.rules.specs.declared.Table.{Table}

abbrev pub is_zero : ℕ → Bool
is_zero x = eqb x 0

-- address to 20, zero filled and empty for 1998
unfoldable pub address_sound : ℕ → Address → Bool
address_sound kind a =
    leb a.length address_most
    && every is_zero (drop a.length a.octets)
    && (not (eqb kind 1) || is_zero a.length)

-- all zero
abbrev pub address_zero : Address → Bool
address_zero a = is_zero a.length && every is_zero a.octets

-- each open place has a registered context, reference to 127, instruction to 3, remaining 1 to 9, at least one segment, segments plus remaining at
-- most 10, octets to 2,048, both addresses as above, age below T
unfoldable pub open_sound : List Entry → ℕ → ℕ → Place → Bool
open_sound registry timer clock p =
    not (eqb (kind_of registry p.key.context.0) 0)
    && leb p.key.reference.0 reference_most
    && leb p.instruction instruction_most
    && leb 1 p.remaining.0
    && leb p.remaining.0 9
    && leb 1 p.segments
    && leb (p.segments + p.remaining.0) segments_most
    && leb p.octets data_most
    && address_sound (kind_of registry p.key.context.0) p.key.origin
    && address_sound (kind_of registry p.key.context.0) p.key.destination
    && ltb (elapsed clock p.start) timer

-- free places are all zero
unfoldable pub free_sound : Place → Bool
free_sound p =
    is_zero p.key.association
    && is_zero p.key.context.0
    && is_zero p.key.reference.0
    && is_zero p.octets
    && is_zero p.start
    && is_zero p.instruction
    && is_zero p.remaining.0
    && is_zero p.segments
    && address_zero p.key.origin
    && address_zero p.key.destination

abbrev pub place_sound : List Entry → ℕ → ℕ → Place → Bool
place_sound registry timer clock p = (is_open p && open_sound registry timer clock p) || (is_free p && free_sound p)

-- no two open places share a key
abbrev pub places_apart : Place → Place → Bool
places_apart p q = not (is_open p && is_open q && same_key p.key q.key)

unfoldable pub sound : Table → Bool
sound t =
    timer_in_range t.timer
    && registry_sound t.registry
    && every (place_sound t.registry t.timer t.clock) t.places
    && every_two places_apart t.places
