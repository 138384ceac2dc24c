-- What a search for a key finds.
use Rattle.std.specs.Prelude.{◌≡◌, ℕ, ◌<◌, Bool, true, false, ◌&&◌, Option, Some, None}
use Rattle.rules.specs.Numbers.{place_count}
use Rattle.rules.specs.Places.{same_octets}
use Rattle.rules.specs.declared.Key.{Key}
use Rattle.table.specs.declared.Search.{Search}
use Rattle.table.specs.declared.Search.TheVariants.{Open, Vacant, Nowhere}

-- two keys' octets of addresses
abbrev pub same_addresses : Key → Key → Bool
same_addresses a b = same_octets a.origin.octets b.origin.octets && same_octets a.destination.octets b.destination.octets

-- the place that a search says, the key's own or a free one; the first one stands for none
abbrev pub place_in : Search → ℕ
place_in (Open at) = at
place_in (Vacant at) = at
place_in Nowhere = 0

-- whether the key is open there, and where it is open
abbrev pub is_found : Search → Bool
is_found (Open at) = true
is_found (Vacant at) = false
is_found Nowhere = false

abbrev pub open_in : Search → Option ℕ
open_in (Open at) = Some at
open_in (Vacant at) = None
open_in Nowhere = None

-- whether it says none, and the free place that it says
abbrev pub is_nowhere : Search → Bool
is_nowhere (Open at) = false
is_nowhere (Vacant at) = false
is_nowhere Nowhere = true

abbrev pub vacant_in : Search → Option ℕ
vacant_in (Open at) = None
vacant_in (Vacant at) = Some at
vacant_in Nowhere = None

-- where a key is open, or else where a free place is
pub record Points (place vacant : Option ℕ) (r : Search) : Type 0 where
  pub inside : place_in r < place_count
  pub open_at : place ≡ open_in r
  pub free-at : is_found r ≡ false → vacant ≡ vacant_in r
