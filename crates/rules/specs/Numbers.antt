-- Section 'Numbers'.
use Rattle.std.specs.Prelude.{ℕ, ◌+◌, ◌*◌, ◌-◌, ◌%◌, ◌^◌, Bool, ◌&&◌, leb}

-- data 0 to 2,048 octets
abbrev pub data_most : ℕ
data_most = 2048

-- at most 10 segments in a sequence
abbrev pub segments_most : ℕ
segments_most = 10

-- one parameter 0 to 255 octets
abbrev pub parameter_most : ℕ
parameter_most = 255

-- a table of 16 places
abbrev pub place_count : ℕ
place_count = 16

-- each with 2,048 octets in the lent store: place p starts at 2,048 x p
abbrev pub stretch_length : ℕ
stretch_length = 2048

abbrev pub place_start : ℕ → ℕ
place_start p = stretch_length * p

-- store at least 32,768 octets
abbrev pub store_least : ℕ
store_least = 32768

-- at most 8 registered contexts, 1 to 16,383
abbrev pub entries_most : ℕ
entries_most = 8

abbrev pub context_in_range : ℕ → Bool
context_in_range x = leb 1 x && leb x 16383

-- timer T is 1 to 1,000,000 ticks
abbrev pub timer_in_range : ℕ → Bool
timer_in_range timer = leb 1 timer && leb timer 1000000

-- the clock is 32 bits and runs round: the new time less the old, modulo 2^32
unfoldable pub elapsed : ℕ → ℕ → ℕ
elapsed new old = (new + 2 ^ 32 - old) % 2 ^ 32

-- an address is 0 to 20 octets
abbrev pub address_most : ℕ
address_most = 20

-- a local reference is 0 to 127, an instruction 0 to 3
abbrev pub reference_most : ℕ
reference_most = 127

abbrev pub instruction_most : ℕ
instruction_most = 3
