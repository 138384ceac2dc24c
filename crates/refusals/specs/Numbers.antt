-- The numbers of the refusals, as document 01 and its requests give them.
use Rattle.std.specs.Prelude.{ℕ, Result, Ok, Err}
use Rattle.refusals.specs.declared.Refusal.{Refusal}
use Rattle.refusals.specs.declared.Refusal.TheVariants.{Unsound, StoreShort, ReportShort, ParameterLong, ParameterCut, OctetGoesOn, SequenceOctet, ContextUnknown, AddressLong, NoPlaceFree, RegistryBad, TimerBad, StepBack, DataLong, AddressUnwanted, ReferenceLarge, InstructionLarge, RoomBad, NoSuchSegment, AreaShort, NoRowUnused, TotalLarge, ContextPadded}

abbrev pub number_of : Refusal → ℕ
number_of Unsound = 1
number_of StoreShort = 2
number_of ReportShort = 3
number_of ParameterLong = 4
number_of ParameterCut = 5
number_of OctetGoesOn = 6
number_of SequenceOctet = 7
number_of ContextUnknown = 8
number_of AddressLong = 9
number_of NoPlaceFree = 10
number_of RegistryBad = 11
number_of TimerBad = 12
number_of StepBack = 13
number_of DataLong = 14
number_of AddressUnwanted = 15
number_of ReferenceLarge = 16
number_of InstructionLarge = 17
number_of RoomBad = 18
number_of NoSuchSegment = 19
number_of AreaShort = 20
number_of NoRowUnused = 21
number_of TotalLarge = 22
number_of ContextPadded = 23

-- what a judgement comes to: its refusal's number, and 0 where it does not refuse
abbrev pub number_if : {A : Type 0} → Result A Refusal → ℕ
number_if (Ok a) = 0
number_if (Err r) = number_of r

-- a judgement as document 01 tells it: by its refusal's number
abbrev pub in_numbers : {A : Type 0} → Result A Refusal → Result A ℕ
in_numbers (Ok a) = Ok a
in_numbers (Err r) = Err (number_of r)
