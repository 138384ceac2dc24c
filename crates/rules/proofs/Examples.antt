-- M1 to M13 hold, by computing.
use mathlib.Core.Path.{refl}
use Rattle.octets.specs.Splice.{splice}
use Rattle.rules.specs.Numbers.{elapsed}
use Rattle.rules.specs.Layout.{fields_of, reading_checks, parameter_octets}
use Rattle.rules.specs.Records.{record_octets}
use Rattle.rules.specs.Places.{same_address, same_key}
use Rattle.rules.specs.Soundness.{address_sound, open_sound, free_sound, sound}
use Rattle.rules.specs.Receiving.{line_of, effect_of}
use Rattle.rules.specs.Sweep.{sweep}
use Rattle.rules.specs.Summary.{row_count, total_count, empty_summary, summary_sound, fits, segment_sums}
use Rattle.rules.specs.Arrival.{whole_checks, part_checks, both_checks, arrival}
use Rattle.rules.specs.Delivery.{delivery}
use Rattle.rules.specs.Opening.{opening}
use Rattle.rules.specs.Sending.{segment_octets, sending_checks, sending}
use Rattle.rules.specs.Examples.{Hold}

pub hold : Hold
unfolding splice elapsed fields_of reading_checks record_octets same_key open_sound free_sound sound line_of effect_of sweep row_count total_count empty_summary summary_sound fits segment_sums whole_checks part_checks both_checks arrival delivery opening parameter_octets segment_octets sending_checks sending same_address address_sound
hold = refl
